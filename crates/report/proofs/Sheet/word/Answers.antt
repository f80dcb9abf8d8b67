-- Invariant: the bytes from this one on are left to be put, and the position went on by one a byte. Assumes nothing.
use Rattle.std.proofs.Common.{◌≡◌, [], ◌∷◌, ◌++◌, ◌+◌, add-one, arith, get_or, drop, drop-cons}
use Rattle.report.specs.Sheet.{puts-begun, puts-next}
use Rattle.report.proofs.Sheet.word.Goals as goal

pub loop-b-init : goal.loop-b-init
loop-b-init c =
    (puts-begun c.args.self.now c.args.word.now, omega arith)

pub loop-b-preserved : goal.loop-b-preserved
loop-b-preserved c =
    let word = c.args.word.now in
    let i = c.loop-b.b-index in
    let rest : drop i word ≡ (get_or word i 0 ∷ []) ++ drop (i + 1) word =
    rw add-one (drop-cons word i 0 c.loop-b-test.true) in (
      puts-next c.loop-b.invariant.0 (get_or word i 0 ∷ []) rest c.byte.ensures,
      omega (arith, c.loop-b.invariant.1, c.byte.ensures.put.after),
    )
