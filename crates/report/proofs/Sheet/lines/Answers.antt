-- Invariant: the lines of the containers from this one on are left to be put, and a line took at most 1,032 bytes.
-- Assumes nothing.
use Rattle.std.proofs.Common.{◌≡◌, ap, ◌∙◌, List, ℕ, arith, get_or}
use Rattle.state.specs.State.{set_at}
use Rattle.tagstore.specs.Store.{load_of}
use Rattle.tagstore.specs.Laws.{load-whole}
use Rattle.tallytext.specs.Text.{line_of, lines_of}
use Rattle.tallytext.proofs.Pieces.{line-next, line-length, lines_end}
use Rattle.report.specs.Sheet.{Puts, puts-begun, puts-next, puts-ended}
use Rattle.report.proofs.Sheet.lines.Goals as goal

pub loop-c-init : goal.loop-c-init
loop-c-init c =
    (puts-begun c.args.self.now (lines_of c.args.order.now c.args.tags.now), omega arith)

pub loop-c-preserved : goal.loop-c-preserved
loop-c-preserved c =
    let i = c.loop-c.c-index in
    let cs : List ℕ = c.args.order.now in
    let ws : List ℕ = c.args.tags.now in
    let item : ℕ = get_or cs i 0 in
    let known = c.requires.1.1 i c.loop-c-test.true in
    let set : c.load_set.result ≡ set_at ws item =
    c.load_set.ensures ∙ ap (λ (k : ℕ). load_of ws k) c.from.ensures ∙ load-whole ws item known.1 in
    let line : List ℕ = line_of item (set_at ws item) in
    let put : Puts c.loop-c.self line c.line.new.self = rw set at c.line.ensures in (
      puts-next c.loop-c.invariant.0 line (line-next cs ws i c.loop-c-test.true) put,
      omega (arith, c.loop-c.invariant.1, put.put.after, line-length item (set_at ws item) (omega (arith, known.0))),
    )

pub returns : goal.returns
returns c =
    puts-ended c.loop-c.invariant.0 (lines_end c.args.order.now c.args.tags.now c.loop-c.c-index (omega arith))
