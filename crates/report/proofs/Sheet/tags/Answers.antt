-- Invariant: the tags from this one on are left to be put, and the position went on by at most four a tag.
-- Assumes nothing.
use Rattle.std.proofs.Common.{sym, ◌∙◌, ◌∷◌, arith}
use Rattle.decimal.specs.Decimal.{decimal_of}
use Rattle.decimal.proofs.Laws.{decimal-3}
use Rattle.tallytext.specs.Text.{space, spaced, tags_rising}
use Rattle.tallytext.proofs.Pieces.{tag_in, tag-out, tags-end}
use Rattle.report.specs.Sheet.{puts-begun, puts-next, puts-ended}
use Rattle.report.proofs.Sheet.tags.Goals as goal
use Rattle.report.proofs.Sheet.tags.Goals.{then-contains, else-contains}

pub loop-tag-init : goal.loop-tag-init
loop-tag-init c =
    (puts-begun c.args.self.now (spaced (tags_rising c.args.set)), omega arith)

pub loop-tag-preserved : goal.loop-tag-preserved
loop-tag-preserved c =
    let set = c.args.set in
    let t = c.loop-tag.tag in
    let here = c.loop-tag.invariant.0 in
    let test = sym c.contains.ensures in
    elim c.if-contains.branch [
      | then-contains w ↦
          let put = rw w.from.ensures at w.spaced.ensures in
          rw w.self-is (
            puts-next here (space ∷ decimal_of t) (tag_in set t c.loop-tag-test.true (test ∙ w.if-contains.true)) put,
            omega (arith, c.loop-tag.invariant.1, put.put.after, decimal-3 t (omega (arith, c.loop-tag-test.true))),
          )
      | else-contains w ↦
          rw w.self-is (
            rw (tag-out set t c.loop-tag-test.true (test ∙ w.if-contains.false)) at here,
            omega (arith, c.loop-tag.invariant.1),
          )
    ]

pub returns : goal.returns
returns c =
    puts-ended c.loop-tag.invariant.0 (tags-end c.args.set c.loop-tag.tag (omega arith))
