-- The five pieces one behind the other. Assumes nothing.
use Rattle.std.proofs.Common.{◌≤◌, arith, length}
use Rattle.decimal.specs.Decimal.{decimal_of}
use Rattle.decimal.proofs.Laws.{decimal-20}
use Rattle.tallytext.proofs.Pieces.{spaced-one}
use Rattle.report.specs.Sheet.{puts-append}
use Rattle.report.proofs.Sheet.pair.Goals as goal
use Rattle.report.proofs.Sheet.pair.Goals.{Start}

-- the numbers are short
few : (c : Start) → (length (decimal_of c.args.a) ≤ 20) × (length (decimal_of c.args.b) ≤ 20)
few c = (decimal-20 c.args.a c.ranges.a.fits, decimal-20 c.args.b c.ranges.b.fits)

pub word-requires-2 : goal.word-requires-2
word-requires-2 c = (omega (arith, few (goal.at.word-requires-2 c).Start), c.requires.2)

pub spaced-requires-2 : goal.spaced-requires-2
spaced-requires-2 c = omega (arith, few (goal.at.spaced-requires-2 c).Start)

pub byte-requires : goal.byte-requires
byte-requires c = omega (arith, few (goal.at.byte-requires c).Start)

pub returns : goal.returns
returns c =
    simp spaced-one
    (puts-append
    (puts-append (puts-append (puts-append c.word.ensures c.spaced.ensures) c.word-2.ensures) c.spaced-2.ensures)
    c.byte.ensures)
