-- The four pieces one behind the other. Assumes nothing.
use Rattle.std.proofs.Common.{◌≤◌, arith, length}
use Rattle.decimal.specs.Decimal.{decimal_of}
use Rattle.decimal.proofs.Laws.{decimal-3}
use Rattle.tallytext.specs.Text.{spaced, line_of}
use Rattle.tallytext.proofs.Pieces.{size-length, tags-length}
use Rattle.report.specs.Sheet.{puts-append}
use Rattle.report.proofs.Sheet.line.Goals as goal
use Rattle.report.proofs.Sheet.line.Goals.{After-from-2}

-- the number and the size are short
few : (c : After-from-2) → (length (decimal_of c.from.result) ≤ 3) × (length (decimal_of c.from-2.result) ≤ 3)
few c = (
  rw c.from.ensures (decimal-3 c.args.container c.requires.1),
  rw (c.from-2.ensures, c.size.ensures) (size-length c.args.set),
)

pub spaced-requires : goal.spaced-requires
spaced-requires c = omega (arith, few (goal.at.spaced-requires c).After-from-2)

pub tags-requires : goal.tags-requires
tags-requires c = omega (arith, few (goal.at.tags-requires c).After-from-2)

pub byte-requires : goal.byte-requires
byte-requires c = omega (arith, few (goal.at.byte-requires c).After-from-2, tags-length c.args.set)

pub returns : goal.returns
unfolding line_of spaced
returns c =
    rw (c.from.ensures, c.from-2.ensures, c.size.ensures) at
    (puts-append (puts-append c.decimal.ensures (puts-append c.spaced.ensures c.tags.ensures)) c.byte.ensures)
