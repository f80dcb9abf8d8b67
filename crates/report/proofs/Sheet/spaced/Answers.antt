-- A space, and then the digits. Assumes nothing.
use Rattle.report.specs.Sheet.{puts-append}
use Rattle.report.proofs.Sheet.spaced.Goals as goal

pub returns : goal.returns
returns c = puts-append c.byte.ensures c.decimal.ensures
