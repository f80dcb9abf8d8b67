-- `flow_valid` meets its contract: each test decides, and at the end the two sets do. Assumes nothing.
use Rattle.std.proofs.Common.{rules}
use Rattle.state.specs.Valid.{all_of}
use Rattle.validity.specs.Scan.{flow_valid}
use Rattle.validity.proofs.flow_valid.Goals as goal

pub returns-then-f : goal.returns-then-f
unfolding flow_valid all_of
returns-then-f c = grind (rules)

pub returns-else-f : goal.returns-else-f
unfolding flow_valid all_of
returns-else-f c = grind (rules)
