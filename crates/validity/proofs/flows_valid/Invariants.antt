-- `flows_valid` meets its contract. The loop's invariant: all flows are valid exactly if those left are, their numbers
-- above the last. Assumes nothing.
use Rattle.std.proofs.Common.{◌≡◌, drop}
use Rattle.validity.specs.Scan.{flows_valid}
use Rattle.validity.proofs.flows_valid.Given as goal

abbrev pub invariant-loop-flow : goal.invariant-loop-flow
invariant-loop-flow l =
    flows_valid l.header l.tags 0 l.flows ≡ flows_valid l.header l.tags l.last (drop l.flow-index l.flows)
