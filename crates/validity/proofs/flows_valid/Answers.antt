-- `flows_valid` meets its contract: the flow of the turn decides with those after it. Assumes nothing.
use Rattle.std.proofs.Common.{arith, rules, tests, drop_of_length-le}
use Rattle.std.proofs.lemmas.List.{drop_more}
use Rattle.state.specs.State.{no_flow}
use Rattle.validity.specs.Scan.{flows_valid}
use Rattle.validity.proofs.flows_valid.Goals as goal

pub returns-then-flow-last : goal.returns-then-flow-last
unfolding flows_valid
returns-then-flow-last c =
    let e = drop_more c.args.flows.now c.loop-flow.flow-index no_flow (omega arith) in grind (rules, tests, e)

pub loop-flow-preserved : goal.loop-flow-preserved
unfolding flows_valid
loop-flow-preserved c =
    let e = drop_more c.args.flows.now c.loop-flow.flow-index no_flow (omega arith) in grind (rules, tests, e)

pub returns : goal.returns
unfolding flows_valid
returns c =
    let e = drop_of_length-le c.args.flows.now {i = c.loop-flow.flow-index} (omega arith) in grind (rules, tests, e)
