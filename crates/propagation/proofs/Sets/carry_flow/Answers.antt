-- `carry_flow` meets its contract: a flow has one edge. Assumes nothing.
use native.Mathlib.Omega.{arith}
use Rattle.propagation.specs.Pass.{carried_all, new_in_all}
use Rattle.propagation.proofs.Sets.carry_flow.Goals as goal

pub returns : goal.returns
unfolding carried_all new_in_all
returns c =
    let carry = c.carry.ensures in
    record { same = carry.same; sets = carry.sets; gain = omega (arith, carry.gain); none = carry.none }
