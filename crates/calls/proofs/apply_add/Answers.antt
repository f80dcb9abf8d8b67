-- A set that is added stands in storage that has its place whole. Assumes nothing.
use Rattle.std.proofs.Common.{arith, ◌∙◌}
use Rattle.std.proofs.lemmas.Bool.Decides.{nat_tests}
use Rattle.tagstore.specs.Laws.{store-whole}
use Rattle.calls.specs.Unjudged.{apply_add_of}
use Rattle.outcome.specs.Outcome.{add_later, decided, adding}
use Rattle.calls.proofs.apply_add.Goals as goal

pub returns : goal.returns
unfolding apply_add_of add_later decided adding
returns c =
    λ tags flows.
    rw (c.store_set.ensures ∙ store-whole c.args.policies.now _ c.args.policy (omega arith)) (grind (arith, nat_tests))
