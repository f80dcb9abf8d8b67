-- Invariant: after c turns the first c sets are their containers' own tags and the rest is as it was. Assumes nothing.
use Rattle.std.proofs.Common.{◌≡◌}
use Rattle.tagset.specs.Set.{single_of}
use Rattle.state.specs.State.{with_sets}
use Rattle.tagstore.proofs.store_own_tags.Given as goal

abbrev pub invariant-loop-c : goal.invariant-loop-c
invariant-loop-c l = l.words ≡ with_sets l.c single_of l.initial.words
