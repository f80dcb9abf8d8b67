-- `exceeds` meets its contract: a tag of n or more is one that the tags below n lack. Assumes nothing.
use mathlib.Core.Bool.{not}
use mathlib.Core.Path.{sym, ap, ◌∙◌}
use Rattle.tagset.specs.Set.{subset_of}
use Rattle.tagset.proofs.Laws.{exceeds-below}
use Rattle.tagset.proofs.TagSet.exceeds.Goals as goal

pub returns : goal.returns
returns c =
    ap not (c.is_subset.ensures ∙ ap (subset_of _) c.below.ensures) ∙ sym (exceeds-below _ _)
