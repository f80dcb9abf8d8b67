-- `empty` meets its contract: four words of 0 are the empty set. Assumes nothing.
use mathlib.Core.Path.{refl}
use Rattle.tagset.specs.Set.{empty_set}
use Rattle.tagset.proofs.TagSet.empty.Goals as goal

pub returns : goal.returns
unfolding empty_set
returns c =
    refl
