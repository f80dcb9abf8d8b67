-- The tags of one set that another has not. The laws of sets of tags (members, the order, what is equal, sizes):
-- proofs/Laws.antt. Assumes nothing.
use Rattle.std.specs.Prelude.{Bool, ◌&&◌, not, ℕ}
use Rattle.tagset.specs.declared.TagSet.{TagSet}
use Rattle.tagset.specs.Set.{has}

-- the tags of b that a has not
abbrev pub beyond : TagSet → TagSet → ℕ → Bool
beyond a b t = has b t && not (has a t)
