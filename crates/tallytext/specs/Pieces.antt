-- The tags of a set from one on. What is left behind each piece of a text, and how long the pieces are:
-- proofs/Pieces.antt. Assumes nothing.
use Rattle.std.specs.Prelude.{ℕ, ◌-◌}
use mathlib.Core.List.{List}
use Rattle.tagset.specs.declared.TagSet.{TagSet}
use Rattle.tagset.specs.Set.{has}
use Rattle.tallytext.specs.Text.{those, spaced}

-- the tags from t on, each after a space
abbrev pub tags_from : TagSet → ℕ → List ℕ
tags_from s t = spaced (those t (256 - t) (has s))
