use Rattle.std.proofs.Common.{◌≡◌, ℕ, ◌%◌, ◌&&◌, ltb, eqb, take}
use Rattle.std.specs.List.{list_any}
use Rattle.tagset.specs.Set.{has}
use Rattle.sampleline.proofs.set_of.Given as goal

-- the tags so far
abbrev pub invariant-loop-tag : goal.invariant-loop-tag
invariant-loop-tag l = (t : ℕ) → has l.set t ≡ (ltb t 256 && list_any (λ tag. eqb t (tag % 4294967296)) (take l.tag-index l.tags))
