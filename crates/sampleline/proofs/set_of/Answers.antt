-- No tag is in the empty set, and a union with the set of one tag has that tag as well.
use Rattle.std.proofs.Common.{◌≡◌, ℕ, ◌+◌, ◌%◌, ◌<◌, ◌&&◌, ltb, eqb, List, length, get_or, take, arith}
use Rattle.std.specs.List.{list_any}
use Rattle.std.proofs.Math.Logic.{by_cases}
use Rattle.std.proofs.Math.Decide.{dec_lt}
use Rattle.std.proofs.lemmas.List.Folds.{list_any_more}
use Rattle.std.proofs.lemmas.Grind.{common_steps}
use Rattle.tagset.specs.declared.TagSet.{TagSet}
use Rattle.tagset.specs.Set.{has, single_of, union_of}
use Rattle.tagset.proofs.Laws.{empty-has, union-has, single-has, single-past}
use Rattle.sampleline.proofs.set_of.Goals as goal

-- a set of one tag, below 256 or not
single : (d t : ℕ) → has (single_of d) t ≡ (ltb t 256 && eqb t d)
single d t =
    by_cases (dec_lt d 256)
    (λ below. grind (arith, common_steps, single-has d t below))
    (λ past. grind (arith, common_steps, single-past d (omega arith), empty-has t))

-- one tag more
more : (s : TagSet) (t i : ℕ) (tags : List ℕ) → i < length tags → has s t ≡ (ltb t 256 && list_any (λ tag. eqb t (tag % 4294967296)) (take i tags))
    → has (union_of s (single_of (get_or tags i 0 % 4294967296))) t ≡ (ltb t 256 && list_any (λ tag. eqb t (tag % 4294967296)) (take (i + 1) tags))
more s t i tags within so_far =
    grind (arith, common_steps, union-has s (single_of (get_or tags i 0 % 4294967296)) t, single (get_or tags i 0 % 4294967296) t, list_any_more (λ tag. eqb t (tag % 4294967296)) tags i 0 within)

pub loop-tag-init : goal.loop-tag-init
loop-tag-init c t = grind (arith, common_steps, empty-has t)

pub loop-tag-preserved : goal.loop-tag-preserved
loop-tag-preserved c t =
    rw (c.union-set.ensures, c.single.ensures) (more c.loop-tag.set t c.loop-tag.tag-index c.args.tags.now c.loop-tag-test.true (c.loop-tag.invariant t))
