-- `is_subset` meets its contract: nothing is left of a word without the other where it has no bit that the other lacks. Assumes nothing.
use Rattle.std.proofs.Common.{◌≡◌, rules, lit<, ℕ, ◌<◌, get_or}
use Rattle.tagset.specs.Set.{IsWords}
use Rattle.tagset.specs.Word.{left}
use Rattle.tagset.proofs.Word.{words_of, without-left, subset-tested}
use Rattle.tagset.proofs.TagSet.is_subset.Goals as goal

pub returns : goal.returns
returns c =
    let a = c.args.self in
    let b = c.args.other in
    let ha : IsWords a = words_of a (search rules) (λ i. search rules) in
    let hb : IsWords b = words_of b (search rules) (λ i. search rules) in
    let word : (i : ℕ) → i < 4 → get_or c.each.result.words i 0 ≡ left a b i =
    λ i l. rw (← without-left (get_or a.words i 0) (get_or b.words i 0) (ha.fits i) (hb.fits i)) (search rules) in
    subset-tested a b ha hb (word 0 (lit< tt)) (word 1 (lit< tt)) (word 2 (lit< tt)) (word 3 (lit< tt))
