-- `size` meets its contract: each of the four words has at most 64 ones, and the tags are counted word by word. Assumes nothing.
use Rattle.std.proofs.Common.{rules, arith, refl, sym, ap, ◌∙◌, ◌≡◌, ◌≤◌, ◌^◌, length, sum_by, count_ones}
use Rattle.std.specs.Slice.Iter.{iter_rest}
use Rattle.std.proofs.lemmas.Iterator.{YieldsList-from_slice}
use Rattle.std.proofs.lemmas.Iterator.Adapters.{fits_from_length, at_most_from_yields_List}
use Rattle.tagset.specs.declared.TagSet.{TagSet}
use Rattle.tagset.proofs.Word.{words_of, four-made}
use Rattle.tagset.proofs.Laws.{size-sum}
use Rattle.tagset.proofs.TagSet.size.Goals as goal

pub sum-requires-clause-fits : goal.sum-requires-clause-fits
sum-requires-clause-fits c =
    let few : length (iter_rest c.iter.result) ≤ 4 = search rules in
    fits_from_length _ _ 4 (2 ^ 32) (at_most_from_yields_List (YieldsList-from_slice (iter_rest c.iter.result) cc) few) c.map.ensures.closure (omega arith) (λ x r q k. search rules)

pub returns : goal.returns
returns c =
    let s = c.args.self in
    let h = words_of s (search rules) (λ i. search rules) in
    let made = ap (λ (x : TagSet). x.words) (sym (four-made s h.four refl refl refl refl)) in
    let summed : c.sum.result ≡ sum_by count_ones (iter_rest c.iter.result) = search rules in
    let whole : iter_rest c.iter.result ≡ s.words = search (rules, made) in
    summed ∙ ap (sum_by count_ones) whole ∙ sym (size-sum s h)
