-- One more tag of the set adds a space and its number, one more number that is no tag of it nothing.
use Rattle.std.proofs.Common.{◌≡◌, ◌+◌, ◌++◌, ℕ, Bool, true, false, List, [], ◌∷◌, codes, cond, decimal, filter, ap, ◌∙◌, sym, refl, arith, append-nil}
use Rattle.std.specs.List.{flat_map, range_with_len}
use Rattle.std.proofs.Output.{has_written_append, has_written_of_eq, has_written_to_eq}
use Rattle.std.proofs.lemmas.Grind.{flat_map-append}
use Rattle.std.proofs.lemmas.List.{map-id}
use Rattle.std.proofs.lemmas.List.FromFn.{filter_of_map_range_with_len_more}
use Rattle.tagset.specs.Set.{has}
use Rattle.sampleline.proofs.print.TagsDisplay.fmt.Goals as goal
use Rattle.sampleline.proofs.print.TagsDisplay.fmt.Goals.{then-contains+in_ok-write, else-contains}

spaced : ℕ → List ℕ
spaced tag = codes " " ++ decimal tag

-- what is written of the numbers below n that pass a test
shown : (ℕ → Bool) → ℕ → List ℕ
shown test n = flat_map spaced (filter test (range_with_len 0 n))

-- of one number alone
shown-one : (n : ℕ) (b : Bool) → cond b (spaced n) [] ≡ flat_map spaced (cond b (n ∷ []) [])
shown-one n true = sym (append-nil (spaced n))
shown-one n false = refl

-- of one number more
shown-more : (test : ℕ → Bool) (n : ℕ) (b : Bool) → b ≡ test n → shown test n ++ cond b (spaced n) [] ≡ shown test (n + 1)
unfolding shown
shown-more test n b is =
    let e = simp map-id at (filter_of_map_range_with_len_more test (λ x. x) 0 n n (omega arith)) in
    ap (λ x. shown test n ++ x) (shown-one n b ∙ ap (λ c. flat_map spaced (cond c (n ∷ []) [])) is)
    ∙ sym (flat_map-append spaced (filter test (range_with_len 0 n)) (cond (test n) (n ∷ []) [])) ∙ ap (flat_map spaced) (sym e)

pub loop-tag-preserved : goal.loop-tag-preserved
unfolding shown spaced
loop-tag-preserved g c plain =
    let before = c.loop-tag.invariant plain in
    let more = shown-more (has c.args.self.now.0) c.loop-tag.tag-counter in
    elim c.if-contains.branch [
      | then-contains+in_ok-write w ↦ has_written_of_eq _ _ _ _ _ (more true (sym w.if-contains.true ∙ c.contains.ensures))
          (has_written_to_eq _ _ _ _ _ w.f-is
          (has_written_append _ _ _ _ _ _ before (w.in_ok-write.ensures.writes before.plain (refl {a = true}))))
      | else-contains w ↦ has_written_of_eq _ _ _ _ _
          (sym (append-nil _) ∙ more false (sym w.if-contains.false ∙ c.contains.ensures))
          (has_written_to_eq _ _ _ _ _ w.f-is before)
    ]

pub returns-clause-writes : goal.returns-clause-writes
unfolding shown spaced
returns-clause-writes g c plain _ =
    let all : c.loop-tag.tag-counter ≡ 256 = omega arith in
    has_written_of_eq _ _ _ _ _ (ap (shown (has c.args.self.now.0)) all) (c.loop-tag.invariant plain)
