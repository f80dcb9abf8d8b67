-- The parts of a split come one by one: the first is the word, and of each other the number is kept while there is
-- room.
use Rattle.std.proofs.Common.{rules, ◌≡◌, ℕ, ◌+◌, ◌<◌, Bool, false, eqb, List, [], ◌∷◌, ◌++◌, length, get_or, drop, Option, None, Some, Result, Ok, Err, IsOk, OnOk, OnErr, ◌↔◌, refl, ap, subst, ◌∙◌, arith, Bor, length-append, length-drop}
use Rattle.std.specs.List.{before_first, slice_split, position_or_len}
use Rattle.std.specs.Option.{unwrap_or}
use Rattle.std.specs.Fn.{CalledAt}
use Rattle.std.specs.Iterator.{AlwaysYields}
use Rattle.std.specs.Slice.Iter.{split_steps, split_rest, split_done, split_callee}
use Rattle.std.specs.declared.slice.Split.{Split}
use Rattle.std.proofs.Math.Logic.{by_cases}
use Rattle.std.proofs.Math.Decide.{dec_lt}
use Rattle.std.proofs.lemmas.List.Splits.{slice_split_none, slice_split_first}
use Rattle.std.proofs.lemmas.List.Sums.{fails_before_first}
use Rattle.std.proofs.lemmas.Iterator.Splits.{YieldsList-from_slice_split}
use Rattle.std.proofs.lemmas.Grind.{common_steps}
use Rattle.std.proofs.lemmas.List.{drop-drop, get_or-drop}
use borrow.Author.Tests.{tests}
use Rattle.sampleline.proofs.Numbers.{one_more, none}
use denote.Param.Members.{Mut}
use Rattle.sampleline.proofs.Line.of.Goals as goal

-- the parts begin with what stands before the first element that passes
first_part : (p : ℕ → Bool) (xs : List ℕ) → slice_split p xs ≡ before_first p xs ∷ drop 1 (slice_split p xs)
first_part p xs =
    by_cases (dec_lt (position_or_len p xs) (length xs))
    (λ some. grind (arith, common_steps, slice_split_first p xs 0 some))
    (λ none. grind (arith, common_steps, slice_split_none p xs (λ k d l. fails_before_first p xs k d (omega arith))))

-- so there is one
some_part : (p : ℕ → Bool) (xs : List ℕ) → 0 < length (slice_split p xs)
some_part p xs = omega (arith, ap length (first_part p xs))

-- the first call of `next` answers that one, and leaves the others
first_call : {F : Type 0} (g : Mut F (Bor ℕ × Unit {0}) Bool) (p : ℕ → Bool) (xs : List ℕ) (s t : Split ℕ F) (r : Option (Bor (List ℕ))) {f : F} → split_steps g s r t
    → split_rest s ≡ xs → split_done s ≡ false → split_callee s ≡ f
    → ((x : ℕ) (b : Bool) (q : F) → CalledAt g f x b q → (q ≡ f) × (b ≡ p x)) → (d : Bor (List ℕ))
    → ((unwrap_or r d).now ≡ before_first p xs) × AlwaysYields (split_steps g) (λ x. x.now) t (drop 1 (slice_split p xs))
first_call g p xs s t None step rest more callee calls d = absurd (cc step.0)
first_call g p xs s t (Some x) step rest more callee calls d =
    let runs = subst (AlwaysYields (split_steps g) (λ x. x.now) s) (first_part p xs) (YieldsList-from_slice_split g p xs rest more callee calls).runs in
    runs.1 x t step

-- the parts from the k-th on begin with the k-th
next_part : (parts : List (List ℕ)) (k : ℕ) → get_or (drop k parts) 0 [] ≡ get_or parts k []
next_part parts k = get_or-drop k parts 0 [] ∙ ap (λ j. get_or parts j []) (omega arith)

module _ {F : Type 0} (g : Mut F (Bor ℕ × Unit {0}) Bool) (s t : Split ℕ F) where
  -- a part that comes is the first of those left
  came : (ys : List (List ℕ)) (x : Bor (List ℕ)) → AlwaysYields (split_steps g) (λ y. y.now) s ys → split_steps g s (Some x) t
      → (x.now ≡ get_or ys 0 []) × AlwaysYields (split_steps g) (λ y. y.now) t (drop 1 ys) × (0 < length ys)
  came [] x h k = absurd (h x t k)
  came (y ∷ ys) x h k = ((h.1 x t k).0, (h.1 x t k).1, omega arith)

  -- where those left are all from the k-th on
  came_at : (k : ℕ) (parts : List (List ℕ)) (x : Bor (List ℕ)) → AlwaysYields (split_steps g) (λ y. y.now) s (drop k parts) → split_steps g s (Some x) t
      → (x.now ≡ get_or parts k []) × AlwaysYields (split_steps g) (λ y. y.now) t (drop (k + 1) parts) × (k < length parts)
  came_at k parts x h step =
      let m = came (drop k parts) x h step in
      (m.0 ∙ next_part parts k, subst (AlwaysYields (split_steps g) (λ y. y.now) t) (drop-drop 1 k parts) m.1, omega (arith, m.2, length-drop k parts))

  -- none comes where none is left
  ended : (ys : List (List ℕ)) → AlwaysYields (split_steps g) (λ y. y.now) s ys → split_steps g s None t → length ys ≡ 0
  ended [] h k = refl
  ended (y ∷ ys) h k = absurd (h.0 t k)

-- what holds of an answer that is Ok exactly where M holds
fate : {T E M P Q : Type 0} (r : Result T E) → (IsOk r ↔ M) → OnOk r P → OnErr r Q → (M → P) × (¬ M → Q)
fate (Ok x) is ok err = (λ m. ok, λ n. absurd (n (is.0 refl)))
fate (Err e) is ok err = (λ m. cc (is.1 m), λ n. err)

pub returns-clause-word : goal.returns-clause-word
returns-clause-word c =
    rw c.unwrap_or-word.ensures (first_call _ (λ byte. eqb byte 32) c.args.text.now _ _ c.next.result c.next.ensures.steps
    c.split-words.ensures.rest c.split-words.ensures.done c.split-words.ensures.closure (λ x b q k. search (rules, tests)) _).0

pub loop-digits-init : goal.loop-digits-init
loop-digits-init c = (
  rw c.into_iter-digits-iterator.ensures.into_iter_gives (first_call _ (λ byte. eqb byte 32) c.args.text.now _ _ c.next.result c.next.ensures.steps
      c.split-words.ensures.rest c.split-words.ensures.done c.split-words.ensures.closure (λ x b q k. search (rules, tests)) c.unwrap_or-word.result).1,
  some_part _ c.args.text.now,
  rw c.new-numbers.ensures (none _),
)

pub loop-digits-preserved : goal.loop-digits-preserved
loop-digits-preserved c =
    let parts = slice_split (λ byte. eqb byte 32) c.args.text.now in
    let k = length c.loop-digits.yielded in
    let m = came_at _ c.loop-digits.digits-iterator c.next-in-loop-digits.new.self (k + 1) parts c.in-Some.digits c.loop-digits.invariant.0 c.in-Some.ensures.steps in
    let f = fate c.try_push.result c.try_push.ensures.variant c.try_push.ensures.ok c.try_push.ensures.err in
    let more : length (c.loop-digits.yielded ++ (c.in-Some.digits ∷ [])) ≡ k + 1 = length-append c.loop-digits.yielded (c.in-Some.digits ∷ []) in
    rw more (
      m.1,
      m.2,
      one_more parts c.loop-digits.numbers.items c.try_push.new.self.items k c.number_of.result c.loop-digits.invariant.2
          (λ n small is. c.number_of.ensures n small (m.0 ∙ is))
          f.0 (λ full. ap (λ l. l.items) (f.1 (λ room. omega arith))),
    )

pub returns-clause-count : goal.returns-clause-count
returns-clause-count c =
    let parts = slice_split (λ byte. eqb byte 32) c.args.text.now in
    let k = length c.loop-digits.yielded in
    let over = ended _ c.loop-digits.digits-iterator c.next-in-loop-digits.new.self (drop (k + 1) parts) c.loop-digits.invariant.0 c.in-None.ensures.steps in
    omega (arith, over, length-drop (k + 1) parts, c.loop-digits.invariant.1, c.loop-digits.invariant.2.count)

pub returns-clause-numbers : goal.returns-clause-numbers
returns-clause-numbers c = c.loop-digits.invariant.2.each
