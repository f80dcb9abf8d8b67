-- What `bad_size` and `valid_of` test, in the paper's words: each test passes exactly where its sentence holds, and `simp` puts them together.
-- Assumes nothing.
use Rattle.std.specs.Prelude.{◌≡◌, refl, Bool, true, false, List, [], ◌∷◌, ◌↔◌, ℕ, zero, suc, ◌+◌, ◌-◌, ◌≤◌, ◌<◌, length, get_or, take, drop}
use Rattle.std.proofs.Common.{sym, ap, ◌∙◌, arith, length-take, length-drop, get_or-take, get_or-drop}
use mathlib.Core.List.Memᴰ
use Rattle.truth.specs.Truth.{and_both, and-iff, neither-iff, not_iff, le_iff, lt_iff, not-lt-iff, eq_iff, ne_iff}
use Rattle.model.specs.declared.Flow.{Flow}
use Rattle.model.specs.Model.{◌∈◌}
use Rattle.tagset.specs.declared.TagSet.{TagSet}
use Rattle.tagset.proofs.Below.{all-at, all-make}
use Rattle.tagset.proofs.Laws.{implies-iff, subset-has, subset-of-has, not-exceeds, not-exceeds-of-has}
use Rattle.tagset.specs.Set.{has, all_below, subset_of, exceeds_of}
use Rattle.state.specs.State.{Storage, State, short_of, bad_size, no_flow}
use Rattle.state.specs.Valid.{all_of, rising_from, in_limits, counts_in_limits, numbers_rise, ends_proper, tags_known, own_tags, sets_carried, is_no_flow, unused_zero, valid_of}
use Rattle.state.specs.IsValid.{IsSized, Rising, IsValid}

-- Tests, each with what it says

-- every number below n passes
pub all-below-iff : (n : ℕ) (f : ℕ → Bool) → (all_below n f ≡ true) ↔ ((k : ℕ) → k < n → f k ≡ true)
all-below-iff n f = (all-at n f, all-make n f)

-- where all elements pass, each does
all-of-member : {A : Type 0} (p : A → Bool) (xs : List A) → all_of p xs ≡ true → {x : A} → x ∈ xs → p x ≡ true
unfolding all_of
all-of-member p [] e m = elim m [ ]
all-of-member p (y ∷ ys) e (Memᴰ.head q) = ap p q ∙ (and_both (p y) (all_of p ys) e).0
all-of-member p (y ∷ ys) e (Memᴰ.tail m) = all-of-member p ys (and_both (p y) (all_of p ys) e).1 m

-- and where each does, all do
member-all-of : {A : Type 0} (p : A → Bool) (xs : List A) → ((x : A) → x ∈ xs → p x ≡ true) → all_of p xs ≡ true
unfolding all_of
member-all-of p [] h = refl
member-all-of p (y ∷ ys) h = (and-iff (p y) (all_of p ys)).1 (h y (Memᴰ.head refl), member-all-of p ys (λ x m. h x (Memᴰ.tail m)))

-- every element passes
all-of-iff : {A : Type 0} (p : A → Bool) (xs : List A) → (all_of p xs ≡ true) ↔ ((x : A) → x ∈ xs → p x ≡ true)
all-of-iff p xs = (λ e x. all-of-member p xs e, member-all-of p xs)

-- every tag of a set is below n
known-iff : (s : TagSet) (n : ℕ) → (exceeds_of s n ≡ false) ↔ ((t : ℕ) → has s t ≡ true → t < n)
known-iff s n = (not-exceeds s n, not-exceeds-of-has s n)

-- every tag of a set is in another
pub subset_iff : (a b : TagSet) → (subset_of a b ≡ true) ↔ ((t : ℕ) → has a t ≡ true → has b t ≡ true)
subset_iff a b = (subset-has a b, subset-of-has a b)

-- what the tests above say, for `simp`
ruleset tests = (and-iff, neither-iff, implies-iff, not_iff, le_iff, lt_iff, not-lt-iff, eq_iff, ne_iff, all-below-iff, all-of-iff, known-iff, subset_iff)

-- 9 goes by the lengths
pub bad-size-short : (n : ℕ) (lent : Storage)
    → bad_size n lent ≡ short_of n (length lent.tags) (length lent.policies) (length lent.policy_counts) (length lent.flows)
unfolding bad_size
bad-size-short n lent = refl

-- 9 is not answered exactly there
pub sized : (n : ℕ) (lent : Storage) → (bad_size n lent ≡ false) ↔ IsSized n lent
unfolding bad_size
sized n lent = simp tests (omega arith)

-- the numbers rise
rising-iff : (k : ℕ) (fs : List Flow) → (rising_from k fs ≡ true) ↔ Rising k fs
unfolding rising_from Rising
rising-iff k [] = (λ e. tt, λ u. refl)
rising-iff k (f ∷ fs) = simp (tests, rising-iff f.number fs) (λ p. p, λ p. p)

-- a record that passes is zero
no-flow-is : (f : Flow) → is_no_flow f ≡ true → f ≡ no_flow
no-flow-is f e = let p = simp tests at e in λ i. record { number = p.0.0 i; from = p.0.1 i; to = p.1 i }

-- all elements pass exactly where what is read at each place does
all-of-at : {A : Type 0} (p : A → Bool) (xs : List A) (i : ℕ) (d : A) → p d ≡ true → all_of p xs ≡ true → p (get_or xs i d) ≡ true
unfolding all_of
all-of-at p [] i d h e = h
all-of-at p (x ∷ xs) zero d h e = (and_both (p x) (all_of p xs) e).0
all-of-at p (x ∷ xs) (suc i) d h e = all-of-at p xs i d h (and_both (p x) (all_of p xs) e).1

at-all-of : {A : Type 0} (p : A → Bool) (xs : List A) (d : A) → ((i : ℕ) → i < length xs → p (get_or xs i d) ≡ true) → all_of p xs ≡ true
unfolding all_of
at-all-of p [] d h = refl
at-all-of p (x ∷ xs) d h = (and-iff (p x) (all_of p xs)).1 (h 0 (omega arith), at-all-of p xs d (λ i l. h (suc i) (omega (arith, l))))

-- of m records those from k on are zero
pub unused-iff : (m k : ℕ) (fs : List Flow) → (all_of is_no_flow (drop k (take m fs)) ≡ true) ↔ ((i : ℕ) → k ≤ i → i < m → get_or fs i no_flow ≡ no_flow)
unused-iff m k fs = (fore, λ h. at-all-of is_no_flow (drop k (take m fs)) no_flow (back h))
  where
    unused : List Flow
    unused = drop k (take m fs)

    at : (i : ℕ) → k + i < m → get_or unused i no_flow ≡ get_or fs (k + i) no_flow
    at i l = get_or-drop k (take m fs) i no_flow ∙ get_or-take m fs (k + i) no_flow l

    fore : all_of is_no_flow unused ≡ true → (i : ℕ) → k ≤ i → i < m → get_or fs i no_flow ≡ no_flow
    fore e i h l =
        let j : k + (i - k) ≡ i = omega (arith, h) in
        ap (λ (x : ℕ). get_or fs x no_flow) (sym j) ∙ sym (at (i - k) (omega (arith, j, l)))
        ∙ no-flow-is (get_or unused (i - k) no_flow) (all-of-at is_no_flow unused (i - k) no_flow refl e)

    back : ((i : ℕ) → k ≤ i → i < m → get_or fs i no_flow ≡ no_flow) → (i : ℕ) → i < length unused → is_no_flow (get_or unused i no_flow) ≡ true
    back h i l =
        let r : k + i < m = omega (arith, l, length-drop k (take m fs), length-take m fs) in
        ap is_no_flow (at i r ∙ h (k + i) (omega arith) r)

-- the tests of a valid state pass exactly there
pub valid : (s : State) → (valid_of s ≡ true) ↔ IsValid s
unfolding valid_of in_limits counts_in_limits numbers_rise ends_proper tags_known own_tags sets_carried unused_zero
valid s =
    simp (tests, rising-iff) (
      λ ((((((((some, most), (table, policies)), (rising, past)), ends), (tags, sets)), own), carried), (flows, words)).
          record {
            some = some;
            most = most;
            table-count = table;
            policy-counts = policies;
            rising = rising;
            not-past = past;
            ends = λ f m. let e = ends f m in (e.0.0, e.0.1, e.1);
            known-tags = λ c t l. tags c l t;
            known-policies = λ c k t l m. sets c l k m t;
            own = own;
            carried = λ a b. carried (a, b);
            unused-flows = (unused-iff 512 s.header.count s.storage.flows).0 (simp tests flows);
            unused-policies = words;
          },
      λ v. (
        (
          (
            (
              ((((v.some, v.most), (v.table-count, v.policy-counts)), (v.rising, v.not-past)), λ f m. let e = v.ends f m in ((e.0, e.1), e.2)),
              (λ c l t. v.known-tags c t l, λ c l k m t. v.known-policies c k t l m),
            ),
            v.own,
          ),
          λ e. v.carried e.0 e.1,
        ),
        (simp tests at ((unused-iff 512 s.header.count s.storage.flows).1 v.unused-flows), v.unused-policies),
      ),
    )
