-- A state of the right lengths is valid exactly where the clauses pass in the order in which the storage is read. Assumes nothing.
use Rattle.std.specs.Prelude.{◌≡◌, refl, Bool, true, ◌&&◌, not, cond, List, [], ◌∷◌, ◌↔◌, ℕ, ◌+◌, ◌*◌, ◌/◌, ◌%◌, ◌≤◌, ◌<◌, leb, ltb, get_or, length}
use Rattle.std.proofs.Common.{sym, ap, ◌∙◌, subst, ⊎_elim, arith, ltb-true, ltb-false}
use Rattle.std.proofs.lemmas.Bool.{false≢true, not-false}
use Rattle.std.specs.List.{list_all, range_with_len}
use Rattle.std.proofs.lemmas.List.FromFn.{length-range_with_len, get_or-range_with_len}
use Rattle.std.proofs.lemmas.List.Recursion.{and_at, and_from_places}
use mathlib.Core.List.Memᴰ
use borrow.Table.Steps.{cases}
use Rattle.truth.specs.Truth.{iff, and-iff, not_iff, le_iff, lt_iff, ne_iff}
use Rattle.model.specs.declared.Flow.{Flow}
use Rattle.model.specs.Model.{◌∈◌}
use Rattle.model.proofs.Standing.{edge_of, of-edge}
use Rattle.tagset.specs.declared.TagSet.{TagSet}
use Rattle.tagset.proofs.Below.{all-at, all-make}
use Rattle.tagset.proofs.Laws.{empty-has, subset-of-has, subset-refl, subset-antisym, exceeds-below, not-exceeds, not-exceeds-of-has, empty-words}
use Rattle.tagset.specs.Set.{has, empty_set, below_of, all_below, subset_of}
use Rattle.tagset.proofs.Word.{each_word}
use Rattle.state.specs.declared.Header.{Header}
use Rattle.state.specs.IsValid.{IsSized, IsValid, Rising, ProperEnds}
use Rattle.state.proofs.IsValid.{unused-iff, valid, all-below-iff, subset_iff}
use Rattle.state.specs.Layout.{Fit64}
use Rattle.state.proofs.LayoutLaws.{set-fits}
use Rattle.state.specs.State.{State, set_at, flows_of}
use Rattle.state.specs.Valid.{all_of, valid_of}
use Rattle.validity.specs.Scan.{policies_valid, containers_valid, flow_valid, flows_valid, records_zero}

-- Tests, each with what it says

-- four tests one by one, after another
pub four : (b : Bool) (f : ℕ → Bool) → b && f 0 && f 1 && f 2 && f 3 ≡ b && all_below 4 f
unfolding all_below
four b f = grind arith

-- a test of each number of a range, where it says the same as another below n
pub all-range : (n : ℕ) (p q : ℕ → Bool) → ((k : ℕ) → k < n → p k ≡ q k)
    → list_all p (range_with_len 0 n) ≡ all_below n q
all-range n p q same = iff (list_all p ns) (all_below n q) fore back
  where
    ns : List ℕ
    ns = range_with_len 0 n

    long : length ns ≡ n
    long = length-range_with_len 0 n

    at : (k : ℕ) → k < n → p (get_or ns k 0) ≡ q k
    at k l = let e : get_or ns k 0 ≡ k = get_or-range_with_len 0 n k 0 l ∙ omega arith in ap p e ∙ same k l

    fore : list_all p ns ≡ true → all_below n q ≡ true
    fore e =
        all-make n q
        (λ k l. sym (at k l) ∙ and_at (list_all p) p refl (λ x xs. refl) ns k 0 (omega (arith, l, long)) e)

    back : all_below n q ≡ true → list_all p ns ≡ true
    back e =
        and_from_places (list_all p) p refl (λ x xs. refl) ns 0
        (λ k l. let m : k < n = omega (arith, l, long) in at k m ∙ all-at n q e k m)

-- every tag of a set is below n
known-iff : (s : TagSet) (n : ℕ) → (subset_of s (below_of n) ≡ true) ↔ ((t : ℕ) → has s t ≡ true → t < n)
known-iff s n = (
  λ e. not-exceeds s n (exceeds-below s n ∙ ap not e),
  λ h. not-false (subset_of s (below_of n)) (sym (exceeds-below s n) ∙ not-exceeds-of-has s n h),
)

-- a set of words has no tag: the words are zero
empty-iff : (ws : List ℕ) (k : ℕ) → Fit64 ws → (subset_of (set_at ws k) empty_set ≡ true) ↔ ((j : ℕ) → j < 4 → get_or ws (4 * k + j) 0 ≡ 0)
unfolding set_at empty_set
empty-iff ws k h = (
  λ e. words (subset-antisym (set_at ws k) empty_set (set-fits ws k h) empty-words e (subset-of-has empty_set (set_at ws k) (λ t p. absurd (false≢true (sym (empty-has t) ∙ p))))),
  λ z. ap (λ (s : TagSet). subset_of s empty_set) (zeros z) ∙ subset-refl empty_set,
)
  where
    words : set_at ws k ≡ empty_set → (j : ℕ) → j < 4 → get_or ws (4 * k + j) 0 ≡ 0
    words q =
        each_word (λ j. j < 4 → get_or ws (4 * k + j) 0 ≡ 0) (λ l. ap (λ (i : ℕ). get_or ws i 0) (omega arith) ∙ ap (λ (s : TagSet). get_or s.words 0 0) q)
        (λ l. ap (λ (s : TagSet). get_or s.words 1 0) q) (λ l. ap (λ (s : TagSet). get_or s.words 2 0) q) (λ l. ap (λ (s : TagSet). get_or s.words 3 0) q)
        (λ j l. absurd (omega (arith, l)))

    zeros : ((j : ℕ) → j < 4 → get_or ws (4 * k + j) 0 ≡ 0) → set_at ws k ≡ empty_set
    zeros z =
        let a : get_or ws (4 * k) 0 ≡ 0 = ap (λ (i : ℕ). get_or ws i 0) (omega arith) ∙ z 0 (omega arith) in
        let b = z 1 (omega arith) in
        let c = z 2 (omega arith) in
        let d = z 3 (omega arith) in
        cc

-- a set has the tags that its place allows: in a place that is in use those below n, in another none
place-iff : (ws : List ℕ) → Fit64 ws → (n i k count : ℕ)
    → (subset_of (set_at ws i) (cond (ltb k count) (below_of n) empty_set) ≡ true)
    ↔ ((k < count → (t : ℕ) → has (set_at ws i) t ≡ true → t < n) × (count ≤ k → (j : ℕ) → j < 4 → get_or ws (4 * i + j) 0 ≡ 0))
place-iff ws h n i k count =
    cases (ltb k count)
    (λ e. rw e (λ p. (λ l. (known-iff (set_at ws i) n).0 p, λ l. absurd (omega (arith, ltb-true k count e, l))), λ p. (known-iff (set_at ws i) n).1 (p.0 (ltb-true k count e))))
    (λ e. rw e (λ p. (λ l. absurd (omega (arith, ltb-false k count e, l)), λ l. (empty-iff ws i h).0 p), λ p. (empty-iff ws i h).1 (p.1 (ltb-false k count e))))

-- what the tests above say, for `simp`
ruleset tests = (and-iff, not_iff, le_iff, lt_iff, ne_iff, all-below-iff)

-- Flows

-- what is true of a valid flow
abbrev IsFlow : Header → List ℕ → Flow → Type 0
IsFlow h tags f =
    (f.number ≤ h.greatest) × ProperEnds h.containers f × ((t : ℕ) → has (set_at tags f.from) t ≡ true → has (set_at tags f.to) t ≡ true)

-- the tests of a flow pass exactly there
flow-iff : (h : Header) (tags : List ℕ) (f : Flow) → (flow_valid h tags f ≡ true) ↔ IsFlow h tags f
unfolding flow_valid all_of
flow-iff h tags f =
    simp (tests, subset_iff) (
      λ (past, (from, (to, (differ, (carried, u))))). (past, (from, to, differ), carried),
      λ (past, (from, to, differ), carried). (past, (from, (to, (differ, (carried, refl))))),
    )

-- the flows are valid, and their numbers rise
flows-iff : (h : Header) (tags : List ℕ) (last : ℕ) (fs : List Flow) → (flows_valid h tags last fs ≡ true) ↔ (Rising last fs × ((f : Flow) → f ∈ fs → IsFlow h tags f))
unfolding flows_valid Rising
flows-iff h tags last [] = (λ e. (tt, λ f m. absurd (Memᴰ.not-nil m)), λ p. refl)
flows-iff h tags last (f ∷ fs) =
    simp (tests, flow-iff, flows-iff h tags f.number fs) (
      λ (above, (first, (rising, rest))).
          ((above, rising), λ g m. ⊎_elim (λ q. subst (IsFlow h tags) (sym q) first) (rest g) (Memᴰ.cases_cons m)),
      λ ((above, rising), all). (above, (all f (Memᴰ.head refl), (rising, λ g m. all g (Memᴰ.tail m)))),
    )

-- States

-- the clauses in the order in which the storage is read
abbrev pub scan_of : State → Bool
scan_of s =
    leb s.header.count 512
    && (containers_valid s.header.containers s.storage.tags s.storage.policies s.storage.policy_counts
    && (flows_valid s.header s.storage.tags 0 (flows_of s) && records_zero s.header.count s.storage.flows))

-- they pass exactly where the state is valid
scan-iff : (s : State) → IsSized s.header.containers s.storage → Fit64 s.storage.policies → (scan_of s ≡ true) ↔ IsValid s
unfolding containers_valid policies_valid
scan-iff s z h =
    simp (tests, flows-iff, unused-iff, known-iff, place-iff s.storage.policies h) (
      λ (table, (each, ((rising, flows), unused))).
          record {
            some = z.some;
            most = z.most;
            table-count = table;
            policy-counts = λ c l. (each c l).1.1.0;
            rising = rising;
            not-past = λ f m. (flows f m).0;
            ends = λ f m. (flows f m).1;
            known-tags = λ c t l. (each c l).1.0 t;
            known-policies = λ c k t l m. ((each c l).1.1.1 k (omega (arith, (each c l).1.1.0, m))).0 m t;
            own = λ c l. (each c l).0;
            carried = λ a b i t.
                let w = edge_of (flows_of s) i in
                subst (λ (e : ℕ × ℕ). has (set_at s.storage.tags e.0) t ≡ true → has (set_at s.storage.tags e.1) t ≡ true)
                (sym (Memᴰ.eq_of_singleton w.2)) ((flows w.0 w.1).2 t);
            unused-flows = unused;
            unused-policies = λ i l g.
                subst (λ (x : ℕ). get_or s.storage.policies x 0 ≡ 0) (omega arith)
                (((each (i / 16) (omega (arith, l))).1.1.1 (i % 16 / 4) (omega arith)).1 (omega (arith, g)) (i % 4) (omega arith));
          },
      λ v. (
        v.table-count,
        (
          λ c l. (
            v.own c l,
            (
              λ t. v.known-tags c t l,
              (
                v.policy-counts c l,
                λ k m. (
                  λ q t. v.known-policies c k t l q,
                  λ q j r.
                      let e : (4 * (4 * c + k) + j) / 16 ≡ c = omega (arith, m, r) in
                      v.unused-policies (4 * (4 * c + k) + j) (omega (arith, l, m, r)) (rw e (omega (arith, q, m, r))),
                ),
              ),
            ),
          ),
          (
            (v.rising, λ f m. (v.not-past f m, v.ends f m, v.carried f.from f.to (of-edge (flows_of s) m (Memᴰ.head refl)))),
            v.unused-flows,
          ),
        ),
      ),
    )

-- so the order of reading does not matter
pub scanned : (s : State) → IsSized s.header.containers s.storage → Fit64 s.storage.policies → valid_of s ≡ scan_of s
scanned s z h = iff (valid_of s) (scan_of s) (λ e. (scan-iff s z h).1 ((valid s).0 e)) (λ e. (valid s).1 ((scan-iff s z h).0 e))
