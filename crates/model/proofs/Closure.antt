-- Warshall's closure is the reflexive and transitive closure of the ways, where these have both their ends below n (`reaches-enabled`).
-- Assumes nothing.
use Rattle.std.specs.Prelude.{◌≡◌, refl, ◌⊎◌, ◌↔◌, Bool, true, List, [], ◌∷◌, ℕ, zero, suc, ◌<◌, eqb, length, get_or}
use Rattle.std.proofs.Math.Path.{sym}
use Rattle.std.proofs.Common.{ap, ◌∙◌, subst, inl, inr, ⊎_elim, le_of_suc-le-suc, not-suc-le-zero, arith, eqb-true, eq-eqb}
use Rattle.std.proofs.Math.Logic.{by_cases}
use Rattle.std.proofs.Math.Logic.Iff
use Rattle.std.proofs.Math.Bool.{or-true}
use Rattle.std.proofs.lemmas.Bool.{false≢true}
use mathlib.Core.List.Memᴰ
use mathlib.Mathlib.Logic.Relation.ReflTransGenᴰ
use mathlib.Mathlib.Logic.Relation.{ReflTransGenᴰ}
use Rattle.std.proofs.Math.Decide.{dec_lt}
use Rattle.std.proofs.Math.ListN.{get_or-eq_default}
use borrow.Table.Steps.{cases}
use Rattle.truth.specs.Truth.{or-iff, or-and-iff}
use Rattle.model.specs.Model.{History, ◌∈◌, enabled, edges_of, Enabled*}
use Rattle.model.specs.Reach.{tabulate, matrix, cell, is_edge, reach_via, reaches}
use Rattle.model.specs.Closure.{Within}

-- TABLES

-- a tabulated list has one element for each number below n
pub tabulate-length {ℓ} : {A : Type ℓ} (n : ℕ) (f : ℕ → A) → length (tabulate n f) ≡ n
unfolding tabulate
tabulate-length zero f = refl
tabulate-length (suc n) f = ap suc (tabulate-length n (λ i. f (suc i)))

-- its element at i is f i
pub tabulate-at {ℓ} : {A : Type ℓ} (n : ℕ) (f : ℕ → A) (i : ℕ) (d : A) → i < n → get_or (tabulate n f) i d ≡ f i
unfolding tabulate
tabulate-at zero f i d h = absurd (not-suc-le-zero h)
tabulate-at (suc n) f zero d h = refl
tabulate-at (suc n) f (suc i) d h = tabulate-at n (λ j. f (suc j)) i d (le_of_suc-le-suc h)

-- and from n on there is none
tabulate-past {ℓ} : {A : Type ℓ} (n : ℕ) (f : ℕ → A) (i : ℕ) (d : A) → ¬ (i < n) → get_or (tabulate n f) i d ≡ d
tabulate-past n f i d h = get_or-eq_default (tabulate n f) d (omega (arith, tabulate-length n f))

module _ (n : ℕ) (f : ℕ → ℕ → Bool) (a b : ℕ) where
  -- the value in row a and column b of a matrix is f a b
  matrix-at : a < n → b < n → cell (matrix n f) a b ≡ f a b
  unfolding cell matrix
  matrix-at p q = rw (tabulate-at, tabulate-at)

  -- it is true exactly where a and b are below n and f a b is true
  matrix-true : (cell (matrix n f) a b ≡ true) ↔ ((a < n) × (b < n) × (f a b ≡ true))
  unfolding cell matrix
  matrix-true = (
    λ e.
        by_cases (dec_lt a n)
        (λ p. by_cases (dec_lt b n) (λ q. (p, q, sym (matrix-at p q) ∙ e)) (λ q. absurd (false≢true (rw (tabulate-at, tabulate-past) at e))))
        (λ p. absurd (false≢true (rw tabulate-past at e))),
    λ h. matrix-at h.0 h.1 ∙ h.2,
  )

-- PAIRS

-- a pair of the list is found
pub edge-found : (es : List (ℕ × ℕ)) (a b : ℕ) → (a, b) ∈ es → is_edge es a b ≡ true
unfolding is_edge
edge-found [] a b i = absurd (Memᴰ.not-nil i)
edge-found (e ∷ es) a b i =
    ⊎_elim (λ q. rw (eq-eqb e.0 a (cc), eq-eqb e.1 b (cc))) (λ m. rw (edge-found es a b m, or-true)) (Memᴰ.cases_cons i)

-- what is found is a pair of the list
pub edge-is : (es : List (ℕ × ℕ)) (a b : ℕ) → is_edge es a b ≡ true → (a, b) ∈ es
unfolding is_edge
edge-is [] a b h = absurd (false≢true h)
edge-is (e ∷ es) a b h =
    cases (eqb e.0 a)
    (λ p.
    cases (eqb e.1 b) (λ q. Memᴰ.head (rw (← eqb-true e.0 a p, ← eqb-true e.1 b q)))
    (λ q. Memᴰ.tail (edge-is es a b (rw (p, q) at h))))
    (λ p. Memᴰ.tail (edge-is es a b (rw p at h)))

module _ (n : ℕ) (es : List (ℕ × ℕ)) where
  -- b is reached from a after k rounds
  abbrev Reached : ℕ → ℕ → ℕ → Type 0
  Reached k a b = cell (reach_via n es k) a b ≡ true

  -- what round k finds
  abbrev Round : ℕ → ℕ → ℕ → Type 0
  Round k a b = Reached k a b ⊎ (Reached k a k × Reached k k b)

  -- before the first round, a container is reached from itself and over one way
  via-zero : (a b : ℕ) → Reached zero a b ↔ ((a < n) × (b < n) × ((eqb a b ≡ true) ⊎ (is_edge es a b ≡ true)))
  unfolding reach_via
  via-zero a b = simp (matrix-true, or-iff) Iff.rfl

  -- round k adds what is reached over k
  via-suc : (k a b : ℕ) → Reached (suc k) a b ↔ ((a < n) × (b < n) × Round k a b)
  unfolding reach_via
  via-suc k a b = simp (matrix-true, or-and-iff) Iff.rfl

  -- what is reached after k rounds is below n, and so is what it is reached from
  via-inside : (k a b : ℕ) → Reached k a b → (a < n) × (b < n)
  via-inside zero a b x = let r = (via-zero a b).0 x in (r.0, r.1)
  via-inside (suc k) a b x = let r = (via-suc k a b).0 x in (r.0, r.1)

  -- so it is after all rounds
  pub reaches-inside : (a b : ℕ) → reaches n es a b ≡ true → (a < n) × (b < n)
  reaches-inside = via-inside n

  -- what is reached after k rounds is in the closure
  via-sound : (k a b : ℕ) → Reached k a b → ReflTransGenᴰ (λ x y. (x, y) ∈ es) a b
  via-sound zero a b x =
      ⊎_elim (λ e. subst (ReflTransGenᴰ (λ x y. (x, y) ∈ es) a) (eqb-true a b e) ReflTransGenᴰ.refl) (λ e. ReflTransGenᴰ.single (edge-is es a b e))
      ((via-zero a b).0 x).2
  via-sound (suc k) a b x =
      ⊎_elim (λ y. via-sound k a b y) (λ y. ReflTransGenᴰ.trans (via-sound k a k y.0) (via-sound k k b y.1)) ((via-suc k a b).0 x).2

  -- so it is after all rounds
  pub reaches-sound : (a b : ℕ) → reaches n es a b ≡ true → ReflTransGenᴰ (λ x y. (x, y) ∈ es) a b
  reaches-sound = via-sound n

  -- what is reached before the first round is reached after k rounds
  via-keep : (k a b : ℕ) → Reached zero a b → Reached k a b
  via-keep zero a b x = x
  via-keep (suc k) a b x = let r = via-inside zero a b x in (via-suc k a b).1 (r.0, r.1, inl (via-keep k a b x))

  -- what is reached over a container below k is reached after k rounds
  via-join : (k j a b : ℕ) → j < k → Reached k a j → Reached k j b → Reached k a b
  via-join zero j a b l x y = absurd (not-suc-le-zero l)
  via-join (suc k) j a b l x y =
      let p = (via-suc k a j).0 x in
      let q = (via-suc k j b).0 y in
      (via-suc k a b).1
      (p.0, q.1, by_cases (dec_lt j k) (λ s. below (λ a b. via-join k j a b s) p.2 q.2) (λ s. last (omega arith) p.2 q.2))
    where
      -- where j is below k, each side may itself go over k
      below : ((a b : ℕ) → Reached k a j → Reached k j b → Reached k a b) → Round k a j → Round k j b → Round k a b
      below f (inl u) (inl v) = inl (f a b u v)
      below f (inl u) (inr v) = inr (f a k u v.0, v.1)
      below f (inr u) (inl v) = inr (u.0, f k b u.1 v)
      below f (inr u) (inr v) = inr (u.0, v.1)

      -- where j is k, round k joins the two sides
      last : j ≡ k → Round k a j → Round k j b → Round k a b
      last e u v = inr (⊎_elim (λ x. rw e at x) (λ x. x.0) u, ⊎_elim (λ x. rw e at x) (λ x. x.1) v)

  -- what is in the closure is reached, where the ways have both their ends below n
  pub reaches-complete : Within n es → {a b : ℕ} → a < n → ReflTransGenᴰ (λ x y. (x, y) ∈ es) a b → reaches n es a b ≡ true
  reaches-complete w {a} l ReflTransGenᴰ.refl = via-keep n a a ((via-zero a a).1 (l, l, inl (eq-eqb a a refl)))
  reaches-complete w {a} l (ReflTransGenᴰ.tail {b = b} {c = c} p i) =
      let r = w b c i in
      via-join n b a c r.0 (reaches-complete w l p) (via-keep n b c ((via-zero b c).1 (r.0, r.1, inr (edge-found es b c i))))

-- what is reached by the ways of the enabled flows is Enabled*
pub reaches-enabled :
    (n : ℕ) (h : History) → Within n (edges_of (enabled h)) → (a b : ℕ) → a < n → (reaches n (edges_of (enabled h)) a b ≡ true) ↔ Enabled* h a b
reaches-enabled n h w a b l = (reaches-sound n (edges_of (enabled h)) a b, reaches-complete n (edges_of (enabled h)) w l)

-- what is reached from a container below n is below n, where the ways have both their ends below n
pub reached-inside : (n : ℕ) (es : List (ℕ × ℕ)) → Within n es → {a b : ℕ} → a < n → ReflTransGenᴰ (λ x y. (x, y) ∈ es) a b → b < n
reached-inside n es w {a} {b} l p = (reaches-inside n es a b (reaches-complete n es w l p)).1
