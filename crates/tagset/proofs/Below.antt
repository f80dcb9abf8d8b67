-- A test at every number below n: how many pass, whether all do, whether any does.
-- Assumes nothing.
use Rattle.std.specs.Prelude.{◌≡◌, refl, Bool, true, false, ◌&&◌, ◌||◌, not, ℕ, zero, suc, ◌+◌, ◌≤◌, ◌<◌, eqb}
use Rattle.std.proofs.Common.{sym, ap, ap₂, ◌∙◌, ⊎_elim, add-zero, add-suc, le_refl, lt_trans, not-suc-le-zero, le_of_suc-le-suc, eq-or-lt_of_le, arith, eqb-true, ne_eqb}
use Rattle.std.proofs.lemmas.Bool.{false≢true, eqb-false}
use Rattle.std.proofs.Math.Bool.{not-not}
use Rattle.std.proofs.Math.Nat.{add_left_comm}
use Rattle.std.proofs.Math.Arith.{lt_of_le-ne}
use borrow.Table.Steps.{cases}
use Rattle.truth.specs.Truth.{and_both}
use Rattle.tagset.specs.Set.{one, count_below, all_below, any_below}

-- what holds of each number below n + 1 holds of n, and of each below n
last : {P : ℕ → Type 0} (n : ℕ) → ((k : ℕ) → k < suc n → P k) → P n
last n h = h n (le_refl (suc n))

init : {P : ℕ → Type 0} (n : ℕ) → ((k : ℕ) → k < suc n → P k) → (k : ℕ) → k < n → P k
init n h k l = h k (lt_trans l (le_refl (suc n)))

-- tests that agree below n count the same
pub count-cong : (n : ℕ) (f g : ℕ → Bool) → ((k : ℕ) → k < n → f k ≡ g k) → count_below n f ≡ count_below n g
unfolding count_below
count-cong zero f g h = refl
count-cong (suc n) f g h = ap₂ (λ (x : Bool) (y : ℕ). one x + y) (last n h) (count-cong n f g (init n h))

-- a count in two parts
pub count_add : (m n : ℕ) (f : ℕ → Bool) → count_below (m + n) f ≡ count_below m f + count_below n (λ k. f (m + k))
unfolding count_below
count_add m zero f = ap (λ (x : ℕ). count_below x f) (add-zero m) ∙ sym (add-zero (count_below m f))
count_add m (suc n) f =
    ap (λ (x : ℕ). count_below x f) (add-suc m n)
    ∙ ap (λ (x : ℕ). one (f (m + n)) + x) (count_add m n f)
    ∙ add_left_comm (one (f (m + n))) (count_below m f) (count_below n (λ k. f (m + k)))

-- a test that is one of two others, never both, counts their sum
pub count-sum : (n : ℕ) (f g h : ℕ → Bool) → ((k : ℕ) → k < n → one (f k) ≡ one (g k) + one (h k))
    → count_below n f ≡ count_below n g + count_below n h
unfolding count_below
count-sum zero f g h e = refl
count-sum (suc n) f g h e = omega (arith, last n e, count-sum n f g h (init n e))

-- a test that fails below n counts nothing, and one that counts nothing fails below n
pub count_none : (n : ℕ) (f : ℕ → Bool) → ((k : ℕ) → k < n → f k ≡ false) → count_below n f ≡ 0
unfolding count_below
count_none zero f h = refl
count_none (suc n) f h = ap₂ (λ (x : Bool) (y : ℕ). one x + y) (last n h) (count_none n f (init n h))

pub none-counted : (n : ℕ) (f : ℕ → Bool) → count_below n f ≡ 0 → (k : ℕ) → k < n → f k ≡ false
unfolding count_below
none-counted zero f e k h = absurd (not-suc-le-zero h)
none-counted (suc n) f e k h =
    ⊎_elim (λ q. ap f q ∙ clear (f n) (omega arith)) (λ l. none-counted n f (omega arith) k l) (eq-or-lt_of_le (le_of_suc-le-suc h))
  where
    clear : (b : Bool) → one b ≡ 0 → b ≡ false
    clear true z = absurd (omega arith)
    clear false z = refl

-- one number below n is t, where t is below n
pub count-one : (n t : ℕ) → t < n → count_below n (λ k. eqb k t) ≡ 1
unfolding count_below
count-one zero t h = absurd (not-suc-le-zero h)
count-one (suc n) t h =
    cases (eqb n t)
    (λ e. ap₂ (λ (x : Bool) (y : ℕ). one x + y) e
    (count_none n (λ k. eqb k t) (λ k l. ne_eqb k t (λ q. omega (arith, eqb-true n t e)))))
    (λ e. ap₂ (λ (x : Bool) (y : ℕ). one x + y) e
    (count-one n t (lt_of_le-ne (le_of_suc-le-suc h) (λ q. eqb-false n t e (sym q)))))

-- a count below n is at most n
pub count-le : (n : ℕ) (f : ℕ → Bool) → count_below n f ≤ n
unfolding count_below
count-le zero f = omega arith
count-le (suc n) f = omega (arith, at_most (f n), count-le n f)
  where
    at_most : (b : Bool) → one b ≤ 1
    at_most true = omega arith
    at_most false = omega arith

-- where all pass, each does, and the other way
pub all-at : (n : ℕ) (f : ℕ → Bool) → all_below n f ≡ true → (k : ℕ) → k < n → f k ≡ true
unfolding all_below
all-at zero f e k h = absurd (not-suc-le-zero h)
all-at (suc n) f e k h =
    let p = and_both (f n) (all_below n f) e in
    ⊎_elim (λ q. ap f q ∙ p.0) (λ l. all-at n f p.1 k l) (eq-or-lt_of_le (le_of_suc-le-suc h))

pub all-make : (n : ℕ) (f : ℕ → Bool) → ((k : ℕ) → k < n → f k ≡ true) → all_below n f ≡ true
unfolding all_below
all-make zero f h = refl
all-make (suc n) f h = ap₂ (λ (x y : Bool). x && y) (last n h) (all-make n f (init n h))

-- any passes where not all pass the opposite test
pub any-not-all : (n : ℕ) (f g : ℕ → Bool) → ((k : ℕ) → k < n → f k ≡ not (g k)) → any_below n f ≡ not (all_below n g)
unfolding any_below all_below
any-not-all zero f g h = refl
any-not-all (suc n) f g h = ap₂ (λ (x y : Bool). x || y) (last n h) (any-not-all n f g (init n h)) ∙ de-morgan (g n) (all_below n g)
  where
    de-morgan : (a b : Bool) → not a || not b ≡ not (a && b)
    de-morgan true b = refl
    de-morgan false b = refl

-- where any passes, some number does, and the other way
pub any-find : (n : ℕ) (f : ℕ → Bool) → any_below n f ≡ true → (k : ℕ) × (k < n) × (f k ≡ true)
unfolding any_below
any-find zero f e = absurd (false≢true e)
any-find (suc n) f e = pick (f n) refl e (any-find n f)
  where
    pick : (b : Bool) → f n ≡ b → b || any_below n f ≡ true → (any_below n f ≡ true → (k : ℕ) × (k < n) × (f k ≡ true))
        → (k : ℕ) × (k < suc n) × (f k ≡ true)
    pick true q p r = (n, le_refl (suc n), q)
    pick false q p r = let w = r p in (w.0, lt_trans w.1 (le_refl (suc n)), w.2)

pub any-make : (n : ℕ) (f : ℕ → Bool) (k : ℕ) → k < n → f k ≡ true → any_below n f ≡ true
any-make n f k h p =
    any-not-all n f (λ t. not (f t)) (λ t l. sym (not-not (f t)))
    ∙ ap not
    (cases (all_below n (λ t. not (f t)))
    (λ e. absurd (false≢true (sym (ap not p) ∙ all-at n (λ t. not (f t)) e k h)))
    (λ e. e))
