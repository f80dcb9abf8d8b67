-- A flow is enabled exactly if it was enabled and since then no event disabled its number (`standing`: document 000, section 3.2).
-- Assumes nothing.
use Rattle.std.specs.Prelude.{◌≡◌, refl, ◌↔◌, ◌≢◌, true, List, [], ◌∷◌, ℕ, ◌<◌, eqb}
use Rattle.std.proofs.Common.{sym, ap, subst, ⊎_elim, arith, eqb-true, eq-eqb}
use Rattle.std.proofs.Math.Bool.{or-true}
use Rattle.std.proofs.lemmas.Bool.{false≢true, eqb-false}
use mathlib.Core.List.Memᴰ
use borrow.Table.Steps.{cases}
use Rattle.model.specs.declared.Flow.{Flow}
use Rattle.model.specs.Model.{enable, disable, History, empty, ◌▸◌, ◌∈◌, without, keep, enabled, edges, edges_of, Enabled, is_enabled}
use Rattle.model.specs.Closure.{Within}
use Rattle.model.specs.Standing.{Standing, here, later}

-- WITHOUT A NUMBER

-- a flow that is left is one of those that were, and its number is another
without_is : (k : ℕ) (fs : List Flow) {f : Flow} → f ∈ without k fs → (f ∈ fs) × (f.number ≢ k)
unfolding without keep
without_is k [] i = absurd (Memᴰ.not-nil i)
without_is k (g ∷ fs) i =
    cases (eqb g.number k)
    (λ e. let r = without_is k fs (rw e at i) in (Memᴰ.tail r.0, r.1))
    (λ e.
    ⊎_elim (λ q. (Memᴰ.head q, λ z. eqb-false g.number k e (cc))) (λ m. let r = without_is k fs m in (Memᴰ.tail r.0, r.1))
    (Memᴰ.cases_cons (rw e at i)))

-- it is one of those that were
pub without-part : (k : ℕ) (fs : List Flow) {f : Flow} → f ∈ without k fs → f ∈ fs
without-part k fs i = (without_is k fs i).0

-- its number is another
pub without_other : (k : ℕ) (fs : List Flow) {f : Flow} → f ∈ without k fs → f.number ≢ k
without_other k fs i = (without_is k fs i).1

-- a flow whose number is another is left
pub without-keeps : (k : ℕ) (fs : List Flow) {f : Flow} → f ∈ fs → f.number ≢ k → f ∈ without k fs
unfolding without keep
without-keeps k [] i n = i
without-keeps k (g ∷ fs) i n =
    cases (eqb g.number k)
    (λ e. rw e (⊎_elim (λ q. absurd (n (cc (eqb-true g.number k e)))) (λ m. without-keeps k fs m n) (Memᴰ.cases_cons i)))
    (λ e. rw e (⊎_elim (λ q. Memᴰ.head q) (λ m. Memᴰ.tail (without-keeps k fs m n)) (Memᴰ.cases_cons i)))

-- a flow that is enabled is standing: the last event enabled it, or it was standing before and the last event is no disable of its number
enabled-standing : (f : Flow) (h : History) → f ∈ enabled h → Standing f h
unfolding enabled
enabled-standing f empty i = absurd (Memᴰ.not-nil i)
enabled-standing f (h ▸ enable g) i =
    ⊎_elim (λ m. later (enable g) (enabled-standing f h m) (λ q. let z : ◌≡◌ {A = ℕ} 0 1 = cc in omega arith))
    (λ m. subst (λ (x : Flow). Standing f (h ▸ enable x)) (Memᴰ.eq_of_singleton m) here) (Memᴰ.append_cases (enabled h) i)
enabled-standing f (h ▸ disable k) i =
    later (disable k) (enabled-standing f h (without-part k (enabled h) i)) (λ q. without_other k (enabled h) i (cc))

-- a flow that is standing is enabled: an enable adds a flow and keeps the others, a disable keeps those with another number
standing-enabled : {f : Flow} {h : History} → Standing f h → f ∈ enabled h
unfolding enabled
standing-enabled (here {h}) = Memᴰ.append_right (enabled h) (Memᴰ.head refl)
standing-enabled (later (enable g) s n) = Memᴰ.append_left (g ∷ []) (standing-enabled s)
standing-enabled (later {h} (disable k) s n) = without-keeps k (enabled h) (standing-enabled s) (λ e. n (ap disable (sym e)))

-- a flow is enabled exactly if it was enabled and since then no event disabled its number
pub standing : (f : Flow) (h : History) → (f ∈ enabled h) ↔ Standing f h
standing f h = (enabled-standing f h, standing-enabled)

-- WITH A NUMBER

-- where the test for k holds, one of the flows has number k
pub enabled-number : (k : ℕ) (fs : List Flow) → is_enabled k fs ≡ true → (f : Flow) × (f ∈ fs) × (f.number ≡ k)
unfolding is_enabled
enabled-number k [] e = absurd (false≢true e)
enabled-number k (g ∷ fs) e =
    cases (eqb g.number k) (λ q. (g, Memᴰ.head refl, eqb-true g.number k q))
    (λ q. let w = enabled-number k fs (rw q at e) in (w.0, Memᴰ.tail w.1, w.2))

-- where one of the flows has number k, the test holds
pub number-enabled : (k : ℕ) (fs : List Flow) {f : Flow} → f ∈ fs → f.number ≡ k → is_enabled k fs ≡ true
unfolding is_enabled
number-enabled k [] i n = absurd (Memᴰ.not-nil i)
number-enabled k (g ∷ fs) {f} i n =
    ⊎_elim (λ q. rw (eq-eqb g.number k (cc))) (λ m. rw (number-enabled k fs {f = f} m n, or-true)) (Memᴰ.cases_cons i)

-- WAYS

-- a way of all the flows is a way of one of them
pub edge_of : (fs : List Flow) {a b : ℕ} → (a, b) ∈ edges_of fs → (f : Flow) × (f ∈ fs) × ((a, b) ∈ edges f)
unfolding edges_of
edge_of [] i = absurd (Memᴰ.not-nil i)
edge_of (f ∷ fs) i =
    ⊎_elim (λ m. (f, Memᴰ.head refl, m)) (λ m. let w = edge_of fs m in (w.0, Memᴰ.tail w.1, w.2)) (Memᴰ.append_cases (edges f) i)

-- a way of one of the flows is a way of all
pub of-edge : (fs : List Flow) {f : Flow} {a b : ℕ} → f ∈ fs → (a, b) ∈ edges f → (a, b) ∈ edges_of fs
unfolding edges_of
of-edge [] i j = absurd (Memᴰ.not-nil i)
of-edge (g ∷ fs) {f} {a} {b} i j =
    ⊎_elim (λ q. Memᴰ.append_left (edges_of fs) (subst (λ (x : Flow). (a, b) ∈ edges x) q j)) (λ m. Memᴰ.append_right (edges g) (of-edge fs m j))
    (Memᴰ.cases_cons i)

-- WHAT ONE FLOW CARRIES: the only lemmas of the model on the shape of `edges`

-- a way of a flow goes from its one end to its other
pub edge-ends : (f : Flow) {a b : ℕ} → (a, b) ∈ edges f → (a ≡ f.from) × (b ≡ f.to)
edge-ends f i = ⊎_elim (λ q. (ap (λ (e : ℕ × ℕ). e.0) q, ap (λ (e : ℕ × ℕ). e.1) q)) (λ m. absurd (Memᴰ.not-nil m)) (Memᴰ.cases_cons i)

pub ends-edge : (f : Flow) → (f.from, f.to) ∈ edges f
ends-edge f = Memᴰ.head refl

-- (a, b) ∈ Enabled exactly if a flow from a to b is enabled
pub enabled-flow : (h : History) (a b : ℕ) → Enabled h a b ↔ ((f : Flow) × (f ∈ enabled h) × (f.from ≡ a) × (f.to ≡ b))
enabled-flow h a b = (fore, λ (f, m, p, q). of-edge (enabled h) m (subst (λ (x : ℕ × ℕ). x ∈ edges f) (λ i. (p i, q i)) (ends-edge f)))
  where
    fore : Enabled h a b → (f : Flow) × (f ∈ enabled h) × (f.from ≡ a) × (f.to ≡ b)
    fore i = let w = edge_of (enabled h) i in let e = edge-ends w.0 w.2 in (w.0, w.1, sym e.0, sym e.1)

-- where all flows have their ends below n, so have their ways
pub within-flows : (n : ℕ) (fs : List Flow) → ((f : Flow) → f ∈ fs → (f.from < n) × (f.to < n)) → Within n (edges_of fs)
within-flows n fs p a b i = let w = edge_of fs i in let e = edge-ends w.0 w.2 in let r = p w.0 w.1 in (omega (arith, e.0, r.0), omega (arith, e.1, r.1))
