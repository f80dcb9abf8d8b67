-- What it says of numbers and of its parts that a test passes or fails. Assumes nothing.
use Rattle.std.specs.Prelude.{◌≡◌, refl, Bool, true, false, ◌&&◌, ◌||◌, not, ◌⊎◌, ◌↔◌, ◌≢◌, ℕ, ◌≤◌, ◌<◌, leb, ltb, eqb}
use Rattle.std.proofs.Common.{sym, ap, inl, inr, ⊎_elim, ltb-true, ltb-false, leb-true, eqb-true, lt-ltb, le-ltb, le-leb, eq-eqb, ne_eqb}
use Rattle.std.proofs.lemmas.Bool.{false≢true, eqb-false, not-true}

-- tests that pass together are the same
pub iff : (p q : Bool) → (p ≡ true → q ≡ true) → (q ≡ true → p ≡ true) → p ≡ q
iff true q f g = sym (f refl)
iff false true f g = g refl
iff false false f g = refl

-- a conjunction that holds gives both sides, and the other way
pub and_both : (a b : Bool) → a && b ≡ true → (a ≡ true) × (b ≡ true)
and_both true b e = (refl, e)
and_both false b e = absurd (false≢true e)

pub both-and : {a b : Bool} → a ≡ true → b ≡ true → a && b ≡ true
both-and {a = true} p q = q
both-and {a = false} p q = p

-- a disjunction that holds gives a side, and the other way
pub or-either : (a b : Bool) → a || b ≡ true → (a ≡ true) ⊎ (b ≡ true)
or-either true b e = inl refl
or-either false b e = inr e

pub left_or : {a : Bool} (b : Bool) → a ≡ true → a || b ≡ true
left_or {a = true} b p = refl
left_or {a = false} b p = absurd (false≢true p)

pub right_or : (a : Bool) {b : Bool} → b ≡ true → a || b ≡ true
right_or true p = refl
right_or false p = p

-- WHAT EACH TEST SAYS, both ways, as `simp` takes it

-- both tests pass
pub and-iff : (a b : Bool) → (a && b ≡ true) ↔ ((a ≡ true) × (b ≡ true))
and-iff a b = (and_both a b, λ p. both-and p.0 p.1)

-- one of the tests passes
pub or-iff : (a b : Bool) → (a || b ≡ true) ↔ ((a ≡ true) ⊎ (b ≡ true))
or-iff a b = (or-either a b, ⊎_elim (left_or b) (right_or a))

-- the first does, or both of the others
pub or-and-iff : (a b c : Bool) → (a || (b && c) ≡ true) ↔ ((a ≡ true) ⊎ ((b ≡ true) × (c ≡ true)))
or-and-iff true b c = (λ e. inl refl, λ s. refl)
or-and-iff false b c = (λ e. inr (and_both b c e), ⊎_elim (λ e. absurd (false≢true e)) (λ s. both-and s.0 s.1))

-- neither test passes
pub neither-iff : (a b : Bool) → (a || b ≡ false) ↔ ((a ≡ false) × (b ≡ false))
neither-iff true b = (λ e. (e, absurd (false≢true (sym e))), λ p. p.0)
neither-iff false b = (λ e. (refl, e), λ p. p.1)

-- a test fails
pub not_iff : (a : Bool) → (not a ≡ true) ↔ (a ≡ false)
not_iff a = (not-true a, λ e. ap not e)

-- a number is at most another
pub le_iff : (a b : ℕ) → (leb a b ≡ true) ↔ (a ≤ b)
le_iff a b = (leb-true a b, le-leb a b)

-- a number is below another, or it is not
pub lt_iff : (a b : ℕ) → (ltb a b ≡ true) ↔ (a < b)
lt_iff a b = (ltb-true a b, lt-ltb a b)

pub not-lt-iff : (a b : ℕ) → (ltb a b ≡ false) ↔ (b ≤ a)
not-lt-iff a b = (ltb-false a b, le-ltb a b)

-- two numbers are the same, or they differ
pub eq_iff : (a b : ℕ) → (eqb a b ≡ true) ↔ (a ≡ b)
eq_iff a b = (eqb-true a b, eq-eqb a b)

pub ne_iff : (a b : ℕ) → (eqb a b ≡ false) ↔ (a ≢ b)
ne_iff a b = (eqb-false a b, ne_eqb a b)
