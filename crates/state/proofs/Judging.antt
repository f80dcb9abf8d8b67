-- How every order on a state begins (`state_order`): its storage is too short (9), its content is not valid (12), or it is usable and what stands after
-- decides. Assumes nothing.
use Rattle.std.specs.Prelude.{◌≡◌, refl, Bool, true, false, not, List, [], ◌∷◌, ◌++◌, ◌⊎◌, ℕ, suc}
use Rattle.std.proofs.Common.{sym, ◌∙◌, inl, inr, ⊎_elim, arith}
use Rattle.std.proofs.lemmas.Bool.{false≢true}
use borrow.Table.Steps.{cases}
use Rattle.refusal.specs.Order.{first_of}
use Rattle.state.specs.State.{Storage, State, bad_size}
use Rattle.state.specs.Valid.{valid_of, state_order}
use Rattle.state.specs.IsValid.{IsSized, IsValid, Usable}
use Rattle.state.proofs.IsValid.{sized, valid}

-- where a size is not right, the test says so
pub too_short : (n : ℕ) (lent : Storage) → ¬ IsSized n lent → bad_size n lent ≡ true
too_short n lent z = cases (bad_size n lent) (λ e. e) (λ e. absurd (z ((sized n lent).0 e)))

-- the same for a state
pub invalid : (s : State) → ¬ IsValid s → valid_of s ≡ false
invalid s z = cases (valid_of s) (λ e. absurd (z ((valid s).0 e))) (λ e. e)

-- and where both are right
pub sized-state : (s : State) → Usable s → bad_size s.header.containers s.storage ≡ false
sized-state s u = (sized s.header.containers s.storage).1 u.sized

pub valid-state : (s : State) → Usable s → valid_of s ≡ true
valid-state s u = (valid s).1 u.valid

-- a storage is long enough or not; if it is, the state is valid or not
pub size-cases : (n : ℕ) (lent : Storage) → IsSized n lent ⊎ (¬ IsSized n lent)
size-cases n lent = cases (bad_size n lent) (λ e. inr (λ z. false≢true (sym ((sized n lent).1 z) ∙ e))) (λ e. inl ((sized n lent).0 e))

valid-cases : (s : State) → IsValid s ⊎ (¬ IsValid s)
valid-cases s = cases (valid_of s) (λ e. inl ((valid s).0 e)) (λ e. inr (λ v. false≢true (sym e ∙ (valid s).1 v)))

-- so what holds of a storage that is too short, of an invalid state and of a usable one holds of all
pub by_state : {P : Type 0} (s : State) → (¬ IsSized s.header.containers s.storage → P) → (IsSized s.header.containers s.storage → ¬ IsValid s → P)
    → (Usable s → P) → P
by_state s short wrong right =
    ⊎_elim (λ z. ⊎_elim (λ v. right (record { sized = z; valid = v })) (λ v. wrong z v) (valid-cases s)) short
    (size-cases s.header.containers s.storage)

module _ (s : State) where
  -- a state in which nothing is refused is usable
  pub judged-usable : first_of (state_order s) 0 ≡ 0 → Usable s
  judged-usable e = go (bad_size s.header.containers s.storage) (valid_of s) refl refl e
    where
      go : (b v : Bool) → bad_size s.header.containers s.storage ≡ b → valid_of s ≡ v → first_of {A = ℕ} ((b, 9) ∷ (not v, 12) ∷ []) 0 ≡ 0 → Usable s
      go true v p q e = absurd (omega (arith, e))
      go false false p q e = absurd (omega (arith, e))
      go false true p q e = record { sized = (sized s.header.containers s.storage).0 p; valid = (valid s).0 q }

  -- a refusal of the state comes before all others
  pub judged-first : (k : ℕ) (rest : List (Bool × ℕ)) → first_of (state_order s) 0 ≡ suc k → first_of (state_order s ++ rest) 0 ≡ suc k
  judged-first k rest = go (bad_size s.header.containers s.storage) (not (valid_of s))
    where
      go : (a b : Bool) → first_of {A = ℕ} ((a, 9) ∷ (b, 12) ∷ []) 0 ≡ suc k → first_of {A = ℕ} ((a, 9) ∷ (b, 12) ∷ rest) 0 ≡ suc k
      go true b e = e
      go false true e = e
      go false false e = absurd (omega (arith, e))

  -- the number that an order on this state gives: 9, 12, or that of what stands after
  pub short-first : (rest : List (Bool × ℕ)) → ¬ IsSized s.header.containers s.storage → first_of (state_order s ++ rest) 0 ≡ 9
  short-first rest z = rw (too_short s.header.containers s.storage z) refl

  pub invalid-first : (rest : List (Bool × ℕ)) → IsSized s.header.containers s.storage → ¬ IsValid s → first_of (state_order s ++ rest) 0 ≡ 12
  invalid-first rest z v = rw ((sized s.header.containers s.storage).1 z, invalid s v) refl

  pub usable-first : (rest : List (Bool × ℕ)) → Usable s → first_of (state_order s ++ rest) 0 ≡ first_of rest 0
  usable-first rest u = rw (sized-state s u, valid-state s u) refl
