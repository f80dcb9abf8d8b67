-- The sets found, from pass to pass: which containers' sets may differ from those of now; these are out.
-- Assumes nothing.
use Rattle.std.specs.Prelude.{◌≡◌, ◌⊎◌, ◌≢◌, ℕ, ◌<◌, List}
use Rattle.std.proofs.Common.{sym, ◌∙◌, subst, inl, inr, ⊎_elim}
use Rattle.std.proofs.Math.Logic.{by_cases}
use Rattle.std.proofs.Math.Decide.{ℕ_discrete}
use Rattle.state.specs.State.{set_at}

-- the sets found are the first n sets of these words, but for the containers that are out
pub record Found (n : ℕ) (Out : ℕ → Type 0) (found ws : List ℕ) : Type 0 where
  pub at : (a : ℕ) → a < n → Out a ⊎ (set_at found a ≡ set_at ws a)

-- where none is out they are all
pub found-whole : {n : ℕ} {Out : ℕ → Type 0} {found ws : List ℕ} → ((a : ℕ) → Out a → ⊥) → Found n Out found ws
    → (a : ℕ) → a < n → set_at found a ≡ set_at ws a
found-whole none f a l = ⊎_elim (λ w. absurd (none a w)) (λ e. e) (f.at a l)

-- and where they are all, none is out
pub found-all : {n : ℕ} {Out : ℕ → Type 0} {found ws : List ℕ} → ((a : ℕ) → a < n → set_at found a ≡ set_at ws a)
    → Found n Out found ws
found-all same = record { at = λ a l. inr (same a l) }

-- the containers that are out are out among more
pub found-among : {n : ℕ} {Out Out' : ℕ → Type 0} {found ws : List ℕ} → ((a : ℕ) → Out a → Out' a)
    → Found n Out found ws → Found n Out' found ws
found-among more f = record { at = λ a l. ⊎_elim (λ w. inl (more a w)) inr (f.at a l) }

-- the set of one container more has changed, which is out then
pub found-wider : {n : ℕ} {Out Out' : ℕ → Type 0} {found ws : List ℕ} (b : ℕ) {ws' : List ℕ} → Out' b
    → ((a : ℕ) → Out a → Out' a) → Found n Out found ws → ((a : ℕ) → a ≢ b → set_at ws' a ≡ set_at ws a)
    → Found n Out' found ws'
found-wider {Out' = Out'} b here wider f same = record {
  at = λ a l.
      by_cases (ℕ_discrete a b) (λ q. inl (subst Out' (sym q) here))
      (λ q. ⊎_elim (λ w. inl (wider a w)) (λ e. inr (e ∙ sym (same a q))) (f.at a l));
}
