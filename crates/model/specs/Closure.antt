-- Ways that have both their ends below n. That Warshall's closure of these is the reflexive and transitive one:
-- `reaches-enabled`, proofs/Closure.antt. Assumes nothing.
use Rattle.std.specs.Prelude.{List, ℕ, ◌<◌}
use Rattle.model.specs.Model.{◌∈◌}

-- every way has both its ends below n
abbrev pub Within : ℕ → List (ℕ × ℕ) → Type 0
Within n es = (a b : ℕ) → (a, b) ∈ es → (a < n) × (b < n)
