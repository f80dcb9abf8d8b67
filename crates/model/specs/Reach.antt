-- Which containers are reached from which, computed: Warshall's closure. Law `reaches-enabled` of Closure.antt says that it is Enabled*.
-- Assumes nothing.
use Rattle.std.specs.Prelude.{Bool, false, ◌&&◌, ◌||◌, List, [], ◌∷◌, ℕ, zero, suc, eqb, get_or}

-- f 0, f 1, .. f (n - 1)
unfoldable pub tabulate {ℓ} : {A : Type ℓ} → ℕ → (ℕ → A) → List A
tabulate zero f = []
tabulate (suc n) f = f zero ∷ tabulate n (λ i. f (suc i))

-- n rows of n truth values, and the value in row a and column b, false outside
unfoldable pub matrix : ℕ → (ℕ → ℕ → Bool) → List (List Bool)
matrix n f = tabulate n (λ a. tabulate n (λ b. f a b))

unfoldable pub cell : List (List Bool) → ℕ → ℕ → Bool
cell m a b = get_or (get_or m a []) b false

-- (a, b) is one of these pairs
unfoldable pub is_edge : List (ℕ × ℕ) → ℕ → ℕ → Bool
is_edge [] a b = false
is_edge (e ∷ es) a b = (eqb e.0 a && eqb e.1 b) || is_edge es a b

-- which containers below n are reached from which by ways whose inner containers are below k
unfoldable pub reach_via : ℕ → List (ℕ × ℕ) → ℕ → List (List Bool)
reach_via n es zero = matrix n (λ a b. eqb a b || is_edge es a b)
reach_via n es (suc k) = let m = reach_via n es k in matrix n (λ a b. cell m a b || (cell m a k && cell m k b))

-- which containers below n are reached from which; and b is reached from a
abbrev pub reachable : ℕ → List (ℕ × ℕ) → List (List Bool)
reachable n es = reach_via n es n

abbrev pub reaches : ℕ → List (ℕ × ℕ) → ℕ → ℕ → Bool
reaches n es a b = cell (reachable n es) a b
