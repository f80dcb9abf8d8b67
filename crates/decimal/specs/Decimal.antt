-- Numbers as text: decimal digits in ASCII, no zero in front. Assumes nothing.
use Rattle.std.specs.Prelude.{true, false, List, [], ◌∷◌, ◌++◌, ℕ, zero, suc, ◌+◌, ◌-◌, ◌*◌, ◌/◌, ◌%◌, ltb}

-- the digits of v, the highest first; d bounds the recursion, and v itself is always enough
unfoldable pub digits : ℕ → ℕ → List ℕ
digits zero v = (48 + v) ∷ []
digits (suc d) v = elim (ltb v 10) [ true ↦ (48 + v) ∷ [] | false ↦ digits d (v / 10) ++ ((48 + v % 10) ∷ []) ]

-- the digits of v. proofs/Laws.antt: each is one of `0` to `9`, the first is not `0` where there are several, and read as a number they give v
unfoldable pub decimal_of : ℕ → List ℕ
unfolding digits
decimal_of v = digits v v

-- the number that digits stand for, behind digits that stand for v, and by themselves
unfoldable pub read_on : ℕ → List ℕ → ℕ
read_on v [] = v
read_on v (d ∷ ds) = read_on (10 * v + (d - 48)) ds

unfoldable pub number_of : List ℕ → ℕ
unfolding read_on
number_of ds = read_on 0 ds
