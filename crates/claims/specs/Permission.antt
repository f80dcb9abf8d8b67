-- Which policy sets a container has after a list of calls, found from n and the calls' arguments alone. When it may
-- then be sent, and which questions are answered after such a list: proofs/Permission.antt. Assumes nothing.
use Rattle.std.specs.Prelude.{◌≡◌, Bool, true, ◌&&◌, not, cond, ℕ, ◌<◌, ltb, eqb, get_or}
use mathlib.Core.List.{List, [], ◌∷◌, ◌++◌}
use Rattle.std.proofs.Math.ListN.{length}
use Rattle.tagset.specs.declared.TagSet.{TagSet}
use Rattle.tagset.specs.Set.{has, empty_set, exceeds_of}
use Rattle.outcome.specs.Outcome.{Call, ask, add}

-- THE DEFINITIONS

-- container c of n, which was given `had`, takes p from a call that adds it to d: d is c, there is such a container, p has no tag of n or more, and there
-- are fewer than four
abbrev pub takes : ℕ → ℕ → List TagSet → ℕ → TagSet → Bool
takes n c had d p = eqb d c && ltb c n && not (exceeds_of p n) && ltb (length had) 4

-- the policy sets that the calls give container c of n, after those in `had` and in the order of adding
unfoldable pub given_to : ℕ → ℕ → List TagSet → List Call → List TagSet
given_to n c had [] = had
given_to n c had (ask e ∷ calls) = given_to n c had calls
given_to n c had (add d p ∷ calls) = given_to n c (cond (takes n c had d p) (had ++ (p ∷ [])) had) calls

-- two lists have as many sets, and one by one the same tags
abbrev pub SameSets : List TagSet → List TagSet → Type 0
SameSets xs ys = (length xs ≡ length ys) × ((k t : ℕ) → k < length xs → has (get_or xs k empty_set) t ≡ has (get_or ys k empty_set) t)

-- no tag of the set is n or more
abbrev pub Known : ℕ → TagSet → Type 0
Known n p = (t : ℕ) → has p t ≡ true → t < n
