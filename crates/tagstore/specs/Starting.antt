-- Laws of what starting writes: a value in front, and own tags, where the list is long enough. Assumes nothing.
use Rattle.std.specs.Prelude.{◌≡◌, List, ◌++◌, ℕ, ◌*◌, ◌/◌, ◌≤◌, min, length, drop, replicate}
use Rattle.std.proofs.Common.{ap, arith}
use Rattle.tagset.specs.Set.{single_of}
use Rattle.state.specs.State.{with_sets}
use Rattle.tagstore.specs.Store.{filled_front}

-- A VALUE IN FRONT

-- where the list has m elements, these are v and the rest is as it was
pub filled-front : {A : Type 0} (v : A) (m : ℕ) (l : List A) → m ≤ length l → filled_front v m l ≡ replicate m v ++ drop m l
unfolding filled_front
filled-front {A} v m l h = ap (λ (k : ℕ). replicate k v ++ drop m l) (omega (arith, h))

-- SETS

-- where the words have n sets, each of the first n containers gets its own tag
pub own-all : (n : ℕ) (ws : List ℕ) → 4 * n ≤ length ws → with_sets (min n (length ws / 4)) single_of ws ≡ with_sets n single_of ws
own-all n ws h = ap (λ (k : ℕ). with_sets k single_of ws) (omega (arith, h))
