-- Tag sets read and written in a list of words, four words a set. Assumes nothing.
use Rattle.std.specs.Prelude.{cond, List, ◌++◌, ℕ, zero, suc, ◌+◌, ◌*◌, ◌/◌, min, leb, length, get_or, set, drop, replicate}
use Rattle.tagset.specs.declared.TagSet.{TagSet}
use Rattle.tagset.specs.Set.{empty_set, size_of}
use Rattle.state.specs.State.{set_at}

-- set k, or the empty set where the words do not have it whole
unfoldable pub load_of : List ℕ → ℕ → TagSet
load_of ws k = cond (leb (length ws / 4) k) empty_set (set_at ws k)

-- the words with set k replaced
unfoldable pub put_set : List ℕ → ℕ → TagSet → List ℕ
put_set ws k s =
    set (set (set (set ws (4 * k) (get_or s.words 0 0)) (4 * k + 1) (get_or s.words 1 0)) (4 * k + 2) (get_or s.words 2 0)) (4 * k + 3) (get_or s.words 3 0)

-- the same, or the words as they were where they do not have it whole
unfoldable pub store_of : List ℕ → ℕ → TagSet → List ℕ
store_of ws k s = cond (leb (length ws / 4) k) ws (put_set ws k s)

-- the value in place of the first m elements, or of all where there are fewer
unfoldable pub filled_front : {A : Type 0} → A → ℕ → List A → List A
filled_front v m l = replicate (min m (length l)) v ++ drop m l

-- how many (tag, container) pairs the first n sets hold: their sizes
unfoldable pub total_of : ℕ → List ℕ → ℕ
total_of zero ws = 0
total_of (suc n) ws = size_of (set_at ws n) + total_of n ws
