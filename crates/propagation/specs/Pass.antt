-- What propagation does (document 01, 'What events do': the spread). 'The spread stops at the first full pass over the open channels that adds no tag.
-- Within one pass each channel reads the sets as the pass found them.' Assumes nothing.
use Rattle.std.specs.Prelude.{Bool, ◌&&◌, not, cond, List, [], ◌∷◌, ℕ, zero, suc, ◌+◌, ◌*◌, ◌/◌, min, ltb, length}
use Rattle.model.specs.declared.Flow.{Flow}
use Rattle.model.specs.Model.{edges_of}
use Rattle.tagset.specs.Set.{has, union_of, count_below}
use Rattle.state.specs.State.{set_at}
use Rattle.tagstore.specs.Store.{put_set, total_of}

-- ONE PASS over edges, each a source and a destination; `found` are the sets as the pass found them

-- both ends are below n; any other edge carries nothing
abbrev pub inside : ℕ → ℕ × ℕ → Bool
inside n e = ltb e.0 n && ltb e.1 n

-- an edge carries: its destination gets what its source has in the sets found
unfoldable pub carried : ℕ → List ℕ → ℕ × ℕ → List ℕ → List ℕ
carried n found e ws = cond (inside n e) (put_set ws e.1 (union_of (set_at ws e.1) (set_at found e.0))) ws

-- and how many tags are new to the destination
unfoldable pub new_tags : ℕ → List ℕ → ℕ × ℕ → List ℕ → ℕ
new_tags n found e ws = cond (inside n e) (count_below 256 (λ t. has (set_at found e.0) t && not (has (set_at ws e.1) t))) 0

-- the edges carry in their order, all from the same sets found
unfoldable pub carried_all : ℕ → List ℕ → List (ℕ × ℕ) → List ℕ → List ℕ
carried_all n found [] ws = ws
carried_all n found (e ∷ es) ws = carried_all n found es (carried n found e ws)

-- the tags that are new, counted as each edge carries
unfoldable pub new_in_all : ℕ → List ℕ → List (ℕ × ℕ) → List ℕ → ℕ
new_in_all n found [] ws = 0
new_in_all n found (e ∷ es) ws = new_tags n found e ws + new_in_all n found es (carried n found e ws)

-- a pass: the sets found are those at its beginning
unfoldable pub pass : ℕ → List (ℕ × ℕ) → List ℕ → List ℕ
pass n es ws = carried_all n ws es ws

-- PASSES, one after the other

-- the sets after m passes
unfoldable pub passed : ℕ → ℕ → List (ℕ × ℕ) → List ℕ → List ℕ
passed zero n es ws = ws
passed (suc m) n es ws = passed m n es (pass n es ws)

-- the tags that are new in m passes
unfoldable pub new_in_passes : ℕ → ℕ → List (ℕ × ℕ) → List ℕ → ℕ
new_in_passes zero n es ws = 0
new_in_passes (suc m) n es ws = new_in_all n ws es ws + new_in_passes m n es (pass n es ws)

-- a pass adds a tag: the first n sets have more (tag, container) pairs after it
unfoldable pub adds : ℕ → List (ℕ × ℕ) → List ℕ → Bool
adds n es ws = ltb (total_of n ws) (total_of n (pass n es ws))

-- how many passes there are up to the first that adds no tag, which counts, if no more than `most` add one
unfoldable pub passes_up_to : ℕ → ℕ → List (ℕ × ℕ) → List ℕ → ℕ
passes_up_to zero n es ws = 1
passes_up_to (suc most) n es ws = cond (adds n es ws) (suc (passes_up_to most n es (pass n es ws))) 1

-- THE NUMBER OF PASSES: n sets of at most 256 tags can grow 256 n times
unfoldable pub passes_of : ℕ → List (ℕ × ℕ) → List ℕ → ℕ
passes_of n es ws = passes_up_to (256 * n) n es ws

-- PROPAGATION along flows, for any n and words: of n sets those that the words have, at most 256
unfoldable pub sets_in : ℕ → List ℕ → ℕ
sets_in n ws = min n (min 256 (length ws / 4))

-- the number of passes, the sets after them, and the (tag, container) pairs added
unfoldable pub pass_count : ℕ → List Flow → List ℕ → ℕ
pass_count n fs ws = passes_of (sets_in n ws) (edges_of fs) ws

unfoldable pub sets_after : ℕ → List Flow → List ℕ → List ℕ
sets_after n fs ws = passed (pass_count n fs ws) (sets_in n ws) (edges_of fs) ws

unfoldable pub pairs_added : ℕ → List Flow → List ℕ → ℕ
pairs_added n fs ws = new_in_passes (pass_count n fs ws) (sets_in n ws) (edges_of fs) ws
