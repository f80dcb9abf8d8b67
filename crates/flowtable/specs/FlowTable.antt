-- The table of enabled flows: a place found, a record removed. Assumes nothing.
use Rattle.std.specs.Prelude.{cond, Option, Some, None, List, [], ◌∷◌, ◌++◌, ℕ, suc, eqb, leb, length, take, drop}
use Rattle.model.specs.declared.Flow.{Flow}
use Rattle.model.specs.Model.{is_enabled}
use Rattle.state.specs.State.{no_flow}

-- how many flows stand before the first of this number
unfoldable pub place_of : ℕ → List Flow → ℕ
place_of number [] = 0
place_of number (f ∷ fs) = cond (eqb f.number number) 0 (suc (place_of number fs))

-- its place, where one of the flows has this number
unfoldable pub found_in : ℕ → List Flow → Option ℕ
found_in number fs = cond (is_enabled number fs) (Some (place_of number fs)) None

-- of the first `count` records the one in this place is gone, the later ones have moved down by one, the last is zero
-- ('a closing moves the later records down by one', 'unused records [..] are zero')
abbrev pub shifted : ℕ → ℕ → List Flow → List Flow
shifted place count table = take place table ++ (drop (suc place) (take count table) ++ (no_flow ∷ drop count table))

-- the same, or the table as it was where they have no such place
unfoldable pub removed_at : ℕ → ℕ → List Flow → List Flow
removed_at place count table = cond (leb (length (take count table)) place) table (shifted place count table)
