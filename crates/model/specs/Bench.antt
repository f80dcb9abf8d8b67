-- Example 1 of document 000, its events and executions of these, and one of the traps of the bench (document 01). What
-- they leave is computed in proofs/Bench.antt. Assumes nothing.
use Rattle.std.specs.Prelude.{refl, Bool, true, false, List, [], ◌∷◌}
use mathlib.Core.List.Memᴰ
use Rattle.model.specs.Model.{◌∈◌, flow, Event, enable, disable, History, empty, ◌▸◌, keep, without, enabled, Execution, begin, event, exec}

-- truth values, as the rows below have them
abbrev pub I : Bool
I = true

abbrev pub O : Bool
O = false

-- EXAMPLE 1

-- ω of the example; src is 0, se 1, p 2, r 3, d 4
unfoldable pub events : List Event
events =
    enable (flow 1 2 3)
    ∷ enable (flow 2 0 1)
    ∷ disable 2
    ∷ enable (flow 3 1 2) ∷ disable 1 ∷ disable 3 ∷ enable (flow 4 3 4) ∷ disable 4 ∷ []

unfoldable pub observed : History
observed =
    empty ▸ enable (flow 1 2 3) ▸ enable (flow 2 0 1) ▸ disable 2 ▸ enable (flow 3 1 2) ▸ disable 1 ▸ disable 3 ▸ enable (flow 4 3 4) ▸ disable 4

-- a flow is the first of those enabled, or the second; and its way is the only one
abbrev first : {A : Type 0} {x : A} {xs : List A} → x ∈ x ∷ xs
first = Memᴰ.head refl

abbrev second : {A : Type 0} {x y : A} {xs : List A} → x ∈ y ∷ x ∷ xs
second = Memᴰ.tail first

-- x of the example: src to se, se to p, p to r, r to d
unfoldable pub concrete : Execution observed
unfolding observed keep without enabled
concrete =
    let x = exec (event (event begin (enable (flow 1 2 3))) (enable (flow 2 0 1))) (flow 2 0 1) second 0 1 first in
    let y = exec (event (event x (disable 2)) (enable (flow 3 1 2))) (flow 3 1 2) second 1 2 first in
    let z = event (event (exec y (flow 1 2 3) first 2 3 first) (disable 1)) (disable 3) in
    event (exec (event z (enable (flow 4 3 4))) (flow 4 3 4) first 3 4 first) (disable 4)

-- the same with p to r before se to p
unfoldable pub reordered : Execution observed
unfolding observed keep without enabled
reordered =
    let x = exec (event (event begin (enable (flow 1 2 3))) (enable (flow 2 0 1))) (flow 2 0 1) second 0 1 first in
    let y = exec (event (event x (disable 2)) (enable (flow 3 1 2))) (flow 1 2 3) first 2 3 first in
    let z = event (event (exec y (flow 3 1 2) second 1 2 first) (disable 1)) (disable 3) in
    event (exec (event z (enable (flow 4 3 4))) (flow 4 3 4) first 3 4 first) (disable 4)

-- nothing is executed: each container keeps its own tag alone
unfoldable pub quiet : Execution observed
unfolding observed
quiet =
    let x = event (event (event (event begin (enable (flow 1 2 3))) (enable (flow 2 0 1))) (disable 2)) (enable (flow 3 1 2)) in
    event (event (event (event x (disable 1)) (disable 3)) (enable (flow 4 3 4))) (disable 4)

-- a flow that stays enabled may be executed after another is disabled: 0 to 1 before, 1 to 2 after
unfoldable pub late : Execution (empty ▸ enable (flow 1 0 1) ▸ enable (flow 2 1 2) ▸ disable 1)
unfolding keep without enabled
late =
    let x = exec (event (event begin (enable (flow 1 0 1))) (enable (flow 2 1 2))) (flow 1 0 1) first 0 1 first in
    exec (event x (disable 1)) (flow 2 1 2) first 1 2 first
