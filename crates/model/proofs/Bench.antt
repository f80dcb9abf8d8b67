-- The model computed: the traps of the bench (document 01) and Example 1 of document 000, whose events are accepted, whose concrete execution leaves
-- what table 1a says, and in which another order of the same executions leaves less. Assumes nothing.
use Rattle.std.specs.Prelude.{◌≡◌, refl, [], ◌∷◌}
use mathlib.Core.List.Memᴰ
use Rattle.model.specs.Model.{flow, enable, disable, empty, ◌▸◌, is_enabled, keep, without, enabled, edges_of, Execution, event, exec, initial, carry, configuration, greatest, joins, joined, accepted_from, accepted}
use Rattle.model.specs.Reach.{tabulate, matrix, cell, is_edge, reach_via, reachable}
use Rattle.model.specs.Bench.{I, O, events, observed, concrete, reordered, quiet, late}

-- TRAPS OF THE BENCH

-- of two alike flows a disable ends the one that it names
pub alike-flow-stays : enabled (empty ▸ enable (flow 1 0 1) ▸ enable (flow 2 0 1) ▸ disable 1) ≡ flow 2 0 1 ∷ []
unfolding is_enabled keep without enabled
alike-flow-stays = refl

-- a chain is followed to its end, and not against its direction
pub chain-is-followed :
    reachable 3 (edges_of (flow 1 0 1 ∷ flow 2 1 2 ∷ [])) ≡ (I ∷ I ∷ I ∷ []) ∷ (O ∷ I ∷ I ∷ []) ∷ (O ∷ O ∷ I ∷ []) ∷ []
unfolding edges_of tabulate matrix cell is_edge reach_via
chain-is-followed = refl

-- what does not join: number 0, a container of n or more at either end, a flow to itself, a number that is not above the greatest, also where its
-- flow is closed, a disable of what is not enabled; and a refused enable uses up no number
pub refused-events :
    accepted 3
    (enable (flow 0 0 1)
    ∷ enable (flow 5 3 0)
    ∷ enable (flow 5 0 3)
    ∷ enable (flow 5 1 1)
    ∷ enable (flow 5 0 1)
    ∷ enable (flow 5 1 2)
    ∷ disable 0
    ∷ disable 4
    ∷ disable 9
    ∷ disable 5 ∷ disable 5 ∷ enable (flow 5 1 2) ∷ enable (flow 6 1 2) ∷ [])
    ≡ empty ▸ enable (flow 5 0 1) ▸ disable 5 ▸ enable (flow 6 1 2)
unfolding is_enabled keep without enabled greatest joins joined accepted_from
refused-events = refl

-- every event joins, and no flow is left enabled
pub all_join : accepted 5 events ≡ observed
unfolding events observed is_enabled keep without enabled greatest joins joined accepted_from
all_join = refl

pub none_left : enabled observed ≡ []
unfolding observed is_enabled keep without enabled
none_left = refl

pub quiet-leaves : configuration 5 quiet ≡ initial 5
unfolding quiet configuration
quiet-leaves = refl

-- the last row of table 1a, a row for each container
pub concrete-leaves :
    matrix 5 (configuration 5 concrete)
    ≡ (I ∷ O ∷ O ∷ O ∷ O ∷ [])
    ∷ (I ∷ I ∷ O ∷ O ∷ O ∷ [])
    ∷ (I ∷ I ∷ I ∷ O ∷ O ∷ []) ∷ (I ∷ I ∷ I ∷ I ∷ O ∷ []) ∷ (I ∷ I ∷ I ∷ I ∷ I ∷ []) ∷ []
unfolding concrete tabulate matrix configuration initial carry
concrete-leaves = refl

-- r and d then lack the tags of src and se
pub reordered-leaves :
    matrix 5 (configuration 5 reordered)
    ≡ (I ∷ O ∷ O ∷ O ∷ O ∷ [])
    ∷ (I ∷ I ∷ O ∷ O ∷ O ∷ [])
    ∷ (I ∷ I ∷ I ∷ O ∷ O ∷ []) ∷ (O ∷ O ∷ I ∷ I ∷ O ∷ []) ∷ (O ∷ O ∷ I ∷ I ∷ I ∷ []) ∷ []
unfolding reordered tabulate matrix configuration initial carry
reordered-leaves = refl

pub late-leaves : matrix 3 (configuration 3 late) ≡ (I ∷ O ∷ O ∷ []) ∷ (I ∷ I ∷ O ∷ []) ∷ (I ∷ I ∷ I ∷ []) ∷ []
unfolding late tabulate matrix configuration initial carry
late-leaves = refl

-- and a flow that is disabled is executed no more: where no other is enabled, an execution ends with the disable
pub closed-flow-is-over : (x : Execution (empty ▸ enable (flow 1 0 1) ▸ disable 1)) → (y : Execution (empty ▸ enable (flow 1 0 1))) × (x ≡ event y (disable 1))
unfolding keep without enabled
closed-flow-is-over (event y e) = (y, refl)
closed-flow-is-over (exec x f i a b j) = absurd (Memᴰ.not-nil i)
