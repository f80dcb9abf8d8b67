-- Which records of the table stay as they are: all where a record would stand past the end, and in a removal those
-- before the place and those not in use. Assumes nothing.
use Rattle.std.specs.Prelude.{◌≡◌, refl, List, [], ◌∷◌, ◌++◌, ℕ, suc, ◌+◌, ◌-◌, ◌≤◌, ◌<◌, leb, length, get_or, set, take, drop}
use Rattle.std.proofs.Common.{sym, ap, ◌∙◌, append_assoc, arith, length-append, length-take, length-drop, get_or-take, get_or-drop, get_or-append-add, leb-false}
use Rattle.std.proofs.Math.ListN.{get_or-append}
use lib.Seq.{set_out}
use borrow.Table.Steps.{cases}
use Rattle.model.specs.declared.Flow.{Flow}
use Rattle.state.specs.State.{no_flow}
use Rattle.flowtable.specs.FlowTable.{shifted, removed_at}

-- a table of 512 records has no place from 512 on, where `set` changes nothing
pub none_past : (flows : List Flow) (count : ℕ) (flow : Flow) → length flows ≡ 512 → 512 ≤ count
    → flows ≡ set flows count flow
none_past flows count flow long past = sym (set_out flows count flow (omega arith))

-- a record before the place of a removal is as it was
pub removed-before : (place count : ℕ) (table : List Flow) (i : ℕ) → i < place
    → get_or (removed_at place count table) i no_flow ≡ get_or table i no_flow
unfolding removed_at
removed-before place count table i l =
    cases (leb (length (take count table)) place) (λ t. rw t refl)
    (λ f. let h : place < length (take count table) = leb-false (length (take count table)) place f in
    rw f (get_or-append (take place table) (drop (suc place) (take count table) ++ (no_flow ∷ drop count table)) no_flow i (omega (arith, l, h, length-take count table, length-take place table))
    ∙ get_or-take place table i no_flow l))

-- so is one that is not in use
pub removed-behind : (place count : ℕ) (table : List Flow) (i : ℕ) → count ≤ i → i < length table
    → get_or (removed_at place count table) i no_flow ≡ get_or table i no_flow
unfolding removed_at
removed-behind place count table i l g =
    cases (leb (length (take count table)) place) (λ t. rw t refl)
    (λ f. rw f (behind (leb-false (length (take count table)) place f)))
  where
    -- the records before those that are not in use
    used : List Flow
    used = take place table ++ (drop (suc place) (take count table) ++ (no_flow ∷ []))

    split : shifted place count table ≡ used ++ drop count table
    split = simp append_assoc

    behind : place < length (take count table) → get_or (shifted place count table) i no_flow ≡ get_or table i no_flow
    behind h =
        let n : length used ≡ count = simp (length-append, length-take, length-drop) (omega (arith, h, l, g, length-take count table)) in
        let j : length used + (i - count) ≡ i = omega (arith, n, l) in
        let k : count + (i - count) ≡ i = omega (arith, l) in
        ap (λ (fs : List Flow). get_or fs i no_flow) split ∙ ap (λ (x : ℕ). get_or (used ++ drop count table) x no_flow) (sym j)
        ∙ get_or-append-add used (drop count table) (i - count) no_flow ∙ get_or-drop count table (i - count) no_flow ∙ ap (λ (x : ℕ). get_or table x no_flow) k
