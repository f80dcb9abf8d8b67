-- The table of enabled flows: places and removals from record to record, that appending and removing a record are what
-- the model says of the enabled flows, and that a removal among the first records is one among the table's. Assumes
-- nothing.
use Rattle.std.specs.Prelude.{◌≡◌, refl, Bool, true, false, cond, Some, None, ◌≢◌, List, [], ◌∷◌, ◌++◌, ℕ, zero, suc, ◌+◌, ◌-◌, ◌≤◌, ◌<◌, min, eqb, ltb, leb, length, get_or, set, take, drop, replicate}
use Rattle.std.proofs.Common.{sym, ap, ap₂, ◌∙◌, append_assoc, add-zero, not-suc-le-zero, le_of_suc-le-suc, add-one, arith, length-append, length-set, length-take, length-drop, take-append-drop, drop_of_length-le, drop-cons, get_or-take, take_all, take-take, take-suc-set, eq-eqb, ne_eqb, eqb-true, ltb-true, lt-ltb, le-ltb, le-leb, leb-false}
use Rattle.std.proofs.lemmas.Bool.{false≢true, lt-leb}
use Rattle.std.proofs.Math.Logic.{by_cases}
use Rattle.std.proofs.Math.Nat.{suc_inj}
use Rattle.std.proofs.Math.Decide.{dec_lt}
use Rattle.std.proofs.Math.Dec.{leb-suc-suc}
use Rattle.std.proofs.lemmas.List.{set_split}
use borrow.Table.Steps.{cases}
use Rattle.model.specs.declared.Flow.{Flow}
use Rattle.model.specs.Model.{is_enabled, keep, without}
use Rattle.state.specs.State.{no_flow, with_flows}
use Rattle.state.specs.IsValid.{Rising}
use Rattle.flowtable.specs.FlowTable.{place_of, found_in, shifted, removed_at}

-- A place

-- among the flows from k on the place is by that in place k
place-from : (number count k : ℕ) (table : List Flow) → k < count → k < length table
    → place_of number (drop k (take count table)) ≡ cond (eqb (get_or table k no_flow).number number) 0 (suc (place_of number (drop (suc k) (take count table))))
unfolding place_of
place-from number count k table h l =
    ap (place_of number) (drop-cons (take count table) k no_flow (omega (arith, length-take count table)))
    ∙ ap (λ (f : Flow). cond (eqb f.number number) 0 (suc (place_of number (drop (suc k) (take count table))))) (get_or-take count table k no_flow h)

-- where that has the number, it is the first of them
pub place_here : (number count k : ℕ) (table : List Flow) → k < count → k < length table → (get_or table k no_flow).number ≡ number
    → place_of number (drop k (take count table)) ≡ 0
place_here number count k table h l e = rw (place-from number count k table h l, eq-eqb (get_or table k no_flow).number number e)

-- where it has not, the place is one further than among those after it
pub place_after : (number count k : ℕ) (table : List Flow) → k < count → k < length table → (get_or table k no_flow).number ≢ number
    → place_of number (drop k (take count table)) ≡ 1 + place_of number (drop (k + 1) (take count table))
place_after number count k table h l e =
    rw (place-from number count k table h l, ne_eqb (get_or table k no_flow).number number e, add-one) (omega arith)

-- where there are none from k on, it is theirs
pub place_end : (number k : ℕ) (fs : List Flow) → length fs ≤ k → place_of number (drop k fs) ≡ 0
unfolding place_of
place_end number k fs h = ap (place_of number) (drop_of_length-le fs h)

-- a place is below the end exactly where a flow has the number
pub place-enabled : (k : ℕ) (fs : List Flow) → is_enabled k fs ≡ ltb (place_of k fs) (length fs)
unfolding place_of is_enabled
place-enabled k [] = refl
place-enabled k (f ∷ fs) =
    cases (eqb f.number k)
    (λ t. rw t (sym (lt-ltb 0 (suc (length fs)) (omega arith))))
    (λ n. rw n (place-enabled k fs ∙ sym (leb-suc-suc (suc (place_of k fs)) (length fs))))

-- a flow that is below the end is found, and at the end there is none
pub found_at : (k at : ℕ) (fs : List Flow) → place_of k fs ≡ at → at < length fs → Some at ≡ found_in k fs
unfolding found_in
found_at k at fs e h = let l : place_of k fs < length fs = omega (arith, e, h) in rw (place-enabled k fs, lt-ltb (place_of k fs) (length fs) l) (ap Some (sym e))

pub found_none : (k : ℕ) (fs : List Flow) → length fs ≤ place_of k fs → None ≡ found_in k fs
unfolding found_in
found_none k fs h = rw (place-enabled k fs, le-ltb (place_of k fs) (length fs) h) refl

-- and conversely
pub found-absent : (k : ℕ) (fs : List Flow) → None ≡ found_in k fs → is_enabled k fs ≡ false
unfolding found_in
found-absent k fs = go (is_enabled k fs)
  where
    go : (b : Bool) → None ≡ cond b (Some (place_of k fs)) None → b ≡ false
    go false e = refl
    go true e = cc

pub found-place : (k : ℕ) {place : ℕ} (fs : List Flow) → Some place ≡ found_in k fs → (is_enabled k fs ≡ true) × (place ≡ place_of k fs)
unfolding found_in
found-place k {place} fs = go (is_enabled k fs)
  where
    go : (b : Bool) → Some place ≡ cond b (Some (place_of k fs)) None → (b ≡ true) × (place ≡ place_of k fs)
    go true e = (refl, cc)
    go false e = (cc, cc)

-- so where one has
place-below : (k : ℕ) (fs : List Flow) → is_enabled k fs ≡ true → place_of k fs < length fs
place-below k fs e = ltb-true (place_of k fs) (length fs) (sym (place-enabled k fs) ∙ e)

-- A record appended

-- m elements from k on that are all x, written out
same_from : {A : Type 0} (x : A) (m k : ℕ) (xs : List A) → k + m ≤ length xs → ((i : ℕ) → k ≤ i → i < k + m → get_or xs i x ≡ x)
    → drop k xs ≡ replicate m x ++ drop (k + m) xs
same_from x zero k xs h e = rw add-zero
same_from x (suc m) k xs h e =
    let n : k + suc m ≡ suc k + m = omega arith in
    drop-cons xs k x (omega arith)
    ∙ ap₂ ◌∷◌ (e k (omega arith) (omega arith)) (rw n (same_from x m (suc k) xs (omega arith) (λ i l g. e i (omega arith) (omega arith))))

-- the records of a table from `count` on, where those that are not in use are zero
unused : (count : ℕ) (table : List Flow) → count ≤ 512 → 512 ≤ length table → ((i : ℕ) → count ≤ i → i < 512 → get_or table i no_flow ≡ no_flow)
    → replicate (512 - count) no_flow ++ drop 512 table ≡ drop count table
unused count table h l e =
    let n : count + (512 - count) ≡ 512 = omega arith in
    sym (rw n at (same_from no_flow (512 - count) count table (omega arith) (λ i a b. e i a (omega arith))))

-- a flow after the others of the table is a record in the first unused place
pub appended : (count : ℕ) (table : List Flow) (f : Flow) → count < 512 → 512 ≤ length table
    → ((i : ℕ) → count ≤ i → i < 512 → get_or table i no_flow ≡ no_flow) → with_flows (take count table ++ (f ∷ [])) table ≡ set table count f
unfolding with_flows
appended count table f h l e =
    let n : length (take count table ++ (f ∷ [])) ≡ suc count = simp (length-append, length-take) (omega arith) in
    rw (n, unused (suc count) table h l (λ i a b. e i (omega arith) b), append_assoc, set_split table count f (omega arith))

-- and then the table has one flow more
pub appended-flows : (count : ℕ) (table : List Flow) (f : Flow) → count < length table
    → take (count + 1) (set table count f) ≡ take count table ++ (f ∷ [])
appended-flows count table f h = rw add-one (take-suc-set table count f h)

-- A flow removed

-- of flows that are all above k none has number k
without-none : (k j : ℕ) (fs : List Flow) → k ≤ j → Rising j fs → without k fs ≡ fs
unfolding without keep Rising
without-none k j [] h r = refl
without-none k j (f ∷ fs) h (l, r) =
    let n : eqb f.number k ≡ false = ne_eqb f.number k (λ e. omega arith) in
    rw n (ap (λ (gs : List Flow). f ∷ gs) (without-none k f.number fs (omega arith) r))

-- the one flow of number k goes
without-one : (k j : ℕ) (fs : List Flow) → Rising j fs → is_enabled k fs ≡ true → without k fs ≡ take (place_of k fs) fs ++ drop (suc (place_of k fs)) fs
unfolding without keep Rising place_of is_enabled
without-one k j [] r e = absurd (false≢true e)
without-one k j (f ∷ fs) (l, r) e =
    cases (eqb f.number k)
    (λ t. rw t (without-none k f.number fs (omega (arith, eqb-true f.number k t)) r))
    (λ n. rw n (ap (λ (gs : List Flow). f ∷ gs) (without-one k f.number fs r (rw n at e))))

-- and the flows are one fewer
pub without-count : (k j : ℕ) (fs : List Flow) → Rising j fs → is_enabled k fs ≡ true → length (without k fs) + 1 ≡ length fs
without-count k j fs r e =
    rw (without-one k j fs r e) (simp (length-append, length-take, length-drop) (omega (arith, place-below k fs e)))

-- where there is such a place, that is what removing does
pub removed-in : (place count : ℕ) (table : List Flow) → place < length (take count table) → removed_at place count table ≡ shifted place count table
unfolding removed_at
removed-in place count table h = rw (lt-leb (length (take count table)) place h)

-- where there is none, the table is as it was
pub removed-out : (place count : ℕ) (table : List Flow) → length (take count table) ≤ place → removed_at place count table ≡ table
unfolding removed_at
removed-out place count table h = rw (le-leb (length (take count table)) place h)

-- the next record is moved down: what is to be removed is then in the next place
shift-next : (i count : ℕ) (table : List Flow) → suc i < length (take count table)
    → shifted (suc i) count (set table i (get_or table (suc i) no_flow)) ≡ shifted i count table
shift-next i zero table h = absurd (not-suc-le-zero h)
shift-next i (suc count) [] h = absurd (not-suc-le-zero h)
shift-next zero (suc zero) (f ∷ fs) h = absurd (omega arith)
shift-next zero (suc (suc count)) (f ∷ []) h = absurd (omega arith)
shift-next zero (suc (suc count)) (f ∷ (g ∷ fs)) h = refl
shift-next (suc i) (suc count) (f ∷ fs) h = ap (λ (gs : List Flow). f ∷ gs) (shift-next i count fs (le_of_suc-le-suc h))

-- in the last place the record becomes zero
shift-last : (i count : ℕ) (table : List Flow) → suc i ≡ length (take count table) → shifted i count table ≡ set table i no_flow
shift-last i zero table h = absurd (omega arith)
shift-last i (suc count) [] h = absurd (omega arith)
shift-last zero (suc zero) (f ∷ fs) h = refl
shift-last zero (suc (suc count)) (f ∷ []) h = refl
shift-last zero (suc (suc count)) (f ∷ (g ∷ fs)) h = absurd (omega arith)
shift-last (suc i) (suc count) (f ∷ fs) h = ap (λ (gs : List Flow). f ∷ gs) (shift-last i count fs (suc_inj h))

-- a turn of `remove`, and its end
pub removed-next : (i count : ℕ) (table : List Flow) → i + 1 < length (take count table)
    → removed_at (i + 1) count (set table i (get_or table (i + 1) no_flow)) ≡ removed_at i count table
removed-next i count table h =
    rw add-one
    (removed-in (suc i) count (set table i (get_or table (suc i) no_flow)) (simp (length-take, length-set) (omega (arith, length-take count table)))
    ∙ shift-next i count table (omega arith)
    ∙ sym (removed-in i count table (omega arith)))

pub removed-last : (i count : ℕ) (table : List Flow) → i + 1 ≡ length (take count table) → removed_at i count table ≡ set table i no_flow
removed-last i count table h = removed-in i count table (omega arith) ∙ shift-last i count table (omega arith)

-- and the enabled flows but the one of number k are the table without its record
pub removed : (k j count : ℕ) (table : List Flow) → count ≤ 512 → 512 ≤ length table
    → ((i : ℕ) → count ≤ i → i < 512 → get_or table i no_flow ≡ no_flow) → Rising j (take count table) → is_enabled k (take count table) ≡ true
    → with_flows (without k (take count table)) table ≡ removed_at (place_of k (take count table)) count table
unfolding with_flows
removed k j count table h l e r t =
    let below : place_of k (take count table) < length (take count table) = place-below k (take count table) t in
    let n : 512 - length (without k (take count table)) ≡ suc (512 - count) =
    omega (arith, without-count k j (take count table) r t, length-take count table) in
    rw (
      n,
      unused count table h l e,
      without-one k j (take count table) r t,
      append_assoc,
      take-take (place_of k (take count table)) count table (omega (arith, length-take count table)),
      removed-in (place_of k (take count table)) count table below,
    )

-- in a table of at most m records no more than m are in use
pub removed-within : (m place count : ℕ) (table : List Flow) → length table ≤ m → removed_at place count table ≡ removed_at place (min m count) table
unfolding removed_at
removed-within m place count table h =
    by_cases (dec_lt count m)
    (λ l. let e : min m count ≡ count = omega (arith, l) in ap (λ (c : ℕ). removed_at place c table) (sym e))
    (λ l. let e : min m count ≡ m = omega (arith, l) in
    rw (e, take_all count table (omega (arith, h, l)), take_all m table h, drop_of_length-le table {i = count} (omega (arith, h, l)), drop_of_length-le table {i = m} h) refl)

-- A removal among the first records

-- the table stays as long
pub removed-length : (place count : ℕ) (table : List Flow) → length (removed_at place count table) ≡ length table
unfolding removed_at
removed-length place count table =
    cases (leb (length (take count table)) place) (λ t. rw t refl)
    (λ f. let h : place < length (take count table) = leb-false (length (take count table)) place f in
    rw f (simp (length-append, length-take, length-drop) (omega (arith, h, length-take count table))))

-- and a removal among the first records is one among the table's
pub removed-front : (place end : ℕ) (table : List Flow)
    → removed_at place end (take end table) ++ drop end table ≡ removed_at place end table
unfolding removed_at
removed-front place end table =
    let used = take end table in
    let same : take end used ≡ used = take-take end end table (omega arith) in
    cases (leb (length used) place) (λ t. rw (same, t) (take-append-drop end table))
    (λ f. let h : place < length used = leb-false (length used) place f in
    rw (
      same,
      f,
      take-take place end table (omega (arith, h, length-take end table)),
      drop_of_length-le used {i = end} (omega (arith, length-take end table)),
      append_assoc,
      append_assoc,
    ) refl)
