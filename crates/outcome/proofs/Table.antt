-- The table of refusals: which number each call answers, in the paper's words and order. Each condition of an order is what its row says, and the
-- rows leave no case out. Assumes nothing.
use Rattle.std.specs.Prelude.{◌≡◌, refl, Bool, true, false, cond, List, ◌↔◌, ◌≢◌, ℕ, ◌<◌}
use Rattle.std.proofs.Common.{sym, ap, ◌∙◌, ⊎_elim, arith, le-leb, eq-eqb, ne_eqb}
use Rattle.std.proofs.lemmas.Bool.{false≢true, lt-leb}
use Rattle.std.proofs.Math.Logic.{by_cases}
use Rattle.std.proofs.Math.Decide.{dec_lt, ℕ_discrete}
use borrow.Table.Steps.{cases}
use Rattle.refusal.specs.Order.{first_of}
use Rattle.refusal.proofs.Order.{by_rows}
use Rattle.model.specs.declared.Flow.{Flow}
use Rattle.model.specs.Model.{◌∈◌, is_enabled}
use Rattle.model.proofs.Standing.{enabled-number, number-enabled}
use Rattle.tagset.specs.declared.TagSet.{TagSet}
use Rattle.tagset.specs.Set.{has, exceeds_of}
use Rattle.tagset.proofs.Laws.{exceeds-of-tag, exceeds-tag, not-exceeds, not-exceeds-of-has}
use Rattle.state.specs.State.{Storage, State, policy_count, flows_of}
use Rattle.state.specs.IsValid.{ProperEnds, Usable}
use Rattle.state.proofs.IsValid.{sized}
use Rattle.state.proofs.Judging.{too_short, size-cases, by_state, short-first, invalid-first, usable-first}
use Rattle.outcome.specs.Outcome.{no_header, start_order, started, start_of, enable_later, enable_order, enabling, enable_of, disable_later, disable_order, disabling, disable_of, add_later, add_order, adding, add_of}
use Rattle.outcome.proofs.Refusals.{decided-number}
use Rattle.outcome.specs.Table.{StartAnswers, bad-size, accepted, Enables, EnableAnswers, bad-size, invalid-state, no-such-from, no-such-to, self-flow, stale-number, table-full, accepted, DisableAnswers, bad-size, invalid-state, not-enabled, accepted, AddAnswers, bad-size, invalid-state, no-such-container, unknown-tag, policy-full, accepted}

-- STARTING

-- a row's number is the one answered, and some row applies
start-number : (n : ℕ) (lent : Storage) {k : ℕ} → StartAnswers n lent k → first_of (start_order n lent) 0 ≡ k
unfolding start_order
start-number n lent (bad-size z) = rw (too_short n lent z) refl
start-number n lent (accepted z) = rw ((sized n lent).1 z) refl

start-row : (n : ℕ) (lent : Storage) → (k : ℕ) × StartAnswers n lent k
start-row n lent = ⊎_elim (λ z. (0, accepted z)) (λ z. (9, bad-size z)) (size-cases n lent)

-- so the number answered is that of the row that applies
pub start-answers : (n : ℕ) (lent : Storage) (k : ℕ) → ((start_of n lent).answer.refusal ≡ k) ↔ StartAnswers n lent k
unfolding start_of
start-answers n lent k =
    rw (decided-number (first_of (start_order n lent) 0) (record { header = no_header; storage = lent }) 0 (started n lent))
    (by_rows (StartAnswers n lent) (λ k. start-number n lent) (start-row n lent) k)

-- ENABLING

-- where all conditions are met no refusal is
enables-number : (s : State) (f : Flow) → Enables s f → first_of (enable_order s f) 0 ≡ 0
unfolding enable_order enable_later
enables-number s f e =
    usable-first s (enable_later s f) e.usable
    ∙ rw (lt-leb s.header.containers f.from e.proper.0, lt-leb s.header.containers f.to e.proper.1, ne_eqb f.from f.to e.proper.2, lt-leb f.number s.header.greatest e.above)
    (ap (λ (full : Bool). cond full 7 0) (lt-leb 512 s.header.count e.room))

-- a row's number is the one answered
enable-number : (s : State) (f : Flow) {k : ℕ} → EnableAnswers s f k → first_of (enable_order s f) 0 ≡ k
unfolding enable_order enable_later
enable-number s f (bad-size z) = short-first s (enable_later s f) z
enable-number s f (invalid-state z v) = invalid-first s (enable_later s f) z v
enable-number s f (no-such-from u x) = usable-first s (enable_later s f) u ∙ rw (le-leb s.header.containers f.from x) refl
enable-number s f (no-such-to u x y) =
    usable-first s (enable_later s f) u ∙ rw (lt-leb s.header.containers f.from x, le-leb s.header.containers f.to y) refl
enable-number s f (self-flow u x y d) =
    usable-first s (enable_later s f) u
    ∙ rw (lt-leb s.header.containers f.from x, lt-leb s.header.containers f.to y, eq-eqb f.from f.to d) refl
enable-number s f (stale-number u p g) =
    usable-first s (enable_later s f) u
    ∙ rw (lt-leb s.header.containers f.from p.0, lt-leb s.header.containers f.to p.1, ne_eqb f.from f.to p.2, le-leb f.number s.header.greatest g)
    refl
enable-number s f (table-full u p g r) =
    usable-first s (enable_later s f) u
    ∙ rw (lt-leb s.header.containers f.from p.0, lt-leb s.header.containers f.to p.1, ne_eqb f.from f.to p.2, lt-leb f.number s.header.greatest g, le-leb 512 s.header.count r)
    refl
enable-number s f (accepted e) = enables-number s f e

-- some row applies to a usable state: by the ends, the number, the room
enable-row : (s : State) (f : Flow) → Usable s → (k : ℕ) × EnableAnswers s f k
enable-row s f u =
    by_cases (dec_lt f.from n)
    (λ x.
    by_cases (dec_lt f.to n)
    (λ y. by_cases (ℕ_discrete f.from f.to) (λ d. (5, self-flow u x y d)) (λ d. proper (x, y, d)))
    (λ y. (4, no-such-to u x (omega (arith, y)))))
    (λ x. (4, no-such-from u (omega (arith, x))))
  where
    n : ℕ
    n = s.header.containers

    proper : ProperEnds n f → (k : ℕ) × EnableAnswers s f k
    proper p =
        by_cases (dec_lt s.header.greatest f.number)
        (λ g.
        by_cases (dec_lt s.header.count 512)
        (λ r. (0, accepted (record { usable = u; proper = p; above = g; room = r })))
        (λ r. (7, table-full u p g (omega (arith, r)))))
        (λ g. (6, stale-number u p (omega (arith, g))))

-- so the number answered is that of the row that applies
pub enable-answers : (s : State) (f : Flow) (k : ℕ) → ((enable_of s f).answer.refusal ≡ k) ↔ EnableAnswers s f k
unfolding enable_of
enable-answers s f k =
    let w = by_state s (λ z. (9, bad-size z)) (λ z v. (12, invalid-state z v)) (enable-row s f) in
    rw (decided-number (first_of (enable_order s f) 0) s _ (enabling s f)) (by_rows (EnableAnswers s f) (λ j. enable-number s f) w k)

-- DISABLING

-- a number that no flow has is not found
missing : (k : ℕ) (fs : List Flow) → ((f : Flow) → f ∈ fs → f.number ≢ k) → is_enabled k fs ≡ false
missing k fs h = cases (is_enabled k fs) (λ e. let w = enabled-number k fs e in absurd (h w.0 w.1 w.2)) (λ e. e)

-- a row's number is the one answered
disable-number : (s : State) (k : ℕ) {j : ℕ} → DisableAnswers s k j → first_of (disable_order s k) 0 ≡ j
unfolding disable_order disable_later
disable-number s k (bad-size z) = short-first s (disable_later s k) z
disable-number s k (invalid-state z v) = invalid-first s (disable_later s k) z v
disable-number s k (not-enabled u h) = usable-first s (disable_later s k) u ∙ rw (missing k (flows_of s) h) refl
disable-number s k (accepted u f m q) = usable-first s (disable_later s k) u ∙ rw (number-enabled k (flows_of s) m q) refl

-- some row applies to a usable state: by the number
disable-row : (s : State) (k : ℕ) → Usable s → (j : ℕ) × DisableAnswers s k j
disable-row s k u =
    cases (is_enabled k (flows_of s)) (λ e. let w = enabled-number k (flows_of s) e in (0, accepted u w.0 w.1 w.2))
    (λ e. (8, not-enabled u (λ f m q. false≢true (sym e ∙ number-enabled k (flows_of s) m q))))

-- so the number answered is that of the row that applies
pub disable-answers : (s : State) (k j : ℕ) → ((disable_of s k).answer.refusal ≡ j) ↔ DisableAnswers s k j
unfolding disable_of
disable-answers s k j =
    let w = by_state s (λ z. (9, bad-size z)) (λ z v. (12, invalid-state z v)) (disable-row s k) in
    rw (decided-number (first_of (disable_order s k) 0) s 0 (disabling s k)) (by_rows (DisableAnswers s k) (λ i. disable-number s k) w j)

-- ADDING A POLICY SET

-- a row's number is the one answered
add-number : (s : State) (c : ℕ) (p : TagSet) {k : ℕ} → AddAnswers s c p k → first_of (add_order s c p) 0 ≡ k
unfolding add_order add_later
add-number s c p (bad-size z) = short-first s (add_later s c p) z
add-number s c p (invalid-state z v) = invalid-first s (add_later s c p) z v
add-number s c p (no-such-container u x) = usable-first s (add_later s c p) u ∙ rw (le-leb s.header.containers c x) refl
add-number s c p (unknown-tag u x t h y) =
    usable-first s (add_later s c p) u ∙ rw (lt-leb s.header.containers c x, exceeds-of-tag p s.header.containers t y h) refl
add-number s c p (policy-full u x h y) =
    usable-first s (add_later s c p) u
    ∙ rw (lt-leb s.header.containers c x, not-exceeds-of-has p s.header.containers h, le-leb 4 (policy_count s c) y) refl
add-number s c p (accepted e) =
    usable-first s (add_later s c p) e.usable
    ∙ rw (lt-leb s.header.containers c e.container, not-exceeds-of-has p s.header.containers e.known, lt-leb 4 (policy_count s c) e.room) refl

-- some row applies to a usable state: by the container, the set's tags, the room
add_row : (s : State) (c : ℕ) (p : TagSet) → Usable s → (k : ℕ) × AddAnswers s c p k
add_row s c p u =
    by_cases (dec_lt c s.header.containers)
    (λ x.
    cases (exceeds_of p s.header.containers) (λ e. let w = exceeds-tag p s.header.containers e in (4, unknown-tag u x w.0 w.2 w.1))
    (λ e. known x (not-exceeds p s.header.containers e)))
    (λ x. (4, no-such-container u (omega (arith, x))))
  where
    known : c < s.header.containers → ((t : ℕ) → has p t ≡ true → t < s.header.containers) → (k : ℕ) × AddAnswers s c p k
    known x h =
        by_cases (dec_lt (policy_count s c) 4) (λ r. (0, accepted (record { usable = u; container = x; known = h; room = r })))
        (λ r. (11, policy-full u x h (omega (arith, r))))

-- so the number answered is that of the row that applies
pub add-answers : (s : State) (c : ℕ) (p : TagSet) (k : ℕ) → ((add_of s c p).answer.refusal ≡ k) ↔ AddAnswers s c p k
unfolding add_of
add-answers s c p k =
    let w = by_state s (λ z. (9, bad-size z)) (λ z v. (12, invalid-state z v)) (add_row s c p) in
    rw (decided-number (first_of (add_order s c p) 0) s 0 (adding s c p)) (by_rows (AddAnswers s c p) (λ j. add-number s c p) w k)
