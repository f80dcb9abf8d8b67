-- A refused call changes nothing, and the refusal answered is the first whose condition holds. Assumes nothing.
use Rattle.std.specs.Prelude.{◌≡◌, refl, Bool, ◌↔◌, ◌≢◌, List, ℕ, zero, suc}
use Rattle.std.proofs.Common.{sym, suc-ne-zero}
use Rattle.refusal.specs.Order.{first_of}
use Rattle.refusal.proofs.Order.{IsFirst, first-number}
use Rattle.model.specs.Model.{enable, disable}
use Rattle.state.specs.State.{Storage, State}
use Rattle.outcome.specs.Outcome.{decided, no_header, start_order, started, start_of, enable_of, disable_of, add_of, Call, ask, add, outcome_of, order_of}

-- the outcome has the number that was decided on
pub decided-number : (r : ℕ) (s : State) (gain : ℕ) (s' : State) → (decided r s gain s').answer.refusal ≡ r
unfolding decided
decided-number zero s gain s' = refl
decided-number (suc k) s gain s' = refl

-- so a refusal is answered exactly if it is the first of the order
pub decided-refusal : (order : List (Bool × ℕ)) (s : State) (gain : ℕ) (s' : State) (k : ℕ)
    → ((decided (first_of order 0) s gain s').answer.refusal ≡ suc k) ↔ IsFirst order (suc k)
decided-refusal order s gain s' k = rw (decided-number (first_of order 0) s gain s') (first-number order k)

-- where that is not 0, the state is the one before and nothing is gained
pub decided-refused : (r : ℕ) (s : State) (gain : ℕ) (s' : State) (k : ℕ) → (decided r s gain s').answer.refusal ≡ suc k
    → ((decided r s gain s').state ≡ s) × ((decided r s gain s').answer.gain ≡ 0)
unfolding decided
decided-refused zero s gain s' k e = absurd (suc-ne-zero k (sym e))
decided-refused (suc r) s gain s' k e = (refl, refl)

-- and where it is 0, the work is done
pub decided-done : (r : ℕ) (s : State) (gain : ℕ) (s' : State) → (decided r s gain s').answer.refusal ≡ 0
    → ((decided r s gain s').state ≡ s') × ((decided r s gain s').answer.gain ≡ gain)
unfolding decided
decided-done zero s gain s' e = (refl, refl)
decided-done (suc r) s gain s' e = absurd (suc-ne-zero r e)

-- every outcome is decided by the call's order
outcome-decided : (s : State) (c : Call) → (gain : ℕ) × (s' : State) × (outcome_of s c ≡ decided (first_of (order_of s c) 0) s gain s')
unfolding outcome_of order_of enable_of disable_of add_of
outcome-decided s (ask (enable f)) = (_, _, refl)
outcome-decided s (ask (disable k)) = (_, _, refl)
outcome-decided s (add c p) = (_, _, refl)

-- REFUSAL k is answered exactly if its condition holds and none before it in the order does
pub start-refusal : (n : ℕ) (lent : Storage) (k : ℕ) → ((start_of n lent).answer.refusal ≡ suc k) ↔ IsFirst (start_order n lent) (suc k)
unfolding start_of
start-refusal n lent k = decided-refusal (start_order n lent) (record { header = no_header; storage = lent }) 0 (started n lent) k

pub call-refusal : (s : State) (c : Call) (k : ℕ) → ((outcome_of s c).answer.refusal ≡ suc k) ↔ IsFirst (order_of s c) (suc k)
call-refusal s c k = let w = outcome-decided s c in rw w.2 (decided-refusal (order_of s c) s w.0 w.1 k)

-- A REFUSED CALL gains 0 and leaves header and lists as they were; a refused start answers a header of zeros
pub start-refused : (n : ℕ) (lent : Storage) (k : ℕ) → (start_of n lent).answer.refusal ≡ suc k
    → ((start_of n lent).state ≡ record { header = no_header; storage = lent }) × ((start_of n lent).answer.gain ≡ 0)
unfolding start_of
start-refused n lent k = decided-refused (first_of (start_order n lent) 0) (record { header = no_header; storage = lent }) 0 (started n lent) k

pub call-refused : (s : State) (c : Call) (k : ℕ) → (outcome_of s c).answer.refusal ≡ suc k → ((outcome_of s c).state ≡ s) × ((outcome_of s c).answer.gain ≡ 0)
call-refused s c k = let w = outcome-decided s c in rw w.2 (decided-refused (first_of (order_of s c) 0) s w.0 w.1 k)

-- the same where the number is not known
pub call-unaccepted : (s : State) (c : Call) → (outcome_of s c).answer.refusal ≢ 0 → ((outcome_of s c).state ≡ s) × ((outcome_of s c).answer.gain ≡ 0)
call-unaccepted s c = go (outcome_of s c).answer.refusal refl
  where
    go : (k : ℕ) → (outcome_of s c).answer.refusal ≡ k → k ≢ 0 → ((outcome_of s c).state ≡ s) × ((outcome_of s c).answer.gain ≡ 0)
    go zero e n = absurd (n refl)
    go (suc k) e n = call-refused s c k e

-- so what holds before a call, and after it where it is accepted, holds after it
pub start-cases : (P : Storage → Type 0) (n : ℕ) (lent : Storage) → ((start_of n lent).answer.refusal ≡ 0 → P (start_of n lent).state.storage) → P lent
    → P (start_of n lent).state.storage
start-cases P n lent f p = go (start_of n lent).answer.refusal refl
  where
    go : (r : ℕ) → (start_of n lent).answer.refusal ≡ r → P (start_of n lent).state.storage
    go zero a = f a
    go (suc k) a = rw (start-refused n lent k a).0 p

pub call-cases : (P : State → Type 0) (s : State) (c : Call) → ((outcome_of s c).answer.refusal ≡ 0 → P (outcome_of s c).state) → P s → P (outcome_of s c).state
call-cases P s c f p = go (outcome_of s c).answer.refusal refl
  where
    go : (r : ℕ) → (outcome_of s c).answer.refusal ≡ r → P (outcome_of s c).state
    go zero a = f a
    go (suc k) a = rw (call-refused s c k a).0 p
