-- What a call comes to once the storage is judged: the refusal 9 or 12, or the work. Assumes nothing.
use Rattle.std.specs.Prelude.{◌≡◌, refl, Bool, true, false, List, ◌++◌, Ok, ℕ, zero, suc, ◌*◌, ◌/◌, ◌≤◌, ◌<◌, min, length}
use Rattle.std.proofs.Common.{sym, ◌∙◌, arith}
use Rattle.refusal.specs.Order.{first_of}
use Rattle.model.specs.declared.Flow.{Flow}
use Rattle.tagset.specs.declared.TagSet.{TagSet}
use Rattle.tagset.specs.Set.{single_of}
use Rattle.state.specs.State.{Storage, State, short_of, bad_size, storage_of, with_sets, no_flow, with_flows}
use Rattle.state.specs.Valid.{state_order}
use Rattle.state.specs.IsValid.{IsSized}
use Rattle.state.proofs.IsValid.{sized}
use Rattle.state.proofs.Judging.{judged-first}
use Rattle.tagstore.specs.Store.{filled_front}
use Rattle.tagstore.specs.Starting.{filled-front, own-all}
use Rattle.calls.specs.Replies.{refused, left_by}
use Rattle.outcome.specs.Outcome.{Outcome, decided, no_header, started, start_order, start_of, enable_later, enable_order, enable_of, disable_later, disable_order, disable_of, add_later, add_order, add_of}

-- EVENTS

-- the outcome of a refusal: the state is left
abbrev pub refused_in : State → ℕ → Outcome
refused_in s k = record { answer = refused k; state = s }

pub refuses : (r k : ℕ) (s : State) (gain : ℕ) (s' : State) → 0 < k → r ≡ k → decided r s gain s' ≡ refused_in s k
unfolding decided
refuses r zero s gain s' h e = absurd (omega (arith, h))
refuses r (suc k) s gain s' h e = rw e refl

module _ (s : State) where
  -- a refusal of the state comes first in every order
  judged : (k : ℕ) (rest : List (Bool × ℕ)) (gain : ℕ) (s' : State) → 0 < k → k ≡ first_of (state_order s) 0
      → refused_in s k ≡ decided (first_of (state_order s ++ rest) 0) s gain s'
  judged zero rest gain s' h e = absurd (omega (arith, h))
  judged (suc k) rest gain s' h e =
      sym (refuses (first_of (state_order s ++ rest) 0) (suc k) s gain s' h (judged-first s k rest (sym e)))

  -- so every call answers it, and leaves the state
  pub enable-judged : (f : Flow) (k : ℕ) → 0 < k → k ≡ first_of (state_order s) 0 → refused_in s k ≡ enable_of s f
  unfolding enable_of enable_order
  enable-judged f k h e = judged k (enable_later s f) _ _ h e

  pub disable-judged : (number k : ℕ) → 0 < k → k ≡ first_of (state_order s) 0 → refused_in s k ≡ disable_of s number
  unfolding disable_of disable_order
  disable-judged number k h e = judged k (disable_later s number) _ _ h e

  pub add-judged : (c : ℕ) (p : TagSet) (k : ℕ) → 0 < k → k ≡ first_of (state_order s) 0 → refused_in s k ≡ add_of s c p
  unfolding add_of add_order
  add-judged c p k h e = judged k (add_later s c p) _ _ h e

-- STARTING

module _ (n : ℕ) (tags policies counts : List ℕ) (flows : List Flow) where
  abbrev lent : Storage
  lent = storage_of tags policies counts flows

  module _ {b : Bool} (e : b ≡ short_of n (length tags) (length policies) (length counts) (length flows)) where
    -- the lengths decide
    short : bad_size n lent ≡ b
    unfolding bad_size
    short = sym e

    -- a start with a bad size is refused
    pub start-judged : b ≡ true → refused_in (record { header = no_header; storage = lent }) 9 ≡ start_of n lent
    unfolding start_of start_order decided
    start-judged t = rw (short ∙ t) refl

    module _ (f : b ≡ false) where
      -- in any other each list is as long as it must be
      long : IsSized n lent
      long = (sized n lent).0 (short ∙ f)

      -- so the table that was lent has 512 records
      pub start-records : 512 ≤ length flows
      start-records = long.records

      -- and it leaves each container its own tag, zeros in the places of policy sets, and 512 records of zeros
      pub start-done : {tags' policies' counts' : List ℕ} {flows' : List Flow}
          → tags' ≡ with_sets (min n (length tags / 4)) single_of tags → policies' ≡ filled_front 0 (16 * n) policies
          → counts' ≡ filled_front 0 n counts → flows' ≡ filled_front no_flow 512 flows
          → left_by (Ok (record { header = record { containers = n; count = 0; greatest = 0 }; gain = 0 }))
          no_header tags' policies' counts' flows'
          ≡ start_of n lent
      unfolding start_of start_order decided started with_flows
      start-done p q r t =
          let own = p ∙ own-all n tags long.tag-words in
          let policies-zero = q ∙ filled-front 0 (16 * n) policies long.policy-words in
          let counts-zero = r ∙ filled-front 0 n counts long.count-bytes in
          rw (short ∙ f, own, policies-zero, counts-zero, t ∙ filled-front no_flow 512 flows start-records) refl
