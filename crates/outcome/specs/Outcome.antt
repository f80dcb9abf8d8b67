-- What each call answers and leaves (document 01, 'What events do', 'Table of refusals' and its order). Assumes nothing.
use Rattle.std.specs.Prelude.{Bool, ◌&&◌, not, cond, List, [], ◌∷◌, ◌++◌, ℕ, zero, suc, ◌+◌, ◌*◌, leb, ltb, eqb, length, set, drop, replicate}
use Rattle.refusal.specs.Order.{first_of}
use Rattle.model.specs.declared.Flow.{Flow}
use Rattle.model.specs.Model.{Event, enable, disable, Configuration, edges_of, without, is_enabled}
use Rattle.model.specs.Reach.{reachable, cell}
use Rattle.tagset.specs.declared.TagSet.{TagSet}
use Rattle.tagset.specs.Set.{has, empty_set, single_of, union_of, exceeds_of, count_below}
use Rattle.state.specs.declared.Header.{Header}
use Rattle.state.specs.State.{Storage, State, bad_size, set_at, policy_count, with_sets, flows_of, with_flows}
use Rattle.state.specs.Valid.{state_order}
use Rattle.tagstore.specs.Store.{put_set}

-- the refusal's number, 0 where the call is accepted, and the gain
pub record Answer : Type 0 where
  pub refusal : ℕ
  pub gain : ℕ

-- the state after a call has the header that is answered and the lists that are left
pub record Outcome : Type 0 where
  pub answer : Answer
  pub state : State

-- 0: the work is done. Otherwise: 'every refusal answers its number with all other numbers 0, the book's small numbers come back as they went in
-- [..], and all lent memory keeps its content'
unfoldable pub decided : ℕ → State → ℕ → State → Outcome
decided zero before gain after = record { answer = record { refusal = 0; gain = gain }; state = after }
decided (suc k) before gain after = record { answer = record { refusal = suc k; gain = 0 }; state = before }

-- STARTING

-- 'Starting: 9'
unfoldable pub start_order : ℕ → Storage → List (Bool × ℕ)
start_order n lent = (bad_size n lent, 9) ∷ []

-- each container has its own tag alone, no policy set, no flow
unfoldable pub started : ℕ → Storage → State
started n lent =
    record {
      header = record { containers = n; count = 0; greatest = 0 };
      storage =
          record {
            tags = with_sets n single_of lent.tags;
            policies = replicate (16 * n) 0 ++ drop (16 * n) lent.policies;
            policy_counts = replicate n 0 ++ drop n lent.policy_counts;
            flows = with_flows [] lent.flows;
          };
    }

-- '0 from starting'
abbrev pub no_header : Header
no_header = record { containers = 0; count = 0; greatest = 0 }

-- starting with n containers in this storage
unfoldable pub start_of : ℕ → Storage → Outcome
start_of n lent = decided (first_of (start_order n lent) 0) (record { header = no_header; storage = lent }) 0 (started n lent)

-- ENABLING

-- 'Opening: 9, 12, 4 for from, 4 for to, 5, 6, 7'; those after 9 and 12 by themselves too, since they decide what joins a history
unfoldable pub enable_later : State → Flow → List (Bool × ℕ)
enable_later s f =
    (leb s.header.containers f.from, 4)
    ∷ (leb s.header.containers f.to, 4)
    ∷ (eqb f.from f.to, 5)
    ∷ (leb f.number s.header.greatest, 6)
    ∷ (leb 512 s.header.count, 7) ∷ []

unfoldable pub enable_order : State → Flow → List (Bool × ℕ)
enable_order s f = state_order s ++ enable_later s f

-- the sets of all a below n that pass the test, united
unfoldable pub union_over : ℕ → (ℕ → Bool) → (ℕ → TagSet) → TagSet
union_over zero p f = empty_set
union_over (suc n) p f = let rest = union_over n p f in cond (p n) (union_of (f n) rest) rest

-- (spread) 'holder b has tag t exactly if some holder a had t before the event and b can be reached from a by zero or more channels open after
-- the event': `cell m a b` is `reaches n (edges_of fs) a b`, with the matrix computed once
unfoldable pub propagated : ℕ → List Flow → List ℕ → List ℕ
propagated n fs ws = let m = reachable n (edges_of fs) in with_sets n (λ b. union_over n (λ a. cell m a b) (set_at ws)) ws

-- 'the count of (tag, holder) pairs present after it and not before'
unfoldable pub gain_of : ℕ → List ℕ → List ℕ → ℕ
gain_of zero before after = 0
gain_of (suc n) before after = count_below 256 (λ t. has (set_at after n) t && not (has (set_at before n) t)) + gain_of n before after

-- the state with this count of enabled flows, this table, this greatest number and these tag sets; policy sets and their counts stay
abbrev pub stored : State → ℕ → List Flow → ℕ → List ℕ → State
stored s count table greatest tags =
    record {
      header = record { containers = s.header.containers; count = count; greatest = greatest };
      storage = record { tags = tags; policies = s.storage.policies; policy_counts = s.storage.policy_counts; flows = table };
    }

-- the state with these flows enabled
unfoldable pub changed : State → List Flow → ℕ → List ℕ → State
changed s fs greatest tags = stored s (length fs) (with_flows fs s.storage.flows) greatest tags

-- the state after an accepted enable
unfoldable pub enabling : State → Flow → State
enabling s f = let fs = flows_of s ++ (f ∷ []) in changed s fs f.number (propagated s.header.containers fs s.storage.tags)

-- enabling a flow in this state
unfoldable pub enable_of : State → Flow → Outcome
enable_of s f =
    let s' = enabling s f in
    decided (first_of (enable_order s f) 0) s (gain_of s.header.containers s.storage.tags s'.storage.tags) s'

-- DISABLING

-- 'Closing: 9, 12, 8'
unfoldable pub disable_later : State → ℕ → List (Bool × ℕ)
disable_later s k = (not (is_enabled k (flows_of s)), 8) ∷ []

unfoldable pub disable_order : State → ℕ → List (Bool × ℕ)
disable_order s k = state_order s ++ disable_later s k

-- the state after an accepted disable: 'a closing moves the later records down by one', 'it takes no tag away'
unfoldable pub disabling : State → ℕ → State
disabling s k = changed s (without k (flows_of s)) s.header.greatest s.storage.tags

-- 'a closing gains 0'; claims `disable-has-nothing-to-propagate` and `gain-is-counted`: the general sentences say the same
unfoldable pub disable_of : State → ℕ → Outcome
disable_of s k = decided (first_of (disable_order s k) 0) s 0 (disabling s k)

-- ADDING A POLICY SET (document 01: a permitted set)

-- 'Adding a set: 9, 12, 4 for the holder, 4 for the set, 11'
unfoldable pub add_later : State → ℕ → TagSet → List (Bool × ℕ)
add_later s c p =
    (leb s.header.containers c, 4)
    ∷ (exceeds_of p s.header.containers, 4)
    ∷ (leb 4 (policy_count s c), 11) ∷ []

unfoldable pub add_order : State → ℕ → TagSet → List (Bool × ℕ)
add_order s c p = state_order s ++ add_later s c p

-- the state after: the set stands behind those that the container has ('in the order of adding'), so set k at words 16c + 4k to 16c + 4k + 3
unfoldable pub adding : State → ℕ → TagSet → State
adding s c p =
    record {
      header = s.header;
      storage =
          record {
            tags = s.storage.tags;
            policies = put_set s.storage.policies (4 * c + policy_count s c) p;
            policy_counts = set s.storage.policy_counts c (policy_count s c + 1);
            flows = s.storage.flows;
          };
    }

-- adding a policy set to a container; it is no event, and gains nothing
unfoldable pub add_of : State → ℕ → TagSet → Outcome
add_of s c p = decided (first_of (add_order s c p) 0) s 0 (adding s c p)

-- LISTS OF CALLS

-- a call asks for an event, or adds a policy set to a container, with any arguments
pub data Call : Type 0 where
  ask : Event → Call
  add : ℕ → TagSet → Call

-- the order of its refusals, and its outcome
unfoldable pub order_of : State → Call → List (Bool × ℕ)
order_of s (ask (enable f)) = enable_order s f
order_of s (ask (disable k)) = disable_order s k
order_of s (add c p) = add_order s c p

unfoldable pub outcome_of : State → Call → Outcome
outcome_of s (ask (enable f)) = enable_of s f
outcome_of s (ask (disable k)) = disable_of s k
outcome_of s (add c p) = add_of s c p

-- the events that the calls ask for: 'adding a set [..] is no event'
unfoldable pub events_of : List Call → List Event
events_of [] = []
events_of (ask e ∷ cs) = e ∷ events_of cs
events_of (add c p ∷ cs) = events_of cs

-- the state after the calls: 'each call gets the storage and the small numbers as the call before left and answered them, refused or not'
unfoldable pub after : State → List Call → State
after s [] = s
after s (c ∷ cs) = after (outcome_of s c).state cs

-- the tracker's configuration: the tags that each of its containers has stored
unfoldable pub configuration_of : State → Configuration
configuration_of s c t = ltb c s.header.containers && has (set_at s.storage.tags c) t
