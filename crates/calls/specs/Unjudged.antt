-- Calls on a state that is not judged: what `apply_enable`, `apply_disable` and `apply_add` do. On a usable state their outcome is that of the public calls
-- (laws `apply-enable`, `apply-disable`, `apply-add` of UnjudgedLaws.antt). Assumes nothing.
use Rattle.std.specs.Prelude.{List, ℕ, ◌+◌, ◌-◌, min, set, take}
use Rattle.refusal.specs.Order.{first_of}
use Rattle.model.specs.declared.Flow.{Flow}
use Rattle.tagset.specs.declared.TagSet.{TagSet}
use Rattle.state.specs.State.{State, flows_of}
use Rattle.flowtable.specs.FlowTable.{place_of, removed_at}
use Rattle.propagation.specs.Pass.{sets_after, pairs_added}
use Rattle.outcome.specs.Outcome.{Outcome, decided, stored, enable_later, disable_later, add_later, adding}

-- the flow stands in the first free place of the table, and the flows up to it carry
unfoldable pub appended_to : State → Flow → List Flow
appended_to s f = set s.storage.flows s.header.count f

unfoldable pub carrying : State → Flow → List Flow
carrying s f = take (s.header.count + 1) (appended_to s f)

-- enabling where neither 9 nor 12 is judged
unfoldable pub apply_enable_of : State → Flow → Outcome
apply_enable_of s f =
    let n = s.header.containers in
    decided (first_of (enable_later s f) 0) s (pairs_added n (carrying s f) s.storage.tags)
    (stored s (s.header.count + 1) (appended_to s f) f.number (sets_after n (carrying s f) s.storage.tags))

-- disabling where neither 9 nor 12 is judged; records past the 512th stay
unfoldable pub apply_disable_of : State → ℕ → Outcome
apply_disable_of s k =
    decided (first_of (disable_later s k) 0) s 0
    (stored s (s.header.count - 1) (removed_at (place_of k (flows_of s)) (min 512 s.header.count) s.storage.flows) s.header.greatest s.storage.tags)

-- adding a policy set where neither 9 nor 12 is judged
unfoldable pub apply_add_of : State → ℕ → TagSet → Outcome
apply_add_of s c p = decided (first_of (add_later s c p) 0) s 0 (adding s c p)
