-- Storage that is long enough and states that are valid, in the paper's words. That `bad_size` and `valid_of` test just
-- this: proofs/IsValid.antt. Assumes nothing.
use Rattle.std.specs.Prelude.{◌≡◌, true, List, [], ◌∷◌, ◌≢◌, ℕ, ◌*◌, ◌/◌, ◌%◌, ◌≤◌, ◌<◌, length, get_or}
use Rattle.model.specs.declared.Flow.{Flow}
use Rattle.model.specs.Model.{◌∈◌, edges_of}
use Rattle.tagset.specs.Set.{has}
use Rattle.state.specs.State.{Storage, State, set_at, policy_count, policy_at, flows_of, no_flow}

-- Refusal 9

-- n is 1 to 256, and the storage is as long as n asks
pub record IsSized (n : ℕ) (lent : Storage) : Type 0 where
  pub some : 1 ≤ n
  pub most : n ≤ 256
  pub tag-words : 4 * n ≤ length lent.tags
  pub policy-words : 16 * n ≤ length lent.policies
  pub count-bytes : n ≤ length lent.policy_counts
  pub records : 512 ≤ length lent.flows

-- Valid states

-- each number is above the one before it, and the first is above k
unfoldable pub Rising : ℕ → List Flow → Type 0
Rising k [] = Unit {0}
Rising k (f ∷ fs) = (k < f.number) × Rising f.number fs

-- both ends are containers, and differ
abbrev pub ProperEnds : ℕ → Flow → Type 0
ProperEnds n f = (f.from < n) × (f.to < n) × (f.from ≢ f.to)

-- document 01, 'Storage': what is true of a valid state
pub record IsValid (s : State) : Type 0 where
  -- 'n is 1 to 256'
  pub some : 1 ≤ s.header.containers
  pub most : s.header.containers ≤ 256
  -- 'counts are at most 512 and 4'
  pub table-count : s.header.count ≤ 512
  pub policy-counts : (c : ℕ) → c < s.header.containers → policy_count s c ≤ 4
  -- 'channel numbers rise strictly from at least 1 and don't pass the greatest'
  pub rising : Rising 0 (flows_of s)
  pub not-past : (f : Flow) → f ∈ flows_of s → f.number ≤ s.header.greatest
  -- 'all ends are below n and differ'
  pub ends : (f : Flow) → f ∈ flows_of s → ProperEnds s.header.containers f
  -- 'no set names a tag of n or more'
  pub known-tags : (c t : ℕ) → c < s.header.containers → has (set_at s.storage.tags c) t ≡ true → t < s.header.containers
  pub known-policies : (c k t : ℕ) → c < s.header.containers → k < policy_count s c → has (policy_at s c k) t ≡ true
      → t < s.header.containers
  -- 'each holder has its own tag'
  pub own : (c : ℕ) → c < s.header.containers → has (set_at s.storage.tags c) c ≡ true
  -- 'for each open channel the from-set is part of the to-set'
  pub carried : (a b : ℕ) → (a, b) ∈ edges_of (flows_of s) → (t : ℕ) → has (set_at s.storage.tags a) t ≡ true → has (set_at s.storage.tags b) t ≡ true
  -- 'unused places are zero'
  pub unused-flows : (i : ℕ) → s.header.count ≤ i → i < 512 → get_or s.storage.flows i no_flow ≡ no_flow
  pub unused-policies : (i : ℕ) → i < 16 * s.header.containers → 4 * policy_count s (i / 16) ≤ i % 16 → get_or s.storage.policies i 0 ≡ 0

-- a state that no call refuses for its storage (9) or its content (12)
pub record Usable (s : State) : Type 0 where
  pub sized : IsSized s.header.containers s.storage
  pub valid : IsValid s
