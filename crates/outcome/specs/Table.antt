-- The table of refusals: which number each call answers, in the paper's words and order. That each call answers by its
-- table, whose rows leave no case out: proofs/Table.antt. Assumes nothing.
use Rattle.std.specs.Prelude.{◌≡◌, true, ◌≢◌, ℕ, ◌≤◌, ◌<◌}
use Rattle.model.specs.declared.Flow.{Flow}
use Rattle.model.specs.Model.{◌∈◌}
use Rattle.tagset.specs.declared.TagSet.{TagSet}
use Rattle.tagset.specs.Set.{has}
use Rattle.state.specs.State.{Storage, State, policy_count, flows_of}
use Rattle.state.specs.IsValid.{IsSized, ProperEnds, IsValid, Usable}

-- 'Starting: 9'
pub data StartAnswers (n : ℕ) (lent : Storage) : ℕ → Type 0 where
  bad-size : ¬ IsSized n lent → StartAnswers n lent 9
  accepted : IsSized n lent → StartAnswers n lent 0

-- an enable to which no refusal applies
pub record Enables (s : State) (f : Flow) : Type 0 where
  pub usable : Usable s
  pub proper : ProperEnds s.header.containers f
  pub above : s.header.greatest < f.number
  pub room : s.header.count < 512

-- 'Opening: 9, 12, 4 for from, 4 for to, 5, 6, 7'
pub data EnableAnswers (s : State) (f : Flow) : ℕ → Type 0 where
  bad-size : ¬ IsSized s.header.containers s.storage → EnableAnswers s f 9
  invalid-state : IsSized s.header.containers s.storage → ¬ IsValid s → EnableAnswers s f 12
  no-such-from : Usable s → s.header.containers ≤ f.from → EnableAnswers s f 4
  no-such-to : Usable s → f.from < s.header.containers → s.header.containers ≤ f.to → EnableAnswers s f 4
  self-flow : Usable s → f.from < s.header.containers → f.to < s.header.containers → f.from ≡ f.to → EnableAnswers s f 5
  stale-number : Usable s → ProperEnds s.header.containers f → f.number ≤ s.header.greatest → EnableAnswers s f 6
  table-full : Usable s → ProperEnds s.header.containers f → s.header.greatest < f.number → 512 ≤ s.header.count → EnableAnswers s f 7
  accepted : Enables s f → EnableAnswers s f 0

-- 'Closing: 9, 12, 8'
pub data DisableAnswers (s : State) (k : ℕ) : ℕ → Type 0 where
  bad-size : ¬ IsSized s.header.containers s.storage → DisableAnswers s k 9
  invalid-state : IsSized s.header.containers s.storage → ¬ IsValid s → DisableAnswers s k 12
  not-enabled : Usable s → ((f : Flow) → f ∈ flows_of s → f.number ≢ k) → DisableAnswers s k 8
  accepted : Usable s → (f : Flow) → f ∈ flows_of s → f.number ≡ k → DisableAnswers s k 0

-- adding a policy set to which no refusal applies
pub record Adds (s : State) (c : ℕ) (p : TagSet) : Type 0 where
  pub usable : Usable s
  pub container : c < s.header.containers
  pub known : (t : ℕ) → has p t ≡ true → t < s.header.containers
  pub room : policy_count s c < 4

-- 'Adding a set: 9, 12, 4 for the holder, 4 for the set, 11'
pub data AddAnswers (s : State) (c : ℕ) (p : TagSet) : ℕ → Type 0 where
  bad-size : ¬ IsSized s.header.containers s.storage → AddAnswers s c p 9
  invalid-state : IsSized s.header.containers s.storage → ¬ IsValid s → AddAnswers s c p 12
  no-such-container : Usable s → s.header.containers ≤ c → AddAnswers s c p 4
  unknown-tag : Usable s → c < s.header.containers → (t : ℕ) → has p t ≡ true → s.header.containers ≤ t → AddAnswers s c p 4
  policy-full : Usable s → c < s.header.containers → ((t : ℕ) → has p t ≡ true → t < s.header.containers) → 4 ≤ policy_count s c → AddAnswers s c p 11
  accepted : Adds s c p → AddAnswers s c p 0
