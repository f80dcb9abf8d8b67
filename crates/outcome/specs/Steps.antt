-- What accepted calls leave, in words: document 01's sentence on the sets, a start, flows changed. Which calls are
-- accepted, and that they leave this: proofs/Steps.antt. Assumes nothing.
use Rattle.std.specs.Prelude.{◌≡◌, true, List, ◌↔◌, ℕ, ◌*◌, ◌<◌, eqb, length, get_or}
use mathlib.Mathlib.Logic.Relation.{ReflTransGenᴰ}
use Rattle.model.specs.declared.Flow.{Flow}
use Rattle.model.specs.Model.{◌∈◌, edges_of}
use Rattle.tagset.specs.Set.{has}
use Rattle.state.specs.State.{State, set_at, policy_count, flows_of, no_flow}

-- THE SETS AFTER AN EVENT

-- document 01: 'after each event, holder b has tag t exactly if some holder a had t before the event and b can be reached from a by zero or more
-- channels open after the event'; here `s` is before and `s'` after it
abbrev pub Sentence : State → State → Type 0
Sentence s s' =
    (b t : ℕ) → b < s.header.containers
    → (has (set_at s'.storage.tags b) t ≡ true)
    ↔ ((a : ℕ) × (a < s.header.containers) × (has (set_at s.storage.tags a) t ≡ true) × ReflTransGenᴰ (λ x y. (x, y) ∈ edges_of (flows_of s')) a b)

-- WHAT ELSE THEY LEAVE

-- what a start makes: n containers with their own tags alone, no policy set, no flow
pub record IsStarted (n : ℕ) (s : State) : Type 0 where
  pub containers : s.header.containers ≡ n
  pub no-flows : s.header.count ≡ 0
  pub no_number : s.header.greatest ≡ 0
  pub own_alone : (c t : ℕ) → c < n → has (set_at s.storage.tags c) t ≡ eqb t c
  pub no-policies : (c : ℕ) → c < n → policy_count s c ≡ 0
  pub zero-policies : (i : ℕ) → i < 16 * n → get_or s.storage.policies i 0 ≡ 0
  pub zero-flows : (i : ℕ) → i < 512 → get_or s.storage.flows i no_flow ≡ no_flow

-- a state with these flows enabled and this greatest number, and otherwise with what another has that is no tag set
pub record FlowsChanged (fs : List Flow) (greatest : ℕ) (s s' : State) : Type 0 where
  pub flows : flows_of s' ≡ fs
  pub count : s'.header.count ≡ length fs
  pub greatest-is : s'.header.greatest ≡ greatest
  pub containers : s'.header.containers ≡ s.header.containers
  pub policies : s'.storage.policies ≡ s.storage.policies
  pub counts : s'.storage.policy_counts ≡ s.storage.policy_counts
