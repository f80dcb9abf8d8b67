-- The tracker's state (document 01, 'Storage': a book): the header and four lent lists of any length and content. Assumes nothing.
use Rattle.std.specs.Prelude.{Bool, ◌||◌, List, [], ◌∷◌, ◌++◌, ℕ, ◌+◌, ◌-◌, ◌*◌, ◌/◌, ◌%◌, ltb, eqb, length, get_or, take, drop, replicate}
use Rattle.model.specs.declared.Flow.{Flow}
use Rattle.model.specs.Model.{flow}
use Rattle.model.specs.Reach.{tabulate}
use Rattle.tagset.specs.declared.TagSet.{TagSet}
use Rattle.state.specs.declared.Header.{Header}
use Rattle.state.specs.declared.Tracker.{Tracker}

-- what is lent; in use are 4n words of tag sets, 16n words of policy sets (permitted sets), n counts of these, 512 records of flows (the rack)
pub record Storage : Type 0 where
  pub tags : List ℕ
  pub policies : List ℕ
  pub policy_counts : List ℕ
  pub flows : List Flow

-- the header (the small numbers): n, how many flows are enabled, the greatest accepted number
pub record State : Type 0 where
  pub header : Header
  pub storage : Storage

-- the storage of four lists, and the state with this header
abbrev pub storage_of : List ℕ → List ℕ → List ℕ → List Flow → Storage
storage_of tags policies counts flows = record { tags = tags; policies = policies; policy_counts = counts; flows = flows }

abbrev pub state_of : Header → List ℕ → List ℕ → List ℕ → List Flow → State
state_of header tags policies counts flows = record { header = header; storage = storage_of tags policies counts flows }

-- the state of a tracker that is asked
abbrev pub state_in : Tracker → State
state_in t = state_of t.header t.tags.now t.policies.now t.counts.now t.flows.now

-- 9: 'n is 0 or above 256, or storage shorter than above', by the lengths of the four lists
abbrev pub short_of : ℕ → ℕ → ℕ → ℕ → ℕ → Bool
short_of n tags policies counts flows =
    eqb n 0 || ltb 256 n || ltb tags (4 * n) || ltb policies (16 * n) || ltb counts n || ltb flows 512

unfoldable pub bad_size : ℕ → Storage → Bool
bad_size n lent = short_of n (length lent.tags) (length lent.policies) (length lent.policy_counts) (length lent.flows)

-- set k of a list of words, four words each
unfoldable pub set_at : List ℕ → ℕ → TagSet
set_at ws k = record { words = get_or ws (4 * k) 0 ∷ get_or ws (4 * k + 1) 0 ∷ get_or ws (4 * k + 2) 0 ∷ get_or ws (4 * k + 3) 0 ∷ [] }

-- how many policy sets a container has, and set k of them: 16 words a container, four a set
abbrev pub policy_count : State → ℕ → ℕ
policy_count s c = get_or s.storage.policy_counts c 0

abbrev pub policy_at : State → ℕ → ℕ → TagSet
policy_at s c k = set_at s.storage.policies (4 * c + k)

-- the words with the first n sets replaced, the words beyond as they were
unfoldable pub with_sets : ℕ → (ℕ → TagSet) → List ℕ → List ℕ
with_sets n f ws = tabulate (4 * n) (λ i. get_or (f (i / 4)).words (i % 4) 0) ++ drop (4 * n) ws

-- the enabled flows: 'packed from the front'
unfoldable pub flows_of : State → List Flow
flows_of s = take s.header.count s.storage.flows

-- a record that is not in use
abbrev pub no_flow : Flow
no_flow = flow 0 0 0

-- the table with these flows 'packed from the front', unused records zero, those beyond 512 as they were
unfoldable pub with_flows : List Flow → List Flow → List Flow
with_flows fs table = fs ++ (replicate (512 - length fs) no_flow ++ drop 512 table)
