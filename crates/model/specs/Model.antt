-- Containers, flows, histories and executions: document 000, sections 3.1 and 3.2; document 01, 'What events do' and 'Lists of calls'.
-- A container (document 01: holder) is a number below n, and so is the tag that it has at first. Assumes nothing.
use Rattle.std.specs.Prelude.{Bool, false, ◌&&◌, ◌||◌, not, cond, ℕ, ◌<◌, ltb, eqb, length}
use mathlib.Core.List.{List, [], ◌∷◌, ◌++◌, Memᴰ}
use mathlib.Mathlib.Logic.Relation.{ReflTransGenᴰ}
use Rattle.model.specs.declared.Flow.{Flow}

-- EVENTS AND HISTORIES

-- the flow with this number from one container to another (document 01: channel); widths stand in the struct alone
abbrev pub flow : ℕ → ℕ → ℕ → Flow
flow number from to = record { number = number; from = from; to = to }

-- an observable event (document 01: opening, closing); a disable 'names only the channel number'
pub data Event : Type 0 where
  enable : Flow → Event
  disable : ℕ → Event

-- events in their order, the latest last
infixl 40 ◌▸◌
pub data History : Type 0 where
  empty : History
  ◌▸◌ : History → Event → History

infix 50 ◌∈◌
abbrev pub ◌∈◌ {ℓ} : {A : Type ℓ} → A → List A → Type ℓ
◌∈◌ x xs = Memᴰ x xs

-- one of these flows has number k
unfoldable pub is_enabled : ℕ → List Flow → Bool
is_enabled k [] = false
is_enabled k (f ∷ fs) = eqb f.number k || is_enabled k fs

-- those of the flows that pass the test
unfoldable pub keep : (Flow → Bool) → List Flow → List Flow
keep p [] = []
keep p (f ∷ fs) = let rest = keep p fs in cond (p f) (f ∷ rest) rest

-- the flows but for the one with number k; of an accepted history no two have one number
unfoldable pub without : ℕ → List Flow → List Flow
without k fs = keep (λ f. not (eqb f.number k)) fs

-- the flows enabled and not disabled since, in the order of enabling: 'closing one leaves the other open'
unfoldable pub enabled : History → List Flow
enabled empty = []
enabled (h ▸ enable f) = enabled h ++ (f ∷ [])
enabled (h ▸ disable k) = without k (enabled h)

-- FLOWS OF DOCUMENT 000

-- the ways in which a flow carries data, each its source and its destination
abbrev pub edges : Flow → List (ℕ × ℕ)
edges f = (f.from, f.to) ∷ []

-- the ways of all these flows
unfoldable pub edges_of : List Flow → List (ℕ × ℕ)
edges_of [] = []
edges_of (f ∷ fs) = edges f ++ edges_of fs

-- (a, b) ∈ Enabled, and its reflexive and transitive closure
abbrev pub Enabled : History → ℕ → ℕ → Type 0
Enabled h a b = (a, b) ∈ edges_of (enabled h)

abbrev pub Enabled* : History → ℕ → ℕ → Type 0
Enabled* h a b = ReflTransGenᴰ (Enabled h) a b

-- (t, c) ∈ Flows: the start for the empty history, then Flows · Enabled*
pub data Flows (n : ℕ) : History → ℕ → ℕ → Type 0 where
  own : {c : ℕ} → c < n → Flows n empty c c
  next : {h : History} {t a c : ℕ} (e : Event) → Flows n h t a → Enabled* (h ▸ e) a c → Flows n (h ▸ e) t c

-- EXECUTIONS

-- θ: container c has tag t, as θ c t (Definition 1; document 01: table)
abbrev pub Configuration : Type 0
Configuration = ℕ → ℕ → Bool

-- θ init: 'at the start each holder has its own tag alone'
unfoldable pub initial : ℕ → Configuration
initial n c t = ltb c n && eqb c t

-- θ[b ← θ(b) ∪ θ(a)]: 'passage a to b adds a's tags to b's'
unfoldable pub carry : ℕ → ℕ → Configuration → Configuration
carry a b θ c t = θ c t || (eqb c b && θ a t)

-- an execution of a history (document 01: run): its events in their order, and before, between and after them any number of executions of
-- flows (passages), each of a flow that is enabled there
pub data Execution : History → Type 0 where
  begin : Execution empty
  event : {h : History} → Execution h → (e : Event) → Execution (h ▸ e)
  exec : {h : History} → Execution h → (f : Flow) → f ∈ enabled h → (a b : ℕ) → (a, b) ∈ edges f → Execution h

-- the configuration that an execution leaves; 'openings and closings change no set in it'
unfoldable pub configuration : ℕ → {h : History} → Execution h → Configuration
configuration n begin = initial n
configuration n (event x e) = configuration n x
configuration n (exec x f i a b j) = carry a b (configuration n x)

-- THE ACCEPTED HISTORY of a list of events that were asked for

-- the number enabled last, 0 before the first: in an accepted history the greatest
unfoldable pub greatest : History → ℕ
greatest empty = 0
greatest (h ▸ enable f) = f.number
greatest (h ▸ disable k) = greatest h

-- the event joins the history: none of 4, 4, 5, 6, 7 applies to an enable, and 8 does not to a disable
unfoldable pub joins : ℕ → History → Event → Bool
joins n h (enable f) = ltb f.from n && ltb f.to n && not (eqb f.from f.to) && ltb (greatest h) f.number && ltb (length (enabled h)) 512
joins n h (disable k) = is_enabled k (enabled h)

-- 'an event that doesn't join changes nothing here'
unfoldable pub joined : ℕ → History → Event → History
joined n h e = cond (joins n h e) (h ▸ e) h

-- the history after all of them, from h on
unfoldable pub accepted_from : ℕ → History → List Event → History
accepted_from n h [] = h
accepted_from n h (e ∷ es) = accepted_from n (joined n h e) es

-- and from the empty one
abbrev pub accepted : ℕ → List Event → History
accepted n es = accepted_from n empty es
