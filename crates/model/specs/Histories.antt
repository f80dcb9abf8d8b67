-- Accepted histories in the papers' words: which there are, what occurs in them, and when an enable may join. That they
-- are the ones computed, and Flows of one event more: proofs/Histories.antt. Assumes nothing.
use Rattle.std.specs.Prelude.{◌≡◌, true, ◌≢◌, ℕ, ◌<◌, length}
use Rattle.model.specs.Closure.{Within}
use Rattle.model.specs.declared.Flow.{Flow}
use Rattle.model.specs.Model.{Event, History, empty, ◌▸◌, enabled, edges_of}
use Rattle.model.specs.Model.{greatest, joins}

-- THE ACCEPTED HISTORY: each event of it joined what was accepted before

pub data Accepted (n : ℕ) : History → Type 0 where
  none : Accepted n empty
  more : {h : History} → Accepted n h → (e : Event) → joins n h e ≡ true → Accepted n (h ▸ e)

-- an event of the history
pub data Occurs (e : Event) : History → Type 0 where
  last : {h : History} → Occurs e (h ▸ e)
  before : {h : History} (e' : Event) → Occurs e h → Occurs e (h ▸ e')

-- AN ENABLE JOINS exactly if its ends are below n and differ, its number is above the greatest, and fewer than 512 flows are enabled
pub record MayEnable (n : ℕ) (h : History) (f : Flow) : Type 0 where
  pub from-below : f.from < n
  pub to_below : f.to < n
  pub differ : f.from ≢ f.to
  pub above : greatest h < f.number
  pub room : length (enabled h) < 512

-- ENDS BELOW n

-- at every place of the history the enabled ways have both their ends below n
unfoldable pub Inside : ℕ → History → Type 0
Inside n empty = Unit {0}
Inside n (h ▸ e) = Inside n h × Within n (edges_of (enabled (h ▸ e)))
