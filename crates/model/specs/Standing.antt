-- A flow that was enabled, and that no event has disabled since (document 000, section 3.2). That these are the flows
-- enabled: `standing`, proofs/Standing.antt. Assumes nothing.
use Rattle.std.specs.Prelude.{◌≢◌}
use Rattle.model.specs.declared.Flow.{Flow}
use Rattle.model.specs.Model.{Event, enable, disable, History, ◌▸◌}

-- f was enabled, and since then no event disabled its number
pub data Standing (f : Flow) : History → Type 0 where
  here : {h : History} → Standing f (h ▸ enable f)
  later : {h : History} (e : Event) → Standing f h → e ≢ disable f.number → Standing f (h ▸ e)
