-- `make_passes` meets its contract. A pass: the edges of the flows so far are carried, `added` is what was new, and
-- the containers whose sets changed are listed while there is room. The passes: those made are not all (`Underway`),
-- and the sets found are those that they left; measured by those left. Assumes nothing.
use Rattle.std.proofs.Common.{◌≡◌, ℕ, ◌-◌, ◌≤◌, ◌<◌, take, length}
use Rattle.model.specs.Model.{edges_of}
use Rattle.state.specs.State.{set_at}
use Rattle.propagation.specs.Pass.{passes_of}
use Rattle.propagation.specs.Found.{Found}
use Rattle.propagation.specs.Listed.{WithRoom}
use Rattle.propagation.specs.Turns.{Carried, Underway}
use Rattle.propagation.proofs.Sets.make_passes.Given as goal

abbrev pub invariant-loop-flow : goal.invariant-loop-flow
invariant-loop-flow l = record {
  same : l.self.n ≡ l.fn.self.n;
  place : l.self.words.ghost_name ≡ l.initial.self.words.ghost_name;
  room : l.count ≤ 64;
  found : Found l.fn.self.n (WithRoom l.count l.list) l.found l.self.words.now;
  carried : Carried l.fn.self.n l.initial.self.words.now (edges_of (take l.flow-index l.flows)) l.initial.self.words.now
      l.self.words.now l.added;
}

abbrev pub invariant-passes : goal.invariant-passes
invariant-passes l = record {
  same : l.self.n ≡ l.fn.self.n;
  place : l.self.words.ghost_name ≡ l.initial.self.words.ghost_name;
  long : length l.found ≡ 1024;
  found : (a : ℕ) → a < l.fn.self.n → set_at l.found a ≡ set_at l.self.words.now a;
  made : Underway l.fn.self.n (edges_of l.flows) l.initial.self.words.now l.passes l.self.words.now l.gain;
}

abbrev pub decreases-passes : goal.decreases-passes
decreases-passes l = passes_of l.fn.self.n (edges_of l.flows) l.initial.self.words.now - l.passes
