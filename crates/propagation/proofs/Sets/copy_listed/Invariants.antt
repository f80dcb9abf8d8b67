-- `copy_listed` meets its contract. The invariant: the sets of the containers so far are copied. Assumes nothing.
use Rattle.std.proofs.Common.{◌≡◌, length}
use Rattle.propagation.specs.Found.{Found}
use Rattle.propagation.specs.Listed.{Listed}
use Rattle.propagation.proofs.Sets.copy_listed.Given as goal

abbrev pub invariant-loop-container : goal.invariant-loop-container
invariant-loop-container l = record {
  long : length l.found ≡ 1024;
  copied : Found l.self.n (Listed l.list 0 (length l.list)) l.initial.found l.self.words.now
      → Found l.self.n (Listed l.list l.container-index (length l.list)) l.found l.self.words.now;
}
