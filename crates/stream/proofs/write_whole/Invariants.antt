-- The first bytes of the text were written; what is left of it and of the tries falls. Assumes nothing.
use Rattle.std.proofs.Common.{length, ◌-◌, ◌+◌, ◌≤◌, take}
use Rattle.std.specs.Io.KnownBytes.{Appends}
use Rattle.stream.proofs.write_whole.Given as goal

abbrev pub invariant-loop-done : goal.invariant-loop-done
invariant-loop-done g l = record {
  wrote : Appends (g.W.Write.contents l.initial.out) (g.W.Write.contents l.out) (take l.done l.fn.text);
  within : l.done ≤ length l.fn.text;
}

abbrev pub decreases-loop-done : goal.decreases-loop-done
decreases-loop-done g l = (length l.fn.text - l.done) + (l.tries.end - l.tries.start)
