-- No more was read than there is room for, and the bytes that came stand at the start; what is left of the room and of the tries falls. Assumes nothing.
use Rattle.std.proofs.Common.{length, ◌-◌, ◌+◌, ◌≡◌, ◌≤◌, take}
use Rattle.std.specs.Io.KnownBytes.{Consumes}
use Rattle.stream.proofs.read_to_end.Given as goal

abbrev pub invariant-loop-done : goal.invariant-loop-done
invariant-loop-done g l = record {
  came : Consumes (g.R.Read.remaining l.initial.reader) (g.R.Read.remaining l.reader) (take l.done l.buf);
  within : l.done ≤ length l.buf;
  same_length : length l.buf ≡ length l.initial.buf;
}

abbrev pub decreases-loop-done : goal.decreases-loop-done
decreases-loop-done g l = (length l.buf - l.done) + (l.tries.end - l.tries.start)
