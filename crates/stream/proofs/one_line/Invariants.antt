-- The bytes before the index are as they are shown, the others as they were. Assumes nothing.
use Rattle.std.proofs.Common.{◌≡◌, ◌++◌, map, take, drop}
use Rattle.stream.specs.Stream.{visible_byte}
use Rattle.stream.proofs.one_line.Given as goal

abbrev pub invariant-loop-b : goal.invariant-loop-b
invariant-loop-b l = l.name ≡ map visible_byte (take l.b-index l.initial.name) ++ drop l.b-index l.initial.name
