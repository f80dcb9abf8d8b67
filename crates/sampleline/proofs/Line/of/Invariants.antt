use Rattle.std.proofs.Common.{◌+◌, ◌<◌, eqb, drop, length}
use Rattle.std.specs.List.{slice_split}
use Rattle.std.specs.Iterator.{AlwaysYields}
use Rattle.sampleline.proofs.Numbers.{Numbers}
use Rattle.sampleline.proofs.Line.of.Given as goal

-- what is left is the parts not yet read, and there are the numbers of those read
abbrev pub invariant-loop-digits : goal.invariant-loop-digits
invariant-loop-digits l = AlwaysYields goal.iterator-loop-digits.next_gives (λ x. x.now) l.digits-iterator
    (drop (length l.yielded + 1) (slice_split (λ byte. eqb byte 32) l.text))
    × (length l.yielded < length (slice_split (λ byte. eqb byte 32) l.text))
    × Numbers (slice_split (λ byte. eqb byte 32) l.text) l.numbers.items (length l.yielded)
