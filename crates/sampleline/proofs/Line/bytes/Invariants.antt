use Rattle.std.proofs.Common.{◌≡◌, ◌%◌, take, map}
use Rattle.sampleline.proofs.Line.bytes.Given as goal

-- the numbers so far, as bytes
abbrev pub invariant-loop-number : goal.invariant-loop-number
invariant-loop-number l = l.bytes.items ≡ map (λ n. n % 256) (take l.number-index l.numbers)
