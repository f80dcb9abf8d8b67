use Rattle.std.proofs.Common.{◌≡◌, ℕ, ◌<◌, ◌^◌, decimal, take}
use Rattle.std.specs.Str.Parse.{digits_value}
use Rattle.sampleline.proofs.number_of.Given as goal

-- of a decimal, the number of the digits so far
abbrev pub invariant-loop-byte : goal.invariant-loop-byte
invariant-loop-byte l = (n : ℕ) → n < 2 ^ 64 → l.digits ≡ decimal n → l.value ≡ digits_value 10 (take l.byte-index l.digits)
