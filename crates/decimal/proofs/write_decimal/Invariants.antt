-- `decimal::write_decimal`: the digits from place `i` on are written, and those before it are the digits of what is left. Assumes nothing.
use Rattle.std.proofs.Common.{◌≡◌, List, ℕ, ◌+◌, ◌<◌, take, drop}
use Rattle.std.proofs.lemmas.List.Edits.{sets}
use Rattle.decimal.specs.Decimal.{decimal_of}
use Rattle.decimal.proofs.write_decimal.Given as goal

-- what holds at the loop's head
pub record Here (out₀ : List ℕ) (at value : ℕ) (out : List ℕ) (rest i : ℕ) : Type 0 where
  pub left : 0 < i → decimal_of rest ≡ take i (decimal_of value)
  pub same : out ≡ sets out₀ (at + i) (drop i (decimal_of value))

abbrev pub invariant-loop-i : goal.invariant-loop-i
invariant-loop-i l = Here l.initial.out l.at l.value l.out l.rest l.i
