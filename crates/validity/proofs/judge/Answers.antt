-- `judge` meets its contract: the lengths decide first, then the content. Assumes nothing.
use Rattle.std.proofs.Common.{rules}
use Rattle.state.proofs.IsValid.{sized, bad-size-short}
use Rattle.validity.proofs.judge.Goals as goal

pub returns-then-bad_size : goal.returns-then-bad_size
returns-then-bad_size c = grind (rules, bad-size-short)

pub is_valid-requires : goal.is_valid-requires
is_valid-requires c = (sized _ _).0 (grind (rules, bad-size-short))

pub returns-then-not-is_valid : goal.returns-then-not-is_valid
returns-then-not-is_valid c = grind (rules, bad-size-short)

pub returns : goal.returns
returns c = grind (rules, bad-size-short)
