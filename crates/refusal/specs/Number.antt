-- The paper's number of each refusal (document 01, 'Table of refusals'), and of an answer: 0 where nothing is refused.
-- Its laws: proofs/Number.antt. Assumes nothing.
use Rattle.std.specs.Prelude.{ℕ, Result, Ok, Err}
use Rattle.refusal.specs.declared.Refusal.{Refusal}
use Rattle.refusal.specs.declared.Refusal.TheVariants.{Truncated, Overlong, UnknownKind, NoSuchContainer, SelfFlow, StaleNumber, TableFull, NotEnabled, BadSize, ShortOutput, PolicyFull, InvalidState}

-- 1 'cut short', 2 'long number', 3 'unknown kind', 4 'no such holder', 5 'same holder', 6 'old number', 7 'rack full', 8 'not open', 9 'bad size',
-- 10 'short output', 11 'sets full', 12 'unsound book'
abbrev pub number_of : Refusal → ℕ
number_of Truncated = 1
number_of Overlong = 2
number_of UnknownKind = 3
number_of NoSuchContainer = 4
number_of SelfFlow = 5
number_of StaleNumber = 6
number_of TableFull = 7
number_of NotEnabled = 8
number_of BadSize = 9
number_of ShortOutput = 10
number_of PolicyFull = 11
number_of InvalidState = 12

-- 0: not refused
abbrev pub refusal_of : {A : Type 0} → Result A Refusal → ℕ
refusal_of (Ok a) = 0
refusal_of (Err r) = number_of r
