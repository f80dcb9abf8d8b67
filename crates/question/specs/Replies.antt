-- What the answers to questions stand for, in the paper's numbers: a refusal answers the empty set, the size 0, no. Its
-- law: proofs/Replies.antt. Assumes nothing.
use Rattle.std.specs.Prelude.{ℕ, Result, Ok, Err}
use Rattle.refusal.specs.declared.Refusal.{Refusal}
use Rattle.refusal.specs.Number.{number_of}
use Rattle.question.specs.Question.{Asked}

-- a question that is answered, and one that is refused with the answer `none`
abbrev pub told : {A : Type 0} → A → Asked A
told v = record { refusal = 0; value = v }

abbrev pub untold : {A : Type 0} → A → ℕ → Asked A
untold none k = record { refusal = k; value = none }

-- an answer, or a refusal, which answers `none`
abbrev pub asked_by : {A : Type 0} → A → Result A Refusal → Asked A
asked_by none (Ok v) = told v
asked_by none (Err r) = untold none (number_of r)
