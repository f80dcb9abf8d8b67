-- The law of the answers to questions: the paper's numbers tell them apart, so a contract that gives them determines
-- the answer. Assumes nothing.
use Rattle.std.specs.Prelude.{◌≡◌, Result, Ok, Err}
use Rattle.std.proofs.Common.{ap, arith}
use Rattle.refusal.specs.declared.Refusal.{Refusal}
use Rattle.refusal.proofs.Number.{number-injective, number-positive}
use Rattle.question.specs.Question.{Asked}
use Rattle.question.specs.Replies.{asked_by}

pub asked-injective : {A : Type 0} (none : A) (q r : Result A Refusal) → asked_by none q ≡ asked_by none r → q ≡ r
asked-injective {A} none (Ok v) (Ok w) e = ap Ok (ap (λ (x : Asked A). x.value) e)
asked-injective {A} none (Ok v) (Err r) e = absurd (omega (arith, ap (λ (x : Asked A). x.refusal) e, number-positive r))
asked-injective {A} none (Err q) (Ok w) e = absurd (omega (arith, ap (λ (x : Asked A). x.refusal) e, number-positive q))
asked-injective {A} none (Err q) (Err r) e = ap Err (number-injective q r (ap (λ (x : Asked A). x.refusal) e))
