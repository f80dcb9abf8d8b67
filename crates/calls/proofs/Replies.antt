-- A contract that gives what a call leaves determines its answer, and a refused call has the outcome of its refusal's
-- number. Assumes nothing.
use Rattle.std.specs.Prelude.{◌≡◌, List, ℕ, ◌<◌, Result, Ok, Err}
use Rattle.std.proofs.Common.{ap, arith}
use Rattle.refusal.specs.declared.Refusal.{Refusal}
use Rattle.refusal.specs.Number.{number_of}
use Rattle.refusal.proofs.Number.{number-injective, number-positive}
use Rattle.model.specs.declared.Flow.{Flow}
use Rattle.state.specs.declared.Header.{Header}
use Rattle.calls.specs.declared.Accepted.{Accepted}
use Rattle.calls.specs.Replies.{left_by}
use Rattle.outcome.specs.Outcome.{Outcome}

-- two answers after which the same was left are one
pub left-injective : (q r : Result Accepted Refusal) (h : Header) (tags policies counts : List ℕ) (flows : List Flow)
    → left_by q h tags policies counts flows ≡ left_by r h tags policies counts flows → q ≡ r
left-injective (Ok a) (Ok b) h tags policies counts flows e =
    let g : a.gain ≡ b.gain = ap (λ (o : Outcome). o.answer.gain) e in
    let k : a.header ≡ b.header = ap (λ (o : Outcome). o.state.header) e in
    λ i. Ok (record { header = k i; gain = g i })
left-injective (Ok a) (Err r) h tags policies counts flows e =
    absurd (omega (arith, ap (λ (o : Outcome). o.answer.refusal) e, number-positive r))
left-injective (Err q) (Ok b) h tags policies counts flows e =
    absurd (omega (arith, ap (λ (o : Outcome). o.answer.refusal) e, number-positive q))
left-injective (Err q) (Err r) h tags policies counts flows e =
    ap Err (number-injective q r (ap (λ (o : Outcome). o.answer.refusal) e))

-- what a refused call leaves, by a law of the call that wants the refusal's number above 0
pub refused-answer : {q : Result Accepted Refusal} (r : Refusal) {h : Header} {tags policies counts : List ℕ} {flows : List Flow} {o : Outcome}
    → q ≡ Err r → (0 < number_of r → left_by (Err r) h tags policies counts flows ≡ o) → left_by q h tags policies counts flows ≡ o
refused-answer r e law = rw e (law (number-positive r))
