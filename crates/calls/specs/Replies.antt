-- What a call answers, in the paper's numbers, and the outcome that its answer and the lent lists make up. Its laws: proofs/Replies.antt. Assumes nothing.
use Rattle.std.specs.Prelude.{List, ℕ, Result, Ok, Err}
use Rattle.refusal.specs.declared.Refusal.{Refusal}
use Rattle.refusal.specs.Number.{number_of}
use Rattle.model.specs.declared.Flow.{Flow}
use Rattle.state.specs.declared.Header.{Header}
use Rattle.state.specs.State.{state_of}
use Rattle.calls.specs.declared.Accepted.{Accepted}
use Rattle.outcome.specs.Outcome.{Answer, Outcome}

-- the refusal of this number, 'with all other numbers 0'
abbrev pub refused : ℕ → Answer
refused k = record { refusal = k; gain = 0 }

abbrev pub answer_of : Result Accepted Refusal → Answer
answer_of (Ok a) = record { refusal = 0; gain = a.gain }
answer_of (Err r) = refused (number_of r)

-- the header after a call that began with h: 'the book's small numbers come back as they went in' where it is refused
abbrev pub header_after : Result Accepted Refusal → Header → Header
header_after (Ok a) h = a.header
header_after (Err r) h = h

-- the outcome of a call that began with header h, answered r and left these words of tag sets, words of policy sets, counts and this flow table
abbrev pub left_by : Result Accepted Refusal → Header → List ℕ → List ℕ → List ℕ → List Flow → Outcome
left_by r h tags policies counts flows = record { answer = answer_of r; state = state_of (header_after r h) tags policies counts flows }
