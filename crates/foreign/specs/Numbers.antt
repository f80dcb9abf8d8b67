-- What the records of the exported functions say: the outcome, answer, run, reading or writing of these numbers. Assumes nothing.
use Rattle.std.specs.Prelude.{◌≡◌, Bool, Result, List, ℕ, get_or}
use Rattle.std.proofs.Common.{◌∙◌}
use Rattle.refusal.specs.declared.Refusal.{Refusal}
use Rattle.model.specs.declared.Flow.{Flow}
use Rattle.tagset.specs.declared.TagSet.{TagSet}
use Rattle.leb128.specs.Answer.{Reading, Writing}
use Rattle.eventlog.specs.Answer.{RecordReading}
use Rattle.state.specs.declared.Header.{Header}
use Rattle.state.specs.State.{state_of}
use Rattle.outcome.specs.Outcome.{Outcome}
use Rattle.calls.specs.declared.Accepted.{Accepted}
use Rattle.calls.specs.Replies.{answer_of, header_after, left_by}
use Rattle.question.specs.Question.{Asked}
use Rattle.replay.specs.declared.Replayed.{Replayed}
use Rattle.replay.specs.Replay.{Replay}
use Rattle.replay.specs.Replies.{refusal_at, byte_at, replay_by}
use Rattle.foreign.specs.declared.CallAnswer.{CallAnswer}
use Rattle.foreign.specs.declared.SetAnswer.{SetAnswer}
use Rattle.foreign.specs.declared.SizeAnswer.{SizeAnswer}
use Rattle.foreign.specs.declared.LegalAnswer.{LegalAnswer}
use Rattle.foreign.specs.declared.ReplayAnswer.{ReplayAnswer}
use Rattle.foreign.specs.declared.NumberAnswer.{NumberAnswer}
use Rattle.foreign.specs.declared.WriteAnswer.{WriteAnswer}
use Rattle.foreign.specs.declared.RecordAnswer.{RecordAnswer}

-- the outcome of a call that answered r and left these words of tag sets, words of policy sets, counts and this flow table
abbrev pub outcome_in : CallAnswer → List ℕ → List ℕ → List ℕ → List Flow → Outcome
outcome_in r tags policies counts flows = record { answer = record { refusal = r.refusal; gain = r.gain }; state = state_of r.header tags policies counts flows }

abbrev pub set_in : SetAnswer → Asked TagSet
set_in r = record { refusal = r.refusal; value = r.set }

abbrev pub size_in : SizeAnswer → Asked ℕ
size_in r = record { refusal = r.refusal; value = r.size }

abbrev pub legal_in : LegalAnswer → Asked Bool
legal_in r = record { refusal = r.refusal; value = r.legal }

-- the run of a replay that answered r and left these lists
abbrev pub replay_in : ReplayAnswer → List ℕ → List ℕ → List ℕ → List Flow → Replay
replay_in r tags policies counts flows =
    record { refusal = r.refusal; byte = r.byte; events = r.events; gain = r.gain; state = state_of r.header tags policies counts flows }

abbrev pub reading_in : NumberAnswer → Reading
reading_in r = record { refusal = r.refusal; value = r.value; next = r.next }

abbrev pub writing_in : WriteAnswer → Writing
writing_in r = record { refusal = r.refusal; next = r.next }

-- the numbers of a record that was read: its fields are its kind and its flow, and 0 where it has fewer
abbrev pub record_of : RecordReading → RecordAnswer
record_of q =
    record {
      refusal = q.refusal;
      kind = get_or q.fields 0 0;
      flow = record { number = get_or q.fields 1 0; from = get_or q.fields 2 0; to = get_or q.fields 3 0 };
      next = q.next;
    }

-- the numbers of what a call answers that began with header h, and of what a replay gives back
abbrev pub call_told : Result Accepted Refusal → Header → CallAnswer
call_told a h = record { refusal = (answer_of a).refusal; gain = (answer_of a).gain; header = header_after a h }

abbrev pub replay_told : Replayed → ReplayAnswer
replay_told r =
    record { refusal = refusal_at r.stop; byte = byte_at r.stop; events = r.events; gain = r.gain; header = r.header }

-- the numbers of what a call answers make up the same outcome, and those of a replay the same run
pub told-outcome : (r : CallAnswer) (a : Result Accepted Refusal) (h : Header) (ts ps cs : List ℕ) (fs : List Flow) (o : Outcome)
    → (r.refusal ≡ (answer_of a).refusal) × (r.gain ≡ (answer_of a).gain) × (r.header ≡ header_after a h)
    → left_by a h ts ps cs fs ≡ o → outcome_in r ts ps cs fs ≡ o
told-outcome r a h ts ps cs fs o (refusal, gain, header) left =
    (λ i. record { answer = record { refusal = refusal i; gain = gain i }; state = state_of (header i) ts ps cs fs }) ∙ left

pub told-replay : (r : ReplayAnswer) (a : Replayed) (ts ps cs : List ℕ) (fs : List Flow) (o : Replay)
    → (r.refusal ≡ refusal_at a.stop) × (r.byte ≡ byte_at a.stop) × (r.events ≡ a.events) × (r.gain ≡ a.gain) × (r.header ≡ a.header)
    → replay_by a ts ps cs fs ≡ o → replay_in r ts ps cs fs ≡ o
told-replay r a ts ps cs fs o (refusal, byte, events, gain, header) left =
    (λ i. record { refusal = refusal i; byte = byte i; events = events i; gain = gain i; state = state_of (header i) ts ps cs fs }) ∙ left
