-- The exported functions (foreign/src/lib.rt): the contract of each, whole, says that what it gives back and leaves
-- is what the definition of the call gives, or that of the log's reader or writer, or of `tally`; and it requires
-- nothing. An export more adds an entry, as a call more does in Tie.antt. Assumes nothing.
use Rattle.std.specs.Prelude.{◌≡◌, List, [], ◌∷◌, ◌++◌, ℕ, min, length}
use Rattle.std.proofs.Math.Path.{refl}
use Rattle.std.proofs.Common.{sym, ap, ◌∙◌, subst}
use seplogic.Ra.Ura.{Ura}
use base.Logic.{SProp, sep}
use prog.Memory.{Memory}
use prog.Routine.{Routine}
use types.Logic.{Logic}
use contract.Monad.{Fun, fact}
use Rattle.leb128.specs.Number.{form_of, decode_at, encode_at, write_at}
use Rattle.eventlog.specs.declared.Event.TheVariants.{Enable, Disable}
use Rattle.eventlog.specs.Log.{record_at, head_at, bytes_of}
use Rattle.model.specs.Model.{enable, disable}
use Rattle.state.specs.State.{Storage, State, state_of}
use Rattle.outcome.specs.Outcome.{Outcome, start_of, Call, ask, add, outcome_of}
use Rattle.question.specs.Question.{tags_of, size_asked, legal_of}
use Rattle.ranking.specs.Ranking.{rank_of}
use Rattle.replay.specs.Replay.{replay_of}
use Rattle.tallytext.specs.Text.{new_storage, tally_of}
use Rattle.foreign.specs.Numbers.{outcome_in, set_in, size_in, legal_in, replay_in, reading_in, writing_in, record_of}
use Rattle.foreign.specs.declared.CallAnswer.{CallAnswer}
use Rattle.claims.specs.Running.{Called, begun, called, start_left, call-left}
use Rattle.claims.specs.Tie.{lists, given, Ensures}
use Rattle.foreign.specs.contracts.tracker_start as start-it
use Rattle.foreign.specs.contracts.tracker_enable as enable-it
use Rattle.foreign.specs.contracts.tracker_disable as disable-it
use Rattle.foreign.specs.contracts.tracker_add_policy as add-policy-it
use Rattle.foreign.specs.contracts.tracker_tags_of as tags-of-it
use Rattle.foreign.specs.contracts.tracker_size_of as size-of-it
use Rattle.foreign.specs.contracts.tracker_is_legal as is-legal-it
use Rattle.foreign.specs.contracts.tracker_rank as rank-it
use Rattle.foreign.specs.contracts.tracker_replay as replay-it
use Rattle.foreign.specs.contracts.log_decode as decode-it
use Rattle.foreign.specs.contracts.log_encode as encode-it
use Rattle.foreign.specs.contracts.log_read_head as read-head-it
use Rattle.foreign.specs.contracts.log_write_head as write-head-it
use Rattle.foreign.specs.contracts.log_read_record as read-record-it
use Rattle.foreign.specs.contracts.log_write_enable as write-enable-it
use Rattle.foreign.specs.contracts.log_write_disable as write-disable-it
use Rattle.foreign.specs.contracts.log_enable_len as enable-len-it
use Rattle.foreign.specs.contracts.log_disable_len as disable-len-it
use Rattle.foreign.specs.contracts.tally_text as tally-text-it

-- A LIST OF EXPORTED CALLS is a list of calls: what an exported start that is accepted, or an exported call, gave
-- back and left is what a call gives back and leaves
pub an-exported-start-counts-as-one : (n : ℕ) (lent : Storage) (r : CallAnswer) (left : Storage)
    → outcome_in r left.tags left.policies left.policy_counts left.flows ≡ start_of n lent → r.refusal ≡ 0
    → Called n lent [] (state_of r.header left.tags left.policies left.policy_counts left.flows)
an-exported-start-counts-as-one n lent r left e a =
    let w = start_left n lent (ap (λ (o : Outcome). o.answer.refusal) (sym e) ∙ a) in
    subst (Called n lent []) (ap (λ (o : Outcome). o.state) (w.1 ∙ sym e)) (begun w.0 _ w.1 w.2)

pub an-exported-call-counts-as-one : (n : ℕ) (lent : Storage) (calls : List Call) (s : State) → Called n lent calls s
    → (c : Call) (r : CallAnswer) (left : Storage)
    → outcome_in r left.tags left.policies left.policy_counts left.flows ≡ outcome_of s c
    → Called n lent (calls ++ (c ∷ []))
    (state_of r.header left.tags left.policies left.policy_counts left.flows)
an-exported-call-counts-as-one n lent calls s made c r left e =
    let w = call-left s c in
    subst (Called n lent (calls ++ (c ∷ []))) (ap (λ (o : Outcome). o.state) (w.1 ∙ sym e))
    (called made c w.0 _ w.1)

-- The parameters are the kit's, as in Tie.antt. An argument at exit is named with a '
module _ {M : Type 1} {𝓤 : Ura M} (𝓛 : Logic 𝓤) (mem : Memory → SProp 𝓤) (run : Routine → Fun 𝓤) where
  pub exported-start-contract : start-it.clauses 𝓛 mem run ≡ Ensures 𝓤 start-it.ended
      (λ κs (n, (tags, (policies, (counts, (flows, _))))) r (_, (tags', (policies', (counts', (flows', _))))).
      fact 𝓤 (outcome_in r tags'.now policies'.now counts'.now flows'.now
      ≡ start_of n (lists tags.now policies.now counts.now flows.now)))
  exported-start-contract = refl

  pub exported-enable-contract : enable-it.clauses 𝓛 mem run ≡ Ensures 𝓤 enable-it.ended
      (λ κs (header, (tags, (policies, (counts, (flows, (flow, _)))))) r (_, (tags', (_, (_, (flows', _))))).
      fact 𝓤 (outcome_in r tags'.now policies.now counts.now flows'.now
      ≡ outcome_of (given header tags.now policies.now counts.now flows.now) (ask (enable flow))))
  unfolding outcome_of
  exported-enable-contract = refl

  pub exported-disable-contract : disable-it.clauses 𝓛 mem run ≡ Ensures 𝓤 disable-it.ended
      (λ κs (header, (tags, (policies, (counts, (flows, (number, _)))))) r (_, (_, (_, (_, (flows', _))))).
      fact 𝓤 (outcome_in r tags.now policies.now counts.now flows'.now
      ≡ outcome_of (given header tags.now policies.now counts.now flows.now) (ask (disable number))))
  unfolding outcome_of
  exported-disable-contract = refl

  pub exported-add-policy-contract : add-policy-it.clauses 𝓛 mem run ≡ Ensures 𝓤 add-policy-it.ended
      (λ κs (header, (tags, (policies, (counts, (flows, (c, (policy, _))))))) r (_, (_, (policies', (counts', _)))).
      fact 𝓤 (outcome_in r tags.now policies'.now counts'.now flows.now
      ≡ outcome_of (given header tags.now policies.now counts.now flows.now) (add c policy)))
  unfolding outcome_of
  exported-add-policy-contract = refl

  pub exported-tags-of-contract : tags-of-it.clauses 𝓛 mem run ≡ Ensures 𝓤 tags-of-it.ended
      (λ κs (header, (tags, (policies, (counts, (flows, (c, _)))))) r e.
      fact 𝓤 (set_in r ≡ tags_of (given header tags.now policies.now counts.now flows.now) c))
  exported-tags-of-contract = refl

  pub exported-size-of-contract : size-of-it.clauses 𝓛 mem run ≡ Ensures 𝓤 size-of-it.ended
      (λ κs (header, (tags, (policies, (counts, (flows, (c, _)))))) r e.
      fact 𝓤 (size_in r ≡ size_asked (given header tags.now policies.now counts.now flows.now) c))
  exported-size-of-contract = refl

  pub exported-is-legal-contract : is-legal-it.clauses 𝓛 mem run ≡ Ensures 𝓤 is-legal-it.ended
      (λ κs (header, (tags, (policies, (counts, (flows, (c, _)))))) r e.
      fact 𝓤 (legal_in r ≡ legal_of (given header tags.now policies.now counts.now flows.now) c))
  exported-is-legal-contract = refl

  pub exported-rank-contract : rank-it.clauses 𝓛 mem run ≡ Ensures 𝓤 rank-it.ended
      (λ κs (header, (tags, (policies, (counts, (flows, (out, _)))))) r (_, (_, (_, (_, (_, (out', _)))))).
      sep 𝓤 (fact 𝓤 (r ≡ (rank_of (given header tags.now policies.now counts.now flows.now) out.now).refusal))
      (fact 𝓤 (out'.now ≡ (rank_of (given header tags.now policies.now counts.now flows.now) out.now).output)))
  exported-rank-contract = refl

  pub exported-replay-contract : replay-it.clauses 𝓛 mem run ≡ Ensures 𝓤 replay-it.ended
      (λ κs (bytes, (tags, (policies, (counts, (flows, _))))) r (_, (tags', (policies', (counts', (flows', _))))).
      fact 𝓤 (replay_in r tags'.now policies'.now counts'.now flows'.now
      ≡ replay_of bytes.now (lists tags.now policies.now counts.now flows.now)))
  exported-replay-contract = refl

  pub exported-decode-contract : decode-it.clauses 𝓛 mem run ≡ Ensures 𝓤 decode-it.ended
      (λ κs (bytes, (at, (width, _))) r e.
      fact 𝓤 (reading_in r ≡ decode_at (min width 64) bytes.now at))
  exported-decode-contract = refl

  pub exported-encode-contract : encode-it.clauses 𝓛 mem run ≡ Ensures 𝓤 encode-it.ended
      (λ κs (out, (at, (value, _))) r (out', _).
      let left = encode_at out.now at value in
      sep 𝓤 (fact 𝓤 (writing_in r ≡ left.answer)) (fact 𝓤 (out'.now ≡ left.output)))
  exported-encode-contract = refl

  pub exported-read-head-contract : read-head-it.clauses 𝓛 mem run ≡ Ensures 𝓤 read-head-it.ended
      (λ κs (bytes, _) r e.
      fact 𝓤 (reading_in r ≡ head_at bytes.now))
  exported-read-head-contract = refl

  pub exported-write-head-contract : write-head-it.clauses 𝓛 mem run ≡ Ensures 𝓤 write-head-it.ended
      (λ κs (out, (n, _)) r (out', _).
      let left = write_at out.now 0 (form_of n) in
      sep 𝓤 (fact 𝓤 (writing_in r ≡ left.answer)) (fact 𝓤 (out'.now ≡ left.output)))
  exported-write-head-contract = refl

  pub exported-read-record-contract : read-record-it.clauses 𝓛 mem run ≡ Ensures 𝓤 read-record-it.ended
      (λ κs (bytes, (at, _)) r e.
      fact 𝓤 (r ≡ record_of (record_at bytes.now at)))
  exported-read-record-contract = refl

  pub exported-write-enable-contract : write-enable-it.clauses 𝓛 mem run ≡ Ensures 𝓤 write-enable-it.ended
      (λ κs (out, (at, (flow, _))) r (out', _).
      let left = write_at out.now at (bytes_of (Enable flow.number flow.from flow.to)) in
      sep 𝓤 (fact 𝓤 (writing_in r ≡ left.answer)) (fact 𝓤 (out'.now ≡ left.output)))
  exported-write-enable-contract = refl

  pub exported-write-disable-contract : write-disable-it.clauses 𝓛 mem run ≡ Ensures 𝓤 write-disable-it.ended
      (λ κs (out, (at, (number, _))) r (out', _).
      let left = write_at out.now at (bytes_of (Disable number)) in
      sep 𝓤 (fact 𝓤 (writing_in r ≡ left.answer)) (fact 𝓤 (out'.now ≡ left.output)))
  exported-write-disable-contract = refl

  pub exported-enable-len-contract : enable-len-it.clauses 𝓛 mem run ≡ Ensures 𝓤 enable-len-it.ended
      (λ κs (flow, _) r e.
      fact 𝓤 (r ≡ length (bytes_of (Enable flow.number flow.from flow.to))))
  exported-enable-len-contract = refl

  pub exported-disable-len-contract : disable-len-it.clauses 𝓛 mem run ≡ Ensures 𝓤 disable-len-it.ended
      (λ κs (number, _) r e.
      fact 𝓤 (r ≡ length (bytes_of (Disable number))))
  exported-disable-len-contract = refl

  pub exported-tally-text-contract : tally-text-it.clauses 𝓛 mem run ≡ Ensures 𝓤 tally-text-it.ended
      (λ κs (bytes, (out, _)) r (_, (out', _)).
      let left = tally_of bytes.now new_storage out.now in
      sep 𝓤 (fact 𝓤 (writing_in r ≡ left.answer)) (fact 𝓤 (out'.now ≡ left.output)))
  exported-tally-text-contract = refl
