-- Input that is too long is not run; of any other the run is the definition's, and so is what is written of it.
-- Assumes nothing.
use Rattle.std.proofs.Common.{◌≡◌, sym, ap, subst, ◌∙◌, List, ℕ, ◌*◌, ◌≤◌, arith, length, replicate}
use Rattle.leb128.specs.Number.{write_at}
use Rattle.model.specs.declared.Flow.{Flow}
use Rattle.state.specs.State.{Storage, storage_of, state_of, no_flow}
use Rattle.replay.specs.declared.Replayed.{Replayed}
use Rattle.replay.specs.Replay.{Replay, replay_of}
use Rattle.replay.specs.Replies.{replay_by}
use Rattle.replay.proofs.Numbers.{replay-room}
use Rattle.tallytext.specs.Text.{text_of, left_of}
use Rattle.tallytext.specs.Replies.{report_in}
use Rattle.tallytext.proofs.Laws.{left-of-replay, left-of-long-input, long-report, replay-report}
use Rattle.report.proofs.tally.Goals as goal
use Rattle.report.proofs.tally.Goals.{Joined-bytes-gt16384, then-bytes-gt16384, else-bytes-gt16384}

-- after the test
module _ (c : Joined-bytes-gt16384) where
  -- the storage that the call was given
  abbrev lent : Storage
  lent = storage_of c.args.tags.now c.args.policies.now c.args.counts.now (replicate 512 no_flow)

  -- the ranking can be written, the report is the input's text, and what is left is the definition's
  abbrev Known : Replayed → List ℕ → List ℕ → List ℕ → List Flow → Type 0
  Known run tags policies counts flows =
      ((run.header.containers ≤ 256) × (4 * run.header.containers ≤ length tags))
      × (report_in run tags ≡ text_of c.args.bytes.now lent)
      × (state_of run.header tags policies counts flows ≡ left_of c.args.bytes.now lent)

  -- so it is of a replay of the input
  replayed : (run : Replayed) (tags policies counts : List ℕ) (flows : List Flow)
      → length c.args.bytes.now ≤ 16384
      → replay_by run tags policies counts flows ≡ replay_of c.args.bytes.now lent
      → Known run tags policies counts flows
  replayed run tags policies counts flows short e = (
    subst (λ (r : Replay). let n = r.state.header.containers in (n ≤ 256) × (4 * n ≤ length r.state.storage.tags))
        (sym e) (replay-room c.args.bytes.now lent),
    replay-report c.args.bytes.now lent run tags policies counts flows short e,
    ap (λ (r : Replay). r.state) e ∙ sym (left-of-replay c.args.bytes.now lent short),
  )

  known : let j = c.if-bytes-gt16384 in Known j.run j.tags j.policies j.counts j.flows
  known =
      elim c.if-bytes-gt16384.branch [
        | then-bytes-gt16384 w ↦
            rw (w.run-is, w.nothing-run.ensures, w.tags-is, w.policies-is, w.counts-is, w.flows-is) (
              (omega arith, omega arith),
              long-report c.args.bytes.now lent c.args.tags.now w.if-bytes-gt16384.true,
              sym (left-of-long-input c.args.bytes.now lent w.if-bytes-gt16384.true),
            )
        | else-bytes-gt16384 w ↦
            rw (w.run-is, w.tags-is, w.policies-is, w.counts-is, w.flows-is)
            (let left = w.replay-run.new in
            replayed w.replay-run.result left.tags left.policies left.counts left.flows
            (omega (arith, w.if-bytes-gt16384.false)) w.replay-run.ensures)
      ]

pub write_report-reply-requires : goal.write_report-reply-requires
write_report-reply-requires c = (known (goal.at.write_report-reply-requires c).Joined-bytes-gt16384).0

pub returns-clause-answer : goal.returns-clause-answer
returns-clause-answer c =
    let k = known (goal.at.returns-clause-answer c).Joined-bytes-gt16384 in
    c.write_report-reply.ensures.answer ∙ ap (λ (t : List ℕ). (write_at c.args.out.now 0 t).answer) k.1

pub returns-clause-output : goal.returns-clause-output
returns-clause-output c =
    let k = known (goal.at.returns-clause-output c).Joined-bytes-gt16384 in
    c.write_report-reply.ensures.output ∙ ap (λ (t : List ℕ). (write_at c.args.out.now 0 t).output) k.1

pub returns-clause-state : goal.returns-clause-state
returns-clause-state c = (known (goal.at.returns-clause-state c).Joined-bytes-gt16384).2
