-- The running calls. A call's contract (calls, question, ranking and replay, src/lib.rt) says that what it gives back
-- and leaves makes up the outcome of its definition; so all that is claimed of the outcome is true of the call. Here:
-- what the contracts say, what is true of each call, and of calls one after the other. Assumes nothing.
use Rattle.std.specs.Prelude.{◌≡◌, refl, Bool, Result, Ok, Err, Some, None, ◌⊎◌, List, [], ◌∷◌, ◌++◌, map, ◌↔◌, ℕ, zero, suc, ◌+◌, ◌≤◌, length, replicate}
use Rattle.std.proofs.Common.{sym, ap, ◌∙◌, subst, inl, inr, ⊎_elim, append_assoc, append-nil, arith}
use Rattle.std.proofs.Math.Bool.{false}
use Rattle.std.proofs.Math.Logic.{by_cases}
use Rattle.std.proofs.Math.Decide.{dec_lt}
use Rattle.refusal.specs.declared.Refusal.{Refusal}
use Rattle.refusal.specs.declared.Refusal.TheVariants.{Truncated, Overlong, UnknownKind, NoSuchContainer, SelfFlow, StaleNumber, TableFull, NotEnabled, BadSize, ShortOutput, PolicyFull, InvalidState}
use Rattle.refusal.specs.Number.{number_of, refusal_of}
use Rattle.refusal.specs.Order.{first_of}
use Rattle.refusal.proofs.Number.{number-positive}
use Rattle.model.specs.declared.Flow.{Flow}
use Rattle.model.specs.Model.{enable, disable, without}
use Rattle.tagset.specs.declared.TagSet.{TagSet}
use Rattle.tagset.specs.Set.{empty_set, size_of}
use Rattle.state.specs.declared.Header.{Header}
use Rattle.state.specs.State.{Storage, State, storage_of, state_of, set_at, flows_of, no_flow}
use Rattle.state.specs.Layout.{Fit64}
use Rattle.state.specs.IsValid.{IsValid, Usable}
use Rattle.tagstore.specs.Store.{total_of}
use Rattle.calls.specs.declared.Accepted.{Accepted}
use Rattle.calls.specs.Replies.{answer_of, left_by}
use Rattle.question.specs.Question.{question_order, asked, tags_of, size_asked, is_legal, legal_of}
use Rattle.question.specs.Replies.{asked_by}
use Rattle.question.specs.Laws.{asked-told, asked-refused, QuestionAnswers, question-answers, bad-size as short-question, invalid-state as invalid-question, no-such-container as no-container, answered}
use Rattle.ranking.specs.Ranking.{rank_of}
use Rattle.ranking.specs.Laws.{RankAnswers, rank-answers, bad-size as rank-bad-size, invalid-state as rank-invalid-state, short-output, done as ranked}
use Rattle.leb128.specs.Answer.{writing_of}
use Rattle.leb128.specs.Number.{IsBytes, Written, write_at}
use Rattle.leb128.specs.Output.{write-fits, write-short}
use Rattle.eventlog.specs.Log.{head_at}
use Rattle.eventlog.specs.declared.Event.{Event as LogEvent}
use Rattle.replay.specs.declared.Replayed.{Replayed}
use Rattle.replay.specs.Replay.{Replay, call_of, containers_in, replay_of}
use Rattle.replay.specs.Replies.{replay_by}
use Rattle.replay.specs.Laws.{by-begun, replay-starts}
use Rattle.replay.proofs.Laws.{replay-does}
use Rattle.replay.specs.Joins.{done_of}
use Rattle.replay.proofs.Joins.{replay-done}
use Rattle.replay.proofs.Numbers.{replay-refusal}
use Rattle.report.specs.declared.Tallied.{Tallied}
use Rattle.tallytext.specs.Text.{text_of, left_of, tally_of}
use Rattle.tallytext.proofs.Laws.{left-of-replay}
use Rattle.outcome.specs.Outcome.{Outcome, no_header, start_of, gain_of, enable_of, disable_of, add_of, Call, ask, add, outcome_of, after}
use Rattle.outcome.proofs.Refusals.{start-refused, call-refused, call-unaccepted}
use Rattle.outcome.specs.Table.{StartAnswers, EnableAnswers, DisableAnswers, AddAnswers, bad-size, invalid-state, no-such-from, no-such-to, self-flow, stale-number, table-full, not-enabled, no-such-container, unknown-tag, policy-full, accepted}
use Rattle.outcome.proofs.Table.{start-answers, enable-answers, disable-answers, add-answers}
use Rattle.outcome.proofs.Policies.{PolicyAdded}
use Rattle.outcome.specs.Steps.{Sentence, IsStarted, FlowsChanged}
use Rattle.outcome.proofs.Steps.{start-makes-usable, call-leaves-usable, call-keeps, enable-sentence, disable-sentence, start-is-started, enable-flows, disable-flows, add-so}
use Rattle.outcome.specs.Effects.{SameBeyond}
use Rattle.outcome.proofs.Effects.{disable-tags, add-tags, enable-gain, disable-gain, add-gain, start-beyond, call-beyond, start-gains-nothing, gain-counted, start_fits, call_fits}

-- WHAT THE CONTRACTS SAY, of what a call gave back and of the lists as it left them: an equation with the call's
-- definition. Tie.antt: the clauses of each call are this, and nothing is required. So a hypothesis of the claims on
-- running calls is what the contract of the call ensures

-- what a start, an event or adding a policy set answers
abbrev pub Answered : Type 0
Answered = Result Accepted Refusal

-- the outcome that the answer to such a call on header h and the lists make up
abbrev pub leaving : Answered → Header → Storage → Outcome
leaving r h left = left_by r h left.tags left.policies left.policy_counts left.flows

-- `start`
abbrev pub StartGave : ℕ → Storage → Answered → Storage → Type 0
StartGave n lent r left = leaving r no_header left ≡ start_of n lent

-- `enable`, `disable`, `add_policy`
abbrev pub CallGave : State → Call → Answered → Storage → Type 0
CallGave s c r left = leaving r s.header left ≡ outcome_of s c

-- `tags_of`, `size_of`, `is_legal`
abbrev pub TagsGave : State → ℕ → Result TagSet Refusal → Type 0
TagsGave s c r = asked_by empty_set r ≡ tags_of s c

abbrev pub SizeGave : State → ℕ → Result ℕ Refusal → Type 0
SizeGave s c r = asked_by 0 r ≡ size_asked s c

abbrev pub LegalGave : State → ℕ → Result Bool Refusal → Type 0
LegalGave s c r = asked_by false r ≡ legal_of s c

-- `rank`: its answer, and the output that it wrote
abbrev pub RankGave : State → List ℕ → Result (Unit {0}) Refusal → Type 0
RankGave s out r = refusal_of r ≡ (rank_of s out).refusal

abbrev pub RankWrote : State → List ℕ → List ℕ → Type 0
RankWrote s out written = written ≡ (rank_of s out).output

-- `replay`: the run that its answer and the lists make up
abbrev pub running : Replayed → Storage → Replay
running r left = replay_by r left.tags left.policies left.policy_counts left.flows

abbrev pub ReplayGave : List ℕ → Storage → Replayed → Storage → Type 0
ReplayGave bs lent r left = running r left ≡ replay_of bs lent

-- `tally`, in lent lists and a new table of its own: its answer, the output that it wrote, and the
-- tracker that it left
abbrev pub with_new_table : List ℕ → List ℕ → List ℕ → Storage
with_new_table tags policies counts = storage_of tags policies counts (replicate 512 no_flow)

abbrev pub TallyAnswered : List ℕ → Storage → List ℕ → Tallied → Type 0
TallyAnswered bs lent out r = writing_of r.reply ≡ (tally_of bs lent out).answer

abbrev pub TallyWrote : List ℕ → Storage → List ℕ → List ℕ → Type 0
TallyWrote bs lent out written = written ≡ (tally_of bs lent out).output

abbrev pub TallyLeft : List ℕ → Storage → Tallied → List ℕ → List ℕ → List ℕ → Type 0
TallyLeft bs lent r tags policies counts = state_of r.header tags policies counts r.flows ≡ left_of bs lent

-- START: what is true of its outcome
pub record StartDoes (n : ℕ) (lent : Storage) (o : Outcome) : Type 0 where
  -- demand 1: the number by the paper's table; a refused start leaves the storage and answers zeros
  pub by-the-table : (k : ℕ) → (o.answer.refusal ≡ k) ↔ StartAnswers n lent k
  pub refused : (k : ℕ) → o.answer.refusal ≡ suc k → o.state ≡ record { header = no_header; storage = lent }
  pub gains-nothing : o.answer.gain ≡ 0
  pub nothing-beyond : SameBeyond n o.state.storage lent
  pub keeps-64-bits : Fit64 lent.tags → Fit64 o.state.storage.tags
  -- an accepted one makes a new tracker, and a usable state
  pub new : o.answer.refusal ≡ 0 → IsStarted n o.state
  pub usable : o.answer.refusal ≡ 0 → Usable o.state

pub start-does : (n : ℕ) (lent : Storage) → StartDoes n lent (start_of n lent)
start-does n lent =
    record {
      by-the-table = start-answers n lent;
      refused = λ k e. (start-refused n lent k e).0;
      gains-nothing = start-gains-nothing n lent;
      nothing-beyond = start-beyond n lent;
      keeps-64-bits = start_fits n lent;
      new = start-is-started n lent;
      usable = start-makes-usable n lent;
    }

-- AN EVENT: what is true of the outcome of enable and disable. Numbers are answered by the table `Answers`; an accepted event leaves these flows and
-- this greatest number
pub record EventDoes (s : State) (Answers : ℕ → Type 0) (fs : List Flow) (greatest : ℕ) (o : Outcome) : Type 0 where
  -- demand 1: the number by the paper's table; a refused event changes nothing
  pub by-the-table : (k : ℕ) → (o.answer.refusal ≡ k) ↔ Answers k
  pub refused : (k : ℕ) → o.answer.refusal ≡ suc k → (o.state ≡ s) × (o.answer.gain ≡ 0)
  pub nothing-beyond : SameBeyond s.header.containers o.state.storage s.storage
  pub keeps-64-bits : Fit64 s.storage.tags → Fit64 o.state.storage.tags
  -- demand 2: each set is the one that document 01's sentence gives, and the gain is counted from the sets
  pub sentence : o.answer.refusal ≡ 0 → Sentence s o.state
  pub gain : o.answer.gain ≡ gain_of s.header.containers s.storage.tags o.state.storage.tags
  pub grows-by-the-gain : total_of s.header.containers s.storage.tags + o.answer.gain ≡ total_of s.header.containers o.state.storage.tags
  -- what else an accepted event leaves
  pub flows : o.answer.refusal ≡ 0 → FlowsChanged fs greatest s o.state
  pub usable : o.answer.refusal ≡ 0 → Usable o.state
  pub keeps-valid : IsValid s → IsValid o.state

abbrev pub EnableDoes : State → Flow → Outcome → Type 0
EnableDoes s f = EventDoes s (EnableAnswers s f) (flows_of s ++ (f ∷ [])) f.number

-- 'a closing gains 0', and 'it takes no tag away': no set changes
pub record DisableDoes (s : State) (k : ℕ) (o : Outcome) : Type 0 where
  pub event : EventDoes s (DisableAnswers s k) (without k (flows_of s)) s.header.greatest o
  pub gains-nothing : o.answer.gain ≡ 0
  pub same-sets : o.state.storage.tags ≡ s.storage.tags

pub enable-does : (s : State) (f : Flow) → EnableDoes s f (enable_of s f)
unfolding outcome_of
enable-does s f =
    record {
      by-the-table = enable-answers s f;
      refused = call-refused s (ask (enable f));
      nothing-beyond = call-beyond s (ask (enable f));
      keeps-64-bits = call_fits s (ask (enable f));
      sentence = enable-sentence s f;
      gain = gain-counted s (ask (enable f));
      grows-by-the-gain = enable-gain s f;
      flows = enable-flows s f;
      usable = call-leaves-usable s (ask (enable f));
      keeps-valid = call-keeps IsValid s (ask (enable f)) (λ s u. u.valid);
    }

pub disable-does : (s : State) (k : ℕ) → DisableDoes s k (disable_of s k)
unfolding outcome_of
disable-does s k =
    record {
      event =
          record {
            by-the-table = disable-answers s k;
            refused = call-refused s (ask (disable k));
            nothing-beyond = call-beyond s (ask (disable k));
            keeps-64-bits = call_fits s (ask (disable k));
            sentence = disable-sentence s k;
            gain = gain-counted s (ask (disable k));
            grows-by-the-gain = rw (disable-tags s k) (omega (arith, disable-gain s k));
            flows = disable-flows s k;
            usable = call-leaves-usable s (ask (disable k));
            keeps-valid = call-keeps IsValid s (ask (disable k)) (λ s u. u.valid);
          };
      gains-nothing = disable-gain s k;
      same-sets = disable-tags s k;
    }

-- ADDING A POLICY SET, which is no event: an accepted one stands behind those that the container has, and nothing else changes
pub record AddDoes (s : State) (c : ℕ) (p : TagSet) (o : Outcome) : Type 0 where
  -- demand 1: the number by the paper's table; a refused call changes nothing
  pub by-the-table : (k : ℕ) → (o.answer.refusal ≡ k) ↔ AddAnswers s c p k
  pub refused : (k : ℕ) → o.answer.refusal ≡ suc k → o.state ≡ s
  pub gains-nothing : o.answer.gain ≡ 0
  pub nothing-beyond : SameBeyond s.header.containers o.state.storage s.storage
  pub same-sets : o.state.storage.tags ≡ s.storage.tags
  pub policy : o.answer.refusal ≡ 0 → PolicyAdded c p s o.state
  pub usable : o.answer.refusal ≡ 0 → Usable o.state
  pub keeps-valid : IsValid s → IsValid o.state

pub add-does : (s : State) (c : ℕ) (p : TagSet) → AddDoes s c p (add_of s c p)
unfolding outcome_of
add-does s c p =
    record {
      by-the-table = add-answers s c p;
      refused = λ k e. (call-refused s (add c p) k e).0;
      gains-nothing = add-gain s c p;
      nothing-beyond = call-beyond s (add c p);
      same-sets = add-tags s c p;
      policy = add-so s c p;
      usable = call-leaves-usable s (add c p);
      keeps-valid = call-keeps IsValid s (add c p) (λ s u. u.valid);
    }

-- CALLS ONE AFTER THE OTHER: a start that was accepted, then calls, each on the header that the call before gave back
-- and the lists that it left, refused or not. What is known of each call is what its contract says, and no more
pub data Called (n : ℕ) (lent : Storage) : List Call → State → Type 0 where
  begun : (r : Answered) (left : Storage) → StartGave n lent r left → (answer_of r).refusal ≡ 0
      → Called n lent [] (leaving r no_header left).state
  called : {cs : List Call} {s : State} → Called n lent cs s
      → (c : Call) (r : Answered) (left : Storage) → CallGave s c r left
      → Called n lent (cs ++ (c ∷ [])) (leaving r s.header left).state

-- one call more at the end of a list
after_last : (cs : List Call) (s : State) (c : Call) → after s (cs ++ (c ∷ [])) ≡ (outcome_of (after s cs) c).state
unfolding after
after_last [] s c = refl
after_last (d ∷ cs) s c = after_last cs (outcome_of s d).state c

-- the state that they left is that of the definitions
pub called_is : {n : ℕ} {lent : Storage} {cs : List Call} {s : State} → Called n lent cs s
    → ((start_of n lent).answer.refusal ≡ 0) × (s ≡ after (start_of n lent).state cs)
unfolding after
called_is (begun r left e a) = (ap (λ (o : Outcome). o.answer.refusal) (sym e) ∙ a, ap (λ (o : Outcome). o.state) e)
called_is {n} {lent} (called {cs} {s} x c r left e) =
    let w = called_is x in
    (w.0, ap (λ (o : Outcome). o.state) e ∙ ap (λ (t : State). (outcome_of t c).state) w.1 ∙ sym (after_last cs (start_of n lent).state c))

-- WHAT IS KNOWN OF THE CALLS CAN BE MET, for every list of them

-- nothing is refused, or it is a refusal's number
abbrev Said : ℕ → Type 0
Said k = (k ≡ 0) ⊎ ((q : Refusal) × (number_of q ≡ k))

-- so it is with each number of the tables
enable-said : (s : State) (f : Flow) {k : ℕ} → EnableAnswers s f k → Said k
enable-said s f (bad-size z) = inr (BadSize, refl)
enable-said s f (invalid-state z v) = inr (InvalidState, refl)
enable-said s f (no-such-from u a) = inr (NoSuchContainer, refl)
enable-said s f (no-such-to u a b) = inr (NoSuchContainer, refl)
enable-said s f (self-flow u a b c) = inr (SelfFlow, refl)
enable-said s f (stale-number u p a) = inr (StaleNumber, refl)
enable-said s f (table-full u p a b) = inr (TableFull, refl)
enable-said s f (accepted e) = inl refl

disable-said : (s : State) (n : ℕ) {k : ℕ} → DisableAnswers s n k → Said k
disable-said s n (bad-size z) = inr (BadSize, refl)
disable-said s n (invalid-state z v) = inr (InvalidState, refl)
disable-said s n (not-enabled u a) = inr (NotEnabled, refl)
disable-said s n (accepted u f i e) = inl refl

add-said : (s : State) (c : ℕ) (p : TagSet) {k : ℕ} → AddAnswers s c p k → Said k
add-said s c p (bad-size z) = inr (BadSize, refl)
add-said s c p (invalid-state z v) = inr (InvalidState, refl)
add-said s c p (no-such-container u a) = inr (NoSuchContainer, refl)
add-said s c p (unknown-tag u a t h b) = inr (NoSuchContainer, refl)
add-said s c p (policy-full u a h b) = inr (PolicyFull, refl)
add-said s c p (accepted e) = inl refl

call-said : (s : State) (c : Call) → Said (outcome_of s c).answer.refusal
unfolding outcome_of
call-said s (ask (enable f)) = enable-said s f ((enable-answers s f (enable_of s f).answer.refusal).0 refl)
call-said s (ask (disable k)) = disable-said s k ((disable-answers s k (disable_of s k).answer.refusal).0 refl)
call-said s (add c p) = add-said s c p ((add-answers s c p (add_of s c p).answer.refusal).0 refl)

-- the outcome of a call is left by some answer
pub call-left : (s : State) (c : Call) → (r : Answered) × CallGave s c r (outcome_of s c).state.storage
call-left s c =
    let o = outcome_of s c in
    ⊎_elim
    (λ z. (
      Ok (record { header = o.state.header; gain = o.answer.gain }),
      λ i. record { answer = record { refusal = sym z i; gain = o.answer.gain }; state = o.state },
    ))
    (λ w.
    let same = call-unaccepted s c (λ z. omega (arith, z, w.1, number-positive w.0)) in
    let state : ◌≡◌ {A = State} (record { header = s.header; storage = o.state.storage }) o.state =
    λ i. record { header = (sym same.0 i).header; storage = o.state.storage } in
    (Err w.0, λ i. record { answer = record { refusal = w.1 i; gain = sym same.1 i }; state = state i }))
    (call-said s c)

-- and so is each number up to 9
said-up-to-9 : (k : ℕ) → k ≤ 9 → Said k
said-up-to-9 zero l = inl refl
said-up-to-9 (suc zero) l = inr (Truncated, refl)
said-up-to-9 (suc (suc zero)) l = inr (Overlong, refl)
said-up-to-9 (suc (suc (suc zero))) l = inr (UnknownKind, refl)
said-up-to-9 (suc (suc (suc (suc zero)))) l = inr (NoSuchContainer, refl)
said-up-to-9 (suc (suc (suc (suc (suc zero))))) l = inr (SelfFlow, refl)
said-up-to-9 (suc (suc (suc (suc (suc (suc zero)))))) l = inr (StaleNumber, refl)
said-up-to-9 (suc (suc (suc (suc (suc (suc (suc zero))))))) l = inr (TableFull, refl)
said-up-to-9 (suc (suc (suc (suc (suc (suc (suc (suc zero)))))))) l = inr (NotEnabled, refl)
said-up-to-9 (suc (suc (suc (suc (suc (suc (suc (suc (suc zero))))))))) l = inr (BadSize, refl)
said-up-to-9 (suc (suc (suc (suc (suc (suc (suc (suc (suc (suc k)))))))))) l = absurd (omega (arith, l))

-- the byte of a complete replay
complete-byte : (bs : List ℕ) (lent : Storage) → IsBytes bs
    → (replay_of bs lent).refusal ≡ 0 → (replay_of bs lent).byte ≡ 0
complete-byte bs lent are =
    by-begun (λ r. r.refusal ≡ 0 → r.byte ≡ 0) bs lent (λ k b e. refl)
    (λ b z. ((replay-does bs lent are b).complete z).1)

-- the run of a replay is given back, with the place where it stopped
pub replay-left : (bs : List ℕ) (lent : Storage) → IsBytes bs
    → (r : Replayed) × ReplayGave bs lent r (replay_of bs lent).state.storage
replay-left bs lent are =
    let x = replay_of bs lent in
    ⊎_elim
    (λ z.
    let b = complete-byte bs lent are z in (
      record { events = x.events; gain = x.gain; header = x.state.header; stop = None },
      λ i. record { refusal = sym z i; byte = sym b i; events = x.events; gain = x.gain; state = x.state },
    ))
    (λ w. (
      record {
        events = x.events;
        gain = x.gain;
        header = x.state.header;
        stop = Some (record { refusal = w.0; byte = x.byte });
      },
      λ i. record { refusal = w.1 i; byte = x.byte; events = x.events; gain = x.gain; state = x.state },
    ))
    (said-up-to-9 x.refusal (replay-refusal bs lent are))

-- writing is answered in one of two ways
written-by : (out : List ℕ) (at : ℕ) (bs : List ℕ)
    → (reply : Result ℕ Refusal) × (writing_of reply ≡ (write_at out at bs).answer)
written-by out at bs =
    by_cases (dec_lt (length out) (at + length bs))
    (λ l. (Err ShortOutput, ap (λ (w : Written). w.answer) (sym (write-short out at bs l))))
    (λ l. (Ok (at + length bs), ap (λ (w : Written). w.answer) (sym (write-fits out at bs (omega (arith, l))))))

-- calls go on after calls
pub called_on : (n : ℕ) (lent : Storage) (done : List Call) (s : State) → Called n lent done s → (cs : List Call) → (s : State) × Called n lent (done ++ cs) s
called_on n lent done s x [] = (s, subst (λ (ds : List Call). Called n lent ds s) (sym (append-nil done)) x)
called_on n lent done s x (c ∷ cs) =
    let w = call-left s c in
    let y = called_on n lent (done ++ (c ∷ [])) _ (called x c w.0 _ w.1) cs in
    (y.0, subst (λ (ds : List Call). Called n lent ds y.0) (append_assoc done (c ∷ []) cs) y.1)

-- the outcome of a start that is accepted is left by an answer that accepts
pub start_left : (n : ℕ) (lent : Storage) → (start_of n lent).answer.refusal ≡ 0
    → (r : Answered) × StartGave n lent r (start_of n lent).state.storage × ((answer_of r).refusal ≡ 0)
start_left n lent a =
    let o = start_of n lent in (
      Ok (record { header = o.state.header; gain = o.answer.gain }),
      λ i. record { answer = record { refusal = sym a i; gain = o.answer.gain }; state = o.state },
      refl,
    )

-- so every list of calls can be called, from every start that is accepted
pub called_of : (n : ℕ) (lent : Storage) → (start_of n lent).answer.refusal ≡ 0 → (cs : List Call) → (s : State) × Called n lent cs s
called_of n lent a cs = let w = start_left n lent a in called_on n lent [] _ (begun w.0 _ w.1 w.2) cs

-- a question is answered in one of four ways
question-said : (s : State) (c : ℕ) {k : ℕ} → QuestionAnswers s c k → Said k
question-said s c (short-question z) = inr (BadSize, refl)
question-said s c (invalid-question z v) = inr (InvalidState, refl)
question-said s c (no-container u l) = inr (NoSuchContainer, refl)
question-said s c (answered u l) = inl refl

-- so what is asked has an answer
asked-given : {A : Type 0} (none value : A) (k : ℕ) → Said k
    → (r : Result A Refusal) × (asked_by none r ≡ asked k none value)
asked-given none value k (inl z) = (Ok value, sym (asked-told none value k z))
asked-given none value k (inr w) = (Err w.0, sym (asked-refused none value k w.0 (sym w.1)))

module _ (s : State) (c : ℕ) where
  decided-on : Said (first_of (question_order s c) 0)
  decided-on = question-said s c ((question-answers s c (first_of (question_order s c) 0)).0 refl)

  pub tags-given : (r : Result TagSet Refusal) × TagsGave s c r
  unfolding tags_of
  tags-given = asked-given empty_set (set_at s.storage.tags c) (first_of (question_order s c) 0) decided-on

  pub size-given : (r : Result ℕ Refusal) × SizeGave s c r
  unfolding size_asked
  size-given = asked-given 0 (size_of (set_at s.storage.tags c)) (first_of (question_order s c) 0) decided-on

  pub legal-given : (r : Result Bool Refusal) × LegalGave s c r
  unfolding legal_of
  legal-given = asked-given false (is_legal s c) (first_of (question_order s c) 0) decided-on

-- and so is the ranking
rank-said : (s : State) (out : List ℕ) {k : ℕ} → RankAnswers s out k → Said k
rank-said s out (rank-bad-size z) = inr (BadSize, refl)
rank-said s out (rank-invalid-state z v) = inr (InvalidState, refl)
rank-said s out (short-output u l) = inr (ShortOutput, refl)
rank-said s out (ranked u l) = inl refl

pub rank-given : (s : State) (out : List ℕ) → (r : Result (Unit {0}) Refusal) × RankGave s out r
rank-given s out =
    ⊎_elim (λ z. (Ok tt, sym z)) (λ w. (Err w.0, w.1))
    (rank-said s out ((rank-answers s out (rank_of s out).refusal).0 refl))

-- what a `tally` writes and leaves is given back by some answer
pub tally-left : (bs tags policies counts out : List ℕ)
    → (let lent = with_new_table tags policies counts in
    let x = (left_of bs lent).storage in
    (r : Tallied) × TallyAnswered bs lent out r × TallyLeft bs lent r x.tags x.policies x.policy_counts)
tally-left bs tags policies counts out =
    let lent = with_new_table tags policies counts in
    let x = left_of bs lent in
    let w = written-by out 0 (text_of bs lent) in
    (record { reply = w.0; header = x.header; flows = x.storage.flows }, w.1, refl)

-- A REPLAY, OR A `tally`, COUNTS AS SUCH CALLS: a start and the calls of its events, of those that its bytes hold the
-- first that join (`done_of`), found from the bytes alone

-- where n and the storage are accepted, calls that left what the run leaves
as_called : (bs : List ℕ) (lent : Storage) → IsBytes bs → (containers_in bs lent).refusal ≡ 0
    → {s : State} → s ≡ (replay_of bs lent).state → Called (head_at bs).value lent (map call_of (done_of bs)) s
as_called bs lent are a e =
    let n = (head_at bs).value in
    let cs = map call_of (done_of bs) in
    let x = called_of n lent (replay-starts bs lent a) cs in
    let run : (replay_of bs lent).state ≡ after (start_of n lent).state cs =
    (replay-does bs lent are a).state
    ∙ ap (λ (es : List LogEvent). after (start_of n lent).state (map call_of es)) (replay-done bs lent are a) in
    subst (Called n lent cs) ((called_is x.1).1 ∙ sym (e ∙ run)) x.1

pub replay-as-calls : (bs : List ℕ) (lent : Storage) → IsBytes bs → (containers_in bs lent).refusal ≡ 0
    → (r : Replayed) (left : Storage) → ReplayGave bs lent r left
    → Called (head_at bs).value lent (map call_of (done_of bs)) (running r left).state
replay-as-calls bs lent are a r left e = as_called bs lent are a (ap (λ (x : Replay). x.state) e)

pub tally-as-calls : (bs lentTags lentPolicies lentCounts : List ℕ)
    → (let lent = with_new_table lentTags lentPolicies lentCounts in
    IsBytes bs → (containers_in bs lent).refusal ≡ 0
    → length bs ≤ 16384 → (r : Tallied) (tags policies counts : List ℕ) → TallyLeft bs lent r tags policies counts
    → Called (head_at bs).value lent (map call_of (done_of bs)) (state_of r.header tags policies counts r.flows))
tally-as-calls bs lentTags lentPolicies lentCounts are a short r tags policies counts e =
    let lent = with_new_table lentTags lentPolicies lentCounts in
    as_called bs lent are a (e ∙ left-of-replay bs lent (omega (arith, short)))

-- and there are such calls, for every replay and every `tally` whose n and storage are accepted
pub replay-begins : (bs : List ℕ) (lent : Storage) → IsBytes bs → (containers_in bs lent).refusal ≡ 0
    → (r : Replayed) × (left : Storage) × ReplayGave bs lent r left
    × Called (head_at bs).value lent (map call_of (done_of bs)) (running r left).state
replay-begins bs lent are a =
    let w = replay-left bs lent are in (w.0, _, w.1, replay-as-calls bs lent are a w.0 _ w.1)

pub tally-begins : (bs tags policies counts : List ℕ)
    → (let lent = with_new_table tags policies counts in
    let x = (left_of bs lent).storage in
    IsBytes bs → (containers_in bs lent).refusal ≡ 0 → length bs ≤ 16384
    → (r : Tallied) × TallyLeft bs lent r x.tags x.policies x.policy_counts
    × Called (head_at bs).value lent (map call_of (done_of bs))
    (state_of r.header x.tags x.policies x.policy_counts r.flows))
tally-begins bs tags policies counts are a short =
    let w = tally-left bs tags policies counts [] in
    (w.0, w.2, tally-as-calls bs tags policies counts are a (omega (arith, short)) w.0 _ _ _ w.2)
