-- Every outcome goes by the first 512 records of the flow table and leaves the records behind them, whatever the lengths of the lists. Assumes nothing.
use Rattle.std.specs.Prelude.{◌≡◌, Bool, List, [], ◌∷◌, ◌++◌, ℕ, zero, suc, ◌+◌, ◌≤◌, min, ltb, length, take, drop}
use Rattle.std.proofs.Math.Path.{refl}
use Rattle.std.proofs.Common.{sym, ap, ap₂, ◌∙◌, append_assoc, arith, length-take, take-append-drop, drop_of_length-le, take-take, take_at, drop_at, length-take-le}
use Rattle.std.proofs.lemmas.Bool.Decides.{nat_tests}
use Rattle.std.proofs.Math.Logic.{by_cases}
use Rattle.std.proofs.Math.Decide.{dec_lt, ℕ_discrete}
use Rattle.refusal.specs.Order.{first_of}
use Rattle.leb128.specs.Answer.{Reading}
use Rattle.eventlog.specs.declared.Event.{Event}
use Rattle.eventlog.specs.Answer.{Events}
use Rattle.eventlog.specs.Log.{bytes_of, head_at, events_from}
use Rattle.model.specs.declared.Flow.{Flow}
use Rattle.model.specs.Model.{enable, disable}
use Rattle.tagset.specs.declared.TagSet.{TagSet}
use Rattle.state.specs.State.{Storage, State, bad_size, flows_of, with_flows}
use Rattle.state.specs.Valid.{in_limits, counts_in_limits, numbers_rise, ends_proper, tags_known, own_tags, sets_carried, unused_zero, valid_of, state_order}
use Rattle.state.specs.IsValid.{Usable}
use Rattle.state.proofs.Judging.{invalid, by_state, short-first, invalid-first}
use Rattle.outcome.specs.Outcome.{Outcome, decided, start_order, started, start_of, no_header, enable_later, enable_order, gain_of, changed, enabling, enable_of, disable_later, disable_order, disabling, disable_of, add_later, add_order, adding, add_of, Call, ask, add, outcome_of}
use Rattle.outcome.proofs.Refusals.{decided-number}
use Rattle.outcome.specs.Table.{Enables}
use Rattle.outcome.proofs.Steps.{enable-accepted, disable-accepted}
use Rattle.outcome.proofs.Effects.{start-beyond, call-beyond}
use Rattle.question.specs.Question.{question_later, question_order, tags_of, size_asked, policies_of, is_legal, legal_of}
use Rattle.ranking.specs.Ranking.{rank_later, rank_order, rank_of}
use Rattle.replay.specs.Replay.{call_of, halted, counted, replay_events, replay_from, containers_at, containers_in, replay_of}
use Rattle.replay.specs.Begin.{begun_sized, not-begun}
use Rattle.replay.specs.Laws.{replay-begun}
use Rattle.replay.specs.Steps.{accepted-event}
use Rattle.replay.proofs.Steps.{refused-event}
use Rattle.front.specs.Front.{with_table, lent_front, front_of, beyond, outcome_beyond, replay_beyond}

-- the two parts make the state
pub front-and-rest : (s : State) → s ≡ beyond (drop 512 s.storage.flows) (front_of s)
front-and-rest s = ap (with_table s) (sym (take-append-drop 512 s.storage.flows))

-- of a table of 512 records and others behind it the first part is the 512
pub front-of-beyond : (more : List Flow) (s : State) → length s.storage.flows ≡ 512 → front_of (beyond more s) ≡ s
front-of-beyond more s h = ap (with_table s) (take_at s.storage.flows more 512 h)

-- THE ORDER

-- the least of a number and b is below b exactly where the number is
pub least-below : (a b : ℕ) → ltb (min a b) b ≡ ltb a b
least-below a b = grind (arith, nat_tests)

-- the first 512 records are fewer than 512 exactly where the table has fewer
front-short : (fs : List Flow) → ltb (length (take 512 fs)) 512 ≡ ltb (length fs) 512
front-short fs =
    let e : length (take 512 fs) ≡ min (length fs) 512 = omega (arith, length-take 512 fs) in
    ap (λ (k : ℕ). ltb k 512) e ∙ least-below (length fs) 512

-- so refusal 9 goes by them
pub size-fits-front : (n : ℕ) (lent : Storage) → bad_size n (lent_front lent) ≡ bad_size n lent
unfolding bad_size
size-fits-front n lent = rw (front-short lent.flows) refl

-- where the count is at most 512 the enabled flows are among them
flows-front : (s : State) → s.header.count ≤ 512 → flows_of (front_of s) ≡ flows_of s
unfolding flows_of
flows-front s h = take-take s.header.count 512 s.storage.flows h

-- so refusal 12 goes by them too
pub valid-front : (s : State) → valid_of (front_of s) ≡ valid_of s
unfolding valid_of in_limits counts_in_limits numbers_rise ends_proper tags_known own_tags sets_carried unused_zero
valid-front s =
    by_cases (dec_lt 512 s.header.count)
    (λ l. invalid (front_of s) (λ v. omega (arith, l, v.table-count)) ∙ sym (invalid s (λ v. omega (arith, l, v.table-count))))
    (λ l. rw (flows-front s (omega (arith, l)), take-take 512 512 s.storage.flows (omega arith)) refl)

-- and so does what every order begins with
pub order-front : (s : State) → state_order (front_of s) ≡ state_order s
order-front s = rw (size-fits-front s.header.containers s.storage, valid-front s) refl

-- the number that an order gives is the same where what stands after is the same in a usable state
number-front : (s : State) (rest rest' : List (Bool × ℕ)) → (Usable s → rest ≡ rest') → first_of (state_order (front_of s) ++ rest) 0 ≡ first_of (state_order s ++ rest') 0
number-front s rest rest' same =
    ap (λ (o : List (Bool × ℕ)). first_of (o ++ rest) 0) (order-front s)
    ∙ by_state s (λ z. short-first s rest z ∙ sym (short-first s rest' z)) (λ z v. invalid-first s rest z v ∙ sym (invalid-first s rest' z v))
    (λ u. ap (λ (o : List (Bool × ℕ)). first_of (state_order s ++ o) 0) (same u))

-- CALLS

-- flows packed from the front leave the records behind the 512th
packed-front : (fs table : List Flow) → with_flows fs table ≡ with_flows fs (take 512 table) ++ drop 512 table
unfolding with_flows
packed-front fs table =
    let none : drop 512 (take 512 table) ≡ [] = drop_of_length-le (take 512 table) {i = 512} (omega (arith, length-take 512 table)) in
    rw none (simp append_assoc)

-- so does a state with these flows enabled
changed-front : (s : State) (fs : List Flow) (greatest : ℕ) (tags : List ℕ)
    → changed s fs greatest tags ≡ beyond (drop 512 s.storage.flows) (changed (front_of s) fs greatest tags)
unfolding changed
changed-front s fs greatest tags = ap (with_table (changed s fs greatest tags)) (packed-front fs s.storage.flows)

-- an outcome that is decided on by the same number is the same in front, where what an accepted call gains and leaves is
decided-front : (r : ℕ) (s : State) (gain gain' : ℕ) (s' t : State)
    → (r ≡ 0 → (gain ≡ gain') × (s' ≡ beyond (drop 512 s.storage.flows) t))
    → decided r s gain s' ≡ outcome_beyond (drop 512 s.storage.flows) (decided r (front_of s) gain' t)
unfolding decided
decided-front zero s gain gain' s' t same =
    let e = same refl in
    ap₂ (λ (g : ℕ) (x : State). record { answer = record { refusal = 0; gain = g }; state = x }) e.0 e.1
decided-front (suc k) s gain gain' s' t same =
    ap (λ (x : State). record { answer = record { refusal = suc k; gain = 0 }; state = x }) (front-and-rest s)

-- STARTING goes by the first 512 records
pub start-front : (n : ℕ) (lent : Storage) → start_of n lent ≡ outcome_beyond (drop 512 lent.flows) (start_of n (lent_front lent))
unfolding start_of start_order started
start-front n lent =
    rw (size-fits-front n lent)
    (decided-front (first_of (start_order n lent) 0) (record { header = no_header; storage = lent }) 0 0 (started n lent) (started n (lent_front lent))
    (λ z. (refl, ap (with_table (started n lent)) (packed-front [] lent.flows))))

-- ENABLING goes by them
pub enable-front : (s : State) (f : Flow) → enable_of s f ≡ outcome_beyond (drop 512 s.storage.flows) (enable_of (front_of s) f)
unfolding enable_of enable_order enable_later enabling outcome_of
enable-front s f =
    rw (number-front s (enable_later s f) (enable_later s f) (λ u. refl))
    (decided-front (first_of (enable_order s f) 0) s _ _ (enabling s f) (enabling (front_of s) f)
    (λ z. let e = same ((enable-accepted s f).0 (decided-number (first_of (enable_order s f) 0) s _ (enabling s f) ∙ z)) in
    (ap (λ (x : State). gain_of s.header.containers s.storage.tags x.storage.tags) e, e)))
  where
    same : Enables s f → enabling s f ≡ beyond (drop 512 s.storage.flows) (enabling (front_of s) f)
    same e = rw (flows-front s e.usable.valid.table-count) (changed-front s _ f.number _)

-- DISABLING goes by them
pub disable-front : (s : State) (k : ℕ) → disable_of s k ≡ outcome_beyond (drop 512 s.storage.flows) (disable_of (front_of s) k)
unfolding disable_of disable_order disable_later disabling outcome_of
disable-front s k =
    rw (number-front s (disable_later (front_of s) k) (disable_later s k) (λ u. rw (flows-front s u.valid.table-count) refl))
    (decided-front (first_of (disable_order s k) 0) s 0 0 (disabling s k) (disabling (front_of s) k)
    (λ z. (refl, same ((disable-accepted s k).0 (decided-number (first_of (disable_order s k) 0) s 0 (disabling s k) ∙ z)).0)))
  where
    same : Usable s → disabling s k ≡ beyond (drop 512 s.storage.flows) (disabling (front_of s) k)
    same u = rw (flows-front s u.valid.table-count) (changed-front s _ s.header.greatest s.storage.tags)

-- ADDING a policy set goes by them
pub add-front : (s : State) (c : ℕ) (p : TagSet) → add_of s c p ≡ outcome_beyond (drop 512 s.storage.flows) (add_of (front_of s) c p)
unfolding add_of add_order add_later adding
add-front s c p =
    rw (number-front s (add_later s c p) (add_later s c p) (λ u. refl))
    (decided-front (first_of (add_order s c p) 0) s 0 0 (adding s c p) (adding (front_of s) c p) (λ z. (refl, front-and-rest (adding s c p))))

-- so does every call
pub call-front : (s : State) (c : Call) → outcome_of s c ≡ outcome_beyond (drop 512 s.storage.flows) (outcome_of (front_of s) c)
unfolding outcome_of
call-front s (ask (enable f)) = enable-front s f
call-front s (ask (disable k)) = disable-front s k
call-front s (add c p) = add-front s c p

-- QUESTIONS go by them

module _ (s : State) (c : ℕ) where
  -- the order is the same
  question-front : first_of (question_order (front_of s) c) 0 ≡ first_of (question_order s c) 0
  unfolding question_order
  question-front = number-front s (question_later s c) (question_later s c) (λ u. refl)

  -- so a container's tag set is the same
  pub tags-front : tags_of (front_of s) c ≡ tags_of s c
  unfolding tags_of
  tags-front = rw question-front refl

  -- its size
  pub size-front : size_asked (front_of s) c ≡ size_asked s c
  unfolding size_asked
  size-front = rw question-front refl

  -- and whether it may be sent
  pub legal-front : legal_of (front_of s) c ≡ legal_of s c
  unfolding legal_of is_legal policies_of
  legal-front = rw question-front refl

-- the ranking is the same
pub rank-front : (s : State) (out : List ℕ) → rank_of (front_of s) out ≡ rank_of s out
unfolding rank_of rank_order
rank-front s out = rw (number-front s (rank_later s out) (rank_later s out) (λ u. refl)) refl

-- A REPLAY goes by them

-- a call on a table of 512 records and others behind it is one on the 512
pub call-before : (more : List Flow) (s : State) (c : Call) → length s.storage.flows ≡ 512 → outcome_of (beyond more s) c ≡ outcome_beyond more (outcome_of s c)
call-before more s c h =
    call-front (beyond more s) c
    ∙ ap₂ (λ (fs : List Flow) (t : State). outcome_beyond fs (outcome_of t c)) (drop_at s.storage.flows more 512 h) (front-of-beyond more s h)

-- so are the events of records
events-before : (more : List Flow) (es : List Event) (k byte at : ℕ) (s : State) → length s.storage.flows ≡ 512
    → replay_events es k byte at (beyond more s) ≡ replay_beyond more (replay_events es k byte at s)
unfolding replay_events
events-before more [] k byte at s h = refl
events-before more (e ∷ es) k byte at s h =
    by_cases (ℕ_discrete (outcome_of s (call_of e)).answer.refusal 0)
    (λ a. accepted-event e es k byte at (beyond more s) (ap (λ (o : Outcome). o.answer.refusal) same ∙ a)
    ∙ ap (λ (o : Outcome). counted o.answer.gain (replay_events es k byte (at + length (bytes_of e)) o.state)) same
    ∙ ap (counted (outcome_of s (call_of e)).answer.gain)
    (events-before more es k byte (at + length (bytes_of e)) (outcome_of s (call_of e)).state ((call-beyond s (call_of e)).records ∙ h))
    ∙ ap (replay_beyond more) (sym (accepted-event e es k byte at s a)))
    (λ n. refused-event e es k byte at (beyond more s) (λ z. n (sym (ap (λ (o : Outcome). o.answer.refusal) same) ∙ z))
    ∙ ap (λ (o : Outcome). halted o.answer.refusal at (beyond more s)) same
    ∙ ap (replay_beyond more) (sym (refused-event e es k byte at s n)))
  where
    same : outcome_of (beyond more s) (call_of e) ≡ outcome_beyond more (outcome_of s (call_of e))
    same = call-before more s (call_of e) h

-- and the records from a position on
pub from-before : (more : List Flow) (bs : List ℕ) (at : ℕ) (s : State) → length s.storage.flows ≡ 512
    → replay_from bs at (beyond more s) ≡ replay_beyond more (replay_from bs at s)
unfolding replay_from
from-before more bs at s h = let r : Events = events_from bs at in events-before more r.events r.refusal r.byte at s h

-- n is read and judged by them
pub containers-front : (bs : List ℕ) (lent : Storage) → containers_in bs (lent_front lent) ≡ containers_in bs lent
unfolding containers_at
containers-front bs lent = rw (front-short lent.flows) refl

-- and so is the whole log
pub replay-front : (bs : List ℕ) (lent : Storage) → replay_of bs lent ≡ replay_beyond (drop 512 lent.flows) (replay_of bs (lent_front lent))
replay-front bs lent =
    by_cases (ℕ_discrete (containers_in bs lent).refusal 0)
    (λ b. replay-begun bs lent b ∙ ap (λ (o : Outcome). replay_from bs (head_at bs).next o.state) (start-front (head_at bs).value lent)
    ∙ from-before (drop 512 lent.flows) bs (head_at bs).next (start_of (head_at bs).value (lent_front lent)).state (records b)
    ∙ ap (replay_beyond (drop 512 lent.flows)) (sym (replay-begun bs (lent_front lent) (number ∙ b))))
    (λ n. not-begun bs lent refl n ∙ ap (halted (containers_in bs lent).refusal 0) (front-and-rest (record { header = no_header; storage = lent }))
    ∙ ap (replay_beyond (drop 512 lent.flows)) (sym (not-begun bs (lent_front lent) number n)))
  where
    -- the number answered for n is the same
    number : (containers_in bs (lent_front lent)).refusal ≡ (containers_in bs lent).refusal
    number = ap (λ (r : Reading). r.refusal) (containers-front bs lent)

    -- where the replay begins, the first part of the table has 512 records, and starting leaves it as long
    records : (containers_in bs lent).refusal ≡ 0 → length (start_of (head_at bs).value (lent_front lent)).state.storage.flows ≡ 512
    records b = (start-beyond (head_at bs).value (lent_front lent)).records ∙ length-take-le 512 lent.flows (begun_sized bs lent b).1.records
