-- The tracker follows the accepted history: after each call its flows, its greatest number and its sets are those of the history. Assumes nothing.
use Rattle.std.specs.Prelude.{◌≡◌, true, ◌↔◌, ℕ, ◌<◌, eqb, length}
use Rattle.std.proofs.Math.Path.{refl, ap, ap₂}
use Rattle.std.proofs.Common.{sym, ◌∙◌, subst, arith, eqb-true, eq-eqb}
use Rattle.std.proofs.lemmas.Bool.{false≢true}
use mathlib.Core.List.{List, [], ◌∷◌, ◌++◌}
use Rattle.std.proofs.Math.Logic.Iff
use mathlib.Mathlib.Logic.Relation.{ReflTransGenᴰ}
use Rattle.std.proofs.Math.ListN.{take}
use borrow.Table.Steps.{cases}
use Rattle.truth.specs.Truth.{and-iff, lt_iff}
use Rattle.model.specs.declared.Flow.{Flow}
use Rattle.model.specs.Model.{◌∈◌, Event, enable, disable, History, empty, ◌▸◌, without, enabled, edges_of, Flows, greatest, joins, joined, accepted_from}
use Rattle.model.specs.Closure.{Within}
use Rattle.model.proofs.Closure.{reached-inside}
use Rattle.model.specs.Histories.{MayEnable}
use Rattle.model.proofs.Histories.{flows-empty, flows-next, enable-joins, disable-joins, joins-added, not-joins-same}
use Rattle.tagset.specs.declared.TagSet.{TagSet}
use Rattle.tagset.specs.Set.{has}
use Rattle.state.specs.declared.Header.{Header}
use Rattle.state.specs.State.{Storage, State, set_at, flows_of}
use Rattle.state.specs.IsValid.{IsSized, Usable}
use Rattle.outcome.specs.Outcome.{started, start_of, add_of, Call, ask, add, outcome_of, events_of, after, configuration_of}
use Rattle.outcome.proofs.Refusals.{call-cases}
use Rattle.outcome.specs.Table.{Enables}
use Rattle.outcome.proofs.Stays.{usable-count, started-has, start-usable, flows-within}
use Rattle.outcome.specs.Steps.{Sentence}
use Rattle.outcome.proofs.Steps.{start-accepted, enable-accepted, disable-accepted, start-leaves, call-leaves-usable, enable-sentence, disable-sentence, enable-flows, disable-flows, add-so}
use Rattle.outcome.proofs.Effects.{call-containers}

-- the state is what the history makes of n containers
pub record Follows (n : ℕ) (h : History) (s : State) : Type 0 where
  pub size : s.header.containers ≡ n
  pub usable : Usable s
  pub same-flows : flows_of s ≡ enabled h
  pub same-greatest : s.header.greatest ≡ greatest h
  pub sets : (c t : ℕ) → (configuration_of s c t ≡ true) ↔ Flows n h t c

-- the configuration has the stored tags of the containers below n
pub configuration-has : (s : State) (c t : ℕ) → (configuration_of s c t ≡ true) ↔ ((c < s.header.containers) × (has (set_at s.storage.tags c) t ≡ true))
unfolding configuration_of
configuration-has s c t = simp (and-iff, lt_iff) Iff.rfl

-- a started tracker follows the empty history
pub start-follows : (n : ℕ) (lent : Storage) → IsSized n lent → Follows n empty (started n lent)
unfolding started enabled greatest flows_of
start-follows n lent z =
    record { size = refl; usable = start-usable n lent z; same-flows = refl; same-greatest = refl; sets = λ c t. (fore c t, back c t) }
  where
    stored : (c t : ℕ) → c < n → has (set_at (started n lent).storage.tags c) t ≡ eqb t c
    stored = started-has n lent z

    fore : (c t : ℕ) → configuration_of (started n lent) c t ≡ true → Flows n empty t c
    fore c t q =
        let w = (configuration-has (started n lent) c t).0 q in
        (flows-empty n t c).1 (eqb-true t c (sym (stored c t w.0) ∙ w.1), w.0)

    back : (c t : ℕ) → Flows n empty t c → configuration_of (started n lent) c t ≡ true
    back c t p = let w = (flows-empty n t c).0 p in (configuration-has (started n lent) c t).1 (w.1, stored c t w.1 ∙ eq-eqb t c w.0)

-- ACCEPTED EXACTLY IF IT JOINS
pub accepted-joins : (n : ℕ) (h : History) (s : State) (e : Event) → Follows n h s → ((outcome_of s (ask e)).answer.refusal ≡ 0) ↔ (joins n h e ≡ true)
accepted-joins n h s (enable f) w =
    (λ a. (enable-joins n h f).1 (fore ((enable-accepted s f).0 a)), λ j. (enable-accepted s f).1 (back ((enable-joins n h f).0 j)))
  where
    count : s.header.count ≡ length (enabled h)
    count = sym (usable-count s w.usable) ∙ ap length w.same-flows

    fore : Enables s f → MayEnable n h f
    fore e =
        record {
          from-below = omega (arith, e.proper.0, w.size);
          to_below = omega (arith, e.proper.1, w.size);
          differ = e.proper.2;
          above = omega (arith, e.above, w.same-greatest);
          room = omega (arith, e.room, count);
        }

    back : MayEnable n h f → Enables s f
    back m =
        record {
          usable = w.usable;
          proper = (omega (arith, m.from-below, w.size), omega (arith, m.to_below, w.size), m.differ);
          above = omega (arith, m.above, w.same-greatest);
          room = omega (arith, m.room, count);
        }
accepted-joins n h s (disable k) w = (
  λ a. let r = (disable-accepted s k).0 a in (disable-joins n h k).1 (r.1, subst (λ (fs : List Flow). r.1 ∈ fs) w.same-flows r.2, r.3),
  λ j.
      let r = (disable-joins n h k).0 j in
      (disable-accepted s k).1 (w.usable, r.0, subst (λ (fs : List Flow). r.0 ∈ fs) (sym w.same-flows) r.1, r.2),
)

-- ONE CALL

module _ (h : History) (s : State) where
  abbrev n : ℕ
  n = s.header.containers

  -- after an accepted event: where the flows and the greatest number are those of the history with it, so are the sets
  event-follows : (e : Event) → Follows n h s → Usable (outcome_of s (ask e)).state → Sentence s (outcome_of s (ask e)).state
      → flows_of (outcome_of s (ask e)).state ≡ enabled (h ▸ e) → (outcome_of s (ask e)).state.header.greatest ≡ greatest (h ▸ e)
      → Follows n (h ▸ e) (outcome_of s (ask e)).state
  event-follows e w u sentence flows greatest =
      record { size = size; usable = u; same-flows = flows; same-greatest = greatest; sets = λ c t. (fore c t, back c t) }
    where
      s' : State
      s' = (outcome_of s (ask e)).state

      size : s'.header.containers ≡ n
      size = call-containers s (ask e)

      within : Within n (edges_of (flows_of s'))
      within = subst (λ (m : ℕ). Within m (edges_of (flows_of s'))) size (flows-within s' u.valid)

      fore : (c t : ℕ) → configuration_of s' c t ≡ true → Flows n (h ▸ e) t c
      fore c t q =
          let v = (configuration-has s' c t).0 q in
          let r = (sentence c t (omega (arith, v.0, size))).0 v.1 in
          (flows-next n h e t c).1 (r.0, (w.sets r.0 t).0 ((configuration-has s r.0 t).1 (r.1, r.2)), rw flows at r.3)

      back : (c t : ℕ) → Flows n (h ▸ e) t c → configuration_of s' c t ≡ true
      back c t p =
          let r = (flows-next n h e t c).0 p in
          let v = (configuration-has s r.0 t).0 ((w.sets r.0 t).1 r.1) in
          let way : ReflTransGenᴰ (λ x y. (x, y) ∈ edges_of (flows_of s')) r.0 c = rw flows r.2 in
          let l = reached-inside n (edges_of (flows_of s')) within v.0 way in
          (configuration-has s' c t).1 (omega (arith, l, size), (sentence c t l).1 (r.0, v.0, v.1, way))

  -- an event that joins
  event-joins : (e : Event) → Follows n h s → joins n h e ≡ true → Follows n (h ▸ e) (outcome_of s (ask e)).state
  unfolding enabled greatest
  event-joins (enable f) w j =
      let a = (accepted-joins n h s (enable f) w).1 j in
      let r = enable-flows s f a in
      event-follows (enable f) w (call-leaves-usable s (ask (enable f)) a) (enable-sentence s f a)
      (r.flows ∙ ap (λ (fs : List Flow). fs ++ (f ∷ [])) w.same-flows) r.greatest-is
  event-joins (disable k) w j =
      let a = (accepted-joins n h s (disable k) w).1 j in
      let r = disable-flows s k a in
      event-follows (disable k) w (call-leaves-usable s (ask (disable k)) a) (disable-sentence s k a)
      (r.flows ∙ ap (without k) w.same-flows) (r.greatest-is ∙ w.same-greatest)

-- the state after a call follows the history after it, whether its event joins or not
pub call-follows : (n : ℕ) (h : History) (s : State) (e : Event) → Follows n h s → Follows n (joined n h e) (outcome_of s (ask e)).state
call-follows n h s e w =
    cases (joins n h e)
    (λ j. rw (joins-added n h e j) (subst (λ (m : ℕ). Follows m h s → joins m h e ≡ true → Follows m (h ▸ e) (outcome_of s (ask e)).state) w.size (event-joins h s e) w j))
    (λ j. rw (not-joins-same n h e j)
    (call-cases (λ x. Follows n h x) s (ask e) (λ a. absurd (false≢true (sym j ∙ (accepted-joins n h s e w).0 a))) w))

-- adding a policy set changes nothing of it
add-follows : (n : ℕ) (h : History) (s : State) (c : ℕ) (p : TagSet) → Follows n h s → Follows n h (outcome_of s (add c p)).state
unfolding outcome_of
add-follows n h s c p w =
    call-cases (Follows n h) s (add c p)
    (λ a.
    let v = add-so s c p a in
    record {
      size = ap (λ (x : Header). x.containers) v.header ∙ w.size;
      usable = call-leaves-usable s (add c p) a;
      same-flows = unfold flows_of in ap₂ (λ (x : Header) (fs : List Flow). take x.count fs) v.header v.flows ∙ w.same-flows;
      same-greatest = ap (λ (x : Header). x.greatest) v.header ∙ w.same-greatest;
      sets =
          λ x t.
          let same : configuration_of (add_of s c p).state x t ≡ configuration_of s x t = unfold configuration_of in rw (v.header, v.tags) refl in
          rw same (w.sets x t);
    })
    w

-- and so after a list of calls
pub calls-follow : (n : ℕ) (cs : List Call) (h : History) (s : State) → Follows n h s → Follows n (accepted_from n h (events_of cs)) (after s cs)
unfolding accepted_from events_of after
calls-follow n [] h s w = w
calls-follow n (ask e ∷ cs) h s w = calls-follow n cs (joined n h e) (outcome_of s (ask e)).state (call-follows n h s e w)
calls-follow n (add c p ∷ cs) h s w = calls-follow n cs h (outcome_of s (add c p)).state (add-follows n h s c p w)

-- the state that an accepted start leaves follows the empty history
pub begun-follows : (n : ℕ) (lent : Storage) → (start_of n lent).answer.refusal ≡ 0 → Follows n empty (start_of n lent).state
begun-follows n lent a = rw (start-leaves n lent a) (start-follows n lent ((start-accepted n lent).0 a))
