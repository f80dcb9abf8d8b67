-- Accepted calls: which they are, what they leave, and document 01's sentence on the sets after them. Assumes nothing.
use Rattle.std.specs.Prelude.{◌≡◌, refl, true, List, [], ◌∷◌, ◌++◌, ◌↔◌, ◌≢◌, ℕ, ◌*◌, ◌<◌}
use Rattle.std.proofs.Math.Logic.Iff
use mathlib.Mathlib.Logic.Relation.{ReflTransGenᴰ}
use Rattle.std.proofs.Common.{arith}
use Rattle.refusal.specs.Order.{first_of}
use Rattle.model.specs.declared.Flow.{Flow}
use Rattle.model.specs.Model.{◌∈◌, enable, disable, without, edges_of}
use Rattle.model.specs.Closure.{Within}
use Rattle.model.proofs.Closure.{reaches-sound, reaches-complete}
use Rattle.model.proofs.Standing.{without-part}
use Rattle.tagset.specs.declared.TagSet.{TagSet}
use Rattle.tagset.specs.Set.{has}
use Rattle.state.specs.State.{Storage, State, set_at, flows_of}
use Rattle.state.proofs.LayoutLaws.{front_at}
use Rattle.state.specs.IsValid.{IsSized, Usable}
use Rattle.outcome.specs.Outcome.{no_header, start_order, started, start_of, propagated, changed, enabling, disabling, enable_order, enable_of, disable_order, disable_of, add_of, Call, ask, add, outcome_of}
use Rattle.outcome.proofs.Refusals.{decided-done, call-cases}
use Rattle.outcome.specs.Table.{Enables, StartAnswers, EnableAnswers, DisableAnswers, AddAnswers, bad-size, invalid-state, accepted}
use Rattle.outcome.proofs.Table.{start-answers, enable-answers, disable-answers, add-answers}
use Rattle.outcome.proofs.Propagation.{propagated-has}
use Rattle.outcome.proofs.Policies.{add-accepted, add-leaves, adding-usable, PolicyAdded, adding-so}
use Rattle.outcome.proofs.Stays.{changed-flows, started-has, start-usable, enable-usable, disable-usable, flows-within, settled}
use Rattle.outcome.specs.Steps.{Sentence, IsStarted, FlowsChanged}

-- WHICH CALLS ARE ACCEPTED: the rows of the table with number 0

pub start-accepted : (n : ℕ) (lent : Storage) → ((start_of n lent).answer.refusal ≡ 0) ↔ IsSized n lent
start-accepted n lent = (λ a. row ((start-answers n lent 0).0 a), λ z. (start-answers n lent 0).1 (accepted z))
  where
    row : StartAnswers n lent 0 → IsSized n lent
    row (accepted z) = z

pub enable-accepted : (s : State) (f : Flow) → ((outcome_of s (ask (enable f))).answer.refusal ≡ 0) ↔ Enables s f
unfolding outcome_of
enable-accepted s f = (λ a. row ((enable-answers s f 0).0 a), λ e. (enable-answers s f 0).1 (accepted e))
  where
    row : EnableAnswers s f 0 → Enables s f
    row (accepted e) = e

pub disable-accepted : (s : State) (k : ℕ) → ((outcome_of s (ask (disable k))).answer.refusal ≡ 0) ↔ (Usable s × (f : Flow) × (f ∈ flows_of s) × (f.number ≡ k))
unfolding outcome_of
disable-accepted s k = (λ a. row ((disable-answers s k 0).0 a), λ e. (disable-answers s k 0).1 (accepted e.0 e.1 e.2 e.3))
  where
    row : DisableAnswers s k 0 → Usable s × (f : Flow) × (f ∈ flows_of s) × (f.number ≡ k)
    row (accepted u f m q) = (u, f, m, q)

-- WHAT THEY LEAVE

-- what an accepted start leaves
pub start-leaves : (n : ℕ) (lent : Storage) → (start_of n lent).answer.refusal ≡ 0 → (start_of n lent).state ≡ started n lent
unfolding start_of
start-leaves n lent a = (decided-done (first_of (start_order n lent) 0) (record { header = no_header; storage = lent }) 0 (started n lent) a).0

-- what an accepted enable or disable leaves
pub enable-leaves : (s : State) (f : Flow) → (outcome_of s (ask (enable f))).answer.refusal ≡ 0 → (outcome_of s (ask (enable f))).state ≡ enabling s f
unfolding outcome_of enable_of
enable-leaves s f a = (decided-done (first_of (enable_order s f) 0) s _ _ a).0

pub disable-leaves : (s : State) (k : ℕ) → (outcome_of s (ask (disable k))).answer.refusal ≡ 0 → (outcome_of s (ask (disable k))).state ≡ disabling s k
unfolding outcome_of disable_of
disable-leaves s k a = (decided-done (first_of (disable_order s k) 0) s _ _ a).0

-- accepted calls leave usable states
pub start-makes-usable : (n : ℕ) (lent : Storage) → (start_of n lent).answer.refusal ≡ 0 → Usable (start_of n lent).state
start-makes-usable n lent a = rw (start-leaves n lent a) (start-usable n lent ((start-accepted n lent).0 a))

enable-leaves-usable : (s : State) (f : Flow) → (outcome_of s (ask (enable f))).answer.refusal ≡ 0 → Usable (outcome_of s (ask (enable f))).state
enable-leaves-usable s f a =
    rw (enable-leaves s f a) (enable-usable s f ((enable-accepted s f).0 a))

disable-leaves-usable : (s : State) (k : ℕ) → (outcome_of s (ask (disable k))).answer.refusal ≡ 0 → Usable (outcome_of s (ask (disable k))).state
disable-leaves-usable s k a = rw (disable-leaves s k a) (disable-usable s k ((disable-accepted s k).0 a).0)

pub call-leaves-usable : (s : State) (c : Call) → (outcome_of s c).answer.refusal ≡ 0 → Usable (outcome_of s c).state
unfolding outcome_of
call-leaves-usable s (ask (enable f)) a = enable-leaves-usable s f a
call-leaves-usable s (ask (disable k)) a = disable-leaves-usable s k a
call-leaves-usable s (add c p) a = rw (add-leaves s c p a) (adding-usable s c p ((add-accepted s c p).0 a))

-- so what every usable state has, every call keeps
pub call-keeps : (P : State → Type 0) (s : State) (c : Call) → ((s : State) → Usable s → P s) → P s → P (outcome_of s c).state
call-keeps P s c f p = call-cases P s c (λ a. f (outcome_of s c).state (call-leaves-usable s c a)) p

-- a usable state is refused with neither 9 nor 12
pub usable-answers : (s : State) (c : Call) → Usable s → ((outcome_of s c).answer.refusal ≢ 9) × ((outcome_of s c).answer.refusal ≢ 12)
unfolding outcome_of
usable-answers s (ask (enable f)) u = (λ a. short ((enable-answers s f 9).0 a), λ a. wrong ((enable-answers s f 12).0 a))
  where
    short : EnableAnswers s f 9 → ⊥
    short (bad-size z) = z u.sized

    wrong : EnableAnswers s f 12 → ⊥
    wrong (invalid-state z v) = v u.valid
usable-answers s (ask (disable k)) u = (λ a. short ((disable-answers s k 9).0 a), λ a. wrong ((disable-answers s k 12).0 a))
  where
    short : DisableAnswers s k 9 → ⊥
    short (bad-size z) = z u.sized

    wrong : DisableAnswers s k 12 → ⊥
    wrong (invalid-state z v) = v u.valid
usable-answers s (add c p) u = (λ a. short ((add-answers s c p 9).0 a), λ a. wrong ((add-answers s c p 12).0 a))
  where
    short : AddAnswers s c p 9 → ⊥
    short (bad-size z) = z u.sized

    wrong : AddAnswers s c p 12 → ⊥
    wrong (invalid-state z v) = v u.valid

-- what propagation leaves in a container's set, by the closure of the ways
pub propagated-sentence : (n : ℕ) (fs : List Flow) (ws : List ℕ) → Within n (edges_of fs) → (b t : ℕ) → b < n
    → (has (set_at (propagated n fs ws) b) t ≡ true)
    ↔ ((a : ℕ) × (a < n) × (has (set_at ws a) t ≡ true) × ReflTransGenᴰ (λ x y. (x, y) ∈ edges_of fs) a b)
propagated-sentence n fs ws w b t l = (
  λ h. let r = (propagated-has n fs ws b t l).0 h in (r.0, r.1, r.3, reaches-sound n (edges_of fs) r.0 b r.2),
  λ r. (propagated-has n fs ws b t l).1 (r.0, r.1, reaches-complete n (edges_of fs) w r.1 r.3, r.2),
)

-- the sentence holds of a changed state whose sets are those that propagation leaves
changed-sentence : (s : State) (fs : List Flow) (greatest : ℕ) (tags : List ℕ) → Usable (changed s fs greatest tags)
    → ((b t : ℕ) → b < s.header.containers → (has (set_at tags b) t ≡ true) ↔ (has (set_at (propagated s.header.containers fs s.storage.tags) b) t ≡ true))
    → Sentence s (changed s fs greatest tags)
unfolding changed
changed-sentence s fs greatest tags u same b t l =
    let flows : flows_of (changed s fs greatest tags) ≡ fs = changed-flows s fs greatest tags in
    let within : Within s.header.containers (edges_of fs) = rw flows at (flows-within (changed s fs greatest tags) u.valid) in
    rw flows (Iff.trans (same b t l) (propagated-sentence s.header.containers fs s.storage.tags within b t l))

-- so it holds of every accepted enable, and of every accepted disable
pub enable-sentence : (s : State) (f : Flow) → (outcome_of s (ask (enable f))).answer.refusal ≡ 0 → Sentence s (outcome_of s (ask (enable f))).state
unfolding enabling
enable-sentence s f a =
    rw (enable-leaves s f a)
    (changed-sentence s (flows_of s ++ (f ∷ [])) f.number (propagated s.header.containers (flows_of s ++ (f ∷ [])) s.storage.tags)
    (rw (enable-leaves s f a) at (enable-leaves-usable s f a)) (λ b t l. Iff.rfl))

pub disable-sentence : (s : State) (k : ℕ) → (outcome_of s (ask (disable k))).answer.refusal ≡ 0 → Sentence s (outcome_of s (ask (disable k))).state
unfolding disabling
disable-sentence s k a =
    rw (disable-leaves s k a)
    (changed-sentence s (without k (flows_of s)) s.header.greatest s.storage.tags (rw (disable-leaves s k a) at (disable-leaves-usable s k a))
    (λ b t l. Iff.symm (settled s (without k (flows_of s)) ((disable-accepted s k).0 a).0 (λ f. without-part k (flows_of s)) b t l)))

pub start-is-started : (n : ℕ) (lent : Storage) → (start_of n lent).answer.refusal ≡ 0 → IsStarted n (start_of n lent).state
unfolding started
start-is-started n lent a =
    let b = (start-accepted n lent).0 a in
    rw (start-leaves n lent a)
    (record {
      containers = refl;
      no-flows = refl;
      no_number = refl;
      own_alone = started-has n lent b;
      no-policies = λ c l. front_at n 0 lent.policy_counts c 0 l;
      zero-policies = λ i l. front_at (16 * n) 0 lent.policies i 0 l;
      zero-flows = λ i l. (start-usable n lent b).valid.unused-flows i (omega arith) l;
    })

changed-so : (s : State) (fs : List Flow) (greatest : ℕ) (tags : List ℕ) → FlowsChanged fs greatest s (changed s fs greatest tags)
unfolding changed
changed-so s fs greatest tags =
    record { flows = changed-flows s fs greatest tags; count = refl; greatest-is = refl; containers = refl; policies = refl; counts = refl }

-- an accepted enable puts its flow last and makes its number the greatest; an accepted disable takes its flow out
pub enable-flows : (s : State) (f : Flow) → (outcome_of s (ask (enable f))).answer.refusal ≡ 0
    → FlowsChanged (flows_of s ++ (f ∷ [])) f.number s (outcome_of s (ask (enable f))).state
unfolding enabling
enable-flows s f a = rw (enable-leaves s f a) (changed-so s (flows_of s ++ (f ∷ [])) f.number (propagated s.header.containers (flows_of s ++ (f ∷ [])) s.storage.tags))

pub disable-flows : (s : State) (k : ℕ) → (outcome_of s (ask (disable k))).answer.refusal ≡ 0
    → FlowsChanged (without k (flows_of s)) s.header.greatest s (outcome_of s (ask (disable k))).state
unfolding disabling
disable-flows s k a = rw (disable-leaves s k a) (changed-so s (without k (flows_of s)) s.header.greatest s.storage.tags)

-- an accepted set stands behind those that the container has
pub add-so : (s : State) (c : ℕ) (p : TagSet) → (add_of s c p).answer.refusal ≡ 0 → PolicyAdded c p s (add_of s c p).state
add-so s c p a = rw (add-leaves s c p a) (adding-so s c p ((add-accepted s c p).0 a))
