-- What a call leaves alone: storage past the lengths in use, lengths, n, 64 bits; and its gain counted from the sets. Assumes nothing.
use Rattle.std.specs.Prelude.{◌≡◌, true, ◌&&◌, not, List, [], ◌∷◌, ◌++◌, ℕ, zero, suc, ◌+◌, ◌*◌, ◌≤◌, ◌<◌, length, drop}
use Rattle.std.proofs.Math.Path.{refl, ap}
use Rattle.std.proofs.Common.{sym, ◌∙◌, subst, arith, length-append}
use Rattle.std.proofs.Math.Bool.{and-not_self}
use mathlib.Mathlib.Logic.Relation.ReflTransGenᴰ
use Rattle.refusal.specs.Order.{first_of}
use Rattle.model.specs.declared.Flow.{Flow}
use Rattle.model.specs.Model.{enable, disable, without}
use Rattle.tagset.specs.declared.TagSet.{TagSet}
use Rattle.tagset.specs.Set.{has, single_of, subset_of}
use Rattle.tagset.proofs.Laws.{single-words, size-subset, subset-of-has, subset-refl}
use Rattle.tagset.proofs.Below.{count_none}
use Rattle.state.specs.State.{Storage, State, set_at, flows_of}
use Rattle.state.specs.Layout.{Fit64}
use Rattle.state.proofs.LayoutLaws.{sets-fit, sets-length, sets-beyond, front_length, front-beyond, flows-length, flows-beyond}
use Rattle.state.specs.IsValid.{IsSized, Usable}
use Rattle.tagstore.specs.Store.{total_of}
use Rattle.outcome.specs.Outcome.{decided, no_header, start_order, started, start_of, propagated, gain_of, changed, enabling, disabling, enable_order, enable_of, disable_order, disable_of, add_order, adding, add_of, Call, ask, add, outcome_of, after}
use Rattle.outcome.proofs.Refusals.{start-cases, call-cases}
use Rattle.outcome.proofs.Propagation.{propagated-fits}
use Rattle.outcome.proofs.Stays.{usable-count, without-length, propagated-length}
use Rattle.outcome.proofs.Policies.{add-accepted, add-leaves, adding-beyond, adding-lengths}
use Rattle.outcome.specs.Steps.{Sentence}
use Rattle.outcome.proofs.Steps.{enable-sentence, start-accepted, enable-accepted, disable-accepted, start-leaves, enable-leaves, disable-leaves}
use Rattle.outcome.specs.Effects.{SameBeyond}

-- a storage is like itself, and like what one like it is like
beyond-refl : (n : ℕ) (a : Storage) → SameBeyond n a a
beyond-refl n a =
    record {
      tag-words = refl;
      policy-words = refl;
      count-bytes = refl;
      records = refl;
      tags-beyond = refl;
      policies-beyond = refl;
      counts-beyond = refl;
      flows-beyond = refl;
    }

beyond-trans : {n : ℕ} {a b c : Storage} → SameBeyond n a b → SameBeyond n b c → SameBeyond n a c
beyond-trans p q =
    record {
      tag-words = p.tag-words ∙ q.tag-words;
      policy-words = p.policy-words ∙ q.policy-words;
      count-bytes = p.count-bytes ∙ q.count-bytes;
      records = p.records ∙ q.records;
      tags-beyond = p.tags-beyond ∙ q.tags-beyond;
      policies-beyond = p.policies-beyond ∙ q.policies-beyond;
      counts-beyond = p.counts-beyond ∙ q.counts-beyond;
      flows-beyond = p.flows-beyond ∙ q.flows-beyond;
    }

-- propagation leaves alone the words past the sets
pub propagated-beyond : (n : ℕ) (fs : List Flow) (ws : List ℕ) → drop (4 * n) (propagated n fs ws) ≡ drop (4 * n) ws
unfolding propagated
propagated-beyond n fs ws = sets-beyond n _ ws

-- STARTING

-- an accepted start
started-beyond : (n : ℕ) (lent : Storage) → IsSized n lent → SameBeyond n (started n lent).storage lent
unfolding started
started-beyond n lent z =
    record {
      tag-words = sets-length n _ lent.tags z.tag-words;
      policy-words = front_length (16 * n) 0 lent.policies z.policy-words;
      count-bytes = front_length n 0 lent.policy_counts z.count-bytes;
      records = flows-length [] lent.flows (omega arith) z.records;
      tags-beyond = sets-beyond n _ lent.tags;
      policies-beyond = front-beyond (16 * n) 0 lent.policies;
      counts-beyond = front-beyond n 0 lent.policy_counts;
      flows-beyond = flows-beyond [] lent.flows (omega arith);
    }

-- a start leaves alone what lies past the lengths that n containers use
pub start-beyond : (n : ℕ) (lent : Storage) → SameBeyond n (start_of n lent).state.storage lent
start-beyond n lent =
    start-cases (λ x. SameBeyond n x lent) n lent (λ a. rw (start-leaves n lent a) (started-beyond n lent ((start-accepted n lent).0 a))) (beyond-refl n lent)

-- CALLS

-- a changed state is like the one before past the lengths in use
changed-beyond : (s : State) (fs : List Flow) (greatest : ℕ) (tags : List ℕ) → Usable s → length fs ≤ 512 → length tags ≡ length s.storage.tags
    → drop (4 * s.header.containers) tags ≡ drop (4 * s.header.containers) s.storage.tags
    → SameBeyond s.header.containers (changed s fs greatest tags).storage s.storage
unfolding changed
changed-beyond s fs greatest tags u few same beyond =
    record {
      tag-words = same;
      policy-words = refl;
      count-bytes = refl;
      records = flows-length fs s.storage.flows few u.sized.records;
      tags-beyond = beyond;
      policies-beyond = refl;
      counts-beyond = refl;
      flows-beyond = flows-beyond fs s.storage.flows few;
    }

-- so is the state that a call leaves
pub call-beyond : (s : State) (c : Call) → SameBeyond s.header.containers (outcome_of s c).state.storage s.storage
unfolding outcome_of enabling disabling adding
call-beyond s c = call-cases (λ x. SameBeyond s.header.containers x.storage s.storage) s c (accepted c) (beyond-refl s.header.containers s.storage)
  where
    accepted : (c : Call) → (outcome_of s c).answer.refusal ≡ 0 → SameBeyond s.header.containers (outcome_of s c).state.storage s.storage
    accepted (ask (enable f)) a =
        let e = (enable-accepted s f).0 a in
        rw (enable-leaves s f a)
        (changed-beyond s (flows_of s ++ (f ∷ [])) f.number (propagated s.header.containers (flows_of s ++ (f ∷ [])) s.storage.tags) e.usable
        (omega (arith, length-append (flows_of s) (f ∷ []), usable-count s e.usable, e.room))
        (propagated-length s.header.containers (flows_of s ++ (f ∷ [])) s.storage.tags e.usable.sized.tag-words)
        (propagated-beyond s.header.containers (flows_of s ++ (f ∷ [])) s.storage.tags))
    accepted (ask (disable k)) a =
        let u = ((disable-accepted s k).0 a).0 in
        rw (disable-leaves s k a)
        (changed-beyond s (without k (flows_of s)) s.header.greatest s.storage.tags u
        (omega (arith, without-length k (flows_of s), usable-count s u, u.valid.table-count)) refl refl)
    accepted (add d p) a =
        let e = (add-accepted s d p).0 a in
        let long = adding-lengths s d p e in
        let past = adding-beyond s d p e in
        rw (add-leaves s d p a)
        (record {
          tag-words = refl;
          policy-words = long.0;
          count-bytes = long.1;
          records = refl;
          tags-beyond = refl;
          policies-beyond = past.0;
          counts-beyond = past.1;
          flows-beyond = refl;
        })

-- what the work keeps, the outcome keeps
decided-keeps : {A : Type 0} (get : State → A) (r : ℕ) (s : State) (gain : ℕ) (s' : State) → get s' ≡ get s → get (decided r s gain s').state ≡ get s
unfolding decided
decided-keeps get zero s gain s' e = e
decided-keeps get (suc k) s gain s' e = refl

-- n stays
pub call-containers : (s : State) (c : Call) → (outcome_of s c).state.header.containers ≡ s.header.containers
unfolding outcome_of enable_of disable_of add_of enabling disabling changed adding
call-containers s (ask (enable f)) = decided-keeps (λ s. s.header.containers) (first_of (enable_order s f) 0) s _ _ refl
call-containers s (ask (disable k)) = decided-keeps (λ s. s.header.containers) (first_of (disable_order s k) 0) s _ _ refl
call-containers s (add c p) = decided-keeps (λ s. s.header.containers) (first_of (add_order s c p) 0) s _ _ refl

-- over a list of calls the storage past the lengths in use stays too
calls-beyond : (cs : List Call) (s : State) → SameBeyond s.header.containers (after s cs).storage s.storage
unfolding after
calls-beyond [] s = beyond-refl s.header.containers s.storage
calls-beyond (c ∷ cs) s =
    let s' = (outcome_of s c).state in
    beyond-trans (subst (λ (n : ℕ). SameBeyond n (after s' cs).storage s'.storage) (call-containers s c) (calls-beyond cs s')) (call-beyond s c)

-- so it is from before starting
pub list-beyond : (n : ℕ) (lent : Storage) → (start_of n lent).answer.refusal ≡ 0 → (cs : List Call) → SameBeyond n (after (start_of n lent).state cs).storage lent
list-beyond n lent a cs =
    let size : (start_of n lent).state.header.containers ≡ n = unfold started in ap (λ (s : State). s.header.containers) (start-leaves n lent a) in
    beyond-trans
    (subst (λ (m : ℕ). SameBeyond m (after (start_of n lent).state cs).storage (start_of n lent).state.storage) size (calls-beyond cs (start_of n lent).state))
    (start-beyond n lent)

-- a disable leaves every word of the tag sets
pub disable-tags : (s : State) (k : ℕ) → (outcome_of s (ask (disable k))).state.storage.tags ≡ s.storage.tags
unfolding outcome_of disable_of disabling changed
disable-tags s k = decided-keeps (λ s. s.storage.tags) (first_of (disable_order s k) 0) s _ _ refl

-- so does adding a policy set
pub add-tags : (s : State) (c : ℕ) (p : TagSet) → (add_of s c p).state.storage.tags ≡ s.storage.tags
unfolding add_of adding
add-tags s c p = decided-keeps (λ s. s.storage.tags) (first_of (add_order s c p) 0) s _ _ refl

-- THE GAIN

-- where no set loses a tag, the gain is what the total grows by
pub gain-total : (n : ℕ) (before after : List ℕ) → ((c : ℕ) → c < n → subset_of (set_at before c) (set_at after c) ≡ true)
    → total_of n before + gain_of n before after ≡ total_of n after
unfolding total_of gain_of
gain-total zero before after p = refl
gain-total (suc n) before after p =
    omega (arith, size-subset (set_at before n) (set_at after n) (p n (omega arith)), gain-total n before after (λ c l. p c (omega (arith, l))))

-- between the same sets nothing is gained
gain-same : (n : ℕ) (ws : List ℕ) → gain_of n ws ws ≡ 0
unfolding gain_of
gain-same zero ws = refl
gain-same (suc n) ws =
    omega (arith, count_none 256 (λ t. has (set_at ws n) t && not (has (set_at ws n) t)) (λ t l. and-not_self (has (set_at ws n) t)), gain-same n ws)

-- a gain that is counted from the sets is so in the outcome too
decided-gain : (r : ℕ) (s : State) (gain : ℕ) (s' : State) → gain ≡ gain_of s.header.containers s.storage.tags s'.storage.tags
    → (decided r s gain s').answer.gain ≡ gain_of s.header.containers s.storage.tags (decided r s gain s').state.storage.tags
unfolding decided
decided-gain zero s gain s' e = e
decided-gain (suc k) s gain s' e = sym (gain-same s.header.containers s.storage.tags)

-- every call's gain is the count of the pairs that are stored after it and were not before
pub gain-counted : (s : State) (c : Call) → (outcome_of s c).answer.gain ≡ gain_of s.header.containers s.storage.tags (outcome_of s c).state.storage.tags
unfolding outcome_of enable_of disable_of add_of disabling changed adding
gain-counted s (ask (enable f)) = decided-gain (first_of (enable_order s f) 0) s _ _ refl
gain-counted s (ask (disable k)) = decided-gain (first_of (disable_order s k) 0) s 0 _ (sym (gain-same s.header.containers s.storage.tags))
gain-counted s (add c p) = decided-gain (first_of (add_order s c p) 0) s 0 _ (sym (gain-same s.header.containers s.storage.tags))

-- after an event of which the general sentence holds no set has lost a tag
sentence-grows : (s s' : State) → Sentence s s' → (c : ℕ) → c < s.header.containers → subset_of (set_at s.storage.tags c) (set_at s'.storage.tags c) ≡ true
sentence-grows s s' p c l =
    subset-of-has (set_at s.storage.tags c) (set_at s'.storage.tags c) (λ t h. (p c t l).1 (c, l, h, ReflTransGenᴰ.refl))

-- so the gain of an enable is what the sizes of the sets grow by
pub enable-gain : (s : State) (f : Flow)
    → total_of s.header.containers s.storage.tags + (outcome_of s (ask (enable f))).answer.gain
    ≡ total_of s.header.containers (outcome_of s (ask (enable f))).state.storage.tags
enable-gain s f =
    rw (gain-counted s (ask (enable f))) (gain-total s.header.containers s.storage.tags (outcome_of s (ask (enable f))).state.storage.tags grows)
  where
    grows : (c : ℕ) → c < s.header.containers → subset_of (set_at s.storage.tags c) (set_at (outcome_of s (ask (enable f))).state.storage.tags c) ≡ true
    grows =
        call-cases (λ x. (c : ℕ) → c < s.header.containers → subset_of (set_at s.storage.tags c) (set_at x.storage.tags c) ≡ true) s (ask (enable f))
        (λ a. sentence-grows s (outcome_of s (ask (enable f))).state (enable-sentence s f a)) (λ c l. subset-refl (set_at s.storage.tags c))

-- and a disable gains 0
pub disable-gain : (s : State) (k : ℕ) → (outcome_of s (ask (disable k))).answer.gain ≡ 0
disable-gain s k = gain-counted s (ask (disable k)) ∙ rw (disable-tags s k) (gain-same s.header.containers s.storage.tags)

-- so does adding a policy set
pub add-gain : (s : State) (c : ℕ) (p : TagSet) → (add_of s c p).answer.gain ≡ 0
unfolding outcome_of
add-gain s c p = gain-counted s (add c p) ∙ rw (add-tags s c p) (gain-same s.header.containers s.storage.tags)

-- a start gains 0
pub start-gains-nothing : (n : ℕ) (lent : Storage) → (start_of n lent).answer.gain ≡ 0
unfolding start_of
start-gains-nothing n lent = go (first_of (start_order n lent) 0)
  where
    go : (r : ℕ) → (decided r (record { header = no_header; storage = lent }) 0 (started n lent)).answer.gain ≡ 0
    go zero = unfold decided in refl
    go (suc k) = unfold decided in refl

-- WIDTHS

-- where every word of the tag sets has 64 bits, so it is after a start
pub start_fits : (n : ℕ) (lent : Storage) → Fit64 lent.tags → Fit64 (start_of n lent).state.storage.tags
unfolding started
start_fits n lent h =
    start-cases (λ x. Fit64 x.tags) n lent (λ a. rw (start-leaves n lent a) (sets-fit n single_of lent.tags (λ k l. single-words k) h)) h

-- and after every call
pub call_fits : (s : State) (c : Call) → Fit64 s.storage.tags → Fit64 (outcome_of s c).state.storage.tags
unfolding outcome_of enabling changed
call_fits s (ask (enable f)) h =
    call-cases (λ x. Fit64 x.storage.tags) s (ask (enable f))
    (λ a. rw (enable-leaves s f a) (propagated-fits s.header.containers (flows_of s ++ (f ∷ [])) s.storage.tags h)) h
call_fits s (ask (disable k)) h = rw (disable-tags s k) h
call_fits s (add c p) h = rw (add-tags s c p) h
