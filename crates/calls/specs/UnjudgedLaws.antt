-- On a usable state the calls that judge neither 9 nor 12 have the outcome of the public calls: passes come to the closure, one record is appended or
-- moved away. Assumes nothing.
use Rattle.std.specs.Prelude.{◌≡◌, Bool, not, ◌↔◌}
use Rattle.std.proofs.Math.Path.{refl, sym, ap, subst}
use Rattle.std.proofs.Common.{ap₂, ◌∙◌, arith, length-append}
use Rattle.std.proofs.Math.Bool.{true, false}
use mathlib.Core.List.{List, [], ◌∷◌, ◌++◌}
use Prim.Native.Nat.{ℕ, zero, suc, ◌+◌, ◌-◌, ◌*◌, ◌≤◌, ◌<◌, min}
use Rattle.std.proofs.Math.ListN.{length}
use Rattle.truth.specs.Truth.{iff}
use Rattle.refusal.specs.Order.{first_of}
use Rattle.refusal.proofs.Order.{IsFirst}
use Rattle.model.specs.declared.Flow.{Flow}
use Rattle.model.specs.Model.{edges_of, without, is_enabled}
use Rattle.model.specs.Closure.{Within}
use Rattle.tagset.specs.declared.TagSet.{TagSet}
use Rattle.tagset.specs.Set.{has}
use Rattle.tagset.proofs.Laws.{ext, subset-of-has}
use Rattle.state.specs.State.{State, set_at, flows_of, with_flows}
use Rattle.state.specs.Layout.{Fit64}
use Rattle.state.proofs.LayoutLaws.{set-fits}
use Rattle.state.specs.IsValid.{Usable}
use Rattle.state.proofs.Judging.{usable-first}
use Rattle.tagstore.specs.Store.{total_of}
use Rattle.tagstore.specs.Laws.{words-ext}
use Rattle.flowtable.specs.FlowTable.{place_of, removed_at}
use Rattle.flowtable.specs.Laws.{appended, appended-flows, without-count, removed}
use Rattle.propagation.specs.Exact.{after_is}
use Rattle.propagation.proofs.Exact.{passed_length, passed-beyond, passed-fits, exact, pairs-total}
use Rattle.propagation.specs.Pass.{passes_of, passed, sets_after, pairs_added}
use Rattle.outcome.specs.Outcome.{decided, stored, propagated, gain_of, changed, enabling, disabling, enable_later, enable_order, enable_of, disable_later, disable_order, disable_of, add_later, add_order, adding, add_of, outcome_of}
use Rattle.outcome.proofs.Refusals.{decided-number, decided-refusal, decided-refused}
use Rattle.outcome.proofs.Propagation.{propagated-has, propagated-fits}
use Rattle.outcome.specs.Table.{Enables}
use Rattle.outcome.proofs.Stays.{usable-count, propagated-length, propagated-keeps, flows-within, changed-flows, enable-usable}
use Rattle.outcome.proofs.Steps.{enable-accepted}
use Rattle.outcome.proofs.Effects.{gain-total, propagated-beyond}
use Rattle.calls.specs.Unjudged.{appended_to, carrying, apply_enable_of, apply_disable_of, apply_add_of}

-- PASSES AND THE CLOSURE

-- passes over flows with ends below n leave, word by word, what the declarative definition says
pub passes-propagate : (n : ℕ) (fs : List Flow) (ws : List ℕ) → n ≤ 256 → 4 * n ≤ length ws → Within n (edges_of fs) → Fit64 ws
    → sets_after n fs ws ≡ propagated n fs ws
passes-propagate n fs ws small long w fit =
    rw (after_is n fs ws small long)
    (words-ext n after (propagated n fs ws) (passed_length n es ws p ∙ sym (propagated-length n fs ws long))
    (λ c l. ext (set_at after c) (set_at (propagated n fs ws) c) (set-fits after c (passed-fits n es ws p fit)) (set-fits (propagated n fs ws) c (propagated-fits n fs ws fit)) (λ t h. same c t l))
    (passed-beyond n es ws p ∙ sym (propagated-beyond n fs ws)))
  where
    es : List (ℕ × ℕ)
    es = edges_of fs

    p : ℕ
    p = passes_of n es ws

    after : List ℕ
    after = passed p n es ws

    -- both have the tags that reach the container
    same : (c t : ℕ) → c < n → has (set_at after c) t ≡ has (set_at (propagated n fs ws) c) t
    same c t l =
        let a = exact n es ws long w c t l in
        let b = propagated-has n fs ws c t l in
        iff (has (set_at after c) t) (has (set_at (propagated n fs ws) c) t) (λ h. b.1 (a.0 h)) (λ h. a.1 (b.0 h))

-- the pairs that passes add are the gain
pub passes-gain : (n : ℕ) (fs : List Flow) (ws : List ℕ) → n ≤ 256 → 4 * n ≤ length ws → Within n (edges_of fs) → Fit64 ws
    → pairs_added n fs ws ≡ gain_of n ws (propagated n fs ws)
passes-gain n fs ws small long w fit =
    (omega (arith, pairs-total n fs ws small long, ap (total_of n) (passes-propagate n fs ws small long w fit), gain-total n ws (propagated n fs ws) (λ c l. subset-of-has (set_at ws c) (set_at (propagated n fs ws) c) (λ t h. propagated-keeps n fs ws w c t l h))))

-- OUTCOMES

-- two outcomes with one refusal are the same where the work is, if there is no refusal
decided-same : (r : ℕ) (s : State) {g g' : ℕ} {a a' : State} → (r ≡ 0 → (g ≡ g') × (a ≡ a')) → decided r s g a ≡ decided r s g' a'
unfolding decided
decided-same zero s e = let p = e refl in ap₂ (λ g a. decided 0 s g a) p.0 p.1
decided-same (suc k) s e = refl

-- FOR EVERY STATE the refusal is the first that stands after 9 and 12, and a refused event changes nothing
pub apply-enable-refusal : (s : State) (f : Flow) (k : ℕ) → ((apply_enable_of s f).answer.refusal ≡ suc k) ↔ IsFirst (enable_later s f) (suc k)
unfolding apply_enable_of
apply-enable-refusal s f k = decided-refusal (enable_later s f) s _ _ k

pub apply-enable-refused : (s : State) (f : Flow) (k : ℕ) → (apply_enable_of s f).answer.refusal ≡ suc k
    → ((apply_enable_of s f).state ≡ s) × ((apply_enable_of s f).answer.gain ≡ 0)
unfolding apply_enable_of
apply-enable-refused s f k = decided-refused (first_of (enable_later s f) 0) s _ _ k

pub apply-disable-refusal : (s : State) (j k : ℕ) → ((apply_disable_of s j).answer.refusal ≡ suc k) ↔ IsFirst (disable_later s j) (suc k)
unfolding apply_disable_of
apply-disable-refusal s j k = decided-refusal (disable_later s j) s _ _ k

pub apply-disable-refused : (s : State) (j k : ℕ) → (apply_disable_of s j).answer.refusal ≡ suc k
    → ((apply_disable_of s j).state ≡ s) × ((apply_disable_of s j).answer.gain ≡ 0)
unfolding apply_disable_of
apply-disable-refused s j k = decided-refused (first_of (disable_later s j) 0) s _ _ k

module _ (s : State) (u : Usable s) where
  -- the flows that carry after an enable are those enabled before, and the new one last
  carrying-is : (f : Flow) → s.header.count < 512 → carrying s f ≡ flows_of s ++ (f ∷ [])
  unfolding carrying appended_to flows_of
  carrying-is f room = appended-flows s.header.count s.storage.flows f (omega (arith, room, u.sized.records))

  -- an enable that is accepted leaves the same
  enable-work : (f : Flow) → Fit64 s.storage.tags → Enables s f
      → (pairs_added s.header.containers (carrying s f) s.storage.tags ≡ gain_of s.header.containers s.storage.tags (enabling s f).storage.tags)
      × (stored s (s.header.count + 1) (appended_to s f) f.number (sets_after s.header.containers (carrying s f) s.storage.tags) ≡ enabling s f)
  unfolding enabling changed
  enable-work f fit e =
      rw (carrying-is f e.room) (
        passes-gain n fs ws u.valid.most u.sized.tag-words within fit,
        λ i.
            record {
              header = record { containers = n; count = count i; greatest = f.number };
              storage =
                  record {
                    tags = passes-propagate n fs ws u.valid.most u.sized.tag-words within fit i;
                    policies = s.storage.policies;
                    policy_counts = s.storage.policy_counts;
                    flows = table i;
                  };
            },
      )
    where
      n : ℕ
      n = s.header.containers

      ws : List ℕ
      ws = s.storage.tags

      fs : List Flow
      fs = flows_of s ++ (f ∷ [])

      within : Within n (edges_of fs)
      within =
          unfold enabling changed in
          subst (λ (gs : List Flow). Within n (edges_of gs)) (changed-flows s fs f.number (propagated n fs ws)) (flows-within (enabling s f) (enable-usable s f e).valid)

      count : s.header.count + 1 ≡ length fs
      count = omega (arith, length-append (flows_of s) (f ∷ []), usable-count s u)

      table : appended_to s f ≡ with_flows fs s.storage.flows
      table = unfold appended_to flows_of in sym (appended s.header.count s.storage.flows f e.room u.sized.records u.valid.unused-flows)

  -- ENABLE: the outcome is the public one
  pub apply-enable : (f : Flow) → Fit64 s.storage.tags → apply_enable_of s f ≡ enable_of s f
  unfolding apply_enable_of enable_of enable_order outcome_of
  apply-enable f fit =
      let same : first_of (enable_order s f) 0 ≡ first_of (enable_later s f) 0 = usable-first s (enable_later s f) u in
      decided-same (first_of (enable_later s f) 0) s
      (λ z. enable-work f fit ((enable-accepted s f).0 (decided-number (first_of (enable_order s f) 0) s _ _ ∙ same ∙ z)))
      ∙ ap (λ (r : ℕ). decided r s (gain_of s.header.containers s.storage.tags (enabling s f).storage.tags) (enabling s f)) (sym same)

  -- a disable that is accepted leaves the same
  disable-work : (k : ℕ) → is_enabled k (flows_of s) ≡ true
      → stored s (s.header.count - 1) (removed_at (place_of k (flows_of s)) (min 512 s.header.count) s.storage.flows) s.header.greatest s.storage.tags ≡ disabling s k
  unfolding disabling changed
  disable-work k h = λ i.
      record {
        header = record { containers = s.header.containers; count = count i; greatest = s.header.greatest };
        storage = record { tags = s.storage.tags; policies = s.storage.policies; policy_counts = s.storage.policy_counts; flows = table i };
      }
    where
      count : s.header.count - 1 ≡ length (without k (flows_of s))
      count = omega (arith, without-count k 0 (flows_of s) u.valid.rising h, usable-count s u)

      few : min 512 s.header.count ≡ s.header.count
      few = omega (arith, u.valid.table-count)

      table : removed_at (place_of k (flows_of s)) (min 512 s.header.count) s.storage.flows ≡ with_flows (without k (flows_of s)) s.storage.flows
      table = ap (λ (c : ℕ). removed_at (place_of k (flows_of s)) c s.storage.flows) few ∙ sym (unfold flows_of in removed k 0 s.header.count s.storage.flows u.valid.table-count u.sized.records u.valid.unused-flows u.valid.rising h)

  -- DISABLE: the outcome is the public one
  pub apply-disable : (k : ℕ) → apply_disable_of s k ≡ disable_of s k
  unfolding apply_disable_of disable_of disable_order disable_later
  apply-disable k =
      let same : first_of (disable_order s k) 0 ≡ first_of (disable_later s k) 0 = usable-first s (disable_later s k) u in
      decided-same (first_of (disable_later s k) 0) s (λ z. (refl, disable-work k (found (is_enabled k (flows_of s)) z)))
      ∙ ap (λ (r : ℕ). decided r s 0 (disabling s k)) (sym same)
    where
      found : (b : Bool) → first_of {A = ℕ} ((not b, 8) ∷ []) 0 ≡ 0 → b ≡ true
      found true z = refl
      found false z = absurd (omega (arith, z))

  -- ADD: the outcome is the public one
  pub apply-add : (c : ℕ) (p : TagSet) → apply_add_of s c p ≡ add_of s c p
  unfolding apply_add_of add_of add_order
  apply-add c p = ap (λ (r : ℕ). decided r s 0 (adding s c p)) (sym (usable-first s (add_later s c p) u))
