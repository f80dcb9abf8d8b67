-- The branches of `apply_enable`, `apply_disable` and `apply_add`, test by test, and what is left in each: laws of
-- their definitions. Assumes nothing.
use Rattle.std.specs.Prelude.{◌≡◌, false, not, ◌≢◌, Result, Ok, Some, None, min, length, set, take}
use Rattle.std.proofs.Math.Path.{refl}
use Rattle.std.proofs.Common.{sym, ap, ap₂, ◌∙◌}
use Rattle.std.proofs.Math.Bool.{true}
use Rattle.std.proofs.lemmas.Bool.{false≢true}
use mathlib.Core.List.{List, [], ◌∷◌}
use Prim.Native.Nat.{ℕ, zero, suc, ◌+◌, ◌-◌, ◌*◌, ◌≤◌, ◌<◌}
use native.Mathlib.Omega.{arith}
use borrow.Author.Tests.{le-leb, lt-leb, eq-eqb, ne_eqb}
use Rattle.refusal.specs.declared.Refusal.{Refusal}
use Rattle.refusal.specs.Order.{first_of}
use Rattle.model.specs.declared.Flow.{Flow}
use Rattle.model.specs.Model.{is_enabled}
use Rattle.tagset.specs.declared.TagSet.{TagSet}
use Rattle.state.specs.declared.Header.{Header}
use Rattle.tagset.specs.Set.{exceeds_of}
use Rattle.state.specs.State.{State, state_of, policy_count, flows_of}
use Rattle.tagstore.specs.Store.{put_set}
use Rattle.flowtable.specs.FlowTable.{found_in, removed_at}
use Rattle.flowtable.specs.Laws.{found-absent, found-place, removed-within}
use Rattle.propagation.specs.Pass.{sets_after, pairs_added}
use Rattle.calls.specs.declared.Accepted.{Accepted}
use Rattle.calls.specs.Replies.{answer_of, header_after, left_by}
use Rattle.outcome.specs.Outcome.{Outcome, decided, enable_later, disable_later, add_later, adding}
use Rattle.calls.specs.Judged.{refused_in, refuses}
use Rattle.calls.specs.Unjudged.{appended_to, carrying, apply_enable_of, apply_disable_of, apply_add_of}

-- a call that leaves the header and the flow table as they were
pub left-refused : (r : Result Accepted Refusal) {o : Outcome} {table : List Flow} (s : State)
    → table ≡ s.storage.flows → header_after r s.header ≡ s.header → o ≡ record { answer = answer_of r; state = s }
    → left_by r s.header s.storage.tags s.storage.policies s.storage.policy_counts table ≡ o
left-refused r s t h p =
    let lent = s.storage in
    ap₂ (λ (g : Header) (fs : List Flow). left g lent.tags lent.policies lent.policy_counts fs) h t ∙ sym p
  where
    left : Header → List ℕ → List ℕ → List ℕ → List Flow → Outcome
    left g tags policies counts fs = record { answer = answer_of r; state = state_of g tags policies counts fs }

-- ENABLING

module _ (s : State) (f : Flow) where
  -- the first of its tests that holds decides
  enable-first : (k : ℕ) → first_of (enable_later s f) 0 ≡ suc k → apply_enable_of s f ≡ refused_in s (suc k)
  unfolding apply_enable_of
  enable-first k e = refuses (first_of (enable_later s f) 0) (suc k) s _ _ (omega arith) e

  -- 4: no such source
  pub no-from : s.header.containers ≤ f.from → apply_enable_of s f ≡ refused_in s 4
  unfolding enable_later
  no-from a = enable-first 3 (simp (le-leb s.header.containers f.from a) refl)

  module _ (a : f.from < s.header.containers) where
    -- 4: no such destination
    pub no-to : s.header.containers ≤ f.to → apply_enable_of s f ≡ refused_in s 4
    unfolding enable_later
    no-to b = enable-first 3 (simp (lt-leb s.header.containers f.from a, le-leb s.header.containers f.to b) refl)

    module _ (b : f.to < s.header.containers) where
      -- 5: a flow to its own source
      pub self-flow : f.from ≡ f.to → apply_enable_of s f ≡ refused_in s 5
      unfolding enable_later
      self-flow c =
          enable-first 4
          (simp (lt-leb s.header.containers f.from a, lt-leb s.header.containers f.to b, eq-eqb f.from f.to c) refl)

      module _ (c : f.from ≢ f.to) where
        -- 6: a number not above the greatest
        pub stale : f.number ≤ s.header.greatest → apply_enable_of s f ≡ refused_in s 6
        unfolding enable_later
        stale d =
            enable-first 5
            (simp (lt-leb s.header.containers f.from a, lt-leb s.header.containers f.to b, ne_eqb f.from f.to c, le-leb f.number s.header.greatest d) refl)

        module _ (d : s.header.greatest < f.number) where
          -- 7: no place left
          pub full : 512 ≤ s.header.count → apply_enable_of s f ≡ refused_in s 7
          unfolding enable_later
          full e =
              enable-first 6
              (simp (lt-leb s.header.containers f.from a, lt-leb s.header.containers f.to b, ne_eqb f.from f.to c, lt-leb f.number s.header.greatest d, le-leb 512 s.header.count e) refl)

          -- the work
          pub enables : s.header.count < 512 → {table : List Flow} {tags : List ℕ} {gain : ℕ} → table ≡ set s.storage.flows s.header.count f
              → tags ≡ sets_after s.header.containers (take (s.header.count + 1) table) s.storage.tags
              → gain ≡ pairs_added s.header.containers (take (s.header.count + 1) table) s.storage.tags
              → left_by
              (Ok (record {
                header = record { containers = s.header.containers; count = s.header.count + 1; greatest = f.number };
                gain = gain;
              }))
              s.header tags s.storage.policies s.storage.policy_counts table
              ≡ apply_enable_of s f
          unfolding apply_enable_of enable_later decided appended_to carrying
          enables e p q r =
              simp (lt-leb s.header.containers f.from a, lt-leb s.header.containers f.to b, ne_eqb f.from f.to c, lt-leb f.number s.header.greatest d, lt-leb 512 s.header.count e) (rw (q, r, p) refl)

-- DISABLING

module _ (s : State) (k : ℕ) where
  -- 8: no flow of this number
  pub not-enabled : None ≡ found_in k (flows_of s) → apply_disable_of s k ≡ refused_in s 8
  unfolding apply_disable_of disable_later
  not-enabled a =
      refuses (first_of {A = ℕ} ((not (is_enabled k (flows_of s)), 8) ∷ []) 0) 8 s _ _ (omega arith)
      (rw (found-absent k (flows_of s) a) refl)

  -- where there is one, some flow is enabled
  pub some-enabled : {place : ℕ} → Some place ≡ found_in k (flows_of s) → 1 ≤ s.header.count
  unfolding flows_of
  some-enabled a = some s.header.count s.storage.flows (found-place k (flows_of s) a).0
    where
      some : (n : ℕ) (fs : List Flow) → is_enabled k (take n fs) ≡ true → 1 ≤ n
      some zero fs e = unfold is_enabled in absurd (false≢true e)
      some (suc n) fs e = omega arith

  -- the work, where `end` counts the records in use that the table has among the first 512
  pub disables : (end : ℕ) {place : ℕ} {table : List Flow}
      → min (length s.storage.flows) end ≡ min (length s.storage.flows) (min 512 s.header.count)
      → Some place ≡ found_in k (flows_of s) → table ≡ removed_at place end s.storage.flows
      → left_by
      (Ok (record {
        header = record { containers = s.header.containers; count = s.header.count - 1; greatest = s.header.greatest };
        gain = 0;
      }))
      s.header s.storage.tags s.storage.policies s.storage.policy_counts table
      ≡ apply_disable_of s k
  unfolding apply_disable_of disable_later decided
  disables end {place} n a p =
      let fs = s.storage.flows in
      let e = found-place k (flows_of s) a in
      let same =
      removed-within (length fs) place end fs (omega arith)
      ∙ ap (λ (m : ℕ). removed_at place m fs) n
      ∙ sym (removed-within (length fs) place (min 512 s.header.count) fs (omega arith)) in
      rw (e.0, p ∙ same, e.1) refl

-- ADDING A POLICY SET

module _ (s : State) (c : ℕ) (p : TagSet) where
  -- the first of its tests that holds decides
  add-first : (k : ℕ) → first_of (add_later s c p) 0 ≡ suc k → apply_add_of s c p ≡ refused_in s (suc k)
  unfolding apply_add_of
  add-first k e = refuses (first_of (add_later s c p) 0) (suc k) s _ _ (omega arith) e

  -- 4: no such container
  pub no-container : s.header.containers ≤ c → apply_add_of s c p ≡ refused_in s 4
  unfolding add_later
  no-container a = add-first 3 (simp (le-leb s.header.containers c a) refl)

  module _ (a : c < s.header.containers) where
    -- 4: a tag that is no container's
    pub unknown-tag : exceeds_of p s.header.containers ≡ true → apply_add_of s c p ≡ refused_in s 4
    unfolding add_later
    unknown-tag b = add-first 3 (simp (lt-leb s.header.containers c a, b) refl)

    module _ (b : exceeds_of p s.header.containers ≡ false) where
      -- 11: four policy sets
      pub policy-full : 4 ≤ policy_count s c → apply_add_of s c p ≡ refused_in s 11
      unfolding add_later
      policy-full d = add-first 10 (simp (lt-leb s.header.containers c a, b, le-leb 4 (policy_count s c) d) refl)

      -- the work
      pub adds : policy_count s c < 4 → {policies counts : List ℕ} → policies ≡ put_set s.storage.policies (4 * c + policy_count s c) p
          → counts ≡ set s.storage.policy_counts c (policy_count s c + 1)
          → left_by (Ok (record { header = s.header; gain = 0 })) s.header s.storage.tags policies counts s.storage.flows ≡ apply_add_of s c p
      unfolding apply_add_of add_later decided adding
      adds d q r = simp (lt-leb s.header.containers c a, b, lt-leb 4 (policy_count s c) d) (rw (q, r) refl)
