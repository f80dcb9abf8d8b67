-- Adding a policy set: what an accepted one leaves, and that it leaves a usable state. Assumes nothing.
use Rattle.std.specs.Prelude.{◌≡◌, refl, true, ◌↔◌, ◌≢◌, ℕ, ◌+◌, ◌*◌, ◌/◌, ◌%◌, ◌≤◌, ◌<◌, length, get_or}
use Rattle.std.proofs.Common.{sym, ◌∙◌, arith}
use Rattle.std.proofs.Math.Path.{ap, subst}
use Rattle.std.proofs.Math.Logic.{by_cases}
use Rattle.std.proofs.Math.Decide.{ℕ_discrete}
use Rattle.std.proofs.Math.ListN.{drop, length-set}
use Rattle.std.proofs.Math.Seq.{get_or-set_same, get_or-set_other, drop-set-lt}
use Rattle.refusal.specs.Order.{first_of}
use Rattle.tagset.specs.declared.TagSet.{TagSet}
use Rattle.tagset.specs.Set.{has}
use Rattle.state.specs.State.{State, policy_count, policy_at, set_at, flows_of}
use Rattle.state.specs.IsValid.{Usable}
use Rattle.tagstore.specs.Laws.{put-length}
use Rattle.tagstore.proofs.Put.{put_other, put_has, put-other-set, put-beyond}
use Rattle.outcome.specs.Outcome.{add_order, adding, add_of}
use Rattle.outcome.proofs.Refusals.{decided-done}
use Rattle.outcome.specs.Table.{Adds, AddAnswers, accepted}
use Rattle.outcome.proofs.Table.{add-answers}

-- which are accepted: the row of the table with number 0
pub add-accepted : (s : State) (c : ℕ) (p : TagSet) → ((add_of s c p).answer.refusal ≡ 0) ↔ Adds s c p
add-accepted s c p = (λ a. row ((add-answers s c p 0).0 a), λ e. (add-answers s c p 0).1 (accepted e))
  where
    row : AddAnswers s c p 0 → Adds s c p
    row (accepted e) = e

-- what an accepted one leaves
pub add-leaves : (s : State) (c : ℕ) (p : TagSet) → (add_of s c p).answer.refusal ≡ 0 → (add_of s c p).state ≡ adding s c p
unfolding add_of
add-leaves s c p a = (decided-done (first_of (add_order s c p) 0) s 0 (adding s c p) a).0

-- a state with one policy set more: container c has p behind those that it had, and all else is as it was
pub record PolicyAdded (c : ℕ) (p : TagSet) (s s' : State) : Type 0 where
  pub header : s'.header ≡ s.header
  pub tags : s'.storage.tags ≡ s.storage.tags
  pub flows : s'.storage.flows ≡ s.storage.flows
  pub one_more : policy_count s' c ≡ policy_count s c + 1
  pub last : (t : ℕ) → has (policy_at s' c (policy_count s c)) t ≡ has p t
  pub other-counts : (d : ℕ) → d ≢ c → policy_count s' d ≡ policy_count s d
  pub other-sets : (k : ℕ) → k ≢ 4 * c + policy_count s c → set_at s'.storage.policies k ≡ set_at s.storage.policies k

module _ (s : State) (c : ℕ) (p : TagSet) (e : Adds s c p) where
  -- its number of containers, its number of policy sets, and the state after
  abbrev n : ℕ
  n = s.header.containers

  abbrev m : ℕ
  m = policy_count s c

  abbrev s' : State
  s' = adding s c p

  -- the words have the new set whole
  long : 4 * (4 * c + m) + 4 ≤ length s.storage.policies
  long = omega (arith, e.usable.sized.policy-words, e.container, e.room)

  -- the count is one more, the other counts are as they were
  count_same : policy_count s' c ≡ m + 1
  unfolding adding
  count_same = get_or-set_same s.storage.policy_counts c (m + 1) 0 (omega (arith, e.usable.sized.count-bytes, e.container))

  count-other : (d : ℕ) → d ≢ c → policy_count s' d ≡ policy_count s d
  unfolding adding
  count-other d h = get_or-set_other s.storage.policy_counts c d (m + 1) 0 h

  pub adding-so : PolicyAdded c p s s'
  unfolding adding
  adding-so =
      record {
        header = refl;
        tags = refl;
        flows = refl;
        one_more = count_same;
        last = put_has s.storage.policies (4 * c + m) p long;
        other-counts = count-other;
        other-sets = put-other-set s.storage.policies (4 * c + m) p;
      }

  -- no count passes four
  counts : (d : ℕ) → d < n → policy_count s' d ≤ 4
  counts d l =
      by_cases (ℕ_discrete d c) (λ q. rw (q, count_same) (omega (arith, e.room)))
      (λ q. rw (count-other d q) (e.usable.valid.policy-counts d l))

  -- no policy set names a tag of n or more
  known : (d k t : ℕ) → d < n → k < policy_count s' d → has (set_at s'.storage.policies (4 * d + k)) t ≡ true → t < n
  unfolding adding
  known d k t l h x =
      by_cases (ℕ_discrete (4 * d + k) (4 * c + m))
      (λ q. e.known t (sym (put_has s.storage.policies (4 * c + m) p long t) ∙ ap (λ (j : ℕ). has (set_at s'.storage.policies j) t) (sym q) ∙ x))
      (λ q.
      e.usable.valid.known-policies d k t l (before d k l h q)
      (ap (λ (v : TagSet). has v t) (sym (put-other-set s.storage.policies (4 * c + m) p (4 * d + k) q)) ∙ x))
    where
      before : (d k : ℕ) → d < n → k < policy_count s' d → 4 * d + k ≢ 4 * c + m → k < policy_count s d
      before d k l h q =
          by_cases (ℕ_discrete d c) (λ w. rw w (omega (arith, w, q, ap (policy_count s') w, count_same, h)))
          (λ w. omega (arith, h, count-other d w))

  -- and what is not used is zero
  unused : (i : ℕ) → i < 16 * n → 4 * policy_count s' (i / 16) ≤ i % 16 → get_or s'.storage.policies i 0 ≡ 0
  unfolding adding
  unused i l h =
      put_other s.storage.policies (4 * c + m) p i (λ q. apart 0 (omega arith) (omega (arith, q))) (apart 1 (omega arith)) (apart 2 (omega arith))
      (apart 3 (omega arith))
      ∙ e.usable.valid.unused-policies i l fewer
    where
      -- an unused place is none of the new set's
      apart : (j : ℕ) → j < 4 → i ≢ 4 * (4 * c + m) + j
      apart j y q =
          let w : i / 16 ≡ c = omega (arith, q, y, e.room) in
          omega (arith, h, ap (policy_count s') w, count_same, q, y, e.room, w)

      fewer : 4 * policy_count s (i / 16) ≤ i % 16
      fewer = by_cases (ℕ_discrete (i / 16) c) (λ w. omega (arith, h, ap (policy_count s') w, count_same, ap (policy_count s) w)) (λ w. omega (arith, h, count-other (i / 16) w))

  -- so a usable state stays usable
  pub adding-usable : Usable s'
  unfolding adding flows_of
  adding-usable =
      let u = e.usable in
      record {
        sized =
            record {
              some = u.sized.some;
              most = u.sized.most;
              tag-words = u.sized.tag-words;
              policy-words = rw (put-length s.storage.policies (4 * c + m) p) u.sized.policy-words;
              count-bytes = rw (length-set s.storage.policy_counts c (m + 1)) u.sized.count-bytes;
              records = u.sized.records;
            };
        valid =
            record {
              some = u.valid.some;
              most = u.valid.most;
              table-count = u.valid.table-count;
              policy-counts = counts;
              rising = u.valid.rising;
              not-past = u.valid.not-past;
              ends = u.valid.ends;
              known-tags = u.valid.known-tags;
              known-policies = known;
              own = u.valid.own;
              carried = u.valid.carried;
              unused-flows = u.valid.unused-flows;
              unused-policies = unused;
            };
      }

  -- the words and counts past those in use stay
  pub adding-beyond : (drop (16 * n) s'.storage.policies ≡ drop (16 * n) s.storage.policies) × (drop n s'.storage.policy_counts ≡ drop n s.storage.policy_counts)
  unfolding adding
  adding-beyond = (
    subst (λ (j : ℕ). drop j s'.storage.policies ≡ drop j s.storage.policies) {x = 4 * (4 * n)} {y = 16 * n} (omega arith)
        (put-beyond (4 * n) s.storage.policies (4 * c + m) p (omega (arith, e.container, e.room))),
    drop-set-lt n s.storage.policy_counts c (m + 1) e.container,
  )

  pub adding-lengths : (length s'.storage.policies ≡ length s.storage.policies) × (length s'.storage.policy_counts ≡ length s.storage.policy_counts)
  unfolding adding
  adding-lengths = (put-length s.storage.policies (4 * c + m) p, length-set s.storage.policy_counts c (m + 1))
