-- WHICH POLICY SETS A CONTAINER HAS after a list of calls, found from n and the calls' arguments alone; when it may then be sent; and which questions are
-- answered after such a list. Assumes nothing.
use Rattle.std.specs.Prelude.{◌≡◌, Bool, true, false, cond, ◌↔◌, ◌≢◌, ℕ, suc, ◌+◌, ◌*◌, ◌≤◌, ◌<◌, get_or}
use Rattle.std.proofs.Math.Path.{refl, sym}
use Rattle.std.proofs.Common.{ap, ◌∙◌, ⊎_elim, arith, length-append, ext_get_or}
use Rattle.std.proofs.lemmas.Bool.{false≢true}
use mathlib.Core.List.Memᴰ
use mathlib.Core.List.{List, [], ◌∷◌, ◌++◌}
use Rattle.std.proofs.Math.Logic.{by_cases}
use Rattle.std.proofs.Math.Decide.{dec_lt, ℕ_discrete}
use Rattle.std.proofs.Math.ListN.{length, get_or-append}
use Rattle.std.proofs.lemmas.List.{get_or_at}
use borrow.Table.Steps.{cases}
use Rattle.refusal.specs.Order.{first_of}
use Rattle.truth.specs.Truth.{and-iff, not_iff, lt_iff, eq_iff}
use Rattle.model.specs.Model.{◌∈◌, Event, enable, disable, empty, Flows, accepted}
use Rattle.model.proofs.Closure.{tabulate-at}
use Rattle.tagset.specs.declared.TagSet.{TagSet}
use Rattle.tagset.specs.Set.{has, empty_set, size_of}
use Rattle.tagset.proofs.Laws.{not-exceeds, not-exceeds-of-has}
use Rattle.state.specs.State.{Storage, State, set_at, policy_count}
use Rattle.state.specs.IsValid.{Usable}
use Rattle.outcome.specs.Outcome.{start_of, add_of, Call, ask, add, outcome_of, events_of, after}
use Rattle.outcome.proofs.Refusals.{call-cases}
use Rattle.outcome.specs.Table.{Adds}
use Rattle.outcome.proofs.Policies.{PolicyAdded, add-accepted}
use Rattle.outcome.proofs.Steps.{call-keeps, start-is-started, enable-flows, disable-flows, add-so}
use Rattle.outcome.proofs.Effects.{call-containers}
use Rattle.outcome.proofs.Follows.{Follows, configuration-has, calls-follow, begun-follows}
use Rattle.question.specs.Question.{Asked, question_order, tags_of, size_asked, policies_of, is_legal, legal_of}
use Rattle.question.specs.Replies.{told}
use Rattle.question.specs.Laws.{legal-exactly-if, policy-count, asked-number, asked-told, QuestionAnswers, no-such-container, answered, question-answers}
use Rattle.ranking.specs.Ranking.{rank_of}
use Rattle.ranking.specs.Laws.{rank-answers, done}
use Rattle.claims.specs.Permission.{takes, given_to, SameSets, Known}

-- what is taken, in words
pub takes-exactly-if : (n c : ℕ) (had : List TagSet) (d : ℕ) (p : TagSet)
    → (takes n c had d p ≡ true) ↔ ((d ≡ c) × (c < n) × Known n p × (length had < 4))
takes-exactly-if n c had d p = (
  λ e. let w = simp (and-iff, not_iff, lt_iff, eq_iff) at e in (w.0.0.0, w.0.0.1, not-exceeds p n w.0.1, w.1),
  λ w. simp (and-iff, not_iff, lt_iff, eq_iff) (((w.0, w.1), not-exceeds-of-has p n w.2), w.3),
)

-- SAME SETS

-- the same the other way round
same-sym : (xs ys : List TagSet) → SameSets xs ys → SameSets ys xs
same-sym xs ys s = (sym s.0, λ k t l. sym (s.1 k t (omega (arith, l, s.0))))

-- a set of the one list is, tag by tag, one of the other
same-member : (xs ys : List TagSet) → SameSets xs ys → {x : TagSet} → x ∈ xs → (y : TagSet) × (y ∈ ys) × ((t : ℕ) → has x t ≡ has y t)
same-member [] ys s m = absurd (Memᴰ.not-nil m)
same-member (x ∷ xs) [] s m = absurd (omega (arith, s.0))
same-member (x ∷ xs) (y ∷ ys) s m =
    ⊎_elim (λ e. (y, Memᴰ.head refl, λ t. ap (λ (v : TagSet). has v t) e ∙ s.1 0 t (omega arith)))
    (λ r. let w = same-member xs ys (omega (arith, s.0), λ k t l. s.1 (suc k) t (omega (arith, l))) r in (w.0, Memᴰ.tail w.1, w.2))
    (Memᴰ.cases_cons m)

-- ONE CALL

-- the policy set in each place
policy-at : (s : State) (c k : ℕ) → k < policy_count s c → get_or (policies_of s c) k empty_set ≡ set_at s.storage.policies (4 * c + k)
unfolding policies_of
policy-at s c k l = tabulate-at (policy_count s c) (λ k. set_at s.storage.policies (4 * c + k)) k empty_set l

module _ (s : State) (c : ℕ) where
  -- an event changes no policy set
  event-keeps : (e : Event) → policies_of (outcome_of s (ask e)).state c ≡ policies_of s c
  unfolding policies_of
  event-keeps e = call-cases (λ x. policies_of x c ≡ policies_of s c) s (ask e) (accepted-event e) refl
    where
      accepted-event : (e : Event) → (outcome_of s (ask e)).answer.refusal ≡ 0 → policies_of (outcome_of s (ask e)).state c ≡ policies_of s c
      accepted-event (enable f) a = let v = enable-flows s f a in rw (v.policies, v.counts) refl
      accepted-event (disable k) a = let v = disable-flows s k a in rw (v.policies, v.counts) refl

  -- nor does a set added to another container
  other-keeps : (d : ℕ) (p : TagSet) → Usable s → c < s.header.containers → d ≢ c → policies_of (outcome_of s (add d p)).state c ≡ policies_of s c
  unfolding outcome_of
  other-keeps d p u l h = call-cases (λ x. policies_of x c ≡ policies_of s c) s (add d p) (λ a. go ((add-accepted s d p).0 a) (add-so s d p a)) refl
    where
      -- the places of one container are none of another's
      apart : (k : ℕ) → k < policy_count s c → policy_count s d < 4 → 4 * c + k ≢ 4 * d + policy_count s d
      apart k b r q = h (omega (arith, q, b, r, u.valid.policy-counts c l))

      go : {s' : State} → Adds s d p → PolicyAdded d p s s' → policies_of s' c ≡ policies_of s c
      go {s'} e v =
          let count : policy_count s' c ≡ policy_count s c = v.other-counts c (λ q. h (sym q)) in
          ext_get_or empty_set (policies_of s' c) (policies_of s c) (policy-count s' c ∙ count ∙ sym (policy-count s c))
          (λ k i.
          let b : k < policy_count s c = omega (arith, i, policy-count s' c, count) in
          policy-at s' c k (omega (arith, b, count)) ∙ v.other-sets (4 * c + k) (apart k b e.room) ∙ sym (policy-at s c k b))

  -- a set that is added stands behind those that the container has
  added-last : (p : TagSet) (s' : State) (had : List TagSet) → PolicyAdded c p s s' → SameSets (policies_of s c) had → SameSets (policies_of s' c) (had ++ (p ∷ []))
  added-last p s' had v w = (omega (arith, count, long, length-append had (p ∷ [])), each)
    where
      count : length (policies_of s' c) ≡ policy_count s c + 1
      count = policy-count s' c ∙ v.one_more

      long : length had ≡ policy_count s c
      long = sym w.0 ∙ policy-count s c

      -- at those places as before, then p
      each : (k t : ℕ) → k < length (policies_of s' c) → has (get_or (policies_of s' c) k empty_set) t ≡ has (get_or (had ++ (p ∷ [])) k empty_set) t
      each k t l =
          by_cases (dec_lt k (policy_count s c))
          (λ b.
          ap (λ (x : TagSet). has x t) (policy-at s' c k (omega (arith, b, v.one_more)) ∙ v.other-sets (4 * c + k) (λ q. omega (arith, q, b)) ∙ sym (policy-at s c k b))
          ∙ w.1 k t (omega (arith, b, policy-count s c)) ∙ ap (λ (x : TagSet). has x t) (sym (get_or-append had (p ∷ []) empty_set k (omega (arith, b, long)))))
          (λ b.
          let q : k ≡ policy_count s c = omega (arith, b, l, count) in
          ap (λ (x : TagSet). has x t) (policy-at s' c k (omega (arith, q, v.one_more))) ∙ ap (λ (j : ℕ). has (set_at s'.storage.policies (4 * c + j)) t) q
          ∙ v.last t ∙ ap (λ (x : TagSet). has x t) (sym (get_or_at had p [] empty_set k (long ∙ sym q))))

-- CALLS

module _ (n c : ℕ) (l : c < n) where
  -- what stays true from call to call: the state is usable, has n containers, and c has the sets in `had`
  record Given (had : List TagSet) (s : State) : Type 0 where
    usable : Usable s
    size : s.header.containers ≡ n
    sets : SameSets (policies_of s c) had

  -- after a call
  after_call : (had : List TagSet) (s : State) (call : Call) → Usable s → s.header.containers ≡ n → SameSets (policies_of (outcome_of s call).state c) had
      → Given had (outcome_of s call).state
  after_call had s call u z w = record { usable = call-keeps Usable s call (λ s u. u) u; size = call-containers s call ∙ z; sets = w }

  -- an event gives c nothing
  event-given : (had : List TagSet) (s : State) (e : Event) → Given had s → Given had (outcome_of s (ask e)).state
  event-given had s e w = after_call had s (ask e) w.usable w.size (rw (event-keeps s c e) w.sets)

  -- a set is put behind those that c has exactly if it is taken
  add-given : (had : List TagSet) (s : State) (d : ℕ) (p : TagSet) → Given had s → Given (cond (takes n c had d p) (had ++ (p ∷ [])) had) (outcome_of s (add d p)).state
  unfolding outcome_of
  add-given had s d p w =
      cases (takes n c had d p) (λ e. rw e (after_call (had ++ (p ∷ [])) s (add d p) w.usable w.size (taken ((takes-exactly-if n c had d p).0 e))))
      (λ e. rw e (after_call had s (add d p) w.usable w.size (rw (same e) w.sets)))
    where
      -- as many as the count says
      long : length had ≡ policy_count s c
      long = sym w.sets.0 ∙ policy-count s c

      -- what is taken is accepted
      taken : (d ≡ c) × (c < n) × Known n p × (length had < 4) → SameSets (policies_of (add_of s d p).state c) (had ++ (p ∷ []))
      taken h =
          let a : Adds s c p = record { usable = w.usable; container = rw w.size l; known = rw w.size h.2; room = omega (arith, h.3, long) } in
          rw h.0 (added-last s c p (add_of s c p).state had (add-so s c p ((add-accepted s c p).1 a)) w.sets)

      -- what is not taken is another's or refused
      same : takes n c had d p ≡ false → policies_of (add_of s d p).state c ≡ policies_of s c
      same e =
          by_cases (ℕ_discrete d c)
          (λ q. call-cases (λ x. policies_of x c ≡ policies_of s c) s (add d p) (λ a. absurd (false≢true (sym e ∙ (takes-exactly-if n c had d p).1 (fits q ((add-accepted s d p).0 a))))) refl)
          (other-keeps s c d p w.usable (rw w.size l))
        where
          fits : d ≡ c → Adds s d p → (d ≡ c) × (c < n) × Known n p × (length had < 4)
          fits q a = (q, l, rw (sym w.size) a.known, omega (arith, long, ap (policy_count s) q, a.room))

  -- so over a list of calls c has the sets that they give it
  calls-given : (calls : List Call) (had : List TagSet) (s : State) → Given had s → SameSets (policies_of (after s calls) c) (given_to n c had calls)
  unfolding after given_to
  calls-given [] had s w = w.sets
  calls-given (ask e ∷ calls) had s w = calls-given calls had (outcome_of s (ask e)).state (event-given had s e w)
  calls-given (add d p ∷ calls) had s w =
      calls-given calls (cond (takes n c had d p) (had ++ (p ∷ [])) had) (outcome_of s (add d p)).state (add-given had s d p w)

-- QUESTIONS

-- the three questions about a container answer the number of the row that applies
all-answer : (s : State) (c k : ℕ) → QuestionAnswers s c k → ((tags_of s c).refusal ≡ k) × ((size_asked s c).refusal ≡ k) × ((legal_of s c).refusal ≡ k)
unfolding tags_of size_asked legal_of
all-answer s c k r =
    let number = (question-answers s c k).1 r in (
      asked-number empty_set (set_at s.storage.tags c) (first_of (question_order s c) 0) ∙ number,
      asked-number 0 (size_of (set_at s.storage.tags c)) (first_of (question_order s c) 0) ∙ number,
      asked-number false (is_legal s c) (first_of (question_order s c) 0) ∙ number,
    )

-- the answer of the permission question that is answered is yes exactly if the container is legal
yes-exactly-if : (s : State) (c : ℕ) → (legal_of s c).refusal ≡ 0 → (legal_of s c ≡ told true) ↔ (is_legal s c ≡ true)
unfolding legal_of
yes-exactly-if s c a =
    let number = first_of (question_order s c) 0 in
    let is : legal_of s c ≡ told (is_legal s c) = asked-told false (is_legal s c) number (sym (asked-number false (is_legal s c) number) ∙ a) in
    (λ e. ap (λ (x : Asked Bool). x.value) (sym is ∙ e), λ e. is ∙ ap told e)

-- AFTER A LIST OF CALLS on n containers, from any lent storage that starting accepted
module _ (n : ℕ) (lent : Storage) (begun : (start_of n lent).answer.refusal ≡ 0) (calls : List Call) where
  -- the tracker after the last call
  abbrev tracker : State
  tracker = after (start_of n lent).state calls

  -- it follows the accepted history
  pub list-follows : Follows n (accepted n (events_of calls)) tracker
  list-follows = calls-follow n calls empty (start_of n lent).state (begun-follows n lent begun)

  -- THE POLICY SETS of a container are those that the calls gave it, in their order
  pub policies-are-those-given : (c : ℕ) → c < n → SameSets (policies_of tracker c) (given_to n c [] calls)
  policies-are-those-given c l =
      let w = begun-follows n lent begun in
      let none : length (policies_of (start_of n lent).state c) ≡ 0 = policy-count (start_of n lent).state c ∙ (start-is-started n lent begun).no-policies c l in
      calls-given n c l calls [] (start_of n lent).state (record { usable = w.usable; size = w.size; sets = (none, λ k t b. absurd (omega (arith, none, b))) })

  -- A SET IS ACCEPTED exactly if the container takes it
  pub accepted-exactly-if-taken : (c : ℕ) (p : TagSet) → ((outcome_of tracker (add c p)).answer.refusal ≡ 0) ↔ (takes n c (given_to n c [] calls) c p ≡ true)
  unfolding outcome_of
  accepted-exactly-if-taken c p = (
    λ a.
        let e = (add-accepted tracker c p).0 a in
        let l : c < n = omega (arith, e.container, list-follows.size) in
        in_words.1 (refl, l, rw (sym list-follows.size) e.known, omega (arith, e.room, long l)),
    λ t.
        let w = in_words.0 t in
        (add-accepted tracker c p).1
        (record {
          usable = list-follows.usable;
          container = omega (arith, w.1, list-follows.size);
          known = rw list-follows.size w.2;
          room = omega (arith, w.3, long w.1);
        }),
  )
    where
      in_words : (takes n c (given_to n c [] calls) c p ≡ true) ↔ ((c ≡ c) × (c < n) × Known n p × (length (given_to n c [] calls) < 4))
      in_words = takes-exactly-if n c (given_to n c [] calls) c p

      long : c < n → length (given_to n c [] calls) ≡ policy_count tracker c
      long l = sym (policies-are-those-given c l).0 ∙ policy-count tracker c

  -- EVERY QUESTION about one of the containers is answered
  pub questions-are-answered : (c : ℕ) → c < n → ((tags_of tracker c).refusal ≡ 0) × ((size_asked tracker c).refusal ≡ 0) × ((legal_of tracker c).refusal ≡ 0)
  questions-are-answered c l = all-answer tracker c 0 (answered list-follows.usable (omega (arith, l, list-follows.size)))

  -- about any other number the answer is that there is no such container
  pub others-are-no-container : (c : ℕ) → n ≤ c → ((tags_of tracker c).refusal ≡ 4) × ((size_asked tracker c).refusal ≡ 4) × ((legal_of tracker c).refusal ≡ 4)
  others-are-no-container c l = all-answer tracker c 4 (no-such-container list-follows.usable (omega (arith, l, list-follows.size)))

  -- the ranking is answered where the output has n places
  pub rank-is-answered : (out : List ℕ) → n ≤ length out → (rank_of tracker out).refusal ≡ 0
  rank-is-answered out l = (rank-answers tracker out 0).1 (done list-follows.usable (omega (arith, l, list-follows.size)))

  -- PERMISSION: a container may be sent exactly if one of the sets given to it has every tag that data can have brought to it
  pub legal-exactly-if-given : (c : ℕ) → c < n
      → (legal_of tracker c ≡ told true) ↔ ((p : TagSet) × (p ∈ given_to n c [] calls) × ((t : ℕ) → Flows n (accepted n (events_of calls)) t c → has p t ≡ true))
  legal-exactly-if-given c l =
      let yes = yes-exactly-if tracker c (questions-are-answered c l).2 in
      let rule = legal-exactly-if tracker c in
      let same = policies-are-those-given c l in (
        λ e.
            let v = rule.0 (yes.0 e) in
            let m = same-member (policies_of tracker c) (given_to n c [] calls) same v.1 in
            (m.0, m.1, λ t f. sym (m.2 t) ∙ v.2 t ((configuration-has tracker c t).0 ((list-follows.sets c t).1 f)).1),
        λ v.
            let m = same-member (given_to n c [] calls) (policies_of tracker c) (same-sym (policies_of tracker c) (given_to n c [] calls) same) v.1 in
            yes.1 (rule.1 (m.0, m.1, λ t h. sym (m.2 t) ∙ v.2 t ((list-follows.sets c t).0 ((configuration-has tracker c t).1 (omega (arith, l, list-follows.size), h))))),
      )

-- WHAT IS TAKEN AND WHAT IS NOT

module _ (n c : ℕ) where
  -- a set of known tags is taken where there are fewer than four
  one_more : (had : List TagSet) (p : TagSet) (calls : List Call) → c < n → Known n p → length had < 4
      → given_to n c had (add c p ∷ calls) ≡ given_to n c (had ++ (p ∷ [])) calls
  unfolding given_to
  one_more had p calls l k r = rw ((takes-exactly-if n c had c p).1 (refl, l, k, r)) refl

  -- where there are four, no call gives another
  full : (had : List TagSet) (calls : List Call) → 4 ≤ length had → given_to n c had calls ≡ had
  unfolding given_to
  full had [] r = refl
  full had (ask e ∷ calls) r = full had calls r
  full had (add d p ∷ calls) r =
      cases (takes n c had d p) (λ e. absurd (omega (arith, r, ((takes-exactly-if n c had d p).0 e).3))) (λ e. rw e (full had calls r))

  -- 'The same set may be added twice and takes two places'
  pub same-set-twice-takes-two-places : (p : TagSet) → c < n → Known n p → given_to n c [] (add c p ∷ add c p ∷ []) ≡ p ∷ p ∷ []
  unfolding given_to
  same-set-twice-takes-two-places p l k = one_more [] p (add c p ∷ []) l k (omega arith) ∙ one_more (p ∷ []) p [] l k (omega arith)

  -- a fifth is not taken, whatever it is and whatever is called then
  pub a-fifth-is-not-taken : (p q r s : TagSet) → c < n → Known n p → Known n q → Known n r → Known n s → (calls : List Call)
      → given_to n c [] (add c p ∷ add c q ∷ add c r ∷ add c s ∷ calls) ≡ p ∷ q ∷ r ∷ s ∷ []
  a-fifth-is-not-taken p q r s l kp kq kr ks calls =
      one_more [] p (add c q ∷ add c r ∷ add c s ∷ calls) l kp (omega arith) ∙ one_more (p ∷ []) q (add c r ∷ add c s ∷ calls) l kq (omega arith)
      ∙ one_more (p ∷ q ∷ []) r (add c s ∷ calls) l kr (omega arith) ∙ one_more (p ∷ q ∷ r ∷ []) s calls l ks (omega arith)
      ∙ full (p ∷ q ∷ r ∷ s ∷ []) calls (omega arith)
