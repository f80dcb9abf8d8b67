-- Laws of questions: when a container is legal, which policy sets it has, what is answered and what is refused. Assumes nothing.
use Rattle.std.specs.Prelude.{◌≡◌, Bool, ◌||◌, ◌↔◌, ◌+◌, length, pred, Result, Ok, Err}
use Rattle.std.proofs.Math.Path.{refl}
use Rattle.std.proofs.Common.{sym, ap, ap₂, ◌∙◌, le-leb}
use Rattle.std.proofs.Math.Bool.{true, false}
use Rattle.std.proofs.lemmas.Bool.{false≢true, lt-leb}
use Rattle.std.specs.List.{list_any, range_with_len}
use mathlib.Core.List.Memᴰ
use mathlib.Core.List.{List, [], ◌∷◌}
use Rattle.std.proofs.Math.Logic.{⊎_elim, by_cases}
use Prim.Native.Nat.{ℕ, zero, suc, ◌≤◌, ◌<◌}
use Rattle.std.proofs.Math.Decide.{dec_lt}
use native.Mathlib.Omega.{arith}
use borrow.Table.Steps.{cases}
use Rattle.refusal.specs.declared.Refusal.{Refusal}
use Rattle.refusal.specs.Number.{number_of, refusal_of}
use Rattle.refusal.specs.Order.{first_of}
use Rattle.refusal.proofs.Number.{number-positive}
use Rattle.refusal.proofs.Order.{by_rows}
use Rattle.truth.specs.Truth.{or-either, left_or, right_or}
use Rattle.model.specs.Model.{◌∈◌}
use Rattle.model.specs.Reach.{tabulate}
use Rattle.model.proofs.Closure.{tabulate-length}
use Rattle.tagset.specs.declared.TagSet.{TagSet}
use Rattle.tagset.specs.Set.{has, empty_set, subset_of, size_of}
use Rattle.state.specs.State.{State, set_at, policy_count, policy_at}
use Rattle.state.specs.IsValid.{IsSized, IsValid, Usable}
use Rattle.state.proofs.IsValid.{subset_iff}
use Rattle.state.proofs.Judging.{by_state, short-first, invalid-first, usable-first}
use Rattle.question.specs.Question.{Asked, question_later, question_order, asked, tags_of, size_asked, any_of, policies_of, is_legal, legal_of}
use Rattle.question.specs.Replies.{told, untold, asked_by}

-- LISTS

module _ {A : Type 0} where
  -- some element passes exactly where one can be named
  any-of-iff : (p : A → Bool) (xs : List A) → (any_of p xs ≡ true) ↔ ((x : A) × (x ∈ xs) × (p x ≡ true))
  unfolding any_of
  any-of-iff p xs = (fore xs, λ w. back xs w.1 w.2)
    where
      fore : (xs : List A) → any_of p xs ≡ true → (x : A) × (x ∈ xs) × (p x ≡ true)
      fore [] e = absurd (false≢true e)
      fore (x ∷ xs) e =
          ⊎_elim (λ h. (x, Memᴰ.head refl, h)) (λ h. let w = fore xs h in (w.0, Memᴰ.tail w.1, w.2)) (or-either (p x) (any_of p xs) e)

      back : (xs : List A) {x : A} → x ∈ xs → p x ≡ true → any_of p xs ≡ true
      back [] m h = absurd (Memᴰ.not-nil m)
      back (y ∷ ys) m h =
          ⊎_elim (λ e. left_or (any_of p ys) (ap p (sym e) ∙ h)) (λ n. right_or (p y) (back ys n h)) (Memᴰ.cases_cons m)

  -- the elements of a tabulated list are the values at the numbers below n
  tabulate-member : (n : ℕ) (f : ℕ → A) (x : A) → (x ∈ tabulate n f) ↔ ((k : ℕ) × (k < n) × (x ≡ f k))
  unfolding tabulate
  tabulate-member n f x = (fore n f, λ w. back n f w.0 w.1 w.2)
    where
      fore : (n : ℕ) (f : ℕ → A) → x ∈ tabulate n f → (k : ℕ) × (k < n) × (x ≡ f k)
      fore zero f m = absurd (Memᴰ.not-nil m)
      fore (suc n) f m =
          ⊎_elim (λ e. (0, omega arith, e)) (λ r. let w = fore n (λ i. f (suc i)) r in (suc w.0, omega (arith, w.1), w.2)) (Memᴰ.cases_cons m)

      back : (n : ℕ) (f : ℕ → A) (k : ℕ) → k < n → x ≡ f k → x ∈ tabulate n f
      back zero f k l e = absurd (omega (arith, l))
      back (suc n) f zero l e = Memᴰ.head e
      back (suc n) f (suc k) l e = Memᴰ.tail (back n (λ i. f (suc i)) k (omega (arith, l)) e)

  -- one value that passes is enough
  pub any_at : (p : A → Bool) (n : ℕ) (f : ℕ → A) (k : ℕ) → k < n → p (f k) ≡ true → any_of p (tabulate n f) ≡ true
  any_at p n f k l e = (any-of-iff p (tabulate n f)).1 (f k, (tabulate-member n f (f k)).1 (k, l, refl), e)

  -- and where none does, the answer is no
  pub any_none : (p : A → Bool) (n : ℕ) (f : ℕ → A) → ((k : ℕ) → k < n → p (f k) ≡ false) → any_of p (tabulate n f) ≡ false
  any_none p n f h =
      cases (any_of p (tabulate n f))
      (λ e.
      let w = (any-of-iff p (tabulate n f)).0 e in
      let m = (tabulate-member n f w.0).0 w.1 in
      absurd (false≢true (sym (h m.0 m.1) ∙ ap p (sym m.2) ∙ w.2)))
      (λ e. e)

  -- a test of each number of a range, where it says the same of number k as another of value k
  pub any-range : (p : A → Bool) (n a : ℕ) (f : ℕ → A) (q : ℕ → Bool) → ((i k : ℕ) → i < n → k ≡ a + i → q k ≡ p (f i))
      → list_any q (range_with_len a n) ≡ any_of p (tabulate n f)
  unfolding any_of tabulate
  any-range p zero a f q same = refl
  any-range p (suc n) a f q same =
      ap₂ (λ (x y : Bool). x || y) (same 0 a (omega arith) (omega arith))
      (any-range p n (a + 1) (λ i. f (suc i)) q (λ i k l e. same (suc i) k (omega (arith, l)) (omega (arith, e))))

-- LEGAL CONTAINERS

-- document 001: 'legal if and only if its information tag [..] is included in at least one of the sets of its policy tag [..]'
pub legal-exactly-if : (s : State) (c : ℕ)
    → (is_legal s c ≡ true) ↔ ((p : TagSet) × (p ∈ policies_of s c) × ((t : ℕ) → has (set_at s.storage.tags c) t ≡ true → has p t ≡ true))
unfolding is_legal
legal-exactly-if s c =
    let set = set_at s.storage.tags c in
    let any = any-of-iff (subset_of set) (policies_of s c) in (
      λ e. let w = any.0 e in (w.0, w.1, (subset_iff set w.0).0 w.2),
      λ w. any.1 (w.0, w.1, (subset_iff set w.0).1 w.2),
    )

-- a container's policy sets are those in its first places, as many as it has
pub policy-member : (s : State) (c : ℕ) (p : TagSet)
    → (p ∈ policies_of s c) ↔ ((k : ℕ) × (k < policy_count s c) × (p ≡ policy_at s c k))
unfolding policies_of
policy-member s c p = tabulate-member (policy_count s c) (policy_at s c) p

-- and there are no more and no fewer
pub policy-count : (s : State) (c : ℕ) → length (policies_of s c) ≡ policy_count s c
unfolding policies_of
policy-count s c = tabulate-length (policy_count s c) (policy_at s c)

-- a container with no policy set is not legal
pub no-policy-not-legal : (s : State) (c : ℕ) → policy_count s c ≡ 0 → is_legal s c ≡ false
unfolding is_legal policies_of
no-policy-not-legal s c e =
    any_none (subset_of (set_at s.storage.tags c)) (policy_count s c) (policy_at s c)
    (λ k l. absurd (omega (arith, e, l)))

-- WHAT IS ANSWERED AND WHAT IS REFUSED

-- an answer's number is its refusal's
pub asked-by-number : {A : Type 0} (none : A) (q : Result A Refusal) → (asked_by none q).refusal ≡ refusal_of q
asked-by-number none (Ok v) = refl
asked-by-number none (Err q) = refl

module _ {A : Type 0} (none value : A) where
  -- the number of the answer is the one that was decided on
  pub asked-number : (r : ℕ) → (asked r none value).refusal ≡ r
  unfolding asked
  asked-number zero = refl
  asked-number (suc k) = refl

  -- 0: the value is told
  pub asked-told : (r : ℕ) → r ≡ 0 → asked r none value ≡ told value
  unfolding asked
  asked-told r e = rw e refl

  -- any other: it is not
  pub asked-untold : (r k : ℕ) → r ≡ suc k → asked r none value ≡ untold none (suc k)
  unfolding asked
  asked-untold r k e = rw e refl

  -- a refusal's: it is not
  pub asked-refused : (r : ℕ) (q : Refusal) → r ≡ number_of q → asked r none value ≡ asked_by none (Err q)
  asked-refused r q e =
      let k : suc (pred (number_of q)) ≡ number_of q = omega (arith, number-positive q) in
      rw k at (asked-untold r (pred (number_of q)) (e ∙ sym k))

  -- the value of an answer is the one asked for
  value-told : (r : ℕ) → (asked r none value).refusal ≡ 0 → (asked r none value).value ≡ value
  value-told r e = ap (λ (a : Asked A). a.value) (asked-told r (sym (asked-number r) ∙ e))

  -- that of a refusal is not
  value-untold : (r k : ℕ) → (asked r none value).refusal ≡ suc k → (asked r none value).value ≡ none
  value-untold r k e = ap (λ (a : Asked A). a.value) (asked-untold r k (sym (asked-number r) ∙ e))

-- an answer is its number and its value
pub asked_is : {A : Type 0} (x : Asked A) (v : A) {k : ℕ} → x.refusal ≡ k → x.value ≡ v
    → ◌≡◌ {A = Asked A} (record { refusal = k; value = v }) x
asked_is x v p q = λ i. record { refusal = sym p i; value = sym q i }

module _ (s : State) (c : ℕ) where
  -- the number that is decided on
  abbrev number : ℕ
  number = first_of (question_order s c) 0

  -- it is the number of each answer
  pub tags-number : (tags_of s c).refusal ≡ first_of (question_order s c) 0
  unfolding tags_of
  tags-number = asked-number empty_set (set_at s.storage.tags c) number

  pub size_number : (size_asked s c).refusal ≡ first_of (question_order s c) 0
  unfolding size_asked
  size_number = asked-number 0 (size_of (set_at s.storage.tags c)) number

  pub legal-number : (legal_of s c).refusal ≡ first_of (question_order s c) 0
  unfolding legal_of
  legal-number = asked-number false (is_legal s c) number

  -- A QUESTION THAT IS NOT REFUSED tells the container's tag set
  pub tags-told : (tags_of s c).refusal ≡ 0 → (tags_of s c).value ≡ set_at s.storage.tags c
  unfolding tags_of
  tags-told = value-told empty_set (set_at s.storage.tags c) number

  -- its size
  pub size-told : (size_asked s c).refusal ≡ 0 → (size_asked s c).value ≡ size_of (set_at s.storage.tags c)
  unfolding size_asked
  size-told = value-told 0 (size_of (set_at s.storage.tags c)) number

  -- whether it is legal
  pub legal-told : (legal_of s c).refusal ≡ 0 → (legal_of s c).value ≡ is_legal s c
  unfolding legal_of
  legal-told = value-told false (is_legal s c) number

  -- ONE THAT IS REFUSED tells the empty set
  pub tags-untold : (k : ℕ) → (tags_of s c).refusal ≡ suc k → (tags_of s c).value ≡ empty_set
  unfolding tags_of
  tags-untold = value-untold empty_set (set_at s.storage.tags c) number

  -- the size 0
  pub size-untold : (k : ℕ) → (size_asked s c).refusal ≡ suc k → (size_asked s c).value ≡ 0
  unfolding size_asked
  size-untold = value-untold 0 (size_of (set_at s.storage.tags c)) number

  -- no
  pub legal-untold : (k : ℕ) → (legal_of s c).refusal ≡ suc k → (legal_of s c).value ≡ false
  unfolding legal_of
  legal-untold = value-untold false (is_legal s c) number

-- THE TABLE OF REFUSALS

-- 'Set, size and permission questions: 9, 12, 4'
pub data QuestionAnswers (s : State) (c : ℕ) : ℕ → Type 0 where
  bad-size : ¬ IsSized s.header.containers s.storage → QuestionAnswers s c 9
  invalid-state : IsSized s.header.containers s.storage → ¬ IsValid s → QuestionAnswers s c 12
  no-such-container : Usable s → s.header.containers ≤ c → QuestionAnswers s c 4
  answered : Usable s → c < s.header.containers → QuestionAnswers s c 0

module _ (s : State) (c : ℕ) where
  -- how many containers there are
  abbrev n : ℕ
  n = s.header.containers

  -- a row's number is the one answered
  row_number : {k : ℕ} → QuestionAnswers s c k → first_of (question_order s c) 0 ≡ k
  unfolding question_order
  row_number (bad-size z) = short-first s (question_later s c) z
  row_number (invalid-state z v) = invalid-first s (question_later s c) z v
  row_number (no-such-container u l) = usable-first s (question_later s c) u ∙ rw (le-leb n c l) refl
  row_number (answered u l) = usable-first s (question_later s c) u ∙ rw (lt-leb n c l) refl

  -- and some row applies: by the lengths, the content, the container
  some-row : (k : ℕ) × QuestionAnswers s c k
  some-row =
      by_state s (λ z. (9, bad-size z)) (λ z v. (12, invalid-state z v))
      (λ u. by_cases (dec_lt c n) (λ l. (0, answered u l)) (λ l. (4, no-such-container u (omega (arith, l)))))

  -- so the number answered is that of the row that applies
  pub question-answers : (k : ℕ) → (first_of (question_order s c) 0 ≡ k) ↔ QuestionAnswers s c k
  question-answers = by_rows (QuestionAnswers s c) (λ k. row_number) some-row

  -- a question that is not refused is asked of a usable state and of one of its containers
  pub answered-state : first_of (question_order s c) 0 ≡ 0 → Usable s × (c < n)
  answered-state e = go ((question-answers 0).0 e) refl
    where
      go : {k : ℕ} → QuestionAnswers s c k → k ≡ 0 → Usable s × (c < n)
      go (bad-size z) q = absurd (omega (arith, q))
      go (invalid-state z v) q = absurd (omega (arith, q))
      go (no-such-container u l) q = absurd (omega (arith, q))
      go (answered u l) q = (u, l)
