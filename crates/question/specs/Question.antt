-- What a question about a container answers (document 01, 'Permission' and the order under its table of refusals): its tag set, the set's size, and
-- whether it may be sent. A question changes nothing, and its answer carries no header. Assumes nothing.
use Rattle.std.specs.Prelude.{Bool, false, ◌||◌, List, [], ◌∷◌, ◌++◌, ℕ, zero, suc, leb}
use Rattle.refusal.specs.Order.{first_of}
use Rattle.model.specs.Reach.{tabulate}
use Rattle.tagset.specs.declared.TagSet.{TagSet}
use Rattle.tagset.specs.Set.{empty_set, subset_of, size_of}
use Rattle.state.specs.State.{State, set_at, policy_count, policy_at}
use Rattle.state.specs.Valid.{state_order}

-- the refusal's number, 0 where the question is answered, and what is answered
pub record Asked (A : Type 0) : Type 0 where
  pub refusal : ℕ
  pub value : A

-- 'Set, size and permission questions: 9, 12, 4'
abbrev pub question_later : State → ℕ → List (Bool × ℕ)
question_later s c = (leb s.header.containers c, 4) ∷ []

unfoldable pub question_order : State → ℕ → List (Bool × ℕ)
question_order s c = state_order s ++ question_later s c

-- 0: the value. Otherwise 'its number with all other numbers 0', which is the empty set, the size 0 and the answer no (`none`)
unfoldable pub asked : {A : Type 0} → ℕ → A → A → Asked A
asked zero none value = record { refusal = 0; value = value }
asked (suc k) none value = record { refusal = suc k; value = none }

-- a container's tag set
unfoldable pub tags_of : State → ℕ → Asked TagSet
tags_of s c = asked (first_of (question_order s c) 0) empty_set (set_at s.storage.tags c)

-- its size
unfoldable pub size_asked : State → ℕ → Asked ℕ
size_asked s c = asked (first_of (question_order s c) 0) 0 (size_of (set_at s.storage.tags c))

-- some element passes the test
unfoldable pub any_of : {A : Type 0} → (A → Bool) → List A → Bool
any_of p [] = false
any_of p (x ∷ xs) = p x || any_of p xs

-- a container's policy sets (document 001: its policy tag), 'in the order of adding': as many as it has by its count
unfoldable pub policies_of : State → ℕ → List TagSet
policies_of s c = tabulate (policy_count s c) (λ k. policy_at s c k)

-- document 001: 'legal if and only if its information tag [..] is included in at least one of the sets of its policy tag [..]'
unfoldable pub is_legal : State → ℕ → Bool
is_legal s c = any_of (subset_of (set_at s.storage.tags c)) (policies_of s c)

-- whether it may be sent
unfoldable pub legal_of : State → ℕ → Asked Bool
legal_of s c = asked (first_of (question_order s c) 0) false (is_legal s c)
