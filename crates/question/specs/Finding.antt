-- What follows from the answer to the question for the set, by which the other questions go on. Assumes nothing.
use Rattle.std.specs.Prelude.{◌≡◌, ℕ, suc, ◌≤◌, ◌<◌, Result, Ok}
use Rattle.std.proofs.Math.Path.{refl, sym, ap}
use Rattle.std.proofs.Common.{◌∙◌, le-leb}
use Rattle.std.proofs.lemmas.Bool.{lt-leb}
use Rattle.refusal.specs.declared.Refusal.{Refusal}
use Rattle.refusal.specs.Number.{refusal_of}
use Rattle.refusal.specs.Order.{first_of}
use Rattle.tagset.specs.declared.TagSet.{TagSet}
use Rattle.tagset.specs.Set.{empty_set}
use Rattle.state.specs.State.{State, set_at}
use Rattle.state.specs.Valid.{state_order}
use Rattle.state.proofs.Judging.{judged-usable, judged-first, usable-first}
use Rattle.question.specs.Question.{Asked, question_later, question_order, tags_of}
use Rattle.question.specs.Replies.{asked_by}
use Rattle.question.specs.Laws.{asked-number, asked-by-number, asked-told}

module _ (s : State) (c : ℕ) where
  -- a refusal of the state is the answer
  pub judged-refused : (k : ℕ) → first_of (state_order s) 0 ≡ suc k → first_of (question_order s c) 0 ≡ suc k
  unfolding question_order
  judged-refused k e = judged-first s k (question_later s c) e

  -- where there is none, and no such container either, 4 is
  pub judged-missing : first_of (state_order s) 0 ≡ 0 → s.header.containers ≤ c → first_of (question_order s c) 0 ≡ 4
  unfolding question_order
  judged-missing e l = usable-first s (question_later s c) (judged-usable s e) ∙ rw (le-leb s.header.containers c l) refl

  -- and where there is the container, nothing is refused
  pub judged-fine : first_of (state_order s) 0 ≡ 0 → c < s.header.containers → first_of (question_order s c) 0 ≡ 0
  unfolding question_order
  judged-fine e l = usable-first s (question_later s c) (judged-usable s e) ∙ rw (lt-leb s.header.containers c l) refl

  -- the answer says the number that is decided on
  pub found_number : (q : Result TagSet Refusal) → asked_by empty_set q ≡ tags_of s c
      → first_of (question_order s c) 0 ≡ refusal_of q
  unfolding tags_of
  found_number q e =
      sym (asked-number empty_set (set_at s.storage.tags c) (first_of (question_order s c) 0))
      ∙ ap (λ (a : Asked TagSet). a.refusal) (sym e) ∙ asked-by-number empty_set q

  -- where nothing is refused, its set is the container's tag set
  pub found-set : (set : TagSet) → asked_by empty_set (Ok set) ≡ tags_of s c → set ≡ set_at s.storage.tags c
  unfolding tags_of
  found-set set e =
      ap (λ (a : Asked TagSet). a.value)
      (e ∙ asked-told empty_set (set_at s.storage.tags c) (first_of (question_order s c) 0) (found_number (Ok set) e))
