-- The sets after an event in the paper's words: a container has a tag exactly if a container had it that this one is reached from. Assumes nothing.
use Rattle.std.specs.Prelude.{◌≡◌, Bool, true, false, ◌&&◌, ◌||◌, cond, ◌↔◌, List, ℕ, zero, suc, ◌<◌}
use Rattle.std.proofs.Common.{sym, ap, ◌∙◌}
use borrow.Table.Steps.{cases}
use Rattle.truth.specs.Truth.{and_both, both-and}
use Rattle.model.specs.declared.Flow.{Flow}
use Rattle.model.specs.Model.{edges_of}
use Rattle.model.specs.Reach.{reaches}
use Rattle.tagset.specs.declared.TagSet.{TagSet}
use Rattle.tagset.specs.Set.{has, union_of, any_below, IsWords}
use Rattle.tagset.proofs.Below.{any-find, any-make}
use Rattle.tagset.proofs.Laws.{union-has, empty-has, empty-words, union-words}
use Rattle.state.specs.State.{set_at}
use Rattle.state.specs.Layout.{Fit64}
use Rattle.state.proofs.LayoutLaws.{set-written, set-fits, sets-fit}
use Rattle.outcome.specs.Outcome.{union_over, propagated}

-- a tag is in the united sets exactly if it is in one of them
pub union-over-has : (n : ℕ) (p : ℕ → Bool) (f : ℕ → TagSet) (t : ℕ) → has (union_over n p f) t ≡ any_below n (λ a. p a && has (f a) t)
unfolding union_over any_below
union-over-has zero p f t = empty-has t
union-over-has (suc n) p f t = go (p n) (union-over-has n p f t)
  where
    go : (b : Bool) → has (union_over n p f) t ≡ any_below n (λ a. p a && has (f a) t)
        → has (cond b (union_of (f n) (union_over n p f)) (union_over n p f)) t ≡ (b && has (f n) t) || any_below n (λ a. p a && has (f a) t)
    go true e = union-has (f n) (union_over n p f) t ∙ ap (λ (x : Bool). has (f n) t || x) e
    go false e = e

-- what propagation leaves in a container's set
pub propagated-has : (n : ℕ) (fs : List Flow) (ws : List ℕ) (b t : ℕ) → b < n
    → (has (set_at (propagated n fs ws) b) t ≡ true) ↔ ((a : ℕ) × (a < n) × (reaches n (edges_of fs) a b ≡ true) × (has (set_at ws a) t ≡ true))
unfolding propagated
propagated-has n fs ws b t l = (λ e. fore (sym same ∙ e), λ r. same ∙ back r)
  where
    test : ℕ → Bool
    test a = reaches n (edges_of fs) a b && has (set_at ws a) t

    same : has (set_at (propagated n fs ws) b) t ≡ any_below n test
    same =
        set-written n (λ b. union_over n (λ a. reaches n (edges_of fs) a b) (set_at ws)) ws b t l ∙ union-over-has n (λ a. reaches n (edges_of fs) a b) (set_at ws) t

    fore : any_below n test ≡ true → (a : ℕ) × (a < n) × (reaches n (edges_of fs) a b ≡ true) × (has (set_at ws a) t ≡ true)
    fore e =
        let r = any-find n test e in
        let s = and_both (reaches n (edges_of fs) r.0 b) (has (set_at ws r.0) t) r.2 in
        (r.0, r.1, s.0, s.1)

    back : (a : ℕ) × (a < n) × (reaches n (edges_of fs) a b ≡ true) × (has (set_at ws a) t ≡ true) → any_below n test ≡ true
    back r = any-make n test r.0 r.1 (both-and r.2 r.3)

-- where every word has 64 bits, so it is of united sets
union-over-words : (n : ℕ) (p : ℕ → Bool) (f : ℕ → TagSet) → ((a : ℕ) → IsWords (f a)) → IsWords (union_over n p f)
unfolding union_over
union-over-words zero p f h = empty-words
union-over-words (suc n) p f h =
    let rest = union-over-words n p f h in
    cases (p n) (λ e. rw e (union-words (f n) (union_over n p f) (h n) rest)) (λ e. rw e rest)

-- and of what propagation leaves
pub propagated-fits : (n : ℕ) (fs : List Flow) (ws : List ℕ) → Fit64 ws → Fit64 (propagated n fs ws)
unfolding propagated
propagated-fits n fs ws h =
    sets-fit n (λ b. union_over n (λ a. reaches n (edges_of fs) a b) (set_at ws)) ws
    (λ b l. union-over-words n (λ a. reaches n (edges_of fs) a b) (set_at ws) (λ a. set-fits ws a h)) h
