-- What one edge does, and how many passes there are. What passes do, up to the closure (`exact`), is in proofs/Exact.antt. Assumes nothing.
use Rattle.std.specs.Prelude.{◌≡◌, refl, true, false, ◌&&◌, ◌||◌, ◌⊎◌, ◌↔◌, ltb, eqb, length}
use Rattle.std.proofs.Common.{sym, ◌∙◌}
use Rattle.std.proofs.Math.Path.{ap}
use Rattle.std.proofs.Math.Bool.{or-false}
use Rattle.std.proofs.Math.Logic.Iff
use mathlib.Core.List.{List}
use Prim.Native.Nat.compare
use Prim.Native.Nat.{ℕ, zero, suc, ◌+◌, ◌*◌, ◌≤◌, ◌<◌}
use native.Mathlib.Omega.{arith}
use borrow.Table.Steps.{cases}
use borrow.Author.Tests.{eqb-true, eqb-false, ltb-true, lt-ltb, le-ltb}
use Rattle.truth.specs.Truth.{or-and-iff, and-iff, lt_iff}
use Rattle.model.specs.declared.Flow.{Flow}
use Rattle.model.specs.Model.{edges_of}
use Rattle.tagset.specs.declared.TagSet.{TagSet}
use Rattle.tagset.specs.Set.{has, union_of, size_of}
use Rattle.tagset.proofs.Laws.{union-has, size-union}
use Rattle.state.specs.State.{set_at}
use Rattle.tagstore.specs.Store.{put_set, total_of}
use Rattle.tagstore.specs.Laws.{put-length, total-le}
use Rattle.tagstore.proofs.Put.{put_has, put-other-set, total-put}
use Rattle.propagation.specs.Pass.{inside, carried, new_tags, pass, passed, adds, passes_up_to, passes_of, sets_in, pass_count, sets_after}

-- ONE EDGE

-- an edge is inside where both its ends are below n
pub inside-iff : (n : ℕ) (e : ℕ × ℕ) → (inside n e ≡ true) ↔ ((e.0 < n) × (e.1 < n))
inside-iff n e = simp (and-iff, lt_iff) Iff.rfl

-- the words with the tags of a set given to container b
abbrev pub given : List ℕ → ℕ → TagSet → List ℕ
given ws b s = put_set ws b (union_of (set_at ws b) s)

-- container b then has these tags too, and the others have what they had
given-has : (ws : List ℕ) (b : ℕ) (s : TagSet) → 4 * b + 4 ≤ length ws → (c t : ℕ)
    → has (set_at (given ws b s) c) t ≡ has (set_at ws c) t || (eqb c b && has s t)
given-has ws b s h c t =
    cases (eqb c b)
    (λ q. let e = eqb-true c b q in
    rw q
    (ap (λ (k : ℕ). has (set_at (given ws b s) k) t) e ∙ put_has ws b (union_of (set_at ws b) s) h t ∙ union-has (set_at ws b) s t
    ∙ ap (λ (k : ℕ). has (set_at ws k) t || has s t) (sym e)))
    (λ q. rw (q, put-other-set ws b (union_of (set_at ws b) s) c (eqb-false c b q), or-false))

module _ (n : ℕ) (found : List ℕ) (e : ℕ × ℕ) (ws : List ℕ) where
  -- an edge that is inside replaces the set of its destination by a union, which is larger by the new tags
  pub edge-inside : inside n e ≡ true
      → (carried n found e ws ≡ put_set ws e.1 (union_of (set_at ws e.1) (set_at found e.0)))
      × (size_of (union_of (set_at ws e.1) (set_at found e.0)) ≡ size_of (set_at ws e.1) + new_tags n found e ws)
  unfolding carried new_tags
  edge-inside q = (rw q, rw q (size-union (set_at ws e.1) (set_at found e.0)))

  -- any other does nothing
  pub edge-outside : inside n e ≡ false → (carried n found e ws ≡ ws) × (new_tags n found e ws ≡ 0)
  unfolding carried new_tags
  edge-outside q = (rw q, rw q)

  -- a fact of the words that holds with what an edge gives holds after that edge
  pub edge-keeps : (P : List ℕ → Type 0) → (e.1 < n → P (given ws e.1 (set_at found e.0))) → P ws → P (carried n found e ws)
  edge-keeps P k p =
      cases (inside n e) (λ q. rw (edge-inside q).0 (k ((inside-iff n e).0 q).1)) (λ q. rw (edge-outside q).0 p)

  -- the words stay as many
  pub edge-length : length (carried n found e ws) ≡ length ws
  edge-length = edge-keeps (λ vs. length vs ≡ length ws) (λ l. put-length ws e.1 (union_of (set_at ws e.1) (set_at found e.0))) refl

  module _ (h : 4 * n ≤ length ws) where
    -- the pairs are more by the new tags
    pub edge-total : total_of n ws + new_tags n found e ws ≡ total_of n (carried n found e ws)
    edge-total =
        cases (inside n e)
        (λ q. rw (edge-inside q).0
        (omega (arith, (edge-inside q).1, total-put n ws e.1 (union_of (set_at ws e.1) (set_at found e.0)) ((inside-iff n e).0 q).1 h)))
        (λ q. rw (edge-outside q).0 (omega (arith, (edge-outside q).1)))

    -- a container then has what it had, and the destination what the source had in the sets found
    pub edge-has : (c t : ℕ)
        → (has (set_at (carried n found e ws) c) t ≡ true)
        ↔ ((has (set_at ws c) t ≡ true) ⊎ ((inside n e ≡ true) × (eqb c e.1 && has (set_at found e.0) t ≡ true)))
    edge-has c t = simp (both, or-and-iff) Iff.rfl
      where
        both : has (set_at (carried n found e ws) c) t ≡ has (set_at ws c) t || (inside n e && (eqb c e.1 && has (set_at found e.0) t))
        both =
            cases (inside n e)
            (λ q. let l = ((inside-iff n e).0 q).1 in
            rw (q, (edge-inside q).0) (given-has ws e.1 (set_at found e.0) (omega arith) c t))
            (λ q. rw (q, (edge-outside q).0, or-false))

-- PASSES

-- one pass more is a pass after the others
pub passed-suc : (m n : ℕ) (es : List (ℕ × ℕ)) (ws : List ℕ) → passed (suc m) n es ws ≡ pass n es (passed m n es ws)
unfolding passed
passed-suc zero n es ws = refl
passed-suc (suc m) n es ws = passed-suc m n es (pass n es ws)

-- HOW MANY PASSES

module _ (n : ℕ) (es : List (ℕ × ℕ)) where
  -- there is one, and `most` more at most
  up-some : (most : ℕ) (ws : List ℕ) → (1 ≤ passes_up_to most n es ws) × (passes_up_to most n es ws ≤ most + 1)
  unfolding passes_up_to
  up-some zero ws = (omega arith, omega arith)
  up-some (suc most) ws =
      let r = up-some most (pass n es ws) in
      cases (adds n es ws) (λ e. rw e (omega arith, omega arith)) (λ e. rw e (omega arith, omega arith))

  -- those before the last add a tag, and the last adds none, where no more than `most` pairs can be added
  up-adds : (most : ℕ) (ws : List ℕ) → 256 * n ≤ total_of n ws + most → (m : ℕ) → m < passes_up_to most n es ws
      → adds n es (passed m n es ws) ≡ ltb (suc m) (passes_up_to most n es ws)
  unfolding passes_up_to passed adds
  up-adds zero ws h zero l = le-ltb (total_of n ws) (total_of n (pass n es ws)) (omega (arith, h, total-le n (pass n es ws)))
  up-adds zero ws h (suc m) l = absurd (omega (arith, l))
  up-adds (suc most) ws h zero l =
      cases (adds n es ws) (λ e. rw e (sym (lt-ltb 1 (suc (passes_up_to most n es (pass n es ws))) (omega (arith, (up-some most (pass n es ws)).0)))))
      (λ e. rw e refl)
  up-adds (suc most) ws h (suc m) l =
      cases (adds n es ws)
      (λ e. let z = rw e at l in
      rw (e, compare.suc-suc) (up-adds most (pass n es ws) (omega (arith, h, ltb-true (total_of n ws) (total_of n (pass n es ws)) e)) m (omega (arith, z))))
      (λ e. absurd (let z = rw e at l in omega (arith, z)))

module _ (n : ℕ) (es : List (ℕ × ℕ)) (ws : List ℕ) where
  -- there is a last pass
  pub passes-some : 1 ≤ passes_of n es ws
  unfolding passes_of
  passes-some = (up-some n es (256 * n) ws).0

  -- and 256 n before it at most
  pub passes-most : passes_of n es ws ≤ 256 * n + 1
  unfolding passes_of
  passes-most = (up-some n es (256 * n) ws).1

  -- each before it adds a tag
  pub passes-add : (m : ℕ) → m + 1 < passes_of n es ws → adds n es (passed m n es ws) ≡ true
  unfolding passes_of
  passes-add m l = up-adds n es (256 * n) ws (omega arith) m (omega (arith, l)) ∙ lt-ltb (suc m) (passes_of n es ws) (omega (arith, l))

  -- and it adds none
  pub passes-last : (m : ℕ) → m + 1 ≡ passes_of n es ws → adds n es (passed m n es ws) ≡ false
  unfolding passes_of
  passes-last m l = up-adds n es (256 * n) ws (omega arith) m (omega (arith, l)) ∙ le-ltb (suc m) (passes_of n es ws) (omega (arith, l))

-- ALONG FLOWS

-- of at most 256 sets that the words have whole none is left out
pub sets_in-all : (n : ℕ) (ws : List ℕ) → n ≤ 256 → 4 * n ≤ length ws → sets_in n ws ≡ n
unfolding sets_in
sets_in-all n ws l h = omega (arith, l, h)

module _ (n : ℕ) (fs : List Flow) (ws : List ℕ) (l : n ≤ 256) (h : 4 * n ≤ length ws) where
  -- so the passes are those over the flows' edges
  pub count-is : pass_count n fs ws ≡ passes_of n (edges_of fs) ws
  unfolding pass_count
  count-is = rw sets_in-all

  -- the sets are those after them
  pub after_is : sets_after n fs ws ≡ passed (passes_of n (edges_of fs) ws) n (edges_of fs) ws
  unfolding sets_after
  after_is = rw (count-is, sets_in-all)
