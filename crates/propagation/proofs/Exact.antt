-- What passes do: what they keep, which tags they give and how many pairs these are, and that the sets after the last are those of the closure (`exact`). Assumes nothing.
use Rattle.std.specs.Prelude.{◌≡◌, refl, true, false, ◌⊎◌, ◌↔◌, ltb, eqb, length, drop}
use Rattle.std.proofs.Common.{sym, ◌∙◌, le_of_suc-le-suc, eq-or-lt_of_le, not-suc-le-zero}
use Rattle.std.proofs.Math.Path.{ap, subst}
use Rattle.std.proofs.lemmas.Bool.{false≢true}
use Rattle.std.proofs.Math.Logic.{inl, inr, ⊎_elim}
use mathlib.Core.List.Memᴰ
use mathlib.Core.List.{List, [], ◌∷◌}
use mathlib.Mathlib.Logic.Relation.{ReflTransGenᴰ}
use Prim.Native.Nat.{ℕ, zero, suc, ◌+◌, ◌*◌, ◌≤◌, ◌<◌}
use native.Mathlib.Omega.{arith}
use borrow.Table.Steps.{cases}
use borrow.Author.Tests.{eqb-true, eq-eqb, ltb-true, ltb-false, lt-ltb, le-ltb}
use Rattle.truth.specs.Truth.{and_both, both-and}
use Rattle.model.specs.declared.Flow.{Flow}
use Rattle.model.specs.Model.{◌∈◌, edges_of}
use Rattle.model.specs.Reach.{reaches}
use Rattle.model.specs.Closure.{Within}
use Rattle.model.proofs.Closure.{reaches-sound, reaches-complete}
use Rattle.tagset.specs.declared.TagSet.{TagSet}
use Rattle.tagset.specs.Set.{has, union_of, subset_of, size_of}
use Rattle.tagset.proofs.Laws.{union-words, subset-of-has, not-subset-tag, subset-same-size, size_mono}
use Rattle.state.specs.State.{set_at}
use Rattle.state.specs.Layout.{Fit64}
use Rattle.state.proofs.LayoutLaws.{set-fits}
use Rattle.tagstore.specs.Store.{total_of}
use Rattle.tagstore.specs.Laws.{put-length}
use Rattle.tagstore.proofs.Put.{put-beyond, put-fits}
use Rattle.propagation.specs.Pass.{carried, carried_all, new_in_all, pass, passed, new_in_passes, adds, passes_of, pass_count, sets_after, pairs_added}
use Rattle.propagation.specs.Exact.{inside-iff, given, edge-keeps, edge-length, edge-total, edge-has, passed-suc, passes-some, passes-last, sets_in-all}

-- ALL EDGES

module _ (n : ℕ) (found : List ℕ) (c t : ℕ) where
  -- one of these edges gives tag t to container c
  abbrev Gets : List (ℕ × ℕ) → Type 0
  Gets es = (a : ℕ) × (a < n) × (c < n) × ((a, c) ∈ es) × (has (set_at found a) t ≡ true)

  -- a container then has what it had, and what an edge gives it
  all-has : (es : List (ℕ × ℕ)) (ws : List ℕ) → 4 * n ≤ length ws
      → (has (set_at (carried_all n found es ws) c) t ≡ true) ↔ ((has (set_at ws c) t ≡ true) ⊎ Gets es)
  unfolding carried_all
  all-has [] ws h = (inl, ⊎_elim (λ y. y) (λ g. absurd (Memᴰ.not-nil g.3)))
  all-has ((a, b) ∷ es) ws h =
      let one = edge-has n found (a, b) ws h c t in
      let rest = all-has es (carried n found (a, b) ws) (omega (arith, edge-length n found (a, b) ws)) in (
        λ y.
            ⊎_elim
            (λ x. ⊎_elim inl
            (λ g. let p = (inside-iff n (a, b)).0 g.0 in
            let q = and_both (eqb c b) (has (set_at found a) t) g.1 in
            let r = eqb-true c b q.0 in
            inr (a, p.0, omega arith, Memᴰ.head (cc), q.1)) (one.0 x))
            (λ g. inr (g.0, g.1, g.2, Memᴰ.tail g.3, g.4)) (rest.0 y),
        ⊎_elim (λ x. rest.1 (inl (one.1 (inl x))))
            (λ g. ⊎_elim
            (λ q. let first = ap (λ (e : ℕ × ℕ). e.0) q in
            let second = ap (λ (e : ℕ × ℕ). e.1) q in
            rest.1 (inl (one.1 (inr ((inside-iff n (a, b)).1 (omega arith, omega arith), both-and (eq-eqb c b second) (cc))))))
            (λ m. rest.1 (inr (g.0, g.1, g.2, m, g.4))) (Memᴰ.cases_cons g.3)),
      )

-- FACTS THAT PASSES KEEP

module _ (n : ℕ) (P : List ℕ → Type 0) (k : (found ws : List ℕ) (a b : ℕ) → b < n → P found → P ws → P (given ws b (set_at found a))) where
  -- what each edge keeps, they keep all together
  all_keep : (found : List ℕ) → P found → (es : List (ℕ × ℕ)) (ws : List ℕ) → P ws → P (carried_all n found es ws)
  unfolding carried_all
  all_keep found f [] ws p = p
  all_keep found f (e ∷ es) ws p = all_keep found f es (carried n found e ws) (edge-keeps n found e ws P (λ l. k found ws e.0 e.1 l f p) p)

  -- so do passes
  passes-keep : (es : List (ℕ × ℕ)) (m : ℕ) (ws : List ℕ) → P ws → P (passed m n es ws)
  unfolding passed pass
  passes-keep es zero ws p = p
  passes-keep es (suc m) ws p = passes-keep es m (pass n es ws) (all_keep ws p es ws p)

module _ (n : ℕ) (es : List (ℕ × ℕ)) (ws : List ℕ) where
  -- the words stay as many
  pub passed_length : (m : ℕ) → length (passed m n es ws) ≡ length ws
  passed_length m =
      passes-keep n (λ vs. length vs ≡ length ws) (λ found vs a b l p q. put-length vs b (union_of (set_at vs b) (set_at found a)) ∙ q) es m ws refl

  -- the words past the n sets stay as they were
  pub passed-beyond : (m : ℕ) → drop (4 * n) (passed m n es ws) ≡ drop (4 * n) ws
  passed-beyond m =
      passes-keep n (λ vs. drop (4 * n) vs ≡ drop (4 * n) ws)
      (λ found vs a b l p q. put-beyond n vs b (union_of (set_at vs b) (set_at found a)) l ∙ q) es m ws refl

  -- every word has 64 bits still
  pub passed-fits : (m : ℕ) → Fit64 ws → Fit64 (passed m n es ws)
  passed-fits m =
      passes-keep n Fit64
      (λ found vs a b l p q.
      put-fits vs b (union_of (set_at vs b) (set_at found a)) (union-words (set_at vs b) (set_at found a) (set-fits vs b q) (set-fits found a p)) q) es m ws

-- ONE PASS

module _ (n : ℕ) (es : List (ℕ × ℕ)) (ws : List ℕ) (h : 4 * n ≤ length ws) where
  -- WHAT ONE PASS DOES: a container has after it what it had, and what the source of an edge to it had in the sets as the pass found them
  pub pass-has : (c t : ℕ) → c < n
      → (has (set_at (pass n es ws) c) t ≡ true)
      ↔ ((has (set_at ws c) t ≡ true) ⊎ ((a : ℕ) × (a < n) × ((a, c) ∈ es) × (has (set_at ws a) t ≡ true)))
  unfolding pass
  pass-has c t l =
      let r = all-has n ws c t es ws h in
      (λ y. ⊎_elim inl (λ g. inr (g.0, g.1, g.3, g.4)) (r.0 y), ⊎_elim (λ x. r.1 (inl x)) (λ g. r.1 (inr (g.0, g.1, l, g.2, g.3))))

  -- a container keeps its tags
  passed-keeps : (m c t : ℕ) → has (set_at ws c) t ≡ true → has (set_at (passed m n es ws) c) t ≡ true
  unfolding passed pass
  passed-keeps zero c t y = y
  passed-keeps (suc m) c t y =
      rw passed-suc ((all-has n (passed m n es ws) c t es (passed m n es ws) (omega (arith, passed_length n es ws m))).1 (inl (passed-keeps m c t y)))

  -- so its set before a pass is part of its set after it
  pass-subset : (c : ℕ) → subset_of (set_at ws c) (set_at (pass n es ws) c) ≡ true
  unfolding passed
  pass-subset c = subset-of-has (set_at ws c) (set_at (pass n es ws) c) (passed-keeps 1 c)

-- HOW MANY PAIRS

-- with all edges the pairs are more by the new tags
pub new-total : (n : ℕ) (found : List ℕ) (es : List (ℕ × ℕ)) (ws : List ℕ) → 4 * n ≤ length ws
    → total_of n ws + new_in_all n found es ws ≡ total_of n (carried_all n found es ws)
unfolding new_in_all carried_all
new-total n found [] ws h = omega arith
new-total n found (e ∷ es) ws h =
    omega (arith, edge-total n found e ws h, new-total n found es (carried n found e ws) (omega (arith, edge-length n found e ws)))

-- a set is larger than a part of it that lacks one of its tags
size-more : (a b : TagSet) (t : ℕ) → subset_of a b ≡ true → has b t ≡ true → has a t ≡ false → size_of a < size_of b
size-more a b t k p q =
    cases (ltb (size_of a) (size_of b)) (ltb-true (size_of a) (size_of b))
    (λ l. absurd
    (false≢true (sym q ∙ subset-same-size a b k (omega (arith, size_mono a b k, ltb-false (size_of a) (size_of b) l)) t ∙ p)))

module _ (ws vs : List ℕ) where
  -- one of the first n sets has a tag in vs that it has not in ws
  abbrev More : ℕ → Type 0
  More n = (c : ℕ) × (t : ℕ) × (c < n) × (has (set_at vs c) t ≡ true) × (has (set_at ws c) t ≡ false)

  -- so it is where vs has more pairs
  total-more : (n : ℕ) → total_of n ws < total_of n vs → More n
  unfolding total_of
  total-more zero l = absurd (omega arith)
  total-more (suc n) l =
      cases (subset_of (set_at vs n) (set_at ws n))
      (λ e. let m = total-more n (omega (arith, size_mono (set_at vs n) (set_at ws n) e)) in
      (m.0, m.1, omega arith, m.3, m.4))
      (λ e. let m = not-subset-tag (set_at vs n) (set_at ws n) e in
      (n, m.0, omega arith, m.1, m.2))

  module _ (k : (c : ℕ) → subset_of (set_at ws c) (set_at vs c) ≡ true) where
    -- where every set has in vs what it has in ws, vs has no fewer pairs
    total_mono : (n : ℕ) → total_of n ws ≤ total_of n vs
    unfolding total_of
    total_mono zero = omega arith
    total_mono (suc n) = omega (arith, size_mono (set_at ws n) (set_at vs n) (k n), total_mono n)

    -- and more where it is so
    more-total : (n : ℕ) → More n → total_of n ws < total_of n vs
    unfolding total_of
    more-total zero m = absurd (not-suc-le-zero m.2)
    more-total (suc n) m =
        ⊎_elim
        (λ e. let s = size-more (set_at ws m.0) (set_at vs m.0) m.1 (k m.0) m.3 m.4 in
        omega (arith, subst (λ (c : ℕ). size_of (set_at ws c) < size_of (set_at vs c)) e s, total_mono n))
        (λ l. omega (arith, size_mono (set_at ws n) (set_at vs n) (k n), more-total n (m.0, m.1, l, m.3, m.4)))
        (eq-or-lt_of_le (le_of_suc-le-suc m.2))

module _ (n : ℕ) (es : List (ℕ × ℕ)) (ws : List ℕ) (h : 4 * n ≤ length ws) where
  -- a pass adds a tag exactly if a container has one after it that it had not before
  pub adds-iff : (adds n es ws ≡ true) ↔ ((c : ℕ) × (t : ℕ) × (c < n) × (has (set_at (pass n es ws) c) t ≡ true) × (has (set_at ws c) t ≡ false))
  unfolding adds
  adds-iff = (
    λ e. total-more ws (pass n es ws) n (ltb-true (total_of n ws) (total_of n (pass n es ws)) e),
    λ m. lt-ltb (total_of n ws) (total_of n (pass n es ws)) (more-total ws (pass n es ws) (pass-subset n es ws h) n m),
  )

  -- and exactly if it counts one
  pub adds-new : adds n es ws ≡ ltb 0 (new_in_all n ws es ws)
  unfolding adds pass
  adds-new =
      let grown = new-total n ws es ws h in
      cases (ltb 0 (new_in_all n ws es ws))
      (λ e. rw e (lt-ltb (total_of n ws) (total_of n (pass n es ws)) (omega (arith, ltb-true 0 (new_in_all n ws es ws) e))))
      (λ e. rw e (le-ltb (total_of n ws) (total_of n (pass n es ws)) (omega (arith, ltb-false 0 (new_in_all n ws es ws) e))))

-- with m passes the pairs are more by the new tags
pub passes-total : (m n : ℕ) (es : List (ℕ × ℕ)) (ws : List ℕ) → 4 * n ≤ length ws → total_of n ws + new_in_passes m n es ws ≡ total_of n (passed m n es ws)
unfolding new_in_passes passed pass
passes-total zero n es ws h = omega arith
passes-total (suc m) n es ws h =
    omega (arith, new-total n ws es ws h, passes-total m n es (pass n es ws) (omega (arith, passed_length n es ws 1)))

-- THE CLOSURE

-- where a pass adds no tag, a container has the tags of each that it is reached from
closed : (n : ℕ) (es : List (ℕ × ℕ)) (ws : List ℕ) → 4 * n ≤ length ws → Within n es → adds n es ws ≡ false → (t : ℕ) {a b : ℕ}
    → ReflTransGenᴰ (λ x y. (x, y) ∈ es) a b → has (set_at ws a) t ≡ true → has (set_at ws b) t ≡ true
closed n es ws h w q t ReflTransGenᴰ.refl e = e
closed n es ws h w q t (ReflTransGenᴰ.tail {b = b} {c = c} p i) e =
    let r = w b c i in
    let after = (pass-has n es ws h c t r.1).1 (inr (b, r.0, i, closed n es ws h w q t p e)) in
    cases (has (set_at ws c) t) (λ y. y) (λ y. absurd (false≢true (sym q ∙ (adds-iff n es ws h).1 (c, t, r.1, after, y))))

module _ (n : ℕ) (es : List (ℕ × ℕ)) (ws : List ℕ) (h : 4 * n ≤ length ws) (w : Within n es) where
  -- a container had tag t that b is reached from
  abbrev Source : ℕ → ℕ → Type 0
  Source b t = (a : ℕ) × (a < n) × (reaches n es a b ≡ true) × (has (set_at ws a) t ≡ true)

  -- the words have n sets after any number of passes
  room : (m : ℕ) → 4 * n ≤ length (passed m n es ws)
  room m = omega (arith, passed_length n es ws m)

  -- what is held after any number of passes has a source
  least : (m b t : ℕ) → b < n → has (set_at (passed m n es ws) b) t ≡ true → Source b t
  unfolding passed
  least zero b t l e = (b, l, reaches-complete n es w l ReflTransGenᴰ.refl, e)
  least (suc m) b t l e =
      ⊎_elim (least m b t l)
      (λ g. let s = least m g.0 t g.1 g.3 in
      (s.0, s.1, reaches-complete n es w s.1 (ReflTransGenᴰ.tail (reaches-sound n es s.0 g.0 s.2) g.2), s.3))
      ((pass-has n es (passed m n es ws) (room m) b t l).0 (rw passed-suc at e))

  -- what has a source is held after the last pass
  reached : (p : ℕ) → p ≡ passes_of n es ws → (b t : ℕ) → b < n → Source b t → has (set_at (passed p n es ws) b) t ≡ true
  reached zero e b t l s = absurd (omega (arith, e, passes-some n es ws))
  reached (suc m) e b t l s =
      rw passed-suc
      ((pass-has n es (passed m n es ws) (room m) b t l).1
      (inl (closed n es (passed m n es ws) (room m) w (passes-last n es ws m (omega (arith, e))) t (reaches-sound n es s.0 b s.2)
      (passed-keeps n es ws h m s.0 t s.3))))

  -- THE MAIN LAW: after the passes a container has a tag exactly if a container had it that this one is reached from
  pub exact : (b t : ℕ) → b < n
      → (has (set_at (passed (passes_of n es ws) n es ws) b) t ≡ true) ↔ ((a : ℕ) × (a < n) × (reaches n es a b ≡ true) × (has (set_at ws a) t ≡ true))
  exact b t l = (least (passes_of n es ws) b t l, reached (passes_of n es ws) refl b t l)

-- ALONG FLOWS

module _ (n : ℕ) (fs : List Flow) (ws : List ℕ) (l : n ≤ 256) (h : 4 * n ≤ length ws) where
  -- the pairs added are those that the sets have more
  pub pairs-total : total_of n ws + pairs_added n fs ws ≡ total_of n (sets_after n fs ws)
  unfolding sets_after pairs_added
  pairs-total = rw sets_in-all (passes-total (pass_count n fs ws) n (edges_of fs) ws h)
