-- What the functions of propagation need: an edge that changes nothing, and what is known of edges carried and of
-- passes made. How these grow flow by flow and pass by pass is in proofs/Turns.antt. Assumes nothing.
use Rattle.std.specs.Prelude.{◌≡◌, refl, Bool, true, false, ◌&&◌, not, cond, ◌⊎◌, ◌≢◌, ℕ, ◌+◌, ◌≤◌, ◌<◌, length, set}
use Rattle.std.proofs.Common.{sym, ap, ◌∙◌, ⊎_elim, arith}
use Rattle.std.proofs.lemmas.Bool.{not-false}
use mathlib.Core.List.{List, []}
use borrow.Table.Steps.{cases}
use Rattle.model.specs.declared.Flow.{Flow}
use Rattle.model.specs.Model.{edges, edges_of}
use Rattle.tagset.proofs.Below.{none-counted}
use Rattle.tagset.specs.Set.{count_below, has, union_of, subset_of, size_of}
use Rattle.tagset.proofs.Laws.{has-lt, subset-of-has, union-absorbs}
use Rattle.state.specs.State.{set_at}
use Rattle.state.specs.Layout.{Fit64}
use Rattle.state.proofs.LayoutLaws.{set-fits}
use Rattle.tagstore.specs.Store.{put_set}
use Rattle.tagstore.proofs.Put.{put_same, put-other-set}
use Rattle.propagation.specs.Pass.{inside, carried, new_tags, carried_all, new_in_all, passed, new_in_passes, passes_of}
use Rattle.propagation.specs.Found.{Found, found-wider}
use Rattle.propagation.specs.Listed.{Listed, found-more}
use Rattle.propagation.specs.Exact.{inside-iff, edge-inside, edge-outside, passes-some}

-- ONE EDGE

-- an edge with an end of n or more does nothing
pub edge-past : (n : ℕ) (found : List ℕ) (e : ℕ × ℕ) (ws : List ℕ) → (n ≤ e.0) ⊎ (n ≤ e.1) → (ws ≡ carried n found e ws) × (0 ≡ new_tags n found e ws)
edge-past n found e ws past =
    cases (inside n e) (λ q. let p = (inside-iff n e).0 q in absurd (⊎_elim (λ l. omega arith) (λ l. omega arith) past))
    (λ q. let none = edge-outside n found e ws q in (sym none.0, sym none.1))

-- nor does one that is inside, where its destination has what its source had
pub edge_same : (n : ℕ) (found : List ℕ) (e : ℕ × ℕ) (ws : List ℕ) → inside n e ≡ true → Fit64 found → Fit64 ws
    → subset_of (set_at found e.0) (set_at ws e.1) ≡ true → (ws ≡ carried n found e ws) × (0 ≡ new_tags n found e ws)
edge_same n found e ws q ff fw part =
    let same = union-absorbs (set_at ws e.1) (set_at found e.0) (set-fits ws e.1 fw) (set-fits found e.0 ff) part in
    let put = edge-inside n found e ws q in
    (sym (put.0 ∙ ap (put_set ws e.1) same ∙ put_same ws e.1), omega (arith, put.1, ap size_of same))

-- one that adds no tag changes nothing
pub edge_none : (n : ℕ) (found : List ℕ) (e : ℕ × ℕ) (ws : List ℕ) → Fit64 found → Fit64 ws → new_tags n found e ws ≡ 0 → carried n found e ws ≡ ws
unfolding new_tags
edge_none n found e ws ff fw z =
    cases (inside n e) (λ q. sym (edge_same n found e ws q ff fw (subset-of-has (set_at found e.0) (set_at ws e.1) (λ t h. there t h (none q t h)))).0)
    (λ q. (edge-outside n found e ws q).0)
  where
    -- a tag of the source that the destination lacks
    lacks : ℕ → Bool
    lacks t = has (set_at found e.0) t && not (has (set_at ws e.1) t)

    none : inside n e ≡ true → (t : ℕ) → has (set_at found e.0) t ≡ true → lacks t ≡ false
    none q t h = none-counted 256 lacks (sym (ap (λ (b : Bool). cond b (count_below 256 lacks) 0) q) ∙ z) t (has-lt (set_at found e.0) t h)

    there : (t : ℕ) → has (set_at found e.0) t ≡ true → lacks t ≡ false → has (set_at ws e.1) t ≡ true
    there t h l = not-false (has (set_at ws e.1) t) (sym (ap (λ (b : Bool). b && not (has (set_at ws e.1) t)) h) ∙ l)

-- and every edge leaves the sets of containers other than its destination
edge_other : (n : ℕ) (found : List ℕ) (e : ℕ × ℕ) (ws : List ℕ) (a : ℕ) → a ≢ e.1 → set_at (carried n found e ws) a ≡ set_at ws a
unfolding carried
edge_other n found e ws a h =
    cases (inside n e) (λ q. rw q (put-other-set ws e.1 (union_of (set_at ws e.1) (set_at found e.0)) a h)) (λ q. rw q)

-- EDGES

-- carried along these edges the words ws became ws', and `new` tags were new
pub record Carried (n : ℕ) (found : List ℕ) (es : List (ℕ × ℕ)) (ws ws' : List ℕ) (new : ℕ) : Type 0 where
  pub sets : ws' ≡ carried_all n found es ws
  pub count : new ≡ new_in_all n found es ws

-- along the edges of no flow
pub carried_none : (n : ℕ) (found ws : List ℕ) → Carried n found (edges_of []) ws ws 0
unfolding carried_all new_in_all edges_of
carried_none n found ws = record { sets = refl; count = refl }

-- a flow leaves the sets of containers other than its destination
carried-others : {n : ℕ} {found ws ws' : List ℕ} (f : Flow) {new : ℕ} → Carried n found (edges f) ws ws' new
    → (a : ℕ) → a ≢ f.to → set_at ws' a ≡ set_at ws a
unfolding carried_all
carried-others {n} {found} {ws} f made a h =
    ap (λ (l : List ℕ). set_at l a) made.sets ∙ edge_other n found (f.from, f.to) ws a h

-- the sets found are then those of the words but for a list in which its destination stands
pub found-listed : {n : ℕ} (changed : List ℕ) (m : ℕ) {found ws ws' : List ℕ} (f : Flow) {new : ℕ} → m < length changed
    → Carried n found (edges f) ws ws' new → Found n (Listed changed 0 m) found ws
    → Found n (Listed (set changed m f.to) 0 (m + 1)) found ws'
found-listed changed m f r made now = found-more changed m f.to r now (carried-others f made)

-- or for any containers among which it is
pub found-changed : {n : ℕ} {Out Out' : ℕ → Type 0} {found ws ws' : List ℕ} (f : Flow) {new : ℕ}
    → Carried n found (edges f) ws ws' new → Out' f.to → ((a : ℕ) → Out a → Out' a) → Found n Out found ws
    → Found n Out' found ws'
found-changed f made here wider now = found-wider f.to here wider now (carried-others f made)

-- THE PASSES

-- so many passes were made from the sets `first` on, and they are not all: the words became ws, and `gain` tags were new
pub record Underway (n : ℕ) (es : List (ℕ × ℕ)) (first : List ℕ) (passes : ℕ) (ws : List ℕ) (gain : ℕ) : Type 0 where
  pub fewer : passes < passes_of n es first
  pub sets : ws ≡ passed passes n es first
  pub count : gain ≡ new_in_passes passes n es first

-- none made
pub none_made : (n : ℕ) (es : List (ℕ × ℕ)) (ws : List ℕ) → Underway n es ws 0 ws 0
unfolding passed new_in_passes
none_made n es ws = record { fewer = passes-some n es ws; sets = refl; count = refl }
