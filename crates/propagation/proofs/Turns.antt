-- What `make_passes` needs of passes: edges carried flow by flow, one pass made after the others. Assumes nothing.
use Rattle.std.specs.Prelude.{◌≡◌, refl, ℕ, zero, suc, ◌+◌, ◌*◌, ◌≤◌, ◌<◌, ltb, length, get_or, take}
use Rattle.std.proofs.Common.{sym, ap, ◌∙◌, not-suc-le-zero, le_of_suc-le-suc, add-one, arith, lt-ltb, le-ltb}
use Rattle.std.proofs.lemmas.Bool.{false≢true}
use Rattle.std.proofs.Math.Logic.{by_cases}
use mathlib.Core.List.{List, [], ◌∷◌, ◌++◌, append_assoc, append-nil}
use Rattle.std.proofs.Math.Decide.{dec_lt}
use borrow.Table.Steps.{cases}
use Rattle.model.specs.declared.Flow.{Flow}
use Rattle.model.specs.Model.{edges, edges_of}
use Rattle.state.specs.State.{set_at}
use Rattle.tagstore.specs.Laws.{total-le}
use Rattle.propagation.specs.Pass.{inside, carried, new_tags, carried_all, new_in_all, pass, passed, new_in_passes, adds, passes_of}
use Rattle.propagation.specs.Exact.{inside-iff, passed-suc, passes-add, passes-last}
use Rattle.propagation.specs.Turns.{Carried, Underway}
use Rattle.propagation.proofs.Exact.{new-total, passed_length, adds-new, passes-total}

-- EDGES

-- the new tags are no more than n sets have room for
pub carried-fits : {n : ℕ} {found : List ℕ} {es : List (ℕ × ℕ)} {ws ws' : List ℕ} {new : ℕ} → 4 * n ≤ length ws → Carried n found es ws ws' new → new ≤ 256 * n
carried-fits {n} {found} {es} {ws} h p = omega (arith, new-total n found es ws h, total-le n (carried_all n found es ws))

-- along some edges and then others
carried_on : (n : ℕ) (found : List ℕ) (es ds : List (ℕ × ℕ)) (ws : List ℕ)
    → (carried_all n found (es ++ ds) ws ≡ carried_all n found ds (carried_all n found es ws))
    × (new_in_all n found (es ++ ds) ws ≡ new_in_all n found es ws + new_in_all n found ds (carried_all n found es ws))
unfolding carried_all new_in_all
carried_on n found [] ds ws = (refl, omega arith)
carried_on n found (e ∷ es) ds ws =
    let rest = carried_on n found es ds (carried n found e ws) in
    (rest.0, omega (arith, rest.1))

module _ (n : ℕ) (found sets : List ℕ) (same : (k : ℕ) → k < n → set_at found k ≡ set_at sets k) where
  -- only the first n of the sets found matter to an edge
  edge-cong : (e : ℕ × ℕ) (ws : List ℕ) → (carried n found e ws ≡ carried n sets e ws) × (new_tags n found e ws ≡ new_tags n sets e ws)
  unfolding carried new_tags
  edge-cong e ws = cases (inside n e) (λ q. let s = same e.0 ((inside-iff n e).0 q).0 in (simp s, simp s)) (λ q. (rw q, rw q))

  -- nor do others to all of them
  found-cong : (es : List (ℕ × ℕ)) (ws : List ℕ)
      → (carried_all n found es ws ≡ carried_all n sets es ws) × (new_in_all n found es ws ≡ new_in_all n sets es ws)
  unfolding carried_all new_in_all
  found-cong [] ws = (refl, refl)
  found-cong (e ∷ es) ws =
      let one = edge-cong e ws in
      let rest = found-cong es (carried n sets e ws) in
      (rw one.0 rest.0, rw one.0 (omega (arith, one.1, rest.1)))

-- the edges of one flow more
edges_more : (fs : List Flow) (k : ℕ) (d : Flow) → k < length fs → edges_of (take (k + 1) fs) ≡ edges_of (take k fs) ++ edges (get_or fs k d)
unfolding edges_of
edges_more fs k d h = ap (λ (j : ℕ). edges_of (take j fs)) (add-one k) ∙ more fs k h
  where
    more : (fs : List Flow) (k : ℕ) → k < length fs → edges_of (take (suc k) fs) ≡ edges_of (take k fs) ++ edges (get_or fs k d)
    more [] k h = absurd (not-suc-le-zero h)
    more (f ∷ fs) zero h = append-nil (edges f)
    more (f ∷ fs) (suc k) h =
        ap (λ (es : List (ℕ × ℕ)). edges f ++ es) (more fs k (le_of_suc-le-suc h)) ∙ sym (append_assoc (edges f) (edges_of (take k fs)) (edges (get_or fs k d)))

-- carried along the edges of k flows from the sets that the pass began with, and then along those of one flow more
pub flow-carried : {n : ℕ} {ws₀ found ws ws' : List ℕ} (fs : List Flow) (k : ℕ) (d : Flow) {added new : ℕ} → k < length fs
    → ((a : ℕ) → a < n → set_at found a ≡ set_at ws₀ a) → Carried n ws₀ (edges_of (take k fs)) ws₀ ws added → Carried n found (edges (get_or fs k d)) ws ws' new
    → Carried n ws₀ (edges_of (take (k + 1) fs)) ws₀ ws' (added + new)
flow-carried {n} {ws₀} {found} {ws} fs k d h copy before more =
    let on = carried_on n ws₀ (edges_of (take k fs)) (edges (get_or fs k d)) ws₀ in
    let same = found-cong n found ws₀ copy (edges (get_or fs k d)) ws in record {
      sets = rw (edges_more fs k d h, on.0, ← before.sets) (more.sets ∙ same.0);
      count = rw (edges_more fs k d h, on.1, ← before.sets) (omega (arith, same.1));
    }

-- THE PASSES

-- the tags that are new in one pass more are those of the others and its own
new-suc : (m n : ℕ) (es : List (ℕ × ℕ)) (ws : List ℕ)
    → new_in_passes (suc m) n es ws ≡ new_in_passes m n es ws + new_in_all n (passed m n es ws) es (passed m n es ws)
unfolding new_in_passes passed
new-suc zero n es ws = omega arith
new-suc (suc m) n es ws = omega (arith, new-suc m n es (pass n es ws))

module _ {n : ℕ} {es : List (ℕ × ℕ)} {first ws ws' : List ℕ} {passes gain added : ℕ} (h : 4 * n ≤ length ws)
    (u : Underway n es first passes ws gain) (made : Carried n ws es ws ws' added) where
  -- the sets and the gain with this pass
  with_it : (ws' ≡ passed (passes + 1) n es first) × (gain + added ≡ new_in_passes (passes + 1) n es first)
  unfolding pass
  with_it = (rw (add-one, passed-suc, ← u.sets) made.sets, rw (add-one, new-suc, ← u.sets) (omega arith))

  -- it adds a tag exactly if it counts one
  added-adds : adds n es (passed passes n es first) ≡ ltb 0 added
  added-adds = rw (← u.sets) (adds-new n es ws h ∙ ap (ltb 0) (sym made.count))

  -- the gain is no more than n sets have room for
  pub gain-fits : gain + added ≤ 256 * n
  gain-fits =
      let room : 4 * n ≤ length first = omega (arith, ap length u.sets, passed_length n es first passes) in
      omega (arith, with_it.1, passes-total (passes + 1) n es first room, total-le n (passed (passes + 1) n es first))

  -- where it counts a tag, it is not the last
  pub one-made : 0 < added → Underway n es first (passes + 1) ws' (gain + added)
  one-made l = record {
    fewer = by_cases (dec_lt (passes + 1) (passes_of n es first)) (λ p. p)
        (λ p. absurd (false≢true (sym (passes-last n es first passes (omega arith)) ∙ added-adds ∙ lt-ltb 0 added l)));
    sets = with_it.0;
    count = with_it.1;
  }

  -- where it counts none, it is
  pub all_made : added ≡ 0
      → (ws' ≡ passed (passes_of n es first) n es first)
      × ((passes + 1 ≡ passes_of n es first) × (gain + added ≡ new_in_passes (passes_of n es first) n es first))
  all_made e =
      let last : passes + 1 ≡ passes_of n es first =
      by_cases (dec_lt (passes + 1) (passes_of n es first))
      (λ p. absurd (false≢true (sym (added-adds ∙ le-ltb 0 added (omega arith)) ∙ passes-add n es first passes p))) (λ p. omega arith) in
      (rw (← last) with_it.0, (last, rw (← last) with_it.1))
