-- The pieces of a text: what is left behind each of them, and how long they are. Assumes nothing.
use Rattle.std.specs.Prelude.{◌≡◌, Bool, true, false, ℕ, zero, suc, ◌+◌, ◌-◌, ◌*◌, ◌≤◌, ◌<◌, length, get_or, take, drop}
use Rattle.std.proofs.Math.Path.{refl, ap}
use Rattle.std.proofs.Common.{sym, ◌∙◌, add-one, arith, length-append, drop_of_length-le, drop-cons, get_or-take, take_at}
use mathlib.Core.List.{List, [], ◌∷◌, ◌++◌, append-nil}
use borrow.Table.Steps.{cases}
use Rattle.decimal.specs.Decimal.{decimal_of}
use Rattle.decimal.proofs.Laws.{decimal-3}
use Rattle.tagset.specs.declared.TagSet.{TagSet}
use Rattle.tagset.specs.Set.{has, size_of}
use Rattle.tagset.proofs.Laws.{size-le}
use Rattle.state.specs.State.{set_at}
use Rattle.ranking.specs.Ranking.{ranking_of, rank_into}
use Rattle.ranking.specs.Sorted.{get_or-member}
use Rattle.ranking.specs.Laws.{ranking-length, ranking-members, rank-into-done}
use Rattle.tallytext.specs.Text.{those, spaced, space, tags_rising, line_of, lines_of}
use Rattle.tallytext.specs.Pieces.{tags_from}

module _ (i k : ℕ) (p : ℕ → Bool) where
  -- a number that passes the test comes first
  pub those-in : p i ≡ true → those i (suc k) p ≡ i ∷ those (suc i) k p
  unfolding those
  those-in e = rw (e, those) refl

  -- and one that does not is left out
  pub those-out : p i ≡ false → those i (suc k) p ≡ those (suc i) k p
  unfolding those
  those-out e = rw (e, those) refl

-- one number after a space
pub spaced-one : (v : ℕ) → spaced (v ∷ []) ≡ space ∷ decimal_of v
unfolding spaced
spaced-one v = append-nil (space ∷ decimal_of v)

module _ (s : TagSet) (t : ℕ) (h : t < 256) where
  -- one tag fewer is left
  one_less : 256 - t ≡ suc (256 - (t + 1))
  one_less = omega arith

  -- from the next on
  next-tag : suc t ≡ t + 1
  next-tag = omega arith

  -- a tag that the set has, and those behind it
  pub tag_in : has s t ≡ true → tags_from s t ≡ (space ∷ decimal_of t) ++ tags_from s (t + 1)
  unfolding spaced
  tag_in e =
      ap (λ (k : ℕ). spaced (those t k (has s))) one_less
      ∙ ap spaced (those-in t (256 - (t + 1)) (has s) e)
      ∙ ap (λ (u : ℕ). (space ∷ decimal_of t) ++ spaced (those u (256 - (t + 1)) (has s))) next-tag

  -- a tag that it has not
  pub tag-out : has s t ≡ false → tags_from s t ≡ tags_from s (t + 1)
  tag-out e =
      ap (λ (k : ℕ). spaced (those t k (has s))) one_less
      ∙ ap spaced (those-out t (256 - (t + 1)) (has s) e)
      ∙ ap (λ (u : ℕ). spaced (those u (256 - (t + 1)) (has s))) next-tag

-- behind the last tag there is none
pub tags-end : (s : TagSet) (t : ℕ) → 256 ≤ t → tags_from s t ≡ []
unfolding spaced those
tags-end s t h = let e : 256 - t ≡ 0 = omega arith in rw e refl

module _ (cs ws : List ℕ) (i : ℕ) where
  -- the line of the i-th container, and those behind it
  pub line-next : i < length cs → lines_of (drop i cs) ws ≡ line_of (get_or cs i 0) (set_at ws (get_or cs i 0)) ++ lines_of (drop (i + 1) cs) ws
  unfolding lines_of
  line-next h =
      ap (λ (l : List ℕ). lines_of l ws) (drop-cons cs i 0 h)
      ∙ ap (λ (k : ℕ). line_of (get_or cs i 0) (set_at ws (get_or cs i 0)) ++ lines_of (drop k cs) ws) (sym (add-one i))

  -- behind the last there is none
  pub lines_end : length cs ≤ i → lines_of (drop i cs) ws ≡ []
  unfolding lines_of
  lines_end h = ap (λ (l : List ℕ). lines_of l ws) (drop_of_length-le cs h)

-- HOW LONG

-- k numbers below 1000, each after a space, take at most four bytes each
those-length : (i k : ℕ) (p : ℕ → Bool) → i + k ≤ 1000 → length (spaced (those i k p)) ≤ 4 * k
unfolding spaced those
those-length i zero p h = omega arith
those-length i (suc k) p h =
    let rest = those-length (suc i) k p (omega arith) in
    cases (p i)
    (λ e. rw (those-in i k p e) (omega (arith, rest, length-append (space ∷ decimal_of i) (spaced (those (suc i) k p)), decimal-3 i (omega arith))))
    (λ e. rw (those-out i k p e) (omega (arith, rest)))

-- the tags of a set
pub tags-length : (s : TagSet) → length (spaced (tags_rising s)) ≤ 1024
tags-length s = those-length 0 256 (has s) (omega arith)

-- its size
pub size-length : (s : TagSet) → length (decimal_of (size_of s)) ≤ 3
size-length s = decimal-3 (size_of s) (omega (arith, size-le s))

-- a line
pub line-length : (c : ℕ) (s : TagSet) → c < 1000 → length (line_of c s) ≤ 1032
unfolding line_of spaced
line-length c s h =
    simp length-append (omega (arith, decimal-3 c h, size-length s, tags-length s))

-- the lines of containers
pub lines-length : (cs ws : List ℕ) → ((k : ℕ) → k < length cs → get_or cs k 0 < 1000) → length (lines_of cs ws) ≤ 1032 * length cs
unfolding lines_of
lines-length [] ws h = omega arith
lines-length (c ∷ cs) ws h =
    simp length-append (omega (arith, line-length c (set_at ws c) (h 0 (omega arith)), lines-length cs ws (λ k l. h (suc k) (omega arith))))

-- THE ORDER OF THE LINES

-- a container that is ranked is one of them
pub ranking-below : (n : ℕ) (ws : List ℕ) (k : ℕ) → k < n → get_or (ranking_of n ws) k 0 < n
ranking-below n ws k h = (ranking-members n ws (get_or (ranking_of n ws) k 0)).0 (get_or-member (ranking_of n ws) k (rw ranking-length h))

module _ (n : ℕ) (ws out : List ℕ) {order : List ℕ} (h : n ≤ 256) (w : 4 * n ≤ length ws) (l : n ≤ length out) (e : order ≡ rank_into n ws out) where
  -- where all of this is so, the ranking was written
  written : order ≡ ranking_of n ws ++ drop n out
  written = e ∙ rank-into-done n ws out h w l

  -- it is the first n places
  pub order-first : take n order ≡ ranking_of n ws
  order-first = ap (take n) written ∙ take_at (ranking_of n ws) (drop n out) n (ranking-length n ws)

  -- and each of them has a container
  pub order_below : (k : ℕ) → k < n → get_or order k 0 < n
  order_below k i = rw (sym (get_or-take n order k 0 i), order-first) (ranking-below n ws k i)
