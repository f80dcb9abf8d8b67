-- Laws of one set replaced in a list of words: which words change, which sets, how many pairs there are; and own tags put one set a turn. Assumes nothing.
use Rattle.std.specs.Prelude.{◌≡◌, refl, ◌≢◌, ℕ, zero, suc, ◌+◌, ◌*◌, ◌/◌, ◌%◌, ◌^◌, ◌≤◌, ◌<◌, ◌++◌, length, get_or, set, drop}
use Rattle.std.proofs.Common.{sym, ap₂, ◌∙◌, ⊎_elim, le_of_suc-le-suc, eq-or-lt_of_le, not-suc-le-zero, arith, drop-set-lt}
use Rattle.std.proofs.Math.Path.{ap}
use mathlib.Core.List.{List, [], ◌∷◌}
use Rattle.std.proofs.Math.ListN.{length-set}
use Rattle.std.proofs.Math.Seq.{get_or-set_same, get_or-set_other}
use Rattle.std.proofs.lemmas.List.{set-get_or}
use Rattle.tagset.specs.declared.TagSet.{TagSet}
use Rattle.tagset.specs.Set.{bit_at, word_at, has, has_w, size_of, IsWords}
use Rattle.tagset.proofs.Word.{each_word}
use Rattle.tagset.proofs.Below.{count-cong}
use Rattle.model.specs.Reach.{tabulate}
use Rattle.state.specs.State.{set_at, with_sets}
use Rattle.state.specs.Layout.{Fit64}
use Rattle.tagstore.specs.Store.{put_set, total_of}

-- the words of a set, one by one
abbrev word : TagSet → ℕ → ℕ
word s j = get_or s.words j 0

-- a word outside the set is as it was
pub put_other : (ws : List ℕ) (k : ℕ) (s : TagSet) (i : ℕ) → i ≢ 4 * k → i ≢ 4 * k + 1 → i ≢ 4 * k + 2 → i ≢ 4 * k + 3
    → get_or (put_set ws k s) i 0 ≡ get_or ws i 0
unfolding put_set
put_other ws k s i n0 n1 n2 n3 =
    get_or-set_other (set (set (set ws (4 * k) (word s 0)) (4 * k + 1) (word s 1)) (4 * k + 2) (word s 2)) (4 * k + 3) i (word s 3) 0 n3
    ∙ get_or-set_other (set (set ws (4 * k) (word s 0)) (4 * k + 1) (word s 1)) (4 * k + 2) i (word s 2) 0 n2
    ∙ get_or-set_other (set ws (4 * k) (word s 0)) (4 * k + 1) i (word s 1) 0 n1 ∙ get_or-set_other ws (4 * k) i (word s 0) 0 n0

-- the words of the set are those that it was given
module _ (ws : List ℕ) (k : ℕ) (s : TagSet) (h : 4 * k + 4 ≤ length ws) where
  put-0 : get_or (put_set ws k s) (4 * k) 0 ≡ word s 0
  unfolding put_set
  put-0 =
      get_or-set_other (set (set (set ws (4 * k) (word s 0)) (4 * k + 1) (word s 1)) (4 * k + 2) (word s 2)) (4 * k + 3) (4 * k) (word s 3) 0 (λ e. omega (arith, e))
      ∙ get_or-set_other (set (set ws (4 * k) (word s 0)) (4 * k + 1) (word s 1)) (4 * k + 2) (4 * k) (word s 2) 0 (λ e. omega (arith, e))
      ∙ get_or-set_other (set ws (4 * k) (word s 0)) (4 * k + 1) (4 * k) (word s 1) 0 (λ e. omega (arith, e))
      ∙ get_or-set_same ws (4 * k) (word s 0) 0 (omega (arith, h))

  put_1 : get_or (put_set ws k s) (4 * k + 1) 0 ≡ word s 1
  unfolding put_set
  put_1 =
      get_or-set_other (set (set (set ws (4 * k) (word s 0)) (4 * k + 1) (word s 1)) (4 * k + 2) (word s 2)) (4 * k + 3) (4 * k + 1) (word s 3) 0 (λ e. omega (arith, e))
      ∙ get_or-set_other (set (set ws (4 * k) (word s 0)) (4 * k + 1) (word s 1)) (4 * k + 2) (4 * k + 1) (word s 2) 0 (λ e. omega (arith, e))
      ∙ get_or-set_same (set ws (4 * k) (word s 0)) (4 * k + 1) (word s 1) 0 (simp length-set (omega (arith, h)))

  put_2 : get_or (put_set ws k s) (4 * k + 2) 0 ≡ word s 2
  unfolding put_set
  put_2 =
      get_or-set_other (set (set (set ws (4 * k) (word s 0)) (4 * k + 1) (word s 1)) (4 * k + 2) (word s 2)) (4 * k + 3) (4 * k + 2) (word s 3) 0 (λ e. omega (arith, e))
      ∙ get_or-set_same (set (set ws (4 * k) (word s 0)) (4 * k + 1) (word s 1)) (4 * k + 2) (word s 2) 0 (simp length-set (omega (arith, h)))

  put_3 : get_or (put_set ws k s) (4 * k + 3) 0 ≡ word s 3
  unfolding put_set
  put_3 =
      get_or-set_same (set (set (set ws (4 * k) (word s 0)) (4 * k + 1) (word s 1)) (4 * k + 2) (word s 2)) (4 * k + 3) (word s 3) 0 (simp length-set (omega (arith, h)))

  -- so it has the tags that it was given
  pub put_has : (t : ℕ) → has (set_at (put_set ws k s) k) t ≡ has s t
  unfolding has_w set_at
  put_has t =
      ap (λ (w : ℕ). bit_at w (t % 64))
      (each_word (λ q. word_at (set_at (put_set ws k s) k).words q ≡ word_at s.words q) put-0 put_1 put_2 put_3 (λ q. refl) (t / 64))

  -- and is the set of the words that it was given
  pub put-words : set_at (put_set ws k s) k ≡ record { words = word s 0 ∷ word s 1 ∷ word s 2 ∷ word s 3 ∷ [] }
  unfolding set_at
  put-words = λ i. record { words = put-0 i ∷ put_1 i ∷ put_2 i ∷ put_3 i ∷ [] }

-- the other sets are as they were
pub put-other-set : (ws : List ℕ) (k : ℕ) (s : TagSet) (j : ℕ) → j ≢ k → set_at (put_set ws k s) j ≡ set_at ws j
unfolding set_at
put-other-set ws k s j n =
    let a = put_other ws k s (4 * j) (λ e. n (omega (arith, e))) (λ e. omega (arith, e)) (λ e. omega (arith, e)) (λ e. omega (arith, e)) in
    let b = put_other ws k s (4 * j + 1) (λ e. omega (arith, e)) (λ e. n (omega (arith, e))) (λ e. omega (arith, e)) (λ e. omega (arith, e)) in
    let c = put_other ws k s (4 * j + 2) (λ e. omega (arith, e)) (λ e. omega (arith, e)) (λ e. n (omega (arith, e))) (λ e. omega (arith, e)) in
    let d = put_other ws k s (4 * j + 3) (λ e. omega (arith, e)) (λ e. omega (arith, e)) (λ e. omega (arith, e)) (λ e. n (omega (arith, e))) in
    cc

-- the words past n sets are as they were
pub put-beyond : (n : ℕ) (ws : List ℕ) (k : ℕ) (s : TagSet) → k < n → drop (4 * n) (put_set ws k s) ≡ drop (4 * n) ws
unfolding put_set
put-beyond n ws k s h =
    drop-set-lt (4 * n) (set (set (set ws (4 * k) (word s 0)) (4 * k + 1) (word s 1)) (4 * k + 2) (word s 2)) (4 * k + 3) (word s 3) (omega (arith, h))
    ∙ drop-set-lt (4 * n) (set (set ws (4 * k) (word s 0)) (4 * k + 1) (word s 1)) (4 * k + 2) (word s 2) (omega (arith, h))
    ∙ drop-set-lt (4 * n) (set ws (4 * k) (word s 0)) (4 * k + 1) (word s 1) (omega (arith, h)) ∙ drop-set-lt (4 * n) ws (4 * k) (word s 0) (omega (arith, h))

-- a set put where it stands changes nothing
pub put_same : (ws : List ℕ) (k : ℕ) → put_set ws k (set_at ws k) ≡ ws
unfolding put_set set_at
put_same ws k =
    rw (set-get_or ws (4 * k) 0, set-get_or ws (4 * k + 1) 0, set-get_or ws (4 * k + 2) 0, set-get_or ws (4 * k + 3) 0) refl

-- where every word has 64 bits, so it is after such a set is put
pub put-fits : (ws : List ℕ) (k : ℕ) (s : TagSet) → IsWords s → Fit64 ws → Fit64 (put_set ws k s)
unfolding put_set
put-fits ws k s w h =
    one (set (set (set ws (4 * k) (word s 0)) (4 * k + 1) (word s 1)) (4 * k + 2) (word s 2)) (4 * k + 3) (word s 3) (w.fits 3)
    (one (set (set ws (4 * k) (word s 0)) (4 * k + 1) (word s 1)) (4 * k + 2) (word s 2) (w.fits 2)
    (one (set ws (4 * k) (word s 0)) (4 * k + 1) (word s 1) (w.fits 1) (one ws (4 * k) (word s 0) (w.fits 0) h)))
  where
    one : (l : List ℕ) (i x : ℕ) → x < 2 ^ 64 → Fit64 l → Fit64 (set l i x)
    one [] i x p q j = q j
    one (y ∷ l) zero x p q zero = p
    one (y ∷ l) zero x p q (suc j) = q (suc j)
    one (y ∷ l) (suc i) x p q zero = q zero
    one (y ∷ l) (suc i) x p q (suc j) = one l i x p (λ m. q (suc m)) j

-- HOW MANY PAIRS

-- a set past the first n is none of them
total-past : (n : ℕ) (ws : List ℕ) (k : ℕ) (s : TagSet) → n ≤ k → total_of n (put_set ws k s) ≡ total_of n ws
unfolding total_of
total-past zero ws k s h = refl
total-past (suc n) ws k s h =
    ap₂ (λ (x y : ℕ). x + y) (ap size_of (put-other-set ws k s n (λ e. omega (arith, e, h)))) (total-past n ws k s (omega (arith, h)))

-- with one of them replaced the total changes by the difference of the sizes
pub total-put : (n : ℕ) (ws : List ℕ) (k : ℕ) (s : TagSet) → k < n → 4 * n ≤ length ws → total_of n (put_set ws k s) + size_of (set_at ws k) ≡ total_of n ws + size_of s
unfolding total_of
total-put zero ws k s h g = absurd (not-suc-le-zero h)
total-put (suc n) ws k s h g =
    ⊎_elim here (λ p. there p (total-put n ws k s p (omega (arith, g)))) (eq-or-lt_of_le (le_of_suc-le-suc h))
  where
    same_size : size_of (set_at (put_set ws k s) k) ≡ size_of s
    same_size = unfold size_of in count-cong 256 (has (set_at (put_set ws k s) k)) (has s) (λ t l. put_has ws k s (omega (arith, h, g)) t)

    here : k ≡ n → total_of (suc n) (put_set ws k s) + size_of (set_at ws k) ≡ total_of (suc n) ws + size_of s
    here e =
        let a : size_of (set_at (put_set ws k s) n) ≡ size_of s = ap (λ (j : ℕ). size_of (set_at (put_set ws k s) j)) (sym e) ∙ same_size in
        let b : size_of (set_at ws k) ≡ size_of (set_at ws n) = ap (λ (j : ℕ). size_of (set_at ws j)) e in
        omega (arith, a, b, total-past n ws k s (omega (arith, e)))

    there : k < n → total_of n (put_set ws k s) + size_of (set_at ws k) ≡ total_of n ws + size_of s → total_of (suc n) (put_set ws k s) + size_of (set_at ws k) ≡ total_of (suc n) ws + size_of s
    there p ih =
        let a : size_of (set_at (put_set ws k s) n) ≡ size_of (set_at ws n) = ap size_of (put-other-set ws k s n (λ e. omega (arith, e, p))) in
        omega (arith, a, ih)

-- OWN TAGS

-- one word more
word_more : (w : ℕ → ℕ) (ws : List ℕ) (i : ℕ) → i < length ws → set (tabulate i w ++ drop i ws) i (w i) ≡ tabulate (suc i) w ++ drop (suc i) ws
unfolding tabulate
word_more w [] i h = absurd (not-suc-le-zero h)
word_more w (x ∷ ws) zero h = refl
word_more w (x ∷ ws) (suc i) h = ap (λ (l : List ℕ). w zero ∷ l) (word_more (λ j. w (suc j)) ws i (le_of_suc-le-suc h))

-- one set more
pub sets_more : (c : ℕ) (f : ℕ → TagSet) (ws : List ℕ) → 4 * c + 4 ≤ length ws → put_set (with_sets c f ws) c (f c) ≡ with_sets (c + 1) f ws
unfolding put_set with_sets
sets_more c f ws h =
    rw (at (4 * c) 0 (4 * c + 1) (omega arith), at (4 * c + 1) 1 (4 * c + 2) (omega arith), at (4 * c + 2) 2 (4 * c + 3) (omega arith))
    (at (4 * c + 3) 3 (4 * (c + 1)) (omega arith))
  where
    word : ℕ → ℕ
    word i = get_or (f (i / 4)).words (i % 4) 0

    at : (i j k : ℕ) → (i ≡ 4 * c + j) × (j < 4) × (k ≡ suc i)
        → set (tabulate i word ++ drop i ws) i (get_or (f c).words j 0) ≡ tabulate k word ++ drop k ws
    at i j k (e, l, s) =
        ap (λ (x : ℕ). set (tabulate i word ++ drop i ws) i x)
        (ap₂ (λ (a b : ℕ). get_or (f a).words b 0) (omega (arith, e, l)) (omega (arith, e, l)))
        ∙ word_more word ws i (omega (arith, e, l, h)) ∙ ap (λ (n : ℕ). tabulate n word ++ drop n ws) (sym s)
