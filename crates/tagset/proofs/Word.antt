-- A set of tags word by word: what its words say of its tags, and what the code makes of the words.
-- Assumes nothing.
use Rattle.std.specs.Prelude.{◌≡◌, refl, Bool, true, false, ◌&&◌, List, [], ◌∷◌, ℕ, zero, suc, ◌+◌, ◌*◌, ◌-◌, ◌/◌, ◌%◌, ◌^◌, ◌≤◌, ◌<◌, eqb, get_or, set, length}
use Rattle.std.proofs.Common.{sym, ap, ap₂, ◌∙◌, subst, mod-lt, one-mul, mod-eq_of_lt, div-add-mod', sub-eq-zero_of_le, le_of_lt, arith, lit<, pow_pos, Fits, ext_get_or, eqb-true, eq-eqb}
use Rattle.std.specs.Bool.{beq}
use Rattle.std.proofs.Math.Nat.{sub-zero, min-eq_left, min-eq_right}
use Rattle.std.proofs.Math.Arith.{digits_div, digits_mod}
use Rattle.std.specs.Int.Bits.{bit_and, bit_or, and_lt, or_add_and}
use Rattle.std.proofs.lemmas.Nat.{and_le_l, and_le_r, and_comm, and-not, and_mask}
use Rattle.std.proofs.Math.Pow.{pow-lt}
use Rattle.std.specs.Int.{w64}
use Rattle.tagset.specs.declared.TagSet.{TagSet}
use Rattle.truth.specs.Truth.{iff, and_both, both-and}
use Rattle.tagset.proofs.Below.{all-at, all-make}
use Rattle.tagset.proofs.Bit.{bit-and, bits-ext}
use Rattle.tagset.specs.Set.{all_below, bit_at, word_at, has_w, has, single_of, low_ones, below_of, wordwise, implies, subset_of, same_of, IsWords}
use Rattle.tagset.specs.Word.{zeros, Tests, within, left}

-- what holds of each of the four words, and past them, holds of every word
pub each_word : (P : ℕ → Type 0) → P 0 → P 1 → P 2 → P 3 → ((i : ℕ) → P (suc (suc (suc (suc i))))) → (i : ℕ) → P i
each_word P p q r s f zero = p
each_word P p q r s f (suc zero) = q
each_word P p q r s f (suc (suc zero)) = r
each_word P p q r s f (suc (suc (suc zero))) = s
each_word P p q r s f (suc (suc (suc (suc i)))) = f i

-- a word of the four stands in the list, and past them a word is 0
pub word-near : (ws : List ℕ) (i : ℕ) → i < 4 → word_at ws i ≡ get_or ws i 0
word-near ws = each_word (λ i. i < 4 → word_at ws i ≡ get_or ws i 0) (λ h. refl) (λ h. refl) (λ h. refl) (λ h. refl) (λ i h. absurd (omega arith))

pub word-far : (ws : List ℕ) (i : ℕ) → 4 ≤ i → word_at ws i ≡ 0
word-far ws =
    each_word (λ i. 4 ≤ i → word_at ws i ≡ 0) (λ h. absurd (omega arith)) (λ h. absurd (omega arith)) (λ h. absurd (omega arith))
    (λ h. absurd (omega arith)) (λ i h. refl)

-- tag q * 64 + k, k below 64, is bit k of word q
pub tag_at : (ws : List ℕ) (q k : ℕ) → k < 64 → has_w ws (q * 64 + k) ≡ bit_at (word_at ws q) k
unfolding has_w
tag_at ws q k h = ap₂ (λ (i j : ℕ). bit_at (word_at ws i) j) (digits_div q h) (digits_mod q h)

-- what holds of bit k of word q, for every q and k, holds of every tag
pub by-tag : (P : ℕ → Type 0) → ((q k : ℕ) → k < 64 → P (q * 64 + k)) → (t : ℕ) → P t
by-tag P h t = subst P (div-add-mod' t 64) (h (t / 64) (t % 64) (mod-lt t (lit< tt)))

-- an operation that works bit by bit, word by word, works tag by tag
pub wordwise-has : (f : ℕ → ℕ → ℕ) (g : Bool → Bool → Bool) → f 0 0 ≡ 0 → ((x y k : ℕ) → bit_at (f x y) k ≡ g (bit_at x k) (bit_at y k))
    → (a b : TagSet) (t : ℕ) → has (wordwise f a b) t ≡ g (has a t) (has b t)
unfolding has_w
wordwise-has f g z e a b t =
    ap (λ (w : ℕ). bit_at w (t % 64)) (word (t / 64)) ∙ e (word_at a.words (t / 64)) (word_at b.words (t / 64)) (t % 64)
  where
    word : (q : ℕ) → word_at (wordwise f a b).words q ≡ f (word_at a.words q) (word_at b.words q)
    word = each_word (λ q. word_at (wordwise f a b).words q ≡ f (word_at a.words q) (word_at b.words q)) refl refl refl refl (λ q. sym z)

-- a set of four words that are known one by one
pub four-made : (s : TagSet) {x y z w : ℕ} → length s.words ≡ 4 → get_or s.words 0 0 ≡ x → get_or s.words 1 0 ≡ y → get_or s.words 2 0 ≡ z → get_or s.words 3 0 ≡ w
    → s ≡ record { words = x ∷ y ∷ z ∷ w ∷ [] }
four-made s {x} {y} {z} {w} l p q r t =
    ap {B = TagSet} (λ (ws : List ℕ). record { words = ws })
    (ext_get_or 0 s.words (x ∷ y ∷ z ∷ w ∷ []) l (λ i h.
    each_word (λ i. i < 4 → get_or s.words i 0 ≡ get_or (x ∷ y ∷ z ∷ w ∷ []) i 0) (λ g. p) (λ g. q) (λ g. r) (λ g. t) (λ i g. absurd (omega arith)) i (omega (arith, l))))

-- so a set whose words an operation makes of those of two sets
pub wordwise-made : (f : ℕ → ℕ → ℕ) (a b s : TagSet) → length s.words ≡ 4
    → ((i : ℕ) → i < 4 → get_or s.words i 0 ≡ f (get_or a.words i 0) (get_or b.words i 0)) → s ≡ wordwise f a b
wordwise-made f a b s l h = four-made s l (h 0 (lit< tt)) (h 1 (lit< tt)) (h 2 (lit< tt)) (h 3 (lit< tt))

-- the words of a set of the code, as its types give them
pub words_of : (s : TagSet) → length s.words ≡ 4 → ((i : ℕ) → Fits w64 (get_or s.words i 0)) → IsWords s
words_of s l f = record { four = l; fits = λ i. (f i).fits }

-- each of them is of 64 bits
pub word_fits : (s : TagSet) → IsWords s → (q : ℕ) → word_at s.words q < 2 ^ 64
word_fits s h = each_word (λ q. word_at s.words q < 2 ^ 64) (h.fits 0) (h.fits 1) (h.fits 2) (h.fits 3) (λ q. lit< tt)

-- the test of two truth values passes where they are the same
pub beq-self : (x : Bool) → beq x x ≡ true
beq-self true = refl
beq-self false = refl

pub beq-true : (x y : Bool) → beq x y ≡ true → x ≡ y
beq-true true true e = refl
beq-true false false e = refl
beq-true true false e = sym e
beq-true false true e = e

module _ (r : Bool → Bool → Bool) (d : ℕ → ℕ → Bool) (T : Tests r d) (a b : TagSet) where
  -- the test of word q
  abbrev word_test : ℕ → Bool
  word_test q = d (word_at a.words q) (word_at b.words q)

  -- words that pass have tags that pass
  tests-pass : word_test 0 ≡ true → word_test 1 ≡ true → word_test 2 ≡ true → word_test 3 ≡ true → all_below 256 (λ t. r (has a t) (has b t)) ≡ true
  unfolding has_w
  tests-pass h0 h1 h2 h3 =
      all-make 256 (λ t. r (has a t) (has b t))
      (λ t l. T.bits (word_at a.words (t / 64)) (word_at b.words (t / 64)) (t % 64)
      (each_word (λ q. word_test q ≡ true) h0 h1 h2 h3 (λ i. T.none) (t / 64)))

  -- tags that all pass are of words that pass
  tests-back : IsWords a → IsWords b → all_below 256 (λ t. r (has a t) (has b t)) ≡ true → (q : ℕ) → q < 4 → word_test q ≡ true
  tests-back ha hb e q l =
      T.back (word_at a.words q) (word_at b.words q) (word_fits a ha q) (word_fits b hb q) (λ k g.
      ap₂ r (sym (tag_at a.words q k g)) (sym (tag_at b.words q k g))
      ∙ all-at 256 (λ t. r (has a t) (has b t)) e (q * 64 + k) (omega arith))

  -- so the tags are tested by the four words
  tests-words : IsWords a → IsWords b → all_below 256 (λ t. r (has a t) (has b t)) ≡ word_test 0 && word_test 1 && word_test 2 && word_test 3
  tests-words ha hb =
      iff (all_below 256 (λ t. r (has a t) (has b t))) (word_test 0 && word_test 1 && word_test 2 && word_test 3)
      (λ e. all-four (tests-back ha hb e 0 (lit< tt)) (tests-back ha hb e 1 (lit< tt)) (tests-back ha hb e 2 (lit< tt)) (tests-back ha hb e 3 (lit< tt)))
      (λ e.
      let p = and_both (word_test 0 && word_test 1 && word_test 2) (word_test 3) e in
      let q = and_both (word_test 0 && word_test 1) (word_test 2) p.0 in
      let o = and_both (word_test 0) (word_test 1) q.0 in
      tests-pass o.0 o.1 q.1 p.1)
    where
      all-four : word_test 0 ≡ true → word_test 1 ≡ true → word_test 2 ≡ true → word_test 3 ≡ true → word_test 0 && word_test 1 && word_test 2 && word_test 3 ≡ true
      all-four h0 h1 h2 h3 = both-and (both-and (both-and h0 h1) h2) h3

tests-within : Tests implies within
tests-within = record {
  none = refl;
  bits = λ x y k e. implied (bit_at x k) (bit_at y k) (sym (bit-and x y k) ∙ ap (λ (w : ℕ). bit_at w k) (eqb-true (bit_and x y) x e));
  back = λ x y hx hy h. eq-eqb (bit_and x y) x (bits-ext 64 (bit_and x y) x (and_lt 64 x y hx hy) hx (λ k l. bit-and x y k ∙ kept (bit_at x k) (bit_at y k) (h k l)));
}
  where
    implied : (x y : Bool) → x && y ≡ x → implies x y ≡ true
    implied true y e = e
    implied false y e = refl

    kept : (x y : Bool) → implies x y ≡ true → x && y ≡ x
    kept true y e = e
    kept false y e = refl

tests_same : Tests beq eqb
tests_same = record {
  none = refl;
  bits = λ x y k e. ap (λ (w : ℕ). beq (bit_at x k) (bit_at w k)) (sym (eqb-true x y e)) ∙ beq-self (bit_at x k);
  back = λ x y hx hy h. eq-eqb x y (bits-ext 64 x y hx hy (λ k l. beq-true (bit_at x k) (bit_at y k) (h k l)));
}

-- a subset, word by word
subset-words : (a b : TagSet) → IsWords a → IsWords b
    → subset_of a b
    ≡ within (get_or a.words 0 0) (get_or b.words 0 0)
    && within (get_or a.words 1 0) (get_or b.words 1 0)
    && within (get_or a.words 2 0) (get_or b.words 2 0)
    && within (get_or a.words 3 0) (get_or b.words 3 0)
unfolding subset_of
subset-words = tests-words implies within tests-within

-- what a word has of the bits that another lacks is what is left of it without what both have
pub without-left : (x y : ℕ) → x < 2 ^ 64 → y < 2 ^ 64 → bit_and x (2 ^ 64 - 1 - y) ≡ x - bit_and x y
without-left x y hx hy =
    let e : bit_and x (2 ^ 64 - 1 - y) + bit_and x y ≡ x = rw (and_comm x (2 ^ 64 - 1 - y), and_comm x y) (and-not 64 y x hy hx) in
    omega arith

-- nothing is left of a word without what both have where it has no bit that the other lacks; nothing is in two words where nothing is in either
left-none : (x y : ℕ) → eqb (x - bit_and x y) 0 ≡ within x y
left-none x y =
    let l = and_le_l x y in
    iff (eqb (x - bit_and x y) 0) (within x y) (λ e. eq-eqb (bit_and x y) x (omega (arith, l, eqb-true (x - bit_and x y) 0 e)))
    (λ e. eq-eqb (x - bit_and x y) 0 (omega (arith, l, eqb-true (bit_and x y) x e)))

or-none : (x y : ℕ) → eqb (bit_or x y) 0 ≡ eqb x 0 && eqb y 0
or-none x y =
    let s = or_add_and x y in
    let l = and_le_l x y in
    let r = and_le_r x y in
    iff (eqb (bit_or x y) 0) (eqb x 0 && eqb y 0)
    (λ e.
    let z = eqb-true (bit_or x y) 0 e in
    ap₂ (λ (p q : Bool). p && q) (eq-eqb x 0 (omega (arith, s, l, r, z))) (eq-eqb y 0 (omega (arith, s, l, r, z))))
    (λ e.
    let p = and_both (eqb x 0) (eqb y 0) e in
    let v = eqb-true x 0 p.0 in
    let w = eqb-true y 0 p.1 in
    eq-eqb (bit_or x y) 0 (omega (arith, s, v, w)))

-- a subset, as the code tests it: the four words as one
pub subset-tested : (a b : TagSet) → IsWords a → IsWords b → {x y z w : ℕ} → x ≡ left a b 0 → y ≡ left a b 1 → z ≡ left a b 2 → w ≡ left a b 3
    → eqb (bit_or (bit_or (bit_or x y) z) w) 0 ≡ subset_of a b
subset-tested a b ha hb {x} {y} {z} {w} p q r s =
    or-none (bit_or (bit_or x y) z) w
    ∙ ap (λ (u : Bool). u && eqb w 0) (or-none (bit_or x y) z ∙ ap (λ (u : Bool). u && eqb z 0) (or-none x y))
    ∙ (λ i. word 0 p i && word 1 q i && word 2 r i && word 3 s i)
    ∙ sym (subset-words a b ha hb)
  where
    word : {v : ℕ} (k : ℕ) → v ≡ left a b k → eqb v 0 ≡ within (get_or a.words k 0) (get_or b.words k 0)
    word k e = ap (λ (u : ℕ). eqb u 0) e ∙ left-none (get_or a.words k 0) (get_or b.words k 0)

-- the same tags, by their words
pub same-tested : (a b : TagSet) → IsWords a → IsWords b
    → same_of a b
    ≡ eqb (get_or a.words 0 0) (get_or b.words 0 0)
    && eqb (get_or a.words 1 0) (get_or b.words 1 0)
    && eqb (get_or a.words 2 0) (get_or b.words 2 0)
    && eqb (get_or a.words 3 0) (get_or b.words 3 0)
unfolding same_of
same-tested = tests-words beq eqb tests_same

-- sets with the same tags have the same words
pub same-words : (a b : TagSet) → IsWords a → IsWords b → same_of a b ≡ true → (q : ℕ) → q < 4 → word_at a.words q ≡ word_at b.words q
unfolding same_of
same-words a b ha hb e q l = eqb-true (word_at a.words q) (word_at b.words q) (tests-back beq eqb tests_same a b ha hb e q l)

-- a tag below 256, as the code tests it
pub has-near : (s : TagSet) (t : ℕ) → t < 256 → has s t ≡ eqb (bit_and (get_or s.words (t / 64) 0 / 2 ^ (t % 64)) 1) 1
unfolding has_w bit_at
has-near s t h =
    ap (λ (w : ℕ). bit_at w (t % 64)) (word-near s.words (t / 64) (omega arith))
    ∙ ap (λ (x : ℕ). eqb x 1) (sym (and_mask (get_or s.words (t / 64) 0 / 2 ^ (t % 64)) 1))

-- a shift of 1 by less than 64 loses nothing, and leaves no 0
shifted : (k : ℕ) → k < 64 → 1 * 2 ^ k % 2 ^ 64 ≡ 2 ^ k
shifted k h = ap (λ (x : ℕ). x % 2 ^ 64) (one-mul (2 ^ k)) ∙ mod-eq_of_lt (pow-lt h)

pub shifted-pos : (k : ℕ) → k < 64 → 1 ≤ 1 * 2 ^ k % 2 ^ 64
shifted-pos k h = subst (λ (x : ℕ). 1 ≤ x) (sym (shifted k h)) (pow_pos k)

-- the set of one tag, as the code makes it
pub single-made : (t : ℕ) → record { words = set zeros (t / 64) (1 * 2 ^ (t % 64) % 2 ^ 64) } ≡ single_of t
unfolding single_of
single-made t = ap {B = TagSet} (λ (v : ℕ). record { words = set zeros (t / 64) v }) (shifted (t % 64) (mod-lt t (lit< tt)))

-- a word of low ones, as the code makes it: none, all, or some
pub low-none : (n m : ℕ) → n ≤ m → 0 ≡ low_ones (n - m)
low-none n m h = ap low_ones (sym (sub-eq-zero_of_le h))

pub low-all : (k : ℕ) → 64 ≤ k → 2 ^ 64 - 1 ≡ low_ones k
low-all k h = ap (λ (x : ℕ). 2 ^ x - 1) (sym (min-eq_right h))

pub low-some : (k : ℕ) → k < 64 → 1 * 2 ^ k % 2 ^ 64 - 1 ≡ low_ones k
low-some k h = ap (λ (x : ℕ). x - 1) (shifted k h) ∙ ap (λ (x : ℕ). 2 ^ x - 1) (sym (min-eq_left (le_of_lt h)))

-- the tags below n, as the code makes them
pub below-made : (n : ℕ) {x y z w : ℕ} → x ≡ low_ones (n - 0) → y ≡ low_ones (n - 64) → z ≡ low_ones (n - 128) → w ≡ low_ones (n - 192)
    → record { words = x ∷ y ∷ z ∷ w ∷ [] } ≡ below_of n
unfolding below_of
below-made n p q r s = λ i. record { words = (p ∙ ap low_ones (sub-zero n)) i ∷ q i ∷ r i ∷ s i ∷ [] }
