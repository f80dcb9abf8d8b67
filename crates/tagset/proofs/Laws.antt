-- The laws of sets of tags: members, the order, what is equal, the bounds of words, and sizes.
-- Assumes nothing.
use Rattle.std.specs.Prelude.{◌≡◌, refl, Bool, true, false, ◌&&◌, ◌||◌, not, ◌↔◌, List, [], ◌∷◌, ℕ, suc, ◌+◌, ◌*◌, ◌-◌, ◌/◌, ◌%◌, ◌^◌, ◌≤◌, ◌<◌, min, eqb, ltb, leb, get_or, set, sum_by}
use Rattle.std.proofs.Common.{sym, ap, ap₂, ◌∙◌, ⊎_elim, mod-lt, lt_of_lt_of_le, not-le_of_lt, zero-add, arith, lit<, pow_mono, get_or-set_other, ext_get_or, eqb-true, eq-eqb, ne_eqb, ltb-true, ltb-false, leb-true, leb-false, lt-ltb, le-ltb, le-leb}
use Rattle.std.specs.Bool.{beq}
use Rattle.std.proofs.Math.Bool.{and-true, and-false, and_comm}
use Rattle.std.proofs.lemmas.Bool.{false≢true, eqb-false, not-true}
use Rattle.std.proofs.Math.Nat.{sub-zero, min-le_right}
use Rattle.std.specs.Int.Bits.{bit_or, bit_and, and_lt}
use Rattle.std.proofs.lemmas.Nat.{or_lt}
use Rattle.std.specs.Int.Count.{ones}
use Rattle.std.proofs.Math.Pow.{pow-lt, ones_lt}
use Rattle.std.proofs.Math.Seq.{set_out}
use borrow.Table.Steps.{cases}
use Rattle.tagset.specs.declared.TagSet.{TagSet}
use Rattle.truth.specs.Truth.{iff, and_both, or-either, left_or, right_or}
use Rattle.tagset.proofs.Below.{count-cong, count_add, count-sum, count_none, none-counted, count-one, count-le, all-at, all-make, any-not-all, any-find, any-make}
use Rattle.tagset.proofs.Bit.{bit-zero, bit-or, bit-and, bit-pow, bit-ones, ones-count}
use Rattle.tagset.specs.Set.{one, count_below, bit_at, word_at, has_w, has, empty_set, single_of, low_ones, below_of, wordwise, union_of, intersection_of, implies, subset_of, same_of, exceeds_of, size_of, IsWords}
use Rattle.tagset.specs.Word.{zeros}
use Rattle.tagset.proofs.Word.{each_word, four-made, word-near, word-far, tag_at, by-tag, word_fits, wordwise-has, beq-true, beq-self, same-words}
use Rattle.tagset.specs.Laws.{beyond}

-- Members

-- no set has a tag of 256 or more
pub has-far : (s : TagSet) (t : ℕ) → 256 ≤ t → has s t ≡ false
unfolding has_w
has-far s t h = ap (λ (w : ℕ). bit_at w (t % 64)) (word-far s.words (t / 64) (omega arith)) ∙ bit-zero (t % 64)

-- a tag of a set is below 256
pub has-lt : (s : TagSet) (t : ℕ) → has s t ≡ true → t < 256
has-lt s t e = cases (ltb t 256) (λ l. ltb-true t 256 l) (λ l. absurd (false≢true (sym (has-far s t (ltb-false t 256 l)) ∙ e)))

-- a tag is in a union where it is in one of the two
pub union-has : (a b : TagSet) (t : ℕ) → has (union_of a b) t ≡ has a t || has b t
unfolding union_of
union-has = wordwise-has bit_or ◌||◌ refl bit-or

-- a tag is in an intersection where it is in both
pub intersection-has : (a b : TagSet) (t : ℕ) → has (intersection_of a b) t ≡ has a t && has b t
unfolding intersection_of
intersection-has = wordwise-has bit_and ◌&&◌ refl bit-and

-- every word of zeros is 0
zero_word : (q : ℕ) → word_at zeros q ≡ 0
zero_word = each_word (λ q. word_at zeros q ≡ 0) refl refl refl refl (λ q. refl)

-- the empty set has no tag
pub empty-has : (t : ℕ) → has empty_set t ≡ false
unfolding has_w empty_set
empty-has t = ap (λ (w : ℕ). bit_at w (t % 64)) (zero_word (t / 64)) ∙ bit-zero (t % 64)

-- a word that was set among zeros, and the others
one_word : (i v : ℕ) → i < 4 → word_at (set zeros i v) i ≡ v
one_word i v =
    each_word (λ i. i < 4 → word_at (set zeros i v) i ≡ v) (λ h. refl) (λ h. refl) (λ h. refl) (λ h. refl)
    (λ i h. absurd (omega arith)) i

other_word : (i q v : ℕ) → (q ≡ i → ⊥) → word_at (set zeros i v) q ≡ 0
other_word i q v n =
    cases (ltb q 4)
    (λ e. word-near (set zeros i v) q (ltb-true q 4 e) ∙ get_or-set_other zeros i q v 0 n
    ∙ sym (word-near zeros q (ltb-true q 4 e)) ∙ zero_word q)
    (λ e. word-far (set zeros i v) q (ltb-false q 4 e))

-- a set of one tag has that tag alone
pub single-has : (t u : ℕ) → t < 256 → has (single_of t) u ≡ eqb u t
unfolding single_of
single-has t u h = by-tag (λ x. has (single_of t) x ≡ eqb x t) at u
  where
    at : (q k : ℕ) → k < 64 → has (single_of t) (q * 64 + k) ≡ eqb (q * 64 + k) t
    at q k l =
        tag_at (single_of t).words q k l
        ∙ cases (eqb q (t / 64))
        (λ e. let p : q ≡ t / 64 = eqb-true q (t / 64) e in
        ap (λ (w : ℕ). bit_at w k) (ap (word_at (single_of t).words) p ∙ one_word (t / 64) (2 ^ (t % 64)) (omega arith)) ∙ bit-pow (t % 64) k
        ∙ iff (eqb k (t % 64)) (eqb (q * 64 + k) t)
        (λ x. eq-eqb (q * 64 + k) t (omega (arith, eqb-true k (t % 64) x))) (λ x. eq-eqb k (t % 64) (omega (arith, eqb-true (q * 64 + k) t x))))
        (λ e. ap (λ (w : ℕ). bit_at w k) (other_word (t / 64) q (2 ^ (t % 64)) (eqb-false q (t / 64) e)) ∙ bit-zero k
        ∙ sym (ne_eqb (q * 64 + k) t (λ x. eqb-false q (t / 64) e (omega arith))))

-- a set of one tag past 255 is empty
pub single-past : (t : ℕ) → 256 ≤ t → single_of t ≡ empty_set
unfolding single_of empty_set
single-past t h =
    ap {B = TagSet} (λ (ws : List ℕ). record { words = ws }) (set_out zeros (t / 64) (2 ^ (t % 64)) (omega arith))

-- the tags below n, of those below 256
pub below-has : (n t : ℕ) → has (below_of n) t ≡ ltb t n && ltb t 256
unfolding below_of
below-has n t = by-tag (λ x. has (below_of n) x ≡ ltb x n && ltb x 256) (λ q k l. tag_at (below_of n).words q k l ∙ each q k l) t
  where
    low : (m k : ℕ) → k < 64 → m + k < 256 → bit_at (low_ones (n - m)) k ≡ ltb (m + k) n && ltb (m + k) 256
    low m k l g =
        bit-ones (min (n - m) 64) k
        ∙ iff (ltb k (min (n - m) 64)) (ltb (m + k) n) (λ x. lt-ltb (m + k) n (omega (arith, ltb-true k (min (n - m) 64) x)))
        (λ x. lt-ltb k (min (n - m) 64) (omega (arith, ltb-true (m + k) n x)))
        ∙ sym (ap (λ (x : Bool). ltb (m + k) n && x) (lt-ltb (m + k) 256 g) ∙ and-true (ltb (m + k) n))

    far : (u : ℕ) → 256 ≤ u → false ≡ ltb u n && ltb u 256
    far u h = sym (ap (λ (x : Bool). ltb u n && x) (le-ltb u 256 h) ∙ and-false (ltb u n))

    each : (q k : ℕ) → k < 64 → bit_at (word_at (below_of n).words q) k ≡ ltb (q * 64 + k) n && ltb (q * 64 + k) 256
    each =
        each_word (λ q. (k : ℕ) → k < 64 → bit_at (word_at (below_of n).words q) k ≡ ltb (q * 64 + k) n && ltb (q * 64 + k) 256)
        (λ k l. ap (λ (x : ℕ). bit_at (low_ones x) k) (sym (sub-zero n)) ∙ low 0 k l (omega arith)) (λ k l. low 64 k l (omega arith))
        (λ k l. low 128 k l (omega arith)) (λ k l. low 192 k l (omega arith))
        (λ q k l. bit-zero k ∙ far (suc (suc (suc (suc q))) * 64 + k) (omega arith))

-- Order

-- the second test passes where the first does
pub implies-iff : (a b : Bool) → (implies a b ≡ true) ↔ (a ≡ true → b ≡ true)
implies-iff true b = (λ e h. e, λ f. f refl)
implies-iff false b = (λ e h. absurd (false≢true h), λ f. refl)

-- a tag of a subset is in the set
pub subset-has : (a b : TagSet) → subset_of a b ≡ true → (t : ℕ) → has a t ≡ true → has b t ≡ true
unfolding subset_of
subset-has a b e t h = sym (ap (λ (x : Bool). implies x (has b t)) h) ∙ all-at 256 (λ t. implies (has a t) (has b t)) e t (has-lt a t h)

-- a set each of whose tags is in the other is a subset
pub subset-of-has : (a b : TagSet) → ((t : ℕ) → has a t ≡ true → has b t ≡ true) → subset_of a b ≡ true
unfolding subset_of
subset-of-has a b h = all-make 256 (λ t. implies (has a t) (has b t)) (λ t l. (implies-iff (has a t) (has b t)).1 (h t))

-- what is and is not implied
lacks : (x y : Bool) → x && not y ≡ not (implies x y)
lacks true true = refl
lacks true false = refl
lacks false y = refl

-- a set that is no subset has a tag that the other lacks
pub not-subset-tag : (a b : TagSet) → subset_of a b ≡ false → (t : ℕ) × (has a t ≡ true) × (has b t ≡ false)
unfolding subset_of
not-subset-tag a b e =
    let w =
    any-find 256 (λ t. has a t && not (has b t))
    (any-not-all 256 (λ t. has a t && not (has b t)) (λ t. implies (has a t) (has b t)) (λ t l. lacks (has a t) (has b t)) ∙ ap not e) in
    let p = and_both (has a w.0) (not (has b w.0)) w.2 in
    (w.0, p.0, not-true (has b w.0) p.1)

-- a set is a subset of itself
pub subset-refl : (a : TagSet) → subset_of a a ≡ true
subset-refl a = subset-of-has a a (λ t h. h)

-- a subset of a subset is a subset
pub subset-trans : (a b c : TagSet) → subset_of a b ≡ true → subset_of b c ≡ true → subset_of a c ≡ true
subset-trans a b c p q = subset-of-has a c (λ t h. subset-has b c q t (subset-has a b p t h))

-- the first set is a subset of a union
pub union-upper-left : (a b : TagSet) → subset_of a (union_of a b) ≡ true
union-upper-left a b = subset-of-has a (union_of a b) (λ t h. union-has a b t ∙ left_or (has b t) h)

-- and so is the second
pub union-upper-right : (a b : TagSet) → subset_of b (union_of a b) ≡ true
union-upper-right a b = subset-of-has b (union_of a b) (λ t h. union-has a b t ∙ right_or (has a t) h)

-- a union is a subset of every set that both sets are subsets of
pub union-least : (a b c : TagSet) → subset_of a c ≡ true → subset_of b c ≡ true → subset_of (union_of a b) c ≡ true
union-least a b c p q =
    subset-of-has (union_of a b) c
    (λ t h. ⊎_elim (subset-has a c p t) (subset-has b c q t) (or-either (has a t) (has b t) (sym (union-has a b t) ∙ h)))

-- an intersection is a subset of the first set
pub intersection-lower-left : (a b : TagSet) → subset_of (intersection_of a b) a ≡ true
intersection-lower-left a b =
    subset-of-has (intersection_of a b) a (λ t h. (and_both (has a t) (has b t) (sym (intersection-has a b t) ∙ h)).0)

-- and of the second
pub intersection-lower-right : (a b : TagSet) → subset_of (intersection_of a b) b ≡ true
intersection-lower-right a b =
    subset-of-has (intersection_of a b) b (λ t h. (and_both (has a t) (has b t) (sym (intersection-has a b t) ∙ h)).1)

-- a set that is a subset of both is one of the intersection
pub intersection-greatest : (a b c : TagSet) → subset_of c a ≡ true → subset_of c b ≡ true → subset_of c (intersection_of a b) ≡ true
intersection-greatest a b c p q =
    subset-of-has c (intersection_of a b)
    (λ t h. intersection-has a b t ∙ ap₂ (λ (x y : Bool). x && y) (subset-has c a p t h) (subset-has c b q t h))

-- Equality

-- sets that agree below 256 agree everywhere
everywhere : (a b : TagSet) → ((t : ℕ) → t < 256 → has a t ≡ has b t) → (t : ℕ) → has a t ≡ has b t
everywhere a b h t =
    cases (ltb t 256) (λ l. h t (ltb-true t 256 l)) (λ l. has-far a t (ltb-false t 256 l) ∙ sym (has-far b t (ltb-false t 256 l)))

-- sets that are found the same have the same tags
pub same-has : (a b : TagSet) → same_of a b ≡ true → (t : ℕ) → has a t ≡ has b t
unfolding same_of
same-has a b e = everywhere a b (λ t l. beq-true (has a t) (has b t) (all-at 256 (λ t. beq (has a t) (has b t)) e t l))

-- and sets with the same tags are found the same
pub same-of-has : (a b : TagSet) → ((t : ℕ) → t < 256 → has a t ≡ has b t) → same_of a b ≡ true
unfolding same_of
same-of-has a b h = all-make 256 (λ t. beq (has a t) (has b t)) (λ t l. ap (beq (has a t)) (sym (h t l)) ∙ beq-self (has a t))

-- sets of four words that are found the same are one set
pub same-eq : (a b : TagSet) → IsWords a → IsWords b → same_of a b ≡ true → a ≡ b
same-eq a b ha hb e =
    ap {B = TagSet} (λ (ws : List ℕ). record { words = ws })
    (ext_get_or 0 a.words b.words (ha.four ∙ sym hb.four) (λ i l.
    let g : i < 4 = omega (arith, ha.four) in
    sym (word-near a.words i g) ∙ same-words a b ha hb e i g ∙ word-near b.words i g))

-- and one set is found the same as itself
pub same-of-eq : (a b : TagSet) → a ≡ b → same_of a b ≡ true
same-of-eq a b e = same-of-has a b (λ t l. ap (λ (s : TagSet). has s t) e)

-- sets of four words with the same tags are one set
pub ext : (a b : TagSet) → IsWords a → IsWords b → ((t : ℕ) → t < 256 → has a t ≡ has b t) → a ≡ b
ext a b ha hb h = same-eq a b ha hb (same-of-has a b h)

-- sets of four words that are subsets of each other are one set
pub subset-antisym : (a b : TagSet) → IsWords a → IsWords b → subset_of a b ≡ true → subset_of b a ≡ true → a ≡ b
subset-antisym a b ha hb p q = ext a b ha hb (λ t l. iff (has a t) (has b t) (subset-has a b p t) (subset-has b a q t))

-- Tags of n or more

-- a set with a tag of n or more exceeds n
pub exceeds-of-tag : (s : TagSet) (n t : ℕ) → n ≤ t → has s t ≡ true → exceeds_of s n ≡ true
unfolding exceeds_of
exceeds-of-tag s n t h e =
    any-make 256 (λ t. leb n t && has s t) t (has-lt s t e) (ap₂ (λ (x y : Bool). x && y) (le-leb n t h) e)

-- and a set that exceeds n has such a tag
pub exceeds-tag : (s : TagSet) (n : ℕ) → exceeds_of s n ≡ true → (t : ℕ) × (n ≤ t) × (has s t ≡ true)
unfolding exceeds_of
exceeds-tag s n e =
    let w = any-find 256 (λ t. leb n t && has s t) e in
    let p = and_both (leb n w.0) (has s w.0) w.2 in
    (w.0, leb-true n w.0 p.0, p.1)

-- a set exceeds n where it is no subset of the tags below n
pub exceeds-below : (s : TagSet) (n : ℕ) → exceeds_of s n ≡ not (subset_of s (below_of n))
unfolding exceeds_of subset_of
exceeds-below s n =
    any-not-all 256 (λ t. leb n t && has s t) (λ t. implies (has s t) (has (below_of n) t))
    (λ t l. ap (λ (x : Bool). x && has s t) (past t l) ∙ and_comm (not (has (below_of n) t)) (has s t) ∙ lacks (has s t) (has (below_of n) t))
  where
    past : (t : ℕ) → t < 256 → leb n t ≡ not (has (below_of n) t)
    past t l =
        cases (leb n t) (λ e. e ∙ sym (ap not (below-has n t ∙ ap (λ (x : Bool). x && ltb t 256) (le-ltb t n (leb-true n t e)))))
        (λ e. e ∙ sym (ap not (below-has n t ∙ ap₂ (λ (x y : Bool). x && y) (lt-ltb t n (leb-false n t e)) (lt-ltb t 256 l))))

-- each tag of a set that does not exceed n is below n
pub not-exceeds : (s : TagSet) (n : ℕ) → exceeds_of s n ≡ false → (t : ℕ) → has s t ≡ true → t < n
not-exceeds s n e t h =
    cases (ltb t n) (λ l. ltb-true t n l) (λ l. absurd (false≢true (sym e ∙ exceeds-of-tag s n t (ltb-false t n l) h)))

-- and a set whose tags are all below n does not exceed n
pub not-exceeds-of-has : (s : TagSet) (n : ℕ) → ((t : ℕ) → has s t ≡ true → t < n) → exceeds_of s n ≡ false
not-exceeds-of-has s n h =
    cases (exceeds_of s n) (λ e. let w = exceeds-tag s n e in absurd (not-le_of_lt (h w.0 w.2) w.1)) (λ e. e)

-- Words

-- four words of 64 bits each
pub four-words : (x y z w : ℕ) → x < 2 ^ 64 → y < 2 ^ 64 → z < 2 ^ 64 → w < 2 ^ 64 → IsWords (record { words = x ∷ y ∷ z ∷ w ∷ [] })
four-words x y z w hx hy hz hw = record {
  four = refl;
  fits = each_word (λ i. get_or (x ∷ y ∷ z ∷ w ∷ []) i 0 < 2 ^ 64) hx hy hz hw (λ i. lit< tt);
}

-- the empty set has four words of 64 bits
pub empty-words : IsWords empty_set
unfolding empty_set
empty-words = four-words 0 0 0 0 (lit< tt) (lit< tt) (lit< tt) (lit< tt)

-- so has a set of one tag
pub single-words : (t : ℕ) → IsWords (single_of t)
unfolding single_of
single-words t =
    let v : ℕ = 2 ^ (t % 64) in
    each_word (λ i. IsWords (record { words = set zeros i v })) (four-words v 0 0 0 h z z z) (four-words 0 v 0 0 z h z z)
    (four-words 0 0 v 0 z z h z) (four-words 0 0 0 v z z z h) (λ i. four-words 0 0 0 0 z z z z) (t / 64)
  where
    h : 2 ^ (t % 64) < 2 ^ 64
    h = pow-lt (mod-lt t (lit< tt))

    z : 0 < 2 ^ 64
    z = lit< tt

-- so have the tags below n
pub below-words : (n : ℕ) → IsWords (below_of n)
unfolding below_of
below-words n =
    four-words (low_ones n) (low_ones (n - 64)) (low_ones (n - 128)) (low_ones (n - 192)) (low n) (low (n - 64)) (low (n - 128)) (low (n - 192))
  where
    low : (k : ℕ) → low_ones k < 2 ^ 64
    low k = lt_of_lt_of_le (ones_lt (min k 64)) (pow_mono (min-le_right k 64))

-- so has what an operation that keeps to 64 bits makes of two such sets
wordwise-words : (f : ℕ → ℕ → ℕ) → ((x y : ℕ) → x < 2 ^ 64 → y < 2 ^ 64 → f x y < 2 ^ 64)
    → (a b : TagSet) → IsWords a → IsWords b → IsWords (wordwise f a b)
wordwise-words f h a b ha hb = four-words (at 0) (at 1) (at 2) (at 3) (fit 0) (fit 1) (fit 2) (fit 3)
  where
    at : ℕ → ℕ
    at i = f (get_or a.words i 0) (get_or b.words i 0)

    fit : (i : ℕ) → at i < 2 ^ 64
    fit i = h (get_or a.words i 0) (get_or b.words i 0) (ha.fits i) (hb.fits i)

-- so has a union of two such sets
pub union-words : (a b : TagSet) → IsWords a → IsWords b → IsWords (union_of a b)
unfolding union_of
union-words = wordwise-words bit_or (or_lt 64)

-- so has an intersection of two such sets
pub intersection-words : (a b : TagSet) → IsWords a → IsWords b → IsWords (intersection_of a b)
unfolding intersection_of
intersection-words = wordwise-words bit_and (and_lt 64)

-- a union with a subset of the set is the set
pub union-absorbs : (a b : TagSet) → IsWords a → IsWords b → subset_of b a ≡ true → union_of a b ≡ a
union-absorbs a b ha hb e =
    subset-antisym (union_of a b) a (union-words a b ha hb) ha (union-least a b a (subset-refl a) e) (union-upper-left a b)

-- Sizes

-- the tags in word q
word_count : (s : TagSet) → IsWords s → (q : ℕ) → count_below 64 (λ k. has s (q * 64 + k)) ≡ ones (word_at s.words q)
word_count s h q =
    count-cong 64 (λ k. has s (q * 64 + k)) (bit_at (word_at s.words q)) (λ k l. tag_at s.words q k l)
    ∙ sym (ones-count 64 (word_at s.words q) (word_fits s h q))

-- the size is the sum of the ones of the four words
pub size-words : (s : TagSet) → IsWords s
    → size_of s ≡ ones (get_or s.words 0 0) + ones (get_or s.words 1 0) + ones (get_or s.words 2 0) + ones (get_or s.words 3 0)
unfolding size_of
size-words s h =
    count_add 192 64 (has s) ∙ ap₂ sum
    (count_add 128 64 (has s) ∙ ap₂ sum
    (count_add 64 64 (has s) ∙ ap₂ sum
    (count-cong 64 (has s) (λ k. has s (0 + k)) (λ k l. ap (has s) (sym (zero-add k))) ∙ word_count s h 0)
    (word_count s h 1)) (word_count s h 2)) (word_count s h 3)
  where
    sum : ℕ → ℕ → ℕ
    sum x y = x + y

-- the sum over the list of words
pub size-sum : (s : TagSet) → IsWords s → size_of s ≡ sum_by ones s.words
size-sum s h =
    size-words s h
    ∙ ap (λ (n : ℕ). n + ones (get_or s.words 1 0) + ones (get_or s.words 2 0) + ones (get_or s.words 3 0)) (sym (zero-add (ones (get_or s.words 0 0))))
    ∙ sym (ap (λ (t : TagSet). sum_by ones t.words) (four-made s h.four refl refl refl refl))

-- a set has at most 256 tags
pub size-le : (s : TagSet) → size_of s ≤ 256
unfolding size_of
size-le s = count-le 256 (has s)

-- the empty set has size 0
pub size-empty : size_of empty_set ≡ 0
unfolding size_of
size-empty = count_none 256 (has empty_set) (λ t l. empty-has t)

-- a set of one tag below 256 has size 1
pub size-single : (t : ℕ) → t < 256 → size_of (single_of t) ≡ 1
unfolding size_of
size-single t h = count-cong 256 (has (single_of t)) (λ u. eqb u t) (λ u l. single-has t u h) ∙ count-one 256 t h

-- a union has the tags of a, and those of b that a has not
pub size-union : (a b : TagSet) → size_of (union_of a b) ≡ size_of a + count_below 256 (λ t. has b t && not (has a t))
unfolding size_of
size-union a b = count-sum 256 (has (union_of a b)) (has a) (beyond a b) (λ t l. ap one (union-has a b t) ∙ parts (has a t) (has b t))
  where
    parts : (x y : Bool) → one (x || y) ≡ one x + one (y && not x)
    parts true true = refl
    parts true false = refl
    parts false true = refl
    parts false false = refl

-- b has the tags of the intersection, and those that a has not
size-split : (a b : TagSet) → size_of b ≡ size_of (intersection_of a b) + count_below 256 (beyond a b)
unfolding size_of
size-split a b =
    count-sum 256 (has b) (has (intersection_of a b)) (beyond a b)
    (λ t l. parts (has a t) (has b t) ∙ ap (λ (x : Bool). one x + one (beyond a b t)) (sym (intersection-has a b t)))
  where
    parts : (x y : Bool) → one y ≡ one (x && y) + one (y && not x)
    parts true true = refl
    parts true false = refl
    parts false true = refl
    parts false false = refl

-- the sizes of a union and an intersection add up to those of the sets
pub size-inclusion : (a b : TagSet) → size_of (union_of a b) + size_of (intersection_of a b) ≡ size_of a + size_of b
size-inclusion a b = omega (arith, size-union a b, size-split a b)

-- b has the tags of its subset a, and those that a has not
pub size-subset : (a b : TagSet) → subset_of a b ≡ true → size_of b ≡ size_of a + count_below 256 (λ t. has b t && not (has a t))
unfolding size_of
size-subset a b e = count-sum 256 (has b) (has a) (beyond a b) (λ t l. parts (has a t) (has b t) (subset-has a b e t))
  where
    parts : (x y : Bool) → (x ≡ true → y ≡ true) → one y ≡ one x + one (y && not x)
    parts true y h = ap (λ (z : Bool). one z) (h refl) ∙ sym (ap (λ (z : Bool). 1 + one (z && false)) (h refl))
    parts false true h = refl
    parts false false h = refl

-- a subset is no larger
pub size_mono : (a b : TagSet) → subset_of a b ≡ true → size_of a ≤ size_of b
size_mono a b e = omega (arith, size-subset a b e)

-- a subset of the same size has the same tags
pub subset-same-size : (a b : TagSet) → subset_of a b ≡ true → size_of a ≡ size_of b → (t : ℕ) → has a t ≡ has b t
subset-same-size a b e q =
    everywhere a b (λ t l. iff (has a t) (has b t) (subset-has a b e t) (λ h.
    held (has a t) (has b t) h (none-counted 256 (beyond a b) (omega (arith, size-subset a b e)) t l)))
  where
    held : (x y : Bool) → y ≡ true → y && not x ≡ false → x ≡ true
    held true y h n = refl
    held false y h n = absurd (false≢true (sym n ∙ ap (λ (z : Bool). z && true) h))
