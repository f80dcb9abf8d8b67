-- A set of tags below 256 (document 01, 'Tag sets'): tag t is bit t mod 64 of word t div 64, bit 0 the lowest.
-- Assumes nothing.
use Rattle.std.specs.Prelude.{Bool, true, false, ◌&&◌, ◌||◌, not, List, [], ◌∷◌, ◌≡◌, ℕ, zero, suc, ◌+◌, ◌-◌, ◌/◌, ◌%◌, ◌^◌, ◌<◌, min, leb, eqb, get_or, set, length}
use Rattle.std.specs.Bool.{beq}
use Rattle.std.specs.Int.Bits.{bit_or, bit_and}
use Rattle.tagset.specs.declared.TagSet.{TagSet}

-- bit k of a word, bit 0 the lowest
unfoldable pub bit_at : ℕ → ℕ → Bool
bit_at w k = eqb (w / 2 ^ k % 2) 1

-- word i; 0 past the fourth
abbrev pub word_at : List ℕ → ℕ → ℕ
word_at ws zero = get_or ws 0 0
word_at ws (suc zero) = get_or ws 1 0
word_at ws (suc (suc zero)) = get_or ws 2 0
word_at ws (suc (suc (suc zero))) = get_or ws 3 0
word_at ws (suc (suc (suc (suc i)))) = 0

-- tag t is in the set of these words
unfoldable pub has_w : List ℕ → ℕ → Bool
has_w ws t = bit_at (word_at ws (t / 64)) (t % 64)

-- tag t is in the set
abbrev pub has : TagSet → ℕ → Bool
has s t = has_w s.words t

-- no tag
unfoldable pub empty_set : TagSet
empty_set = record { words = 0 ∷ 0 ∷ 0 ∷ 0 ∷ [] }

-- the one tag t; no tag where t is 256 or more, since `set` past the end changes nothing
unfoldable pub single_of : ℕ → TagSet
single_of t = record { words = set (0 ∷ 0 ∷ 0 ∷ 0 ∷ []) (t / 64) (2 ^ (t % 64)) }

-- a word whose lowest k bits are ones, all 64 where k is more
abbrev pub low_ones : ℕ → ℕ
low_ones k = 2 ^ min k 64 - 1

-- the tags below n, all 256 where n is more
unfoldable pub below_of : ℕ → TagSet
below_of n = record { words = low_ones n ∷ low_ones (n - 64) ∷ low_ones (n - 128) ∷ low_ones (n - 192) ∷ [] }

-- an operation on words, word by word
abbrev pub wordwise : (ℕ → ℕ → ℕ) → TagSet → TagSet → TagSet
wordwise f a b =
    record {
      words =
          f (get_or a.words 0 0) (get_or b.words 0 0)
          ∷ f (get_or a.words 1 0) (get_or b.words 1 0)
          ∷ f (get_or a.words 2 0) (get_or b.words 2 0)
          ∷ f (get_or a.words 3 0) (get_or b.words 3 0) ∷ [];
    }

-- the tags of both sets together
unfoldable pub union_of : TagSet → TagSet → TagSet
union_of a b = wordwise bit_or a b

-- the tags that are in both sets
unfoldable pub intersection_of : TagSet → TagSet → TagSet
intersection_of a b = wordwise bit_and a b

abbrev pub implies : Bool → Bool → Bool
implies a b = not a || b

-- how many numbers below n pass a test, whether all do, and whether any does
abbrev pub one : Bool → ℕ
one true = 1
one false = 0

unfoldable pub count_below : ℕ → (ℕ → Bool) → ℕ
count_below zero f = 0
count_below (suc n) f = one (f n) + count_below n f

unfoldable pub all_below : ℕ → (ℕ → Bool) → Bool
all_below zero f = true
all_below (suc n) f = f n && all_below n f

unfoldable pub any_below : ℕ → (ℕ → Bool) → Bool
any_below zero f = false
any_below (suc n) f = f n || any_below n f

-- every tag of a is in b
unfoldable pub subset_of : TagSet → TagSet → Bool
subset_of a b = all_below 256 (λ t. implies (has a t) (has b t))

-- the same tags are in both
unfoldable pub same_of : TagSet → TagSet → Bool
same_of a b = all_below 256 (λ t. beq (has a t) (has b t))

-- some tag of the set is n or more
unfoldable pub exceeds_of : TagSet → ℕ → Bool
exceeds_of s n = any_below 256 (λ t. leb n t && has s t)

-- how many tags the set has: the ones in its words (law `size-words`)
unfoldable pub size_of : TagSet → ℕ
size_of s = count_below 256 (has s)

-- four words of 64 bits each, as every set of the code has
pub record IsWords (s : TagSet) : Type 0 where
  pub four : length s.words ≡ 4
  pub fits : (i : ℕ) → get_or s.words i 0 < 2 ^ 64
