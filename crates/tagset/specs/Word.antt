-- Tests of two words that are tests of their bits, and what is left of a word. What the words of a set say of its tags:
-- proofs/Word.antt. Assumes nothing.
use Rattle.std.specs.Prelude.{◌≡◌, Bool, true, List, [], ◌∷◌, ℕ, ◌-◌, ◌^◌, ◌<◌, eqb, get_or}
use Rattle.std.specs.Int.Bits.{bit_and}
use Rattle.tagset.specs.declared.TagSet.{TagSet}
use Rattle.tagset.specs.Set.{bit_at}

-- four words of 0
abbrev pub zeros : List ℕ
zeros = 0 ∷ 0 ∷ 0 ∷ 0 ∷ []

-- d tests two words as r tests their bits, one by one
pub record Tests (r : Bool → Bool → Bool) (d : ℕ → ℕ → Bool) : Type 0 where
  pub none : d 0 0 ≡ true
  pub bits : (x y k : ℕ) → d x y ≡ true → r (bit_at x k) (bit_at y k) ≡ true
  pub back : (x y : ℕ) → x < 2 ^ 64 → y < 2 ^ 64 → ((k : ℕ) → k < 64 → r (bit_at x k) (bit_at y k) ≡ true) → d x y ≡ true

-- a word has no bit that the other lacks
abbrev pub within : ℕ → ℕ → Bool
within x y = eqb (bit_and x y) x

-- what is left of word q of a set without what another has of it
abbrev pub left : TagSet → TagSet → ℕ → ℕ
left a b q = get_or a.words q 0 - bit_and (get_or a.words q 0) (get_or b.words q 0)
