-- Bit k of a number, lowest first, and what the bit operations and a count of set bits are in terms of it.
-- Assumes nothing.
use Rattle.std.specs.Prelude.{◌≡◌, refl, Bool, true, false, ◌&&◌, ◌||◌, ℕ, zero, suc, ◌+◌, ◌*◌, ◌-◌, ◌/◌, ◌%◌, ◌^◌, ◌<◌, eqb, ltb}
use Rattle.std.proofs.Common.{sym, ap, ap₂, ◌∙◌, mod-lt, mod-eq_of_lt, not-suc-le-zero, le_of_suc-le-suc, le_refl, lt_trans, lt_of_lt_of_le, one-mul, pow-suc, add-zero, one-add, arith, lit<, pow_pos, pow_mono, pow-add, eqb-true, ne_eqb, ltb-true, ltb-false}
use Rattle.std.proofs.Math.Nat.{mod-mod, mod-one, mul-mod_left, div-eq_of_lt, zero-div}
use Rattle.std.proofs.Math.Arith.{dbl_pred, digits_mod, lt_of_le-ne}
use Rattle.std.specs.Int.Bits.{bit_or, bit_and}
use Rattle.std.proofs.lemmas.Nat.{or_shr, or_mod, and_shr, and_mod, mod-pow-add, ones_cat}
use Rattle.std.proofs.Math.Pow.{pow-lt, high, ones_lt, ones_split}
use Rattle.std.specs.Int.Count.{ones}
use borrow.Table.Steps.{cases}
use Rattle.std.proofs.lemmas.Bool.{eqb-false}
use Rattle.tagset.specs.Set.{one, count_below, bit_at}

-- a number below 2 is 0 or 1
digit : (P : ℕ → Type 0) → P 0 → P 1 → (d : ℕ) → d < 2 → P d
digit P p q zero h = p
digit P p q (suc zero) h = q
digit P p q (suc (suc d)) h = absurd (not-suc-le-zero (le_of_suc-le-suc (le_of_suc-le-suc h)))

digits : (P : ℕ → ℕ → Type 0) → P 0 0 → P 0 1 → P 1 0 → P 1 1 → (p q : ℕ) → p < 2 → q < 2 → P p q
digits P a b c d p q h g = digit (λ x. P x q) (digit (P 0) a b q g) (digit (P 1) c d q g) p h

two_pos : 0 < 2
two_pos = lit< tt

-- every bit of 0 is clear
pub bit-zero : (k : ℕ) → bit_at 0 k ≡ false
unfolding bit_at
bit-zero k = ap (λ (x : ℕ). eqb (x % 2) 1) (zero-div (2 ^ k))

-- an operation f on numbers that works bit by bit, as g does
bit-of : (f : ℕ → ℕ → ℕ) (g : Bool → Bool → Bool)
    → ((a b k : ℕ) → f a b / 2 ^ k ≡ f (a / 2 ^ k) (b / 2 ^ k))
    → ((a b k : ℕ) → f a b % 2 ^ k ≡ f (a % 2 ^ k) (b % 2 ^ k))
    → ((p q : ℕ) → p < 2 → q < 2 → eqb (f p q % 2) 1 ≡ g (eqb p 1) (eqb q 1))
    → (a b k : ℕ) → bit_at (f a b) k ≡ g (bit_at a k) (bit_at b k)
unfolding bit_at
bit-of f g shr low at a b k =
    ap (λ (x : ℕ). eqb (x % 2) 1) (shr a b k)
    ∙ ap (λ (x : ℕ). eqb x 1) (sym (mod-mod (f (a / 2 ^ k) (b / 2 ^ k)) 2) ∙ ap (λ (x : ℕ). x % 2) (low (a / 2 ^ k) (b / 2 ^ k) 1))
    ∙ at (a / 2 ^ k % 2) (b / 2 ^ k % 2) (mod-lt (a / 2 ^ k) two_pos) (mod-lt (b / 2 ^ k) two_pos)

pub bit-or : (a b k : ℕ) → bit_at (bit_or a b) k ≡ bit_at a k || bit_at b k
bit-or = bit-of bit_or ◌||◌ or_shr or_mod (digits (λ p q. eqb (bit_or p q % 2) 1 ≡ eqb p 1 || eqb q 1) refl refl refl refl)

pub bit-and : (a b k : ℕ) → bit_at (bit_and a b) k ≡ bit_at a k && bit_at b k
bit-and = bit-of bit_and ◌&&◌ and_shr and_mod (digits (λ p q. eqb (bit_and p q % 2) 1 ≡ eqb p 1 && eqb q 1) refl refl refl refl)

-- a digit is told by its test
same-digit : (p q : ℕ) → p < 2 → q < 2 → eqb p 1 ≡ eqb q 1 → p ≡ q
same-digit =
    digits (λ p q. eqb p 1 ≡ eqb q 1 → p ≡ q) (λ e. refl) (λ e. eqb-true 0 1 e) (λ e. sym (eqb-true 0 1 (sym e))) (λ e. refl)

-- the low k + 1 digits are digit k and the low k
low-suc : (n k : ℕ) → n % 2 ^ suc k ≡ (n / 2 ^ k % 2) * 2 ^ k + n % 2 ^ k
low-suc n k = ap (λ (x : ℕ). n % 2 ^ x) (sym (one-add k)) ∙ mod-pow-add n 1 k

low-ext : (n x y : ℕ) → ((k : ℕ) → k < n → bit_at x k ≡ bit_at y k) → x % 2 ^ n ≡ y % 2 ^ n
unfolding bit_at
low-ext zero x y h = omega arith
low-ext (suc n) x y h =
    low-suc x n
    ∙ ap₂ (λ (p q : ℕ). p * 2 ^ n + q)
    (same-digit (x / 2 ^ n % 2) (y / 2 ^ n % 2) (mod-lt (x / 2 ^ n) two_pos) (mod-lt (y / 2 ^ n) two_pos) (h n (le_refl (suc n))))
    (low-ext n x y (λ k g. h k (lt_trans g (le_refl (suc n)))))
    ∙ sym (low-suc y n)

-- numbers of n digits with the same bits are the same
pub bits-ext : (n x y : ℕ) → x < 2 ^ n → y < 2 ^ n → ((k : ℕ) → k < n → bit_at x k ≡ bit_at y k) → x ≡ y
bits-ext n x y hx hy h = sym (mod-eq_of_lt hx) ∙ low-ext n x y h ∙ mod-eq_of_lt hy

ones-digit : (d : ℕ) → d < 2 → ones d ≡ one (eqb d 1)
unfolding ones
ones-digit = digit (λ d. ones d ≡ one (eqb d 1)) refl refl

ones_low : (k n : ℕ) → ones (n % 2 ^ k) ≡ count_below k (bit_at n)
unfolding count_below bit_at ones
ones_low zero n = ap ones (mod-one n)
ones_low (suc k) n =
    ap ones (low-suc n k)
    ∙ ones_cat k (n / 2 ^ k % 2) (n % 2 ^ k) (mod-lt n (pow_pos k))
    ∙ ap₂ (λ (x y : ℕ). x + y) (ones-digit (n / 2 ^ k % 2) (mod-lt (n / 2 ^ k) two_pos)) (ones_low k n)

-- the set digits of a number of k digits are the places below k that have one
pub ones-count : (k n : ℕ) → n < 2 ^ k → ones n ≡ count_below k (bit_at n)
ones-count k n h = ap ones (sym (mod-eq_of_lt h)) ∙ ones_low k n

-- a number below 2 ^ k has bit k clear
bit_past : (n k : ℕ) → n < 2 ^ k → bit_at n k ≡ false
unfolding bit_at
bit_past n k h = ap (λ (x : ℕ). eqb (x % 2) 1) (div-eq_of_lt h)

-- bit k of h * 2 ^ k + l, l below 2 ^ k, is the lowest bit of h
bit_high : (h k l : ℕ) → l < 2 ^ k → bit_at (h * 2 ^ k + l) k ≡ eqb (h % 2) 1
unfolding bit_at
bit_high h k l g = ap (λ (x : ℕ). eqb (x % 2) 1) (high h k g)

-- 2 ^ j has bit j and no other
pub bit-pow : (j k : ℕ) → bit_at (2 ^ j) k ≡ eqb k j
bit-pow j k =
    cases (ltb k j) (λ e. below (ltb-true k j e)) (λ e.
    cases (eqb k j) (λ q. here (eqb-true k j q) ∙ sym q) (λ q.
    bit_past (2 ^ j) k (pow-lt (lt_of_le-ne (ltb-false k j e) (λ p. eqb-false k j q (sym p)))) ∙ sym q))
  where
    at : (h i : ℕ) → bit_at (h * 2 ^ i) i ≡ eqb (h % 2) 1
    at h i = ap (λ (x : ℕ). bit_at x i) (sym (add-zero (h * 2 ^ i))) ∙ bit_high h i 0 (pow_pos i)

    here : k ≡ j → bit_at (2 ^ j) k ≡ true
    here e = ap₂ bit_at (sym (one-mul (2 ^ j))) e ∙ at 1 j

    below : k < j → bit_at (2 ^ j) k ≡ eqb k j
    below l =
        let m : ℕ = j - suc k in
        let e : j ≡ suc m + k = omega arith in
        ap (λ (x : ℕ). bit_at x k) (ap (λ (x : ℕ). 2 ^ x) e ∙ pow-add 2 (suc m) k) ∙ at (2 ^ suc m) k
        ∙ ap (λ (x : ℕ). eqb x 1) (ap (λ (x : ℕ). x % 2) (pow-suc 2 m) ∙ mul-mod_left (2 ^ m) 2)
        ∙ sym (ne_eqb k j (λ q. omega arith))

-- 2 ^ j - 1 has the bits below j and no other
pub bit-ones : (j k : ℕ) → bit_at (2 ^ j - 1) k ≡ ltb k j
bit-ones j k =
    cases (ltb k j) (λ e. below (ltb-true k j e) ∙ sym e)
    (λ e. bit_past (2 ^ j - 1) k (lt_of_lt_of_le (ones_lt j) (pow_mono (ltb-false k j e))) ∙ sym e)
  where
    below : k < j → bit_at (2 ^ j - 1) k ≡ true
    below l =
        let m : ℕ = j - suc k in
        let e : j ≡ suc m + k = omega arith in
        ap (λ (x : ℕ). bit_at x k) (ap (λ (x : ℕ). 2 ^ x - 1) e ∙ ones_split (suc m) k)
        ∙ bit_high (2 ^ suc m - 1) k (2 ^ k - 1) (ones_lt k)
        ∙ ap (λ (x : ℕ). eqb (x % 2) 1) (ap (λ (x : ℕ). x - 1) (pow-suc 2 m) ∙ dbl_pred (pow_pos m))
        ∙ ap (λ (x : ℕ). eqb x 1) (digits_mod (2 ^ m - 1) {m = 2} {r = 1} (lit< tt))
