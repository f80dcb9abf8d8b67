-- Laws of decimal text: its digits, what they stand for, and how many there are.
-- Assumes nothing.
use Rattle.std.specs.Prelude.{◌≡◌, refl, ◌≢◌, List, [], ◌∷◌, ◌++◌, ℕ, zero, suc, ◌+◌, ◌-◌, ◌*◌, ◌/◌, ◌%◌, ◌^◌, ◌≤◌, ◌<◌, length, get_or}
use Rattle.std.proofs.Common.{ap, ◌∙◌, le_refl, lt_of_lt_of_le, div-lt_iff_lt-mul, pow-suc, arith, lit<, lit≤, length-append}
use Rattle.std.proofs.Math.Logic.{by_cases}
use Rattle.std.proofs.Math.Decide.{dec_lt}
use Rattle.std.proofs.Math.ListN.{get_or-append}
use Rattle.std.proofs.lemmas.List.{get_or_at}
use Rattle.leb128.specs.Base.{by-places, places-last, places-more}
use Rattle.decimal.specs.Decimal.{digits, decimal_of, number_of, read_on}

-- a number below 10 is one digit
pub decimal-last : (v : ℕ) → v < 10 → decimal_of v ≡ (48 + v) ∷ []
unfolding decimal_of digits
decimal-last =
    places-last 10 (lit< tt) (λ v. (48 + v) ∷ []) (λ v ds. ds ++ ((48 + v % 10) ∷ [])) digits (λ v. refl) (λ d v e. rw (e, digits)) (λ d v e. rw (e, digits))

-- any other is the digits of the number without its lowest digit, and then that digit
pub decimal-more : (v : ℕ) → 10 ≤ v → decimal_of v ≡ decimal_of (v / 10) ++ ((48 + v % 10) ∷ [])
unfolding decimal_of digits
decimal-more =
    places-more 10 (lit< tt) (λ v. (48 + v) ∷ []) (λ v ds. ds ++ ((48 + v % 10) ∷ [])) digits (λ v. refl) (λ d v e. rw (e, digits)) (λ d v e. rw (e, digits))

-- what holds of a number below 10, and of any other where it holds of the number without its lowest digit, holds of all
pub by_digits {ℓ} : (P : ℕ → Type ℓ) → ((v : ℕ) → v < 10 → P v) → ((v : ℕ) → 10 ≤ v → P (v / 10) → P v) → (v : ℕ) → P v
by_digits = by-places 10 (lit< tt)

-- how many digits there are where there are several
pub decimal-length : (v : ℕ) → 10 ≤ v → length (decimal_of v) ≡ length (decimal_of (v / 10)) + 1
decimal-length v h = ap length (decimal-more v h) ∙ length-append (decimal_of (v / 10)) ((48 + v % 10) ∷ [])

-- there is always a digit
pub decimal-some : (v : ℕ) → 1 ≤ length (decimal_of v)
decimal-some = by_digits (λ v. 1 ≤ length (decimal_of v)) (λ v h. rw decimal-last (le_refl 1)) (λ v h ih. omega (arith, decimal-length v h))

-- one digit more at the end of them
read_more : (v : ℕ) (ds : List ℕ) (d : ℕ) → read_on v (ds ++ (d ∷ [])) ≡ 10 * read_on v ds + (d - 48)
unfolding read_on
read_more v [] d = refl
read_more v (c ∷ ds) d = read_more (10 * v + (c - 48)) ds d

-- one digit more at the end multiplies by 10 and adds
pub number_more : (ds : List ℕ) (d : ℕ) → number_of (ds ++ (d ∷ [])) ≡ 10 * number_of ds + (d - 48)
unfolding number_of read_on
number_more ds d = read_more 0 ds d

-- read as a number, the digits of v give v
pub decimal-value : (v : ℕ) → number_of (decimal_of v) ≡ v
unfolding number_of
decimal-value = by_digits (λ v. number_of (decimal_of v) ≡ v) last more
  where
    last : (v : ℕ) → v < 10 → number_of (decimal_of v) ≡ v
    last v h = ap number_of (decimal-last v h) ∙ omega arith

    more : (v : ℕ) → 10 ≤ v → number_of (decimal_of (v / 10)) ≡ v / 10 → number_of (decimal_of v) ≡ v
    more v h ih = ap number_of (decimal-more v h) ∙ number_more (decimal_of (v / 10)) (48 + v % 10) ∙ omega arith

-- each element is one of `0` to `9`
abbrev AreDigits : List ℕ → Type 0
AreDigits ds = (k : ℕ) → k < length ds → (48 ≤ get_or ds k 0) × (get_or ds k 0 ≤ 57)

-- each digit is one of `0` to `9`
pub decimal_digit : (v k : ℕ) → k < length (decimal_of v) → (48 ≤ get_or (decimal_of v) k 0) × (get_or (decimal_of v) k 0 ≤ 57)
decimal_digit = by_digits (λ v. AreDigits (decimal_of v)) (λ v h. rw (decimal-last v h) (last v h)) (λ v h ih. rw (decimal-more v h) (more v ih))
  where
    last : (v : ℕ) → v < 10 → AreDigits ((48 + v) ∷ [])
    last v h zero l = omega arith
    last v h (suc k) l = absurd (omega arith)

    more : (v : ℕ) → AreDigits (decimal_of (v / 10)) → AreDigits (decimal_of (v / 10) ++ ((48 + v % 10) ∷ []))
    more v ih k l =
        by_cases (dec_lt k (length (decimal_of (v / 10))))
        (λ p. rw (get_or-append (decimal_of (v / 10)) ((48 + v % 10) ∷ []) 0 k p) (ih k p))
        (λ n. rw (get_or_at (decimal_of (v / 10)) (48 + v % 10) [] 0 k (omega (arith, length-append (decimal_of (v / 10)) ((48 + v % 10) ∷ [])))) (omega arith))

-- the digits of a number other than 0 do not begin with `0`
front : (v : ℕ) → 1 ≤ v → get_or (decimal_of v) 0 0 ≢ 48
front = by_digits (λ v. 1 ≤ v → get_or (decimal_of v) 0 0 ≢ 48) last more
  where
    last : (v : ℕ) → v < 10 → 1 ≤ v → get_or (decimal_of v) 0 0 ≢ 48
    last v h p = rw (decimal-last v h) (λ e. omega arith)

    more : (v : ℕ) → 10 ≤ v → (1 ≤ v / 10 → get_or (decimal_of (v / 10)) 0 0 ≢ 48) → 1 ≤ v → get_or (decimal_of v) 0 0 ≢ 48
    more v h ih p =
        rw (decimal-more v h, get_or-append (decimal_of (v / 10)) ((48 + v % 10) ∷ []) 0 0 (decimal-some (v / 10))) (ih (omega arith))

-- several digits do not begin with `0`
pub decimal-front : (v : ℕ) → 10 ≤ v → get_or (decimal_of v) 0 0 ≢ 48
decimal-front v h = front v (omega arith)

-- a number below 10 ^ k takes at most k digits
pub decimal-below : (v k : ℕ) → v < 10 ^ k → 1 ≤ k → length (decimal_of v) ≤ k
decimal-below = by_digits (λ v. (k : ℕ) → v < 10 ^ k → 1 ≤ k → length (decimal_of v) ≤ k) last more
  where
    last : (v : ℕ) → v < 10 → (k : ℕ) → v < 10 ^ k → 1 ≤ k → length (decimal_of v) ≤ k
    last v h k l p = rw (decimal-last v h) p

    more :
        (v : ℕ) → 10 ≤ v → ((k : ℕ) → v / 10 < 10 ^ k → 1 ≤ k → length (decimal_of (v / 10)) ≤ k)
        → (k : ℕ) → v < 10 ^ k → 1 ≤ k → length (decimal_of v) ≤ k
    more v h ih zero l p = absurd (omega arith)
    more v h ih (suc zero) l p = absurd (omega arith)
    more v h ih (suc (suc k)) l p =
        omega (arith, decimal-length v h, ih (suc k) ((div-lt_iff_lt-mul {k = 10} (lit< tt)).1 (rw pow-suc at l)) (omega arith))

-- no power of ten is 0
tens : (k : ℕ) → 0 < 10 ^ k
tens zero = lit< tt
tens (suc k) = omega (arith, pow-suc 10 k, tens k)

-- and any other takes more than k
pub decimal-above : (v k : ℕ) → 10 ^ k ≤ v → k < length (decimal_of v)
decimal-above = by_digits (λ v. (k : ℕ) → 10 ^ k ≤ v → k < length (decimal_of v)) last more
  where
    last : (v : ℕ) → v < 10 → (k : ℕ) → 10 ^ k ≤ v → k < length (decimal_of v)
    last v h zero l = decimal-some v
    last v h (suc k) l = absurd (omega (arith, pow-suc 10 k, tens k))

    more : (v : ℕ) → 10 ≤ v → ((k : ℕ) → 10 ^ k ≤ v / 10 → k < length (decimal_of (v / 10))) → (k : ℕ) → 10 ^ k ≤ v → k < length (decimal_of v)
    more v h ih zero l = decimal-some v
    more v h ih (suc k) l = omega (arith, decimal-length v h, ih k (omega (arith, pow-suc 10 k)))

-- a number below 1000 takes at most three digits
pub decimal-3 : (v : ℕ) → v < 1000 → length (decimal_of v) ≤ 3
decimal-3 v h = decimal-below v 3 h (lit≤ tt)

-- a number of 64 bits takes at most twenty digits
pub decimal-20 : (v : ℕ) → v < 2 ^ 64 → length (decimal_of v) ≤ 20
decimal-20 v h = decimal-below v 20 (lt_of_lt_of_le h (lit≤ tt)) (lit≤ tt)
