-- Each byte of a decimal is one of `0` to `9`, and its digits before a place stand for no more than all of them.
use Rattle.std.proofs.Common.{◌≡◌, ℕ, ◌+◌, ◌-◌, ◌*◌, ◌%◌, ◌<◌, ◌^◌, List, length, get_or, take, decimal, arith, sym, subst}
use Rattle.std.specs.Str.Parse.{AllDigits, digits_value}
use Rattle.std.specs.Int.{IsInRange}
use Rattle.std.proofs.lemmas.Fmt.{decimal_is_IsNumeral}
use Rattle.std.proofs.lemmas.Int.Digits.{digits_value_more}
use Rattle.std.proofs.lemmas.Str.{digit_value_digit}
use Rattle.std.proofs.lemmas.Str.Parse.{digit_at, digits_value-take-le}
use Rattle.std.proofs.lemmas.Grind.{common_steps}
use Rattle.sampleline.proofs.number_of.Goals as goal

-- a byte of a decimal
digit_of : (n i : ℕ) (ds : List ℕ) → n < 2 ^ 64 → ds ≡ decimal n → i < length ds → IsInRange 48 57 (get_or ds i 0)
digit_of n i ds small is within = digit_at ds i (subst (AllDigits 10) (sym is) (decimal_is_IsNumeral n small).0.1) within

-- the number of a decimal's digits
value_of : (n : ℕ) (ds : List ℕ) → n < 2 ^ 64 → ds ≡ decimal n → digits_value 10 ds ≡ n
value_of n ds small is = subst (λ l. digits_value 10 l ≡ n) (sym is) (decimal_is_IsNumeral n small).1

-- one digit more
step : (n i v d : ℕ) (ds : List ℕ) → n < 2 ^ 64 → ds ≡ decimal n → i < length ds → v ≡ digits_value 10 (take i ds) → d ≡ (get_or ds i 0 - 48) % 10
    → (v * 10 % 2 ^ 64 + d) % 2 ^ 64 ≡ digits_value 10 (take (i + 1) ds)
step n i v d ds small is within so_far digit =
    let r = digit_of n i ds small is within in
    omega (arith, value_of n ds small is, digits_value-take-le 10 ds (i + 1) (omega arith), digits_value_more 10 ds i within, digit_value_digit _ r)

pub loop-byte-preserved : goal.loop-byte-preserved
loop-byte-preserved c n small is =
    step n c.loop-byte.byte-index c.loop-byte.value c.from.result c.args.digits.now small is (omega arith) (c.loop-byte.invariant n small is) (grind (arith, common_steps))

pub returns-after-loop-byte : goal.returns-after-loop-byte
returns-after-loop-byte c n small is = grind (arith, common_steps, value_of n c.args.digits.now small is, c.loop-byte.invariant n small is)

pub returns-in_default : goal.returns-in_default
returns-in_default c n small is =
    grind (arith, common_steps, digit_of n c.loop-byte.byte-index c.args.digits.now small is (omega arith))
