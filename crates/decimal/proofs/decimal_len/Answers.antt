-- A number takes one digit more than its logarithm, and 0 takes one. Assumes nothing.
use Rattle.std.specs.Prelude.{◌≡◌, ℕ, suc, ◌+◌, ◌*◌, ◌^◌, ◌<◌, ◌≤◌, length, Option, None, Some, IfNone, IfSome, unwrap_or}
use Rattle.std.proofs.Common.{sym, ap, ◌∙◌, arith, pow-suc, lit<}
use Rattle.decimal.specs.Decimal.{decimal_of}
use Rattle.decimal.proofs.Laws.{decimal-last, decimal-below, decimal-above}
use Rattle.decimal.proofs.decimal_len.Goals as goal

counted : (v : ℕ) (log : Option ℕ) → IfNone log (v ≡ 0) → IfSome log (λ k. 10 ^ k ≤ v) → IfSome log (λ k. v < 10 * 10 ^ k) → unwrap_or log 0 + 1 ≡ length (decimal_of v)
counted v None z h l = sym (ap length (ap decimal_of z ∙ decimal-last 0 (lit< tt)))
counted v (Some k) z h l = omega (arith, decimal-above v k h, decimal-below v (suc k) (omega (arith, pow-suc 10 k)) (omega arith))

pub returns : goal.returns
returns c =
    let e = c.checked_ilog10.ensures in
    ap (λ (k : ℕ). k + 1) c.unwrap_or.ensures ∙ counted c.args.value c.checked_ilog10.result e.none e.power_le e.next_power_gt

pub returns-then-value-lt10 : goal.returns-then-value-lt10
returns-then-value-lt10 c = sym (ap length (decimal-last c.args.value c.if-value-lt10.true))
