-- The digits are written where they fit, and the position goes on by their number. Assumes nothing.
use Rattle.std.proofs.Common.{refl, ap, ℕ, ◌+◌, arith}
use Rattle.decimal.specs.Decimal.{decimal_of}
use Rattle.decimal.proofs.Laws.{decimal-20}
use Rattle.report.specs.Put.{put-write}
use Rattle.report.proofs.Sheet.decimal.Goals as goal

pub overflow_add-self : goal.overflow_add-self
overflow_add-self c = omega (arith, c.decimal_len.ensures, decimal-20 c.args.value c.ranges.value.fits)

pub returns : goal.returns
returns c =
    let s = c.args.self.now in
    record {
      same_output = refl;
      put =
          put-write s.out.now s.at (decimal_of c.args.value) c.write_decimal.ensures
          (ap (λ (k : ℕ). s.at + k) c.decimal_len.ensures);
    }
