-- The lines, and then the last. Assumes nothing.
use Rattle.std.proofs.Common.{arith}
use Rattle.tallytext.proofs.Pieces.{lines-length}
use Rattle.report.specs.Sheet.{puts-append}
use Rattle.report.proofs.Sheet.report.Goals as goal

pub last_line-requires : goal.last_line-requires
last_line-requires c =
    let l = lines-length c.args.order.now c.args.tags.now (λ k i. omega (arith, (c.requires.1.1 k i).0)) in
    omega (arith, l, c.lines.ensures.put.after, c.requires.1.0)

pub returns : goal.returns
returns c = puts-append c.lines.ensures c.last_line.ensures
