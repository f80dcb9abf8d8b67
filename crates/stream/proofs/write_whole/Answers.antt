-- What a write takes comes behind what was written so far. Assumes nothing.
use Rattle.std.proofs.Common.{rules}
use Rattle.stream.proofs.Writing.{more-written}
use Rattle.stream.proofs.write_whole.Goals as goal

pub loop-done-preserved-in-Ok : goal.loop-done-preserved-in-Ok
loop-done-preserved-in-Ok g c =
    let at = c.loop-done in
    record {
      wrote = more-written _ _ _ c.args.text.now at.done c.in-Ok.more at.invariant.wrote c.in-Ok.ensures.bytes;
      within = search rules;
    }
