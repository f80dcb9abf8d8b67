-- `propagate` meets its contract: its number of sets is `sets_in`. Assumes nothing.
use Rattle.std.proofs.Common.{◌≡◌, arith, rules}
use Rattle.propagation.specs.Pass.{sets_in, pass_count, sets_after, pairs_added}
use Rattle.propagation.proofs.propagate.Goals as goal

pub returns : goal.returns
unfolding sets_in pass_count sets_after pairs_added
returns c =
    let n : c.min-n.result ≡ sets_in c.args.containers c.args.tags.now =
    omega (arith, c.min-n.ensures, c.min-sets.ensures) in
    let passes = c.make_passes.ensures.passes in
    let sets = rw (passes, n) at c.make_passes.ensures.sets in
    record {
      sets = search (rules, c.make_passes.ensures.same, sets);
      passes = rw n at passes;
      gain = rw (passes, n) at c.make_passes.ensures.gain;
    }
