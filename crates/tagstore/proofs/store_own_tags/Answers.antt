-- Invariant: after c turns the first c sets are their containers' own tags and the rest is as it was. Assumes nothing.
use Rattle.std.proofs.Common.{refl, ◌∙◌, arith, ◌+◌, ◌*◌, ◌≤◌, length}
use Rattle.tagset.specs.Set.{single_of}
use Rattle.model.specs.Reach.{tabulate}
use Rattle.state.specs.State.{with_sets}
use Rattle.tagstore.specs.Laws.{store-whole}
use Rattle.tagstore.proofs.Put.{sets_more}
use Rattle.tagstore.proofs.store_own_tags.Goals as goal

pub loop-c-init : goal.loop-c-init
unfolding with_sets tabulate
loop-c-init c = refl

pub loop-c-preserved : goal.loop-c-preserved
loop-c-preserved c =
    let k = c.loop-c.c in
    let h : 4 * k + 4 ≤ length c.loop-c.words = omega arith in
    let g : 4 * k + 4 ≤ length c.args.words.now = omega arith in
    c.store_set.ensures ∙ store-whole _ k _ h ∙ rw (c.loop-c.invariant, c.single.ensures) (sets_more k single_of _ g)
