-- Part by part: where a part fails, a beginning of it stands after the parts before it. Assumes nothing.
use Rattle.std.proofs.KnownBytes.{Appends-trans}
use Rattle.stream.proofs.Writing.{Begins-part, Begins-after}
use Rattle.stream.proofs.try_say.Goals as goal

pub returns-in_err-write_whole-2-clause-begins : goal.returns-in_err-write_whole-2-clause-begins
returns-in_err-write_whole-2-clause-begins g c =
    let begun = Begins-after _ _ _ c.args.what.now _ c.in_ok-write_whole.ensures.whole c.write_whole-2.ensures.begins in
    Begins-part _ _ _ _ (Begins-part _ _ _ _ begun)

pub returns-in_err-write_whole-3-clause-begins : goal.returns-in_err-write_whole-3-clause-begins
returns-in_err-write_whole-3-clause-begins g c =
    let colon = Appends-trans _ _ _ c.args.what.now _ c.in_ok-write_whole.ensures.whole c.in_ok-write_whole-2.ensures.whole in
    Begins-part _ _ _ _ (Begins-after _ _ _ _ c.args.reason.now colon c.write_whole-3.ensures.begins)

pub returns-clause-begins : goal.returns-clause-begins
returns-clause-begins g c =
    let colon = Appends-trans _ _ _ c.args.what.now _ c.in_ok-write_whole.ensures.whole c.in_ok-write_whole-2.ensures.whole in
    let reason = Appends-trans _ _ _ _ c.args.reason.now colon c.in_ok-write_whole-3.ensures.whole in
    Begins-after _ _ _ _ _ reason c.write_whole-4.ensures.begins
