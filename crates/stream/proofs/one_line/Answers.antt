-- One byte more is as it is shown. Assumes nothing.
use Rattle.std.proofs.Common.{◌<◌, length, ap, ◌∙◌, rules, set}
use Rattle.std.proofs.lemmas.List.{get_or_default}
use Rattle.std.proofs.lemmas.List.Edits.{map_over_more}
use Rattle.stream.specs.Stream.{visible_byte}
use Rattle.stream.proofs.one_line.Goals as goal

pub loop-b-preserved : goal.loop-b-preserved
loop-b-preserved c =
    let at = c.loop-b in
    let within : at.b-index < length at.name = search rules in
    let as_shown = map_over_more visible_byte c.args.name.now at.name at.b-index _ (search rules) at.invariant (get_or_default at.name at.b-index 0 _ within) in
    ap (set at.name at.b-index) c.visible.ensures ∙ as_shown
