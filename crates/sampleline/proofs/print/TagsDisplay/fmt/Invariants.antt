use Rattle.std.proofs.Common.{◌++◌, codes, decimal, filter}
use Rattle.std.specs.List.{flat_map, range_with_len}
use Rattle.std.specs.Fmt.{HasWritten, IsPlainFormatter}
use Rattle.tagset.specs.Set.{has}
use Rattle.sampleline.proofs.print.TagsDisplay.fmt.Given as goal

-- the tags so far are written
abbrev pub invariant-loop-tag : goal.invariant-loop-tag
invariant-loop-tag g l =
    IsPlainFormatter l.initial.f → HasWritten g.W.Write.write_str_gives l.initial.f
    (flat_map (λ tag. codes " " ++ decimal tag) (filter (has l.set) (range_with_len 0 l.tag-counter))) l.f
