use Rattle.std.proofs.Common.{Some, [], Ok, codes, fold, take}
use Rattle.std.specs.Fmt.{◌++?◌, DisplaysOnOk}
use Rattle.sampleline.proofs.print.SpacedDisplay.fmt.Given as goal

-- what is written so far
abbrev pub invariant-loop-item : goal.invariant-loop-item
invariant-loop-item g l =
    DisplaysOnOk g.W.Write.write_str_gives l.initial.f (Ok tt)
    (fold (λ text item. text ++? (Some (codes " ") ++? g.T.Display.output item)) (Some []) (take l.item-index l.item-items)) l.f
