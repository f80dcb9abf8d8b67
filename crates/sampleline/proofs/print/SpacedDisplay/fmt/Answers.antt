-- One more item adds a space and its text.
use Rattle.std.proofs.Common.{◌≡◌, ◌+◌, ◌<◌, ℕ, List, [], Option, Some, Ok, codes, fold, take, get_or, length}
use Rattle.std.specs.Fmt.{◌++?◌}
use Rattle.std.proofs.Output.{displays_on_IsOk_append, displays_on_ok_of_eq}
use Rattle.std.proofs.lemmas.List.Sums.{fold_more}
use Rattle.sampleline.proofs.print.SpacedDisplay.fmt.Goals as goal

-- of a fold whose step adds a text to the text so far
one_more : {A : Type 0} (text : A → Option (List ℕ)) (xs : List A) (i : ℕ) (x : A) → i < length xs → x ≡ get_or xs i x
    → fold (λ o x. o ++? text x) (Some []) (take i xs) ++? text x ≡ fold (λ o x. o ++? text x) (Some []) (take (i + 1) xs)
one_more text xs i x below is = let e = fold_more (λ o x. o ++? text x) (Some []) xs i x below in cc

pub loop-item-preserved : goal.loop-item-preserved
loop-item-preserved g c =
    let text = λ (item : g.row.T.Denot). Some (codes " ") ++? g.T.Display.output item in
    displays_on_ok_of_eq g.W.Write.write_str_gives c.args.f.now c.write.new.self (Ok tt) _ _
    (one_more text _ c.loop-item.item-index _ c.loop-item-test.true c.item-item.is)
    (displays_on_IsOk_append g.W.Write.write_str_gives c.args.f.now c.loop-item.f c.write.new.self (Ok tt) (Ok tt) _ _
    (λ e. e) c.loop-item.invariant c.in_ok-write.ensures.writes)
