-- `position` gives the first place whose flow has the number (`place_of`), where one has it (`place-enabled`). Assumes
-- nothing.
use Rattle.std.proofs.Common.{rules, tests, ◌≡◌, refl, ap, ◌∙◌, List, ℕ, eqb, cond, arith}
use Rattle.std.specs.List.{position}
use Rattle.std.proofs.lemmas.Iterator.{YieldsList-from_slice}
use Rattle.std.proofs.lemmas.Iterator.Search.{position_from_yields_List}
use Rattle.std.proofs.lemmas.List.Recursion.{is_position_or_len}
use Rattle.model.specs.declared.Flow.{Flow}
use Rattle.flowtable.specs.FlowTable.{place_of, found_in}
use Rattle.flowtable.specs.Laws.{place-enabled}
use Rattle.flowtable.proofs.find.Goals as goal

found-position : (number : ℕ) (fs : List Flow) → position (λ f. eqb f.number number) fs ≡ found_in number fs
unfolding place_of found_in
found-position number fs =
    let test = λ (f : Flow). eqb f.number number in
    let first = is_position_or_len (place_of number) test refl (λ f gs. ap (cond (test f) 0) (omega arith)) fs in
    rw (place-enabled number fs, first) refl

pub returns : goal.returns
returns c =
    let flows = c.args.flows.now in
    position_from_yields_List _ _ _ _ c.position.ensures.ran (YieldsList-from_slice flows cc)
    (λ x b q k. search (rules, tests))
    ∙ found-position c.args.number flows
