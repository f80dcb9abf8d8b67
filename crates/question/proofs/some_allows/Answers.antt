-- `some_allows` meets its contract: it tests each of the policy sets, which the words have. Assumes nothing.
use Rattle.std.proofs.Common.{ℕ, ◌≡◌, ◌∙◌, ◌+◌, ◌*◌, arith, rules, tests, ap}
use Rattle.std.proofs.lemmas.Iterator.{YieldsList-from_range}
use Rattle.std.proofs.lemmas.Iterator.Search.{any_from_yields_List}
use Rattle.tagset.specs.Set.{subset_of}
use Rattle.state.specs.State.{set_at}
use Rattle.tagstore.specs.Store.{load_of}
use Rattle.tagstore.specs.Laws.{load-whole}
use Rattle.question.specs.Laws.{any-range}
use Rattle.question.proofs.some_allows.Goals as goal

pub returns : goal.returns
returns c =
    let a = c.args in
    let place = λ (k : ℕ). set_at a.policies.now (4 * a.c + k) in
    any_from_yields_List (λ k. subset_of a.set (load_of a.policies.now (4 * a.c + k))) _ _ _ c.any.ensures.ran
    (YieldsList-from_range 0 a.count a.count (search rules) (omega arith)) (λ x b q k. search (rules, tests))
    ∙ any-range (subset_of a.set) a.count 0 place _
    (λ i k l e.
    let same : k ≡ i = omega (arith, e) in
    ap (subset_of a.set) (load-whole _ _ (omega (arith, l, e)) ∙ ap place same))
