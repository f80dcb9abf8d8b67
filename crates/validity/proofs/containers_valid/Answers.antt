-- `containers_valid` meets its contract: it tests each number below n. Assumes nothing.
use Rattle.std.proofs.Common.{ℕ, ◌∙◌, ◌&&◌, refl, arith, rules, tests, get_or}
use Rattle.std.proofs.lemmas.Iterator.{YieldsList-from_range}
use Rattle.std.proofs.lemmas.Iterator.Search.{all_from_yields_List}
use Rattle.tagset.specs.Set.{has, subset_of}
use Rattle.state.specs.State.{set_at}
use Rattle.validity.specs.Scan.{policies_valid, containers_valid}
use Rattle.validity.specs.Scanned.{all-range}
use Rattle.validity.proofs.containers_valid.Goals as goal

pub returns-clause-valid : goal.returns-clause-valid
unfolding containers_valid
returns-clause-valid c =
    let a = c.args in
    let known = c.below-known.result in
    let valid = policies_valid known a.policies.now in
    let sound =
    λ (k : ℕ). let s = set_at a.tags.now k in has s k && (subset_of s known && valid k (get_or a.counts.now k 0)) in
    all_from_yields_List sound _ _ _ c.all.ensures.ran
    (YieldsList-from_range 0 a.n a.n refl (omega arith)) (λ x b q k. search (rules, tests))
    ∙ all-range a.n _ _ (λ k l. rw c.below-known.ensures refl)
