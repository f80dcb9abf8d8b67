-- `policies_valid` meets its contract: it tests each of the four places. Assumes nothing.
use Rattle.std.proofs.Common.{◌&&◌, ◌∙◌, ◌+◌, ◌*◌, ap, ap₂, arith, cond, ltb, leb}
use Rattle.tagset.specs.Set.{empty_set, subset_of}
use Rattle.state.specs.State.{set_at}
use Rattle.validity.specs.Scan.{policies_valid}
use Rattle.validity.specs.Scanned.{four}
use Rattle.validity.proofs.policies_valid.Goals as goal

pub returns : goal.returns
unfolding policies_valid
returns c =
    let a = c.args in
    let set = set_at a.policies.now in
    let first = c.is_subset.ensures ∙ ap₂ subset_of (c.set_at.ensures ∙ ap set (omega arith)) c.allowed.ensures in
    let second = c.is_subset-2.ensures ∙ ap₂ subset_of c.set_at-2.ensures c.allowed-2.ensures in
    let third = c.is_subset-3.ensures ∙ ap₂ subset_of c.set_at-3.ensures c.allowed-3.ensures in
    let fourth = c.is_subset-4.ensures ∙ ap₂ subset_of c.set_at-4.ensures c.allowed-4.ensures in
    (λ i. leb a.count 4 && first i && second i && third i && fourth i)
    ∙ four (leb a.count 4) (λ k. subset_of (set (4 * a.c + k)) (cond (ltb k a.count) a.known empty_set))
