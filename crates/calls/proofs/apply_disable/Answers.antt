-- A flow that is not found is refused; one that is found is removed from its place. Assumes nothing.
use Rattle.std.proofs.Common.{rules, ◌≡◌, ◌≤◌, List, [], ℕ, min, Option, None, Some, Err, take, drop, length, length-take, ◌++◌, arith, sym, ap, ◌∙◌}
use Rattle.std.proofs.lemmas.List.{take_min}
use Rattle.refusal.specs.declared.Refusal.TheVariants.{NotEnabled}
use Rattle.model.specs.declared.Flow.{Flow}
use Rattle.state.specs.State.{state_of, flows_of}
use Rattle.flowtable.specs.FlowTable.{found_in, removed_at}
use Rattle.flowtable.specs.Laws.{removed-front}
use Rattle.calls.specs.UnjudgedBranches.{not-enabled, some-enabled, disables}
use Rattle.calls.proofs.apply_disable.Goals as goal

-- what is found among the records in use, of which the table may have fewer than are counted
found : {r : Option ℕ} (k count used : ℕ) (table : List Flow) → used ≡ min count (length table)
    → r ≡ found_in k (take used table) → r ≡ found_in k (take count table)
found k count used table u e = e ∙ ap (found_in k) (ap (λ (n : ℕ). take n table) u ∙ take_min count table)

-- and it is removed from the table by its removal from the first records
removed : {fs : List Flow} (place end : ℕ) (table : List Flow) → end ≤ length table
    → fs ≡ removed_at place (length (take end table)) (take end table) → fs ++ drop end table ≡ removed_at place end table
removed place end table h e =
    let l : length (take end table) ≡ end = omega (arith, length-take end table) in
    rw (e, l) (removed-front place end table)

pub returns-in_err-place : goal.returns-in_err-place
unfolding flows_of
returns-in_err-place c =
    let a = c.args in
    let e : c.from_residual.result ≡ Err c.in_err-place.field-0.0 = search rules in
    let n : (c.find.result ≡ None) × (c.in_err-place.field-0.0 ≡ NotEnabled) = search rules in
    let f = sym n.0 ∙ found a.number a.header.count c.min-used.result a.flows.now (omega arith) c.find.ensures in
    λ tags policies counts.
    rw (e, n.1) (sym (not-enabled (state_of a.header tags policies counts a.flows.now) a.number f))

pub overflow_sub-result : goal.overflow_sub-result
unfolding flows_of
overflow_sub-result c =
    let a = c.args in
    let e : c.find.result ≡ Some c.in_ok-place.place = search rules in
    let f = sym e ∙ found a.number a.header.count c.min-used.result a.flows.now (omega arith) c.find.ensures in
    some-enabled (state_of a.header [] [] [] a.flows.now) a.number f

pub returns : goal.returns
unfolding flows_of
returns c =
    let a = c.args in
    let e : c.find.result ≡ Some c.in_ok-place.place = search rules in
    let f = sym e ∙ found a.number a.header.count c.min-used.result a.flows.now (omega arith) c.find.ensures in
    let t = removed c.in_ok-place.place c.min.result a.flows.now (omega arith) c.remove.ensures in
    λ tags policies counts.
    disables (state_of a.header tags policies counts a.flows.now) a.number c.min.result (omega arith) f t
