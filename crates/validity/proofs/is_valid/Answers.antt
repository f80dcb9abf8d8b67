-- `is_valid` meets its contract: the clauses in the order in which the storage is read are those of a valid state, and the first that fails decides.
-- Assumes nothing.
use Rattle.std.proofs.Common.{Bool, ◌≡◌, ◌&&◌, ◌∙◌, refl, sym, ◌+◌, ◌-◌, ◌≤◌, ℕ, arith, rules, tests, le-leb, drop, take, List}
use Rattle.std.proofs.lemmas.Bool.{false≢true}
use Rattle.std.specs.List.{list_all}
use Rattle.std.proofs.lemmas.List.{drop-take}
use Rattle.std.proofs.lemmas.Iterator.{YieldsList-from_slice}
use Rattle.std.proofs.lemmas.Iterator.Search.{all_from_yields_List}
use Rattle.std.proofs.lemmas.List.Recursion.{same_from_clauses}
use borrow.Table.Steps.{cases}
use Rattle.model.specs.declared.Flow.{Flow}
use Rattle.state.specs.State.{state_in, flows_of}
use Rattle.state.specs.Valid.{all_of, is_no_flow, valid_of}
use Rattle.state.proofs.IsValid.{valid}
use Rattle.validity.specs.Scanned.{scanned}
use Rattle.validity.proofs.is_valid.Goals as goal
use Rattle.validity.proofs.is_valid.Goals.{then-containers_valid, else-containers_valid}

-- every element passes, in the library's word
all-passes : (p : Flow → Bool) (fs : List Flow) → list_all p fs ≡ all_of p fs
unfolding all_of
all-passes p fs = same_from_clauses (list_all p) (all_of p) (λ f b. p f && b) refl (λ _ _. refl) (λ _ _. refl) fs

-- the records from one place up to another, where these are the count and 512
part : (count first end : ℕ) (fs : List Flow) → first ≡ count → end ≡ 512 → count ≤ 512
    → take (end - first) (drop first fs) ≡ drop count (take 512 fs)
part count first end fs p q l =
    let whole : count + (512 - count) ≡ 512 = omega (arith, l) in
    rw (p, q) (sym (rw whole at (drop-take count (512 - count) fs)))

pub returns-then-t-gt512 : goal.returns-then-t-gt512
returns-then-t-gt512 c =
    let s = state_in c.args.t.now in
    cases (valid_of s) (λ e. absurd (omega (arith, ((valid s).0 e).table-count))) (λ e. sym e)

pub returns-then-flows_valid : goal.returns-then-flows_valid
unfolding flows_of
returns-then-flows_valid c =
    let t = c.args.t.now in
    let told =
    all_from_yields_List is_no_flow _ _ _ c.all.ensures.ran
    (YieldsList-from_slice _ (c.iter.ensures.rest ∙ part t.header.count _ _ t.flows.now (omega arith) (omega arith) (omega arith)))
    (λ x b q k. search (rules, tests))
    ∙ all-passes is_no_flow (drop t.header.count (take 512 t.flows.now)) in
    elim c.if-containers_valid.branch [
      | then-containers_valid w ↦
          simp (
            scanned (state_in t) c.requires c.containers_valid.ensures.words,
            le-leb t.header.count 512 c.if-t-gt512.false,
            sym c.containers_valid.ensures.valid ∙ w.if-containers_valid.true,
            sym w.flows_valid.ensures ∙ sym w.value-is ∙ c.if-flows_valid.true,
          ) told
      | else-containers_valid w ↦
          absurd (false≢true (sym w.if-containers_valid.false ∙ sym w.value-is ∙ c.if-flows_valid.true))
    ]

pub returns-else-flows_valid : goal.returns-else-flows_valid
unfolding flows_of
returns-else-flows_valid c =
    grind (rules, tests, scanned (state_in c.args.t.now) c.requires c.containers_valid.ensures.words)
