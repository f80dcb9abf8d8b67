-- `is_legal` meets its contract: what is found decides between the refusals and the search of the policy sets. A usable state has their count and
-- their words. Assumes nothing.
use Rattle.std.proofs.Common.{◌≡◌, false, Ok, Err, sym, ap, ◌∙◌, arith, rules}
use Rattle.tagset.specs.declared.TagSet.{TagSet}
use Rattle.tagset.specs.Set.{subset_of}
use Rattle.state.specs.State.{state_in}
use Rattle.question.specs.Question.{any_of, policies_of, is_legal, legal_of}
use Rattle.question.specs.Replies.{told, asked_by}
use Rattle.question.specs.Laws.{asked-told, asked-refused, answered-state}
use Rattle.question.specs.Finding.{found_number, found-set}
use Rattle.question.proofs.is_legal.Goals as goal

pub returns-in_err-set : goal.returns-in_err-set
unfolding legal_of
returns-in_err-set c =
    let s = state_in c.args.t.now in
    let k = c.args.container in
    let q = c.in_err-set.field-0.0 in
    let is : c.from_residual.result ≡ Err q = search rules in
    ap (asked_by false) is
    ∙ sym (asked-refused false (is_legal s k) _ q (found_number s k (Err q) c.in_err-set.ensures))

pub bounds-t-c : goal.bounds-t-c
bounds-t-c c =
    let s = state_in c.args.t.now in
    let k = c.args.container in
    let z = answered-state s k (found_number s k (Ok c.in_ok-set.set) c.in_ok-set.ensures) in
    omega (arith, z.0.sized.count-bytes, z.1)

pub some_allows-requires : goal.some_allows-requires
some_allows-requires c =
    let s = state_in c.args.t.now in
    let k = c.args.container in
    let z = answered-state s k (found_number s k (Ok c.in_ok-set.set) c.in_ok-set.ensures) in
    (z.0.valid.policy-counts k z.1, omega (arith, z.0.sized.policy-words, z.1))

pub returns : goal.returns
unfolding legal_of is_legal policies_of
returns c =
    let s = state_in c.args.t.now in
    let k = c.args.container in
    let set = c.in_ok-set.set in
    let found = found-set s k set c.in_ok-set.ensures in
    ap told (c.some_allows.ensures ∙ ap (λ (t : TagSet). any_of (subset_of t) (policies_of s k)) found)
    ∙ sym (asked-told false (is_legal s k) _ (found_number s k (Ok set) c.in_ok-set.ensures))
