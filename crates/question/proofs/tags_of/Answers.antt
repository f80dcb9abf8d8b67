-- `tags_of` meets its contract: what is said of the state decides first, then whether there is the container. On a usable state its set is read whole.
-- Assumes nothing.
use Rattle.std.proofs.Common.{◌≡◌, suc, pred, Err, sym, ap, ◌∙◌, arith, rules}
use Rattle.refusal.specs.declared.Refusal.TheVariants.{NoSuchContainer}
use Rattle.refusal.specs.Number.{number_of}
use Rattle.refusal.proofs.Number.{number-positive}
use Rattle.tagset.specs.Set.{empty_set}
use Rattle.state.specs.State.{state_in, set_at}
use Rattle.tagstore.specs.Laws.{load-whole}
use Rattle.question.specs.Question.{tags_of}
use Rattle.question.specs.Replies.{told, asked_by}
use Rattle.question.specs.Laws.{asked-told, asked-refused, answered-state}
use Rattle.question.specs.Finding.{judged-refused, judged-missing, judged-fine}
use Rattle.question.proofs.tags_of.Goals as goal

pub returns-in_err-judge : goal.returns-in_err-judge
unfolding tags_of
returns-in_err-judge c =
    let s = state_in c.args.t.now in
    let k = c.args.container in
    let q = c.in_err-judge.field-0.0 in
    let is : c.from_residual.result ≡ Err q = search rules in
    let number : suc (pred (number_of q)) ≡ number_of q = omega (arith, number-positive q) in
    let refused = judged-refused s k (pred (number_of q)) (sym c.in_err-judge.ensures ∙ sym number) ∙ number in
    ap (asked_by empty_set) is ∙ sym (asked-refused empty_set (set_at s.storage.tags k) _ q refused)

pub returns-then-t-container : goal.returns-then-t-container
unfolding tags_of
returns-then-t-container c =
    let s = state_in c.args.t.now in
    let k = c.args.container in
    let missing = judged-missing s k (sym c.in_ok-judge.ensures) c.if-t-container.true in
    sym (asked-refused empty_set (set_at s.storage.tags k) _ NoSuchContainer missing)

pub returns : goal.returns
unfolding tags_of
returns c =
    let s = state_in c.args.t.now in
    let k = c.args.container in
    let fine = judged-fine s k (sym c.in_ok-judge.ensures) c.if-t-container.false in
    let z = answered-state s k fine in
    let whole = c.load_set.ensures ∙ load-whole s.storage.tags k (omega (arith, z.0.sized.tag-words, z.1)) in
    ap told whole ∙ sym (asked-told empty_set (set_at s.storage.tags k) _ fine)
