-- What is judged decides between 9, 12 and `apply_add`, which on a usable state has the same outcome. Assumes nothing.
use Rattle.std.proofs.Common.{rules, sym, ◌∙◌}
use Rattle.state.proofs.Judging.{judged-usable}
use Rattle.calls.specs.UnjudgedLaws.{apply-add}
use Rattle.calls.specs.Judged.{add-judged}
use Rattle.calls.proofs.Replies.{refused-answer}
use Rattle.calls.proofs.add_policy.Goals as goal

pub returns-in_err-judge : goal.returns-in_err-judge
returns-in_err-judge c =
    refused-answer c.in_err-judge.field-0.0 (search rules) (λ h. add-judged _ c.args.container c.args.policy _ h c.in_err-judge.ensures)

pub returns : goal.returns
returns c =
    c.apply_add.ensures c.args.tags.now c.args.flows.now
    ∙ apply-add _ (judged-usable _ (sym c.in_ok-judge.ensures)) c.args.container c.args.policy

pub apply_add-requires : goal.apply_add-requires
apply_add-requires c =
    let u = judged-usable _ (sym c.in_ok-judge.ensures) in
    (u.sized.most, u.sized.policy-words, u.sized.count-bytes)
