-- What is judged decides between 9, 12 and `apply_enable`, which on a usable state has the same outcome. Assumes nothing.
use Rattle.std.proofs.Common.{rules, sym, ◌∙◌}
use Rattle.state.proofs.Judging.{judged-usable}
use Rattle.calls.specs.UnjudgedLaws.{apply-enable}
use Rattle.calls.specs.Judged.{enable-judged}
use Rattle.calls.proofs.Replies.{refused-answer}
use Rattle.calls.proofs.enable.Goals as goal

pub returns-in_err-judge : goal.returns-in_err-judge
returns-in_err-judge c =
    refused-answer c.in_err-judge.field-0.0 (search rules) (λ h. enable-judged _ c.args.flow _ h c.in_err-judge.ensures)

pub returns : goal.returns
returns c =
    c.apply_enable.ensures c.args.policies.now c.args.counts.now
    ∙ apply-enable _ (judged-usable _ (sym c.in_ok-judge.ensures)) c.args.flow (λ k. search rules)
