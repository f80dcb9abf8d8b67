-- `size_of` meets its contract: what is found decides between the refusals and the size of the set. Assumes nothing.
use Rattle.std.proofs.Common.{◌≡◌, Ok, Err, sym, ap, ◌∙◌, rules}
use Rattle.tagset.specs.Set.{size_of}
use Rattle.state.specs.State.{state_in, set_at}
use Rattle.question.specs.Question.{size_asked}
use Rattle.question.specs.Replies.{told, asked_by}
use Rattle.question.specs.Laws.{asked-told, asked-refused}
use Rattle.question.specs.Finding.{found_number, found-set}
use Rattle.question.proofs.size_of.Goals as goal

pub returns-in_err-tags_of : goal.returns-in_err-tags_of
unfolding size_asked
returns-in_err-tags_of c =
    let s = state_in c.args.t.now in
    let k = c.args.container in
    let q = c.in_err-tags_of.field-0.0 in
    let is : c.from_residual.result ≡ Err q = search rules in
    let refused = found_number s k (Err q) c.in_err-tags_of.ensures in
    ap (asked_by 0) is ∙ sym (asked-refused 0 (size_of (set_at s.storage.tags k)) _ q refused)

pub returns : goal.returns
unfolding size_asked
returns c =
    let s = state_in c.args.t.now in
    let k = c.args.container in
    let set = c.in_ok-tags_of.field-0 in
    ap told (c.size.ensures ∙ ap size_of (found-set s k set c.in_ok-tags_of.ensures))
    ∙ sym (asked-told 0 (size_of (set_at s.storage.tags k)) _ (found_number s k (Ok set) c.in_ok-tags_of.ensures))
