-- `equals` meets its contract: `==` compares words, and sets of the code have four words of 64 bits. Assumes nothing.
use Rattle.std.proofs.Common.{refl, rules, ◌≡◌, ◌∙◌, sym, ap}
use Rattle.tagset.specs.declared.TagSet.{TagSet}
use Rattle.tagset.specs.contracts.TagSetPartialEq.TheImpl.{ghosts}
use Rattle.tagset.proofs.Word.{words_of, four-made}
use Rattle.tagset.proofs.Equal.{equal-same}
use Rattle.tagset.proofs.TagSet.equals.Goals as goal

pub returns : goal.returns
returns c =
    let a = c.args.self in
    let b = c.args.other in
    let ha = words_of a (search rules) (λ i. search rules) in
    let hb = words_of b (search rules) (λ i. search rules) in
    let made = ap (λ (x : TagSet). x.words) (sym (four-made b hb.four refl refl refl refl)) in
    let told : c.eq.result ≡ ghosts.eq a b = search (rules, made) in
    told ∙ equal-same a b ha hb
