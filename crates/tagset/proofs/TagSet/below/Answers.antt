-- `below` meets its contract: its words are the answers of `low_ones`. Assumes nothing.
use Rattle.std.proofs.Common.{refl, ◌∙◌, rules}
use Rattle.tagset.proofs.Word.{four-made, below-made}
use Rattle.tagset.proofs.TagSet.below.Goals as goal

pub returns : goal.returns
returns c =
    four-made (record { words = c.map.result }) (search rules) refl refl refl refl
    ∙ below-made c.args.n (search rules) (search rules) (search rules) (search rules)
