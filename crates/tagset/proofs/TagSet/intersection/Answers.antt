-- `intersection` meets its contract: its words are those of the definition. Assumes nothing.
use Rattle.std.proofs.Common.{rules}
use Rattle.std.specs.Int.Bits.{bit_and}
use Rattle.tagset.specs.Set.{intersection_of}
use Rattle.tagset.proofs.Word.{wordwise-made}
use Rattle.tagset.proofs.TagSet.intersection.Goals as goal

pub returns : goal.returns
unfolding intersection_of
returns c =
    wordwise-made bit_and c.args.self c.args.other c.each.result (search rules) (λ i l. search rules)
