-- `union` meets its contract: its words are those of the definition. Assumes nothing.
use Rattle.std.proofs.Common.{rules}
use Rattle.std.specs.Int.Bits.{bit_or}
use Rattle.tagset.specs.Set.{union_of}
use Rattle.tagset.proofs.Word.{wordwise-made}
use Rattle.tagset.proofs.TagSet.union.Goals as goal

pub returns : goal.returns
unfolding union_of
returns c =
    wordwise-made bit_or c.args.self c.args.other c.each.result (search rules) (λ i l. search rules)
