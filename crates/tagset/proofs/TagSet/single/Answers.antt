-- `single` meets its contract: the store of a shifted 1 loses no bit, and a tag past 255 leaves the words at 0. Assumes nothing.
use Rattle.std.proofs.Common.{sym}
use Rattle.tagset.specs.Set.{empty_set}
use Rattle.tagset.proofs.Word.{single-made}
use Rattle.tagset.proofs.Laws.{single-past}
use Rattle.tagset.proofs.TagSet.single.Goals as goal

pub returns-then-tag-lt256 : goal.returns-then-tag-lt256
returns-then-tag-lt256 c = single-made _

pub returns-else-tag-lt256 : goal.returns-else-tag-lt256
unfolding empty_set
returns-else-tag-lt256 c = sym (single-past _ c.if-tag-lt256.false)
