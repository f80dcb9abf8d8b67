-- `low_ones` meets its contract: no ones, all 64, or as many as n - first says. Assumes nothing.
use Rattle.tagset.proofs.Word.{low-none, low-all, low-some}
use Rattle.tagset.proofs.low_ones.Goals as goal

pub returns-then-n-first : goal.returns-then-n-first
returns-then-n-first c =
    low-none _ _ c.if-n-first.true

pub returns-then-k-ge64 : goal.returns-then-k-ge64
returns-then-k-ge64 c =
    low-all _ c.if-k-ge64.true

pub returns : goal.returns
returns c =
    low-some _ c.if-k-ge64.false
