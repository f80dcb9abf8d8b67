-- Lists of words of 64 bits. That what is written is read back, and nothing beyond is touched: proofs/LayoutLaws.antt.
-- Assumes nothing.
use Rattle.std.specs.Prelude.{List, ℕ, ◌^◌, ◌<◌}
use Rattle.std.proofs.Math.ListN.{get_or}

-- every word has 64 bits
abbrev pub Fit64 : List ℕ → Type 0
Fit64 ws = (i : ℕ) → get_or ws i 0 < 2 ^ 64
