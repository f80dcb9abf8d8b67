-- The k-th four of the words is set k. Assumes nothing.
use Rattle.std.proofs.Common.{List, [], ℕ, ◌/◌, ap, ◌∙◌, arith, length, get_or}
use Rattle.tagset.specs.declared.TagSet.{TagSet}
use Rattle.state.proofs.Fours.{four_at, set_of}
use Rattle.validity.proofs.set_at.Goals as goal

pub returns : goal.returns
returns c =
    let ws = c.args.words.now in
    let k = c.args.k in
    ap {B = TagSet} (λ (fours : List (List ℕ)). record { words = get_or fours k [] }) c.as_chunks.ensures.front
    ∙ ap {B = TagSet} (λ (l : List ℕ). record { words = l }) (four_at (length ws / 4) k ws [] (omega arith))
    ∙ set_of ws k c.requires
