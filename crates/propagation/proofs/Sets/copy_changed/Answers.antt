-- `copy_changed` meets its contract: a list of fewer than a quarter of at most 256 has room. Assumes nothing.
use Rattle.std.proofs.Common.{ap, ◌∙◌, List, ℕ, arith}
use Rattle.state.specs.State.{set_at}
use Rattle.propagation.specs.Found.{found-among}
use Rattle.propagation.proofs.Copied.{copied-set}
use Rattle.propagation.proofs.Sets.copy_changed.Goals as goal

pub returns-then-self-list : goal.returns-then-self-list
returns-then-self-list c = λ f a l.
    let s = c.args.self.now in
    ap (λ (x : List ℕ). set_at x a) c.copy_sets.ensures
    ∙ copied-set s.n s.words.now c.args.found.now a (omega arith) l

pub returns-else-self-list : goal.returns-else-self-list
returns-else-self-list c = λ f. c.copy_listed.ensures (found-among (λ b w. w (omega arith)) f)
