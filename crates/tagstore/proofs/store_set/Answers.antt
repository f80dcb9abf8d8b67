-- Where the words have the set whole, its four are written in their place. Assumes nothing.
use Rattle.std.proofs.Common.{refl}
use Rattle.std.proofs.lemmas.Bool.{le-leb, lt-leb}
use Rattle.tagstore.specs.Store.{store_of, put_set}
use Rattle.tagstore.proofs.store_set.Goals as goal

pub returns-then-k-words : goal.returns-then-k-words
unfolding store_of put_set
returns-then-k-words c = simp (lt-leb _ _ c.if-k-words.true) refl

pub returns-else-k-words : goal.returns-else-k-words
unfolding store_of
returns-else-k-words c = simp (le-leb _ _ c.if-k-words.false) refl
