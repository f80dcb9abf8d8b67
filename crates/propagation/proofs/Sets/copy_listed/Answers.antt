-- `copy_listed` meets its contract: a turn copies the set of the first that is left of the list. Assumes nothing.
use Rattle.std.proofs.Common.{sym, ap, ◌∙◌, subst, List, ℕ, ◌+◌, length, get_or, arith}
use Rattle.tagstore.specs.Store.{store_of}
use Rattle.propagation.specs.Found.{Found}
use Rattle.propagation.specs.Listed.{Listed, found-again}
use Rattle.propagation.proofs.Sets.copy_listed.Goals as goal

pub loop-container-preserved : goal.loop-container-preserved
loop-container-preserved c =
    let here = c.loop-container in
    let list = c.args.list.now in
    let n = c.args.self.now.n in
    let ws = c.args.self.now.words.now in
    let i = here.container-index in
    let put = c.store_set.ensures ∙ ap (store_of here.found (get_or list i 0)) c.load_set.ensures in
    let long = here.invariant.long in
    record {
      long = c.store_set.auto.words ∙ long;
      copied = λ f.
          subst (λ (l : List ℕ). Found n (Listed list (i + 1) (length list)) l ws) (sym put)
          (found-again list i (length list) (omega (arith, long)) (omega arith) (here.invariant.copied f));
    }
