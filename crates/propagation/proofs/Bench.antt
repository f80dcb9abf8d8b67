-- Passes computed: every row of specs/Bench.antt is what the definition gives. Assumes nothing.
use Rattle.std.specs.Prelude.{◌≡◌, refl, map}
use Rattle.tagset.specs.Set.{union_of}
use Rattle.state.specs.State.{set_at}
use Rattle.tagstore.specs.Store.{put_set}
use Rattle.propagation.specs.Pass.{carried, carried_all, pass}
use Rattle.propagation.specs.Bench.{words_of, each, samples}

-- every row is what the definition gives
pub samples-hold : map (λ r. each 3 r.containers r.edges (words_of r.sets)) samples ≡ map (λ r. map words_of r.passes) samples
unfolding samples words_of each set_at put_set union_of carried carried_all pass
samples-hold = refl
