-- The clauses of a valid state in the order in which the storage is read: container by container, then record by record. Assumes nothing.
use Rattle.std.specs.Prelude.{Bool, true, ◌&&◌, not, cond, List, [], ◌∷◌, ℕ, ◌+◌, ◌*◌, leb, ltb, eqb, get_or, take, drop}
use Rattle.model.specs.declared.Flow.{Flow}
use Rattle.model.specs.Model.{edges}
use Rattle.tagset.specs.declared.TagSet.{TagSet}
use Rattle.tagset.specs.Set.{has, empty_set, below_of, subset_of, all_below}
use Rattle.state.specs.declared.Header.{Header}
use Rattle.state.specs.State.{set_at}
use Rattle.state.specs.Valid.{all_of, is_no_flow}

-- container c has at most four policy sets, of known tags, and in the places that it does not use no tag
unfoldable pub policies_valid : TagSet → List ℕ → ℕ → ℕ → Bool
policies_valid known policies c count =
    leb count 4 && all_below 4 (λ k. subset_of (set_at policies (4 * c + k)) (cond (ltb k count) known empty_set))

-- each container has its own tag, known tags, and valid policy sets
unfoldable pub containers_valid : ℕ → List ℕ → List ℕ → List ℕ → Bool
containers_valid n tags policies counts =
    all_below n (λ c. has (set_at tags c) c && (subset_of (set_at tags c) (below_of n) && policies_valid (below_of n) policies c (get_or counts c 0)))

-- the flow's number does not pass the greatest, its ends are containers and differ, and each of its ways has carried
unfoldable pub flow_valid : Header → List ℕ → Flow → Bool
flow_valid h tags f =
    leb f.number h.greatest
    && (ltb f.from h.containers
    && (ltb f.to h.containers && (not (eqb f.from f.to) && all_of (λ e. subset_of (set_at tags e.0) (set_at tags e.1)) (edges f))))

-- the flows are valid, and their numbers rise from above `last`
unfoldable pub flows_valid : Header → List ℕ → ℕ → List Flow → Bool
flows_valid h tags last [] = true
flows_valid h tags last (f ∷ fs) = ltb last f.number && (flow_valid h tags f && flows_valid h tags f.number fs)

-- of 512 records those from `count` on are zero
abbrev pub records_zero : ℕ → List Flow → Bool
records_zero count flows = all_of is_no_flow (drop count (take 512 flows))
