-- A valid state (document 01, 'Storage': a sound book), one definition for each clause of the paper's sentence. Storage of refusal 9's
-- lengths is taken for granted here: where it is shorter, 9 comes first. Assumes nothing.
use Rattle.std.specs.Prelude.{Bool, true, ◌&&◌, not, List, [], ◌∷◌, ℕ, ◌*◌, ◌/◌, ◌%◌, leb, ltb, eqb, get_or, take, drop}
use Rattle.model.specs.declared.Flow.{Flow}
use Rattle.model.specs.Model.{edges_of}
use Rattle.tagset.specs.Set.{has, implies, all_below, subset_of, exceeds_of}
use Rattle.state.specs.State.{State, bad_size, set_at, policy_count, policy_at, flows_of}

-- every element passes the test
unfoldable pub all_of : {A : Type 0} → (A → Bool) → List A → Bool
all_of p [] = true
all_of p (x ∷ xs) = p x && all_of p xs

-- each number is above the one before it, and the first is above k
unfoldable pub rising_from : ℕ → List Flow → Bool
rising_from k [] = true
rising_from k (f ∷ fs) = ltb k f.number && rising_from f.number fs

-- 'n is 1 to 256'
unfoldable pub in_limits : State → Bool
in_limits s = leb 1 s.header.containers && leb s.header.containers 256

-- 'counts are at most 512 and 4'
unfoldable pub counts_in_limits : State → Bool
counts_in_limits s = leb s.header.count 512 && all_below s.header.containers (λ c. leb (policy_count s c) 4)

-- 'channel numbers rise strictly from at least 1 and don't pass the greatest'
unfoldable pub numbers_rise : State → Bool
numbers_rise s = rising_from 0 (flows_of s) && all_of (λ f. leb f.number s.header.greatest) (flows_of s)

-- 'all ends are below n and differ'
unfoldable pub ends_proper : State → Bool
ends_proper s = all_of (λ f. ltb f.from s.header.containers && ltb f.to s.header.containers && not (eqb f.from f.to)) (flows_of s)

-- 'no set names a tag of n or more': no tag set, and none of the policy sets that a container has
unfoldable pub tags_known : State → Bool
tags_known s =
    all_below s.header.containers (λ c. not (exceeds_of (set_at s.storage.tags c) s.header.containers))
    && all_below s.header.containers (λ c. all_below (policy_count s c) (λ k. not (exceeds_of (policy_at s c k) s.header.containers)))

-- 'each holder has its own tag'
unfoldable pub own_tags : State → Bool
own_tags s = all_below s.header.containers (λ c. has (set_at s.storage.tags c) c)

-- 'for each open channel the from-set is part of the to-set'
unfoldable pub sets_carried : State → Bool
sets_carried s = all_of (λ e. subset_of (set_at s.storage.tags e.0) (set_at s.storage.tags e.1)) (edges_of (flows_of s))

-- a record of zeros
abbrev pub is_no_flow : Flow → Bool
is_no_flow f = eqb f.number 0 && eqb f.from 0 && eqb f.to 0

-- 'unused places are zero': of 512 records those from the count on, and of each container's 16 policy words those from four times its count of sets on
unfoldable pub unused_zero : State → Bool
unused_zero s =
    all_of is_no_flow (drop s.header.count (take 512 s.storage.flows))
    && all_below (16 * s.header.containers) (λ i. implies (leb (4 * policy_count s (i / 16)) (i % 16)) (eqb (get_or s.storage.policies i 0) 0))

-- a book is sound if all of them hold
unfoldable pub valid_of : State → Bool
valid_of s = in_limits s && counts_in_limits s && numbers_rise s && ends_proper s && tags_known s && own_tags s && sets_carried s && unused_zero s

-- how the order of every call on a state begins: 9 'bad size', 12 'unsound book'
abbrev pub state_order : State → List (Bool × ℕ)
state_order s = (bad_size s.header.containers s.storage, 9) ∷ (not (valid_of s), 12) ∷ []
