-- Set k is the k-th four of the words, where they have it whole. Assumes nothing.
use Rattle.std.specs.Prelude.{◌≡◌, List, [], ℕ, ◌/◌, ◌≤◌, ◌<◌, Option, None, Some, MatchOption, length, get_or}
use Rattle.std.proofs.Common.{ap, ◌∙◌, arith, subst, rules}
use Rattle.std.proofs.lemmas.Bool.{le-leb, lt-leb}
use Rattle.std.specs.Simd.{first_chunks}
use Rattle.tagset.specs.declared.TagSet.{TagSet}
use Rattle.std.specs.List.{HoldsAt}
use denote.Bor.{Bor}
use Rattle.tagset.specs.Set.{empty_set}
use Rattle.state.proofs.Fours.{four_at, set_of}
use Rattle.tagstore.specs.Store.{load_of}
use Rattle.tagstore.proofs.load_set.Goals as goal

-- the set by the four words found, if there are any
told : (ws : List ℕ) (k : ℕ) (fours : List (List ℕ)) (found : Option (Bor (List ℕ))) (r : TagSet)
    → fours ≡ first_chunks 4 (length ws / 4) ws → length fours ≡ length ws / 4
    → MatchOption found (length fours ≤ k) (λ f. k < length fours × HoldsAt (λ x. f.now ≡ x) fours k)
    → MatchOption found (r ≡ empty_set) (λ f. r ≡ record { words = f.now }) → r ≡ load_of ws k
unfolding load_of
told ws k fours None r same many outside e = simp (le-leb _ _ (subst (λ (n : ℕ). n ≤ k) many outside)) e
told ws k fours (Some f) r same many at e =
    let inside : k < length ws / 4 = omega (arith, at.0, many) in
    simp (lt-leb _ _ inside)
    (e ∙ ap {B = TagSet} (λ (l : List ℕ). record { words = l })
    (at.1 [] ∙ ap (λ (l : List (List ℕ)). get_or l k []) same ∙ four_at (length ws / 4) k ws [] inside)
    ∙ set_of ws k (omega (arith, inside)))

pub returns : goal.returns
returns c =
    let chunks = c.as_chunks.ensures in
    told c.args.words.now c.args.k _ c.get.result c.map_or.result chunks.front chunks.front_len c.get.ensures.lookup.3 (search rules)
