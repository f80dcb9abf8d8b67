-- `carry` meets its contract: the set that it puts is the union of those that it reads, by the laws of one edge. Assumes nothing.
use mathlib.Core.Path.{◌≡◌, refl, sym, ap, ap₂, ◌∙◌}
use mathlib.Core.Bool.{true}
use mathlib.Core.List.{List}
use mathlib.Core.Logic.{◌⊎◌, inl, inr, by_cases}
use native.Mathlib.Decide.{dec_lt}
use Prim.Native.Nat.{ℕ, ◌+◌, ◌*◌, ◌≤◌, ◌<◌}
use native.Mathlib.Omega.{arith}
use lib.ListN.{length}
use borrow.Author.Rules.{rules}
use Rattle.std.proofs.Math.Path.{subst}
use Rattle.tagset.specs.declared.TagSet.{TagSet}
use Rattle.tagset.specs.Set.{union_of, size_of}
use Rattle.tagset.specs.contracts.TagSetPartialEq.TheImpl.{ghosts}
use Rattle.tagset.proofs.Laws.{union-words, same-eq}
use Rattle.tagset.proofs.Equal.{equal-same}
use Rattle.state.specs.Layout.{Fit64}
use Rattle.state.specs.State.{set_at}
use Rattle.state.proofs.LayoutLaws.{set-fits}
use Rattle.tagstore.specs.Store.{put_set, load_of, store_of}
use Rattle.tagstore.specs.Laws.{load-whole, store-whole}
use Rattle.tagstore.proofs.Put.{put-fits, put_same}
use Rattle.propagation.specs.Pass.{inside, carried, new_tags}
use Rattle.propagation.specs.Exact.{inside-iff, edge-inside}
use Rattle.propagation.specs.Turns.{edge-past, edge_none}
use Rattle.propagation.proofs.Sets.carry.Goals as goal
use Rattle.propagation.proofs.Sets.carry.Goals.{Else-self-max, After-size-2}

-- both ends of the edge (a, b) are below n, and the words have n sets, each word of 64 bits
record Inside (n a b : ℕ) (found tags : List ℕ) : Type 0 where
  from : a < n
  to : b < n
  long_found : 4 * n ≤ length found
  long_tags : 4 * n ≤ length tags
  fit_found : Fit64 found
  fit_tags : Fit64 tags

module _ {n a b : ℕ} {found tags : List ℕ} (i : Inside n a b found tags) where
  within : inside n (a, b) ≡ true
  within = (inside-iff n (a, b)).1 (i.from, i.to)

  -- what is read is set b
  old-is : load_of tags b ≡ set_at tags b
  old-is = load-whole tags b (omega (arith, i.to, i.long_tags))

  -- and what is read of the sets found is set a of these
  source_is : load_of found a ≡ set_at found a
  source_is = load-whole found a (omega (arith, i.from, i.long_found))

  -- their union
  new_is : {old source new : TagSet} → old ≡ load_of tags b → source ≡ load_of found a → new ≡ union_of old source
      → new ≡ union_of (set_at tags b) (set_at found a)
  new_is o s u = u ∙ ap₂ union_of (o ∙ old-is) (s ∙ source_is)

  -- the union is larger by the new tags
  sizes : {old source new : TagSet} → old ≡ load_of tags b → source ≡ load_of found a → new ≡ union_of old source
      → size_of new ≡ size_of old + new_tags n found (a, b) tags
  sizes o s u = omega (arith, ap size_of (new_is o s u), ap size_of (o ∙ old-is), (edge-inside n found (a, b) tags within).1)

  -- where the union is what was read, the words stay
  same : {old source new : TagSet} → old ≡ load_of tags b → source ≡ load_of found a → new ≡ union_of old source → ghosts.eq new old ≡ true
      → (tags ≡ carried n found (a, b) tags) × (0 ≡ new_tags n found (a, b) tags)
  same o s u q =
      let bs = set-fits tags b i.fit_tags in
      let us = union-words (set_at tags b) (set_at found a) bs (set-fits found a i.fit_found) in
      let e = same-eq (union_of (set_at tags b) (set_at found a)) (set_at tags b) us bs (sym (equal-same _ _ us bs) ∙ sym (ap₂ ghosts.eq (new_is o s u) (o ∙ old-is)) ∙ q) in
      let put = edge-inside n found (a, b) tags within in
      (sym (put.0 ∙ ap (put_set tags b) e ∙ put_same tags b), omega (arith, put.1, ap size_of e))

  -- where the union is stored, the edge has carried
  stored : {old source new : TagSet} {ws : List ℕ} → old ≡ load_of tags b → source ≡ load_of found a → new ≡ union_of old source → ws ≡ store_of tags b new
      → ws ≡ carried n found (a, b) tags
  stored {new = new} o s u w =
      w ∙ store-whole tags b new (omega (arith, i.to, i.long_tags)) ∙ ap (put_set tags b) (new_is o s u) ∙ sym (edge-inside n found (a, b) tags within).0

  -- and each word has 64 bits still
  still : {ws : List ℕ} → ws ≡ carried n found (a, b) tags → Fit64 ws
  still e =
      subst Fit64 (sym (e ∙ (edge-inside n found (a, b) tags within).0))
      (put-fits tags b (union_of (set_at tags b) (set_at found a))
      (union-words (set_at tags b) (set_at found a) (set-fits tags b i.fit_tags) (set-fits found a i.fit_found)) i.fit_tags)

-- past the test
inner : (c : Else-self-max) → Inside c.args.self.now.n c.args.a c.args.b c.args.found.now c.args.self.now.words.now
inner c = record {
  from = omega (arith, c.max.ensures, c.if-self-max.false);
  to = omega (arith, c.max.ensures, c.if-self-max.false);
  long_found = omega arith;
  long_tags = omega arith;
  fit_found = λ i. search rules;
  fit_tags = c.args.self.now.fit;
}

-- the sizes of the two sets differ by the new tags
larger : (c : After-size-2) → Inside c.args.self.now.n c.args.a c.args.b c.args.found.now c.args.self.now.words.now
    → c.size.result
    ≡ c.size-2.result + new_tags c.args.self.now.n c.args.found.now (c.args.a, c.args.b) c.args.self.now.words.now
larger c i =
    omega (
      arith,
      c.size.ensures,
      c.size-2.ensures,
      sizes i c.load_set-old.ensures c.load_set-source.ensures c.union-new.ensures,
    )

pub returns-then-self-max : goal.returns-then-self-max
returns-then-self-max c =
    let s = c.args.self.now in
    let past : (s.n ≤ c.args.a) ⊎ (s.n ≤ c.args.b) =
    by_cases (dec_lt c.args.a s.n) (λ l. inr (omega (arith, c.max.ensures, c.if-self-max.true))) (λ l. inl (omega arith)) in
    let e = edge-past s.n c.args.found.now (c.args.a, c.args.b) s.words.now past in
    record { same = (refl, refl); sets = e.0; gain = e.1; none = λ z. refl }

pub returns-then-eq : goal.returns-then-eq
returns-then-eq c =
    let i = inner (goal.at.returns-then-eq c).Else-self-max in
    let e = same i c.load_set-old.ensures c.load_set-source.ensures c.union-new.ensures (sym c.eq.ensures ∙ c.if-eq.true) in
    record { same = (refl, refl); sets = e.0; gain = e.1; none = λ z. refl }

pub invariant_of-self-2-clause-fit : goal.invariant_of-self-2-clause-fit
invariant_of-self-2-clause-fit c =
    let i = inner (goal.at.invariant_of-self-2-clause-fit c).Else-self-max in
    still i (stored i c.load_set-old.ensures c.load_set-source.ensures c.union-new.ensures c.store_set.ensures)

pub overflow_sub-result : goal.overflow_sub-result
overflow_sub-result c =
    let there = goal.at.overflow_sub-result c in omega (arith, larger there.After-size-2 (inner there.Else-self-max))

pub returns : goal.returns
returns c =
    let s = c.args.self.now in
    let i = inner (goal.at.returns c).Else-self-max in
    let gain = larger (goal.at.returns c).After-size-2 i in
    let sets = stored i c.load_set-old.ensures c.load_set-source.ensures c.union-new.ensures c.store_set.ensures in
    let edge = edge_none s.n c.args.found.now (c.args.a, c.args.b) s.words.now i.fit_found i.fit_tags in record {
      same = (refl, refl);
      sets = sets;
      gain = omega (arith, gain);
      none = λ z. sets ∙ edge (omega (arith, gain, z));
    }
