-- A bad size is refused; otherwise each list is written as its callee's contract says. Assumes nothing.
use Rattle.std.specs.Prelude.{◌≡◌, refl, List, ◌++◌, ℕ, ◌≤◌, length, take, drop, replicate}
use Rattle.std.proofs.Common.{Bool, false, sym, ◌∙◌, arith, length-take-le}
use Rattle.model.specs.declared.Flow.{Flow}
use Rattle.state.specs.State.{storage_of, short_of, bad_size}
use Rattle.state.specs.IsValid.{IsSized}
use Rattle.state.proofs.IsValid.{sized}
use Rattle.tagstore.specs.Store.{filled_front}
use Rattle.tagstore.specs.Starting.{filled-front}
use Rattle.calls.specs.Judged.{start-judged, start-done}
use Rattle.calls.proofs.start.Goals as goal

-- where as many in front as that are filled, so is the front of the list
front-filled : {A : Type 0} (v : A) (m k : ℕ) (l part : List A) → k ≡ m → m ≤ length l → part ≡ replicate (length (take k l)) v
    → part ++ drop k l ≡ filled_front v m l
front-filled v m k l part s h e = rw (e, s, length-take-le m l h) (sym (filled-front v m l h))

-- in a size that is not bad each list is as long as it must be
long : (n : ℕ) (tags policies counts : List ℕ) (flows : List Flow) {b : Bool}
    → b ≡ short_of n (length tags) (length policies) (length counts) (length flows) → b ≡ false
    → IsSized n (storage_of tags policies counts flows)
unfolding bad_size
long n tags policies counts flows e f = (sized n (storage_of tags policies counts flows)).0 (sym e ∙ f)

pub returns-then-bad_size : goal.returns-then-bad_size
returns-then-bad_size c =
    let a = c.args in
    start-judged a.n a.tags.now a.policies.now a.counts.now a.flows.now c.bad_size.ensures c.if-bad_size.true

-- the flow table has 512 records, so the part that is filled has as many
pub slice_bounds-fill-end-6 : goal.slice_bounds-fill-end-6
slice_bounds-fill-end-6 c = sym (length-take-le _ _ (grind arith))

pub returns : goal.returns
returns c =
    let a = c.args in
    let z = long a.n a.tags.now a.policies.now a.counts.now a.flows.now c.bad_size.ensures c.if-bad_size.false in
    start-done a.n a.tags.now a.policies.now a.counts.now a.flows.now c.bad_size.ensures c.if-bad_size.false
    c.store_own_tags.ensures
    (front-filled _ _ _ a.policies.now _ (omega (arith, z.policy-words)) z.policy-words (c.fill.ensures.after (λ y h. h)))
    (front-filled _ _ _ a.counts.now _ (omega (arith, z.count-bytes)) z.count-bytes (c.fill-2.ensures.after (λ y h. h)))
    (front-filled _ _ 512 a.flows.now _ refl z.records (c.fill-3.ensures.after (λ y h. h)))
