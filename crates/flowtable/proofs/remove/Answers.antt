-- The records behind the place moved down, and the last place zeroed: the removal as defined. Assumes nothing.
use Rattle.std.proofs.Common.{rules, ◌≡◌, refl, sym, ap, ◌∙◌, List, ◌∷◌, ◌++◌, ℕ, suc, ◌+◌, ◌-◌, ◌<◌, arith, add-one}
use Rattle.std.proofs.Common.{length, set, take, drop, append_assoc, length-append, length-take, length-drop, take_all, drop-cons}
use Rattle.std.specs.List.{copy_within}
use Rattle.std.proofs.lemmas.List.{set-append_right}
use Rattle.std.proofs.lemmas.List.Edits.{paste_all}
use Rattle.model.specs.declared.Flow.{Flow}
use Rattle.state.specs.State.{no_flow}
use Rattle.flowtable.specs.FlowTable.{removed_at}
use Rattle.flowtable.specs.Laws.{removed-in, removed-out}
use Rattle.flowtable.proofs.remove.Goals as goal

pub returns-then-flows-place : goal.returns-then-flows-place
returns-then-flows-place c =
    let fs = c.args.flows.now in
    sym (removed-out c.args.place (length fs) fs (omega (arith, length-take (length fs) fs)))

-- after `last` others the first of the rest is zeroed
first-zeroed : (xs fs : List Flow) (last : ℕ) → length xs ≡ last → last < length fs
    → set (xs ++ drop last fs) last no_flow ≡ xs ++ (no_flow ∷ drop (suc last) fs)
first-zeroed xs fs last e h =
    let first : last - last ≡ 0 = omega arith in
    set-append_right xs (drop last fs) last last no_flow e (omega arith) ∙ rw (first, drop-cons fs last no_flow h) refl

moved : (place : ℕ) (fs : List Flow) → place < length fs
    → set (copy_within fs (place + 1) (length fs) place) (length fs - 1) no_flow ≡ removed_at place (length fs) fs
moved place fs h =
    let last = length fs - 1 in
    let front = take place fs in
    let behind = drop (place + 1) fs in
    let many : length fs - (place + 1) ≡ length behind = omega (arith, length-drop (place + 1) fs) in
    let at_last : place + (length fs - (place + 1)) ≡ last = omega (arith, h) in
    let all : suc last ≡ length fs = omega (arith, h) in
    ap (λ (gs : List Flow). set gs last no_flow)
    (paste_all fs place behind (length fs - (place + 1)) many
    ∙ ap (λ (k : ℕ). front ++ (behind ++ drop k fs)) at_last
    ∙ sym (append_assoc front behind (drop last fs)))
    ∙ first-zeroed (front ++ behind) fs last (simp (length-append, length-take, length-drop) (omega (arith, h)))
    (omega (arith, h))
    ∙ rw (
      removed-in place (length fs) fs (omega (arith, h, length-take (length fs) fs)),
      take_all (length fs) fs (omega arith),
      ← add-one place,
      append_assoc,
      all,
    ) refl

pub returns : goal.returns
returns c = search (rules, moved)
