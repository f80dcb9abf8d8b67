-- `make_passes` meets its contract. A pass: the edges of the flows so far are carried, `added` is what was new, and
-- the containers whose sets changed are listed while there is room. The passes: those made are not all (`Underway`),
-- and the sets found are those that they left; measured by those left. Assumes nothing.
use Rattle.std.proofs.Common.{refl, ap, ◌∙◌, subst, List, ℕ, ◌+◌, ◌*◌, ◌≤◌, length, get_or, take, arith, take_all}
use Rattle.model.specs.declared.Flow.{Flow}
use Rattle.model.specs.Model.{edges, edges_of}
use Rattle.state.specs.State.{set_at, no_flow}
use Rattle.propagation.specs.Exact.{passes-most}
use Rattle.propagation.specs.Found.{found-all, found-among}
use Rattle.propagation.specs.Listed.{room-front}
use Rattle.propagation.specs.Turns.{Carried, found-changed, carried_none, none_made}
use Rattle.propagation.proofs.Copied.{copied-set}
use Rattle.propagation.proofs.Turns.{carried-fits, flow-carried, gain-fits, one-made, all_made}
use Rattle.propagation.proofs.Sets.make_passes.Goals as goal
use Rattle.propagation.proofs.Sets.make_passes.Goals.{At-passes, After-loop-flow, After-carry_flow-new}
use Rattle.propagation.proofs.Sets.make_passes.Goals.{then-new-ne0, else-new-ne0}

-- the words have n sets at each pass
room : (c : At-passes) → 4 * c.args.self.now.n ≤ length c.passes.self.words.now
room c = omega arith

-- the flow of a turn, and what it carries
abbrev flow : After-carry_flow-new → Flow
flow c = get_or c.args.flows.now c.loop-flow.flow-index no_flow

one : (c : After-carry_flow-new)
    → Carried c.args.self.now.n c.passes.found (edges (flow c)) c.loop-flow.self.words.now
    c.carry_flow-new.new.self.words.now c.carry_flow-new.result
one c =
    let carry = c.carry_flow-new.ensures in
    let same = c.loop-flow.invariant.same in record { sets = rw same at carry.sets; count = rw same at carry.gain }

-- with the flows before it
turn : (c : After-carry_flow-new)
    → Carried c.args.self.now.n c.passes.self.words.now
    (edges_of (take (c.loop-flow.flow-index + 1) c.args.flows.now)) c.passes.self.words.now
    c.carry_flow-new.new.self.words.now (c.loop-flow.added + c.carry_flow-new.result)
turn c =
    flow-carried c.args.flows.now c.loop-flow.flow-index no_flow (omega arith) c.passes.invariant.found
    c.loop-flow.invariant.carried (one c)

-- all turns are a pass
pass : (c : After-loop-flow)
    → Carried c.args.self.now.n c.passes.self.words.now (edges_of c.args.flows.now) c.passes.self.words.now
    c.loop-flow.self.words.now c.loop-flow.added
pass c = rw (take_all c.loop-flow.flow-index c.args.flows.now (omega arith)) at c.loop-flow.invariant.carried

pub passes-init : goal.passes-init
passes-init c = record {
  same = refl;
  place = refl;
  long = c.type_inv.found;
  found = λ a l. ap (λ (x : List ℕ). set_at x a) c.copy_sets.ensures
      ∙ copied-set c.args.self.now.n c.args.self.now.words.now _ a (omega arith) l;
  made = none_made _ _ _;
}

pub loop-flow-init : goal.loop-flow-init
loop-flow-init c = record {
  same = c.passes.invariant.same;
  place = refl;
  room = omega arith;
  found = found-all c.passes.invariant.found;
  carried = carried_none _ _ _;
}

pub overflow_add-added : goal.overflow_add-added
overflow_add-added c =
    let there = goal.at.overflow_add-added c in
    omega (arith, carried-fits (room there.At-passes) (turn there.After-carry_flow-new))

pub loop-flow-preserved : goal.loop-flow-preserved
loop-flow-preserved c =
    let here = (goal.at.loop-flow-preserved c).After-carry_flow-new in
    let before = c.loop-flow.invariant in
    elim c.if-new-ne0.branch [
      | then-new-ne0 w ↦ record {
        same = c.carry_flow-new.ensures.same.0 ∙ before.same;
        place = c.carry_flow-new.ensures.same.1 ∙ before.place;
        room = rw w.count-is w.list_one-count.ensures.room;
        found = let listed = w.list_one-count.ensures in
            rw (w.count-is, w.list-is) (found-changed (flow here) (one here) listed.this listed.others before.found);
        carried = rw w.added-is (turn here);
      }
      | else-new-ne0 w ↦ record {
        same = c.carry_flow-new.ensures.same.0 ∙ before.same;
        place = c.carry_flow-new.ensures.same.1 ∙ before.place;
        room = rw w.count-is before.room;
        found = rw (w.count-is, w.list-is, c.carry_flow-new.ensures.none w.if-new-ne0.false) before.found;
        carried = subst (Carried _ _ _ _ _) (omega (arith, w.added-is, w.if-new-ne0.false)) (turn here);
      }
    ]

pub overflow_add-passes : goal.overflow_add-passes
overflow_add-passes c =
    let s = c.args.self.now in
    omega (arith, c.passes.invariant.made.fewer, passes-most s.n (edges_of c.args.flows.now) s.words.now)

pub overflow_add-gain : goal.overflow_add-gain
overflow_add-gain c =
    let there = goal.at.overflow_add-gain c in
    omega (arith, gain-fits (room there.At-passes) c.passes.invariant.made (pass there.After-loop-flow))

pub passes-smaller : goal.passes-smaller
passes-smaller c = omega (arith, c.loop-flow.invariant.same, c.passes.invariant.made.fewer)

pub passes-preserved : goal.passes-preserved
passes-preserved c =
    let there = goal.at.passes-preserved c in
    let now = c.loop-flow.invariant in
    let n = now.same in
    let front = room-front c.loop-flow.list c.loop-flow.count (omega (arith, now.room)) in record {
      same = n;
      place = now.place ∙ c.passes.invariant.place;
      long = c.type_inv.found;
      found = λ a l. c.copy_changed.ensures (rw n (found-among front now.found)) a (omega (arith, n));
      made = one-made (room there.At-passes) c.passes.invariant.made (pass there.After-loop-flow) (omega arith);
    }

pub returns : goal.returns
returns c =
    let there = goal.at.returns c in
    let all =
    all_made (room there.At-passes) c.passes.invariant.made (pass there.After-loop-flow) c.if-added-eq0.true in
    record {
      same = c.loop-flow.invariant.place ∙ c.passes.invariant.place;
      passes = all.1.0;
      sets = rw all.1.0 all.0;
      gain = rw all.1.0 all.1.1;
    }
