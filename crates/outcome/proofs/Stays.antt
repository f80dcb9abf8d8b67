-- Valid stays valid (document 01, 'Storage': a sound book): an event changes flows and tag sets alone, and keeps what a valid state says of these.
-- Assumes nothing.
use Rattle.std.specs.Prelude.{◌≡◌, refl, true, ◌↔◌, List, [], ◌∷◌, ◌++◌, ℕ, ◌*◌, ◌≤◌, ◌<◌, eqb, length}
use Rattle.std.proofs.Common.{sym, ◌∙◌, subst, ⊎_elim, not-suc-le-zero, arith, length-append, eqb-true, eq-eqb}
use mathlib.Core.List.Memᴰ
use mathlib.Mathlib.Logic.Relation.{ReflTransGenᴰ}
use borrow.Table.Steps.{cases}
use Rattle.model.specs.declared.Flow.{Flow}
use Rattle.model.specs.Model.{◌∈◌, edges_of, without, keep}
use Rattle.model.specs.Closure.{Within}
use Rattle.model.proofs.Closure.{reaches-sound, reaches-complete}
use Rattle.model.proofs.Standing.{without-part, edge_of, of-edge, within-flows}
use Rattle.tagset.specs.Set.{has, single_of}
use Rattle.tagset.proofs.Laws.{single-has}
use Rattle.state.specs.State.{Storage, State, set_at, flows_of, with_flows}
use Rattle.state.proofs.LayoutLaws.{flows-count, set-written, sets-length, front_length, front_at, flows-length, flows-taken, flows-unused}
use Rattle.state.specs.IsValid.{IsSized, Rising, ProperEnds, IsValid, Usable}
use Rattle.state.proofs.IsValid.{unused-iff}
use Rattle.outcome.specs.Outcome.{started, propagated, changed, enabling, disabling}
use Rattle.outcome.specs.Table.{Enables}
use Rattle.outcome.proofs.Propagation.{propagated-has}

-- LISTS OF FLOWS

-- numbers that rise from j rise from every number up to j
rising-from : {i j : ℕ} (fs : List Flow) → i ≤ j → Rising j fs → Rising i fs
unfolding Rising
rising-from [] l r = tt
rising-from (f ∷ fs) l r = (omega (arith, r.0), r.1)

-- numbers still rise where one is taken out
rising-without : (k j : ℕ) (fs : List Flow) → Rising j fs → Rising j (without k fs)
unfolding Rising without keep
rising-without k j [] r = tt
rising-without k j (f ∷ fs) r =
    let rest = rising-without k f.number fs r.1 in
    cases (eqb f.number k) (λ e. rw e (rising-from (without k fs) (omega (arith, r.0)) rest)) (λ e. rw e (r.0, rest))

-- numbers still rise where one above them all is put at the end
rising-append : (j m : ℕ) (fs : List Flow) (f : Flow) → Rising j fs → ((g : Flow) → g ∈ fs → g.number ≤ m) → j ≤ m → m < f.number
    → Rising j (fs ++ (f ∷ []))
unfolding Rising
rising-append j m [] f r p l h = (omega arith, tt)
rising-append j m (g ∷ fs) f r p l h =
    (r.0, rising-append g.number m fs f r.1 (λ x i. p x (Memᴰ.tail i)) (p g (Memᴰ.head refl)) h)

-- taking a number out leaves no more flows
pub without-length : (k : ℕ) (fs : List Flow) → length (without k fs) ≤ length fs
unfolding without keep
without-length k [] = omega arith
without-length k (f ∷ fs) =
    let h = without-length k fs in
    cases (eqb f.number k) (λ e. rw e (omega arith)) (λ e. rw e (omega arith))

-- the flows of a usable state are as many as its header says
pub usable-count : (s : State) → Usable s → length (flows_of s) ≡ s.header.count
usable-count s u = flows-count s u.valid.table-count u.sized.records

-- the ways of some of the flows are ways of all
edges-part : (fs gs : List Flow) → ((f : Flow) → f ∈ fs → f ∈ gs) → (a b : ℕ) → (a, b) ∈ edges_of fs → (a, b) ∈ edges_of gs
edges-part fs gs part a b i = let e = edge_of fs i in of-edge gs (part e.0 e.1) e.2

-- the ways of a valid state's flows have their ends below n
pub flows-within : (s : State) → IsValid s → Within s.header.containers (edges_of (flows_of s))
flows-within s v = within-flows s.header.containers (flows_of s) (λ f i. let e = v.ends f i in (e.0, e.1))

-- TAG SETS

-- propagation leaves as many words
pub propagated-length : (n : ℕ) (fs : List Flow) (ws : List ℕ) → 4 * n ≤ length ws → length (propagated n fs ws) ≡ length ws
unfolding propagated
propagated-length n fs ws h = sets-length n _ ws h

module _ (n : ℕ) (fs : List Flow) (ws : List ℕ) (w : Within n (edges_of fs)) where
  -- propagation leaves each container the tags that it had
  pub propagated-keeps : (c t : ℕ) → c < n → has (set_at ws c) t ≡ true → has (set_at (propagated n fs ws) c) t ≡ true
  propagated-keeps c t l h = (propagated-has n fs ws c t l).1 (c, l, reaches-complete n (edges_of fs) w l ReflTransGenᴰ.refl, h)

  -- after it each way has carried its tags
  propagated-carried : (a b : ℕ) → (a, b) ∈ edges_of fs → (t : ℕ) → has (set_at (propagated n fs ws) a) t ≡ true
      → has (set_at (propagated n fs ws) b) t ≡ true
  propagated-carried a b i t h =
      let r = (propagated-has n fs ws a t (w a b i).0).0 h in
      (propagated-has n fs ws b t (w a b i).1).1
      (r.0, r.1, reaches-complete n (edges_of fs) w r.1 (ReflTransGenᴰ.tail (reaches-sound n (edges_of fs) r.0 a r.2) i), r.3)

-- what each pair takes from its first to its second, the closure of the pairs does too
carried-along : (es : List (ℕ × ℕ)) (P : ℕ → Type 0) → ((a b : ℕ) → (a, b) ∈ es → P a → P b)
    → {a b : ℕ} → ReflTransGenᴰ (λ x y. (x, y) ∈ es) a b → P a → P b
carried-along es P f ReflTransGenᴰ.refl h = h
carried-along es P f (ReflTransGenᴰ.tail {b = b} {c = c} p i) h = f b c i (carried-along es P f p h)

-- where the flows were enabled before, nothing is left to propagate
pub settled : (s : State) (fs : List Flow) → Usable s → ((f : Flow) → f ∈ fs → f ∈ flows_of s) → (c t : ℕ) → c < s.header.containers
    → (has (set_at (propagated s.header.containers fs s.storage.tags) c) t ≡ true) ↔ (has (set_at s.storage.tags c) t ≡ true)
settled s fs u part c t l = (
  λ h.
      let r = (propagated-has n fs ws c t l).0 h in
      carried-along (edges_of fs) (λ a. has (set_at ws a) t ≡ true) (λ a b i. u.valid.carried a b (way a b i) t)
      (reaches-sound n (edges_of fs) r.0 c r.2) r.3,
  propagated-keeps n fs ws (λ a b i. flows-within s u.valid a b (way a b i)) c t l,
)
  where
    n : ℕ
    n = s.header.containers

    ws : List ℕ
    ws = s.storage.tags

    -- their ways are ways of the state's flows
    way : (a b : ℕ) → (a, b) ∈ edges_of fs → (a, b) ∈ edges_of (flows_of s)
    way = edges-part fs (flows_of s) part

-- A CHANGED STATE

-- the flows of a changed state are those that it was given
pub changed-flows : (s : State) (fs : List Flow) (greatest : ℕ) (tags : List ℕ) → flows_of (changed s fs greatest tags) ≡ fs
unfolding flows_of changed
changed-flows s fs greatest tags = flows-taken fs s.storage.flows

-- a changed state is usable where its flows and its tag sets are as a valid state's; policy sets and their counts stay
changed-usable :
    (s : State) (fs : List Flow) (greatest : ℕ) (tags : List ℕ) → Usable s
    → length fs ≤ 512 → Rising 0 fs → ((f : Flow) → f ∈ fs → f.number ≤ greatest)
    → ((f : Flow) → f ∈ fs → ProperEnds s.header.containers f)
    → 4 * s.header.containers ≤ length tags
    → ((c t : ℕ) → c < s.header.containers → has (set_at tags c) t ≡ true → t < s.header.containers)
    → ((c : ℕ) → c < s.header.containers → has (set_at tags c) c ≡ true)
    → ((a b : ℕ) → (a, b) ∈ edges_of fs → (t : ℕ) → has (set_at tags a) t ≡ true → has (set_at tags b) t ≡ true)
    → Usable (changed s fs greatest tags)
unfolding changed
changed-usable s fs greatest tags u few rising past ends long known own carried =
    let same : flows_of (changed s fs greatest tags) ≡ fs = changed-flows s fs greatest tags in
    record {
      sized =
          record {
            some = u.sized.some;
            most = u.sized.most;
            tag-words = long;
            policy-words = u.sized.policy-words;
            count-bytes = u.sized.count-bytes;
            records = rw (flows-length fs s.storage.flows few u.sized.records) u.sized.records;
          };
      valid =
          record {
            some = u.valid.some;
            most = u.valid.most;
            table-count = few;
            policy-counts = u.valid.policy-counts;
            rising = rw same rising;
            not-past = rw same past;
            ends = rw same ends;
            known-tags = known;
            known-policies = u.valid.known-policies;
            own = own;
            carried = rw same carried;
            unused-flows = (unused-iff 512 (length fs) (with_flows fs s.storage.flows)).0 (flows-unused fs s.storage.flows few);
            unused-policies = u.valid.unused-policies;
          };
    }

-- CALLS

-- an enable that no refusal meets leaves a usable state
pub enable-usable : (s : State) (f : Flow) → Enables s f → Usable (enabling s f)
unfolding enabling
enable-usable s f e =
    changed-usable s fs f.number (propagated n fs ws) u (omega (arith, length-append (flows_of s) (f ∷ []), usable-count s u, e.room))
    (rising-append 0 s.header.greatest (flows_of s) f u.valid.rising u.valid.not-past (omega arith) e.above) past ends
    (rw (propagated-length n fs ws u.sized.tag-words) u.sized.tag-words)
    (λ c t l h. let r = (propagated-has n fs ws c t l).0 h in u.valid.known-tags r.0 t r.1 r.3)
    (λ c l. propagated-keeps n fs ws within c c l (u.valid.own c l)) (propagated-carried n fs ws within)
  where
    u : Usable s
    u = e.usable

    n : ℕ
    n = s.header.containers

    ws : List ℕ
    ws = s.storage.tags

    fs : List Flow
    fs = flows_of s ++ (f ∷ [])

    -- each flow is one of those before or the new one
    each : (P : Flow → Type 0) → ((g : Flow) → g ∈ flows_of s → P g) → P f → (g : Flow) → g ∈ fs → P g
    each P old new g i = ⊎_elim (old g) (λ m. subst P (sym (Memᴰ.eq_of_singleton m)) new) (Memᴰ.append_cases (flows_of s) i)

    -- no number passes the new one
    past : (g : Flow) → g ∈ fs → g.number ≤ f.number
    past = each (λ g. g.number ≤ f.number) (λ g i. omega (arith, u.valid.not-past g i, e.above)) (omega arith)

    -- all ends are proper
    ends : (g : Flow) → g ∈ fs → ProperEnds n g
    ends = each (ProperEnds n) u.valid.ends e.proper

    -- so are those of their ways
    within : Within n (edges_of fs)
    within = within-flows n fs (λ g i. let p = ends g i in (p.0, p.1))

-- a disable, whatever its number, leaves a usable state
pub disable-usable : (s : State) (k : ℕ) → Usable s → Usable (disabling s k)
unfolding disabling
disable-usable s k u =
    changed-usable s fs s.header.greatest s.storage.tags u (omega (arith, without-length k (flows_of s), usable-count s u, u.valid.table-count))
    (rising-without k 0 (flows_of s) u.valid.rising) (λ f i. u.valid.not-past f (part f i)) (λ f i. u.valid.ends f (part f i))
    u.sized.tag-words u.valid.known-tags u.valid.own (λ a b i. u.valid.carried a b (edges-part fs (flows_of s) part a b i))
  where
    fs : List Flow
    fs = without k (flows_of s)

    -- what is left was enabled before
    part : (f : Flow) → f ∈ fs → f ∈ flows_of s
    part f i = without-part k (flows_of s) i

-- STARTING

-- after a start that no refusal meets each container has its own tag alone
pub started-has : (n : ℕ) (lent : Storage) → IsSized n lent → (c t : ℕ) → c < n → has (set_at (started n lent).storage.tags c) t ≡ eqb t c
unfolding started
started-has n lent z c t l = set-written n single_of lent.tags c t l ∙ single-has c t (omega (arith, z.most))

-- a start that no refusal meets makes a usable state
pub start-usable : (n : ℕ) (lent : Storage) → IsSized n lent → Usable (started n lent)
unfolding started flows_of Rising edges_of
start-usable n lent z =
    record {
      sized =
          record {
            some = z.some;
            most = z.most;
            tag-words = rw (sets-length n single_of lent.tags z.tag-words) z.tag-words;
            policy-words = subst (λ (m : ℕ). 16 * n ≤ m) (sym (front_length (16 * n) _ lent.policies z.policy-words)) z.policy-words;
            count-bytes = subst (λ (m : ℕ). n ≤ m) (sym (front_length n _ lent.policy_counts z.count-bytes)) z.count-bytes;
            records = rw (flows-length [] lent.flows (omega arith) z.records) z.records;
          };
      valid =
          record {
            some = z.some;
            most = z.most;
            table-count = omega arith;
            policy-counts = λ c l. subst (λ (k : ℕ). k ≤ 4) (sym (front_at n 0 lent.policy_counts c 0 l)) (omega arith);
            rising = tt;
            not-past = λ f i. absurd (Memᴰ.not-nil i);
            ends = λ f i. absurd (Memᴰ.not-nil i);
            known-tags = λ c t l h. omega (arith, eqb-true t c (sym (started-has n lent z c t l) ∙ h));
            known-policies = λ c k t l m h. absurd (not-suc-le-zero (rw (front_at n 0 lent.policy_counts c 0 l) at m));
            own = λ c l. started-has n lent z c c l ∙ eq-eqb c c refl;
            carried = λ a b i. absurd (Memᴰ.not-nil i);
            unused-flows = (unused-iff 512 0 (with_flows [] lent.flows)).0 (flows-unused [] lent.flows (omega arith));
            unused-policies = λ i l h. front_at (16 * n) 0 lent.policies i 0 l;
          };
    }
