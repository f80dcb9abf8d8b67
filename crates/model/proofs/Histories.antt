-- Flows and the accepted history in the papers' words. Assumes nothing.
use Rattle.std.specs.Prelude.{◌≡◌, refl, Bool, true, false, cond, ◌⊎◌, ◌↔◌, List, [], ◌∷◌, ◌++◌, ℕ, ◌≤◌, ◌<◌}
use Rattle.std.proofs.Common.{sym, ap, subst, inl, inr, ⊎_elim, arith}
use Rattle.std.proofs.lemmas.Bool.{false≢true}
use mathlib.Core.List.Memᴰ
use Rattle.model.proofs.Closure.{reached-inside}
use Rattle.model.proofs.Standing.{enabled-number, number-enabled, without-part, within-flows}
use Rattle.truth.specs.Truth.{and-iff, not_iff, lt_iff, ne_iff}
use Rattle.model.specs.declared.Flow.{Flow}
use Rattle.model.specs.Model.{◌∈◌, Event, enable, disable, History, empty, ◌▸◌, enabled, edges_of, Enabled*, Flows, own, next}
use Rattle.model.specs.Model.{greatest, joins, joined, accepted_from, accepted}
use Rattle.model.specs.Histories.{Accepted, none, more, Occurs, last, before, MayEnable, Inside}

-- FLOWS: 'for the empty history [..] it is the start', Enabled* for one event, and Flows · Enabled* for one more

pub flows-empty : (n t c : ℕ) → Flows n empty t c ↔ ((t ≡ c) × (c < n))
flows-empty n t c = (fore, λ p. subst (λ (x : ℕ). Flows n empty x c) (sym p.0) (own p.1))
  where
    fore : {t c : ℕ} → Flows n empty t c → (t ≡ c) × (c < n)
    fore (own l) = (refl, l)

pub flows-next : (n : ℕ) (h : History) (e : Event) (t c : ℕ) → Flows n (h ▸ e) t c ↔ ((a : ℕ) × Flows n h t a × Enabled* (h ▸ e) a c)
flows-next n h e t c = (fore, λ p. next e p.1 p.2)
  where
    fore : {h : History} {e : Event} {t c : ℕ} → Flows n (h ▸ e) t c → (a : ℕ) × Flows n h t a × Enabled* (h ▸ e) a c
    fore (next {a = a} e p q) = (a, p, q)

pub flows-one : (n : ℕ) (e : Event) (t c : ℕ) → Flows n (empty ▸ e) t c ↔ ((t < n) × Enabled* (empty ▸ e) t c)
flows-one n e t c = (fore, λ p. next e (own p.0) p.1)
  where
    fore : Flows n (empty ▸ e) t c → (t < n) × Enabled* (empty ▸ e) t c
    fore p =
        let r = (flows-next n empty e t c).0 p in
        let s = (flows-empty n t r.0).0 r.1 in
        (omega (arith, s.0, s.1), subst (λ (x : ℕ). Enabled* (empty ▸ e) x c) (sym s.0) r.2)

-- one more event: it joins, or it changes nothing
joined-cases : (n : ℕ) (h : History) (e : Event) → Accepted n h → Accepted n (joined n h e)
unfolding joined
joined-cases n h e a = go (joins n h e) refl
  where
    go : (b : Bool) → joins n h e ≡ b → Accepted n (cond b (h ▸ e) h)
    go true q = more a e q
    go false q = a

accepted-from : (n : ℕ) (es : List Event) (h : History) → Accepted n h → Accepted n (accepted_from n h es)
unfolding accepted_from
accepted-from n [] h a = a
accepted-from n (e ∷ es) h a = accepted-from n es (joined n h e) (joined-cases n h e a)

-- so the accepted history of any events is such
pub accepted-each : (n : ℕ) (es : List Event) → Accepted n (accepted n es)
accepted-each n es = accepted-from n es empty none

-- the accepted history of one event more
last-joined : (n : ℕ) (es : List Event) (e : Event) (h : History) → accepted_from n h (es ++ (e ∷ [])) ≡ joined n (accepted_from n h es) e
unfolding accepted_from
last-joined n [] e h = refl
last-joined n (x ∷ es) e h = last-joined n es e (joined n h x)

pub accepted-last : (n : ℕ) (es : List Event) (e : Event) → accepted n (es ++ (e ∷ [])) ≡ joined n (accepted n es) e
accepted-last n es e = last-joined n es e empty

-- what joins is added, what does not changes nothing
pub joins-added : (n : ℕ) (h : History) (e : Event) → joins n h e ≡ true → joined n h e ≡ h ▸ e
unfolding joined
joins-added n h e q = ap (λ (b : Bool). cond b (h ▸ e) h) q

pub not-joins-same : (n : ℕ) (h : History) (e : Event) → joins n h e ≡ false → joined n h e ≡ h
unfolding joined
not-joins-same n h e q = ap (λ (b : Bool). cond b (h ▸ e) h) q

pub enable-joins : (n : ℕ) (h : History) (f : Flow) → (joins n h (enable f) ≡ true) ↔ MayEnable n h f
unfolding joins
enable-joins n h f =
    simp (and-iff, not_iff, lt_iff, ne_iff) (
      λ ((((from, to), differ), above), room).
          record { from-below = from; to_below = to; differ = differ; above = above; room = room },
      λ m. ((((m.from-below, m.to_below), m.differ), m.above), m.room),
    )

-- a disable joins exactly if a flow with its number is enabled
pub disable-joins : (n : ℕ) (h : History) (k : ℕ) → (joins n h (disable k) ≡ true) ↔ ((f : Flow) × (f ∈ enabled h) × (f.number ≡ k))
unfolding joins
disable-joins n h k = (enabled-number k (enabled h), λ w. number-enabled k (enabled h) w.1 w.2)

-- an event of a history is the last one or an earlier one
occurs-cases : {e e' : Event} {h : History} → Occurs e (h ▸ e') → (e ≡ e') ⊎ Occurs e h
occurs-cases last = inl refl
occurs-cases (before e' o) = inr o

-- every number accepted is at least 1 and at most the greatest, so 'an opening's number is greater than that of every opening accepted before'
pub numbers-rise : {n : ℕ} {h : History} → Accepted n h → (f : Flow) → Occurs (enable f) h → (1 ≤ f.number) × (f.number ≤ greatest h)
unfolding greatest
numbers-rise {n = n} none f o = elim o [ ]
numbers-rise {n} (more {h} a (enable g) q) f o = go (numbers-rise a f) ((enable-joins n h g).0 q).above (occurs-cases o)
  where
    go : (Occurs (enable f) h → (1 ≤ f.number) × (f.number ≤ greatest h)) → greatest h < g.number → (enable f ≡ enable g) ⊎ Occurs (enable f) h
        → (1 ≤ f.number) × (f.number ≤ g.number)
    go r p (inl e) = let s : f ≡ g = cc in let u : f.number ≡ g.number = ap (λ (x : Flow). x.number) s in (omega (arith, u, p), omega (arith, u))
    go r p (inr o) = let s = r o in (s.0, omega (arith, s.1, p))
numbers-rise (more {h} a (disable k) q) f o = go (numbers-rise a f) (occurs-cases o)
  where
    go : (Occurs (enable f) h → (1 ≤ f.number) × (f.number ≤ greatest h)) → (enable f ≡ disable k) ⊎ Occurs (enable f) h
        → (1 ≤ f.number) × (f.number ≤ greatest h)
    go r (inl e) = absurd (false≢true (sym (ap enables e)))
      where
        enables : Event → Bool
        enables (enable g) = true
        enables (disable j) = false
    go r (inr o) = r o

-- so Flows relates to containers below n alone
pub flows-inside : {n : ℕ} {h : History} {t c : ℕ} → Inside n h → Flows n h t c → c < n
unfolding Inside
flows-inside i (own l) = l
flows-inside {n} i (next {h} e p q) = reached-inside n (edges_of (enabled (h ▸ e))) i.1 (flows-inside i.0 p) q

-- the enabled flows of an accepted history have their ends below n
enabled-ends : {n : ℕ} {h : History} → Accepted n h → (f : Flow) → f ∈ enabled h → (f.from < n) × (f.to < n)
unfolding enabled
enabled-ends none f i = absurd (Memᴰ.not-nil i)
enabled-ends {n} (more {h} a (enable g) q) f i =
    let m = (enable-joins n h g).0 q in
    ⊎_elim (enabled-ends a f) (λ j. subst (λ (x : Flow). (x.from < n) × (x.to < n)) (sym (Memᴰ.eq_of_singleton j)) (m.from-below, m.to_below))
    (Memᴰ.append_cases (enabled h) i)
enabled-ends (more {h} a (disable k) q) f i = enabled-ends a f (without-part k (enabled h) i)

-- so it is one of these
pub accepted-inside : {n : ℕ} {h : History} → Accepted n h → Inside n h
unfolding Inside
accepted-inside none = tt
accepted-inside {n} (more {h} a e q) = (accepted-inside a, within-flows n (enabled (h ▸ e)) (enabled-ends (more a e q)))
