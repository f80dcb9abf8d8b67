-- Propositions 1 and 2 of document 000, and the one execution that brings all that Flows relates. An execution of a flow goes along one enabled
-- way, and what Flows relates is closed under these; two executions of a history merge into one with the pairs of both. Assumes nothing.
use Rattle.std.specs.Prelude.{◌≡◌, refl, true, ◌&&◌, ◌⊎◌, ◌↔◌, ℕ, zero, suc, ◌<◌, ltb, eqb}
use Rattle.std.proofs.Common.{sym, ◌∙◌, subst, inl, inr, ⊎_elim, not-suc-le-zero, arith, ltb-true, lt-ltb, eqb-true, eq-eqb}
use Rattle.std.proofs.Math.Path.{fun_ext}
use Rattle.std.proofs.lemmas.Bool.{false≢true}
use mathlib.Core.List.Memᴰ
use mathlib.Mathlib.Logic.Relation.ReflTransGenᴰ
use Rattle.std.proofs.Math.Decide.{dec_lt}
use borrow.Table.Steps.{cases}
use Rattle.truth.specs.Truth.{iff, and_both, both-and, left_or, right_or, or-and-iff}
use Rattle.model.specs.declared.Flow.{Flow}
use Rattle.model.specs.Model.{◌∈◌, Event, History, empty, ◌▸◌, edges_of, enabled, Enabled, Enabled*, Flows, own, next}
use Rattle.model.specs.Reach.{reaches}
use Rattle.model.specs.Closure.{Within}
use Rattle.model.proofs.Closure.{reaches-sound, reaches-complete}
use Rattle.model.specs.Histories.{Inside}
use Rattle.model.proofs.Histories.{flows-next, flows-inside}
use Rattle.model.proofs.Standing.{edge_of, of-edge, ends-edge}
use Rattle.model.specs.Model.{Configuration, initial, carry, Execution, begin, event, exec, configuration}
use Rattle.model.specs.Propositions.{◌⊑◌, IsGreatest, Tells}

-- PROPOSITION 1

-- at the start a container has its own tag alone
initial-is : (n c t : ℕ) → initial n c t ≡ true → Flows n empty t c
unfolding initial
initial-is n c t q =
    let p = and_both (ltb c n) (eqb c t) q in
    subst (λ (x : ℕ). Flows n empty x c) (eqb-true c t p.1) (own (ltb-true c n p.0))

-- what an execution of a flow from a to b puts at c was there, or c is b and it was at a
carry-is : (a b : ℕ) (θ : Configuration) (c t : ℕ) → carry a b θ c t ≡ true → (θ c t ≡ true) ⊎ ((c ≡ b) × (θ a t ≡ true))
unfolding carry
carry-is a b θ c t q = ⊎_elim (λ p. inl p) (λ p. inr (eqb-true c b p.0, p.1)) ((or-and-iff (θ c t) (eqb c b) (θ a t)).0 q)

-- what Flows relates to a container, it relates to one that an enabled flow leads to
flows-along : {n : ℕ} {h : History} {t a b c : ℕ} → Flows n h t a → Enabled h a b → c ≡ b → Flows n h t c
unfolding enabled edges_of
flows-along (own l) i e = absurd (Memᴰ.not-nil i)
flows-along {c = c} (next e p q) i r = next {c = c} e p (rw r (ReflTransGenᴰ.tail q i))

-- soundness: where an execution has put a tag, Flows relates the two
pub proposition-1 : (n : ℕ) {h : History} (x : Execution h) (c t : ℕ) → configuration n x c t ≡ true → Flows n h t c
unfolding configuration
proposition-1 n begin c t q = initial-is n c t q
proposition-1 n (event x e) c t q = next e (proposition-1 n x c t q) ReflTransGenᴰ.refl
proposition-1 n (exec x f i a b j) c t q =
    ⊎_elim (λ p. proposition-1 n x c t p)
    (λ p. flows-along (proposition-1 n x a t p.1) (of-edge (enabled _) i j) p.0)
    (carry-is a b (configuration n x) c t q)

-- PROPOSITION 2

-- an execution of a flow from a to b leaves every tag where it was, and puts a's tags at b
carry-keeps : (a b : ℕ) (θ : Configuration) (c t : ℕ) → θ c t ≡ true → carry a b θ c t ≡ true
unfolding carry
carry-keeps a b θ c t q = left_or (eqb c b && θ a t) q

carry-brings : (a b : ℕ) (θ : Configuration) (t : ℕ) → θ a t ≡ true → carry a b θ b t ≡ true
unfolding carry
carry-brings a b θ t q = right_or (θ b t) (both-and (eq-eqb b b refl) q)

-- executions of flows along a way take all tags from its beginning to its end
along : (n : ℕ) {h : History} {a c : ℕ} → Enabled* h a c → (x : Execution h)
    → (y : Execution h) × ((t : ℕ) → configuration n x a t ≡ true → configuration n y c t ≡ true)
unfolding configuration
along n ReflTransGenᴰ.refl x = (x, λ t q. q)
along n {h} (ReflTransGenᴰ.tail {b} {c} p i) x =
    let r = along n p x in
    let s = edge_of (enabled h) i in
    (exec r.0 s.0 s.1 b c s.2, λ t q. carry-brings b c (configuration n r.0) t (r.1 t q))

-- what Flows relates at the start is there
initial-has : {n t c : ℕ} → Flows n empty t c → initial n c t ≡ true
unfolding initial
initial-has {n} (own {c} l) = both-and (lt-ltb c n l) (eq-eqb c c refl)

-- completeness: for each pair of Flows some execution puts the tag there
pub proposition-2 : {n : ℕ} {h : History} {t c : ℕ} → Flows n h t c → (x : Execution h) × (configuration n x c t ≡ true)
unfolding configuration
proposition-2 (own l) = (begin, initial-has (own l))
proposition-2 {n} (next {t = t} e p q) =
    let r = proposition-2 p in
    let s = along n q (event r.0 e) in
    (s.0, s.1 t r.1)

-- an execution of a flow on more tags leaves more
carry-mono : (a b : ℕ) {θ θ' : Configuration} → θ ⊑ θ' → carry a b θ ⊑ carry a b θ'
unfolding carry
carry-mono a b {θ} {θ'} m c t q =
    (or-and-iff (θ' c t) (eqb c b) (θ' a t)).1
    (⊎_elim (λ p. inl (m c t p)) (λ p. inr (p.0, m a t p.1)) ((or-and-iff (θ c t) (eqb c b) (θ a t)).0 q))

-- behind an event: the flows executed there, before it what g makes
behind : {h : History} {e : Event} → (Execution h → Execution h) → Execution (h ▸ e) → Execution (h ▸ e)
behind g (event y e) = event (g y) e
behind g (exec y f i a b j) = exec (behind g y) f i a b j

-- at each place the flows that the one executes there, then those of the other
merge : {h : History} → Execution h → Execution h → Execution h
merge begin y = y
merge (event x e) y = behind (λ z. merge x z) y
merge (exec x f i a b j) y = exec (merge x y) f i a b j

-- an execution of the empty history keeps the start
start-kept : (n : ℕ) (y : Execution empty) → initial n ⊑ configuration n y
unfolding configuration
start-kept n begin c t q = q
start-kept n (exec y f i a b j) c t q = carry-keeps a b (configuration n y) c t (start-kept n y c t q)

-- where each g z has the pairs of x, so it is behind the event; and where each has those of z
behind-has : (n : ℕ) {h : History} {e : Event} (x : Execution h) (g : Execution h → Execution h)
    → ((z : Execution h) → configuration n x ⊑ configuration n (g z)) → (y : Execution (h ▸ e)) → configuration n (event x e) ⊑ configuration n (behind g y)
unfolding configuration behind
behind-has n x g p (event y e) c t q = p y c t q
behind-has n x g p (exec y f i a b j) c t q = carry-keeps a b (configuration n (behind g y)) c t (behind-has n x g p y c t q)

behind_more : (n : ℕ) {h : History} {e : Event} (g : Execution h → Execution h) → ((z : Execution h) → configuration n z ⊑ configuration n (g z))
    → (y : Execution (h ▸ e)) → configuration n y ⊑ configuration n (behind g y)
unfolding configuration behind
behind_more n g p (event y e) = p y
behind_more n g p (exec y f i a b j) = carry-mono a b (behind_more n g p y)

-- the merged execution has the pairs of the one, and of the other
merge-left : (n : ℕ) {h : History} (x y : Execution h) → configuration n x ⊑ configuration n (merge x y)
unfolding configuration merge
merge-left n begin y = start-kept n y
merge-left n (event x e) y = behind-has n x (λ z. merge x z) (λ z. merge-left n x z) y
merge-left n (exec x f i a b j) y = carry-mono a b (merge-left n x y)

merge-right : (n : ℕ) {h : History} (x y : Execution h) → configuration n y ⊑ configuration n (merge x y)
unfolding configuration merge
merge-right n begin y = λ c t q. q
merge-right n (event x e) y = behind_more n (λ z. merge x z) (λ z. merge-right n x z) y
merge-right n (exec x f i a b j) y = λ c t q. carry-keeps a b (configuration n (merge x y)) c t (merge-right n x y c t q)

-- the history with no flow executed
idle : (h : History) → Execution h
idle empty = begin
idle (h ▸ e) = event (idle h) e

-- of executions for each number below k, one that does for all; P is kept where tags are added
gather : (n : ℕ) {h : History} (P : ℕ → Configuration → Type 0) → ((i : ℕ) (θ θ' : Configuration) → θ ⊑ θ' → P i θ → P i θ')
    → ((i : ℕ) → (x : Execution h) × P i (configuration n x)) → (k : ℕ) → (x : Execution h) × ((i : ℕ) → i < k → P i (configuration n x))
gather n {h} P up each zero = (idle h, λ i l. absurd (not-suc-le-zero l))
gather n {h} P up each (suc k) = both (gather n P up each k) (each k)
  where
    both : (x : Execution h) × ((i : ℕ) → i < k → P i (configuration n x)) → (x : Execution h) × P k (configuration n x)
        → (x : Execution h) × ((i : ℕ) → i < suc k → P i (configuration n x))
    both (x, p) (y, q) = (merge x y, λ i l. pick i l (dec_lt i k))
      where
        pick : (i : ℕ) → i < suc k → Dec (i < k) → P i (configuration n (merge x y))
        pick i l (yes m) = up i (configuration n x) (configuration n (merge x y)) (merge-left n x y) (p i m)
        pick i l (no m) =
            let e : k ≡ i = omega (arith, l, m) in
            subst (λ (z : ℕ). P z (configuration n (merge x y))) e (up k (configuration n y) (configuration n (merge x y)) (merge-right n x y) q)

-- behind the event: for each two containers, the way from the one to the other if there is one
bring : (n : ℕ) (h : History) (e : Event) → Within n (edges_of (enabled (h ▸ e))) → (x : Execution h)
    → (y : Execution (h ▸ e)) × ((c : ℕ) → c < n → (a : ℕ) → a < n → Enabled* (h ▸ e) a c → (t : ℕ) → configuration n x a t ≡ true → configuration n y c t ≡ true)
unfolding configuration
bring n h e w x =
    gather n (λ c η. (a : ℕ) → a < n → Enabled* (h ▸ e) a c → (t : ℕ) → configuration n x a t ≡ true → η c t ≡ true)
    (λ c η η' m p a l q t u. m c t (p a l q t u)) from n
  where
    one : (c a : ℕ) → (y : Execution (h ▸ e)) × (a < n → Enabled* (h ▸ e) a c → (t : ℕ) → configuration n x a t ≡ true → configuration n y c t ≡ true)
    one c a =
        cases (reaches n (edges_of (enabled (h ▸ e))) a c)
        (λ r. let s = along n (reaches-sound n (edges_of (enabled (h ▸ e))) a c r) (event x e) in (s.0, λ l q. s.1))
        (λ r. (idle (h ▸ e), λ l q. absurd (false≢true (sym r ∙ reaches-complete n (edges_of (enabled (h ▸ e))) w l q))))

    from : (c : ℕ) → (y : Execution (h ▸ e)) × ((a : ℕ) → a < n → Enabled* (h ▸ e) a c → (t : ℕ) → configuration n x a t ≡ true → configuration n y c t ≡ true)
    from c =
        let r = gather n (λ a η. a < n → Enabled* (h ▸ e) a c → (t : ℕ) → configuration n x a t ≡ true → η c t ≡ true) (λ a η η' m p l q t u. m c t (p l q t u)) (one c) n in
        (r.0, λ a l. r.1 a l l)

-- an execution that brings all that Flows relates
greatest-execution : (n : ℕ) (h : History) → Inside n h → (x : Execution h) × ((c t : ℕ) → Flows n h t c → configuration n x c t ≡ true)
unfolding Inside configuration
greatest-execution n empty i = (begin, λ c t p. initial-has p)
greatest-execution n (h ▸ e) i =
    let x = greatest-execution n h i.0 in
    let y = bring n h e i.1 x.0 in (
      y.0,
      λ c t p.
          let r = (flows-next n h e t c).0 p in
          y.1 c (flows-inside i p) r.0 (flows-inside i.0 r.1) r.2 t (x.1 r.0 t r.1),
    )

-- is left by an execution exactly if no execution of the history puts a tag where this one does not; and some execution leaves it
pub exact : (n : ℕ) (h : History) → Inside n h
    → ((x : Execution h) → Tells n h (configuration n x) ↔ IsGreatest n x) × ((x : Execution h) × Tells n h (configuration n x))
exact n h i =
    let best = greatest-execution n h i in (
      λ x. (
        λ tells y c t q. (tells c t).1 (proposition-1 n y c t q),
        λ greatest c t. (proposition-1 n x c t, λ p. greatest best.0 c t (best.1 c t p)),
      ),
      (best.0, λ c t. (proposition-1 n best.0 c t, best.1 c t)),
    )

-- the same for a configuration that is given
pub exact-at : (n : ℕ) (h : History) → Inside n h → (θ : Configuration) → Tells n h θ
    → ((x : Execution h) → (configuration n x ≡ θ) ↔ IsGreatest n x) × ((x : Execution h) × (configuration n x ≡ θ))
exact-at n h i θ tells =
    let r = exact n h i in
    (λ x. (λ e. (r.0 x).0 (subst (Tells n h) (sym e) tells), λ g. same x ((r.0 x).1 g)), (r.1.0, same r.1.0 r.1.1))
  where
    same : (x : Execution h) → Tells n h (configuration n x) → configuration n x ≡ θ
    same x told =
        fun_ext (λ c. fun_ext (λ t. iff (configuration n x c t) (θ c t) (λ q. (tells c t).1 ((told c t).0 q)) (λ q. (told c t).1 ((tells c t).0 q))))

-- WHAT THE STEPS OF AN EXECUTION DO

-- an event changes no set
pub event-changes-nothing : (n : ℕ) {h : History} (x : Execution h) (e : Event) → configuration n (event x e) ≡ configuration n x
unfolding configuration
event-changes-nothing n x e = refl

-- an execution of an enabled flow adds the tags of its one end to those of its other, and changes nothing else
pub exec-adds : (n : ℕ) {h : History} (x : Execution h) (f : Flow) (i : f ∈ enabled h) (c t : ℕ)
    → (configuration n (exec x f i f.from f.to (ends-edge f)) c t ≡ true) ↔ ((configuration n x c t ≡ true) ⊎ ((c ≡ f.to) × (configuration n x f.from t ≡ true)))
unfolding configuration
exec-adds n x f i c t = (
  carry-is f.from f.to (configuration n x) c t,
  ⊎_elim (carry-keeps f.from f.to (configuration n x) c t) (λ p. rw p.0 (carry-brings f.from f.to (configuration n x) t p.1)),
)
