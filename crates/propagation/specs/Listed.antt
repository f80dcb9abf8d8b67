-- The sets found, where the containers whose sets a pass changes are listed one by one, and these sets are copied again
-- after it. The laws say of a list what Found.antt says of any containers. A pass keeps a list while it has room.
-- Assumes nothing.
use Rattle.std.specs.Prelude.{◌≡◌, ◌≢◌, List, ℕ, ◌+◌, ◌*◌, ◌/◌, ◌≤◌, ◌<◌, length, get_or, set, take, leb}
use Rattle.std.proofs.Common.{sym, ap, ◌∙◌, inl, inr, ⊎_elim, arith, get_or-set_same, get_or-set_other}
use Rattle.std.proofs.Common.{get_or-take, length-take-le}
use Rattle.std.proofs.Math.Logic.{by_cases}
use Rattle.std.proofs.Math.Decide.{ℕ_discrete}
use borrow.Table.Steps.{cases}
use Rattle.state.specs.State.{set_at}
use Rattle.tagstore.specs.Store.{load_of, put_set, store_of}
use Rattle.tagstore.specs.Laws.{load-whole, store-whole}
use Rattle.tagstore.proofs.Put.{put-words, put-other-set}
use Rattle.propagation.specs.Found.{Found, found-whole, found-wider}

-- container a is listed from place i up to m
abbrev pub Listed : List ℕ → ℕ → ℕ → ℕ → Type 0
Listed changed i m a = (j : ℕ) × (i ≤ j) × (j < m) × (get_or changed j 0 ≡ a)

-- where none is listed they are all
pub all_found : {n : ℕ} (changed : List ℕ) (m : ℕ) {found ws : List ℕ} → Found n (Listed changed m m) found ws → (a : ℕ) → a < n
    → set_at found a ≡ set_at ws a
all_found changed m f = found-whole (λ a w. omega (arith, w.1, w.2)) f

-- one container more is listed, the only one whose set has changed
pub found-more : {n : ℕ} (changed : List ℕ) (m : ℕ) {found ws : List ℕ} (b : ℕ) {ws' : List ℕ} → m < length changed
    → Found n (Listed changed 0 m) found ws → ((a : ℕ) → a ≢ b → set_at ws' a ≡ set_at ws a)
    → Found n (Listed (set changed m b) 0 (m + 1)) found ws'
found-more changed m b r f same =
    found-wider b (m, omega arith, omega arith, get_or-set_same changed m b 0 r)
    (λ a w. (w.0, omega arith, omega (arith, w.2), get_or-set_other changed m w.0 b 0 (λ e. omega (arith, e, w.2)) ∙ w.3)) f same

-- a set stored leaves the others
store_other : (ws : List ℕ) (k j : ℕ) (vs : List ℕ) → j ≢ k → set_at (store_of ws k (load_of vs k)) j ≡ set_at ws j
unfolding store_of
store_other ws k j vs n = cases (leb (length ws / 4) k) (λ q. rw q) (λ q. rw q (put-other-set ws k (load_of vs k) j n))

-- a set copied, where both lists have it
store-this : (ws : List ℕ) (k : ℕ) (vs : List ℕ) → 4 * k + 4 ≤ length ws → 4 * k + 4 ≤ length vs
    → set_at (store_of ws k (load_of vs k)) k ≡ set_at vs k
unfolding set_at
store-this ws k vs hw hv =
    ap (λ (x : List ℕ). set_at x k) (store-whole ws k (load_of vs k) hw ∙ ap (put_set ws k) (load-whole vs k hv))
    ∙ put-words ws k (set_at vs k) hw

-- the set of the first that is listed is copied again
pub found-again : {n : ℕ} (changed : List ℕ) (j m : ℕ) {found ws : List ℕ} → 4 * n ≤ length found → 4 * n ≤ length ws
    → Found n (Listed changed j m) found ws
    → Found n (Listed changed (j + 1) m) (store_of found (get_or changed j 0) (load_of ws (get_or changed j 0))) ws
found-again {n} changed j m {found} {ws} hf hw f = record {
  at = λ a l.
      by_cases (ℕ_discrete a (get_or changed j 0)) (λ q. inr (rw (← q) (store-this found a ws (omega arith) (omega arith))))
      (λ q.
      ⊎_elim (λ w. inl (w.0, omega (arith, w.1, other a w q), w.2, w.3)) (λ e. inr (store_other found (get_or changed j 0) a ws q ∙ e))
      (f.at a l));
}
  where
    other : (a : ℕ) (w : Listed changed j m a) → a ≢ get_or changed j 0 → w.0 ≢ j
    other a w q e = q (sym w.3 ∙ ap (λ (i : ℕ). get_or changed i 0) e)

-- one that is listed up to place m is in the first m of the list
pub listed-front : (changed : List ℕ) (m : ℕ) {a : ℕ} → m ≤ length changed → Listed changed 0 m a
    → Listed (take m changed) 0 (length (take m changed)) a
listed-front changed m h w =
    (w.0, omega arith, omega (arith, length-take-le m changed h, w.2), get_or-take m changed w.0 0 w.2 ∙ w.3)

-- A LIST THAT HAS ROOM FOR 64, as a pass keeps it

-- container a is among the first `count` that are listed; where the list is full it may lack any
abbrev pub WithRoom : ℕ → List ℕ → ℕ → Type 0
WithRoom count list a = count < 64 → Listed list 0 count a

-- so it is among the first of the list, taken alone
pub room-front : (list : List ℕ) (count : ℕ) → count ≤ length list → (a : ℕ) → WithRoom count list a
    → WithRoom (length (take count list)) (take count list) a
room-front list count h a w =
    λ l. listed-front list count h (w (omega (arith, l, length-take-le count list h)))
