-- Sets copied: over the first ones of another list word by word, and one alone. Assumes nothing.
use Rattle.std.specs.Prelude.{◌≡◌, ◌≢◌, List, ◌++◌, ℕ, suc, ◌+◌, ◌*◌, ◌/◌, ◌≤◌, ◌<◌, length, get_or, set, take, drop, leb}
use Rattle.std.proofs.Common.{sym, ap, ap₂, ◌∙◌, subst, zero-add, add-one, arith, get_or-take, length-take-le}
use Rattle.std.proofs.Math.ListN.{get_or-append}
use Rattle.std.proofs.Math.Seq.{paste-suc}
use borrow.Table.Steps.{cases}
use Rattle.state.specs.State.{set_at}
use Rattle.tagstore.specs.Store.{load_of, put_set, store_of}
use Rattle.tagstore.specs.Laws.{set-cong, load-whole, store-whole}
use Rattle.tagstore.proofs.Put.{put-words, put-other-set}

-- with i elements of s copied over those of d, a store copies one more
pub copy_more : {A : Type 0} (s d : List A) (i : ℕ) (z : A) → i < length s → i < length d
    → set (take i s ++ drop i d) i (get_or s i z) ≡ take (i + 1) s ++ drop (i + 1) d
copy_more s d i z hs hd =
    let e : 0 + suc i ≡ i + 1 = omega arith in
    subst (λ (k : ℕ). set (take i s ++ drop k d) k (get_or s i z) ≡ take (i + 1) s ++ drop (i + 1) d) (zero-add i)
    (paste-suc d 0 s i z (omega arith) hs ∙ ap₂ (λ (j k : ℕ). take j s ++ drop k d) (sym (add-one i)) e)

-- each element of the copy is that of s
pub copied_at : {A : Type 0} (m : ℕ) (s d : List A) (i : ℕ) (z : A) → m ≤ length s → i < m
    → get_or (take m s ++ drop m d) i z ≡ get_or s i z
copied_at m s d i z hs h =
    get_or-append (take m s) (drop m d) z i (omega (arith, length-take-le m s hs)) ∙ get_or-take m s i z h

-- so each set of n copied sets is that of the words copied
pub copied-set : (n : ℕ) (ws vs : List ℕ) (k : ℕ) → 4 * n ≤ length ws → k < n
    → set_at (take (4 * n) ws ++ drop (4 * n) vs) k ≡ set_at ws k
copied-set n ws vs k hw h =
    set-cong (take (4 * n) ws ++ drop (4 * n) vs) ws k (λ i l. copied_at (4 * n) ws vs i 0 hw (omega arith))

-- a set stored leaves the others
pub store_other : (ws : List ℕ) (k j : ℕ) (vs : List ℕ) → j ≢ k
    → set_at (store_of ws k (load_of vs k)) j ≡ set_at ws j
unfolding store_of
store_other ws k j vs n = cases (leb (length ws / 4) k) (λ q. rw q) (λ q. rw q (put-other-set ws k (load_of vs k) j n))

-- a set copied, where both lists have it
pub store-this : (ws : List ℕ) (k : ℕ) (vs : List ℕ) → 4 * k + 4 ≤ length ws → 4 * k + 4 ≤ length vs
    → set_at (store_of ws k (load_of vs k)) k ≡ set_at vs k
unfolding set_at
store-this ws k vs hw hv =
    ap (λ (x : List ℕ). set_at x k) (store-whole ws k (load_of vs k) hw ∙ ap (put_set ws k) (load-whole vs k hv)) ∙ put-words ws k (set_at vs k) hw
