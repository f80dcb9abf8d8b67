-- Laws of sets in lists of words: what is read where, how many pairs there are, when two lists are the same. Assumes nothing.
use Rattle.std.specs.Prelude.{◌≡◌, refl, ℕ, zero, suc, ◌+◌, ◌*◌, ◌-◌, ◌/◌, ◌%◌, ◌≤◌, ◌<◌, length, get_or, drop}
use Rattle.std.proofs.Common.{sym, ◌∙◌, subst, arith, ext_get_or, get_or-drop}
use Rattle.std.proofs.Math.Path.{ap}
use Rattle.std.proofs.Math.Logic.{by_cases}
use mathlib.Core.List.{List}
use Rattle.std.proofs.Math.Numerals.{unary_clauses}
use Rattle.std.proofs.Math.Decide.{dec_lt}
use Rattle.std.proofs.Math.ListN.{length-set}
use Rattle.std.proofs.lemmas.Bool.{lt-leb}
use Rattle.tagset.specs.declared.TagSet.{TagSet}
use Rattle.tagset.proofs.Laws.{size-le}
use Rattle.state.specs.State.{set_at}
use Rattle.tagstore.specs.Store.{load_of, put_set, store_of, total_of}

-- a set that the words have whole is read and written
pub load-whole : (ws : List ℕ) (k : ℕ) → 4 * k + 4 ≤ length ws → load_of ws k ≡ set_at ws k
unfolding load_of
load-whole ws k h = let l : k < length ws / 4 = omega (arith, h) in simp (lt-leb (length ws / 4) k l) refl

pub store-whole : (ws : List ℕ) (k : ℕ) (s : TagSet) → 4 * k + 4 ≤ length ws → store_of ws k s ≡ put_set ws k s
unfolding store_of
store-whole ws k s h = let l : k < length ws / 4 = omega (arith, h) in simp (lt-leb (length ws / 4) k l) refl

-- ONE SET REPLACED

pub put-length : (ws : List ℕ) (k : ℕ) (s : TagSet) → length (put_set ws k s) ≡ length ws
unfolding put_set
put-length ws k s = simp length-set

-- WHEN TWO LISTS ARE THE SAME

-- a word is one of a set's
word-of-set : (ws vs : List ℕ) (k j : ℕ) → j < 4 → set_at ws k ≡ set_at vs k → get_or ws (4 * k + j) 0 ≡ get_or vs (4 * k + j) 0
unfolding set_at
word-of-set ws vs k zero h e = simp unary_clauses (ap (λ (s : TagSet). get_or s.words 0 0) e)
word-of-set ws vs k (suc zero) h e = ap (λ (s : TagSet). get_or s.words 1 0) e
word-of-set ws vs k (suc (suc zero)) h e = ap (λ (s : TagSet). get_or s.words 2 0) e
word-of-set ws vs k (suc (suc (suc zero))) h e = ap (λ (s : TagSet). get_or s.words 3 0) e
word-of-set ws vs k (suc (suc (suc (suc j)))) h e = absurd (omega (arith, h))

-- as long, the same first n sets and the same words past these
pub words-ext : (n : ℕ) (ws vs : List ℕ) → length ws ≡ length vs → ((k : ℕ) → k < n → set_at ws k ≡ set_at vs k) → drop (4 * n) ws ≡ drop (4 * n) vs → ws ≡ vs
words-ext n ws vs l p q = ext_get_or 0 ws vs l (λ i h. at i)
  where
    at : (i : ℕ) → get_or ws i 0 ≡ get_or vs i 0
    at i =
        by_cases (dec_lt i (4 * n))
        (λ m. let e : 4 * (i / 4) + i % 4 ≡ i = omega arith in
        subst (λ (x : ℕ). get_or ws x 0 ≡ get_or vs x 0) e (word-of-set ws vs (i / 4) (i % 4) (omega arith) (p (i / 4) (omega (arith, m)))))
        (λ m. let e : 4 * n + (i - 4 * n) ≡ i = omega (arith, m) in
        subst (λ (x : ℕ). get_or ws x 0 ≡ get_or vs x 0) e
        (sym (get_or-drop (4 * n) ws (i - 4 * n) 0) ∙ ap (λ (l : List ℕ). get_or l (i - 4 * n) 0) q ∙ get_or-drop (4 * n) vs (i - 4 * n) 0))

-- sets whose words are the same
pub set-cong : (ws vs : List ℕ) (k : ℕ) → ((i : ℕ) → i < 4 * k + 4 → get_or ws i 0 ≡ get_or vs i 0) → set_at ws k ≡ set_at vs k
unfolding set_at
set-cong ws vs k h =
    let a = h (4 * k) (omega arith) in
    let b = h (4 * k + 1) (omega arith) in
    let c = h (4 * k + 2) (omega arith) in
    let d = h (4 * k + 3) (omega arith) in
    cc

-- HOW MANY PAIRS

pub total-le : (n : ℕ) (ws : List ℕ) → total_of n ws ≤ 256 * n
unfolding total_of
total-le zero ws = omega arith
total-le (suc n) ws = omega (arith, size-le (set_at ws n), total-le n ws)
