-- Set k of a list of words is the k-th four of them, where they have it whole. Assumes nothing.
use Rattle.std.specs.Prelude.{◌≡◌, refl, List, ℕ, zero, suc, ◌+◌, ◌*◌, ◌≤◌, ◌<◌, length, get_or, take, drop}
use Rattle.std.proofs.Common.{ap, ◌∙◌, arith, lit<, not-suc-le-zero, le_of_suc-le-suc, add-zero, length-take-le, get_or-drop}
use Rattle.std.proofs.lemmas.List.{drop-drop, get_or-take, length-drop}
use Rattle.std.specs.Simd.{first_chunks}
use Rattle.tagset.proofs.Word.{four-made}
use Rattle.state.specs.State.{set_at}

-- the k-th of the first n fours
pub four_at : (n k : ℕ) (ws d : List ℕ) → k < n → get_or (first_chunks 4 n ws) k d ≡ take 4 (drop (4 * k) ws)
four_at zero k ws d h = absurd (not-suc-le-zero h)
four_at (suc n) zero ws d h = refl
four_at (suc n) (suc k) ws d h =
    let e : 4 + 4 * k ≡ 4 * suc k = omega arith in
    four_at n k (drop 4 ws) d (le_of_suc-le-suc h) ∙ ap (take 4) (drop-drop (4 * k) 4 ws ∙ ap (λ (j : ℕ). drop j ws) e)

-- is set k
pub set_of : (ws : List ℕ) (k : ℕ) → 4 * k + 4 ≤ length ws → record { words = take 4 (drop (4 * k) ws) } ≡ set_at ws k
unfolding set_at
set_of ws k h =
    four-made (record { words = take 4 (drop (4 * k) ws) }) (length-take-le 4 (drop (4 * k) ws) (omega (arith, length-drop (4 * k) ws)))
    (word 0 (lit< tt) ∙ ap (λ (j : ℕ). get_or ws j 0) (add-zero (4 * k))) (word 1 (lit< tt)) (word 2 (lit< tt)) (word 3 (lit< tt))
  where
    word : (j : ℕ) → j < 4 → get_or (take 4 (drop (4 * k) ws)) j 0 ≡ get_or ws (4 * k + j) 0
    word j l = get_or-take 4 (drop (4 * k) ws) j 0 l ∙ get_or-drop (4 * k) ws j 0
