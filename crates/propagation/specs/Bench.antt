-- Passes computed, word by word: within one each edge reads the sets as the pass found them. How many there are is fixed by the laws `passes-some`, `passes-add` and `passes-last` (Exact.antt). Assumes nothing.
use Rattle.std.specs.Prelude.{List, [], ◌∷◌, ℕ, zero, suc}
use Rattle.propagation.specs.Pass.{pass}

-- a row: n, the edges, the first words of the sets, and those after each of three passes
pub record Sample : Type 0 where
  pub containers : ℕ
  pub edges : List (ℕ × ℕ)
  pub sets : List ℕ
  pub passes : List (List ℕ)

-- sets of which each has one word that is not 0; a word past the sets
unfoldable pub words_of : List ℕ → List ℕ
words_of [] = 77 ∷ []
words_of (w ∷ ws) = w ∷ 0 ∷ 0 ∷ 0 ∷ words_of ws

-- the words after each of m passes
unfoldable pub each : ℕ → ℕ → List (ℕ × ℕ) → List ℕ → List (List ℕ)
each zero n es ws = []
each (suc m) n es ws = pass n es ws ∷ each m n es (pass n es ws)

-- the rows: own tags are 1, 2, 4
unfoldable pub samples : List Sample
samples =
    -- no edge
    record { containers = 2; edges = []; sets = 1 ∷ 2 ∷ []; passes = (1 ∷ 2 ∷ []) ∷ (1 ∷ 2 ∷ []) ∷ (1 ∷ 2 ∷ []) ∷ [] }
    -- a chain in the table's order: the second edge reads container 1 as the pass found it, without tag 0
    ∷ record { containers = 3; edges = (0, 1) ∷ (1, 2) ∷ []; sets = 1 ∷ 2 ∷ 4 ∷ []; passes = (1 ∷ 3 ∷ 6 ∷ []) ∷ (1 ∷ 3 ∷ 7 ∷ []) ∷ (1 ∷ 3 ∷ 7 ∷ []) ∷ [] }
    -- the same against it
    ∷ record { containers = 3; edges = (1, 2) ∷ (0, 1) ∷ []; sets = 1 ∷ 2 ∷ 4 ∷ []; passes = (1 ∷ 3 ∷ 6 ∷ []) ∷ (1 ∷ 3 ∷ 7 ∷ []) ∷ (1 ∷ 3 ∷ 7 ∷ []) ∷ [] }
    -- a ring of three
    ∷ record {
      containers = 3;
      edges = (0, 1) ∷ (1, 2) ∷ (2, 0) ∷ [];
      sets = 1 ∷ 2 ∷ 4 ∷ [];
      passes = (5 ∷ 3 ∷ 6 ∷ []) ∷ (7 ∷ 7 ∷ 7 ∷ []) ∷ (7 ∷ 7 ∷ 7 ∷ []) ∷ [];
    }
    -- two edges into one container add up within a pass; an edge with an end that is no container carries nothing
    ∷ record {
      containers = 3;
      edges = (0, 2) ∷ (1, 2) ∷ (3, 1) ∷ (0, 3) ∷ [];
      sets = 1 ∷ 2 ∷ 4 ∷ 8 ∷ [];
      passes = (1 ∷ 2 ∷ 7 ∷ 8 ∷ []) ∷ (1 ∷ 2 ∷ 7 ∷ 8 ∷ []) ∷ (1 ∷ 2 ∷ 7 ∷ 8 ∷ []) ∷ [];
    }
    ∷ []
