-- A line of words: single spaces between them and a newline behind. That the text's lines are of this form:
-- proofs/Words.antt. Assumes nothing.
use Rattle.std.specs.Prelude.{List, [], ◌∷◌, ◌++◌, ℕ}
use Rattle.tallytext.specs.Text.{space, newline}

-- words, each behind a space
unfoldable pub spaced_words : List (List ℕ) → List ℕ
spaced_words [] = []
spaced_words (w ∷ ws) = (space ∷ w) ++ spaced_words ws

-- a line of words: the first, the others each behind one space, and a newline
unfoldable pub line_with : List ℕ → List (List ℕ) → List ℕ
unfolding spaced_words
line_with w ws = w ++ spaced_words ws ++ (newline ∷ [])
