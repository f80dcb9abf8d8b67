-- The text word by word: a line is its words with single spaces between them and a newline behind. Assumes nothing.
use Rattle.std.specs.Prelude.{◌≡◌, refl, List, [], ◌∷◌, ◌++◌, map, ℕ}
use Rattle.std.proofs.Common.{ap, ◌∙◌, append_assoc}
use Rattle.decimal.specs.Decimal.{decimal_of}
use Rattle.tagset.specs.declared.TagSet.{TagSet}
use Rattle.tagset.specs.Set.{size_of}
use Rattle.state.specs.State.{set_at}
use Rattle.tallytext.specs.Text.{events_word, gain_word, refused_word, at_word, space, newline, tags_rising, spaced, line_of, lines_of, events_line, refused_line}
use Rattle.tallytext.specs.Words.{spaced_words, line_with}

-- numbers behind spaces are words behind spaces
spaced-words : (vs : List ℕ) → spaced vs ≡ spaced_words (map decimal_of vs)
unfolding spaced spaced_words
spaced-words [] = refl
spaced-words (v ∷ vs) = ap (λ (l : List ℕ). (space ∷ decimal_of v) ++ l) (spaced-words vs)

-- THE LINE OF A CONTAINER: 'holder, size, tags rising, with single spaces'
pub line-words : (c : ℕ) (s : TagSet) → line_of c s ≡ line_with (decimal_of c) (map decimal_of (size_of s ∷ tags_rising s))
unfolding line_of line_with
line-words c s = ap (λ (l : List ℕ). decimal_of c ++ l ++ (newline ∷ [])) (spaced-words (size_of s ∷ tags_rising s))

-- four parts put one behind the other, from either end
four : (w a b c : List ℕ) → w ++ (a ++ []) ++ b ++ c ≡ w ++ (a ++ (b ++ c))
four w a b c = append_assoc (w ++ (a ++ [])) b c ∙ append_assoc w (a ++ []) (b ++ c) ∙ ap (λ (l : List ℕ). w ++ l) (append_assoc a [] (b ++ c))

-- THE LAST LINE: '`events` with the number done and `gain` with their sum', or '`refused`, the number, `at`, the byte'
pub events-line-words : (events gain : ℕ) → events_line events gain ≡ line_with events_word (decimal_of events ∷ gain_word ∷ decimal_of gain ∷ [])
unfolding events_line line_with spaced_words spaced
events-line-words events gain =
    ap (λ (l : List ℕ). l ++ (newline ∷ [])) (four events_word (space ∷ decimal_of events) (space ∷ gain_word) ((space ∷ decimal_of gain) ++ []))

pub refused-line-words : (refusal byte : ℕ) → refused_line refusal byte ≡ line_with refused_word (decimal_of refusal ∷ at_word ∷ decimal_of byte ∷ [])
unfolding refused_line line_with spaced_words spaced
refused-line-words refusal byte =
    ap (λ (l : List ℕ). l ++ (newline ∷ [])) (four refused_word (space ∷ decimal_of refusal) (space ∷ at_word) ((space ∷ decimal_of byte) ++ []))

-- THE LINES OF CONTAINERS stand one behind the other, each with the container's own set
pub no_lines : (ws : List ℕ) → lines_of [] ws ≡ []
unfolding lines_of
no_lines ws = refl

pub line-by-line : (c : ℕ) (cs ws : List ℕ) → lines_of (c ∷ cs) ws ≡ line_of c (set_at ws c) ++ lines_of cs ws
unfolding lines_of
line-by-line c cs ws = refl
