-- The text of `tally` (document 01, 'The program'), as bytes in ASCII. Assumes nothing.
use Rattle.std.specs.Prelude.{Bool, cond, List, [], ◌∷◌, ◌++◌, ℕ, zero, suc, ltb, eqb, length, replicate}
use Rattle.leb128.specs.Number.{Written, write_at}
use Rattle.decimal.specs.Decimal.{decimal_of}
use Rattle.tagset.specs.declared.TagSet.{TagSet}
use Rattle.tagset.specs.Set.{has, size_of}
use Rattle.state.specs.State.{Storage, State, storage_of, set_at, no_flow}
use Rattle.outcome.specs.Outcome.{no_header}
use Rattle.ranking.specs.Ranking.{ranking_of}
use Rattle.replay.specs.Replay.{Replay, replay_of}

-- the words, the space between and the newline at the end of every line
abbrev pub events_word : List ℕ
events_word = 101 ∷ 118 ∷ 101 ∷ 110 ∷ 116 ∷ 115 ∷ []

abbrev pub gain_word : List ℕ
gain_word = 103 ∷ 97 ∷ 105 ∷ 110 ∷ []

abbrev pub refused_word : List ℕ
refused_word = 114 ∷ 101 ∷ 102 ∷ 117 ∷ 115 ∷ 101 ∷ 100 ∷ []

abbrev pub at_word : List ℕ
at_word = 97 ∷ 116 ∷ []

abbrev pub space : ℕ
space = 32

abbrev pub newline : ℕ
newline = 10

-- the numbers from i on, k of them, that pass the test
unfoldable pub those : ℕ → ℕ → (ℕ → Bool) → List ℕ
those i zero p = []
those i (suc k) p = let rest = those (suc i) k p in cond (p i) (i ∷ rest) rest

-- the tags of a set, rising
abbrev pub tags_rising : TagSet → List ℕ
tags_rising s = those 0 256 (has s)

-- numbers in decimal, each after a space
unfoldable pub spaced : List ℕ → List ℕ
spaced [] = []
spaced (v ∷ vs) = (space ∷ decimal_of v) ++ spaced vs

-- 'a line each: holder, size, tags rising, with single spaces'
unfoldable pub line_of : ℕ → TagSet → List ℕ
line_of c s = decimal_of c ++ spaced (size_of s ∷ tags_rising s) ++ (newline ∷ [])

-- the lines of these containers, whose tag sets lie in these words
unfoldable pub lines_of : List ℕ → List ℕ → List ℕ
lines_of [] ws = []
lines_of (c ∷ cs) ws = line_of c (set_at ws c) ++ lines_of cs ws

-- 'the last line is `events` with the number done and `gain` with their sum'
unfoldable pub events_line : ℕ → ℕ → List ℕ
events_line events gain = events_word ++ spaced (events ∷ []) ++ (space ∷ gain_word) ++ spaced (gain ∷ []) ++ (newline ∷ [])

-- 'a refused record gives instead [..] `refused`, the number, `at`, the byte where it begins'
unfoldable pub refused_line : ℕ → ℕ → List ℕ
refused_line refusal byte = refused_word ++ spaced (refusal ∷ []) ++ (space ∷ at_word) ++ spaced (byte ∷ []) ++ (newline ∷ [])

unfoldable pub last_line : ℕ → ℕ → ℕ → ℕ → List ℕ
last_line refusal byte events gain = cond (eqb refusal 0) (events_line events gain) (refused_line refusal byte)

-- 'the holders in ranking order', and after them the last line
unfoldable pub report_of : ℕ → List ℕ → ℕ → ℕ → ℕ → ℕ → List ℕ
report_of n ws refusal byte events gain = lines_of (ranking_of n ws) ws ++ last_line refusal byte events gain

-- the same of a run. 'If n can't be used only that line stands, with byte 0': the header is then of zeros, so there is no container
unfoldable pub replay_text : Replay → List ℕ
replay_text r = report_of r.state.header.containers r.state.storage.tags r.refusal r.byte r.events r.gain

-- THE WHOLE TEXT of an input, run in this storage: 'longer input gives only `refused 10 at 16384`'
unfoldable pub text_of : List ℕ → Storage → List ℕ
text_of bs lent = cond (ltb 16384 (length bs)) (refused_line 10 16384) (replay_text (replay_of bs lent))

-- a new tracker's storage, as the program has it, and what the program prints of its input
abbrev pub new_storage : Storage
new_storage = storage_of (replicate 1024 0) (replicate 4096 0) (replicate 256 0) (replicate 512 no_flow)

abbrev pub printed_of : List ℕ → List ℕ
printed_of bs = text_of bs new_storage

-- the tracker as the run leaves it; longer input is not run
unfoldable pub left_of : List ℕ → Storage → State
left_of bs lent = cond (ltb 16384 (length bs)) (record { header = no_header; storage = lent }) (replay_of bs lent).state

-- the text written at the start of an output; 10 where it does not fit, and the output keeps its content
abbrev pub tally_of : List ℕ → Storage → List ℕ → Written
tally_of bs lent out = write_at out 0 (text_of bs lent)
