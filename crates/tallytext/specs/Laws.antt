-- Lines, lists that rise, and the lines of a run's containers. What the text of `tally` is, line by line, and that a
-- buffer of 264,256 bytes always holds it: proofs/Laws.antt. Assumes nothing.
use Rattle.std.specs.Prelude.{◌≡◌, List, [], ◌∷◌, ◌++◌, ◌≢◌, ℕ, ◌<◌, length, get_or}
use Rattle.eventlog.specs.Log.{head_at}
use Rattle.state.specs.State.{Storage}
use Rattle.ranking.specs.Ranking.{ranking_of}
use Rattle.replay.specs.Replay.{replay_of}
use Rattle.tallytext.specs.Text.{newline, lines_of}

-- the lines of the n containers of a run, in the order of their ranking
abbrev pub container_lines : List ℕ → Storage → List ℕ
container_lines bs lent = let ws = (replay_of bs lent).state.storage.tags in lines_of (ranking_of (head_at bs).value ws) ws

-- each of a list is above i
abbrev pub Above : ℕ → List ℕ → Type 0
Above i xs = (j : ℕ) → j < length xs → i < get_or xs j 0

-- each later one is greater
abbrev pub Rising : List ℕ → Type 0
Rising xs = (a b : ℕ) → a < b → b < length xs → get_or xs a 0 < get_or xs b 0

-- LINES

-- no byte of these is a newline
abbrev pub NoNewline : List ℕ → Type 0
NoNewline bs = (k : ℕ) → k < length bs → get_or bs k 0 ≢ newline

-- one line: a newline at its end, and no other
pub record IsLine (l : List ℕ) : Type 0 where
  pub body : List ℕ
  pub ends : l ≡ body ++ (newline ∷ [])
  pub single : (k : ℕ) → k < length body → get_or body k 0 ≢ newline
