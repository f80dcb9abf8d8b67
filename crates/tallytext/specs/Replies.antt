-- The last line and the report of what a replay gave back. Assumes nothing.
use Rattle.std.specs.Prelude.{List, ℕ}
use Rattle.replay.specs.declared.Replayed.{Replayed}
use Rattle.replay.specs.Replies.{refusal_at, byte_at}
use Rattle.tallytext.specs.Text.{last_line, report_of}

abbrev pub last_line_in : Replayed → List ℕ
last_line_in r = last_line (refusal_at r.stop) (byte_at r.stop) r.events r.gain

-- with these words of tag sets
abbrev pub report_in : Replayed → List ℕ → List ℕ
report_in r ws = report_of r.header.containers ws (refusal_at r.stop) (byte_at r.stop) r.events r.gain
