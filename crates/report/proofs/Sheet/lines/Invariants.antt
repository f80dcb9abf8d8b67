-- Invariant: the lines of the containers from this one on are left to be put, and a line took at most 1,032 bytes.
-- Assumes nothing.
use Rattle.std.proofs.Common.{◌+◌, ◌*◌, ◌≤◌, drop}
use Rattle.tallytext.specs.Text.{lines_of}
use Rattle.report.specs.Sheet.{PutsOn}
use Rattle.report.proofs.Sheet.lines.Given as goal

abbrev pub invariant-loop-c : goal.invariant-loop-c
invariant-loop-c l =
    PutsOn l.initial.self (lines_of l.order l.tags) (lines_of (drop l.c-index l.order) l.tags) l.self
    × (l.self.at ≤ l.initial.self.at + 1032 * l.c-index)
