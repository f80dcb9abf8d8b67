-- Invariant: the tags from this one on are left to be put, and the position went on by at most four a tag.
-- Assumes nothing.
use Rattle.std.proofs.Common.{◌+◌, ◌*◌, ◌≤◌}
use Rattle.tallytext.specs.Text.{spaced, tags_rising}
use Rattle.tallytext.specs.Pieces.{tags_from}
use Rattle.report.specs.Sheet.{PutsOn}
use Rattle.report.proofs.Sheet.tags.Given as goal

abbrev pub invariant-loop-tag : goal.invariant-loop-tag
invariant-loop-tag l =
    PutsOn l.initial.self (spaced (tags_rising l.set)) (tags_from l.set l.tag) l.self
    × (l.self.at ≤ l.initial.self.at + 4 * l.tag)
