-- Invariant: the bytes from this one on are left to be put, and the position went on by one a byte. Assumes nothing.
use Rattle.std.proofs.Common.{◌≡◌, ◌+◌, drop}
use Rattle.report.specs.Sheet.{PutsOn}
use Rattle.report.proofs.Sheet.word.Given as goal

abbrev pub invariant-loop-b : goal.invariant-loop-b
invariant-loop-b l =
    PutsOn l.initial.self l.word (drop l.b-index l.word) l.self × (l.self.at ≡ l.initial.self.at + l.b-index)
