-- Text put into a sheet, and the containers whose lines can be put. Assumes nothing.
use Rattle.std.specs.Prelude.{◌≡◌, refl, List, [], ◌++◌, ℕ, ◌+◌, ◌*◌, ◌≤◌, ◌<◌, length, get_or}
use Rattle.std.proofs.Common.{◌∙◌}
use Rattle.report.specs.declared.Sheet.{Sheet}
use Rattle.report.specs.Put.{Put, put-append, Putting, putting-begun, putting-next, putting-ended}

-- the sheet s became t, on the same output, by these bytes
pub record Puts (s : Sheet) (bs : List ℕ) (t : Sheet) : Type 0 where
  pub same_output : t.out.ghost_name ≡ s.out.ghost_name
  pub put : Put s.out.now s.at bs t.out.now t.at

-- the words have the set of each of these containers, at most 256
abbrev pub Listed : List ℕ → List ℕ → Type 0
Listed ws cs =
    (length cs ≤ 256)
    × ((k : ℕ) → k < length cs → (get_or cs k 0 < 256) × (4 * get_or cs k 0 + 4 ≤ length ws))

-- one piece and then another
pub puts-append : {s t u : Sheet} {bs cs : List ℕ} → Puts s bs t → Puts t cs u → Puts s (bs ++ cs) u
puts-append a b = record { same_output = b.same_output ∙ a.same_output; put = put-append a.put b.put }

-- between two pieces: `left` is still to be put
pub record PutsOn (s : Sheet) (whole left : List ℕ) (t : Sheet) : Type 0 where
  pub same_output : t.out.ghost_name ≡ s.out.ghost_name
  pub putting : Putting s.out.now s.at whole left t.out.now t.at

-- nothing is put yet
pub puts-begun : (s : Sheet) (whole : List ℕ) → PutsOn s whole whole s
puts-begun s whole = record { same_output = refl; putting = putting-begun s.out.now s.at whole }

module _ {s t : Sheet} {whole left : List ℕ} (w : PutsOn s whole left t) where
  -- one piece more
  pub puts-next : {u : Sheet} (piece : List ℕ) {rest : List ℕ} → left ≡ piece ++ rest → Puts t piece u
      → PutsOn s whole rest u
  puts-next piece e b =
      record { same_output = b.same_output ∙ w.same_output; putting = putting-next w.putting piece e b.put }

  -- nothing is left
  pub puts-ended : left ≡ [] → Puts s whole t
  puts-ended e = record { same_output = w.same_output; put = putting-ended w.putting e }
