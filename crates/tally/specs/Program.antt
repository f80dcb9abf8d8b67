-- What the program prints of what was read, and what its argument asks for. Assumes nothing.
use Rattle.std.specs.Prelude.{ℕ, ◌≡◌, List, [], ◌∷◌, length, take, codes, Option, Result, Ok, Err, OnOk}
use Rattle.std.specs.declared.io.Error.{Error}
use Rattle.std.specs.Io.KnownBytes.{Keeps}
use Rattle.stream.specs.Stream.{Within, Came, Says, Tells, Prints}
use Rattle.tallytext.specs.Text.{printed_of}
use Rattle.tally.specs.declared.Asked.{Asked}

-- the word --help
abbrev pub help_word : List ℕ
help_word = 45 ∷ 45 ∷ 104 ∷ 101 ∷ 108 ∷ 112 ∷ []

-- a word that names a file: it has a first byte, which is not -
abbrev pub NamesFile : List ℕ → Type 0
NamesFile [] = ⊥
NamesFile (b ∷ rest) = b ≡ 45 → ⊥

-- what a word asks for; of the three one alone holds
abbrev pub AsksFor : List ℕ → Asked → Type 0
AsksFor word Asked.Help = word ≡ help_word
AsksFor word Asked.File = NamesFile word
AsksFor word Asked.Neither = (word ≡ help_word → ⊥) × (NamesFile word → ⊥)

-- how a line on standard error begins that is about standard output
abbrev pub output_name : List ℕ
output_name = codes "tally: standard output"

-- what is done to the output and to the errors where reading gave this and left these bytes: after a read that failed no
-- byte is printed, and a line has the input's name; otherwise what is printed is the text of what was read, or a
-- beginning of it, and then a line has the output's name. `Line` says what of the line came: a beginning of it (`Says`),
-- perhaps nothing, or all of it (`Tells`)
abbrev pub Answers : (Line : Option (List ℕ) → Option (List ℕ) → List ℕ → Type 0) → Result ℕ Error → List ℕ
    → (out out-new errors errors-new : Option (List ℕ)) → List ℕ → Type 0
Answers Line (Ok n) bytes out out-new errors errors-new name =
    Prints Line out out-new errors errors-new (printed_of (take n bytes)) output_name
Answers Line (Err error) bytes out out-new errors errors-new name = Keeps out out-new × Line errors errors-new name

-- what is done where a log came from a reader, which had the bytes `from` and has those that are left, and `done` is
-- answered: Ok only where all of the text or all of the line came
abbrev pub Shows : (from left out out-new errors errors-new : Option (List ℕ)) → List ℕ → Result (Unit {0}) Error → Type 0
Shows from left out out-new errors errors-new name done =
    (read : Result ℕ Error) × (bytes : List ℕ) × (length bytes ≡ 16385)
    × Within read 16385 × Came from left read bytes
    × Answers Says read bytes out out-new errors errors-new name
    × OnOk done (Answers Tells read bytes out out-new errors errors-new name)
