-- What a read says, what reading to the end gives, what printing does, and what a line shows of a name.
-- Assumes nothing.
use Rattle.std.specs.Prelude.{ℕ, ◌≤◌, ◌<◌, cond, eqb, ltb, List, [], ◌∷◌, ◌++◌, length, take, ◌⊎◌}
use Rattle.std.specs.Prelude.{Option, None, Some, Result, Ok, Err, MatchResult}
use Rattle.std.specs.declared.io.Error.{Error}
use Rattle.std.specs.declared.io.ErrorKind.{ErrorKind}
use Rattle.std.specs.declared.io.ErrorKind.TheVariants.{Interrupted}
use Rattle.std.specs.IoError.{error_kind}
use Rattle.std.specs.Io.KnownBytes.{Keeps, Consumes, Appends, IsAtEnd}

-- a read that failed is tried again (None) where it was interrupted: a signal came before a byte did
abbrev pub failed_by : ErrorKind → Error → Result (Option ℕ) Error
failed_by Interrupted error = Ok None
failed_by kind error = Err error

-- what a read says that answered this: so many bytes, 0 at the end; an error is a failure, for the reason that it has
abbrev pub step_of : Result ℕ Error → Result (Option ℕ) Error
step_of (Ok n) = Ok (Some n)
step_of (Err error) = failed_by (error_kind error) error

-- what can come of reading into so much room: no more bytes than there is room for; without room there is no read that
-- could fail
abbrev pub Within : Result ℕ Error → ℕ → Type 0
Within read room = MatchResult read (λ n. n ≤ room) (λ error. 0 < room)

-- of a reader whose bytes are known: those that came first stand at the start of the buffer, and are all that were left
-- where there was room for more; where a read failed those that came before it stand there, and there was room for more
abbrev pub Came : (old new : Option (List ℕ)) → Result ℕ Error → List ℕ → Type 0
Came old new read buf =
    MatchResult read (λ n. Consumes old new (take n buf) × (n < length buf → IsAtEnd new))
    (λ error. (n : ℕ) × (n < length buf) × Consumes old new (take n buf))

-- a byte as a line shows it: a question mark for a control byte of ASCII
abbrev pub visible_byte : ℕ → ℕ
visible_byte b = cond (ltb b 32) 63 (cond (eqb b 127) 63 b)

-- a line about a failure: what failed, a colon, a space, the reason and a newline
abbrev pub line_of : List ℕ → List ℕ → List ℕ
line_of what reason = what ++ (58 ∷ 32 ∷ []) ++ reason ++ (10 ∷ [])

-- of a writer whose bytes are known: a beginning of these, or all of them, came behind those that it had
abbrev pub Begins : (old new : Option (List ℕ)) → List ℕ → Type 0
Begins old new text = (n : ℕ) × (n ≤ length text) × Appends old new (take n text)

-- the line about a failure came, or a beginning of it, perhaps none of it
abbrev pub Says : (old new : Option (List ℕ)) → List ℕ → Type 0
Says old new what = (reason : List ℕ) × Begins old new (line_of what reason)

-- the line about a failure came, all of it
abbrev pub Tells : (old new : Option (List ℕ)) → List ℕ → Type 0
Tells old new what = (reason : List ℕ) × Appends old new (line_of what reason)

-- what printing a text does to the output and to the errors: all of the text came and no line, or a beginning of it and
-- of the line of what failed what `Line` says: a beginning of it (`Says`) or all of it (`Tells`)
abbrev pub Prints : (Line : Option (List ℕ) → Option (List ℕ) → List ℕ → Type 0) → (out out-new errors errors-new : Option (List ℕ)) → (text what : List ℕ) → Type 0
Prints Line out out-new errors errors-new text what =
    (Appends out out-new text × Keeps errors errors-new)
    ⊎ (Begins out out-new text × Line errors errors-new what)
