-- A beginning of a text behind what a writer has. Assumes nothing.
use Rattle.std.proofs.Common.{◌≡◌, ℕ, ◌+◌, ◌-◌, ◌≤◌, List, ◌++◌, Option, length, take, drop, sym, subst, arith, length-append, length-drop, take_all}
use lib.Seq.{take-add, take-append-le, take-append-add}
use Rattle.std.specs.Io.KnownBytes.{Keeps, Appends}
use Rattle.std.proofs.KnownBytes.{Appends-trans, Appends-kept}
use Rattle.stream.specs.Stream.{Begins}

-- the first n bytes came
pub Begins-at : (a b : Option (List ℕ)) (n : ℕ) (text : List ℕ) → n ≤ length text → Appends a b (take n text)
    → Begins a b text
Begins-at a b n text h wrote = (n, h, wrote)

-- a beginning of the first part
pub Begins-part : (a b : Option (List ℕ)) (xs ys : List ℕ) → Begins a b xs → Begins a b (xs ++ ys)
Begins-part a b xs ys h =
    (h.0, omega (arith, h.1, length-append xs ys), subst (Appends a b) (sym (take-append-le h.0 xs ys h.1)) h.2)

-- the first part, and a beginning of the second
pub Begins-after : (a b c : Option (List ℕ)) (xs ys : List ℕ) → Appends a b xs → Begins b c ys → Begins a c (xs ++ ys)
Begins-after a b c xs ys first h = (
  length xs + h.0,
  omega (arith, h.1, length-append xs ys),
  subst (Appends a c) (sym (take-append-add xs ys h.0)) (Appends-trans a b c xs (take h.0 ys) first h.2),
)

-- n bytes more of a text, from the part that was left of it
pub more-written : (a b c : Option (List ℕ)) (text : List ℕ) (f n : ℕ) → Appends a b (take f text)
    → Appends b c (take n (take (length text - f) (drop f text))) → Appends a c (take (f + n) text)
more-written a b c text f n before wrote =
    let rest : take (length text - f) (drop f text) ≡ drop f text =
    take_all (length text - f) (drop f text) (omega (arith, length-drop f text)) in
    let more : Appends b c (take n (drop f text)) = subst (λ (l : List ℕ). Appends b c (take n l)) rest wrote in
    subst (Appends a c) (sym (take-add f n text)) (Appends-trans a b c _ _ before more)

-- no byte more
pub none-written : (a b c : Option (List ℕ)) (text : List ℕ) (f : ℕ) → f ≤ length text → Appends a b (take f text)
    → Keeps b c → Begins a c text
none-written a b c text f h before kept = Begins-at a c f text h (Appends-kept a b c _ before kept)
