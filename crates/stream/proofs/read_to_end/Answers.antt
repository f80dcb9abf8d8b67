-- What came so far, and what a read brings after it. Assumes nothing.
use Rattle.std.proofs.Common.{◌≡◌, ℕ, ◌+◌, ◌≤◌, List, ◌++◌, Option, length, take, sym, ap, subst, ◌∙◌, arith, rules, length-take-le}
use lib.Seq.{take-append-le, take-append-add}
use Rattle.std.specs.Io.KnownBytes.{Consumes}
use Rattle.std.proofs.KnownBytes.{Consumes-trans}
use Rattle.stream.proofs.read_to_end.Goals as goal

-- the first bytes of the part that was read into stand after the front
after : (front part rest : List ℕ) (f n : ℕ) → length front ≡ f → n ≤ length part → front ++ take n part ≡ take (f + n) (front ++ (part ++ rest))
after front part rest f n long h =
    sym (ap (λ (k : ℕ). take (k + n) (front ++ (part ++ rest))) (sym long) ∙ take-append-add front (part ++ rest) n ∙ ap (λ (l : List ℕ). front ++ l) (take-append-le n part rest h))

-- the front came before, and n bytes more after it
more : (a b c : Option (List ℕ)) (front part rest : List ℕ) (f n : ℕ) → length front ≡ f → n ≤ length part → Consumes a b front → Consumes b c (take n part)
    → Consumes a c (take (f + n) (front ++ (part ++ rest)))
more a b c front part rest f n long h before came = subst (Consumes a c) (after front part rest f n long h) (Consumes-trans a b c _ _ before came)

pub loop-done-preserved-in-Some : goal.loop-done-preserved-in-Some
loop-done-preserved-in-Some g c =
    let at = c.loop-done in
    let part = c.read.new.buf in
    let n = c.in-Some.more in
    let front = length-take-le at.done at.buf (omega (arith, at.invariant.within)) in
    let bound : n ≤ length part = search rules in
    let bytes : Consumes (g.R.Read.remaining at.reader) (g.R.Read.remaining c.read.new.self) (take n part) =
    search rules in
    record {
      came = more _ _ _ _ part _ at.done n front bound at.invariant.came bytes;
      within = search rules;
      same_length = search rules;
    }
