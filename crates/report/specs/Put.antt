-- Text put into an output piece by piece, where the output may be too short: the position goes on all the same, and what fits as a whole is there.
-- Assumes nothing.
use Rattle.std.specs.Prelude.{◌≡◌, refl, List, [], ◌∷◌, ◌++◌, ℕ, ◌+◌, ◌≤◌, ◌<◌, length, set}
use Rattle.std.proofs.Common.{sym, ap, subst, ◌∙◌, append_assoc, append-nil, arith, length-set, length-append}
use Rattle.std.proofs.Math.Seq.{sets-eq}
use Rattle.leb128.specs.Answer.{Writing, wrote}
use Rattle.leb128.specs.Number.{overwrite, write_at, Written}
use Rattle.leb128.specs.Output.{overwrite-nil, overwrite-append, write-fits, fits-outcome, write-length}

-- `out` was `before`, and is as long. Bytes were put at `at`: if they fit as a whole they are there, and nothing else has changed; `next` is the position after them
pub record Put (before : List ℕ) (at : ℕ) (bs : List ℕ) (out : List ℕ) (next : ℕ) : Type 0 where
  pub after : next ≡ at + length bs
  pub same_length : length out ≡ length before
  pub written : at + length bs ≤ length before → out ≡ overwrite before at bs

-- no byte
pub put-nil : (out : List ℕ) (at : ℕ) → Put out at [] out at
put-nil out at = record { after = omega arith; same_length = refl; written = λ h. sym (overwrite-nil out at) }

-- one piece and then another
pub put-append : {o₀ o₁ o₂ : List ℕ} {at p q : ℕ} {bs cs : List ℕ} → Put o₀ at bs o₁ p → Put o₁ p cs o₂ q → Put o₀ at (bs ++ cs) o₂ q
put-append {o₀} {o₁} {o₂} {at} {p} {q} {bs} {cs} a b =
    record {
      after = omega (arith, a.after, b.after, length-append bs cs);
      same_length = b.same_length ∙ a.same_length;
      written =
          λ h.
          let f : at + length bs + length cs ≤ length o₀ = omega (arith, h, length-append bs cs) in
          b.written (omega (arith, f, a.after, a.same_length))
          ∙ ap (λ (o : List ℕ). overwrite o p cs) (a.written (omega (arith, f)))
          ∙ ap (λ (k : ℕ). overwrite (overwrite o₀ at bs) k cs) a.after
          ∙ overwrite-append o₀ at bs cs f;
    }

-- bytes that are written where they fit
pub put-write : (out : List ℕ) (at : ℕ) (bs : List ℕ) {out' : List ℕ} {next : ℕ} → out' ≡ (write_at out at bs).output → next ≡ at + length bs → Put out at bs out' next
put-write out at bs e n =
    record {
      after = n;
      same_length = ap length e ∙ write-length out at bs;
      written = λ h. e ∙ ap (λ (w : Written). w.output) (write-fits out at bs h);
    }

-- a byte in its place
pub put-place : (out : List ℕ) (at b : ℕ) → at < length out → Put out at (b ∷ []) (set out at b) (at + 1)
put-place out at b h =
    record { after = refl; same_length = length-set out at b; written = λ f. unfold overwrite in sets-eq (b ∷ []) out at f }

-- a byte that has no place
pub put-no-place : (out : List ℕ) (at b : ℕ) → length out ≤ at → Put out at (b ∷ []) out (at + 1)
put-no-place out at b h = record { after = refl; same_length = refl; written = λ f. absurd (omega (arith, h, f)) }

-- bytes that were put at the start, where they fit, are what writing answers and leaves
pub put-fits : {before bs out : List ℕ} {next : ℕ} → Put before 0 bs out next → next ≤ length before
    → (wrote next ≡ (write_at before 0 bs).answer) × (out ≡ (write_at before 0 bs).output)
put-fits {before} {bs} {out} {next} p h =
    let f : 0 + length bs ≤ length before = omega (arith, p.after) in
    let o = fits-outcome before 0 bs f in
    (ap {B = Writing} wrote p.after ∙ o.0, p.written f ∙ o.1)

-- BETWEEN TWO PIECES: `left` is still to be put, so that the whole is there in the end
pub record Putting (before : List ℕ) (at : ℕ) (whole left out : List ℕ) (next : ℕ) : Type 0 where
  pub done : List ℕ
  pub same : done ++ left ≡ whole
  pub put : Put before at done out next

-- nothing is put yet
pub putting-begun : (out : List ℕ) (at : ℕ) (whole : List ℕ) → Putting out at whole whole out at
putting-begun out at whole = record { done = []; same = refl; put = put-nil out at }

module _ {o₀ o₁ : List ℕ} {at p : ℕ} {whole left : List ℕ} (w : Putting o₀ at whole left o₁ p) where
  -- one piece more
  pub putting-next : {o₂ : List ℕ} {q : ℕ} (piece : List ℕ) {rest : List ℕ} → left ≡ piece ++ rest → Put o₁ p piece o₂ q → Putting o₀ at whole rest o₂ q
  putting-next piece {rest} e b =
      record {
        done = w.done ++ piece;
        same = append_assoc w.done piece rest ∙ ap (λ (l : List ℕ). w.done ++ l) (sym e) ∙ w.same;
        put = put-append w.put b;
      }

  -- nothing is left
  pub putting-ended : left ≡ [] → Put o₀ at whole o₁ p
  putting-ended e =
      let all : w.done ≡ whole = sym (append-nil w.done) ∙ ap (λ (l : List ℕ). w.done ++ l) (sym e) ∙ w.same in
      subst (λ (bs : List ℕ). Put o₀ at bs o₁ p) all w.put
