-- The text is at the start of the output, which it always fits. Assumes nothing.
use Rattle.std.proofs.Common.{◌≡◌, ◌≢◌, refl, ℕ, ◌≤◌, List, length, sym, ap, ◌∙◌, arith, length-take-le}
use Rattle.std.specs.Prelude.{Result, Ok, Err}
use Rattle.std.specs.Result.{result_unwrap_or}
use Rattle.refusal.specs.declared.Refusal.{Refusal}
use Rattle.leb128.specs.Answer.{Writing, writing_of}
use Rattle.leb128.specs.Number.{write_at, Written}
use Rattle.leb128.specs.Output.{unrefused-fits, write-fits, write-length}
use Rattle.io.specs.Counts.{IsPrefixLen}
use Rattle.tallytext.specs.Text.{new_storage}
use Rattle.tallytext.proofs.Laws.{tally-prints, tally-not-short}
use Rattle.tally.proofs.report_of.Goals as goal
use Rattle.tally.proofs.report_of.Goals.{After-unwrap_or}

-- the position after what was written at the start of an output
within : (out bs : List ℕ) {r : Result ℕ Refusal} (p : ℕ) → writing_of r ≡ (write_at out 0 bs).answer → r ≡ Ok p → p ≤ length out
within out bs p e n =
    let a : writing_of (Ok p) ≡ (write_at out 0 bs).answer = sym (ap writing_of n) ∙ e in
    let fits = unrefused-fits out 0 bs (sym (ap (λ (w : Writing). w.refusal) a)) in
    let next = ap (λ (w : Writing). w.next) (a ∙ ap (λ (w : Written). w.answer) (write-fits out 0 bs fits)) in
    omega (arith, fits, next)

-- so it counts bytes of what was left there
counts : (out bs : List ℕ) {r : Result ℕ Refusal} {left : List ℕ} (p : ℕ) → writing_of r ≡ (write_at out 0 bs).answer → left ≡ (write_at out 0 bs).output → r ≡ Ok p
    → IsPrefixLen p left
counts out bs {left = left} p e o n =
    let l : p ≤ length left = omega (arith, within out bs p e n, ap length o ∙ write-length out 0 bs) in (l, sym (length-take-le p left l))

-- an answer that is no Err
found : (r : Result ℕ Refusal) → ((k : Refusal) → r ≢ Err k) → r ≡ Ok (result_unwrap_or r 0)
found (Ok p) never = refl
found (Err k) never = absurd (never k refl)

module _ (c : After-unwrap_or) where
  is-length : c.text.result ≡ Ok c.unwrap_or.result
  is-length =
      found c.text.result
      (tally-not-short c.args.bytes.now new_storage c.args.text.now (λ k. (c.type_inv.bytes k).fits) (omega arith) c.text.ensures.answer)
      ∙ ap Ok (sym c.unwrap_or.ensures)

pub returns-clause-prefix_len : goal.returns-clause-prefix_len
returns-clause-prefix_len c = counts _ _ c.unwrap_or.result c.text.ensures.answer c.text.ensures.output (is-length c)

pub returns-clause-text_after : goal.returns-clause-text_after
returns-clause-text_after c =
    tally-prints c.args.bytes.now new_storage c.args.text.now (λ k. (c.type_inv.bytes k).fits) (omega arith) c.text.ensures.answer c.text.ensures.output
    c.unwrap_or.result (is-length c)
