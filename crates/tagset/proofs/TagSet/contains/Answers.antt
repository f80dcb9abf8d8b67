-- `contains` meets its contract: the lowest bit of the shifted word is the tag's, and no set has a tag past the last word. Assumes nothing.
use Rattle.std.specs.Prelude.{◌≡◌, Bool, false, ℕ, ◌/◌, ◌%◌, ◌^◌, ◌≤◌, ◌<◌, Option, None, Some, MatchOption, eqb, length}
use Rattle.std.proofs.Common.{sym, ◌∙◌, rules, arith}
use Rattle.std.specs.List.{HoldsAt}
use Rattle.std.specs.Int.Bits.{bit_and}
use denote.Bor.{Bor}
use Rattle.tagset.specs.declared.TagSet.{TagSet}
use Rattle.tagset.specs.Set.{has}
use Rattle.tagset.proofs.Word.{has-near}
use Rattle.tagset.proofs.Laws.{has-far}
use Rattle.tagset.proofs.TagSet.contains.Goals as goal

-- the answer by the word found, if there is one
told : (s : TagSet) (t : ℕ) (word : Option (Bor ℕ)) (r : Bool) → length s.words ≡ 4
    → MatchOption word (length s.words ≤ t / 64) (λ w. t / 64 < length s.words × HoldsAt (λ x. w.now ≡ x) s.words (t / 64))
    → MatchOption word (r ≡ false) (λ w. r ≡ eqb (bit_and (w.now / 2 ^ (t % 64)) 1) 1) → r ≡ has s t
told s t None r four past e = e ∙ sym (has-far s t (omega arith))
told s t (Some w) r four at e = e ∙ rw (at.1 0) (sym (has-near s t (omega arith)))

pub returns : goal.returns
returns c =
    told c.args.self c.args.tag c.get.result c.is_some_and.result (search rules) c.get.ensures.lookup.3 (search rules)
