-- Two sets are equal, as `==` compares them, where they have the same tags. Assumes nothing.
use Rattle.std.specs.Prelude.{◌≡◌, refl, Bool, true, false, ◌&&◌, ℕ, eqb, get_or}
use Rattle.std.proofs.Common.{sym, ap₂, ◌∙◌}
use Rattle.tagset.specs.declared.TagSet.{TagSet}
use Rattle.tagset.specs.contracts.TagSetPartialEq.TheImpl.{ghosts}
use Rattle.tagset.specs.Set.{same_of, IsWords}
use Rattle.tagset.proofs.Word.{four-made, same-tested}

-- the test of `==`, which the derive writes, is that of the definition
pub equal-same : (a b : TagSet) → IsWords a → IsWords b → ghosts.eq a b ≡ same_of a b
equal-same a b ha hb =
    ap₂ ghosts.eq (four-made a ha.four refl refl refl refl) (four-made b hb.four refl refl refl refl)
    ∙ all-four (word 0) (word 1) (word 2) (word 3)
    ∙ sym (same-tested a b ha hb)
  where
    word : ℕ → Bool
    word i = eqb (get_or a.words i 0) (get_or b.words i 0)

    all-four : (p q r s : Bool) → p && (q && (r && (s && true))) ≡ p && q && r && s
    all-four true true true true = refl
    all-four true true true false = refl
    all-four true true false s = refl
    all-four true false r s = refl
    all-four false q r s = refl
