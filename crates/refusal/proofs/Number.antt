-- Laws of the refusals' numbers: they tell the refusals apart, none is 0, and so they tell the answers apart.
-- Assumes nothing.
use Rattle.std.specs.Prelude.{◌≡◌, refl, [], ◌∷◌, ℕ, pred, ◌<◌, get_or, Result, Ok, Err}
use Rattle.std.proofs.Common.{sym, ap, ◌∙◌, arith}
use Rattle.refusal.specs.declared.Refusal.{Refusal}
use Rattle.refusal.specs.declared.Refusal.TheVariants.{Truncated, Overlong, UnknownKind, NoSuchContainer, SelfFlow, StaleNumber, TableFull, NotEnabled, BadSize, ShortOutput, PolicyFull, InvalidState}
use Rattle.refusal.specs.Number.{number_of, refusal_of}

-- the refusal of a number
refusal_with : ℕ → Refusal
refusal_with k =
    get_or
    (Truncated ∷ Overlong ∷ UnknownKind ∷ NoSuchContainer ∷ SelfFlow ∷ StaleNumber ∷ TableFull ∷ NotEnabled ∷ BadSize ∷ ShortOutput ∷ PolicyFull ∷ [])
    (pred k) InvalidState

number-back : (r : Refusal) → refusal_with (number_of r) ≡ r
unfolding refusal_with
number-back Truncated = refl
number-back Overlong = refl
number-back UnknownKind = refl
number-back NoSuchContainer = refl
number-back SelfFlow = refl
number-back StaleNumber = refl
number-back TableFull = refl
number-back NotEnabled = refl
number-back BadSize = refl
number-back ShortOutput = refl
number-back PolicyFull = refl
number-back InvalidState = refl

-- two refusals of one number are one
pub number-injective : (q r : Refusal) → number_of q ≡ number_of r → q ≡ r
number-injective q r e = sym (number-back q) ∙ ap refusal_with e ∙ number-back r

-- 0 is no refusal's number
pub number-positive : (r : Refusal) → 0 < number_of r
number-positive Truncated = omega arith
number-positive Overlong = omega arith
number-positive UnknownKind = omega arith
number-positive NoSuchContainer = omega arith
number-positive SelfFlow = omega arith
number-positive StaleNumber = omega arith
number-positive TableFull = omega arith
number-positive NotEnabled = omega arith
number-positive BadSize = omega arith
number-positive ShortOutput = omega arith
number-positive PolicyFull = omega arith
number-positive InvalidState = omega arith

-- two answers of one number that give nothing else are one
pub refusal-injective : (q r : Result (Unit {0}) Refusal) → refusal_of q ≡ refusal_of r → q ≡ r
refusal-injective (Ok u) (Ok v) e = refl
refusal-injective (Ok u) (Err r) e = absurd (omega (arith, e, number-positive r))
refusal-injective (Err q) (Ok v) e = absurd (omega (arith, e, number-positive q))
refusal-injective (Err q) (Err r) e = ap Err (number-injective q r e)
