-- An order of refusals is a list of conditions, each with its answer: the first condition that holds decides (document
-- 01, 'Order'). Its laws: proofs/Order.antt. Assumes nothing.
use Rattle.std.specs.Prelude.{Bool, cond, List, [], ◌∷◌}

-- the answer beside the first condition that holds, or the other answer where none does
abbrev pub first_of {ℓ} : {A : Type ℓ} → List (Bool × A) → A → A
first_of [] a = a
first_of (c ∷ cs) a = cond c.0 c.1 (first_of cs a)
