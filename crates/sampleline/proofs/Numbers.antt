-- The numbers of a line: how many there are, and of each that is written as a decimal which it is. Assumes nothing.
use Rattle.std.specs.Prelude.{◌≡◌, ℕ, ◌+◌, ◌^◌, ◌<◌, ◌≤◌, min, List, [], ◌∷◌, ◌++◌, length, get_or, decimal}
use Rattle.std.proofs.Common.{arith, refl, ap, subst, sym, length-append}
use Rattle.std.proofs.Math.Logic.{by_cases}
use Rattle.std.proofs.Math.Decide.{dec_lt}
use Rattle.std.proofs.lemmas.Grind.{common_steps}

-- these are the numbers of k parts from the second on, of at most 64
pub record Numbers (parts : List (List ℕ)) (items : List ℕ) (k : ℕ) : Type 0 where
  pub count : length items ≡ min 64 k
  pub each : (i n : ℕ) → i < length items → n < 2 ^ 64 → get_or parts (i + 1) [] ≡ decimal n → get_or items i 0 ≡ n

-- of no part
pub none : (parts : List (List ℕ)) → Numbers parts [] 0
none parts = record { count = refl; each = λ i n within small e. absurd (omega arith) }

-- a place that is there only since one more number came is that number's
here : (items new : List ℕ) (number i k : ℕ) → i < length new → ¬ (i < length items) → new ≡ items ++ (number ∷ []) → length items ≡ min 64 k → length items < 64 → i ≡ k
here items new number i k within last is c room = let l = ap length is in omega (arith, length-append items (number ∷ []))

-- one part more
pub one_more : (parts : List (List ℕ)) (items new : List ℕ) (k number : ℕ) → Numbers parts items k
    → ((n : ℕ) → n < 2 ^ 64 → get_or parts (k + 1) [] ≡ decimal n → number ≡ n)
    → (length items < 64 → new ≡ items ++ (number ∷ [])) → (64 ≤ length items → new ≡ items) → Numbers parts new (k + 1)
one_more parts items new k number so_far reads pushed full =
    by_cases (dec_lt (length items) 64)
    (λ room. let is = pushed room in record {
      count = let c = so_far.count in grind (arith, common_steps);
      each = λ i n within small e.
          by_cases (dec_lt i (length items))
          (λ old. let h = so_far.each i n old small e in grind (arith, common_steps))
          (λ last. let c = so_far.count in let h = reads n small (subst (λ j. get_or parts (j + 1) [] ≡ decimal n) (here items new number i k within last is c room) e) in grind (arith, common_steps));
    })
    (λ none. subst (λ xs. Numbers parts xs (k + 1)) (sym (full (omega arith)))
    (record { count = let c = so_far.count in omega arith; each = so_far.each }))
