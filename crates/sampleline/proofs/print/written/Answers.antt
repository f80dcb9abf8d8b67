-- The text of a list of numbers, as `Spaced` states it, is what its numbers' texts are together.
use Rattle.std.proofs.Common.{◌≡◌, ℕ, ◌∷◌, [], ◌++◌, List, Some, codes, decimal, fold, ap, ◌∙◌, append_assoc, append-nil, sym}
use Rattle.std.specs.List.{flat_map}
use Rattle.std.specs.Fmt.{◌++?◌}
use Rattle.sampleline.proofs.print.written.Goals as goal

spaced : (acc : List ℕ) (xs : List ℕ) → fold (λ text b. text ++? (Some (codes " ") ++? Some (decimal b))) (Some acc) xs ≡ Some (acc ++ flat_map (λ b. codes " " ++ decimal b) xs)
spaced acc [] = ap Some (sym (append-nil acc))
spaced acc (b ∷ xs) = spaced (acc ++ (codes " " ++ decimal b)) xs ∙ ap Some (append_assoc acc (codes " " ++ decimal b) _)

pub returns-in-Ok-clause-next : goal.returns-in-Ok-clause-next
returns-in-Ok-clause-next g c = rw c.in-Ok.is (rw (spaced [] c.args.left.now) at c.write.ensures.bytes)

pub returns-in-Err-clause-refused : goal.returns-in-Err-clause-refused
returns-in-Err-clause-refused g c = rw c.in-Err.is (rw (spaced [] c.args.left.now) at c.write-in-Err.ensures.bytes)
