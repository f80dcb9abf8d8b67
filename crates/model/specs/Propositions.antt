-- Configurations compared, the greatest execution of a history, and a configuration that has just the pairs of Flows.
-- Propositions 1 and 2 of document 000, and the one execution that brings all that Flows relates:
-- proofs/Propositions.antt. Assumes nothing.
use Rattle.std.specs.Prelude.{◌≡◌, true, ◌↔◌, ℕ}
use Rattle.model.specs.Model.{History, Flows}
use Rattle.model.specs.Model.{Configuration, Execution, configuration}

-- THE GREATEST EXECUTION

infix 50 ◌⊑◌
-- every tag is, where the first configuration has it, in the second too
abbrev pub ◌⊑◌ : Configuration → Configuration → Type 0
◌⊑◌ θ θ' = (c t : ℕ) → θ c t ≡ true → θ' c t ≡ true

-- no execution of the history puts a tag where this one does not
abbrev pub IsGreatest : (n : ℕ) {h : History} → Execution h → Type 0
IsGreatest n {h} x = (y : Execution h) → configuration n y ⊑ configuration n x

-- a configuration that has exactly the pairs of Flows
abbrev pub Tells : ℕ → History → Configuration → Type 0
Tells n h θ = (c t : ℕ) → (θ c t ≡ true) ↔ Flows n h t c
