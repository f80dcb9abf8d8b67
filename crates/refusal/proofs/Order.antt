-- An order of refusals is a list of conditions, each with its answer: the first condition that holds decides (document 01, 'Order').
-- Assumes nothing.
use Rattle.std.specs.Prelude.{◌≡◌, refl, Bool, true, false, cond, List, [], ◌∷◌, ◌++◌, ◌⊎◌, ◌↔◌, ℕ, suc}
use Rattle.std.proofs.Common.{sym, ap, ◌∙◌, subst, inl, inr, suc-ne-zero}
use Rattle.refusal.specs.Order.{first_of}

module _ {A : Type 0} where
  -- no condition of the list holds
  abbrev pub NoneHolds : List (Bool × A) → Type 0
  NoneHolds [] = Unit {0}
  NoneHolds (c ∷ cs) = (c.0 ≡ false) × NoneHolds cs

  -- a condition of the list holds, none before it does, and this is its answer
  pub record IsFirst (cs : List (Bool × A)) (x : A) : Type 0 where
    pub before : List (Bool × A)
    pub here : Bool × A
    pub after : List (Bool × A)
    pub split : cs ≡ before ++ (here ∷ after)
    pub none : NoneHolds before
    pub holds : here.0 ≡ true
    pub answer : here.1 ≡ x

  -- where one holds and none before it does, its answer is given
  pub first-is : (cs : List (Bool × A)) (a : A) {x : A} → IsFirst cs x → first_of cs a ≡ x
  first-is cs a h = ap (λ (l : List (Bool × A)). first_of l a) h.split ∙ skip h.before h.none ∙ h.answer
    where
      skip : (bs : List (Bool × A)) → NoneHolds bs → first_of (bs ++ (h.here ∷ h.after)) a ≡ h.here.1
      skip [] n = ap (λ (t : Bool). cond t h.here.1 (first_of h.after a)) h.holds
      skip (b ∷ bs) n = ap (λ (t : Bool). cond t b.1 (first_of (bs ++ (h.here ∷ h.after)) a)) n.0 ∙ skip bs n.1

  -- where none holds, the other answer is given
  pub first-none : (cs : List (Bool × A)) (a : A) → NoneHolds cs → first_of cs a ≡ a
  first-none [] a n = refl
  first-none (c ∷ cs) a n = ap (λ (t : Bool). cond t c.1 (first_of cs a)) n.0 ∙ first-none cs a n.1

  -- and one of the two is the case
  pub first-cases : (cs : List (Bool × A)) (a : A) → NoneHolds cs ⊎ IsFirst cs (first_of cs a)
  first-cases [] a = inl tt
  first-cases (c ∷ cs) a = go c.0 refl (first-cases cs a)
    where
      go : (t : Bool) → c.0 ≡ t → NoneHolds cs ⊎ IsFirst cs (first_of cs a) → NoneHolds (c ∷ cs) ⊎ IsFirst (c ∷ cs) (cond c.0 c.1 (first_of cs a))
      go true e d =
          inr
          (record {
            before = [];
            here = c;
            after = cs;
            split = refl;
            none = tt;
            holds = e;
            answer = sym (ap (λ (t : Bool). cond t c.1 (first_of cs a)) e);
          })
      go false e (inl n) = inl (e, n)
      go false e (inr h) =
          inr
          (record {
            before = c ∷ h.before;
            here = h.here;
            after = h.after;
            split = ap (λ (l : List (Bool × A)). c ∷ l) h.split;
            none = (e, h.none);
            holds = h.holds;
            answer = h.answer ∙ sym (ap (λ (t : Bool). cond t c.1 (first_of cs a)) e);
          })

-- a refusal's number, where 0 is none, is answered exactly if it stands beside the first condition that holds
pub first-number : (cs : List (Bool × ℕ)) (k : ℕ) → (first_of cs 0 ≡ suc k) ↔ IsFirst cs (suc k)
first-number cs k = (λ e. pick e (first-cases cs 0), λ h. first-is cs 0 h)
  where
    pick : first_of cs 0 ≡ suc k → NoneHolds cs ⊎ IsFirst cs (first_of cs 0) → IsFirst cs (suc k)
    pick e (inl none) = absurd (suc-ne-zero k (sym e ∙ first-none cs 0 none))
    pick e (inr h) = rw e at h

-- A TABLE of rows, each with its number: where a row that applies gives the number answered, and some row applies, a number is answered exactly if a row of
-- that number applies
pub by_rows : (Row : ℕ → Type 0) {answer : ℕ} → ((k : ℕ) → Row k → answer ≡ k) → (k : ℕ) × Row k → (k : ℕ) → (answer ≡ k) ↔ Row k
by_rows Row number some k = (λ e. subst Row (sym (number some.0 some.1) ∙ e) some.1, number k)
