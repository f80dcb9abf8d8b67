-- `decimal::write_decimal` meets its contract. Assumes nothing.
use mathlib.Core.Path.{◌≡◌, refl, sym, ap, subst, ◌∙◌}
use mathlib.Core.Logic.{by_cases}
use mathlib.Core.List.{List, [], ◌∷◌}
use Prim.Native.Nat.{ℕ, suc, ◌+◌, ◌-◌, ◌/◌, ◌%◌, ◌≤◌, ◌<◌}
use native.Mathlib.Nat.{le_refl, add-zero, add-suc}
use native.Mathlib.Decide.{dec_lt}
use native.Mathlib.Omega.{arith}
use lib.ListN.{length, set, take, drop, get_or}
use lib.Seq.{sets, sets-eq, set_comm, take-length, drop-length, drop-cons, take-suc, take_at, get_or_at, get_or-take, length-take-le}
use Rattle.leb128.specs.Number.{write_at, overwrite}
use Rattle.leb128.specs.Output.{fits-outcome, short-outcome}
use Rattle.decimal.specs.Decimal.{decimal_of}
use Rattle.decimal.proofs.Laws.{decimal-last, decimal-more, decimal-length, decimal-some}
use Rattle.decimal.proofs.write_decimal.Invariants.{Here}
use Rattle.decimal.proofs.write_decimal.Goals as goal

-- a store in front of a stored part may as well come first
set-sets : (vs l : List ℕ) (k j a : ℕ) → k < j → set (sets l j vs) k a ≡ sets (set l k a) j vs
set-sets [] l k j a h = refl
set-sets (v ∷ vs) l k j a h =
    set-sets vs (set l j v) k (suc j) a (omega arith) ∙ ap (λ (m : List ℕ). sets m (suc j) vs) (set_comm l j k v a (λ e. omega arith))

-- where the first j + 1 digits of a text are those of v
module _ (ds : List ℕ) (v j : ℕ) (h : j < length ds) (e : decimal_of v ≡ take (suc j) ds) where
  -- v has as many
  long : length (decimal_of v) ≡ suc j
  long = ap length e ∙ length-take-le (suc j) ds h

  -- which is one digit if v is below 10
  one : v < 10 → j ≡ 0
  one g = omega (arith, long, ap length (decimal-last v g))

  -- and otherwise one more than v / 10 has
  several : 10 ≤ v → length (decimal_of (v / 10)) ≡ j
  several g = omega (arith, long, decimal-length v g)

  -- the last of them is the lowest of v
  lowest : get_or ds j 0 ≡ 48 + v % 10
  lowest =
      sym (get_or-take (suc j) ds j 0 (le_refl (suc j)))
      ∙ ap (λ (l : List ℕ). get_or l j 0) (sym e)
      ∙ by_cases (dec_lt v 10)
      (λ g. ap (λ (l : List ℕ). get_or l j 0) (decimal-last v g) ∙ ap (λ (k : ℕ). get_or ((48 + v) ∷ []) k 0) (one g) ∙ omega arith)
      (λ g. let n : 10 ≤ v = omega arith in ap (λ (l : List ℕ). get_or l j 0) (decimal-more v n) ∙ get_or_at (decimal_of (v / 10)) (48 + v % 10) [] 0 j (several n))

  -- and those before it are the digits of v / 10
  higher : 0 < j → decimal_of (v / 10) ≡ take j ds
  higher p =
      by_cases (dec_lt v 10)
      (λ g. absurd (omega (arith, one g)))
      (λ g. let n : 10 ≤ v = omega arith in
      sym (take_at (decimal_of (v / 10)) ((48 + v % 10) ∷ []) j (several n))
      ∙ ap (take j) (sym (decimal-more v n) ∙ e ∙ take-suc ds j 0 h)
      ∙ take_at (take j ds) (get_or ds j 0 ∷ []) j (length-take-le j ds (omega arith)))

-- nothing changes where the digits, of which there is one at least, do not fit
short : (out : List ℕ) (at v : ℕ) → (1 ≤ length (decimal_of v) → length out < at + length (decimal_of v)) → out ≡ (write_at out at (decimal_of v)).output
short out at v h = (short-outcome out at (decimal_of v) (h (decimal-some v))).1

-- before the first turn nothing is written
start : {out : List ℕ} {at value n : ℕ} → n ≡ length (decimal_of value) → Here out at value out value n
start {out} {at} {value} {n} e =
    record {
      left = λ p. sym (ap (λ (k : ℕ). take k (decimal_of value)) e ∙ take-length (decimal_of value));
      same = sym (ap (sets out (at + n)) (ap (λ (k : ℕ). drop k (decimal_of value)) e ∙ drop-length (decimal_of value)));
    }

module _ {out₀ : List ℕ} {at value : ℕ} {out : List ℕ} {rest : ℕ} where
  -- a turn at place j writes the lowest digit of what is left
  turn : (j : ℕ) → j < length (decimal_of value) → Here out₀ at value out rest (suc j) → Here out₀ at value (set out (at + j) (48 + rest % 10)) (rest / 10) j
  turn j l h =
      let ds : List ℕ = decimal_of value in
      let e : decimal_of rest ≡ take (suc j) ds = h.left (omega arith) in
      record {
        left = higher ds rest j l e;
        same =
            ap (λ (o : List ℕ). set o (at + j) (48 + rest % 10)) h.same
            ∙ set-sets (drop (suc j) ds) out₀ (at + j) (at + suc j) (48 + rest % 10) (omega arith)
            ∙ ap (λ (k : ℕ). sets (set out₀ (at + j) (48 + rest % 10)) k (drop (suc j) ds)) (add-suc at j)
            ∙ ap (sets out₀ (at + j)) (ap (λ (x : ℕ). x ∷ drop (suc j) ds) (sym (lowest ds rest j l e)) ∙ sym (drop-cons ds j 0 l));
      }

  -- after the last turn all digits are written
  done : {i : ℕ} → Here out₀ at value out rest i → i ≡ 0 → at + length (decimal_of value) ≤ length out₀ → out ≡ (write_at out₀ at (decimal_of value)).output
  unfolding overwrite
  done {i} h e f =
      h.same
      ∙ ap (λ (k : ℕ). sets out₀ (at + k) (drop k (decimal_of value))) e
      ∙ ap (λ (k : ℕ). sets out₀ k (decimal_of value)) (add-zero at)
      ∙ sets-eq (decimal_of value) out₀ at f
      ∙ (fits-outcome out₀ at (decimal_of value) f).1

-- a number of one digit that fits is written by one store
one-digit : (out : List ℕ) (at v : ℕ) → v < 10 → at < length out → set out at (48 + v) ≡ (write_at out at (decimal_of v)).output
unfolding overwrite
one-digit out at v h l =
    let e = decimal-last v h in
    let f : at + length (decimal_of v) ≤ length out = omega (arith, ap length e) in
    ap (sets out at) (sym e) ∙ sets-eq (decimal_of v) out at f ∙ (fits-outcome out at (decimal_of v) f).1

pub returns-then-at-out : goal.returns-then-at-out
returns-then-at-out c = one-digit c.args.out.now c.args.at c.args.value c.if-value-lt10.true c.if-at-out.true

pub returns-else-at-out : goal.returns-else-at-out
returns-else-at-out c =
    let a = c.args in short a.out.now a.at a.value (λ some. omega (arith, c.if-at-out.false))

pub returns-then-saturating_sub-n : goal.returns-then-saturating_sub-n
returns-then-saturating_sub-n c =
    let a = c.args in short a.out.now a.at a.value (λ some. omega arith)

pub loop-i-init : goal.loop-i-init
loop-i-init c =
    start c.decimal_len-n.ensures

pub loop-i-preserved : goal.loop-i-preserved
loop-i-preserved c =
    let p : c.loop-i.i ≡ suc (c.loop-i.i - 1) = omega arith in
    turn (c.loop-i.i - 1) (omega arith) (subst (Here c.args.out.now c.args.at c.args.value c.loop-i.out c.loop-i.rest) p c.loop-i.invariant)

pub returns : goal.returns
returns c =
    done c.loop-i.invariant (omega arith) (omega (arith, decimal-some c.args.value))
