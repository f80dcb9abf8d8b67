-- What is written is read back, lengths stay, and nothing beyond is touched: each written list is a new front before the old rest.
-- Assumes nothing.
use Rattle.std.specs.Prelude.{◌≡◌, refl, true, List, ◌++◌, ℕ, zero, suc, ◌+◌, ◌-◌, ◌*◌, ◌/◌, ◌%◌, ◌^◌, ◌≤◌, ◌<◌, take, replicate}
use Rattle.std.proofs.Math.Path.{sym, ap, ap₂}
use Rattle.std.proofs.Common.{◌∙◌, subst, append_assoc, arith, length-append, get_or-take, get_or-drop, length-take-le, take_at}
use Rattle.std.proofs.Math.Logic.{by_cases}
use Rattle.std.proofs.Math.Decide.{dec_lt}
use Rattle.std.proofs.Math.ListN.{length, get_or, drop, get_or-append}
use Rattle.std.proofs.lemmas.List.{length-replicate, get_or-replicate}
use Rattle.std.proofs.Math.Seq.{length_front, drop_at, take-append_seam, drop-append_seam}
use Rattle.model.specs.declared.Flow.{Flow}
use Rattle.model.specs.Reach.{tabulate}
use Rattle.model.proofs.Closure.{tabulate-length, tabulate-at}
use Rattle.tagset.specs.declared.TagSet.{TagSet}
use Rattle.tagset.specs.Set.{bit_at, word_at, has_w, has, IsWords}
use Rattle.tagset.proofs.Laws.{four-words}
use Rattle.tagset.proofs.Word.{each_word}
use Rattle.state.specs.State.{State, flows_of, set_at, with_sets, no_flow, with_flows}
use Rattle.state.specs.Valid.{all_of, is_no_flow}
use Rattle.state.specs.Layout.{Fit64}

-- Reading

-- 'tag t is bit t mod 64 of word t div 64', and set k has the four words from 4k on
pub set-bit : (ws : List ℕ) (k t : ℕ) → t < 256 → has (set_at ws k) t ≡ bit_at (get_or ws (4 * k + t / 64) 0) (t % 64)
unfolding has_w set_at
set-bit ws k t h =
    let word : (q : ℕ) → q < 4 → word_at (set_at ws k).words q ≡ get_or ws (4 * k + q) 0 =
    each_word (λ q. q < 4 → word_at (set_at ws k).words q ≡ get_or ws (4 * k + q) 0) (λ l. ap (λ (i : ℕ). get_or ws i 0) (omega arith)) (λ l. refl) (λ l. refl) (λ l. refl)
    (λ q l. absurd (let z : ⊥ = omega (arith, l) in z)) in
    ap (λ (w : ℕ). bit_at w (t % 64)) (word (t / 64) (omega (arith, h)))

-- the enabled flows are the table's first records, as many as the header says
pub flows-first : (s : State) (i : ℕ) (d : Flow) → i < s.header.count → get_or (flows_of s) i d ≡ get_or s.storage.flows i d
unfolding flows_of
flows-first s i d h = get_or-take s.header.count s.storage.flows i d h

pub flows-count : (s : State) → s.header.count ≤ 512 → 512 ≤ length s.storage.flows → length (flows_of s) ≡ s.header.count
unfolding flows_of
flows-count s h l = length-take-le s.header.count s.storage.flows (omega (arith, h, l))

-- Sets

module _ (n : ℕ) (f : ℕ → TagSet) (ws : List ℕ) where
  -- word i of the sets that are written
  abbrev word : ℕ → ℕ
  word i = get_or (f (i / 4)).words (i % 4) 0

  -- all their words
  abbrev front : List ℕ
  front = tabulate (4 * n) word

  -- they are 4n
  words-length : length front ≡ 4 * n
  words-length = tabulate-length (4 * n) word

  -- the words past the sets stay as they were
  pub sets-beyond : drop (4 * n) (with_sets n f ws) ≡ drop (4 * n) ws
  unfolding with_sets
  sets-beyond = drop_at front (drop (4 * n) ws) (4 * n) words-length

  -- the words stay as many
  pub sets-length : 4 * n ≤ length ws → length (with_sets n f ws) ≡ length ws
  unfolding with_sets
  sets-length h = length_front ws front (4 * n) (words-length ∙ sym (length-take-le (4 * n) ws h))

  -- word j of set k is written at 4 * k + j
  word-written : (k : ℕ) → k < n → (i j : ℕ) → j < 4 → i ≡ 4 * k + j → get_or (with_sets n f ws) i 0 ≡ get_or (f k).words j 0
  unfolding with_sets
  word-written k h i j l e =
      get_or-append front (drop (4 * n) ws) 0 i (omega (arith, words-length)) ∙ tabulate-at (4 * n) word i 0 (omega arith)
      ∙ ap₂ (λ (a b : ℕ). get_or (f a).words b 0) (omega arith) (omega arith)

  -- a set that is written has the tags that it was given
  pub set-written : (k t : ℕ) → k < n → has (set_at (with_sets n f ws) k) t ≡ has (f k) t
  unfolding has_w set_at
  set-written k t h =
      let at = word-written k h in
      ap (λ (w : ℕ). bit_at w (t % 64))
      (each_word (λ q. word_at (set_at (with_sets n f ws) k).words q ≡ word_at (f k).words q) (at (4 * k) 0 (omega arith) (omega arith))
      (at (4 * k + 1) 1 (omega arith) refl) (at (4 * k + 2) 2 (omega arith) refl) (at (4 * k + 3) 3 (omega arith) refl) (λ q. refl) (t / 64))

-- so has every set of such words
pub set-fits : (ws : List ℕ) (k : ℕ) → Fit64 ws → IsWords (set_at ws k)
unfolding set_at
set-fits ws k h =
    four-words (get_or ws (4 * k) 0) (get_or ws (4 * k + 1) 0) (get_or ws (4 * k + 2) 0) (get_or ws (4 * k + 3) 0) (h (4 * k)) (h (4 * k + 1)) (h (4 * k + 2)) (h (4 * k + 3))

-- and so have words into which such sets are written
pub sets-fit : (n : ℕ) (f : ℕ → TagSet) (ws : List ℕ) → ((k : ℕ) → k < n → IsWords (f k)) → Fit64 ws → Fit64 (with_sets n f ws)
unfolding with_sets
sets-fit n f ws p h i =
    by_cases (dec_lt i (4 * n))
    (λ l. rw (get_or-append (front n f ws) (drop (4 * n) ws) 0 i (omega (arith, words-length n f ws)), tabulate-at (4 * n) (word n f ws) i 0 l) ((p (i / 4) (omega (arith, l))).fits (i % 4)))
    (λ l. let j : 4 * n + (i - 4 * n) ≡ i = omega (arith, l) in
    subst (λ (x : ℕ). x < 2 ^ 64)
    (sym (ap (λ (x : ℕ). get_or (with_sets n f ws) x 0) (sym j) ∙ sym (get_or-drop (4 * n) (with_sets n f ws) (i - 4 * n) 0)
    ∙ ap (λ (l : List ℕ). get_or l (i - 4 * n) 0) (sets-beyond n f ws) ∙ get_or-drop (4 * n) ws (i - 4 * n) 0 ∙ ap (λ (x : ℕ). get_or ws x 0) j)) (h i))

-- A front of one value

module _ {A : Type 0} (n : ℕ) (a : A) (l : List A) where
  -- the list stays as long
  pub front_length : n ≤ length l → length (replicate n a ++ drop n l) ≡ length l
  front_length h = length_front l (replicate n a) n (length-replicate n a ∙ sym (length-take-le n l h))

  -- what follows the front stays as it was
  pub front-beyond : drop n (replicate n a ++ drop n l) ≡ drop n l
  front-beyond = drop_at (replicate n a) (drop n l) n (length-replicate n a)

  -- each element of the front is the value
  pub front_at : (i : ℕ) (d : A) → i < n → get_or (replicate n a ++ drop n l) i d ≡ a
  front_at i d h =
      get_or-append (replicate n a) (drop n l) d i (omega (arith, length-replicate n a)) ∙ get_or-replicate n i a d h

-- Flows

-- the flows, and then records of zeros up to m
packed : ℕ → List Flow → List Flow
packed m fs = fs ++ replicate (m - length fs) no_flow

-- they are m records
packed-length : (m : ℕ) (fs : List Flow) → length fs ≤ m → length (packed m fs) ≡ m
unfolding packed
packed-length m fs h =
    omega (arith, length-append fs (replicate (m - length fs) no_flow), length-replicate (m - length fs) no_flow)

-- and those that are not in use are zero
packed-unused : (m : ℕ) (fs : List Flow) → all_of is_no_flow (drop (length fs) (packed m fs)) ≡ true
unfolding packed all_of
packed-unused m fs = rw drop-append_seam (zeros (m - length fs))
  where
    zeros : (k : ℕ) → all_of is_no_flow (replicate k no_flow) ≡ true
    zeros zero = refl
    zeros (suc k) = zeros k

module _ (fs table : List Flow) where
  -- the table is 512 such records, and then the old ones
  flows-packed : with_flows fs table ≡ packed 512 fs ++ drop 512 table
  unfolding with_flows packed
  flows-packed = sym (append_assoc fs (replicate (512 - length fs) no_flow) (drop 512 table))

  -- the table stays as long
  pub flows-length : length fs ≤ 512 → 512 ≤ length table → length (with_flows fs table) ≡ length table
  flows-length h l = rw flows-packed (length_front table (packed 512 fs) 512 (packed-length 512 fs h ∙ sym (length-take-le 512 table l)))

  -- the flows stand at the front
  pub flows-taken : take (length fs) (with_flows fs table) ≡ fs
  unfolding with_flows
  flows-taken = take-append_seam fs (replicate (512 - length fs) no_flow ++ drop 512 table)

  -- the records past 512 stay as they were
  pub flows-beyond : length fs ≤ 512 → drop 512 (with_flows fs table) ≡ drop 512 table
  flows-beyond h = rw flows-packed (drop_at (packed 512 fs) (drop 512 table) 512 (packed-length 512 fs h))

  -- the records of 512 that are not in use are zero
  pub flows-unused : length fs ≤ 512 → all_of is_no_flow (drop (length fs) (take 512 (with_flows fs table))) ≡ true
  flows-unused h =
      rw (flows-packed, take_at (packed 512 fs) (drop 512 table) 512 (packed-length 512 fs h)) (packed-unused 512 fs)
