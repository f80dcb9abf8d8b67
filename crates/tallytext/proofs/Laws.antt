-- What the text of `tally` is, line by line, that a buffer of 264,256 bytes always holds it, and what is written where it does not fit. Assumes nothing.
use Rattle.std.specs.Prelude.{◌≡◌, Bool, true, not, ◌&&◌, Result, Ok, Err, List, [], ◌∷◌, ◌++◌, map, ◌≢◌, ◌↔◌, ℕ, zero, suc, ◌+◌, ◌-◌, ◌≤◌, ◌<◌, eqb, length, get_or, take, drop}
use Rattle.std.proofs.Math.Path.{refl, ap}
use Rattle.std.proofs.Common.{sym, ap₂, ◌∙◌, ⊎_elim, suc-ne-zero, zero-add, add-zero, arith, length-append, get_or-append-add, take_at, lt-ltb, le-ltb, ne_eqb}
use Rattle.std.proofs.Math.Bool.{cond}
use Rattle.std.proofs.lemmas.Bool.{false≢true, eqb-false, not-true}
use mathlib.Core.List.Memᴰ
use Rattle.std.proofs.Math.Logic.{by_cases}
use Rattle.std.proofs.Math.Decide.{dec_lt, ℕ_discrete}
use Rattle.std.proofs.lemmas.List.{length-replicate}
use Rattle.std.proofs.Math.ListN.{get_or-append}
use borrow.Table.Steps.{cases}
use Rattle.truth.specs.Truth.{and_both}
use Rattle.refusal.specs.declared.Refusal.{Refusal}
use Rattle.refusal.specs.Number.{number_of}
use Rattle.refusal.proofs.Number.{number-positive}
use Rattle.leb128.specs.Answer.{Writing, wrote, unwritten, writing_of}
use Rattle.leb128.specs.Number.{IsBytes, Written}
use Rattle.leb128.specs.Output.{overwrite-start, write-fits, write-short}
use Rattle.decimal.specs.Decimal.{decimal_of}
use Rattle.decimal.proofs.Laws.{decimal_digit, decimal-below}
use Rattle.model.specs.declared.Flow.{Flow}
use Rattle.model.specs.Model.{◌∈◌}
use Rattle.tagset.specs.declared.TagSet.{TagSet}
use Rattle.tagset.specs.Set.{has, one, count_below, size_of}
use Rattle.tagset.proofs.Below.{count-cong, count_add}
use Rattle.tagset.proofs.Laws.{has-lt}
use Rattle.state.specs.State.{Storage, no_flow}
use Rattle.state.specs.IsValid.{IsSized}
use Rattle.outcome.specs.Outcome.{no_header}
use Rattle.ranking.specs.Ranking.{ranking_of, ranked_by}
use Rattle.ranking.specs.Laws.{ranking-length}
use Rattle.replay.specs.declared.Replayed.{Replayed}
use Rattle.replay.specs.Replay.{Replay, replay_of, containers_in}
use Rattle.replay.specs.Replies.{replay_by}
use Rattle.replay.specs.Laws.{replay-not-begun}
use Rattle.replay.proofs.Laws.{replay-containers, replay-events}
use Rattle.tallytext.specs.Words.{spaced_words, line_with}
use Rattle.tallytext.proofs.Words.{line-words, events-line-words, refused-line-words}
use Rattle.tallytext.specs.Replies.{report_in}
use Rattle.tallytext.specs.Text.{events_word, gain_word, refused_word, at_word, space, newline, those, tags_rising, spaced, line_of, lines_of, events_line, refused_line, last_line, report_of, replay_text, text_of, new_storage, left_of, tally_of}
use Rattle.tallytext.proofs.Pieces.{those-in, those-out, spaced-one, lines-length, ranking-below}
use Rattle.replay.proofs.Numbers.{replay-room, replay-gain, replay-refusal, replay-byte}
use Rattle.tallytext.specs.Laws.{container_lines, Above, Rising, NoNewline, IsLine}

-- THE WHOLE TEXT

-- where nothing is refused, the last line is that of what was done
last_done : (byte events gain : ℕ) → last_line 0 byte events gain ≡ events_line events gain
unfolding last_line
last_done byte events gain = refl

-- and otherwise that of the refusal
last-refused : (k byte events gain : ℕ) → last_line (suc k) byte events gain ≡ refused_line (suc k) byte
unfolding last_line
last-refused k byte events gain = rw (ne_eqb (suc k) 0 (suc-ne-zero k)) refl

-- where there is no container, it stands alone
no-container : (ws : List ℕ) (refusal byte events gain : ℕ) → report_of 0 ws refusal byte events gain ≡ last_line refusal byte events gain
unfolding report_of ranking_of ranked_by lines_of
no-container ws refusal byte events gain = refl

module _ (bs : List ℕ) (lent : Storage) where
  -- 'longer input gives only `refused 10 at 16384`'
  pub text-of-long-input : 16384 < length bs → text_of bs lent ≡ refused_line 10 16384
  unfolding text_of
  text-of-long-input h = ap (λ (long : Bool). cond long (refused_line 10 16384) (replay_text (replay_of bs lent))) (lt-ltb 16384 (length bs) h)

  -- and leaves the tracker's storage as it was
  pub left-of-long-input : 16384 < length bs → left_of bs lent ≡ record { header = no_header; storage = lent }
  unfolding left_of
  left-of-long-input h = rw (lt-ltb 16384 (length bs) h) refl

  module _ (short : length bs ≤ 16384) where
    -- any other input is run: the text is the run's
    pub text-of-replay : text_of bs lent ≡ replay_text (replay_of bs lent)
    unfolding text_of
    text-of-replay = rw (le-ltb 16384 (length bs) short) refl

    -- and so is the tracker that is left
    pub left-of-replay : left_of bs lent ≡ (replay_of bs lent).state
    unfolding left_of
    left-of-replay = rw (le-ltb 16384 (length bs) short) refl

    -- 'if n can't be used only that line stands, with byte 0'
    pub text-of-unusable-n : (k : ℕ) → (containers_in bs lent).refusal ≡ suc k → text_of bs lent ≡ refused_line (suc k) 0
    unfolding replay_text
    text-of-unusable-n k e = text-of-replay ∙ ap replay_text (replay-not-begun bs lent k e) ∙ no-container lent.tags (suc k) 0 0 0 ∙ last-refused k 0 0 0

    module _ (begins : (containers_in bs lent).refusal ≡ 0) where
      -- of a run that begins: the lines of the containers, and the last line
      lines-and-last : let r = replay_of bs lent in text_of bs lent ≡ container_lines bs lent ++ last_line r.refusal r.byte r.events r.gain
      unfolding replay_text report_of
      lines-and-last =
          let r : Replay = replay_of bs lent in
          text-of-replay
          ∙ ap (λ (n : ℕ). lines_of (ranking_of n r.state.storage.tags) r.state.storage.tags ++ last_line r.refusal r.byte r.events r.gain)
          (replay-containers bs lent begins)

      -- of a run that is complete: the same lines, and the line of what was done
      pub text-of-complete-replay : let r = replay_of bs lent in r.refusal ≡ 0 → text_of bs lent ≡ container_lines bs lent ++ events_line r.events r.gain
      text-of-complete-replay e = rw (lines-and-last, e, last_done) refl

      -- of one that was refused: the same lines, and the line of the refusal
      pub text-of-refused-replay : (k : ℕ) → let r = replay_of bs lent in r.refusal ≡ suc k → text_of bs lent ≡ container_lines bs lent ++ refused_line (suc k) r.byte
      text-of-refused-replay k e = rw (lines-and-last, e, last-refused) refl

-- what the code puts for an input that is not run
pub long-report : (bs : List ℕ) (lent : Storage) (ws : List ℕ) → 16384 < length bs → report_of 0 ws 10 16384 0 0 ≡ text_of bs lent
long-report bs lent ws h = no-container ws 10 16384 0 0 ∙ last-refused 9 16384 0 0 ∙ sym (text-of-long-input bs lent h)

-- and for a replay that gave back r
pub replay-report : (bs : List ℕ) (lent : Storage) (r : Replayed) (tags policies counts : List ℕ) (flows : List Flow) → length bs ≤ 16384
    → replay_by r tags policies counts flows ≡ replay_of bs lent
    → report_in r tags ≡ text_of bs lent
unfolding replay_text
replay-report bs lent r tags policies counts flows h e = ap replay_text e ∙ sym (text-of-replay bs lent h)

-- THE TAGS OF A SET

-- a number is one of those that pass exactly if it lies among them and passes
those-members : (i k : ℕ) (p : ℕ → Bool) (t : ℕ) → (t ∈ those i k p) ↔ ((i ≤ t) × (t < i + k) × (p t ≡ true))
unfolding those
those-members i zero p t = (λ m. absurd (Memᴰ.not-nil m), λ h. absurd (omega arith))
those-members i (suc k) p t =
    let ih = those-members (suc i) k p t in
    cases (p i)
    (λ e. rw (those-in i k p e) (
      λ m. ⊎_elim (λ q. (omega (arith, q), omega (arith, q), ap p q ∙ e)) (λ n. let h = ih.0 n in (omega (arith, h.0), omega (arith, h.1), h.2)) (Memᴰ.cases_cons m),
      λ h. by_cases (ℕ_discrete t i) Memᴰ.head (λ n. Memᴰ.tail (ih.1 (omega arith, omega arith, h.2))),
    ))
    (λ e. rw (those-out i k p e) (
      λ m. let h = ih.0 m in (omega (arith, h.0), omega (arith, h.1), h.2),
      λ h. by_cases (ℕ_discrete t i) (λ q. absurd (false≢true (sym e ∙ ap p (sym q) ∙ h.2))) (λ n. ih.1 (omega arith, omega arith, h.2)),
    ))

-- the tags printed are exactly those of the set
pub tags-members : (s : TagSet) (t : ℕ) → (t ∈ tags_rising s) ↔ (has s t ≡ true)
tags-members s t = let m = those-members 0 256 (has s) t in (λ h. (m.0 h).2, λ h. m.1 (omega arith, omega (arith, has-lt s t h), h))

-- so it is with another one above i in front
above_more : (i x : ℕ) (xs : List ℕ) → i < x → Above i xs → Above i (x ∷ xs)
above_more i x xs l h zero m = l
above_more i x xs l h (suc j) m = h j (omega arith)

-- numbers rise with a lesser one in front
rising-more : (x : ℕ) (xs : List ℕ) → Above x xs → Rising xs → Rising (x ∷ xs)
rising-more x xs h r zero zero l m = absurd (omega arith)
rising-more x xs h r zero (suc b) l m = h b (omega arith)
rising-more x xs h r (suc a) zero l m = absurd (omega arith)
rising-more x xs h r (suc a) (suc b) l m = r a b (omega arith) (omega arith)

-- those from a number above i on are above i
those-above : (i j k : ℕ) (p : ℕ → Bool) → i < j → Above i (those j k p)
unfolding those
those-above i j zero p l = λ a h. absurd (omega arith)
those-above i j (suc k) p l =
    let rest = those-above i (suc j) k p (omega arith) in
    cases (p j) (λ e. rw (those-in j k p e) (above_more i j (those (suc j) k p) l rest)) (λ e. rw (those-out j k p e) rest)

-- and they rise
those-rising : (i k : ℕ) (p : ℕ → Bool) → Rising (those i k p)
unfolding those
those-rising i zero p = λ a b l h. absurd (omega arith)
those-rising i (suc k) p =
    let rest = those-rising (suc i) k p in
    cases (p i) (λ e. rw (those-in i k p e) (rising-more i (those (suc i) k p) (those-above i (suc i) k p (omega arith)) rest)) (λ e. rw (those-out i k p e) rest)

-- they rise
pub tags-rising : (s : TagSet) (i j : ℕ) → i < j → j < length (tags_rising s) → get_or (tags_rising s) i 0 < get_or (tags_rising s) j 0
tags-rising s = those-rising 0 256 (has s)

-- those of k numbers are as many as pass
those-count : (i k : ℕ) (p : ℕ → Bool) → length (those i k p) ≡ count_below k (λ j. p (i + j))
unfolding those count_below
those-count i zero p = refl
those-count i (suc k) p =
    let rest = those-count (suc i) k p in
    cases (p i) (λ e. rw (those-in i k p e) (omega (arith, rest, first, ap one e))) (λ e. rw (those-out i k p e) (omega (arith, rest, first, ap one e)))
  where
    -- the first of the numbers, and those behind it
    first : count_below (suc k) (λ j. p (i + j)) ≡ one (p i) + count_below k (λ j. p (suc i + j))
    first =
        let here : p (i + 0) ≡ p i = ap p (add-zero i) in
        let behind = count-cong k (λ j. p (suc i + j)) (λ j. p (i + (1 + j))) (λ j l. let q : suc i + j ≡ i + (1 + j) = omega arith in ap p q) in
        let n : suc k ≡ 1 + k = omega arith in
        ap (λ (m : ℕ). count_below m (λ j. p (i + j))) n ∙ omega (arith, count_add 1 k (λ j. p (i + j)), ap one here, behind)

-- and there are as many as the size says
pub tags-count : (s : TagSet) → length (tags_rising s) ≡ size_of s
unfolding size_of
tags-count s = those-count 0 256 (has s) ∙ count-cong 256 (λ j. has s (0 + j)) (has s) (λ j l. ap (has s) (zero-add j))

-- no byte at all
none : NoNewline []
none k h = absurd (omega arith)

-- one byte more
one_more : (b : ℕ) (bs : List ℕ) → b ≢ newline → NoNewline bs → NoNewline (b ∷ bs)
one_more b bs n h zero l = n
one_more b bs n h (suc k) l = h k (omega arith)

-- one part and another
both : (bs cs : List ℕ) → NoNewline bs → NoNewline cs → NoNewline (bs ++ cs)
both bs cs h g k l =
    by_cases (dec_lt k (length bs)) (λ i. rw (get_or-append bs cs 0 k i) (h k i))
    (λ n.
    let i : k ≡ length bs + (k - length bs) = omega arith in
    let same : get_or (bs ++ cs) k 0 ≡ get_or cs (k - length bs) 0 = ap (λ (j : ℕ). get_or (bs ++ cs) j 0) i ∙ get_or-append-add bs cs (k - length bs) 0 in
    rw same (g (k - length bs) (omega (arith, length-append bs cs))))

-- a number
digits : (v : ℕ) → NoNewline (decimal_of v)
digits v k l e = omega (arith, (decimal_digit v k l).0)

-- whether there is none, computed
lacks : List ℕ → Bool
lacks [] = true
lacks (b ∷ bs) = not (eqb b newline) && lacks bs

-- a word
word : (bs : List ℕ) → lacks bs ≡ true → NoNewline bs
unfolding lacks
word [] e = none
word (b ∷ bs) e =
    let h = and_both (not (eqb b newline)) (lacks bs) e in one_more b bs (eqb-false b newline (not-true (eqb b newline) h.0)) (word bs h.1)

-- words
Each : List (List ℕ) → Type 0
Each [] = Unit {0}
Each (w ∷ ws) = NoNewline w × Each ws

-- words, each behind a space
behind : (ws : List (List ℕ)) → Each ws → NoNewline (spaced_words ws)
unfolding Each spaced_words
behind [] h = none
behind (w ∷ ws) h = both (space ∷ w) (spaced_words ws) (one_more space w (λ e. omega arith) h.0) (behind ws h.1)

-- numbers are such words
numbers : (vs : List ℕ) → Each (map decimal_of vs)
unfolding Each
numbers [] = tt
numbers (v ∷ vs) = (digits v, numbers vs)

-- a line of words is one line
words-end : (w : List ℕ) (ws : List (List ℕ)) → NoNewline w → Each ws → IsLine (line_with w ws)
unfolding line_with
words-end w ws h g = record { body = w ++ spaced_words ws; ends = refl; single = both w (spaced_words ws) h (behind ws g) }

-- so a container's is
pub line-ends : (c : ℕ) (s : TagSet) → IsLine (line_of c s)
line-ends c s = rw (line-words c s) (words-end (decimal_of c) (map decimal_of (size_of s ∷ tags_rising s)) (digits c) (numbers (size_of s ∷ tags_rising s)))

-- and so is that of what was done
pub events-line-ends : (events gain : ℕ) → IsLine (events_line events gain)
unfolding lacks Each
events-line-ends events gain =
    rw (events-line-words events gain)
    (words-end events_word (decimal_of events ∷ gain_word ∷ decimal_of gain ∷ []) (word events_word refl) (digits events, (word gain_word refl, (digits gain, tt))))

-- and that of a refusal
pub refused-line-ends : (refusal byte : ℕ) → IsLine (refused_line refusal byte)
unfolding lacks Each
refused-line-ends refusal byte =
    rw (refused-line-words refusal byte)
    (words-end refused_word (decimal_of refusal ∷ at_word ∷ decimal_of byte ∷ []) (word refused_word refl) (digits refusal, (word at_word refl, (digits byte, tt))))

-- HOW LONG IT IS

-- the words of a line, and two numbers of at most six digits
pair-length : (u v : List ℕ) (a b : ℕ) → a < 1000000 → b < 1000000
    → length (u ++ spaced (a ∷ []) ++ v ++ spaced (b ∷ []) ++ (newline ∷ [])) ≤ length u + length v + 15
pair-length u v a b h g =
    simp (length-append, spaced-one) (omega (arith, decimal-below a 6 h (omega arith), decimal-below b 6 g (omega arith)))

-- the last line
last-length : (refusal byte events gain : ℕ) → refusal < 1000000 → byte < 1000000 → events < 1000000 → gain < 1000000
    → length (last_line refusal byte events gain) ≤ 64
unfolding events_line refused_line
last-length zero byte events gain hr hb he hg =
    rw (last_done byte events gain) (omega (arith, pair-length events_word (space ∷ gain_word) events gain he hg))
last-length (suc k) byte events gain hr hb he hg =
    rw (last-refused k byte events gain) (omega (arith, pair-length refused_word (space ∷ at_word) (suc k) byte hr hb))

-- the text of a run
replay-length : (bs : List ℕ) (lent : Storage) → IsBytes bs → length bs ≤ 16384 → length (replay_text (replay_of bs lent)) ≤ 264256
unfolding replay_text report_of
replay-length bs lent are h =
    let r : Replay = replay_of bs lent in
    let n : ℕ = r.state.header.containers in
    let ws : List ℕ = r.state.storage.tags in
    let most : n ≤ 256 = (replay-room bs lent).0 in
    let lines =
    lines-length (ranking_of n ws) ws (λ k l. let i : k < n = omega (arith, ranking-length n ws) in omega (arith, ranking-below n ws k i, most)) in
    let last =
    last-length r.refusal r.byte r.events r.gain (omega (arith, replay-refusal bs lent are)) (omega (arith, replay-byte bs lent are))
    (omega (arith, replay-events bs lent are)) (omega (arith, replay-gain bs lent)) in
    simp length-append (omega (arith, lines, last, ranking-length n ws, most))

-- THE WHOLE TEXT takes at most 264,256 bytes: 256 lines of 1,032, and the last
pub text-fits : (bs : List ℕ) (lent : Storage) → IsBytes bs → length (text_of bs lent) ≤ 264256
text-fits bs lent are =
    by_cases (dec_lt 16384 (length bs))
    (λ l. rw (text-of-long-input bs lent l, ← last-refused 9 16384 0 0) (omega (arith, last-length 10 16384 0 0 (omega arith) (omega arith) (omega arith) (omega arith))))
    (λ n. let h : length bs ≤ 16384 = omega arith in rw (text-of-replay bs lent h) (replay-length bs lent are h))

-- A NEW TRACKER'S STORAGE takes every n from 1 to 256, and no other
pub new-storage-sized : (n : ℕ) → IsSized n new_storage ↔ ((1 ≤ n) × (n ≤ 256))
new-storage-sized n = (λ z. (z.some, z.most), long)
  where
    long : (1 ≤ n) × (n ≤ 256) → IsSized n new_storage
    long (some, most) =
        record {
          some = some;
          most = most;
          tag-words = omega (arith, most, length-replicate {A = ℕ} 1024 0);
          policy-words = omega (arith, most, length-replicate {A = ℕ} 4096 0);
          count-bytes = omega (arith, most, length-replicate {A = ℕ} 256 0);
          records = omega (arith, length-replicate {A = Flow} 512 no_flow);
        }

-- WHAT IS WRITTEN

module _ (bs : List ℕ) (lent : Storage) (out : List ℕ) where
  -- a text that fits is written at the start, and what lies behind it stays
  pub tally-fits : length (text_of bs lent) ≤ length out
      → ((tally_of bs lent out).answer ≡ wrote (length (text_of bs lent))) × ((tally_of bs lent out).output ≡ text_of bs lent ++ drop (length (text_of bs lent)) out)
  tally-fits h =
      let e = write-fits out 0 (text_of bs lent) (omega arith) in
      (ap (λ (w : Written). w.answer) e ∙ ap wrote (zero-add (length (text_of bs lent))), ap (λ (w : Written). w.output) e ∙ overwrite-start out (text_of bs lent))

  -- where it does not fit, 10 is answered and no byte is written
  pub tally-short : length out < length (text_of bs lent) → ((tally_of bs lent out).answer ≡ unwritten 10) × ((tally_of bs lent out).output ≡ out)
  tally-short h =
      let e = write-short out 0 (text_of bs lent) (omega arith) in (ap (λ (w : Written). w.answer) e, ap (λ (w : Written). w.output) e)

  -- 264,256 bytes are enough for every input
  pub tally-suffices : IsBytes bs → 264256 ≤ length out → (tally_of bs lent out).answer ≡ wrote (length (text_of bs lent))
  tally-suffices are h = (tally-fits (omega (arith, text-fits bs lent are))).0

  -- so what a call leaves up to the position that it answers is the text, and it answers no refusal
  module _ (are : IsBytes bs) (h : 264256 ≤ length out) {r : Result ℕ Refusal} (a : writing_of r ≡ (tally_of bs lent out).answer) where
    pub tally-prints : {left : List ℕ} → left ≡ (tally_of bs lent out).output → (p : ℕ) → r ≡ Ok p → take p left ≡ text_of bs lent
    tally-prints {left} o p n =
        let e : p ≡ length (text_of bs lent) = ap (λ (w : Writing). w.next) (sym (ap writing_of n) ∙ a ∙ tally-suffices are h) in
        let l : left ≡ text_of bs lent ++ drop (length (text_of bs lent)) out = o ∙ (tally-fits (omega (arith, text-fits bs lent are))).1 in
        ap₂ take e l ∙ take_at (text_of bs lent) (drop (length (text_of bs lent)) out) (length (text_of bs lent)) refl

    pub tally-not-short : (k : Refusal) → r ≢ Err k
    tally-not-short k n =
        let z : number_of k ≡ 0 = ap (λ (w : Writing). w.refusal) (sym (ap writing_of n) ∙ a ∙ tally-suffices are h) in omega (arith, z, number-positive k)
