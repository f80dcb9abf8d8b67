-- The samples of document 01 that are marked P, all as rows of one table, and one proof that computes over all rows. What they must give is the paper's
-- text; four rows of texts at the end are not the paper's, and were written by hand. Assumes nothing.
use Rattle.std.specs.Prelude.{◌≡◌, refl, Bool, true, false, List, [], ◌∷◌, ◌++◌, map, ℕ, ◌+◌, ◌*◌, replicate}
use Rattle.leb128.specs.Answer.{Reading, accepted, refused}
use Rattle.leb128.specs.Number.{groups, form_of, value_of, continued, judged, decode_at}
use Rattle.eventlog.specs.Answer.{event_of}
use Rattle.eventlog.specs.Log.{forms_of, fields_at, record_at, events_within}
use Rattle.model.specs.Model.{Event, enable, disable, flow, edges_of, without, keep, is_enabled}
use Rattle.model.specs.Reach.{tabulate, matrix, cell, is_edge, reach_via}
use Rattle.model.specs.Bench.{events as example}
use Rattle.tagset.specs.declared.TagSet.{TagSet}
use Rattle.tagset.specs.Set.{has, has_w, bit_at, empty_set, single_of, union_of, subset_of, exceeds_of, size_of, count_below, all_below, any_below}
use Rattle.state.specs.State.{Storage, State, bad_size, set_at, with_sets, flows_of, with_flows}
use Rattle.state.specs.Valid.{all_of, rising_from, in_limits, counts_in_limits, numbers_rise, ends_proper, tags_known, own_tags, sets_carried, unused_zero, valid_of}
use Rattle.tagstore.specs.Store.{put_set}
use Rattle.outcome.specs.Outcome.{decided, start_order, started, start_of, enable_later, enable_order, union_over, propagated, gain_of, changed, enabling, enable_of, disable_later, disable_order, disabling, disable_of, add_later, add_order, adding, add_of, Call, ask, add, outcome_of, after}
use Rattle.question.specs.Question.{question_order, asked as asked_of, any_of, policies_of, is_legal, legal_of}
use Rattle.ranking.specs.Ranking.{comes_before, ranks_before, inserted, ranked_by, ranking_of}
use Rattle.decimal.specs.Decimal.{digits, decimal_of}
use Rattle.replay.specs.Replay.{replay_events, replay_from, containers_at, begun, replay_of}
use Rattle.tallytext.specs.Text.{those, spaced, line_of, lines_of, events_line, refused_line, last_line, report_of, replay_text, text_of, printed_of}

-- a row, with what must come of it
pub data Sample : Type 0 where
  -- a number and its bytes, and what reading these answers
  number : ℕ → List ℕ → Reading → Sample
  -- bytes that stand for no number, and the refusal
  bytes : List ℕ → Reading → Sample
  -- n and events; each event's answer (a refusal and a gain), and each container's tags, rising
  events : ℕ → List Event → List (ℕ × ℕ) → List (List ℕ) → Sample
  -- n and events; a container and the policy sets that it is given; each call's answer, the container's tags, and the permission's refusal and answer
  policies : ℕ → List Event → ℕ → List (List ℕ) → List (ℕ × ℕ) → List ℕ → ℕ × Bool → Sample
  -- a log and the whole text that the program prints
  text : List ℕ → List ℕ → Sample

-- lent storage that is longer than needed and full of other content
unfoldable pub lent : ℕ → Storage
lent n =
    record {
      tags = replicate (4 * n + 1) 77;
      policies = replicate (16 * n + 1) 77;
      policy_counts = replicate (n + 1) 77;
      flows = replicate 513 (flow 7 7 7);
    }

-- the answer to each call in turn: refusal and gain
unfoldable pub answers : State → List Call → List (ℕ × ℕ)
answers s [] = []
answers s (c ∷ cs) = let o = outcome_of s c in (o.answer.refusal, o.answer.gain) ∷ answers o.state cs

-- the set of these tags
unfoldable pub set_of : List ℕ → TagSet
set_of [] = empty_set
set_of (t ∷ ts) = union_of (single_of t) (set_of ts)

-- the calls that add these policy sets to a container
unfoldable pub adds : ℕ → List (List ℕ) → List Call
adds c ps = map (λ (p : List ℕ). add c (set_of p)) ps

-- a row with what the definitions give
unfoldable pub computed : Sample → Sample
computed (number v bs r) = number v (form_of v) (decode_at 32 bs 0)
computed (bytes bs r) = bytes bs (decode_at 32 bs 0)
computed (events n es replies sets) =
    let begun = (start_of n (lent n)).state in
    let tags = (after begun (map ask es)).storage.tags in events n es (answers begun (map ask es)) (tabulate n (λ c. those 0 256 (has (set_at tags c))))
computed (policies n es c ps replies tags legal) =
    let begun = (start_of n (lent n)).state in
    let calls = map ask es ++ adds c ps in
    let s = after begun calls in
    let asked = legal_of s c in policies n es c ps (answers begun calls) (those 0 256 (has (set_at s.storage.tags c))) (asked.refusal, asked.value)
computed (text bs t) = text bs (printed_of bs)

-- an accepted event with this gain
abbrev gained : ℕ → ℕ × ℕ
gained k = (0, k)

-- open 0 to 1 and 1 to 2: container 2 has {0, 1, 2}
unfoldable pub chain : List Event
chain = enable (flow 1 0 1) ∷ enable (flow 2 1 2) ∷ []

-- the rows
unfoldable pub samples : List Sample
samples =
    -- n 3, no event: sets {0}, {1}, {2}
    events 3 [] [] ((0 ∷ []) ∷ (1 ∷ []) ∷ (2 ∷ []) ∷ [])
    -- the example, document 000's Example 1: src 0, se 1, p 2, r 3, d 4; gains 1, 1, 0, 4, 0, 0, 4, 0
    ∷ events 5 example
    (gained 1 ∷ gained 1 ∷ gained 0 ∷ gained 4 ∷ gained 0 ∷ gained 0 ∷ gained 4 ∷ gained 0 ∷ [])
    ((0 ∷ []) ∷ (0 ∷ 1 ∷ []) ∷ (0 ∷ 1 ∷ 2 ∷ []) ∷ (0 ∷ 1 ∷ 2 ∷ 3 ∷ []) ∷ (0 ∷ 1 ∷ 2 ∷ 3 ∷ 4 ∷ []) ∷ [])
    -- its log and its whole text: 4 5 0 1 2 3 4, 3 4 0 1 2 3, 2 3 0 1 2, 1 2 0 1, 0 1 0, events 8 gain 10
    ∷ text
    (5 ∷ 0 ∷ 1 ∷ 2 ∷ 3 ∷ 0 ∷ 2 ∷ 0 ∷ 1 ∷ 1 ∷ 2 ∷ 0 ∷ 3 ∷ 1 ∷ 2 ∷ 1 ∷ 1 ∷ 1 ∷ 3 ∷ 0 ∷ 4 ∷ 3 ∷ 4 ∷ 1 ∷ 4 ∷ [])
    ((52 ∷ 32 ∷ 53 ∷ 32 ∷ 48 ∷ 32 ∷ 49 ∷ 32 ∷ 50 ∷ 32 ∷ 51 ∷ 32 ∷ 52 ∷ 10 ∷ [])
    ++ (51 ∷ 32 ∷ 52 ∷ 32 ∷ 48 ∷ 32 ∷ 49 ∷ 32 ∷ 50 ∷ 32 ∷ 51 ∷ 10 ∷ [])
    ++ (50 ∷ 32 ∷ 51 ∷ 32 ∷ 48 ∷ 32 ∷ 49 ∷ 32 ∷ 50 ∷ 10 ∷ [])
    ++ (49 ∷ 32 ∷ 50 ∷ 32 ∷ 48 ∷ 32 ∷ 49 ∷ 10 ∷ [])
    ++ (48 ∷ 32 ∷ 49 ∷ 32 ∷ 48 ∷ 10 ∷ [])
    ++ (101 ∷ 118 ∷ 101 ∷ 110 ∷ 116 ∷ 115 ∷ 32 ∷ 56 ∷ 32 ∷ 103 ∷ 97 ∷ 105 ∷ 110 ∷ 32 ∷ 49 ∷ 48 ∷ 10 ∷ []))
    -- open 1 to 2, close it, open 0 to 1: container 2 has no tag 0
    ∷ events 3 (enable (flow 1 1 2) ∷ disable 1 ∷ enable (flow 2 0 1) ∷ []) (gained 1 ∷ gained 0 ∷ gained 1 ∷ [])
    ((0 ∷ []) ∷ (0 ∷ 1 ∷ []) ∷ (1 ∷ 2 ∷ []) ∷ [])
    -- open 1 to 2, then 0 to 1, both left open: gains 1, 2; container 2 has tag 0
    ∷ events 3 (enable (flow 1 1 2) ∷ enable (flow 2 0 1) ∷ []) (gained 1 ∷ gained 2 ∷ []) ((0 ∷ []) ∷ (0 ∷ 1 ∷ []) ∷ (0 ∷ 1 ∷ 2 ∷ []) ∷ [])
    -- open 0 to 1, 1 to 2, 2 to 0: gains 1, 2, 3; all have {0, 1, 2}
    ∷ events 3 (chain ++ (enable (flow 3 2 0) ∷ [])) (gained 1 ∷ gained 2 ∷ gained 3 ∷ [])
    ((0 ∷ 1 ∷ 2 ∷ []) ∷ (0 ∷ 1 ∷ 2 ∷ []) ∷ (0 ∷ 1 ∷ 2 ∷ []) ∷ [])
    -- open 0 to 1 as 1 and as 2, close 1, open 2 to 0 as 3: last gain 2
    ∷ events 3 (enable (flow 1 0 1) ∷ enable (flow 2 0 1) ∷ disable 1 ∷ enable (flow 3 2 0) ∷ []) (gained 1 ∷ gained 0 ∷ gained 0 ∷ gained 2 ∷ [])
    ((0 ∷ 2 ∷ []) ∷ (0 ∷ 1 ∷ 2 ∷ []) ∷ (2 ∷ []) ∷ [])
    -- 127 is byte 127; 128 is 128 1; 4,294,967,295 is 255 255 255 255 15
    ∷ number 127 (127 ∷ []) (accepted 127 1)
    ∷ number 128 (128 ∷ 1 ∷ []) (accepted 128 2)
    ∷ number 4294967295 (255 ∷ 255 ∷ 255 ∷ 255 ∷ 15 ∷ []) (accepted 4294967295 5)
    -- 128 0 and 255 255 255 255 16 give 2; 128 alone gives 1
    ∷ bytes (128 ∷ 0 ∷ []) (refused 2)
    ∷ bytes (255 ∷ 255 ∷ 255 ∷ 255 ∷ 16 ∷ []) (refused 2)
    ∷ bytes (128 ∷ []) (refused 1)
    -- container 2 with {0, 1, 2}: permitted by {0, 1, 2}, not by {0, 2} and {1, 2}
    ∷ policies 3 chain 2 ((0 ∷ 1 ∷ 2 ∷ []) ∷ []) (gained 1 ∷ gained 2 ∷ gained 0 ∷ []) (0 ∷ 1 ∷ 2 ∷ []) (0, true)
    ∷ policies 3 chain 2 ((0 ∷ 2 ∷ []) ∷ (1 ∷ 2 ∷ []) ∷ []) (gained 1 ∷ gained 2 ∷ gained 0 ∷ gained 0 ∷ []) (0 ∷ 1 ∷ 2 ∷ []) (0, false)
    -- not the paper's: no byte gives `refused 1 at 0`, n 0 `refused 9 at 0`; 2, open 0 to 1 as 1, close 7 gives 1 2 0 1, 0 1 0, `refused 8 at 5`
    ∷ text [] (114 ∷ 101 ∷ 102 ∷ 117 ∷ 115 ∷ 101 ∷ 100 ∷ 32 ∷ 49 ∷ 32 ∷ 97 ∷ 116 ∷ 32 ∷ 48 ∷ 10 ∷ [])
    ∷ text (0 ∷ []) (114 ∷ 101 ∷ 102 ∷ 117 ∷ 115 ∷ 101 ∷ 100 ∷ 32 ∷ 57 ∷ 32 ∷ 97 ∷ 116 ∷ 32 ∷ 48 ∷ 10 ∷ [])
    ∷ text (2 ∷ 0 ∷ 1 ∷ 0 ∷ 1 ∷ 1 ∷ 7 ∷ [])
    ((49 ∷ 32 ∷ 50 ∷ 32 ∷ 48 ∷ 32 ∷ 49 ∷ 10 ∷ [])
    ++ (48 ∷ 32 ∷ 49 ∷ 32 ∷ 48 ∷ 10 ∷ [])
    ++ (114 ∷ 101 ∷ 102 ∷ 117 ∷ 115 ∷ 101 ∷ 100 ∷ 32 ∷ 56 ∷ 32 ∷ 97 ∷ 116 ∷ 32 ∷ 53 ∷ 10 ∷ []))
    -- 12, open 11 to 10 as 1: 10 2 10 11, 0 1 0, and so on to 9 1 9, 11 1 11, `events 1 gain 1`
    ∷ text (12 ∷ 0 ∷ 1 ∷ 11 ∷ 10 ∷ [])
    ((49 ∷ 48 ∷ 32 ∷ 50 ∷ 32 ∷ 49 ∷ 48 ∷ 32 ∷ 49 ∷ 49 ∷ 10 ∷ [])
    ++ (48 ∷ 32 ∷ 49 ∷ 32 ∷ 48 ∷ 10 ∷ 49 ∷ 32 ∷ 49 ∷ 32 ∷ 49 ∷ 10 ∷ 50 ∷ 32 ∷ 49 ∷ 32 ∷ 50 ∷ 10 ∷ [])
    ++ (51 ∷ 32 ∷ 49 ∷ 32 ∷ 51 ∷ 10 ∷ 52 ∷ 32 ∷ 49 ∷ 32 ∷ 52 ∷ 10 ∷ 53 ∷ 32 ∷ 49 ∷ 32 ∷ 53 ∷ 10 ∷ [])
    ++ (54 ∷ 32 ∷ 49 ∷ 32 ∷ 54 ∷ 10 ∷ 55 ∷ 32 ∷ 49 ∷ 32 ∷ 55 ∷ 10 ∷ 56 ∷ 32 ∷ 49 ∷ 32 ∷ 56 ∷ 10 ∷ [])
    ++ (57 ∷ 32 ∷ 49 ∷ 32 ∷ 57 ∷ 10 ∷ 49 ∷ 49 ∷ 32 ∷ 49 ∷ 32 ∷ 49 ∷ 49 ∷ 10 ∷ [])
    ++ (101 ∷ 118 ∷ 101 ∷ 110 ∷ 116 ∷ 115 ∷ 32 ∷ 49 ∷ 32 ∷ 103 ∷ 97 ∷ 105 ∷ 110 ∷ 32 ∷ 49 ∷ 10 ∷ []))
    ∷ []

-- every row is what the definitions give
pub samples-hold : map computed samples ≡ samples
unfolding samples computed answers after those lent set_of adds example chain form_of decode_at event_of edges_of without keep is_enabled tabulate matrix cell is_edge reach_via has_w bit_at empty_set single_of union_of subset_of exceeds_of size_of count_below all_below any_below bad_size set_at with_sets flows_of with_flows all_of rising_from in_limits counts_in_limits numbers_rise ends_proper tags_known own_tags sets_carried unused_zero valid_of put_set decided start_order started start_of enable_order enable_later union_over propagated gain_of changed enabling enable_of disable_order disable_later disabling disable_of add_later add_order adding add_of outcome_of question_order asked_of any_of policies_of is_legal legal_of comes_before ranks_before inserted ranked_by ranking_of decimal_of replay_events replay_from containers_at begun replay_of spaced line_of lines_of events_line refused_line last_line report_of replay_text text_of groups judged continued value_of events_within record_at fields_at forms_of digits
samples-hold = refl
