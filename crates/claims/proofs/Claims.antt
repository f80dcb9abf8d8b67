-- THE CLAIMS: what is true of the definitions that the running calls equal, each with the demand that it answers; then of the calls, one by one.
-- First the index, from each demand and each sentence of document 01 to what fixes it; where the definitions and the words of the claims stand is listed
-- below the imports. Assumes nothing.
--
-- THE INDEX. A name by itself is a theorem of this file (history and tracker are its abbreviations) or, if it ends in
-- contract, of Tie.antt or Exports.antt. A name in backquotes is a definition, a row of a table,
-- a law, a sample or a function with its contract, and stands in the file behind it, below crates/. A sentence that no theorem fixes says so.
--
-- DEMAND 1: any input gets the work, or the refusal that comes first in the paper's order; what is refused changes nothing
--   the number, by the table: start-answers-by-the-table, enable-answers-by-the-table, disable-answers-by-the-table, add-answers-by-the-table,
--     set-answers-by-the-table, size-answers-by-the-table, permission-answers-by-the-table, rank-answers-by-the-table, n-answers-by-the-table,
--     reading-answers-by-the-table, reading-n-answers-by-the-table, reading-answers-no-other-refusal, writing-answers-10-exactly-if-it-does-not-fit
--   the first in the order: start-answers-the-first, call-answers-the-first
--   the work: start-makes-it-new, enable-puts-the-flow-last, disable-takes-the-flow-out, add-puts-the-set-last, a-question-tells, rank-writes-the-ranking,
--     replay-is-starting-and-calls, a-text-that-fits-is-written
--   refused: refused-start-changes-nothing, refused-call-changes-nothing, a-refused-question-tells-nothing, refused-rank-changes-nothing,
--     a-refused-n-changes-nothing, a-short-output-keeps-its-bytes
--   of the calls that run: what-is-true-of-a-definition-is-true-of-the-call, what-start-does, what-enable-does,
--     what-disable-does, what-add-policy-does, what-replay-does,
--     what-tally-writes, what-tally-leaves; that these speak of the contracts: start-contract, enable-contract,
--     disable-contract, add-policy-contract, tags-of-contract, size-of-contract, is-legal-contract, rank-contract,
--     replay-contract, tally-contract, text-contract
--   after a list of calls no state is refused: no-call-answers-9-or-12, every-question-is-answered, no-other-container-is-told,
--     the-ranking-is-written; of calls that run: called-answers-no-9-or-12, called-every-question-is-answered, called-no-other-container-is-told,
--     called-the-ranking-is-written
-- DEMAND 2: the tag sets are those of Flows (document 000); a log that is written is read back, and what is accepted is what we write
--   the sets: sets-are-flows, called-sets-are-flows, called-tags-are-flows, the-tags-printed-are-flows
--   Flows has none too few and none too many (Propositions 1 and 2): no-flow-is-missed, no-flow-is-invented
--   the log: a-written-record-is-read-back, an-accepted-record-is-what-we-write, a-written-log-is-read-back, a-log-is-read-back,
--     an-accepted-log-is-what-we-write
-- DEMAND 3: the runs of the accepted history, compared with the book: demand-3; of calls that run called-demand-3
--
-- THE FIRST LINES
-- 'The model is that of source document 000 (Rfblare, SEFM 2017), sections 3.1 and 3.2', 'Document 000 decides what a
--   tag set holds': `Enabled*`, `Flows`, `Execution` (model/specs/Model.antt); no-flow-is-missed, no-flow-is-invented
-- 'The permission rule is from source document 001': legal-rule
-- 'This paper decides event numbers, limits and the log': no statement on the product; what it decides is below
--
-- WORDS
-- 'A holder is anything that holds DNA readings or data: tube, well, file, job memory, list (document 000:
--   container)': no statement on the product, for which a holder is a number below n
-- 'A book has n holders, n from 1 to 256, numbered from 0': size-is-judged, every-question-is-answered, no-other-container-is-told
-- 'Each holder's tag is its own number': start-makes-it-new, flows-of-no-event
-- 'A channel (flow) goes from one holder to another and has a number from 1 to 4,294,967,295': enable-joins-exactly-if, greatest-is-greatest (from 1);
--   `Flow` (model/src/lib.rt), whose number has 32 bits; `kinds` (eventlog/specs/Log.antt), 32 bits in the log
-- 'An event opens or closes a channel': a-call-is-an-enable, a-call-is-a-disable; `Event` (model/specs/Model.antt)
-- 'A passage (exec) is a real copy; the book never sees it': `Execution` (model/specs/Model.antt); `Call` (outcome/specs/Outcome.antt) has none
-- 'The table of a book or of a run is the tag sets of all holders': `configuration_of` (outcome/specs/Outcome.antt), `configuration` (model/specs/Model.antt)
-- 'All numbers here are decimal, and bytes are given in decimal too': no statement on the product
-- 'Part of this product: the book, the log reader and writer, the permission question, the ranking, a program called `tally`': `start`, `enable`, `disable`,
--   `add_policy` (calls/src/lib.rt), `is_legal` (question/src/lib.rt), `rank` (ranking/src/lib.rt), `replay`
--   (replay/src/lib.rt), `read_record`, `write_record` (eventlog/src/lib.rt), `main` (tally/src/main.rt)
-- 'Not part of it: stopping a job, hooks in an operating system, user names, networks': there is no such function, and no theorem
--
-- TAG SETS
-- 'A tag set is a record of four 64-bit words; tag t is bit t mod 64 of word t div 64, bit 0 the lowest': tag-is-a-bit, start-keeps-64-bits,
--   call-keeps-64-bits; `TagSet` (tagset/src/lib.rt), `has` (tagset/specs/Set.antt)
-- 'The size of a tag set is the number of ones in its words': size-is-the-number-of-ones
-- 'At the start each holder has its own tag alone': start-makes-it-new
--
-- WHAT EVENTS DO
-- 'After each event, holder b has tag t exactly if some holder a had t before the event and b can be reached from a by zero or more channels open after
--   the event': sets-after-an-enable, sets-after-a-disable, the-closure-is-the-sentence; over a list of calls sets-are-flows, called-sets-are-flows
-- 'This is Flows followed by the reflexive and transitive closure of Enabled': flows-of-one-event-more, enabled-is-a-flow, closure-is-computed
-- 'For the empty history, which document 000 leaves out, it is the start': flows-of-no-event, flows-of-one-event
-- 'Passage a to b adds a's tags to b's': an-exec-adds-tags
-- 'A run for a history is that history with any finite number of passages merged into it, each through a channel open at its place': `Execution`
--   (model/specs/Model.antt)
-- 'The run's table comes from the start by these steps in order; openings and closings change no set in it': an-event-changes-no-set; `initial`,
--   `configuration` (model/specs/Model.antt)
-- 'A closing names only the channel number': `Event` (model/specs/Model.antt), `fields_of`
--   (eventlog/specs/Answer.antt), `disable` (calls/src/lib.rt)
-- 'It takes no tag away': disable-changes-no-set, disable-has-nothing-to-propagate
-- 'Two channels may have the same ends': enable-joins-exactly-if, enable-answers-by-the-table (no row asks for other ends than before)
-- 'Closing one leaves the other open': disable-takes-the-flow-out, enabled-is-standing; `alike-flow-stays` (model/proofs/Bench.antt)
-- 'An opening's number is greater than that of every opening accepted before in this book': greatest-is-greatest, each-event-joined,
--   enable-answers-by-the-table, enable-puts-the-flow-last
-- 'A refused opening uses up no number': refused-call-changes-nothing, an-event-that-does-not-changes-nothing
-- 'The gain of an event is a number in its answer: the count of (tag, holder) pairs present after it and not before': gain-is-counted,
--   enable-gains-what-sets-grow-by, pairs-counted-are-the-gain; `gain_of`, `Answer` (outcome/specs/Outcome.antt)
-- 'A closing gains 0': disable-gains-nothing
-- 'The spread stops at the first full pass over the open channels that adds no tag': there-is-a-pass, every-pass-before-the-last-adds,
--   the-last-pass-adds-nothing, a-pass-adds-exactly-if, the-number-of-passes; that this gives the sets and the gain of the sentences above:
--   passes-come-to-the-closure, pairs-counted-are-the-gain
-- 'Within one pass each channel reads the sets as the pass found them': a-pass-reads-the-sets-found
--
-- LISTS OF CALLS
-- 'A list of calls is any finite number of openings and closings, with any arguments, on one book that an accepted starting with n holders has just left':
--   tracker, tracker-follows; `Call`, `after` (outcome/specs/Outcome.antt); of calls that run `Called` (claims/specs/Running.antt), called-follows,
--   and that there are such: every-list-can-be-called, calls-can-go-on
-- 'Each call gets the storage and the small numbers as the call before left and answered them, refused or not, and nobody else writes them meanwhile':
--   each-call-gets-what-was-left; of calls that run `called` (claims/specs/Running.antt), which is told nothing else of the storage
-- 'Adding a set, once it runs, may stand among them; it is no event': a-call-is-an-add, adding-is-no-event, add-changes-no-set, add-gains-nothing
-- 'A run over a log whose n and storage are accepted counts, once it runs, as such a starting and the calls of its events': replay-is-starting-and-calls,
--   the-events-done-are-those-that-join; of those that run a-replay-counts-as-calls, a-tally-counts-as-calls, and that
--   there are such: every-replay-can-be-made, every-tally-can-be-made, every-replay-begins-calls,
--   every-tally-begins-calls; of questions every-question-can-be-asked, every-ranking-can-be-asked-for
-- 'The accepted history of the list is found from n and the calls' arguments alone': history, each-call-asks-for-its-event
-- 'It is empty at first, with nothing open and greatest number 0': `accepted`, `enabled`, `greatest` (model/specs/Model.antt)
-- 'An event joins it exactly if none of the refusals applies that stand after 9 and 12 in its order (given under the
--   table of refusals)': enable-joins-exactly-if, disable-joins-exactly-if
-- 'They are judged by n and the history so far, whose open channels stand for the rack': the same, and tracker-follows; `joins` (model/specs/Model.antt)
-- 'An opening that joins opens its channel there, and its number becomes the greatest': one-more-event, an-event-that-joins-is-last, enabled-is-standing;
--   `greatest` (model/specs/Model.antt)
-- 'A closing that joins ends the channel it names': an-event-that-joins-is-last, enabled-is-standing
-- 'An event that doesn't join changes nothing here': an-event-that-does-not-changes-nothing
-- 'The events that the book accepts are exactly those that join': accepted-exactly-if-it-joins, called-accepted-exactly-if-it-joins
-- 'Demand 3 is a single claim, for every n and about the list as a whole, and not one for each call': demand-3, called-demand-3
-- 'The runs for this history are compared, holder by holder and tag by tag, with the book after the last call, or, where the list is empty, with the book
--   that starting left': demand-3, tracker
-- 'Demand 3 comes in full with the delivery that first has starting, opening and closing running': no statement on the product
--
-- STORAGE
-- 'The small numbers are n, the count of open channels and the greatest accepted channel number (0 at the start)': start-makes-it-new, tracker-follows,
--   flows-are-counted; `Header` (state/src/lib.rt)
-- 'Lent storage is at least 4n words for tag sets, 16n words for permitted sets (four a holder) and n bytes for their counts': size-is-judged
-- 'all by rising holder number, a holder's permitted sets in the order of adding': tag-is-a-bit, policy-sets-are-stored, add-puts-the-set-last,
--   policy-sets-are-those-given; `set_at`, `policy_at`, `policy_count` (state/specs/State.antt)
-- 'The open channels stand in a lent table of 512 records, called the rack, packed from the front in rising number': flow-is-a-record, flows-are-counted,
--   tracker-follows (the enabled flows in their order), state-is-judged (rising)
-- 'each has number, from, to': `Flow` (model/src/lib.rt)
-- 'A closing moves the later records down by one': disable-takes-the-flow-out with flow-is-a-record
-- 'Unused records and unused permitted words are zero': state-is-judged, start-makes-it-new, start-makes-valid, accepted-call-leaves-valid,
--   call-keeps-valid, call-keeps-usable
-- 'Storage beyond these lengths is never written': start-writes-nothing-beyond, call-writes-nothing-beyond, tracker-writes-nothing-beyond,
--   called-writes-nothing-beyond, replay-leaves-valid; of the table of records start-goes-by-512-records, a-call-goes-by-512-records,
--   questions-go-by-512-records, the-ranking-goes-by-512-records, a-replay-goes-by-512-records
-- 'A book is sound if': state-is-judged, clause by clause in `IsValid` (state/specs/IsValid.antt):
--   'n is 1 to 256': `some`, `most` (state/specs/IsValid.antt)
--   'counts are at most 512 and 4': `table-count`, `policy-counts` (state/specs/IsValid.antt)
--   'channel numbers rise strictly from at least 1 and don't pass the greatest': `rising`, `not-past` (state/specs/IsValid.antt)
--   'all ends are below n and differ': `ends` (state/specs/IsValid.antt)
--   'no set names a tag of n or more': `known-tags`, `known-policies` (state/specs/IsValid.antt)
--   'each holder has its own tag': `own` (state/specs/IsValid.antt)
--   'for each open channel the from-set is part of the to-set': `carried` (state/specs/IsValid.antt)
--   'and unused places are zero': `unused-flows`, `unused-policies` (state/specs/IsValid.antt)
-- 'The log reader and the tracker are built over numbers and tag sets, and use only their stated behaviour': no theorem; crates.txt
--   at the repository's root says which crate is over which, and the proof of a function knows of those that it calls their contracts alone
--
-- PERMISSION
-- 'Document 001: a holder may be sent exactly if its tag set is part of at least one of its permitted sets':
--   legal-rule, a-question-tells; over a list of calls legal-exactly-if-flows-permit, policy-sets-are-those-given; of
--   calls that run called-legal-exactly-if-flows-permit, called-policy-sets-are-those-given
-- 'The holder's own tag is compared like any other': legal-rule (every tag)
-- 'With no permitted set the answer is no': without-policy-set-not-legal
-- 'The same set may be added twice and takes two places': the-same-set-twice-takes-two-places
--
-- RANKING
-- 'All holders, most tags first; among equal sizes the lower number first': comes-before-exactly-if, the-ranking-is-sorted, the-ranking-is-a-permutation,
--   no-other-list-is
-- 'It is written as n 16-bit numbers': rank-writes-the-ranking; `rank` (ranking/src/lib.rt), whose output is of 16 bits
--
-- THE LOG
-- 'A log is n, then records': a-log-is-read-back, an-accepted-log-is-what-we-write; `log_of` (eventlog/specs/Log.antt)
-- 'Numbers are groups of seven bits, lowest group first; 128 is added to every group but the last': `form_of` (leb128/specs/Number.antt), with the laws
--   `form-last`, `form-more` (leb128/specs/Form.antt)
-- 'The shortest form is the only one, with at most five groups and a fifth of at most 15': an-accepted-record-is-what-we-write,
--   an-accepted-log-is-what-we-write, reading-answers-by-the-table, reading-n-answers-by-the-table; `form-length-width` (leb128/specs/Form.antt);
--   `max_groups`, `last_bits` (leb128/specs/Number.antt), five and four at 32 bits
-- 'Record 0: opening, then channel, from, to. Record 1: closing, then channel': a-record-asks-for-an-enable, a-record-asks-for-a-disable; `fields_of`
--   (eventlog/specs/Answer.antt)
-- 'Every field holds 32 bits; the reader of a record doesn't judge holders': a-written-record-is-read-back (every event of 32 bits),
--   reading-answers-no-other-refusal; `kinds` (eventlog/specs/Log.antt)
-- 'The fields are read left to right and a field that can't be read ends the reading of its record': reading-answers-by-the-table; `fields_at`, `field`
--   (eventlog/specs/Log.antt)
--
-- TABLE OF REFUSALS
-- 1 'the bytes end before the whole of n or of the record being read': reading-answers-by-the-table, reading-n-answers-by-the-table; `IsTruncated`
--   (leb128/specs/Refusals.antt)
-- 2 'last of several groups is 0, or the fifth byte, taken whole, is 16 to 255': reading-answers-by-the-table, reading-n-answers-by-the-table; `IsOverlong`
--   (leb128/specs/Refusals.antt)
-- 3 'kind is readable and not 0 or 1': reading-answers-by-the-table; `IsUnknown` (eventlog/specs/Refusals.antt)
-- 4 'a holder or a tag in a set is n or more': enable-answers-by-the-table, add-answers-by-the-table, set-answers-by-the-table, size-answers-by-the-table,
--   permission-answers-by-the-table; `no-such-from`, `no-such-to`, `no-such-container`, `unknown-tag` (outcome/specs/Table.antt), `no-such-container`
--   (question/specs/Laws.antt)
-- 5 'from equals to': enable-answers-by-the-table; `self-flow` (outcome/specs/Table.antt)
-- 6 'opening's number not above the greatest': enable-answers-by-the-table; `stale-number` (outcome/specs/Table.antt)
-- 7 '512 channels open': enable-answers-by-the-table; `table-full` (outcome/specs/Table.antt)
-- 8 'closing's number is not in the rack': disable-answers-by-the-table; `not-enabled` (outcome/specs/Table.antt)
-- 9 'n is 0 or above 256, or storage shorter than above': size-is-judged, start-answers-by-the-table, n-answers-by-the-table, and first in each order
-- 10 'output lacks places for the whole answer': writing-answers-10-exactly-if-it-does-not-fit, rank-answers-by-the-table, a-short-output-keeps-its-bytes
--   'in `tally`, input above 16,384 bytes': the-text-of-long-input
-- 11 'holder has four permitted sets': add-answers-by-the-table, a-fifth-set-is-not-taken, a-set-is-taken-exactly-if, add-accepted-exactly-if-taken,
--   called-add-accepted-exactly-if-taken; `policy-full` (outcome/specs/Table.antt)
-- 12 'storage long enough, book not sound': state-is-judged, and second in each order; `invalid-state` (outcome/specs/Table.antt)
-- 'Every refusal answers its number with all other numbers 0': refused-start-changes-nothing, refused-call-changes-nothing,
--   a-refused-question-tells-nothing, reading-answers-by-the-table, reading-n-answers-by-the-table, writing-answers-10-exactly-if-it-does-not-fit; `unread`
--   (eventlog/specs/Answer.antt), `refused`, `unwritten` (leb128/specs/Answer.antt)
-- 'the book's small numbers come back as they went in (0 from starting)': refused-call-changes-nothing, refused-start-changes-nothing
-- 'and all lent memory keeps its content': the same, refused-rank-changes-nothing,
--   writing-answers-10-exactly-if-it-does-not-fit, a-short-output-keeps-its-bytes
-- 'The run over a whole log differs in this: it answers also the byte, counted from 0, at which the refused record
--   begins, the events done and their gain, and the book is as after those events': replay-is-starting-and-calls,
--   a-refused-event-ends-the-log, the-events-done-are-those-that-join; `Stops` (replay/specs/Laws.antt)
-- 'If its n or the storage is refused the byte and the small numbers are 0 and nothing is written': a-refused-n-changes-nothing, a-replay-begins-exactly-if
-- 'A run that meets the end of the bytes between records is complete, and its number and byte are 0': an-accepted-log-is-complete,
--   replay-is-starting-and-calls; `Completes` (replay/specs/Laws.antt)
-- 'A call that runs a log in a lent book leaves that book as the run does, on its later refusals too':
--   tally-leaves-what-the-replay-leaves, what-tally-leaves
-- 'Places of an output after the answer are never written': rank-writes-the-ranking, a-text-that-fits-is-written,
--   writing-answers-10-exactly-if-it-does-not-fit; `overwrite` (leb128/specs/Number.antt)
--
-- ORDER
-- 'Starting: 9': start-answers-by-the-table, start-answers-the-first; `start_order` (outcome/specs/Outcome.antt)
-- 'Opening: 9, 12, 4 for from, 4 for to, 5, 6, 7': enable-answers-by-the-table, call-answers-the-first; `enable_order` (outcome/specs/Outcome.antt)
-- 'Closing: 9, 12, 8': disable-answers-by-the-table, call-answers-the-first; `disable_order` (outcome/specs/Outcome.antt)
-- 'Adding a set: 9, 12, 4 for the holder, 4 for the set, 11': add-answers-by-the-table, call-answers-the-first; `add_order` (outcome/specs/Outcome.antt)
-- 'Set, size and permission questions: 9, 12, 4': set-answers-by-the-table, size-answers-by-the-table, permission-answers-by-the-table; `question_order`
--   (question/specs/Question.antt)
-- 'Ranking: 9, 12, 10': rank-answers-by-the-table; `rank_order` (ranking/specs/Ranking.antt)
-- 'Reading: 1 or 2 at each field, 3 after the kind': reading-answers-by-the-table; `SomeField`, `IsUnknown` (eventlog/specs/Refusals.antt)
-- 'Writing: 10': writing-answers-10-exactly-if-it-does-not-fit
-- 'Run: 1 or 2 at n, 9, then for each record the order of reading and after it that of its event': n-answers-by-the-table, an-accepted-n-is-the-one-read,
--   replay-is-starting-and-calls, a-refused-event-ends-the-log, joining-goes-on, joining-stops; `containers_at`, `replay_events` (replay/specs/Replay.antt)
--
-- THE PROGRAM
-- '`tally` reads standard input, up to 16,384 bytes, into a new book': the-program-takes-every-n; `printed_of`,
--   `new_storage` (tallytext/specs/Text.antt), by the contract of `report_of` (tally/src/main.rt), which makes the text
--   of what was read. No theorem says what was read, and that the text is printed
-- 'It writes the holders in ranking order, a line each: holder, size, tags rising, with single spaces': the-text-of-a-complete-replay,
--   the-lines-of-containers, the-line-of-a-container, the-tags-of-a-line, a-number-is-its-digits, every-line-ends, the-tags-printed-are-flows; that the
--   whole text has room: the-buffer-of-tally-suffices
-- 'The last line is `events` with the number done and `gain` with their sum': the-line-of-events, the-text-of-a-complete-replay,
--   the-events-printed-are-those-done
-- 'A refused record gives instead, after the holder lines, `refused`, the number, `at`, the byte where it begins': the-line-of-a-refusal,
--   the-text-of-a-refused-replay
-- 'If n can't be used only that line stands, with byte 0': the-text-without-n, the-program-refuses-n-by-the-table
-- 'Longer input gives only `refused 10 at 16384`': the-text-of-long-input
-- 'Document 000's Example 1, with holders src 0, se 1, p 2, r 3, d 4, is the input 5, 0 1 2 3, 0 2 0 1, 1 2, 0 3 1 2,
--   1 1, 1 3, 0 4 3 4, 1 4. The whole output': `samples-hold`, row 3 of `samples` (claims/specs/Samples.antt); run by
--   the program itself, tally/stdin and tally/stdout
--
-- SAMPLES. Those marked P are rows of `samples`, which `samples-hold` computes (claims/specs/Samples.antt); the rows from the 16th on are not the paper's
-- 'n 3, no event: sets {0}, {1}, {2}': row 1
-- 'the example above; gains 1, 1, 0, 4, 0, 0, 4, 0': rows 2 and 3
-- 'open 1 to 2, close it, open 0 to 1: holder 2 has no tag 0': row 4
-- 'open 1 to 2, then 0 to 1, both left open: gains 1, 2; holder 2 has tag 0': row 5
-- 'open 0 to 1, 1 to 2, 2 to 0: gains 1, 2, 3; all have {0, 1, 2}': row 6
-- 'open 0 to 1 as 1 and as 2, close 1, open 2 to 0 as 3: last gain 2': row 7
-- '127 is byte 127; 128 is 128 1; 4,294,967,295 is 255 255 255 255 15': rows 8 to 10
-- '128 0 and 255 255 255 255 16 give 2; 128 alone gives 1': rows 11 to 13
-- 'holder 2 with {0, 1, 2}: permitted by {0, 1, 2}, not by {0, 2} and {1, 2}': rows 14 and 15
-- 'n 256 starts, 257 gives 9. The 512th open channel is accepted, the 513th gives 7, and after one closing an opening is accepted': not marked P, run by the
--   program samples: samples/stdin, samples/stdout
--
-- TRAPS OF THE BENCH, each with the edit that must fail
-- 'Adding the from-set to the to-holder only, without going on: the example's holder 4 then lacks 0 and 1':
--   sets-after-an-enable; outcome/must-fail/propagation_to_the_destination_only.edit
-- 'Taking the closure of all channels ever opened: too many tags': sets-after-an-enable, enabled-is-standing;
--   model/must-fail/all_flows_ever_enabled.edit
-- 'Dropping an edge at the first closing of two alike channels': enabled-is-standing; model/must-fail/disable_drops_alike_flows.edit
-- 'Uniting the permitted sets before comparing': legal-rule; question/must-fail/policy_sets_united.edit
--
-- THE FORMS WE EXPECT are forms of the code: docs/DECISIONS.md at the root, under Forms of document 01
-- 'Each place below takes the form we name, from the start, even where the planning page would advise another', 'We
--   read the code as well as the proofs', 'A line marked (02) takes its form when that request lands': no statement
--   on the product
-- '"Take the 18 rows of table 2 of source document 000" (02): match on the call number with ranges chooses direction,
--   two-way, or open and close in one step': no function; its place comes with request 7 of document 02
-- '"The gain of an event is a number in its answer": pairs added while spreading are counted and proved equal to the
--   before and after difference': pairs-counted-are-the-gain
-- '"The spread stops at the first full pass over the open channels that adds no tag": passes over channels inside an
--   outer loop that is left by a label when nothing is added': no theorem; `make_passes` (propagation/src/lib.rt)
-- '"A tag set is a record of four 64-bit words": struct holding [u64; 4], passed and returned by value; union, subset
--   and membership are its methods': no theorem; `TagSet`, `union`, `is_subset`, `contains` (tagset/src/lib.rt)
-- '"a field that can't be read ends the reading of its record": number reader's enum answer taken apart by let .. else,
--   refusal returned directly': no theorem; `read_record`, `read_enable`, `read_disable` (eventlog/src/lib.rt)
-- '"The size of a tag set is the number of ones in its words": count of ones on each word, summed and proved equal to
--   the count of set members': size-is-the-number-of-ones
-- '"built over numbers and tag sets, and use only their stated behaviour": number and set crates below, log reader and
--   tracker above, the program on top': no theorem; crates.txt at the root
-- 'The following places have long proofs done by hand, but they too take the named form once the core is complete',
--   '"The open channels stand in a lent table of 512 records": slice of channel structs for append, shift down and
--   one scan, kept thin, after the core is proved': no theorem; `put`, `remove`, `find`
--   (flowtable/src/lib.rt)
-- 'For every case of an enum answer, a definition gives this paper's number and values': `number_of`, `refusal_of`
--   (refusal/specs/Number.antt), `answer_of` (calls/specs/Replies.antt), `asked_by` (question/specs/Replies.antt),
--   `refusal_at`, `byte_at` (replay/specs/Replies.antt), `reading_of`, `writing_of` (leb128/specs/Answer.antt),
--   `record_reading_of` (eventlog/specs/Answer.antt)
-- 'The promises use that definition': no theorem, but each contract that answers such an enum: those named next
-- 'If a form is not available today, docs/DECISIONS.md says which form it is and what stands in for it':
--   docs/DECISIONS.md at the root
--
-- AGREED BETWEEN LAB AND BUILDERS
-- 'The builders agree that every public call has a stated outcome, and that for each input it determines the answer
--   and each byte and word lent, on refusal too': the contracts of `start`, `enable`, `disable`, `add_policy`
--   (calls/src/lib.rt), `tags_of`, `size_of`, `is_legal` (question/src/lib.rt), `rank` (ranking/src/lib.rt), `replay`
--   (replay/src/lib.rt), `tally`, `text` (report/src/lib.rt); the-numbers-tell-replies-apart,
--   the-numbers-tell-answers-apart; of the log `read_record`, `write_record`, `read_head`, `write_head` (eventlog/src/lib.rt),
--   `record-reading-injective` (eventlog/specs/Laws.antt), `reading-injective` (leb128/specs/Laws.antt)
-- 'The call's contract gives each result as equal to a definition; should these papers leave an answer free, it is
--   named there, with what holds of it': the same contracts, which leave none free: start-contract, enable-contract,
--   disable-contract, add-policy-contract, tags-of-contract, size-of-contract, is-legal-contract, rank-contract,
--   replay-contract, tally-contract, text-contract; what follows of the call that runs: what-start-does, what-enable-does,
--   what-disable-does, what-add-policy-does, what-replay-does, what-tally-writes, what-tally-leaves
-- 'The lab will hold up against it: a book that calls every book unsound (demand 1, by the table)': state-is-judged,
--   enable-answers-by-the-table, no-call-answers-9-or-12
-- 'one that answers each holder's own tag for ever, or never changes (demands 2 and 3)': sets-are-flows, demand-3
-- 'one that spreads at the first opening and later merely stores channels (2 and 3)': sets-after-an-enable, sets-are-flows, demand-3
-- 'one with an invented gain (2, as gain is counted from its sets)': gain-is-counted, pairs-counted-are-the-gain
-- 'one that says rack full at the first opening (1)': enable-answers-by-the-table, accepted-exactly-if-it-joins
-- 'The samples marked P are checked as theorems, all as rows of one table that a single proof covers': `samples-hold` (claims/specs/Samples.antt)
-- 'The rest, and the paper's own tables, a program runs and compares': no theorem; samples/stdin, samples/stdout
--
-- OF NO SENTENCE, but of what the sentences rest on. `apply_enable`, `apply_disable` (calls/src/lib.rt), by which a
--   replay runs, judge no state and are no calls of the paper: apply-enable-answers-the-first,
--   refused-apply-enable-changes-nothing, apply-disable-answers-the-first, refused-apply-disable-changes-nothing,
--   apply-enable-is-enable, apply-disable-is-disable. `rank_sets` (ranking/src/lib.rt), by which the text is made,
--   judges none either: rank-sets-writes-the-ranking-or-nothing. The exported functions (foreign/src/lib.rt) are the
--   calls and the reader and writer once more, for other languages; their contracts are equations with the same
--   definitions: exported-start-contract, exported-enable-contract, exported-disable-contract,
--   exported-add-policy-contract, exported-tags-of-contract, exported-size-of-contract, exported-is-legal-contract,
--   exported-rank-contract, exported-replay-contract, exported-decode-contract, exported-encode-contract,
--   exported-read-head-contract, exported-write-head-contract, exported-read-record-contract,
--   exported-write-enable-contract, exported-write-disable-contract, exported-enable-len-contract,
--   exported-disable-len-contract, exported-tally-text-contract; a list of exported calls is one of calls:
--   an-exported-start-counts-as-one, an-exported-call-counts-as-one. The words of these and of the contracts above:
--   lists, given, Ensures
use Rattle.std.specs.Prelude.{◌≡◌, refl, Bool, true, false, Option, Result, List, [], ◌∷◌, ◌++◌, map, ◌⊎◌, ◌↔◌, ◌≢◌, ℕ, suc, ◌+◌, ◌*◌, ◌/◌, ◌%◌, ◌^◌, ◌≤◌, ◌<◌, eqb, length, get_or, take, drop}
use Rattle.std.proofs.Common.{sym, ap, ◌∙◌, subst, ⊎_elim, arith}
use mathlib.Mathlib.Logic.Relation.{ReflTransGenᴰ}
use Rattle.std.specs.Int.Count.{ones}
use Rattle.truth.specs.Truth.{iff}
use Rattle.refusal.specs.declared.Refusal.{Refusal}
use Rattle.refusal.specs.Number.{number_of as paper_number, refusal_of}
use Rattle.refusal.specs.Order.{first_of}
use Rattle.refusal.proofs.Number.{number-injective, refusal-injective}
use Rattle.refusal.proofs.Order.{IsFirst}
use Rattle.leb128.specs.Answer.{refused, reading_of, wrote, unwritten, writing_of}
use Rattle.leb128.specs.Number.{IsBytes, overwrite, write_at}
use Rattle.leb128.specs.Refusals.{IsTruncated, IsOverlong, truncated-refused as number-truncated-refused, overlong-refused as number-overlong-refused, refused-truncated as number-refused-truncated, refused-overlong as number-refused-overlong, reading-cases}
use Rattle.leb128.specs.Output.{write-fits, write-short}
use Rattle.leb128.specs.Laws.{reading-injective, writing-injective}
use Rattle.eventlog.specs.declared.Event.{Event as LogEvent}
use Rattle.eventlog.specs.declared.Event.TheVariants.{Enable, Disable}
use Rattle.eventlog.specs.Answer.{fields_of, read, unread}
use Rattle.eventlog.specs.Log.{bytes_of, log_of, record_at, head_at, events_from, log_at, write_log}
use Rattle.eventlog.specs.Refusals.{SomeField, IsUnknown, truncated-refused, overlong-refused, unknown-refused, refused-truncated, refused-overlong, refused-unknown, record-cases}
use Rattle.eventlog.specs.Records.{AreEvents}
use Rattle.eventlog.specs.Laws.{IsEvent, written_read, accepted-written}
use Rattle.eventlog.specs.LogLaws.{complete, IsLog, log-read, log-accepted, log-written-read, log-accepted-written}
use Rattle.model.specs.declared.Flow.{Flow}
use Rattle.model.specs.Model.{◌∈◌, Event, enable, disable, History, empty, ◌▸◌, enabled, edges_of, Enabled, Enabled*, Flows, Execution, event, exec, configuration, without, greatest, joins, joined, accepted}
use Rattle.model.specs.Reach.{reaches}
use Rattle.model.specs.Closure.{Within}
use Rattle.model.proofs.Closure.{reaches-enabled}
use Rattle.model.specs.Standing.{Standing}
use Rattle.model.proofs.Standing.{standing, without-part, enabled-flow, ends-edge}
use Rattle.model.specs.Histories.{Accepted, Occurs, MayEnable}
use Rattle.model.proofs.Histories.{accepted-last, joins-added, not-joins-same, flows-empty, flows-one, flows-next, accepted-each, accepted-inside, enable-joins, disable-joins, numbers-rise}
use Rattle.model.proofs.Propositions.{event-changes-nothing, exec-adds, exact-at, proposition-1, proposition-2}
use Rattle.tagset.specs.declared.TagSet.{TagSet}
use Rattle.tagset.specs.Set.{has, bit_at, empty_set, size_of, IsWords}
use Rattle.tagset.proofs.Laws.{size-words}
use Rattle.state.specs.declared.Header.{Header}
use Rattle.state.specs.State.{Storage, State, state_of, bad_size, set_at, policy_count, policy_at, flows_of}
use Rattle.state.specs.Valid.{valid_of}
use Rattle.state.specs.Layout.{Fit64}
use Rattle.state.proofs.LayoutLaws.{set-bit, flows-first, flows-count}
use Rattle.state.specs.IsValid.{IsSized, IsValid, Usable}
use Rattle.state.proofs.IsValid.{sized, valid}
use Rattle.tagstore.specs.Store.{total_of}
use Rattle.propagation.specs.Pass.{pass, adds, passed, passes_of, pass_count, sets_after, pairs_added}
use Rattle.propagation.specs.Exact.{count-is, passes-some, passes-add, passes-last}
use Rattle.propagation.proofs.Exact.{pass-has, adds-iff}
use Rattle.calls.specs.Replies.{answer_of}
use Rattle.calls.proofs.Replies.{left-injective}
use Rattle.calls.specs.Unjudged.{apply_enable_of, apply_disable_of}
use Rattle.calls.specs.UnjudgedLaws.{passes-propagate, passes-gain, apply-enable-refusal, apply-enable-refused, apply-disable-refusal, apply-disable-refused, apply-enable, apply-disable}
use Rattle.claims.specs.Running.{Answered, leaving, StartGave, CallGave, TagsGave, SizeGave, LegalGave, RankGave, RankWrote, running, ReplayGave, with_new_table, TallyAnswered, TallyWrote, TallyLeft, StartDoes, start-does, EnableDoes, enable-does, DisableDoes, disable-does, AddDoes, add-does, Called, called_is, called_of, called_on, tags-given, size-given, legal-given, rank-given, replay-left, tally-left, replay-as-calls, tally-as-calls, replay-begins, tally-begins}
use Rattle.outcome.specs.Outcome.{Outcome, no_header, start_order, enable_later, disable_later, start_of, propagated, gain_of, enable_of, disable_of, add_of, Call, ask, add, order_of, outcome_of, events_of, after, configuration_of}
use Rattle.outcome.proofs.Refusals.{start-refusal, start-refused, call-refusal, call-refused}
use Rattle.outcome.specs.Table.{StartAnswers, EnableAnswers, DisableAnswers, AddAnswers}
use Rattle.outcome.proofs.Table.{start-answers, enable-answers, disable-answers, add-answers}
use Rattle.outcome.proofs.Policies.{PolicyAdded}
use Rattle.outcome.proofs.Stays.{settled}
use Rattle.outcome.specs.Steps.{Sentence, IsStarted, FlowsChanged}
use Rattle.outcome.proofs.Steps.{start-makes-usable, call-leaves-usable, call-keeps, usable-answers, propagated-sentence, enable-sentence, disable-sentence, start-is-started, enable-flows, disable-flows, add-so}
use Rattle.front.specs.Front.{lent_front, front_of, outcome_beyond, replay_beyond}
use Rattle.front.proofs.Front.{start-front, call-front, tags-front, size-front, legal-front, rank-front, replay-front}
use Rattle.outcome.specs.Effects.{SameBeyond}
use Rattle.outcome.proofs.Effects.{start_fits, call_fits, start-gains-nothing, start-beyond, call-beyond, list-beyond, disable-tags, add-tags, gain-counted, enable-gain, disable-gain, add-gain}
use Rattle.outcome.proofs.Follows.{Follows, configuration-has, accepted-joins}
use Rattle.question.specs.Question.{Asked, question_order, tags_of, size_asked, policies_of, is_legal, legal_of}
use Rattle.question.specs.Replies.{told, asked_by}
use Rattle.question.proofs.Replies.{asked-injective}
use Rattle.question.specs.Laws.{asked-number, QuestionAnswers, question-answers, tags-told, size-told, legal-told, tags-untold, size-untold, legal-untold, legal-exactly-if, no-policy-not-legal, policy-member}
use Rattle.ranking.specs.Ranking.{ranks_before, ranking_of, SortedBy, Ranking, rank_of, rank_into}
use Rattle.ranking.specs.Laws.{ranking-length, ranking-members, RankAnswers, rank-answers, rank-refused, rank-done, rank-into-done, rank-into-none}
use Rattle.ranking.proofs.Relation.{ranks-before-iff, ranking-sorted, ranking-once, ranking-unique}
use Rattle.replay.specs.declared.Stop.{Stop}
use Rattle.replay.specs.declared.Replayed.{Replayed}
use Rattle.replay.specs.Replay.{Replay, event_in, call_of, containers_in, replay_of}
use Rattle.replay.specs.Replies.{refusal_at, byte_at}
use Rattle.replay.proofs.Replies.{stop-injective}
use Rattle.replay.specs.Laws.{AllAccepted, gains_of, ContainersAnswers, containers-answers, begun-head, replay-not-begun, replay-starts, Replays, replay-log}
use Rattle.replay.proofs.Laws.{replay-does, replay-log-refused, replay-usable, replay-containers, replay-beyond}
use Rattle.replay.specs.Joins.{joining, done_of}
use Rattle.replay.proofs.Joins.{replay-done}
use Rattle.replay.proofs.Numbers.{begins-exactly-if}
use Rattle.decimal.specs.Decimal.{decimal_of, number_of}
use Rattle.decimal.proofs.Laws.{decimal-last, decimal-value, decimal_digit, decimal-front}
use Rattle.tallytext.specs.Text.{events_word, gain_word, refused_word, at_word, tags_rising, line_of, lines_of, events_line, refused_line, text_of, new_storage, printed_of, left_of, tally_of}
use Rattle.report.specs.declared.Tallied.{Tallied}
use Rattle.tallytext.specs.Words.{line_with}
use Rattle.tallytext.proofs.Words.{line-words, events-line-words, refused-line-words, no_lines, line-by-line}
use Rattle.tallytext.specs.Laws.{IsLine}
use Rattle.tallytext.proofs.Laws.{text-of-unusable-n, text-of-complete-replay, text-of-refused-replay, left-of-replay}
use Rattle.tallytext.proofs.Laws.{tags-members, tags-rising, tags-count, line-ends, events-line-ends, refused-line-ends, text-of-long-input, left-of-long-input, new-storage-sized, tally-short, tally-fits, tally-suffices}
use Rattle.claims.specs.Permission.{takes, given_to, SameSets, Known}
use Rattle.claims.proofs.Permission.{takes-exactly-if, list-follows, policies-are-those-given, accepted-exactly-if-taken, questions-are-answered, others-are-no-container, rank-is-answered, legal-exactly-if-given, same-set-twice-takes-two-places, a-fifth-is-not-taken}

-- THE DEFINITIONS: model/specs/Model.antt (containers, flows, executions; no word of a tracker) and Reach.antt; state/specs/State.antt and
-- Valid.antt; outcome/specs/Outcome.antt; question/specs/Question.antt; ranking/specs/Ranking.antt; leb128/specs/Number.antt and Answer.antt;
-- eventlog/specs/Answer.antt and Log.antt; replay/specs/Replay.antt; decimal/specs/Decimal.antt; tallytext/specs/Text.antt; with tagset/specs/Set.antt
-- and refusal/specs/Order.antt (`first_of`, IsFirst). For the running calls: refusal/specs/Number.antt,
-- Replies.antt of calls, question and replay (what the contracts cite), calls/specs/Unjudged.antt,
-- flowtable/specs/FlowTable.antt, propagation/specs/Pass.antt, tagstore/specs/Store.antt.
-- WORDS OF THE CLAIMS: IsSized, ProperEnds, Rising, IsValid, Usable (state/specs/IsValid.antt); Fit64 (state/specs/Layout.antt); total_of
-- (tagstore/specs/Store.antt); StartAnswers, Enables, EnableAnswers, DisableAnswers, Adds, AddAnswers (outcome/specs/Table.antt); Sentence,
-- IsStarted, FlowsChanged (Steps.antt); PolicyAdded (Policies.antt); SameBeyond (Effects.antt); Follows (Follows.antt); QuestionAnswers
-- (question/specs/Laws.antt); RankAnswers (ranking/specs/Laws.antt); IsTruncated, IsOverlong (leb128/specs/Refusals.antt); IsPart (Part.antt);
-- SomeField, IsUnknown (eventlog/specs/Refusals.antt); IsEvent, IsRecord, IsLog, complete (Laws.antt, LogLaws.antt), AreEvents (Records.antt);
-- ContainersAnswers, AllAccepted, gains_of, Completes, Stops, Replays (replay/specs/Laws.antt); joining, done_of (Joins.antt); line_with, IsLine
-- (tallytext/specs/Words.antt, Laws.antt); takes, given_to, SameSets, Known (Permission.antt); leaving, running, StartGave,
-- CallGave, TagsGave, SizeGave, LegalGave, RankGave, RankWrote, ReplayGave, with_new_table, TallyAnswered, TallyWrote,
-- TallyLeft (what the contracts say),
-- StartDoes, EventDoes, EnableDoes, DisableDoes, AddDoes, Called (Running.antt); lent_front, front_of, outcome_beyond, replay_beyond (front/specs/Front.antt); Standing, Accepted, Occurs, MayEnable,
-- Within (model/specs/Standing.antt, Histories.antt, Closure.antt).

-- DEMAND 1: the work, or the refusal that comes first in the paper's order; a refused event changes nothing

-- which number is answered, for every n, every state and every argument: the paper's table, row by row, in its order
pub start-answers-by-the-table : (n : ℕ) (lent : Storage) (k : ℕ) → ((start_of n lent).answer.refusal ≡ k) ↔ StartAnswers n lent k
start-answers-by-the-table = start-answers

pub enable-answers-by-the-table : (s : State) (f : Flow) (k : ℕ) → ((enable_of s f).answer.refusal ≡ k) ↔ EnableAnswers s f k
enable-answers-by-the-table = enable-answers

pub disable-answers-by-the-table : (s : State) (k j : ℕ) → ((disable_of s k).answer.refusal ≡ j) ↔ DisableAnswers s k j
disable-answers-by-the-table = disable-answers

pub add-answers-by-the-table : (s : State) (c : ℕ) (p : TagSet) (k : ℕ) → ((add_of s c p).answer.refusal ≡ k) ↔ AddAnswers s c p k
add-answers-by-the-table = add-answers

-- the same of the lists of conditions: refusal k is answered exactly if its condition holds and none before it in the order does
pub start-answers-the-first : (n : ℕ) (lent : Storage) (k : ℕ) → ((start_of n lent).answer.refusal ≡ suc k) ↔ IsFirst (start_order n lent) (suc k)
start-answers-the-first = start-refusal

pub call-answers-the-first : (s : State) (c : Call) (k : ℕ) → ((outcome_of s c).answer.refusal ≡ suc k) ↔ IsFirst (order_of s c) (suc k)
call-answers-the-first = call-refusal

-- the calls of a list are these
pub a-call-is-an-enable : (s : State) (f : Flow) → outcome_of s (ask (enable f)) ≡ enable_of s f
unfolding outcome_of
a-call-is-an-enable s f = refl

pub a-call-is-a-disable : (s : State) (k : ℕ) → outcome_of s (ask (disable k)) ≡ disable_of s k
unfolding outcome_of
a-call-is-a-disable s k = refl

pub a-call-is-an-add : (s : State) (c : ℕ) (p : TagSet) → outcome_of s (add c p) ≡ add_of s c p
unfolding outcome_of
a-call-is-an-add s c p = refl

-- what the tests behind 9 and 12 say, clause by clause; and how the lists are read
pub size-is-judged : (n : ℕ) (lent : Storage) → (bad_size n lent ≡ false) ↔ IsSized n lent
size-is-judged = sized

pub state-is-judged : (s : State) → (valid_of s ≡ true) ↔ IsValid s
state-is-judged = valid

pub tag-is-a-bit : (ws : List ℕ) (k t : ℕ) → t < 256 → has (set_at ws k) t ≡ eqb (get_or ws (4 * k + t / 64) 0 / 2 ^ (t % 64) % 2) 1
unfolding bit_at
tag-is-a-bit = set-bit

-- 'the size of a tag set is the number of ones in its words'
pub size-is-the-number-of-ones : (s : TagSet) → IsWords s
    → size_of s ≡ ones (get_or s.words 0 0) + ones (get_or s.words 1 0) + ones (get_or s.words 2 0) + ones (get_or s.words 3 0)
size-is-the-number-of-ones = size-words

pub flow-is-a-record : (s : State) (i : ℕ) (d : Flow) → i < s.header.count → get_or (flows_of s) i d ≡ get_or s.storage.flows i d
flow-is-a-record = flows-first

pub flows-are-counted : (s : State) → s.header.count ≤ 512 → 512 ≤ length s.storage.flows → length (flows_of s) ≡ s.header.count
flows-are-counted = flows-count

-- A REFUSED START gains 0, answers a header of zeros and leaves the lent lists; a refused call gains 0 and leaves header and lists
pub refused-start-changes-nothing : (n : ℕ) (lent : Storage) (k : ℕ) → (start_of n lent).answer.refusal ≡ suc k
    → ((start_of n lent).state ≡ record { header = record { containers = 0; count = 0; greatest = 0 }; storage = lent }) × ((start_of n lent).answer.gain ≡ 0)
refused-start-changes-nothing = start-refused

pub refused-call-changes-nothing : (s : State) (c : Call) (k : ℕ) → (outcome_of s c).answer.refusal ≡ suc k
    → ((outcome_of s c).state ≡ s) × ((outcome_of s c).answer.gain ≡ 0)
refused-call-changes-nothing = call-refused

-- STORAGE PAST THE LENGTHS IN USE is never written, and no list becomes longer or shorter; tag words of 64 bits stay such
pub start-writes-nothing-beyond : (n : ℕ) (lent : Storage) → SameBeyond n (start_of n lent).state.storage lent
start-writes-nothing-beyond = start-beyond

pub call-writes-nothing-beyond : (s : State) (c : Call) → SameBeyond s.header.containers (outcome_of s c).state.storage s.storage
call-writes-nothing-beyond = call-beyond

pub start-keeps-64-bits : (n : ℕ) (lent : Storage) → Fit64 lent.tags → Fit64 (start_of n lent).state.storage.tags
start-keeps-64-bits = start_fits

pub call-keeps-64-bits : (s : State) (c : Call) → Fit64 s.storage.tags → Fit64 (outcome_of s c).state.storage.tags
call-keeps-64-bits = call_fits

-- RECORDS PAST THE 512TH of the flow table are neither judged nor touched: every outcome is that of the first 512 alone, with the others behind it. (A table of fewer
-- than 512 is refused, 9: `start-answers-by-the-table` and the others.)
pub start-goes-by-512-records : (n : ℕ) (lent : Storage) → start_of n lent ≡ outcome_beyond (drop 512 lent.flows) (start_of n (lent_front lent))
start-goes-by-512-records = start-front

pub a-call-goes-by-512-records : (s : State) (c : Call) → outcome_of s c ≡ outcome_beyond (drop 512 s.storage.flows) (outcome_of (front_of s) c)
a-call-goes-by-512-records = call-front

pub questions-go-by-512-records : (s : State) (c : ℕ)
    → (tags_of s c ≡ tags_of (front_of s) c) × (size_asked s c ≡ size_asked (front_of s) c) × (legal_of s c ≡ legal_of (front_of s) c)
questions-go-by-512-records s c = (sym (tags-front s c), sym (size-front s c), sym (legal-front s c))

pub the-ranking-goes-by-512-records : (s : State) (out : List ℕ) → rank_of s out ≡ rank_of (front_of s) out
the-ranking-goes-by-512-records s out = sym (rank-front s out)

pub a-replay-goes-by-512-records : (bs : List ℕ) (lent : Storage) → replay_of bs lent ≡ replay_beyond (drop 512 lent.flows) (replay_of bs (lent_front lent))
a-replay-goes-by-512-records = replay-front

-- WHAT AN ACCEPTED CALL LEAVES: a start, n containers with their own tags alone; an enable, its flow last and its number the greatest; a disable, the
-- other flows; adding a policy set, that set behind those that the container has. Tag sets after events are the matter of demand 2
pub start-makes-it-new : (n : ℕ) (lent : Storage) → (start_of n lent).answer.refusal ≡ 0 → IsStarted n (start_of n lent).state × ((start_of n lent).answer.gain ≡ 0)
start-makes-it-new n lent a = (start-is-started n lent a, start-gains-nothing n lent)

pub enable-puts-the-flow-last : (s : State) (f : Flow) → (enable_of s f).answer.refusal ≡ 0
    → FlowsChanged (flows_of s ++ (f ∷ [])) f.number s (enable_of s f).state
unfolding outcome_of
enable-puts-the-flow-last = enable-flows

pub disable-takes-the-flow-out : (s : State) (k : ℕ) → (disable_of s k).answer.refusal ≡ 0
    → FlowsChanged (without k (flows_of s)) s.header.greatest s (disable_of s k).state
unfolding outcome_of
disable-takes-the-flow-out = disable-flows

pub add-puts-the-set-last : (s : State) (c : ℕ) (p : TagSet) → (add_of s c p).answer.refusal ≡ 0 → PolicyAdded c p s (add_of s c p).state
add-puts-the-set-last = add-so

-- VALID STAYS VALID. An accepted start or call leaves a state that is valid and of the right lengths, whatever came before; so every call on a valid
-- state leaves one, and one on a state that is also of the right lengths leaves one that is
pub start-makes-valid : (n : ℕ) (lent : Storage) → (start_of n lent).answer.refusal ≡ 0 → Usable (start_of n lent).state
start-makes-valid = start-makes-usable

pub accepted-call-leaves-valid : (s : State) (c : Call) → (outcome_of s c).answer.refusal ≡ 0 → Usable (outcome_of s c).state
accepted-call-leaves-valid = call-leaves-usable

pub call-keeps-valid : (s : State) (c : Call) → IsValid s → IsValid (outcome_of s c).state
call-keeps-valid s c v = call-keeps IsValid s c (λ s u. u.valid) v

pub call-keeps-usable : (s : State) (c : Call) → Usable s → Usable (outcome_of s c).state
call-keeps-usable s c u = call-keeps Usable s c (λ s u. u) u

-- DEMAND 2, one event: each tag set is the one that document 01's sentence gives

pub sets-after-an-enable : (s : State) (f : Flow) → (enable_of s f).answer.refusal ≡ 0 → Sentence s (enable_of s f).state
unfolding outcome_of
sets-after-an-enable = enable-sentence

pub sets-after-a-disable : (s : State) (k : ℕ) → (disable_of s k).answer.refusal ≡ 0 → Sentence s (disable_of s k).state
unfolding outcome_of
sets-after-a-disable = disable-sentence

-- THE GAIN of every call is the count of the (tag, container) pairs that are stored after it and were not before; of an enable it is what the sizes of
-- the sets grow by, of a disable 0
pub gain-is-counted : (s : State) (c : Call)
    → (outcome_of s c).answer.gain ≡ gain_of s.header.containers s.storage.tags (outcome_of s c).state.storage.tags
gain-is-counted = gain-counted

pub enable-gains-what-sets-grow-by : (s : State) (f : Flow)
    → total_of s.header.containers s.storage.tags + (enable_of s f).answer.gain ≡ total_of s.header.containers (enable_of s f).state.storage.tags
unfolding outcome_of
enable-gains-what-sets-grow-by = enable-gain

pub disable-gains-nothing : (s : State) (k : ℕ) → (disable_of s k).answer.gain ≡ 0
unfolding outcome_of
disable-gains-nothing = disable-gain

-- A DISABLE CHANGES NO SET, and the general sentence, with the flows that are left, gives the same
pub disable-changes-no-set : (s : State) (k : ℕ) → (disable_of s k).state.storage.tags ≡ s.storage.tags
unfolding outcome_of
disable-changes-no-set = disable-tags

pub disable-has-nothing-to-propagate : (s : State) (k : ℕ) → Usable s → (c t : ℕ) → c < s.header.containers
    → has (set_at (propagated s.header.containers (without k (flows_of s)) s.storage.tags) c) t ≡ has (set_at s.storage.tags c) t
disable-has-nothing-to-propagate s k u c t l =
    let p = settled s (without k (flows_of s)) u (λ f. without-part k (flows_of s)) c t l in
    iff (has (set_at (propagated s.header.containers (without k (flows_of s)) s.storage.tags) c) t) (has (set_at s.storage.tags c) t) p.0 p.1

-- ADDING A POLICY SET CHANGES NO SET of tags and gains 0
pub add-changes-no-set : (s : State) (c : ℕ) (p : TagSet) → (add_of s c p).state.storage.tags ≡ s.storage.tags
add-changes-no-set = add-tags

pub add-gains-nothing : (s : State) (c : ℕ) (p : TagSet) → (add_of s c p).answer.gain ≡ 0
add-gains-nothing = add-gain

-- LISTS OF CALLS: each call gets the header that the one before answered and the lists that it left, refused or not; it asks for one event, or adds a policy set, which is none
pub each-call-gets-what-was-left : (s : State) (c : Call) (cs : List Call) → after s (c ∷ cs) ≡ after (outcome_of s c).state cs
unfolding after
each-call-gets-what-was-left s c cs = refl

pub each-call-asks-for-its-event : (e : Event) (cs : List Call) → events_of (ask e ∷ cs) ≡ e ∷ events_of cs
unfolding events_of
each-call-asks-for-its-event e cs = refl

pub adding-is-no-event : (c : ℕ) (p : TagSet) (cs : List Call) → events_of (add c p ∷ cs) ≡ events_of cs
unfolding events_of
adding-is-no-event c p cs = refl

-- DEMANDS 2 AND 3, a list of calls on n containers, from any lent storage that starting accepted
module _ (n : ℕ) (lent : Storage) (begun : (start_of n lent).answer.refusal ≡ 0) (calls : List Call) where
  -- the accepted history, from n and the calls' arguments alone
  abbrev pub history : History
  history = accepted n (events_of calls)

  -- the tracker after the last call; where the list is empty, the one that starting left
  abbrev pub tracker : State
  tracker = after (start_of n lent).state calls

  -- DEMANDS 1 AND 2: its n, its table of flows and its greatest number are the history's, its sets are Flows, and its state is valid
  pub tracker-follows : Follows n history tracker
  tracker-follows = list-follows n lent begun calls

  -- DEMAND 1: so no call is refused for its storage or its state, and the lent storage past the lengths in use is as it was before starting
  pub no-call-answers-9-or-12 : (c : Call) → ((outcome_of tracker c).answer.refusal ≢ 9) × ((outcome_of tracker c).answer.refusal ≢ 12)
  no-call-answers-9-or-12 c = usable-answers tracker c tracker-follows.usable

  -- nor is a question or the ranking: a container below n gets its answer, any other 4
  pub every-question-is-answered : (c : ℕ) → c < n → ((tags_of tracker c).refusal ≡ 0) × ((size_asked tracker c).refusal ≡ 0) × ((legal_of tracker c).refusal ≡ 0)
  every-question-is-answered = questions-are-answered n lent begun calls

  pub no-other-container-is-told : (c : ℕ) → n ≤ c → ((tags_of tracker c).refusal ≡ 4) × ((size_asked tracker c).refusal ≡ 4) × ((legal_of tracker c).refusal ≡ 4)
  no-other-container-is-told = others-are-no-container n lent begun calls

  pub the-ranking-is-written : (out : List ℕ) → n ≤ length out → (rank_of tracker out).refusal ≡ 0
  the-ranking-is-written = rank-is-answered n lent begun calls

  pub tracker-writes-nothing-beyond : SameBeyond n tracker.storage lent
  tracker-writes-nothing-beyond = list-beyond n lent begun calls

  -- DEMAND 2, ACCEPTED EXACTLY IF IT JOINS, at every place of every list of calls: here at the one after `calls`
  pub accepted-exactly-if-it-joins : (e : Event) → ((outcome_of tracker (ask e)).answer.refusal ≡ 0) ↔ (joins n history e ≡ true)
  accepted-exactly-if-it-joins e = accepted-joins n history tracker e tracker-follows

  -- DEMAND 2, FLOWS: tag t is in container c's stored set exactly if Flows of the accepted history relates t to c
  pub sets-are-flows : (c t : ℕ) → c < n → (has (set_at tracker.storage.tags c) t ≡ true) ↔ Flows n history t c
  sets-are-flows c t l = (
    λ p. (tracker-follows.sets c t).0 ((configuration-has tracker c t).1 (omega (arith, l, tracker-follows.size), p)),
    λ p. ((configuration-has tracker c t).0 ((tracker-follows.sets c t).1 p)).1,
  )

  -- ADDING IS ACCEPTED exactly if the container takes the set (`takes`, from n and the sets that the list gave it)
  pub add-accepted-exactly-if-taken : (c : ℕ) (p : TagSet) → ((outcome_of tracker (add c p)).answer.refusal ≡ 0) ↔ (takes n c (given_to n c [] calls) c p ≡ true)
  add-accepted-exactly-if-taken = accepted-exactly-if-taken n lent begun calls

  -- PERMISSION. The policy sets that a container has are those that the list gave it (`given_to`, from n and the calls' arguments alone), in the order of
  -- adding; and it may be sent exactly if one of them has every tag that Flows of the accepted history relates to it
  pub policy-sets-are-those-given : (c : ℕ) → c < n → SameSets (policies_of tracker c) (given_to n c [] calls)
  policy-sets-are-those-given = policies-are-those-given n lent begun calls

  pub legal-exactly-if-flows-permit : (c : ℕ) → c < n
      → (legal_of tracker c ≡ told true) ↔ ((p : TagSet) × (p ∈ given_to n c [] calls) × ((t : ℕ) → Flows n history t c → has p t ≡ true))
  legal-exactly-if-flows-permit = legal-exactly-if-given n lent begun calls

  -- DEMAND 3. For every execution of the accepted history: its configuration is the tracker's exactly if no execution of that history puts a tag
  -- where this one does not; and there is an execution whose configuration is the tracker's
  pub demand-3 :
      ((x : Execution history) → (configuration n x ≡ configuration_of tracker)
      ↔ ((y : Execution history) (c t : ℕ) → configuration n y c t ≡ true → configuration n x c t ≡ true))
      × ((x : Execution history) × (configuration n x ≡ configuration_of tracker))
  demand-3 = exact-at n history (accepted-inside (accepted-each n (events_of calls))) (configuration_of tracker) tracker-follows.sets

-- DEMAND 2, THE LOG (eventlog/specs/Log.antt). A record that is written is read back as the same event, whatever the bytes behind it; and bytes that are
-- accepted as an event are those that writing it would leave
pub a-written-record-is-read-back : (out : List ℕ) (at : ℕ) (e : LogEvent) → IsEvent e → (write_at out at (bytes_of e)).answer.refusal ≡ 0
    → (t : List ℕ) → take (write_at out at (bytes_of e)).answer.next (write_at out at (bytes_of e)).output ≡ take (write_at out at (bytes_of e)).answer.next t
    → record_at t at ≡ read (fields_of e) (write_at out at (bytes_of e)).answer.next
a-written-record-is-read-back = written_read

pub an-accepted-record-is-what-we-write : (s : List ℕ) (at : ℕ) (e : LogEvent) {p : ℕ} → IsBytes s → record_at s at ≡ read (fields_of e) p
    → write_at s at (bytes_of e) ≡ record { answer = wrote p; output = s }
an-accepted-record-is-what-we-write = accepted-written

-- the same of a whole log, n included: what the calls that write it leave is read back, and so is every log that stands alone
pub a-written-log-is-read-back : (out : List ℕ) (n : ℕ) (es : List LogEvent) → (write_log out n es).answer.refusal ≡ 0 → n < 2 ^ 32 → AreEvents es
    → log_at (take (write_log out n es).answer.next (write_log out n es).output) ≡ complete n es
a-written-log-is-read-back = log-written-read

pub a-log-is-read-back : {s : List ℕ} {n : ℕ} {es : List LogEvent} → IsLog s n es → log_at s ≡ complete n es
a-log-is-read-back = log-read

pub an-accepted-log-is-what-we-write : (s : List ℕ) {n : ℕ} {es : List LogEvent} → IsBytes s → log_at s ≡ complete n es
    → IsLog s n es × (write_log s n es ≡ record { answer = wrote (length s); output = s })
an-accepted-log-is-what-we-write s are e = (log-accepted s are e, log-accepted-written s are e)

-- DEMAND 1, READING AND WRITING: 1 where the bytes end before a field does, 2 where a field is long, 3 where the kind is neither 0 nor 1, each exactly
-- there, and reading answers no other refusal; 10 where the bytes do not fit, and then nothing changes
pub reading-answers-by-the-table : (s : List ℕ) (at : ℕ)
    → ((record_at s at ≡ unread 1) ↔ SomeField s at IsTruncated) × ((record_at s at ≡ unread 2) ↔ SomeField s at IsOverlong) × ((record_at s at ≡ unread 3) ↔ IsUnknown s at)
reading-answers-by-the-table s at =
    ((refused-truncated s at, truncated-refused s at), (refused-overlong s at, overlong-refused s at), (refused-unknown s at, unknown-refused s at))

pub reading-n-answers-by-the-table : (s : List ℕ) → ((head_at s ≡ refused 1) ↔ IsTruncated 32 (drop 0 s)) × ((head_at s ≡ refused 2) ↔ IsOverlong 32 (drop 0 s))
reading-n-answers-by-the-table s =
    ((number-refused-truncated 32 s 0, number-truncated-refused 32 s 0), (number-refused-overlong 32 s 0, number-overlong-refused 32 s 0))

pub reading-answers-no-other-refusal : (s : List ℕ) (at : ℕ) → ((record_at s at).refusal ≤ 3) × ((head_at s).refusal ≤ 2)
reading-answers-no-other-refusal s at = (
  ⊎_elim (λ e. omega (arith, e)) (⊎_elim (λ h. omega (arith, h.0)) (⊎_elim (λ h. omega (arith, h.0)) (λ h. omega (arith, h.0)))) (record-cases s at),
  ⊎_elim (λ e. omega (arith, e)) (⊎_elim (λ h. omega (arith, h.0)) (λ h. omega (arith, h.0))) (reading-cases 32 s 0),
)

pub writing-answers-10-exactly-if-it-does-not-fit : (out : List ℕ) (at : ℕ) (bs : List ℕ)
    → (length out < at + length bs → write_at out at bs ≡ record { answer = unwritten 10; output = out })
    × (at + length bs ≤ length out → write_at out at bs ≡ record { answer = wrote (at + length bs); output = overwrite out at bs })
writing-answers-10-exactly-if-it-does-not-fit out at bs = (write-short out at bs, write-fits out at bs)

-- QUESTIONS (question/specs/Question.antt) change nothing and carry no header.
-- DEMAND 1: which number each answers, for every state and container; one that is refused answers the empty set, the size 0, no
pub set-answers-by-the-table : (s : State) (c k : ℕ) → ((tags_of s c).refusal ≡ k) ↔ QuestionAnswers s c k
unfolding tags_of
set-answers-by-the-table s c k = rw (asked-number empty_set (set_at s.storage.tags c) (first_of (question_order s c) 0)) (question-answers s c k)

pub size-answers-by-the-table : (s : State) (c k : ℕ) → ((size_asked s c).refusal ≡ k) ↔ QuestionAnswers s c k
unfolding size_asked
size-answers-by-the-table s c k = rw (asked-number 0 (size_of (set_at s.storage.tags c)) (first_of (question_order s c) 0)) (question-answers s c k)

pub permission-answers-by-the-table : (s : State) (c k : ℕ) → ((legal_of s c).refusal ≡ k) ↔ QuestionAnswers s c k
unfolding legal_of
permission-answers-by-the-table s c k = rw (asked-number false (is_legal s c) (first_of (question_order s c) 0)) (question-answers s c k)

pub a-question-tells : (s : State) (c : ℕ)
    → ((tags_of s c).refusal ≡ 0 → (tags_of s c).value ≡ set_at s.storage.tags c)
    × ((size_asked s c).refusal ≡ 0 → (size_asked s c).value ≡ size_of (set_at s.storage.tags c))
    × ((legal_of s c).refusal ≡ 0 → (legal_of s c).value ≡ is_legal s c)
a-question-tells s c = (tags-told s c, size-told s c, legal-told s c)

pub a-refused-question-tells-nothing : (s : State) (c k : ℕ)
    → ((tags_of s c).refusal ≡ suc k → (tags_of s c).value ≡ empty_set)
    × ((size_asked s c).refusal ≡ suc k → (size_asked s c).value ≡ 0)
    × ((legal_of s c).refusal ≡ suc k → (legal_of s c).value ≡ false)
a-refused-question-tells-nothing s c k = (tags-untold s c k, size-untold s c k, legal-untold s c k)

-- PERMISSION, document 001's rule: legal exactly if the tag set is part of at least one of the container's policy sets. The own tag is compared like any
-- other; with no policy set the answer is no. Its policy sets are those that its count says, in the order of adding (`add-puts-the-set-last`)
pub legal-rule : (s : State) (c : ℕ)
    → (is_legal s c ≡ true) ↔ ((p : TagSet) × (p ∈ policies_of s c) × ((t : ℕ) → has (set_at s.storage.tags c) t ≡ true → has p t ≡ true))
legal-rule = legal-exactly-if

pub without-policy-set-not-legal : (s : State) (c : ℕ) → policy_count s c ≡ 0 → is_legal s c ≡ false
without-policy-set-not-legal = no-policy-not-legal

pub policy-sets-are-stored : (s : State) (c : ℕ) (p : TagSet)
    → (p ∈ policies_of s c) ↔ ((k : ℕ) × (k < policy_count s c) × (p ≡ policy_at s c k))
policy-sets-are-stored = policy-member

-- which sets a list of calls gives a container: one more where it is a container, no tag is n or more and there are fewer than four. 'The same set may be
-- added twice and takes two places'
pub a-set-is-taken-exactly-if : (n c : ℕ) (had : List TagSet) (d : ℕ) (p : TagSet)
    → (takes n c had d p ≡ true) ↔ ((d ≡ c) × (c < n) × ((t : ℕ) → has p t ≡ true → t < n) × (length had < 4))
a-set-is-taken-exactly-if = takes-exactly-if

pub the-same-set-twice-takes-two-places : (n c : ℕ) (p : TagSet) → c < n → Known n p → given_to n c [] (add c p ∷ add c p ∷ []) ≡ p ∷ p ∷ []
the-same-set-twice-takes-two-places = same-set-twice-takes-two-places

pub a-fifth-set-is-not-taken : (n c : ℕ) (p q r s : TagSet) → c < n → Known n p → Known n q → Known n r → Known n s → (calls : List Call)
    → given_to n c [] (add c p ∷ add c q ∷ add c r ∷ add c s ∷ calls) ≡ p ∷ q ∷ r ∷ s ∷ []
a-fifth-set-is-not-taken = a-fifth-is-not-taken

-- THE RANKING (ranking/specs/Ranking.antt).
-- DEMAND 1: which number it answers; a refusal leaves the output, and the places after the n numbers stay
pub rank-answers-by-the-table : (s : State) (out : List ℕ) (k : ℕ) → ((rank_of s out).refusal ≡ k) ↔ RankAnswers s out k
rank-answers-by-the-table = rank-answers

pub refused-rank-changes-nothing : (s : State) (out : List ℕ) (k : ℕ) → (rank_of s out).refusal ≡ suc k → (rank_of s out).output ≡ out
refused-rank-changes-nothing = rank-refused

pub rank-writes-the-ranking : (s : State) (out : List ℕ) → (rank_of s out).refusal ≡ 0
    → (rank_of s out).output ≡ ranking_of s.header.containers s.storage.tags ++ drop s.header.containers out
rank-writes-the-ranking = rank-done

-- most tags first, among equal sizes the lower number first; it is a permutation of the containers, sorted by that relation, and no other list is
pub comes-before-exactly-if : (ws : List ℕ) (a b : ℕ)
    → (ranks_before ws a b ≡ true) ↔ ((size_of (set_at ws b) < size_of (set_at ws a)) ⊎ ((size_of (set_at ws a) ≡ size_of (set_at ws b)) × (a < b)))
comes-before-exactly-if = ranks-before-iff

pub the-ranking-is-sorted : (n : ℕ) (ws : List ℕ) → SortedBy (ranks_before ws) (ranking_of n ws)
the-ranking-is-sorted = ranking-sorted

pub the-ranking-is-a-permutation : (n : ℕ) (ws : List ℕ)
    → (length (ranking_of n ws) ≡ n) × ((c : ℕ) → (c ∈ ranking_of n ws) ↔ (c < n))
    × ((i j : ℕ) → i < n → j < n → get_or (ranking_of n ws) i 0 ≡ get_or (ranking_of n ws) j 0 → i ≡ j)
the-ranking-is-a-permutation n ws = (ranking-length n ws, ranking-members n ws, ranking-once n ws)

pub no-other-list-is : (n : ℕ) (ws : List ℕ) (xs : List ℕ) → SortedBy (ranks_before ws) xs → ((c : ℕ) → (c ∈ xs) ↔ (c < n)) → xs ≡ ranking_of n ws
no-other-list-is = ranking-unique

-- `rank_sets`, which judges no state, writes the same where there are sets and places enough, and nothing elsewhere
pub rank-sets-writes-the-ranking-or-nothing : (n : ℕ) (ws out : List ℕ)
    → (n ≤ 256 → 4 * n ≤ length ws → n ≤ length out → rank_into n ws out ≡ ranking_of n ws ++ drop n out)
    × (¬ ((n ≤ 256) × (4 * n ≤ length ws) × (n ≤ length out)) → rank_into n ws out ≡ out)
rank-sets-writes-the-ranking-or-nothing n ws out = (rank-into-done n ws out, rank-into-none n ws out)

-- REPLAY (replay/specs/Replay.antt).
-- DEMAND 1: n is read and judged first; if n or the storage is refused, byte and header are 0 and nothing is written
pub n-answers-by-the-table : (bs : List ℕ) (lent : Storage) (k : ℕ) → ((containers_in bs lent).refusal ≡ k) ↔ ContainersAnswers bs lent k
n-answers-by-the-table = containers-answers

-- where n is accepted, it and the position of the first record are those that are read
pub an-accepted-n-is-the-one-read : (bs : List ℕ) (lent : Storage) → (containers_in bs lent).refusal ≡ 0 → containers_in bs lent ≡ head_at bs
an-accepted-n-is-the-one-read = begun-head

pub a-refused-n-changes-nothing : (bs : List ℕ) (lent : Storage) (k : ℕ) → (containers_in bs lent).refusal ≡ suc k
    → replay_of bs lent ≡ record { refusal = suc k; byte = 0; events = 0; gain = 0; state = record { header = record { containers = 0; count = 0; greatest = 0 }; storage = lent } }
a-refused-n-changes-nothing = replay-not-begun

-- n and the storage are accepted exactly if the header that comes back has containers
pub a-replay-begins-exactly-if : (bs : List ℕ) (lent : Storage) → ((containers_in bs lent).refusal ≡ 0) ↔ ((replay_of bs lent).state.header.containers ≢ 0)
a-replay-begins-exactly-if = begins-exactly-if

-- the calls of records are these
pub a-record-asks-for-an-enable : (number from to : ℕ) → call_of (Enable number from to) ≡ ask (enable (record { number = number; from = from; to = to }))
a-record-asks-for-an-enable number from to = refl

pub a-record-asks-for-a-disable : (number : ℕ) → call_of (Disable number) ≡ ask (disable number)
a-record-asks-for-a-disable number = refl

-- DEMANDS 1 AND 2: otherwise the replay is starting and the calls of its records. Replays says it in the paper's words: the events done, each accepted, and
-- the state, the gain and the number as after them; complete, the bytes are the log of n and those events; refused, the bytes before `byte` are, and there
-- begins a record that cannot be read, or whose event is refused
pub replay-is-starting-and-calls : (bs : List ℕ) (lent : Storage) → IsBytes bs → (containers_in bs lent).refusal ≡ 0
    → Replays bs (head_at bs).value lent (replay_of bs lent)
replay-is-starting-and-calls = replay-does

-- which events those are is found from n and the bytes alone: of the events that can be read, the first that join the history, up to one that does not
pub the-events-done-are-those-that-join : (bs : List ℕ) (lent : Storage) → IsBytes bs → (containers_in bs lent).refusal ≡ 0
    → (w : Replays bs (head_at bs).value lent (replay_of bs lent))
    × (w.done ≡ joining (head_at bs).value empty (events_from bs (head_at bs).next).events)
unfolding done_of
the-events-done-are-those-that-join bs lent are b = (replay-does bs lent are b, replay-done bs lent are b)

pub joining-goes-on : (n : ℕ) (h : History) (e : LogEvent) (es : List LogEvent) → joins n h (event_in e) ≡ true
    → joining n h (e ∷ es) ≡ e ∷ joining n (h ▸ event_in e) es
unfolding joining
joining-goes-on n h e es j = rw j refl

pub joining-stops : (n : ℕ) (h : History) (e : LogEvent) (es : List LogEvent) → joins n h (event_in e) ≡ false → joining n h (e ∷ es) ≡ []
unfolding joining
joining-stops n h e es j = rw j refl

-- and of a log of n and events: where all are accepted it is complete; the first that is refused ends it where its record begins, whatever events follow
pub an-accepted-log-is-complete : {bs : List ℕ} {n : ℕ} (lent : Storage) → IsSized n lent → {es : List LogEvent} → IsLog bs n es
    → AllAccepted (start_of n lent).state (map call_of es)
    → replay_of bs lent
    ≡ record {
      refusal = 0;
      byte = 0;
      events = length es;
      gain = gains_of (start_of n lent).state (map call_of es);
      state = after (start_of n lent).state (map call_of es);
    }
an-accepted-log-is-complete = replay-log

pub a-refused-event-ends-the-log : {bs : List ℕ} {n : ℕ} (lent : Storage) → IsSized n lent → (ds : List LogEvent) (e : LogEvent) (es : List LogEvent) (k : ℕ)
    → IsLog bs n (ds ++ (e ∷ es)) → AllAccepted (start_of n lent).state (map call_of ds)
    → (outcome_of (after (start_of n lent).state (map call_of ds)) (call_of e)).answer.refusal ≡ suc k
    → replay_of bs lent
    ≡ record {
      refusal = suc k;
      byte = length (log_of n ds);
      events = length ds;
      gain = gains_of (start_of n lent).state (map call_of ds);
      state = after (start_of n lent).state (map call_of ds);
    }
a-refused-event-ends-the-log = replay-log-refused

-- a replay leaves a usable state of n containers, and nothing past the lengths in use is written
pub replay-leaves-valid : (bs : List ℕ) (lent : Storage) → (containers_in bs lent).refusal ≡ 0
    → Usable (replay_of bs lent).state × ((replay_of bs lent).state.header.containers ≡ (head_at bs).value) × SameBeyond (head_at bs).value (replay_of bs lent).state.storage lent
replay-leaves-valid bs lent b = (replay-usable bs lent b, replay-containers bs lent b, replay-beyond bs lent b)

-- THE TEXT of `tally` (tallytext/specs/Text.antt), line by line. A line is its words with single spaces between them (`line_with`): of a container its number, its
-- size and its tags, which rise; of the end `events`, their number, `gain`, their sum, or `refused`, the number, `at`, the byte
pub the-line-of-a-container : (c : ℕ) (s : TagSet) → line_of c s ≡ line_with (decimal_of c) (map decimal_of (size_of s ∷ tags_rising s))
the-line-of-a-container = line-words

pub the-tags-of-a-line : (s : TagSet)
    → ((t : ℕ) → (t ∈ tags_rising s) ↔ (has s t ≡ true))
    × ((i j : ℕ) → i < j → j < length (tags_rising s) → get_or (tags_rising s) i 0 < get_or (tags_rising s) j 0) × (length (tags_rising s) ≡ size_of s)
the-tags-of-a-line s = (tags-members s, tags-rising s, tags-count s)

pub the-line-of-events : (events gain : ℕ) → events_line events gain ≡ line_with events_word (decimal_of events ∷ gain_word ∷ decimal_of gain ∷ [])
the-line-of-events = events-line-words

pub the-line-of-a-refusal : (refusal byte : ℕ) → refused_line refusal byte ≡ line_with refused_word (decimal_of refusal ∷ at_word ∷ decimal_of byte ∷ [])
the-line-of-a-refusal = refused-line-words

pub a-number-is-its-digits : (v : ℕ)
    → (number_of (decimal_of v) ≡ v) × ((k : ℕ) → k < length (decimal_of v) → (48 ≤ get_or (decimal_of v) k 0) × (get_or (decimal_of v) k 0 ≤ 57))
    × (10 ≤ v → get_or (decimal_of v) 0 0 ≢ 48) × (v < 10 → decimal_of v ≡ (48 + v) ∷ [])
a-number-is-its-digits v = (decimal-value v, decimal_digit v, decimal-front v, decimal-last v)

-- every line ends with a newline and has no other
pub every-line-ends : ((c : ℕ) (s : TagSet) → IsLine (line_of c s)) × ((events gain : ℕ) → IsLine (events_line events gain)) × ((refusal byte : ℕ) → IsLine (refused_line refusal byte))
every-line-ends = (line-ends, events-line-ends, refused-line-ends)

-- which lines there are: those of the containers in the order of the ranking, and the last; only the last if n cannot be used or the input is too long
pub the-text-of-long-input : (bs : List ℕ) (lent : Storage) → 16384 < length bs → text_of bs lent ≡ refused_line 10 16384
the-text-of-long-input = text-of-long-input

pub the-text-without-n : (bs : List ℕ) (lent : Storage) → length bs ≤ 16384 → (k : ℕ) → (containers_in bs lent).refusal ≡ suc k → text_of bs lent ≡ refused_line (suc k) 0
the-text-without-n = text-of-unusable-n

pub the-text-of-a-complete-replay : (bs : List ℕ) (lent : Storage) → length bs ≤ 16384 → (containers_in bs lent).refusal ≡ 0 → (replay_of bs lent).refusal ≡ 0
    → text_of bs lent
    ≡ lines_of (ranking_of (head_at bs).value (replay_of bs lent).state.storage.tags) (replay_of bs lent).state.storage.tags
    ++ events_line (replay_of bs lent).events (replay_of bs lent).gain
the-text-of-a-complete-replay = text-of-complete-replay

pub the-text-of-a-refused-replay : (bs : List ℕ) (lent : Storage) → length bs ≤ 16384 → (containers_in bs lent).refusal ≡ 0 → (k : ℕ) → (replay_of bs lent).refusal ≡ suc k
    → text_of bs lent
    ≡ lines_of (ranking_of (head_at bs).value (replay_of bs lent).state.storage.tags) (replay_of bs lent).state.storage.tags
    ++ refused_line (suc k) (replay_of bs lent).byte
the-text-of-a-refused-replay = text-of-refused-replay

pub the-lines-of-containers : (c : ℕ) (cs ws : List ℕ) → (lines_of (c ∷ cs) ws ≡ line_of c (set_at ws c) ++ lines_of cs ws) × (lines_of [] ws ≡ [])
the-lines-of-containers c cs ws = (line-by-line c cs ws, no_lines ws)

-- a text that does not fit is refused with 10 and no byte is written; the tracker is left as the run leaves it, whatever the output; and the program's
-- buffer always suffices
pub a-short-output-keeps-its-bytes : (bs : List ℕ) (lent : Storage) (out : List ℕ) → length out < length (text_of bs lent)
    → ((tally_of bs lent out).answer ≡ unwritten 10) × ((tally_of bs lent out).output ≡ out)
a-short-output-keeps-its-bytes = tally-short

pub a-text-that-fits-is-written : (bs : List ℕ) (lent : Storage) (out : List ℕ) → length (text_of bs lent) ≤ length out
    → ((tally_of bs lent out).answer ≡ wrote (length (text_of bs lent))) × ((tally_of bs lent out).output ≡ text_of bs lent ++ drop (length (text_of bs lent)) out)
a-text-that-fits-is-written = tally-fits

pub tally-leaves-what-the-replay-leaves : (bs : List ℕ) (lent : Storage) → (length bs ≤ 16384 → left_of bs lent ≡ (replay_of bs lent).state)
    × (16384 < length bs → left_of bs lent ≡ record { header = record { containers = 0; count = 0; greatest = 0 }; storage = lent })
tally-leaves-what-the-replay-leaves bs lent = (left-of-replay bs lent, left-of-long-input bs lent)

pub the-buffer-of-tally-suffices : (bs : List ℕ) (lent : Storage) (out : List ℕ) → IsBytes bs → 264256 ≤ length out
    → (tally_of bs lent out).answer ≡ wrote (length (text_of bs lent))
the-buffer-of-tally-suffices = tally-suffices

-- THE PROGRAM makes the text of its input in a new tracker's storage (`printed_of`, which `shown_of` in tally/specs/Program.antt cites): all that is claimed of
-- texts, with `new_storage` for the lent lists. That takes every n from 1 to 256, so 9 is answered for n alone. That what was read is the input, and that the
-- text is printed, no contract can say
pub the-program-takes-every-n : (n : ℕ) → IsSized n new_storage ↔ ((1 ≤ n) × (n ≤ 256))
the-program-takes-every-n = new-storage-sized

pub the-program-refuses-n-by-the-table : (bs : List ℕ) (k : ℕ) → length bs ≤ 16384 → ContainersAnswers bs new_storage (suc k) → printed_of bs ≡ refused_line (suc k) 0
the-program-refuses-n-by-the-table bs k short a = text-of-unusable-n bs new_storage short k ((containers-answers bs new_storage (suc k)).1 a)

-- DEMAND 2, THE TEXT: the tags on the line of container c are those that Flows of the accepted history relates to c, and the history is that of the events
-- done, found from the bytes alone; so is the number on the line of events
pub the-tags-printed-are-flows : (bs : List ℕ) (lent : Storage) → IsBytes bs → (containers_in bs lent).refusal ≡ 0 → (c t : ℕ) → c < (head_at bs).value
    → (t ∈ tags_rising (set_at (replay_of bs lent).state.storage.tags c))
    ↔ Flows (head_at bs).value (accepted (head_at bs).value (events_of (map call_of (done_of bs)))) t c
the-tags-printed-are-flows bs lent are b c t l =
    let w = replay-does bs lent are b in
    let n = (head_at bs).value in
    let same : (replay_of bs lent).state ≡ after (start_of n lent).state (map call_of (done_of bs)) =
    w.state ∙ ap (λ (es : List LogEvent). after (start_of n lent).state (map call_of es)) (replay-done bs lent are b) in
    let flows = sets-are-flows n lent (replay-starts bs lent b) (map call_of (done_of bs)) c t l in
    let tags = tags-members (set_at (replay_of bs lent).state.storage.tags c) t in
    let has-so : has (set_at (replay_of bs lent).state.storage.tags c) t ≡ has (set_at (after (start_of n lent).state (map call_of (done_of bs))).storage.tags c) t =
    ap (λ (s : State). has (set_at s.storage.tags c) t) same in
    (λ m. flows.0 (sym has-so ∙ tags.0 m), λ f. tags.1 (has-so ∙ flows.1 f))

pub the-events-printed-are-those-done : (bs : List ℕ) (lent : Storage) → IsBytes bs → (containers_in bs lent).refusal ≡ 0 → (replay_of bs lent).events ≡ length (done_of bs)
the-events-printed-are-those-done bs lent are b = (replay-does bs lent are b).events ∙ ap length (replay-done bs lent are b)

-- THE RUNNING CALLS (tracker/src/lib.rt has them in one place; calls, question, ranking and replay their contracts). The
-- contract of each says that what the call gives back and leaves in the lent lists (`leaving`) makes up the outcome of
-- its definition, for every number and every content and length of storage. That is the hypothesis here (`StartGave`,
-- `CallGave` and their like, Running.antt), and Tie.antt says that it is the whole contract, which requires nothing. So
-- what is claimed above of the definitions is true of the calls, one by one. (`IsBytes`, of a log: each number is below
-- 256, as those of a `&[u8]` are.)

-- the numbers and the header that a contract gives determine the answer
pub the-numbers-tell-replies-apart : (q r : Answered) (h : Header) (left : Storage)
    → leaving q h left ≡ leaving r h left → q ≡ r
the-numbers-tell-replies-apart q r h left =
    left-injective q r h left.tags left.policies left.policy_counts left.flows

-- whatever is true of the outcome, the answer, the ranking or the run of a definition is true of what the call gave
pub what-is-true-of-a-definition-is-true-of-the-call :
    ((n : ℕ) (lent : Storage) (r : Answered) (left : Storage) → StartGave n lent r left
    → (P : Outcome → Type 0) → P (start_of n lent) → P (leaving r no_header left))
    × ((s : State) (c : Call) (r : Answered) (left : Storage) → CallGave s c r left
    → (P : Outcome → Type 0) → P (outcome_of s c) → P (leaving r s.header left))
    × ((s : State) (c : ℕ) (r : Result TagSet Refusal) → TagsGave s c r
    → (P : Asked TagSet → Type 0) → P (tags_of s c) → P (asked_by empty_set r))
    × ((s : State) (c : ℕ) (r : Result ℕ Refusal) → SizeGave s c r
    → (P : Asked ℕ → Type 0) → P (size_asked s c) → P (asked_by 0 r))
    × ((s : State) (c : ℕ) (r : Result Bool Refusal) → LegalGave s c r
    → (P : Asked Bool → Type 0) → P (legal_of s c) → P (asked_by false r))
    × ((s : State) (out : List ℕ) (r : Result (Unit {0}) Refusal) (written : List ℕ)
    → RankGave s out r → RankWrote s out written
    → (P : Ranking → Type 0) → P (rank_of s out) → P (record { refusal = refusal_of r; output = written }))
    × ((bs : List ℕ) (lent : Storage) (r : Replayed) (left : Storage) → ReplayGave bs lent r left
    → (P : Replay → Type 0) → P (replay_of bs lent) → P (running r left))
what-is-true-of-a-definition-is-true-of-the-call = (
  λ n lent r left e P. subst P (sym e),
  λ s c r left e P. subst P (sym e),
  λ s c r e P. subst P (sym e),
  λ s c r e P. subst P (sym e),
  λ s c r e P. subst P (sym e),
  λ s out r written e f P. subst P (λ i. record { refusal = sym e i; output = sym f i }),
  λ bs lent r left e P. subst P (sym e),
)

-- `start`: StartDoes gathers what is claimed of it (demand 1)
pub what-start-does : (n : ℕ) (lent : Storage) (r : Answered) (left : Storage) → StartGave n lent r left
    → StartDoes n lent (leaving r no_header left)
what-start-does n lent r left e = subst (StartDoes n lent) (sym e) (start-does n lent)

-- `enable`: EnableDoes (demands 1 and 2)
pub what-enable-does : (s : State) (f : Flow) (r : Answered) (left : Storage) → CallGave s (ask (enable f)) r left
    → EnableDoes s f (leaving r s.header left)
unfolding outcome_of
what-enable-does s f r left e = subst (EnableDoes s f) (sym e) (enable-does s f)

-- `disable`: DisableDoes (demands 1 and 2)
pub what-disable-does : (s : State) (k : ℕ) (r : Answered) (left : Storage) → CallGave s (ask (disable k)) r left
    → DisableDoes s k (leaving r s.header left)
unfolding outcome_of
what-disable-does s k r left e = subst (DisableDoes s k) (sym e) (disable-does s k)

-- `add_policy`: AddDoes (demand 1)
pub what-add-policy-does : (s : State) (c : ℕ) (p : TagSet) (r : Answered) (left : Storage) → CallGave s (add c p) r left
    → AddDoes s c p (leaving r s.header left)
unfolding outcome_of
what-add-policy-does s c p r left e = subst (AddDoes s c p) (sym e) (add-does s c p)

-- `apply_enable` and `apply_disable` (calls/src/lib.rt), which judge no state. On every state they answer the first
-- refusal that stands after 9 and 12 in the event's order, and a refused event changes nothing
pub apply-enable-answers-the-first : (s : State) (f : Flow) (k : ℕ) → ((apply_enable_of s f).answer.refusal ≡ suc k) ↔ IsFirst (enable_later s f) (suc k)
apply-enable-answers-the-first = apply-enable-refusal

pub refused-apply-enable-changes-nothing : (s : State) (f : Flow) (k : ℕ) → (apply_enable_of s f).answer.refusal ≡ suc k
    → ((apply_enable_of s f).state ≡ s) × ((apply_enable_of s f).answer.gain ≡ 0)
refused-apply-enable-changes-nothing = apply-enable-refused

pub apply-disable-answers-the-first : (s : State) (j k : ℕ) → ((apply_disable_of s j).answer.refusal ≡ suc k) ↔ IsFirst (disable_later s j) (suc k)
apply-disable-answers-the-first = apply-disable-refusal

pub refused-apply-disable-changes-nothing : (s : State) (j k : ℕ) → (apply_disable_of s j).answer.refusal ≡ suc k
    → ((apply_disable_of s j).state ≡ s) × ((apply_disable_of s j).answer.gain ≡ 0)
refused-apply-disable-changes-nothing = apply-disable-refused

-- on a usable state (for the enable of words of 64 bits, as lent words are) they come to the same
pub apply-enable-is-enable : (s : State) → Usable s → (f : Flow) → Fit64 s.storage.tags → apply_enable_of s f ≡ enable_of s f
apply-enable-is-enable = apply-enable

pub apply-disable-is-disable : (s : State) → Usable s → (k : ℕ) → apply_disable_of s k ≡ disable_of s k
apply-disable-is-disable = apply-disable

-- `tags_of`, `size_of`, `is_legal`, `rank`, `read_containers`, `replay`: a contract gives the numbers of the answer (and the output, the lent lists) by the
-- definition; these determine the answer
pub the-numbers-tell-answers-apart :
    ((q r : Result TagSet Refusal) → asked_by empty_set q ≡ asked_by empty_set r → q ≡ r)
    × ((q r : Result ℕ Refusal) → asked_by 0 q ≡ asked_by 0 r → q ≡ r)
    × ((q r : Result Bool Refusal) → asked_by false q ≡ asked_by false r → q ≡ r)
    × ((q r : Result (Unit {0}) Refusal) → refusal_of q ≡ refusal_of r → q ≡ r)
    × ((q r : Result (ℕ × ℕ) Refusal) → reading_of q ≡ reading_of r → q ≡ r)
    × ((q r : Option Stop) → refusal_at q ≡ refusal_at r → byte_at q ≡ byte_at r → q ≡ r)
    × ((q r : Refusal) → paper_number q ≡ paper_number r → q ≡ r)
    × ((q r : Result ℕ Refusal) → writing_of q ≡ writing_of r → q ≡ r)
the-numbers-tell-answers-apart = (
  asked-injective empty_set,
  asked-injective 0,
  asked-injective false,
  refusal-injective,
  reading-injective,
  stop-injective,
  number-injective,
  writing-injective,
)

-- so of a replay that runs: it is starting and the calls of the events that its bytes hold and that join, or it changes nothing
pub what-replay-does : (bs : List ℕ) (lent : Storage) (r : Replayed) (left : Storage) → ReplayGave bs lent r left
    → ((k : ℕ) → (containers_in bs lent).refusal ≡ suc k
    → running r left
    ≡ record { refusal = suc k; byte = 0; events = 0; gain = 0; state = record { header = record { containers = 0; count = 0; greatest = 0 }; storage = lent } })
    × (IsBytes bs → (containers_in bs lent).refusal ≡ 0
    → (w : Replays bs (head_at bs).value lent (running r left)) × (w.done ≡ done_of bs))
what-replay-does bs lent r left e = (
  λ k z. e ∙ replay-not-begun bs lent k z,
  λ are b.
      subst (λ (x : Replay). (w : Replays bs (head_at bs).value lent x) × (w.done ≡ done_of bs)) (sym e) (replay-does bs lent are b, replay-done bs lent are b),
)

-- and of `tally` that runs (report/src/lib.rt), in lent lists and a table of its own, of zeros: its text, written whole or
-- not at all, and the tracker as the run leaves it
pub what-tally-writes : (bs lentTags lentPolicies lentCounts out : List ℕ) (r : Tallied) (written : List ℕ)
    → (let lent = with_new_table lentTags lentPolicies lentCounts in
    TallyAnswered bs lent out r → TallyWrote bs lent out written
    → (length (text_of bs lent) ≤ length out
    → (writing_of r.reply ≡ wrote (length (text_of bs lent))) × (written ≡ text_of bs lent ++ drop (length (text_of bs lent)) out))
    × (length out < length (text_of bs lent) → (writing_of r.reply ≡ unwritten 10) × (written ≡ out)))
what-tally-writes bs lentTags lentPolicies lentCounts out r written a o =
    let lent = with_new_table lentTags lentPolicies lentCounts in (
      λ h. let w = tally-fits bs lent out h in (a ∙ w.0, o ∙ w.1),
      λ h. let w = tally-short bs lent out h in (a ∙ w.0, o ∙ w.1),
    )

pub what-tally-leaves : (bs lentTags lentPolicies lentCounts : List ℕ) (r : Tallied) (tags policies counts : List ℕ)
    → (let lent = with_new_table lentTags lentPolicies lentCounts in
    TallyLeft bs lent r tags policies counts
    → (length bs ≤ 16384 → state_of r.header tags policies counts r.flows ≡ (replay_of bs lent).state)
    × (16384 < length bs → state_of r.header tags policies counts r.flows
    ≡ record { header = record { containers = 0; count = 0; greatest = 0 }; storage = lent }))
what-tally-leaves bs lentTags lentPolicies lentCounts r tags policies counts s =
    let lent = with_new_table lentTags lentPolicies lentCounts in
    (λ h. s ∙ left-of-replay bs lent h, λ h. s ∙ left-of-long-input bs lent h)

-- PROPAGATION runs in passes. One pass gives each container what it had, and what the sources of its edges had when the pass began
pub a-pass-reads-the-sets-found : (n : ℕ) (es : List (ℕ × ℕ)) (ws : List ℕ) → 4 * n ≤ length ws → (c t : ℕ) → c < n
    → (has (set_at (pass n es ws) c) t ≡ true)
    ↔ ((has (set_at ws c) t ≡ true) ⊎ ((a : ℕ) × (a < n) × ((a, c) ∈ es) × (has (set_at ws a) t ≡ true)))
a-pass-reads-the-sets-found = pass-has

-- the number that `propagate` answers, for as many sets as the words have
pub the-number-of-passes : (n : ℕ) (fs : List Flow) (ws : List ℕ) → n ≤ 256 → 4 * n ≤ length ws → pass_count n fs ws ≡ passes_of n (edges_of fs) ws
the-number-of-passes = count-is

-- the passes stop at the first that adds no tag: there is one at least, each before the last adds a tag, and the last adds none
pub a-pass-adds-exactly-if : (n : ℕ) (es : List (ℕ × ℕ)) (ws : List ℕ) → 4 * n ≤ length ws
    → (adds n es ws ≡ true) ↔ ((c : ℕ) × (t : ℕ) × (c < n) × (has (set_at (pass n es ws) c) t ≡ true) × (has (set_at ws c) t ≡ false))
a-pass-adds-exactly-if = adds-iff

pub there-is-a-pass : (n : ℕ) (es : List (ℕ × ℕ)) (ws : List ℕ) → 1 ≤ passes_of n es ws
there-is-a-pass = passes-some

pub every-pass-before-the-last-adds : (n : ℕ) (es : List (ℕ × ℕ)) (ws : List ℕ) (m : ℕ) → m + 1 < passes_of n es ws → adds n es (passed m n es ws) ≡ true
every-pass-before-the-last-adds = passes-add

pub the-last-pass-adds-nothing : (n : ℕ) (es : List (ℕ × ℕ)) (ws : List ℕ) (m : ℕ) → m + 1 ≡ passes_of n es ws → adds n es (passed m n es ws) ≡ false
the-last-pass-adds-nothing = passes-last

-- the sets after them are, word by word, those of the declarative definition, which has the tags of all containers from which there is a way; and the
-- pairs counted edge by edge as they are added are the gain
pub passes-come-to-the-closure : (n : ℕ) (fs : List Flow) (ws : List ℕ) → n ≤ 256 → 4 * n ≤ length ws → Within n (edges_of fs) → Fit64 ws
    → sets_after n fs ws ≡ propagated n fs ws
passes-come-to-the-closure = passes-propagate

pub the-closure-is-the-sentence : (n : ℕ) (fs : List Flow) (ws : List ℕ) → Within n (edges_of fs) → (b t : ℕ) → b < n
    → (has (set_at (propagated n fs ws) b) t ≡ true)
    ↔ ((a : ℕ) × (a < n) × (has (set_at ws a) t ≡ true) × ReflTransGenᴰ (λ x y. (x, y) ∈ edges_of fs) a b)
the-closure-is-the-sentence = propagated-sentence

pub pairs-counted-are-the-gain : (n : ℕ) (fs : List Flow) (ws : List ℕ) → n ≤ 256 → 4 * n ≤ length ws → Within n (edges_of fs) → Fit64 ws
    → pairs_added n fs ws ≡ gain_of n ws (propagated n fs ws)
pairs-counted-are-the-gain = passes-gain

-- CALLS ONE AFTER THE OTHER (`Called`) are known by their contracts alone. These can be met for every list of calls from
-- every start that is accepted, and then by every list of calls that goes on; by every replay, and by every `tally`
pub every-list-can-be-called : (n : ℕ) (lent : Storage) → (start_of n lent).answer.refusal ≡ 0 → (calls : List Call) → (s : State) × Called n lent calls s
every-list-can-be-called = called_of

pub calls-can-go-on : (n : ℕ) (lent : Storage) (done : List Call) (s : State) → Called n lent done s
    → (calls : List Call) → (t : State) × Called n lent (done ++ calls) t
calls-can-go-on = called_on

pub every-question-can-be-asked : (s : State) (c : ℕ)
    → ((r : Result TagSet Refusal) × TagsGave s c r) × ((r : Result ℕ Refusal) × SizeGave s c r)
    × ((r : Result Bool Refusal) × LegalGave s c r)
every-question-can-be-asked s c = (tags-given s c, size-given s c, legal-given s c)

pub every-ranking-can-be-asked-for : (s : State) (out : List ℕ) → (r : Result (Unit {0}) Refusal) × RankGave s out r
every-ranking-can-be-asked-for = rank-given

pub every-replay-can-be-made : (bs : List ℕ) (lent : Storage) → IsBytes bs
    → (r : Replayed) × ReplayGave bs lent r (replay_of bs lent).state.storage
every-replay-can-be-made = replay-left

pub every-tally-can-be-made : (bs tags policies counts out : List ℕ)
    → (let lent = with_new_table tags policies counts in
    let x = (left_of bs lent).storage in
    (r : Tallied) × TallyAnswered bs lent out r × TallyLeft bs lent r x.tags x.policies x.policy_counts)
every-tally-can-be-made = tally-left

-- a replay whose n and storage are accepted, complete or refused partway, counts as a start and the calls of its events: of
-- those that its bytes hold, the first that join, found from the bytes alone; and so does a `tally`
pub a-replay-counts-as-calls : (bs : List ℕ) (lent : Storage) → IsBytes bs → (containers_in bs lent).refusal ≡ 0
    → (r : Replayed) (left : Storage) → ReplayGave bs lent r left
    → Called (head_at bs).value lent (map call_of (done_of bs)) (running r left).state
a-replay-counts-as-calls = replay-as-calls

pub a-tally-counts-as-calls : (bs lentTags lentPolicies lentCounts : List ℕ)
    → (let lent = with_new_table lentTags lentPolicies lentCounts in
    IsBytes bs → (containers_in bs lent).refusal ≡ 0 → length bs ≤ 16384
    → (r : Tallied) (tags policies counts : List ℕ) → TallyLeft bs lent r tags policies counts
    → Called (head_at bs).value lent (map call_of (done_of bs)) (state_of r.header tags policies counts r.flows))
a-tally-counts-as-calls = tally-as-calls

pub every-replay-begins-calls : (bs : List ℕ) (lent : Storage) → IsBytes bs → (containers_in bs lent).refusal ≡ 0
    → (r : Replayed) × (left : Storage) × ReplayGave bs lent r left
    × Called (head_at bs).value lent (map call_of (done_of bs)) (running r left).state
every-replay-begins-calls = replay-begins

pub every-tally-begins-calls : (bs tags policies counts : List ℕ)
    → (let lent = with_new_table tags policies counts in
    let x = (left_of bs lent).storage in
    IsBytes bs → (containers_in bs lent).refusal ≡ 0 → length bs ≤ 16384
    → (r : Tallied) × TallyLeft bs lent r x.tags x.policies x.policy_counts
    × Called (head_at bs).value lent (map call_of (done_of bs))
    (state_of r.header x.tags x.policies x.policy_counts r.flows))
every-tally-begins-calls = tally-begins

-- DEMANDS 2 AND 3 of calls made one after the other, which left the state `s`; they may be those of a replay, or of a
-- `tally`, complete or refused partway, and go on
module _ (n : ℕ) (lent : Storage) (calls : List Call) (s : State) (made : Called n lent calls s) where
  -- it is the tracker of the claims on lists of calls
  same-state : tracker n lent (called_is made).0 calls ≡ s
  same-state = sym (called_is made).1

  pub called-follows : Follows n (accepted n (events_of calls)) s
  called-follows = rw (sym same-state) (tracker-follows n lent (called_is made).0 calls)

  pub called-writes-nothing-beyond : SameBeyond n s.storage lent
  called-writes-nothing-beyond = rw (sym same-state) (tracker-writes-nothing-beyond n lent (called_is made).0 calls)

  -- the next call is refused neither for its storage nor for its state
  pub called-answers-no-9-or-12 : (c : Call) (r : Answered) (left : Storage) → CallGave s c r left
      → ((answer_of r).refusal ≢ 9) × ((answer_of r).refusal ≢ 12)
  called-answers-no-9-or-12 c r left q =
      subst (λ (o : Outcome). (o.answer.refusal ≢ 9) × (o.answer.refusal ≢ 12)) (sym q) (usable-answers s c called-follows.usable)

  pub called-sets-are-flows : (c t : ℕ) → c < n → (has (set_at s.storage.tags c) t ≡ true) ↔ Flows n (accepted n (events_of calls)) t c
  called-sets-are-flows = rw (sym same-state) (sets-are-flows n lent (called_is made).0 calls)

  pub called-policy-sets-are-those-given : (c : ℕ) → c < n → SameSets (policies_of s c) (given_to n c [] calls)
  called-policy-sets-are-those-given = rw (sym same-state) (policies-are-those-given n lent (called_is made).0 calls)

  -- no question about a container below n is then refused, what `tags_of` tells is Flows, and the ranking is written
  answered : (c : ℕ) → c < n → ((tags_of s c).refusal ≡ 0) × ((size_asked s c).refusal ≡ 0) × ((legal_of s c).refusal ≡ 0)
  answered = rw (sym same-state) (questions-are-answered n lent (called_is made).0 calls)

  pub called-every-question-is-answered : (c : ℕ) → c < n
      → ((r : Result TagSet Refusal) → TagsGave s c r → (asked_by empty_set r).refusal ≡ 0)
      × ((r : Result ℕ Refusal) → SizeGave s c r → (asked_by 0 r).refusal ≡ 0)
      × ((r : Result Bool Refusal) → LegalGave s c r → (asked_by false r).refusal ≡ 0)
  called-every-question-is-answered c l =
      let a = answered c l in (
        λ r e. ap (λ (x : Asked TagSet). x.refusal) e ∙ a.0,
        λ r e. ap (λ (x : Asked ℕ). x.refusal) e ∙ a.1,
        λ r e. ap (λ (x : Asked Bool). x.refusal) e ∙ a.2,
      )

  pub called-tags-are-flows : (c t : ℕ) → c < n → (r : Result TagSet Refusal) → TagsGave s c r
      → (has (asked_by empty_set r).value t ≡ true) ↔ Flows n (accepted n (events_of calls)) t c
  called-tags-are-flows c t l r e =
      let told : (asked_by empty_set r).value ≡ set_at s.storage.tags c =
      ap (λ (x : Asked TagSet). x.value) e ∙ tags-told s c (answered c l).0 in
      rw told (called-sets-are-flows c t l)

  pub called-no-other-container-is-told : (c : ℕ) → n ≤ c
      → ((r : Result TagSet Refusal) → TagsGave s c r → (asked_by empty_set r).refusal ≡ 4)
      × ((r : Result ℕ Refusal) → SizeGave s c r → (asked_by 0 r).refusal ≡ 4)
      × ((r : Result Bool Refusal) → LegalGave s c r → (asked_by false r).refusal ≡ 4)
  called-no-other-container-is-told c l =
      let a : ((tags_of s c).refusal ≡ 4) × ((size_asked s c).refusal ≡ 4) × ((legal_of s c).refusal ≡ 4) =
      rw (sym same-state) (others-are-no-container n lent (called_is made).0 calls c l) in (
        λ r e. ap (λ (x : Asked TagSet). x.refusal) e ∙ a.0,
        λ r e. ap (λ (x : Asked ℕ). x.refusal) e ∙ a.1,
        λ r e. ap (λ (x : Asked Bool). x.refusal) e ∙ a.2,
      )

  pub called-the-ranking-is-written : (out : List ℕ) → n ≤ length out
      → ((r : Result (Unit {0}) Refusal) → RankGave s out r → refusal_of r ≡ 0)
      × ((written : List ℕ) → RankWrote s out written → written ≡ ranking_of n s.storage.tags ++ drop n out)
  called-the-ranking-is-written out l =
      let a : (rank_of s out).refusal ≡ 0 =
      rw (sym same-state) (rank-is-answered n lent (called_is made).0 calls out l) in
      let all = ap (λ (m : ℕ). ranking_of m s.storage.tags ++ drop m out) called-follows.size in
      (λ r e. e ∙ a, λ written e. e ∙ rank-done s out a ∙ all)

  -- the next policy set is accepted exactly if the container takes it
  pub called-add-accepted-exactly-if-taken : (c : ℕ) (p : TagSet) (r : Answered) (left : Storage)
      → CallGave s (add c p) r left
      → ((answer_of r).refusal ≡ 0) ↔ (takes n c (given_to n c [] calls) c p ≡ true)
  called-add-accepted-exactly-if-taken c p r left q =
      subst (λ (o : Outcome). (o.answer.refusal ≡ 0) ↔ (takes n c (given_to n c [] calls) c p ≡ true)) (sym q)
      (subst (λ (s : State). ((outcome_of s (add c p)).answer.refusal ≡ 0) ↔ (takes n c (given_to n c [] calls) c p ≡ true)) same-state
      (add-accepted-exactly-if-taken n lent (called_is made).0 calls c p))

  -- what `is_legal` then answers
  pub called-legal-exactly-if-flows-permit : (c : ℕ) → c < n → (r : Result Bool Refusal) → LegalGave s c r
      → (asked_by false r ≡ told true)
      ↔ ((p : TagSet) × (p ∈ given_to n c [] calls) × ((t : ℕ) → Flows n (accepted n (events_of calls)) t c → has p t ≡ true))
  called-legal-exactly-if-flows-permit c l r e =
      rw e
      (subst
      (λ (s : State).
      (legal_of s c ≡ told true) ↔ ((p : TagSet) × (p ∈ given_to n c [] calls) × ((t : ℕ) → Flows n (accepted n (events_of calls)) t c → has p t ≡ true)))
      same-state (legal-exactly-if-given n lent (called_is made).0 calls c l))

  -- the next call that runs, whatever its event, is accepted exactly if the event joins
  pub called-accepted-exactly-if-it-joins : (e : Event) (r : Answered) (left : Storage) → CallGave s (ask e) r left
      → ((answer_of r).refusal ≡ 0) ↔ (joins n (accepted n (events_of calls)) e ≡ true)
  called-accepted-exactly-if-it-joins e r left q =
      subst (λ (o : Outcome). (o.answer.refusal ≡ 0) ↔ (joins n (accepted n (events_of calls)) e ≡ true)) (sym q)
      (subst (λ (s : State). ((outcome_of s (ask e)).answer.refusal ≡ 0) ↔ (joins n (accepted n (events_of calls)) e ≡ true)) same-state
      (accepted-exactly-if-it-joins n lent (called_is made).0 calls e))

  pub called-demand-3 :
      ((x : Execution (accepted n (events_of calls))) → (configuration n x ≡ configuration_of s)
      ↔ ((y : Execution (accepted n (events_of calls))) (c t : ℕ) → configuration n y c t ≡ true → configuration n x c t ≡ true))
      × ((x : Execution (accepted n (events_of calls))) × (configuration n x ≡ configuration_of s))
  called-demand-3 = rw (sym same-state) (demand-3 n lent (called_is made).0 calls)

-- THE MODEL, which mentions no tracker, is the papers' (what demands 2 and 3 rest on)

-- what joins: an enable whose ends are containers and differ, whose number is above the greatest, where fewer than 512 are enabled; a disable of a flow
-- that is enabled
pub enable-joins-exactly-if : (n : ℕ) (h : History) (f : Flow) → (joins n h (enable f) ≡ true) ↔ MayEnable n h f
enable-joins-exactly-if = enable-joins

pub disable-joins-exactly-if : (n : ℕ) (h : History) (k : ℕ) → (joins n h (disable k) ≡ true) ↔ ((f : Flow) × (f ∈ enabled h) × (f.number ≡ k))
disable-joins-exactly-if = disable-joins

-- the accepted history of one event more has it last if it joins, and is the same if it does not
pub one-more-event : (n : ℕ) (es : List Event) (e : Event) → accepted n (es ++ (e ∷ [])) ≡ joined n (accepted n es) e
one-more-event = accepted-last

pub an-event-that-joins-is-last : (n : ℕ) (h : History) (e : Event) → joins n h e ≡ true → joined n h e ≡ h ▸ e
an-event-that-joins-is-last = joins-added

pub an-event-that-does-not-changes-nothing : (n : ℕ) (h : History) (e : Event) → joins n h e ≡ false → joined n h e ≡ h
an-event-that-does-not-changes-nothing = not-joins-same

-- each event of an accepted history joined what was accepted before; and no number enabled in it is 0 or passes its greatest
pub each-event-joined : (n : ℕ) (es : List Event) → Accepted n (accepted n es)
each-event-joined = accepted-each

pub greatest-is-greatest : {n : ℕ} {h : History} → Accepted n h → (f : Flow) → Occurs (enable f) h → (1 ≤ f.number) × (f.number ≤ greatest h)
greatest-is-greatest = numbers-rise

-- a flow is enabled exactly if the history enabled it and since then no event disabled its number; (a, b) ∈ Enabled exactly if one from a to b is
pub enabled-is-standing : (f : Flow) (h : History) → (f ∈ enabled h) ↔ Standing f h
enabled-is-standing = standing

pub enabled-is-a-flow : (h : History) (a b : ℕ) → Enabled h a b ↔ ((f : Flow) × (f ∈ enabled h) × (f.from ≡ a) × (f.to ≡ b))
enabled-is-a-flow = enabled-flow

-- Enabled* is what propagation computes with, where the enabled flows have their ends below n
pub closure-is-computed : (n : ℕ) (h : History) → Within n (edges_of (enabled h)) → (a b : ℕ) → a < n → (reaches n (edges_of (enabled h)) a b ≡ true) ↔ Enabled* h a b
closure-is-computed = reaches-enabled

-- Flows is the start for the empty history, Enabled* for one event, and Flows · Enabled* for one more
pub flows-of-no-event : (n t c : ℕ) → Flows n empty t c ↔ ((t ≡ c) × (c < n))
flows-of-no-event = flows-empty

pub flows-of-one-event : (n : ℕ) (e : Event) (t c : ℕ) → Flows n (empty ▸ e) t c ↔ ((t < n) × Enabled* (empty ▸ e) t c)
flows-of-one-event = flows-one

pub flows-of-one-event-more : (n : ℕ) (h : History) (e : Event) (t c : ℕ) → Flows n (h ▸ e) t c ↔ ((a : ℕ) × Flows n h t a × Enabled* (h ▸ e) a c)
flows-of-one-event-more = flows-next

-- in an execution an event changes no set; an execution of an enabled flow adds the tags of its one end to those of its other, and nothing else
pub an-event-changes-no-set : (n : ℕ) {h : History} (x : Execution h) (e : Event) → configuration n (event x e) ≡ configuration n x
an-event-changes-no-set = event-changes-nothing

pub an-exec-adds-tags : (n : ℕ) {h : History} (x : Execution h) (f : Flow) (i : f ∈ enabled h) (c t : ℕ)
    → (configuration n (exec x f i f.from f.to (ends-edge f)) c t ≡ true) ↔ ((configuration n x c t ≡ true) ⊎ ((c ≡ f.to) × (configuration n x f.from t ≡ true)))
an-exec-adds-tags = exec-adds

-- Proposition 1 (soundness): where an execution of a history has put a tag, Flows relates the two
pub no-flow-is-missed : (n : ℕ) {h : History} (x : Execution h) (c t : ℕ) → configuration n x c t ≡ true → Flows n h t c
no-flow-is-missed = proposition-1

-- Proposition 2 (completeness): every pair of Flows is brought about by some execution
pub no-flow-is-invented : {n : ℕ} {h : History} {t c : ℕ} → Flows n h t c → (x : Execution h) × (configuration n x c t ≡ true)
no-flow-is-invented = proposition-2
