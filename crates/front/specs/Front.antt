-- A state, an outcome and a replay with the first 512 records of the flow table, and with others behind them. That
-- every outcome goes by the first and leaves the others, whatever the lengths: proofs/Front.antt. Assumes nothing.
use Rattle.std.specs.Prelude.{List, ◌++◌, take}
use Rattle.model.specs.declared.Flow.{Flow}
use Rattle.state.specs.State.{Storage, State, storage_of}
use Rattle.outcome.specs.Outcome.{Outcome}
use Rattle.replay.specs.Replay.{Replay}

-- THE TABLE IN TWO PARTS

-- a storage, and a state, with this table
abbrev pub lent_table : Storage → List Flow → Storage
lent_table lent table = storage_of lent.tags lent.policies lent.policy_counts table

abbrev pub with_table : State → List Flow → State
with_table s table = record { header = s.header; storage = lent_table s.storage table }

-- with the first 512 records of the table alone
abbrev pub lent_front : Storage → Storage
lent_front lent = lent_table lent (take 512 lent.flows)

abbrev pub front_of : State → State
front_of s = with_table s (take 512 s.storage.flows)

-- with these records behind the table; the same for the state of an outcome, and of a replay
abbrev pub beyond : List Flow → State → State
beyond more s = with_table s (s.storage.flows ++ more)

abbrev pub outcome_beyond : List Flow → Outcome → Outcome
outcome_beyond more o = record { answer = o.answer; state = beyond more o.state }

abbrev pub replay_beyond : List Flow → Replay → Replay
replay_beyond more r = record { refusal = r.refusal; byte = r.byte; events = r.events; gain = r.gain; state = beyond more r.state }
