-- The contracts of the public calls are what the claims on running calls take for them. `clauses` is the contract of
-- a function, as the kit makes it of the lines `requires` and `ensures` in its source and as the prover proves the
-- function to meet it. Each entry says that it requires nothing, and ensures these facts and no others, in the words
-- of Running.antt. A call more adds an entry. Assumes nothing; every proof is `refl`.
use Rattle.std.specs.Prelude.{◌≡◌, List, ℕ}
use Rattle.std.proofs.Math.Path.{refl}
use seplogic.Ra.Ura.{Ura}
use base.Logic.{SProp, sep, emp}
use prog.Memory.{Memory}
use prog.Routine.{Routine}
use types.Logic.{Logic}
use contract.Monad.{Fun, fact}
use contract.Lifetimes.{Lfts}
use denote.Triple.Entry.{Args, Res}
use denote.Triple.Clauses.{Ended, AtExit, Clauses}
use Rattle.leb128.specs.Answer.{writing_of}
use Rattle.model.specs.declared.Flow.{Flow}
use Rattle.model.specs.Model.{enable, disable}
use Rattle.state.specs.declared.Header.{Header}
use Rattle.state.specs.State.{Storage, State, storage_of, state_of, state_in}
use Rattle.outcome.specs.Outcome.{ask, add, outcome_of}
use Rattle.tallytext.specs.Text.{new_storage, tally_of}
use Rattle.claims.specs.Running.{StartGave, CallGave, TagsGave, SizeGave, LegalGave, RankGave, RankWrote, ReplayGave, with_new_table, TallyAnswered, TallyWrote, TallyLeft}
use Rattle.calls.specs.contracts.start as start-it
use Rattle.calls.specs.contracts.enable as enable-it
use Rattle.calls.specs.contracts.disable as disable-it
use Rattle.calls.specs.contracts.add_policy as add-it
use Rattle.question.specs.contracts.tags_of as tags-it
use Rattle.question.specs.contracts.size_of as size-it
use Rattle.question.specs.contracts.is_legal as legal-it
use Rattle.ranking.specs.contracts.rank as rank-it
use Rattle.replay.specs.contracts.replay as replay-it
use Rattle.report.specs.contracts.tally as tally-it
use Rattle.report.specs.contracts.text as text-it

-- the lent lists, and the state of a header and these
abbrev pub lists : List ℕ → List ℕ → List ℕ → List Flow → Storage
lists tags policies counts flows = storage_of tags policies counts flows

abbrev pub given : Header → List ℕ → List ℕ → List ℕ → List Flow → State
given header tags policies counts flows = state_of header tags policies counts flows

-- a contract that requires nothing and ensures what `says` says: of the arguments in their order, of the result, and of
-- the arguments at exit
abbrev pub Ensures : {M : Type 1} (𝓤 : Ura M) (T : Ended)
    → ((κs : Lfts T.signature.lifetimes) → Args T.signature κs → Res T.signature κs → AtExit T κs → SProp 𝓤)
    → Clauses 𝓤 T
Ensures 𝓤 T says κs a = record { ghost = Unit; requires = λ g. emp 𝓤; ensures = λ g r e. says κs a r e }

-- The parameters are the kit's: a contract speaks of some model of memory and of the functions that it calls, and
-- here that may be any. An argument at exit is named with a '. A list that is lent to be read alone is at exit as it
-- was, so its name has none
module _ {M : Type 1} {𝓤 : Ura M} (𝓛 : Logic 𝓤) (mem : Memory → SProp 𝓤) (run : Routine → Fun 𝓤) where
  pub start-contract : start-it.clauses 𝓛 mem run ≡ Ensures 𝓤 start-it.ended
      (λ κs (n, (tags, (policies, (counts, (flows, _))))) r (_, (tags', (policies', (counts', (flows', _))))).
      fact 𝓤 (StartGave n (lists tags.now policies.now counts.now flows.now) r (lists tags'.now policies'.now counts'.now flows'.now)))
  start-contract = refl

  pub enable-contract : enable-it.clauses 𝓛 mem run ≡ Ensures 𝓤 enable-it.ended
      (λ κs (header, (tags, (policies, (counts, (flows, (flow, _)))))) r (_, (tags', (_, (_, (flows', _))))).
      fact 𝓤 (CallGave (given header tags.now policies.now counts.now flows.now) (ask (enable flow))
      r (lists tags'.now policies.now counts.now flows'.now)))
  unfolding outcome_of
  enable-contract = refl

  pub disable-contract : disable-it.clauses 𝓛 mem run ≡ Ensures 𝓤 disable-it.ended
      (λ κs (header, (tags, (policies, (counts, (flows, (number, _)))))) r (_, (_, (_, (_, (flows', _))))).
      fact 𝓤 (CallGave (given header tags.now policies.now counts.now flows.now) (ask (disable number))
      r (lists tags.now policies.now counts.now flows'.now)))
  unfolding outcome_of
  disable-contract = refl

  pub add-policy-contract : add-it.clauses 𝓛 mem run ≡ Ensures 𝓤 add-it.ended
      (λ κs (header, (tags, (policies, (counts, (flows, (c, (policy, _))))))) r (_, (_, (policies', (counts', _)))).
      fact 𝓤 (CallGave (given header tags.now policies.now counts.now flows.now) (add c policy)
      r (lists tags.now policies'.now counts'.now flows.now)))
  unfolding outcome_of
  add-policy-contract = refl

  pub tags-of-contract : tags-it.clauses 𝓛 mem run ≡ Ensures 𝓤 tags-it.ended
      (λ κs (t, (c, _)) r e. fact 𝓤 (TagsGave (state_in t.now) c r))
  tags-of-contract = refl

  pub size-of-contract : size-it.clauses 𝓛 mem run ≡ Ensures 𝓤 size-it.ended
      (λ κs (t, (c, _)) r e. fact 𝓤 (SizeGave (state_in t.now) c r))
  size-of-contract = refl

  pub is-legal-contract : legal-it.clauses 𝓛 mem run ≡ Ensures 𝓤 legal-it.ended
      (λ κs (t, (c, _)) r e. fact 𝓤 (LegalGave (state_in t.now) c r))
  is-legal-contract = refl

  pub rank-contract : rank-it.clauses 𝓛 mem run ≡ Ensures 𝓤 rank-it.ended
      (λ κs (t, (out, _)) r (_, (out', _)).
      sep 𝓤 (fact 𝓤 (RankGave (state_in t.now) out.now r)) (fact 𝓤 (RankWrote (state_in t.now) out.now out'.now)))
  rank-contract = refl

  pub replay-contract : replay-it.clauses 𝓛 mem run ≡ Ensures 𝓤 replay-it.ended
      (λ κs (bytes, (tags, (policies, (counts, (flows, _))))) r (_, (tags', (policies', (counts', (flows', _))))).
      fact 𝓤 (ReplayGave bytes.now (lists tags.now policies.now counts.now flows.now) r (lists tags'.now policies'.now counts'.now flows'.now)))
  replay-contract = refl

  pub tally-contract : tally-it.clauses 𝓛 mem run ≡ Ensures 𝓤 tally-it.ended
      (λ κs (bytes, (tags, (policies, (counts, (out, _))))) r (_, (tags', (policies', (counts', (out', _))))).
      let lent = with_new_table tags.now policies.now counts.now in
      sep 𝓤 (fact 𝓤 (TallyAnswered bytes.now lent out.now r))
      (sep 𝓤 (fact 𝓤 (TallyWrote bytes.now lent out.now out'.now))
      (fact 𝓤 (TallyLeft bytes.now lent r tags'.now policies'.now counts'.now))))
  tally-contract = refl

  pub text-contract : text-it.clauses 𝓛 mem run ≡ Ensures 𝓤 text-it.ended
      (λ κs (bytes, (out, _)) r (_, (out', _)).
      sep 𝓤 (fact 𝓤 (writing_of r ≡ (tally_of bytes.now new_storage out.now).answer))
      (fact 𝓤 (TallyWrote bytes.now new_storage out.now out'.now)))
  text-contract = refl
