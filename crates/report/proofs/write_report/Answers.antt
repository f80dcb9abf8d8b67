-- The order is the ranking, so what is put is the report; its length decides. Assumes nothing.
use Rattle.std.proofs.Common.{rules, ◌≡◌, refl, ◌∙◌, List, ◌++◌, ℕ, ◌≤◌, arith, length, take}
use Rattle.leb128.specs.Answer.{wrote}
use Rattle.leb128.specs.Number.{write_at}
use Rattle.leb128.specs.Output.{short-outcome}
use Rattle.ranking.specs.Ranking.{ranking_of}
use Rattle.ranking.specs.Laws.{ranking-length}
use Rattle.tallytext.specs.Text.{lines_of, report_of}
use Rattle.tallytext.specs.Replies.{last_line_in, report_in}
use Rattle.tallytext.proofs.Pieces.{order-first, ranking-below}
use Rattle.report.specs.declared.Sheet.{Sheet}
use Rattle.report.specs.Put.{put-fits}
use Rattle.report.specs.Sheet.{Puts, Listed}
use Rattle.report.proofs.write_report.Goals as goal
use Rattle.report.proofs.write_report.Goals.{After-rank_sets}

-- where the containers are ranked
module _ (c : After-rank_sets) where
  abbrev n : ℕ
  n = c.args.run.now.header.containers

  abbrev tags : List ℕ
  tags = c.args.tags.now

  -- the order in which the containers are put, and the report
  abbrev order : List ℕ
  order = take n c.rank_sets.new.out

  abbrev text : List ℕ
  text = report_in c.args.run.now tags

  -- it is their ranking
  ranked : order ≡ ranking_of n tags
  ranked = order-first n tags _ c.requires.0 c.requires.1 c.requires.0 c.rank_sets.ensures

  -- so the words have the set of each
  listed : Listed tags order
  listed =
      let l = ranking-length n tags in
      rw ranked (
        omega (arith, l, c.requires.0),
        λ k i.
            let b = ranking-below n tags k (omega (arith, i, l)) in
            (omega (arith, b, c.requires.0), omega (arith, b, c.requires.1)),
      )

  module _ {s t : Sheet} (p : Puts s (lines_of order tags ++ last_line_in c.args.run.now) t) (z : s.at ≡ 0) where
    -- what is put is the report
    report : Puts s text t
    unfolding report_of
    report = rw ranked at p

    -- as long as it is
    long : t.at ≡ length text
    long = omega (arith, report.put.after, z)

    -- where it fits, it is written
    fits : t.at ≤ length s.out.now
        → (wrote t.at ≡ (write_at s.out.now 0 text).answer) × (t.out.now ≡ (write_at s.out.now 0 text).output)
    fits h = put-fits (rw z at report.put) h

pub report-requires : goal.report-requires
report-requires c = (omega arith, listed (goal.at.report-requires c).After-rank_sets)

pub returns-then-out-measure-clause-answer : goal.returns-then-out-measure-clause-answer
returns-then-out-measure-clause-answer c =
    let x = (goal.at.returns-then-out-measure-clause-answer c).After-rank_sets in
    let l = long x c.report.ensures refl in
    (short-outcome c.args.out.now 0 (text x) (omega (arith, l, c.if-out-measure.true))).0

pub returns-then-out-measure-clause-output : goal.returns-then-out-measure-clause-output
returns-then-out-measure-clause-output c =
    let x = (goal.at.returns-then-out-measure-clause-output c).After-rank_sets in
    let l = long x c.report.ensures refl in
    (short-outcome c.args.out.now 0 (text x) (omega (arith, l, c.if-out-measure.true))).1

pub report-requires-2 : goal.report-requires-2
report-requires-2 c = (omega arith, listed (goal.at.report-requires-2 c).After-rank_sets)

pub returns-clause-answer : goal.returns-clause-answer
returns-clause-answer c =
    let x = (goal.at.returns-clause-answer c).After-rank_sets in
    let same = long x c.report.ensures refl in
    (fits x c.report-2.ensures refl (omega (arith, same, long x c.report-2.ensures refl, c.if-out-measure.false))).0

pub returns-clause-output : goal.returns-clause-output
returns-clause-output c =
    let x = (goal.at.returns-clause-output c).After-rank_sets in
    let same = long x c.report.ensures refl in
    search (rules, c.report-2.ensures.same_output)
    ∙ (fits x c.report-2.ensures refl (omega (arith, same, long x c.report-2.ensures refl, c.if-out-measure.false))).1
