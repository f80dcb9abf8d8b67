-- The byte is stored if there is a place for it, and the position goes on in any case. Assumes nothing.
use Rattle.std.proofs.Common.{refl}
use Rattle.report.specs.Put.{put-place, put-no-place}
use Rattle.report.proofs.Sheet.byte.Goals as goal
use Rattle.report.proofs.Sheet.byte.Goals.{then-self, else-self}

pub returns : goal.returns
returns c =
    let s = c.args.self.now in
    elim c.if-self.branch [
      | then-self w ↦
          rw w.self-is (record { same_output = refl; put = put-place s.out.now s.at c.args.b w.if-self.true })
      | else-self w ↦
          rw w.self-is (record { same_output = refl; put = put-no-place s.out.now s.at c.args.b w.if-self.false })
    ]
