-- A segment record is allowed after a leg record of its name.
use Rattle.std.proofs.Common.{rules, refl, ap}
use Rattle.ssim_records.specs.Segment.{SegmentFields}
use Rattle.ssim_records.specs.declared.record.Record.TheVariants.{Segment}
use Rattle.ssim_base.proofs.AcceptanceLemmas.{segment-refused, stood-segment}
use Rattle.ssim_base.proofs.data_set.acceptance.Acceptance.put_segment.Goals as goal

pub returns-clause-accepts : goal.returns-clause-accepts
returns-clause-accepts c = λ earlier is.
    let self = c.args.self.now in
    stood-segment self self c.args.heading c.args.segment.now (Segment c.close.new.self)
    earlier c.requires is
    (ap (λ (r : SegmentFields). Segment r) c.close.ensures)
    c.requires refl (search rules) (search rules) (search rules) (search rules)

pub returns-then-not-has-clause-err : goal.returns-then-not-has-clause-err
returns-then-not-has-clause-err c = λ earlier is.
    (refl, segment-refused c.args.self.now c.args.heading c.args.segment.now earlier c.requires is (search rules) (search rules) (search rules) (search rules))
