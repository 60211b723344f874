-- A record of each type, one before those that were built.
use Rattle.ssim_schedule.proofs.TimetableBuilderLemmas.{built-leg, built-plain, built-segment}
use Rattle.ssim_base.proofs.Results.{on_ok}
use Rattle.ssim_schedule.proofs.builder.timetable_builder.TimetableBuilder.put.Goals as goal

pub returns-in-Leg : goal.returns-in-Leg
returns-in-Leg c =
    on_ok c.put_leg.result (λ takes wanted done built. rw c.in-Leg.is (built-leg wanted c.args.self.now c.put_leg.new.self c.in-Leg.leg done takes built)) c.put_leg.ensures

pub returns-in-Segment : goal.returns-in-Segment
returns-in-Segment c =
    on_ok c.put_segment.result (λ takes wanted done built. rw c.in-Segment.is (built-segment wanted c.args.self.now c.put_segment.new.self c.in-Segment.segment done takes built)) c.put_segment.ensures

pub returns-in-Header : goal.returns-in-Header
returns-in-Header c = λ wanted done built. built-plain wanted c.args.self.now c.args.one.now done c.in-Header.is built

pub returns-in-Header-2 : goal.returns-in-Header-2
returns-in-Header-2 c = λ wanted done built. built-plain wanted c.args.self.now c.args.one.now done c.in-Header.is built

pub returns-in-Header-3 : goal.returns-in-Header-3
returns-in-Header-3 c = λ wanted done built. built-plain wanted c.args.self.now c.args.one.now done c.in-Header.is built
