-- One part more.
use Rattle.std.proofs.Common.{◌≡◌, ◌∙◌, ℕ, ap, sym, subst, arith}
use Rattle.ssim_periods.proofs.DayLemmas.{each_day-same}
use Rattle.ssim_base.specs.Timetable.{Legs}
use Rattle.ssim_difference.specs.Differences.{DifferencePiece}
use Rattle.ssim_outbox.specs.Reason.{reason_words}
use Rattle.ssim_outbox.specs.internal.ReasonPieces.{HaveOneVariation, reason_put}
use Rattle.ssim_outbox.proofs.Divided.{all_put, days_put, none_put, put_before}
use Rattle.ssim_outbox.proofs.reason_pieces.put_reasons.Goals as goal

pub loop-first-init : goal.loop-first-init
loop-first-init c =
    let rows = c.args.rows.now in
    let piece : DifferencePiece = (c.args.period.now, c.args.difference.now) in
    let begin : c.number-first.result ≡ c.args.period.now.first =
    c.number-first.ensures.value ∙ c.first.ensures.value in
    record {
      from = omega arith;
      to = omega arith;
      put = λ before is. is
          ∙ each_day-same before (put_before rows piece before c.number-first.result)
          (λ n within. none_put rows piece before n
          ∙ ap (λ (first : ℕ). put_before rows piece before first n) (sym begin));
    }

pub loop-first-preserved-in_ok-replace : goal.loop-first-preserved-in_ok-replace
loop-first-preserved-in_ok-replace c =
    let rows = c.args.rows.now in let d = c.args.difference.now in
    let piece : DifferencePiece = (c.args.period.now, d) in
    let l = c.loop-first in
    let next = c.next_cut-next.result in let part = c.part_of-part.result in
    record {
      from = omega arith;
      to = omega arith;
      put = λ before is.
          days_put rows piece before l.first next part c.part_of-part.ensures l.invariant.from
          c.next_cut-next.ensures.from (omega arith)
          (subst (λ (legs : Legs). HaveOneVariation rows legs l.first next) c.legs.ensures c.next_cut-next.ensures.one)
          l.reasons.days c.replace.new.self.days c.in_ok-reason.reason (l.invariant.put before is)
          (c.in_ok-reason.ensures ∙ ap (λ (day : ℕ). reason_words rows day d.old d.new) c.first-in-loop-first.ensures.value)
          c.in_ok-replace.ensures.days;
    }

pub returns : goal.returns
returns c = λ before is.
    let rows = c.args.rows.now in
    let piece : DifferencePiece = (c.args.period.now, c.args.difference.now) in
    let l = c.loop-first in
    l.invariant.put before is
    ∙ each_day-same (put_before rows piece before l.first) (reason_put rows piece before)
    (λ n within. all_put rows piece before l.first n (omega arith))
