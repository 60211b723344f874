-- The leg joins the pending legs, with its pending tails.
use Rattle.std.proofs.Common.{◌≡◌, ◌⊎◌, Some, nat_eq, if◌then◌else◌, [], refl, ap, subst, ◌∙◌}
use Rattle.ssim_values.specs.Flight.{FlightNumber}
use Rattle.ssim_records.specs.Leg.{Name}
use Rattle.ssim_periods.specs.Calendar.{holds}
use Rattle.ssim_periods.specs.Days.{changed_on}
use Rattle.ssim_schedule.specs.internal.LegKey.{IsPlaced, name_place}
use Rattle.ssim_schedule.specs.internal.TimetableBuilder.{IsCut, OpensGroup, days_with}
use Rattle.ssim_schedule.specs.internal.LegGroup.{IsBound}
use Rattle.ssim_base.specs.ReadBack.{place_of}
use Rattle.ssim_base.specs.Timetable.{LegValue, placed}
use Rattle.ssim_schedule.specs.internal.PendingSegments.{waiting_at}
use Rattle.ssim_schedule.specs.declared.builder.timetable_builder.TimetableBuilder.{TimetableBuilder}
use Rattle.ssim_schedule.specs.declared.builder.leg_group.Heading.{Heading}
use Rattle.ssim_schedule.specs.declared.builder.pending_segments.PendingSegments.{PendingSegments}
use Rattle.ssim_schedule.proofs.TimetableBuilderLemmas.{joined_cuts, joined_days}
use Rattle.ssim_base.proofs.Results.{on_ok}
use Rattle.ssim_schedule.proofs.builder.timetable_builder.TimetableBuilder.put_on.Goals as goal

pub returns : goal.returns
returns c =
    let r = c.args.leg.now in
    let old : TimetableBuilder = c.args.self.now in
    let opened : TimetableBuilder = c.open_group.new.self in
    let new : TimetableBuilder = record { table = opened.table; group = c.add.new.self; waiting = c.take.new.self; wanted = opened.wanted; alloc = opened.alloc } in
    let name : c.name-name.result ≡ r.name = c.name-name.ensures in
    let flight : c.flight.result ≡ r.name.flight = c.flight.ensures ∙ ap (λ (n : Name). n.flight) name in
    let period = c.args.period in
    let given : Heading = record { flight = c.flight.result; period = period } in
    let heading : given ≡ record { flight = r.name.flight; period = period } = ap (λ (f : FlightNumber). record { flight = f; period = period }) flight in
    let l : LegValue = record { sequence = r.name.sequence; columns = r.columns; tails = c.in_ok-tails.tails.items } in
    let sequence : c.sequence.result ≡ l.sequence =
    c.sequence.ensures.value ∙ ap (λ (n : Name). n.sequence) name in
    let opens : OpensGroup old opened given l.sequence =
    subst (OpensGroup old opened given) sequence c.in_ok-open_group.ensures in
    let its : LegValue = record { sequence = r.name.sequence; columns = r.columns; tails = waiting_at old.waiting (name_place r.name) } in
    let leg : l ≡ its =
    ap (λ ts. record { sequence = r.name.sequence; columns = r.columns; tails = ts })
    (c.in_ok-tails.ensures.tails ∙ ap (λ (w : PendingSegments). waiting_at w (name_place c.name-name.result)) opens.waiting ∙ ap (λ (n : Name). waiting_at old.waiting (name_place n)) name) in
    on_ok c.add.result (λ added. record {
      named = subst (λ (n : Name). IsPlaced n) name c.in_ok-tails.ensures.named;
      wanted = opens.wanted;
      days = λ g.
          joined_days old opened new given l opens refl added g
          ∙ ap (λ (h : Heading). if nat_eq (place_of h.flight) (place_of g) then changed_on (holds h.period) (placed l) 0 (days_with old g) else days_with old g) heading
          ∙ ap (λ (m : LegValue). if nat_eq (place_of r.name.flight) (place_of g) then changed_on (holds period) (placed m) 0 (days_with old g) else days_with old g) leg;
      tails = λ place.
          c.in_ok-tails.ensures.others place
          ∙ ap (λ (n : Name). if nat_eq place (name_place n) then [] else waiting_at opened.waiting place) name
          ∙ ap (λ (w : PendingSegments). if nat_eq place (name_place r.name) then [] else waiting_at w place) opens.waiting;
      cuts = λ g cut has.
          subst (λ (h : Heading). IsCut old g cut ⊎ IsBound (Some h) g cut) heading
          (joined_cuts old opened new given l opens refl added g cut has);
    }) c.add.ensures
