-- Small examples of makers, checked by computation.
use Rattle.std.specs.Prelude.{◌≡◌, ℕ, [], ◌∷◌, refl}
use Rattle.ssim_base.specs.Timetable.{LegValue}
use Rattle.ssim_text.specs.declared.kind.ActionIdentifier.{ActionIdentifier}
use Rattle.ssim_text.specs.declared.kind.ActionIdentifier.TheVariants.{New, Cnl}
use Rattle.ssim_text.specs.declared.kind.Kind.TheVariants.{Ssm}
use Rattle.ssim_text.specs.declared.reference.Reference.{Reference}
use Rattle.ssim_schedule.specs.declared.finding.Reason.{Reason}
use Rattle.ssim_schedule.specs.declared.finding.Reason.TheVariants.{Acted, Present}
use Rattle.ssim_desk.specs.declared.date_step.DateStep.{DateStep}
use Rattle.ssim_blame.specs.Makers.{data_set_maker, last_acted}
use Rattle.ssim_blame.specs.declared.maker.Maker.TheVariants.{Nobody, DataSet, Sub}

-- the message with this number
abbrev message : ℕ → Reference
message serial = record { date = 0; group = 1; serial = serial; kind = Ssm; originator = [] }

-- what a sub-message with this action found
abbrev step : ℕ → ActionIdentifier → Reason → DateStep
step serial action reason = record {
  reference = message serial;
  sub = 1;
  action = action;
  reason = reason;
  itinerary = [];
}

abbrev leg : LegValue
leg = record { sequence = 1; columns = []; tails = [] }

-- a date that was cancelled, put back, and found present by a third message: the second made it
put_back : last_acted (data_set_maker (leg ∷ []))
    (step 1 Cnl Acted ∷ step 2 New Acted ∷ step 3 New Present ∷ [])
    ≡ Sub (record { reference = message 2; sub = 1; action = New })
put_back = refl

-- a message that did not act makes nothing
not_acted : last_acted (data_set_maker (leg ∷ [])) (step 1 New Present ∷ []) ≡ DataSet
not_acted = refl

no_flight : last_acted (data_set_maker []) [] ≡ Nobody
no_flight = refl
