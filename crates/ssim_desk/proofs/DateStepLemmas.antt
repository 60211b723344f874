-- The legs after all steps of a flight's date are what the messages leave.
use Rattle.std.proofs.Common.{◌≡◌, ℕ, ◌+◌, Bool, true, false, if◌then◌else◌, List, [], ◌∷◌, ◌++◌, refl, sym, ap, ◌∙◌}
use Rattle.ssim_base.specs.Stations.{Row}
use Rattle.ssim_base.specs.Timetable.{Legs}
use Rattle.ssim_base.specs.declared.sub_message.ResolvedSub.{ResolvedSub}
use Rattle.ssim_text.specs.declared.action.Sub.{Sub}
use Rattle.ssim_text.specs.declared.reference.Reference.{Reference}
use Rattle.ssim_values.specs.Flight.{FlightNumber}
use Rattle.ssim_held.specs.Entries.{Entry}
use Rattle.ssim_desk.specs.DateSteps.{entry_steps, is_on, legs_left, step_of, sub_steps}
use Rattle.ssim_desk.specs.Meaning.{Timetable, after_entries, after_entry, after_one, after_subs}
use Rattle.ssim_desk.specs.declared.date_step.DateStep.{DateStep}

left-append : (legs : Legs) (a b : List DateStep) → legs_left legs (a ++ b) ≡ legs_left (legs_left legs a) b
left-append legs [] b = refl
left-append legs (step ∷ a) b = left-append step.itinerary a b

subs-left : (rows : List Row) (flight : FlightNumber) (day : ℕ) (r : Reference) (n : ℕ) (subs : List Sub) (dates : List ResolvedSub) (before : Timetable) → legs_left (before flight day) (sub_steps rows flight day r n subs dates (before flight day)) ≡ after_subs rows subs dates before flight day
subs-left rows flight day r n [] dates before = refl
subs-left rows flight day r n (sub ∷ subs) [] before = refl
subs-left rows flight day r n (sub ∷ subs) (dated ∷ dates) before =
    by (is_on flight day dated) refl (subs-left rows flight day r (n + 1) subs dates (after_one rows sub.action dated before))
  where
    old : Legs
    old = before flight day

    rest : Legs → List DateStep
    rest legs = sub_steps rows flight day r (n + 1) subs dates legs

    next : Timetable
    next = after_one rows sub.action dated before

    by : (b : Bool) → is_on flight day dated ≡ b → legs_left (next flight day) (rest (next flight day)) ≡ after_subs rows subs dates next flight day
        → legs_left old (if b then step_of rows day r n sub old ∷ rest (step_of rows day r n sub old).itinerary else rest old) ≡ after_subs rows subs dates next flight day
    by true on h = ap (λ (legs : Legs). legs_left legs (rest legs)) (sym (ap (λ b. if b then (step_of rows day r n sub old).itinerary else old) on)) ∙ h
    by false off h = ap (λ (legs : Legs). legs_left legs (rest legs)) (sym (ap (λ b. if b then (step_of rows day r n sub old).itinerary else old) off)) ∙ h

-- from any timetable
pub entries-left : (rows : List Row) (flight : FlightNumber) (day : ℕ) (entries : List Entry) (before : Timetable) → legs_left (before flight day) (entry_steps rows flight day entries (before flight day)) ≡ after_entries rows entries before flight day
entries-left rows flight day [] before = refl
entries-left rows flight day (e ∷ entries) before =
    let steps = sub_steps rows flight day e.reference 1 e.message.subs e.dates (before flight day) in
    let mine : legs_left (before flight day) steps ≡ after_entry rows e before flight day = subs-left rows flight day e.reference 1 e.message.subs e.dates before in
    left-append (before flight day) steps (entry_steps rows flight day entries (legs_left (before flight day) steps))
    ∙ ap (λ (legs : Legs). legs_left legs (entry_steps rows flight day entries legs)) mine
    ∙ entries-left rows flight day entries (after_entry rows e before)
