-- After each sub-message a flight flies exactly if its maker did not cancel it: one that did not act
-- changes neither, and one that acted leaves legs unless it is a cancellation.
use Rattle.std.proofs.Common.{◌≡◌, ◌∙◌, ℕ, ◌+◌, Bool, true, false, ◌&&◌, if◌then◌else◌, List, [], ◌∷◌}
use Rattle.std.proofs.Common.{length, nat_lt, Option, Some, None, refl, sym, ap, subst}
use Rattle.std.specs.List.{list_all}
use Rattle.ssim_base.specs.Stations.{Row}
use Rattle.ssim_base.specs.Timetable.{LegValue, Legs, itinerary}
use Rattle.ssim_base.specs.declared.sub_message.ResolvedSub.{ResolvedSub}
use Rattle.ssim_held.specs.Entries.{Entry}
use Rattle.ssim_text.specs.Grammar.{identifier_of}
use Rattle.ssim_text.specs.declared.action.Action.{Action}
use Rattle.ssim_text.specs.declared.action.Action.TheVariants.{New, Cnl, Rpl, Eqt, Tim}
use Rattle.ssim_text.specs.declared.action.NewLegs.{NewLegs}
use Rattle.ssim_text.specs.declared.action.Sub.{Sub as SubValue}
use Rattle.ssim_text.specs.declared.kind.ActionIdentifier.{ActionIdentifier}
use Rattle.ssim_text.specs.declared.leg.LegLine.{LegLine}
use Rattle.ssim_text.specs.declared.reference.Reference.{Reference}
use Rattle.ssim_values.specs.Flight.{FlightNumber}
use Rattle.ssim_schedule.specs.Effect.{Outcome, Variations, act_or, fits, have_legs, joined, leg_at}
use Rattle.ssim_schedule.specs.Effect.{legs_from, new_legs, outcome, retimed, variation_on, with_line}
use Rattle.ssim_schedule.specs.Effect.{with_lines}
use Rattle.ssim_schedule.specs.declared.finding.Reason.{Reason}
use Rattle.ssim_schedule.specs.declared.finding.Reason.TheVariants as reason
use Rattle.ssim_desk.specs.DateSteps.{entry_steps, is_on, legs_left, step_of, sub_steps}
use Rattle.ssim_desk.specs.declared.date_step.DateStep.{DateStep}
use Rattle.ssim_desk.proofs.DateStepLemmas.{entries-left}
use Rattle.ssim_blame.specs.Makers.{FliesUnlessCancelled, data_set_maker, flies, flies_by, has_lines}
use Rattle.ssim_blame.specs.Makers.{is_acted, keeps_flying, last_acted}
use Rattle.ssim_blame.specs.declared.made.MadeItinerary.{MadeItinerary}
use Rattle.ssim_blame.specs.declared.maker.Maker.{Maker}
use Rattle.ssim_blame.specs.declared.maker.Maker.TheVariants.{Sub}
use Rattle.ssim_blame.specs.declared.maker.SubName.{SubName}
use Rattle.ssim_blame.specs.internal.Made.{acted, after_steps, from_data_set, made}
use Rattle.ssim_blame.proofs.Acted.{steps_leave, steps_more}

-- a date flies exactly if its maker did not cancel it
abbrev Agrees : MadeItinerary → Type 0
Agrees date = flies date.itinerary ≡ flies_by date.maker

-- ---- new legs

some_of : (legs : Legs) (other : Legs) → Some legs ≡ Some other → legs ≡ other
some_of legs other e = cc

joined_some : (leg : Option LegValue) (later : Option Legs) (legs : Legs)
    → joined leg later ≡ Some legs → flies legs ≡ true
joined_some None later legs e = absurd cc
joined_some (Some leg) None legs e = absurd cc
joined_some (Some leg) (Some later) legs e = ap flies (sym (some_of (leg ∷ later) legs e))

lines_some : (v : Variations) (new : NewLegs) (lines : List LegLine) (legs : Legs)
    → nat_lt 0 (length lines) ≡ true → legs_from v new 0 lines ≡ Some legs → flies legs ≡ true
lines_some v new [] legs some e = absurd cc
lines_some v new (line ∷ lines) legs some e =
    joined_some (leg_at (v line.departure.station) (v line.arrival.station) 0 line new)
    (legs_from v new 1 lines) legs e

-- new legs, or the old ones
act_agrees : (why : Reason) (old : Legs) (maker : Maker) (name : SubName) (new : Option Legs)
    → is_acted why ≡ false → flies_by (Sub name) ≡ true
    → ((legs : Legs) → new ≡ Some legs → flies legs ≡ true) → flies old ≡ flies_by maker
    → let found = act_or why old new in
    flies found.0 ≡ flies_by (if is_acted found.1 then Sub name else maker)
act_agrees why old maker name None not_acted flown some agrees =
    agrees ∙ sym (ap (λ (b : Bool). flies_by (if b then Sub name else maker)) not_acted)
act_agrees why old maker name (Some legs) not_acted flown some agrees =
    some legs refl ∙ sym flown

-- ---- legs with other times

line_flies : (line : LegLine) (legs : Legs) → flies (with_line line legs) ≡ flies legs
line_flies line [] = refl
line_flies line (leg ∷ legs) = by (fits line leg)
  where
    by : (b : Bool)
        → flies (if b then retimed line leg ∷ legs else leg ∷ with_line line legs) ≡ true
    by true = refl
    by false = refl

lines_fly : (lines : List LegLine) (legs : Legs) → flies (with_lines lines legs) ≡ flies legs
lines_fly [] legs = refl
lines_fly (line ∷ lines) legs = lines_fly lines (with_line line legs) ∙ line_flies line legs

-- ---- a sub-message

abbrev after_outcome : SubName → Maker → Outcome → Type 0
after_outcome name maker found =
    flies found.0 ≡ flies_by (if is_acted found.1 then Sub name else maker)

outcome_agrees : (v : Variations) (action : Action) (name : SubName) (old : Legs) (maker : Maker)
    → name.action ≡ identifier_of action → has_lines action ≡ true → flies old ≡ flies_by maker
    → after_outcome name maker (outcome v action old)
outcome_agrees v (New new) name [] maker is some agrees =
    act_agrees reason.Station [] maker name (new_legs v new) refl
    (ap (λ (a : ActionIdentifier). keeps_flying a) is)
    (λ legs e. lines_some v new new.legs legs some e) agrees
outcome_agrees v (New new) name (leg ∷ legs) maker is some agrees = agrees
outcome_agrees v Cnl name [] maker is some agrees = agrees
outcome_agrees v Cnl name (leg ∷ legs) maker is some agrees =
    sym (ap (λ (a : ActionIdentifier). keeps_flying a) is)
outcome_agrees v (Rpl new) name [] maker is some agrees = agrees
outcome_agrees v (Rpl new) name (leg ∷ legs) maker is some agrees =
    act_agrees reason.Station (leg ∷ legs) maker name (new_legs v new) refl
    (ap (λ (a : ActionIdentifier). keeps_flying a) is)
    (λ legs e. lines_some v new new.legs legs some e) agrees
outcome_agrees v (Eqt equipment) name [] maker is some agrees = agrees
outcome_agrees v (Eqt equipment) name (leg ∷ legs) maker is some agrees =
    sym (ap (λ (a : ActionIdentifier). keeps_flying a) is)
outcome_agrees v (Tim lines) name [] maker is some agrees = agrees
outcome_agrees v (Tim lines) name (leg ∷ legs) maker is some agrees =
    by (have_legs (leg ∷ legs) lines)
  where
    by : (b : Bool) → after_outcome name maker
        (if b then (with_lines lines (leg ∷ legs), reason.Acted) else (leg ∷ legs, reason.Leg))
    by true = lines_fly lines (leg ∷ legs) ∙ sym (ap (λ (a : ActionIdentifier). keeps_flying a) is)
    by false = agrees

-- ---- steps

and_both : (a b : Bool) → (a && b) ≡ true → (a ≡ true) × (b ≡ true)
and_both true b h = (refl, h)
and_both false b h = absurd cc

abbrev have_lines : List SubValue → Bool
have_lines = list_all (λ sub. has_lines sub.action)

module _ (rows : List Row) (flight : FlightNumber) (day : ℕ) where
  subs_agree : (r : Reference) (n : ℕ) (subs : List SubValue) (dates : List ResolvedSub)
      (before : MadeItinerary) → have_lines subs ≡ true → Agrees before
      → Agrees (after_steps before (sub_steps rows flight day r n subs dates before.itinerary))
  subs_agree r n [] dates before some agrees = agrees
  subs_agree r n (sub ∷ subs) [] before some agrees = agrees
  subs_agree r n (sub ∷ subs) (dated ∷ dates) before some agrees =
      by (is_on flight day dated)
      (λ date agreed. subs_agree r (n + 1) subs dates date both.1 agreed)
    where
      both : (has_lines sub.action ≡ true) × (have_lines subs ≡ true)
      both = and_both (has_lines sub.action) (have_lines subs) some

      step : DateStep
      step = step_of rows day r n sub before.itinerary

      name : SubName
      name = record { reference = r; sub = n; action = identifier_of sub.action }

      next : MadeItinerary
      next = acted rows sub.action day name before

      rest : Legs → List DateStep
      rest legs = sub_steps rows flight day r (n + 1) subs dates legs

      by : (b : Bool) → ((date : MadeItinerary) → Agrees date
          → Agrees (after_steps date (rest date.itinerary)))
          → Agrees (after_steps before
          (if b then step ∷ rest step.itinerary else rest before.itinerary))
      by true later =
          later next (outcome_agrees (variation_on rows day) sub.action name before.itinerary
          before.maker refl both.0 agrees)
      by false later = later before agrees

  entries_agree : (entries : List Entry) (before : MadeItinerary)
      → list_all (λ e. have_lines e.message.subs) entries ≡ true → Agrees before
      → Agrees (after_steps before (entry_steps rows flight day entries before.itinerary))
  entries_agree [] before some agrees = agrees
  entries_agree (e ∷ entries) before some agrees =
      let both = and_both (have_lines e.message.subs)
      (list_all (λ e. have_lines e.message.subs) entries) some in
      let steps = sub_steps rows flight day e.reference 1 e.message.subs e.dates before.itinerary in
      let mid = after_steps before steps in
      let left : mid.itinerary ≡ legs_left before.itinerary steps =
      ap (λ (m : MadeItinerary). m.itinerary) (steps_leave before steps) in
      subst Agrees
      (ap (λ (legs : Legs). after_steps mid (entry_steps rows flight day entries legs)) left
      ∙ sym (steps_more before steps (entry_steps rows flight day entries
      (legs_left before.itinerary steps))))
      (entries_agree entries mid both.1
      (subs_agree e.reference 1 e.message.subs e.dates before both.0 agrees))

first_agrees : (legs : Legs) → Agrees (from_data_set legs)
first_agrees [] = refl
first_agrees (leg ∷ legs) = refl

pub fly_unless_cancelled : FliesUnlessCancelled
fly_unless_cancelled desk flight day some =
    let rows = desk.base.rows in
    let first = itinerary desk.base.records flight day in
    let steps = entry_steps rows flight day desk.held first in
    let all : after_steps (from_data_set first) steps
    ≡ made (legs_left first steps) (last_acted (data_set_maker first) steps) =
    steps_leave (from_data_set first) steps in
    ap flies (sym (entries-left rows flight day desk.held (itinerary desk.base.records)))
    ∙ subst Agrees all
    (entries_agree rows flight day desk.held (from_data_set first) some (first_agrees first))
