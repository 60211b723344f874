-- Desks that the same messages reached are equal: they hold the same messages, and have the same
-- itineraries and the same export.
use Rattle.std.specs.Prelude.{◌≡◌, ◌≢◌, ◌⊎◌, ◌<◌, ◌↔◌, ℕ, List, length, All, Some, Result, Ok}
use Rattle.std.specs.FinMap.{empty}
use Rattle.std.specs.List.{slice_get}
use Rattle.std.specs.{declared.alloc.Global.Global, declared.vec.Vec.Vec}
use Rattle.ssim_base.specs.Export.{ExportRefusal}
use Rattle.ssim_base.specs.Reading.{IsReadAs}
use Rattle.ssim_base.specs.Stations.{SpellsTable}
use Rattle.ssim_base.specs.declared.note.Note.{Note}
use Rattle.ssim_text.specs.{Message.MessageValue, declared.reference.Reference.Reference}
use Rattle.ssim_held.specs.Held.{DeskState, Holds, IsDesk}
use Rattle.ssim_held.specs.declared.fault.DeskFault.TheVariants.{Memory, Conflict}
use Rattle.ssim_desk.specs.Meaning.{Exports, Means, Timetable}
use Rattle.ssim_desk.specs.Deliveries.{IsStep, Reached, SaysTo}
use Rattle.ssim_desk.specs.Steps.{IsInRange, Runs, desk_at}
use Rattle.ssim_desk.specs.declared.steps.Answer.{Answer}
use Rattle.ssim_desk.specs.declared.steps.Answer.TheVariants.{Refused}
use Rattle.ssim_desk.specs.declared.steps.Step.{Step}
use Rattle.ssim_desk.specs.declared.steps.Step.TheVariants.{Take}

-- a run of steps over desks
pub record Run : Type 0 where
  pub start : List DeskState
  pub steps : List Step
  pub answers : List Answer
  pub after : List DeskState
  pub desks : All IsDesk start
  pub in_range : All (IsInRange (length start)) steps
  pub runs : Runs start steps answers after

-- the same messages reached a desk of one run and a desk of another
pub record TookTheSame (one other : Run) (d e : ℕ) : Type 0 where
  pub here : d < length one.start
  pub there : e < length other.start
  pub reached : (reference : Reference) (message : MessageValue)
      → Reached one.start one.steps one.answers d reference message
      ↔ Reached other.start other.steps other.answers e reference message

-- Two desks that were equal at the start, and that the same messages reached, are equal at the end.
abbrev pub SameMessagesSameDesk : Type 0
SameMessagesSameDesk =
    (one other : Run) (d e : ℕ) → TookTheSame one other d e
    → desk_at one.start d ≡ desk_at other.start e
    → desk_at one.after d ≡ desk_at other.after e

-- the desk's base was read from these bytes of a data set and of a station table, and the desk
-- holds nothing
pub record BeganFrom (data_set stations : List ℕ) (desk : DeskState) : Type 0 where
  pub limit : ℕ
  pub notes : List Note
  pub read : IsReadAs limit data_set (Ok (desk.base.records, notes))
  pub rows : SpellsTable desk.base.rows stations
  pub nothing : desk.held ≡ empty

-- Two desks agree: they hold the same messages over the same base; each flight has on each date one
-- and the same itinerary, which the messages leave in order of reference; and both exports are the
-- same bytes, or the same refusal.
pub record AreAgreed (one other : DeskState) : Type 0 where
  pub same : one ≡ other
  pub timetable : Timetable
  pub means_one : Means one timetable
  pub means_other : Means other timetable
  pub no_other : (meant : Timetable) → Means one meant ⊎ Means other meant → meant ≡ timetable
  pub answer : Result (List ℕ) ExportRefusal
  pub exports_one : Exports one answer
  pub exports_other : Exports other answer
  pub no_other_answer : (given : Result (List ℕ) ExportRefusal)
      → Exports one given ⊎ Exports other given
      → given ≡ answer

-- two desks began alike: from the same bytes, holding nothing; or with the same messages over the
-- same base
abbrev pub BeganAlike : DeskState → DeskState → Type 0
BeganAlike one other =
    ((data_set : List ℕ) × (stations : List ℕ) × BeganFrom data_set stations one
    × BeganFrom data_set stations other) ⊎ (one ≡ other)

-- Any two desks that began alike, and that the same messages reached, agree, whatever the order,
-- the grouping and the number of repeats.
abbrev pub AnyTwoDesksAgree : Type 0
AnyTwoDesksAgree =
    (one other : Run) (d e : ℕ) → TookTheSame one other d e
    → BeganAlike (desk_at one.start d) (desk_at other.start e)
    → AreAgreed (desk_at one.after d) (desk_at other.after e)

-- a desk holds the message at the start, or a step offers a text that says it
abbrev pub IsThere : List DeskState → List Step → Reference → MessageValue → Type 0
IsThere start steps reference message =
    ((d : ℕ) × Holds (desk_at start d) reference message)
    ⊎ ((k : ℕ) × (d : ℕ) × (text : Vec ℕ Global) × (slice_get steps k ≡ Some (Take d text))
    × SaysTo start d text.items reference message)

-- no two different messages with one reference are held at the start or offered
abbrev pub AreApart : List DeskState → List Step → Type 0
AreApart start steps =
    (reference : Reference) (one other : MessageValue) → IsThere start steps reference one
    → IsThere start steps reference other → one ≡ other

-- if the messages of a run are apart, no step of the run is refused as a conflict
abbrev pub NoConflict : Type 0
NoConflict =
    (run : Run) → AreApart run.start run.steps → (k : ℕ) (step : Step) (reference : Reference)
    → IsStep run.steps run.answers k step (Refused (Conflict reference)) → ⊥

-- if the messages of a run are apart, each message offered to a desk in a text has reached the
-- desk, unless memory was refused
abbrev pub OfferedIsReached : Type 0
OfferedIsReached =
    (run : Run) → AreApart run.start run.steps
    → (k d : ℕ) (text : Vec ℕ Global) (answer : Answer) (reference : Reference)
    (message : MessageValue)
    → IsStep run.steps run.answers k (Take d text) answer → answer ≢ Refused Memory
    → SaysTo run.start d text.items reference message
    → Reached run.start run.steps run.answers d reference message
