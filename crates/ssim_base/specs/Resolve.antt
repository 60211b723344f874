-- A message resolved against a base: its reference and its sub-messages with full dates, or why it
-- cannot be.
use Rattle.std.specs.Prelude.{◌≡◌, ◌≢◌, ◌⊎◌, ℕ, ◌+◌, ◌<◌, ◌≤◌, Bool, true, false, List, [], ◌∷◌, Result, Ok, Err}
use Rattle.ssim_values.specs.Calendar.{HasDayMonth}
use Rattle.ssim_values.specs.DayMonth.{MonthDay}
use Rattle.ssim_values.specs.Period.{DayRange}
use Rattle.ssim_records.specs.Carrier.{CarrierFields}
use Rattle.ssim_records.specs.declared.record.Record.{Record}
use Rattle.ssim_text.specs.Message.{MessageValue}
use Rattle.ssim_text.specs.declared.action.Sub.{Sub}
use Rattle.ssim_text.specs.declared.dates.Dates.{Dates}
use Rattle.ssim_text.specs.declared.dates.Dates.TheVariants.{Period, Date}
use Rattle.ssim_text.specs.declared.dates.GivenDate.{GivenDate}
use Rattle.ssim_text.specs.declared.dates.GivenDate.TheVariants.{Full, Yearless}
use Rattle.ssim_text.specs.declared.dates.GivenEnd.{GivenEnd}
use Rattle.ssim_text.specs.declared.dates.GivenEnd.TheVariants.{Until, Open}
use Rattle.ssim_values.specs.declared.time_mode.TimeMode.{TimeMode}
use Rattle.ssim_values.specs.declared.time_mode.TimeMode.TheVariants.{Utc, Local}
use Rattle.ssim_base.specs.Base.{end_of}
use Rattle.ssim_base.specs.Export.{Frame}
use Rattle.ssim_base.specs.ReadBack.{HasFrame}
use Rattle.ssim_base.specs.declared.resolution.ResolveFault.{ResolveFault}
use Rattle.ssim_base.specs.declared.resolution.ResolveFault.TheVariants as fault
use Rattle.ssim_base.specs.declared.resolution.ResolvedText.{ResolvedText}
use Rattle.ssim_base.specs.declared.sub_message.ResolvedSub.{ResolvedSub}

-- ---- dates

-- the least day, from `from` on, with this day and month
pub record IsNext (from : ℕ) (date : MonthDay) (day : ℕ) : Type 0 where
  pub from_on : from ≤ day
  pub has : HasDayMonth day date.month date.day
  pub least : (k : ℕ) → from ≤ k → k < day → HasDayMonth k date.month date.day → ⊥

-- no day from `from` to the end of 2099 has this day and month
abbrev pub HasNone : ℕ → MonthDay → Type 0
HasNone from date = (k : ℕ) → from ≤ k → HasDayMonth k date.month date.day → ⊥

-- the day that a date means; a date without a year means the next such day from `from` on
abbrev pub Means : ℕ → GivenDate → ℕ → Type 0
Means from (Full day) meant = meant ≡ day
Means from (Yearless date) meant = IsNext from date meant

-- the date means no day: it has no year, and there is no such day up to the end of 2099
abbrev pub MeansNone : ℕ → GivenDate → Type 0
MeansNone from (Full day) = ⊥
MeansNone from (Yearless date) = HasNone from date

-- the day that the end of a period means; an open end means the end of the carrier's validity
abbrev pub MeansEnd : CarrierFields → ℕ → GivenEnd → ℕ → Type 0
MeansEnd carrier first (Until date) meant = Means first date meant
MeansEnd carrier first Open meant = meant ≡ end_of carrier

-- the end of the period means no day
abbrev pub MeansNoEnd : ℕ → GivenEnd → Type 0
MeansNoEnd first (Until date) = MeansNone first date
MeansNoEnd first Open = ⊥

-- all seven weekdays
abbrev pub every_day : List Bool
every_day = true ∷ true ∷ true ∷ true ∷ true ∷ true ∷ true ∷ []

-- The full period of some dates. A first date without a year is the next one from the start of the
-- carrier's validity on, and a last date without a year the next one from the first date on. An ASM
-- has the one date.
abbrev pub AreDates : CarrierFields → Dates → DayRange → Type 0
AreDates carrier (Period given) range =
    Means carrier.first given.first range.first × MeansEnd carrier range.first given.last range.last
    × (range.first ≤ range.last) × (range.days ≡ given.days)
AreDates carrier (Date given) range =
    Means carrier.first given range.first × (range.last ≡ range.first) × (range.days ≡ every_day)

-- one of the dates means no day
abbrev pub LackYear : CarrierFields → Dates → Type 0
LackYear carrier (Period given) =
    MeansNone carrier.first given.first
    ⊎ ((first : ℕ) × Means carrier.first given.first first × MeansNoEnd first given.last)
LackYear carrier (Date given) = MeansNone carrier.first given

-- the last date is before the first
abbrev pub AreTurned : CarrierFields → Dates → Type 0
AreTurned carrier (Period given) =
    (first : ℕ) × (last : ℕ) × Means carrier.first given.first first
    × MeansEnd carrier first given.last last × (last < first)
AreTurned carrier (Date given) = ⊥

-- ---- sub-messages

-- the sub-message with its full dates
pub record IsResolved (carrier : CarrierFields) (sub : Sub) (resolved : ResolvedSub) : Type 0 where
  pub airline : sub.designator.airline ≡ carrier.airline
  pub dates : AreDates carrier sub.dates resolved.period
  pub flight : resolved.flight ≡ sub.designator.flight

-- why the sub-message with this number does not resolve
abbrev pub IsSubRefused : CarrierFields → ℕ → Sub → ResolveFault → Type 0
IsSubRefused carrier n sub (fault.Airline number) =
    (number ≡ n) × (sub.designator.airline ≢ carrier.airline)
IsSubRefused carrier n sub (fault.NoSuchDate number) =
    (number ≡ n) × (sub.designator.airline ≡ carrier.airline) × LackYear carrier sub.dates
IsSubRefused carrier n sub (fault.Period number) =
    (number ≡ n) × (sub.designator.airline ≡ carrier.airline) × AreTurned carrier sub.dates
IsSubRefused carrier n sub _ = ⊥

-- each sub-message resolves, in order
abbrev pub AreResolved : CarrierFields → List Sub → List ResolvedSub → Type 0
AreResolved carrier [] [] = Unit {0}
AreResolved carrier (sub ∷ subs) (r ∷ resolved) =
    IsResolved carrier sub r × AreResolved carrier subs resolved
AreResolved carrier _ _ = ⊥

-- the first sub-message that is refused, among those from number n on
abbrev pub IsFirstRefused : CarrierFields → ℕ → List Sub → ResolveFault → Type 0
IsFirstRefused carrier n [] fault = ⊥
IsFirstRefused carrier n (sub ∷ subs) fault =
    IsSubRefused carrier n sub fault
    ⊎ ((r : ResolvedSub) × IsResolved carrier sub r × IsFirstRefused carrier (n + 1) subs fault)

-- ---- the message

-- whether the time modes of message and carrier are the same
abbrev pub same_mode : TimeMode → TimeMode → Bool
same_mode Utc Utc = true
same_mode Local Local = true
same_mode _ _ = false

-- The message resolves to its reference with a full date, on or after the day on which the data set
-- was made, and to its sub-messages with full dates.
pub record Resolves (carrier : CarrierFields) (message : MessageValue)
    (text : ResolvedText) : Type 0 where
  pub mode : same_mode carrier.time_mode message.mode ≡ true
  pub date : IsNext carrier.created message.reference.date text.reference.date
  pub group : text.reference.group ≡ message.reference.group
  pub serial : text.reference.serial ≡ message.reference.serial
  pub kind : text.reference.kind ≡ message.kind
  pub originator : text.reference.originator ≡ message.originator
  pub subs : AreResolved carrier message.subs text.subs.items

-- the date of the reference means a day
abbrev pub HasReferenceDate : CarrierFields → MessageValue → Type 0
HasReferenceDate carrier message = (day : ℕ) × IsNext carrier.created message.reference.date day

-- the time modes are the same, and the date of the reference means no day
pub record IsReferenceRefused (carrier : CarrierFields) (message : MessageValue)
    (number : ℕ) : Type 0 where
  pub mode : same_mode carrier.time_mode message.mode ≡ true
  pub is_zero : number ≡ 0
  pub none : HasNone carrier.created message.reference.date

-- the time modes are the same, the reference has a date, and this is the refusal of the first
-- invalid sub-message
pub record IsRefusedBySub (carrier : CarrierFields) (message : MessageValue)
    (fault : ResolveFault) : Type 0 where
  pub mode : same_mode carrier.time_mode message.mode ≡ true
  pub date : HasReferenceDate carrier message
  pub first : IsFirstRefused carrier 1 message.subs fault

-- The first refusal of a message: 40 and 42 of the reference come first, then the refusal of the
-- first sub-message that has one. Out of memory says nothing.
abbrev pub IsRefused : CarrierFields → MessageValue → ResolveFault → Type 0
IsRefused carrier message fault.Memory = Unit {0}
IsRefused carrier message fault.TimeMode = same_mode carrier.time_mode message.mode ≡ false
IsRefused carrier message (fault.NoSuchDate number) =
    IsReferenceRefused carrier message number
    ⊎ IsRefusedBySub carrier message (fault.NoSuchDate number)
IsRefused carrier message (fault.Airline number) =
    IsRefusedBySub carrier message (fault.Airline number)
IsRefused carrier message (fault.Period number) =
    IsRefusedBySub carrier message (fault.Period number)

-- a message resolves against a base, by the carrier record of the base
abbrev pub ResolvesIn : List Record → MessageValue → ResolvedText → Type 0
ResolvesIn base message text =
    (frame : Frame) × HasFrame frame base × Resolves frame.carrier message text

-- a message is refused against a base, by the carrier record of the base
abbrev pub IsRefusedIn : List Record → MessageValue → ResolveFault → Type 0
IsRefusedIn base message fault =
    (frame : Frame) × HasFrame frame base × IsRefused frame.carrier message fault

-- ---- one outcome

-- what a base and a message determine: the resolved message, or a refusal other than out of memory
abbrev pub IsOutcome : List Record → MessageValue → Result ResolvedText ResolveFault → Type 0
IsOutcome base message (Ok text) = ResolvesIn base message text
IsOutcome base message (Err fault.Memory) = ⊥
IsOutcome base message (Err refusal) = IsRefusedIn base message refusal

-- two results have the same reference and the same sub-messages, or the same refusal
abbrev pub IsSameOutcome : Result ResolvedText ResolveFault → Result ResolvedText ResolveFault
    → Type 0
IsSameOutcome (Ok text) (Ok other) =
    (text.reference ≡ other.reference) × (text.subs.items ≡ other.subs.items)
IsSameOutcome (Err fault) (Err other) = fault ≡ other
IsSameOutcome _ _ = ⊥

-- a base and a message have at most one outcome
abbrev pub HasOneOutcome : Type 0
HasOneOutcome =
    (base : List Record) (message : MessageValue) (outcome other : Result ResolvedText ResolveFault)
    → IsOutcome base message outcome → IsOutcome base message other → IsSameOutcome outcome other

-- ---- the numbers of refusals

-- the number of each fault
abbrev pub resolve_fault_number : ResolveFault → ℕ
resolve_fault_number fault.Memory = 90
resolve_fault_number fault.TimeMode = 40
resolve_fault_number (fault.Airline number) = 41
resolve_fault_number (fault.NoSuchDate number) = 42
resolve_fault_number (fault.Period number) = 43
