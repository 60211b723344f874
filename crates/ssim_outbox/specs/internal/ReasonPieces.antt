-- The dates of a flight by the reasons why no messages make its new itineraries.
use Rattle.std.specs.Prelude.{◌≡◌, ℕ, ◌+◌, ◌<◌, ◌≤◌, Bool, true, ◌&&◌, ◌||◌, nat_le}
use Rattle.std.specs.Prelude.{if◌then◌else◌, List, [], ◌∷◌, Option, Some, None}
use Rattle.std.specs.declared.vec.Vec.{Vec}
use Rattle.std.specs.List.{list_any}
use Rattle.std.specs.Str.{bytes_eq}
use Rattle.ssim_values.specs.Period.{DayRange}
use Rattle.ssim_columns.specs.Leg.{leg_columns}
use Rattle.ssim_periods.specs.Calendar.{holds}
use Rattle.ssim_periods.specs.Days.{each_day}
use Rattle.ssim_periods.specs.Pieces.{pieces_of}
use Rattle.ssim_base.specs.Stations.{Row, variation_at}
use Rattle.ssim_base.specs.Timetable.{Legs}
use Rattle.ssim_difference.specs.Differences.{DifferencePiece}
use Rattle.ssim_outbox.specs.Reason.{reason_words}
use Rattle.ssim_outbox.specs.Unsaid.{ReasonPiece}

-- ---- the days on which the UTC variations of legs stay the same

-- whether a leg with these columns departs from the station or arrives there
abbrev pub flies_at : List ℕ → List ℕ → Bool
flies_at d station = bytes_eq (leg_columns 37 39 d) station || bytes_eq (leg_columns 55 57 d) station

-- whether one of the legs does
abbrev pub has_station : Legs → List ℕ → Bool
has_station legs station = list_any (λ leg. flies_at leg.columns station) legs

-- whether a row has a day
abbrev pub has_day : Row → ℕ → Bool
has_day row n = nat_le row.first n && nat_le n row.last

-- a row of a station of the legs has all days from the first up to the end, or none of them
abbrev pub IsSteady : Legs → ℕ → ℕ → Row → Type 0
IsSteady legs first end row =
    has_station legs row.station ≡ true
    → (n : ℕ) → first ≤ n → n < end → has_day row n ≡ has_day row first

-- each station of the legs has one UTC variation on these days, or none
abbrev pub HaveOneVariation : List Row → Legs → ℕ → ℕ → Type 0
HaveOneVariation rows legs first end =
    (station : List ℕ) → has_station legs station ≡ true
    → (n : ℕ) → first ≤ n → n < end → variation_at rows station n ≡ variation_at rows station first

-- the part of a period from the first day up to the end
pub record IsPart (period : DayRange) (first end : ℕ) (part : DayRange) : Type 0 where
  pub first_is : part.first ≡ first
  pub last_is : part.last + 1 ≡ end
  pub days_are : part.days ≡ period.days

-- ---- the reasons of the days

-- words in a list, if there are any
abbrev pub words_in : {A : Type 0} → Option (Vec ℕ A) → List ℕ
words_in None = []
words_in (Some words) = words.items

-- the reasons of the days after each day of a piece got its own
abbrev pub reason_put : List Row → DifferencePiece → (ℕ → List ℕ) → ℕ → List ℕ
reason_put rows piece before n =
    if holds piece.0 n then reason_words rows n piece.1.old piece.1.new else before n

-- the reason of a day after pieces, one after another
abbrev pub reason_after : List Row → List DifferencePiece → (ℕ → List ℕ) → ℕ → List ℕ
reason_after rows [] before = before
reason_after rows (piece ∷ pieces) before = reason_after rows pieces (reason_put rows piece before)

-- the canonical division of the dates of pieces by their reasons
abbrev pub division : List Row → List DifferencePiece → List ReasonPiece
division rows pieces = pieces_of bytes_eq [] (each_day (reason_after rows pieces (λ n. [])))
