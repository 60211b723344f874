-- A leg as one line.
use Rattle.std.specs.Prelude.{ℕ, ◌==◌, if◌then◌else◌, List, ◌∷◌, ◌++◌, map}
use Rattle.ssim_values.specs.Characters.{two_digits}
use Rattle.ssim_records.specs.Leg.{leg_columns}
use Rattle.ssim_base.specs.Timetable.{LegValue}

-- columns with a full stop in place of each blank
abbrev pub dotted : List ℕ → List ℕ
dotted bytes = map (λ b. if b == 32 then 46 else b) bytes

-- a blank, and columns first to last of a leg, counted as in its record
abbrev pub shown : ℕ → ℕ → List ℕ → List ℕ
shown first last columns = 32 ∷ dotted (leg_columns first last columns)

-- The departure station, passenger time, aircraft time and UTC variation; the arrival station,
-- aircraft time, passenger time and UTC variation; the date variations; the service type; the
-- aircraft type.
abbrev pub columns_text : List ℕ → List ℕ
columns_text d =
    shown 37 39 d ++ shown 40 43 d ++ shown 44 47 d ++ shown 48 52 d ++ shown 55 57 d
    ++ shown 58 61 d
    ++ shown 62 65 d ++ shown 66 70 d
    ++ shown 193 194 d ++ shown 14 14 d ++ shown 73 75 d

-- the leg sequence and the columns
abbrev pub leg_text : LegValue → List ℕ
leg_text leg = two_digits leg.sequence ++ columns_text leg.columns
