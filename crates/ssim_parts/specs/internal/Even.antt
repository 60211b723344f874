-- Days on which legs are moved alike.
use Rattle.std.specs.Prelude.{◌≡◌, ℕ, ◌≤◌, ◌<◌, Bool, true, ◌&&◌, is_some, List, [], ◌∷◌}
use Rattle.ssim_values.specs.declared.time_mode.TimeMode.{TimeMode}
use Rattle.ssim_base.specs.Stations.{Row}
use Rattle.ssim_base.specs.Timetable.{Legs}
use Rattle.ssim_parts.specs.MovedLegs.{moved_flight, shift_of}
use Rattle.ssim_parts.specs.MovedEnds.{arrival_of, departure_of}

-- the legs are moved alike on all days from the first up to the end
abbrev pub IsEven : List Row → Legs → ℕ → ℕ → Type 0
IsEven rows legs first end =
    (wanted : TimeMode) → shift_of rows wanted first legs ≤ 2
    → (n : ℕ) → first ≤ n → n < end
    → moved_flight rows wanted n legs ≡ moved_flight rows wanted first legs

-- whether no UTC variation of a leg with these columns is blank
abbrev pub has_variations : List ℕ → Bool
has_variations columns =
    is_some (departure_of columns).variation && is_some (arrival_of columns).variation

-- whether no UTC variation of these legs is
abbrev pub have_variations : Legs → Bool
have_variations [] = true
have_variations (leg ∷ legs) = has_variations leg.columns && have_variations legs
