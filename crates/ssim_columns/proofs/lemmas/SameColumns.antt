-- Records with the same bytes in columns that are parsed have the same flight, the same ends of a
-- period, the same days, and the same first digits of the serial.
use Rattle.std.proofs.Common.{◌≡◌, ℕ, Bool, ◌+◌, ◌≤◌, List, sym, ap, ◌∙◌, lit≤}
use Rattle.std.specs.Prelude.{slice_range, Option, Some, None, IfSome}
use Rattle.ssim_values.specs.Day.{day_of}
use Rattle.ssim_values.specs.DayMask.{days_of}
use Rattle.ssim_columns.specs.declared.latest_columns.LegEnds.{LegEnds}
use Rattle.ssim_columns.specs.declared.latest_columns.SerialFront.{SerialFront}
use Rattle.ssim_columns.specs.declared.leg.leg_name.AirlineFlight.{AirlineFlight}
use Rattle.ssim_columns.specs.Columns.{columns, end_from}
use Rattle.ssim_columns.specs.internal.LatestColumns.{SpellsEnds, SpellsFlight, SpellsSerialFront}
use Rattle.ssim_columns.specs.Numbers.{digits_of, number_of}
use Rattle.ssim_columns.proofs.lemmas.Slices.{slice_in}

same_part : (a b : List ℕ) (from to i j : ℕ) → slice_range b from to ≡ slice_range a from to → i ≤ j → from + j ≤ to → slice_range b (from + i) (from + j) ≡ slice_range a (from + i) (from + j)
same_part a b from to i j e le within = sym (slice_in b from to i j le within) ∙ ap (λ (t : List ℕ). slice_range t i j) e ∙ slice_in a from to i j le within

pub same_flight : (f : AirlineFlight) (a b : List ℕ) → columns 2 9 b ≡ columns 2 9 a → SpellsFlight f a → SpellsFlight f b
same_flight f a b e s = record {
  suffix = same_part a b 1 9 0 1 e (lit≤ tt) (lit≤ tt) ∙ s.suffix;
  airline = same_part a b 1 9 1 4 e (lit≤ tt) (lit≤ tt) ∙ s.airline;
  number = ap number_of (same_part a b 1 9 4 8 e (lit≤ tt) (lit≤ tt)) ∙ s.number;
}

pub same_ends : (l : LegEnds) (a b : List ℕ) → columns 15 28 b ≡ columns 15 28 a → SpellsEnds l a → SpellsEnds l b
same_ends l a b e s = record {
  first = ap day_of (same_part a b 14 28 0 7 e (lit≤ tt) (lit≤ tt)) ∙ s.first;
  last = ap (end_from (Some l.first)) (same_part a b 14 28 7 14 e (lit≤ tt) (lit≤ tt)) ∙ s.last;
}

pub same_days : (d : List Bool) (a b : List ℕ) → columns 28 35 b ≡ columns 28 35 a → days_of (columns 29 35 a) ≡ Some d → days_of (columns 29 35 b) ≡ Some d
same_days d a b e s = ap days_of (same_part a b 27 35 1 8 e (lit≤ tt) (lit≤ tt)) ∙ s

pub days_read : (o : Option (List Bool)) (a : List ℕ) → o ≡ days_of (columns 29 35 a) → IfSome o (λ d. (b : List ℕ) → columns 28 35 b ≡ columns 28 35 a → days_of (columns 29 35 b) ≡ Some d)
days_read None a read = tt
days_read (Some d) a read = λ b e. same_days d a b e (sym read)
