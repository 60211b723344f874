-- The first reason in legs for which a flight date is left, leg by leg.
use Rattle.std.proofs.Common.{◌≡◌, ◌∙◌, ℕ, List, [], ◌∷◌, ◌++◌, map, refl, sym, ap}
use Rattle.std.specs.Prelude.{Option, Some, None}
use Rattle.ssim_values.specs.declared.time_mode.TimeMode.{TimeMode}
use Rattle.ssim_base.specs.Stations.{Row}
use Rattle.ssim_base.specs.Timetable.{LegValue, Legs}
use Rattle.ssim_parts.specs.MovedEnds.{arrival_of, departure_of}
use Rattle.ssim_parts.specs.MovedLegs.{beyond_in, end_beyond, end_unknown, moved_end, or_reason}
use Rattle.ssim_parts.specs.MovedLegs.{left_or_kept, moved_leg, outside, own_fate, own_reason}
use Rattle.ssim_parts.specs.MovedLegs.{shift_of, unknown_in}
use Rattle.ssim_parts.specs.declared.fate.Fate.TheVariants.{Absent}
use Rattle.ssim_parts.specs.declared.moved_legs.MovedLegs.{MovedLegs}
use Rattle.ssim_parts.specs.internal.MovedDates.{AreMoved}
use Rattle.ssim_parts.specs.declared.fate.LeftReason.{LeftReason}

reason_assoc : (a b d : Option LeftReason)
    → or_reason (or_reason a b) d ≡ or_reason a (or_reason b d)
reason_assoc None b d = refl
reason_assoc (Some a) b d = refl

reason_none : (a : Option LeftReason) → or_reason a None ≡ a
reason_none None = refl
reason_none (Some a) = refl

-- the reasons of one leg, those of the legs before it, and then those of one leg more
between : (departure arrival before next : Option LeftReason)
    → or_reason departure (or_reason arrival (or_reason before next))
    ≡ or_reason (or_reason departure (or_reason arrival before)) next
between departure arrival before next =
    ap (or_reason departure) (sym (reason_assoc arrival before next))
    ∙ sym (reason_assoc departure (or_reason arrival before) next)

-- what is not known of a leg
abbrev pub leg_unknown : List Row → ℕ → LegValue → Option LeftReason
leg_unknown rows n leg =
    or_reason (end_unknown rows n leg.sequence (departure_of leg.columns))
    (end_unknown rows n leg.sequence (arrival_of leg.columns))

-- one leg more
pub unknown_in-more : (rows : List Row) (n : ℕ) (legs : Legs) (leg : LegValue)
    → unknown_in rows n (legs ++ leg ∷ [])
    ≡ or_reason (unknown_in rows n legs) (leg_unknown rows n leg)
unknown_in-more rows n [] leg =
    ap (or_reason (end_unknown rows n leg.sequence (departure_of leg.columns)))
    (reason_none (end_unknown rows n leg.sequence (arrival_of leg.columns)))
unknown_in-more rows n (one ∷ legs) leg =
    let departure = end_unknown rows n one.sequence (departure_of one.columns) in
    let arrival = end_unknown rows n one.sequence (arrival_of one.columns) in
    ap (λ (later : Option LeftReason). or_reason departure (or_reason arrival later))
    (unknown_in-more rows n legs leg)
    ∙ between departure arrival (unknown_in rows n legs) (leg_unknown rows n leg)

-- a new date variation of a leg without a digit
abbrev pub leg_beyond : List Row → TimeMode → ℕ → ℕ → LegValue → Option LeftReason
leg_beyond rows wanted n shift leg =
    or_reason
    (end_beyond leg.sequence shift (moved_end rows wanted n (departure_of leg.columns)))
    (end_beyond leg.sequence shift (moved_end rows wanted n (arrival_of leg.columns)))

-- one leg more
pub beyond_in-more : (rows : List Row) (wanted : TimeMode) (n shift : ℕ) (legs : Legs)
    (leg : LegValue) → beyond_in rows wanted n shift (legs ++ leg ∷ [])
    ≡ or_reason (beyond_in rows wanted n shift legs) (leg_beyond rows wanted n shift leg)
beyond_in-more rows wanted n shift [] leg =
    ap (or_reason (end_beyond leg.sequence shift
    (moved_end rows wanted n (departure_of leg.columns))))
    (reason_none (end_beyond leg.sequence shift
    (moved_end rows wanted n (arrival_of leg.columns))))
beyond_in-more rows wanted n shift (one ∷ legs) leg =
    let departure =
    end_beyond one.sequence shift (moved_end rows wanted n (departure_of one.columns)) in
    let arrival =
    end_beyond one.sequence shift (moved_end rows wanted n (arrival_of one.columns)) in
    ap (λ (later : Option LeftReason). or_reason departure (or_reason arrival later))
    (beyond_in-more rows wanted n shift legs leg)
    ∙ between departure arrival (beyond_in rows wanted n shift legs)
    (leg_beyond rows wanted n shift leg)

module _ (rows : List Row) (wanted : TimeMode) (n shift : ℕ) (legs : Legs) (moved : MovedLegs)
    (are : AreMoved rows wanted n shift legs moved) (same : shift ≡ shift_of rows wanted n legs)
  where
    -- a date without legs
    pub none_moved : moved.legs.items ≡ [] → Absent ≡ own_fate rows wanted n legs
    none_moved none = by legs (sym are.legs_are ∙ none)
      where
        by : (all : Legs) → map (moved_leg rows wanted n shift) all ≡ []
            → Absent ≡ own_fate rows wanted n all
        by [] e = refl
        by (leg ∷ all) e = absurd cc

    -- the first reason in the legs and their date
    pub reason_is : or_reason moved.unknown (or_reason (outside n shift) moved.beyond)
        ≡ own_reason rows wanted n legs
    reason_is =
        ap (λ (u : Option LeftReason). or_reason u (or_reason (outside n shift) moved.beyond))
        are.unknown_is
        ∙ ap (λ (b : Option LeftReason). or_reason (unknown_in rows n legs)
        (or_reason (outside n shift) b)) are.beyond_is
        ∙ ap (λ (s : ℕ). or_reason (unknown_in rows n legs)
        (or_reason (outside n s) (beyond_in rows wanted n s legs))) same

    -- a date with legs
    pub some_moved : (moved.legs.items ≡ [] → ⊥) → (reason : Option LeftReason)
        → reason ≡ or_reason moved.unknown (or_reason (outside n shift) moved.beyond)
        → left_or_kept reason shift ≡ own_fate rows wanted n legs
    some_moved some reason is =
        ap (λ (r : Option LeftReason). left_or_kept r shift) (is ∙ reason_is)
        ∙ ap (left_or_kept (own_reason rows wanted n legs)) same
        ∙ by legs (λ none. some (are.legs_are ∙ none))
      where
        by : (all : Legs) → (map (moved_leg rows wanted n shift) all ≡ [] → ⊥)
            → left_or_kept (own_reason rows wanted n all) (shift_of rows wanted n all)
            ≡ own_fate rows wanted n all
        by [] e = absurd (e refl)
        by (leg ∷ all) e = refl
