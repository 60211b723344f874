-- The rows and the ends of records at the ranks of their stations.
use Rattle.std.proofs.Common.{◌≡◌, ◌∙◌, ℕ, ◌+◌, ◌++◌, ◌<◌, Bool, true, false, not}
use Rattle.std.proofs.Common.{◌&&◌, nat_eq, nat_le}
use Rattle.std.proofs.Common.{if◌then◌else◌, filter, List, [], ◌∷◌, length, take, get_or, set}
use Rattle.std.proofs.Common.{Option, Some, slice_index, subst}
use Rattle.std.proofs.Common.{refl, sym, ap, ap₂, arith}
use Rattle.std.proofs.Common.{append-nil, append_assoc}
use Rattle.std.specs.Str.{bytes_eq}
use Rattle.std.proofs.lemmas.Bool.Decides.{nat_tests}
use Rattle.std.proofs.lemmas.List.{length-set}
use Rattle.std.proofs.lemmas.List.Concat.{flat_map-append}
use Rattle.std.proofs.lemmas.List.Elements.{filter-append}
use Rattle.ssim_records.specs.declared.record.Record.{Record}
use Rattle.ssim_columns.specs.Columns.{utc_variation_of}
use Rattle.ssim_records.specs.Leg.{LegFields, leg_columns}
use Rattle.ssim_values.specs.Period.{DayRange}
use Rattle.ssim_values.specs.Variation.{Offset, variation_of}
use Rattle.ssim_base.specs.Stations.{Row}
use Rattle.ssim_base.specs.Timetable.{period_of}
use Rattle.ssim_overview.specs.Totals.{station_at}
use Rattle.ssim_overview.specs.internal.StationNotes.{AddsEnds, AreByStation, AreEnds, AreQuiet}
use Rattle.ssim_overview.specs.internal.StationNotes.{DatedEnd, IsQuietText}
use Rattle.ssim_overview.specs.internal.StationNotes.{is_kept}
use Rattle.ssim_overview.specs.internal.StationNotes.{dated_ends, is_quiet, record_ends}
use Rattle.ssim_overview.specs.internal.StationNotes.{records_ends}
use Rattle.ssim_overview.specs.internal.StationNotes.{rows_about}
use Rattle.ssim_overview.specs.StationNotes.{arrival_end, departure_end, leg_end}
use Rattle.ssim_overview.specs.declared.leg_ends.LegEnd.{LegEnd}
use Rattle.ssim_overview.proofs.Ranks.{one_at, together}
use Rattle.ssim_overview.proofs.SaidColumns.{variation_read}
use Rattle.ssim_overview.proofs.SaidSteps.{taken}

-- ---- rows

pub no_row : (table : List (List Row)) → length table ≡ 17576 → ((k : ℕ) → get_or table k [] ≡ [])
    → AreByStation [] table
no_row table len none = record { len = len; each = λ k lt. none k }

pub row_more : (rows : List Row) (i : ℕ) (row : Row) (n : ℕ) (old new : List (List Row))
    → i < length rows
    → row ≡ get_or rows i row → n < 17576
    → ((k : ℕ) → k < 17576 → nat_eq n k ≡ bytes_eq row.station (station_at k))
    → new ≡ set old n (get_or old n [] ++ row ∷ [])
    → AreByStation (take i rows) old → AreByStation (take (i + 1) rows) new
row_more rows i row n old new lt is within only added are = record {
  len = ap length added ∙ length-set old n (get_or old n [] ++ row ∷ []) ∙ are.len;
  each = λ k below.
      let size = are.len in let inside : n < length old = omega arith in
      ap (λ (l : List (List Row)). get_or l k []) added ∙ one_at old n k row inside
      ∙ ap₂ (λ (l m : List Row). l ++ m) (are.each k below)
      (ap (λ (b : Bool). if b then row ∷ [] else []) (only k below))
      ∙ sym (ap (rows_about (station_at k)) (taken rows i row lt is)
      ∙ filter-append (λ (r : Row). bytes_eq r.station (station_at k)) (take i rows) (row ∷ []));
}

-- ---- ends

pub no_end : (table : List (List Row)) (lists : List (List DatedEnd)) → length lists ≡ 17576
    → ((k : ℕ) → get_or lists k [] ≡ []) → AreEnds table [] lists
no_end table lists len none = record { len = len; each = λ k lt. none k }

-- the same lists
pub same_ends : (table : List (List Row)) (ends : List DatedEnd) (lists : List (List DatedEnd))
    → ((k : ℕ) → k < 17576 → filter (is_kept (station_at k) (get_or table k [])) ends ≡ [])
    → AddsEnds table ends lists lists
same_ends table ends lists none = record {
  len = refl;
  each = λ k lt. sym (ap (λ (l : List DatedEnd). get_or lists k [] ++ l) (none k lt)
      ∙ append-nil (get_or lists k []));
}

-- some ends and then others
pub more_ends : (table : List (List Row)) (some more : List DatedEnd)
    (old mid new : List (List DatedEnd))
    → AddsEnds table some old mid → AddsEnds table more mid new
    → AddsEnds table (some ++ more) old new
more_ends table some more old mid new a b = record {
  len = b.len ∙ a.len;
  each = λ k lt.
      let kept = is_kept (station_at k) (get_or table k []) in
      b.each k lt ∙ ap (λ (l : List DatedEnd). l ++ filter kept more) (a.each k lt)
      ∙ append_assoc (get_or old k []) (filter kept some) (filter kept more)
      ∙ ap (λ (l : List DatedEnd). get_or old k [] ++ l) (sym (filter-append kept some more));
}

-- the ends of one record more
pub record_more : (table : List (List Row)) (records : List Record) (i : ℕ) (r : Record)
    (old new : List (List DatedEnd)) → i < length records → r ≡ get_or records i r
    → AreEnds table (records_ends (take i records)) old → AddsEnds table (record_ends r) old new
    → AreEnds table (records_ends (take (i + 1) records)) new
record_more table records i r old new lt is are adds = record {
  len = adds.len ∙ are.len;
  each = λ k below.
      let kept = is_kept (station_at k) (get_or table k []) in
      adds.each k below
      ∙ ap (λ (l : List DatedEnd). l ++ filter kept (record_ends r)) (are.each k below)
      ∙ sym (filter-append kept (records_ends (take i records)) (record_ends r))
      ∙ ap (filter kept) (sym (ap records_ends (taken records i r lt is)
      ∙ flat_map-append record_ends (take i records) (r ∷ [])
      ∙ ap (λ (l : List DatedEnd). records_ends (take i records) ++ l)
      (append-nil (record_ends r))));
}

-- ---- one end

and_false : (b : Bool) → (b && false) ≡ false
and_false true = refl
and_false false = refl

and_true : (b : Bool) → (b && true) ≡ b
and_true true = refl
and_true false = refl

-- an end of a period that has no day is kept nowhere
pub turned : (s : List ℕ) (rows : List Row) (e : DatedEnd) → nat_le e.0.first e.0.last ≡ false
    → is_kept s rows e ≡ false
turned s rows e h =
    ap (λ (b : Bool). bytes_eq e.1.station s && (b && not (is_quiet rows e.0 e.1))) h
    ∙ and_false (bytes_eq e.1.station s)

module _ (table : List (List Row)) (n : ℕ) (e : DatedEnd)
    (ordered : nat_le e.0.first e.0.last ≡ true)
    (only : (k : ℕ) → k < 17576 → nat_eq n k ≡ bytes_eq e.1.station (station_at k)) where
  -- at its rank it is kept unless it is quiet, and nowhere else
  kept_at : (quiet : Bool) → is_quiet (get_or table n []) e.0 e.1 ≡ quiet → (k : ℕ) → k < 17576
      → is_kept (station_at k) (get_or table k []) e ≡ (nat_eq n k && not quiet)
  kept_at quiet is k lt =
      ap (λ (b : Bool).
      b && (nat_le e.0.first e.0.last && not (is_quiet (get_or table k []) e.0 e.1)))
      (sym (only k lt))
      ∙ ap (λ (b : Bool). nat_eq n k && (b && not (is_quiet (get_or table k []) e.0 e.1))) ordered
      ∙ at (nat_eq n k) refl
    where
      at : (b : Bool) → nat_eq n k ≡ b
          → (b && not (is_quiet (get_or table k []) e.0 e.1)) ≡ (b && not quiet)
      at true f =
          ap (λ (i : ℕ). not (is_quiet (get_or table i []) e.0 e.1)) (together k n f) ∙ ap not is
      at false f = refl

  pub quiet_end : is_quiet (get_or table n []) e.0 e.1 ≡ true → (lists : List (List DatedEnd))
      → AddsEnds table (e ∷ []) lists lists
  quiet_end is lists = same_ends table (e ∷ []) lists
      (λ k lt. ap (λ (b : Bool). if b then e ∷ [] else [])
      (kept_at true is k lt ∙ and_false (nat_eq n k)))

  pub loud_end : is_quiet (get_or table n []) e.0 e.1 ≡ false → (old new : List (List DatedEnd))
      → length old ≡ 17576 → n < 17576 → new ≡ set old n (get_or old n [] ++ e ∷ [])
      → AddsEnds table (e ∷ []) old new
  loud_end is old new size within added = record {
    len = ap length added ∙ length-set old n (get_or old n [] ++ e ∷ []);
    each = λ k lt.
        let inside : n < length old = omega arith in
        ap (λ (l : List (List DatedEnd)). get_or l k []) added ∙ one_at old n k e inside
        ∙ ap (λ (b : Bool). get_or old k [] ++ (if b then e ∷ [] else []))
        (sym (kept_at false is k lt ∙ and_true (nat_eq n k)));
  }

-- ---- a leg record

-- an end by the columns that are read
pub end_read : (columns own dates station : List ℕ) (v : Option Offset) (end : LegEnd)
    (a b m n at : ℕ)
    → columns ≡ own → dates ≡ leg_columns 193 194 columns → station ≡ leg_columns a b columns
    → utc_variation_of (leg_columns m n columns) ≡ Some v
    → end ≡ leg_end station v (slice_index dates at)
    → end ≡ leg_end (leg_columns a b own) (variation_of (leg_columns m n own))
    (slice_index (leg_columns 193 194 own) at)
end_read columns own dates station v end a b m n at are ds st vs is =
    is ∙ (λ i. leg_end ((st ∙ ap (leg_columns a b) are) i) (value i)
    (slice_index ((ds ∙ ap (leg_columns 193 194) are) i) at))
  where
    value : v ≡ variation_of (leg_columns m n own)
    value =
        sym (variation_read (leg_columns m n columns) v vs)
        ∙ ap (λ (c : List ℕ). variation_of (leg_columns m n c)) are

-- a period that has no day keeps no end
pub turned_leg : (table : List (List Row)) (leg : LegFields) (lists : List (List DatedEnd))
    → (period_of leg).last < (period_of leg).first → AddsEnds table (dated_ends leg) lists lists
turned_leg table leg lists h =
    let off : nat_le (period_of leg).first (period_of leg).last ≡ false =
    grind (arith, nat_tests) in
    let d : DatedEnd = (period_of leg, departure_end leg) in
    let a : DatedEnd = (period_of leg, arrival_end leg) in
    same_ends table (dated_ends leg) lists
    (λ k lt. ap₂
    (λ (x y : Bool). if x then d ∷ (if y then a ∷ [] else []) else (if y then a ∷ [] else []))
    (turned (station_at k) (get_or table k []) d off)
    (turned (station_at k) (get_or table k []) a off))

-- the departure and then the arrival
pub both_ends : (table : List (List Row)) (leg : LegFields) (period : DayRange) (from to : LegEnd)
    (old mid new : List (List DatedEnd)) → period ≡ period_of leg → from ≡ departure_end leg
    → to ≡ arrival_end leg → AddsEnds table ((period, from) ∷ []) old mid
    → AddsEnds table ((period, to) ∷ []) mid new → AddsEnds table (dated_ends leg) old new
both_ends table leg period from to old mid new p f t a b =
    subst (λ (ends : List DatedEnd). AddsEnds table ends old new)
    (λ i. (p i, f i) ∷ (p i, t i) ∷ [])
    (more_ends table ((period, from) ∷ []) ((period, to) ∷ []) old mid new a b)

-- ---- quiet columns

not_kept : (s : List ℕ) (rows : List Row) (e : DatedEnd)
    → (bytes_eq e.1.station s ≡ true → is_quiet rows e.0 e.1 ≡ true) → is_kept s rows e ≡ false
not_kept s rows e quiet = by (bytes_eq e.1.station s) refl
  where
    by : (b : Bool) → bytes_eq e.1.station s ≡ b
        → (b && (nat_le e.0.first e.0.last && not (is_quiet rows e.0 e.1))) ≡ false
    by true is =
        ap (λ (t : Bool). nat_le e.0.first e.0.last && not t) (quiet is)
        ∙ and_false (nat_le e.0.first e.0.last)
    by false is = refl

-- neither end of a leg is kept
pub quiet_leg : (table : List (List Row)) (leg : LegFields) (period : DayRange) (columns : List ℕ)
    (lists : List (List DatedEnd)) → period ≡ period_of leg → columns ≡ leg.columns
    → AreQuiet table period columns → AddsEnds table (dated_ends leg) lists lists
quiet_leg table leg period columns lists p are quiet =
    let d : DatedEnd = (period_of leg, departure_end leg) in
    let a : DatedEnd = (period_of leg, arrival_end leg) in
    let own : AreQuiet table (period_of leg) leg.columns =
    subst (λ (c : List ℕ). AreQuiet table (period_of leg) c) are
    (subst (λ (r : DayRange). AreQuiet table r columns) p quiet) in
    same_ends table (dated_ends leg) lists
    (λ k lt. ap₂
    (λ (x y : Bool). if x then d ∷ (if y then a ∷ [] else []) else (if y then a ∷ [] else []))
    (not_kept (station_at k) (get_or table k []) d
    (λ is. own.departure k lt is (leg_columns 37 39 leg.columns)
    (slice_index (leg_columns 193 194 leg.columns) 0)))
    (not_kept (station_at k) (get_or table k []) a
    (λ is. own.arrival k lt is (leg_columns 55 57 leg.columns)
    (slice_index (leg_columns 193 194 leg.columns) 1))))

-- at its rank a station has the rows by which a text is quiet
pub quiet_at : (table : List (List Row)) (n : ℕ) (rows : List Row) (period : DayRange)
    (text station own columns : List ℕ)
    → ((k : ℕ) → k < 17576 → nat_eq n k ≡ bytes_eq station (station_at k))
    → station ≡ own → text ≡ columns → get_or table n [] ≡ rows → IsQuietText rows period text
    → (k : ℕ) → k < 17576 → bytes_eq own (station_at k) ≡ true
    → IsQuietText (get_or table k []) period columns
quiet_at table n rows period text station own columns only is are at quiet k lt here =
    let same : k ≡ n =
    together k n (only k lt ∙ ap (λ (s : List ℕ). bytes_eq s (station_at k)) is ∙ here) in
    subst (λ (t : List ℕ). IsQuietText (get_or table k []) period t) are
    (subst (λ (r : List Row). IsQuietText r period text)
    (sym (ap (λ (i : ℕ). get_or table i []) same ∙ at)) quiet)
