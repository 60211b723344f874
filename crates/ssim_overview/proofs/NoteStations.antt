-- The notes on each station: the ends that are left out give none, and the rest are those of the
-- records.
use Rattle.std.proofs.Common.{◌≡◌, ◌∙◌, ℕ, zero, suc, ◌+◌, ◌++◌, ◌≤◌, ◌<◌, Bool, true, false, not}
use Rattle.std.proofs.Common.{◌&&◌, ◌||◌, nat_le}
use Rattle.std.proofs.Common.{if◌then◌else◌, filter, List, [], ◌∷◌, length, map, get_or, Option}
use Rattle.std.proofs.Common.{Some, refl, sym}
use Rattle.std.proofs.Common.{ap, ap₂, arith, append-nil, append_assoc, ◌==◌}
use Rattle.std.specs.List.{count_by, flat_map, list_any, range_with_len}
use Rattle.std.specs.Option.{option_to_list}
use Rattle.std.specs.Str.{bytes_eq}
use Rattle.std.proofs.lemmas.Bool.Decides.{nat_tests}
use Rattle.ssim_values.specs.Period.{DayRange}
use Rattle.ssim_values.specs.Variation.{Offset}
use Rattle.ssim_periods.specs.Calendar.{day_count, holds}
use Rattle.ssim_periods.specs.Pieces.{held_on}
use Rattle.ssim_records.specs.declared.record.Record.{Record}
use Rattle.ssim_records.specs.declared.record.Record.TheVariants.{Carrier, Header, Leg, Segment}
use Rattle.ssim_records.specs.declared.record.Record.TheVariants.{Trailer}
use Rattle.ssim_base.specs.Stations.{Row, variation_at}
use Rattle.ssim_base.specs.Timetable.{period_of}
use Rattle.ssim_overview.specs.StationNotes.{arrival_end, departure_end, ends_on, gives_note}
use Rattle.ssim_overview.specs.StationNotes.{is_noted}
use Rattle.ssim_overview.specs.StationNotes.{note_on, notes_on, says_other, station_notes}
use Rattle.ssim_overview.specs.Totals.{calendar, ends_of, station_at}
use Rattle.ssim_overview.specs.internal.StationNotes.{AreByStation, AreEnds, DatedEnd, is_around}
use Rattle.ssim_overview.specs.internal.StationNotes.{is_beside}
use Rattle.ssim_overview.specs.internal.StationNotes.{is_kept, is_marked, is_quiet, rank_notes}
use Rattle.ssim_overview.specs.internal.StationNotes.{records_ends}
use Rattle.ssim_overview.specs.internal.StationNotes.{rows_about}
use Rattle.ssim_overview.specs.declared.leg_ends.LegEnd.{LegEnd}
use Rattle.ssim_overview.specs.declared.table_notes.NoteKind.{NoteKind}
use Rattle.ssim_overview.specs.declared.table_notes.NoteKind.TheVariants.{Missing, Other}
use Rattle.ssim_overview.specs.declared.table_notes.StationNote.{StationNote}
use Rattle.ssim_overview.proofs.FlownEnds.{any_none}
use Rattle.ssim_overview.proofs.NoteDates.{counts_same, ends_same}
use Rattle.ssim_overview.proofs.StationMarks.{limit_is}

-- ---- notes

-- tests that agree make the same note
pub note_same : (station : List ℕ) (kind : NoteKind) (test other : ℕ → Bool)
    → ((n : ℕ) → n < 36525 → test n ≡ other n)
    → note_on station kind test ≡ note_on station kind other
note_same station kind test other same =
    ap₂ (λ (count : ℕ) (ends : Option (ℕ × ℕ)). by_parts count ends) (counts_same test other same)
    (ends_same test other same)
  where
    by_parts : ℕ → Option (ℕ × ℕ) → List StationNote
    by_parts count ends =
        map (λ (days : ℕ × ℕ). record {
          station = station;
          kind = kind;
          dates = count;
          first = days.0;
          last = days.1;
        }) (option_to_list ends)

-- no date makes no note
no_note : (station : List ℕ) (kind : NoteKind) → note_on station kind (λ n. false) ≡ []
no_note station kind =
    ap (λ (b : Bool). map (λ (days : ℕ × ℕ). the_note days)
    (option_to_list (ends_of (λ n. false) b)))
    (any_none (λ n. false) 0 day_count (λ n lt. refl))
  where
    the_note : ℕ × ℕ → StationNote
    the_note days = record {
      station = station;
      kind = kind;
      dates = count_by (λ n. false) calendar;
      first = days.0;
      last = days.1;
    }

-- no end makes no note
pub no_notes : (station : List ℕ) (rows : List Row) (ends : List DatedEnd)
    (notes : List StationNote)
    → ends ≡ [] → notes ≡ notes ++ notes_on station (λ kind. is_marked station kind rows ends)
no_notes station rows ends notes none =
    sym (append-nil notes)
    ∙ ap (λ (l : List StationNote). notes ++ l)
    (sym (ap
    (λ (es : List DatedEnd). notes_on station (λ kind. is_marked station kind rows es)) none
    ∙ ap₂ (λ (a b : List StationNote). a ++ b) (no_note station Missing) (no_note station Other)))

pub empty_is : {A : Type 0} (xs : List A) → (length xs == 0) ≡ true → xs ≡ []
empty_is [] h = refl
empty_is (x ∷ xs) h = absurd (more (length xs) h)
  where
    more : (n : ℕ) → (suc n == 0) ≡ true → ⊥
    more n t = let bad : suc n ≡ 0 = grind (arith, nat_tests) in omega arith

-- the note of a first and a last date, and how many there are
pub some_note : (station : List ℕ) (kind : NoteKind) (test : ℕ → Bool) (days : ℕ × ℕ) (count : ℕ)
    → Some days ≡ ends_of test (list_any test calendar) → count ≡ count_by test calendar
    → record { station = station; kind = kind; dates = count; first = days.0; last = days.1 } ∷ []
    ≡ note_on station kind test
some_note station kind test days count are is =
    ap₂ (λ (n : ℕ) (ends : Option (ℕ × ℕ)). by_parts n ends) is are
  where
    by_parts : ℕ → Option (ℕ × ℕ) → List StationNote
    by_parts n ends =
        map (λ (days : ℕ × ℕ). record {
          station = station;
          kind = kind;
          dates = n;
          first = days.0;
          last = days.1;
        }) (option_to_list ends)

-- the notes of both kinds by marks
pub two_notes : (station s : List ℕ) (rows : List Row) (ends : List DatedEnd)
    (one other : List Bool)
    (old mid new : List StationNote) → s ≡ station
    → ((n : ℕ) → n < 36525 → get_or one n false ≡ is_marked s Missing rows ends n)
    → ((n : ℕ) → n < 36525 → get_or other n false ≡ is_marked s Other rows ends n)
    → mid ≡ old ++ note_on s Missing (λ n. get_or one n false)
    → new ≡ mid ++ note_on s Other (λ n. get_or other n false)
    → new ≡ old ++ notes_on station (λ kind. is_marked station kind rows ends)
two_notes station s rows ends one other old mid new is a b first last =
    last ∙ ap (λ (l : List StationNote). l ++ note_on s Other (λ n. get_or other n false)) first
    ∙ append_assoc old (note_on s Missing (λ n. get_or one n false))
    (note_on s Other (λ n. get_or other n false))
    ∙ ap (λ (l : List StationNote). old ++ l)
    (ap₂ (λ (x y : List StationNote). x ++ y)
    (note_same s Missing (λ n. get_or one n false) (is_marked s Missing rows ends) a)
    (note_same s Other (λ n. get_or other n false) (is_marked s Other rows ends) b)
    ∙ ap (λ (t : List ℕ). notes_on t (λ kind. is_marked t kind rows ends)) is)

-- ---- the rows of a station

-- the variation of a station by its rows alone
variation_about : (s : List ℕ) (n : ℕ) (rows : List Row)
    → variation_at (rows_about s rows) s n ≡ variation_at rows s n
variation_about s n [] = refl
variation_about s n (row ∷ rows) = by (variation_about s n rows) (bytes_eq row.station s) refl
  where
    inside : Bool
    inside = nat_le row.first n && nat_le n row.last

    first_of : Bool → Option Offset → Option Offset
    first_of covered later = if covered then Some row.variation else later

    by : variation_at (rows_about s rows) s n ≡ variation_at rows s n → (b : Bool)
        → bytes_eq row.station s ≡ b
        → variation_at (if b then row ∷ rows_about s rows else rows_about s rows) s n
        ≡ first_of (b && inside) (variation_at rows s n)
    by rest true e =
        ap (λ (b : Bool). first_of (b && inside) (variation_at (rows_about s rows) s n)) e
        ∙ ap (first_of inside) rest
    by rest false e = rest

no_other : (kind : NoteKind) (v : Offset) (end : LegEnd) → not (says_other v end) ≡ true
    → gives_note kind (Some v) end ≡ false
no_other Missing v end h = refl
no_other Other v end h = off (says_other v end) h
  where
    off : (b : Bool) → not b ≡ true → b ≡ false
    off true t = absurd cc
    off false t = refl

and_left : (a b : Bool) → (a && b) ≡ true → a ≡ true
and_left true b h = refl
and_left false b h = absurd cc

and_right : (a b : Bool) → (a && b) ≡ true → b ≡ true
and_right true b h = h
and_right false b h = absurd cc

-- a quiet end gives no note on a day of its period
quiet_notes : (s : List ℕ) (kind : NoteKind) (p : DayRange) (end : LegEnd) (n : ℕ)
    → p.first ≤ n → n ≤ p.last → (rows : List Row) → is_quiet (rows_about s rows) p end ≡ true
    → gives_note kind (variation_at rows s n) end ≡ false
quiet_notes s kind p end n from to [] h = absurd cc
quiet_notes s kind p end n from to (row ∷ rows) h =
    by (quiet_notes s kind p end n from to rows) (bytes_eq row.station s) h
  where
    inside : Bool
    inside = nat_le row.first n && nat_le n row.last

    beside : is_beside row p ≡ true → inside ≡ false
    beside e = grind (arith, nat_tests)

    around : is_around row p ≡ true → inside ≡ true
    around e = grind (arith, nat_tests)

    here : (is_quiet (rows_about s rows) p end ≡ true
        → gives_note kind (variation_at rows s n) end ≡ false)
        → (b : Bool) → is_beside row p ≡ b
        → (if b then is_quiet (rows_about s rows) p end
        else is_around row p && not (says_other row.variation end)) ≡ true
        → gives_note kind (if inside then Some row.variation else variation_at rows s n) end ≡ false
    here rest true e t =
        ap (λ (i : Bool). gives_note kind
        (if i then Some row.variation else variation_at rows s n) end) (beside e)
        ∙ rest t
    here rest false e t =
        ap (λ (i : Bool). gives_note kind
        (if i then Some row.variation else variation_at rows s n) end)
        (around (and_left (is_around row p) (not (says_other row.variation end)) t))
        ∙ no_other kind row.variation end
        (and_right (is_around row p) (not (says_other row.variation end)) t)

    by : (is_quiet (rows_about s rows) p end ≡ true
        → gives_note kind (variation_at rows s n) end ≡ false)
        → (b : Bool)
        → is_quiet (if b then row ∷ rows_about s rows else rows_about s rows) p end ≡ true
        → gives_note kind (if b && inside then Some row.variation else variation_at rows s n) end
        ≡ false
    by rest true t = here rest (is_beside row p) refl t
    by rest false t = rest t

-- ---- the ends of a station

module _ (s : List ℕ) (kind : NoteKind) (rows : List Row) (n : ℕ) where
  abbrev noted : LegEnd → Bool
  noted end = bytes_eq end.station s && gives_note kind (variation_at rows s n) end

  abbrev marks : DatedEnd → Bool
  marks e = holds e.0 n && gives_note kind (variation_at (rows_about s rows) s n) e.1

  -- an end is kept and marks a day exactly if its period holds the day and it gives a note
  one_end : (e : DatedEnd)
      → (is_kept s (rows_about s rows) e && marks e) ≡ (holds e.0 n && noted e.1)
  one_end e =
      ap (λ (o : Option Offset).
      is_kept s (rows_about s rows) e && (holds e.0 n && gives_note kind o e.1))
      (variation_about s n rows)
      ∙ by (holds e.0 n) refl
    where
      gives : Bool
      gives = gives_note kind (variation_at rows s n) e.1

      off : (b : Bool) → (b && false) ≡ false
      off true = refl
      off false = refl

      parts : holds e.0 n ≡ true → (nat_le e.0.first n ≡ true) × (nat_le n e.0.last ≡ true)
      parts h =
          let range = and_left (nat_le e.0.first n && nat_le n e.0.last) _ h in (
            and_left (nat_le e.0.first n) (nat_le n e.0.last) range,
            and_right (nat_le e.0.first n) (nat_le n e.0.last) range,
          )

      kept : holds e.0 n ≡ true → (q : Bool) → is_quiet (rows_about s rows) e.0 e.1 ≡ q
          → ((bytes_eq e.1.station s && (nat_le e.0.first e.0.last && not q)) && gives)
          ≡ (bytes_eq e.1.station s && gives)
      kept h true quiet =
          let range = parts h in let first = range.0 in let last = range.1 in
          let from : e.0.first ≤ n = grind (arith, nat_tests) in
          let to : n ≤ e.0.last = grind (arith, nat_tests) in
          let none : gives ≡ false = quiet_notes s kind e.0 e.1 n from to rows quiet in
          ap (λ (b : Bool).
          (bytes_eq e.1.station s && (nat_le e.0.first e.0.last && false)) && b) none
          ∙ off (bytes_eq e.1.station s && (nat_le e.0.first e.0.last && false))
          ∙ sym (ap (λ (b : Bool). bytes_eq e.1.station s && b) none ∙ off (bytes_eq e.1.station s))
      kept h false quiet =
          let range = parts h in let first = range.0 in let last = range.1 in
          let ordered : nat_le e.0.first e.0.last ≡ true = grind (arith, nat_tests) in
          ap (λ (b : Bool). (bytes_eq e.1.station s && (b && true)) && gives) ordered
          ∙ ap (λ (b : Bool). b && gives) (on (bytes_eq e.1.station s))
        where
          on : (b : Bool) → (b && true) ≡ b
          on true = refl
          on false = refl

      by : (h : Bool) → holds e.0 n ≡ h
          → (is_kept s (rows_about s rows) e && (h && gives))
          ≡ (h && (bytes_eq e.1.station s && gives))
      by true h = kept h (is_quiet (rows_about s rows) e.0 e.1) refl
      by false h = off (is_kept s (rows_about s rows) e)

  -- the ends that are kept mark the days on which an end gives a note
  pub kept_mark : (ends : List DatedEnd)
      → is_marked s kind (rows_about s rows) (filter (is_kept s (rows_about s rows)) ends) n
      ≡ list_any noted (held_on ends n)
  kept_mark [] = refl
  kept_mark (e ∷ ends) =
      left (is_kept s (rows_about s rows) e)
      ∙ ap₂ (λ (a b : Bool). a || b) (one_end e) (kept_mark ends)
      ∙ right (holds e.0 n)
    where
      some : List DatedEnd
      some = filter (is_kept s (rows_about s rows)) ends

      left : (b : Bool)
          → is_marked s kind (rows_about s rows) (if b then e ∷ some else some) n
          ≡ ((b && marks e) || is_marked s kind (rows_about s rows) some n)
      left true = refl
      left false = refl

      right : (b : Bool)
          → ((b && noted e.1) || list_any noted (held_on ends n))
          ≡ list_any noted (if b then e.1 ∷ held_on ends n else held_on ends n)
      right true = refl
      right false = refl

two_held : (a b : LegEnd) (held on : List LegEnd) (h : Bool) → held ≡ on
    → (if h then a ∷ (if h then b ∷ held else held) else (if h then b ∷ held else held))
    ≡ (if h then a ∷ b ∷ on else on)
two_held a b held on true e = ap (λ (l : List LegEnd). a ∷ b ∷ l) e
two_held a b held on false e = e

-- the ends of records on a day
ends_held : (records : List Record) (n : ℕ) → held_on (records_ends records) n ≡ ends_on records n
ends_held [] n = refl
ends_held (Header r ∷ later) n = ends_held later n
ends_held (Carrier r ∷ later) n = ends_held later n
ends_held (Segment r ∷ later) n = ends_held later n
ends_held (Trailer r ∷ later) n = ends_held later n
ends_held (Leg r ∷ later) n =
    two_held (departure_end r) (arrival_end r) (held_on (records_ends later) n) (ends_on later n)
    (holds (period_of r) n) (ends_held later n)

-- ---- all stations

module _ (records : List Record) (rows : List Row) (table : List (List Row))
    (lists : List (List DatedEnd))
    (are_rows : AreByStation rows table)
    (are_ends : AreEnds table (records_ends records) lists) where
  marked_is : (k : ℕ) → k < 17576 → (kind : NoteKind) (n : ℕ)
      → is_marked (station_at k) kind (get_or table k []) (get_or lists k []) n
      ≡ is_noted records rows (station_at k) kind n
  marked_is k lt kind n =
      ap (λ (l : List DatedEnd). is_marked (station_at k) kind (get_or table k []) l n)
      (are_ends.each k lt)
      ∙ ap (λ (t : List Row). is_marked (station_at k) kind t
      (filter (is_kept (station_at k) t) (records_ends records)) n)
      (are_rows.each k lt)
      ∙ kept_mark (station_at k) kind rows n (records_ends records)
      ∙ ap (list_any (noted (station_at k) kind rows n)) (ends_held records n)

  rank_is : (k : ℕ) → k < 17576
      → rank_notes table lists k ≡ notes_on (station_at k) (is_noted records rows (station_at k))
  rank_is k lt = ap₂ (λ (a b : List StationNote). a ++ b)
      (note_same (station_at k) Missing
      (is_marked (station_at k) Missing (get_or table k []) (get_or lists k []))
      (is_noted records rows (station_at k) Missing) (λ n within. marked_is k lt Missing n))
      (note_same (station_at k) Other
      (is_marked (station_at k) Other (get_or table k []) (get_or lists k []))
      (is_noted records rows (station_at k) Other) (λ n within. marked_is k lt Other n))

  ranks_are : (a count : ℕ) → a + count ≤ 17576
      → flat_map (rank_notes table lists) (range_with_len a count)
      ≡ flat_map (λ station. notes_on station (is_noted records rows station))
      (map station_at (range_with_len a count))
  ranks_are a zero within = refl
  ranks_are a (suc count) within =
      ap₂ (λ (x y : List StationNote). x ++ y) (rank_is a (omega arith))
      (ranks_are (a + 1) count (omega arith))

  -- the notes by ranks are the notes on all stations
  pub notes_are : (notes : List StationNote) (end : ℕ) → end ≡ 17576
      → notes ≡ flat_map (rank_notes table lists) (range_with_len 0 end)
      → notes ≡ station_notes records rows
  notes_are notes end done are =
      are ∙ ranks_are 0 end (omega arith)
      ∙ ap (λ (n : ℕ). flat_map (λ station. notes_on station (is_noted records rows station))
      (map station_at (range_with_len 0 n)))
      (done ∙ sym limit_is)
