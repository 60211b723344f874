-- The rows of flights, flight by flight and piece by piece, are those of their legs.
use Rattle.std.proofs.Common.{◌≡◌, ◌∙◌, ℕ, List, [], ◌∷◌, ◌++◌, ap, ap₂, codes, drop, length, map}
use Rattle.std.proofs.Common.{refl, sym}
use Rattle.std.proofs.lemmas.Grind.{flat_map-append}
use Rattle.std.proofs.lemmas.List.{map-append}
use Rattle.std.specs.List.{flat_map, zip}
use Rattle.ssim_values.specs.Flight.{FlightNumber}
use Rattle.ssim_values.specs.Period.{DayRange}
use Rattle.ssim_values.specs.declared.time_mode.TimeMode.{TimeMode}
use Rattle.ssim_base.specs.Export.{Piece}
use Rattle.ssim_base.specs.Timetable.{Legs}
use Rattle.ssim_base.specs.declared.sub_message.ResolvedSub.{ResolvedSub}
use Rattle.ssim_held.specs.Entries.{Entry}
use Rattle.ssim_desk.specs.declared.finding_line.FindingLine.{FindingLine}
use Rattle.ssim_difference.specs.Differences.{Compared, DifferencePiece}
use Rattle.ssim_listing.specs.Lines.{flight_name}
use Rattle.ssim_schedule.specs.FlightPieces.{Divided}
use Rattle.ssim_sql.specs.ChangeRows.{SideLeg, both_legs, change_legs, change_row, change_rows}
use Rattle.ssim_sql.specs.ChangeRows.{side_legs}
use Rattle.ssim_sql.specs.LegRows.{RowsOfLeg, flight_rows, piece_legs, rows_of_leg}
use Rattle.ssim_sql.specs.Messages.{sub_message_rows, sub_row, subs_found}
use Rattle.ssim_sql.specs.internal.SubRows.{rows_of_subs, sub_rows}
use Rattle.ssim_sql.specs.internal.Rows.{both_rows, differing_rows, one_side_row, piece_rows}
use Rattle.ssim_sql.specs.internal.Rows.{pieces_rows}

-- what is made of lists that are joined
joined_rows : {X K L : Type 0} (rows : K → List L) (parts : X → List K) (own : X → List L)
    (xs : List X) → ((x : X) → own x ≡ flat_map rows (parts x))
    → flat_map own xs ≡ flat_map rows (flat_map parts xs)
joined_rows rows parts own [] same = refl
joined_rows {X} {K} {L} rows parts own (x ∷ xs) same =
    ap₂ (λ (one more : List L). one ++ more) (same x) (joined_rows rows parts own xs same)
    ∙ sym (flat_map-append rows (parts x) (flat_map parts xs))

module _ (rows : RowsOfLeg) (name : List ℕ) (mode : TimeMode) (airline : List ℕ) where
  of_piece : (flight : FlightNumber) (piece : Piece)
      → piece_rows rows name mode (flight_name airline flight) piece
      ≡ flat_map (rows_of_leg rows name mode airline) (piece_legs flight piece)
  of_piece flight piece = by piece.1
    where
      by : (legs : Legs) → piece_rows rows name mode (flight_name airline flight) (piece.0, legs)
          ≡ flat_map (rows_of_leg rows name mode airline) (piece_legs flight (piece.0, legs))
      by [] = refl
      by (leg ∷ legs) =
          ap (λ (more : List (List ℕ)).
          rows name mode (flight_name airline flight) piece.0 leg ++ more)
          (by legs)

  of_flight : (flight : Divided) → pieces_rows rows name mode airline flight
      ≡ flat_map (rows_of_leg rows name mode airline) (flat_map (piece_legs flight.0) flight.1)
  of_flight flight =
      joined_rows (rows_of_leg rows name mode airline) (piece_legs flight.0)
      (piece_rows rows name mode (flight_name airline flight.0)) flight.1 (of_piece flight.0)

  pub of_flights : (flights : List Divided) → flat_map (pieces_rows rows name mode airline) flights
      ≡ flight_rows rows name mode airline flights
  of_flights flights =
      joined_rows (rows_of_leg rows name mode airline)
      (λ flight. flat_map (piece_legs flight.0) flight.1) (pieces_rows rows name mode airline) flights
      of_flight

-- ---- of flights that differ

module _ (name : List ℕ) (mode : TimeMode) (airline : List ℕ) where
  abbrev one : SideLeg → List (List ℕ)
  one it = change_row name mode airline it ∷ []

  of_side : (side : List ℕ) (flight : FlightNumber) (period : DayRange) (legs : Legs)
      → piece_rows (one_side_row side) name mode (flight_name airline flight) (period, legs)
      ≡ flat_map one (side_legs side flight (period, legs))
  of_side side flight period [] = refl
  of_side side flight period (leg ∷ legs) =
      ap (λ (more : List (List ℕ)).
      one_side_row side name mode (flight_name airline flight) period leg ++ more)
      (of_side side flight period legs)

  of_both : (flight : FlightNumber) (piece : DifferencePiece)
      → both_rows name mode (flight_name airline flight) piece ≡ flat_map one (both_legs flight piece)
  of_both flight piece =
      let old = side_legs (codes "old") flight (piece.0, piece.1.old) in
      let new = side_legs (codes "new") flight (piece.0, piece.1.new) in
      ap₂ (λ (one more : List (List ℕ)). one ++ more)
      (of_side (codes "old") flight piece.0 piece.1.old)
      (of_side (codes "new") flight piece.0 piece.1.new)
      ∙ sym (flat_map-append one old new)

  of_differing : (flight : Compared) → differing_rows name mode airline flight
      ≡ flat_map one (flat_map (both_legs flight.0) flight.1)
  of_differing flight =
      joined_rows one (both_legs flight.0)
      (both_rows name mode (flight_name airline flight.0)) flight.1
      (of_both flight.0)

  single : (its : List SideLeg) → flat_map one its ≡ map (change_row name mode airline) its
  single [] = refl
  single (it ∷ its) =
      ap (λ (more : List (List ℕ)). change_row name mode airline it ∷ more) (single its)

  pub of_changes : (changes : List Compared) → flat_map (differing_rows name mode airline) changes
      ≡ change_rows name mode airline changes
  of_changes changes =
      joined_rows one (λ flight. flat_map (both_legs flight.0) flight.1)
      (differing_rows name mode airline) changes of_differing
      ∙ single (change_legs changes)

-- ---- of sub-messages

of_dates : (name : List ℕ) (dates : List ResolvedSub) (findings : List FindingLine)
    → sub_rows name dates findings ≡ map (λ it. sub_row name it.0 it.1) (zip dates findings)
of_dates name [] findings = refl
of_dates name (dated ∷ dates) [] = refl
of_dates name (dated ∷ dates) (found ∷ findings) =
    ap (λ (rows : List (List ℕ)). sub_row name dated found ∷ rows) (of_dates name dates findings)

pub of_subs : (name : List ℕ) (entries : List Entry) (findings : List FindingLine)
    → rows_of_subs name entries findings ≡ sub_message_rows name entries findings
of_subs name [] findings = refl
of_subs name (e ∷ entries) findings =
    let later = drop (length e.dates) findings in
    ap₂ (λ (one more : List (List ℕ)). one ++ more) (of_dates name e.dates findings)
    (of_subs name entries later)
    ∙ sym (map-append (λ (it : ResolvedSub × FindingLine). sub_row name it.0 it.1)
    (zip e.dates findings) (subs_found entries later))
