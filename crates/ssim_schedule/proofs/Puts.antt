-- The lines of an export in the parts in which they are put, and how many there are.
use Rattle.std.proofs.Common.{◌≡◌, ℕ, suc, ◌+◌, ◌-◌, List, [], ◌∷◌, ◌++◌, map, length, replicate}
use Rattle.std.proofs.Common.{append_assoc, length-append, refl, sym, ap, ap₂, ◌∙◌, arith}
use Rattle.std.specs.Prelude.{slice_index}
use Rattle.std.specs.List.{flat_map}
use Rattle.std.proofs.lemmas.List.{length-map}
use Rattle.ssim_values.specs.Flight.{FlightNumber}
use Rattle.ssim_values.specs.Period.{DayRange}
use Rattle.ssim_records.specs.Frames.{fill}
use Rattle.ssim_records.specs.Leg.{Name, exported_leg, written_leg}
use Rattle.ssim_records.specs.Record.{written}
use Rattle.ssim_records.specs.Segment.{exported_segment, written_segment}
use Rattle.ssim_records.specs.Header.{HeaderFields}
use Rattle.ssim_records.specs.Carrier.{CarrierFields}
use Rattle.ssim_records.specs.Trailer.{TrailerFields}
use Rattle.ssim_records.specs.declared.record.Record.{Record}
use Rattle.ssim_records.specs.declared.record.Record.TheVariants.{Header, Carrier, Trailer}
use Rattle.ssim_base.specs.Timetable.{LegValue, Legs}
use Rattle.ssim_base.specs.Export.{Piece, fill_count, leg_records, line, numbered, pieces_records}
use Rattle.ssim_base.specs.Export.{section_bytes, tail_record, with_serial}
use Rattle.ssim_base.specs.clauses.Export.{frame_from}
use Rattle.ssim_schedule.specs.FlightPieces.{Divided}
use Rattle.ssim_schedule.specs.internal.Plan.{alone_bytes, leg_lines, numbered_lines, piece_lines, pieces_count, plan_bytes, plan_count, plan_lines, plan_records, tail_lines}
use Rattle.ssim_schedule.specs.internal.SharedLegs.{legs_count}
use Rattle.ssim_base.proofs.SinkLemmas.{one_section}

-- ---- how many

legs-counted : (a : List ℕ) (f : FlightNumber) (v : ℕ) (p : DayRange) (legs : Legs)
    → length (flat_map (leg_records a f v p) legs) ≡ legs_count legs
legs-counted a f v p [] = refl
legs-counted a f v p (l ∷ legs) =
    let named : Name = record { airline = a; flight = f; variation = v; sequence = l.sequence } in
    let tails = length-map l.tails (tail_record named (slice_index l.columns 0)) in
    let leg : length (leg_records a f v p l) ≡ 1 + length l.tails = omega (arith, tails) in
    length-append (leg_records a f v p l) (flat_map (leg_records a f v p) legs)
    ∙ ap₂ (λ (m n : ℕ). m + n) leg (legs-counted a f v p legs)

pub pieces-counted : (a : List ℕ) (f : FlightNumber) (v : ℕ) (pieces : List Piece)
    → length (pieces_records a f v pieces) ≡ pieces_count pieces
pieces-counted a f v [] = refl
pieces-counted a f v (p ∷ pieces) =
    length-append (flat_map (leg_records a f v p.0) p.1) (pieces_records a f (v + 1) pieces)
    ∙ ap₂ (λ (m n : ℕ). m + n) (legs-counted a f v p.0 p.1) (pieces-counted a f (v + 1) pieces)

plan-counted : (a : List ℕ) (plan : List Divided) → length (plan_records a plan) ≡ plan_count plan
plan-counted a [] = refl
plan-counted a (p ∷ plan) =
    length-append (pieces_records a p.0 1 p.1) (plan_records a plan)
    ∙ ap₂ (λ (m n : ℕ). m + n) (pieces-counted a p.0 1 p.1) (plan-counted a plan)

numbered-counted : (n : ℕ) (rs : List Record) → length (numbered n rs) ≡ length rs
numbered-counted n [] = refl
numbered-counted n (r ∷ rs) = ap suc (numbered-counted (n + 1) rs)

-- ---- the first of the parts that are left, and the others

lines-split : (n next : ℕ) (xs rest : List Record) → next ≡ n + length xs
    → numbered_lines n (xs ++ rest) ≡ numbered_lines n xs ++ numbered_lines next rest
lines-split n next [] rest is =
    let same : n ≡ next = omega arith in ap (λ m. numbered_lines m rest) same
lines-split n next (x ∷ xs) rest is =
    let first = line (written (with_serial n x)) in
    ap (λ bs. first ++ bs) (lines-split (n + 1) next xs rest (omega arith))
    ∙ sym (append_assoc first (numbered_lines (n + 1) xs) (numbered_lines next rest))

pub tails-split : {left rest : List (List ℕ)} {tail : List ℕ} (name : Name) (columns : List ℕ)
    (n : ℕ) → left ≡ tail ∷ rest → tail_lines name columns n left
    ≡ line (written_segment (exported_segment name (slice_index columns 0) tail n))
    ++ tail_lines name columns (n + 1) rest
tails-split name columns n is = ap (tail_lines name columns n) is

-- a leg's line, the lines of its tails, and then the others
pub legs-split : {left rest : Legs} {l : LegValue} {name : Name} {p days : DayRange}
    {columns : List ℕ} {tails : List (List ℕ)} {s next : ℕ} (a : List ℕ) (f : FlightNumber)
    (v n : ℕ) → left ≡ l ∷ rest
    → name ≡ record { airline = a; flight = f; variation = v; sequence = s } → s ≡ l.sequence
    → days ≡ p → columns ≡ l.columns → tails ≡ l.tails → next ≡ (n + 1) + length tails
    → leg_lines a f v p n left ≡ line (written_leg (exported_leg name days columns n))
    ++ (tail_lines name columns (n + 1) tails ++ leg_lines a f v p next rest)
legs-split {left} {rest} {l} {p = p} {next = next} a f v n is names place dates own its count =
    let named : Name = record { airline = a; flight = f; variation = v; sequence = l.sequence } in
    let records = map (tail_record named (slice_index l.columns 0)) l.tails in
    let many : length records ≡ length l.tails = length-map l.tails _ in
    let same : next ≡ (n + 1) + length records = omega (arith, ap length its) in
    rw (names, place, dates, own, its) (ap (leg_lines a f v p n) is
    ∙ ap (λ bs. line (written_leg (exported_leg named p l.columns n)) ++ bs)
    (lines-split (n + 1) next records (flat_map (leg_records a f v p) rest) same))

pub pieces-split : {left rest : List Piece} {p : Piece} {legs : Legs} {next : ℕ} (a : List ℕ)
    (f : FlightNumber) (v n : ℕ) → left ≡ p ∷ rest → legs ≡ p.1 → next ≡ n + legs_count legs
    → piece_lines a f v n left ≡ leg_lines a f v p.0 n legs ++ piece_lines a f (v + 1) next rest
pieces-split {left} {rest} {p} {legs} {next} a f v n is its count =
    let many = legs-counted a f v p.0 p.1 in
    let same : next ≡ n + length (flat_map (leg_records a f v p.0) p.1) =
    omega (arith, ap legs_count its) in
    rw its (ap (piece_lines a f v n) is
    ∙ lines-split n next _ (pieces_records a f (v + 1) rest) same)

pub flights-split : {left rest : List Divided} {p : Divided} {flight : FlightNumber}
    {pieces : List Piece} {next : ℕ} (a : List ℕ) (n : ℕ) → left ≡ p ∷ rest → flight ≡ p.0
    → pieces ≡ p.1 → next ≡ n + pieces_count pieces
    → plan_lines a n left ≡ piece_lines a flight 1 n pieces ++ plan_lines a next rest
flights-split {left} {rest} {p} {flight} {pieces} {next} a n is number its count =
    let many = pieces-counted a p.0 1 p.1 in
    let same : next ≡ n + length (pieces_records a p.0 1 p.1) =
    omega (arith, ap pieces_count its) in
    rw (number, its) (ap (plan_lines a n) is ∙ lines-split n next _ (plan_records a rest) same)

-- the third section
pub body-split : {count : ℕ} (a : List ℕ) (plan : List Divided) → count ≡ plan_count plan
    → section_bytes (numbered 3 (plan_records a plan))
    ≡ plan_lines a 3 plan ++ flat_map line (replicate (fill_count count) fill)
body-split a plan is =
    ap (λ (k : ℕ). plan_lines a 3 plan ++ flat_map line (replicate (fill_count k) fill))
    (numbered-counted 3 (plan_records a plan) ∙ plan-counted a plan ∙ sym is)

-- ---- the sections

pub alone-split : (one : Record)
    → alone_bytes one ≡ line (written one) ++ flat_map line (replicate 4 fill)
unfolding alone_bytes
alone-split one = one_section one

-- the four sections, and the next serial
pub four_sections : {h : HeaderFields} {c : CarrierFields} {t : TrailerFields} {a : List ℕ}
    {next : ℕ} (header : HeaderFields) (carrier : CarrierFields) (trailer : TrailerFields)
    (plan : List Divided) → h ≡ record header { serial = 1 } → c ≡ record carrier { serial = 2 }
    → a ≡ carrier.airline → next ≡ 3 + plan_count plan
    → t ≡ record trailer { check = next - 1; serial = next }
    → plan_bytes (frame_from header carrier trailer) plan
    ≡ alone_bytes (Header h) ++ (alone_bytes (Carrier c)
    ++ (section_bytes (numbered 3 (plan_records a plan)) ++ (alone_bytes (Trailer t) ++ [])))
unfolding plan_bytes alone_bytes
four_sections {next = next} header carrier trailer plan header_is carrier_is airline_is is it =
    let records = plan_records carrier.airline plan in
    let many = plan-counted carrier.airline plan in
    let check : 2 + length records ≡ next - 1 = omega (arith, is) in
    let last : 3 + length records ≡ next = omega (arith, is) in
    let whole = λ (check serial : ℕ). section_bytes (Header (record header { serial = 1 }) ∷ [])
    ++ (section_bytes (Carrier (record carrier { serial = 2 }) ∷ [])
    ++ (section_bytes (numbered 3 records)
    ++ (section_bytes (Trailer (record trailer { check = check; serial = serial }) ∷ []) ++ []))) in
    rw (header_is, carrier_is, airline_is, it) (ap₂ whole check last)
