-- The law on bytes: the bytes are lines of records that have a spelling and of fill, which the
-- crate of records reads back, and the law on records says the rest.
use Rattle.std.proofs.Common.{arith, ◌≡◌, ℕ, ◌+◌, false, List, [], ◌∷◌, ◌++◌, map, length, Ok, refl, sym, ap, subst, ◌∙◌}
use Rattle.ssim_records.specs.Frames.{Frames}
use Rattle.ssim_records.specs.Record.{block_of, WrittenIsFramed, WrittenSpells}
use Rattle.ssim_records.specs.declared.record.Record.{Record}
use Rattle.ssim_records.specs.declared.record.Record.TheVariants.{Header, Carrier, Trailer}
use Rattle.ssim_records.specs.Header.{HeaderFields}
use Rattle.ssim_records.specs.Carrier.{CarrierFields}
use Rattle.ssim_records.specs.Trailer.{TrailerFields}
use Rattle.ssim_values.specs.Flight.{FlightNumber}
use Rattle.ssim_base.specs.Timetable.{Days, itinerary}
use Rattle.ssim_base.specs.Base as base
use Rattle.ssim_base.specs.declared.note.Note.{Note}
use Rattle.ssim_base.specs.Base.{Done, Outcome, first_refusal, kept_all, notes_of, data_set}
use Rattle.ssim_base.specs.Export.{Frame, all_flights, flights_records, sections, export_refusal, chapter7_records, export_bytes, result_map}
use Rattle.ssim_base.specs.ReadBack.{IsFrame, IsTimetable, EachSpells, HasFrame, kept_frame}
use Rattle.ssim_base.specs.ReadBack.{BytesReadBack, ExportsAreOne, IsExport}
use Rattle.ssim_base.specs.clauses.ReadBack.{records_of, base_of, items_of}
use Rattle.ssim_base.proofs.ExportLaws.{BytesDetermine, ReadOnce, SameBytes}
use Rattle.ssim_base.proofs.Whole.{exported, base-frame, reads_back, exports_again, same_export}
use Rattle.ssim_base.proofs.Calendars.{same-days}
use Rattle.ssim_base.proofs.Stands.{stands}
use Rattle.ssim_base.proofs.Lines.{records_at, export-lines, records-numbered, each-spells, from_sections}
use Rattle.ssim_base.proofs.Valid.{export-valid}
use Rattle.ssim_base.proofs.Notes.{Counted, no_notes, sections-counted}

abbrev stood : List Record → List Note → Outcome
stood records notes = Ok (records, notes)

-- the base of an export's records has nothing noted
data_set-is : (frame : Frame) (days : FlightNumber → Days) (s : List (List Record)) (number : ℕ) → IsFrame frame → IsTimetable days
    → chapter7_records frame days ≡ Ok s → data_set (Done number) (records_at 0 (items_of s)) ≡ stood (base_of (records_of s)) []
data_set-is frame days s number frame_is is h =
    let a = frame.carrier.airline in
    let body = flights_records a days all_flights in
    let records = records_at 0 (items_of s) in
    let counted : Counted 0 (map (λ r. r.1) records) =
    subst (λ rs. Counted 0 rs) (ap records_of (exported (export_refusal a days 2 all_flights) (sections frame body) s h) ∙ sym (records-numbered s)) (sections-counted frame a days all_flights) in
    ap (λ o. base.unless_refused o (kept_all [] (map (λ r. r.1) records), notes_of 0 records)) (stands frame days s frame_is is h number records (records-numbered s))
    ∙ ap (λ rs. stood (kept_all [] rs) (notes_of 0 records)) (records-numbered s)
    ∙ ap (λ notes. stood (base_of (records_of s)) notes) (no_notes 0 records counted)

pub bytes_read_back : WrittenIsFramed → WrittenSpells → BytesReadBack
bytes_read_back framed spells frame days bytes is =
    let from = from_sections (chapter7_records frame days) bytes is.written in
    let s = from.0 in
    let items = items_of s in
    let valid = export-valid frame days s is.frame_writable is.timetable is.legs from.1 in
    let read = framed items valid in
    let count = length (map block_of items) in
    record {
      count = count;
      records = records_at 0 items;
      base = base_of (records_of s);
      read = record {
        blocks = map block_of items;
        framed = subst (λ b. Frames 0 false b (map block_of items) []) (export-lines s ∙ from.2) read.0;
        counted = refl;
        spelled = subst (λ blocks. EachSpells blocks (records_at 0 items)) (sym read.1) (each-spells spells 0 items valid);
      };
      valid = data_set-is frame days s (count + 1) is.frame_is is.timetable from.1;
      frame_is = base-frame frame days s from.1;
      same = reads_back frame days s is.timetable from.1;
      again = ap (λ r. result_map export_bytes r) (exports_again frame days s is.timetable from.1) ∙ ap (λ b. Ok b) from.2;
    }

-- ---- equal bytes

last-same : (xs ys : List Record) (a b : Record) → xs ++ a ∷ [] ≡ ys ++ b ∷ [] → a ≡ b
last-same [] [] a b h = cc
last-same [] (y ∷ []) a b h = absurd cc
last-same [] (y ∷ z ∷ ys) a b h = absurd cc
last-same (x ∷ []) [] a b h = absurd cc
last-same (x ∷ z ∷ xs) [] a b h = absurd cc
last-same (x ∷ xs) (y ∷ ys) a b h = last-same xs ys a b cc

abbrev frame_from : HeaderFields → CarrierFields → TrailerFields → Frame
frame_from h c t = record { header = h; carrier = c; trailer = t }

pub same-frame : (frame other : Frame) (base these : List Record) → base ≡ these → HasFrame frame base → HasFrame other these → frame ≡ other
same-frame frame other base these same f g =
    let all : Header frame.header ∷ Carrier frame.carrier ∷ (f.0 ++ Trailer frame.trailer ∷ []) ≡ Header other.header ∷ Carrier other.carrier ∷ (g.0 ++ Trailer other.trailer ∷ []) = sym f.1 ∙ same ∙ g.1 in
    let header : frame.header ≡ other.header = cc in
    let carrier : frame.carrier ≡ other.carrier = cc in
    let rest : f.0 ++ Trailer frame.trailer ∷ [] ≡ g.0 ++ Trailer other.trailer ∷ [] = cc in
    let last : Trailer frame.trailer ≡ Trailer other.trailer = last-same f.0 g.0 (Trailer frame.trailer) (Trailer other.trailer) rest in
    let trailer : frame.trailer ≡ other.trailer = cc in
    ap (λ h. frame_from h frame.carrier frame.trailer) header
    ∙ ap (λ c. frame_from other.header c frame.trailer) carrier
    ∙ ap (λ t. frame_from other.header other.carrier t) trailer

abbrev kept_as : List Record → List Record × List Note
kept_as records = (records, [])

same-base : (c d : ℕ) (rs ss : List (ℕ × Record)) (base these : List Record) → c ≡ d → rs ≡ ss
    → data_set (Done (c + 1)) rs ≡ stood base [] → data_set (Done (d + 1)) ss ≡ stood these [] → base ≡ these
same-base c d rs ss base these count records f g =
    let same : stood base [] ≡ stood these [] = sym f ∙ ap (λ n. data_set (Done (n + 1)) rs) count ∙ ap (λ xs. data_set (Done (d + 1)) xs) records ∙ g in
    let pair : kept_as base ≡ kept_as these = cc in
    ap (λ p. p.0) pair

bytes_determine : WrittenIsFramed → WrittenSpells → ReadOnce → BytesDetermine
bytes_determine framed spells once frame other days others bytes is are =
    let a = bytes_read_back framed spells frame days bytes is in
    let b = bytes_read_back framed spells other others bytes are in
    let one = once bytes a.count b.count a.records b.records a.read b.read in
    let base : a.base ≡ b.base = same-base a.count b.count a.records b.records a.base b.base one.0 one.1 a.valid b.valid in (
      same-frame (kept_frame frame) (kept_frame other) a.base b.base base a.frame_is b.frame_is,
      λ flight n exists within. sym (a.same flight n exists within) ∙ ap (λ rs. itinerary rs flight n) base ∙ b.same flight n exists within,
    )

-- ---- equal timetables

same_bytes : SameBytes
same_bytes frame other days others kept is are same =
    ap (λ f. result_map export_bytes (chapter7_records f days)) kept
    ∙ ap (λ r. result_map export_bytes r)
    (same_export other days others (λ flight exists. same-days (days flight) (others flight) (is.each_day flight exists ∙ sym (are.each_day flight exists))
    (λ n l. let len = is.each_day flight exists in same flight n exists (omega arith))))

pub exports_are_one : WrittenIsFramed → WrittenSpells → ReadOnce → ExportsAreOne
exports_are_one framed spells once frame other days others bytes these is are = (
  λ same. bytes_determine framed spells once frame other days others bytes is (subst (IsExport other others) (sym same) are),
  λ alike. let ok : Ok bytes ≡ Ok these = sym is.written ∙ same_bytes frame other days others alike.0 is.timetable are.timetable alike.1 ∙ are.written in cc,
)
