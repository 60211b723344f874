-- The same bytes are read as the same base: they have one list of blocks, each of which spells one
-- record, and a base is read to the end.
use Rattle.std.proofs.Common.{◌≡◌, ℕ, ◌+◌, ◌-◌, false, List, [], ◌∷◌, ◌++◌, length, map, None, Ok, inl, inr, refl, sym, ap, subst, ◌∙◌}
use Rattle.ssim_records.specs.Frames.{Frames, others}
use Rattle.ssim_records.specs.declared.fault.RecordFault.{RecordFault}
use Rattle.ssim_records.specs.declared.fault.RecordFault.TheVariants.{Short}
use Rattle.ssim_records.specs.declared.record.Record.{Record}
use Rattle.ssim_text.specs.Left.{lines_left}
use Rattle.ssim_base.specs.Base.{Broken, Done, Ending, Outcome, data_set, first_refusal, kept, kept_all, notes_of, refusal_at}
use Rattle.ssim_base.specs.ReadBack.{AreRead, EachSpells}
use Rattle.ssim_base.proofs.ExportLaws.{ReadOnce}
use Rattle.ssim_base.specs.Reading.{AreGiven, Gives, IsReadAs, SameBytesSameBase}
use Rattle.ssim_base.specs.Stations.{SameBytesSameRows}
use Rattle.ssim_base.specs.declared.note.Note.{Note}
use Rattle.ssim_base.proofs.Bases.{at_record-none, from-ok, with_notes}
use Rattle.ssim_base.proofs.StationLines.{spelled-rows}

abbrev Numbered : Type 0
Numbered = ℕ × Record

-- records that end at one that cannot be read are no base
broken-refused : (f : RecordFault) (e : List Record) (records : List Numbered) → first_refusal (Broken f) e records ≡ None → ⊥
broken-refused f e [] none = absurd cc
broken-refused f e (r ∷ records) none =
    broken-refused f (kept e r.1 ∷ e) records (at_record-none r.0 (refusal_at e r.1) (first_refusal (Broken f) (kept e r.1 ∷ e) records) none).1

-- nothing is left over, and each block spells its record
record IsWhole (count : ℕ) (rest : List ℕ) (over : ℕ) (left : List (ℕ × List ℕ)) (records : List Numbered) (n : ℕ) : Type 0 where
  none_left : rest ≡ []
  none_over : over ≡ 0
  counted : n ≡ count + 1
  spelled : EachSpells left records

gives-whole : (count : ℕ) (rest : List ℕ) (over : ℕ) (left : List (ℕ × List ℕ)) (records : List Numbered) (n : ℕ) → Gives count rest over left records (Done n) → IsWhole count rest over left records n
gives-whole count rest over [] [] n gives = record { none_left = gives.1; none_over = gives.2; counted = gives.3; spelled = tt }
gives-whole count rest over (b ∷ left) [] n gives = let e = gives.0 in absurd cc
gives-whole count rest over [] (r ∷ records) n gives = absurd gives
gives-whole count rest over (b ∷ left) (r ∷ records) n gives =
    let whole = gives-whole count rest over left records n gives.2 in
    record { none_left = whole.none_left; none_over = whole.none_over; counted = whole.counted; spelled = (gives.0, gives.1, whole.spelled) }

abbrev of : List Record → List Note → Outcome
of base notes = Ok (base, notes)

-- the records of a base, with their numbers
record IsRead (bytes : List ℕ) (base : List Record) (notes : List Note) : Type 0 where
  count : ℕ
  records : List Numbered
  read : AreRead bytes count records
  is : data_set (Done (count + 1)) records ≡ of base notes

read-to : (limit : ℕ) (bytes : List ℕ) (base : List Record) (notes : List Note) (records : List Numbered) (ending : Ending) → AreGiven limit bytes records ending
    → of base notes ≡ data_set ending records → IsRead bytes base notes
read-to limit bytes base notes records (Broken f) given is =
    absurd (broken-refused f [] records (from-ok (first_refusal (Broken f) [] records) (kept_all [] (map (λ r. r.1) records)) base (notes_of 0 records) notes (sym is)).0)
read-to limit bytes base notes records (Done n) given is =
    let whole = gives-whole (length given.blocks) given.rest (length bytes - limit) (others 0 given.blocks) records n given.given in
    record {
      count = length given.blocks;
      records = records;
      read = record {
        blocks = given.blocks;
        framed = subst (λ rest. Frames 0 false bytes given.blocks rest) whole.none_left (subst (λ over. Frames over false bytes given.blocks given.rest) whole.none_over given.framed);
        counted = refl;
        spelled = whole.spelled;
      };
      is = ap (λ k. data_set (Done k) records) (sym whole.counted) ∙ sym is;
    }

is-read : (limit : ℕ) (bytes : List ℕ) (base : List Record) (notes : List Note) → IsReadAs limit bytes (of base notes) → IsRead bytes base notes
is-read limit bytes base notes (inl all) = read-to limit bytes base notes all.records all.ending all.given all.is
is-read limit bytes base notes (inr first) =
    let broken = Broken (Short 0) in
    let all = first.records ++ [] in
    absurd (broken-refused (Short 0) [] all (from-ok (first_refusal broken [] all) (kept_all [] (map (λ r. r.1) all)) base (notes_of 0 all) notes (sym (first.is [] broken))).0)

pub same_bytes_same_base : ReadOnce → SameBytesSameBase
same_bytes_same_base once bytes limit other base these notes noted one two =
    let a = is-read limit bytes base notes one in
    let b = is-read other bytes these noted two in
    let same = once bytes a.count b.count a.records b.records a.read b.read in
    let outcome : of base notes ≡ of these noted = sym a.is ∙ ap (λ n. data_set (Done (n + 1)) a.records) same.0 ∙ ap (λ rs. data_set (Done (b.count + 1)) rs) same.1 ∙ b.is in
    let pair : with_notes base notes ≡ with_notes these noted = cc in
    (ap (λ p. p.0) pair, ap (λ p. p.1) pair)

pub same_bytes_same_rows : SameBytesSameRows
same_bytes_same_rows text rows others one two =
    let a = spelled-rows (lines_left text) rows one in
    let b = spelled-rows (lines_left text) others two in
    cc
