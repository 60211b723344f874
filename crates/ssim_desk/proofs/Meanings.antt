-- A desk has one meaning and one export, since each of its messages resolves in exactly one way.
use Rattle.std.proofs.Common.{◌≡◌, List, [], ◌∷◌, refl, sym, ap, subst, ◌∙◌}
use Rattle.std.proofs.lemmas.List.Elements.{All-from_recursion, recursion_from_All}
use Rattle.std.specs.FinMap.{entries}
use Rattle.std.specs.List.{AllByRecursion}
use Rattle.ssim_periods.specs.Days.{each_day}
use Rattle.ssim_records.specs.Carrier.{CarrierFields}
use Rattle.ssim_records.specs.Header.{HeaderFields}
use Rattle.ssim_records.specs.Trailer.{TrailerFields}
use Rattle.ssim_records.specs.declared.record.Record.{Record}
use Rattle.ssim_records.specs.declared.record.Record.TheVariants.{Header, Carrier, Trailer}
use Rattle.ssim_base.proofs.FrameLemmas.{first-is, last-is, second-is}
use Rattle.ssim_base.specs.BaseSeen.{BaseSeen}
use Rattle.ssim_base.specs.Export.{Frame, chapter7}
use Rattle.ssim_base.specs.ReadBack.{BasesExport, HasFrame}
use Rattle.ssim_base.specs.Resolve.{ResolvesIn}
use Rattle.ssim_base.specs.declared.resolution.ResolvedText.{ResolvedText}
use Rattle.ssim_text.specs.Message.{MessageValue}
use Rattle.ssim_text.specs.declared.reference.Reference.{Reference}
use Rattle.ssim_held.specs.Held.{DeskState, HasReference}
use Rattle.ssim_held.specs.Entries.{Entry, keyed}
use Rattle.ssim_held.proofs.References.{reference_apart, reference_total}
use Rattle.ssim_held.proofs.Resolving.{one_subs}
use Rattle.ssim_desk.specs.Meaning.{HasDates, HasExport, HasMeaning, HasOneExport, HasOneMeaning, Lists, Timetable, left_by}
use Rattle.ssim_desk.proofs.HeldEntries.{each_entry}

-- ---- each has one

-- messages that have references, listed
abbrev HaveReferences : BaseSeen → List (Reference × MessageValue) → Type 0
HaveReferences base es = AllByRecursion (λ (e : Reference × MessageValue). HasReference base e.0 e.1) es

listed : (base : BaseSeen) (es : List (Reference × MessageValue)) → HaveReferences base es → (xs : List Entry) × (keyed xs ≡ es) × AllByRecursion (HasDates base.records) xs
listed base [] each = ([], refl, tt)
listed base ((r, m) ∷ es) each =
    let rest = listed base es each.1 in
    let h = each.0 in
    let e : Entry = record { reference = r; message = m; dates = h.resolved.subs.items } in
    (e ∷ rest.0, ap (λ (ps : List (Reference × MessageValue)). (r, m) ∷ ps) rest.1, ((h.resolved, h.resolves, refl), rest.2))

pub has_meaning : HasMeaning
has_meaning desk is =
    let found = listed desk.base (entries desk.held) (each_entry reference_total reference_apart (HasReference desk.base) desk.held is.each) in
    (left_by desk.base found.0, (found.0, record { held = found.1; dated = All-from_recursion (HasDates desk.base.records) found.0 found.2 }, refl))

pub has_export : BasesExport → HasExport
has_export export desk is =
    let base = is.base in
    let can = export base.ending base.records desk.base.records base.notes base.spelt base.read in
    let meaning = has_meaning desk is in (
      chapter7 can.frame (λ flight. each_day (meaning.0 flight)),
      record { frame = can.frame; has_frame = can.has_frame; timetable = meaning.0; means = meaning.1; exported = refl },
    )

-- ---- and only one

-- entries with the same references and messages have the same dates
one_list : (records : List Record) (xs ys : List Entry) → keyed xs ≡ keyed ys → AllByRecursion (HasDates records) xs → AllByRecursion (HasDates records) ys → xs ≡ ys
one_list records [] [] e h k = refl
one_list records [] (y ∷ ys) e h k = cc
one_list records (x ∷ xs) [] e h k = cc
one_list records (x ∷ xs) (y ∷ ys) e h k =
    let pair : (x.reference, x.message) ≡ (y.reference, y.message) = cc in
    let rest : keyed xs ≡ keyed ys = cc in
    let reference : x.reference ≡ y.reference = ap (λ (p : Reference × MessageValue). p.0) pair in
    let message : x.message ≡ y.message = ap (λ (p : Reference × MessageValue). p.1) pair in
    let one = h.0 in
    let other = subst (λ (m : MessageValue). (text : ResolvedText) × ResolvesIn records m text × (text.subs.items ≡ y.dates)) (sym message) k.0 in
    let dates : x.dates ≡ y.dates = sym one.2 ∙ one_subs records x.message one.0 other.0 one.1 other.1 ∙ other.2 in
    let same : x ≡ y = λ i. record { reference = reference i; message = message i; dates = dates i } in
    ap (λ (z : Entry). z ∷ xs) same ∙ ap (λ (zs : List Entry). y ∷ zs) (one_list records xs ys rest h.1 k.1)

pub one_listed : (desk : DeskState) (xs ys : List Entry) → Lists desk xs → Lists desk ys → xs ≡ ys
one_listed desk xs ys is are =
    one_list desk.base.records xs ys (is.held ∙ sym are.held) (recursion_from_All (HasDates desk.base.records) xs is.dated) (recursion_from_All (HasDates desk.base.records) ys are.dated)

pub has_one_meaning : HasOneMeaning
has_one_meaning desk one other (xs, is, left) (ys, are, right) = left ∙ ap (left_by desk.base) (one_listed desk xs ys is are) ∙ sym right

one_header : (a b : HeaderFields) → Header a ≡ Header b → a ≡ b
one_header a b e = cc

one_carrier : (a b : CarrierFields) → Carrier a ≡ Carrier b → a ≡ b
one_carrier a b e = cc

one_trailer : (a b : TrailerFields) → Trailer a ≡ Trailer b → a ≡ b
one_trailer a b e = cc

-- records have one frame
one_frame : (records : List Record) (f g : Frame) → HasFrame f records → HasFrame g records → f ≡ g
one_frame records f g in_f in_g =
    let header : f.header ≡ g.header = one_header f.header g.header (sym (first-is f records (Header f.header) in_f) ∙ first-is g records (Header f.header) in_g) in
    let carrier : f.carrier ≡ g.carrier = one_carrier f.carrier g.carrier (sym (second-is f records (Header f.header) in_f) ∙ second-is g records (Header f.header) in_g) in
    let trailer : f.trailer ≡ g.trailer = one_trailer f.trailer g.trailer (sym (last-is f records (Header f.header) in_f) ∙ last-is g records (Header f.header) in_g) in
    λ i. record { header = header i; carrier = carrier i; trailer = trailer i }

pub has_one_export : HasOneExport
has_one_export desk one other is_one is_other =
    is_one.exported
    ∙ ap (λ frame. chapter7 frame (λ flight. each_day (is_one.timetable flight))) (one_frame desk.base.records is_one.frame is_other.frame is_one.has_frame is_other.has_frame)
    ∙ ap (λ (t : Timetable). chapter7 is_other.frame (λ flight. each_day (t flight))) (has_one_meaning desk is_one.timetable is_other.timetable is_one.means is_other.means)
    ∙ sym is_other.exported
