-- A desk file is read part by part: each part of a file is read as the same part of its desk, and a
-- part that is not read is no desk's part.
use Rattle.std.proofs.Common.{◌≡◌, inl, inr, ℕ, ◌<◌, ◌^◌, List, [], ◌∷◌, ◌++◌, length, codes, length-append, refl, sym, ap, subst, ◌∙◌, arith}
use Rattle.std.specs.List.{All, AllByRecursion as Each, flat_map}
use Rattle.std.proofs.lemmas.List.Elements.{All-from_recursion, recursion_from_All}
use Rattle.ssim_records.specs.declared.record.Record.{Record}
use Rattle.ssim_base.specs.BaseSeen.{BaseSeen, base_with}
use Rattle.ssim_base.specs.SavedBase.{IsBaseRecords, SavedIsOne, saved}
use Rattle.ssim_base.specs.Stations.{Row}
use Rattle.ssim_text.specs.Spelling.{EqualWhereWrittenEqual}
use Rattle.ssim_held.specs.File.{CanBeSaved, IsDeskFile, IsFileOf, IsRow, IsSpelled, after_first_line, counted, end_line, records_part, row_line, rows_part, text_element, texts_part}
use Rattle.ssim_held.specs.Entries.{Entry, IsEntry}
use Rattle.ssim_held.specs.internal.DeskFileReader.{AreHeld, IsOf, first_line, version_number}
use Rattle.ssim_held.specs.declared.desk_file_reader.version.FileVersion.{FileVersion}
use Rattle.ssim_held.specs.declared.desk_file_reader.version.FileVersion.TheVariants.{One, Two}
use Rattle.ssim_held.proofs.Files.{counted_apart, both_each, few, records_first, rows_next, text_some, texts_last, within}
use Rattle.ssim_held.proofs.SavedParts.{IsBase, records_size, rows_size}

-- ---- what was read is a desk file

file_of : (version : FileVersion) (bytes : List ℕ) (base : BaseSeen) (es : List Entry) → bytes ≡ first_line version ++ after_first_line base es → All (IsOf version) es → IsFileOf bytes base es
file_of One bytes base es is none = inr (is, none)
file_of Two bytes base es is none = inl is

pub file_found : (version : FileVersion) (bytes one two three : List ℕ) (base : BaseSeen) (es : List Entry) → bytes ≡ first_line version ++ one → IsBase base → one ≡ records_part base.records ++ (rows_part base.rows ++ two)
    → AreHeld version base.records es → two ≡ texts_part es ++ three → three ≡ end_line → IsDeskFile bytes base es
file_found version bytes one two three base es a is b held c d = record {
  saved = record { is_base = is.0; rows = is.1; entries_are = held.entries_are; spelled = held.spelled };
  is_file = file_of version bytes base es
      (a ∙ ap (λ (xs : List ℕ). first_line version ++ xs) (b ∙ ap (λ (xs : List ℕ). records_part base.records ++ (rows_part base.rows ++ xs)) (c ∙ ap (λ (xs : List ℕ). texts_part es ++ xs) d)))
      held.of_version;
}

-- ---- the parts of a desk file

-- the file has a version, and few enough elements
pub record IsFileIn (bytes : List ℕ) (base : BaseSeen) (es : List Entry) : Type 0 where
  pub version : FileVersion
  pub is : bytes ≡ first_line version ++ after_first_line base es
  pub of_version : All (IsOf version) es
  pub records : length base.records < 2 ^ 64
  pub rows : length base.rows < 2 ^ 64
  pub texts : length es < 2 ^ 64

all_of_two : (es : List Entry) → Each (IsOf Two) es
all_of_two [] = tt
all_of_two (e ∷ es) = (tt, all_of_two es)

pub file_in : (bytes : List ℕ) (base : BaseSeen) (es : List Entry) → length bytes < 2 ^ 64 → IsDeskFile bytes base es → IsFileIn bytes base es
file_in bytes base es short file = by file.is_file
  where
    by : IsFileOf bytes base es → IsFileIn bytes base es
    by (inl is) =
        let few = within bytes base es 2 is in
        record { version = Two; is = is; of_version = All-from_recursion (IsOf Two) es (all_of_two es); records = omega (arith, few.records, short); rows = omega (arith, few.rows, short); texts = omega (arith, few.texts, short) }
    by (inr (is, none)) =
        let few = within bytes base es 1 is in
        record { version = One; is = is; of_version = none; records = omega (arith, few.records, short); rows = omega (arith, few.rows, short); texts = omega (arith, few.texts, short) }

small : (version : FileVersion) → version_number version < 2 ^ 64
small One = omega arith
small Two = omega arith

same_version : (v w : FileVersion) → version_number v ≡ version_number w → v ≡ w
same_version One One e = refl
same_version One Two e = absurd (omega (arith, e))
same_version Two One e = absurd (omega (arith, e))
same_version Two Two e = refl

-- the version and what follows the first line are those of the file
pub version_is : (bytes one : List ℕ) (version : FileVersion) (base : BaseSeen) (es : List Entry) (file : IsFileIn bytes base es) → bytes ≡ first_line version ++ one → (version ≡ file.version) × (one ≡ after_first_line base es)
version_is bytes one version base es file e =
    let same = counted_apart (codes "SSIMDESK") (version_number version) (version_number file.version) one (after_first_line base es) (small version) (small file.version) (sym e ∙ file.is) in
    (same_version version file.version same.0, same.1)

pub saved_texts : (version : FileVersion) (base : BaseSeen) (es : List Entry) → CanBeSaved base es → All (IsOf version) es → AreHeld version base.records es
saved_texts version base es can of_version = record { entries_are = can.entries_are; spelled = can.spelled; of_version = of_version }

-- the messages, and the end, are those of the file
pub texts_are : SavedIsOne → EqualWhereWrittenEqual → (version : FileVersion) (records : List Record) (base : BaseSeen) (es others : List Entry) (two three later : List ℕ) → AreHeld version records es → AreHeld version records others
    → length es < 2 ^ 64 → length others < 2 ^ 64 → two ≡ texts_part es ++ three → two ≡ texts_part others ++ later → (es ≡ others) × (three ≡ later)
texts_are once equal version records base es others two three later is are a b e f =
    texts_last once equal base base es others records three later
    (both_each records es (recursion_from_All (IsEntry records) es is.entries_are.each) (recursion_from_All IsSpelled es is.spelled))
    (both_each records others (recursion_from_All (IsEntry records) others are.entries_are.each) (recursion_from_All IsSpelled others are.spelled)) a b (sym e ∙ f)

pub small_records : (one two : List ℕ) (records : List Record) → IsBaseRecords records → one ≡ records_part records ++ two → length one < 2 ^ 64 → length records < 2 ^ 64
small_records one two records is e short =
    let whole = ap length e in
    let first = length-append (records_part records) two in
    let part = length-append (counted (codes "RECORDS") (length records)) (saved records) in
    let size = records_size records is in
    omega (arith, whole, first, part, size, short)

pub small_texts : (two three : List ℕ) (es : List Entry) → two ≡ texts_part es ++ three → length two < 2 ^ 64 → length es < 2 ^ 64
small_texts two three es e short =
    let whole = ap length e in
    let first = length-append (texts_part es) three in
    let texts = length-append (counted (codes "TEXTS") (length es)) (flat_map text_element es) in
    let some = few text_element text_some es in
    omega (arith, whole, first, texts, some, short)

pub shorter : (bytes first rest : List ℕ) → bytes ≡ first ++ rest → length bytes < 2 ^ 64 → length rest < 2 ^ 64
shorter bytes first rest e short = omega (arith, ap length e, length-append first rest, short)

-- the rows, and what follows them, are the same
pub rows_are : SavedIsOne → EqualWhereWrittenEqual → (bytes two later : List ℕ) (mine rows : List Row) → length bytes < 2 ^ 64 → All IsRow mine → All IsRow rows → length rows < 2 ^ 64
    → bytes ≡ rows_part mine ++ two → bytes ≡ rows_part rows ++ later → two ≡ later
rows_are once equal bytes two later mine rows short is are low e f =
    let whole = ap length e in
    let first = length-append (rows_part mine) two in
    let part = length-append (counted (codes "STATIONS") (length mine)) (flat_map row_line mine) in
    let size = rows_size mine is in
    (rows_next once equal (base_with [] mine) (base_with [] rows) [] [] two later (recursion_from_All IsRow mine is) (recursion_from_All IsRow rows are) (omega (arith, whole, first, part, size, short)) low (sym e ∙ f)).1

-- what a file has after its records
pub record IsAfterRecords (version : FileVersion) (records : List Record) (two : List ℕ) (base : BaseSeen) (es : List Entry) : Type 0 where
  pub read : two ≡ rows_part base.rows ++ (texts_part es ++ end_line)
  pub held : AreHeld version records es
  pub rows : length base.rows < 2 ^ 64
  pub texts : length es < 2 ^ 64

module _ (once : SavedIsOne) (equal : EqualWhereWrittenEqual) (bytes one : List ℕ) (version : FileVersion) (small_file : length bytes < 2 ^ 64) (first : bytes ≡ first_line version ++ one) where
  -- after its first line a desk file has its base
  pub before_base : (base : BaseSeen) (es : List Entry) → IsDeskFile bytes base es → (length base.records < 2 ^ 64) × (length base.rows < 2 ^ 64) × (one ≡ records_part base.records ++ (rows_part base.rows ++ (texts_part es ++ end_line)))
  before_base base es file =
      let f = file_in bytes base es small_file file in
      (f.records, f.rows, (version_is bytes one version base es f first).1)

  -- after its records a desk file has its rows and its messages
  pub after_records : (two : List ℕ) (records : List Record) → IsBaseRecords records → one ≡ records_part records ++ two → (base : BaseSeen) (es : List Entry) → IsDeskFile bytes base es
      → IsAfterRecords version records two base es
  after_records two records are e base es file =
      let f = file_in bytes base es small_file file in
      let v = version_is bytes one version base es f first in
      let short = shorter bytes (first_line version) one first small_file in
      let few = small_records one two records are e short in
      let b = records_first once equal (record { records = records; rows = [] }) base [] [] two (rows_part base.rows ++ (texts_part es ++ end_line)) are file.saved.is_base few f.records (sym e ∙ v.1) in
      let its = saved_texts f.version base es file.saved f.of_version in
      record {
        read = b.1;
        held = subst (λ (rs : List Record). AreHeld version rs es) (sym b.0) (subst (λ (w : FileVersion). AreHeld w base.records es) (sym v.0) its);
        rows = f.rows;
        texts = f.texts;
      }
