-- Bytes are the file of only one desk. Each line says how many elements follow, and each element
-- says its own length, so each part of one file begins at the same byte as the same part of the
-- other.
use Rattle.std.proofs.Common.{◌≡◌, inl, inr, ℕ, ◌<◌, ◌≤◌, ◌^◌, true, not, List, [], ◌∷◌, ◌++◌, length, take, drop, Some, unwrap_or, codes, decimal, length-append, append_assoc, refl, sym, ap, subst, ◌∙◌, arith}
use Rattle.std.specs.Fmt.{digits}
use Rattle.std.specs.Prelude.{◌==◌, slice_index_or}
use Rattle.std.specs.List.{flat_map, AllByRecursion as Each}
use Rattle.std.specs.Str.Parse.{AllDigits}
use Rattle.std.proofs.Math.Seq.{drop-append_seam, take-append_seam}
use Rattle.std.proofs.lemmas.Bool.{and_from}
use Rattle.std.proofs.lemmas.Bool.Decides.{nat_tests}
use Rattle.std.proofs.lemmas.Fmt.{decimal_injective, decimal_is_IsNumeral}
use Rattle.std.proofs.lemmas.List.{append_cancel_left}
use Rattle.std.proofs.lemmas.List.Elements.{recursion_from_All}
use Rattle.std.proofs.lemmas.Str.Parse.{digit_at}
use Rattle.ssim_values.specs.Day.{day_of, day_text}
use Rattle.ssim_values.specs.Calendar.{day_limit}
use Rattle.ssim_values.specs.Variation.{Offset, variation_of, variation_text}
use Rattle.ssim_values.proofs.ClockLaws.{variation_of-variation_text}
use Rattle.ssim_values.proofs.DayLaws.{day_of-day_text}
use Rattle.ssim_records.specs.Record.{IsRecord, written}
use Rattle.ssim_records.specs.declared.record.Record.{Record}
use Rattle.ssim_records.proofs.CarriedTexts.{length_station}
use Rattle.ssim_records.proofs.Days.{length_day}
use Rattle.ssim_records.proofs.Lines.{length_written}
use Rattle.ssim_base.specs.BaseSeen.{BaseSeen}
use Rattle.ssim_base.specs.Resolve.{ResolvesIn}
use Rattle.ssim_base.specs.SavedBase.{IsBaseRecords, SavedIsOne, saved}
use Rattle.ssim_base.specs.Stations.{Row}
use Rattle.ssim_text.specs.Bytes.{before}
use Rattle.ssim_text.specs.Canonical.{canonical}
use Rattle.ssim_text.specs.Spelling.{EqualWhereWrittenEqual}
use Rattle.ssim_text.proofs.Words.{before_mark, lacks}
use Rattle.ssim_held.specs.File.{CanBeSaved, IsFileOf, IsRow, IsSavedAgain, IsSpelled, NoTwoDesks, OpensAsSaved, SavesAsOpened, after_first_line, counted, end_line, records_part, row_line, row_text, rows_part, text_element, texts_part}
use Rattle.ssim_held.specs.internal.DeskFileReader.{record_line}
use Rattle.ssim_held.specs.Entries.{Entry, IsEntry}
use Rattle.ssim_held.proofs.Resolving.{one_reference, one_subs}

-- ---- bytes

-- lists of one length, each before others
pub parted : {X : Type 0} (xs ys xs' ys' : List X) → length xs ≡ length ys → xs ++ xs' ≡ ys ++ ys' → (xs ≡ ys) × (xs' ≡ ys')
parted {X} xs ys xs' ys' n e = (
  sym (take-append_seam xs xs') ∙ ap (take (length xs)) e ∙ ap (λ (k : ℕ). take k (ys ++ ys')) n ∙ take-append_seam ys ys',
  sym (drop-append_seam xs xs') ∙ ap (drop (length xs)) e ∙ ap (λ (k : ℕ). drop k (ys ++ ys')) n ∙ drop-append_seam ys ys',
)

-- an element of a file: what follows it does not change how it is read
abbrev pub IsApart : {X : Type 0} → (X → List ℕ) → (X → Type 0) → Type 0
IsApart {X} f P = (x y : X) (rest rest' : List ℕ) → P x → P y → f x ++ rest ≡ f y ++ rest' → (x ≡ y) × (rest ≡ rest')

-- the same number of such elements can be read whatever follows them
pub elements_apart : {X : Type 0} (f : X → List ℕ) (P : X → Type 0) → IsApart f P → (xs ys : List X) (rest rest' : List ℕ) → Each P xs → Each P ys → length xs ≡ length ys
    → flat_map f xs ++ rest ≡ flat_map f ys ++ rest' → (xs ≡ ys) × (rest ≡ rest')
elements_apart f P apart [] [] rest rest' a b n e = (refl, e)
elements_apart f P apart [] (y ∷ ys) rest rest' a b n e = absurd (omega (arith, n))
elements_apart f P apart (x ∷ xs) [] rest rest' a b n e = absurd (omega (arith, n))
elements_apart f P apart (x ∷ xs) (y ∷ ys) rest rest' a b n e =
    let one = apart x y (flat_map f xs ++ rest) (flat_map f ys ++ rest') a.0 b.0 (sym (append_assoc (f x) (flat_map f xs) rest) ∙ e ∙ append_assoc (f y) (flat_map f ys) rest') in
    let later = elements_apart f P apart xs ys rest rest' a.1 b.1 (omega (arith, n)) one.1 in
    (λ i. one.0 i ∷ later.0 i, later.1)

-- two lists of the same number of elements of one length have the same length
pub same_length : {X : Type 0} (f : X → List ℕ) (k : ℕ) (xs ys : List X) → Each (λ x. length (f x) ≡ k) xs → Each (λ x. length (f x) ≡ k) ys → length xs ≡ length ys
    → length (flat_map f xs) ≡ length (flat_map f ys)
same_length f k [] [] a b n = refl
same_length f k [] (y ∷ ys) a b n = absurd (omega (arith, n))
same_length f k (x ∷ xs) [] a b n = absurd (omega (arith, n))
same_length f k (x ∷ xs) (y ∷ ys) a b n =
    let later = same_length f k xs ys a.1 b.1 (omega (arith, n)) in
    let one = length-append (f x) (flat_map f xs) in
    let other = length-append (f y) (flat_map f ys) in
    let left = a.0 in
    let right = b.0 in
    omega (arith, later, one, other, left, right)

-- there are no more elements than bytes
pub few : {X : Type 0} (f : X → List ℕ) → ((x : X) → 0 < length (f x)) → (xs : List X) → length xs ≤ length (flat_map f xs)
few f some [] = omega arith
few f some (x ∷ xs) =
    let later = few f some xs in
    let one = length-append (f x) (flat_map f xs) in
    let here = some x in
    omega (arith, later, one, here)

-- ---- numbers

digits_lack : (ds : List ℕ) → AllDigits 10 ds → lacks 10 ds ≡ true
digits_lack [] h = refl
digits_lack (d ∷ ds) h =
    let range = digit_at (d ∷ ds) 0 h (omega arith) in
    let other : not (d == 10) ≡ true = grind (arith, nat_tests, range) in
    and_from (not (d == 10)) (lacks 10 ds) other (digits_lack ds h.1)

decimal_line : (n : ℕ) (rest : List ℕ) → n < 2 ^ 64 → before 10 (decimal n ++ 10 ∷ rest) ≡ decimal n
decimal_line n rest low = before_mark 10 (decimal n) rest (digits_lack (decimal n) (decimal_is_IsNumeral n low).0.1)

counted_line : (word : List ℕ) (n : ℕ) (rest : List ℕ) → counted word n ++ rest ≡ word ++ 32 ∷ (decimal n ++ 10 ∷ rest)
counted_line word n rest =
    append_assoc word (32 ∷ (decimal n ++ 10 ∷ [])) rest ∙ ap (λ (bs : List ℕ). word ++ 32 ∷ bs) (append_assoc (decimal n) (10 ∷ []) rest)

-- a line with a number says its number
pub counted_apart : (word : List ℕ) (m n : ℕ) (rest rest' : List ℕ) → m < 2 ^ 64 → n < 2 ^ 64 → counted word m ++ rest ≡ counted word n ++ rest' → (m ≡ n) × (rest ≡ rest')
counted_apart word m n rest rest' low low' e =
    let after : 32 ∷ (decimal m ++ 10 ∷ rest) ≡ 32 ∷ (decimal n ++ 10 ∷ rest') =
    append_cancel_left word (32 ∷ (decimal m ++ 10 ∷ rest)) (32 ∷ (decimal n ++ 10 ∷ rest')) (sym (counted_line word m rest) ∙ e ∙ counted_line word n rest') in
    let line : decimal m ++ 10 ∷ rest ≡ decimal n ++ 10 ∷ rest' = ap (drop 1) after in
    let digits : decimal m ≡ decimal n = sym (decimal_line m rest low) ∙ ap (before 10) line ∙ decimal_line n rest' low' in
    let parts = parted (decimal m) (decimal n) (10 ∷ rest) (10 ∷ rest') (ap length digits) line in
    (decimal_injective m n low low' digits, ap (drop 1) parts.1)

-- ---- records

pub record_length : (rs : List Record) → Each IsRecord rs → Each (λ r. length (record_line r) ≡ 201) rs
record_length [] h = tt
record_length (r ∷ rs) h =
    let one = length_written r h.0 in
    let line = length-append (written r) (10 ∷ []) in
    (omega (arith, one, line), record_length rs h.1)

pub records_apart : SavedIsOne → (xs ys : List Record) (rest rest' : List ℕ) → IsBaseRecords xs → IsBaseRecords ys → length xs ≡ length ys
    → saved xs ++ rest ≡ saved ys ++ rest' → (xs ≡ ys) × (rest ≡ rest')
records_apart one xs ys rest rest' is are n e =
    let long = same_length record_line 201 xs ys (record_length xs (recursion_from_All IsRecord xs is.each_written)) (record_length ys (recursion_from_All IsRecord ys are.each_written)) n in
    let parts = parted (saved xs) (saved ys) rest rest' long e in
    (one xs ys is are parts.0, parts.1)

-- ---- rows

some_same : {A : Type 0} (x y : A) → Some x ≡ Some y → x ≡ y
some_same x y e = ap (λ o. unwrap_or o x) e

same_day : (m n : ℕ) → m < day_limit → n < day_limit → day_text m ≡ day_text n → m ≡ n
same_day m n low low' e = some_same m n (sym (day_of-day_text m low) ∙ ap day_of e ∙ day_of-day_text n low')

same_variation : (v w : Offset) → v.minutes ≤ 900 → w.minutes ≤ 900 → variation_text v ≡ variation_text w → v ≡ w
same_variation v w low low' e = some_same v w (sym (variation_of-variation_text v low) ∙ ap variation_of e ∙ variation_of-variation_text w low')

-- the parts of a row, before more
row_parts : (r : Row) (rest : List ℕ) → row_line r ++ rest ≡ r.station ++ 32 ∷ (day_text r.first ++ 32 ∷ (day_text r.last ++ 32 ∷ (variation_text r.variation ++ 10 ∷ rest)))
row_parts r rest =
    append_assoc (row_text r) (10 ∷ []) rest
    ∙ append_assoc r.station (32 ∷ (day_text r.first ++ 32 ∷ (day_text r.last ++ 32 ∷ variation_text r.variation))) (10 ∷ rest)
    ∙ ap (λ (bs : List ℕ). r.station ++ 32 ∷ bs) (append_assoc (day_text r.first) (32 ∷ (day_text r.last ++ 32 ∷ variation_text r.variation)) (10 ∷ rest))
    ∙ ap (λ (bs : List ℕ). r.station ++ 32 ∷ (day_text r.first ++ 32 ∷ bs)) (append_assoc (day_text r.last) (32 ∷ variation_text r.variation) (10 ∷ rest))

pub rows_apart : IsApart row_line IsRow
rows_apart x y rest rest' is are e =
    let first_low : x.first < day_limit = omega (arith, is.ordered, is.in_calendar) in
    let first_low' : y.first < day_limit = omega (arith, are.ordered, are.in_calendar) in
    let all = sym (row_parts x rest) ∙ e ∙ row_parts y rest' in
    let station = parted x.station y.station _ _ (length_station x.station is.station ∙ sym (length_station y.station are.station)) all in
    let first = parted (day_text x.first) (day_text y.first) _ _ (length_day x.first first_low ∙ sym (length_day y.first first_low')) (ap (drop 1) station.1) in
    let last = parted (day_text x.last) (day_text y.last) _ _ (length_day x.last is.in_calendar ∙ sym (length_day y.last are.in_calendar)) (ap (drop 1) first.1) in
    let variation = parted (variation_text x.variation) (variation_text y.variation) _ _ refl (ap (drop 1) last.1) in
    let same_first = same_day x.first y.first first_low first_low' first.0 in
    let same_last = same_day x.last y.last is.in_calendar are.in_calendar last.0 in
    let same = same_variation x.variation y.variation is.variation are.variation variation.0 in
    (λ i. record { station = station.0 i; first = same_first i; last = same_last i; variation = same i }, ap (drop 1) variation.1)

-- ---- texts

-- a message that is held, whose text can be written
pub record IsText (records : List Record) (e : Entry) : Type 0 where
  pub entry : IsEntry records e
  pub spelled : IsSpelled e

-- the reference and the dates of an entry follow from its message
pub one_entry : (records : List Record) (x y : Entry) → IsEntry records x → IsEntry records y → x.message ≡ y.message → x ≡ y
one_entry records x y is are same =
    let resolves = subst (λ m. ResolvesIn records m is.text) same is.resolves in
    let reference = sym is.referred ∙ one_reference records y.message is.text are.text resolves are.resolves ∙ are.referred in
    let dates = sym is.dated ∙ one_subs records y.message is.text are.text resolves are.resolves ∙ are.dated in
    λ i. record { reference = reference i; message = same i; dates = dates i }

pub texts_apart : EqualWhereWrittenEqual → (records : List Record) → IsApart text_element (IsText records)
texts_apart equal records x y rest rest' is are e =
    let long : length (canonical x.message) < 2 ^ 64 = omega (arith, is.spelled.short) in
    let long' : length (canonical y.message) < 2 ^ 64 = omega (arith, are.spelled.short) in
    let all = sym (append_assoc (counted (codes "TEXT") (length (canonical x.message))) (canonical x.message) rest) ∙ e ∙ append_assoc (counted (codes "TEXT") (length (canonical y.message))) (canonical y.message) rest' in
    let line = counted_apart (codes "TEXT") (length (canonical x.message)) (length (canonical y.message)) (canonical x.message ++ rest) (canonical y.message ++ rest') long long' all in
    let text = parted (canonical x.message) (canonical y.message) rest rest' line.0 line.1 in
    let same = (equal x.message y.message (canonical x.message) (canonical y.message) is.spelled are.spelled).1 text.0 in
    (one_entry records x y is.entry are.entry same, text.1)

pub both_each : (records : List Record) (es : List Entry) → Each (IsEntry records) es → Each IsSpelled es → Each (IsText records) es
both_each records [] a b = tt
both_each records (e ∷ es) a b = (record { entry = a.0; spelled = b.0 }, both_each records es a.1 b.1)

-- ---- the file

-- the version of a file, and what follows the first line
version_of : (bytes : List ℕ) (base : BaseSeen) (entries : List Entry) → IsFileOf bytes base entries
    → (v : ℕ) × (v < 2 ^ 64) × (bytes ≡ counted (codes "SSIMDESK") v ++ after_first_line base entries)
version_of bytes base entries (inl is) = (2, omega arith, is)
version_of bytes base entries (inr is) = (1, omega arith, is.0)

-- there are fewer records, rows and messages than bytes
pub record IsWithin (bytes : List ℕ) (base : BaseSeen) (entries : List Entry) : Type 0 where
  pub records : length base.records ≤ length bytes
  pub rows : length base.rows ≤ length bytes
  pub texts : length entries ≤ length bytes

record_some : (r : Record) → 0 < length (record_line r)
record_some r = let line = length-append (written r) (10 ∷ []) in omega (arith, line)

row_some : (r : Row) → 0 < length (row_line r)
row_some r = let line = length-append (row_text r) (10 ∷ []) in omega (arith, line)

pub text_some : (e : Entry) → 0 < length (text_element e)
text_some e =
    let line = length-append (counted (codes "TEXT") (length (canonical e.message))) (canonical e.message) in
    let word = length-append (codes "TEXT") (32 ∷ (decimal (length (canonical e.message)) ++ 10 ∷ [])) in
    omega (arith, line, word)

pub within : (bytes : List ℕ) (base : BaseSeen) (entries : List Entry) (v : ℕ) → bytes ≡ counted (codes "SSIMDESK") v ++ after_first_line base entries → IsWithin bytes base entries
within bytes base entries v is =
    let whole = ap length is in
    let first = length-append (counted (codes "SSIMDESK") v) (after_first_line base entries) in
    let second = length-append (records_part base.records) (rows_part base.rows ++ (texts_part entries ++ end_line)) in
    let third = length-append (rows_part base.rows) (texts_part entries ++ end_line) in
    let fourth = length-append (texts_part entries) end_line in
    let records = length-append (counted (codes "RECORDS") (length base.records)) (saved base.records) in
    let rows = length-append (counted (codes "STATIONS") (length base.rows)) (flat_map row_line base.rows) in
    let texts = length-append (counted (codes "TEXTS") (length entries)) (flat_map text_element entries) in
    let few_records = few record_line record_some base.records in
    let few_rows = few row_line row_some base.rows in
    let few_texts = few text_element text_some entries in
    record {
      records = omega (arith, whole, first, second, records, few_records);
      rows = omega (arith, whole, first, second, third, rows, few_rows);
      texts = omega (arith, whole, first, second, third, fourth, texts, few_texts);
    }

module _ (one : SavedIsOne) (equal : EqualWhereWrittenEqual) (base other : BaseSeen) (entries others : List Entry) where
  pub records_first : (rest rest' : List ℕ) → IsBaseRecords base.records → IsBaseRecords other.records → length base.records < 2 ^ 64 → length other.records < 2 ^ 64
      → records_part base.records ++ rest ≡ records_part other.records ++ rest' → (base.records ≡ other.records) × (rest ≡ rest')
  records_first rest rest' is are low low' e =
      let line = counted_apart (codes "RECORDS") (length base.records) (length other.records) (saved base.records ++ rest) (saved other.records ++ rest') low low'
      (sym (append_assoc (counted (codes "RECORDS") (length base.records)) (saved base.records) rest) ∙ e ∙ append_assoc (counted (codes "RECORDS") (length other.records)) (saved other.records) rest') in
      records_apart one base.records other.records rest rest' is are line.0 line.1

  pub rows_next : (rest rest' : List ℕ) → Each IsRow base.rows → Each IsRow other.rows → length base.rows < 2 ^ 64 → length other.rows < 2 ^ 64
      → rows_part base.rows ++ rest ≡ rows_part other.rows ++ rest' → (base.rows ≡ other.rows) × (rest ≡ rest')
  rows_next rest rest' is are low low' e =
      let line = counted_apart (codes "STATIONS") (length base.rows) (length other.rows) (flat_map row_line base.rows ++ rest) (flat_map row_line other.rows ++ rest') low low'
      (sym (append_assoc (counted (codes "STATIONS") (length base.rows)) (flat_map row_line base.rows) rest) ∙ e ∙ append_assoc (counted (codes "STATIONS") (length other.rows)) (flat_map row_line other.rows) rest') in
      elements_apart row_line IsRow rows_apart base.rows other.rows rest rest' is are line.0 line.1

  pub texts_last : (records : List Record) (rest rest' : List ℕ) → Each (IsText records) entries → Each (IsText records) others → length entries < 2 ^ 64 → length others < 2 ^ 64
      → texts_part entries ++ rest ≡ texts_part others ++ rest' → (entries ≡ others) × (rest ≡ rest')
  texts_last records rest rest' is are low low' e =
      let line = counted_apart (codes "TEXTS") (length entries) (length others) (flat_map text_element entries ++ rest) (flat_map text_element others ++ rest') low low'
      (sym (append_assoc (counted (codes "TEXTS") (length entries)) (flat_map text_element entries) rest) ∙ e ∙ append_assoc (counted (codes "TEXTS") (length others)) (flat_map text_element others) rest') in
      elements_apart text_element (IsText records) (texts_apart equal records) entries others rest rest' is are line.0 line.1

  one_desk : (v w : ℕ) → v < 2 ^ 64 → w < 2 ^ 64 → CanBeSaved base entries → CanBeSaved other others → (bytes : List ℕ) → length bytes < 2 ^ 64
      → bytes ≡ counted (codes "SSIMDESK") v ++ after_first_line base entries → bytes ≡ counted (codes "SSIMDESK") w ++ after_first_line other others
      → (base ≡ other) × (entries ≡ others)
  one_desk v w low low' can could bytes short is are =
      let few = within bytes base entries v is in
      let few' = within bytes other others w are in
      let first = counted_apart (codes "SSIMDESK") v w (after_first_line base entries) (after_first_line other others) low low' (sym is ∙ are) in
      let records = records_first _ _ can.is_base could.is_base (omega (arith, few.records, short)) (omega (arith, few'.records, short)) first.1 in
      let rows = rows_next _ _ (recursion_from_All IsRow base.rows can.rows) (recursion_from_All IsRow other.rows could.rows) (omega (arith, few.rows, short)) (omega (arith, few'.rows, short)) records.1 in
      let mine = both_each base.records entries (recursion_from_All (IsEntry base.records) entries can.entries_are.each) (recursion_from_All IsSpelled entries can.spelled) in
      let theirs = both_each other.records others (recursion_from_All (IsEntry other.records) others could.entries_are.each) (recursion_from_All IsSpelled others could.spelled) in
      let texts = texts_last other.records _ _ (subst (λ rs. Each (IsText rs) entries) records.0 mine) theirs (omega (arith, few.texts, short)) (omega (arith, few'.texts, short)) rows.1 in
      (λ i. record { records = records.0 i; rows = rows.0 i }, texts.0)

pub no_two_desks : SavedIsOne → EqualWhereWrittenEqual → NoTwoDesks
no_two_desks one equal bytes base other entries others short is are =
    let f = version_of bytes base entries is.is_file in
    let g = version_of bytes other others are.is_file in
    one_desk one equal base other entries others f.0 g.0 f.1 g.1 is.saved are.saved bytes short f.2 g.2

-- ---- what is saved and opened

pub opens_as_saved : NoTwoDesks → OpensAsSaved
opens_as_saved one bytes base other entries others short can is opened =
    let same = one bytes base other entries others short (record { saved = can; is_file = inl is }) opened in
    (sym same.0, sym same.1)

first_lines_differ : (after : List ℕ) → take 11 (counted (codes "SSIMDESK") 1 ++ after) ≡ counted (codes "SSIMDESK") 2 → ⊥
unfolding digits
first_lines_differ after e = let last : 49 ≡ 50 = ap (λ (bs : List ℕ). slice_index_or bs 9 0) e in absurd (omega (arith, last))

second_line : (after : List ℕ) → drop 11 (counted (codes "SSIMDESK") 2 ++ after) ≡ after
unfolding digits
second_line after = refl

second_line_1 : (after : List ℕ) → drop 11 (counted (codes "SSIMDESK") 1 ++ after) ≡ after
unfolding digits
second_line_1 after = refl

pub saves_as_opened : SavesAsOpened
saves_as_opened bytes base entries opened = by opened.is_file
  where
    by : IsFileOf bytes base entries → IsSavedAgain bytes base entries
    by (inl is) = record {
      version_2 = λ first. sym is;
      version_1 = ap (λ (bs : List ℕ). counted (codes "SSIMDESK") 2 ++ bs) (sym (ap (drop 11) is ∙ second_line (after_first_line base entries)));
    }
    by (inr is) = record {
      version_2 = λ first. absurd (first_lines_differ (after_first_line base entries) (sym (ap (take 11) is.0) ∙ first));
      version_1 = ap (λ (bs : List ℕ). counted (codes "SSIMDESK") 2 ++ bs) (sym (ap (drop 11) is.0 ∙ second_line_1 (after_first_line base entries)));
    }
