-- Small examples of references and desk files, checked by computation.
use Rattle.std.specs.Prelude.{◌≡◌, ℕ, ◌-◌, ◌^◌, true, false, List, [], ◌∷◌, ◌++◌, length, codes, refl}
use Rattle.std.proofs.Common.{arith}
use Rattle.std.specs.Fmt.{digits}
use Rattle.std.specs.declared.cmp.Ordering.TheVariants.{Less, Equal}
use Rattle.ssim_records.specs.declared.fault.RecordFault.TheVariants.{ReadFault, ReaderNeverEnds}
use Rattle.ssim_base.specs.Stations.{Row}
use Rattle.ssim_text.specs.Values.{no_originator}
use Rattle.ssim_text.specs.declared.fault.TextFault.{TextFault}
use Rattle.ssim_text.specs.declared.kind.Kind.{Kind}
use Rattle.ssim_text.specs.declared.kind.Kind.TheVariants.{Ssm, Asm}
use Rattle.ssim_text.specs.declared.reference.Reference.{Reference}
use Rattle.ssim_values.specs.Calendar.{day_of_month, month_of, year_of}
use Rattle.ssim_values.specs.Day.{day_text}
use Rattle.ssim_held.specs.File.{after_first_line, counted, row_line, rows_part, texts_part}
use Rattle.ssim_held.specs.Entries.{Entry}
use Rattle.ssim_held.specs.Held.{reference_cmp}
use Rattle.ssim_held.specs.clauses.Opening.{FailsAs, NeverEnds}
use Rattle.ssim_held.specs.clauses.Pages.{IsGap, all_of, position, position_on}
use Rattle.ssim_held.specs.internal.DeskFileReader.{first_line, is_number}
use Rattle.ssim_held.specs.declared.fault.DeskFault.TheVariants.{Text, Read}
use Rattle.ssim_held.specs.declared.desk_file_reader.version.FileVersion.TheVariants.{One, Two}

-- ---- messages on pages

module _ (a b c : Entry) where
  -- two pages, of two messages and of one
  abbrev pages : List (List Entry)
  pages = (a ∷ b ∷ []) ∷ (c ∷ []) ∷ []

  in_order : all_of pages ≡ a ∷ b ∷ c ∷ []
  in_order = refl

  -- two messages come before the first of the second page
  second_page : position_on pages 1 0 ≡ 2
  second_page = refl

  -- a place at the end of a page is that at the start of the next one
  between : position pages (record { page = 0; at = 2 }) ≡ position pages (record { page = 1; at = 0 })
  between = refl

  gap_at_the_end : IsGap pages (record { page = 1; at = 1 })
  gap_at_the_end = omega arith

  no_gap : IsGap pages (record { page = 1; at = 2 }) → ⊥
  no_gap le = absurd (omega (arith, le))

-- ---- the order of references

abbrev reference : ℕ → ℕ → Kind → List ℕ → Reference
reference date group kind originator = record { date = date; group = group; serial = 1; kind = kind; originator = originator }

-- 01MAY25 comes before 01JUN25, whatever the serials
by_date : reference_cmp (reference 9252 1 Ssm no_originator) (reference 9283 6 Ssm no_originator) ≡ Less
by_date = refl

-- with their years, 31DEC25 comes before 01JAN26
by_year : reference_cmp (reference 9496 1 Ssm no_originator) (reference 9497 1 Ssm no_originator) ≡ Less
by_year = refl

-- the kind counts after the serials: an SSM comes first
by_kind : reference_cmp (reference 9283 1 Ssm no_originator) (reference 9283 1 Asm no_originator) ≡ Less
by_kind = refl

-- the originator counts last; no originator comes first
by_originator : reference_cmp (reference 9283 1 Ssm no_originator) (reference 9283 1 Ssm (codes "AAAAAAA")) ≡ Less
by_originator = refl

itself : reference_cmp (reference 9283 1 Asm (codes "AAAAAAA")) (reference 9283 1 Asm (codes "AAAAAAA")) ≡ Equal
itself = refl

-- ---- opening

-- the first lines of the two versions
version_2 : first_line Two ≡ codes "SSIMDESK 2" ++ 10 ∷ []
unfolding digits
version_2 = refl

version_1 : first_line One ≡ codes "SSIMDESK 1" ++ 10 ∷ []
unfolding digits
version_1 = refl

-- a number is decimal, has no leading zeros and no sign, and is of any length
number_4 : is_number (codes "4") ≡ true
number_4 = refl

number_0 : is_number (codes "0") ≡ true
number_0 = refl

forty_digits : is_number (codes "9999999999999999999999999999999999999999") ≡ true
forty_digits = refl

leading_zero : is_number (codes "04") ≡ false
leading_zero = refl

signed : is_number (codes "+4") ≡ false
signed = refl

no_digits : is_number [] ≡ false
no_digits = refl

-- a desk is not opened for the fault of a text; a reader that failed is counted, and the count of
-- 2^64 - 1 failures becomes 0
no_text_fault : (fault : TextFault) → FailsAs 0 0 (Text fault) → ⊥
no_text_fault fault fails = fails

counted_once : FailsAs 0 1 (Read (ReadFault 0))
counted_once = (refl, refl)

counted_round : FailsAs (2 ^ 64 - 1) 0 (Read (ReadFault 0))
counted_round = (refl, refl)

-- not all of 849 bytes is read within a limit of 848
too_many : NeverEnds 848 (λ count. count ≡ 849) (Read (ReaderNeverEnds 0))
too_many = refl

-- ---- the lengths of the parts of a desk file: 11 + 10 + 4 * 201 + 11 + 8 + 4 are 848

abbrev row_from : ℕ → ℕ → ℕ → List ℕ → Row
row_from minutes first last station = record { station = station; first = first; last = last; variation = record { negative = false; minutes = minutes } }

line_of_version_2 : counted (codes "SSIMDESK") 2 ≡ codes "SSIMDESK 2" ++ 10 ∷ []
unfolding digits
line_of_version_2 = refl

first_line_length : length (counted (codes "SSIMDESK") 2) ≡ 11
unfolding digits
first_line_length = refl

four_records : counted (codes "RECORDS") 4 ≡ codes "RECORDS 4" ++ 10 ∷ []
unfolding digits
four_records = refl

four_records_length : length (counted (codes "RECORDS") 4) ≡ 10
unfolding digits
four_records_length = refl

no_rows : rows_part [] ≡ codes "STATIONS 0" ++ 10 ∷ []
unfolding digits
no_rows = refl

no_texts : texts_part [] ≡ codes "TEXTS 0" ++ 10 ∷ []
unfolding digits
no_texts = refl

text_length : counted (codes "TEXT") 51 ≡ codes "TEXT 51" ++ 10 ∷ []
unfolding digits
text_length = refl

nothing_held : after_first_line (record { records = []; rows = [] }) [] ≡ codes "RECORDS 0" ++ 10 ∷ codes "STATIONS 0" ++ 10 ∷ codes "TEXTS 0" ++ 10 ∷ codes "END" ++ 10 ∷ []
unfolding digits
nothing_held = refl

-- 26 bytes
zurich_summer : row_line (row_from 120 9220 9429 (codes "ZRH")) ≡ codes "ZRH 30MAR25 25OCT25 +0200" ++ 10 ∷ []
unfolding day_text year_of month_of day_of_month
zurich_summer = refl

zurich_summer_length : length (row_line (row_from 120 9220 9429 (codes "ZRH"))) ≡ 26
unfolding day_text year_of month_of day_of_month
zurich_summer_length = refl
