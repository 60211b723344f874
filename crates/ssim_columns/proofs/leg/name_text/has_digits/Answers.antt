-- Three numbers side by side have no blanks if all their columns are digits.
use Rattle.std.proofs.Common.{◌≡◌, ℕ, List, ◌&&◌, IsTrue, length, refl, sym, ap, ◌∙◌, arith, lit≤}
use Rattle.std.specs.Prelude.{slice_range}
use Rattle.std.specs.List.{list_all}
use Rattle.std.proofs.lemmas.List.Folds.{list_all-append}
use Rattle.ssim_values.specs.Characters.{is_digit}
use Rattle.ssim_columns.specs.Columns.{columns}
use Rattle.ssim_columns.specs.clauses.Heads.{HasDigits}
use Rattle.ssim_columns.proofs.lemmas.Numbers.{digits_some, some_digits}
use Rattle.ssim_columns.proofs.lemmas.Overlay.{slice_cut}
use Rattle.ssim_columns.proofs.lemmas.Rows.{both_true}
use Rattle.ssim_columns.proofs.lemmas.Slices.{length_slice}
use Rattle.ssim_columns.proofs.leg.name_text.has_digits.Goals as goal

each_of : (b : List ℕ) → list_all is_digit (slice_range b 5 13) ≡ (list_all is_digit (columns 6 9 b) && (list_all is_digit (columns 10 11 b) && list_all is_digit (columns 12 13 b)))
each_of b =
    let back : list_all is_digit (slice_range b 9 13) ≡ (list_all is_digit (columns 10 11 b) && list_all is_digit (columns 12 13 b)) = ap (list_all is_digit) (slice_cut b 9 11 13 (lit≤ tt) (lit≤ tt)) ∙ list_all-append is_digit (columns 10 11 b) (columns 12 13 b) in
    ap (list_all is_digit) (slice_cut b 5 9 13 (lit≤ tt) (lit≤ tt)) ∙ list_all-append is_digit (columns 6 9 b) (slice_range b 9 13) ∙ rw back refl

alone : (b : List ℕ) → length b ≡ 200 → IsTrue (list_all is_digit (slice_range b 5 13)) → HasDigits b
alone b len h =
    let p = both_true (list_all is_digit (columns 6 9 b)) _ (sym (each_of b) ∙ h) in
    let q = both_true (list_all is_digit (columns 10 11 b)) (list_all is_digit (columns 12 13 b)) p.1 in
    let one : length (columns 6 9 b) ≡ 4 = length_slice b 5 9 (lit≤ tt) (omega (arith, len)) in
    let two : length (columns 10 11 b) ≡ 2 = length_slice b 9 11 (lit≤ tt) (omega (arith, len)) in
    let three : length (columns 12 13 b) ≡ 2 = length_slice b 11 13 (lit≤ tt) (omega (arith, len)) in
    record {
      number = digits_some (columns 6 9 b) (omega (arith, one)) p.0;
      variation = digits_some (columns 10 11 b) (omega (arith, two)) q.0;
      sequence = digits_some (columns 12 13 b) (omega (arith, three)) q.1;
    }

all_digits : (b : List ℕ) → HasDigits b → IsTrue (list_all is_digit (slice_range b 5 13))
all_digits b has = each_of b ∙ rw (some_digits (columns 6 9 b) has.number, some_digits (columns 10 11 b) has.variation, some_digits (columns 12 13 b) has.sequence) refl

pub returns : goal.returns
returns c = (λ h. alone c.args.bytes.now c.told-bytes (sym c.are_digits.ensures ∙ h), λ has. c.are_digits.ensures ∙ all_digits c.args.bytes.now has)
