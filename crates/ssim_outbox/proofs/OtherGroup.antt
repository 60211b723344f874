-- A reference reads again with any other group serial: the five digits of the serial stand in five
-- bytes of their own, which nothing else of the line depends on.
use Rattle.std.proofs.Common.{◌≡◌, ◌≤◌, ◌<◌, ℕ, true, List, [], ◌∷◌, ◌++◌, length, sym, ap, subst, arith}
use Rattle.std.proofs.Common.{Option, Some, None, take}
use Rattle.std.specs.List.{list_all}
use Rattle.std.proofs.lemmas.Bool.Decides.{nat_tests}
use Rattle.ssim_values.specs.DayMonth.{MonthDay, month_day_text}
use Rattle.ssim_values.proofs.DayMonthLaws.{month_day_of-sound}
use Rattle.ssim_text.specs.Bytes.{◌>>=◌, is_printable}
use Rattle.ssim_text.specs.Canonical.{creator_text, five_digits, group_code_text, three_digits}
use Rattle.ssim_text.specs.Grammar.{ReferencePart}
use Rattle.ssim_text.specs.Lines.{creator_of, digits_in, month_day_in, numbers_of, reference_of}
use Rattle.ssim_text.specs.declared.reference.GivenReference.{GivenReference}
use Rattle.ssim_text.specs.declared.reference.GroupCode.{GroupCode}
use Rattle.ssim_text.specs.declared.reference.GroupCode.TheVariants.{Continuation, End}
use Rattle.ssim_text.proofs.HeadingAgain.{five_again, reference_sound}
use Rattle.ssim_text.proofs.LinesKept.{IsLine, ReadsAgain, all_join, all_take, line_behind, line_drop}
use Rattle.ssim_text.proofs.Runs.{none_some, some_same}

abbrev numbers : MonthDay → ℕ → GroupCode → ℕ → Option (MonthDay × ℕ × GroupCode × ℕ)
numbers d g c s = Some (d, g, c, s)

-- what is read of a reference line, part by part
abbrev read : Option MonthDay → Option ℕ → Option GroupCode → Option ℕ → Option (Option (List ℕ))
    → Option GivenReference
read date group code serial creator = do
  n ← (date >>= λ d. group >>= λ g. code >>= λ c. serial >>= λ s. numbers d g c s)
  c ← creator
  Some (record { date = n.0; group = n.1; code = n.2; serial = n.3; creator = c })

-- with another group serial
other_read : (date : Option MonthDay) (group : Option ℕ) (code : Option GroupCode)
    (serial : Option ℕ) (creator : Option (Option (List ℕ))) (r : GivenReference) (g : ℕ)
    → read date group code serial creator ≡ Some r
    → read date (Some g) code serial creator ≡ Some (record r { group = g })
other_read None group code serial creator r g h = absurd (none_some r h)
other_read (Some d) None code serial creator r g h = absurd (none_some r h)
other_read (Some d) (Some n) None serial creator r g h = absurd (none_some r h)
other_read (Some d) (Some n) (Some c) None creator r g h = absurd (none_some r h)
other_read (Some d) (Some n) (Some c) (Some s) None r g h = absurd (none_some r h)
other_read (Some d) (Some n) (Some c) (Some s) (Some t) r g h =
    let all : GivenReference =
    record { date = d; group = n; code = c; serial = s; creator = t } in
    ap (λ (x : GivenReference). Some (record x { group = g })) (some_same all r h)

-- a reference line by its date, group serial, group code, message serial and creator
abbrev line_of : List ℕ → ℕ → GroupCode → ℕ → List ℕ → List ℕ
line_of date group code serial creator =
    date ++ five_digits group ++ group_code_text code ++ three_digits serial ++ creator

line_read : (date : List ℕ) (n : ℕ) (code : GroupCode) (serial : ℕ) (creator : List ℕ)
    (r : GivenReference) (g : ℕ) → length date ≡ 5 → g < 100000
    → reference_of (line_of date n code serial creator) ≡ Some r
    → reference_of (line_of date g code serial creator) ≡ Some (record r { group = g })
unfolding reference_of numbers_of
line_read (a ∷ b ∷ c ∷ d ∷ e ∷ []) n Continuation serial creator r g l below h =
    let digits = five_again g below in
    subst (λ (x : Option ℕ). read (month_day_in (a ∷ b ∷ c ∷ d ∷ e ∷ [])) x (Some Continuation)
    (digits_in 3 3 (three_digits serial)) (creator_of creator) ≡ Some (record r { group = g }))
    (sym digits)
    (other_read (month_day_in (a ∷ b ∷ c ∷ d ∷ e ∷ [])) (digits_in 5 5 (five_digits n))
    (Some Continuation) (digits_in 3 3 (three_digits serial)) (creator_of creator) r g h)
line_read (a ∷ b ∷ c ∷ d ∷ e ∷ []) n End serial creator r g l below h =
    let digits = five_again g below in
    subst (λ (x : Option ℕ). read (month_day_in (a ∷ b ∷ c ∷ d ∷ e ∷ [])) x (Some End)
    (digits_in 3 3 (three_digits serial)) (creator_of creator) ≡ Some (record r { group = g }))
    (sym digits)
    (other_read (month_day_in (a ∷ b ∷ c ∷ d ∷ e ∷ [])) (digits_in 5 5 (five_digits n))
    (Some End) (digits_in 3 3 (three_digits serial)) (creator_of creator) r g h)
line_read [] n code serial creator r g l below h = absurd (omega (arith, l))
line_read (a ∷ []) n code serial creator r g l below h = absurd (omega (arith, l))
line_read (a ∷ b ∷ []) n code serial creator r g l below h = absurd (omega (arith, l))
line_read (a ∷ b ∷ c ∷ []) n code serial creator r g l below h = absurd (omega (arith, l))
line_read (a ∷ b ∷ c ∷ d ∷ []) n code serial creator r g l below h = absurd (omega (arith, l))
line_read (a ∷ b ∷ c ∷ d ∷ e ∷ f ∷ xs) n code serial creator r g l below h =
    absurd (omega (arith, l))

five_printable : (n : ℕ) → list_all is_printable (five_digits n) ≡ true
five_printable n = grind (arith, nat_tests)

line_kept : (date : List ℕ) (n : ℕ) (code : GroupCode) (serial : ℕ) (creator : List ℕ) (g : ℕ)
    → length date ≡ 5 → IsLine (line_of date n code serial creator)
    → IsLine (line_of date g code serial creator)
line_kept (a ∷ b ∷ c ∷ d ∷ e ∷ []) n Continuation serial creator g l h =
    let date = a ∷ b ∷ c ∷ d ∷ e ∷ [] in
    let whole = line_of date n Continuation serial creator in
    line_behind (date ++ five_digits g) (67 ∷ (three_digits serial ++ creator))
    (all_join is_printable date (five_digits g) (all_take is_printable 5 whole h.printable)
    (five_printable g)) (line_drop 10 whole h (omega arith))
line_kept (a ∷ b ∷ c ∷ d ∷ e ∷ []) n End serial creator g l h =
    let date = a ∷ b ∷ c ∷ d ∷ e ∷ [] in
    let whole = line_of date n End serial creator in
    line_behind (date ++ five_digits g) (69 ∷ (three_digits serial ++ creator))
    (all_join is_printable date (five_digits g) (all_take is_printable 5 whole h.printable)
    (five_printable g)) (line_drop 10 whole h (omega arith))
line_kept [] n code serial creator g l h = absurd (omega (arith, l))
line_kept (a ∷ []) n code serial creator g l h = absurd (omega (arith, l))
line_kept (a ∷ b ∷ []) n code serial creator g l h = absurd (omega (arith, l))
line_kept (a ∷ b ∷ c ∷ []) n code serial creator g l h = absurd (omega (arith, l))
line_kept (a ∷ b ∷ c ∷ d ∷ []) n code serial creator g l h = absurd (omega (arith, l))
line_kept (a ∷ b ∷ c ∷ d ∷ e ∷ f ∷ xs) n code serial creator g l h = absurd (omega (arith, l))

-- the date of a reference that reads again has five bytes
pub date_five : (r : GivenReference) → ReadsAgain (ReferencePart r) → length (month_day_text r.date) ≡ 5
date_five r h =
    let line = line_of (month_day_text r.date) r.group r.code r.serial (creator_text r.creator) in
    let n = (reference_sound line r h.spelled).numbers in
    let text = take 5 (take 14 line) in
    subst (λ (x : List ℕ). length x ≡ 5) (month_day_of-sound r.date text n.date_read).spelled n.long

pub other_group : (r : GivenReference) (g : ℕ) → g ≤ 99999 → ReadsAgain (ReferencePart r)
    → ReadsAgain (ReferencePart (record r { group = g }))
other_group r g few h =
    let date = month_day_text r.date in
    let five = date_five r h in
    let creator = creator_text r.creator in
    record {
      spelled = line_read date r.group r.code r.serial creator r g five (omega (arith, few)) h.spelled;
      line = line_kept date r.group r.code r.serial creator g five h.line;
    }
