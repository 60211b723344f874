-- The originator line and the reference line that are written are read as what they were written
-- from.
use Rattle.std.proofs.Common.{◌≡◌, ◌≤◌, ◌<◌, ℕ, true, ◌&&◌, List, [], ◌∷◌, ◌++◌, length, refl, sym, ap, subst, ◌∙◌, append_assoc, arith, Option, Some, None, codes, take, drop, eqb-true, eq-eqb, drop_of_length-le, take_all}
use Rattle.std.specs.Prelude.{◌==◌, nat_le, if◌then◌else◌}
use Rattle.std.specs.List.{list_all}
use Rattle.std.proofs.lemmas.Bool.{and_parts, and_from}
use Rattle.std.specs.Str.{bytes_eq}
use Rattle.std.proofs.lemmas.Bool.Decides.{nat_tests}
use Rattle.ssim_values.specs.DayMonth.{MonthDay, month_day_of, month_day_text}
use Rattle.ssim_values.proofs.DayMonthLaws.{month_day_of-sound}
use Rattle.ssim_text.specs.declared.reference.GroupCode.{GroupCode}
use Rattle.ssim_text.specs.declared.reference.GroupCode.TheVariants.{Continuation, End}
use Rattle.ssim_text.specs.declared.reference.GivenReference.{GivenReference}
use Rattle.ssim_text.specs.Bytes.{◌>>=◌, is_alphanumeric, is_printable}
use Rattle.ssim_text.specs.Lines.{month_day_in, address_of, is_blank_or_none, originator_of, digits_in, group_code_of, creator_of, numbers_of, reference_of}
use Rattle.ssim_text.specs.Grammar.{OriginatorPart, ReferencePart}
use Rattle.ssim_text.specs.Canonical.{three_digits, five_digits, group_code_text, creator_text}
use Rattle.ssim_text.proofs.Runs.{some_same}
use Rattle.ssim_text.proofs.LinesKept.{IsLine, ReadsAgain, chosen, all_more, all_take, line_behind, line_drop}
use Rattle.ssim_text.proofs.Words.{bound, carried, only_if, alphanumeric_solid, solid_printable, is_solid, solid_line, below_five, below_three, digits_sound, digits_complete}

-- ---- the originator

pub record IsAddress (text originator : List ℕ) : Type 0 where
  pub same : text ≡ originator
  pub long : length originator ≡ 7
  pub all : list_all is_alphanumeric originator ≡ true

pub address_sound : (text originator : List ℕ) → address_of text ≡ Some originator → IsAddress text originator
address_sound text originator h =
    let p = only_if (length text == 7) (if list_all is_alphanumeric text then Some text else None) originator h in
    let q = only_if (list_all is_alphanumeric text) (Some text) originator p.1 in
    let same = some_same text originator q.1 in
    record { same = same; long = ap length (sym same) ∙ eqb-true (length text) 7 p.0; all = ap (list_all is_alphanumeric) (sym same) ∙ q.0 }

pub address_complete : (originator : List ℕ) → length originator ≡ 7 → list_all is_alphanumeric originator ≡ true → address_of originator ≡ Some originator
address_complete originator l h =
    chosen (length originator == 7) (if list_all is_alphanumeric originator then Some originator else None) None (eq-eqb (length originator) 7 l)
    ∙ chosen (list_all is_alphanumeric originator) (Some originator) None h

-- an address after a dot
dotted : (originator : List ℕ) → length originator ≡ 7 → list_all is_alphanumeric originator ≡ true → originator_of (46 ∷ originator) ≡ Some originator
unfolding originator_of
dotted originator l h =
    let none_behind : drop 7 originator ≡ [] = drop_of_length-le originator {i = 7} (omega (arith, l)) in
    let whole : take 7 originator ≡ originator = take_all 7 originator (omega (arith, l)) in
    chosen (is_blank_or_none (take 1 (drop 7 originator))) (address_of (take 7 originator)) None (ap (λ (x : List ℕ). is_blank_or_none (take 1 x)) none_behind)
    ∙ ap address_of whole ∙ address_complete originator l h

address_from : (line originator : List ℕ) → originator_of line ≡ Some originator → IsAddress (take 7 (drop 1 line)) originator
unfolding originator_of
address_from line originator h =
    let p = only_if (bytes_eq (take 1 line) (codes ".")) (if is_blank_or_none (take 1 (drop 7 (drop 1 line))) then address_of (take 7 (drop 1 line)) else None) originator h in
    let q = only_if (is_blank_or_none (take 1 (drop 7 (drop 1 line)))) (address_of (take 7 (drop 1 line))) originator p.1 in
    address_sound (take 7 (drop 1 line)) originator q.1

pub originator_again : (originator line : List ℕ) → originator_of line ≡ Some originator → ReadsAgain (OriginatorPart originator)
originator_again originator line h =
    let a = address_from line originator h in
    record {
      spelled = dotted originator a.long a.all;
      line = solid_line (46 ∷ originator) (omega arith) (and_from (is_solid 46) (list_all is_solid originator) refl (all_more is_alphanumeric is_solid alphanumeric_solid originator a.all));
    }

-- ---- the reference

pub five_again : (n : ℕ) → n < 100000 → digits_in 5 5 (five_digits n) ≡ Some n
five_again n h = digits_complete 5 5 (five_digits n) n (record { from = omega arith; to = omega arith; all = grind (arith, nat_tests); number = omega arith })

pub three_again : (n : ℕ) → n < 1000 → digits_in 3 3 (three_digits n) ≡ Some n
three_again n h = digits_complete 3 3 (three_digits n) n (record { from = omega arith; to = omega arith; all = grind (arith, nat_tests); number = omega arith })

code_again : (code : GroupCode) → group_code_of (group_code_text code) ≡ Some code
code_again Continuation = refl
code_again End = refl

-- what is read of the fourteen bytes
pub record AreNumbers (text : List ℕ) (date : MonthDay) (group : ℕ) (code : GroupCode) (serial : ℕ) : Type 0 where
  pub long : length (take 5 text) ≡ 5
  pub date_read : month_day_of (take 5 text) ≡ Some date
  pub group_below : group < 100000
  pub serial_below : serial < 1000

pub group_bound : (text : List ℕ) (n : ℕ) → digits_in 5 5 text ≡ Some n → n < 100000
group_bound text n h = let d = digits_sound 5 5 text n h in subst (λ (x : ℕ). x < 100000) d.number (below_five text d.all (omega (arith, d.from, d.to)))

pub serial_bound : (text : List ℕ) (n : ℕ) → digits_in 3 3 text ≡ Some n → n < 1000
serial_bound text n h = let d = digits_sound 3 3 text n h in subst (λ (x : ℕ). x < 1000) d.number (below_three text d.all d.to)

numbers_sound : (text : List ℕ) (n : MonthDay × ℕ × GroupCode × ℕ) → numbers_of text ≡ Some n → AreNumbers text n.0 n.1 n.2 n.3
unfolding numbers_of
numbers_sound text n h =
    let date = bound (month_day_in (take 5 text)) (λ (x : MonthDay). digits_in 5 5 (take 5 (drop 5 text)) >>= λ y. group_code_of (take 1 (drop 5 (drop 5 text))) >>= λ z. digits_in 3 3 (drop 1 (drop 5 (drop 5 text))) >>= λ w. Some (x, y, z, w)) n h in
    let group = bound (digits_in 5 5 (take 5 (drop 5 text))) (λ (y : ℕ). group_code_of (take 1 (drop 5 (drop 5 text))) >>= λ z. digits_in 3 3 (drop 1 (drop 5 (drop 5 text))) >>= λ w. Some (date.0, y, z, w)) n date.2 in
    let code = bound (group_code_of (take 1 (drop 5 (drop 5 text)))) (λ (z : GroupCode). digits_in 3 3 (drop 1 (drop 5 (drop 5 text))) >>= λ w. Some (date.0, group.0, z, w)) n group.2 in
    let serial = bound (digits_in 3 3 (drop 1 (drop 5 (drop 5 text)))) (λ (w : ℕ). Some (date.0, group.0, code.0, w)) n code.2 in
    let read = only_if (length (take 5 text) == 5) (month_day_of (take 5 text)) date.0 date.1 in
    carried (λ (x : MonthDay × ℕ × GroupCode × ℕ). AreNumbers text x.0 x.1 x.2 x.3) (date.0, group.0, code.0, serial.0) n serial.2 (record {
      long = eqb-true (length (take 5 text)) 5 read.0;
      date_read = read.1;
      group_below = group_bound (take 5 (drop 5 text)) group.0 group.1;
      serial_below = serial_bound (drop 1 (drop 5 (drop 5 text))) serial.0 serial.1;
    })

-- what is written for the creator is what was read
creator_sound : (text : List ℕ) (creator : Option (List ℕ)) → creator_of text ≡ Some creator → text ≡ creator_text creator
creator_sound [] creator h = ap creator_text (some_same None creator h)
creator_sound (b ∷ text) creator h =
    let p = only_if ((b == 47) && nat_le 1 (length text) && nat_le (length text) 35) (Some (Some text)) creator h in
    let q = and_parts ((b == 47) && nat_le 1 (length text)) (nat_le (length text) 35) p.0 in
    let solidus = and_parts (b == 47) (nat_le 1 (length text)) q.0 in
    ap (λ (x : ℕ). x ∷ text) (eqb-true b 47 solidus.0) ∙ ap creator_text (some_same (Some text) creator p.1)

pub record IsReference (line : List ℕ) (r : GivenReference) : Type 0 where
  pub numbers : AreNumbers (take 14 line) r.date r.group r.code r.serial
  pub creator_read : creator_of (drop 14 line) ≡ Some r.creator

pub reference_sound : (line : List ℕ) (r : GivenReference) → reference_of line ≡ Some r → IsReference line r
unfolding reference_of
reference_sound line r h =
    let numbers = bound (numbers_of (take 14 line)) (λ (n : MonthDay × ℕ × GroupCode × ℕ). creator_of (drop 14 line) >>= λ c. Some (record { date = n.0; group = n.1; code = n.2; serial = n.3; creator = c })) r h in
    let creator = bound (creator_of (drop 14 line)) (λ (c : Option (List ℕ)). Some (record { date = numbers.0.0; group = numbers.0.1; code = numbers.0.2; serial = numbers.0.3; creator = c })) r numbers.2 in
    carried (IsReference line) (record { date = numbers.0.0; group = numbers.0.1; code = numbers.0.2; serial = numbers.0.3; creator = creator.0 }) r creator.2
    (record { numbers = numbers_sound (take 14 line) numbers.0 numbers.1; creator_read = creator.1 })

abbrev some_numbers : MonthDay → ℕ → GroupCode → ℕ → Option (MonthDay × ℕ × GroupCode × ℕ)
some_numbers d g c n = Some (d, g, c, n)

by_parts : (date : Option MonthDay) (group : Option ℕ) (code : Option GroupCode) (serial : Option ℕ) (d : MonthDay) (g : ℕ) (c : GroupCode) (n : ℕ) → date ≡ Some d → group ≡ Some g → code ≡ Some c → serial ≡ Some n
    → (date >>= λ x. group >>= λ y. code >>= λ z. serial >>= λ w. some_numbers x y z w) ≡ some_numbers d g c n
by_parts date group code serial d g c n hd hg hc hn = rw (hd, hg, hc, hn) refl

-- the fourteen bytes, and what follows them
fourteen : (text : List ℕ) (date : MonthDay) (group : ℕ) (code : GroupCode) (serial : ℕ) (rest : List ℕ) → length text ≡ 5 → month_day_of text ≡ Some date → group < 100000 → serial < 1000
    → (numbers_of (take 14 (text ++ five_digits group ++ group_code_text code ++ three_digits serial ++ rest)) ≡ Some (date, group, code, serial)) × (drop 14 (text ++ five_digits group ++ group_code_text code ++ three_digits serial ++ rest) ≡ rest)
unfolding numbers_of
fourteen (a ∷ b ∷ c ∷ d ∷ e ∷ []) date group Continuation serial rest l h g s =
    (by_parts (month_day_of (a ∷ b ∷ c ∷ d ∷ e ∷ [])) (digits_in 5 5 (five_digits group)) (Some Continuation) (digits_in 3 3 (three_digits serial)) date group Continuation serial h (five_again group g) refl (three_again serial s), refl)
fourteen (a ∷ b ∷ c ∷ d ∷ e ∷ []) date group End serial rest l h g s =
    (by_parts (month_day_of (a ∷ b ∷ c ∷ d ∷ e ∷ [])) (digits_in 5 5 (five_digits group)) (Some End) (digits_in 3 3 (three_digits serial)) date group End serial h (five_again group g) refl (three_again serial s), refl)
fourteen [] date group code serial rest l h g s = absurd (omega (arith, l))
fourteen (a ∷ []) date group code serial rest l h g s = absurd (omega (arith, l))
fourteen (a ∷ b ∷ []) date group code serial rest l h g s = absurd (omega (arith, l))
fourteen (a ∷ b ∷ c ∷ []) date group code serial rest l h g s = absurd (omega (arith, l))
fourteen (a ∷ b ∷ c ∷ d ∷ []) date group code serial rest l h g s = absurd (omega (arith, l))
fourteen (a ∷ b ∷ c ∷ d ∷ e ∷ f ∷ xs) date group code serial rest l h g s = absurd (omega (arith, l))

creator_again : (creator : Option (List ℕ)) (text : List ℕ) → creator_of text ≡ Some creator → creator_of (creator_text creator) ≡ Some creator
creator_again creator text h = ap creator_of (sym (creator_sound text creator h)) ∙ h

five_solid : (n : ℕ) → list_all is_solid (five_digits n) ≡ true
five_solid n = grind (arith, nat_tests)

three_solid : (n : ℕ) → list_all is_solid (three_digits n) ≡ true
three_solid n = grind (arith, nat_tests)

code_printable : (code : GroupCode) → list_all is_printable (group_code_text code) ≡ true
code_printable Continuation = refl
code_printable End = refl

-- the last digits, and the creator if there is one
ending : (serial : ℕ) (creator : Option (List ℕ)) → (1 ≤ length (creator_text creator) → IsLine (creator_text creator)) → IsLine (three_digits serial ++ creator_text creator)
ending serial None h = solid_line (three_digits serial) (omega arith) (three_solid serial)
ending serial (Some creator) h = line_behind (three_digits serial) (47 ∷ creator) (all_more is_solid is_printable solid_printable (three_digits serial) (three_solid serial)) (h (omega arith))

reference_line : (text line : List ℕ) (r : GivenReference) → list_all is_printable text ≡ true → IsLine line → creator_of (drop 14 line) ≡ Some r.creator
    → IsLine (text ++ (five_digits r.group ++ (group_code_text r.code ++ (three_digits r.serial ++ creator_text r.creator))))
reference_line text line r h l c =
    let creator = creator_sound (drop 14 line) r.creator c in
    let last = ending r.serial r.creator (λ some. subst IsLine creator (line_drop 14 line l (subst (λ (x : List ℕ). 1 ≤ length x) (sym creator) some))) in
    let group = all_more is_solid is_printable solid_printable (five_digits r.group) (five_solid r.group) in
    line_behind text (five_digits r.group ++ (group_code_text r.code ++ (three_digits r.serial ++ creator_text r.creator))) h
    (line_behind (five_digits r.group) (group_code_text r.code ++ (three_digits r.serial ++ creator_text r.creator)) group
    (line_behind (group_code_text r.code) (three_digits r.serial ++ creator_text r.creator) (code_printable r.code) last))

regrouped : (a b c d e : List ℕ) → a ++ (b ++ (c ++ (d ++ e))) ≡ a ++ b ++ c ++ d ++ e
regrouped a b c d e = simp append_assoc

of_parts : (numbers : Option (MonthDay × ℕ × GroupCode × ℕ)) (creator : Option (Option (List ℕ))) (r : GivenReference) → numbers ≡ Some (r.date, r.group, r.code, r.serial) → creator ≡ Some r.creator
    → (numbers >>= λ n. creator >>= λ c. Some (record { date = n.0; group = n.1; code = n.2; serial = n.3; creator = c })) ≡ Some r
of_parts numbers creator r h k = rw (h, k) refl

reference_read : (text : List ℕ) (r : GivenReference) → length text ≡ 5 → month_day_of text ≡ Some r.date → r.group < 100000 → r.serial < 1000 → creator_of (creator_text r.creator) ≡ Some r.creator
    → reference_of (text ++ five_digits r.group ++ group_code_text r.code ++ three_digits r.serial ++ creator_text r.creator) ≡ Some r
unfolding reference_of
reference_read text r l h g s c =
    let whole = text ++ five_digits r.group ++ group_code_text r.code ++ three_digits r.serial ++ creator_text r.creator in
    let cut = fourteen text r.date r.group r.code r.serial (creator_text r.creator) l h g s in
    of_parts (numbers_of (take 14 whole)) (creator_of (drop 14 whole)) r cut.0 (ap creator_of cut.1 ∙ c)

-- the date of a reference has one text
pub reference_again : (r : GivenReference) (line : List ℕ) → reference_of line ≡ Some r → IsLine line → ReadsAgain (ReferencePart r)
reference_again r line h l =
    let s = reference_sound line r h in
    let text = take 5 (take 14 line) in
    let date : text ≡ month_day_text r.date = (month_day_of-sound r.date text s.numbers.date_read).spelled in
    let front = all_take is_printable 5 (take 14 line) (all_take is_printable 14 line l.printable) in
    let whole = λ (x : List ℕ). x ++ five_digits r.group ++ group_code_text r.code ++ three_digits r.serial ++ creator_text r.creator in
    record {
      spelled = ap (λ (x : List ℕ). reference_of (whole x)) (sym date)
          ∙ reference_read text r s.numbers.long s.numbers.date_read s.numbers.group_below s.numbers.serial_below (creator_again r.creator (drop 14 line) s.creator_read);
      line = subst (λ (x : List ℕ). IsLine (whole x)) date
          (subst IsLine (regrouped text (five_digits r.group) (group_code_text r.code) (three_digits r.serial) (creator_text r.creator)) (reference_line text line r front l s.creator_read));
    }
