-- A text is read as a reference exactly if it is the printed text of that reference: each part has
-- one text, and the parts have fixed lengths.
use Rattle.std.proofs.Common.{◌≡◌, ◌≤◌, ◌<◌, ℕ, ◌+◌, ◌*◌, ◌-◌, Bool, true, false, List, [], ◌∷◌, ◌++◌, length, refl, sym, ap, subst, ◌∙◌, append_assoc, arith, Option, Some, None, codes, take, drop}
use Rattle.std.specs.Prelude.{◌==◌, ◌||◌, ◌&&◌, ◌/◌, ◌%◌, nat_le, if◌then◌else◌}
use Rattle.std.specs.List.{list_all}
use Rattle.std.specs.Str.{bytes_eq}
use Rattle.std.proofs.lemmas.Bool.{and_parts}
use Rattle.std.proofs.lemmas.Bool.Decides.{nat_tests}
use Rattle.std.proofs.lemmas.List.{take-append-drop}
use Rattle.std.proofs.lemmas.Slice.Eq.{bytes_eq-Decides}
use Rattle.ssim_values.specs.Calendar.{day_limit}
use Rattle.ssim_values.specs.Characters.{is_digit}
use Rattle.ssim_values.specs.Day.{day_of, day_text}
use Rattle.ssim_values.specs.Flight.{number_of}
use Rattle.ssim_values.proofs.DayLaws.{day_of-bound, day_of-day_text, day_of-one_text, day_of-sound}
use Rattle.ssim_text.specs.declared.kind.Kind.{Kind}
use Rattle.ssim_text.specs.declared.kind.Kind.TheVariants.{Ssm, Asm}
use Rattle.ssim_text.specs.declared.reference.Reference.{Reference}
use Rattle.ssim_text.specs.Bytes.{◌>>=◌, is_alphanumeric, is_text_of}
use Rattle.ssim_text.specs.Canonical.{five_digits, three_digits}
use Rattle.ssim_text.specs.Lines.{address_of, day_in, digits_in, kind_text}
use Rattle.ssim_text.specs.Reference.{OneReference, SpellsReference, is_originator, printed_originator, printed_reference}
use Rattle.ssim_text.specs.Values.{no_originator}
use Rattle.ssim_text.specs.internal.PrintedReference.{after_blank, kind_in, originator_in, reference_in}
use Rattle.ssim_text.proofs.HeadingAgain.{address_complete, address_sound, five_again, group_bound, serial_bound, three_again}
use Rattle.ssim_text.proofs.Runs.{none_some, some_same}
use Rattle.ssim_text.proofs.Words.{bound, carried, digits_sound, only_if}

-- ---- each part has one text

kind_sound_at : (ssm asm : Bool) (text : List ℕ) (kind : Kind) → bytes_eq text (codes "SSM") ≡ ssm → bytes_eq text (codes "ASM") ≡ asm
    → (if ssm then Some Ssm else (if asm then Some Asm else None)) ≡ Some kind → text ≡ kind_text kind
kind_sound_at true asm text kind e f h = (bytes_eq-Decides text (codes "SSM")).0 e ∙ ap kind_text (some_same Ssm kind h)
kind_sound_at false true text kind e f h = (bytes_eq-Decides text (codes "ASM")).0 f ∙ ap kind_text (some_same Asm kind h)
kind_sound_at false false text kind e f h = absurd (none_some kind h)

kind_sound : (text : List ℕ) (kind : Kind) → kind_in text ≡ Some kind → text ≡ kind_text kind
kind_sound text kind h = kind_sound_at (bytes_eq text (codes "SSM")) (bytes_eq text (codes "ASM")) text kind refl refl h

blank_sound : (text rest : List ℕ) → after_blank text ≡ Some rest → text ≡ 32 ∷ rest
blank_sound [] rest h = absurd (none_some rest h)
blank_sound (b ∷ text) rest h =
    let p = only_if (b == 32) (Some text) rest h in
    let blank : b ≡ 32 = grind (arith, nat_tests) in
    ap (λ (x : ℕ). x ∷ text) blank ∙ ap (λ (x : List ℕ). 32 ∷ x) (some_same text rest p.1)

-- a day of the calendar, and its text
record IsDayText (text : List ℕ) (day : ℕ) : Type 0 where
  below : day < day_limit
  written : text ≡ day_text day

day_sound : (text : List ℕ) (day : ℕ) → day_in text ≡ Some day → IsDayText text day
day_sound text day h =
    let p = only_if (length text == 7) (day_of text) day h in
    record { below = day_of-bound day text (day_of-sound day text p.1); written = day_of-one_text day text p.1 }

digit_value : (x : ℕ) → is_digit x ≡ true → (48 ≤ x) × (x ≤ 57)
digit_value x h = (grind (arith, nat_tests), grind (arith, nat_tests))

three_written : (a b c n : ℕ) → a < 10 → b < 10 → c < 10 → n ≡ (a * 10 + b) * 10 + c → (48 + a) ∷ (48 + b) ∷ (48 + c) ∷ [] ≡ three_digits n
three_written a b c n ha hb hc h =
    let first : 48 + a ≡ 48 + n / 100 % 10 = omega arith in
    let second : 48 + b ≡ 48 + n / 10 % 10 = omega arith in
    let third : 48 + c ≡ 48 + n % 10 = omega arith in
    cc

five_written : (a b c d e n : ℕ) → a < 10 → b < 10 → c < 10 → d < 10 → e < 10 → n ≡ (((a * 10 + b) * 10 + c) * 10 + d) * 10 + e
    → (48 + a) ∷ (48 + b) ∷ (48 + c) ∷ (48 + d) ∷ (48 + e) ∷ [] ≡ five_digits n
five_written a b c d e n ha hb hc hd he h =
    let first : 48 + a ≡ 48 + n / 10000 % 10 = omega arith in
    let second : 48 + b ≡ 48 + n / 1000 % 10 = omega arith in
    let third : 48 + c ≡ 48 + n / 100 % 10 = omega arith in
    let fourth : 48 + d ≡ 48 + n / 10 % 10 = omega arith in
    let fifth : 48 + e ≡ 48 + n % 10 = omega arith in
    cc

-- a digit as 48 and its value
as_digit : (x : ℕ) → is_digit x ≡ true → x ≡ 48 + (x - 48)
as_digit x h = let v = digit_value x h in omega (arith, v.0)

below_ten : (x : ℕ) → is_digit x ≡ true → x - 48 < 10
below_ten x h = let v = digit_value x h in omega (arith, v.0, v.1)

three_sound : (text : List ℕ) (n : ℕ) → digits_in 3 3 text ≡ Some n → text ≡ three_digits n
three_sound text n h = let d = digits_sound 3 3 text n h in by text d.all (omega (arith, d.from, d.to)) d.number
  where
    by : (text : List ℕ) → list_all is_digit text ≡ true → length text ≡ 3 → number_of text ≡ n → text ≡ three_digits n
    by (a ∷ b ∷ c ∷ []) all l is =
        let pa = and_parts (is_digit a) (list_all is_digit (b ∷ c ∷ [])) all in
        let pb = and_parts (is_digit b) (list_all is_digit (c ∷ [])) pa.1 in
        let pc = and_parts (is_digit c) true pb.1 in
        let same : a ∷ b ∷ c ∷ [] ≡ (48 + (a - 48)) ∷ (48 + (b - 48)) ∷ (48 + (c - 48)) ∷ [] =
        let ea = as_digit a pa.0 in let eb = as_digit b pb.0 in let ec = as_digit c pc.0 in cc in
        same ∙ three_written (a - 48) (b - 48) (c - 48) n (below_ten a pa.0) (below_ten b pb.0) (below_ten c pc.0) (omega (arith, is))
    by [] all l is = absurd (omega (arith, l))
    by (a ∷ []) all l is = absurd (omega (arith, l))
    by (a ∷ b ∷ []) all l is = absurd (omega (arith, l))
    by (a ∷ b ∷ c ∷ d ∷ text) all l is = absurd (omega (arith, l))

five_sound : (text : List ℕ) (n : ℕ) → digits_in 5 5 text ≡ Some n → text ≡ five_digits n
five_sound text n h = let d = digits_sound 5 5 text n h in by text d.all (omega (arith, d.from, d.to)) d.number
  where
    by : (text : List ℕ) → list_all is_digit text ≡ true → length text ≡ 5 → number_of text ≡ n → text ≡ five_digits n
    by (a ∷ b ∷ c ∷ d ∷ e ∷ []) all l is =
        let pa = and_parts (is_digit a) (list_all is_digit (b ∷ c ∷ d ∷ e ∷ [])) all in
        let pb = and_parts (is_digit b) (list_all is_digit (c ∷ d ∷ e ∷ [])) pa.1 in
        let pc = and_parts (is_digit c) (list_all is_digit (d ∷ e ∷ [])) pb.1 in
        let pd = and_parts (is_digit d) (list_all is_digit (e ∷ [])) pc.1 in
        let pe = and_parts (is_digit e) true pd.1 in
        let same : a ∷ b ∷ c ∷ d ∷ e ∷ [] ≡ (48 + (a - 48)) ∷ (48 + (b - 48)) ∷ (48 + (c - 48)) ∷ (48 + (d - 48)) ∷ (48 + (e - 48)) ∷ [] =
        let ea = as_digit a pa.0 in let eb = as_digit b pb.0 in let ec = as_digit c pc.0 in let ed = as_digit d pd.0 in let ee = as_digit e pe.0 in cc in
        same
        ∙ five_written (a - 48) (b - 48) (c - 48) (d - 48) (e - 48) n (below_ten a pa.0) (below_ten b pb.0) (below_ten c pc.0) (below_ten d pd.0) (below_ten e pe.0) (omega (arith, is))
    by [] all l is = absurd (omega (arith, l))
    by (a ∷ []) all l is = absurd (omega (arith, l))
    by (a ∷ b ∷ []) all l is = absurd (omega (arith, l))
    by (a ∷ b ∷ c ∷ []) all l is = absurd (omega (arith, l))
    by (a ∷ b ∷ c ∷ d ∷ []) all l is = absurd (omega (arith, l))
    by (a ∷ b ∷ c ∷ d ∷ e ∷ f ∷ text) all l is = absurd (omega (arith, l))

-- an originator, and its text after the message serial
record IsOriginatorText (text originator : List ℕ) : Type 0 where
  valid : is_originator originator ≡ true
  written : text ≡ printed_originator originator

is_address : (originator : List ℕ) → length originator ≡ 7 → list_all is_alphanumeric originator ≡ true → is_text_of is_alphanumeric 7 7 originator ≡ true
is_address originator l h = grind (arith, nat_tests)

-- an address is not the seven blanks
not_blank : (originator : List ℕ) (b : Bool) → bytes_eq originator no_originator ≡ b → list_all is_alphanumeric originator ≡ true → b ≡ false
not_blank originator false e h = refl
not_blank originator true e h =
    let blank : list_all is_alphanumeric no_originator ≡ true = subst (λ (x : List ℕ). list_all is_alphanumeric x ≡ true) ((bytes_eq-Decides originator no_originator).0 e) h in
    absurd cc

or_right : (a b : Bool) → b ≡ true → (a || b) ≡ true
or_right true b h = refl
or_right false b h = h

originator_sound : (text originator : List ℕ) → originator_in text ≡ Some originator → IsOriginatorText text originator
originator_sound [] originator h = subst (IsOriginatorText []) (some_same no_originator originator h) (record { valid = refl; written = refl })
originator_sound (b ∷ text) originator h =
    let p = only_if (b == 32) (address_of text) originator h in
    let blank : b ≡ 32 = grind (arith, nat_tests) in
    let address = address_sound text originator p.1 in
    let test = not_blank originator (bytes_eq originator no_originator) refl address.all in
    record {
      valid = or_right (bytes_eq originator no_originator) (is_text_of is_alphanumeric 7 7 originator) (is_address originator address.long address.all);
      written = ap (λ (x : ℕ). x ∷ text) blank ∙ ap (λ (x : List ℕ). 32 ∷ x) address.same
          ∙ sym (ap (λ (b : Bool). if b then [] else 32 ∷ originator) test);
    }

-- ---- what is read is spelled

-- the parts of a printed reference, the first one before all others
first_part : (kind day group serial originator : List ℕ)
    → kind ++ 32 ∷ day ++ 32 ∷ group ++ 32 ∷ serial ++ originator ≡ kind ++ (32 ∷ (day ++ (32 ∷ (group ++ (32 ∷ (serial ++ originator))))))
first_part kind day group serial originator = simp append_assoc

parts_of : (r : Reference) → printed_reference r ≡ kind_text r.kind ++ (32 ∷ (day_text r.date ++ (32 ∷ (five_digits r.group ++ (32 ∷ (three_digits r.serial ++ printed_originator r.originator))))))
parts_of r = first_part (kind_text r.kind) (day_text r.date) (five_digits r.group) (three_digits r.serial) (printed_originator r.originator)

module _ (text : List ℕ) (r : Reference) (rest more last : List ℕ) where
  -- the parts, put together
  whole : take 3 text ≡ kind_text r.kind → drop 3 text ≡ 32 ∷ rest → take 7 rest ≡ day_text r.date → drop 7 rest ≡ 32 ∷ more
      → take 5 more ≡ five_digits r.group → drop 5 more ≡ 32 ∷ last → take 3 last ≡ three_digits r.serial → drop 3 last ≡ printed_originator r.originator
      → text ≡ printed_reference r
  whole kind a date b group c serial originator =
      let last_is : last ≡ three_digits r.serial ++ printed_originator r.originator = sym (take-append-drop 3 last) ∙ rw (serial, originator) refl in
      let more_is : more ≡ five_digits r.group ++ 32 ∷ last = sym (take-append-drop 5 more) ∙ rw (group, c) refl in
      let rest_is : rest ≡ day_text r.date ++ 32 ∷ more = sym (take-append-drop 7 rest) ∙ rw (date, b) refl in
      let text_is : text ≡ kind_text r.kind ++ 32 ∷ rest = sym (take-append-drop 3 text) ∙ rw (kind, a) refl in
      text_is ∙ ap (λ (x : List ℕ). kind_text r.kind ++ 32 ∷ x) (rest_is ∙ ap (λ (x : List ℕ). day_text r.date ++ 32 ∷ x) (more_is ∙ ap (λ (x : List ℕ). five_digits r.group ++ 32 ∷ x) last_is))
      ∙ sym (parts_of r)

-- the parts that are read one after another: what is left to read after each
abbrev made : Kind → ℕ → ℕ → ℕ → List ℕ → Option Reference
made kind date group serial originator = Some (record { date = date; group = group; serial = serial; kind = kind; originator = originator })

abbrev from_serial : Kind → ℕ → ℕ → List ℕ → ℕ → Option Reference
from_serial kind date group last serial = originator_in (drop 3 last) >>= made kind date group serial

abbrev from_last : Kind → ℕ → ℕ → List ℕ → Option Reference
from_last kind date group last = digits_in 3 3 (take 3 last) >>= from_serial kind date group last

abbrev from_group : Kind → ℕ → List ℕ → ℕ → Option Reference
from_group kind date more group = after_blank (drop 5 more) >>= from_last kind date group

abbrev from_more : Kind → ℕ → List ℕ → Option Reference
from_more kind date more = digits_in 5 5 (take 5 more) >>= from_group kind date more

abbrev from_date : Kind → List ℕ → ℕ → Option Reference
from_date kind rest date = after_blank (drop 7 rest) >>= from_more kind date

abbrev from_rest : Kind → List ℕ → Option Reference
from_rest kind rest = day_in (take 7 rest) >>= from_date kind rest

abbrev from_kind : List ℕ → Kind → Option Reference
from_kind text kind = after_blank (drop 3 text) >>= from_rest kind

pub reference_sound : (text : List ℕ) (r : Reference) → reference_in text ≡ Some r → SpellsReference r text
unfolding reference_in
reference_sound text r h =
    let kind = bound (kind_in (take 3 text)) (from_kind text) r h in
    let rest = bound (after_blank (drop 3 text)) (from_rest kind.0) r kind.2 in
    let date = bound (day_in (take 7 rest.0)) (from_date kind.0 rest.0) r rest.2 in
    let more = bound (after_blank (drop 7 rest.0)) (from_more kind.0 date.0) r date.2 in
    let group = bound (digits_in 5 5 (take 5 more.0)) (from_group kind.0 date.0 more.0) r more.2 in
    let last = bound (after_blank (drop 5 more.0)) (from_last kind.0 date.0 group.0) r group.2 in
    let serial = bound (digits_in 3 3 (take 3 last.0)) (from_serial kind.0 date.0 group.0 last.0) r last.2 in
    let originator = bound (originator_in (drop 3 last.0)) (made kind.0 date.0 group.0 serial.0) r serial.2 in
    let read : Reference = record { date = date.0; group = group.0; serial = serial.0; kind = kind.0; originator = originator.0 } in
    let day = day_sound (take 7 rest.0) date.0 date.1 in
    let sender = originator_sound (drop 3 last.0) originator.0 originator.1 in
    let group_low = group_bound (take 5 more.0) group.0 group.1 in
    let serial_low = serial_bound (take 3 last.0) serial.0 serial.1 in
    carried (λ (x : Reference). SpellsReference x text) read r originator.2 (record {
      valid = record { date = day.below; group = omega (arith, group_low); serial = omega (arith, serial_low); originator = sender.valid };
      printed = whole text read rest.0 more.0 last.0 (kind_sound (take 3 text) kind.0 kind.1) (blank_sound (drop 3 text) rest.0 rest.1) day.written (blank_sound (drop 7 rest.0) more.0 more.1)
          (five_sound (take 5 more.0) group.0 group.1) (blank_sound (drop 5 more.0) last.0 last.1) (three_sound (take 3 last.0) serial.0 serial.1) sender.written;
    })

-- ---- what is spelled is read

originator_complete_at : (originator : List ℕ) (b : Bool) → bytes_eq originator no_originator ≡ b → (b || is_text_of is_alphanumeric 7 7 originator) ≡ true
    → originator_in (if b then [] else 32 ∷ originator) ≡ Some originator
originator_complete_at originator true e h = ap (λ (x : List ℕ). Some x) (sym ((bytes_eq-Decides originator no_originator).0 e))
originator_complete_at originator false e h =
    let p = and_parts (nat_le 7 (length originator) && nat_le (length originator) 7) (list_all is_alphanumeric originator) h in
    let seven : length originator ≡ 7 = grind (arith, nat_tests) in
    address_complete originator seven p.1

originator_complete : (originator : List ℕ) → is_originator originator ≡ true → originator_in (printed_originator originator) ≡ Some originator
originator_complete originator h = originator_complete_at originator (bytes_eq originator no_originator) refl h

-- the parts after the kind, of which the date has seven bytes
after_kind : (kind : Kind) (day : List ℕ) (date group serial : ℕ) (rest originator : List ℕ) → day_of day ≡ Some date → digits_in 5 5 (five_digits group) ≡ Some group
    → digits_in 3 3 (three_digits serial) ≡ Some serial → originator_in rest ≡ Some originator
    → from_rest kind (day ++ (32 ∷ (five_digits group ++ (32 ∷ (three_digits serial ++ rest))))) ≡ made kind date group serial originator
unfolding day_of
after_kind kind (a ∷ b ∷ c ∷ d ∷ e ∷ f ∷ g ∷ []) date group serial rest originator hd hg hs ho = rw (hd, hg, hs, ho) refl
after_kind kind [] date group serial rest originator hd hg hs ho = absurd (none_some date hd)
after_kind kind (a ∷ []) date group serial rest originator hd hg hs ho = absurd (none_some date hd)
after_kind kind (a ∷ b ∷ []) date group serial rest originator hd hg hs ho = absurd (none_some date hd)
after_kind kind (a ∷ b ∷ c ∷ []) date group serial rest originator hd hg hs ho = absurd (none_some date hd)
after_kind kind (a ∷ b ∷ c ∷ d ∷ []) date group serial rest originator hd hg hs ho = absurd (none_some date hd)
after_kind kind (a ∷ b ∷ c ∷ d ∷ e ∷ []) date group serial rest originator hd hg hs ho = absurd (none_some date hd)
after_kind kind (a ∷ b ∷ c ∷ d ∷ e ∷ f ∷ []) date group serial rest originator hd hg hs ho = absurd (none_some date hd)
after_kind kind (a ∷ b ∷ c ∷ d ∷ e ∷ f ∷ g ∷ h ∷ day) date group serial rest originator hd hg hs ho = absurd (none_some date hd)

kind_read : (kind : Kind) (rest : List ℕ) → reference_in (kind_text kind ++ 32 ∷ rest) ≡ from_rest kind rest
unfolding reference_in
kind_read Ssm rest = refl
kind_read Asm rest = refl

pub reference_complete : (text : List ℕ) (r : Reference) → SpellsReference r text → reference_in text ≡ Some r
reference_complete text r h =
    let v = h.valid in
    let rest = day_text r.date ++ (32 ∷ (five_digits r.group ++ (32 ∷ (three_digits r.serial ++ printed_originator r.originator)))) in
    ap reference_in (h.printed ∙ parts_of r) ∙ kind_read r.kind rest
    ∙ after_kind r.kind (day_text r.date) r.date r.group r.serial (printed_originator r.originator) r.originator
    (day_of-day_text r.date v.date) (five_again r.group (omega (arith, v.group))) (three_again r.serial (omega (arith, v.serial))) (originator_complete r.originator v.originator)

-- a text spells only one reference
pub one_reference : OneReference
one_reference a b text first second = some_same a b (sym (reference_complete text a first) ∙ reference_complete text b second)
