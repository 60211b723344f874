-- The equipment lines that are written are read as what they were written from.
use Rattle.std.proofs.Common.{◌≡◌, ◌≤◌, ℕ, Bool, true, not, ◌&&◌, List, [], ◌∷◌, ◌++◌, length, refl, sym, ap, subst, ◌∙◌, append-nil, arith, Option, Some, None, leb-true}
use Rattle.std.specs.Prelude.{◌==◌, nat_le}
use Rattle.std.specs.List.{list_all}
use Rattle.std.proofs.lemmas.Bool.{and_parts, and_from}
use Rattle.std.proofs.lemmas.Bool.Decides.{nat_tests}
use Rattle.ssim_values.specs.Characters.{is_letter}
use Rattle.ssim_text.specs.Values.{EquipmentValue}
use Rattle.ssim_text.specs.Bytes.{◌>>=◌, before, from, drop_blanks, word, after_word, is_alphanumeric, is_printable, is_text_of}
use Rattle.ssim_text.specs.Lines.{service_of, aircraft_of, designators_of, configuration_of, equipment_of}
use Rattle.ssim_text.specs.Grammar.{EquipmentPart, IsEquipment}
use Rattle.ssim_text.specs.clauses.Bounds.{IsEquipmentBounded}
use Rattle.ssim_text.specs.internal.Made.{equipment_with, layout_of}
use Rattle.ssim_text.specs.Canonical.{unless_empty, third_text, equipment_text}
use Rattle.ssim_text.proofs.Runs.{none_some, some_same}
use Rattle.ssim_text.proofs.LinesKept.{IsLine, ReadsAgain, chosen, all_join, all_more, line_behind}
use Rattle.ssim_text.proofs.Words.{bound, carried, only_if, lacks, is_solid, solid_printable, solid_no_blank, alphanumeric_solid, solid_line, before_none, from_none, before_mark, from_mark, no_blanks, blanks_none, word_first, behind_first, behind_last, within_text}

pub record IsService (text : List ℕ) (service : ℕ) : Type 0 where
  pub same : text ≡ service ∷ []
  pub letter : is_letter service ≡ true

pub service_sound : (text : List ℕ) (service : ℕ) → service_of text ≡ Some service → IsService text service
service_sound [] service h = absurd (none_some service h)
service_sound (b ∷ []) service h =
    let p = only_if (is_letter b) (Some b) service h in
    let same = some_same b service p.1 in
    record { same = ap (λ (x : ℕ). x ∷ []) same; letter = ap is_letter (sym same) ∙ p.0 }
service_sound (b ∷ c ∷ text) service h = absurd (none_some service h)

letter_solid : (b : ℕ) → is_letter b ≡ true → is_solid b ≡ true
letter_solid b h = grind (arith, nat_tests)

pub record IsAircraft (text aircraft : List ℕ) : Type 0 where
  pub same : text ≡ aircraft
  pub some : 1 ≤ length aircraft
  pub three : length aircraft ≡ 3
  pub all : list_all is_alphanumeric aircraft ≡ true

pub aircraft_sound : (text aircraft : List ℕ) → aircraft_of text ≡ Some aircraft → IsAircraft text aircraft
aircraft_sound text aircraft h =
    let p = only_if (is_text_of is_alphanumeric 3 3 text) (Some text) aircraft h in
    let q = and_parts (nat_le 3 (length text) && nat_le (length text) 3) (list_all is_alphanumeric text) p.0 in
    let r = and_parts (nat_le 3 (length text)) (nat_le (length text) 3) q.0 in
    let same = some_same text aircraft p.1 in
    let three : length aircraft ≡ 3 = omega (arith, leb-true 3 (length text) r.0, leb-true (length text) 3 r.1, ap length same) in
    record { same = same; some = omega (arith, three); three = three; all = ap (list_all is_alphanumeric) (sym same) ∙ q.1 }

pub record IsEquipmentLine (line : List ℕ) (e : EquipmentValue) : Type 0 where
  pub service : service_of (word line) ≡ Some e.service
  pub aircraft : aircraft_of (word (after_word line)) ≡ Some e.aircraft
  pub designators : designators_of (before 46 (after_word (after_word line))) ≡ Some e.designators
  pub configuration : configuration_of (from 46 (after_word (after_word line))) ≡ Some e.configuration

pub equipment_sound : (line : List ℕ) (e : EquipmentValue) → equipment_of line ≡ Some e → IsEquipmentLine line e
unfolding equipment_of
equipment_sound line e h =
    let third = after_word (after_word line) in
    let service = bound (service_of (word line)) (λ (x : ℕ). aircraft_of (word (after_word line)) >>= λ y. designators_of (before 46 third) >>= λ z. configuration_of (from 46 third) >>= λ w. Some (record { service = x; aircraft = y; designators = z; configuration = w })) e h in
    let aircraft = bound (aircraft_of (word (after_word line))) (λ (y : List ℕ). designators_of (before 46 third) >>= λ z. configuration_of (from 46 third) >>= λ w. Some (record { service = service.0; aircraft = y; designators = z; configuration = w })) e service.2 in
    let designators = bound (designators_of (before 46 third)) (λ (z : List ℕ). configuration_of (from 46 third) >>= λ w. Some (record { service = service.0; aircraft = aircraft.0; designators = z; configuration = w })) e aircraft.2 in
    let configuration = bound (configuration_of (from 46 third)) (λ (w : List ℕ). Some (record { service = service.0; aircraft = aircraft.0; designators = designators.0; configuration = w })) e designators.2 in
    carried (IsEquipmentLine line) (record { service = service.0; aircraft = aircraft.0; designators = designators.0; configuration = configuration.0 }) e configuration.2
    (record { service = service.1; aircraft = aircraft.1; designators = designators.1; configuration = configuration.1 })

-- ---- what is read is within its bounds

-- up to twenty bytes, each of which passes
record IsShort (test : ℕ → Bool) (text : List ℕ) : Type 0 where
  few : length text ≤ 20
  all : list_all test text ≡ true

short_text : (test : ℕ → Bool) (low : ℕ) (text own : List ℕ) → is_text_of test low 20 text ≡ true → text ≡ own → IsShort test own
short_text test low text own h e =
    let p = and_parts (nat_le low (length text) && nat_le (length text) 20) (list_all test text) h in
    let q = and_parts (nat_le low (length text)) (nat_le (length text) 20) p.0 in
    subst (IsShort test) e (record { few = leb-true (length text) 20 q.1; all = p.1 })

configuration_short : (text configuration : List ℕ) → configuration_of text ≡ Some configuration → IsShort is_alphanumeric configuration
configuration_short [] configuration h = subst (IsShort is_alphanumeric) (some_same [] configuration h) (record { few = omega arith; all = refl })
configuration_short (b ∷ text) configuration h =
    let p = only_if ((b == 46) && is_text_of is_alphanumeric 1 20 text) (Some text) configuration h in
    short_text is_alphanumeric 1 text configuration (and_parts (b == 46) (is_text_of is_alphanumeric 1 20 text) p.0).1 (some_same text configuration p.1)

designators_short : (text designators : List ℕ) → designators_of text ≡ Some designators → IsShort is_letter designators
designators_short text designators h =
    let p = only_if (is_text_of is_letter 0 20 text) (Some text) designators h in
    short_text is_letter 0 text designators p.0 (some_same text designators p.1)

pub equipment_bounded : (e : EquipmentValue) (line : List ℕ) → equipment_of line ≡ Some e → IsEquipmentBounded e
equipment_bounded e line h =
    let s = equipment_sound line e h in
    let aircraft = aircraft_sound (word (after_word line)) e.aircraft s.aircraft in
    let designators = designators_short (before 46 (after_word (after_word line))) e.designators s.designators in
    let configuration = configuration_short (from 46 (after_word (after_word line))) e.configuration s.configuration in
    record {
      service = (service_sound (word line) e.service s.service).letter;
      aircraft_three = aircraft.three;
      aircraft = aircraft.all;
      designators_few = designators.few;
      designators = designators.all;
      configuration_few = configuration.few;
      configuration = configuration.all;
    }

-- ---- what is within its bounds is read

by_parts : (service : Option ℕ) (aircraft designators configuration : Option (List ℕ)) (e : EquipmentValue) → service ≡ Some e.service → aircraft ≡ Some e.aircraft → designators ≡ Some e.designators → configuration ≡ Some e.configuration
    → (service >>= λ x. aircraft >>= λ y. designators >>= λ z. configuration >>= λ w. Some (record { service = x; aircraft = y; designators = z; configuration = w })) ≡ Some e
by_parts service aircraft designators configuration e h k l m = rw (h, k, l, m) refl

-- the third part is left out if it is empty
word_before : (aircraft third : List ℕ) → lacks 32 aircraft ≡ true → word (aircraft ++ unless_empty 32 third) ≡ aircraft
word_before aircraft [] h = ap word (append-nil aircraft) ∙ before_none 32 aircraft h
word_before aircraft (b ∷ third) h = word_first aircraft (b ∷ third) h

third_behind : (aircraft third : List ℕ) → lacks 32 aircraft ≡ true → drop_blanks third ≡ third → after_word (aircraft ++ unless_empty 32 third) ≡ third
third_behind aircraft [] h k = ap after_word (append-nil aircraft) ∙ behind_last aircraft h
third_behind aircraft (b ∷ third) h k = behind_first aircraft (b ∷ third) h k

third_line : (aircraft third : List ℕ) → IsLine aircraft → (1 ≤ length third → IsLine third) → IsLine (aircraft ++ unless_empty 32 third)
third_line aircraft [] l k = subst IsLine (sym (append-nil aircraft)) l
third_line aircraft (b ∷ third) l k = line_behind aircraft (32 ∷ b ∷ third) l.printable (line_behind (32 ∷ []) (b ∷ third) refl (k (omega arith)))

written : ℕ → List ℕ → List ℕ → List ℕ
written service aircraft third = service ∷ 32 ∷ (aircraft ++ unless_empty 32 third)

written_read : (e : EquipmentValue) (third : List ℕ) → is_letter e.service ≡ true → 1 ≤ length e.aircraft → list_all is_alphanumeric e.aircraft ≡ true → drop_blanks third ≡ third
    → designators_of (before 46 third) ≡ Some e.designators → configuration_of (from 46 third) ≡ Some e.configuration → aircraft_of e.aircraft ≡ Some e.aircraft → equipment_of (written e.service e.aircraft third) ≡ Some e
unfolding equipment_of written
written_read e third letter some all whole d c a =
    let solid = all_more is_alphanumeric is_solid alphanumeric_solid e.aircraft all in
    let lacking = all_more is_solid (λ b. not (b == 32)) solid_no_blank e.aircraft solid in
    let rest = e.aircraft ++ unless_empty 32 third in
    let own : lacks 32 (e.service ∷ []) ≡ true = and_from (not (e.service == 32)) true (solid_no_blank e.service (letter_solid e.service letter)) refl in
    let first : word (e.service ∷ 32 ∷ rest) ≡ e.service ∷ [] = word_first (e.service ∷ []) rest own in
    let after : after_word (e.service ∷ 32 ∷ rest) ≡ rest = behind_first (e.service ∷ []) rest own (no_blanks e.aircraft (unless_empty 32 third) some lacking) in
    let last : after_word (after_word (e.service ∷ 32 ∷ rest)) ≡ third = ap after_word after ∙ third_behind e.aircraft third lacking whole in
    by_parts (service_of (word (e.service ∷ 32 ∷ rest))) (aircraft_of (word (after_word (e.service ∷ 32 ∷ rest)))) (designators_of (before 46 (after_word (after_word (e.service ∷ 32 ∷ rest))))) (configuration_of (from 46 (after_word (after_word (e.service ∷ 32 ∷ rest))))) e
    (ap service_of first ∙ chosen (is_letter e.service) (Some e.service) None letter)
    (ap (λ (x : List ℕ). aircraft_of (word x)) after ∙ ap aircraft_of (word_before e.aircraft third lacking) ∙ a)
    (ap (λ (x : List ℕ). designators_of (before 46 x)) last ∙ d)
    (ap (λ (x : List ℕ). configuration_of (from 46 x)) last ∙ c)

written_line : (service : ℕ) (aircraft third : List ℕ) → is_letter service ≡ true → IsLine aircraft → (1 ≤ length third → IsLine third) → IsLine (written service aircraft third)
unfolding written
written_line service aircraft third h l k =
    line_behind (service ∷ 32 ∷ []) (aircraft ++ unless_empty 32 third) (and_from (is_printable service) true (solid_printable service (letter_solid service h)) refl) (third_line aircraft third l k)

is_written : (e : EquipmentValue) (third : List ℕ) → third ≡ third_text e → written e.service e.aircraft third ≡ equipment_text e
unfolding written
is_written e third h = rw h refl

letter_no_dot : (b : ℕ) → is_letter b ≡ true → not (b == 46) ≡ true
letter_no_dot b h = grind (arith, nat_tests)

-- the booking designators before a dot, and the configuration from it on
before_dot : (designators configuration : List ℕ) → lacks 46 designators ≡ true → before 46 (designators ++ unless_empty 46 configuration) ≡ designators
before_dot designators [] h = ap (before 46) (append-nil designators) ∙ before_none 46 designators h
before_dot designators (b ∷ text) h = before_mark 46 designators (b ∷ text) h

from_dot : (designators configuration : List ℕ) → lacks 46 designators ≡ true → from 46 (designators ++ unless_empty 46 configuration) ≡ unless_empty 46 configuration
from_dot designators [] h = ap (from 46) (append-nil designators) ∙ from_none 46 designators h
from_dot designators (b ∷ text) h = from_mark 46 designators (b ∷ text) h

dotted_solid : (configuration : List ℕ) → list_all is_solid configuration ≡ true → list_all is_solid (unless_empty 46 configuration) ≡ true
dotted_solid [] h = refl
dotted_solid (b ∷ text) h = and_from (is_solid 46) (list_all is_solid (b ∷ text)) refl h

configuration_read : (configuration : List ℕ) → length configuration ≤ 20 → list_all is_alphanumeric configuration ≡ true → configuration_of (unless_empty 46 configuration) ≡ Some configuration
configuration_read [] few all = refl
configuration_read (b ∷ text) few all =
    let own = b ∷ text in
    chosen ((46 == 46) && is_text_of is_alphanumeric 1 20 own) (Some own) None
    (and_from (46 == 46) (is_text_of is_alphanumeric 1 20 own) refl (within_text is_alphanumeric 1 20 own (omega arith) few all))

pub service_read : (service : ℕ) → is_letter service ≡ true → service_of (service ∷ []) ≡ Some service
service_read service h = chosen (is_letter service) (Some service) None h

pub aircraft_read : (aircraft : List ℕ) → length aircraft ≡ 3 → list_all is_alphanumeric aircraft ≡ true → aircraft_of aircraft ≡ Some aircraft
aircraft_read aircraft three all =
    chosen (is_text_of is_alphanumeric 3 3 aircraft) (Some aircraft) None
    (within_text is_alphanumeric 3 3 aircraft (omega (arith, three)) (omega (arith, three)) all)

pub designators_read : (designators : List ℕ) → length designators ≤ 20 → list_all is_letter designators ≡ true → designators_of designators ≡ Some designators
designators_read designators few all =
    chosen (is_text_of is_letter 0 20 designators) (Some designators) None
    (within_text is_letter 0 20 designators (omega arith) few all)

-- equipment within its bounds is read from its text
pub equipment_reads : (e : EquipmentValue) → IsEquipmentBounded e → ReadsAgain (EquipmentPart e)
equipment_reads e b =
    let third = third_text e in
    let whole = is_written e third refl in
    let some : 1 ≤ length e.aircraft = let three = b.aircraft_three in omega (arith, three) in
    let aircraft = all_more is_alphanumeric is_solid alphanumeric_solid e.aircraft b.aircraft in
    let designators = all_more is_letter is_solid letter_solid e.designators b.designators in
    let configuration = all_more is_alphanumeric is_solid alphanumeric_solid e.configuration b.configuration in
    let solid = all_join is_solid e.designators (unless_empty 46 e.configuration) designators (dotted_solid e.configuration configuration) in
    let lacking = all_more is_letter (λ c. not (c == 46)) letter_no_dot e.designators b.designators in
    record {
      spelled = ap equipment_of (sym whole)
          ∙ written_read e third b.service some b.aircraft
          (blanks_none third (all_more is_solid (λ c. not (c == 32)) solid_no_blank third solid))
          (ap designators_of (before_dot e.designators e.configuration lacking) ∙ designators_read e.designators b.designators_few b.designators)
          (ap configuration_of (from_dot e.designators e.configuration lacking) ∙ configuration_read e.configuration b.configuration_few b.configuration)
          (aircraft_read e.aircraft b.aircraft_three b.aircraft);
      line = subst IsLine whole
          (written_line e.service e.aircraft third b.service (solid_line e.aircraft some aircraft) (λ more. solid_line third more solid));
    }

pub equipment_again : (e : EquipmentValue) (line : List ℕ) → equipment_of line ≡ Some e → IsLine line → ReadsAgain (EquipmentPart e)
equipment_again e line h l = equipment_reads e (equipment_bounded e line h)

-- ---- what is made of parts

-- equipment within its bounds is made of its parts
equipment_is_made : (e : EquipmentValue) → IsEquipmentBounded e → equipment_with (e.service ∷ []) e.aircraft e.designators e.configuration ≡ Some e
unfolding equipment_with
equipment_is_made e b =
    by_parts (service_of (e.service ∷ [])) (aircraft_of e.aircraft) (designators_of e.designators) (layout_of e.configuration) e
    (service_read e.service b.service) (aircraft_read e.aircraft b.aircraft_three b.aircraft) (designators_read e.designators b.designators_few b.designators)
    (chosen (is_text_of is_alphanumeric 0 20 e.configuration) (Some e.configuration) None (within_text is_alphanumeric 0 20 e.configuration (omega arith) b.configuration_few b.configuration))

pub record IsMadeOf (service : ℕ) (aircraft designators configuration : List ℕ) (e : EquipmentValue) : Type 0 where
  pub same : e ≡ record { service = service; aircraft = aircraft; designators = designators; configuration = configuration }
  pub bounded : IsEquipmentBounded e

only_byte : (a b : ℕ) → a ∷ [] ≡ b ∷ [] → b ≡ a
only_byte a b h = cc

same_equipment : (service : ℕ) (aircraft designators configuration : List ℕ) (e : EquipmentValue) → e.service ≡ service → aircraft ≡ e.aircraft → designators ≡ e.designators → configuration ≡ e.configuration
    → e ≡ record { service = service; aircraft = aircraft; designators = designators; configuration = configuration }
same_equipment service aircraft designators configuration e s a d c = λ i. record { service = s i; aircraft = sym a i; designators = sym d i; configuration = sym c i }

layout_same : (text layout : List ℕ) → layout_of text ≡ Some layout → (text ≡ layout) × IsShort is_alphanumeric layout
layout_same text layout h =
    let p = only_if (is_text_of is_alphanumeric 0 20 text) (Some text) layout h in
    let same = some_same text layout p.1 in
    (same, short_text is_alphanumeric 0 text layout p.0 same)

designators_same : (text designators : List ℕ) → designators_of text ≡ Some designators → text ≡ designators
designators_same text designators h = some_same text designators (only_if (is_text_of is_letter 0 20 text) (Some text) designators h).1

-- what is made of parts has them, and is within its bounds
pub made_equipment : (service : ℕ) (aircraft designators configuration : List ℕ) (e : EquipmentValue) → equipment_with (service ∷ []) aircraft designators configuration ≡ Some e → IsMadeOf service aircraft designators configuration e
unfolding equipment_with
made_equipment service aircraft designators configuration e h =
    let s = bound (service_of (service ∷ [])) (λ (x : ℕ). aircraft_of aircraft >>= λ y. designators_of designators >>= λ z. layout_of configuration >>= λ w. Some (record { service = x; aircraft = y; designators = z; configuration = w })) e h in
    let a = bound (aircraft_of aircraft) (λ (y : List ℕ). designators_of designators >>= λ z. layout_of configuration >>= λ w. Some (record { service = s.0; aircraft = y; designators = z; configuration = w })) e s.2 in
    let d = bound (designators_of designators) (λ (z : List ℕ). layout_of configuration >>= λ w. Some (record { service = s.0; aircraft = a.0; designators = z; configuration = w })) e a.2 in
    let c = bound (layout_of configuration) (λ (w : List ℕ). Some (record { service = s.0; aircraft = a.0; designators = d.0; configuration = w })) e d.2 in
    let own_service = service_sound (service ∷ []) s.0 s.1 in
    let own_aircraft = aircraft_sound aircraft a.0 a.1 in
    let letters = designators_short designators d.0 d.1 in
    let layout = layout_same configuration c.0 c.1 in
    let own : EquipmentValue = record { service = s.0; aircraft = a.0; designators = d.0; configuration = c.0 } in
    carried (IsMadeOf service aircraft designators configuration) own e c.2 (record {
      same = same_equipment service aircraft designators configuration own (only_byte service s.0 own_service.same) own_aircraft.same (designators_same designators d.0 d.1) layout.0;
      bounded = record {
        service = own_service.letter;
        aircraft_three = own_aircraft.three;
        aircraft = own_aircraft.all;
        designators_few = letters.few;
        designators = letters.all;
        configuration_few = layout.1.few;
        configuration = layout.1.all;
      };
    })

-- no line spells what is not made of its parts
pub no_equipment : (e : EquipmentValue) → equipment_with (e.service ∷ []) e.aircraft e.designators e.configuration ≡ None → IsEquipment e → ⊥
no_equipment e none is = none_some e (sym none ∙ equipment_is_made e (equipment_bounded e is.line is.spells))
