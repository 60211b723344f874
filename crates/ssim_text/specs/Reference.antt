-- The order of references, how they are printed, and which texts spell one.
use Rattle.std.specs.Prelude.{◌≡◌, ℕ, ◌<◌, ◌≤◌, Bool, ◌||◌, true, List, [], ◌∷◌, ◌++◌, if◌then◌else◌}
use Rattle.std.specs.Str.{bytes_eq}
use Rattle.ssim_values.specs.Calendar.{day_limit}
use Rattle.ssim_values.specs.Day.{day_text}
use Rattle.ssim_text.specs.Bytes.{is_alphanumeric, is_text_of}
use Rattle.ssim_text.specs.declared.kind.Kind.{Kind}
use Rattle.ssim_text.specs.declared.kind.Kind.TheVariants.{Ssm, Asm}
use Rattle.ssim_text.specs.declared.reference.Reference.{Reference}
use Rattle.ssim_text.specs.Canonical.{five_digits, three_digits}
use Rattle.ssim_text.specs.Lines.{kind_text}
use Rattle.ssim_text.specs.Values.{no_originator}

-- the number of a message kind; an SSM comes before an ASM
abbrev pub kind_number : Kind → ℕ
kind_number Ssm = 0
kind_number Asm = 1

-- the list of numbers by which references are ordered, the first number first
abbrev pub reference_numbers : Reference → List ℕ
reference_numbers r = r.date ∷ r.group ∷ r.serial ∷ kind_number r.kind ∷ r.originator

-- the text of an originator; nothing if it is blank
abbrev pub printed_originator : List ℕ → List ℕ
printed_originator originator = if bytes_eq originator no_originator then [] else 32 ∷ originator

-- the kind, the date with its year, the group serial, the message serial and the originator: SSM
-- 01JUN25 00001 001
abbrev pub printed_reference : Reference → List ℕ
printed_reference r =
    kind_text r.kind ++ 32 ∷ day_text r.date ++ 32 ∷ five_digits r.group
    ++ 32 ∷ three_digits r.serial
    ++ printed_originator r.originator

-- whether a text is an originator: seven letters or digits, or the seven blanks of none
abbrev pub is_originator : List ℕ → Bool
is_originator text = bytes_eq text no_originator || is_text_of is_alphanumeric 7 7 text

-- a reference that a message can have: its group has at most five digits, its serial at most three
pub record IsReference (r : Reference) : Type 0 where
  pub date : r.date < day_limit
  pub group : r.group ≤ 99999
  pub serial : r.serial ≤ 999
  pub originator : is_originator r.originator ≡ true

-- the text is the reference as it is printed
pub record SpellsReference (r : Reference) (text : List ℕ) : Type 0 where
  pub valid : IsReference r
  pub printed : text ≡ printed_reference r

-- no text spells two references
abbrev pub OneReference : Type 0
OneReference =
    (a b : Reference) (text : List ℕ) → SpellsReference a text → SpellsReference b text → a ≡ b
