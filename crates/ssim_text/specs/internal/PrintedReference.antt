-- How a printed reference is read, part by part.
use Rattle.std.specs.Prelude.{ℕ, ◌==◌, if◌then◌else◌, Option, Some, None, List, [], ◌∷◌, take, drop, codes}
use Rattle.std.specs.Str.{bytes_eq}
use Rattle.ssim_text.specs.declared.kind.Kind.{Kind}
use Rattle.ssim_text.specs.declared.kind.Kind.TheVariants.{Ssm, Asm}
use Rattle.ssim_text.specs.declared.reference.Reference.{Reference}
use Rattle.ssim_text.specs.Bytes.{◌>>=◌}
use Rattle.ssim_text.specs.Lines.{address_of, day_in, digits_in}
use Rattle.ssim_text.specs.Values.{no_originator}

-- the message kind of a text
abbrev pub kind_in : List ℕ → Option Kind
kind_in text =
    if bytes_eq text (codes "SSM") then Some Ssm
    else (if bytes_eq text (codes "ASM") then Some Asm else None)

-- the bytes after a blank
abbrev pub after_blank : List ℕ → Option (List ℕ)
after_blank [] = None
after_blank (b ∷ text) = if b == 32 then Some text else None

-- the originator after the message serial: none, or a blank and an address
abbrev pub originator_in : List ℕ → Option (List ℕ)
originator_in [] = Some no_originator
originator_in (b ∷ text) = if b == 32 then address_of text else None

-- the reference of a text: a kind, a date, five digits and three, with a blank between each two,
-- and the originator
unfoldable pub reference_in : List ℕ → Option Reference
reference_in text = do
  kind ← kind_in (take 3 text)
  after_kind ← after_blank (drop 3 text)
  date ← day_in (take 7 after_kind)
  after_date ← after_blank (drop 7 after_kind)
  group ← digits_in 5 5 (take 5 after_date)
  after_group ← after_blank (drop 5 after_date)
  serial ← digits_in 3 3 (take 3 after_group)
  originator ← originator_in (drop 3 after_group)
  Some (record {
    date = date;
    group = group;
    serial = serial;
    kind = kind;
    originator = originator;
  })
