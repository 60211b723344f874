-- What is printed in pieces.
use Rattle.std.specs.Prelude.{◌≡◌, ℕ, true, List, Result, Ok, Err, ◌∷◌, ◌++◌}
use Rattle.ssim_program.specs.declared.refusal.Refusal.{Refusal}
use Rattle.ssim_program.specs.declared.refusal.Refusal.TheVariants as refused
use Rattle.ssim_values.specs.Day.{day_text}
use Rattle.ssim_text.specs.Canonical.{five_digits, three_digits}
use Rattle.ssim_text.specs.Lines.{kind_text}
use Rattle.ssim_text.specs.declared.reference.Reference.{Reference}
use Rattle.ssim_program.specs.print.Paper.{Paper, Grows, Breaks}

-- the bytes are printed and flushed; or a call fails, and the refusal is 52
abbrev pub Prints : List ℕ → Paper → Paper → Result (Unit {0}) Refusal → Type 0
Prints bytes before after (Ok x) = Grows bytes before after × (after.flushed ≡ true)
Prints bytes before after (Err refusal) = (refusal ≡ refused.WriteFault) × Breaks bytes before after

-- the bytes are printed, and not yet flushed; or a call fails, and the refusal is 52
abbrev pub PrintsPart : List ℕ → Paper → Paper → Result (Unit {0}) Refusal → Type 0
PrintsPart bytes before after (Ok x) = Grows bytes before after
PrintsPart bytes before after (Err refusal) =
    (refusal ≡ refused.WriteFault) × Breaks bytes before after

-- a reference without its originator: the kind, the date and the serials, each after a blank
abbrev pub without_originator : Reference → List ℕ
without_originator r =
    32 ∷ kind_text r.kind ++ 32 ∷ day_text r.date ++ 32 ∷ five_digits r.group
    ++ 32 ∷ three_digits r.serial
