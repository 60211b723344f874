-- What becomes of a section that is refused.
use Rattle.std.proofs.Common.{◌≡◌, List, Result, Ok, Err, IfOk, refl, subst, sym}
use Rattle.ssim_parts.specs.Sections.{SectionRead}
use Rattle.ssim_command_line.specs.Line.{Text}
use Rattle.ssim_program.specs.Splitting as split
use Rattle.ssim_program.specs.Splitting.{RefusedAs, RefusesSection, Section, refused_line}
use Rattle.ssim_program.specs.internal.Splitting.{fate_seen}
use Rattle.ssim_program.specs.declared.command.split.SectionFate.{SectionFate}
use Rattle.ssim_program.specs.declared.refusal.Refusal.{Refusal}

pub refused_fate : (result : Result SectionFate Refusal) (prefix : Text) (done : List Section)
    (read : SectionRead) (why : Refusal) → RefusesSection read why
    → IfOk result (λ fate. fate_seen fate ≡ RefusedAs (refused_line read.airline why))
    → IfOk result (λ fate. split.fate_of prefix done read (Ok (fate_seen fate)))
refused_fate (Ok fate) prefix done read why refuses is =
    subst (λ (f : split.SectionFate). split.fate_of prefix done read (Ok f)) (sym is)
    (why, refuses, refl)
refused_fate (Err e) prefix done read why refuses is = tt
