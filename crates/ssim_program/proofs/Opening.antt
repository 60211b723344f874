-- Why a file that was opened is refused as a desk file.
use Rattle.std.proofs.Common.{◌≡◌, ◌∙◌, inl, inr, ℕ, List, [], Option, Some, None, refl, sym, ap, arith, Err}
use Rattle.ssim_records.specs.declared.fault.RecordFault.{RecordFault}
use Rattle.ssim_base.specs.BaseSeen.{BaseSeen}
use Rattle.ssim_held.specs.Entries.{Entry}
use Rattle.ssim_held.specs.File.{IsFileOf}
use Rattle.ssim_held.specs.clauses.Opening.{RefusesFile}
use Rattle.ssim_held.specs.declared.fault.DeskFault.{DeskFault}
use Rattle.ssim_held.specs.declared.fault.DeskFault.TheVariants.{Memory, Text, Resolve, Conflict, OtherBase, Read, File}
use Rattle.ssim_command_line.specs.Line.{Text as Name}
use Rattle.ssim_program.specs.Desks.{IsNoDeskFile, desk_in}
use Rattle.ssim_program.specs.Files.{Files, IsOpened}
use Rattle.ssim_program.specs.Made.{file_limit}
use Rattle.ssim_program.specs.print.Refusal.{refusal_number}
use Rattle.ssim_program.specs.declared.refusal.Refusal.{Refusal}
use Rattle.ssim_program.specs.declared.refusal.Refusal.TheVariants as refused

-- no bytes are no desk file
no_file : (base : BaseSeen) (entries : List Entry) → IsFileOf [] base entries → ⊥
no_file base entries (inl e) = absurd cc
no_file base entries (inr e) = let is = e.0 in absurd cc

no_bytes : IsNoDeskFile []
no_bytes base entries is = no_file base entries is.is_file

-- a file whose bytes are no desk file, or for which memory ran out
pub refuses_bytes : (files : Option Files) (name : Name) (left : Option (List ℕ)) (e : DeskFault) (refusal : Refusal) → ((fault : RecordFault) → e ≡ Read fault → ⊥) → IsOpened files name left
    → RefusesFile file_limit left e → refusal ≡ refused.Desk e → desk_in files name (Err refusal)
refuses_bytes files name left Memory refusal read opened none is = inl (inl (ap refusal_number is))
refuses_bytes None name None (File offset) refusal read opened none is = inr ([], (omega arith, tt), (no_bytes, offset, is))
refuses_bytes None name (Some bytes) (File offset) refusal read opened none is = inr (bytes, (none.0, tt), (none.1, offset, is))
refuses_bytes (Some all) name None (File offset) refusal read opened none is = let e = opened.2 in absurd cc
refuses_bytes (Some all) name (Some bytes) (File offset) refusal read opened none is = inr (bytes, (none.0, opened.1 ∙ sym opened.2), (none.1, offset, is))
refuses_bytes files name left (Read fault) refusal read opened none is = absurd (read fault refl)
refuses_bytes files name left (Text fault) refusal read opened none is = absurd none
refuses_bytes files name left (Resolve fault) refusal read opened none is = absurd none
refuses_bytes files name left (Conflict reference) refusal read opened none is = absurd none
refuses_bytes files name left OtherBase refusal read opened none is = absurd none
