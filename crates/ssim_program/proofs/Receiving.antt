-- The files that `receive` keeps are those of its answer.
use Rattle.std.proofs.Common.{◌≡◌, ◌∙◌, ℕ, List, [], ◌∷◌, None, Option, Some, ap, ap₂, option_map, refl}
use Rattle.ssim_held.specs.Entries.{DeskSeen}
use Rattle.ssim_held.specs.File.{desk_file}
use Rattle.ssim_command_line.specs.Line.{Text}
use Rattle.ssim_program.specs.Acts.{Act, Keep}
use Rattle.ssim_program.specs.Receiving.{Receipt, received_files, refused_texts}
use Rattle.ssim_program.specs.internal.Program.{bytes_of, keeps}
use Rattle.ssim_program.specs.declared.made.Contents.{Contents}
use Rattle.ssim_program.specs.declared.made.Kept.{Kept}

-- the acts that keep refused texts and a desk
abbrev pub kept_in : Option Text → Text → List ℕ → List ℕ → List Act
kept_in None out texts desk = Keep out desk ∷ []
kept_in (Some refused) out texts desk = Keep refused texts ∷ Keep out desk ∷ []

abbrev pub kept_at : {H : Type 0} → Contents → H → Kept H
kept_at contents place = record { place = place; contents = contents }

keeps_in : {H : Type 0} (file : H → List ℕ) (place : Option H) (desk : H) (texts whole : Contents)
    → keeps file (option_map (kept_at texts) place) (kept_at whole desk) ≡ kept_in (option_map file place) (file desk) (bytes_of texts) (bytes_of whole)
keeps_in file None desk texts whole = refl
keeps_in file (Some place) desk texts whole = refl

same_files : (refused : Option Text) (out : Text) (receipts : List Receipt) (after : DeskSeen) → kept_in refused out (refused_texts receipts) (desk_file after.base after.held) ≡ received_files refused out receipts after
same_files None out receipts after = refl
same_files (Some name) out receipts after = refl

pub keeps_received : {H : Type 0} (file : H → List ℕ) (place : Option H) (kept : Option (Kept H)) (desk : H) (refused : Option Text) (out : Text) (texts whole : Contents) (receipts : List Receipt) (after : DeskSeen)
    → kept ≡ option_map (kept_at texts) place → option_map file place ≡ refused → file desk ≡ out → bytes_of texts ≡ refused_texts receipts → bytes_of whole ≡ desk_file after.base after.held
    → keeps file kept (kept_at whole desk) ≡ received_files refused out receipts after
keeps_received {H = H} file place kept desk refused out texts whole receipts after is named here texts_are whole_is =
    ap (λ (k : Option (Kept H)). keeps file k (kept_at whole desk)) is
    ∙ keeps_in file place desk texts whole
    ∙ ap₂ (λ (n : Option Text) (o : Text). kept_in n o (bytes_of texts) (bytes_of whole)) named here
    ∙ ap₂ (λ (ts bs : List ℕ). kept_in refused out ts bs) texts_are whole_is
    ∙ same_files refused out receipts after
