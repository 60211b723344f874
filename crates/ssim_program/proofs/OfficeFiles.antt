-- What is said of the file of a desk that messages were brought to.
use Rattle.std.proofs.Common.{◌≡◌, ◌∙◌, ◌⊎◌, ◌↔◌, inl, inr, ℕ, ◌≤◌, ◌<◌, ◌^◌, true, List, [], ◌∷◌}
use Rattle.std.proofs.Common.{length, Option, None, Some, Ok, refl, sym, ap, subst, arith}
use Rattle.std.specs.FinMap.{entries, get, same_entries_map}
use Rattle.ssim_base.specs.BaseSeen.{BaseSeen}
use Rattle.ssim_base.specs.Reading.{IsReadAs, IsReadOf, SameBytesSameBase}
use Rattle.ssim_base.specs.Stations.{SameBytesSameRows, SpellsTable}
use Rattle.ssim_base.specs.declared.note.Note.{Note}
use Rattle.ssim_text.specs.Grammar.{OneMessage}
use Rattle.ssim_text.specs.Message.{MessageValue}
use Rattle.ssim_text.specs.Reference.{OneReference}
use Rattle.ssim_text.specs.Spelling.{CanonicalReadsBack}
use Rattle.ssim_text.specs.declared.reference.Reference.{Reference}
use Rattle.ssim_held.proofs.Entries.{entries-map_of, get-map_of}
use Rattle.ssim_held.specs.Entries.{AreRising, DeskSeen, Entry, keyed, map_of, state_of}
use Rattle.ssim_held.specs.File.{CanBeSaved, IsDeskFile, NoTwoDesks, desk_file}
use Rattle.ssim_held.specs.Held.{DeskState, HeldMessages, Says}
use Rattle.ssim_desk.proofs.Agreeing.{same_desk}
use Rattle.ssim_desk.proofs.Taking.{merge_holds, take_holds}
use Rattle.ssim_desk.specs.Desk.{take_answer}
use Rattle.ssim_desk.specs.Deliveries.{is_accepted}
use Rattle.ssim_desk.specs.declared.steps.Answer.TheVariants.{Merged}
use Rattle.ssim_command_line.specs.Line.{Text}
use Rattle.ssim_program.specs.Carrying.{IsCarried, MeansTheSame}
use Rattle.ssim_program.specs.Desks.{desk_in, text_taken}
use Rattle.ssim_program.specs.internal.Take.{TakesTexts}
use Rattle.ssim_program.specs.Files.{Files, file_of}
use Rattle.ssim_program.specs.Made.{file_limit}
use Rattle.ssim_program.specs.Receiving.{IsAccepted, Receipt, texts_received}
use Rattle.ssim_program.specs.Offices.{BeganBy, BeganFrom, Began, Bringing, Brought, BroughtBy}
use Rattle.ssim_program.specs.Offices.{Happened, History, HoldsWhatWasBrought, IsIn, IsReadFrom}
use Rattle.ssim_program.specs.Offices.{IsSaid, IsSavedFrom, OfficesAgree, Origin, Then, files_of}
use Rattle.ssim_program.specs.Offices.{origin_of}
use Rattle.ssim_program.specs.Offices as office
use Rattle.ssim_program.proofs.AcceptedTexts.{accepted, after_files}
use Rattle.ssim_program.proofs.Origins.{Comes, comes, same_some, read_from}
use Rattle.ssim_program.proofs.SavedDesks.{IsValid, is_listed, same_file, valid_carry, valid_fewer}
use Rattle.ssim_program.proofs.SavedDesks.{valid_file, valid_merge, valid_start, valid_take}
use Rattle.ssim_program.proofs.Withdrawing.{left_after}
use Rattle.ssim_program.specs.Withdrawing.{IsNamed}

-- what messages a desk has
abbrev pub Messages : Type 1
Messages = Reference → MessageValue → Type 0

-- the bytes of a file that can be read are those of this desk
abbrev pub Reads : Option (List ℕ) → BaseSeen → List Entry → Type 0
Reads file base held = (bytes : List ℕ) × (length bytes ≤ file_limit) × (file ≡ Some bytes)
    × IsDeskFile bytes base held

-- whichever desk a file is read as, it holds what was brought
abbrev pub Holding : Option (List ℕ) → Messages → Type 0
Holding file brought =
    (base : BaseSeen) (held : List Entry) → Reads file base held → (r : Reference) (m : MessageValue)
    → (get (map_of held) r ≡ Some m) ↔ brought r m

-- the file is that of a desk over the base, which holds what was brought
pub record IsKept (file : Option (List ℕ)) (base : BaseSeen) (brought : Messages) : Type 0 where
  pub held : List Entry
  pub can : CanBeSaved base held
  pub is : file ≡ Some (desk_file base held)
  pub holds : (r : Reference) (m : MessageValue) → (get (map_of held) r ≡ Some m) ↔ brought r m

-- the file is that of a desk that began from these bytes
abbrev pub IsFounded : Option (List ℕ) → Messages → List ℕ → List ℕ → Type 0
IsFounded file brought dataset stations = (base : BaseSeen) × IsReadFrom base dataset stations
    × IsKept file base brought

pub small : (bytes : List ℕ) → length bytes ≤ file_limit → length bytes < 2 ^ 64
small bytes h = omega (arith, h)

-- a desk after some texts
pub record AfterTexts (files : Files) (names : List Text) (before after : DeskSeen) : Type 0 where
  pub base : after.base ≡ before.base
  pub valid : IsValid after.base (map_of after.held)
  pub holds : (r : Reference) (m : MessageValue)
      → (get (map_of after.held) r ≡ Some m) ↔ ((get (map_of before.held) r ≡ Some m)
      ⊎ IsSaid files before.base names r m)
