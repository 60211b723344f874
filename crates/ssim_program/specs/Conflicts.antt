-- Of which messages a command or a line speaks that is refused for a conflict (60).
use Rattle.std.specs.Prelude.{◌≡◌, ◌≢◌, ◌⊎◌, Bool, List, [], ◌∷◌, ◌++◌, Some, Ok, Err}
use Rattle.ssim_text.specs.Message.{MessageValue}
use Rattle.ssim_text.specs.declared.reference.Reference.{Reference}
use Rattle.ssim_base.specs.BaseSeen.{BaseSeen}
use Rattle.ssim_mailbox.specs.Texts.{MailText}
use Rattle.ssim_held.specs.Entries.{DeskSeen, state_of}
use Rattle.ssim_held.specs.Held.{Holds, Says}
use Rattle.ssim_held.specs.declared.fault.DeskFault.TheVariants as desk_fault
use Rattle.ssim_command_line.specs.Line.{Text}
use Rattle.ssim_program.specs.Acts.{Act, Acts, Stop}
use Rattle.ssim_program.specs.Answers.{carry, merge, merge_since, take}
use Rattle.ssim_program.specs.Desks.{desk_in}
use Rattle.ssim_program.specs.Files.{Files}
use Rattle.ssim_program.specs.Offices.{IsSaid}
use Rattle.ssim_program.specs.Receiving.{Accepted, Receipt, Refused, Unread, received}
use Rattle.ssim_program.specs.Receiving.{texts_received}
use Rattle.ssim_program.specs.declared.refusal.Refusal.{Refusal}
use Rattle.ssim_program.specs.declared.refusal.Refusal.TheVariants as refused

-- the refusal for a conflict at this reference
abbrev pub conflict : Reference → Refusal
conflict reference = refused.Desk (desk_fault.Conflict reference)

-- two different messages are among these
abbrev pub HasTwo : (MessageValue → Type 0) → Type 0
HasTwo among = (one other : MessageValue) × (one ≢ other) × among one × among other

-- the acts end with this refusal
abbrev pub EndsWith : Refusal → List Act → Type 0
EndsWith why acts = (before : List Act) × (acts ≡ before ++ Stop why ∷ [])

-- If `take` is refused with 60, two different messages have the reference, of those that its desk
-- holds and those that its texts say.
abbrev pub TakeMeetsTwo : Type 0
TakeMeetsTwo =
    (files : Files) (effects : Bool) (name out : Text) (texts : List Text) (acts : List Act)
    (reference : Reference)
    → Acts (take (Some files) effects name out texts) acts → EndsWith (conflict reference) acts
    → (desk : DeskSeen) × desk_in (Some files) name (Ok desk)
    × HasTwo (λ m. Holds (state_of desk) reference m ⊎ IsSaid files desk.base texts reference m)

-- If `merge` is refused with 60, two different messages have the reference, of those that its desks
-- hold.
abbrev pub MergeMeetsTwo : Type 0
MergeMeetsTwo =
    (files : Files) (effects : Bool) (mine theirs out : Text) (reference : Reference)
    → merge (Some files) effects mine theirs out (Err (conflict reference))
    → (one : DeskSeen) × (other : DeskSeen) × desk_in (Some files) mine (Ok one)
    × desk_in (Some files) theirs (Ok other)
    × HasTwo (λ m. Holds (state_of one) reference m ⊎ Holds (state_of other) reference m)

-- If `merge --since` is refused with 60, two different messages have the reference, of those that its
-- two desks hold.
abbrev pub MergeSinceMeetsTwo : Type 0
MergeSinceMeetsTwo =
    (files : Files) (effects : Bool) (since mine theirs out : Text) (reference : Reference)
    → merge_since (Some files) effects since mine theirs out (Err (conflict reference))
    → (one : DeskSeen) × (other : DeskSeen) × desk_in (Some files) mine (Ok one)
    × desk_in (Some files) theirs (Ok other)
    × HasTwo (λ m. Holds (state_of one) reference m ⊎ Holds (state_of other) reference m)

-- If `carry` is refused with 60, two different messages have the reference, of those that its desks
-- hold.
abbrev pub CarryMeetsTwo : Type 0
CarryMeetsTwo =
    (files : Files) (effects : Bool) (mine theirs out : Text) (reference : Reference)
    → carry (Some files) effects mine theirs out (Err (conflict reference))
    → (one : DeskSeen) × (other : DeskSeen) × desk_in (Some files) mine (Ok one)
    × desk_in (Some files) theirs (Ok other)
    × HasTwo (λ m. Holds (state_of one) reference m ⊎ Holds (state_of other) reference m)

-- one of these texts says the message over the base
abbrev pub IsSaidByOne : BaseSeen → List MailText → Reference → MessageValue → Type 0
IsSaidByOne base [] reference message = ⊥
IsSaidByOne base (text ∷ texts) reference message =
    Says base text.bytes reference message ⊎ IsSaidByOne base texts reference message

-- the receipt is that of a text that is refused for a conflict at this reference
abbrev pub IsConflict : Reference → Receipt → Type 0
IsConflict reference (Accepted file n answer other) = ⊥
IsConflict reference (Refused file text fault) = fault ≡ desk_fault.Conflict reference
IsConflict reference (Unread file) = ⊥

-- one of these receipts is
abbrev pub HasConflict : Reference → List Receipt → Type 0
HasConflict reference [] = ⊥
HasConflict reference (receipt ∷ receipts) =
    IsConflict reference receipt ⊎ HasConflict reference receipts

-- If `receive` refuses a text with 60, two different messages have the reference, of those that its
-- desk holds and those that the texts of its mailboxes say.
abbrev pub ReceiveMeetsTwo : Type 0
ReceiveMeetsTwo =
    (files : Files) (name : Text) (mailboxes : List Text) (receipts : List Receipt)
    (after : DeskSeen) (reference : Reference)
    → received (Some files) name mailboxes (Ok (receipts, after))
    → HasConflict reference receipts
    → (desk : DeskSeen) × desk_in (Some files) name (Ok desk)
    × HasTwo (λ m. Holds (state_of desk) reference m
    ⊎ IsSaidByOne desk.base (texts_received files mailboxes) reference m)
