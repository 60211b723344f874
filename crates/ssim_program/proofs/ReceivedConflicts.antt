-- A text of a mailbox that is refused for a conflict names the two messages. What a desk holds after
-- texts were tried it held before, or one of the texts says it.
use Rattle.std.proofs.Common.{◌≡◌, ◌⊎◌, ◌∙◌, inl, inr, ◌≤◌, ◌<◌, List, [], ◌∷◌, ◌++◌, Option, None, Some, Ok, true, sym, ap, subst, length}
use Rattle.std.specs.Prelude.{IfSome}
use Rattle.std.specs.FinMap.{get}
use Rattle.ssim_text.specs.Grammar.{OneMessage}
use Rattle.ssim_text.specs.Message.{MessageValue}
use Rattle.ssim_text.specs.declared.reference.Reference.{Reference}
use Rattle.ssim_base.specs.BaseSeen.{BaseSeen}
use Rattle.ssim_mailbox.specs.Texts.{MailText, texts_in}
use Rattle.ssim_held.specs.Entries.{DeskSeen, map_of, state_of}
use Rattle.ssim_held.specs.Held.{Holds, Says}
use Rattle.ssim_held.specs.declared.fault.DeskFault.{DeskFault}
use Rattle.ssim_held.specs.declared.fault.DeskFault.TheVariants as desk_fault
use Rattle.ssim_desk.proofs.Taking.{take_holds}
use Rattle.ssim_desk.specs.Deliveries.{is_accepted}
use Rattle.ssim_desk.specs.Desk.{take_answer}
use Rattle.ssim_desk.specs.Steps.{RefusesText}
use Rattle.ssim_command_line.specs.Line.{Text}
use Rattle.ssim_program.specs.Conflicts.{HasConflict, HasTwo, IsConflict, IsSaidByOne, ReceiveMeetsTwo}
use Rattle.ssim_program.specs.Desks.{desk_in}
use Rattle.ssim_program.specs.Files.{Files, file_of}
use Rattle.ssim_program.specs.Receiving.{Accepted, Receipt, ReceivesEach, ReceivesFile, Refused, Tries, TriesEach, Unread, received, texts_received, texts_within}
use Rattle.ssim_program.proofs.AcceptedTexts.{missing, within_limit}

module _ (one : OneMessage) (r : Reference) where
  -- a message that a desk holds or a text says
  abbrev Told : DeskSeen → List MailText → MessageValue → Type 0
  Told desk texts m = Holds (state_of desk) r m ⊎ IsSaidByOne desk.base texts r m

  one_more : (desk : DeskSeen) (text : MailText) (texts : List MailText) (m : MessageValue) → Told desk texts m → Told desk (text ∷ texts) m
  one_more desk text texts m (inl holds) = inl holds
  one_more desk text texts m (inr said) = inr (inr said)

  -- ---- a text

  before_text : (file : Text) (desk after : DeskSeen) (text : MailText) (receipt : Receipt) (more : List MailText) (m : MessageValue) → Tries file desk text receipt after → Told after more m → Told desk (text ∷ more) m
  before_text file desk after text (Accepted name n answer reference) more m (same, at, taken) (inl holds) =
      by ((take_holds one (state_of desk) text.bytes (take_answer (Ok (answer, reference))) (map_of after.held) taken.takes r m).0 holds)
    where
      by : (get (map_of desk.held) r ≡ Some m) ⊎ ((is_accepted (take_answer (Ok (answer, reference))) ≡ true) × Says desk.base text.bytes r m) → Told desk (text ∷ more) m
      by (inl h) = inl h
      by (inr s) = inr (inl s.1)
  before_text file desk after text (Accepted name n answer reference) more m (same, at, taken) (inr said) =
      inr (inr (subst (λ (b : BaseSeen). IsSaidByOne b more r m) taken.base said))
  before_text file desk after text (Refused name refused fault) more m (same, is, refuses, stays) told =
      one_more desk text more m (subst (λ (d : DeskSeen). Told d more m) stays told)
  before_text file desk after text (Unread name) more m never told = absurd never

  conflict_of : (desk : DeskSeen) (text : MailText) (more : List MailText) (fault : DeskFault) → RefusesText (state_of desk) text.bytes fault → fault ≡ desk_fault.Conflict r → HasTwo (Told desk (text ∷ more))
  conflict_of desk text more fault refuses is =
      let c = subst (RefusesText (state_of desk) text.bytes) is refuses in
      (c.other, c.message, c.apart, inl c.holds, inr (inl c.says))

  of_text : (file : Text) (desk after : DeskSeen) (text : MailText) (receipt : Receipt) (more : List MailText) → Tries file desk text receipt after → IsConflict r receipt → HasTwo (Told desk (text ∷ more))
  of_text file desk after text (Accepted name n answer reference) more tries never = absurd never
  of_text file desk after text (Refused name refused fault) more (same, is, refuses, stays) conflicts = conflict_of desk text more fault refuses conflicts
  of_text file desk after text (Unread name) more tries never = absurd never

  -- ---- the texts of a file

  before_texts : (file : Text) (texts more : List MailText) (desk after : DeskSeen) (receipts : List Receipt) (m : MessageValue) → TriesEach file desk texts receipts after → Told after more m → Told desk (texts ++ more) m
  before_texts file [] more desk after receipts m (none, stays) told = subst (λ (d : DeskSeen). Told d more m) stays told
  before_texts file (text ∷ texts) more desk after receipts m (first, later, between, tries, rest, are) told =
      before_text file desk between text first (texts ++ more) m tries (before_texts file texts more between after later m rest told)

  none_has : (receipts : List Receipt) → receipts ≡ [] → HasConflict r receipts → ⊥
  none_has receipts none has = subst (HasConflict r) none has

  of_texts : (file : Text) (texts more : List MailText) (desk after : DeskSeen) (receipts : List Receipt) → TriesEach file desk texts receipts after → HasConflict r receipts → HasTwo (Told desk (texts ++ more))
  of_texts file [] more desk after receipts (none, stays) has = absurd (none_has receipts none has)
  of_texts file (text ∷ texts) more desk after receipts (first, later, between, tries, rest, are) has =
      by (subst (HasConflict r) are has) (of_texts file texts more between after later rest)
    where
      by : HasConflict r (first ∷ later) → (HasConflict r later → HasTwo (Told between (texts ++ more))) → HasTwo (Told desk (text ∷ texts ++ more))
      by (inl here) next = of_text file desk between text first (texts ++ more) tries here
      by (inr there) next =
          let (m, n, apart, mine, theirs) = next there in
          (m, n, apart, before_text file desk between text first (texts ++ more) m tries mine, before_text file desk between text first (texts ++ more) n tries theirs)

  -- ---- files

  before_file : (files : Files) (name : Text) (more : List MailText) (desk after : DeskSeen) (receipts : List Receipt) (m : MessageValue) → ReceivesFile (Some files) name desk receipts after → Told after more m → Told desk (texts_within (file_of files name) ++ more) m
  before_file files name more desk after receipts m (inl (bytes, has, tries)) told =
      subst (λ (texts : List MailText). Told desk (texts ++ more) m) (sym (ap texts_within has.1 ∙ within_limit bytes has.0))
      (before_texts name (texts_in bytes) more desk after receipts m tries told)
  before_file files name more desk after receipts m (inr (none, are, stays)) told =
      subst (λ (texts : List MailText). Told desk (texts ++ more) m) (sym (missing (file_of files name) none))
      (subst (λ (d : DeskSeen). Told d more m) stays told)

  unread : (receipts : List Receipt) (name : Text) → receipts ≡ Unread name ∷ [] → HasConflict r receipts → ⊥
  unread receipts name are has = by (subst (HasConflict r) are has)
    where
      by : HasConflict r (Unread name ∷ []) → ⊥
      by (inl never) = never
      by (inr never) = never

  of_file : (files : Files) (name : Text) (more : List MailText) (desk after : DeskSeen) (receipts : List Receipt) → ReceivesFile (Some files) name desk receipts after → HasConflict r receipts → HasTwo (Told desk (texts_within (file_of files name) ++ more))
  of_file files name more desk after receipts (inl (bytes, limited, tries)) has =
      subst (λ (texts : List MailText). HasTwo (Told desk (texts ++ more))) (sym (ap texts_within limited.1 ∙ within_limit bytes limited.0))
      (of_texts name (texts_in bytes) more desk after receipts tries has)
  of_file files name more desk after receipts (inr (none, are, stays)) has = absurd (unread receipts name are has)

  either : (first later : List Receipt) → HasConflict r (first ++ later) → HasConflict r first ⊎ HasConflict r later
  either [] later has = inr has
  either (receipt ∷ first) later (inl here) = inl (inl here)
  either (receipt ∷ first) later (inr there) = by (either first later there)
    where
      by : HasConflict r first ⊎ HasConflict r later → HasConflict r (receipt ∷ first) ⊎ HasConflict r later
      by (inl one_of) = inl (inr one_of)
      by (inr one_of) = inr one_of

  of_files : (files : Files) (names : List Text) (desk after : DeskSeen) (receipts : List Receipt) → ReceivesEach (Some files) names desk receipts after → HasConflict r receipts → HasTwo (Told desk (texts_received files names))
  of_files files [] desk after receipts (none, stays) has = absurd (none_has receipts none has)
  of_files files (name ∷ names) desk after receipts (first, later, between, receives, rest, are) has =
      by (either first later (subst (HasConflict r) are has)) (of_files files names between after later rest)
    where
      texts : List MailText
      texts = texts_received files names

      by : HasConflict r first ⊎ HasConflict r later → (HasConflict r later → HasTwo (Told between texts)) → HasTwo (Told desk (texts_within (file_of files name) ++ texts))
      by (inl here) next = of_file files name texts desk between first receives here
      by (inr there) next =
          let (m, n, apart, mine, theirs) = next there in
          (m, n, apart, before_file files name texts desk between first m receives mine, before_file files name texts desk between first n receives theirs)

pub receive_meets_two : OneMessage → ReceiveMeetsTwo
receive_meets_two one files name mailboxes receipts after r (desk, read, (each, rising)) has =
    (desk, read, of_files one r files mailboxes desk after receipts each has)
