-- What contracts see of receipts, and what is done while files are received.
use Rattle.std.specs.Prelude.{◌≡◌, ℕ, Bool, true, false, if◌then◌else◌, List, [], ◌∷◌, ◌++◌, Option, Ok}
use Rattle.std.specs.List.{count_by, flat_map}
use Rattle.ssim_base.specs.Export.{line}
use Rattle.ssim_listing.specs.Rows.{row}
use Rattle.ssim_mailbox.specs.clauses.Mail.{mail_of}
use Rattle.ssim_held.specs.Entries.{AreRising, DeskSeen}
use Rattle.ssim_command_line.specs.Line.{Text}
use Rattle.ssim_command_line.specs.declared.command_line.ReceiveForm.{ReceiveForm}
use Rattle.ssim_program.specs.Desks.{desk_in}
use Rattle.ssim_program.specs.Files.{Files}
use Rattle.ssim_program.specs.Receiving.{Receipt, Accepted, Refused, Unread, ReceivesEach}
use Rattle.ssim_program.specs.Receiving.{any_refused, is_refused, is_repeated, is_taken}
use Rattle.ssim_program.specs.Receiving.{printed_receipts, receipt_names, receipt_row, receipt_text}
use Rattle.ssim_program.specs.Receiving.{refused_texts, total_text}
use Rattle.ssim_program.specs.print.Effects.{with_effects}
use Rattle.ssim_program.specs.declared.command.receive.receipt.Receipt as code
use Rattle.ssim_program.specs.declared.command.receive.receipt.Printed.{Printed}
use Rattle.ssim_program.specs.declared.command.receive.receipt.Printed.TheVariants as form
use Rattle.ssim_program.specs.declared.command.receive.receipt.Receipts.{Receipts}
use Rattle.ssim_program.specs.declared.command.receive.receipt.Receipt.TheVariants as receipt

-- what contracts see of a receipt
abbrev pub receipt_of : code.Receipt → Receipt
receipt_of (receipt.Accepted file line took reference) = Accepted file.now line took reference
receipt_of (receipt.Refused file text fault) = Refused file.now (mail_of text) fault
receipt_of (receipt.Unread file) = Unread file.now

-- what is printed before all receipts: the row of names, or nothing
abbrev pub printed_before : Bool → List ℕ
printed_before csv = if csv then row receipt_names else []

-- a receipt as a row, or as a line
abbrev pub printed_receipt : Bool → Receipt → List ℕ
printed_receipt csv receipt = if csv then receipt_row receipt else line (receipt_text receipt)

-- what is printed after all receipts: nothing, or the line that counts them
abbrev pub printed_after : Bool → ℕ → ℕ → ℕ → List ℕ
printed_after csv taken repeated refused =
    if csv then [] else line (total_text taken repeated refused)

-- whether rows are printed, and no lines
abbrev pub is_csv : Printed → Bool
is_csv (form.Rows rows) = true
is_csv (form.Lines lines) = false

-- the rows or the lines that are printed
abbrev pub text_of : Printed → List ℕ
text_of (form.Rows rows) = rows
text_of (form.Lines lines) = lines.items

-- what is printed, as rows or as lines, and kept of these receipts
pub record AreReceipts (csv : Bool) (all : Receipts) (receipts : List Receipt) : Type 0 where
  pub form : is_csv all.printed ≡ csv
  pub lines : text_of all.printed ≡ printed_before csv ++ flat_map (printed_receipt csv) receipts
  pub texts : all.texts.items ≡ refused_texts receipts
  pub taken : all.counts.taken ≡ count_by is_taken receipts
  pub repeated : all.counts.repeated ≡ count_by is_repeated receipts
  pub refused : all.counts.refused ≡ count_by is_refused receipts

-- the receipt is added to others
abbrev pub AddsOne : Receipt → Receipts → Receipts → Type 0
AddsOne receipt old new =
    (csv : Bool) (before : List Receipt) → AreReceipts csv old before
    → AreReceipts csv new (before ++ receipt ∷ [])

-- whether some text of these receipts was refused, or some file was not read
abbrev pub HasRefused : Receipts → Bool → Type 0
HasRefused all found =
    (csv : Bool) (receipts : List Receipt) → AreReceipts csv all receipts
    → found ≡ any_refused receipts

-- these are the rows or the lines of receipts, and the refused texts
abbrev pub HaveLines : Receipts → List ℕ → List ℕ → Type 0
HaveLines all lines texts =
    (csv : Bool) (receipts : List Receipt) → AreReceipts csv all receipts
    → (lines ≡ printed_receipts csv receipts) × (texts ≡ refused_texts receipts)

-- the files of these names are received, with these receipts
abbrev pub HasReceipts : Bool → Option Files → List Text → DeskSeen → Receipts → DeskSeen → Type 0
HasReceipts csv files names before all after =
    (receipts : List Receipt) × ReceivesEach files names before receipts after
    × AreReceipts csv all receipts

-- receipts are added to others, and the desk goes from one state to another with them
abbrev pub Adds : (DeskSeen → List Receipt → DeskSeen → Type 0) → DeskSeen → DeskSeen
    → Receipts → Receipts → Type 0
Adds receives before after old new =
    (receipts : List Receipt) × receives before receipts after
    × ((csv : Bool) (earlier : List Receipt) → AreReceipts csv old earlier
    → AreReceipts csv new (earlier ++ receipts))

-- the desk in a file has received the files of these names: whether some text was refused, the rows
-- or the lines, with the effects if the words ask for them, and the refused texts
pub record HasReceived (form : ReceiveForm) (files : Option Files) (file : Text) (names : List Text)
    (after : DeskSeen) (found : Bool) (lines refused : List ℕ) : Type 0 where
  pub before : DeskSeen
  pub reads : desk_in files file (Ok before)
  pub receipts : List Receipt
  pub received : ReceivesEach files names before receipts after
  pub rising : AreRising after.held
  pub found_is : found ≡ any_refused receipts
  pub lines_are : lines
      ≡ with_effects form.effects before after (printed_receipts form.csv receipts)
  pub texts_are : refused ≡ refused_texts receipts
