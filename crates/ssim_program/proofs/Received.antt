-- Texts and files that are received one after another: what is left goes on from what was received.
use Rattle.std.proofs.Common.{◌≡◌, ◌≤◌, ◌<◌, ◌^◌, ◌+◌, ◌∙◌, ℕ, Bool, cond, List, [], ◌∷◌, ◌++◌, if◌then◌else◌, true, false, map, Option, Result, Ok, Err, OnOk, length, refl, sym, ap, ap₂, subst, append_assoc, append-nil, length-append, arith}
use Rattle.std.specs.List.{count_by, flat_map}
use Rattle.std.proofs.lemmas.Grind.{flat_map-append}
use Rattle.std.proofs.lemmas.List.Sums.{sum_by-append}
use Rattle.ssim_base.specs.Export.{line}
use Rattle.ssim_mailbox.specs.Texts.{MailText}
use Rattle.ssim_held.specs.Entries.{DeskSeen}
use Rattle.ssim_command_line.specs.Line.{Text}
use Rattle.ssim_program.specs.Files.{Files}
use Rattle.ssim_program.specs.Receiving.{Receipt, ReceivesEach, ReceivesFile, Tries, TriesEach}
use Rattle.ssim_program.specs.Receiving.{is_refused, is_repeated, is_taken, printed_receipts}
use Rattle.ssim_program.specs.Receiving.{receipt_rows, refused_text}
use Rattle.ssim_program.specs.internal.Receive.{Adds, AddsOne, AreReceipts, is_csv, printed_after}
use Rattle.ssim_program.specs.internal.Receive.{printed_before, printed_receipt, text_of}
use Rattle.ssim_program.specs.declared.command.receive.receipt.Receipts.{Receipts}

-- what a desk receives, from one state to another
abbrev pub Receiving : Type 1
Receiving = DeskSeen → List Receipt → DeskSeen → Type 0

-- some receipts were added, and what is left makes the whole of what was received so far
abbrev pub Through : Receiving → Receiving → DeskSeen → DeskSeen → Receipts → Receipts → Type 0
Through whole rest before now old new =
    (some : List Receipt)
    × ((csv : Bool) (earlier : List Receipt) → AreReceipts csv old earlier → AreReceipts csv new (earlier ++ some))
    × ((later : List Receipt) (after : DeskSeen) → rest now later after → whole before (some ++ later) after)

pub begun : (whole : Receiving) (desk : DeskSeen) (old : Receipts) → Through whole whole desk desk old old
begun whole desk old =
    ([], λ csv earlier h. subst (AreReceipts csv old) (sym (append-nil earlier)) h, λ later after h. h)

-- some more is received
pub goes_on : (whole rest rest' : Receiving) (before now now' : DeskSeen) (old new new' : Receipts) (first : List Receipt)
    → ((csv : Bool) (earlier : List Receipt) → AreReceipts csv new earlier → AreReceipts csv new' (earlier ++ first))
    → ((later : List Receipt) (after : DeskSeen) → rest' now' later after → rest now (first ++ later) after) → Through whole rest before now old new → Through whole rest' before now' old new'
goes_on whole rest rest' before now now' old new new' first more next (some, are, through) = (
  some ++ first,
  λ csv earlier h.
      subst (AreReceipts csv new') (append_assoc earlier some first) (more csv (earlier ++ some) (are csv earlier h)),
  λ later after h. subst (λ (rs : List Receipt). whole before rs after) (sym (append_assoc some first later)) (through (first ++ later) after (next later after h)),
)

-- nothing is left
pub ends : (whole rest : Receiving) (before now : DeskSeen) (old new : Receipts) → rest now [] now → Through whole rest before now old new → Adds whole before now old new
ends whole rest before now old new none (some, are, through) =
    (some, subst (λ (rs : List Receipt). whole before rs now) (append-nil some) (through [] now none), are)

-- what follows from what a call does, too, if it does not fail
pub then_too : {A E P Q : Type 0} (result : Result A E) → (P → Q) → OnOk result P → OnOk result Q
then_too (Ok x) more h = more h
then_too (Err e) more h = tt

-- ---- one more receipt

one_more : {A : Type 0} (f : Receipt → List A) (xs more : List A) (before : List Receipt) (receipt : Receipt) → more ≡ xs ++ f receipt → xs ≡ flat_map f before → more ≡ flat_map f (before ++ receipt ∷ [])
one_more f xs more before receipt is h = is ∙ ap (λ ys. ys ++ f receipt) h ∙ ap (λ ys. flat_map f before ++ ys) (sym (append-nil (f receipt))) ∙ sym (flat_map-append f before (receipt ∷ []))

-- one more after a beginning
one_after : {A : Type 0} (f : Receipt → List A) (begin xs more : List A) (before : List Receipt) (receipt : Receipt)
    → more ≡ xs ++ f receipt → xs ≡ begin ++ flat_map f before → more ≡ begin ++ flat_map f (before ++ receipt ∷ [])
one_after f begin xs more before receipt is h =
    is ∙ ap (λ ys. ys ++ f receipt) h ∙ append_assoc begin (flat_map f before) (f receipt)
    ∙ ap (λ ys. begin ++ ys) (one_more f (flat_map f before) _ before receipt refl refl)

one_counted : (p : Receipt → Bool) (n m : ℕ) (before : List Receipt) (receipt : Receipt)
    → m ≡ n + cond (p receipt) 1 0 → n ≡ count_by p before → m ≡ count_by p (before ++ receipt ∷ [])
one_counted p n m before receipt is h =
    let more = sum_by-append (λ r. cond (p r) 1 0) before (receipt ∷ []) in
    omega (arith, more, is, h)

-- what is printed and kept of one more receipt
pub with_one : (csv : Bool) (old new : Receipts) (before : List Receipt) (receipt : Receipt)
    → is_csv new.printed ≡ is_csv old.printed
    → text_of new.printed ≡ text_of old.printed ++ printed_receipt (is_csv old.printed) receipt
    → new.texts.items ≡ old.texts.items ++ refused_text receipt
    → new.counts.taken ≡ old.counts.taken + cond (is_taken receipt) 1 0
    → new.counts.repeated ≡ old.counts.repeated + cond (is_repeated receipt) 1 0
    → new.counts.refused ≡ old.counts.refused + cond (is_refused receipt) 1 0
    → AreReceipts csv old before → AreReceipts csv new (before ++ receipt ∷ [])
with_one csv old new before receipt form lines texts taken repeated refused h =
    let was = text_of old.printed in
    let added : text_of new.printed ≡ was ++ printed_receipt csv receipt =
    lines ∙ ap (λ (b : Bool). was ++ printed_receipt b receipt) h.form in
    record {
      form = form ∙ h.form;
      lines = one_after (printed_receipt csv) (printed_before csv) was _ before receipt added h.lines;
      texts = one_more refused_text old.texts.items new.texts.items before receipt texts h.texts;
      taken = one_counted is_taken old.counts.taken _ before receipt taken h.taken;
      repeated = one_counted is_repeated old.counts.repeated _ before receipt repeated h.repeated;
      refused = one_counted is_refused old.counts.refused _ before receipt refused h.refused;
    }

-- ---- all receipts

-- the counts of the receipts
counts_are : (all : Receipts) (csv : Bool) (receipts : List Receipt) → AreReceipts csv all receipts
    → printed_after csv all.counts.taken all.counts.repeated all.counts.refused
    ≡ printed_after csv (count_by is_taken receipts) (count_by is_repeated receipts) (count_by is_refused receipts)
counts_are all csv receipts are =
    ap (λ (n : ℕ). printed_after csv n all.counts.repeated all.counts.refused) are.taken
    ∙ ap₂ (λ (n m : ℕ). printed_after csv (count_by is_taken receipts) n m) are.repeated are.refused

rows_or_lines : (csv : Bool) (receipts : List Receipt)
    → (printed_before csv ++ flat_map (printed_receipt csv) receipts)
    ++ printed_after csv (count_by is_taken receipts) (count_by is_repeated receipts) (count_by is_refused receipts)
    ≡ printed_receipts csv receipts
rows_or_lines true receipts = append-nil (receipt_rows receipts)
rows_or_lines false receipts = refl

-- what is printed of all receipts, and then of their counts
pub all_printed : (csv : Bool) (all : Receipts) (receipts : List Receipt) (lines : List ℕ)
    → lines ≡ text_of all.printed
    ++ printed_after (is_csv all.printed) all.counts.taken all.counts.repeated all.counts.refused
    → AreReceipts csv all receipts → lines ≡ printed_receipts csv receipts
all_printed csv all receipts lines is are =
    is
    ∙ ap (λ (b : Bool). text_of all.printed
    ++ printed_after b all.counts.taken all.counts.repeated all.counts.refused)
    are.form
    ∙ ap₂ (λ (bs more : List ℕ). bs ++ more) are.lines (counts_are all csv receipts are)
    ∙ rows_or_lines csv receipts

-- ---- texts

next_text : (file : Text) (left rest : List MailText) (text : MailText) (now now' : DeskSeen) (receipt : Receipt) → left ≡ text ∷ rest → Tries file now text receipt now'
    → (later : List Receipt) (after : DeskSeen) → TriesEach file now' rest later after → TriesEach file now left ((receipt ∷ []) ++ later) after
next_text file left rest text now now' receipt is tries later after others =
    subst (λ (ts : List MailText). TriesEach file now ts (receipt ∷ later) after) (sym is) (receipt, later, now', tries, others, refl)

-- the next text is tried, and its receipt is added
pub text_tried : (file : Text) (all left rest : List MailText) (text : MailText) (before now now' : DeskSeen) (start old new : Receipts) (receipt : Receipt) → left ≡ text ∷ rest → Tries file now text receipt now' → AddsOne receipt old new
    → Through (λ b some a. TriesEach file b all some a) (λ b some a. TriesEach file b left some a) before now start old → Through (λ b some a. TriesEach file b all some a) (λ b some a. TriesEach file b rest some a) before now' start new
text_tried file all left rest text before now now' start old new receipt is tries added through =
    goes_on (λ b some a. TriesEach file b all some a) (λ b some a. TriesEach file b left some a) (λ b some a. TriesEach file b rest some a) before now now' start old new (receipt ∷ []) added
    (next_text file left rest text now now' receipt is tries) through

-- ---- files

pub next_file : (files : Option Files) (name : Text) (left rest : List Text) (now now' : DeskSeen) (first : List Receipt) → left ≡ name ∷ rest → ReceivesFile files name now first now'
    → (later : List Receipt) (after : DeskSeen) → ReceivesEach files rest now' later after → ReceivesEach files left now (first ++ later) after
next_file files name left rest now now' first is received later after others =
    subst (λ (names : List Text). ReceivesEach files names now (first ++ later) after) (sym is) (first, later, now', received, others, refl)

pub file_received : (files others : Option Files) (whole : Receiving) (name : Text) (left rest : List Text) (before now now' : DeskSeen) (start old new : Receipts) → Adds (ReceivesFile others name) now now' old new
    → others ≡ files → left ≡ name ∷ rest → Through whole (ReceivesEach files left) before now start old → Through whole (ReceivesEach files rest) before now' start new
file_received files others whole name left rest before now now' start old new (first, received, more) same is through =
    goes_on whole (ReceivesEach files left) (ReceivesEach files rest) before now now' start old new first more
    (next_file files name left rest now now' first is (subst (λ (f : Option Files). ReceivesFile f name now first now') same received)) through
