-- What each line of a mailbox is: by itself, and by the lines above and below it.
use Rattle.std.specs.Prelude.{ℕ, Bool, false, ◌&&◌, ◌||◌, ◌==◌, if◌then◌else◌, List, [], ◌∷◌, length, take, codes}
use Rattle.std.specs.Str.{bytes_eq}
use Rattle.ssim_mailbox.specs.declared.role.Role.{Role}
use Rattle.ssim_mailbox.specs.declared.role.Role.TheVariants.{First, Inside, Envelope, End}
use Rattle.ssim_mailbox.specs.Lines.{MailLine, begins_with_dot}
use Rattle.ssim_mailbox.specs.Addresses.{is_address_line}

-- a line with which a message begins
abbrev pub is_kind : List ℕ → Bool
is_kind line = bytes_eq line (codes "SSM") || bytes_eq line (codes "ASM")

-- the line that ends a text
abbrev pub is_end : List ℕ → Bool
is_end line = bytes_eq line (codes "NNNN")

-- a line with which a transmission begins
abbrev pub is_start : List ℕ → Bool
is_start line = bytes_eq (take 4 line) (codes "ZCZC")

-- whether the first of these lines is SSM or ASM
abbrev pub begin_message : List MailLine → Bool
begin_message [] = false
begin_message (line ∷ below) = is_kind line.bytes

-- whether the first of these lines that is not empty is SSM or ASM
abbrev pub lead_to_message : List MailLine → Bool
lead_to_message [] = false
lead_to_message (line ∷ below) =
    if length line.bytes == 0 then lead_to_message below else is_kind line.bytes

-- whether the first of these lines is an origin line
abbrev pub begin_with_origin : List MailLine → Bool
begin_with_origin [] = false
begin_with_origin (line ∷ below) = begins_with_dot line.bytes && lead_to_message below

-- whether the first of these lines is one of the address lines directly above an origin line
abbrev pub begin_with_addresses : List MailLine → Bool
begin_with_addresses [] = false
begin_with_addresses (line ∷ below) =
    is_address_line line.bytes && (begin_with_origin below || begin_with_addresses below)

-- whether the first of these lines begins with ZCZC, directly above a text or its address lines
abbrev pub begin_with_start : List MailLine → Bool
begin_with_start [] = false
begin_with_start (line ∷ below) =
    is_start line.bytes
    && (begin_message below || begin_with_origin below || begin_with_addresses below)

-- The role of a line above these lines: it ends a text, is the first line of one, belongs to the
-- envelope of the next, or is any other line of a text.
abbrev pub role_of : MailLine → List MailLine → Role
role_of line below =
    if is_end line.bytes then End
    else (if is_kind line.bytes then (if line.under_dot then Inside else First)
    else (if begin_with_origin (line ∷ below) then First
    else (if begin_with_addresses (line ∷ below) || begin_with_start (line ∷ below) then Envelope
    else Inside)))
