-- The texts of a mailbox by the bytes of its lines alone: the numbers of the lines decide nothing.
-- Each definition is said again of lists of bytes, and gives the bytes of what it gives of lines.
use Rattle.std.proofs.Common.{◌≡◌, ◌∙◌, ℕ, ◌+◌, Bool, true, false, ◌&&◌, ◌||◌, List, [], ◌∷◌, ◌++◌}
use Rattle.std.proofs.Common.{Option, Some, None, length, map, refl, sym, ap, ap₂}
use Rattle.std.proofs.lemmas.List.{map-append, reverse-append}
use Rattle.std.proofs.lemmas.List.Folds.{flat_map-map}
use Rattle.std.specs.Prelude.{◌==◌, if◌then◌else◌, option_map, reverse}
use Rattle.std.specs.List.{cons_option, filter_map, flat_map, onto_first, slice_split}
use Rattle.ssim_mailbox.specs.Addresses.{is_address_line}
use Rattle.ssim_mailbox.specs.Again.{bytes_of}
use Rattle.ssim_mailbox.specs.declared.free_text.FreeText.{FreeText}
use Rattle.ssim_mailbox.specs.declared.free_text.FreeText.TheVariants.{Ahead}
use Rattle.ssim_mailbox.specs.declared.role.Role.{Role}
use Rattle.ssim_mailbox.specs.declared.role.Role.TheVariants.{First, Inside, Envelope, End}
use Rattle.ssim_mailbox.specs.FreeTexts.{cut_parts, ended, ends_text, free_after}
use Rattle.ssim_mailbox.specs.Lines.{MailLine, begins_with_dot, dot_after, drop_while}
use Rattle.ssim_mailbox.specs.Lines.{drop_while_at_end, lines_from, shown}
use Rattle.ssim_mailbox.specs.Roles.{begin_message, begin_with_addresses, begin_with_origin}
use Rattle.ssim_mailbox.specs.Roles.{begin_with_start, is_end, is_kind, is_start, lead_to_message}
use Rattle.ssim_mailbox.specs.Roles.{role_of}
use Rattle.ssim_mailbox.specs.Texts.{MailText, is_empty, parts_of, text_from, texts_in, texts_of}
use Rattle.ssim_mailbox.specs.Texts.{trimmed, with_line}

-- lines by their bytes
abbrev pub ByteLines : Type 0
ByteLines = List (List ℕ)

abbrev pub bytes_in : List MailLine → ByteLines
bytes_in = map (λ line. line.bytes)

abbrev pub is_blank : List ℕ → Bool
is_blank line = length line == 0

-- ---- what lines begin with

abbrev pub leads : ByteLines → Bool
leads [] = false
leads (line ∷ below) = if is_blank line then leads below else is_kind line

abbrev pub message : ByteLines → Bool
message [] = false
message (line ∷ below) = is_kind line

abbrev pub origin : ByteLines → Bool
origin [] = false
origin (line ∷ below) = begins_with_dot line && leads below

abbrev pub addresses : ByteLines → Bool
addresses [] = false
addresses (line ∷ below) = is_address_line line && (origin below || addresses below)

abbrev pub starts : ByteLines → Bool
starts [] = false
starts (line ∷ below) = is_start line && (message below || origin below || addresses below)

leads_are : (lines : List MailLine) → lead_to_message lines ≡ leads (bytes_in lines)
leads_are [] = refl
leads_are (line ∷ below) =
    ap (λ (t : Bool). if is_blank line.bytes then t else is_kind line.bytes) (leads_are below)

message_is : (lines : List MailLine) → begin_message lines ≡ message (bytes_in lines)
message_is [] = refl
message_is (line ∷ below) = refl

origin_is : (lines : List MailLine) → begin_with_origin lines ≡ origin (bytes_in lines)
origin_is [] = refl
origin_is (line ∷ below) = ap (λ (t : Bool). begins_with_dot line.bytes && t) (leads_are below)

addresses_are : (lines : List MailLine) → begin_with_addresses lines ≡ addresses (bytes_in lines)
addresses_are [] = refl
addresses_are (line ∷ below) =
    ap₂ (λ (s t : Bool). is_address_line line.bytes && (s || t)) (origin_is below)
    (addresses_are below)

start_is : (lines : List MailLine) → begin_with_start lines ≡ starts (bytes_in lines)
start_is [] = refl
start_is (line ∷ below) =
    λ i. is_start line.bytes && (message_is below i || origin_is below i || addresses_are below i)

-- ---- the role of a line

-- the role by what is true of the line, and of the lines from it on
abbrev pub pick : Bool → Bool → Bool → Bool → Bool → Bool → Role
pick ends kind under_dot begins_origin begins_addresses begins_start =
    if ends then End
    else (if kind then (if under_dot then Inside else First)
    else (if begins_origin then First
    else (if begins_addresses || begins_start then Envelope else Inside)))

abbrev pub role : Bool → List ℕ → ByteLines → Role
role under_dot line below =
    pick (is_end line) (is_kind line) under_dot (origin (line ∷ below)) (addresses (line ∷ below))
    (starts (line ∷ below))

role_is : (line : MailLine) (below : List MailLine)
    → role_of line below ≡ role line.under_dot line.bytes (bytes_in below)
role_is line below =
    λ i. pick (is_end line.bytes) (is_kind line.bytes) line.under_dot (origin_is (line ∷ below) i)
    (addresses_are (line ∷ below) i) (start_is (line ∷ below) i)

-- ---- the parts

abbrev pub put : Role → List ℕ → List ByteLines → List ByteLines
put First line parts = [] ∷ onto_first line parts
put Inside line parts = onto_first line parts
put Envelope line parts = parts
put End line parts = [] ∷ parts

abbrev pub parts : Bool → ByteLines → List ByteLines
parts under_dot [] = [] ∷ []
parts under_dot (line ∷ below) =
    put (role under_dot line below) line (parts (dot_after under_dot line) below)

onto_first_is : (line : MailLine) (ps : List (List MailLine))
    → map bytes_in (onto_first line ps) ≡ onto_first line.bytes (map bytes_in ps)
onto_first_is line [] = refl
onto_first_is line (part ∷ ps) = refl

put_is : (r : Role) (line : MailLine) (ps : List (List MailLine))
    → map bytes_in (with_line r line ps) ≡ put r line.bytes (map bytes_in ps)
put_is First line ps = ap (λ (x : List ByteLines). [] ∷ x) (onto_first_is line ps)
put_is Inside line ps = onto_first_is line ps
put_is Envelope line ps = refl
put_is End line ps = refl

shown_are : (n : ℕ) (under_dot : Bool) (pieces : ByteLines)
    → bytes_in (lines_from n under_dot pieces) ≡ map shown pieces
shown_are n under_dot [] = refl
shown_are n under_dot (piece ∷ pieces) =
    ap (λ (x : ByteLines). shown piece ∷ x)
    (shown_are (n + 1) (dot_after under_dot (shown piece)) pieces)

parts_are : (n : ℕ) (under_dot : Bool) (pieces : ByteLines)
    → map bytes_in (parts_of (lines_from n under_dot pieces)) ≡ parts under_dot (map shown pieces)
parts_are n under_dot [] = refl
parts_are n under_dot (piece ∷ pieces) =
    let dot = dot_after under_dot (shown piece) in
    let below = lines_from (n + 1) dot pieces in
    let line : MailLine = record { number = n; bytes = shown piece; under_dot = under_dot } in
    let here : role_of line below ≡ role under_dot (shown piece) (map shown pieces) =
    role_is line below ∙ ap (role under_dot (shown piece)) (shown_are (n + 1) dot pieces) in
    put_is (role_of line below) line (parts_of below)
    ∙ ap₂ (λ (r : Role) (ps : List ByteLines). put r (shown piece) ps) here
    (parts_are (n + 1) dot pieces)

-- ---- where free texts end

abbrev pub cut : FreeText → ByteLines → List ByteLines
cut free [] = [] ∷ []
cut free (line ∷ below) =
    if ends_text free line then [] ∷ cut Ahead below else onto_first line
    (cut (free_after free line) below)

cut_is : (free : FreeText) (lines : List MailLine)
    → map bytes_in (ended free lines) ≡ cut free (bytes_in lines)
cut_is free [] = refl
cut_is free (line ∷ below) =
    by (ends_text free line.bytes) (cut_is Ahead below) (cut_is (free_after free line.bytes) below)
  where
    by : (b : Bool) → map bytes_in (ended Ahead below) ≡ cut Ahead (bytes_in below)
        → map bytes_in (ended (free_after free line.bytes) below) ≡ cut (free_after free line.bytes)
        (bytes_in below)
        → map bytes_in (if b then [] ∷ ended Ahead below else onto_first line
        (ended (free_after free line.bytes) below))
        ≡ (if b then [] ∷ cut Ahead (bytes_in below) else onto_first line.bytes
        (cut (free_after free line.bytes) (bytes_in below)))
    by true new on = ap (λ (x : List ByteLines). [] ∷ x) new
    by false new on =
        onto_first_is line (ended (free_after free line.bytes) below) ∙ ap (onto_first line.bytes) on

cuts_are : (ps : List (List MailLine))
    → map bytes_in (cut_parts ps) ≡ flat_map (cut Ahead) (map bytes_in ps)
cuts_are [] = refl
cuts_are (part ∷ ps) =
    map-append bytes_in (ended Ahead part) (cut_parts ps)
    ∙ ap₂ (λ (x y : List ByteLines). x ++ y) (cut_is Ahead part) (cuts_are ps)

-- ---- the texts

abbrev pub trim : ByteLines → ByteLines
trim lines = drop_while_at_end is_blank (drop_while is_blank lines)

abbrev pub flat : ByteLines → List ℕ
flat = flat_map (λ line. line ++ 10 ∷ [])

abbrev pub text : ByteLines → Option (List ℕ)
text [] = None
text (line ∷ below) = Some (flat (line ∷ below))

abbrev pub texts : List ByteLines → List (List ℕ)
texts = filter_map (λ part. text (trim part))

map-reverse : {X Y : Type 0} (f : X → Y) (xs : List X) → map f (reverse xs) ≡ reverse (map f xs)
map-reverse f [] = refl
map-reverse f (x ∷ xs) =
    ap (map f) (reverse-append (x ∷ []) xs) ∙ map-append f (reverse xs) (x ∷ [])
    ∙ ap (λ ys. ys ++ f x ∷ []) (map-reverse f xs) ∙ sym (reverse-append (f x ∷ []) (map f xs))

dropped_are : (lines : List MailLine)
    → bytes_in (drop_while is_empty lines) ≡ drop_while is_blank (bytes_in lines)
dropped_are [] = refl
dropped_are (line ∷ below) = by (is_empty line) (dropped_are below)
  where
    by : (b : Bool) → bytes_in (drop_while is_empty below) ≡ drop_while is_blank (bytes_in below)
        → bytes_in (if b then drop_while is_empty below else line ∷ below) ≡
        (if b then drop_while is_blank (bytes_in below) else line.bytes ∷ bytes_in below)
    by true same = same
    by false same = refl

trimmed_are : (lines : List MailLine) → bytes_in (trimmed lines) ≡ trim (bytes_in lines)
trimmed_are lines =
    let kept = drop_while is_empty lines in
    map-reverse (λ (line : MailLine). line.bytes) (drop_while is_empty (reverse kept))
    ∙ ap reverse (dropped_are (reverse kept))
    ∙ ap (λ (x : ByteLines). reverse (drop_while is_blank x))
    (map-reverse (λ (line : MailLine). line.bytes) kept)
    ∙ ap (drop_while_at_end is_blank) (dropped_are lines)

text_is : (lines : List MailLine) → option_map (λ t. t.bytes) (text_from lines) ≡ text (bytes_in lines)
text_is [] = refl
text_is (line ∷ below) =
    ap Some (sym (flat_map-map (λ (bytes : List ℕ). bytes ++ 10 ∷ []) (λ (l : MailLine). l.bytes)
    (line ∷ below)))

one_more : (found : Option MailText) (later : List MailText)
    → bytes_of (cons_option found later) ≡ cons_option (option_map (λ t. t.bytes) found)
    (bytes_of later)
one_more None later = refl
one_more (Some t) later = refl

texts_are : (ps : List (List MailLine)) → bytes_of (texts_of ps) ≡ texts (map bytes_in ps)
texts_are [] = refl
texts_are (part ∷ ps) =
    one_more (text_from (trimmed part)) (texts_of ps)
    ∙ ap₂ (λ (x : Option (List ℕ)) (xs : List (List ℕ)). cons_option x xs)
    (text_is (trimmed part) ∙ ap text (trimmed_are part)) (texts_are ps)

-- the bytes of the lines of a mailbox, as they are read
abbrev pub lines_of : List ℕ → ByteLines
lines_of mailbox = map shown (slice_split (λ b. b == 10) mailbox)

-- the bytes of the texts of a mailbox are those that its lines give by their bytes
pub mailbox_texts : (mailbox : List ℕ)
    → bytes_of (texts_in mailbox) ≡ texts (flat_map (cut Ahead) (parts false (lines_of mailbox)))
mailbox_texts mailbox =
    let pieces = slice_split (λ (b : ℕ). b == 10) mailbox in
    texts_are (cut_parts (parts_of (lines_from 1 false pieces)))
    ∙ ap texts (cuts_are (parts_of (lines_from 1 false pieces))
    ∙ ap (flat_map (cut Ahead)) (parts_are 1 false pieces))
