-- A mailbox finds in the file of messages their canonical texts. A message begins with SSM or ASM,
-- or with its originator above it; no other line of it is taken for a beginning or an end, and a line
-- NNNN or an empty one, which are no addresses, keep each line from what is below them.
use Rattle.std.proofs.Common.{◌≡◌, ◌≤◌, ℕ, ◌+◌, Bool, true, false, ◌&&◌, ◌||◌, List, [], ◌∷◌, ◌++◌}
use Rattle.std.proofs.Common.{length, refl, sym, ap, subst, ◌∙◌, ◌⊎◌, inl, inr, append_assoc, append-nil, arith}
use Rattle.std.proofs.Common.{Option, None, Some}
use Rattle.std.proofs.lemmas.List.{reverse-append}
use Rattle.std.proofs.lemmas.Bool.Decides.{nat_tests}
use Rattle.std.specs.Prelude.{if◌then◌else◌, reverse}
use Rattle.std.specs.List.{AllByRecursion, onto_first}
use Rattle.ssim_text.specs.Canonical.{part_text, written}
use Rattle.ssim_text.specs.Grammar.{KindPart, OriginatorPart, Part}
use Rattle.ssim_text.specs.Left.{pieces}
use Rattle.ssim_text.specs.declared.kind.Kind.{Kind}
use Rattle.ssim_text.specs.declared.kind.Kind.TheVariants.{Asm, Ssm}
use Rattle.ssim_text.proofs.LinesKept.{IsLine}
use Rattle.ssim_mailbox.specs.FreeTexts.{cut_parts}
use Rattle.ssim_mailbox.specs.Lines.{MailLine, dot_after, drop_while, drop_while_at_end, lines_from}
use Rattle.ssim_mailbox.specs.Addresses.{is_address_line}
use Rattle.ssim_mailbox.specs.Roles.{begin_message, begin_with_addresses, begin_with_origin}
use Rattle.ssim_mailbox.specs.Roles.{begin_with_start, is_end, is_kind, is_start, role_of}
use Rattle.ssim_mailbox.specs.Texts.{MailText, is_empty, parts_of, text_from, texts_of, trimmed, with_line}
use Rattle.ssim_mailbox.specs.Texts as mailbox
use Rattle.ssim_mailbox.proofs.WholeParts.{blank_first, whole_first}
use Rattle.ssim_outbox.proofs.MailLines.{KeepsEnd, first_line, keep_end, keep_front, mail_line, one_before}
use Rattle.ssim_outbox.proofs.PlainLines.{IsPlain}

-- ---- the lines of parts, and of what is below

-- a part whose line is one, and neither ends a text nor begins one
pub record IsPlainPart (p : Part) : Type 0 where
  pub line : IsLine (part_text p)
  pub plain : IsPlain (part_text p)

-- the lines of a mailbox from line n on: those of these parts, and those of what is below
abbrev pub lines_left : ℕ → Bool → List Part → List ℕ → List MailLine
lines_left n under_dot ps below = lines_from n under_dot (pieces (written ps ++ below))

-- the lines of these parts, from line n on
abbrev pub marked : ℕ → Bool → List Part → List MailLine
marked n under_dot [] = []
marked n under_dot (p ∷ ps) =
    mail_line n under_dot (part_text p) ∷ marked (n + 1) (dot_after under_dot (part_text p)) ps

-- whether the line below these parts is under a dot
abbrev pub dot_below : Bool → List Part → Bool
dot_below under_dot [] = under_dot
dot_below under_dot (p ∷ ps) = dot_below (dot_after under_dot (part_text p)) ps

next_line : (n : ℕ) (d : Bool) (p : Part) (ps : List Part) (below : List ℕ) → IsLine (part_text p)
    → lines_left n d (p ∷ ps) below
    ≡ mail_line n d (part_text p) ∷ lines_left (n + 1) (dot_after d (part_text p)) ps below
next_line n d p ps below h =
    ap (λ (x : List ℕ). lines_from n d (pieces x))
    (append_assoc (part_text p ++ 10 ∷ []) (written ps) below)
    ∙ first_line n d (part_text p) (written ps ++ below) h

-- ---- what lines begin with

-- the lines begin with no message, origin or address lines
pub record IsQuiet (lines : List MailLine) : Type 0 where
  pub message : begin_message lines ≡ false
  pub origin : begin_with_origin lines ≡ false
  pub addresses : begin_with_addresses lines ≡ false

-- What is below parts, from line n on: it is quiet, and its first lines belong to the text above.
pub record IsBelow (n : ℕ) (under_dot : Bool) (below : List ℕ) (first : List MailLine) (parts : List (List MailLine)) : Type 0 where
  pub quiet : (k : ℕ) (d : Bool) → IsQuiet (lines_from k d (pieces below))
  pub divided : parts_of (lines_from n under_dot (pieces below)) ≡ first ∷ parts

-- the same from a line with another name
moved : (n k : ℕ) (d : Bool) (below : List ℕ) (first : List MailLine) (parts : List (List MailLine)) → n ≡ k
    → IsBelow n d below first parts → IsBelow k d below first parts
moved n k d below first parts e h = subst (λ (j : ℕ). IsBelow j d below first parts) e h

and_none : (a b : Bool) → b ≡ false → (a && b) ≡ false
and_none true b h = h
and_none false b h = refl

none_and : (a b : Bool) → a ≡ false → (a && b) ≡ false
none_and a b h = rw h refl

none_or : (a b : Bool) → a ≡ false → b ≡ false → (a || b) ≡ false
none_or a b h k = rw (h, k) refl

quiet_more : (n : ℕ) (d : Bool) (line : List ℕ) (below : List MailLine) → IsPlain line → IsQuiet below
    → IsQuiet (mail_line n d line ∷ below)
quiet_more n d line below h q = record {
  message = h.no_kind;
  origin = none_and _ _ h.no_dot;
  addresses = and_none (is_address_line line) _ (none_or _ _ q.origin q.addresses);
}

quiet : (n : ℕ) (d : Bool) (ps : List Part) (below : List ℕ) → AllByRecursion IsPlainPart ps
    → ((k : ℕ) (e : Bool) → IsQuiet (lines_from k e (pieces below))) → IsQuiet (lines_left n d ps below)
quiet n d [] below h q = q n d
quiet n d (p ∷ ps) below h q =
    subst IsQuiet (sym (next_line n d p ps below h.0.line))
    (quiet_more n d (part_text p) _ h.0.plain
    (quiet (n + 1) (dot_after d (part_text p)) ps below h.1 q))

-- ---- the role of a line

-- The type of roles is not public, so that a role is known here by where it puts its line.

-- the role of a line that is none of these
chosen_role : {R : Type 0} (end first envelope inside : R) (ends kind under origin addresses starts : Bool)
    → ends ≡ false → kind ≡ false → origin ≡ false → addresses ≡ false → starts ≡ false
    → (if ends then end
    else (if kind then (if under then inside else first)
    else (if origin then first
    else (if addresses || starts then envelope else inside)))) ≡ inside
chosen_role end first envelope inside ends kind under origin addresses starts e k o a s =
    rw (e, k, o, a, s) refl

-- a plain line belongs to the part below it
plain_role : (n : ℕ) (d : Bool) (line : List ℕ) (below : List MailLine) (parts : List (List MailLine))
    → IsPlain line → IsQuiet below
    → with_line (role_of (mail_line n d line) below) (mail_line n d line) parts
    ≡ onto_first (mail_line n d line) parts
plain_role n d line below parts h q =
    let here = quiet_more n d line below h q in
    let starts = and_none (is_start line) (begin_message below
    || begin_with_origin below || begin_with_addresses below)
    (none_or _ _ (none_or _ _ q.message q.origin) q.addresses) in
    ap (λ role. with_line role (mail_line n d line) parts)
    (chosen_role _ _ _ _ (is_end line) (is_kind line) d (begin_with_origin (mail_line n d line ∷ below))
    (begin_with_addresses (mail_line n d line ∷ below)) (begin_with_start (mail_line n d line ∷ below))
    h.no_end h.no_kind here.origin here.addresses starts)

first_kind : (kind : Kind) (n : ℕ) (below : List MailLine) (parts : List (List MailLine))
    → with_line (role_of (mail_line n false (part_text (KindPart kind))) below)
    (mail_line n false (part_text (KindPart kind))) parts
    ≡ [] ∷ onto_first (mail_line n false (part_text (KindPart kind))) parts
first_kind Ssm n below parts = refl
first_kind Asm n below parts = refl

kind_under_dot : (kind : Kind) (n : ℕ) (below : List MailLine) (parts : List (List MailLine))
    → with_line (role_of (mail_line n true (part_text (KindPart kind))) below)
    (mail_line n true (part_text (KindPart kind))) parts
    ≡ onto_first (mail_line n true (part_text (KindPart kind))) parts
kind_under_dot Ssm n below parts = refl
kind_under_dot Asm n below parts = refl

first_origin : (kind : Kind) (o : List ℕ) (n k : ℕ) (d e : Bool) (below : List MailLine)
    (parts : List (List MailLine))
    → with_line (role_of (mail_line n d (46 ∷ o)) (mail_line k e (part_text (KindPart kind)) ∷ below))
    (mail_line n d (46 ∷ o)) parts
    ≡ [] ∷ onto_first (mail_line n d (46 ∷ o)) parts
first_origin Ssm o n k d e below parts = refl
first_origin Asm o n k d e below parts = refl

kind_line : (kind : Kind) → IsLine (part_text (KindPart kind))
kind_line Ssm = record { some = omega arith; printable = refl; ended = refl }
kind_line Asm = record { some = omega arith; printable = refl; ended = refl }

-- ---- the parts of the lines

-- what the role of the first line makes of the parts below it
by_role : (line : MailLine) (below : List MailLine) (parts : List (List MailLine))
    (above : List (List MailLine) → List (List MailLine))
    → ((ps : List (List MailLine)) → with_line (role_of line below) line ps ≡ above ps)
    → parts_of below ≡ parts → parts_of (line ∷ below) ≡ above parts
by_role line below parts above h k = h (parts_of below) ∙ ap above k

one_later : (n : ℕ) (d : Bool) (p : Part) (ps : List Part) (below : List ℕ) (first : List MailLine) (parts : List (List MailLine))
    → IsBelow (n + length (p ∷ ps)) (dot_below d (p ∷ ps)) below first parts
    → IsBelow (n + 1 + length ps) (dot_below (dot_after d (part_text p)) ps) below first parts
one_later n d p ps below first parts h =
    let same : n + length (p ∷ ps) ≡ n + 1 + length ps = omega arith in
    moved (n + length (p ∷ ps)) (n + 1 + length ps) (dot_below (dot_after d (part_text p)) ps) below first parts same h

plain_parts : (n : ℕ) (d : Bool) (ps : List Part) (below : List ℕ) (first : List MailLine) (parts : List (List MailLine))
    → AllByRecursion IsPlainPart ps → IsBelow (n + length ps) (dot_below d ps) below first parts
    → parts_of (lines_left n d ps below) ≡ (marked n d ps ++ first) ∷ parts
plain_parts n d [] below first parts h is =
    let same : n + 0 ≡ n = omega arith in (moved (n + 0) n d below first parts same is).divided
plain_parts n d (p ∷ ps) below first parts h is =
    let e = dot_after d (part_text p) in
    let line = mail_line n d (part_text p) in
    ap parts_of (next_line n d p ps below h.0.line)
    ∙ by_role line (lines_left (n + 1) e ps below) ((marked (n + 1) e ps ++ first) ∷ parts) (onto_first line)
    (λ x. plain_role n d (part_text p) (lines_left (n + 1) e ps below) x h.0.plain (quiet (n + 1) e ps below h.1 is.quiet))
    (plain_parts (n + 1) e ps below first parts h.1 (one_later n d p ps below first parts is))

-- a message from SSM or ASM on, without an originator
pub kind_parts : (n : ℕ) (kind : Kind) (ps : List Part) (below : List ℕ) (first : List MailLine) (parts : List (List MailLine))
    → AllByRecursion IsPlainPart ps
    → IsBelow (n + length (KindPart kind ∷ ps)) (dot_below false (KindPart kind ∷ ps)) below first parts
    → parts_of (lines_left n false (KindPart kind ∷ ps) below)
    ≡ [] ∷ (marked n false (KindPart kind ∷ ps) ++ first) ∷ parts
kind_parts n kind ps below first parts h is =
    let p = KindPart kind in
    let e = dot_after false (part_text p) in
    let line = mail_line n false (part_text p) in
    ap parts_of (next_line n false p ps below (kind_line kind))
    ∙ by_role line (lines_left (n + 1) e ps below) ((marked (n + 1) e ps ++ first) ∷ parts)
    (λ x. [] ∷ onto_first line x) (first_kind kind n (lines_left (n + 1) e ps below))
    (plain_parts (n + 1) e ps below first parts h (one_later n false p ps below first parts is))

-- the same below an originator
dotted_kind_parts : (n : ℕ) (kind : Kind) (ps : List Part) (below : List ℕ) (first : List MailLine) (parts : List (List MailLine))
    → AllByRecursion IsPlainPart ps
    → IsBelow (n + length (KindPart kind ∷ ps)) (dot_below true (KindPart kind ∷ ps)) below first parts
    → parts_of (lines_left n true (KindPart kind ∷ ps) below) ≡ (marked n true (KindPart kind ∷ ps) ++ first) ∷ parts
dotted_kind_parts n kind ps below first parts h is =
    let p = KindPart kind in
    let e = dot_after true (part_text p) in
    let line = mail_line n true (part_text p) in
    ap parts_of (next_line n true p ps below (kind_line kind))
    ∙ by_role line (lines_left (n + 1) e ps below) ((marked (n + 1) e ps ++ first) ∷ parts) (onto_first line)
    (kind_under_dot kind n (lines_left (n + 1) e ps below))
    (plain_parts (n + 1) e ps below first parts h (one_later n true p ps below first parts is))

-- a message with an originator
pub origin_parts : (n : ℕ) (o : List ℕ) (kind : Kind) (ps : List Part) (below : List ℕ) (first : List MailLine) (parts : List (List MailLine))
    → IsLine (46 ∷ o) → AllByRecursion IsPlainPart ps
    → IsBelow (n + length (OriginatorPart o ∷ KindPart kind ∷ ps)) (dot_below false (OriginatorPart o ∷ KindPart kind ∷ ps)) below first parts
    → parts_of (lines_left n false (OriginatorPart o ∷ KindPart kind ∷ ps) below)
    ≡ [] ∷ (marked n false (OriginatorPart o ∷ KindPart kind ∷ ps) ++ first) ∷ parts
origin_parts n o kind ps below first parts l h is =
    let p = OriginatorPart o in
    let qs = KindPart kind ∷ ps in
    let line = mail_line n false (46 ∷ o) in
    let last = lines_left (n + 1 + 1) (dot_after true (part_text (KindPart kind))) ps below in
    ap parts_of (next_line n false p qs below l)
    ∙ by_role line (lines_left (n + 1) true qs below) ((marked (n + 1) true qs ++ first) ∷ parts)
    (λ x. [] ∷ onto_first line x)
    (λ x. ap (λ (y : List MailLine). with_line (role_of line y) line x)
    (next_line (n + 1) true (KindPart kind) ps below (kind_line kind))
    ∙ first_origin kind o n (n + 1) false true last x)
    (dotted_kind_parts (n + 1) kind ps below first parts h (one_later n false p qs below first parts is))

-- ---- the text of a part

not_empty : (n : ℕ) (d : Bool) (line : List ℕ) → 1 ≤ length line → is_empty (mail_line n d line) ≡ false
not_empty n d [] h = absurd (omega (arith, h))
not_empty n d (b ∷ line) h = grind (arith, nat_tests)

kept_lines : (n : ℕ) (d : Bool) (p : Part) (ps : List Part)
    → AllByRecursion (λ q. IsLine (part_text q)) (p ∷ ps) → KeepsEnd is_empty (marked n d (p ∷ ps))
kept_lines n d p [] h = record {
  init = [];
  last = mail_line n d (part_text p);
  whole = refl;
  kept = not_empty n d (part_text p) h.0.some;
}
kept_lines n d p (q ∷ ps) h =
    one_before is_empty (mail_line n d (part_text p)) _
    (kept_lines (n + 1) (dot_after d (part_text p)) q ps h.1)

-- no line of these parts is empty
pub none_empty : (n : ℕ) (d : Bool) (ps : List Part) → AllByRecursion (λ q. IsLine (part_text q)) ps
    → AllByRecursion (λ line. is_empty line ≡ false) (marked n d ps)
none_empty n d [] h = tt
none_empty n d (p ∷ ps) h = (
  not_empty n d (part_text p) h.0.some,
  none_empty (n + 1) (dot_after d (part_text p)) ps h.1,
)

same_bytes : (n : ℕ) (d : Bool) (ps : List Part) → mailbox.written (marked n d ps) ≡ written ps
same_bytes n d [] = refl
same_bytes n d (p ∷ ps) =
    ap (λ (x : List ℕ). (part_text p ++ 10 ∷ []) ++ x) (same_bytes (n + 1) (dot_after d (part_text p)) ps)

-- what a text does not keep at its end: nothing, or the empty line with this number
abbrev pub blank_line : Option ℕ → List MailLine
blank_line None = []
blank_line (Some n) = mail_line n false [] ∷ []

blank_dropped : (lines : List MailLine) (last : Option ℕ) → drop_while_at_end is_empty (lines ++ blank_line last) ≡ drop_while_at_end is_empty lines
blank_dropped lines None = ap (drop_while_at_end is_empty) (append-nil lines)
blank_dropped lines (Some n) = ap (λ (x : List MailLine). reverse (drop_while is_empty x)) (reverse-append lines (mail_line n false [] ∷ []))

-- the text of the lines of parts, each as the text has it
pub marked_text : (n : ℕ) (d : Bool) (ps : List Part) (last : Option ℕ) → 1 ≤ length ps
    → AllByRecursion (λ q. IsLine (part_text q)) ps
    → text_from (trimmed (marked n d ps ++ blank_line last)) ≡ Some (record { line = n; bytes = written ps })
marked_text n d [] last some h = absurd (omega (arith, some))
marked_text n d (p ∷ ps) last some h =
    let line = mail_line n d (part_text p) in
    let later = marked (n + 1) (dot_after d (part_text p)) ps in
    let lines = marked n d (p ∷ ps) in
    ap (λ (x : List MailLine). text_from (drop_while_at_end is_empty x))
    (keep_front is_empty line (later ++ blank_line last) (not_empty n d (part_text p) h.0.some))
    ∙ ap text_from (blank_dropped lines last ∙ keep_end is_empty lines (kept_lines n d p ps h))
    ∙ ap (λ (x : List ℕ). Some (a_text n x)) (same_bytes n d (p ∷ ps))
  where
    a_text : ℕ → List ℕ → MailText
    a_text line bytes = record { line = line; bytes = bytes }

-- ---- the texts of parts

-- no line of these is empty
abbrev HaveBytes : List MailLine → Type 0
HaveBytes lines = AllByRecursion (λ line. is_empty line ≡ false) lines

blank_trimmed : (lines : List MailLine) (last : Option ℕ) → HaveBytes lines → trimmed (lines ++ blank_line last) ≡ trimmed lines
blank_trimmed [] None h = refl
blank_trimmed [] (Some n) h = refl
blank_trimmed (line ∷ lines) last h =
    ap (drop_while_at_end is_empty) (keep_front is_empty line (lines ++ blank_line last) h.0)
    ∙ (blank_dropped (line ∷ lines) last ∙ ap (drop_while_at_end is_empty) (sym (keep_front is_empty line lines h.0)))

-- the text of these lines comes first, and then those of the parts below them
pub first_text : (lines : List MailLine) (last : Option ℕ) (parts : List (List MailLine)) (text : MailText) (texts : List MailText)
    → HaveBytes lines → text_from (trimmed (lines ++ blank_line last)) ≡ Some text
    → texts_of (cut_parts parts) ≡ texts → texts_of (cut_parts ([] ∷ (lines ++ blank_line last) ∷ parts)) ≡ text ∷ texts
first_text lines None parts text texts some h k =
    let here : text_from (trimmed lines) ≡ Some text = ap text_from (sym (blank_trimmed lines None some)) ∙ h in
    let whole = whole_first lines parts some in
    ap (λ (x : List MailLine). texts_of (cut_parts ([] ∷ x ∷ parts))) (append-nil lines)
    ∙ (ap (λ (x : List (List MailLine)). texts_of ([] ∷ x)) whole ∙ rw (here, k) refl)
first_text lines (Some n) parts text texts some h k = by (blank_first lines (mail_line n false []) parts refl some)
  where
    all : List MailLine
    all = lines ++ blank_line (Some n)

    here : text_from (trimmed lines) ≡ Some text
    here = ap text_from (sym (blank_trimmed lines (Some n) some)) ∙ h

    by : (cut_parts (all ∷ parts) ≡ all ∷ cut_parts parts) ⊎ (cut_parts (all ∷ parts) ≡ lines ∷ [] ∷ cut_parts parts) → texts_of (cut_parts ([] ∷ all ∷ parts)) ≡ text ∷ texts
    by (inl one) = ap (λ (x : List (List MailLine)). texts_of ([] ∷ x)) one ∙ rw (h, k) refl
    by (inr two) = ap (λ (x : List (List MailLine)). texts_of ([] ∷ x)) two ∙ rw (here, k) refl
