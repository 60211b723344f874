-- Texts are read again as they were, each with a line NNNN below it: the lines of a text keep their
-- roles, which they have by what is below them in the text.
use Rattle.std.proofs.Common.{◌≡◌, ◌∙◌, inl, inr, ℕ, Bool, true, false, ◌&&◌, ◌||◌, List, [], ◌∷◌}
use Rattle.std.proofs.Common.{◌++◌, codes, refl, sym, ap, ap₂, subst, append_assoc}
use Rattle.std.proofs.lemmas.List.Elements.{All-contains, All-from_recursion}
use Rattle.std.proofs.lemmas.Bool.{and_parts}
use Rattle.std.specs.List.{AllByRecursion, cons_option, flat_map}
use Rattle.ssim_mailbox.specs.Again.{IsMailText, TextsReadAgain, bytes_of, ended_texts}
use Rattle.ssim_mailbox.specs.declared.free_text.FreeText.TheVariants.{Ahead}
use Rattle.ssim_mailbox.specs.declared.role.Role.{Role}
use Rattle.ssim_mailbox.specs.Lines.{begins_with_dot, dot_after, drop_while}
use Rattle.ssim_mailbox.specs.Roles.{is_end, is_kind}
use Rattle.ssim_mailbox.specs.Texts.{MailText, texts_in}
use Rattle.ssim_mailbox.proofs.Drafts.{left_first}
use Rattle.ssim_mailbox.proofs.LineBytes.{ByteLines, addresses, cut, flat, is_blank, leads, lines_of}
use Rattle.ssim_mailbox.proofs.LineBytes.{mailbox_texts, message, origin, parts, put, role, starts}
use Rattle.ssim_mailbox.proofs.LineBytes.{text, texts, trim}
use Rattle.ssim_mailbox.proofs.CleanLines.{dropped_below, end_clean, end_line, line_first, lines_first}
use Rattle.ssim_mailbox.proofs.LineRoles.{MayBegin, addresses_on, dot_address, dot_role, origin_on}
use Rattle.ssim_mailbox.proofs.LineRoles.{pick_begins, pick_kept, start_on}
use Rattle.ssim_mailbox.proofs.MailboxParts.{IsText, Lead, Run, lead_clean, mailbox_has}

run_kept : (d : Bool) (lines below rest : ByteLines) → Run d lines rest
    → Run d lines (end_line ∷ below)
run_kept d [] below rest h = tt
run_kept d (line ∷ lines) below rest (c, r, h) = (
  c,
  pick_kept (is_end line) (is_kind line) d _ _ _ _ _ _ (origin_on (line ∷ lines) below rest)
      (addresses_on (line ∷ lines) below rest) (start_on line lines below rest) r,
  run_kept (dot_after d line) lines below rest h,
)

-- a text with NNNN below it
lead_kept : (d : Bool) (line : List ℕ) (lines below rest : ByteLines) → is_blank line ≡ false
    → Lead d (line ∷ lines) rest → Lead false (line ∷ lines) (end_line ∷ below)
lead_kept d line lines below rest some (c, may, run) = (
  c,
  pick_begins (is_end line) (is_kind line) d _ _ _ _ _ _ dotted
      (addresses_on (line ∷ lines) below rest) (start_on line lines below rest) may,
  subst (λ (dot : Bool). Run dot lines (end_line ∷ below)) (same_dot line some)
      (run_kept (dot_after d line) lines below rest run),
)
  where
    dotted : origin (line ∷ lines ++ rest) ≡ true
        → (addresses (line ∷ lines ++ end_line ∷ below) ≡ false)
        × (starts (line ∷ lines ++ end_line ∷ below) ≡ false)
    dotted h =
        let dot = (and_parts (begins_with_dot line) (leads (lines ++ rest)) h).0 in
        let below' = lines ++ end_line ∷ below in (
          ap (λ (t : Bool). t && (origin below' || addresses below')) (dot_address line dot),
          ap (λ (t : Bool). t && ((message below' || origin below') || addresses below'))
              (dot_role line dot).2,
        )

    same_dot : (line : List ℕ) → is_blank line ≡ false → dot_after d line ≡ dot_after false line
    same_dot [] h = absurd cc
    same_dot (b ∷ line) h = refl

run_parts : (d : Bool) (lines below : ByteLines) → Run d lines (end_line ∷ below)
    → parts d (lines ++ end_line ∷ below) ≡ lines ∷ parts false below
run_parts d [] below h = refl
run_parts d (line ∷ lines) below (c, r, h) =
    ap₂ (λ (x : Role) (ps : List ByteLines). put x line ps) r
    (run_parts (dot_after d line) lines below h)

-- the texts of parts, each divided at the lines that end its text
abbrev texts_of_parts : List ByteLines → List (List ℕ)
texts_of_parts ps = texts (flat_map (cut Ahead) ps)

lead_parts : (line : List ℕ) (lines below : ByteLines) → Lead false (line ∷ lines) (end_line ∷ below)
    → texts_of_parts (parts false (line ∷ lines ++ end_line ∷ below)) ≡ texts_of_parts
    ((line ∷ lines) ∷ parts false below)
lead_parts line lines below (c, may, run) = by may
  where
    below_first : parts (dot_after false line) (lines ++ end_line ∷ below) ≡ lines ∷ parts false below
    below_first = run_parts (dot_after false line) lines below run

    by : MayBegin (role false line (lines ++ end_line ∷ below))
        → texts_of_parts (parts false (line ∷ lines ++ end_line ∷ below)) ≡ texts_of_parts
        ((line ∷ lines) ∷ parts false below)
    by (inl r) = ap₂ (λ (x : Role) (ps : List ByteLines). texts_of_parts (put x line ps)) r below_first
    by (inr r) = ap₂ (λ (x : Role) (ps : List ByteLines). texts_of_parts (put x line ps)) r below_first

-- the text of lines that are a piece, and those of the parts below it
first_text : (line : List ℕ) (lines : ByteLines) (below : List ByteLines)
    → cut Ahead (line ∷ lines) ≡ (line ∷ lines) ∷ [] → trim (line ∷ lines) ≡ line ∷ lines
    → texts_of_parts ((line ∷ lines) ∷ below) ≡ flat (line ∷ lines) ∷ texts_of_parts below
first_text line lines below one same =
    ap (λ (ps : List ByteLines). texts (ps ++ flat_map (cut Ahead) below)) one
    ∙ ap (λ (ls : ByteLines). cons_option (text ls) (texts_of_parts below)) same

-- a list that keeps its first element does not begin with one that is dropped
first_kept : (line : List ℕ) (lines : ByteLines) → trim (line ∷ lines) ≡ line ∷ lines
    → is_blank line ≡ false
first_kept line lines h =
    let rest = dropped_below is_blank (drop_while is_blank (line ∷ lines)) in
    left_first is_blank (line ∷ lines) line (lines ++ rest.0)
    (rest.1 ∙ ap (λ (ls : ByteLines). ls ++ rest.0) h)

-- ---- read again

read_again : (found : List MailText) → AllByRecursion (λ t. IsText t.bytes) found
    → texts_of_parts (parts false (lines_of (ended_texts found))) ≡ bytes_of found
read_again [] h = refl
read_again (t ∷ found) h =
    let one = h.0 in
    let own = one.line ∷ one.lines in
    let later = ended_texts found in
    let (d, rest, lead) = one.piece.0 in
    let whole : lines_of ((t.bytes ++ codes "NNNN\n") ++ later) ≡ own ++ end_line ∷ lines_of later =
    ap (λ (bs : List ℕ). lines_of ((bs ++ codes "NNNN\n") ++ later)) one.is
    ∙ ap lines_of (append_assoc (flat own) (codes "NNNN\n") later)
    ∙ lines_first own (codes "NNNN\n" ++ later) (lead_clean d own rest lead)
    ∙ ap (λ (ls : ByteLines). own ++ ls) (line_first end_line later end_clean) in
    ap (λ (ls : ByteLines). texts_of_parts (parts false ls)) whole
    ∙ lead_parts one.line one.lines (lines_of later)
    (lead_kept d one.line one.lines (lines_of later) rest
    (first_kept one.line one.lines one.trimmed) lead)
    ∙ first_text one.line one.lines (parts false (lines_of later)) one.piece.1 one.trimmed
    ∙ ap₂ (λ (bs : List ℕ) (ts : List (List ℕ)). bs ∷ ts) (sym one.is) (read_again found h.1)

each_text : (ts : List MailText) → AllByRecursion IsText (bytes_of ts)
    → AllByRecursion (λ t. IsText t.bytes) ts
each_text [] h = tt
each_text (t ∷ ts) h = (h.0, each_text ts h.1)

some_text : (t : MailText) → IsMailText t → IsText t.bytes
some_text t (mailbox, has) =
    All-contains (λ t. IsText t.bytes) (texts_in mailbox) t
    (All-from_recursion (λ t. IsText t.bytes) (texts_in mailbox)
    (each_text (texts_in mailbox) (mailbox_has mailbox))) has

all_some : (ts : List MailText) → AllByRecursion IsMailText ts
    → AllByRecursion (λ t. IsText t.bytes) ts
all_some [] h = tt
all_some (t ∷ ts) h = (some_text t h.0, all_some ts h.1)

pub texts_read_again : TextsReadAgain
texts_read_again found h = mailbox_texts (ended_texts found) ∙ read_again found (all_some found h)
