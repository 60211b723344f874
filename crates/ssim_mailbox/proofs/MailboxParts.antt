-- A text is lines of one mailbox, each directly below the one above: its first line begins a text or
-- is inside one, its others are inside. No line of it ends a free text, and it has no empty lines at
-- its ends.
use Rattle.std.proofs.Common.{◌≡◌, ◌∙◌, inl, inr, ℕ, Bool, true, false, List, [], ◌∷◌, ◌++◌, refl, sym}
use Rattle.std.proofs.Common.{ap, subst, append_assoc}
use Rattle.std.specs.Prelude.{◌==◌, if◌then◌else◌}
use Rattle.std.specs.List.{AllByRecursion, cons_option, flat_map, onto_first, slice_split}
use Rattle.ssim_mailbox.specs.Again.{bytes_of}
use Rattle.ssim_mailbox.specs.declared.free_text.FreeText.{FreeText}
use Rattle.ssim_mailbox.specs.declared.free_text.FreeText.TheVariants.{Ahead}
use Rattle.ssim_mailbox.specs.declared.role.Role.{Role}
use Rattle.ssim_mailbox.specs.declared.role.Role.TheVariants.{First, Inside, Envelope, End}
use Rattle.ssim_mailbox.specs.FreeTexts.{ends_text, free_after}
use Rattle.ssim_mailbox.specs.Lines.{dot_after, drop_while}
use Rattle.ssim_mailbox.specs.Texts.{texts_in}
use Rattle.ssim_mailbox.proofs.Drafts.{dropped_first, kept_first, no_bytes}
use Rattle.ssim_mailbox.proofs.LineBytes.{ByteLines, cut, flat, is_blank, lines_of, mailbox_texts}
use Rattle.ssim_mailbox.proofs.LineBytes.{parts, put, role, text, texts, trim}
use Rattle.ssim_mailbox.proofs.CleanLines.{IsClean, all_clean, all_joined, both_again, clean_lines}
use Rattle.ssim_mailbox.proofs.CleanLines.{dropped_below}
use Rattle.ssim_mailbox.proofs.LineRoles.{MayBegin, no_envelope}

-- ---- the lines of a part

-- these lines are all inside, each directly below the one above it; the others are below them
abbrev pub Run : Bool → ByteLines → ByteLines → Type 0
Run under_dot [] rest = Unit {0}
Run under_dot (line ∷ lines) rest =
    IsClean line × (role under_dot line (lines ++ rest) ≡ Inside)
    × Run (dot_after under_dot line) lines rest

-- the same, but the first line may begin a text
abbrev pub Lead : Bool → ByteLines → ByteLines → Type 0
Lead under_dot [] rest = Unit {0}
Lead under_dot (line ∷ lines) rest =
    IsClean line × MayBegin (role under_dot line (lines ++ rest))
    × Run (dot_after under_dot line) lines rest

run_leads : (d : Bool) (lines rest : ByteLines) → Run d lines rest → Lead d lines rest
run_leads d [] rest h = tt
run_leads d (line ∷ lines) rest (c, r, h) = (c, inl r, h)

run_front : (d : Bool) (lines more rest : ByteLines) → Run d (lines ++ more) rest
    → Run d lines (more ++ rest)
run_front d [] more rest h = tt
run_front d (line ∷ lines) more rest (c, r, h) = (
  c,
  subst (λ (ls : ByteLines). role d line ls ≡ Inside) (append_assoc lines more rest) r,
  run_front
      (dot_after d line) lines more rest h,
)

lead_front : (d : Bool) (lines more rest : ByteLines) → Lead d (lines ++ more) rest
    → Lead d lines (more ++ rest)
lead_front d [] more rest h = tt
lead_front d (line ∷ lines) more rest (c, r, h) = (
  c,
  subst (λ (ls : ByteLines). MayBegin (role d line ls)) (append_assoc lines more rest) r,
  run_front (dot_after d line) lines more rest h,
)

pub lead_clean : (d : Bool) (lines rest : ByteLines) → Lead d lines rest → AllByRecursion IsClean lines
lead_clean d [] rest h = tt
lead_clean d (line ∷ lines) rest (c, may, run) = (c, run_clean (dot_after d line) lines rest run)
  where
    run_clean : (d : Bool) (lines rest : ByteLines) → Run d lines rest → AllByRecursion IsClean lines
    run_clean d [] rest h = tt
    run_clean d (line ∷ lines) rest (c, r, h) = (c, run_clean (dot_after d line) lines rest h)

-- the lines of a part of some mailbox
abbrev pub IsPart : ByteLines → Type 0
IsPart lines = (under_dot : Bool) × (rest : ByteLines) × Lead under_dot lines rest

-- ---- the parts of the lines of a mailbox

-- the first part is a run of the first lines, and the others are parts
record Divides (under_dot : Bool) (lines : ByteLines) : Type 0 where
  first : ByteLines
  others : List ByteLines
  rest : ByteLines
  is : parts under_dot lines ≡ first ∷ others
  whole : lines ≡ first ++ rest
  run : Run under_dot first rest
  all : AllByRecursion IsPart others

one_line : (d : Bool) (line : List ℕ) (below : ByteLines) → IsClean line
    → Divides (dot_after d line) below → (r : Role) → role d line below ≡ r → Divides d (line ∷ below)
one_line d line below c h Inside e = record {
  first = line ∷ h.first;
  others = h.others;
  rest = h.rest;
  is = λ i. put (e i) line (h.is i);
  whole = ap (λ (ls : ByteLines). line ∷ ls) h.whole;
  run = (c, subst (λ (ls : ByteLines). role d line ls ≡ Inside) h.whole e, h.run);
  all = h.all;
}
one_line d line below c h First e = record {
  first = [];
  others = (line ∷ h.first) ∷ h.others;
  rest = line ∷ below;
  is = λ i. put (e i) line (h.is i);
  whole = refl;
  run = tt;
  all = (
    (d, h.rest, (c, inr (subst (λ (ls : ByteLines). role d line ls ≡ First) h.whole e), h.run)),
    h.all,
  );
}
one_line d line below c h End e = record {
  first = [];
  others = h.first ∷ h.others;
  rest = line ∷ below;
  is = λ i. put (e i) line (h.is i);
  whole = refl;
  run = tt;
  all = ((dot_after d line, h.rest, run_leads (dot_after d line) h.first h.rest h.run), h.all);
}
one_line d line below c h Envelope e = record {
  first = [];
  others = h.others;
  rest = line ∷ below;
  is = (λ i. put (e i) line (h.is i))
      ∙ ap (λ (ls : ByteLines). ls ∷ h.others) (none h.first h.whole h.run);
  whole = refl;
  run = tt;
  all = h.all;
}
  where
    none : (first : ByteLines) → below ≡ first ++ h.rest → Run (dot_after d line) first h.rest
        → first ≡ []
    none [] whole run = refl
    none (next ∷ more) whole run =
        absurd (no_envelope d line next (more ++ h.rest) run.1
        (subst (λ (ls : ByteLines). role d line ls ≡ Envelope) whole e))

divides : (d : Bool) (lines : ByteLines) → AllByRecursion IsClean lines → Divides d lines
divides d [] h =
    record { first = []; others = []; rest = []; is = refl; whole = refl; run = tt; all = tt }
divides d (line ∷ below) h =
    one_line d line below h.0 (divides (dot_after d line) below h.1) (role d line below) refl

parts_divided : (d : Bool) (lines : ByteLines) → AllByRecursion IsClean lines
    → AllByRecursion IsPart (parts d lines)
parts_divided d lines h =
    let divided = divides d lines h in
    subst (AllByRecursion IsPart) (sym divided.is)
    ((d, divided.rest, run_leads d divided.first divided.rest divided.run), divided.all)

-- ---- what free texts divide

-- lines of some mailbox, none of which ends a free text
abbrev pub IsPiece : ByteLines → Type 0
IsPiece lines = IsPart lines × (cut Ahead lines ≡ lines ∷ [])

record Cuts (free : FreeText) (lines : ByteLines) : Type 0 where
  first : ByteLines
  others : List ByteLines
  below : ByteLines
  is : cut free lines ≡ first ∷ others
  whole : lines ≡ first ++ below
  one : cut free first ≡ first ∷ []
  all : AllByRecursion IsPiece others

-- the cut with the answer whether the line ends the text
cut_by : (b : Bool) (free : FreeText) (line : List ℕ) (below : ByteLines) → ends_text free line ≡ b
    → cut free (line ∷ below) ≡
    (if b then [] ∷ cut Ahead below else onto_first line (cut (free_after free line) below))
cut_by b free line below e =
    ap (λ (t : Bool). if t then [] ∷ cut Ahead below else onto_first line
    (cut (free_after free line) below)) e

cut_here : (free : FreeText) (d : Bool) (line : List ℕ) (lines rest : ByteLines)
    → Run (dot_after d line) lines rest → Cuts Ahead lines → Cuts (free_after free line) lines
    → (b : Bool) → ends_text free line ≡ b → Cuts free (line ∷ lines)
cut_here free d line lines rest run new on true e = record {
  first = [];
  others = new.first ∷ new.others;
  below = line ∷ lines;
  is = cut_by true free line lines e ∙ ap (λ (ps : List ByteLines). [] ∷ ps) new.is;
  whole = refl;
  one = refl;
  all = (
    (
      (
        dot_after d line,
        new.below ++ rest,
        run_leads (dot_after d line) new.first (new.below ++ rest)
            (run_front (dot_after d line) new.first new.below rest
            (subst (λ (ls : ByteLines). Run (dot_after d line) ls rest) new.whole run)),
      ),
      new.one,
    ),
    new.all,
  );
}
cut_here free d line lines rest run new on false e = record {
  first = line ∷ on.first;
  others = on.others;
  below = on.below;
  is = cut_by false free line lines e ∙ ap (onto_first line) on.is;
  whole = ap (λ (ls : ByteLines). line ∷ ls) on.whole;
  one = cut_by false free line on.first e ∙ ap (onto_first line) on.one;
  all = on.all;
}

cuts : (free : FreeText) (d : Bool) (lines rest : ByteLines) → Run d lines rest → Cuts free lines
cuts free d [] rest run =
    record { first = []; others = []; below = []; is = refl; whole = refl; one = refl; all = tt }
cuts free d (line ∷ lines) rest (c, r, run) =
    cut_here free d line lines rest run (cuts Ahead (dot_after d line) lines rest run)
    (cuts (free_after free line) (dot_after d line) lines rest run) (ends_text free line) refl

part_pieces : (lines : ByteLines) → IsPart lines → AllByRecursion IsPiece (cut Ahead lines)
part_pieces [] h = (((false, [], tt), refl), tt)
part_pieces (line ∷ lines) (d, rest, (c, may, run)) =
    let on = cuts (free_after Ahead line) (dot_after d line) lines rest run in
    let lead = lead_front d (line ∷ on.first) on.below rest
    (subst (λ (ls : ByteLines). Lead d (line ∷ ls) rest) on.whole (c, may, run)) in
    subst (AllByRecursion IsPiece) (sym (ap (onto_first line) on.is))
    (((d, on.below ++ rest, lead), ap (onto_first line) on.one), on.all)

all_pieces : (ps : List ByteLines) → AllByRecursion IsPart ps
    → AllByRecursion IsPiece (flat_map (cut Ahead) ps)
all_pieces [] h = tt
all_pieces (part ∷ ps) h =
    all_joined IsPiece (cut Ahead part) (flat_map (cut Ahead) ps) (part_pieces part h.0)
    (all_pieces ps h.1)

-- ---- without empty lines at both ends

cut_some : (free : FreeText) (lines : ByteLines) → (first : ByteLines) × (others : List ByteLines)
    × (cut free lines ≡ first ∷ others)
cut_some free [] = ([], [], refl)
cut_some free (line ∷ below) = by (ends_text free line) refl (cut_some (free_after free line) below)
  where
    by : (b : Bool) → ends_text free line ≡ b → (first : ByteLines) × (others : List ByteLines)
        × (cut (free_after free line) below ≡ first ∷ others)
        → (first : ByteLines) × (others : List ByteLines) × (cut free (line ∷ below) ≡ first ∷ others)
    by true e h = ([], cut Ahead below, cut_by true free line below e)
    by false e (first, others, is) =
        (line ∷ first, others, cut_by false free line below e ∙ ap (onto_first line) is)

-- what is cut below a line that is one with what is below it
peeled : (free : FreeText) (line : List ℕ) (lines all : ByteLines)
    → onto_first line (cut free lines) ≡ (line ∷ all) ∷ [] → cut free lines ≡ all ∷ []
peeled free line lines all h =
    let (first, others, is) = cut_some free lines in
    let same : (line ∷ first) ∷ others ≡ (line ∷ all) ∷ [] = sym (ap (onto_first line) is) ∙ h in
    is ∙ same_parts line first all others same
  where
    same_parts : (line : List ℕ) (first all : ByteLines) (others : List ByteLines)
        → (line ∷ first) ∷ others ≡ (line ∷ all) ∷ [] → first ∷ others ≡ all ∷ []
    same_parts line first all others h = cc

cut_front : (free : FreeText) (lines more : ByteLines)
    → cut free (lines ++ more) ≡ (lines ++ more) ∷ [] → cut free lines ≡ lines ∷ []
cut_front free [] more h = refl
cut_front free (line ∷ lines) more h =
    by (ends_text free line) refl (cut_front (free_after free line) lines more)
  where
    by : (b : Bool) → ends_text free line ≡ b
        → (cut (free_after free line) (lines ++ more) ≡ (lines ++ more) ∷ []
        → cut (free_after free line) lines ≡ lines ∷ [])
        → cut free (line ∷ lines) ≡ (line ∷ lines) ∷ []
    by true e on =
        let other : [] ∷ cut Ahead (lines ++ more) ≡ (line ∷ lines ++ more) ∷ [] =
        sym (cut_by true free line (lines ++ more) e) ∙ h in absurd cc
    by false e on =
        let rest = peeled (free_after free line) line (lines ++ more) (lines ++ more)
        (sym (cut_by false free line (lines ++ more) e) ∙ h) in
        cut_by false free line lines e ∙ ap (onto_first line) (on rest)

-- without an empty line at the beginning
blank_dropped : (line : List ℕ) (lines : ByteLines) → is_blank line ≡ true → IsPiece (line ∷ lines)
    → IsPiece lines
blank_dropped line lines blank ((d, rest, (c, may, run)), one) = (
  (dot_after d line, rest, run_leads (dot_after d line) lines rest run),
  subst (λ (free : FreeText). cut free lines ≡ lines ∷ [])
      (ap (free_after Ahead) (no_bytes line blank))
      (peeled (free_after Ahead line) line lines lines one),
)

piece_below : (lines : ByteLines) → IsPiece lines → IsPiece (drop_while is_blank lines)
piece_below [] h = h
piece_below (line ∷ lines) h = by (is_blank line) refl (piece_below lines)
  where
    by : (b : Bool) → is_blank line ≡ b → (IsPiece lines → IsPiece (drop_while is_blank lines))
        → IsPiece (drop_while is_blank (line ∷ lines))
    by true e on =
        subst IsPiece (sym (dropped_first is_blank line lines e)) (on (blank_dropped line lines e h))
    by false e on = subst IsPiece (sym (kept_first is_blank line lines e)) h

piece_front : (lines more : ByteLines) → IsPiece (lines ++ more) → IsPiece lines
piece_front lines more ((d, rest, lead), one) =
    ((d, more ++ rest, lead_front d lines more rest lead), cut_front Ahead lines more one)

piece_trimmed : (lines : ByteLines) → IsPiece lines → IsPiece (trim lines)
piece_trimmed lines h =
    let kept = drop_while is_blank lines in
    let back = dropped_below is_blank kept in
    piece_front (trim lines) back.0 (subst IsPiece back.1 (piece_below lines h))

-- ---- the texts of a mailbox

-- the bytes are those of lines of some mailbox, none of which ends a free text, without empty lines at
-- both ends
pub record IsText (bytes : List ℕ) : Type 0 where
  pub line : List ℕ
  pub lines : ByteLines
  pub piece : IsPiece (line ∷ lines)
  pub trimmed : trim (line ∷ lines) ≡ line ∷ lines
  pub is : bytes ≡ flat (line ∷ lines)

one_text : (lines : ByteLines) (later : List (List ℕ)) → IsPiece lines → trim lines ≡ lines
    → AllByRecursion IsText later → AllByRecursion IsText (cons_option (text lines) later)
one_text [] later h t k = k
one_text (line ∷ lines) later h t k =
    (record { line = line; lines = lines; piece = h; trimmed = t; is = refl }, k)

all_texts : (ps : List ByteLines) → AllByRecursion IsPiece ps → AllByRecursion IsText (texts ps)
all_texts [] h = tt
all_texts (piece ∷ ps) h =
    one_text (trim piece) (texts ps) (piece_trimmed piece h.0) (both_again is_blank is_blank piece)
    (all_texts ps h.1)

pub mailbox_has : (mailbox : List ℕ) → AllByRecursion IsText (bytes_of (texts_in mailbox))
mailbox_has mailbox =
    subst (AllByRecursion IsText) (sym (mailbox_texts mailbox))
    (all_texts (flat_map (cut Ahead) (parts false (lines_of mailbox)))
    (all_pieces (parts false (lines_of mailbox))
    (parts_divided false (lines_of mailbox)
    (all_clean (slice_split (λ b. b == 10) mailbox) (clean_lines mailbox)))))
