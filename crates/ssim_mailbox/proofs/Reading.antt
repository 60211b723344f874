-- The lines of a mailbox, one after another: their roles, and the parts and texts from one on.
use Rattle.std.proofs.Common.{◌≡◌, ◌≤◌, ◌<◌, ℕ, ◌+◌, zero, suc, Bool, true, false, List, [], ◌∷◌, ◌++◌, Some, length, drop, get_or, refl, sym, ap, subst, ◌∙◌, arith}
use Rattle.std.specs.Prelude.{reverse}
use Rattle.std.specs.List.{onto_first}
use Rattle.std.specs.Option.{option_to_list}
use Rattle.std.proofs.lemmas.List.{reverse-append}
use Rattle.std.proofs.lemmas.Bool.Decides.{nat_tests}
use Rattle.ssim_mailbox.specs.declared.free_text.FreeText.{FreeText}
use Rattle.ssim_mailbox.specs.declared.free_text.FreeText.TheVariants.{Ahead, Begun, Divided}
use Rattle.ssim_mailbox.specs.declared.line.Lines.{Lines}
use Rattle.ssim_mailbox.specs.declared.role.Role.{Role}
use Rattle.ssim_mailbox.specs.declared.role.Role.TheVariants.{First, Inside, Envelope, End}
use Rattle.ssim_mailbox.specs.FreeTexts.{ahead_of, cut_parts, ended, free_after}
use Rattle.ssim_mailbox.specs.Lines.{MailLine, dot_after, lines_from, shown}
use Rattle.ssim_mailbox.specs.Roles.{is_end, is_kind, role_of}
use Rattle.ssim_mailbox.specs.Texts.{MailText, is_empty, parts_of, text_from, texts_of, trimmed, with_line}
use Rattle.ssim_mailbox.specs.internal.Lines.{IsNextLine, lines_left, pieces_left}
use Rattle.ssim_mailbox.specs.internal.Roles.{AreRoles, plain_line}
use Rattle.ssim_mailbox.specs.internal.Texts.{AreRolesOf, ends_by, texts_with}
use Rattle.ssim_mailbox.proofs.Drafts.{ended_some, ended_text, no_bytes}

-- ---- roles

-- a role of one more line above
pub role_above : (roles more : List Role) (role : Role) (piece : List ℕ) (below : List (List ℕ)) → more ≡ roles ++ role ∷ []
    → ((n m : ℕ) (under_dot : Bool) → role ≡ role_of (plain_line n piece) (lines_from m under_dot below)) → AreRoles (reverse roles) below → AreRoles (reverse more) (piece ∷ below)
role_above roles more role piece below is one h = subst (λ (rs : List Role). AreRoles rs (piece ∷ below)) (sym (ap reverse is ∙ reverse-append roles (role ∷ []))) (one, h)

-- what roles from an index on say: there is one at the index, it is that of the first line, and those after it are those of the lines below
pub record HasRole (roles : List Role) (i : ℕ) (piece : List ℕ) (below : List (List ℕ)) : Type 0 where
  pub within : i < length roles
  pub role : (d : Role) (n m : ℕ) (under_dot : Bool) → get_or roles i d ≡ role_of (plain_line n piece) (lines_from m under_dot below)
  pub rest : AreRoles (drop (i + 1) roles) below

pub has_role : (roles : List Role) (i : ℕ) (piece : List ℕ) (below : List (List ℕ)) → AreRoles (drop i roles) (piece ∷ below) → HasRole roles i piece below
has_role [] zero piece below h = absurd h
has_role [] (suc i) piece below h = absurd h
has_role (role ∷ roles) zero piece below h = record { within = omega arith; role = λ d. h.0; rest = h.1 }
has_role (role ∷ roles) (suc i) piece below h =
    let more = has_role roles i piece below h in
    let within = more.within in
    let same : suc (i + 1) ≡ suc i + 1 = omega arith in
    record { within = omega (arith, within); role = more.role; rest = subst (λ (k : ℕ). AreRoles (drop k (role ∷ roles)) below) same more.rest }

-- ---- a line under a dot

pub no_end : (line : List ℕ) → is_kind line ≡ true → is_end line ≡ false
no_end [] h = refl
no_end (a ∷ []) h = grind (arith, nat_tests)
no_end (a ∷ b ∷ []) h = grind (arith, nat_tests)
no_end (a ∷ b ∷ c ∷ []) h = grind (arith, nat_tests)
no_end (a ∷ b ∷ c ∷ d ∷ line) h = grind (arith, nat_tests)

-- a line SSM or ASM under a dot is inside
pub under_dot : (n : ℕ) (line : List ℕ) (below : List MailLine) → is_kind line ≡ true → Inside ≡ role_of (record { number = n; bytes = line; under_dot = true }) below
under_dot n line below h = rw (no_end line h, h) refl

-- ---- the next line

-- the roles are those of the lines after the next one, too
pub next_roles : (roles : List Role) (old new : Lines) (line : MailLine) → AreRolesOf roles old → IsNextLine (Some line) old new → AreRolesOf roles new
next_roles roles old new line h (piece, first, left, above, dot) =
    let here = has_role roles old.above piece (pieces_left new) (subst (AreRoles (drop old.above roles)) left h.are) in
    let within = here.within in
    record { within = omega (arith, within, above); are = subst (λ (i : ℕ). AreRoles (drop i roles) (pieces_left new)) (sym above) here.rest }

-- the next line has the role at its index, as if it were not under a dot
pub role_here : (roles : List Role) (old new : Lines) (line : MailLine) (d : Role) → AreRolesOf roles old → IsNextLine (Some line) old new
    → (piece : List ℕ) × (shown piece ≡ line.bytes) × (get_or roles old.above d ≡ role_of (plain_line 0 piece) (lines_left new))
role_here roles old new line d h (piece, first, left, above, dot) =
    let here = has_role roles old.above piece (pieces_left new) (subst (AreRoles (drop old.above roles)) left h.are) in
    (piece, sym (ap (λ (l : MailLine). l.bytes) first), here.role d 0 (new.above + 1) new.under_dot)

lines_next : (old new : Lines) (line : MailLine) → IsNextLine (Some line) old new → lines_left old ≡ line ∷ lines_left new
lines_next old new line (piece, first, left, above, dot) =
    ap (lines_from (old.above + 1) old.under_dot) left
    ∙ ap (λ (l : MailLine). l ∷ lines_from (old.above + 1 + 1) (dot_after old.under_dot (shown piece)) (pieces_left new)) (sym first)
    ∙ ap (λ (n : ℕ). line ∷ lines_from (n + 1) (dot_after old.under_dot (shown piece)) (pieces_left new)) (sym above)
    ∙ ap (λ (d : Bool). line ∷ lines_from (new.above + 1) d (pieces_left new)) (sym dot)

-- the parts from a line on, by its role
pub next_parts : (old new : Lines) (line : MailLine) (role : Role) → IsNextLine (Some line) old new → role ≡ role_of line (lines_left new) → parts_of (lines_left old) ≡ with_line role line (parts_of (lines_left new))
next_parts old new line role next is = ap parts_of (lines_next old new line next) ∙ ap (λ (r : Role). with_line r line (parts_of (lines_left new))) (sym is)

-- ---- a line that ends a text

false_true : false ≡ true → ⊥
false_true h = cc

blank_first : (line : MailLine) (parts more : List (List MailLine)) → is_empty line ≡ true → 1 ≤ length parts → texts_of (onto_first line parts ++ more) ≡ texts_of (parts ++ more)
blank_first line [] more empty some = absurd (omega (arith, some))
blank_first line (part ∷ parts) more empty some = rw empty refl

some_parts : (free : FreeText) (lines : List MailLine) → 1 ≤ length (ended free lines)
some_parts free lines = let (part, parts, is) = ended_some free lines in rw is (omega arith)

-- an empty line at the beginning changes no text
blank_line : (line : MailLine) (parts : List (List MailLine)) → is_empty line ≡ true → texts_of (cut_parts (onto_first line parts)) ≡ texts_of (cut_parts parts)
blank_line line [] empty = rw empty refl
blank_line line (part ∷ parts) empty =
    let ahead : free_after Ahead line.bytes ≡ Ahead = ap ahead_of (no_bytes line.bytes empty) in
    ap (λ (f : FreeText). texts_of (onto_first line (ended f part) ++ cut_parts parts)) ahead ∙ blank_first line (ended Ahead part) (cut_parts parts) empty (some_parts Ahead part)

-- an empty line in the free text divides as NNNN does
as_end : (begun : List MailLine) (line : MailLine) (parts : List (List MailLine)) → is_empty line ≡ true → texts_with begun Begun (onto_first line parts) ≡ texts_with begun Begun ([] ∷ parts)
as_end begun line [] empty = rw empty refl
as_end begun line (part ∷ parts) empty = rw empty refl

-- the lines that have begun are a text, and the others are from this line on
pub ended_here : (begun : List MailLine) (free : FreeText) (role : Role) (line : MailLine) (parts : List (List MailLine)) → ends_by free role line.bytes ≡ true
    → texts_with begun free (with_line role line parts) ≡ option_to_list (text_from (trimmed begun)) ++ texts_of (cut_parts (with_line role line parts))
ended_here begun free First line parts h = ended_text begun free (onto_first line parts)
ended_here begun free End line parts h = ended_text begun free parts
ended_here begun Begun Inside line parts h =
    as_end begun line parts h ∙ ended_text begun Begun parts ∙ ap (λ (texts : List MailText). option_to_list (text_from (trimmed begun)) ++ texts) (sym (blank_line line parts h))
ended_here begun Ahead Inside line parts h = absurd (false_true h)
ended_here begun Divided Inside line parts h = absurd (false_true h)
ended_here begun free Envelope line parts h = absurd (false_true h)
