-- The texts of the file of messages, message by message: each begins with its originator or its
-- kind, and its later lines are plain. A line NNNN or an empty line is below each.
use Rattle.std.proofs.Common.{◌≡◌, ◌≤◌, ℕ, ◌+◌, Bool, true, false, List, [], ◌∷◌, ◌++◌, map}
use Rattle.std.proofs.Common.{drop, length, refl, sym, ap, subst, ◌∙◌, append_assoc, arith, codes, Option, None, Some}
use Rattle.std.proofs.lemmas.Bool.{and_parts}
use Rattle.std.specs.List.{AllByRecursion, flat_map, list_all, onto_first}
use Rattle.std.specs.Str.{bytes_eq}
use Rattle.ssim_values.specs.declared.designator.Designator.{Designator}
use Rattle.ssim_text.specs.Canonical.{canonical, canonical_parts, part_text}
use Rattle.ssim_text.specs.Grammar.{FreePart, KindPart, LegPart, ModePart, Part}
use Rattle.ssim_text.specs.Grammar.{ReferencePart, SegmentPart, body_parts, flight_parts, free_parts}
use Rattle.ssim_text.specs.Grammar.{later_parts, new_parts, sub_parts, subs_parts}
use Rattle.ssim_text.specs.Left.{pieces}
use Rattle.ssim_text.specs.Message.{MessageValue}
use Rattle.ssim_text.specs.Values.{no_originator}
use Rattle.ssim_text.specs.declared.action.Action.{Action}
use Rattle.ssim_text.specs.declared.action.Action.TheVariants as action
use Rattle.ssim_text.specs.declared.action.NewLegs.{NewLegs}
use Rattle.ssim_text.specs.declared.action.Sub.{Sub}
use Rattle.ssim_text.specs.declared.dates.Dates.{Dates}
use Rattle.ssim_text.specs.declared.dates.Dates.TheVariants.{Date, Period}
use Rattle.ssim_text.specs.declared.kind.Kind.{Kind}
use Rattle.ssim_text.specs.declared.leg.LegLine.{LegLine}
use Rattle.ssim_text.specs.declared.segment.SegmentLine.{SegmentLine}
use Rattle.ssim_text.proofs.BoundsLemmas.{spelled_reference_bounded}
use Rattle.ssim_text.proofs.LinesKept.{ReadsAgain}
use Rattle.ssim_text.proofs.ReadsBack.{all_both, all_right, spelled_again}
use Rattle.ssim_text.specs.declared.kind.Kind.TheVariants.{Asm, Ssm}
use Rattle.ssim_mailbox.specs.Lines.{MailLine, dot_after, lines_from}
use Rattle.ssim_mailbox.specs.FreeTexts.{cut_parts}
use Rattle.ssim_mailbox.specs.Texts.{MailText, parts_of, texts_of}
use Rattle.ssim_outbox.specs.MailFile.{IsMail, JoinedTextsRead, MailboxesRead, SentAreMail, is_plain}
use Rattle.ssim_outbox.specs.MailFile.{mail_file, mail_texts}
use Rattle.ssim_outbox.specs.internal.Texts.{heading_parts}
use Rattle.ssim_outbox.proofs.MailLines.{first_line, mail_line}
use Rattle.ssim_outbox.proofs.MailRead.{IsBelow, IsPlainPart, IsQuiet, blank_line, dot_below, first_text}
use Rattle.ssim_outbox.proofs.MailRead.{kind_parts, lines_left, marked, marked_text, none_empty, origin_parts}
use Rattle.ssim_outbox.proofs.PlainLines.{IsLaterPart, IsPlain, part_plain}
use Rattle.ssim_outbox.proofs.Together.{choice, heading_again, own_lines}

-- ---- the parts of sub-messages are later ones

legs_later : (legs : List LegLine) → AllByRecursion IsLaterPart (map LegPart legs)
legs_later [] = tt
legs_later (leg ∷ legs) = (tt, legs_later legs)

segments_later : (segments : List SegmentLine) → AllByRecursion IsLaterPart (map SegmentPart segments)
segments_later [] = tt
segments_later (segment ∷ segments) = (tt, segments_later segments)

new_later : (new : NewLegs) → AllByRecursion IsLaterPart (new_parts new)
new_later new = (
  tt,
  all_both IsLaterPart (map LegPart new.legs) (map SegmentPart new.segments)
      (legs_later new.legs) (segments_later new.segments),
)

body_later : (a : Action) → AllByRecursion IsLaterPart (body_parts a)
body_later (action.New new) = new_later new
body_later action.Cnl = tt
body_later (action.Rpl new) = new_later new
body_later (action.Eqt equipment) = (tt, tt)
body_later (action.Tim legs) = legs_later legs

flight_later : (d : Designator) (dates : Dates) → AllByRecursion IsLaterPart (flight_parts d dates)
flight_later d (Period period) = (tt, (tt, tt))
flight_later d (Date date) = (tt, tt)

sub_later : (sub : Sub) → AllByRecursion IsLaterPart (sub_parts sub)
sub_later sub = (
  tt,
  all_both IsLaterPart (flight_parts sub.designator sub.dates) (body_parts sub.action)
      (flight_later sub.designator sub.dates) (body_later sub.action),
)

more_later : (subs : List Sub) → AllByRecursion IsLaterPart (later_parts subs)
more_later [] = tt
more_later (sub ∷ subs) =
    (tt, all_both IsLaterPart (sub_parts sub) (later_parts subs) (sub_later sub) (more_later subs))

subs_later : (subs : List Sub) → AllByRecursion IsLaterPart (subs_parts subs)
subs_later [] = tt
subs_later (sub ∷ subs) =
    all_both IsLaterPart (sub_parts sub) (later_parts subs) (sub_later sub) (more_later subs)

-- ---- free text

lines_later : (free : List (List ℕ)) → list_all is_plain free ≡ true
    → AllByRecursion IsLaterPart (map FreePart free)
lines_later [] h = tt
lines_later (line ∷ free) h =
    let p = and_parts (is_plain line) (list_all is_plain free) h in
    (p.0, lines_later free p.1)

free_later : (free : List (List ℕ)) → list_all is_plain free ≡ true
    → AllByRecursion IsLaterPart (free_parts free)
free_later [] h = tt
free_later (line ∷ free) h = (tt, lines_later (line ∷ free) h)

-- ---- the parts of a message

-- the parts of a message from its time mode on
abbrev after_kind : MessageValue → List Part
after_kind m = ModePart m.mode ∷ ReferencePart m.reference ∷ (subs_parts m.subs ++ free_parts m.free)

after_kind_later : (m : MessageValue) → list_all is_plain m.free ≡ true
    → AllByRecursion IsLaterPart (after_kind m)
after_kind_later m plain = (
  tt,
  (
    tt,
    all_both IsLaterPart (subs_parts m.subs) (free_parts m.free) (subs_later m.subs)
        (free_later m.free plain),
  ),
)

-- each part of the canonical text reads again
parts_again : (m : MessageValue) → IsMail m → AllByRecursion ReadsAgain (canonical_parts m)
parts_again m mail =
    let h = mail.text in
    let has = h.spelled.has_parts in
    let rest = subs_parts m.subs ++ free_parts m.free in
    let few = (spelled_reference_bounded m (canonical m) h).group in
    let heading = heading_again m (canonical m) m.reference.group few h in
    let whole = subst (AllByRecursion ReadsAgain) has.whole (spelled_again m (canonical m) h) in
    let later = all_right ReadsAgain has.heading rest whole in
    let own = heading_parts m m.reference.group in
    subst (AllByRecursion ReadsAgain) (grouped m) (all_both ReadsAgain own rest heading later)
  where
    grouped : (m : MessageValue)
        → heading_parts m m.reference.group ++ (subs_parts m.subs ++ free_parts m.free)
        ≡ canonical_parts m
    grouped m = append_assoc _ (KindPart m.kind ∷ ModePart m.mode ∷ ReferencePart m.reference ∷ []) _

both_hold : (parts : List Part) → AllByRecursion IsLaterPart parts → AllByRecursion ReadsAgain parts
    → AllByRecursion IsPlainPart parts
both_hold [] h k = tt
both_hold (p ∷ parts) h k =
    (record { line = k.0.line; plain = part_plain p h.0 k.0.spelled }, both_hold parts h.1 k.1)

-- ---- the parts of the lines of a message

-- no line of plain parts begins with a dot
no_dot_below : (ps : List Part) → AllByRecursion IsPlainPart ps → dot_below false ps ≡ false
no_dot_below [] h = refl
no_dot_below (p ∷ ps) h = ap (λ (d : Bool). dot_below d ps) (no_dot (part_text p) h.0.plain) ∙ no_dot_below ps h.1
  where
    no_dot : (line : List ℕ) → IsPlain line → dot_after false line ≡ false
    no_dot [] plain = refl
    no_dot (b ∷ line) plain = plain.no_dot

no_dot_at : (blank : Bool) (o : List ℕ) (kind : Kind) (ps : List Part) → AllByRecursion IsPlainPart ps → dot_below false (choice blank o ++ KindPart kind ∷ ps) ≡ false
no_dot_at true o Ssm ps h = no_dot_below ps h
no_dot_at true o Asm ps h = no_dot_below ps h
no_dot_at false o Ssm ps h = no_dot_below ps h
no_dot_at false o Asm ps h = no_dot_below ps h

parts_at : (blank : Bool) (n : ℕ) (o : List ℕ) (kind : Kind) (ps : List Part) (below : List ℕ) (first : List MailLine) (parts : List (List MailLine))
    → AllByRecursion ReadsAgain (choice blank o ++ KindPart kind ∷ ps) → AllByRecursion IsPlainPart ps
    → IsBelow (n + length (choice blank o ++ KindPart kind ∷ ps)) (dot_below false (choice blank o ++ KindPart kind ∷ ps)) below first parts
    → parts_of (lines_left n false (choice blank o ++ KindPart kind ∷ ps) below)
    ≡ [] ∷ (marked n false (choice blank o ++ KindPart kind ∷ ps) ++ first) ∷ parts
parts_at true n o kind ps below first parts again h is = kind_parts n kind ps below first parts h is
parts_at false n o kind ps below first parts again h is = origin_parts n o kind ps below first parts again.0.line h is

some_at : (blank : Bool) (o : List ℕ) (p : Part) (ps : List Part) → 1 ≤ length (choice blank o ++ p ∷ ps)
some_at true o p ps = omega arith
some_at false o p ps = omega arith

-- the parts of a message, and of what is below it
message_parts : (m : MessageValue) (n : ℕ) (below : List ℕ) (first : List MailLine) (parts : List (List MailLine)) → IsMail m
    → IsBelow (n + length (canonical_parts m)) false below first parts
    → parts_of (lines_left n false (canonical_parts m) below) ≡ [] ∷ (marked n false (canonical_parts m) ++ first) ∷ parts
message_parts m n below first parts mail is =
    let again = parts_again m mail in
    let blank = bytes_eq m.originator no_originator in
    let own = canonical_parts m in
    let later = all_right ReadsAgain (choice blank m.originator) (KindPart m.kind ∷ after_kind m) again in
    let plain = both_hold (after_kind m) (after_kind_later m mail.free) later.1 in
    let dotted = subst (λ (d : Bool). IsBelow (n + length own) d below first parts) (sym (no_dot_at blank m.originator m.kind (after_kind m) plain)) is in
    parts_at blank n m.originator m.kind (after_kind m) below first parts again plain dotted

-- the text of the lines of a message, and those of the parts below them
own_text : (m : MessageValue) (n : ℕ) (last : Option ℕ) (parts : List (List MailLine)) (texts : List MailText) → IsMail m → texts_of (cut_parts parts) ≡ texts
    → texts_of (cut_parts ([] ∷ (marked n false (canonical_parts m) ++ blank_line last) ∷ parts)) ≡ record { line = n; bytes = canonical m } ∷ texts
own_text m n last parts texts mail are =
    let own = canonical_parts m in
    let some = some_at (bytes_eq m.originator no_originator) m.originator (KindPart m.kind) (after_kind m) in
    let lines = own_lines own (parts_again m mail) in
    first_text (marked n false own) last parts (record { line = n; bytes = canonical m }) texts (none_empty n false own lines) (marked_text n false own last some lines) are

-- the text of a message, and those of what is below it
message_text : (m : MessageValue) (n : ℕ) (below : List ℕ) (last : Option ℕ) (parts : List (List MailLine)) (texts : List MailText) → IsMail m
    → IsBelow (n + length (canonical_parts m)) false below (blank_line last) parts → texts_of (cut_parts parts) ≡ texts
    → texts_of (cut_parts (parts_of (lines_left n false (canonical_parts m) below))) ≡ record { line = n; bytes = canonical m } ∷ texts
message_text m n below last parts texts mail is are =
    ap (λ (x : List (List MailLine)). texts_of (cut_parts x)) (message_parts m n below (blank_line last) parts mail is)
    ∙ own_text m n last parts texts mail are

-- ---- the texts of a file, a line NNNN after each

end_line : (k : ℕ) (d : Bool) (rest : List ℕ) → lines_from k d (pieces (codes "NNNN\n" ++ rest)) ≡ mail_line k d (codes "NNNN") ∷ lines_from (k + 1) false (pieces rest)
end_line k d rest = first_line k d (codes "NNNN") rest (record { some = omega arith; printable = refl; ended = refl })

quiet_end : (k : ℕ) (d : Bool) (below : List MailLine) → IsQuiet (mail_line k d (codes "NNNN") ∷ below)
quiet_end k d below = record { message = refl; origin = refl; addresses = refl }

below_end : (k : ℕ) (rest : List ℕ) → IsBelow k false (codes "NNNN\n" ++ rest) [] (parts_of (lines_from (k + 1) false (pieces rest)))
below_end k rest = record {
  quiet = λ n d. subst IsQuiet (sym (end_line n d rest)) (quiet_end n d (lines_from (n + 1) false (pieces rest)));
  divided = ap parts_of (end_line k false rest);
}

read_from : (n : ℕ) (messages : List MessageValue) → AllByRecursion IsMail messages
    → texts_of (cut_parts (parts_of (lines_from n false (pieces (mail_file messages))))) ≡ mail_texts n messages
read_from n [] h = refl
read_from n (m ∷ messages) h =
    let rest = mail_file messages in
    let k = n + length (canonical_parts m) in
    ap (λ (x : List ℕ). texts_of (cut_parts (parts_of (lines_from n false (pieces x))))) (append_assoc (canonical m) (codes "NNNN\n") rest)
    ∙ message_text m n (codes "NNNN\n" ++ rest) None (parts_of (lines_from (k + 1) false (pieces rest))) (mail_texts (k + 1) messages) h.0 (below_end k rest)
    (read_from (k + 1) messages h.1)

-- ---- the texts of messages, an empty line before each but the first

abbrev later_texts : List MessageValue → List ℕ
later_texts messages = flat_map (λ m. (10 ∷ []) ++ canonical m) messages

-- What is below a message: an empty line, and the texts of later messages.
later_read : (k : ℕ) (messages : List MessageValue) → AllByRecursion IsMail messages
    → (parts : List (List MailLine)) × IsBelow k false (later_texts messages) (blank_line (Some k)) parts × (texts_of (cut_parts parts) ≡ mail_texts (k + 1) messages)
later_read k [] h = ([], record { quiet = λ n d. record { message = refl; origin = refl; addresses = refl }; divided = refl }, refl)
later_read k (m ∷ messages) h =
    let end = k + 1 + length (canonical_parts m) in
    let (parts, is, are) = later_read end messages h.1 in (
      (marked (k + 1) false (canonical_parts m) ++ blank_line (Some end)) ∷ parts,
      record {
        quiet = λ n d. record { message = refl; origin = refl; addresses = refl };
        divided = ap (onto_first (mail_line k false [])) (message_parts m (k + 1) (later_texts messages) (blank_line (Some end)) parts h.0 is);
      },
      own_text m (k + 1) (Some end) parts (mail_texts (end + 1) messages) h.0 are,
    )

pub joined_texts_read : JoinedTextsRead
joined_texts_read [] h = refl
joined_texts_read (m ∷ messages) h =
    let end = 1 + length (canonical_parts m) in
    let (parts, is, are) = later_read end messages h.1 in
    message_text m 1 (later_texts messages) (Some end) parts (mail_texts (end + 1) messages) h.0 is are

pub mailboxes_read : MailboxesRead
mailboxes_read messages h = read_from 1 messages h

-- the messages are headed, so that they have no free text
pub sent_are_mail : SentAreMail
sent_are_mail h g subs [] send = tt
sent_are_mail h g subs (m ∷ messages) send =
    let first = send.0 in
    let none = ap (λ (x : MessageValue). list_all is_plain x.free) first.own in (
      record { text = first.text; free = none },
      sent_are_mail h (g + 1) (drop (length m.subs) subs) messages send.1,
    )
