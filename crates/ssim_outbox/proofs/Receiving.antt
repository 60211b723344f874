-- What is published is received: text by text, each of which resolves, and whose reference follows
-- all that the desk holds by then.
use Rattle.std.proofs.Common.{◌≡◌, ◌∙◌, ◌+◌, ℕ, List, [], ◌∷◌, ◌++◌, length, Ok, refl, sym, ap, subst}
use Rattle.std.proofs.Common.{append-nil, Some, None}
use Rattle.std.specs.FinMap.{get}
use Rattle.std.specs.List.{AllByRecursion}
use Rattle.ssim_base.specs.BaseSeen.{BaseSeen}
use Rattle.ssim_base.specs.Base.{airline_of}
use Rattle.ssim_base.specs.Resolve.{ResolvesIn}
use Rattle.ssim_base.specs.declared.resolution.ResolvedText.{ResolvedText}
use Rattle.ssim_text.specs.Canonical.{canonical, canonical_parts}
use Rattle.ssim_text.specs.Message.{MessageValue}
use Rattle.ssim_text.specs.Spelling.{SpellsMessage}
use Rattle.ssim_text.specs.declared.reference.Reference.{Reference}
use Rattle.ssim_mailbox.specs.Texts.{MailText, texts_in}
use Rattle.ssim_held.specs.Entries.{AreEntries, DeskSeen, Entry, map_of, state_of}
use Rattle.ssim_held.specs.Held.{HeldMessages}
use Rattle.ssim_held.specs.declared.fault.DeskFault.{DeskFault}
use Rattle.ssim_desk.specs.Meaning.{left_by}
use Rattle.ssim_desk.specs.Steps.{IsNew, Takes}
use Rattle.ssim_desk.specs.declared.desk.Took.TheVariants as took
use Rattle.ssim_desk.specs.declared.steps.Answer.{Answer}
use Rattle.ssim_desk.specs.declared.steps.Answer.TheVariants.{Merged, Refused, Repeated, Taken}
use Rattle.ssim_outbox.specs.Delivery.{AreAddressed, CanDeliver, entries_of}
use Rattle.ssim_outbox.specs.MailFile.{mail_texts}
use Rattle.ssim_outbox.specs.Order.{Follows}
use Rattle.ssim_outbox.specs.Publication.{dates_of_plan, subs_of_plan}
use Rattle.ssim_outbox.specs.Received.{HadMemory, IsTaken, PublishedIsReceived, TakesEach}
use Rattle.ssim_outbox.specs.internal.Delivery.{AreLeft}
use Rattle.ssim_outbox.proofs.Delivered.{can_resolve, one_less}
use Rattle.ssim_outbox.proofs.Delivering.{held_after, only_memory, taken}
use Rattle.ssim_outbox.proofs.MailTexts.{mailboxes_read, sent_are_mail}

-- a text was taken as new, under some reference
record IsTakenAs (desk : DeskSeen) (text : List ℕ) (answer : Answer) (held : HeldMessages) : Type 0 where
  reference : Reference
  answer_is : answer ≡ Taken reference
  is_new : IsNew (state_of desk) text reference held

-- the text of a message that resolves, and whose reference follows all that is held, is taken
taken_as : (desk : DeskSeen) (m : MessageValue) (text : List ℕ) (resolved : ResolvedText)
    → AreEntries desk.base.records desk.held → SpellsMessage m text
    → ResolvesIn desk.base.records m resolved → Follows resolved.reference desk.held
    → (answer : Answer) (held : HeldMessages) → HadMemory answer → Takes (state_of desk) text answer held
    → IsTakenAs desk text answer held
taken_as desk m text resolved entries spelt resolves follows (Taken r) held had h =
    record { reference = r; answer_is = refl; is_new = h }
taken_as desk m text resolved entries spelt resolves follows (Repeated r) held had h =
    let new = taken desk m text resolved entries spelt resolves follows (Ok (took.Repeated, r)) held h in
    let none : get (map_of desk.held) r ≡ None = new.absent in
    let some : get (map_of desk.held) r ≡ Some h.0.message = h.0.holds in
    absurd cc
taken_as desk m text resolved entries spelt resolves follows Merged held had h = absurd h
taken_as desk m text resolved entries spelt resolves follows (Refused f) held had h =
    absurd (had (ap (λ (x : DeskFault). Refused x)
    (only_memory desk m text resolved entries spelt resolves follows f h.0)))

-- what comes of the texts of messages that can be delivered
record Receives (answers : List Answer) (before after : DeskSeen) (all : List Entry) : Type 0 where
  taken : AllByRecursion IsTaken answers
  base : after.base ≡ before.base
  held : after.held ≡ all

received : (before after : DeskSeen) (h : MessageValue) (n : ℕ) (messages : List MessageValue)
    (all : List Entry) (answers : List Answer) → AreEntries before.base.records before.held
    → AreLeft before h messages all → TakesEach before (mail_texts n messages) answers after
    → AllByRecursion HadMemory answers → Receives answers before after all
received before after h n [] all answers entries left takes had = record {
  taken = subst (AllByRecursion IsTaken) (sym takes.0) tt;
  base = ap (λ (d : DeskSeen). d.base) takes.1;
  held = ap (λ (d : DeskSeen). d.held) takes.1 ∙ sym (append-nil before.held) ∙ left.all_is;
}
received before after h n (m ∷ messages) all [] entries left takes had = absurd takes
received before after h n (m ∷ messages) all (answer ∷ answers) entries left takes had =
    let between = takes.0 in
    let one = takes.1 in
    let spelt : SpellsMessage m (canonical m) = left.can.send.0.text in
    let taking : (text : ResolvedText) → ResolvesIn before.base.records m text
    → Follows text.reference before.held → IsTakenAs before (canonical m) answer (map_of between.held) =
    λ text resolves follows. taken_as before m (canonical m) text entries spelt resolves follows answer
    (map_of between.held) had.0 one.takes in
    let first = can_resolve before h (m ∷ messages) messages m all
    (IsTakenAs before (canonical m) answer (map_of between.held)) refl taking left in
    let later = received between after h (n + length (canonical_parts m) + 1) messages all answers one.entries
    (one_less before between h (m ∷ messages) messages m all refl one.base
    (λ text resolves follows.
    let new = taking text resolves follows in
    held_after before m (canonical m) text entries spelt resolves follows between new.reference one.base
    one.entries new.is_new) left)
    takes.2 had.1 in
    record {
      taken = ((first.reference, first.answer_is), later.taken);
      base = later.base ∙ one.base;
      held = later.held;
    }

pub published_is_received : PublishedIsReceived
published_is_received from to word lines mail published before after answers base held entries takes had =
    let p = published in
    let group = p.heading.reference.group in
    let subs = subs_of_plan (airline_of from.base.records) p.plan in
    let dates = dates_of_plan p.plan in
    let can : CanDeliver before p.heading group subs p.reference dates p.messages = record {
      send = p.can_deliver.send;
      addressed = subst (λ (b : BaseSeen). AreAddressed b.records p.heading group subs p.reference dates) (sym base)
          p.can_deliver.addressed;
      follows = subst (Follows p.reference) (sym held) p.can_deliver.follows;
    } in
    let left : AreLeft before p.heading p.messages p.after.held = record {
      group = group;
      subs = subs;
      reference = p.reference;
      dates = dates;
      can = can;
      all_is = ap (λ (es : List Entry). es ++ entries_of p.reference dates p.messages) held ∙ sym p.delivered.held;
    } in
    let texts : texts_in mail ≡ mail_texts 1 p.messages =
    ap texts_in p.mail_is
    ∙ mailboxes_read p.messages (sent_are_mail p.heading group subs p.messages p.can_deliver.send) in
    let all = received before after p.heading 1 p.messages p.after.held answers
    (subst (λ (b : BaseSeen). AreEntries b.records before.held) (sym base)
    (subst (AreEntries from.base.records) (sym held) entries))
    left (subst (λ (ts : List MailText). TakesEach before ts answers after) texts takes) had in
    let same_base : after.base ≡ p.after.base = all.base ∙ base ∙ sym p.delivered.base in
    record {
      taken = all.taken;
      base = same_base;
      held = all.held;
      timetable = λ i. left_by (same_base i) (all.held i);
    }
