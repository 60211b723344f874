-- What a desk makes of the mail of a publication.
use Rattle.std.specs.Prelude.{◌≡◌, ◌≢◌, ℕ, List, [], ◌∷◌}
use Rattle.std.specs.List.{AllByRecursion}
use Rattle.ssim_text.specs.declared.reference.Reference.{Reference}
use Rattle.ssim_mailbox.specs.Texts.{MailText, texts_in}
use Rattle.ssim_held.specs.Entries.{AreEntries, DeskSeen, map_of, state_of}
use Rattle.ssim_held.specs.declared.fault.DeskFault.TheVariants.{Memory}
use Rattle.ssim_desk.specs.Desk.{timetable_of}
use Rattle.ssim_desk.specs.Steps.{Takes}
use Rattle.ssim_desk.specs.declared.steps.Answer.{Answer}
use Rattle.ssim_desk.specs.declared.steps.Answer.TheVariants.{Refused, Taken}
use Rattle.ssim_outbox.specs.Publication.{Publishes}

-- the result of taking a text, and the desk afterwards, which has the same base, and its messages in
-- order of reference
pub record TakesOne (before : DeskSeen) (text : List ℕ) (answer : Answer)
    (after : DeskSeen) : Type 0 where
  pub base : after.base ≡ before.base
  pub entries : AreEntries after.base.records after.held
  pub takes : Takes (state_of before) text answer (map_of after.held)

-- the results of taking texts one after another, and the desk after all of them
abbrev pub TakesEach : DeskSeen → List MailText → List Answer → DeskSeen → Type 0
TakesEach before [] answers after = (answers ≡ []) × (after ≡ before)
TakesEach before (text ∷ texts) [] after = ⊥
TakesEach before (text ∷ texts) (answer ∷ answers) after =
    (between : DeskSeen) × TakesOne before text.bytes answer between
    × TakesEach between texts answers after

-- memory did not run out for a text
abbrev pub HadMemory : Answer → Type 0
HadMemory answer = answer ≢ Refused Memory

-- the message of a text was new
abbrev pub IsTaken : Answer → Type 0
IsTaken answer = (reference : Reference) × (answer ≡ Taken reference)

-- The texts of a publication were received: the message of each was new, and the desk holds what
-- `after` of the publication holds, over the same base. So it has on each date what `after` has.
pub record AreReceived {from to : DeskSeen} {word lines mail : List ℕ}
    (published : Publishes from to word lines mail) (answers : List Answer)
    (desk : DeskSeen) : Type 0 where
  pub taken : AllByRecursion IsTaken answers
  pub base : desk.base ≡ published.after.base
  pub held : desk.held ≡ published.after.held
  pub timetable : timetable_of desk ≡ timetable_of published.after

-- What is published is received. A desk with the base and the messages of `from` takes the texts
-- that a mailbox has in the mail. If memory runs out for none of them, they are received.
abbrev pub PublishedIsReceived : Type 0
PublishedIsReceived =
    (from to : DeskSeen) (word lines mail : List ℕ) (published : Publishes from to word lines mail)
    (before after : DeskSeen) (answers : List Answer)
    → before.base ≡ from.base → before.held ≡ from.held
    → AreEntries from.base.records from.held
    → TakesEach before (texts_in mail) answers after → AllByRecursion HadMemory answers
    → AreReceived published answers after
