-- What texts and merges do to desks, and what they return. Each of them may run out of memory,
-- which changes nothing.
use Rattle.std.specs.Prelude.{◌≡◌, ◌≢◌, ℕ, ◌<◌, ◌==◌, Bool, true, false, List, [], ◌∷◌, None}
use Rattle.std.specs.Prelude.{slice_index_or, slice_set}
use Rattle.std.specs.FinMap.{get, insert}
use Rattle.ssim_base.specs.{Resolve.IsRefusedIn, declared.resolution.ResolveFault.ResolveFault}
use Rattle.ssim_text.specs.Decoder.{IsRefusal, NoMessage}
use Rattle.ssim_text.specs.Message.{MessageValue}
use Rattle.ssim_text.specs.Spelling.{SpellsMessage}
use Rattle.ssim_text.specs.declared.fault.TextFault.{TextFault}
use Rattle.ssim_text.specs.declared.reference.Reference.{Reference}
use Rattle.ssim_held.specs.Held.{Agree, DeskState, HeldMessages, Holds, IsLeastConflict, Says, no_desk, union}
use Rattle.ssim_held.specs.declared.fault.DeskFault.{DeskFault}
use Rattle.ssim_held.specs.declared.fault.DeskFault.TheVariants.{Memory, Text, Resolve, Conflict, OtherBase}
use Rattle.ssim_desk.specs.declared.steps.Answer.{Answer}
use Rattle.ssim_desk.specs.declared.steps.Answer.TheVariants.{Taken, Repeated, Merged, Refused}
use Rattle.ssim_desk.specs.{declared.steps.Step.Step, declared.steps.Step.TheVariants.{Take, Merge}}
use Rattle.ssim_base.specs.declared.resolution.ResolveFault.TheVariants as resolve_fault
use Rattle.ssim_text.specs.declared.fault.TextFault.TheVariants as text_fault

-- ---- a text

-- the text spells no message, for the reason that the fault names
abbrev pub IsUnspelt : List ℕ → TextFault → Type 0
IsUnspelt text text_fault.Memory = ⊥
IsUnspelt text (text_fault.Refused fault line) =
    NoMessage text (text_fault.Refused fault line) × IsRefusal text (text_fault.Refused fault line)

-- the message of the text does not resolve, for the reason that the fault names
pub record IsUnresolved (desk : DeskState) (text : List ℕ) (fault : ResolveFault) : Type 0 where
  pub message : MessageValue
  pub spelt : SpellsMessage message text
  pub refused : IsRefusedIn desk.base.records message fault
  pub of_message : fault ≢ resolve_fault.Memory

-- another message is held under the reference of the text's message
pub record IsInConflict (desk : DeskState) (text : List ℕ) (reference : Reference) : Type 0 where
  pub message : MessageValue
  pub says : Says desk.base text reference message
  pub other : MessageValue
  pub holds : Holds desk reference other
  pub apart : other ≢ message

-- the message of the text, which has this reference, is new to the desk, and is held afterwards
pub record IsNew (desk : DeskState) (text : List ℕ) (reference : Reference)
    (held : HeldMessages) : Type 0 where
  pub message : MessageValue
  pub says : Says desk.base text reference message
  pub absent : get desk.held reference ≡ None
  pub added : held ≡ insert desk.held reference message

-- the desk holds the message of the text, which has this reference, already
pub record IsKnown (desk : DeskState) (text : List ℕ) (reference : Reference) : Type 0 where
  pub message : MessageValue
  pub says : Says desk.base text reference message
  pub holds : Holds desk reference message

-- why a desk refuses a text
abbrev pub RefusesText : DeskState → List ℕ → DeskFault → Type 0
RefusesText desk text Memory = Unit {0}
RefusesText desk text (Text fault) = IsUnspelt text fault
RefusesText desk text (Resolve fault) = IsUnresolved desk text fault
RefusesText desk text (Conflict reference) = IsInConflict desk text reference
RefusesText _ _ _ = ⊥

-- the result of taking a text, and the messages held afterwards
abbrev pub Takes : DeskState → List ℕ → Answer → HeldMessages → Type 0
Takes desk text (Taken reference) held = IsNew desk text reference held
Takes desk text (Repeated reference) held = IsKnown desk text reference × (held ≡ desk.held)
Takes desk text (Refused fault) held = RefusesText desk text fault × (held ≡ desk.held)
Takes _ _ Merged _ = ⊥

-- ---- another desk

-- why a desk is not merged with another
abbrev pub RefusesDesk : DeskState → DeskState → DeskFault → Type 0
RefusesDesk mine theirs Memory = Unit {0}
RefusesDesk mine theirs OtherBase = mine.base ≢ theirs.base
RefusesDesk mine theirs (Conflict reference) =
    (mine.base ≡ theirs.base) × IsLeastConflict mine.held theirs.held reference
RefusesDesk _ _ _ = ⊥

-- both desks have one base and no reference has two messages, and the messages of both are held
-- afterwards
pub record IsUnion (mine theirs : DeskState) (held : HeldMessages) : Type 0 where
  pub base : mine.base ≡ theirs.base
  pub agree : Agree mine.held theirs.held
  pub all : held ≡ union mine.held theirs.held

-- the result of merging another desk, and the messages held afterwards
abbrev pub Merges : DeskState → DeskState → Answer → HeldMessages → Type 0
Merges mine theirs Merged held = IsUnion mine theirs held
Merges mine theirs (Refused fault) held = RefusesDesk mine theirs fault × (held ≡ mine.held)
Merges _ _ _ _ = ⊥

-- ---- steps

-- the desk with this number
abbrev pub desk_at : List DeskState → ℕ → DeskState
desk_at desks i = slice_index_or desks i no_desk

-- the desks after desk i holds these messages
abbrev pub with_held : List DeskState → ℕ → HeldMessages → List DeskState
with_held desks i held =
    let desk = desk_at desks i in slice_set desks i (record desk { held = held })

-- the desks that a step names exist
abbrev pub IsInRange : ℕ → Step → Type 0
IsInRange count (Take i text) = i < count
IsInRange count (Merge into from) = (into < count) × (from < count)

-- a step takes a text to a desk
pub record TakesAt (desks : List DeskState) (i : ℕ) (text : List ℕ) (answer : Answer)
    (after : List DeskState) : Type 0 where
  pub held : HeldMessages
  pub takes : Takes (desk_at desks i) text answer held
  pub put : after ≡ with_held desks i held

-- a step merges one desk into another
pub record MergesAt (desks : List DeskState) (into from : ℕ) (answer : Answer)
    (after : List DeskState) : Type 0 where
  pub held : HeldMessages
  pub merges : Merges (desk_at desks into) (desk_at desks from) answer held
  pub put : after ≡ with_held desks into held

-- merging a desk with itself changes nothing; merging it with another desk is a merge of two
abbrev pub MergesOne : Bool → List DeskState → ℕ → ℕ → Answer → List DeskState → Type 0
MergesOne true desks into from answer after = (answer ≡ Merged) × (after ≡ desks)
MergesOne false desks into from answer after = MergesAt desks into from answer after

-- the result of one step, and the desks after it
abbrev pub Acts : List DeskState → Step → Answer → List DeskState → Type 0
Acts desks (Take i text) answer after = TakesAt desks i text.items answer after
Acts desks (Merge into from) answer after = MergesOne (into == from) desks into from answer after

-- the results of some steps, and the desks after all of them
abbrev pub Runs : List DeskState → List Step → List Answer → List DeskState → Type 0
Runs desks [] [] after = after ≡ desks
Runs desks (step ∷ steps) (answer ∷ answers) after =
    (between : List DeskState) × Acts desks step answer between × Runs between steps answers after
Runs _ _ _ _ = ⊥
