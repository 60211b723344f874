-- If references are kept apart, no step is refused as a conflict: all that a desk holds or is
-- offered was held at the start or offered.
use Rattle.std.proofs.Common.{◌≡◌, ◌≢◌, ◌⊎◌, inl, inr, ℕ, ◌<◌, ◌==◌, Bool, true, false, List, length, Some, refl, sym, ap, subst, ◌∙◌}
use Rattle.std.specs.List.{slice_get}
use Rattle.std.specs.declared.alloc.Global.{Global}
use Rattle.std.specs.declared.vec.Vec.{Vec}
use Rattle.ssim_base.specs.BaseSeen.{BaseSeen}
use Rattle.ssim_base.specs.Resolve.{HasOneOutcome, IsRefusedIn}
use Rattle.ssim_text.specs.Grammar.{OneMessage}
use Rattle.ssim_text.specs.Message.{MessageValue}
use Rattle.ssim_text.specs.declared.fault.TextFault.{TextFault}
use Rattle.ssim_text.specs.declared.fault.TextFault.TheVariants as text_fault
use Rattle.ssim_text.specs.declared.reference.Reference.{Reference}
use Rattle.ssim_held.specs.Held.{DeskState, HeldMessages, Holds, Says}
use Rattle.ssim_held.specs.declared.fault.DeskFault.TheVariants.{Memory, Text, Resolve, Conflict, OtherBase, Read, File}
use Rattle.ssim_desk.specs.Agreement.{AreApart, IsThere, NoConflict, OfferedIsReached}
use Rattle.ssim_desk.specs.Deliveries.{Brings, by_text, from_start, from_step, is_accepted}
use Rattle.ssim_desk.specs.Steps.{Acts, IsInRange, IsUnspelt, MergesOne, Takes, desk_at}
use Rattle.ssim_desk.specs.declared.steps.Answer.{Answer}
use Rattle.ssim_desk.specs.declared.steps.Answer.TheVariants.{Taken, Repeated, Merged, Refused}
use Rattle.ssim_desk.specs.declared.steps.Step.{Step}
use Rattle.ssim_desk.specs.declared.steps.Step.TheVariants.{Take, Merge}
use Rattle.ssim_desk.proofs.Moments.{Before, at_step}
use Rattle.ssim_desk.proofs.Reaching.{SoFar}
use Rattle.ssim_desk.proofs.Refusing.{resolves_or_not}

-- what reached a desk was held at the start or offered
brought_is_there : (start : List DeskState) (steps : List Step) (answers : List Answer) → {k d : ℕ} {r : Reference} {m : MessageValue} → Brings start steps answers k d r m → IsThere start steps r m
brought_is_there start steps answers (by_text {k = k} {d = d} text answer is accepted says) = inr (k, d, text, is.0, says)
brought_is_there start steps answers (from_start from is held) = inl (from, held)
brought_is_there start steps answers (from_step from j is lt b) = brought_is_there start steps answers b

-- all that a desk holds was held at the start or offered
held_is_there : (start now : List DeskState) (steps : List Step) (answers : List Answer) (n : ℕ) → SoFar start now (Before start steps answers n)
    → (d : ℕ) → d < length start → (r : Reference) (m : MessageValue) → Holds (desk_at now d) r m → IsThere start steps r m
held_is_there start now steps answers n far d lt r m h = by ((far.holds d r m lt).0 h)
  where
    by : Holds (desk_at start d) r m ⊎ Before start steps answers n d r m → IsThere start steps r m
    by (inl held) = inl (d, held)
    by (inr before) = brought_is_there start steps answers before.2

module _ (start now : List DeskState) (steps : List Step) (answers : List Answer) (n : ℕ) (far : SoFar start now (Before start steps answers n)) (apart : AreApart start steps) where
  says_there : (k i : ℕ) (text : Vec ℕ Global) → slice_get steps k ≡ Some (Take i text) → (r : Reference) (m : MessageValue) → (let x = desk_at now i in Says x.base text.items r m) → IsThere start steps r m
  says_there k i text is r m says = inr (k, i, text, is, subst (λ base. Says base text.items r m) (far.base i) says)

  -- no step is in conflict
  no_clash : (k : ℕ) (step : Step) (r : Reference) (next : List DeskState) → slice_get steps k ≡ Some step → IsInRange (length start) step → Acts now step (Refused (Conflict r)) next → ⊥
  no_clash k (Take i text) r next is lt acts =
      let clash = acts.takes.0 in
      clash.apart (apart r clash.other clash.message (held_is_there start now steps answers n far i lt r clash.other clash.holds) (says_there k i text is r clash.message clash.says))
  no_clash k (Merge into from) r next is lt acts = by (into == from) acts
    where
      by : (same : Bool) → MergesOne same now into from (Refused (Conflict r)) next → ⊥
      by true merges = let never : Refused (Conflict r) ≡ Merged = merges.0 in absurd cc
      by false merges =
          let differ = merges.merges.0.1.differ in
          differ.apart (apart r differ.one differ.other (held_is_there start now steps answers n far into lt.0 r differ.one differ.in_one) (held_is_there start now steps answers n far from lt.1 r differ.other differ.in_other))

pub no_conflict : OneMessage → NoConflict
no_conflict one run apart k step r is =
    let moment = at_step one run.start run.after run.steps run.answers run.in_range run.runs k step (Refused (Conflict r)) is in
    no_clash run.start moment.now run.steps run.answers moment.n moment.so_far apart k step r moment.next is.0 moment.in_range moment.acts

-- ---- each text

spells_none : (base : BaseSeen) (text : List ℕ) (fault : TextFault) (r : Reference) (m : MessageValue) → Says base text r m → IsUnspelt text fault → ⊥
spells_none base text text_fault.Memory r m says un = un
spells_none base text (text_fault.Refused fault line) r m says un = un.0 m says.spelt

-- a text that says a message is accepted, unless it is in conflict or memory is refused
taken_or_not : OneMessage → HasOneOutcome → (desk : DeskState) (text : List ℕ) (answer : Answer) (held : HeldMessages) (r : Reference) (m : MessageValue) → Says desk.base text r m → Takes desk text answer held
    → answer ≢ Refused Memory → ((q : Reference) → answer ≡ Refused (Conflict q) → ⊥) → is_accepted answer ≡ true
taken_or_not one outcome desk text (Taken reference) held r m says takes memory clash = refl
taken_or_not one outcome desk text (Repeated reference) held r m says takes memory clash = refl
taken_or_not one outcome desk text Merged held r m says takes memory clash = absurd takes
taken_or_not one outcome desk text (Refused Memory) held r m says takes memory clash = absurd (memory refl)
taken_or_not one outcome desk text (Refused (Text fault)) held r m says takes memory clash = absurd (spells_none desk.base text fault r m says takes.0)
taken_or_not one outcome desk text (Refused (Resolve fault)) held r m says takes memory clash =
    let un = takes.0 in
    let same : un.message ≡ m = one un.message m _ un.spelt.spelled says.spelt.spelled in
    absurd (resolves_or_not outcome desk.base.records m says.resolved fault says.resolves (subst (λ x. IsRefusedIn desk.base.records x fault) same un.refused) un.of_message)
taken_or_not one outcome desk text (Refused (Conflict q)) held r m says takes memory clash = absurd (clash q refl)
taken_or_not one outcome desk text (Refused OtherBase) held r m says takes memory clash = absurd takes.0
taken_or_not one outcome desk text (Refused (Read fault)) held r m says takes memory clash = absurd takes.0
taken_or_not one outcome desk text (Refused (File offset)) held r m says takes memory clash = absurd takes.0

pub offered_is_reached : OneMessage → HasOneOutcome → OfferedIsReached
offered_is_reached one outcome run apart k d text answer r m is memory says =
    let moment = at_step one run.start run.after run.steps run.answers run.in_range run.runs k (Take d text) answer is in
    let said = subst (λ base. Says base text.items r m) (sym (moment.so_far.base d)) says in (
      k,
      by_text text answer is
          (taken_or_not one outcome (desk_at moment.now d) text.items answer moment.acts.held r m said moment.acts.takes memory
          (λ q e. no_conflict one run apart k (Take d text) q (is.0, is.1 ∙ ap Some e)))
          says,
    )
