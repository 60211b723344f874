-- Laws of merging, and what determines the result of a step.
use Rattle.std.specs.Prelude.{◌≡◌, ◌≢◌, List, ℕ}
use Rattle.ssim_held.specs.Held.{Agree, DeskState, HeldMessages, union}
use Rattle.ssim_held.specs.declared.fault.DeskFault.TheVariants.{Memory}
use Rattle.ssim_desk.specs.Steps.{Merges, Takes}
use Rattle.ssim_desk.specs.declared.steps.Answer.{Answer}
use Rattle.ssim_desk.specs.declared.steps.Answer.TheVariants.{Merged, Refused}

-- (a with b) with c holds what a with (b with c) holds
abbrev pub MergesAssociate : Type 0
MergesAssociate = (a b c : HeldMessages) → union (union a b) c ≡ union a (union b c)

-- a with b holds what b with a holds, if the two agree
abbrev pub MergesCommute : Type 0
MergesCommute = (a b : HeldMessages) → Agree a b → union a b ≡ union b a

-- a with itself holds what it held
abbrev pub MergesRepeat : Type 0
MergesRepeat = (a : HeldMessages) → union a a ≡ a

-- the desk after a merge with another
abbrev pub merged : DeskState → DeskState → DeskState
merged mine theirs = record mine { held = union mine.held theirs.held }

-- unless memory is refused, the merge returns Merged and leaves this desk
abbrev pub IsMergedTo : DeskState → DeskState → DeskState → Type 0
IsMergedTo mine theirs after =
    (answer : Answer) (held : HeldMessages) → Merges mine theirs answer held
    → answer ≢ Refused Memory
    → (answer ≡ Merged) × (record mine { held = held } ≡ after)

-- three desks over one base, of which no two hold different messages under one reference
pub record AreMergeable (a b c : DeskState) : Type 0 where
  pub base_of_b : a.base ≡ b.base
  pub base_of_c : a.base ≡ c.base
  pub a_and_b : Agree a.held b.held
  pub a_and_c : Agree a.held c.held
  pub b_and_c : Agree b.held c.held

-- none of their six merges is refused, and the order, the grouping and the repeats make no
-- difference
pub record MergeFreely (a b c : DeskState) : Type 0 where
  pub a_b : IsMergedTo a b (merged a b)
  pub b_a : IsMergedTo b a (merged a b)
  pub a_a : IsMergedTo a a a
  pub b_c : IsMergedTo b c (merged b c)
  pub ab_c : IsMergedTo (merged a b) c (merged (merged a b) c)
  pub a_bc : IsMergedTo a (merged b c) (merged (merged a b) c)

-- three desks whose messages agree are merged with one result in any order and grouping
abbrev pub ThreeDesksMerge : Type 0
ThreeDesksMerge = (a b c : DeskState) → AreMergeable a b c → MergeFreely a b c

-- Unless memory is refused, the desk and the text determine the result of `take` and the messages
-- held afterwards.
abbrev pub TakesAreDetermined : Type 0
TakesAreDetermined =
    (desk : DeskState) (text : List ℕ) (answer other : Answer) (held others : HeldMessages)
    → Takes desk text answer held → Takes desk text other others
    → answer ≢ Refused Memory → other ≢ Refused Memory → (answer ≡ other) × (held ≡ others)

-- Unless memory is refused, two desks determine the result of merging them and the messages held
-- afterwards.
abbrev pub MergesAreDetermined : Type 0
MergesAreDetermined =
    (mine theirs : DeskState) (answer other : Answer) (held others : HeldMessages)
    → Merges mine theirs answer held → Merges mine theirs other others
    → answer ≢ Refused Memory → other ≢ Refused Memory → (answer ≡ other) × (held ≡ others)
