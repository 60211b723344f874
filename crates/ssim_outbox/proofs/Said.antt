-- An action of a text: the grammar allows it, and the lines of the text spell each of its parts.
use Rattle.std.proofs.Common.{◌≡◌, ◌<◌, ℕ, List, [], ◌∷◌, ◌++◌, map, length, subst}
use Rattle.std.specs.Prelude.{slice_index_or}
use Rattle.std.specs.List.{AllByRecursion, AllZip}
use Rattle.std.proofs.lemmas.List.Elements.{All-from_recursion}
use Rattle.ssim_text.specs.Grammar.{IsBody, IsEquipment, IsLegLine, IsNewLegs, IsSpelled, IsSub}
use Rattle.ssim_text.specs.Grammar.{LegPart, Part, SegmentPart, Spells}
use Rattle.ssim_text.specs.Grammar.{body_parts, flight_parts, free_parts, later_parts, sub_parts}
use Rattle.ssim_text.specs.Grammar.{new_parts, subs_parts}
use Rattle.ssim_text.specs.Left.{lines_left, pieces, texts}
use Rattle.ssim_text.specs.declared.action.Action.{Action}
use Rattle.ssim_text.specs.declared.action.Action.TheVariants.{New, Cnl, Rpl, Eqt, Tim}
use Rattle.ssim_text.specs.declared.action.NewLegs.{NewLegs}
use Rattle.ssim_text.specs.declared.action.Sub.{Sub}
use Rattle.ssim_text.proofs.LinesKept.{IsLine, left_lines}
use Rattle.ssim_text.proofs.ReadsBack.{all_left, all_right}
use Rattle.ssim_outbox.specs.Reach.{IsSaid}
use Rattle.ssim_outbox.specs.Sayable.{AreNewLegs}

-- an action that a sub-message can have
abbrev pub CanAct : Action → Type 0
CanAct (New new) = AreNewLegs new
CanAct Cnl = Unit {0}
CanAct (Rpl new) = AreNewLegs new
CanAct (Eqt equipment) = IsEquipment equipment
CanAct (Tim lines) = AllByRecursion IsLegLine lines

-- ---- each part of a text

parts_spelled : (parts : List Part) (lines : List (List ℕ)) → AllZip Spells parts lines
    → AllByRecursion IsLine lines → AllByRecursion IsSpelled parts
parts_spelled [] [] h l = tt
parts_spelled [] (line ∷ lines) h l = absurd h
parts_spelled (part ∷ parts) [] h l = absurd h
parts_spelled (part ∷ parts) (line ∷ lines) h l = (
  record { line = line; is_line = l.0; spells = h.0 },
  parts_spelled parts lines h.1 l.1,
)

-- ---- the parts of a sub-message

all_of : {X : Type 0} (f : X → Part) (xs : List X) → AllByRecursion IsSpelled (map f xs)
    → AllByRecursion (λ x. IsSpelled (f x)) xs
all_of f [] h = tt
all_of f (x ∷ xs) h = (h.0, all_of f xs h.1)

-- what holds of all parts of sub-messages holds of the parts of each after its flight and its dates
module _ (P : Part → Type 0) where
  abbrev HasBody : Sub → Type 0
  HasBody sub = AllByRecursion P (body_parts sub.action)

  body_of : (sub : Sub) → AllByRecursion P (sub_parts sub) → HasBody sub
  body_of sub h = all_right P (flight_parts sub.designator sub.dates) (body_parts sub.action) h.1

  later_bodies : (subs : List Sub) → AllByRecursion P (later_parts subs)
      → AllByRecursion HasBody subs
  later_bodies [] h = tt
  later_bodies (sub ∷ subs) h = (
    body_of sub (all_left P (sub_parts sub) (later_parts subs) h.1),
    later_bodies subs (all_right P (sub_parts sub) (later_parts subs) h.1),
  )

  bodies : (subs : List Sub) → AllByRecursion P (subs_parts subs) → AllByRecursion HasBody subs
  bodies [] h = tt
  bodies (sub ∷ subs) h = (
    body_of sub (all_left P (sub_parts sub) (later_parts subs) h),
    later_bodies subs (all_right P (sub_parts sub) (later_parts subs) h),
  )

-- ---- the action

can_make : (new : NewLegs) → IsNewLegs new → AllByRecursion IsSpelled (new_parts new)
    → AreNewLegs new
can_make new allowed h =
    let legs = map LegPart new.legs in
    let segments = map SegmentPart new.segments in
    record {
      allowed = allowed;
      equipment = h.0;
      legs = all_of LegPart new.legs (all_left IsSpelled legs segments h.1);
      segments = all_of SegmentPart new.segments (all_right IsSpelled legs segments h.1);
    }

can_act : (action : Action) → IsBody action → AllByRecursion IsSpelled (body_parts action)
    → CanAct action
can_act (New new) body h = can_make new body h
can_act Cnl body h = tt
can_act (Rpl new) body h = can_make new body h
can_act (Eqt equipment) body h = h.0
can_act (Tim lines) body h = all_of LegPart lines h

-- an element of which something holds
element : {X : Type 0} (P : X → Type 0) (xs : List X) (x : X) (k : ℕ) → k < length xs
    → slice_index_or xs k x ≡ x → AllByRecursion P xs → P x
element P xs x k within is h = subst P is (All-from_recursion P xs h k x within)

-- the grammar allows the action, and lines spell its parts
pub record IsKnown (action : Action) : Type 0 where
  pub allowed : IsBody action
  pub can : CanAct action

pub known : (action : Action) → IsSaid action → IsKnown action
known action said =
    let m = said.message in
    let text = said.spelled.spelled in
    let lines = left_lines 1 (pieces said.text) said.spelled.printable in
    let parts = parts_spelled text.parts (texts (lines_left said.text)) text.spelled lines in
    let whole = subst (AllByRecursion IsSpelled) text.has_parts.whole parts in
    let rest = all_right IsSpelled text.has_parts.heading (subs_parts m.subs ++ free_parts m.free)
    whole in
    let subs = bodies IsSpelled m.subs
    (all_left IsSpelled (subs_parts m.subs) (free_parts m.free) rest) in
    let c = said.contained in
    let body = element (HasBody IsSpelled) m.subs said.sub c.0 c.1 c.2 subs in
    let allowed = element (IsSub m.kind) m.subs said.sub c.0 c.1 c.2 text.shape.subs in
    subst IsKnown said.action_is
    (record { allowed = allowed.body; can = can_act said.sub.action allowed.body body })

pub said_can_act : (action : Action) → IsSaid action → CanAct action
said_can_act action said = (known action said).can
