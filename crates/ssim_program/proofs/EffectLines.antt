-- The effects that are printed keep no file, and say nothing by the status: of those that are asked for
-- and of those that are not.
use Rattle.std.proofs.Common.{◌≡◌, ◌∙◌, ◌++◌, ◌&&◌, ℕ, Bool, true, false, if◌then◌else◌, List, [], None, Some, Vec, append-nil, ap, refl, sym}
use Rattle.std.specs.Prelude.{not}
use Rattle.std.specs.BTreeSet.{BTreeSet}
use Rattle.std.specs.List.{flat_map}
use Rattle.ssim_held.specs.Entries.{DeskSeen}
use Rattle.ssim_program.specs.Acts.{Act, finds, is_whole, kept_by}
use Rattle.ssim_desk.specs.declared.finding_line.FindingLine.{FindingLine}
use Rattle.ssim_program.specs.internal.Effects.{HasFailing, IsAsked, IsBefore, is_in, line_unless}
use Rattle.ssim_program.specs.declared.effects.Before.{Before}
use Rattle.ssim_program.specs.print.Effects.{effects, effects_then, finding_line, new_line, with_effects}
use Rattle.ssim_program.specs.print.Shown.{fails}

module _ (before after : DeskSeen) (acts : List Act) where
  pub then_kept : (effects : Bool) → kept_by (effects_then effects before after acts) ≡ kept_by acts
  then_kept false = refl
  then_kept true = refl

  pub then_finds : (effects : Bool) → finds (effects_then effects before after acts) ≡ finds acts
  then_finds false = refl
  then_finds true = refl

  pub then_whole : (effects : Bool)
      → is_whole (effects_then effects before after acts) ≡ is_whole acts
  then_whole false = refl
  then_whole true = refl

-- ---- what is kept of a desk before

-- the effects are not asked for, and nothing is added
pub not_asked : (asked : Bool) (first after : DeskSeen) (lines : List ℕ) → IsAsked asked first None
    → lines ≡ with_effects asked first after lines
not_asked false first after lines is = refl
not_asked true first after lines is = absurd is

-- the effects are asked for, and they are added
pub asked_for : (asked : Bool) (first after : DeskSeen) (before : Before) (lines new : List ℕ)
    → IsAsked asked first (Some before)
    → (IsBefore first before → new ≡ lines ++ effects first after)
    → new ≡ with_effects asked first after lines
asked_for false first after before lines new is more = absurd is
asked_for true first after before lines new is more = more is

-- a line that is in no set is in no list of lines that fail
pub same_lines : {A : Type 0} (set : BTreeSet (Vec ℕ A)) (old found : List FindingLine)
    → HasFailing set old → flat_map (line_unless set) found ≡ flat_map (new_line old) found
same_lines set old found has = λ i. flat_map (λ f.
    if fails f.finding && not (has (finding_line f) i) then finding_line f else []) found

-- ---- the line of one sub-message

module _ {A : Type 0} (set : BTreeSet (Vec ℕ A)) (found : FindingLine) where
  -- one that does not fail has none
  pub none_acting : fails found.finding ≡ false → line_unless set found ≡ []
  none_acting acts = λ i. if acts i && not (is_in set (finding_line found)) then finding_line found else []

  -- one whose line is in the set has none
  pub none_known : is_in set (finding_line found) ≡ true → line_unless set found ≡ []
  none_known known =
      ap (λ (b : Bool). if fails found.finding && not b then finding_line found else []) known
      ∙ by (fails found.finding)
    where
      by : (b : Bool) → (if b && false then finding_line found else []) ≡ []
      by true = refl
      by false = refl

  -- any other one has its line
  pub one_new : fails found.finding ≡ true → is_in set (finding_line found) ≡ false
      → line_unless set found ≡ finding_line found
  one_new failed new = λ i. if failed i && not (new i) then finding_line found else []

-- nothing is added
pub nothing_more : (lines more : List ℕ) → more ≡ [] → lines ≡ lines ++ more
nothing_more lines more is = sym (ap (λ (xs : List ℕ). lines ++ xs) is ∙ append-nil lines)
