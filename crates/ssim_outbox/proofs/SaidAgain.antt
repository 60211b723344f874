-- Equipment and times that are said again later: what was written first leaves no trace. Of any two
-- changes the second writes over the first, or the two can be made in either order.
use Rattle.std.proofs.Common.{◌≡◌, ◌⊎◌, ◌∙◌, ℕ, Bool, true, false, if◌then◌else◌, List, [], ◌∷◌}
use Rattle.std.proofs.Common.{◌++◌, map, length, refl, sym, ap, inl, inr}
use Rattle.std.specs.List.{AllByRecursion}
use Rattle.ssim_text.specs.Values.{EquipmentValue}
use Rattle.ssim_text.specs.declared.leg.LegLine.{LegLine}
use Rattle.ssim_base.specs.Timetable.{LegValue, Legs}
use Rattle.ssim_schedule.specs.Effect.{equipped, fits, retimed, with_line, with_lines}
use Rattle.ssim_schedule.specs.MessageColumns.{times_of}
use Rattle.ssim_outbox.specs.Sayable.{HaveColumns}
use Rattle.ssim_outbox.proofs.Columns.{times_twice}
use Rattle.ssim_outbox.proofs.OldLegs.{equipped_lines, equipped_long, equipped_twice, line_long}
use Rattle.ssim_outbox.proofs.Retimed.{fits_retimed}

-- ---- membership

-- x is an element of the list
abbrev pub IsIn : {X : Type 0} → List X → X → Type 0
IsIn [] x = ⊥
IsIn (y ∷ ys) x = (y ≡ x) ⊎ IsIn ys x

-- ---- the changes of an itinerary

-- what EQT and TIM write: the equipment of each leg, or the times of the first leg that fits
pub data Change : Type 0 where
  Equipment : EquipmentValue → Change
  Times : LegLine → Change

abbrev pub changed : Change → Legs → Legs
changed (Equipment e) legs = map (equipped e) legs
changed (Times line) legs = with_line line legs

abbrev pub changed_by_all : List Change → Legs → Legs
changed_by_all [] legs = legs
changed_by_all (change ∷ changes) legs = changed_by_all changes (changed change legs)

pub changed_by_both : (first later : List Change) (legs : Legs)
    → changed_by_all (first ++ later) legs ≡ changed_by_all later (changed_by_all first legs)
changed_by_both [] later legs = refl
changed_by_both (change ∷ first) later legs = changed_by_both first later (changed change legs)

pub changed_by_lines : (lines : List LegLine) (legs : Legs)
    → changed_by_all (map Times lines) legs ≡ with_lines lines legs
changed_by_lines [] legs = refl
changed_by_lines (line ∷ lines) legs = changed_by_lines lines (with_line line legs)

pub changed_long : (change : Change) (legs : Legs) → HaveColumns legs
    → HaveColumns (changed change legs)
changed_long (Equipment e) legs long = equipped_long e legs long
changed_long (Times line) legs long = line_long line legs long

-- ---- two lines of times

-- the leg with other columns
abbrev of_columns : LegValue → List ℕ → LegValue
of_columns leg columns = record leg { columns = columns }

retimed_twice : (line other : LegLine) (leg : LegValue) → length leg.columns ≡ 158
    → retimed line (retimed other leg) ≡ retimed line leg
retimed_twice line other leg len =
    ap (of_columns leg) (times_twice (times_of line) (times_of other) leg.columns len)

-- a line at a leg that it fits, and at one that it does not fit
at_first : (line : LegLine) (leg : LegValue) (legs : Legs) → fits line leg ≡ true
    → with_line line (leg ∷ legs) ≡ retimed line leg ∷ legs
at_first line leg legs e =
    ap (λ (b : Bool). if b then retimed line leg ∷ legs else leg ∷ with_line line legs) e

past_first : (line : LegLine) (leg : LegValue) (legs : Legs) → fits line leg ≡ false
    → with_line line (leg ∷ legs) ≡ leg ∷ with_line line legs
past_first line leg legs e =
    ap (λ (b : Bool). if b then retimed line leg ∷ legs else leg ∷ with_line line legs) e

line_twice : (line : LegLine) (legs : Legs) → HaveColumns legs
    → with_line line (with_line line legs) ≡ with_line line legs
line_twice line [] long = refl
line_twice line (leg ∷ legs) long = by (fits line leg) refl (line_twice line legs long.1)
  where
    by : (b : Bool) → fits line leg ≡ b → with_line line (with_line line legs) ≡ with_line line legs
        → with_line line (with_line line (leg ∷ legs)) ≡ with_line line (leg ∷ legs)
    by true e later =
        ap (with_line line) (at_first line leg legs e)
        ∙ at_first line (retimed line leg) legs (fits_retimed line line leg long.0 ∙ e)
        ∙ ap (λ (l : LegValue). l ∷ legs) (retimed_twice line line leg long.0)
        ∙ sym (at_first line leg legs e)
    by false e later =
        ap (with_line line) (past_first line leg legs e)
        ∙ past_first line leg (with_line line legs) e
        ∙ ap (λ (ls : Legs). leg ∷ ls) later
        ∙ sym (past_first line leg legs e)

-- the second line after the first leaves what it leaves alone, or what the two leave the other way
-- round
abbrev AreSettled : LegLine → LegLine → Legs → Type 0
AreSettled second first legs =
    (with_line second (with_line first legs) ≡ with_line second legs)
    ⊎ (with_line second (with_line first legs) ≡ with_line first (with_line second legs))

lines_settled : (second first : LegLine) (legs : Legs) → HaveColumns legs
    → AreSettled second first legs
lines_settled second first [] long = inl refl
lines_settled second first (leg ∷ legs) long =
    by (fits second leg) (fits first leg) refl refl (lines_settled second first legs long.1)
  where
    -- a line fits the leg with other times as before
    still : (line other : LegLine) (b : Bool) → fits line leg ≡ b
        → fits line (retimed other leg) ≡ b
    still line other b e = fits_retimed line other leg long.0 ∙ e

    by : (s f : Bool) → fits second leg ≡ s → fits first leg ≡ f → AreSettled second first legs
        → AreSettled second first (leg ∷ legs)
    by true true s f later =
        inl (ap (with_line second) (at_first first leg legs f)
        ∙ at_first second (retimed first leg) legs (still second first true s)
        ∙ ap (λ (l : LegValue). l ∷ legs) (retimed_twice second first leg long.0)
        ∙ sym (at_first second leg legs s))
    by true false s f later =
        inr (ap (with_line second) (past_first first leg legs f)
        ∙ at_first second leg (with_line first legs) s
        ∙ sym (ap (with_line first) (at_first second leg legs s)
        ∙ past_first first (retimed second leg) legs (still first second false f)))
    by false true s f later =
        inr (ap (with_line second) (at_first first leg legs f)
        ∙ past_first second (retimed first leg) legs (still second first false s)
        ∙ sym (ap (with_line first) (past_first second leg legs s)
        ∙ at_first first leg (with_line second legs) f))
    by false false s f (inl over) =
        inl (ap (with_line second) (past_first first leg legs f)
        ∙ past_first second leg (with_line first legs) s
        ∙ ap (λ (ls : Legs). leg ∷ ls) over
        ∙ sym (past_first second leg legs s))
    by false false s f (inr either) =
        inr (ap (with_line second) (past_first first leg legs f)
        ∙ past_first second leg (with_line first legs) s
        ∙ ap (λ (ls : Legs). leg ∷ ls) either
        ∙ sym (ap (with_line first) (past_first second leg legs s)
        ∙ past_first first leg (with_line second legs) f))

-- ---- any two changes

twice : (change : Change) (legs : Legs) → HaveColumns legs
    → changed change (changed change legs) ≡ changed change legs
twice (Equipment e) legs long = equipped_twice e e legs long
twice (Times line) legs long = line_twice line legs long

settled : (second first : Change) (legs : Legs) → HaveColumns legs
    → (changed second (changed first legs) ≡ changed second legs)
    ⊎ (changed second (changed first legs) ≡ changed first (changed second legs))
settled (Equipment e) (Equipment f) legs long = inl (equipped_twice e f legs long)
settled (Equipment e) (Times line) legs long = inr (equipped_lines (line ∷ []) e legs long)
settled (Times line) (Equipment e) legs long = inr (sym (equipped_lines (line ∷ []) e legs long))
settled (Times line) (Times other) legs long = lines_settled line other legs long

-- a change that is made again later
once_more : (changes : List Change) (change : Change) (legs : Legs) → HaveColumns legs
    → IsIn changes change
    → changed_by_all changes (changed change legs) ≡ changed_by_all changes legs
once_more [] change legs long there = absurd there
once_more (next ∷ changes) change legs long (inl here) =
    ap (λ (c : Change). changed_by_all changes (changed next (changed c legs))) (sym here)
    ∙ ap (changed_by_all changes) (twice next legs long)
once_more (next ∷ changes) change legs long (inr later) =
    by (settled next change legs long)
    (once_more changes change (changed next legs) (changed_long next legs long) later)
  where
    by : (changed next (changed change legs) ≡ changed next legs)
        ⊎ (changed next (changed change legs) ≡ changed change (changed next legs))
        → changed_by_all changes (changed change (changed next legs))
        ≡ changed_by_all changes (changed next legs)
        → changed_by_all changes (changed next (changed change legs))
        ≡ changed_by_all changes (changed next legs)
    by (inl over) rest = ap (changed_by_all changes) over
    by (inr either) rest = ap (changed_by_all changes) either ∙ rest

-- changes that are all made again later
pub all_once_more : (changes some : List Change) (legs : Legs) → HaveColumns legs
    → AllByRecursion (IsIn changes) some
    → changed_by_all changes (changed_by_all some legs) ≡ changed_by_all changes legs
all_once_more changes [] legs long are = refl
all_once_more changes (change ∷ some) legs long are =
    all_once_more changes some (changed change legs) (changed_long change legs long) are.1
    ∙ once_more changes change legs long are.0
