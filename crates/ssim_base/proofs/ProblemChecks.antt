-- The check of one more record: after the valid ones before it, or by itself.
use Rattle.std.proofs.Common.{◌≡◌, ◌∙◌, ℕ, Bool, true, false, ◌||◌, List, [], ◌∷◌, ◌++◌, Option, Some, None, Ok, Err, true≢false, refl, sym, ap, subst}
use Rattle.ssim_records.specs.declared.record.Record.{Record}
use Rattle.ssim_records.specs.declared.fault.RecordFault.{RecordFault}
use Rattle.ssim_records.specs.Record.{Spells, fault_of}
use Rattle.ssim_base.specs.Problems.{Alone, After, Item, Says, Standing}
use Rattle.ssim_base.specs.Problems.{after_invalid, after_item, is_at_heading, problem_in}
use Rattle.ssim_base.specs.internal.Acceptance.{Accepts, HasAccepted, IsLeft}
use Rattle.ssim_base.specs.internal.Problems.{Finds, Passes, HasStanding, listed}
use Rattle.ssim_base.specs.declared.fault.BaseFault.{BaseFault}
use Rattle.ssim_base.specs.declared.fault.BaseFault.TheVariants.{Read, Refused}
use Rattle.ssim_base.specs.declared.fault.BaseRefusal.{BaseRefusal}
use Rattle.ssim_base.specs.declared.problems.Checks.{Checks}

-- ---- a record that is offered

-- ---- the checks

-- after an invalid record
pub passes : (old new : Checks) → new.accepted ≡ old.accepted → (heading : Bool) → ((earlier : List Record) → HasAccepted old.accepted earlier → heading ≡ is_at_heading earlier)
    → new.alone ≡ (old.alone || heading) → Passes old new
passes old new same heading heads alone Alone is = alone ∙ ap (λ b. b || heading) is
passes old new same heading heads alone (After earlier) is =
    let now : new.alone ≡ is_at_heading earlier = alone ∙ ap (λ b. b || heading) is.0 ∙ heads earlier is.1 in
    by earlier (is_at_heading earlier) refl now (subst (λ a. HasAccepted a earlier) (sym same) is.1)
  where
    by : (earlier : List Record) (b : Bool) → is_at_heading earlier ≡ b
        → new.alone ≡ is_at_heading earlier → HasAccepted new.accepted earlier
        → HasStanding new (after_invalid earlier)
    by earlier true e now has = rw e (now ∙ e)
    by earlier false e now has = rw e (now ∙ e, has)

-- a record is valid after those before it
pub found-none : (old new : Checks) (number : ℕ) (one closed : Record)
    → old.alone ≡ false → new.alone ≡ false → Accepts old.accepted new.accepted one closed
    → Finds old new number one None
found-none old new number one closed alone still accepts Alone stands =
    absurd (true≢false (sym stands ∙ alone))
found-none old new number one closed alone still accepts (After earlier) stands =
    let a = accepts earlier stands.1 in
    rw a.valid ((still, a.is_kept), refl)

-- a record is refused after those before it
pub found-some : (old mid new : Checks) (number : ℕ) (one : Record) (n : ℕ) (refusal : BaseRefusal) → old.alone ≡ false → mid.alone ≡ false
    → ((earlier : List Record) → HasAccepted old.accepted earlier → IsLeft mid.accepted number earlier one (Refused n refusal)) → Passes mid new → Finds old new number one (Some (Refused n refusal))
found-some old mid new number one n refusal alone still left passed Alone stands = absurd (true≢false (sym stands ∙ alone))
found-some old mid new number one n refusal alone still left passed (After earlier) stands =
    let l = left earlier stands.1 in
    rw (l.1) (passed (After earlier) (still, l.2), ap (λ k. Refused k refusal ∷ []) l.0)

-- ---- a block that is taken

-- the problem of a block is added, if it has one
abbrev Adds : Checks → Checks → List BaseFault → List BaseFault → ℕ → List ℕ → Type 0
Adds old new before now number block =
    (x : Item) × Says number block x × ((standing : Standing) → HasStanding old standing → HasStanding new (after_item standing x) × (now ≡ before ++ problem_in standing (number, x)))

-- it spells a record
pub takes-record : (old new : Checks) (before now : List BaseFault) (number : ℕ) (block : List ℕ) (r : Record) (problem : Option BaseFault) → Spells r block → Finds old new number r problem
    → now ≡ before ++ listed problem → Adds old new before now number block
takes-record old new before now number block r problem spells finds faults =
    (Ok r, spells, λ standing is. let f = finds standing is in (f.0, faults ∙ ap (λ fs. before ++ fs) f.1))

-- it spells none
pub takes-fault : (old new : Checks) (before now : List BaseFault) (number : ℕ) (block : List ℕ) (e : RecordFault) → fault_of number block ≡ Some e → Passes old new
    → now ≡ before ++ Read e ∷ [] → Adds old new before now number block
takes-fault old new before now number block e why passed faults = (Err e, why, λ standing is. (by standing is, faults))
  where
    by : (standing : Standing) → HasStanding old standing
        → HasStanding new (after_item standing (Err e))
    by Alone is = passed Alone is
    by (After earlier) is = passed (After earlier) is
