-- What is known of the problems of the records so far.
use Rattle.std.specs.Prelude.{◌≡◌, ℕ, true, false, List, [], ◌∷◌, ◌++◌, Option, Some, None, Ok}
use Rattle.ssim_records.specs.declared.record.Record.{Record}
use Rattle.ssim_base.specs.internal.Acceptance.{HasAccepted}
use Rattle.ssim_base.specs.Problems.{Alone, After, Item, Says, Standing, after_invalid, after_item}
use Rattle.ssim_base.specs.Problems.{fault_at, problem_in, refusal_in}
use Rattle.ssim_base.specs.declared.fault.BaseFault.{BaseFault}
use Rattle.ssim_base.specs.declared.problems.Checks as declared
use Rattle.ssim_base.specs.declared.problems.ProblemReader.{ProblemReader}

-- the state of the checks is this standing
abbrev pub HasStanding : declared.Checks → Standing → Type 0
HasStanding checks (After earlier) = (checks.alone ≡ false) × HasAccepted checks.accepted earlier
HasStanding checks Alone = checks.alone ≡ true

-- the problem as a list
abbrev pub listed : Option BaseFault → List BaseFault
listed (Some fault) = fault ∷ []
listed None = []

-- the problem of one more record is found, and the checks have the standing after it
abbrev pub Finds : declared.Checks → declared.Checks → ℕ → Record → Option BaseFault → Type 0
Finds old new number one problem =
    (standing : Standing) → HasStanding old standing
    → HasStanding new (after_item standing (Ok one))
    × (listed problem ≡ fault_at number (refusal_in standing one))

-- the standing after an invalid record
abbrev pub after_any_invalid : Standing → Standing
after_any_invalid (After earlier) = after_invalid earlier
after_any_invalid Alone = Alone

-- the checks have the standing after an invalid record
abbrev pub Passes : declared.Checks → declared.Checks → Type 0
Passes old new =
    (standing : Standing) → HasStanding old standing → HasStanding new (after_any_invalid standing)

-- the problem of one more block is added, if it has one
abbrev pub Takes : ProblemReader → ProblemReader → ℕ → List ℕ → Type 0
Takes old new number block =
    (item : Item) × Says number block item
    × ((standing : Standing) → HasStanding old.checks standing
    → HasStanding new.checks (after_item standing item)
    × (new.faults.items ≡ old.faults.items ++ problem_in standing (number, item)))

-- nothing was read
pub record IsNew (found : ProblemReader) : Type 0 where
  pub checks_are : HasStanding found.checks (After [])
  pub faults_are : found.faults.items ≡ []
  pub records_are : found.records ≡ 0
  pub trailer_is : found.trailer ≡ false
