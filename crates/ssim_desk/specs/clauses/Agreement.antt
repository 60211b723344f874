-- When two desks agree.
use Rattle.std.specs.Prelude.{◌<◌, ◌↔◌, ℕ, List, length}
use Rattle.ssim_text.specs.{Message.MessageValue, declared.reference.Reference.Reference}
use Rattle.ssim_held.specs.Held.{DeskState}
use Rattle.ssim_desk.specs.Deliveries.{Reached}
use Rattle.ssim_desk.specs.Steps.{desk_at}
use Rattle.ssim_desk.specs.declared.steps.Answer.{Answer}
use Rattle.ssim_desk.specs.declared.steps.Step.{Step}
use Rattle.ssim_desk.specs.Agreement.{AreAgreed, BeganAlike}

-- any two desks of one run that began alike and that the same messages reached agree
abbrev pub DesksAgree : List DeskState → List Step → List Answer → List DeskState → Type 0
DesksAgree start steps answers after =
    (d e : ℕ) → d < length start → e < length start → BeganAlike (desk_at start d) (desk_at start e)
    → ((reference : Reference) (message : MessageValue)
    → Reached start steps answers d reference message
    ↔ Reached start steps answers e reference message)
    → AreAgreed (desk_at after d) (desk_at after e)
