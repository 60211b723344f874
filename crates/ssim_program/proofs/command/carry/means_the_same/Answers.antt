-- A message that another base resolves so means the same, and a message that is refused does not.
use Rattle.std.proofs.Common.{subst}
use Rattle.ssim_base.specs.Resolve.{IsRefusedIn, ResolvesIn}
use Rattle.ssim_text.specs.Message.{MessageValue}
use Rattle.ssim_program.proofs.Carrying.{means_same, refused_means, same_means}
use Rattle.ssim_program.proofs.command.carry.means_the_same.Goals as goal

pub returns-in-Ok : goal.returns-in-Ok
returns-in-Ok c = λ base theirs frame is.
    let e = c.args.held.now in let text = c.in-Ok.text in
    let resolves : ResolvesIn base.records c.message.result.now text =
    c.in-Ok.ensures.ok base.records frame in
    let here =
    subst (λ (m : MessageValue). ResolvesIn base.records m text) c.message.ensures resolves in
    let same = c.is_same.ensures in (
      λ equal. same_means base theirs e text is here (same.0 equal),
      λ means. same.1
          (means_same base theirs e text is here means),
    )

pub returns-in_default : goal.returns-in_default
returns-in_default c = λ base theirs frame is.
    let why = c.in-Err.fault in
    let refuses : IsRefusedIn base.records c.message.result.now why =
    c.in-Err.ensures.err base.records frame in
    let here =
    subst (λ (m : MessageValue). IsRefusedIn base.records m why) c.message.ensures refuses in (
      λ never. absurd cc,
      λ means. absurd
          (refused_means base theirs c.args.held.now.message why c.in_default.not-Memory here means),
    )
