-- A line SSM or ASM under a dot is inside.
use Rattle.std.proofs.Common.{◌≡◌, ◌∙◌, Bool, sym, subst}
use Rattle.ssim_mailbox.specs.declared.role.Role.TheVariants.{Inside}
use Rattle.ssim_mailbox.specs.Roles.{role_of}
use Rattle.ssim_mailbox.proofs.Reading.{under_dot}
use Rattle.ssim_mailbox.proofs.role.Role.of.Goals as goal

pub returns-then-is_kind : goal.returns-then-is_kind
returns-then-is_kind c n piece below shown plain =
    let line = c.args.line.now in
    subst (λ (dot : Bool). Inside ≡ role_of (record { number = line.number; bytes = line.bytes.now; under_dot = dot }) below) (sym c.if-line.true) (under_dot line.number line.bytes.now below (sym c.is_kind.ensures ∙ c.if-is_kind.true))
