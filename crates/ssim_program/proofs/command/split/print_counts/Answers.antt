-- The line is printed, or memory ran out.
use Rattle.std.proofs.Common.{rules, ◌≡◌, ◌∙◌, Err, List, [], ◌∷◌, ℕ, inl, refl, subst}
use Rattle.ssim_program.specs.Acts.{Print}
use Rattle.ssim_program.specs.Answer.{Gives}
use Rattle.ssim_program.specs.Splitting.{count_line}
use Rattle.ssim_program.specs.World.{Does, world}
use Rattle.ssim_program.specs.declared.refusal.Refusal.TheVariants as refused
use Rattle.ssim_program.proofs.Acting.{acted_print, last, refuses}
use Rattle.ssim_program.proofs.command.split.print_counts.Goals as goal

pub returns-in_err-line : goal.returns-in_err-line
returns-in_err-line g c files failures =
    let is : c.from_residual.result ≡ Err refused.Memory = search rules in
    let w = world files failures c.args.out.now in
    rw is (refuses (Gives (Print (count_line c.args.done.now) ∷ [])) w w refused.Memory refl refl)

pub returns : goal.returns
returns g c files failures =
    let w = world files failures c.args.out.now in
    let v = world files failures c.print_all.new.out in
    let line : c.in_ok-line.line.items ≡ count_line c.args.done.now = search rules in
    subst (λ (bytes : List ℕ). Does (Gives (Print bytes ∷ [])) w v c.print_all.result) (c.deref.ensures.value ∙ line) (
      Print c.deref.result.now ∷ [],
      inl refl,
      last (Print c.deref.result.now) w v c.print_all.result
          (acted_print _ _ _ _ c.args.out.now c.print_all.new.out c.deref.result.now c.print_all.result refl refl c.print_all.ensures),
    )
