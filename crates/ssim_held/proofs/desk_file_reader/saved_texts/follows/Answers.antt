-- References rise with one more exactly if the last one is less.
use Rattle.std.proofs.Common.{◌≡◌, ◌-◌, ◌<◌, Some, length, refl, sym, ap, ◌∙◌, arith, slice_get}
use Rattle.std.specs.declared.cmp.Ordering.TheVariants.{Less}
use Rattle.std.proofs.lemmas.Bool.Decides.{nat_tests}
use Rattle.ssim_text.specs.declared.reference.Reference.{Reference}
use Rattle.ssim_held.specs.Held.{reference_cmp}
use Rattle.ssim_held.proofs.SavedTexts.{rising_last, rising_more}
use Rattle.ssim_held.proofs.Searching.{at_index}
use Rattle.ssim_held.proofs.desk_file_reader.saved_texts.follows.Goals as goal

pub returns-in-Less : goal.returns-in-Less
returns-in-Less c =
    let held = c.args.held.now in
    let last = c.index-held-held.result in
    let some : 0 < length held = grind (arith, nat_tests) in
    let there : slice_get held (length held - 1) ≡ Some last = at_index held (length held - 1) last (omega (arith, some)) ∙ ap Some (sym c.index-held-held.is) in
    let less : reference_cmp last.reference c.args.next.now.reference ≡ Less = ap (λ (r : Reference). reference_cmp last.reference r) (sym c.reference.ensures) ∙ sym c.compare.ensures ∙ c.in-Less.is in
    (λ yes. rising_more held (length held - 1) last c.args.next.now c.requires (omega (arith, some)) there less, λ rising. refl)

pub returns-in_default : goal.returns-in_default
returns-in_default c =
    let held = c.args.held.now in
    let last = c.index-held-held.result in
    let some : 0 < length held = grind (arith, nat_tests) in
    let there : slice_get held (length held - 1) ≡ Some last = at_index held (length held - 1) last (omega (arith, some)) ∙ ap Some (sym c.index-held-held.is) in (
      λ never. absurd cc,
      λ rising. absurd (c.in_default.not-Less (c.compare.ensures ∙ ap (λ (r : Reference). reference_cmp last.reference r) c.reference.ensures ∙ rising_last held (length held - 1) last c.args.next.now rising there)),
    )
