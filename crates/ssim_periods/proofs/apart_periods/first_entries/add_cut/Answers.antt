-- A day that is there is not added, and another one is put at its place.
use Rattle.std.proofs.Common.{ap, sym, ◌∙◌}
use Rattle.std.specs.List.{insert}
use Rattle.ssim_periods.specs.internal.Rows.{place}
use Rattle.ssim_periods.specs.internal.Splits.{has_cut}
use Rattle.ssim_periods.proofs.CutLemmas.{with_cut-has, with_cut-insert}
use Rattle.ssim_periods.proofs.apart_periods.first_entries.add_cut.Goals as goal

pub returns-then-is_last : goal.returns-then-is_last
returns-then-is_last c = sym (with_cut-has c.args.cuts.now.items c.args.day (ap (λ cs. has_cut cs c.args.day) (sym c.deref-2.ensures.value) ∙ sym c.is_last.ensures ∙ c.if-is_last.true))

pub returns : goal.returns
returns c =
    let cuts = c.args.cuts.now.items in let day = c.args.day in
    c.in_ok-insert.ensures.items ∙ ap (λ p. insert cuts p day) (c.place_from_end-place.ensures.place ∙ ap (λ cs. place cs day) c.deref.ensures.value)
    ∙ with_cut-insert cuts day (ap (λ cs. has_cut cs day) (sym c.deref-2.ensures.value) ∙ sym c.is_last.ensures ∙ c.if-is_last.false)
