-- The index of a value is its place; a value without one is after all of them.
use Rattle.std.proofs.Common.{◌∙◌, ℕ, Option, ap, length, sym, unwrap_or}
use Rattle.std.proofs.lemmas.List.{length-map}
use Rattle.ssim_calendar.proofs.Indices.{place_is}
use Rattle.ssim_calendar.proofs.letters.place_of.Goals as goal

pub returns-in-Some : goal.returns-in-Some
returns-in-Some g c =
    let values = c.args.values.now in
    sym (place_is g.V.Value.alike values c.args.value.now
    ∙ ap (λ (o : Option ℕ). unwrap_or o (length values)) (sym c.in-Some.ensures.value))

pub returns-in-None : goal.returns-in-None
returns-in-None g c =
    let values = c.args.values.now in
    sym (length-map c.values.result.now (λ value. value.now)) ∙ ap length c.values.ensures
    ∙ sym (place_is g.V.Value.alike values c.args.value.now
    ∙ ap (λ (o : Option ℕ). unwrap_or o (length values)) (sym c.in-None.ensures.value))
