-- The legs are those of the date.
use Rattle.std.proofs.Common.{◌≡◌, ◌∙◌, ◌++◌, List, Vec, ℕ, OnOk, sym, ap, subst}
use Rattle.std.specs.List.{flat_map}
use Rattle.std.proofs.lemmas.List.Folds.{flat_map-map}
use Rattle.ssim_listing.specs.internal.FlightDates.{dated_text, seen_texts}
use Rattle.ssim_listing.proofs.dates.Tuple2DayRefLegTextsPrintedFlightName.print.Goals as goal

pub returns : goal.returns
returns c =
    let text = dated_text c.args.name.now.bytes.now c.args.self.now.0 in
    subst (λ (bytes : List ℕ). OnOk c.push_each.result (c.push_each.new.lines.items ≡ c.args.lines.now.items ++ bytes))
    (sym (flat_map-map text (λ bytes. bytes.items) c.deref.result.now)
    ∙ ap (λ texts. flat_map text (seen_texts texts)) c.deref.ensures.value) c.push_each.ensures
