-- The dates are behind references, and their legs are texts.
use Rattle.std.proofs.Common.{◌≡◌, ◌∙◌, ◌++◌, Bor, Global, List, Vec, ℕ, OnOk, sym, ap, subst}
use Rattle.std.specs.List.{flat_map}
use Rattle.std.proofs.lemmas.List.Folds.{flat_map-map}
use Rattle.ssim_listing.specs.internal.FlightDates.{dated_text, seen_dates, seen_pieces, seen_texts}
use Rattle.ssim_listing.proofs.DatedTexts.{lines_of_texts}
use Rattle.ssim_listing.proofs.dates.push_dates.Goals as goal

-- texts on the legs of a date
abbrev Texts : Type 0
Texts = Vec (Vec ℕ Global) Global

pub returns : goal.returns
returns c =
    let name = c.args.name.now in
    let made = c.deref.result.now in
    let lines : ℕ × Texts → List ℕ = λ date. flat_map (dated_text name date.0) (seen_texts date.1.items) in
    let seen : ℕ × Bor Texts → ℕ × Texts = λ date. (date.0, date.1.now) in
    subst (λ (bytes : List ℕ). OnOk c.push_each.result (c.push_each.new.lines.items ≡ c.args.lines.now.items ++ bytes))
    (sym (flat_map-map lines seen c.deref-2.result.now)
    ∙ (ap (flat_map lines) (ap seen_dates c.deref-2.ensures.value ∙ c.in_ok-dates.ensures)
    ∙ lines_of_texts name c.args.pieces.now made (ap seen_pieces c.deref.ensures.value ∙ c.in_ok-pieces.ensures)))
    c.push_each.ensures
