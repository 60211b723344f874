-- The pieces give each day its maker.
use Rattle.std.proofs.Common.{◌≡◌, ◌∙◌, ℕ, List, ap, refl}
use Rattle.std.proofs.lemmas.Result.{IfOk-weaker}
use Rattle.ssim_values.specs.Period.{DayRange}
use Rattle.ssim_periods.specs.Days.{each_day}
use Rattle.ssim_periods.specs.Pieces.{pieces_of}
use Rattle.ssim_periods.specs.clauses.Days.{changed_by_each}
use Rattle.ssim_blame.specs.Makers.{same_maker}
use Rattle.ssim_blame.specs.declared.made.MadeItinerary.{MadeItinerary}
use Rattle.ssim_blame.specs.declared.maker.Maker.{Maker}
use Rattle.ssim_blame.specs.declared.maker.Maker.TheVariants.{Nobody}
use Rattle.ssim_blame.specs.internal.Made.{nothing_made, same_made}
use Rattle.ssim_blame.specs.internal.MadeLaws.{exact_made}
use Rattle.ssim_blame.proofs.Given.{pieces_give}
use Rattle.ssim_blame.proofs.flight_blame.makers_of.Goals as goal

pub returns : goal.returns
returns c = λ made is.
    let first = λ (m : MadeItinerary) (old : Maker). m.maker in
    let items = c.in_ok-pieces.field-0.items in
    let all : c.replace_each.new.self.days ≡ each_day (λ n. (made n).maker) =
    c.in_ok-replace_each.ensures.days
    ∙ ap (λ (ps : List (DayRange × MadeItinerary)).
    changed_by_each first ps c.new-makers.result.days) c.deref.ensures.value
    ∙ ap (changed_by_each first items) c.new-makers.ensures.days
    ∙ ap (λ (ps : List (DayRange × MadeItinerary)).
    changed_by_each first ps (each_day (λ (n : ℕ). Nobody)))
    (c.in_ok-pieces.ensures.pieces ∙ ap (pieces_of same_made nothing_made) is)
    ∙ pieces_give same_made nothing_made exact_made (λ (m : MadeItinerary). m.maker) Nobody made
    refl in
    IfOk-weaker c.pieces-2.result _ _
    (λ pieces are. are ∙ ap (pieces_of same_maker Nobody) all) c.pieces-2.ensures.pieces
