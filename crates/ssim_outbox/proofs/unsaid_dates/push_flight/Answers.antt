-- The lines of its pieces, under its name.
use Rattle.std.proofs.Common.{◌∙◌, ◌++◌, List, ℕ, ap, ap₂}
use Rattle.std.specs.List.{flat_map}
use Rattle.std.proofs.lemmas.Result.{on_ok_weaker}
use Rattle.ssim_listing.specs.Lines.{flight_name}
use Rattle.ssim_difference.specs.Differences.{DifferencePiece}
use Rattle.ssim_outbox.specs.Unsaid.{ReasonPiece, unsaid_line}
use Rattle.ssim_outbox.specs.internal.ReasonPieces.{division}
use Rattle.ssim_outbox.proofs.unsaid_dates.push_flight.Goals as goal

pub returns : goal.returns
returns c =
    let name = c.as_slice.ensures.value ∙ (c.name_of-name.ensures
    ∙ ap (flight_name c.args.airline) c.flight.ensures) in
    let pieces = c.deref.ensures.value ∙ c.in_ok-pieces.ensures
    ∙ ap (λ (ps : List DifferencePiece). division c.args.rows.now ps) c.pieces.ensures in
    on_ok_weaker c.push_each.result
    (λ added. added
    ∙ ap₂ (λ (n : List ℕ) (ps : List ReasonPiece).
    c.args.lines.now.items ++ flat_map (unsaid_line n) ps) name pieces)
    c.push_each.ensures
