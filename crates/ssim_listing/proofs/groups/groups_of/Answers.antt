-- The legs of one more piece.
use Rattle.std.proofs.Common.{◌≡◌, ◌∙◌, ◌+◌, ◌++◌, ◌∷◌, [], ap, take, arith}
use Rattle.std.proofs.lemmas.Grind.{common_steps}
use Rattle.ssim_base.specs.Timetable.{Legs}
use Rattle.ssim_listing.specs.Lines.{legs_of}
use Rattle.ssim_listing.specs.LegText.{leg_text}
use Rattle.ssim_listing.specs.clauses.Groups.{group_of}
use Rattle.ssim_listing.proofs.Grouping.{legs_more}
use Rattle.ssim_listing.proofs.groups.groups_of.Goals as goal

pub loop-piece-preserved : goal.loop-piece-preserved
loop-piece-preserved c = λ text.
    let i = c.loop-piece.piece-index in
    let pieces = c.args.pieces.now in
    let piece = c.piece-item.result in
    let more : take (i + 1) pieces ≡ take i pieces ++ piece ∷ [] = grind (arith, common_steps) in
    c.in_ok-add_legs.ensures (legs_of (take i pieces)) c.loop-piece.invariant text
    ∙ ap (λ (ls : Legs). group_of leg_text ls text)
    (ap (λ (ls : Legs). legs_of (take i pieces) ++ ls) c.legs.ensures ∙ legs_more (take i pieces) (take (i + 1) pieces) piece more)
