-- What the messages leave is the meaning of what is held.
use Rattle.std.proofs.Common.{List, ap, subst, ◌∙◌}
use Rattle.ssim_base.proofs.Results.{if_ok}
use Rattle.ssim_held.specs.Entries.{AreEntries, DeskSeen, Entry}
use Rattle.ssim_desk.specs.Desk.{timetable_of}
use Rattle.ssim_desk.specs.Meaning.{Timetable, left_by}
use Rattle.ssim_desk.proofs.Meant.{has_meaning, only_meaning}
use Rattle.ssim_desk.proofs.holdings.Holdings.itinerary.Goals as goal

entries : (c : goal.After-legs_after) → AreEntries c.args.self.now.base.records c.args.self.now.held
entries c = subst (λ (t : DeskSeen). AreEntries t.base.records t.held) c.self.view_is c.self.invariant

pub returns-clause-means : goal.returns-clause-means
returns-clause-means c = has_meaning c.args.self.now (entries c)

pub returns-clause-only : goal.returns-clause-only
returns-clause-only c =
    let flight = c.args.flight.now in
    let day = c.args.day in
    if_ok c.legs_after.result
    (λ legs is timetable means.
    is
    ∙ ap (λ (es : List Entry). left_by c.self.inside.base es flight day) c.deref.ensures.value
    ∙ ap (λ (t : DeskSeen). timetable_of t flight day) c.self.view_is
    ∙ ap (λ (t : Timetable). t flight day) (only_meaning c.args.self.now (entries c) timetable means))
    c.legs_after.ensures
