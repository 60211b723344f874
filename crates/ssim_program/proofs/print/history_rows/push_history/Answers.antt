-- The rows of the legs in the data set, and then those of each sub-message.
use Rattle.std.proofs.Common.{◌≡◌, ◌∙◌, ◌++◌, ◌∷◌, ℕ, List, [], ap, ap₂, append_assoc}
use Rattle.std.specs.List.{flat_map}
use Rattle.std.proofs.lemmas.Result.{on_ok_weaker}
use Rattle.ssim_values.specs.Designator.{designator_text}
use Rattle.ssim_base.specs.Timetable.{Legs}
use Rattle.ssim_listing.specs.Rows.{iso_date}
use Rattle.ssim_desk.specs.declared.date_step.DateStep.{DateStep}
use Rattle.ssim_program.specs.print.HistoryRows.{first_rows, step_rows}
use Rattle.ssim_program.proofs.print.history_rows.push_history.Goals as goal

pub returns : goal.returns
returns c =
    let rows = c.args.rows.now in
    let first = c.args.history.now.first in
    let steps = c.args.history.now.steps.items in
    let head : c.as_slice.result.now ∷ c.iso_date-date.result ∷ []
    ≡ designator_text c.args.designator ∷ iso_date c.args.day ∷ [] =
    ap₂ (λ (name date : List ℕ). name ∷ date ∷ [])
    (c.as_slice.ensures.value ∙ c.write-name.ensures.value) c.iso_date-date.ensures in
    let text : List (List ℕ) → Legs → List DateStep → List ℕ =
    λ head legs steps. (rows ++ first_rows head legs) ++ flat_map (step_rows head) steps in
    on_ok_weaker c.put_each.result
    (λ added. added
    ∙ ap (λ (old : List ℕ). old ++ flat_map (step_rows (c.as_slice.result.now
    ∷ c.iso_date-date.result ∷ [])) c.deref.result.now) c.in_ok-push_first.ensures
    ∙ ap₂ (λ (legs : Legs) (steps : List DateStep). text (c.as_slice.result.now
    ∷ c.iso_date-date.result ∷ []) legs steps) c.legs.ensures c.deref.ensures.value
    ∙ ap (λ (head : List (List ℕ)). text head first steps) head
    ∙ append_assoc rows (first_rows (designator_text c.args.designator ∷ iso_date c.args.day ∷ []) first)
    (flat_map (step_rows (designator_text c.args.designator ∷ iso_date c.args.day ∷ [])) steps))
    c.put_each.ensures
