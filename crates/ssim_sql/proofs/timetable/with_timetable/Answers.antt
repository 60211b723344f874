-- One row, whose values are those of the carrier record.
use Rattle.std.proofs.Common.{◌∙◌, ◌++◌, ◌∷◌, [], List, ℕ, ap}
use Rattle.std.proofs.lemmas.Result.{IfOk-weaker}
use Rattle.ssim_values.specs.Airline.{airline_text}
use Rattle.ssim_base.specs.Base.{end_of}
use Rattle.ssim_listing.specs.Rows.{iso_date}
use Rattle.ssim_sql.specs.Blanks.{trimmed}
use Rattle.ssim_sql.specs.Literal.{quote}
use Rattle.ssim_sql.specs.Statements.{row_of, statements}
use Rattle.ssim_sql.specs.Timetable.{mode_letter, number_or_null, timetable_row, timetable_statement}
use Rattle.ssim_sql.specs.declared.constant.heads.TheConstants.{TIMETABLE_HEAD}
use Rattle.ssim_sql.proofs.timetable.with_timetable.Goals as goal

pub returns : goal.returns
unfolding timetable_statement timetable_row
returns c =
    let carrier = c.args.carrier.now in
    let airline = c.deref.ensures.value ∙ c.in_ok-airline.ensures ∙ ap airline_text c.airline.ensures in
    let season = c.trimmed.ensures ∙ ap trimmed c.season-season.ensures in
    let mode = c.mode_letter-mode.ensures ∙ ap mode_letter c.time_mode.ensures in
    let values = c.values_of-values.ensures
    ∙ (λ k. quote (airline k) ∷ quote (season k) ∷ quote (mode k)
    ∷ quote (iso_date carrier.first) ∷ quote (iso_date (end_of carrier))
    ∷ quote (iso_date carrier.created) ∷ number_or_null c.args.messages ∷ []) in
    IfOk-weaker c.complete.result _ _
    (λ made is. is ∙ c.in_ok-put_row.ensures [] ∙ c.table_after-table.ensures _
    ∙ ap (λ (vs : List (List ℕ)). c.args.script.items
    ++ statements TIMETABLE_HEAD.now (row_of c.args.name.now vs ∷ [])) values)
    c.complete.ensures
