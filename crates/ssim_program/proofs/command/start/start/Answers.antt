-- The base is refused; or it is kept, and its lines are printed.
use Rattle.std.proofs.Common.{◌≡◌, ◌∙◌, ◌∷◌, [], Err, Ok, Option, ap, inl, inr, rules, subst, sym}
use Rattle.ssim_base.specs.BaseSeen.{BaseSeen, base_with}
use Rattle.ssim_base.specs.SavedBase.{IsBaseRecords}
use Rattle.ssim_held.specs.Entries.{DeskSeen}
use Rattle.ssim_held.specs.File.{desk_file}
use Rattle.ssim_program.specs.Acts.{Keep, Print}
use Rattle.ssim_program.specs.Files.{Files}
use Rattle.ssim_program.specs.Made.{base_in}
use Rattle.ssim_program.specs.print.StationNotes.{start_lines}
use Rattle.ssim_program.proofs.command.start.start.Goals as goal

pub returns-in_err-data_set-clause-answer : goal.returns-in_err-data_set-clause-answer
returns-in_err-data_set-clause-answer g c =
    let why = c.in_err-data_set.field-0.0 in
    let is : c.from_residual-in_err-data_set.result ≡ Err why = search rules in
    rw is (inr (tt, c.in_ok-place.ensures.held, inl (subst (λ (files : Option Files). base_in files c.args.dataset.now c.args.stations.now (Err why)) c.hold.ensures.same c.in_err-data_set.ensures.refused)))

pub returns-clause-answer : goal.returns-clause-answer
returns-clause-answer g c =
    let desk = c.start-desk.result in
    let whole = base_with c.in_ok-data_set.data_set c.in_ok-data_set.stations in
    let base : desk.base ≡ whole = ap (λ (d : DeskSeen). d.base) c.start-desk.ensures in
    let held : desk.held ≡ [] = ap (λ (d : DeskSeen). d.held) c.start-desk.ensures in
    let read =
    subst (λ (files : Option Files). base_in files c.args.dataset.now c.args.stations.now (Ok whole))
    c.hold.ensures.same c.in_ok-data_set.ensures.read in
    let records =
    subst IsBaseRecords (c.records.ensures.value ∙ ap (λ (b : BaseSeen). b.records) c.base.ensures)
    c.records.ensures.is_base in
    let lines : c.in_ok-lines.lines.items ≡ start_lines c.args.notes desk.base =
    c.in_ok-lines.ensures ∙ ap (start_lines c.args.notes) c.base-2.ensures in (
      tt,
      c.in_ok-place.ensures.held,
      (
        desk.base,
        subst (λ (b : BaseSeen). base_in (g.S.Store.files c.args.store.now) c.args.dataset.now
            c.args.stations.now (Ok b))
            (sym base) read,
        (
          records,
          λ i. Keep (c.in_ok-place.ensures.name i) (desk_file desk.base (held i))
              ∷ Print (lines i) ∷ [],
        ),
      ),
    )
