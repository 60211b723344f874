-- The lines of the table are refused, or the data set is.
use Rattle.std.proofs.Common.{◌≡◌, Err, IfErr, List, ℕ, Option, Result, inl, inr, refl, rules, subst}
use Rattle.ssim_records.specs.declared.record.Record.{Record}
use Rattle.ssim_base.specs.Stations.{NamesLine, Row, SpellsTable}
use Rattle.ssim_base.specs.declared.fault.BaseFault.{BaseFault}
use Rattle.ssim_base.specs.declared.stations.StationFault.{StationFault}
use Rattle.ssim_text.specs.Left.{lines_left}
use Rattle.ssim_command_line.specs.Line.{Text}
use Rattle.ssim_program.specs.Files.{Files}
use Rattle.ssim_program.specs.Made.{HasFile, IsOfBytes, ReadsFile, base_in}
use Rattle.ssim_program.specs.declared.refusal.Refusal.{Refusal}
use Rattle.ssim_program.specs.declared.refusal.Refusal.TheVariants as refused
use Rattle.ssim_program.proofs.data_set.load_base.Goals as goal

rows_refused : (files : Option Files) (dataset stations : Text) → (bytes : List ℕ) × HasFile files dataset bytes → (table : List ℕ) (fault : StationFault) → HasFile files stations table → NamesLine (lines_left table) fault
    → base_in files dataset stations (Err (refused.Stations fault))
rows_refused files dataset stations (bytes, there) table fault has names = inr (bytes, there, inr (table, has, inl (fault, refl, names)))

set_refused : (files : Option Files) (dataset stations : Text) → (bytes : List ℕ) × HasFile files dataset bytes → (table : List ℕ) (rows : List Row) (fault : BaseFault) (why : Refusal) → HasFile files stations table
    → SpellsTable rows table → why ≡ refused.DataSet fault → IsOfBytes fault × ReadsFile files dataset (Err fault) → base_in files dataset stations (Err why)
set_refused files dataset stations (bytes, there) table rows fault why has spells is (of_bytes, read) =
    inr (bytes, there, inr (table, has, inr (rows, spells, inl (inr (fault, is, of_bytes, read)))))

pub returns-in_err-stations-clause-refused : goal.returns-in_err-stations-clause-refused
returns-in_err-stations-clause-refused g c =
    let files = g.S.Store.files c.args.store.now in let fault = c.in_err-stations.field-0.0 in let table = c.in_ok-table.table.items in
    let is : c.from_residual-in_err-stations.result ≡ Err (refused.Stations fault) = search rules in
    rw is (rows_refused files c.args.dataset.now c.args.stations.now c.in_ok-read.ensures.within table fault (subst (λ (f : Option Files). HasFile f c.args.stations.now table) c.read_file.ensures.same c.in_ok-table.ensures.bytes)
    (subst (λ (bs : List ℕ). NamesLine (lines_left bs) fault) c.deref.ensures.value c.in_err-stations.ensures.err))

pub returns-clause-refused : goal.returns-clause-refused
returns-clause-refused g c =
    let files = g.S.Store.files c.args.store.now in let fault = c.in-Err.fault in let table = c.in_ok-table.table.items in let rows = c.in_ok-stations.stations in
    set_refused files c.args.dataset.now c.args.stations.now c.in_ok-read.ensures.within table rows fault c.from.result
    (subst (λ (f : Option Files). HasFile f c.args.stations.now table) c.read_file.ensures.same c.in_ok-table.ensures.bytes)
    (subst (λ (bs : List ℕ). SpellsTable rows bs) c.deref.ensures.value c.in_ok-stations.ensures.ok) c.from.ensures
    (subst (λ (read : Result (List Record) BaseFault). IfErr read (λ e. IsOfBytes e × ReadsFile files c.args.dataset.now (Err e))) c.in-Err.is c.in_ok-read.ensures.fault)
