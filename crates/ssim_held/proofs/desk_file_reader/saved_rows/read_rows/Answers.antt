-- The line says how many rows follow, and the rows are read as they are written.
use Rattle.std.proofs.Common.{◌≡◌, ◌++◌, length, List, subst}
use Rattle.std.specs.Prelude.{Option, IfNone, IfSome}
use Rattle.std.specs.List.{All, flat_map}
use Rattle.ssim_base.specs.Stations.{Row}
use Rattle.ssim_held.specs.File.{IsRow, row_line}
use Rattle.ssim_held.proofs.SavedParts.{rows_found, rows_size, rows_split}
use Rattle.ssim_held.proofs.desk_file_reader.saved_rows.read_rows.Goals as goal

pub returns-in_default-elements-clause-err : goal.returns-in_default-elements-clause-err
returns-in_default-elements-clause-err c = λ invalid rows later low all e.
    let line = c.in-Some.ensures.only (length rows) (flat_map row_line rows ++ later) low (rows_split c.args.bytes.now later rows e) in
    c.in_default-elements.ensures.only (length rows) (flat_map row_line rows) later line.0 (rows_size rows all) line.1

pub returns-in-Some-2-clause-ok : goal.returns-in-Some-2-clause-ok
returns-in-Some-2-clause-ok c =
    let s = subst (λ (o : Option (List Row)). IfSome o (λ rows. All IsRow rows × (c.in-Some-elements.lines.now ≡ flat_map row_line rows))) c.in-Some-2.is c.in_ok-stations.ensures.some in
    (s.0, rows_found c.args.bytes.now c.in-Some.rest.now c.in-Some-elements.lines.now c.in-Some-elements.after.now c.in-Some-2.stations c.in-Some.count c.in-Some.ensures.some c.in-Some-elements.ensures.some.1 c.in-Some-elements.ensures.some.0 s.0 s.1)

pub returns-in-None-clause-err : goal.returns-in-None-clause-err
returns-in-None-clause-err c = λ invalid rows later low all e.
    let line = c.in-Some.ensures.only (length rows) (flat_map row_line rows ++ later) low (rows_split c.args.bytes.now later rows e) in
    let parts = c.in-Some-elements.ensures.only (length rows) (flat_map row_line rows) later line.0 (rows_size rows all) line.1 in
    let none = subst (λ (o : Option (List Row)). IfNone o ((xs : List Row) → All IsRow xs → c.in-Some-elements.lines.now ≡ flat_map row_line xs → ⊥)) c.in-None.is c.in_ok-stations.ensures.none in
    none rows all parts.0
