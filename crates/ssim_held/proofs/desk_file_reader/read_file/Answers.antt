-- Part by part, what was read is the file's, and what was not read is of no desk.
use Rattle.std.proofs.Common.{rules, ◌≡◌, ◌≢◌, ◌++◌, ◌<◌, ◌^◌, ◌∙◌, List, ℕ, IfSome, length, Err, refl, sym, ap}
use Rattle.std.proofs.lemmas.List.{append-nil}
use Rattle.ssim_records.specs.clauses.InputBuffer.{ahead}
use Rattle.ssim_records.proofs.InputBuffers.{uses_then}
use Rattle.ssim_base.specs.BaseSeen.{BaseSeen, base_with}
use Rattle.ssim_held.specs.File.{IsDeskFile, end_line, records_part, rows_part, texts_part}
use Rattle.ssim_held.specs.Entries.{Entry}
use Rattle.ssim_held.specs.internal.DeskFileReader.{first_line}
use Rattle.ssim_held.specs.declared.desk_file_reader.version.FileVersion.{FileVersion}
use Rattle.ssim_held.specs.declared.desk_file_reader.fault.PartFault.{PartFault}
use Rattle.ssim_held.specs.declared.desk_file_reader.fault.PartFault.TheVariants.{Invalid, Memory}
use Rattle.ssim_held.proofs.Inputs.{at_known, invalid_map, last_ahead, of_known, some_map}
use Rattle.ssim_held.proofs.SavedFiles.{after_records, before_base, file_found, file_in}
use Rattle.ssim_held.proofs.SavedInputs.{HasNoRecords}
use Rattle.ssim_held.proofs.desk_file_reader.read_file.Goals as goal

-- the bytes are the file of no desk
abbrev NoDesk : List ℕ → Type 0
NoDesk bytes = length bytes < 2 ^ 64 → (base : BaseSeen) (entries : List Entry) → IsDeskFile bytes base entries → ⊥

-- the bytes begin with no first line
abbrev HasNone : List ℕ → Type 0
HasNone bytes = (version : FileVersion) (rest : List ℕ) → bytes ≡ first_line version ++ rest → ⊥

not_memory : (e : PartFault) (left : ℕ) → e ≡ Invalid left → e ≢ Memory
not_memory e left is memory = absurd cc

pub returns-in_default-clause-err : goal.returns-in_default-clause-err
returns-in_default-clause-err g c =
    some_map HasNone NoDesk _ (λ bytes none short base es file. let f = file_in bytes base es short file in none f.version _ f.is) (rw c.in_default.is at c.in_ok-version.ensures.none)

pub returns-in_err-data_set-clause-err : goal.returns-in_err-data_set-clause-err
returns-in_err-data_set-clause-err g c =
    let k : c.from_residual-in_err-data_set.result ≡ Err c.in_err-data_set.field-0.0 = search rules in
    let uses = rw c.in-Some.is at c.in_ok-version.ensures.some in
    let v = c.in-Some.version in
    let next = ahead c.take_version.new.input (g.R.Source.state c.take_version.new.reader).left in
    rw k (invalid_map c.in_err-data_set.field-0.0 (IfSome next HasNoRecords) (IfSome (ahead c.args.input.now (g.R.Source.state c.args.reader.now).left) NoDesk)
    (λ none. of_known NoDesk (first_line v) _ next uses.next
    (λ rest at short base es file.
    let b = before_base c.saved_records_are_read.ensures.one c.equal_where_written_equal.ensures (first_line v ++ rest) rest v short refl base es file in
    at_known HasNoRecords next rest at none base.records (rows_part base.rows ++ (texts_part es ++ end_line)) b.0 file.saved.is_base b.2))
    c.in_err-data_set.ensures.err)

pub returns-in-Ok-clause-ok : goal.returns-in-Ok-clause-ok
returns-in-Ok-clause-ok g c =
    let v = c.in-Some.version in
    let data_set = c.in_ok-data_set.data_set in
    let rest = c.in_ok-rest.rest.items in
    let stations = c.in-Ok.stations in
    let held = c.in-Ok.held.items in
    let first = rw c.in-Some.is at c.in_ok-version.ensures.some in
    let records = c.in_ok-data_set.ensures.ok in
    let after = c.in-Ok.ensures.ok in
    let one = records_part data_set ++ rest in
    let uses = uses_then (first_line v) one c.args.input.now c.take_version.new.input c.read_rest.new.input _ _ _ first
    (uses_then (records_part data_set) rest c.take_version.new.input c.read_records.new.input c.read_rest.new.input _ _ _ records.1 c.in_ok-rest.ensures.ok) in
    let is : rest ≡ rows_part stations ++ (texts_part held ++ end_line) = sym c.deref.ensures.value ∙ after.2 in (
      first_line v ++ one,
      uses,
      file_found v (first_line v ++ one) one (texts_part held ++ end_line) end_line (base_with data_set stations) held refl (records.0, after.0) (ap (λ (bs : List ℕ). records_part data_set ++ bs) is) after.1 refl refl,
    )

pub returns-clause-err : goal.returns-clause-err
returns-clause-err g c =
    let v = c.in-Some.version in
    let data_set = c.in_ok-data_set.data_set in
    let rest = c.in_ok-rest.rest.items in
    let first = rw c.in-Some.is at c.in_ok-version.ensures.some in
    let records = c.in_ok-data_set.ensures.ok in
    let one = records_part data_set ++ rest in
    let uses = uses_then (first_line v) one c.args.input.now c.take_version.new.input c.read_rest.new.input _ _ _ first
    (uses_then (records_part data_set) rest c.take_version.new.input c.read_records.new.input c.read_rest.new.input _ _ _ records.1 c.in_ok-rest.ensures.ok) in
    let all = c.in_ok-rest.ensures.all in
    of_known NoDesk (first_line v ++ one) _ _ uses.next
    (λ later at short base es file.
    let none = last_ahead c.read_rest.new.input _ later all.0 all.1 at in
    let whole : (first_line v ++ one) ++ later ≡ first_line v ++ one = ap (λ (bs : List ℕ). (first_line v ++ one) ++ bs) none ∙ append-nil (first_line v ++ one) in
    let a = after_records c.saved_records_are_read.ensures.one c.equal_where_written_equal.ensures ((first_line v ++ one) ++ later) one v short whole rest data_set records.0 refl base es file in
    c.in-Err-Invalid.ensures.err (not_memory c.in-Err-Invalid.field-0 c.in-Err-Invalid.left c.in-Err-Invalid.field-0-is) base.rows es a.rows file.saved.rows a.texts a.held (c.deref.ensures.value ∙ a.read))
