-- Part by part, what was read is what comes after the records, and what was not read is not.
use Rattle.std.proofs.Common.{rules, ◌≡◌, ◌++◌, ◌<◌, ◌^◌, [], length, Err, arith}
use Rattle.ssim_base.specs.BaseSeen.{base_with}
use Rattle.ssim_held.specs.File.{end_line, rows_part, texts_part}
use Rattle.ssim_held.proofs.PartFaults.{handed_on}
use Rattle.ssim_held.proofs.SavedFiles.{rows_are, shorter, small_texts, texts_are}
use Rattle.ssim_held.proofs.desk_file_reader.read_after.Goals as goal

pub returns-in_err-held-clause-err : goal.returns-in_err-held-clause-err
returns-in_err-held-clause-err c =
    let short : length c.args.bytes.now < 2 ^ 64 = omega arith in
    let mine = c.in_ok-stations.ensures.ok in
    let k : c.from_residual-in_err-held.result ≡ Err c.in_err-held.field-0.0 = search rules in
    handed_on c.from_residual-in_err-held.result c.in_err-held.field-0.0 _ k
    (λ invalid rows es low all few held e.
    c.in_err-held.ensures.err invalid es end_line few held
    (rows_are c.saved_records_are_read.ensures.one c.equal_where_written_equal.ensures c.args.bytes.now c.in_ok-stations.rest.now (texts_part es ++ end_line) c.in_ok-stations.stations rows short mine.0 all low mine.1 e))

pub returns-in_err-read_end-clause-err : goal.returns-in_err-read_end-clause-err
returns-in_err-read_end-clause-err c =
    let short : length c.args.bytes.now < 2 ^ 64 = omega arith in
    let once = c.saved_records_are_read.ensures.one in
    let equal = c.equal_where_written_equal.ensures in
    let mine = c.in_ok-stations.ensures.ok in
    let texts = c.in_ok-held.ensures.ok in
    let two = c.in_ok-stations.rest.now in
    let three = c.in_ok-held.rest.now in
    let own = c.in_ok-held.held.items in
    let k : c.from_residual-in_err-read_end.result ≡ Err c.in_err-read_end.field-0.0 = search rules in
    handed_on c.from_residual-in_err-read_end.result c.in_err-read_end.field-0.0 _ k
    (λ invalid rows es low all few held e.
    let rest = rows_are once equal c.args.bytes.now two (texts_part es ++ end_line) c.in_ok-stations.stations rows short mine.0 all low mine.1 e in
    let small = small_texts two three own texts.1 (shorter c.args.bytes.now (rows_part c.in_ok-stations.stations) two mine.1 short) in
    c.in_err-read_end.ensures.err
    (texts_are once equal c.args.version c.args.data_set.now (base_with c.args.data_set.now []) own es two three end_line texts.0 held small few texts.1 rest).1)
