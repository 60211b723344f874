-- The notes are left out. Reading to the end counted no failure, and nothing is read after the end.
use Rattle.std.proofs.Common.{◌≡◌, Err, rules}
use Rattle.ssim_base.proofs.RestLemmas.{whole-within}
use Rattle.ssim_base.proofs.data_set.DataSet.read.Goals as goal

pub returns-in_err-data_set-clause-err : goal.returns-in_err-data_set-clause-err
returns-in_err-data_set-clause-err g c =
    let fault = c.in_err-data_set.field-0.0 in
    let e : c.from_residual-in_err-data_set.result ≡ Err fault = search rules in
    rw e (c.in_err-data_set.ensures.err c.args.limit (g.R.Source.state c.args.reader.now)
    (g.R.Source.state c.read_whole.new.reader) c.in_ok-records_read.ensures.ok
    c.in_ok-records_read.ensures.no_failure)

pub returns-clause-read : goal.returns-clause-read
returns-clause-read g c =
    let told = (g.R.Source.state c.args.reader.now).left in
    let h = c.in_ok-records_read.ensures.ok in
    (c.in_ok-data_set.field-0-1.items, (c.in_ok-data_set.ensures.read c.args.limit told h, whole-within c.args.limit told h.done c.in_ok-records_read.number h.given))
