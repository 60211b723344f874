-- Reading to the end counted no failure, and nothing is read after the end.
use Rattle.ssim_base.proofs.data_set.DataSet.read_noted.Goals as goal

pub returns-clause-err : goal.returns-clause-err
returns-clause-err g c =
    c.finish.ensures.by_record c.args.limit (g.R.Source.state c.args.reader.now)
    (g.R.Source.state c.read_records.new.reader) c.in_ok-records_read.ensures.no_failure
