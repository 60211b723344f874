-- The base has the records of the data set.
use Rattle.std.proofs.Common.{◌≡◌, List, Err, rules, sym, subst}
use Rattle.ssim_records.specs.declared.record.Record.{Record}
use Rattle.ssim_base.specs.Reading.{IsReadOf}
use Rattle.ssim_base.proofs.NotedReads.{of_base, told_of}
use Rattle.ssim_base.proofs.base.Base.read.Goals as goal

pub returns-in_err-data_set-clause-read : goal.returns-in_err-data_set-clause-read
returns-in_err-data_set-clause-read g c =
    let fault = c.in_err-data_set.field-0.0 in
    let e : c.from_residual.result ≡ Err fault = search rules in
    rw e (of_base fault (IsReadOf c.args.limit (g.R.Source.state c.args.reader.now).left) c.in_err-data_set.ensures.read)

pub returns-clause-read : goal.returns-clause-read
returns-clause-read g c =
    subst (λ (rs : List Record). IsReadOf c.args.limit (g.R.Source.state c.args.reader.now).left (told_of rs c.in_ok-data_set.notes.items)) (sym c.of-base.ensures.records) c.in_ok-data_set.ensures.read
