-- The records so far were read, and the bytes that are left have the others.
use Rattle.std.proofs.Common.{◌≡◌, ℕ, ◌+◌, ◌-◌, ◌*◌, ◌≤◌, false, List, []}
use Rattle.std.specs.Prelude.{None}
use Rattle.ssim_records.specs.clauses.Blocks.{BytesCame, Fetches}
use Rattle.ssim_records.specs.Device.{Reader}
use Rattle.ssim_records.specs.clauses.Reading.{Reading}
use Rattle.ssim_records.specs.declared.record.Record.{Record}
use Rattle.ssim_base.specs.internal.DataSetReader.{IsSoFar}
use Rattle.ssim_base.specs.declared.data_set.reader.DataSetReader.{DataSetReader}
use Rattle.ssim_base.proofs.ReadingLemmas.{Numbered, Told}
use Rattle.ssim_base.proofs.data_set.reader.read_records.Given as goal

pub record Goes {R : Type 0} (state : R → Reader) (limit : ℕ)
    (Has : List Record → Type 0) (before reader : R) (r : Reading) (g : DataSetReader) : Type 0 where
  pub limit_is : r.limit ≡ limit
  pub open' : r.ended ≡ None
  pub counted : 200 * r.number ≤ limit + 1
  pub earlier : List Record
  pub done : List Numbered
  pub has : Has earlier
  pub so_far : IsSoFar g earlier done
  pub told : Told limit (state before).left (state reader).left r done
  pub fetched : Fetches false 0 [] (state before).left r.number r.held (state reader).left
  pub came : BytesCame (state before) (state reader) 0 r.came
  pub no_failure : (state reader).failures ≡ (state before).failures

abbrev pub invariant-loop-number : goal.invariant-loop-number
invariant-loop-number g l = Goes g.R.Source.state
    l.initial.blocks.limit (g.L.RecordSink.has l.records) l.initial.reader l.reader
    l.blocks l.records_read

abbrev pub decreases-loop-number : goal.decreases-loop-number
decreases-loop-number g l = l.initial.blocks.limit + 1 - 200 * l.blocks.number
