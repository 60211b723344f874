-- The problems of the blocks so far are found, and the bytes that are left have the others.
use Rattle.std.proofs.Common.{◌≡◌, ℕ, ◌+◌, ◌-◌, ◌*◌, ◌≤◌, false, List, []}
use Rattle.std.specs.Prelude.{None}
use Rattle.ssim_records.specs.clauses.Blocks.{BytesCame, Fetches}
use Rattle.ssim_records.specs.Device.{Reader}
use Rattle.ssim_records.specs.clauses.Reading.{Reading}
use Rattle.ssim_base.specs.declared.problems.ProblemReader.{ProblemReader}
use Rattle.ssim_base.proofs.ProblemLemmas.{AreSoFar, ToldBlocks}
use Rattle.ssim_base.proofs.problems.Problems.read.Given as goal

pub record Goes {R : Type 0} (state : R → Reader) (limit : ℕ) (before reader : R) (r : Reading)
    (found : ProblemReader) : Type 0 where
  pub limit_is : r.limit ≡ limit
  pub open' : r.ended ≡ None
  pub counted : 200 * r.number ≤ limit + 1
  pub few : found.records ≤ r.number
  pub blocks : List (ℕ × List ℕ)
  pub so_far : AreSoFar found blocks
  pub told : ToldBlocks limit (state before).left (state reader).left r blocks
  pub fetched : Fetches false 0 [] (state before).left r.number r.held (state reader).left
  pub came : BytesCame (state before) (state reader) 0 r.came
  pub no_failure : (state reader).failures ≡ (state before).failures

abbrev pub invariant-loop-next : goal.invariant-loop-next
invariant-loop-next g l = Goes g.R.Source.state l.fn.limit l.initial.reader l.reader l.blocks l.found

abbrev pub decreases-loop-next : goal.decreases-loop-next
decreases-loop-next g l = l.fn.limit + 1 - 200 * l.blocks.number
