-- The blocks so far are those of the section, and the others are left.
use Rattle.std.proofs.Common.{◌≡◌, ℕ, ◌+◌, ◌-◌, ◌*◌, ◌≤◌, List, ◌++◌, Option}
use Rattle.std.specs.Prelude.{None}
use Rattle.ssim_records.specs.Device.{Reader}
use Rattle.ssim_records.specs.clauses.Reading.{Reading}
use Rattle.ssim_parts.specs.Sections.{Before, Block}
use Rattle.ssim_parts.specs.clauses.Sections.{Knows}
use Rattle.ssim_parts.specs.declared.section_builder.SectionBuilder.{SectionBuilder}
use Rattle.ssim_parts.specs.internal.SectionBlocks.{HasRead}
use Rattle.ssim_parts.specs.internal.SectionSteps.{BeginNone, GoesOn}
use Rattle.ssim_parts.proofs.sections.read_own.Given as goal

pub record Goes {R : Type 0} (state : R → Reader) (start reader : R) (old r : Reading)
    (before now : SectionBuilder) : Type 0 where
  pub open' : r.ended ≡ None
  pub limit_is : r.limit ≡ old.limit
  pub few : now.records ≤ r.number
  pub rises : old.number ≤ r.number
  pub own : List Block
  pub none : BeginNone own
  pub read : (b : Before) (blocks : List Block) → HasRead b blocks before → HasRead b (blocks ++ own)
      now
  pub goes : (known known' : Option (List ℕ)) → Knows (state start).left (state reader).left known
      known'
      → GoesOn old known r known' own
  pub no_failure : (state reader).failures ≡ (state start).failures

abbrev pub invariant-loop-next : goal.invariant-loop-next
invariant-loop-next g l =
    Goes g.R.Source.state l.initial.reader l.reader l.initial.blocks l.blocks l.initial.section
    l.section

abbrev pub decreases-loop-next : goal.decreases-loop-next
decreases-loop-next g l = l.initial.blocks.limit + 1 - 200 * l.blocks.number
