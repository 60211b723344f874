-- The bytes are cut after the length of the prefix.
use Rattle.std.proofs.lemmas.Bool.Decides.{Decides-eqb}
use Rattle.std.proofs.lemmas.Slice.Eq.{slice_eq-Decides}
use Rattle.std.proofs.Common.{sym, ◌∙◌}
use Rattle.ssim_held.proofs.CountLines.{with_prefix, without_prefix}
use Rattle.ssim_held.proofs.desk_file_reader.count_line.after_prefix.Goals as goal

pub returns-then-eq-clause-some : goal.returns-then-eq-clause-some
returns-then-eq-clause-some c = with_prefix c.args.bytes.now c.args.prefix.now c.in_ok-start.start.now c.in_ok-start.rest.now c.in_ok-start.ensures.cases ((slice_eq-Decides Decides-eqb _ _ _ c.eq.ensures).0 c.if-eq.true)

pub returns-else-eq-clause-only : goal.returns-else-eq-clause-only
returns-else-eq-clause-only c = λ rest e.
    without_prefix c.args.bytes.now c.args.prefix.now c.in_ok-start.start.now c.in_ok-start.rest.now rest c.in_ok-start.ensures.cases
    (λ same. absurd (let yes = (slice_eq-Decides Decides-eqb _ _ _ c.eq.ensures).1 same in let apart = sym yes ∙ c.if-eq.false in cc)) e
