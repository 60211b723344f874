-- The day, the sequence and the tails are those of the period and of the leg.
use Rattle.std.proofs.Common.{◌≡◌, ◌++◌, List, ℕ, OnOk, subst}
use Rattle.ssim_sql.specs.SegmentRows.{segment_row}
use Rattle.ssim_sql.specs.Statements.{numbered}
use Rattle.ssim_sql.specs.internal.Tables.{script_with}
use Rattle.ssim_sql.proofs.segment_rows.put_segments.Goals as goal

pub returns : goal.returns
returns c =
    let of = c.args.of.now in
    subst (λ (rows : List (List ℕ)). OnOk c.put_numbered.result ((later : List (List ℕ))
    → script_with c.put_numbered.new.table later ≡ script_with c.args.table.now (rows ++ later)))
    (λ k. numbered (segment_row of.name.now of.flight.now (c.first.ensures.value k)
    (c.sequence.ensures.value k)) 1 (c.tails.ensures k)) c.put_numbered.ensures
