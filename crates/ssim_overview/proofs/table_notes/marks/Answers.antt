-- One end more.
use Rattle.std.proofs.Common.{ℕ, ◌∙◌, ◌||◌, Bool, take, ap, sym}
use Rattle.std.specs.List.{list_any}
use Rattle.std.proofs.lemmas.List.Folds.{list_any_more}
use Rattle.ssim_overview.specs.internal.StationNotes.{DatedEnd, is_marked_by}
use Rattle.ssim_overview.proofs.table_notes.marks.Goals as goal

pub loop-end-preserved : goal.loop-end-preserved
loop-end-preserved c =
    let ends = c.args.ends.now in let i = c.loop-end.end-index in let end = c.end-item.result in
    let marks = λ (n : ℕ) (e : DatedEnd).
    is_marked_by c.args.station c.args.kind c.args.rows.now n e in
    record {
      len = c.mark_end.ensures.len ∙ c.loop-end.invariant.len;
      each = λ n lt. c.mark_end.ensures.each n lt
          ∙ ap (λ (b : Bool). b || marks n end) (c.loop-end.invariant.each n lt)
          ∙ sym (list_any_more (marks n) ends i end c.loop-end-test.true
          ∙ ap (λ (e : DatedEnd). list_any (marks n) (take i ends) || marks n e)
          (sym c.end-item.is));
    }
