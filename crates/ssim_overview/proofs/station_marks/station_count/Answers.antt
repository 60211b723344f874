-- The marks of the stations, counted.
use Rattle.std.proofs.Common.{◌≡◌, ◌∙◌, ◌++◌, List, ℕ, Bool, false, ap, sym, length, drop, take, slice_index_or}
use Rattle.std.specs.List.{count_by}
use Rattle.std.proofs.Math.Seq.{take-append_seam}
use Rattle.ssim_overview.specs.internal.Totals.{is_in_flights}
use Rattle.ssim_overview.proofs.StationMarks.{marks_counted}
use Rattle.ssim_overview.proofs.station_marks.station_count.Goals as goal

pub returns : goal.returns
returns c =
    let old = c.deref_mut.result.now in let new = c.mark_flights.new.marks in
    let items = c.in_ok-marks.marks.items in
    let was = c.deref_mut.ensures.value in
    let size : c.in_ok-marks.marks.len ≡ length new =
    sym c.deref_mut.ensures.len ∙ sym c.mark_flights.ensures.len in
    let now : c.deref.result.now ≡ new = c.deref.ensures.value
    ∙ ap (λ (n : ℕ). take n (new ++ drop (length new) items)) size
    ∙ take-append_seam new (drop (length new) items) in
    c.count_marks.ensures ∙ ap (count_by (λ (mark : Bool). mark)) now
    ∙ marks_counted (is_in_flights c.args.flights.now) old new
    (ap length was ∙ c.in_ok-marks.ensures.count)
    (λ k. ap (λ (marks : List Bool). slice_index_or marks k false) was ∙ c.in_ok-marks.ensures.none k)
    c.mark_flights.ensures
