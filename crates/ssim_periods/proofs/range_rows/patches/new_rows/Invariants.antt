use Rattle.std.proofs.Common.{◌≡◌, ◌+◌, ◌-◌, ◌<◌, ◌≤◌, ℕ, false, map, [], slice_index_or, vec_len, if◌then◌else◌, Some, None}
use Rattle.std.specs.List.{All}
use Rattle.ssim_values.specs.Calendar.{slot}
use Rattle.ssim_periods.specs.internal.Rows.{place, value_on}
use Rattle.ssim_periods.proofs.range_rows.patches.new_rows.Given as goal

abbrev pub invariant-loop-day : goal.invariant-loop-day
invariant-loop-day g l = record {
  from : l.first ≤ l.day;
  to : l.day ≤ l.end;
  at : l.day < l.end → l.place ≡ place l.cuts l.day;
  passed : l.first < l.day → l.place ≡ place l.cuts (l.day - 1) + 1;
  len : vec_len l.patches + place l.cuts l.first ≡ l.place;
  short : All (λ patch. vec_len patch ≤ 7) l.patches.items;
  patches : (n : ℕ) → l.first ≤ n → n < l.day → slice_index_or (slice_index_or (map (λ patch. patch.items) l.patches.items) (place l.cuts n - place l.cuts l.first) []) (slot n) None ≡ (if slice_index_or l.mask (slot n) false then Some (g.C.Change.outcome l.change (value_on g.V.Value.nothing l.before l.cuts l.rows n)) else None);
}

abbrev pub decreases-loop-day : goal.decreases-loop-day
decreases-loop-day g l = l.end - l.day
