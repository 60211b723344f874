-- The tails whose leg record has not come yet.
use Rattle.std.specs.Prelude.{ℕ, nat_eq, if◌then◌else◌, List, [], Option, Some, None, reverse}
use Rattle.std.specs.Ordering.{nat_cmp}
use Rattle.std.specs.BTreeMap.{get}
use Rattle.std.specs.declared.alloc.Global.{Global}
use Rattle.std.specs.declared.vec.Vec.{Vec}
use Rattle.ssim_schedule.specs.declared.builder.pending_segments.PendingSegments.{PendingSegments}

-- pending tails in the order of their records; they are stored the other way round
abbrev pub in_file_order : Option (Vec (List ℕ) Global) → List (List ℕ)
in_file_order None = []
in_file_order (Some tails) = reverse tails.items

-- the pending tails of the leg whose name has this number
abbrev pub waiting_at : PendingSegments → ℕ → List (List ℕ)
waiting_at w place =
    if nat_eq place w.latest then reverse w.tails.items else in_file_order (get nat_cmp w.others place)
