-- The two clauses of `read_station` are one equation.
use Rattle.std.proofs.Common.{◌≡◌, Option, Some, None, IfSome, IfNone, sym}
use Rattle.ssim_outbox.proofs.segment_tails.station_in.Goals as goal

is_option : {A : Type 0} (r x : Option A) → IfSome r (λ s. x ≡ Some s) → IfNone r (x ≡ None) → r ≡ x
is_option (Some s) x some none = sym some
is_option None x some none = sym none

pub returns : goal.returns
returns c = is_option _ _ c.read_station.ensures.some c.read_station.ensures.none
