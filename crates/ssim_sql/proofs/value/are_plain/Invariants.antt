-- All are plain if those that were passed and those that are left are.
use Rattle.std.proofs.Common.{◌≡◌, ◌&&◌, drop}
use Rattle.std.specs.List.{list_all}
use Rattle.ssim_sql.specs.internal.Values.{is_plain}
use Rattle.ssim_sql.proofs.value.are_plain.Given as goal

abbrev pub invariant-loop-byte : goal.invariant-loop-byte
invariant-loop-byte l =
    (l.all && list_all is_plain (drop l.byte-index l.bytes)) ≡ list_all is_plain l.bytes
