-- The values of the places so far.
use Rattle.std.proofs.Common.{◌≡◌, map, take, flat_map, [], unwrap_or}
use Rattle.clap.specs.Words.{all_of, found_of, rows_of}
use Rattle.ssim_command_line.proofs.command_line.values_in.Given as goal

abbrev pub invariant-loop-place : goal.invariant-loop-place
invariant-loop-place l =
    map (λ v. v.now) l.values.items ≡ flat_map (λ id. unwrap_or (all_of id (rows_of (found_of l.inner))) [])
    (map (λ p. p.now) (take l.place-index l.place-items))
