-- The values of one more place are added.
use Rattle.std.proofs.Common.{ℕ, List, [], Bor, ap, rules, unwrap_or}
use Rattle.clap.specs.Words.{all_of, found_of, rows_of}
use Rattle.ssim_command_line.proofs.Rows.{place_added}
use Rattle.ssim_command_line.proofs.command_line.values_in.Goals as goal

pub loop-place-preserved : goal.loop-place-preserved
loop-place-preserved c =
    place_added (λ id. unwrap_or (all_of id (rows_of (found_of c.args.inner.now))) []) (λ (p : Bor (List ℕ)). p.now)
    _ c.loop-place.place-index (record { ref_ptr = (0, 0); now = [] }) _ _ _ (search rules) c.loop-place.invariant
    (ap (λ o. unwrap_or o []) c.values_at.ensures) c.in_ok-add_values.ensures
