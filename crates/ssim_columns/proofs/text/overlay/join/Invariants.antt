use Rattle.std.proofs.Common.{◌≡◌, ◌+◌, ℕ, List, length, take, drop}
use Rattle.std.specs.List.{flat_map}
use Rattle.ssim_columns.proofs.text.overlay.join.Given as goal

pub record IsJoined (at : ℕ) (out : List ℕ) (done : List ℕ) (todo : List ℕ) : Type 0 where
  pub front : take at out ≡ done
  pub so_far : at ≡ length done
  pub room : length done + length todo ≡ length out

abbrev pub invariant-loop-part : goal.invariant-loop-part
invariant-loop-part l = IsJoined l.at l.out (flat_map (λ part. part.now) (take l.part-index l.parts)) (flat_map (λ part. part.now) (drop l.part-index l.parts))
