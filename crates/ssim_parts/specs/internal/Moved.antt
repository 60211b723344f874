-- Bounds of moved times.
use Rattle.std.specs.Prelude.{◌≤◌, IfSome}
use Rattle.ssim_parts.specs.declared.moved_end.MovedEnd.{MovedEnd}

-- an end that was moved by a UTC variation of at most 15 hours
pub record IsMoved (end : MovedEnd) : Type 0 where
  pub day : end.day ≤ 11
  pub minutes : end.minutes ≤ 1440
  pub passenger : IfSome end.passenger (λ minutes. minutes ≤ 1440)
  pub variation : end.variation.minutes ≤ 900
