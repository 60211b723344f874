-- The word names no refusal of a number before this one.
use Rattle.std.proofs.Common.{ℕ, ◌<◌}
use Rattle.ssim_program.specs.internal.Explain.{NamesNoneOf}
use Rattle.ssim_program.proofs.explain.name.on_name.Given as goal

abbrev pub invariant-loop-number : goal.invariant-loop-number
invariant-loop-number l = (n : ℕ) → n < l.number → NamesNoneOf n l.word
