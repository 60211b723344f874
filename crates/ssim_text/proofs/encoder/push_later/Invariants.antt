-- The sub-messages so far are written.
use Rattle.std.proofs.Common.{◌≡◌, ◌++◌, take}
use Rattle.ssim_text.specs.Grammar.{later_parts}
use Rattle.ssim_text.specs.Canonical.{written}
use Rattle.ssim_text.proofs.encoder.push_later.Given as goal

abbrev pub invariant-loop-sub : goal.invariant-loop-sub
invariant-loop-sub l = l.out.items ≡ l.initial.out.items ++ written (later_parts (take l.sub-index l.subs))
