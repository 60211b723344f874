-- The lines of the texts so far were added.
use Rattle.std.proofs.Common.{◌≡◌, ◌++◌, take}
use Rattle.std.specs.List.{flat_map}
use Rattle.ssim_calendar.specs.Legend.{text_after}
use Rattle.ssim_calendar.specs.clauses.Legend.{texts_of}
use Rattle.ssim_calendar.proofs.legend.push_later.Given as goal

abbrev pub invariant-loop-text : goal.invariant-loop-text
invariant-loop-text l = l.lines.items ≡ l.initial.lines.items ++ flat_map (text_after l.head) (texts_of (take l.text-index l.texts))
