use Rattle.std.proofs.Common.{◌≡◌, List, take, ◌++◌}
use Rattle.ssim_base.specs.BaseSeen.{BaseSeen}
use Rattle.ssim_held.specs.Entries.{Entry}
use Rattle.ssim_desk.specs.internal.Changes.{IsReplay}
use Rattle.ssim_desk.specs.declared.replay.Replay.{Replay}
use Rattle.ssim_desk.proofs.replay.Replay.apply_all.Given as goal

pub record AreApplied (base : BaseSeen) (messages : List Entry) (old now : Replay) : Type 0 where
  pub from : now.from ≡ old.from
  pub applied : (before : List Entry) → IsReplay base before old → IsReplay base (before ++ messages) now

abbrev pub invariant-loop-held : goal.invariant-loop-held
invariant-loop-held l = AreApplied l.base (take l.held-index l.messages) l.fn.self l.self
