-- The messages are applied from a checkpoint on, and both parts of the desk get what follows.
use Rattle.std.proofs.Common.{◌≤◌, ◌++◌, List, length, take, sym, subst, arith}
use Rattle.ssim_base.specs.BaseSeen.{BaseSeen}
use Rattle.ssim_held.specs.Entries.{DeskSeen, Entry}
use Rattle.ssim_desk.specs.clauses.Desk.{ScheduledDesk}
use Rattle.ssim_desk.specs.internal.Changes.{AreSchedules, IsReplay}
use Rattle.ssim_desk.proofs.desk.Desk.replace_from.Goals as goal

pub invariant_of-self : goal.invariant_of-self
invariant_of-self c =
    let h = c.self.inside.holdings in c.reserve.ensures.same h.base h.held c.self.invariant

pub invariant_of-self-in_err-replace_from : goal.invariant_of-self-in_err-replace_from
invariant_of-self-in_err-replace_from c =
    let h = c.self.inside.holdings in
    subst (λ (d : DeskSeen). AreSchedules d.base d.held c.reserve.new.self)
    (sym c.in_err-replace_from.ensures.err) (c.reserve.ensures.same h.base h.held c.self.invariant)

pub invariant_of-self-2 : goal.invariant_of-self-2
invariant_of-self-2 c =
    let h = c.self.inside.holdings in let at = c.args.at in let rest = c.args.rest.items in
    let r = c.apply_all.new.self in
    let place = subst (λ (d : ScheduledDesk). at ≤ length d.seen.held) (sym c.self.view_is) c.requires.within in
    let low : r.from ≤ at = omega (arith, c.in_ok-apply_all.ensures.from, c.in_ok-replay.ensures.low) in
    let replay = c.in_ok-apply_all.ensures.applied (take at c.held-held.result.now) c.in_ok-replay.ensures.replay in
    let replayed : IsReplay h.base (take at h.held ++ rest) r =
    subst (λ (b : BaseSeen). IsReplay b (take at h.held ++ rest) r) c.base-base.ensures
    (subst (λ (es : List Entry). IsReplay c.base-base.result.now (take at es ++ rest) r) c.held-held.ensures.value
    (subst (λ (es : List Entry). IsReplay c.base-base.result.now (take at c.held-held.result.now ++ es) r)
    c.deref.ensures.value replay)) in
    let history = c.put.ensures.is h.base h.held rest at place low
    (c.in_ok-reserve.ensures.same h.base h.held c.self.invariant) replayed in
    subst (λ (b : BaseSeen). AreSchedules b c.replace_from.new.self.held c.put.new.self)
    (sym c.in_ok-replace_from.ensures.base)
    (subst (λ (es : List Entry). AreSchedules h.base es c.put.new.self) (sym c.in_ok-replace_from.ensures.ok) history)
