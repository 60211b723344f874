-- What is written is what is held.
use Rattle.std.proofs.Common.{OnOk, All, List, ℕ, ap, subst, ◌∙◌}
use Rattle.ssim_base.specs.SavedBase.{IsBaseRecords}
use Rattle.ssim_base.specs.clauses.Sinks.{Puts}
use Rattle.ssim_base.specs.Stations.{Row}
use Rattle.ssim_held.specs.File.{CanBeSaved, IsRow, IsSpelled, desk_file}
use Rattle.ssim_held.specs.Entries.{DeskSeen, Entry}
use Rattle.ssim_desk.proofs.DeskFiles.{file_is, from_parts}
use Rattle.ssim_desk.proofs.holdings.Holdings.save.Goals as goal

pub returns-clause-puts : goal.returns-clause-puts
returns-clause-puts g c =
    let i = c.self.inside in
    let file = file_is i.base i.held.items c.deref.result.now c.records.result.now
    c.rows.result.now c.records.ensures.value c.rows.ensures c.deref.ensures.value in
    subst (λ (bytes : List ℕ). Puts bytes (g.W.Sink.state c.args.out.now)
    (g.W.Sink.state c.put_desk.new.out) c.put_desk.result)
    (file ∙ ap (λ (d : DeskSeen). desk_file d.base d.held) c.self.view_is) c.put_desk.ensures.puts

pub returns-clause-can_be_saved : goal.returns-clause-can_be_saved
returns-clause-can_be_saved g c =
    let i = c.self.inside in
    subst (λ (d : DeskSeen). OnOk c.put_desk.result (CanBeSaved d.base d.held)) c.self.view_is
    (from_parts c.put_desk.result i.base i.held.items c.self.invariant
    (subst IsBaseRecords c.records.ensures.value c.records.ensures.is_base)
    (subst (λ (r : List Row). OnOk c.put_desk.result (All IsRow r)) c.rows.ensures
    c.put_desk.ensures.rows)
    (subst (λ (es : List Entry). OnOk c.put_desk.result (All IsSpelled es)) c.deref.ensures.value
    c.put_desk.ensures.spelled))
