-- One more message acts; in the end all have acted.
use Rattle.std.proofs.Common.{◌≡◌, List, ◌++◌, take, ap, subst, ◌∙◌}
use Rattle.std.proofs.lemmas.List.{take_all}
use Rattle.ssim_text.specs.Message.{MessageValue}
use Rattle.ssim_held.specs.Entries.{Entry}
use Rattle.ssim_desk.specs.Desk.{sub_lines}
use Rattle.ssim_desk.specs.Meaning.{after_entries, subs_findings}
use Rattle.ssim_desk.specs.declared.finding_line.FindingLine.{FindingLine}
use Rattle.ssim_desk.specs.internal.Changes.{Shows}
use Rattle.ssim_desk.proofs.SomeFlights.{after_one_more, lines_one_more}
use Rattle.ssim_desk.proofs.flights.act_all.Goals as goal

pub loop-held-preserved : goal.loop-held-preserved
loop-held-preserved c = λ before shows.
    let rows = c.args.rows.now in
    let messages = c.args.messages.now in
    let k = c.loop-held.held-index in
    let e = c.held-item.result in
    let so_far = c.loop-held.invariant before shows in
    let between = after_entries rows (take k messages) before in
    let subs : c.subs.result.now ≡ e.message.subs =
    c.subs.ensures.value ∙ ap (λ (m : MessageValue). m.subs) c.message.ensures in
    let found : c.deref.result.now ≡ subs_findings rows e.message.subs e.dates between =
    c.deref.ensures.value ∙ c.in_ok-found.ensures.found between so_far.shows in
    let lines : sub_lines c.reference.result 1 c.subs.result.now c.deref.result.now
    ≡ sub_lines e.reference 1 e.message.subs (subs_findings rows e.message.subs e.dates between) =
    λ i. sub_lines (c.reference.ensures i) 1 (subs i) (found i) in
    record {
      shows =
          subst (Shows c.act.new.schedule)
          (after_one_more rows messages k e c.loop-held-test.true c.held-item.is before)
          (c.in_ok-found.ensures.shows between so_far.shows);
      lines_are =
          c.in_ok-push_subs.ensures
          ∙ ap (λ (ls : List FindingLine). c.loop-held.lines.items ++ ls) lines
          ∙ ap (λ (ls : List FindingLine). ls
          ++ sub_lines e.reference 1 e.message.subs (subs_findings rows e.message.subs e.dates between))
          so_far.lines_are
          ∙ lines_one_more rows messages k e c.loop-held-test.true c.held-item.is before;
    }

pub returns-clause-shows : goal.returns-clause-shows
returns-clause-shows c = λ before shows.
    let so_far = c.loop-held.invariant before shows in
    subst (λ (es : List Entry). Shows c.loop-held.schedule (after_entries c.args.rows.now es before))
    (take_all c.loop-held.held-index c.args.messages.now c.loop-held-test.false) so_far.shows
