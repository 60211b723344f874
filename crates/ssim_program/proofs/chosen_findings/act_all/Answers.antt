-- One more message acts.
use Rattle.std.proofs.Common.{◌≡◌, ◌+◌, ◌∙◌, List, [], ◌∷◌, ◌++◌, append_assoc, ap, drop, map, sym}
use Rattle.std.proofs.lemmas.List.{append-nil, drop_all, drop_more}
use Rattle.ssim_text.specs.Message.{MessageValue}
use Rattle.ssim_held.specs.Entries.{Entry}
use Rattle.ssim_desk.specs.Desk.{sub_lines}
use Rattle.ssim_desk.specs.Meaning.{after_entry, subs_findings}
use Rattle.ssim_desk.specs.declared.finding_line.FindingLine.{FindingLine}
use Rattle.ssim_program.specs.internal.Spans.{part_entry, part_sub}
use Rattle.ssim_program.proofs.chosen_findings.act_all.Invariants.{lines_from}
use Rattle.ssim_program.proofs.chosen_findings.act_all.Goals as goal

pub loop-held-init : goal.loop-held-init
loop-held-init c = λ before shows. record {
  between = before;
  shows = shows;
  lines_are =
      ap (λ (ls : List FindingLine). ls
      ++ lines_from c.args.rows.now c.args.choice.now c.args.messages.now before)
      c.new-lines.ensures.items;
}

pub loop-held-preserved : goal.loop-held-preserved
loop-held-preserved c = λ before shows.
    let rows = c.args.rows.now in
    let choice = c.args.choice.now in
    let messages = c.args.messages.now in
    let k = c.loop-held.held-index in
    let e = c.held-item.result in
    let rest = drop (k + 1) messages in
    let so_far = c.loop-held.lines.items in
    let l = c.loop-held.invariant before shows in
    let after = after_entry rows (part_entry choice e) l.between in
    let next : drop k messages ≡ e ∷ rest =
    drop_more messages k e c.loop-held-test.true ∙ ap (λ (x : Entry). x ∷ rest) (sym c.held-item.is) in
    let subs : c.subs.result.now ≡ e.message.subs =
    c.subs.ensures.value ∙ ap (λ (m : MessageValue). m.subs) c.message.ensures in
    let finds = subs_findings rows e.message.subs (map (part_sub choice) e.dates) l.between in
    let found : c.deref.result.now ≡ finds =
    c.deref.ensures.value ∙ c.in_ok-found.ensures.found l.between l.shows in
    let added = sub_lines e.reference 1 e.message.subs finds in
    let lines : sub_lines c.reference.result 1 c.subs.result.now c.deref.result.now ≡ added =
    λ i. sub_lines (c.reference.ensures i) 1 (subs i) (found i) in
    record {
      between = after;
      shows = c.in_ok-found.ensures.shows l.between l.shows;
      lines_are =
          ap (λ (ls : List FindingLine). ls ++ lines_from rows choice rest after)
          (c.in_ok-push_subs.ensures ∙ ap (λ (ls : List FindingLine). so_far ++ ls) lines)
          ∙ append_assoc so_far added (lines_from rows choice rest after)
          ∙ ap (λ (es : List Entry). so_far ++ lines_from rows choice es l.between) (sym next)
          ∙ l.lines_are;
    }

pub returns : goal.returns
returns c = λ before shows.
    let rows = c.args.rows.now in
    let choice = c.args.choice.now in
    let messages = c.args.messages.now in
    let l = c.loop-held.invariant before shows in
    let lines = c.loop-held.lines.items in
    let none : drop c.loop-held.held-index messages ≡ [] =
    drop_all c.loop-held.held-index messages c.loop-held-test.false in
    sym (append-nil lines)
    ∙ sym (ap (λ (es : List Entry). lines ++ lines_from rows choice es l.between) none)
    ∙ l.lines_are
