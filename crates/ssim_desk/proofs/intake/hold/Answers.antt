-- The message is looked up on the pages, and put into its gap.
use Rattle.std.proofs.Common.{◌≡◌, ◌∙◌, Some, refl, sym, ap, subst}
use Rattle.std.proofs.lemmas.Bool.{false≢true}
use Rattle.std.specs.FinMap.{get}
use Rattle.std.specs.List.{insert}
use Rattle.ssim_held.specs.Held.{DeskState}
use Rattle.ssim_held.specs.Entries.{AreEntries, Entry, map_of}
use Rattle.ssim_held.specs.clauses.Pages.{all_of, position}
use Rattle.ssim_held.proofs.OnPages.{held_on}
use Rattle.ssim_desk.proofs.Changes.{in_conflict, inserted_entries, is_known, is_new, known, says}
use Rattle.ssim_desk.proofs.intake.hold.Goals as goal

pub returns-then-same-clause-takes : goal.returns-then-same-clause-takes
returns-then-same-clause-takes c = λ base text spells resolves.
    let state : DeskState = record { base = base; held = map_of (all_of c.args.pages.now) } in
    let held : get (map_of (all_of c.args.pages.now)) c.args.resolved.reference ≡ Some c.at.result.now.message =
    held_on c.args.pages.now c.args.resolved.reference c.in-Ok.place c.requires.rising c.in-Ok.ensures.found c.at.result.now c.at.ensures in
    (known state text c.args.resolved.reference (is_known state text c.args.message c.args.resolved spells resolves (held ∙ ap Some (sym c.message.ensures ∙ c.if-same.ensures.0 refl))), refl)

pub returns-in-Ok-clause-takes : goal.returns-in-Ok-clause-takes
returns-in-Ok-clause-takes c = λ base text spells resolves.
    let state : DeskState = record { base = base; held = map_of (all_of c.args.pages.now) } in (
      in_conflict state text c.args.message c.args.resolved spells resolves c.at.result.now.message
          (held_on c.args.pages.now c.args.resolved.reference c.in-Ok.place c.requires.rising c.in-Ok.ensures.found c.at.result.now c.at.ensures)
          (λ e. false≢true (c.if-same.ensures.1 (c.message.ensures ∙ e))),
      refl,
    )

pub returns-clause-takes : goal.returns-clause-takes
returns-clause-takes c = λ base text spells resolves.
    let es = all_of c.args.pages.now in
    let e : Entry = record { reference = c.args.resolved.reference; message = c.args.message; dates = c.args.resolved.subs.items } in
    let state : DeskState = record { base = base; held = map_of es } in
    let at = position c.args.pages.now c.in-Err.place in
    let put = subst (λ (x : Entry). all_of c.insert.new.self ≡ insert es at x) c.in_ok-new-in-Err.ensures c.in_ok-insert-in-Err.ensures.ok in
    is_new (record { base = base; held = es; applied = 0 }) text e at (all_of c.insert.new.self) c.requires.rising c.in-Err.ensures.absent.belongs (says state text c.args.message c.args.resolved spells resolves) put

pub returns-clause-entries : goal.returns-clause-entries
returns-clause-entries c = λ records resolves old.
    let es = all_of c.args.pages.now in
    let e : Entry = record { reference = c.args.resolved.reference; message = c.args.message; dates = c.args.resolved.subs.items } in
    let at = position c.args.pages.now c.in-Err.place in
    let put = subst (λ (x : Entry). all_of c.insert.new.self ≡ insert es at x) c.in_ok-new-in-Err.ensures c.in_ok-insert-in-Err.ensures.ok in
    subst (AreEntries records) (sym put) (inserted_entries records es at e old c.in-Err.ensures.absent.belongs (record { text = c.args.resolved; resolves = resolves; referred = refl; dated = refl }))
