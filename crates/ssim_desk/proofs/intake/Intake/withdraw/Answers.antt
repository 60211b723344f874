-- The list without the message at its place is the map without the message.
use Rattle.std.proofs.Common.{◌≡◌, ◌∙◌, suc, None, Some, drop, take, is_some, sym, ap, subst}
use Rattle.std.proofs.lemmas.List.Elements.{All-append, All-drop, All-take}
use Rattle.std.specs.FinMap.{contains_key, get, remove}
use Rattle.ssim_held.specs.Entries.{AreEntries, DeskSeen, IsEntry, map_of}
use Rattle.ssim_held.specs.clauses.Pages.{all_of, position}
use Rattle.ssim_held.proofs.Entries.{held_at, not_held}
use Rattle.ssim_held.proofs.Withdrawing.{map_of_without, rising_without, without_absent}
use Rattle.ssim_desk.proofs.intake.Intake.withdraw.Goals as goal

pub remove-requires : goal.remove-requires
remove-requires c = let found = c.in-Ok.ensures.found in (found.page, found.is_page, found.within)

pub invariant_of-self : goal.invariant_of-self
invariant_of-self c =
    let i = c.self.inside in
    let es = all_of i.pages in
    let at = position i.pages c.in-Ok.place in
    let one = IsEntry i.base.records in
    subst (AreEntries i.base.records) (sym c.remove.ensures) (record {
      rising = rising_without es at c.self.invariant.rising;
      each = All-append one (take at es) (drop (suc at) es) (All-take one at es c.self.invariant.each)
          (All-drop one (suc at) es c.self.invariant.each);
    })

pub returns-in-Ok-clause-held : goal.returns-in-Ok-clause-held
returns-in-Ok-clause-held c =
    let ps = c.self.inside.pages in
    let es = all_of ps in
    let at = position ps c.in-Ok.place in
    let reference = c.args.reference.now in
    let found = c.in-Ok.ensures.found in
    ap map_of c.remove.ensures ∙ map_of_without es at found.entry c.self.invariant.rising found.there
    ∙ ap (remove (map_of es)) found.its ∙ ap (λ (d : DeskSeen). remove (map_of d.held) reference) c.self.view_is

pub returns-in-Ok-clause-was_held : goal.returns-in-Ok-clause-was_held
returns-in-Ok-clause-was_held c =
    let ps = c.self.inside.pages in
    let es = all_of ps in
    let at = position ps c.in-Ok.place in
    let reference = c.args.reference.now in
    let found = c.in-Ok.ensures.found in
    let got : get (map_of es) reference ≡ Some found.entry.message =
    ap (get (map_of es)) (sym found.its) ∙ held_at es at found.entry c.self.invariant.rising found.there in
    sym (ap is_some got) ∙ ap (λ (d : DeskSeen). contains_key (map_of d.held) reference) c.self.view_is

pub returns-in-Err-clause-held : goal.returns-in-Err-clause-held
returns-in-Err-clause-held c =
    let ps = c.self.inside.pages in
    let es = all_of ps in
    let reference = c.args.reference.now in
    let absent = c.in-Err.ensures.absent in
    let none = not_held es (position ps c.in-Err.field-0) reference c.self.invariant.rising absent.belongs in
    subst (λ (d : DeskSeen). map_of d.held ≡ remove (map_of d.held) reference) c.self.view_is
    (sym (without_absent (map_of es) reference none))

pub returns-in-Err-clause-was_held : goal.returns-in-Err-clause-was_held
returns-in-Err-clause-was_held c =
    let ps = c.self.inside.pages in
    let es = all_of ps in
    let reference = c.args.reference.now in
    let absent = c.in-Err.ensures.absent in
    let none : get (map_of es) reference ≡ None = not_held es (position ps c.in-Err.field-0) reference c.self.invariant.rising absent.belongs in
    sym (ap is_some none) ∙ ap (λ (d : DeskSeen). contains_key (map_of d.held) reference) c.self.view_is
