-- One more section is put or not, or none is left, and the numbers are printed.
use Rattle.std.proofs.Common.{rules, ◌≡◌, ◌∙◌, [], ◌∷◌, inl, Err, List, None, ℕ, Ok, Option, Result, Some, refl, subst}
use Rattle.std.proofs.Common.{sym}
use Rattle.std.specs.Prelude.{IfSome}
use Rattle.ssim_parts.specs.clauses.Sections.{GivesSection, HasRest}
use Rattle.ssim_parts.specs.declared.section.Section.{Section as Declared}
use Rattle.ssim_program.specs.Acts.{Print}
use Rattle.ssim_program.specs.Answer.{Gives}
use Rattle.ssim_program.specs.Splitting.{Section, count_line, split, split_limit}
use Rattle.ssim_program.specs.World.{Does, World, world}
use Rattle.ssim_program.specs.declared.refusal.Refusal.{Refusal}
use Rattle.ssim_program.proofs.Acting.{refuses, same_world}
use Rattle.ssim_program.proofs.Splitting.{IsAt, at-first, at-next, knows-seen, not-put, not-read}
use Rattle.ssim_program.proofs.Splitting.{none-left, refuses-file, seen}
use Rattle.ssim_program.proofs.Within.{failures_of}
use Rattle.ssim_program.proofs.command.split.split_file.Goals as goal

-- ---- the file is not opened, or its first blocks are not read

pub returns-in_err-file : goal.returns-in_err-file
returns-in_err-file g c =
    let files = g.S.Store.files c.args.store.now in
    let out = c.args.out.now in
    let why = c.in_err-file.field-0.0 in
    let is : c.from_residual.result ≡ Err why = search rules in
    let w = world files (g.S.Store.failures c.args.store.now) out in
    let v = world (g.S.Store.files c.open_file.new.store) (g.S.Store.failures c.open_file.new.store) out in
    rw is (refuses (split files c.args.dataset.now c.args.prefix.now) w v why
    (inl (c.in_err-file.ensures.refused split_limit))
    (same_world _ _ _ _ out c.open_file.ensures.same c.open_file.ensures.counted))

pub returns-in-Err : goal.returns-in-Err
returns-in-Err g c =
    let files = g.S.Store.files c.args.store.now in
    let out = c.args.out.now in
    let state = g.S.File.Source.state in
    let unfailing = g.met.S.Store.unfailing c.args.store.now in
    let before = state c.in_ok-file.file in
    let after = state c.new.new.reader in
    let w = world files (g.S.Store.failures c.args.store.now) out in
    let v = world (g.S.Store.files c.open_file.new.store) (g.S.Store.failures c.open_file.new.store) out in
    subst (λ (x : World). Does (split files c.args.dataset.now c.args.prefix.now) w x
    (Err c.refusal_of.result))
    (sym (same_world _ _ _ _ out c.open_file.ensures.same c.open_file.ensures.counted))
    (refuses-file files c.args.dataset.now c.args.prefix.now before after c.in-Err.fault
    c.refusal_of.result w c.in_ok-file.ensures.opened
    (failures_of files state c.in_ok-file.file unfailing)
    (failures_of files state c.new.new.reader unfailing)
    (c.in-Err.ensures.err (seen files before.left) (seen files after.left)
    (knows-seen files before.left after.left)) c.refusal_of.ensures)

-- ---- from section to section

pub loop-section-init : goal.loop-section-init
loop-section-init g c =
    let files = g.S.Store.files c.args.store.now in
    let out = c.args.out.now in
    let state = g.S.File.Source.state in
    let before = state c.in_ok-file.file in
    let after = state c.new.new.reader in
    let w = world files (g.S.Store.failures c.args.store.now) out in
    let known = seen files after.left in
    let none : c.new-done.result.items ≡ [] = search rules in
    let v = world (g.S.Store.files c.open_file.new.store) (g.S.Store.failures c.open_file.new.store) out in
    subst (λ (ds : List Section). IsAt files c.args.dataset.now c.args.prefix.now w v ds c.in-Ok.sections
    known) (sym none)
    (subst (λ (x : World). IsAt files c.args.dataset.now c.args.prefix.now w x [] c.in-Ok.sections known)
    (sym (same_world _ _ _ _ out c.open_file.ensures.same c.open_file.ensures.counted))
    (at-first c.args.dataset.now c.args.prefix.now before.left after.left w c.in-Ok.sections
    c.in_ok-file.ensures.opened
    (c.in-Ok.ensures.ok (seen files before.left) known (knows-seen files before.left after.left))))

pub loop-section-preserved : goal.loop-section-preserved
loop-section-preserved g c =
    let files = g.S.Store.files c.args.store.now in
    let state = g.S.File.Source.state in
    let before = state c.loop-section.file in
    let after = state c.next_section.new.reader in
    let known = seen files before.left in
    let known' = seen files after.left in
    let old = c.loop-section.sections in
    let new = c.next_section.new.self in
    let some : c.in-Ok-Some.field-0 ≡ Some c.in-Ok-Some.section = search rules in
    at-next files c.args.dataset.now c.args.prefix.now _ _ _ c.loop-section.done.items
    c.put_section.new.done.items old new known known' c.in-Ok-Some.section c.loop-section.invariant
    (subst (λ (o : Option Declared). GivesSection old known new known' o) some
    (c.in-Ok-Some.ensures.ok known known' (knows-seen files before.left after.left)))
    c.in_ok-put_section-in-Ok-Some.ensures

pub returns-in_err-put_section-in-Ok-Some : goal.returns-in_err-put_section-in-Ok-Some
returns-in_err-put_section-in-Ok-Some g c =
    let files = g.S.Store.files c.args.store.now in
    let state = g.S.File.Source.state in
    let before = state c.loop-section.file in
    let after = state c.next_section.new.reader in
    let known = seen files before.left in
    let known' = seen files after.left in
    let knows = knows-seen files before.left after.left in
    let why = c.in_err-put_section-in-Ok-Some.field-0.0 in
    let is : c.from_residual-in_err-put_section-in-Ok-Some.result ≡ Err why = search rules in
    let old = c.loop-section.sections in
    let new = c.next_section.new.self in
    let some : c.in-Ok-Some.field-0 ≡ Some c.in-Ok-Some.section = search rules in
    rw is (not-put files c.args.dataset.now c.args.prefix.now _ _ _ c.loop-section.done.items
    c.put_section.new.done.items old new known known' c.in-Ok-Some.section why c.loop-section.invariant
    (subst (λ (o : Option Declared). GivesSection old known new known' o) some
    (c.in-Ok-Some.ensures.ok known known' knows))
    (subst (λ (o : Option Declared). IfSome o (λ _. HasRest new known')) some
    (c.in-Ok-Some.ensures.rest known known' knows)) c.in_err-put_section-in-Ok-Some.ensures)

pub returns-in-Ok-None : goal.returns-in-Ok-None
returns-in-Ok-None g c =
    let files = g.S.Store.files c.args.store.now in
    let state = g.S.File.Source.state in
    let before = state c.loop-section.file in
    let after = state c.next_section.new.reader in
    let known = seen files before.left in
    let known' = seen files after.left in
    let old = c.loop-section.sections in
    let new = c.next_section.new.self in
    let none : c.in-Ok-None.field-0 ≡ None = search rules in
    let now = g.S.Store.files c.loop-section.store in
    let failures = g.S.Store.failures c.loop-section.store in
    let w = world now failures c.loop-section.out in
    let v = world now failures c.print_counts.new.out in
    none-left files c.args.dataset.now c.args.prefix.now _ w v c.loop-section.done.items old new known
    known' c.print_counts.result c.loop-section.invariant
    (subst (λ (o : Option Declared). GivesSection old known new known' o) none
    (c.in-Ok-None.ensures.ok known known' (knows-seen files before.left after.left)))
    (subst (λ (ds : List Section). Does (Gives (Print (count_line ds) ∷ [])) w v c.print_counts.result)
    c.deref.ensures.value (c.print_counts.ensures now failures))

pub returns-in-Err-next_section : goal.returns-in-Err-next_section
returns-in-Err-next_section g c =
    let files = g.S.Store.files c.args.store.now in
    let state = g.S.File.Source.state in
    let unfailing = g.met.S.Store.unfailing c.args.store.now in
    let before = state c.loop-section.file in
    let after = state c.next_section.new.reader in
    not-read files c.args.dataset.now c.args.prefix.now _ _ c.loop-section.done.items
    c.loop-section.sections before after c.in-Err-next_section.fault c.refusal_of-in-Err-next_section.result
    c.loop-section.invariant (failures_of files state c.loop-section.file unfailing)
    (failures_of files state c.next_section.new.reader unfailing)
    (c.in-Err-next_section.ensures.err (seen files before.left) (seen files after.left)
    (knows-seen files before.left after.left)) c.refusal_of-in-Err-next_section.ensures
