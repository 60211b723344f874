-- A section is put: what becomes of it is found and done, unless memory runs out before.
use Rattle.std.proofs.Common.{rules, ◌≡◌, ◌∙◌, ◌∷◌, [], ◌++◌, Err, List, Ok, ap, refl, subst}
use Rattle.ssim_parts.specs.clauses.Sections.{section_seen}
use Rattle.ssim_program.specs.Splitting.{Section, fate_of}
use Rattle.ssim_program.specs.World.{world}
use Rattle.ssim_program.specs.internal.Splitting.{fate_seen}
use Rattle.ssim_program.specs.declared.refusal.Refusal.TheVariants as refused
use Rattle.ssim_program.proofs.Splitting.{puts, puts-none}
use Rattle.ssim_program.proofs.command.split.put_section.Goals as goal

pub returns-in_err-fate : goal.returns-in_err-fate
returns-in_err-fate g c =
    let why = c.in_err-fate.field-0.0 in
    let is : c.from_residual.result ≡ Err why = search rules in
    let done = c.args.done.now.items in
    let w = world (g.S.Store.files c.args.store.now) (g.S.Store.failures c.args.store.now)
    c.args.out.now in
    rw is (puts-none c.args.prefix.now done done (section_seen c.args.section) w why
    c.in_err-fate.ensures.err)

pub returns-in_err-push : goal.returns-in_err-push
returns-in_err-push g c =
    let is : c.from_residual-in_err-push.result ≡ Err refused.Memory = search rules in
    let w = world (g.S.Store.files c.args.store.now) (g.S.Store.failures c.args.store.now)
    c.args.out.now in
    rw is (puts-none c.args.prefix.now c.args.done.now.items c.push.new.self.items
    (section_seen c.args.section) w refused.Memory refl)

pub returns : goal.returns
returns g c =
    let items = c.in_ok-push.ensures.items
    ∙ ap (λ k. c.args.done.now.items ++ (c.args.section.airline, k) ∷ []) c.is_kept.ensures in
    let fate = fate_seen c.in_ok-fate.fate in
    let read = section_seen c.args.section in
    let made = subst (λ (ds : List Section). fate_of c.args.prefix.now ds read (Ok fate))
    c.deref.ensures.value c.in_ok-fate.ensures.ok in
    puts c.args.prefix.now c.args.done.now.items c.push.new.self.items read fate _ _ c.act.result
    made items c.act.ensures
