-- The file of a section is kept or not, and its lines are printed or not.
use Rattle.std.proofs.Common.{rules, ◌≡◌, ◌∙◌, Err, List, ℕ, refl, subst}
use Rattle.ssim_program.specs.Acts.{Print}
use Rattle.ssim_program.proofs.Acting.{acted_print, last, same_world}
use Rattle.ssim_program.proofs.Splitting.{kept-not, kept-so}
use Rattle.ssim_program.specs.World.{Acted, world}
use Rattle.ssim_program.proofs.command.split.act.Goals as goal

pub returns-in_err-keep_content-in-Kept : goal.returns-in_err-keep_content-in-Kept
returns-in_err-keep_content-in-Kept g c =
    let why = c.in_err-keep_content-in-Kept.field-0.0 in
    let is : c.from_residual-in_err-keep_content-in-Kept.result ≡ Err why = search rules in
    let out = c.args.out.now in
    rw (c.in-Kept.is, is) (kept-not _ _ _ _ _
    (world (g.S.Store.files c.args.store.now) (g.S.Store.failures c.args.store.now) out)
    (world (g.S.Store.files c.hold.new.store) (g.S.Store.failures c.hold.new.store) out)
    (world (g.S.Store.files c.keep_content.new.store) (g.S.Store.failures c.keep_content.new.store) out) why
    (same_world _ _ _ _ out (c.hold.ensures.same ∙ c.begin.ensures.same) (c.hold.ensures.counted ∙ c.begin.ensures.counted))
    (c.in_ok-place-in-Kept.ensures.name ∙ c.as_str.ensures.value) c.begin.ensures.same
    (rw c.as_str.ensures.value at c.in_ok-place-in-Kept.ensures.held) (c.in_err-keep_content-in-Kept.ensures out))

pub returns-in_ok-keep_content-in-Kept : goal.returns-in_ok-keep_content-in-Kept
returns-in_ok-keep_content-in-Kept g c =
    let out = c.args.out.now in
    let mid = world (g.S.Store.files c.keep_content.new.store) (g.S.Store.failures c.keep_content.new.store) out in
    let v = world (g.S.Store.files c.keep_content.new.store) (g.S.Store.failures c.keep_content.new.store) c.print_all.new.out in
    let printed : Acted (Print c.deref.result.now) mid v c.print_all.result =
    acted_print _ _ _ _ out c.print_all.new.out c.deref.result.now c.print_all.result refl refl c.print_all.ensures in
    rw c.in-Kept.is (kept-so _ _ _ _ _
    (world (g.S.Store.files c.args.store.now) (g.S.Store.failures c.args.store.now) out)
    (world (g.S.Store.files c.hold.new.store) (g.S.Store.failures c.hold.new.store) out) mid
    (world (g.S.Store.files c.keep_content.new.store) (g.S.Store.failures c.keep_content.new.store) c.print_all.new.out) c.print_all.result
    (same_world _ _ _ _ out (c.hold.ensures.same ∙ c.begin.ensures.same) (c.hold.ensures.counted ∙ c.begin.ensures.counted))
    (c.in_ok-place-in-Kept.ensures.name ∙ c.as_str.ensures.value) c.begin.ensures.same
    (rw c.as_str.ensures.value at c.in_ok-place-in-Kept.ensures.held) (c.in_ok-keep_content-in-Kept.ensures out)
    (subst (λ (bytes : List ℕ). Acted (Print bytes) mid v c.print_all.result) c.deref.ensures.value printed))

pub returns-in-Refused : goal.returns-in-Refused
returns-in-Refused g c =
    let out = c.args.out.now in
    let w = world (g.S.Store.files c.args.store.now) (g.S.Store.failures c.args.store.now) out in
    let v = world (g.S.Store.files c.args.store.now) (g.S.Store.failures c.args.store.now) c.print_all-in-Refused.new.out in
    let printed : Acted (Print c.deref-in-Refused.result.now) w v c.print_all-in-Refused.result =
    acted_print _ _ _ _ out c.print_all-in-Refused.new.out c.deref-in-Refused.result.now c.print_all-in-Refused.result refl refl c.print_all-in-Refused.ensures in
    rw c.in-Refused.is (last (Print c.in-Refused.line.items) w v c.print_all-in-Refused.result
    (subst (λ (bytes : List ℕ). Acted (Print bytes) w v c.print_all-in-Refused.result) c.deref-in-Refused.ensures.value printed))
