-- Nothing is kept of the desk before, and no effects are printed; or they are, and then the desk is kept.
use Rattle.std.proofs.Common.{◌≡◌, ◌∙◌, ℕ, [], Err, List, Ok, refl, rules, subst}
use Rattle.ssim_held.specs.Entries.{AreRising}
use Rattle.ssim_program.specs.Answers.{take_each}
use Rattle.ssim_program.specs.World.{Does, world}
use Rattle.ssim_program.specs.internal.Effects.{IsAsked}
use Rattle.ssim_program.specs.internal.Print.{Prints}
use Rattle.ssim_program.specs.print.Effects.{effects}
use Rattle.ssim_program.specs.declared.refusal.Refusal.TheVariants as refused
use Rattle.ssim_program.proofs.Acting.{acted_print, refuses}
use Rattle.ssim_program.proofs.Taking.{effects_failed, effects_kept, kept, none_then, some_then}
use Rattle.ssim_program.proofs.command.take.end_texts.Goals as goal

pub returns-in-None : goal.returns-in-None
returns-in-None g c = λ asked first is base.
    let files = g.S.Store.files c.args.store.now in let out = g.S.Hold.Hold.file c.args.place.now in
    let desk = c.args.desk.now in let rising = subst AreRising c.held.ensures.value c.held.ensures.rising in
    none_then files asked first out desk _ _ c.keep_content.result (subst (IsAsked asked first) c.in-None.is is)
    (kept files first out desk rising _ _ c.keep_content.result (c.keep_content.ensures c.args.out.now))

pub returns-in_err-lines-in-Some : goal.returns-in_err-lines-in-Some
returns-in_err-lines-in-Some g c = λ asked first is base.
    let files = g.S.Store.files c.args.store.now in let out = g.S.Hold.Hold.file c.args.place.now in
    let desk = c.args.desk.now in
    let w = world files (g.S.Store.failures c.args.store.now) c.args.out.now in
    let it : c.from_residual.result ≡ Err refused.Memory = search rules in
    rw it (refuses (take_each files asked first out [] desk) w w refused.Memory refl refl)

pub returns-in_err-print_all-in-Some : goal.returns-in_err-print_all-in-Some
returns-in_err-print_all-in-Some g c = λ asked first is base.
    let files = g.S.Store.files c.args.store.now in let out = g.S.Hold.Hold.file c.args.place.now in
    let desk = c.args.desk.now in let rising = subst AreRising c.held.ensures.value c.held.ensures.rising in
    let why = c.in_err-print_all-in-Some.field-0.0 in
    let it : c.from_residual-in_err-print_all-in-Some.result ≡ Err why = search rules in
    rw it (some_then files asked first out desk _ _ (Err why) c.in-Some.before (subst (IsAsked asked first) c.in-Some.is is)
    (λ kept_is. effects_failed files first out desk rising _ _ why
    (acted_print _ _ _ _ c.args.out.now c.print_all.new.out (effects first desk) (Err why) refl refl
    (subst (λ (bs : List ℕ). Prints bs c.args.out.now c.print_all.new.out (Err why))
    (c.deref.ensures.value ∙ c.in_ok-lines-in-Some.ensures first kept_is base)
    c.in_err-print_all-in-Some.ensures))))

pub returns-in_ok-print_all-in-Some : goal.returns-in_ok-print_all-in-Some
returns-in_ok-print_all-in-Some g c = λ asked first is base.
    let files = g.S.Store.files c.args.store.now in let out = g.S.Hold.Hold.file c.args.place.now in
    let desk = c.args.desk.now in let rising = subst AreRising c.held.ensures.value c.held.ensures.rising in
    let r = c.keep_content-in-Some.result in
    some_then files asked first out desk _ _ r c.in-Some.before (subst (IsAsked asked first) c.in-Some.is is)
    (λ kept_is. effects_kept files first out desk rising _ _ _ r
    (acted_print _ _ _ _ c.args.out.now c.print_all.new.out (effects first desk) (Ok tt) refl refl
    (subst (λ (bs : List ℕ). Prints bs c.args.out.now c.print_all.new.out (Ok tt))
    (c.deref.ensures.value ∙ c.in_ok-lines-in-Some.ensures first kept_is base)
    c.in_ok-print_all-in-Some.ensures))
    (c.keep_content-in-Some.ensures c.print_all.new.out))
