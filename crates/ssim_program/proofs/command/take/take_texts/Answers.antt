-- One more text is taken and its line printed, or not; or no text is left, and the desk is kept.
use Rattle.std.proofs.Common.{◌≡◌, ◌∙◌, [], ap, Bool, Err, List, ℕ, Ok, Option, Result, map, refl, rules, subst, sym}
use Rattle.std.proofs.Common.{◌+◌, drop, get_or}
use Rattle.ssim_held.specs.Entries.{DeskSeen}
use Rattle.ssim_command_line.specs.Line.{Text}
use Rattle.ssim_program.specs.Answers.{take_each}
use Rattle.ssim_program.specs.Desks.{text_taken}
use Rattle.ssim_program.specs.Files.{Files}
use Rattle.ssim_program.specs.World.{Does, World, world}
use Rattle.ssim_program.specs.declared.refusal.Refusal.{Refusal}
use Rattle.ssim_program.specs.declared.refusal.Refusal.TheVariants as refused
use Rattle.ssim_program.proofs.Acting.{acted_print, refuses, same_world}
use Rattle.ssim_words.proofs.NamedFlights.{next_word, no_word}
use Rattle.ssim_program.proofs.KeptBase.{taken_base}
use Rattle.ssim_program.proofs.Taking.{no_memory, not_printed, not_taken, one_text}
use Rattle.ssim_program.proofs.command.take.take_texts.Goals as goal

-- a list of words that is that one
over : (files : Option Files) (effects : Bool) (first : DeskSeen) (out : Text) (words others : List Text) (desk : DeskSeen) (w v : World) (r : Result (Unit {0}) Refusal) → words ≡ others → Does (take_each files effects first out others desk) w v r
    → Does (take_each files effects first out words desk) w v r
over files effects first out words others desk w v r is does = subst (λ (ws : List Text). Does (take_each files effects first out ws desk) w v r) (sym is) does

pub loop-name-preserved : goal.loop-name-preserved
loop-name-preserved g c =
    let i = c.loop-name.name-index in let names = c.args.taking.now.names.now in
    let files = g.S.Store.files c.args.store.now in let out = g.S.Hold.Hold.file c.args.taking.now.place.now in
    let effects = c.args.taking.now.effects in let first = c.args.desk in let desk = c.loop-name.intake in let mid = c.take_text.new.desk in
    let w = world (g.S.Store.files c.loop-name.store) (g.S.Store.failures c.loop-name.store) c.loop-name.out in
    let v = world (g.S.Store.files c.take_text.new.store) (g.S.Store.failures c.take_text.new.store) c.print_all.new.out in
    let one = (get_or names i (record { ref_ptr = (0, 0); now = [] })).now in let rest_names = drop (i + 1) (map (λ t. t.now) names) in
    let next = next_word (λ t. t.now) names i (record { ref_ptr = (0, 0); now = [] }) c.loop-name-test.true in
    record {
      asked = c.loop-name.invariant.asked;
      base = c.loop-name.invariant.base
          ∙ sym (taken_base (g.S.Store.files c.loop-name.store) one desk mid c.in-Ok.line.items
          c.in-Ok.ensures.text);
      files = c.take_text.ensures.same ∙ c.loop-name.invariant.files;
      through = λ after r rest. c.loop-name.invariant.through after r
          (over files effects first out _ _ desk w after r next
          (one_text files effects first out one rest_names desk mid c.deref.result.now w v after r
          (subst (λ (bs : List ℕ). text_taken files one desk (Ok (mid, bs))) (sym c.deref.ensures.value) (subst (λ (f : Option Files). text_taken f one desk (Ok (mid, c.in-Ok.line.items))) c.loop-name.invariant.files c.in-Ok.ensures.text))
          (acted_print _ _ _ _ c.loop-name.out c.print_all.new.out c.deref.result.now (Ok tt) c.take_text.ensures.same c.take_text.ensures.counted c.in_ok-print_all.ensures) rest));
    }

pub returns-in-Err : goal.returns-in-Err
returns-in-Err g c =
    let i = c.loop-name.name-index in let names = c.args.taking.now.names.now in
    let files = g.S.Store.files c.args.store.now in let out = g.S.Hold.Hold.file c.args.taking.now.place.now in
    let effects = c.args.taking.now.effects in let first = c.args.desk in let desk = c.loop-name.intake in let why = c.in-Err.refusal in
    let w = world (g.S.Store.files c.loop-name.store) (g.S.Store.failures c.loop-name.store) c.loop-name.out in
    let v = world (g.S.Store.files c.take_text.new.store) (g.S.Store.failures c.take_text.new.store) c.loop-name.out in
    let one = (get_or names i (record { ref_ptr = (0, 0); now = [] })).now in let rest_names = drop (i + 1) (map (λ t. t.now) names) in
    let next = next_word (λ t. t.now) names i (record { ref_ptr = (0, 0); now = [] }) c.loop-name-test.true in
    c.loop-name.invariant.through v (Err why)
    (over files effects first out _ _ desk w v (Err why) next
    (not_taken files effects first out one rest_names desk w v why (subst (λ (f : Option Files). text_taken f one desk (Err why)) c.loop-name.invariant.files c.in-Err.ensures.text)
    (same_world _ _ _ _ c.loop-name.out c.take_text.ensures.same c.take_text.ensures.counted)))

pub returns-in_err-print_all : goal.returns-in_err-print_all
returns-in_err-print_all g c =
    let i = c.loop-name.name-index in let names = c.args.taking.now.names.now in
    let files = g.S.Store.files c.args.store.now in let out = g.S.Hold.Hold.file c.args.taking.now.place.now in
    let effects = c.args.taking.now.effects in let first = c.args.desk in let desk = c.loop-name.intake in let mid = c.take_text.new.desk in let why = c.in_err-print_all.field-0.0 in
    let w = world (g.S.Store.files c.loop-name.store) (g.S.Store.failures c.loop-name.store) c.loop-name.out in
    let v = world (g.S.Store.files c.take_text.new.store) (g.S.Store.failures c.take_text.new.store) c.print_all.new.out in
    let one = (get_or names i (record { ref_ptr = (0, 0); now = [] })).now in let rest_names = drop (i + 1) (map (λ t. t.now) names) in
    let next = next_word (λ t. t.now) names i (record { ref_ptr = (0, 0); now = [] }) c.loop-name-test.true in
    let is : c.from_residual-in_err-print_all.result ≡ Err why = search rules in
    rw is (c.loop-name.invariant.through v (Err why)
    (over files effects first out _ _ desk w v (Err why) next
    (not_printed files effects first out one rest_names desk mid c.deref.result.now w v why
    (subst (λ (bs : List ℕ). text_taken files one desk (Ok (mid, bs))) (sym c.deref.ensures.value) (subst (λ (f : Option Files). text_taken f one desk (Ok (mid, c.in-Ok.line.items))) c.loop-name.invariant.files c.in-Ok.ensures.text))
    (acted_print _ _ _ _ c.loop-name.out c.print_all.new.out c.deref.result.now (Err why) c.take_text.ensures.same c.take_text.ensures.counted c.in_err-print_all.ensures))))

pub loop-name-init : goal.loop-name-init
loop-name-init g c =
    let files = g.S.Store.files c.args.store.now in let out = g.S.Hold.Hold.file c.args.taking.now.place.now in
    let names = map (λ t. t.now) c.args.taking.now.names.now in
    let w = world (g.S.Store.files c.args.store.now) (g.S.Store.failures c.args.store.now) c.args.out.now in
    record {
      asked = c.in_ok-before.ensures;
      base = sym (ap (λ (d : DeskSeen). d.base) c.in_ok-intake.ensures);
      files = refl;
      through = λ after r does.
          subst (λ (d : DeskSeen). Does (take_each files c.args.taking.now.effects c.args.desk out names d) w after r) c.in_ok-intake.ensures does;
    }

-- memory runs out before any text
early : (files : Option Files) (effects : Bool) (first : DeskSeen) (out : Text) (names : List Text) (w : World) → Does (take_each files effects first out names first) w w (Err refused.Memory)
early files effects first out names w = refuses (take_each files effects first out names first) w w refused.Memory (no_memory files effects first out names first) refl

pub returns-in_err-before : goal.returns-in_err-before
returns-in_err-before g c =
    let is : c.from_residual.result ≡ Err refused.Memory = search rules in
    rw is (early (g.S.Store.files c.args.store.now) c.args.taking.now.effects c.args.desk (g.S.Hold.Hold.file c.args.taking.now.place.now) (map (λ t. t.now) c.args.taking.now.names.now)
    (world (g.S.Store.files c.args.store.now) (g.S.Store.failures c.args.store.now) c.args.out.now))

pub returns-in_err-intake : goal.returns-in_err-intake
returns-in_err-intake g c =
    let is : c.from_residual-in_err-intake.result ≡ Err refused.Memory = search rules in
    rw is (early (g.S.Store.files c.args.store.now) c.args.taking.now.effects c.args.desk (g.S.Hold.Hold.file c.args.taking.now.place.now) (map (λ t. t.now) c.args.taking.now.names.now)
    (world (g.S.Store.files c.args.store.now) (g.S.Store.failures c.args.store.now) c.args.out.now))

pub returns-in_err-after : goal.returns-in_err-after
returns-in_err-after g c =
    let i = c.loop-name.name-index in let names = c.args.taking.now.names.now in
    let files = g.S.Store.files c.args.store.now in let out = g.S.Hold.Hold.file c.args.taking.now.place.now in
    let effects = c.args.taking.now.effects in let first = c.args.desk in let desk = c.loop-name.intake in
    let w = world (g.S.Store.files c.loop-name.store) (g.S.Store.failures c.loop-name.store) c.loop-name.out in
    let none = no_word (λ t. t.now) names i c.loop-name-test.false in
    let is : c.from_residual-in_err-after.result ≡ Err refused.Memory = search rules in
    rw is (c.loop-name.invariant.through w (Err refused.Memory)
    (over files effects first out _ _ desk w w (Err refused.Memory) none (refuses (take_each files effects first out [] desk) w w refused.Memory refl refl)))

pub returns : goal.returns
returns g c =
    let i = c.loop-name.name-index in let names = c.args.taking.now.names.now in
    let files = g.S.Store.files c.args.store.now in let out = g.S.Hold.Hold.file c.args.taking.now.place.now in
    let effects = c.args.taking.now.effects in let first = c.args.desk in
    let w = world (g.S.Store.files c.loop-name.store) (g.S.Store.failures c.loop-name.store) c.loop-name.out in
    let v = world (g.S.Store.files c.end_texts.new.store) (g.S.Store.failures c.end_texts.new.store) c.end_texts.new.out in
    let r = c.end_texts.result in
    let none = no_word (λ t. t.now) names i c.loop-name-test.false in
    let done = subst
    (λ (f : Option Files). Does (take_each f effects first out [] c.in_ok-after.after) w v r)
    c.loop-name.invariant.files (c.end_texts.ensures effects first c.loop-name.invariant.asked
    (c.loop-name.invariant.base ∙ sym (ap (λ (d : DeskSeen). d.base) c.in_ok-after.ensures))) in
    c.loop-name.invariant.through v r
    (over files effects first out _ _ c.loop-name.intake w v r none
    (subst (λ (d : DeskSeen). Does (take_each files effects first out [] d) w v r) c.in_ok-after.ensures done))
