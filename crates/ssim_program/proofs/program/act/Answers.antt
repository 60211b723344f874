-- What a command has made is printed and kept, or it is refused.
use Rattle.std.proofs.Common.{◌≡◌, ◌∙◌, Err, Ok, ℕ, Option, rules, subst}
use Rattle.ssim_command_line.specs.Line.{line_of}
use Rattle.ssim_program.specs.Answers.{answers}
use Rattle.ssim_program.specs.Files.{Files}
use Rattle.ssim_program.specs.World.{Does, world}
use Rattle.ssim_program.specs.internal.Program.{will}
use Rattle.ssim_program.proofs.Acting.{is_done, made_so, refined, refuses, same_world}
use Rattle.ssim_program.proofs.program.act.Goals as goal

pub returns-in_err-made-clause-refused : goal.returns-in_err-made-clause-refused
returns-in_err-made-clause-refused g c =
    let why = c.in_err-made.field-0.0 in let files = g.S.Store.files c.args.store.now in
    let is : c.from_residual.result ≡ Err why = search rules in
    rw is (refuses (answers (line_of c.args.request.now) files)
    (world files (g.S.Store.failures c.args.store.now) c.args.out.now)
    (world (g.S.Store.files c.make.new.store) (g.S.Store.failures c.make.new.store) c.args.out.now)
    why c.in_err-made.ensures.answer
    (same_world _ _ _ _ c.args.out.now c.make.ensures.same c.make.ensures.counted))

pub returns-in_err-finish-clause-refused : goal.returns-in_err-finish-clause-refused
returns-in_err-finish-clause-refused g c =
    let files = g.S.Store.files c.args.store.now in
    let m = c.in_ok-made.made in
    let file = g.S.Hold.Hold.file in
    let why = c.in_err-finish.field-0.0 in
    let is : c.from_residual-in_err-finish.result ≡ Err why = search rules in
    let answer = answers (line_of c.args.request.now) files in
    let v = world (g.S.Store.files c.finish.new.store) (g.S.Store.failures c.finish.new.store)
    c.finish.new.out in
    let first = subst (λ (f : Option Files). Does (will file f m)
    (world f (g.S.Store.failures c.make.new.store) c.args.out.now) v (Err why))
    c.make.ensures.same c.in_err-finish.ensures.does in
    let then = subst (λ (n : ℕ). Does (will file files m) (world files n c.args.out.now) v (Err why))
    c.make.ensures.counted first in
    rw is (refined (will file files m) answer
    (world files (g.S.Store.failures c.args.store.now) c.args.out.now) v (Err why)
    (made_so file files answer m c.in_ok-made.ensures.answer) then)

pub returns-clause-done : goal.returns-clause-done
returns-clause-done g c =
    let files = g.S.Store.files c.args.store.now in
    let m = c.in_ok-made.made in
    let file = g.S.Hold.Hold.file in
    let command = line_of c.args.request.now in
    let answer = answers command files in
    let v = world (g.S.Store.files c.finish.new.store) (g.S.Store.failures c.finish.new.store)
    c.finish.new.out in
    let first = subst (λ (f : Option Files). Does (will file f m)
    (world f (g.S.Store.failures c.make.new.store) c.args.out.now) v (Ok tt))
    c.make.ensures.same c.in_ok-finish.ensures.does in
    let then = subst (λ (n : ℕ). Does (will file files m) (world files n c.args.out.now) v (Ok tt))
    c.make.ensures.counted first in
    let done = is_done file files answer m
    (world files (g.S.Store.failures c.args.store.now) c.args.out.now) v
    c.in_ok-made.ensures.answer then in
    (done.0, c.status_of-status.ensures ∙ done.1)

pub returns-clause-again : goal.returns-clause-again
returns-clause-again g c =
    c.in_ok-made.ensures.again c.args.out.now.taken c.finish.new.out.taken c.in_ok-finish.ensures.again
