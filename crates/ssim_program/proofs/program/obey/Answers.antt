-- The command is done, or refused.
use Rattle.std.proofs.Common.{ℕ, Err, Option, inl, inr, refl, subst, sym}
use Rattle.ssim_command_line.specs.Line.{line_of}
use Rattle.ssim_program.specs.Answers.{answers}
use Rattle.ssim_program.specs.Files.{Files}
use Rattle.ssim_program.specs.World.{Does, world}
use Rattle.ssim_program.specs.internal.Program.{IsDone}
use Rattle.ssim_program.proofs.Replying.{explained_so}
use Rattle.ssim_program.proofs.program.obey.Goals as goal

pub returns-in-Ok : goal.returns-in-Ok
returns-in-Ok g c =
    let command = line_of c.args.request.now in let files = g.S.Store.files c.args.store.now in
    let v = world (g.S.Store.files c.act.new.store) (g.S.Store.failures c.act.new.store) c.act.new.out in
    let first = subst (λ (f : Option Files). IsDone command
    (world f (g.S.Store.failures c.begin.new.self) c.args.out.now) v c.in-Ok.status)
    c.begin.ensures.same c.in-Ok.ensures.done in
    let then = subst (λ (n : ℕ). IsDone command (world files n c.args.out.now) v c.in-Ok.status)
    c.begin.ensures.counted first in
    (c.args.err.now, inl (then.0, then.1, c.in-Ok.ensures.again, refl), inl refl)

pub returns-in-Err : goal.returns-in-Err
returns-in-Err g c =
    let line = line_of c.args.request.now in let files = g.S.Store.files c.args.store.now in
    let why = c.in-Err.refusal in
    let before = world files (g.S.Store.failures c.args.store.now) c.args.out.now in
    let v = world (g.S.Store.files c.act.new.store) (g.S.Store.failures c.act.new.store) c.act.new.out in
    let first = subst (λ (f : Option Files). Does (answers line f)
    (world f (g.S.Store.failures c.begin.new.self) c.args.out.now) v (Err why)) c.begin.ensures.same c.in-Err.ensures.refused in
    let then = subst (λ (n : ℕ). Does (answers line files) (world files n c.args.out.now) v (Err why))
    c.begin.ensures.counted first in
    let read = subst (λ (f : Option Files). Does (answers line files) before
    (world f (g.S.Store.failures c.act.new.store) c.act.new.out) (Err why)) (sym c.refuse_explained.ensures.same) then in
    let last = subst (λ (n : ℕ). Does (answers line files) before
    (world (g.S.Store.files c.refuse_explained.new.store) n c.act.new.out) (Err why)) (sym c.refuse_explained.ensures.counted) read in
    let printed = c.refuse_explained.ensures.printed in (
      printed.0,
      inr (c.refuse_explained.ensures.status, why, last, printed.1),
      explained_so _ _ _ _ c.if-explained.true c.refuse_explained.ensures.status printed.2,
    )

pub returns-in-Err-2 : goal.returns-in-Err-2
returns-in-Err-2 g c =
    let line = line_of c.args.request.now in let files = g.S.Store.files c.args.store.now in
    let v = world (g.S.Store.files c.act.new.store) (g.S.Store.failures c.act.new.store) c.act.new.out in
    let first = subst (λ (f : Option Files). Does (answers line f)
    (world f (g.S.Store.failures c.begin.new.self) c.args.out.now) v (Err c.in-Err.refusal)) c.begin.ensures.same c.in-Err.ensures.refused in
    let then = subst (λ (n : ℕ). Does (answers line files) (world files n c.args.out.now) v
    (Err c.in-Err.refusal)) c.begin.ensures.counted first in
    (c.refuse.new.err, inr (c.refuse.ensures.status, c.in-Err.refusal, then, c.refuse.ensures.printed), inl refl)
