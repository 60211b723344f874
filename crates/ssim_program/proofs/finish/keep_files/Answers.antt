-- The refused texts are kept or not, and then the other file.
use Rattle.std.proofs.Common.{◌≡◌, Err, inl, inr, refl, rules}
use Rattle.ssim_program.specs.Acts.{Keep}
use Rattle.ssim_program.specs.World.{world}
use Rattle.ssim_program.specs.internal.Program.{bytes_of}
use Rattle.ssim_program.proofs.Acting.{last}
use Rattle.ssim_program.proofs.finish.keep_files.Goals as goal

pub returns-in-None : goal.returns-in-None
returns-in-None g c out = rw c.in-None.is (last (Keep (g.S.Hold.Hold.file c.args.last.now.place) (bytes_of c.args.last.now.contents)) (world (g.S.Store.files c.args.store.now) (g.S.Store.failures c.args.store.now) out)
    (world (g.S.Store.files c.keep_content.new.store) (g.S.Store.failures c.keep_content.new.store) out) c.keep_content.result (c.keep_content.ensures out))

pub returns-in_err-keep_content-in-Some : goal.returns-in_err-keep_content-in-Some
returns-in_err-keep_content-in-Some g c out =
    let why = c.in_err-keep_content-in-Some.field-0.0 in
    let is : c.from_residual.result ≡ Err why = search rules in
    rw is (rw c.in-Some.is (inr (why, c.in_err-keep_content-in-Some.ensures out, refl)))

pub returns-in_ok-keep_content-in-Some : goal.returns-in_ok-keep_content-in-Some
returns-in_ok-keep_content-in-Some g c out =
    let between = world (g.S.Store.files c.keep_content-in-Some.new.store) (g.S.Store.failures c.keep_content-in-Some.new.store) out in
    rw c.in-Some.is (inl (
      between,
      c.in_ok-keep_content-in-Some.ensures out,
      last (Keep (g.S.Hold.Hold.file c.args.last.now.place) (bytes_of c.args.last.now.contents)) between
          (world (g.S.Store.files c.keep_content-in-Some-2.new.store) (g.S.Store.failures c.keep_content-in-Some-2.new.store) out) c.keep_content-in-Some-2.result (c.keep_content-in-Some-2.ensures out),
    ))
