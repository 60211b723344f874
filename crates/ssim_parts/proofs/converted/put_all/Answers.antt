-- One shift after another.
use Rattle.std.proofs.Common.{ℕ, refl}
use Rattle.ssim_base.proofs.Results.{on_ok}
use Rattle.ssim_base.specs.Timetable.{Legs}
use Rattle.ssim_parts.specs.internal.Placed.{legs_put}
use Rattle.ssim_parts.proofs.Changing.{changed_twice}
use Rattle.ssim_parts.proofs.converted.put_all.Goals as goal

pub returns : goal.returns
returns c =
    let flight = c.args.flight in
    let parts = c.args.parts.now in
    let two = legs_put 2 parts in
    let one = λ (m : ℕ) (before : Legs). legs_put 1 parts m (legs_put 2 parts m before) in
    let none = λ (m : ℕ) (before : Legs). legs_put 0 parts m (one m before) in
    on_ok c.put_parts-3.result
    (changed_twice flight one (legs_put 0 parts) none c.args.schedule.now c.put_parts-2.new.schedule
    c.put_parts-3.new.schedule (λ n within legs. refl)
    (changed_twice flight two (legs_put 1 parts) one c.args.schedule.now c.put_parts.new.schedule
    c.put_parts-2.new.schedule (λ n within legs. refl) c.in_ok-put_parts.ensures
    c.in_ok-put_parts-2.ensures)) c.put_parts-3.ensures
