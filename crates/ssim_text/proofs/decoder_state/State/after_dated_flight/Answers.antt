-- A flight with its date is allowed, and no other line.
use Rattle.std.proofs.Common.{refl, sym, subst}
use Rattle.ssim_text.specs.declared.decoder_state.State.{State}
use Rattle.ssim_text.specs.declared.decoder_state.State.TheVariants.{AtDatedFlight}
use Rattle.ssim_text.specs.internal.DecoderState.{Takes}
use Rattle.ssim_text.proofs.Arms.{take_dated_flight, no_dated_flight}
use Rattle.ssim_text.proofs.decoder_state.State.after_dated_flight.Goals as goal

pub returns-in-None-clause-err : goal.returns-in-None-clause-err
returns-in-None-clause-err c = (no_dated_flight c.args.message c.args.action c.args.line.now c.in-None.ensures.none, refl)

pub returns-in_ok-next-in-Some-clause-ok : goal.returns-in_ok-next-in-Some-clause-ok
returns-in_ok-next-in-Some-clause-ok c =
    let s = AtDatedFlight c.args.message c.args.action in
    subst (λ (x : State). Takes s c.args.line.now x) (sym c.in_ok-next-in-Some.ensures)
    (take_dated_flight c.args.message c.args.action _ _ c.args.line.now c.in-Some.ensures.some)
