-- Mode and reference first, then the sub-messages.
use Rattle.std.proofs.Common.{rules, ◌≡◌, ◌⊎◌, ℕ, true, List, Err, inl, refl, ap, subst}
use Rattle.ssim_text.specs.declared.action.Sub.{Sub}
use Rattle.ssim_text.specs.declared.reference.GivenReference.{GivenReference}
use Rattle.ssim_base.specs.Resolve.{AreResolved, HasNone, IsFirstRefused, IsNext, same_mode}
use Rattle.ssim_base.specs.declared.resolution.ResolveFault.TheVariants as fault
use Rattle.ssim_base.proofs.ResolveLemmas.{refused-by}
use Rattle.ssim_base.proofs.resolution.resolve_by.Goals as goal

pub returns-in_default-clause-err : goal.returns-in_default-clause-err
returns-in_default-clause-err c =
    inl (record {
      mode = search rules;
      is_zero = refl;
      none = subst (λ (n : ℕ). HasNone n c.args.message.now.reference.date) c.created.ensures
          (subst (λ (r : GivenReference). HasNone c.created.result r.date) c.reference-given.ensures.value c.in_default.ensures.none);
    })

pub returns-in_err-subs-clause-err : goal.returns-in_err-subs-clause-err
returns-in_err-subs-clause-err c =
    let mode : same_mode c.args.carrier.now.time_mode c.args.message.now.mode ≡ true = search rules in
    let refusal : c.from_residual.result ≡ Err c.in_err-subs.field-0.0 = search rules in
    let next : IsNext c.created.result c.reference-given.result.now.date c.in-Some.date =
    record { from_on = c.in-Some.ensures.some.0; has = c.in-Some.ensures.some.1; least = c.in-Some.ensures.least } in
    let date : IsNext c.args.carrier.now.created c.args.message.now.reference.date c.in-Some.date =
    subst (λ (n : ℕ). IsNext n c.args.message.now.reference.date c.in-Some.date) c.created.ensures
    (subst (λ (r : GivenReference). IsNext c.created.result r.date c.in-Some.date) c.reference-given.ensures.value next) in
    rw refusal (refused-by c.args.carrier.now c.args.message.now c.in_err-subs.field-0.0 mode (c.in-Some.date, date)
    (subst (λ (ss : List Sub). (c.in_err-subs.field-0.0 ≡ fault.Memory) ⊎ IsFirstRefused c.args.carrier.now 1 ss c.in_err-subs.field-0.0) c.subs.ensures.value c.in_err-subs.ensures.err))

pub returns-clause-ok : goal.returns-clause-ok
returns-clause-ok c =
    let next : IsNext c.created.result c.reference-given.result.now.date c.in-Some.date =
    record { from_on = c.in-Some.ensures.some.0; has = c.in-Some.ensures.some.1; least = c.in-Some.ensures.least } in
    record {
      mode = search rules;
      date = subst (λ (n : ℕ). IsNext n c.args.message.now.reference.date c.in-Some.date) c.created.ensures
          (subst (λ (r : GivenReference). IsNext c.created.result r.date c.in-Some.date) c.reference-given.ensures.value next);
      group = ap (λ (r : GivenReference). r.group) c.reference-given.ensures.value;
      serial = ap (λ (r : GivenReference). r.serial) c.reference-given.ensures.value;
      kind = c.kind.ensures;
      originator = c.originator.ensures;
      subs = subst (λ (ss : List Sub). AreResolved c.args.carrier.now ss c.in_ok-subs.subs.items) c.subs.ensures.value c.in_ok-subs.ensures.ok;
    }
