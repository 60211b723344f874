use Rattle.std.proofs.Common.{◌≡◌, ◌≢◌, ◌+◌, ◌++◌, ◌∷◌, ◌%◌, ◌/◌, [], ◌∙◌, ap, sym, length, subst, arith, length-append}
use Rattle.ssim_schedule.specs.clauses.Schedule.{Flown}
use Rattle.ssim_desk.specs.internal.Changes.{AreCheckpoints}
use Rattle.ssim_desk.specs.Meaning.{left_by}
use Rattle.ssim_desk.proofs.Trails.{after_more, kept_more, kept_none}
use Rattle.ssim_desk.proofs.replay.Replay.apply.Goals as goal

pub returns-in_ok-push-clause-applied : goal.returns-in_ok-push-clause-applied
returns-in_ok-push-clause-applied c before tail =
    let from = c.args.self.now.from in
    let base = c.args.base.now in let e = c.args.held.now in
    let acts = rw c.rows.ensures at c.in_ok-act.ensures in
    let latest = after_more base before e c.args.self.now.latest c.act.new.schedule tail.latest_is (acts.shows (left_by base before) tail.latest_is.shows) acts.cuts in
    let on : (length before + 1) % 32 ≡ 0 = omega (arith, tail.since_is, c.if-self-eq0.true) in
    record {
      within = omega (arith, tail.within, length-append before (e ∷ []));
      latest_is = latest;
      kept = subst (AreCheckpoints base (before ++ e ∷ []) (from / 32 + 1)) (sym (c.in_ok-push.ensures.items ∙ ap (λ (s : Flown). c.args.self.now.checkpoints.items ++ s ∷ []) c.in_ok-copy.ensures))
          (kept_more base before e (from / 32 + 1) c.args.self.now.checkpoints.items c.act.new.schedule on tail.kept latest);
      since_is = omega (arith, tail.since_is, length-append before (e ∷ []));
    }

pub returns-else-self-eq0-clause-applied : goal.returns-else-self-eq0-clause-applied
returns-else-self-eq0-clause-applied c before tail =
    let from = c.args.self.now.from in
    let base = c.args.base.now in let e = c.args.held.now in
    let acts = rw c.rows.ensures at c.in_ok-act.ensures in
    let off : (length before + 1) % 32 ≢ 0 = λ z. c.if-self-eq0.false (omega (arith, tail.since_is, z)) in
    record {
      within = omega (arith, tail.within, length-append before (e ∷ []));
      latest_is = after_more base before e c.args.self.now.latest c.act.new.schedule tail.latest_is (acts.shows (left_by base before) tail.latest_is.shows) acts.cuts;
      kept = kept_none base before e (from / 32 + 1) c.args.self.now.checkpoints.items off tail.kept;
      since_is = omega (arith, tail.since_is, length-append before (e ∷ []));
    }
