-- The last reference decides.
use Rattle.std.proofs.Common.{◌∙◌, sym}
use Rattle.ssim_outbox.proofs.LastReference.{follows_last, names_last, not_after}
use Rattle.ssim_outbox.proofs.order.follows.Goals as goal

pub returns-in-Less-clause-ok : goal.returns-in-Less-clause-ok
returns-in-Less-clause-ok c =
    follows_last c.args.reference.now c.reference-last.result c.args.held.now c.last-item.result
    c.in-len1-up.len_at_least c.last-item.is c.reference-last.ensures c.requires (sym c.order.ensures ∙ c.in-Less.is)

pub returns-in_default : goal.returns-in_default
returns-in_default c =
    let r = c.args.reference.now in
    let last = c.reference-last.result in
    let es = c.args.held.now in
    let e = c.last-item.result in
    let some = c.in-len1-up.len_at_least in
    record {
      ok = tt;
      err = (
        not_after r last es e some c.last-item.is c.reference-last.ensures
            (λ less. c.in_default.not-Less (c.order.ensures ∙ less)),
        names_last r last es e some c.last-item.is c.reference-last.ensures,
      );
    }
