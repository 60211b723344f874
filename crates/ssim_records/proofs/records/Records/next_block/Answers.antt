-- The block that was found is counted.
use Rattle.std.proofs.Common.{rules, ◌≡◌, ◌≤◌, Ok, length, true, sym, ap, subst, arith}
use Rattle.std.proofs.lemmas.List.{length-drop}
use Rattle.ssim_records.specs.clauses.Reading.{Reading}
use Rattle.ssim_records.proofs.Readings.{not_again}
use Rattle.ssim_records.proofs.records.Records.next_block.Goals as goal

pub invariant_of-self : goal.invariant_of-self
invariant_of-self g c =
    let e : c.advance.result ≡ Ok true = search rules in
    let i = c.self.inside in
    let long : 200 ≤ length i.window = subst (λ (r : Reading). 200 ≤ length r.held) (sym c.self.view_is) (c.advance.ensures.found e).1 in
    (c.self.invariant.0, omega (arith, c.self.invariant.1, long, ap length c.skip.ensures, length-drop 200 i.window))

pub returns-clause-again : goal.returns-clause-again
returns-clause-again g c =
    let e : c.advance.result ≡ Ok true = search rules in
    not_again _ c.args.self.now.ended (c.advance.ensures.found e).0
