-- The block that was found is counted and read.
use Rattle.std.proofs.Common.{rules, ◌≡◌, ◌≤◌, Ok, Some, length, true, false, sym, ap, subst, arith}
use Rattle.std.proofs.lemmas.List.{length-drop}
use Rattle.ssim_records.specs.clauses.Reading.{Reading}
use Rattle.ssim_records.specs.declared.records.Ending.TheVariants.{Refused}
use Rattle.ssim_records.proofs.Readings.{not_again, open_map, reads_end, reads_fault, reads_record}
use Rattle.ssim_records.proofs.records.Records.next_into.Goals as goal

pub returns-then-not-branch-clause-reads : goal.returns-then-not-branch-clause-reads
returns-then-not-branch-clause-reads g c =
    let e : c.advance.result ≡ Ok false = search rules in
    let block = rw e at c.advance.ensures.reads in
    open_map c.args.self.now.ended (λ r. reads_end r) block

-- ---- an invalid record

pub invariant_of-self : goal.invariant_of-self
invariant_of-self g c =
    let e : c.advance.result ≡ Ok true = search rules in
    let i = c.self.inside in
    let long : 200 ≤ length i.window = subst (λ (r : Reading). 200 ≤ length r.held) (sym c.self.view_is) (c.advance.ensures.found e).1 in
    (c.self.invariant.0, omega (arith, c.self.invariant.1, long, ap length c.skip.ensures, length-drop 200 i.window))

pub returns-in-Err-clause-again : goal.returns-in-Err-clause-again
returns-in-Err-clause-again g c =
    let e : c.advance.result ≡ Ok true = search rules in
    not_again _ c.args.self.now.ended (c.advance.ensures.found e).0

pub returns-in-Err-clause-reads : goal.returns-in-Err-clause-reads
returns-in-Err-clause-reads g c =
    let e : c.advance.result ≡ Ok true = search rules in
    let block = rw (e, ← c.self.view_is) at c.advance.ensures.reads in
    rw c.skip.ensures
    (open_map c.args.self.now.ended
    (λ r. reads_fault c.in-Err.fault (Some (Refused c.in-Err.fault)) (rw (← c.front.ensures) c.in-Err.ensures.err) r) block)

-- ---- a record

pub invariant_of-self-in-Err : goal.invariant_of-self-in-Err
invariant_of-self-in-Err g c =
    let e : c.advance.result ≡ Ok true = search rules in
    let i = c.self.inside in
    let long : 200 ≤ length i.window = subst (λ (r : Reading). 200 ≤ length r.held) (sym c.self.view_is) (c.advance.ensures.found e).1 in
    (c.self.invariant.0, omega (arith, c.self.invariant.1, long, ap length c.skip.ensures, length-drop 200 i.window))

pub returns-in-Ok-clause-again : goal.returns-in-Ok-clause-again
returns-in-Ok-clause-again g c =
    let e : c.advance.result ≡ Ok true = search rules in
    not_again _ c.args.self.now.ended (c.advance.ensures.found e).0

pub returns-in-Ok-clause-reads : goal.returns-in-Ok-clause-reads
returns-in-Ok-clause-reads g c =
    let e : c.advance.result ≡ Ok true = search rules in
    let block = rw (e, ← c.self.view_is) at c.advance.ensures.reads in
    rw c.skip.ensures
    (open_map c.args.self.now.ended
    (λ r. reads_record c.read_into-read.new.into (rw (← c.front.ensures) c.in-Ok.ensures.ok) r) block)
