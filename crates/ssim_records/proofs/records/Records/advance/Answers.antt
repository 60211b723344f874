-- What was found is the next block that is not fill, or why there is none.
use Rattle.std.proofs.Common.{◌≡◌, ◌∙◌, ◌+◌, Ok, Err, Some, None, true, false, take, drop, refl, ap, rules, arith}
use Rattle.ssim_records.specs.clauses.Reading.{Reading}
use Rattle.ssim_records.specs.internal.Blocks.{refusal_of}
use Rattle.ssim_records.specs.declared.records.Ending.TheVariants.{End, Refused}
use Rattle.ssim_records.proofs.Readings.{gives_next, if_open, stop_reads}
use Rattle.ssim_records.proofs.records.Records.advance.Goals as goal

pub returns-in-Ok-true-clause-reads : goal.returns-in-Ok-true-clause-reads
returns-in-Ok-true-clause-reads g c =
    let i = c.self.inside in
    let n = c.next_other.new.number in
    let held = c.next_other.new.window in
    let old : Reading = record { limit = i.limit; came = i.came; number = i.number; held = i.window; ended = i.ended } in
    let new : Reading = record { limit = i.limit; came = c.next_other.new.came; number = n + 1; held = drop 200 held; ended = i.ended } in
    let e : c.next_other.result ≡ Ok true = search rules in
    let block = rw e at c.next_other.ensures.block in
    let fetched = rw e at c.next_other.ensures.fetched in
    let fault = rw e at c.next_other.ensures.fault in
    let long = c.next_other.ensures.long e in
    rw (← c.self.view_is) (if_open i.ended (record {
      next = gives_next old new _ _ (Ok (Some (take 200 held))) refl block;
      number = (refl, omega (arith, c.next_other.ensures.more), omega (arith, c.next_other.ensures.counted, c.next_other.ensures.came, long));
      stops = tt;
      fetched = fetched;
      held = tt;
      failure = fault;
      came = c.next_other.ensures.bytes;
    }))

pub returns-in-Ok-false-clause-reads : goal.returns-in-Ok-false-clause-reads
returns-in-Ok-false-clause-reads g c =
    let i = c.self.inside in
    let old : Reading = record { limit = i.limit; came = i.came; number = i.number; held = i.window; ended = i.ended } in
    let new : Reading = record { limit = i.limit; came = c.next_other.new.came; number = c.next_other.new.number; held = c.next_other.new.window; ended = Some End } in
    let e : c.next_other.result ≡ Ok false = search rules in
    let block = rw e at c.next_other.ensures.block in
    let fetched = rw e at c.next_other.ensures.fetched in
    let fault = rw e at c.next_other.ensures.fault in
    rw (← c.self.view_is) (if_open i.ended (record {
      next = gives_next old new _ _ (Ok None) refl block;
      number = tt;
      stops = tt;
      fetched = fetched;
      held = tt;
      failure = fault;
      came = c.next_other.ensures.bytes;
    }))

pub returns-in-Err-clause-reads : goal.returns-in-Err-clause-reads
returns-in-Err-clause-reads g c =
    let i = c.self.inside in
    let n = c.next_other.new.number in
    let why = c.in-Err.stop in
    let old : Reading = record { limit = i.limit; came = i.came; number = i.number; held = i.window; ended = i.ended } in
    let new : Reading = record { limit = i.limit; came = c.next_other.new.came; number = n; held = c.next_other.new.window; ended = Some (Refused (refusal_of why (n + 1))) } in
    let block = rw c.in-Err.is at c.next_other.ensures.block in
    let fetched = rw c.in-Err.is at c.next_other.ensures.fetched in
    let few = rw c.in-Err.is at c.next_other.ensures.few_left in
    let fault = rw c.in-Err.is at c.next_other.ensures.fault in
    rw (← c.self.view_is, c.refusal_of-fault.ensures)
    (if_open i.ended
    (stop_reads old new (g.R.Source.state c.args.reader.now) (g.R.Source.state c.next_other.new.reader)
    why refl c.next_other.ensures.came block fetched few
    (λ is. c.next_other.ensures.never_ends (c.in-Err.is ∙ ap Err is)) fault
    c.next_other.ensures.bytes))
