-- From record to record, by the lemmas on what was read so far; each result that ends the reading
-- is the outcome of the bytes.
use Rattle.std.proofs.Common.{rules, ◌≡◌, ℕ, ◌+◌, Option, Some, None, Ok, Err, false, [], ◌∷◌, ◌++◌, refl, sym, ap, subst, ◌∙◌, arith}
use Rattle.ssim_records.specs.clauses.Blocks.{BytesCame, Fetches}
use Rattle.ssim_records.specs.clauses.Reading.{Answer, Reading, ReadsRecord, ending_of, given}
use Rattle.ssim_records.proofs.Framing.{came_twice}
use Rattle.ssim_records.specs.declared.record.Record.{Record}
use Rattle.ssim_base.specs.Base.{Done, kept}
use Rattle.ssim_base.specs.clauses.Reading.{Came}
use Rattle.ssim_base.specs.internal.Reading.{AreGivenOf}
use Rattle.ssim_base.specs.declared.fault.BaseFault.TheVariants.{Memory}
use Rattle.ssim_base.proofs.BlocksAhead.{came-first, fetched-first, fetched-on, have-come}
use Rattle.ssim_base.proofs.BlocksAhead.{while-open}
use Rattle.ssim_base.proofs.ReadingLemmas.{Numbered, Told, ended-beyond}
use Rattle.ssim_base.proofs.ReadingLemmas.{fails-after, fault-fails, never-refused, never-fails}
use Rattle.ssim_base.proofs.ReadingLemmas.{refused-fails}
use Rattle.ssim_base.proofs.ReadingLemmas.{step-refused, nothing, one-more, told-end, told-fault}
use Rattle.ssim_base.proofs.ReadingLemmas.{told-first, told-step}
use Rattle.ssim_base.proofs.RecordsAhead.{Says, says}
use Rattle.ssim_base.proofs.RestLemmas.{after-fault, after-refused}
use Rattle.ssim_base.proofs.data_set.reader.read_records.Given as context
use Rattle.ssim_base.proofs.data_set.reader.read_records.Goals.{After-next_into}
use Rattle.ssim_base.proofs.data_set.reader.read_records.Goals as goal

pub loop-number-init : goal.loop-number-init
loop-number-init g c =
    let fresh = c.requires.unread in
    let limit = c.args.blocks.now.limit in
    let before = g.R.Source.state c.args.reader.now in
    let left = before.left in
    let number : c.args.blocks.now.number ≡ 0 = ap (λ (r : Reading). r.number) fresh in
    let new = c.new-records_read.ensures in
    record {
      limit_is = refl;
      open' = ap (λ (r : Reading). r.ended) fresh;
      counted = omega (arith, number);
      earlier = [];
      done = [];
      has = c.requires.empty;
      so_far = nothing c.new-records_read.result new.kept new.notes new.previous;
      told = subst (λ (r : Reading). Told limit left left r []) (sym fresh)
          (told-first limit left c.frames_are_one.ensures.exist);
      fetched = fetched-first left fresh;
      came = came-first before fresh;
      no_failure = refl;
    }

-- ---- what a call for the next record says

reads : (g : context.Over) (c : After-next_into g)
    → ReadsRecord c.loop-number.blocks (g.R.Source.state c.loop-number.reader)
    c.next_into.new.self (g.R.Source.state c.next_into.new.reader)
    (given c.next_into.new.into c.next_into.result)
reads g c = while-open _ c.loop-number.invariant.open' c.next_into.ensures.reads

-- of what it returned
returned : (g : context.Over) (c : After-next_into g) (a : Answer)
    → given c.next_into.new.into c.next_into.result ≡ a
    → Says c.loop-number.blocks (g.R.Source.state c.loop-number.reader) c.next_into.new.self
    (g.R.Source.state c.next_into.new.reader) a
returned g c a is =
    subst (Says c.loop-number.blocks (g.R.Source.state c.loop-number.reader)
    c.next_into.new.self (g.R.Source.state c.next_into.new.reader)) is (says (reads g c))

-- of all bytes that were fetched
fetched : (g : context.Over) (c : After-next_into g)
    → Fetches false 0 [] (g.R.Source.state c.args.reader.now).left c.next_into.new.self.number
    c.next_into.new.self.held (g.R.Source.state c.next_into.new.reader).left
fetched g c =
    fetched-on _ _ _ c.loop-number.blocks c.next_into.new.self c.loop-number.invariant.fetched
    (reads g c).reads.fetched

-- and of how many came
came-so-far : (g : context.Over) (c : After-next_into g)
    → BytesCame (g.R.Source.state c.args.reader.now) (g.R.Source.state c.next_into.new.reader) 0
    c.next_into.new.self.came
came-so-far g c =
    came_twice _ _ _ _ _ _ _ _ _ c.loop-number.invariant.came (reads g c).reads.came

came : (g : context.Over) (c : After-next_into g)
    → Came (g.R.Source.state c.args.reader.now) (g.R.Source.state c.next_into.new.reader)
    c.next_into.new.self.came
came g c =
    have-come (g.R.Source.state c.args.reader.now) (g.R.Source.state c.next_into.new.reader)
    c.next_into.new.self.came (came-so-far g c)

-- ---- a record was read

pub loop-number-preserved : goal.loop-number-preserved
loop-number-preserved g c =
    let at = (goal.at.loop-number-preserved g c).After-next_into in
    let i = c.loop-number.invariant in
    let old = c.loop-number.blocks in
    let new = c.next_into.new.self in
    let x : Numbered = (c.in-Ok.number, c.in-Some.record) in
    let answer : given c.next_into.new.into c.next_into.result ≡ Ok (Some x) =
    rw (c.in-Ok.is, c.in-Some.is) refl in
    let next = returned g at (Ok (Some x)) answer in
    let more = next.number.2 in
    let same = c.next_into.ensures.limit in
    let limit = i.limit_is in
    let taken = c.in_ok-take-in-Some.ensures in
    let accepted = taken.accepts i.earlier i.so_far.is_kept in
    record {
      limit_is = same ∙ limit;
      open' = c.next_into.ensures.ended ∙ ap ending_of answer;
      counted = omega (arith, more, same, limit);
      earlier = kept i.earlier x.1 ∷ i.earlier;
      done = i.done ++ x ∷ [];
      has = subst (λ (r : Record). g.L.RecordSink.has c.push_record.new.self (r ∷ i.earlier))
          accepted.closed_is (c.in_ok-push_record-in-Some.ensures i.earlier i.has);
      so_far = one-more c.loop-number.records_read c.take.new.self i.earlier i.done x c.take.new.one
          i.so_far accepted taken.noted taken.previous taken.is_record;
      told =
          told-step c.args.blocks.now.limit (g.R.Source.state c.args.reader.now).left
          (g.R.Source.state c.loop-number.reader).left
          (g.R.Source.state c.next_into.new.reader).left old new i.done x i.told next.gives;
      fetched = fetched g at;
      came = came-so-far g at;
      no_failure = next.failure ∙ i.no_failure;
    }

-- ---- a record is refused

pub returns-in_err-take-in-Some-clause-err : goal.returns-in_err-take-in-Some-clause-err
returns-in_err-take-in-Some-clause-err g c =
    let at = (goal.at.returns-in_err-take-in-Some-clause-err g c).After-next_into in
    let i = c.loop-number.invariant in
    let x : Numbered = (c.in-Ok.number, c.in-Some.record) in
    let next = returned g at (Ok (Some x)) (rw (c.in-Ok.is, c.in-Some.is) refl) in
    let fault = c.in_err-take-in-Some.field-0.0 in
    let refusal : c.from_residual.result ≡ Err fault = search rules in
    rw refusal (step-refused c.args.blocks.now.limit (g.R.Source.state c.args.reader.now).left
    (g.R.Source.state c.loop-number.reader).left (g.R.Source.state c.next_into.new.reader).left
    c.loop-number.blocks c.next_into.new.self c.loop-number.records_read i.earlier i.done x fault
    i.so_far i.told next.gives (c.in_err-take-in-Some.ensures.err i.earlier i.so_far.is_kept)
    c.in_err-take-in-Some.ensures.is_record)

pub returns-in_err-take-in-Some-clause-fetched : goal.returns-in_err-take-in-Some-clause-fetched
returns-in_err-take-in-Some-clause-fetched g c =
    let refusal : c.from_residual.result ≡ Err c.in_err-take-in-Some.field-0.0 = search rules in
    rw refusal
    (fetched g (goal.at.returns-in_err-take-in-Some-clause-fetched g c).After-next_into)

pub returns-in_err-take-in-Some-clause-came : goal.returns-in_err-take-in-Some-clause-came
returns-in_err-take-in-Some-clause-came g c =
    let refusal : c.from_residual.result ≡ Err c.in_err-take-in-Some.field-0.0 = search rules in
    rw refusal (came g (goal.at.returns-in_err-take-in-Some-clause-came g c).After-next_into)

pub returns-in_err-take-in-Some-clause-by_record : goal.returns-in_err-take-in-Some-clause-by_record
returns-in_err-take-in-Some-clause-by_record g c =
    let at = (goal.at.returns-in_err-take-in-Some-clause-by_record g c).After-next_into in
    let i = c.loop-number.invariant in
    let before = g.R.Source.state c.args.reader.now in
    let after = g.R.Source.state c.next_into.new.reader in
    let x : Numbered = (c.in-Ok.number, c.in-Some.record) in
    let next = returned g at (Ok (Some x)) (rw (c.in-Ok.is, c.in-Some.is) refl) in
    let fault = c.in_err-take-in-Some.field-0.0 in
    let refused = c.in_err-take-in-Some.ensures.err i.earlier i.so_far.is_kept in
    let refusal : c.from_residual.result ≡ Err fault = search rules in
    rw refusal (record {
      failure =
          refused-fails before.failures after.failures x.0 i.earlier x.1 fault refused
          (next.failure ∙ i.no_failure);
      fails_after = never-fails before.left after.left x.0 i.earlier x.1 fault refused;
      never_ends =
          never-refused c.args.blocks.now.limit (Came before after) x.0 i.earlier x.1 fault refused;
    })

pub returns-in_err-take-in-Some-clause-next : goal.returns-in_err-take-in-Some-clause-next
returns-in_err-take-in-Some-clause-next g c =
    let at = (goal.at.returns-in_err-take-in-Some-clause-next g c).After-next_into in
    let i = c.loop-number.invariant in
    let x : Numbered = (c.in-Ok.number, c.in-Some.record) in
    let next = returned g at (Ok (Some x)) (rw (c.in-Ok.is, c.in-Some.is) refl) in
    let fault = c.in_err-take-in-Some.field-0.0 in
    let refusal : c.from_residual.result ≡ Err fault = search rules in
    rw refusal (after-refused c.next_into.new.self.number x.0 i.earlier x.1 fault
    (c.in_err-take-in-Some.ensures.err i.earlier i.so_far.is_kept) next.number.0)

-- ---- memory runs out

pub returns-in_err-push_record-in-Some-clause-fetched : goal.returns-in_err-push_record-in-Some-clause-fetched
returns-in_err-push_record-in-Some-clause-fetched g c =
    let at = (goal.at.returns-in_err-push_record-in-Some-clause-fetched g c).After-next_into in
    let refusal : c.from_residual-in_err-push_record-in-Some.result ≡ Err Memory = search rules in
    rw refusal (fetched g at)

pub returns-in_err-push_record-in-Some-clause-by_record : goal.returns-in_err-push_record-in-Some-clause-by_record
returns-in_err-push_record-in-Some-clause-by_record g c =
    let at = (goal.at.returns-in_err-push_record-in-Some-clause-by_record g c).After-next_into in
    let x : Numbered = (c.in-Ok.number, c.in-Some.record) in
    let next = returned g at (Ok (Some x)) (rw (c.in-Ok.is, c.in-Some.is) refl) in
    let refusal : c.from_residual-in_err-push_record-in-Some.result ≡ Err Memory = search rules in
    rw refusal (record {
      failure = next.failure ∙ c.loop-number.invariant.no_failure;
      fails_after = tt;
      never_ends = tt;
    })

-- ---- no record is left

pub returns-in-None-clause-ok : goal.returns-in-None-clause-ok
returns-in-None-clause-ok g c =
    let at = (goal.at.returns-in-None-clause-ok g c).After-next_into in
    let i = c.loop-number.invariant in
    let limit = c.args.blocks.now.limit in
    let left = (g.R.Source.state c.args.reader.now).left in
    let next = returned g at (Ok None) (rw (c.in-Ok.is, c.in-None.is) refl) in
    record {
      earlier = i.earlier;
      done = i.done;
      has = i.has;
      so_far = i.so_far;
      given =
          subst (λ (n : ℕ). AreGivenOf limit left i.done (Done (n + 1))) (sym c.number.ensures.value)
          (told-end limit left (g.R.Source.state c.loop-number.reader).left
          (g.R.Source.state c.next_into.new.reader).left c.loop-number.blocks c.next_into.new.self
          i.done i.limit_is i.told next.gives);
    }

pub overflow_add-result : goal.overflow_add-result
overflow_add-result g c =
    omega (
      arith,
      c.number.ensures.small,
      c.next_into.ensures.limit,
      c.loop-number.invariant.limit_is,
      c.requires.limit,
    )

-- ---- the next record has a fault

pub returns-in-Err-clause-err : goal.returns-in-Err-clause-err
returns-in-Err-clause-err g c =
    let at = (goal.at.returns-in-Err-clause-err g c).After-next_into in
    let i = c.loop-number.invariant in
    let fault = c.in-Err.fault in
    let next = returned g at (Err fault) (rw c.in-Err.is refl) in
    told-fault c.args.blocks.now.limit (g.R.Source.state c.args.reader.now).left
    (g.R.Source.state c.loop-number.reader).left (g.R.Source.state c.next_into.new.reader).left
    c.loop-number.blocks c.next_into.new.self c.loop-number.records_read i.earlier i.done fault
    i.limit_is i.so_far i.told next.gives next.number

pub returns-in-Err-clause-fetched : goal.returns-in-Err-clause-fetched
returns-in-Err-clause-fetched g c =
    fetched g (goal.at.returns-in-Err-clause-fetched g c).After-next_into

pub returns-in-Err-clause-came : goal.returns-in-Err-clause-came
returns-in-Err-clause-came g c =
    came g (goal.at.returns-in-Err-clause-came g c).After-next_into

pub returns-in-Err-clause-by_record : goal.returns-in-Err-clause-by_record
returns-in-Err-clause-by_record g c =
    let at = (goal.at.returns-in-Err-clause-by_record g c).After-next_into in
    let i = c.loop-number.invariant in
    let old = c.loop-number.blocks in
    let new = c.next_into.new.self in
    let limit = c.args.blocks.now.limit in
    let before = g.R.Source.state c.args.reader.now in
    let mid = g.R.Source.state c.loop-number.reader in
    let after = g.R.Source.state c.next_into.new.reader in
    let fault = c.in-Err.fault in
    let next = returned g at (Err fault) (rw c.in-Err.is refl) in
    record {
      failure =
          fault-fails (Option Numbered) before.failures mid.failures after.failures fault i.no_failure next.failure;
      fails_after =
          fails-after limit before.left mid.left after.left old new c.loop-number.records_read
          i.earlier i.done fault i.so_far i.told next.gives
          (reads g at).reads.fetched (fetched g at) next.number next.held;
      never_ends =
          ended-beyond (Option Numbered) limit (Came before after) new fault
          (c.next_into.ensures.limit ∙ i.limit_is) (came g at) next.held;
    }

pub returns-in-Err-clause-next : goal.returns-in-Err-clause-next
returns-in-Err-clause-next g c =
    let at = (goal.at.returns-in-Err-clause-next g c).After-next_into in
    let next = returned g at (Err c.in-Err.fault) (rw c.in-Err.is refl) in
    after-fault c.loop-number.blocks c.next_into.new.self c.in-Err.fault next.number
