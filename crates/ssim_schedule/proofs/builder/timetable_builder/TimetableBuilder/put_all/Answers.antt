-- From the last record to the first: the records after an index are in the timetable.
use Rattle.std.proofs.Common.{◌≡◌, ◌<◌, ◌-◌, ℕ, List, ◌++◌, drop, length, sym, subst, arith}
use Rattle.std.proofs.lemmas.List.{drop_all}
use Rattle.ssim_records.specs.declared.record.Record.{Record}
use Rattle.ssim_base.specs.clauses.Closed.{IsClosed}
use Rattle.ssim_schedule.specs.internal.TimetableBuilder.{IsBuilt}
use Rattle.ssim_schedule.proofs.TimetableBuilderLemmas.{drop-before}
use Rattle.ssim_schedule.proofs.builder.timetable_builder.TimetableBuilder.put_all.Goals as goal

pub loop-place-init : goal.loop-place-init
loop-place-init c =
    (omega arith, λ wanted done built. subst (λ (before : List Record). IsBuilt wanted c.args.self.now (before ++ done)) (sym (drop_all (length c.args.records.now) c.args.records.now (omega arith))) built)

pub put-requires : goal.put-requires
put-requires c =
    let within : c.loop-place.place - 1 < length c.args.records.now = omega (arith, c.loop-place.invariant.0) in
    subst (λ (r : Record). IsClosed r) (sym c.index-records-place.is) (c.requires (c.loop-place.place - 1) c.index-records-place.result within)

pub loop-place-preserved : goal.loop-place-preserved
loop-place-preserved c =
    let records = c.args.records.now in
    let place = c.loop-place.place in
    let within : place - 1 < length records = omega (arith, c.loop-place.invariant.0) in
    let from = drop-before records place c.index-records-place.result c.loop-place-test.true within c.index-records-place.is in (
      omega (arith, c.loop-place.invariant.0),
      λ wanted done built. subst (λ (before : List Record). IsBuilt wanted c.put.new.self (before ++ done)) (sym from) (c.in_ok-put.ensures wanted (drop place records ++ done) (c.loop-place.invariant.1 wanted done built)),
    )

pub returns : goal.returns
returns c = λ wanted done built.
    let none : c.loop-place.place ≡ 0 = omega arith in
    subst (λ (k : ℕ). IsBuilt wanted c.loop-place.self (drop k c.args.records.now ++ done)) none (c.loop-place.invariant.1 wanted done built)
