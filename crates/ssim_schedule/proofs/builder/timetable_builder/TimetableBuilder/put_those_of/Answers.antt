-- From the last record to the first, as for all records; those of other flights are left out.
use Rattle.std.proofs.Common.{◌≡◌, ◌<◌, ◌≤◌, ◌-◌, ℕ, Bool, List, ◌∷◌, ◌++◌, drop, get_or, length, sym, subst, ◌∙◌, arith}
use Rattle.std.proofs.lemmas.List.{drop_all}
use Rattle.std.specs.List.{filter}
use Rattle.ssim_records.specs.declared.record.Record.{Record}
use Rattle.ssim_base.specs.clauses.Closed.{IsClosed}
use Rattle.ssim_schedule.specs.internal.TimetableBuilder.{IsBuilt}
use Rattle.ssim_schedule.specs.internal.FlightSet.{is_marked, is_record_of}
use Rattle.ssim_schedule.proofs.FlightSets.{one_kept, one_left_out}
use Rattle.ssim_schedule.proofs.TimetableBuilderLemmas.{drop-before}
use Rattle.ssim_schedule.proofs.builder.timetable_builder.TimetableBuilder.put_those_of.Goals as goal

-- what is built of the records so far is built of those from the one before an index on
built_on : (B : List Record → Type 0) (is_in : Record → Bool) (records done built : List Record)
    (place : ℕ) (one : Record) → 0 < place → place ≤ length records
    → one ≡ get_or records (place - 1) one → built ≡ filter is_in (one ∷ drop place records) ++ done
    → B built → B (filter is_in (drop (place - 1) records) ++ done)
built_on B is_in records done built place one some within is same h =
    let from = drop-before records place one some (omega (arith, some, within)) is in
    subst (λ (before : List Record). B (filter is_in before ++ done)) (sym from) (subst B same h)

pub loop-place-init : goal.loop-place-init
loop-place-init c =
    let is_in = is_record_of (is_marked c.args.flights.now.marks.items) in
    (omega arith, λ wanted done built. subst (λ (before : List Record). IsBuilt wanted c.args.self.now (filter is_in before ++ done)) (sym (drop_all (length c.args.records.now) c.args.records.now (omega arith))) built)

pub put-requires : goal.put-requires
put-requires c =
    let within : c.loop-place.place - 1 < length c.args.records.now = omega (arith, c.loop-place.invariant.0) in
    subst (λ (r : Record). IsClosed r) (sym c.index-records-place.is) (c.requires (c.loop-place.place - 1) c.index-records-place.result within)

pub loop-place-preserved : goal.loop-place-preserved
loop-place-preserved c =
    let p = is_marked c.args.flights.now.marks.items in
    let place = c.loop-place.place in
    let one = c.index-records-place.result in
    let out = sym c.has_flight_of.ensures ∙ c.if-has_flight_of.false in (
      omega (arith, c.loop-place.invariant.0),
      λ wanted done built. built_on (IsBuilt wanted c.loop-place.self) (is_record_of p)
          c.args.records.now done _ place one c.loop-place-test.true c.loop-place.invariant.0
          c.index-records-place.is (one_left_out p one (drop place c.args.records.now) done out)
          (c.loop-place.invariant.1 wanted done built),
    )

pub loop-place-preserved-in-Continue-1 : goal.loop-place-preserved-in-Continue-1
loop-place-preserved-in-Continue-1 c =
    let p = is_marked c.args.flights.now.marks.items in
    let one = c.index-records-place.result in
    let later = drop c.loop-place.place c.args.records.now in
    let in' = sym c.has_flight_of.ensures ∙ c.if-has_flight_of.true in (
      omega (arith, c.loop-place.invariant.0),
      λ wanted done built. built_on (IsBuilt wanted c.put.new.self) (is_record_of p)
          c.args.records.now done _ c.loop-place.place one c.loop-place-test.true
          c.loop-place.invariant.0 c.index-records-place.is (one_kept p one later done in')
          (c.in_ok-put.ensures wanted (filter (is_record_of p) later ++ done)
          (c.loop-place.invariant.1 wanted done built)),
    )

pub returns : goal.returns
returns c = λ wanted done built.
    let is_in = is_record_of (is_marked c.args.flights.now.marks.items) in
    let none : c.loop-place.place ≡ 0 = omega arith in
    subst (λ (k : ℕ). IsBuilt wanted c.loop-place.self (filter is_in (drop k c.args.records.now) ++ done)) none (c.loop-place.invariant.1 wanted done built)
