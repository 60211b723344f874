-- Each entry adds the days that it has in common with the period to the class of its value.
use Rattle.std.proofs.Common.{◌≡◌, ◌+◌, ◌-◌, ◌<◌, ◌≤◌, ◌&&◌, Bool, nat_eq, if◌then◌else◌, length, drop, slice_index_or, slice_set, refl, ap, subst, sym, ◌∙◌, arith}
use Rattle.std.proofs.lemmas.List.{length-set}
use Rattle.ssim_periods.specs.Calendar.{day_count, holds}
use Rattle.ssim_periods.specs.internal.Count.{tally}
use Rattle.ssim_periods.specs.internal.Parts.{any_value, finds}
use Rattle.ssim_periods.proofs.HeldCounts.{counted-more, counted-none, found-next, found-none, none-more, tally-fits}
use Rattle.ssim_periods.proofs.apart_periods.within.count_held.Goals as goal

pub loop-place-init : goal.loop-place-init
loop-place-init g c =
    let s = holds c.args.period.now in let xs = c.args.entries.now in
    record {
      within = omega arith;
      five = refl;
      counts = λ k h. counted-none s (λ v. nat_eq (g.C.Change.class_of c.args.change.now v) k) xs k;
      held = found-none s any_value xs;
    }

pub overflow_add-counts : goal.overflow_add-counts
overflow_add-counts g c =
    let s = holds c.args.period.now in let xs = c.args.entries.now in let cl = c.class.result in
    let was = c.loop-place.invariant.counts cl c.class.ensures.below_five in
    let few = tally-fits (finds s (λ v. nat_eq (g.C.Change.class_of c.args.change.now v) cl) (drop c.loop-place.place xs)) in
    let count : slice_index_or c.loop-place.counts cl 0 ≤ 36525 = subst (λ n. n ≤ 36525) (sym was) few in
    let days = c.common_days-days.ensures.bound in
    omega arith

pub overflow_add-held : goal.overflow_add-held
overflow_add-held g c =
    let few = tally-fits (finds (holds c.args.period.now) any_value (drop c.loop-place.place c.args.entries.now)) in
    let count : c.loop-place.held ≤ 36525 = subst (λ n. n ≤ 36525) (sym c.loop-place.invariant.held) few in
    let days = c.common_days-days.ensures.bound in
    omega arith

pub loop-place-preserved-then-days-gt0 : goal.loop-place-preserved-then-days-gt0
loop-place-preserved-then-days-gt0 g c =
    let s = holds c.args.period.now in let xs = c.args.entries.now in let class = g.C.Change.class_of c.args.change.now in
    let i = c.loop-place.place in let x = c.index-entries-place.result in let days = c.common_days-days.result in
    let counts = c.loop-place.counts in let cl = c.class.result in
    let inv = c.loop-place.invariant in let test = c.loop-place-test.true in let fits = inv.within in
    let next : i - 1 + 1 ≡ i = omega arith in let lt : i - 1 < length xs = omega arith in
    record {
      within = omega arith;
      five = length-set counts cl (slice_index_or counts cl 0 + days) ∙ inv.five;
      counts = λ k h.
          let test : g.row.V.Denot → Bool = λ v. nat_eq (class v) k in
          let old = tally (finds s test (drop i xs)) 0 day_count in
          counted-more counts (slice_set counts cl (slice_index_or counts cl 0 + days)) cl days (λ n. tally (finds s (λ v. nat_eq (class v) n) (drop i xs)) 0 day_count) inv.five c.class.ensures.below_five refl inv.counts k h
          ∙ ap (λ m. old + (if nat_eq m k then days else 0)) c.class.ensures.class
          ∙ ap (λ d. old + (if nat_eq (class x.1) k then d else 0)) c.common_days-days.ensures.value
          ∙ sym (found-next s test xs i (i - 1) x next lt c.index-entries-place.is c.requires.once);
      held =
          ap (λ n. n + days) inv.held ∙ ap (λ d. tally (finds s any_value (drop i xs)) 0 day_count + d) c.common_days-days.ensures.value
          ∙ sym (found-next s any_value xs i (i - 1) x next lt c.index-entries-place.is c.requires.once);
    }

pub loop-place-preserved : goal.loop-place-preserved
loop-place-preserved g c =
    let s = holds c.args.period.now in let xs = c.args.entries.now in let class = g.C.Change.class_of c.args.change.now in
    let i = c.loop-place.place in let x = c.index-entries-place.result in
    let inv = c.loop-place.invariant in let test = c.loop-place-test.true in let fits = inv.within in
    let next : i - 1 + 1 ≡ i = omega arith in let lt : i - 1 < length xs = omega arith in
    let zero = c.if-days-gt0.false in
    let is : c.common_days-days.result ≡ 0 = omega arith in
    let none : tally (λ n. s n && holds x.0 n) 0 day_count ≡ 0 = sym c.common_days-days.ensures.value ∙ is in
    record {
      within = omega arith;
      five = inv.five;
      counts = λ k h.
          let test : g.row.V.Denot → Bool = λ v. nat_eq (class v) k in
          let more = found-next s test xs i (i - 1) x next lt c.index-entries-place.is c.requires.once in
          let nothing = none-more (nat_eq (class x.1) k) (tally (λ n. s n && holds x.0 n) 0 day_count) none in
          let was = inv.counts k h in
          omega arith;
      held =
          let more = found-next s any_value xs i (i - 1) x next lt c.index-entries-place.is c.requires.once in
          let was = inv.held in
          omega arith;
    }
