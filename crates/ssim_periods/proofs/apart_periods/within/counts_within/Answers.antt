-- The days that no entry holds count under the class of the empty value.
use Rattle.std.proofs.Common.{◌≡◌, ◌+◌, ◌-◌, ◌≤◌, nat_eq, if◌then◌else◌, slice_index_or, slice_set, refl, ap, subst, sym, ◌∙◌, arith}
use Rattle.std.proofs.lemmas.List.{length-set}
use Rattle.ssim_periods.specs.Calendar.{day_count, holds}
use Rattle.ssim_periods.specs.internal.Count.{tally}
use Rattle.ssim_periods.specs.internal.Parts.{finds}
use Rattle.ssim_periods.proofs.HeldCounts.{counted-more, counts-all, free-days, is_free, none-free, none-more, tally-fits}
use Rattle.ssim_periods.proofs.PeriodDays.{counted}
use Rattle.ssim_periods.proofs.apart_periods.within.counts_within.Goals as goal

pub overflow_sub-free : goal.overflow_sub-free
overflow_sub-free g c =
    let sum = free-days (holds c.args.period.now) c.args.entries.now in let all = c.number_of_days.ensures ∙ counted (holds c.args.period.now) in let held = c.count_held-held.ensures.held in
    omega arith

pub overflow_add-counts : goal.overflow_add-counts
overflow_add-counts g c =
    let s = holds c.args.period.now in let cl = c.class.result in
    let was = c.count_held-held.ensures.counts cl c.class.ensures.below_five in
    let few = tally-fits (finds s (λ v. nat_eq (g.C.Change.class_of c.args.change.now v) cl) c.args.entries.now) in
    let count : slice_index_or c.count_held-held.result.0 cl 0 ≤ 36525 = subst (λ n. n ≤ 36525) (sym was) few in
    let days : c.number_of_days.result ≤ 36525 = subst (λ n. n ≤ 36525) (sym (c.number_of_days.ensures ∙ counted (holds c.args.period.now))) (tally-fits s) in
    omega arith

pub returns-then-free-gt0-clause-counts : goal.returns-then-free-gt0-clause-counts
returns-then-free-gt0-clause-counts g c =
    let s = holds c.args.period.now in let xs = c.args.entries.now in let class = g.C.Change.class_of c.args.change.now in let e = g.V.Value.nothing in
    let counts = c.count_held-held.result.0 in let free = c.number_of_days.result - c.count_held-held.result.1 in let cl = c.class.result in
    let sum = free-days s xs in let all = c.number_of_days.ensures ∙ counted (holds c.args.period.now) in let held = c.count_held-held.ensures.held in
    let is : free ≡ tally (is_free s xs) 0 day_count = omega arith in
    let new = slice_set counts cl (slice_index_or counts cl 0 + free) in
    counts-all class e s xs new c.requires.once (length-set counts cl (slice_index_or counts cl 0 + free) ∙ c.count_held-held.ensures.len) (λ k h.
    let old = tally (finds s (λ v. nat_eq (class v) k) xs) 0 day_count in
    counted-more counts new cl free (λ n. tally (finds s (λ v. nat_eq (class v) n) xs) 0 day_count) c.count_held-held.ensures.len c.class.ensures.below_five refl c.count_held-held.ensures.counts k h
    ∙ ap (λ m. old + (if nat_eq m k then free else 0)) (c.class.ensures.class ∙ ap class c.empty-empty.ensures)
    ∙ ap (λ d. old + (if nat_eq (class e) k then d else 0)) is)

pub returns-else-free-gt0-clause-counts : goal.returns-else-free-gt0-clause-counts
returns-else-free-gt0-clause-counts g c =
    let s = holds c.args.period.now in let xs = c.args.entries.now in let class = g.C.Change.class_of c.args.change.now in let e = g.V.Value.nothing in
    let sum = free-days s xs in let all = c.number_of_days.ensures ∙ counted (holds c.args.period.now) in let held = c.count_held-held.ensures.held in let zero = c.if-free-gt0.false in
    let none : tally (is_free s xs) 0 day_count ≡ 0 = omega arith in
    counts-all class e s xs c.count_held-held.result.0 c.requires.once c.count_held-held.ensures.len (λ k h.
    let nothing = none-more (nat_eq (class e) k) (tally (is_free s xs) 0 day_count) none in
    let was = c.count_held-held.ensures.counts k h in
    omega arith)

pub returns-else-free-gt0-clause-free : goal.returns-else-free-gt0-clause-free
returns-else-free-gt0-clause-free g c z n lt h e =
    let s = holds c.args.period.now in let xs = c.args.entries.now in
    let sum = free-days s xs in let all = c.number_of_days.ensures ∙ counted (holds c.args.period.now) in let held = c.count_held-held.ensures.held in let zero = c.if-free-gt0.false in
    none-free s xs n (omega arith) lt h e
