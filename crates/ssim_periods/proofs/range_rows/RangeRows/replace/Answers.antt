-- Head, tail and patches are made from the old rows; the lemmas on a split say what the new rows
-- give for each day.
use Rattle.std.proofs.Common.{◌≡◌, ◌+◌, ◌-◌, List, [], map, length, slice_index_or, Vec, Global, Option, Some, None, if◌then◌else◌, false, ap, sym, subst, ◌∙◌, arith, rules}
use Rattle.std.specs.List.Sorted.{IsStrictlyIncreasing}
use Rattle.ssim_values.specs.Calendar.{slot}
use Rattle.ssim_periods.specs.clauses.Days.{AddsOnly}
use Rattle.ssim_periods.specs.Days.{changed_on}
use Rattle.ssim_periods.specs.internal.Rows.{place, value_on, AreRows}
use Rattle.ssim_periods.specs.internal.Splits.{has_cut}
use Rattle.ssim_periods.proofs.SplitLemmas.{length-map-one}
use Rattle.ssim_periods.proofs.ApplyLemmas.{in-order, before-next, next-back, counted-same, split-made, cuts-made, rows-made, within-holds, new_cuts, AreRows-put, adds_only, each_day-put}
use Rattle.ssim_periods.proofs.range_rows.RangeRows.replace.Goals as goal

pub new_rows-requires : goal.new_rows-requires
new_rows-requires g c =
    let before = c.self.inside.before in let cuts = c.self.inside.cuts.items in let q = c.args.period.now in
    let f = c.number-first.ensures.value ∙ c.first.ensures.value in let l = c.number-last.ensures.value ∙ c.last.ensures.value in (
      search rules,
      (
        subst (λ cs. AreRows before cs c.deref-2.result.now) (sym (c.deref.ensures.value ∙ c.reserve.ensures.items)) (subst (λ rs. AreRows before cuts rs) (sym (c.deref-2.ensures.value ∙ c.reserve-2.ensures.items)) c.self.invariant),
        (in-order c.number-first.result c.number-last.result q.first q.last f l c.first.ensures.period.ordered, c.number-last.ensures.bound),
      ),
    )

pub row_for_cut-requires : goal.row_for_cut-requires
row_for_cut-requires g c =
    let cuts = c.deref-3.ensures.value ∙ c.reserve.ensures.items in let rows = c.deref-4.ensures.value ∙ c.reserve-2.ensures.items in
    (search rules, (subst IsStrictlyIncreasing (sym cuts) c.self.invariant.rising, ap length rows ∙ c.self.invariant.row_count ∙ sym (ap length cuts)))

pub row_for_cut-requires-2 : goal.row_for_cut-requires-2
row_for_cut-requires-2 g c =
    let cuts = c.deref-5.ensures.value ∙ c.reserve.ensures.items in let rows = c.deref-6.ensures.value ∙ c.reserve-2.ensures.items in
    (search rules, (subst IsStrictlyIncreasing (sym cuts) c.self.invariant.rising, ap length rows ∙ c.self.invariant.row_count ∙ sym (ap length cuts)))

pub put_period-requires : goal.put_period-requires
put_period-requires g c =
    let v = c.self.invariant in let first = c.number-first.result in let last = c.number-last.result in
    let f = c.number-first.ensures.value in let f' = c.first.ensures.value in let l = c.number-last.ensures.value in let l' = c.last.ensures.value in let o = c.first.ensures.period.ordered in
    let kept : c.reserve.new.self.items ≡ c.self.inside.cuts.items = c.reserve.ensures.items in
    let kept_rows : c.reserve-2.new.self.items ≡ c.self.inside.rows.items = c.reserve-2.ensures.items in
    let count = c.in_ok-patches.ensures.len in
    let told = ap (λ cs. place cs first) ((c.deref.ensures.value ∙ c.reserve.ensures.items) ∙ sym kept) in
    let told' : place c.deref.result.now last ≡ place c.reserve.new.self.items (last + 1 - 1) = ap (λ cs. place cs last) ((c.deref.ensures.value ∙ c.reserve.ensures.items) ∙ sym kept) ∙ ap (place c.reserve.new.self.items) (next-back last) in (
      search rules,
      (
        before-next first last (in-order first last c.args.period.now.first c.args.period.now.last (f ∙ f') (l ∙ l') o),
        (
          subst IsStrictlyIncreasing (sym kept) v.rising,
          (
            c.in_ok-reserve.ensures.ok,
            (
              c.in_ok-reserve-2.ensures.ok,
              (
                ap length kept_rows ∙ v.row_count ∙ sym (ap length kept),
                (
                  c.in_ok-head.ensures.missing ∙ ap (λ cs. has_cut cs first) ((c.deref-3.ensures.value ∙ c.reserve.ensures.items) ∙ sym kept),
                  (
                    c.in_ok-tail.ensures.missing ∙ ap (λ cs. has_cut cs (last + 1)) ((c.deref-5.ensures.value ∙ c.reserve.ensures.items) ∙ sym kept),
                    (counted-same _ _ _ _ _ count told told', c.in_ok-patches.ensures.short),
                  ),
                ),
              ),
            ),
          ),
        ),
      ),
    )

values : {V : Type 0} → Vec (Option V) Global → List (Option V)
values = λ patch. patch.items

pub invariant_of-self-2 : goal.invariant_of-self-2
unfolding values
invariant_of-self-2 g c =
    let v = c.self.invariant in let first = c.number-first.result in let last = c.number-last.result in
    let f = c.number-first.ensures.value in let f' = c.first.ensures.value in let l = c.number-last.ensures.value in let l' = c.last.ensures.value in let o = c.first.ensures.period.ordered in
    let before = c.self.inside.before in let cuts = c.self.inside.cuts.items in let rows = c.self.inside.rows.items in
    let split = split-made before cuts _ _ rows _ _ first last c.in_ok-head.head c.in_ok-tail.tail v (in-order first last c.args.period.now.first c.args.period.now.last (f ∙ f') (l ∙ l') o) (c.deref-3.ensures.value ∙ c.reserve.ensures.items) (c.deref-4.ensures.value ∙ c.reserve-2.ensures.items) c.in_ok-head.ensures.missing c.in_ok-head.ensures.row (c.deref-5.ensures.value ∙ c.reserve.ensures.items) (c.deref-6.ensures.value ∙ c.reserve-2.ensures.items) c.in_ok-tail.ensures.missing c.in_ok-tail.ensures.row in
    let patches = map values c.in_ok-patches.patches.items in
    subst (λ cs. AreRows before cs c.put_period.new.rows.items) (sym (cuts-made cuts _ _ first last c.put_period.ensures.cuts c.reserve.ensures.items))
    (subst (λ rs. AreRows before (new_cuts cuts first last) rs) (sym (rows-made cuts _ rows _ _ first last _ _ patches c.put_period.ensures.rows c.reserve.ensures.items c.reserve-2.ensures.items))
    (AreRows-put before cuts rows first last _ _ patches split c.number-last.ensures.bound))

pub returns-clause-days : goal.returns-clause-days
unfolding values
returns-clause-days g c =
    let v = c.self.invariant in let first = c.number-first.result in let last = c.number-last.result in let mask = c.days-mask.result in
    let f = c.number-first.ensures.value in let f' = c.first.ensures.value in let l = c.number-last.ensures.value in let l' = c.last.ensures.value in let o = c.first.ensures.period.ordered in
    let before = c.self.inside.before in let cuts = c.self.inside.cuts.items in let rows = c.self.inside.rows.items in
    let split = split-made before cuts _ _ rows _ _ first last c.in_ok-head.head c.in_ok-tail.tail v (in-order first last c.args.period.now.first c.args.period.now.last (f ∙ f') (l ∙ l') o) (c.deref-3.ensures.value ∙ c.reserve.ensures.items) (c.deref-4.ensures.value ∙ c.reserve-2.ensures.items) c.in_ok-head.ensures.missing c.in_ok-head.ensures.row (c.deref-5.ensures.value ∙ c.reserve.ensures.items) (c.deref-6.ensures.value ∙ c.reserve-2.ensures.items) c.in_ok-tail.ensures.missing c.in_ok-tail.ensures.row in
    let patches = map values c.in_ok-patches.patches.items in
    let after = g.C.Change.outcome c.args.change.now in
    let many = length-map-one values c.in_ok-patches.patches.items in
    let ok = c.in_ok-patches.patches.ok in
    let len = c.in_ok-patches.ensures.len in
    let told = ap (λ cs. place cs first) (c.deref.ensures.value ∙ c.reserve.ensures.items) in let told' = ap (λ cs. place cs last) (c.deref.ensures.value ∙ c.reserve.ensures.items) in
    each_day-put g.V.Value.nothing before cuts rows first last _ _ mask after patches _ _ _ split (omega arith)
    (λ n h k. ap (λ cs. slice_index_or (slice_index_or patches (place cs n - place cs first) []) (slot n) None) (sym (c.deref.ensures.value ∙ c.reserve.ensures.items))
    ∙ c.in_ok-patches.ensures.patches n h k
    ∙ ap (λ cs. if slice_index_or mask (slot n) false then Some (after (value_on g.V.Value.nothing before cs c.deref-2.result.now n)) else None) (c.deref.ensures.value ∙ c.reserve.ensures.items)
    ∙ ap (λ rs. if slice_index_or mask (slot n) false then Some (after (value_on g.V.Value.nothing before cuts rs n)) else None) (c.deref-2.ensures.value ∙ c.reserve-2.ensures.items))
    (cuts-made cuts _ _ first last c.put_period.ensures.cuts c.reserve.ensures.items)
    (rows-made cuts _ rows _ _ first last _ _ patches c.put_period.ensures.rows c.reserve.ensures.items c.reserve-2.ensures.items)
    (ap (λ s. s.days) c.self.view_is)
    ∙ within-holds (λ s. changed_on s after 0 c.args.self.now.days) c.args.period.now first last mask (f ∙ f') (l ∙ l') (c.days-mask.ensures.value ∙ c.mask.ensures.value)

pub returns-clause-cuts : goal.returns-clause-cuts
returns-clause-cuts g c =
    let first = c.number-first.result in let last = c.number-last.result in
    let f = c.number-first.ensures.value ∙ c.first.ensures.value in let l = c.number-last.ensures.value ∙ c.last.ensures.value in
    subst (λ a. AddsOnly c.args.self.now.cuts c.put_period.new.cuts.items a (c.args.period.now.last + 1)) f
    (subst (λ b. AddsOnly c.args.self.now.cuts c.put_period.new.cuts.items first (b + 1)) l
    (subst (λ cs. AddsOnly cs c.put_period.new.cuts.items first (last + 1)) (ap (λ s. s.cuts) c.self.view_is)
    (subst (λ cs. AddsOnly c.self.inside.cuts.items cs first (last + 1)) (sym (cuts-made c.self.inside.cuts.items _ _ first last c.put_period.ensures.cuts c.reserve.ensures.items)) (adds_only c.self.inside.cuts.items first (last + 1)))))
