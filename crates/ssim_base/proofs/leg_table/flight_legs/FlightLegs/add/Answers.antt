-- The entry of the leg sequence has one more leg record.
use Rattle.ssim_periods.specs.CommonDays.{have_common_date}
use Rattle.std.proofs.Common.{◌≡◌, ℕ, ◌<◌, ◌||◌, nat_eq, Option, Some, length, set, slice_get, refl, sym, ap, subst, ◌∙◌, arith}
use Rattle.std.proofs.lemmas.Option.{slice_get_read}
use Rattle.std.proofs.lemmas.Result.{IfOk-weaker}
use Rattle.ssim_periods.specs.Calendar.{holds}
use Rattle.ssim_base.specs.internal.LegTable.{AddsLeg, entry_of, index_of, used_of, variation_of}
use Rattle.ssim_base.specs.declared.leg_table.leg_sequence.LegSequence.{LegSequence}
use Rattle.ssim_base.proofs.LegSequences.{adds, entry-set, has-set, on-both}
use Rattle.ssim_base.proofs.leg_table.flight_legs.FlightLegs.add.Goals as goal

pub returns-then-index-len-clause-ok : goal.returns-then-index-len-clause-ok
returns-then-index-len-clause-ok c =
    let entries = c.args.self.now.entries.items in
    let s = c.args.sequence in
    let x = c.index_mut.result.now in
    let y = c.add.new.self in
    let p = c.args.period.now in
    let within : c.index_of-index.result < length entries = omega arith in
    let index : c.index_of-index.result ≡ index_of entries s = c.index_of-index.ensures in
    let entry : entry_of entries s ≡ Some x = ap (slice_get entries) (sym index) ∙ slice_get_read entries (length entries) c.index_of-index.result x refl within c.index_mut.ensures.value in
    on-both c.add.result (λ variations dates.
    subst (λ (i : ℕ). AddsLeg entries (set entries i y) s c.args.variation p) (sym index)
    (adds entries (set entries (index_of entries s) y) s c.args.variation p y (λ t. entry-set entries s t x y entry c.add.ensures.number)
    (λ w. variations w ∙ ap (λ (o : Option LegSequence). nat_eq w c.args.variation || variation_of o w) (sym entry))
    (λ n. dates n ∙ ap (λ (o : Option LegSequence). holds p n || used_of o n) (sym entry))
    (has-set entries (index_of entries s) y (subst (λ (i : ℕ). i < length entries) index within)))) c.add.ensures.variations c.add.ensures.dates

pub returns-then-index-len-clause-met : goal.returns-then-index-len-clause-met
returns-then-index-len-clause-met c =
    let entries = c.args.self.now.entries.items in
    let x = c.index_mut.result.now in
    let within : c.index_of-index.result < length entries = omega arith in
    let entry : entry_of entries c.args.sequence ≡ Some x =
    ap (slice_get entries) (sym c.index_of-index.ensures) ∙ slice_get_read entries (length entries) c.index_of-index.result x refl within c.index_mut.ensures.value in
    IfOk-weaker c.add.result _ _ (λ met is. is ∙ ap (λ (o : Option LegSequence). have_common_date (holds c.args.period.now) (used_of o)) (sym entry)) c.add.ensures.met
