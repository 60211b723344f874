-- A period that breaks off before the next one is covered by itself, before the others.
use Rattle.std.proofs.Common.{◌≡◌, ◌+◌, ◌-◌, ◌<◌, [], length, ap, sym, ◌∙◌, refl, arith}
use Rattle.std.specs.List.{flat_map}
use Rattle.ssim_periods.specs.Calendar.{day_count}
use Rattle.ssim_periods.specs.Cover.{cover}
use Rattle.ssim_periods.specs.internal.Apart.{is_held}
use Rattle.ssim_periods.proofs.GatherLemmas.{drop-all}
use Rattle.ssim_periods.proofs.SeparateLemmas.{each_cover, separate-more, none-earlier}
use Rattle.ssim_periods.proofs.TrimLemmas.{cover-none}
use Rattle.ssim_periods.proofs.cover.separate.are_separate.Goals as goal

pub loop-place-init : goal.loop-place-init
loop-place-init c =
    let ps = c.args.periods.now in
    let empty = drop-all ps (length ps) (omega arith) in
    record {
      within = omega arith;
      in_calendar = omega arith;
      none = λ n h. ap (λ qs. is_held qs n) empty;
      separate = ap (λ qs. cover (is_held qs) day_count) empty ∙ cover-none (is_held []) day_count (λ n. refl) ∙ sym (ap (flat_map each_cover) empty);
    }

pub loop-place-preserved : goal.loop-place-preserved
loop-place-preserved c =
    let ps = c.args.periods.now in let i = c.loop-place.place in let p = c.index-periods-place.result in let own = c.in-Some.own in
    let v = c.loop-place.invariant in let test = c.loop-place-test.true in let within = v.within in let fits = v.in_calendar in
    let up : i - 1 + 1 ≡ i = omega arith in let lt : i - 1 < length ps = omega arith in
    let one = c.in-Some.ensures.some in let is = c.index-periods-place.is in
    let week = c.breaks_off_before.ensures.week c.if-not-breaks_off_before.false in
    let day = c.breaks_off_before.ensures.between c.if-not-breaks_off_before.false in
    let first : c.number-next.result ≡ own.first = c.number-next.ensures.value ∙ c.first.ensures.value in
    record {
      within = omega arith;
      in_calendar = omega arith;
      none = λ n h. none-earlier ps i (i - 1) p own c.loop-place.next n up lt is one (v.none n (omega arith)) (omega arith);
      separate = separate-more ps i (i - 1) p own c.loop-place.next day.0 up lt is c.requires.in_calendar one v.none fits week day.1 day.2 day.3 v.separate;
    }
