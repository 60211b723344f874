-- One part more.
use Rattle.std.proofs.Common.{◌≡◌, ◌∙◌, ◌+◌, ◌-◌, ◌++◌, ℕ, [], ◌∷◌, List, take, sym, ap}
use Rattle.std.proofs.lemmas.List.{take_all, take_more}
use Rattle.ssim_periods.specs.Days.{each_day}
use Rattle.ssim_periods.proofs.DayLemmas.{each_day-same}
use Rattle.ssim_parts.specs.internal.Placed.{MovedPiece, fate_after}
use Rattle.ssim_parts.proofs.Held.{fate_after-more, fate_after-none, never_left, none_kept}
use Rattle.ssim_parts.proofs.converted.leave_later.Goals as goal

pub returns-then-not-has_shift : goal.returns-then-not-has_shift
returns-then-not-has_shift c = λ before kept is.
    let s = c.args.shift in let t = c.args.later in
    let parts = c.args.parts.now in
    is ∙ each_day-same before (λ n. fate_after s (s + 1 - t) t parts n (before n))
    (λ n within. never_left s (s + 1 - t) t parts n (before n)
    (none_kept t parts before kept (sym c.has_shift.ensures ∙ c.if-not-has_shift.true) n))

pub loop-part-init : goal.loop-part-init
loop-part-init c = λ before is.
    let s = c.args.shift in let t = c.args.later in
    is ∙ each_day-same before (λ n. fate_after s (s + 1 - t) t [] n (before n))
    (λ n within. fate_after-none s (s + 1 - t) t n (before n))

pub loop-part-preserved : goal.loop-part-preserved
loop-part-preserved c = λ before is.
    let s = c.args.shift in let t = c.args.later in
    let parts = c.args.parts.now in
    let i = c.loop-part.part-index in
    let part = c.part-item.result in
    let more : take (i + 1) parts ≡ take i parts ++ part ∷ [] =
    take_more parts i part c.loop-part-test.true
    ∙ ap (λ (p : MovedPiece). take i parts ++ p ∷ []) (sym c.part-item.is) in
    let so_far = λ (n : ℕ). fate_after s (s + 1 - t) t (take i parts) n (before n) in
    c.in_ok-leave_dates.ensures so_far (c.loop-part.invariant before is)
    ∙ each_day-same (λ n. fate_after s (s + 1 - t) t (part ∷ []) n (so_far n))
    (λ n. fate_after s (s + 1 - t) t (take i parts ++ part ∷ []) n (before n))
    (λ n within. fate_after-more s (s + 1 - t) t (take i parts) part n (before n))
    ∙ ap (λ (ps : List MovedPiece). each_day (λ n. fate_after s (s + 1 - t) t ps n (before n)))
    (sym more)

pub returns : goal.returns
returns c = λ before kept is.
    let s = c.args.shift in let t = c.args.later in
    c.loop-part.invariant before is
    ∙ ap (λ (ps : List MovedPiece). each_day (λ n. fate_after s (s + 1 - t) t ps n (before n)))
    (take_all c.loop-part.part-index c.args.parts.now c.loop-part-test.false)
