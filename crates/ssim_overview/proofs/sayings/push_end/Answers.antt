-- Nothing, or one saying at the rank of its station.
use Rattle.std.proofs.Common.{◌<◌, ◌∙◌, ◌∷◌, [], List, Option, map, slice_set, length, ap, sym, subst, arith}
use Rattle.std.specs.Str.{bytes_eq}
use Rattle.std.proofs.lemmas.List.{length-map}
use Rattle.ssim_values.specs.Variation.{Offset}
use Rattle.ssim_overview.specs.SaidRows.{end_says}
use Rattle.ssim_overview.specs.Totals.{station_at}
use Rattle.ssim_overview.specs.internal.SaidRows.{AddsSayings, Dated, dated}
use Rattle.ssim_overview.specs.declared.sayings.Saying.{Saying}
use Rattle.ssim_overview.proofs.Ranks.{pushed}
use Rattle.ssim_overview.proofs.SaidStations.{one_saying}
use Rattle.ssim_overview.proofs.sayings.push_end.Goals as goal

pub returns-clause-adds : goal.returns-clause-adds
returns-clause-adds c =
    let sayings = c.args.sayings.now.items in let n = c.number_of.result in
    let x : Dated = (c.args.period, c.saying_of-saying.result) in
    let bound = c.number_of.ensures.bound in let size = c.requires in
    let within : n < length sayings = omega arith in
    subst (λ (s : List Dated). AddsSayings s (map (λ list. list.items) sayings)
    (map (λ list. list.items) (slice_set sayings n c.push.new.self)))
    (ap (λ (s : Saying). (c.args.period, s) ∷ []) c.saying_of-saying.ensures
    ∙ ap (λ (v : Option Offset). dated c.args.period (end_says c.args.station v c.args.date_variation))
    (sym c.in-Some.is))
    (one_saying n x (map (λ list. list.items) sayings)
    (map (λ list. list.items) (slice_set sayings n c.push.new.self))
    (length-map sayings (λ list. list.items) ∙ c.requires) bound
    (λ k lt. c.number_of.ensures.only k lt
    ∙ ap (λ (s : Saying). bytes_eq s.station (station_at k)) (sym c.saying_of-saying.ensures))
    (pushed (λ list. list.items) sayings n c.index_mut.result.now c.push.new.self x within
    c.index_mut.ensures.value c.in_ok-push.ensures.items))
