-- The covers of the values, sorted, are the pieces of the definition.
use Rattle.std.proofs.Common.{◌<◌, length, ap, subst, sym, ◌∙◌, rules}
use Rattle.std.specs.List.{All, flat_map}
use Rattle.std.proofs.lemmas.List.Sorted.{IsNonDecreasingBy-from_sort_by_key}
use Rattle.ssim_periods.specs.internal.Apart.{given_cover, last_values}
use Rattle.ssim_periods.proofs.DayLemmas.{day_count-is, length-each_day}
use Rattle.ssim_periods.proofs.ListPieces.{all-end, list-pieces}
use Rattle.ssim_periods.proofs.apart_periods.ApartPeriods.pieces.Goals as goal

pub covers-requires : goal.covers-requires
covers-requires g c = subst (All (λ given. given.0.last < 36525)) (sym c.deref.ensures.value) (all-end g.V.Value.nothing c.self.inside.entries.items c.self.inside.cuts.days c.self.invariant.1)

pub returns-clause-pieces : goal.returns-clause-pieces
returns-clause-pieces g c =
    let alike = g.V.Value.alike in
    list-pieces alike g.V.Value.nothing g.met.V.Value.exact c.self.inside.entries.items c.self.inside.cuts.days c.args.self.now.days c.in_ok-pieces.pieces.items c.sort_by_key.new.self.items
    c.self.invariant.1 (ap (λ s. s.days) c.self.view_is)
    (c.in_ok-pieces.ensures ∙ ap (λ xs. flat_map (given_cover alike xs) (last_values alike xs)) c.deref.ensures.value) c.sort_by_key.ensures.permutation
    (IsNonDecreasingBy-from_sort_by_key (λ piece. piece.0.first) _ c.in_ok-sort_by_key.ensures.sorted (λ a r q k. search rules))

pub returns-clause-each_day : goal.returns-clause-each_day
returns-clause-each_day g c = ap (λ s. length s.days) (sym c.self.view_is) ∙ length-each_day _ ∙ sym day_count-is
