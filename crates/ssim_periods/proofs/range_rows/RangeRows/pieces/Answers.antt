-- The covers of the values' own periods, sorted, are the pieces of the definition.
use Rattle.std.proofs.Common.{◌≡◌, ◌+◌, ◌<◌, List, ℕ, Some, [], ◌∷◌, ◌++◌, ◌&&◌, append-nil, false, nat_eq, nat_lt, length, map, drop, append_assoc, slice_index_or, option_map, refl, ap, subst, sym, ◌∙◌, arith, rules}
use Rattle.std.specs.List.{flat_map}
use Rattle.std.proofs.lemmas.List.Sorted.{IsNonDecreasingBy-from_sort_by_key}
use Rattle.std.proofs.lemmas.Bool.Decides.{nat_tests}
use Rattle.std.proofs.lemmas.Option.{slice_get-map, slice_get_read}
use Rattle.ssim_periods.specs.Days.{each_day}
use Rattle.ssim_periods.specs.internal.Apart.{is_held}
use Rattle.ssim_periods.specs.internal.Gather.{gathered, numbered}
use Rattle.ssim_periods.specs.Pieces.{pieces_with}
use Rattle.ssim_periods.specs.internal.Rows.{value_on}
use Rattle.ssim_periods.proofs.DayLemmas.{day_count-is, length-each_day}
use Rattle.ssim_periods.proofs.GatherLemmas.{flat-next, drop-all}
use Rattle.ssim_periods.proofs.NumberLemmas.{AreDistinct, number-read, gathered-distinct, held_cover-number, length-same}
use Rattle.ssim_periods.proofs.PiecesFound.{pieces-found}
use Rattle.ssim_periods.proofs.range_rows.RangeRows.pieces.Goals.{After-deref-in-loop-place}
use Rattle.ssim_periods.proofs.range_rows.RangeRows.pieces.Given as given
use Rattle.ssim_periods.proofs.range_rows.RangeRows.pieces.Goals as goal

-- the periods of a number have its days
held : (g : given.Over) (c : After-deref-in-loop-place g) → (n : ℕ) → is_held c.deref-in-loop-place.result.now n ≡ (nat_lt n 36525 && nat_eq (c.loop-place.place + 1) (slice_index_or c.in_ok-values.numbers.days n 0))
held g c n =
    let lists = c.in_ok-periods.periods.items in let k = c.loop-place.place in let test = c.loop-place-test.true in let count = c.in_ok-periods.ensures.count in
    let within : k < length lists = omega arith in
    ap (λ periods. is_held periods n) c.deref-in-loop-place.ensures.value
    ∙ c.in_ok-periods.ensures.days k c.index.result.now.items (slice_get-map (λ list. list.items) lists k ∙ ap (option_map (λ list. list.items)) (slice_get_read lists (length lists) k c.index.result.now refl within c.index.ensures)) n

pub push_days-requires : goal.push_days-requires
push_days-requires g c = record {
  in_calendar = λ n past.
      let off : nat_lt n 36525 ≡ false = grind (arith, nat_tests) in
      held g (goal.at.push_days-requires g c).After-deref-in-loop-place n ∙ ap (λ b. b && nat_eq (c.loop-place.place + 1) (slice_index_or c.in_ok-values.numbers.days n 0)) off;
}

pub loop-place-preserved : goal.loop-place-preserved
loop-place-preserved g c =
    let alike = g.V.Value.alike in let nothing = g.V.Value.nothing in let exact = g.met.V.Value.exact in let days = c.args.self.now.days in
    let before = c.self.inside.before in let cuts = c.self.inside.cuts.items in let rows = c.self.inside.rows.items in
    let f = pieces_with alike days in let items = c.values-values.result.now in let k = c.loop-place.place in let value = c.index-values-place.result.now in
    let values = c.in_ok-values.values in
    let rest = flat_map f (map (λ other. other.now) (drop (k + 1) items)) in
    let test : k < length items = c.loop-place-test.true in
    let distinct : AreDistinct (nothing ∷ values) = subst (λ vs. AreDistinct (nothing ∷ vs)) (sym c.in_ok-values.ensures.values) (gathered-distinct alike nothing exact (flat_map (λ row. row) (before ∷ c.deref-2.result.now))) in
    let numbers : map (numbered nothing values) c.in_ok-values.numbers.days ≡ map Some days =
    c.in_ok-values.ensures.days
    ∙ ap (λ (cs : List ℕ). map Some (each_day (value_on nothing before cs c.deref-2.result.now))) c.deref.ensures.value
    ∙ ap (λ (rs : List (List _)). map Some (each_day (value_on nothing before cuts rs))) c.deref-2.ensures.value
    ∙ ap (λ s. map Some s.days) c.self.view_is in
    let size : length c.in_ok-values.numbers.days ≡ 36525 = length-same (numbered nothing values) Some c.in_ok-values.numbers.days days numbers ∙ ap (λ s. length s.days) (sym c.self.view_is) ∙ length-each_day _ in
    let own : numbered nothing values (k + 1) ≡ Some value = ap (λ vs. numbered nothing vs (k + 1)) (sym c.values-values.ensures) ∙ number-read nothing (λ other. other.now) items (k + 1) k c.index-values-place.result refl test c.index-values-place.is in
    let pushed = held_cover-number alike nothing exact values distinct (k + 1) value own c.in_ok-values.numbers.days days numbers size c.deref-in-loop-place.result.now (held g (goal.at.loop-place-preserved g c).After-deref-in-loop-place) in
    ap (λ l. l ++ rest) (c.in_ok-push_days.ensures ∙ ap (λ l. c.loop-place.pieces.items ++ l) pushed) ∙ append_assoc c.loop-place.pieces.items (f value) rest
    ∙ ap (λ l. c.loop-place.pieces.items ++ l) (sym (flat-next (λ other. other.now) f items k c.index-values-place.result test c.index-values-place.is))
    ∙ c.loop-place.invariant

pub returns-clause-pieces : goal.returns-clause-pieces
returns-clause-pieces g c =
    let alike = g.V.Value.alike in let nothing = g.V.Value.nothing in let days = c.args.self.now.days in
    let before = c.self.inside.before in let cuts = c.self.inside.cuts.items in let rows = c.self.inside.rows.items in
    let items = c.values-values.result.now in let pieces = c.loop-place.pieces.items in
    let values = map (λ other. other.now) items in
    let gathered_is : values ≡ gathered alike nothing [] (flat_map (λ row. row) (before ∷ rows)) = c.values-values.ensures ∙ c.in_ok-values.ensures.values ∙ ap (λ rs. gathered alike nothing [] (flat_map (λ row. row) (before ∷ rs))) c.deref-2.ensures.value in
    let none = drop-all items c.loop-place.place c.loop-place-test.false in
    let pieces_are : pieces ≡ flat_map (pieces_with alike days) values = sym (append-nil pieces) ∙ ap (λ l. pieces ++ flat_map (pieces_with alike days) (map (λ other. other.now) l)) (sym none) ∙ c.loop-place.invariant in
    pieces-found alike nothing g.met.V.Value.exact before cuts rows days values pieces c.sort_by_key.new.self.items c.self.invariant (ap (λ s. s.days) c.self.view_is) gathered_is pieces_are c.sort_by_key.ensures.permutation
    (IsNonDecreasingBy-from_sort_by_key (λ piece. piece.0.first) _ c.in_ok-sort_by_key.ensures.sorted (λ a r q k. search rules))

pub returns-clause-each_day : goal.returns-clause-each_day
returns-clause-each_day g c = ap (λ s. length s.days) (sym c.self.view_is) ∙ length-each_day _ ∙ sym day_count-is
