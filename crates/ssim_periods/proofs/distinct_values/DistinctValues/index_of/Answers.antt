-- The map has the index of each value.
use Rattle.std.proofs.Common.{◌≡◌, ◌<◌, ◌^◌, ℕ, Option, Some, None, IfSome, map, refl, ap, sym, ◌∙◌, arith, rules}
use Rattle.std.proofs.lemmas.List.{length-map}
use Rattle.ssim_periods.proofs.IndexLemmas.{index_of-within}
use Rattle.ssim_periods.specs.Distinct.{index_of}
use Rattle.ssim_periods.proofs.distinct_values.DistinctValues.index_of.Goals as goal

pub returns-clause-value : goal.returns-clause-value
returns-clause-value g c = c.copied.ensures ∙ c.get.ensures.value ∙ c.self.invariant (record { value = c.args.value }) ∙ ap (λ xs. index_of g.V.Value.alike xs c.args.value.now) c.self.view_is

pub returns-clause-bound : goal.returns-clause-bound
returns-clause-bound g c = below c.copied.result refl
  where
    below : (found : Option ℕ) → c.copied.result ≡ found → IfSome found (λ index. index < 2 ^ 63)
    below None e = search rules
    below (Some index) e =
        let items = c.self.inside.values.items in let small = c.self.inside.values.small in let count = length-map items (λ value. value.now) in
        let low = index_of-within g.V.Value.alike (map (λ value. value.now) items) c.args.value.now index (sym (c.copied.ensures ∙ c.get.ensures.value ∙ c.self.invariant (record { value = c.args.value })) ∙ e) in
        omega arith
