-- The value comes last, and its key gets the number of values before it.
use Rattle.std.proofs.Common.{◌≡◌, ◌∷◌, ◌++◌, [], length, map, ap, ◌∙◌, arith, refl}
use Rattle.std.proofs.lemmas.List.{length-map, map-append}
use Rattle.ssim_periods.specs.Distinct.{index_of}
use Rattle.ssim_periods.proofs.IndexLemmas.{placed-push}
use Rattle.ssim_periods.proofs.distinct_values.DistinctValues.add.Goals as goal

pub invariant_of-self-2 : goal.invariant_of-self-2
invariant_of-self-2 g c =
    let items = c.self.inside.values.items in
    let more : map (λ value. value.now) c.push_reserved.new.self.items ≡ map (λ value. value.now) items ++ c.args.value.now ∷ [] =
    ap (map (λ value. value.now)) (c.push_reserved.ensures.items ∙ ap (λ l. l ++ c.args.value ∷ []) c.in_ok-reserve.ensures.items) ∙ map-append (λ value. value.now) items (c.args.value ∷ []) in
    let count : c.len.result ≡ length (map (λ value. value.now) items) = (let is = c.len.ensures in let ok = c.reserve.new.self.ok in let same = ap length c.in_ok-reserve.ensures.items in let size = length-map items (λ value. value.now) in omega arith) in
    placed-push g.V.Value.alike g.V.Value.compared (λ key. key.value.now) g.met.V.Value.exact g.met.V.Value.told_apart
    (map (λ value. value.now) items) (map (λ value. value.now) c.push_reserved.new.self.items) c.args.value.now c.len.result (record { value = c.args.value }) c.self.inside.indices c.insert.new.self
    refl count more (ap (λ xs. index_of g.V.Value.alike xs c.args.value.now) c.self.view_is ∙ c.requires) c.in_ok-insert.ensures.updates c.self.invariant
