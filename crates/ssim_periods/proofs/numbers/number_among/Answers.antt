-- A value with an index is known, and one without is added at the end.
use Rattle.std.proofs.Common.{◌∷◌, ◌++◌, [], ◌+◌, ◌||◌, false, if◌then◌else◌, length, ap, sym, ◌∙◌}
use Rattle.std.proofs.lemmas.List.{length-map}
use Rattle.ssim_periods.proofs.IndexLemmas.{index_of-get, index_of-none}
use Rattle.ssim_periods.proofs.NumberLemmas.{gathered-numbered, number-index, number-pushed}
use Rattle.ssim_periods.proofs.ListPieces.{not-alike}
use Rattle.ssim_periods.proofs.numbers.number_among.Goals as goal

pub returns-in-Some-clause-number : goal.returns-in-Some-clause-number
returns-in-Some-clause-number g c = number-index g.V.Value.nothing c.args.values.now c.args.value.now c.in-Some.index (index_of-get g.V.Value.alike g.met.V.Value.exact c.args.values.now c.args.value.now c.in-Some.index (sym c.index_of.ensures.value ∙ c.in-Some.is))

pub returns-in-Some-clause-values : goal.returns-in-Some-clause-values
returns-in-Some-clause-values g c =
    sym (gathered-numbered g.V.Value.alike g.V.Value.nothing g.met.V.Value.exact c.args.values.now c.args.value.now (c.in-Some.index + 1)
    (number-index g.V.Value.nothing c.args.values.now c.args.value.now c.in-Some.index (index_of-get g.V.Value.alike g.met.V.Value.exact c.args.values.now c.args.value.now c.in-Some.index (sym c.index_of.ensures.value ∙ c.in-Some.is))))

pub returns-clause-values : goal.returns-clause-values
returns-clause-values g c =
    let alike = g.V.Value.alike in let values = c.args.values.now in let v = c.args.value.now in
    let new = index_of-none alike g.met.V.Value.exact values v (sym c.index_of.ensures.value ∙ c.in_default.is) in
    let given = not-alike alike g.met.V.Value.exact v g.V.Value.nothing c.requires in
    c.in_ok-add.ensures ∙ ap (λ b. if b then values else values ++ v ∷ []) (sym (ap (λ b. alike v g.V.Value.nothing || b) new ∙ ap (λ b. b || false) given))

pub returns-clause-number : goal.returns-clause-number
returns-clause-number g c = number-pushed g.V.Value.nothing c.args.values.now c.add.new.self c.args.value.now (length c.values.result.now) c.in_ok-add.ensures (sym (length-map c.values.result.now (λ value. value.now)) ∙ ap length c.values.ensures)
