-- A value with an index is not new, and one without is.
use Rattle.std.proofs.Common.{◌∙◌, ◌++◌, ◌∷◌, [], Bool, None, Some, ap, append-nil, if◌then◌else◌, sym}
use Rattle.std.proofs.lemmas.Result.{on_ok_weaker}
use Rattle.ssim_calendar.proofs.Indices.{new_without, not_alike}
use Rattle.ssim_calendar.proofs.letters.add_new.Goals as goal

pub returns-in-Some : goal.returns-in-Some
returns-in-Some g c =
    let alike =
    g.V.Value.alike in let nothing =
    g.V.Value.nothing in let values = c.args.values.now in let v = c.args.value.now in
    let full = not_alike alike g.met.V.Value.exact v nothing c.is_empty.result c.is_empty.ensures
    c.if-is_empty.false in
    let known =
    new_without alike nothing values v (Some c.in-Some.field-0) full c.in-Some.ensures.value in
    sym (ap (λ (b : Bool). values ++ (if b then v ∷ [] else [])) known ∙ append-nil values)

pub returns-in-None : goal.returns-in-None
returns-in-None g c =
    let alike =
    g.V.Value.alike in let nothing =
    g.V.Value.nothing in let values = c.args.values.now in let v = c.args.value.now in
    let full = not_alike alike g.met.V.Value.exact v nothing c.is_empty.result c.is_empty.ensures
    c.if-is_empty.false in
    let new = new_without alike nothing values v None full c.in-None.ensures.value in
    on_ok_weaker c.add.result
    (λ d. d ∙ sym (ap (λ (b : Bool). values ++ (if b then v ∷ [] else [])) new)) c.add.ensures
