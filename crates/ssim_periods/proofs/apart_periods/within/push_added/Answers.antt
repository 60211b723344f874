-- The parts are pushed one after another, if there are any.
use Rattle.std.proofs.Common.{◌≡◌, Bool, true, false, if◌then◌else◌, List, [], ◌++◌, Result, Ok, Err, OnOk, append-nil, append_assoc, ap, sym, ◌∙◌}
use Rattle.ssim_periods.specs.internal.Parts.{with_outcome, with_value}
use Rattle.ssim_periods.proofs.apart_periods.within.push_added.Goals as goal

unmet : {A : Type 0} (b : Bool) (xs more : List A) → b ≡ false → xs ≡ xs ++ (if b then more else [])
unmet b xs more e = sym (append-nil xs) ∙ ap (λ t. xs ++ (if t then more else [])) (sym e)

pushed : {A : Type 0} (b : Bool) (xs one two new second third out : List A) → b ≡ true → one ≡ xs ++ second → two ≡ one ++ third → new ≡ two ++ out → new ≡ xs ++ (if b then second ++ third ++ out else [])
pushed b xs one two new second third out met e f g =
    let flat : ((xs ++ second) ++ third) ++ out ≡ xs ++ (second ++ third ++ out) = simp append_assoc in
    g ∙ ap (λ s. s ++ out) (f ∙ ap (λ s. s ++ third) e) ∙ flat ∙ ap (λ t. xs ++ (if t then second ++ third ++ out else [])) (sym met)

on_ok : {T E : Type 0} (r : Result T E) (P Q : Type 0) → (P → Q) → OnOk r P → OnOk r Q
on_ok (Ok x) P Q h p = h p
on_ok (Err x) P Q h p = tt

pub returns-then-not-meets : goal.returns-then-not-meets
returns-then-not-meets g c = unmet _ _ _ (sym c.meets.ensures.value ∙ c.if-not-meets.true)

pub returns : goal.returns
returns g c =
    let xs = c.args.added.now.items in let v = c.args.entry.now.1 in let f = g.C.Change.outcome c.args.change.now in
    on_ok c.push_outcome.result _ _ (λ last. pushed _ xs c.push_part.new.added.items c.push_part-2.new.added.items c.push_outcome.new.added.items _ _ _
    (sym c.meets.ensures.value ∙ c.if-not-meets.false)
    (c.in_ok-push_part.ensures ∙ ap (λ p. xs ++ with_value p v) c.second_part.ensures)
    (c.in_ok-push_part-2.ensures ∙ ap (λ p. c.push_part.new.added.items ++ with_value p v) c.third_part.ensures)
    (last ∙ ap (λ p. c.push_part-2.new.added.items ++ with_outcome g.V.Value.alike g.V.Value.nothing p (f v)) c.common_part.ensures)) c.push_outcome.ensures
