-- One leg, or two legs of which the last is taken first, are all of the list.
use Rattle.std.proofs.Common.{◌≡◌, ◌∷◌, [], ◌++◌, length, reverse, ap, sym, ◌∙◌, length-append, arith}
use Rattle.ssim_base.specs.Timetable.{LegValue, Legs}
use Rattle.ssim_base.proofs.Each.{none_left}

-- nothing is left of one
alone : (all rest : Legs) (x : LegValue) → all ≡ rest ++ x ∷ [] → length all ≡ 1 → rest ≡ []
alone all rest x is one =
    let counts = ap length is ∙ length-append rest (x ∷ []) in
    none_left rest (omega arith)

one : (all rest : Legs) (x : LegValue) → all ≡ rest ++ x ∷ [] → length all ≡ 1 → x ∷ [] ≡ reverse all
one all rest x is count = sym (ap reverse (is ∙ ap (λ (ls : Legs). ls ++ x ∷ []) (alone all rest x is count)))

two : (all some rest : Legs) (x y : LegValue) → all ≡ some ++ x ∷ [] → some ≡ rest ++ y ∷ [] → length all ≡ 2 → (rest ≡ []) × (x ∷ y ∷ [] ≡ reverse all)
two all some rest x y is more count =
    let counts = ap length is ∙ length-append some (x ∷ []) in
    let none : rest ≡ [] = alone some rest y more (omega arith) in (
      none,
      sym (ap reverse (is ∙ ap (λ (ls : Legs). ls ++ x ∷ []) (more ∙ ap (λ (ls : Legs). ls ++ y ∷ []) none))),
    )
