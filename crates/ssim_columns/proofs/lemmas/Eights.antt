-- Texts with the same first bytes and the same last bytes are the same.
use Rattle.std.proofs.Common.{◌≡◌, ℕ, ◌+◌, ◌-◌, ◌≤◌, IsTrue, Bool, true, false, List, length, take, drop, refl, sym, ap, ◌∙◌, arith}
use Rattle.std.specs.Prelude.{slice_range}
use Rattle.std.proofs.lemmas.List.{take-take, take_all}
use Rattle.std.proofs.Math.Seq.{take-add}

pub one_test : (a b : Bool) → (IsTrue a → IsTrue b) → (IsTrue b → IsTrue a) → a ≡ b
one_test true true p q = refl
one_test true false p q = sym (p refl)
one_test false true p q = q refl
one_test false false p q = refl

-- w bytes more
pub front_grows : (w : ℕ) (x y : List ℕ) (p : ℕ) → take p x ≡ take p y → slice_range x p (p + w) ≡ slice_range y p (p + w) → take (p + w) x ≡ take (p + w) y
front_grows w x y p front part =
    let n : p + w - p ≡ w = omega arith in
    let more : take w (drop p x) ≡ take w (drop p y) = rw n at part in
    rw (take-add p w x, take-add p w y, front, more) refl

shorter_front : (x y : List ℕ) (p q : ℕ) → q ≤ p → take p x ≡ take p y → take q x ≡ take q y
shorter_front x y p q le front = sym (take-take q p x le) ∙ ap (take q) front ∙ take-take q p y le

-- the first part reaches the last w bytes
pub same_by_end : (w : ℕ) (x y : List ℕ) (p last : ℕ) → last ≤ p → length x ≡ last + w → length y ≡ last + w → take p x ≡ take p y → slice_range x last (last + w) ≡ slice_range y last (last + w) → x ≡ y
same_by_end w x y p last le len other front end =
    sym (take_all (last + w) x (omega (arith, len))) ∙ front_grows w x y last (shorter_front x y p last le front) end ∙ take_all (last + w) y (omega (arith, other))
