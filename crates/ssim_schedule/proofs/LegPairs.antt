-- The pair of points of a segment line is two of the leg lines.
use Rattle.std.proofs.Common.{◌≡◌, ℕ, suc, ◌+◌, ◌<◌, Bool, true, false, List, [], ◌∷◌, length, Option, Some, None, refl, ap, arith}
use Rattle.std.specs.List.{position}
use Rattle.std.specs.Str.{bytes_eq}
use Rattle.std.proofs.lemmas.List.Quantifiers.{position-Some}
use Rattle.ssim_text.specs.Grammar.{leg_pair, pair_at}
use Rattle.ssim_text.specs.declared.leg.LegLine.{LegLine}

some_is : {A : Type 0} (a b : A) → Some a ≡ Some b → a ≡ b
some_is a b h = cc

pub record AreBelow (n : ℕ) (pair : ℕ × ℕ) : Type 0 where
  pub from : pair.0 < n
  pub to : pair.1 < n

below_later : (n m : ℕ) (pair : ℕ × ℕ) → AreBelow (n + 1 + m) pair → AreBelow (n + suc m) pair
below_later n m pair h = record { from = omega (arith, h.from); to = omega (arith, h.to) }

pub pair_below : (board off : List ℕ) (n : ℕ) (legs : List LegLine) (pair : ℕ × ℕ) → leg_pair board off n legs ≡ Some pair → AreBelow (n + length legs) pair
pair_below board off n [] pair h = absurd cc
pair_below board off n (leg ∷ legs) pair h =
    by (bytes_eq leg.departure.station board) (position (λ l. bytes_eq l.arrival.station off) (leg ∷ legs)) refl (λ e. below_later n (length legs) pair (pair_below board off (n + 1) legs pair e)) h
  where
    by : (b : Bool) (k : Option ℕ) → position (λ l. bytes_eq l.arrival.station off) (leg ∷ legs) ≡ k → (leg_pair board off (n + 1) legs ≡ Some pair → AreBelow (n + suc (length legs)) pair)
        → pair_at b k n (leg_pair board off (n + 1) legs) ≡ Some pair → AreBelow (n + suc (length legs)) pair
    by true (Some k) p later e =
        let within = (position-Some (λ l. bytes_eq l.arrival.station off) (leg ∷ legs) k leg p).0 in
        let same : (n, n + k) ≡ pair = some_is (n, n + k) pair e in
        let first : n ≡ pair.0 = ap (λ (q : ℕ × ℕ). q.0) same in
        let second : n + k ≡ pair.1 = ap (λ (q : ℕ × ℕ). q.1) same in
        record { from = omega (arith, first, within); to = omega (arith, second, within) }
    by true None p later e = later e
    by false k p later e = later e
