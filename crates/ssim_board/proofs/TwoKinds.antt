-- Each movement is of one of two kinds.
use Rattle.std.proofs.Common.{◌≡◌, ◌+◌, Bool, true, false, cond, List, [], ◌∷◌, length, Some, refl, arith}
use Rattle.std.specs.List.{filter}
use Rattle.ssim_board.specs.InOrder.{is_arrival, is_departure}
use Rattle.ssim_board.specs.Kinds.{of_kind}
use Rattle.ssim_board.specs.declared.movement.Movement.{Movement}
use Rattle.ssim_board.specs.declared.movement.MovementKind.{MovementKind}
use Rattle.ssim_board.specs.declared.movement.MovementKind.TheVariants.{Departure, Arrival}

-- an element more, on one of two sides, or on none
on_left : {X : Type 0} (x : X) (ds bs all : List X) → length ds + length bs ≡ length all → (given : Bool)
    → length (cond given (x ∷ ds) ds) + length bs ≡ length (cond given (x ∷ all) all)
on_left x ds bs all h true = omega (arith, h)
on_left x ds bs all h false = h

on_right : {X : Type 0} (x : X) (ds bs all : List X) → length ds + length bs ≡ length all → (given : Bool)
    → length ds + length (cond given (x ∷ bs) bs) ≡ length (cond given (x ∷ all) all)
on_right x ds bs all h true = omega (arith, h)
on_right x ds bs all h false = h

module _ (has : Movement → Bool) where
  -- a movement more among departures and arrivals
  one_more : (m : Movement) (ds bs ms : List Movement)
      → length (filter has ds) + length (filter has bs) ≡ length (filter has ms) → (kind : MovementKind)
      → length (filter has (cond (is_departure kind) (m ∷ ds) ds))
      + length (filter has (cond (is_arrival kind) (m ∷ bs) bs)) ≡ length (filter has (m ∷ ms))
  one_more m ds bs ms h Departure =
      on_left m (filter has ds) (filter has bs) (filter has ms) h (has m)
  one_more m ds bs ms h Arrival =
      on_right m (filter has ds) (filter has bs) (filter has ms) h (has m)

  pub of_one_kind : (ms : List Movement)
      → length (filter has (of_kind (Some Departure) ms)) + length (filter has (of_kind (Some Arrival) ms))
      ≡ length (filter has ms)
  of_one_kind [] = refl
  of_one_kind (m ∷ ms) =
      one_more m (of_kind (Some Departure) ms) (of_kind (Some Arrival) ms) ms (of_one_kind ms) m.kind
