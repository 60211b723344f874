-- A test is true or false.
use Rattle.std.proofs.Common.{◌≡◌, Bool, true, false, refl, ◌⊎◌, inl, inr}

pub pick : (t : Bool) → (t ≡ true) ⊎ (t ≡ false)
pick true = inl refl
pick false = inr refl
