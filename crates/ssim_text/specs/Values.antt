-- What contracts see of the values that hold bytes of their own.
use Rattle.std.specs.Prelude.{ℕ, List, codes}

-- the equipment of a message; booking designators and configuration may be empty
pub record EquipmentValue : Type 0 where
  pub service : ℕ
  pub aircraft : List ℕ
  pub designators : List ℕ
  pub configuration : List ℕ

-- the originator of a message without one: seven blanks
abbrev pub no_originator : List ℕ
no_originator = codes "       "
