-- The line of a saved record.
use Rattle.std.specs.Prelude.{◌≡◌, ℕ, List, [], ◌∷◌, ◌++◌, Option, Some, None}
use Rattle.ssim_records.specs.Record.{IsRecord, written}
use Rattle.ssim_records.specs.declared.record.Record.{Record}
use Rattle.ssim_base.specs.SavedBase.{IsBare}

-- the bytes are the line of a bare record, and this rest
pub record IsLine (r : Record) (bytes rest : List ℕ) : Type 0 where
  pub is_record : IsRecord r
  pub bare : IsBare r
  pub written_is : bytes ≡ (written r ++ 10 ∷ []) ++ rest

-- the bytes are the line of the bare record that is there, and this rest
abbrev pub IsLineOf : Option Record → List ℕ → List ℕ → Type 0
IsLineOf None bytes rest = ⊥
IsLineOf (Some r) bytes rest = IsLine r bytes rest
