-- The roles of the lines of a mailbox, from the last to the first.
use Rattle.std.specs.Prelude.{◌≡◌, ℕ, Bool, false, List, [], ◌∷◌}
use Rattle.ssim_mailbox.specs.declared.role.Ahead.{Ahead}
use Rattle.ssim_mailbox.specs.declared.role.Role.{Role}
use Rattle.ssim_mailbox.specs.Lines.{MailLine, lines_from, shown}
use Rattle.ssim_mailbox.specs.Roles.{begin_message, begin_with_addresses, begin_with_origin}
use Rattle.ssim_mailbox.specs.Roles.{lead_to_message, role_of}

-- what these lines begin with
pub record IsAhead (ahead : Ahead) (lines : List MailLine) : Type 0 where
  pub message : ahead.is_message ≡ begin_message lines
  pub leads : ahead.leads_to_message ≡ lead_to_message lines
  pub origin : ahead.is_origin ≡ begin_with_origin lines
  pub addresses : ahead.is_addressing ≡ begin_with_addresses lines

-- the same of the lines that have these bytes, whatever is above them
abbrev pub ArePiecesAhead : Ahead → List (List ℕ) → Type 0
ArePiecesAhead ahead pieces =
    (n : ℕ) (under_dot : Bool) → IsAhead ahead (lines_from n under_dot pieces)

-- a line of these bytes that is not under a dot
abbrev pub plain_line : ℕ → List ℕ → MailLine
plain_line n piece = record { number = n; bytes = shown piece; under_dot = false }

-- The roles are those of the lines that have these bytes, whatever is above them, but as if no line
-- were under a dot. There may be more roles.
abbrev pub AreRoles : List Role → List (List ℕ) → Type 0
AreRoles roles [] = Unit {0}
AreRoles [] (piece ∷ pieces) = ⊥
AreRoles (role ∷ roles) (piece ∷ pieces) =
    ((n m : ℕ) (under_dot : Bool)
    → role ≡ role_of (plain_line n piece) (lines_from m under_dot pieces))
    × AreRoles roles pieces
