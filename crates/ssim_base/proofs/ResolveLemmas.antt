-- The refusal of a message is that of its first sub-message that has one, if its mode and reference
-- are valid.
use Rattle.std.proofs.Common.{◌≡◌, ◌⊎◌, ℕ, ◌+◌, true, List, [], ◌∷◌, inl, inr}
use Rattle.ssim_records.specs.Carrier.{CarrierFields}
use Rattle.ssim_text.specs.Message.{MessageValue}
use Rattle.ssim_text.specs.declared.action.Sub.{Sub}
use Rattle.ssim_base.specs.Resolve.{HasReferenceDate, IsFirstRefused, IsRefused, same_mode}
use Rattle.ssim_base.specs.declared.resolution.ResolveFault.{ResolveFault}
use Rattle.ssim_base.specs.declared.resolution.ResolveFault.TheVariants as fault

-- no sub-message is refused for the time mode
no-mode : (k : CarrierFields) (n : ℕ) (subs : List Sub) → IsFirstRefused k n subs fault.TimeMode → ⊥
no-mode k n [] h = h
no-mode k n (s ∷ subs) (inl h) = h
no-mode k n (s ∷ subs) (inr (r, is, h)) = no-mode k (n + 1) subs h

pub refused-by : (k : CarrierFields) (m : MessageValue) (e : ResolveFault) → same_mode k.time_mode m.mode ≡ true → HasReferenceDate k m → (e ≡ fault.Memory) ⊎ IsFirstRefused k 1 m.subs e
    → IsRefused k m e
refused-by k m fault.Memory mode date h = tt
refused-by k m fault.TimeMode mode date (inl h) = absurd cc
refused-by k m fault.TimeMode mode date (inr h) = absurd (no-mode k 1 m.subs h)
refused-by k m (fault.Airline n) mode date (inl h) = absurd cc
refused-by k m (fault.Airline n) mode date (inr h) = record { mode = mode; date = date; first = h }
refused-by k m (fault.NoSuchDate n) mode date (inl h) = absurd cc
refused-by k m (fault.NoSuchDate n) mode date (inr h) = inr (record { mode = mode; date = date; first = h })
refused-by k m (fault.Period n) mode date (inl h) = absurd cc
refused-by k m (fault.Period n) mode date (inr h) = record { mode = mode; date = date; first = h }
