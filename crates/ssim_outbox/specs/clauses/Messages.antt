-- When sub-messages cannot be sent.
use Rattle.std.specs.Prelude.{List, [], ◌∷◌}
use Rattle.ssim_text.specs.Message.{MessageValue}
use Rattle.ssim_text.specs.declared.action.Sub.{Sub}
use Rattle.ssim_outbox.specs.declared.send_fault.SendFault.{SendFault}
use Rattle.ssim_outbox.specs.declared.send_fault.SendFault.TheVariants.{Memory, References}
use Rattle.ssim_outbox.specs.Messages.{headed, IsText, Send}

-- a text under this heading can have the sub-message, by itself
abbrev pub IsAlone : MessageValue → Sub → Type 0
IsAlone heading sub = IsText (headed heading heading.reference.group (sub ∷ []))

-- why no messages are returned: memory ran out, or no messages send the sub-messages, since the
-- group serial would pass 99999
abbrev pub RefusesSubs : MessageValue → List Sub → SendFault → Type 0
RefusesSubs heading subs Memory = Unit {0}
RefusesSubs heading subs References =
    (messages : List MessageValue) → Send heading heading.reference.group subs messages → ⊥
