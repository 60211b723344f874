-- The texts so far, and those of the messages that are left, are the texts of all.
use Rattle.std.proofs.Common.{◌≡◌, ◌++◌, drop}
use Rattle.ssim_program.specs.Messages.{message_texts, messages_on}
use Rattle.ssim_program.proofs.MessageTexts.{texts_after}
use Rattle.ssim_program.proofs.command.texts.texts_of.Given as goal

abbrev pub invariant-loop-message : goal.invariant-loop-message
invariant-loop-message l =
    l.texts.items ++ texts_after l.is_first (messages_on l.has_span l.choice (drop l.message-index l.held)) ≡ message_texts (messages_on l.has_span l.choice l.held)
