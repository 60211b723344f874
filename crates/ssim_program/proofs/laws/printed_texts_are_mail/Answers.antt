-- The texts of messages are those of their values.
use Rattle.std.proofs.Common.{◌≡◌, ◌∙◌, ◌++◌, ◌∷◌, [], List, ℕ, refl, sym, ap}
use Rattle.std.proofs.lemmas.List.Folds.{flat_map-map}
use Rattle.ssim_text.specs.Canonical.{canonical}
use Rattle.ssim_mailbox.specs.Texts.{texts_in}
use Rattle.ssim_held.specs.Entries.{Entry}
use Rattle.ssim_outbox.specs.MailFile.{joined_texts}
use Rattle.ssim_program.specs.Messages.{message_texts, values_of}
use Rattle.ssim_program.proofs.laws.printed_texts_are_mail.Goals as goal

same_texts : (entries : List Entry) → joined_texts (values_of entries) ≡ message_texts entries
same_texts [] = refl
same_texts (e ∷ entries) =
    ap (λ (later : List ℕ). canonical e.message ++ later) (flat_map-map (λ m. (10 ∷ []) ++ canonical m) (λ e. e.message) entries)

pub returns : goal.returns
returns c = λ entries mail.
    sym (ap texts_in (same_texts entries)) ∙ c.mailboxes_read.ensures.joined (values_of entries) mail
