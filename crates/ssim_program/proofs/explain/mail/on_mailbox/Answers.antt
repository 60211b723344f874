-- The line that counts the texts, and then the words on them.
use Rattle.std.proofs.Common.{◌≡◌, ◌∙◌, ◌++◌, ℕ, List, map, ap}
use Rattle.ssim_program.specs.internal.Explain.{tried_of}
use Rattle.ssim_program.proofs.Mailboxes.{map-map}
use Rattle.ssim_program.proofs.explain.mail.on_mailbox.Goals as goal

pub returns : goal.returns
returns c = (
  map tried_of c.args.texts.now,
  map-map (λ t. t.0) tried_of c.args.texts.now ∙ c.requires.texts,
  c.requires.tried,
  c.any_is_none-found.ensures,
  c.deref.result.now,
  c.in_ok-extend_from_slice.ensures.items
      ∙ ap (λ (t : List ℕ). t ++ c.deref.result.now) c.in_ok-lines.ensures,
)
