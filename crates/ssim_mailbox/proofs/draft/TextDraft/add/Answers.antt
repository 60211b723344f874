-- A first line begins the lines of a text, and another line goes on with those that have begun.
use Rattle.std.proofs.Common.{◌≡◌, ◌∙◌, ◌++◌, [], ◌∷◌, Option, ap, refl, sym}
use Rattle.std.specs.List.{onto_first}
use Rattle.std.specs.Option.{option_to_list}
use Rattle.ssim_mailbox.specs.declared.free_text.FreeText.TheVariants.{Ahead}
use Rattle.ssim_mailbox.specs.FreeTexts.{cut_parts, free_after}
use Rattle.ssim_mailbox.specs.declared.free_text.FreeText.{FreeText}
use Rattle.ssim_mailbox.specs.declared.role.Role.{Role}
use Rattle.ssim_mailbox.specs.Texts.{MailText, texts_of, with_line}
use Rattle.ssim_mailbox.specs.internal.Lines.{line_of}
use Rattle.ssim_mailbox.specs.internal.Texts.{ends_by, texts_with}
use Rattle.ssim_mailbox.proofs.Drafts.{ended_text, no_text, none_begun, one_more}
use Rattle.ssim_mailbox.proofs.draft.TextDraft.add.Goals as goal

pub returns-in_ok-push-in-First : goal.returns-in_ok-push-in-First
returns-in_ok-push-in-First c begun h =
    let line = line_of c.args.line.now in
    let d = c.args.self.now in
    let first = c.in-First.is in
    let none = no_text d.line d.bytes.items d.end begun (c.requires (ap (λ (role : Role). ends_by d.free role line.bytes) first)) h in
    let free : c.push.new.self.free ≡ free_after Ahead line.bytes = c.in_ok-push-in-First.ensures.free ∙ ap (λ (f : FreeText). free_after f line.bytes) c.new.ensures.free in (
      line ∷ [],
      c.in_ok-push-in-First.ensures.draft [] c.new.ensures.draft,
      λ parts. ap (λ (role : Role). texts_with begun d.free (with_line role line parts)) first ∙ ended_text begun d.free (onto_first line parts)
          ∙ ap (λ (text : Option MailText). option_to_list text ++ texts_of (cut_parts (onto_first line parts))) none
          ∙ none_begun (onto_first line parts) ∙ one_more [] Ahead line parts refl
          ∙ ap (λ (f : FreeText). texts_with (line ∷ []) f parts) (sym free),
    )

pub returns-in_ok-push-in-Inside-2 : goal.returns-in_ok-push-in-Inside-2
returns-in_ok-push-in-Inside-2 c begun h =
    let line = line_of c.args.line.now in (
      begun ++ line ∷ [],
      c.in_ok-push-in-Inside-2.ensures.draft begun h,
      λ parts. ap (λ (role : Role). texts_with begun c.args.self.now.free (with_line role line parts)) c.in-Inside-2.is
          ∙ one_more begun c.args.self.now.free line parts (sym c.is_ended_by.ensures ∙ c.if-is_ended_by.false)
          ∙ ap (λ (f : FreeText). texts_with (begun ++ line ∷ []) f parts) (sym c.in_ok-push-in-Inside-2.ensures.free),
    )
