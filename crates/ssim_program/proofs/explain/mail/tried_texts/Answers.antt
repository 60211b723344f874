-- The next text is tried, of those that are left.
use Rattle.std.proofs.Common.{◌≡◌, ◌∙◌, ◌∷◌, ◌++◌, [], List, Ok, Option, ap, map, option_map, refl, sym, subst}
use Rattle.std.proofs.lemmas.List.{append-nil, append_assoc, map-append}
use Rattle.std.specs.List.{AllByRecursion}
use Rattle.std.specs.Option.{option_to_list}
use Rattle.ssim_mailbox.specs.Texts.{MailText, texts_in}
use Rattle.ssim_mailbox.specs.clauses.Mail.{mail_of}
use Rattle.ssim_mailbox.specs.declared.text.Text as mailbox
use Rattle.ssim_program.specs.Mailboxes.{IsTried}
use Rattle.ssim_program.specs.internal.Explain.{tried_of}
use Rattle.ssim_program.specs.declared.explain.mail.TriedText.{TriedText}
use Rattle.ssim_program.proofs.Mailboxes.{all-push}
use Rattle.ssim_program.proofs.explain.mail.tried_texts.Goals as goal

pub loop-texts-init : goal.loop-texts-init
loop-texts-init c =
    let none : c.new-tried.result.items ≡ [] = c.new-tried.ensures.items in
    record {
      texts =
          ap (λ (ts : List TriedText). map (λ t. (tried_of t).0) ts ++ c.in_ok-texts.texts) none
          ∙ c.in_ok-texts.ensures;
      tried = subst (λ (ts : List TriedText). AllByRecursion IsTried (map tried_of ts)) (sym none) tt;
    }

pub loop-texts-preserved : goal.loop-texts-preserved
loop-texts-preserved c =
    let at = c.loop-texts in
    let text = c.in-Some.text in
    let one = c.in_ok-one.one in
    let rest = c.next_text.new.self in
    let steps : at.texts ≡ mail_of text ∷ rest =
    c.in_ok-text.ensures.next
    ∙ ap (λ (t : Option mailbox.Text). option_to_list (option_map mail_of t) ++ rest) c.in-Some.is in
    let items : c.push.new.self.items ≡ at.tried.items ++ one ∷ [] = c.in_ok-push.ensures.items in
    let texts_of : List TriedText → List MailText = map (λ t. (tried_of t).0) in
    record {
      texts =
          ap (λ (ts : List TriedText). texts_of ts ++ rest) items
          ∙ ap (λ (ts : List MailText). ts ++ rest) (map-append (λ t. (tried_of t).0) at.tried.items (one ∷ []))
          ∙ append_assoc (texts_of at.tried.items) ((tried_of one).0 ∷ []) rest
          ∙ ap (λ (t : MailText). texts_of at.tried.items ++ t ∷ rest) c.in_ok-one.ensures.text
          ∙ ap (λ (ts : List MailText). texts_of at.tried.items ++ ts) (sym steps)
          ∙ at.invariant.texts;
      tried =
          subst (λ (ts : List TriedText). AllByRecursion IsTried (map tried_of ts)) (sym items)
          (subst (AllByRecursion IsTried) (sym (map-append tried_of at.tried.items (one ∷ [])))
          (all-push IsTried (map tried_of at.tried.items) (tried_of one) at.invariant.tried c.in_ok-one.ensures.tried));
    }

pub returns-clause-texts : goal.returns-clause-texts
returns-clause-texts c =
    let at = c.loop-texts in
    let none : at.texts ≡ [] = c.next_text.ensures.none (c.in_ok-text.was ∙ ap Ok c.in_default.is) in
    sym (append-nil _) ∙ ap (λ (ts : List MailText). map (λ t. (tried_of t).0) at.tried.items ++ ts) (sym none)
    ∙ at.invariant.texts
