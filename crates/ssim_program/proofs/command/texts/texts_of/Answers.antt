-- The next message's text is the first of those that were left, if it is chosen.
use Rattle.std.proofs.Common.{◌≡◌, ◌+◌, ◌++◌, ◌∷◌, ◌∙◌, List, ℕ, Bool, false, Vec, [], drop, sym, ap}
use Rattle.std.proofs.lemmas.List.{append-nil, drop_all, drop_more}
use Rattle.ssim_held.specs.Entries.{Entry}
use Rattle.ssim_program.specs.Messages.{message_texts, messages_on}
use Rattle.ssim_program.proofs.MessageTexts.{no_more_text, nothing_after, one_more_text, texts_after}
use Rattle.ssim_program.proofs.command.texts.texts_of.Goals as goal
use Rattle.ssim_program.proofs.command.texts.texts_of.Goals.{then-is_chosen+in_ok-push_text, else-is_chosen}

pub loop-message-init : goal.loop-message-init
loop-message-init c = ap (λ (bytes : List ℕ). bytes ++ message_texts (messages_on c.args.has_span c.args.choice.now c.args.held.now)) c.new-texts.ensures.items

pub loop-message-preserved : goal.loop-message-preserved
loop-message-preserved c =
    let i = c.loop-message.message-index in let spanned = c.args.has_span in let choice = c.args.choice.now in let e = c.message-item.result in
    let so_far = c.loop-message.texts.items in let is_first = c.loop-message.is_first in
    let rest = drop (i + 1) c.args.held.now in
    let next : drop i c.args.held.now ≡ e ∷ rest = drop_more c.args.held.now i e c.loop-message-test.true ∙ ap (λ (x : Entry). x ∷ rest) (sym c.message-item.is) in
    let before = ap (λ (es : List Entry). so_far ++ texts_after is_first (messages_on spanned choice es)) (sym next) ∙ c.loop-message.invariant in
    elim c.if-is_chosen.branch [
      | then-is_chosen+in_ok-push_text w ↦
          ap (λ (b : Bool). c.if-is_chosen.texts.items ++ texts_after b (messages_on spanned choice rest)) w.is_first-is
          ∙ ap (λ (v : Vec ℕ _). v.items ++ texts_after false (messages_on spanned choice rest)) w.texts-is
          ∙ one_more_text spanned choice is_first e rest so_far w.push_text.new.texts.items (sym c.is_chosen.ensures ∙ w.if-is_chosen.true) w.in_ok-push_text.ensures ∙ before
      | else-is_chosen w ↦
          ap (λ (b : Bool). c.if-is_chosen.texts.items ++ texts_after b (messages_on spanned choice rest)) w.is_first-is
          ∙ ap (λ (v : Vec ℕ _). v.items ++ texts_after is_first (messages_on spanned choice rest)) w.texts-is
          ∙ no_more_text spanned choice is_first e rest so_far (sym c.is_chosen.ensures ∙ w.if-is_chosen.false) ∙ before
    ]

pub returns : goal.returns
returns c =
    let none : drop c.loop-message.message-index c.args.held.now ≡ [] = drop_all c.loop-message.message-index c.args.held.now c.loop-message-test.false in
    sym (ap (λ (es : List Entry). c.loop-message.texts.items ++ texts_after c.loop-message.is_first (messages_on c.args.has_span c.args.choice.now es)) none
    ∙ ap (λ (bytes : List ℕ). c.loop-message.texts.items ++ bytes) (nothing_after c.loop-message.is_first)
    ∙ append-nil c.loop-message.texts.items)
    ∙ c.loop-message.invariant
