-- A text can have the message, and it takes no further sub-message.
use Rattle.std.proofs.Common.{◌≡◌, [], ◌∷◌, ◌∙◌, ℕ, List, ap, subst, sym, take}
use Rattle.std.proofs.lemmas.Result.{IfOk-weaker}
use Rattle.ssim_values.specs.declared.time_mode.TimeMode.{TimeMode}
use Rattle.ssim_text.specs.Message.{MessageValue, message_of}
use Rattle.ssim_text.specs.declared.action.Sub.{Sub}
use Rattle.ssim_text.specs.declared.kind.Kind.{Kind}
use Rattle.ssim_text.specs.declared.reference.GivenReference.{GivenReference}
use Rattle.ssim_outbox.specs.Messages.{IsFirst, IsText, headed}
use Rattle.ssim_outbox.proofs.FullTexts.{is_first, spelled}
use Rattle.ssim_outbox.proofs.messages.next_message.Goals as goal

-- the message with these parts has the heading and the sub-messages
made_of : (h : MessageValue) (g : ℕ) (subs : List Sub) (o : List ℕ) (kind : Kind) (mode : TimeMode)
    (reference : GivenReference) (own : List Sub) → o ≡ h.originator → kind ≡ h.kind → mode ≡ h.mode
    → reference ≡ record h.reference { group = g } → own ≡ subs
    → message_of o kind mode reference own ≡ headed h g subs
made_of h g subs o kind mode reference own is_o is_kind is_mode is_reference is_own = λ i. record {
  originator = is_o i;
  kind = is_kind i;
  mode = is_mode i;
  reference = is_reference i;
  subs = is_own i;
  free = [];
}

pub new-requires : goal.new-requires
new-requires c =
    let h = c.args.heading.now in
    let g = c.args.group in
    let first = c.args.first.now in
    let later = c.args.later.now in
    let count = c.in_ok-count.count in
    let reference = c.in_ok-reference.ensures
    ∙ ap (λ (r : GivenReference). record r { group = g }) c.reference.ensures.value in
    let made = made_of h g (first ∷ take count later) c.originator.result c.kind.result c.mode.result
    c.in_ok-reference.reference c.in_ok-subs.subs.items c.originator.ensures c.kind.ensures
    c.mode.ensures reference c.in_ok-subs.ensures in
    subst IsText (sym made)
    (spelled h g first later count c.requires.group c.requires.first c.requires.later c.in_ok-count.ensures)

pub returns : goal.returns
returns c =
    let h = c.args.heading.now in
    let g = c.args.group in
    let first = c.args.first.now in
    let later = c.args.later.now in
    let count = c.in_ok-count.count in
    let reference = c.in_ok-reference.ensures
    ∙ ap (λ (r : GivenReference). record r { group = g }) c.reference.ensures.value in
    let made = made_of h g (first ∷ take count later) c.originator.result c.kind.result c.mode.result
    c.in_ok-reference.reference c.in_ok-subs.subs.items c.originator.ensures c.kind.ensures
    c.mode.ensures reference c.in_ok-subs.ensures in
    IfOk-weaker c.new.result (λ m. m ≡ message_of c.originator.result c.kind.result c.mode.result
    c.in_ok-reference.reference c.in_ok-subs.subs.items) (IsFirst h g (first ∷ later))
    (λ m is. is_first h g first later count c.requires.group c.requires.first c.requires.later
    c.in_ok-count.ensures m (is ∙ made)) c.new.ensures
