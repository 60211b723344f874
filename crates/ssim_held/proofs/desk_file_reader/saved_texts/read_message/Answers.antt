-- The text is the message's text, and the message resolves in one way.
use Rattle.std.proofs.Common.{◌≡◌, Option, List, ℕ, subst}
use Rattle.std.specs.Prelude.{IfNone, IfSome}
use Rattle.ssim_base.specs.Resolve.{ResolvesIn}
use Rattle.ssim_base.specs.declared.resolution.ResolvedText.{ResolvedText}
use Rattle.ssim_text.specs.Canonical.{canonical}
use Rattle.ssim_text.specs.Message.{MessageValue}
use Rattle.ssim_text.specs.Spelling.{SpellsMessage}
use Rattle.ssim_held.proofs.SavedTexts.{not_resolved, text_of}
use Rattle.ssim_held.proofs.desk_file_reader.saved_texts.read_message.Goals as goal
use Rattle.ssim_held.proofs.Resolving.{each_dated}

-- the text is the message's canonical text
abbrev IsOfText : List ℕ → MessageValue → Type 0
IsOfText text m = SpellsMessage m (canonical m) × (text ≡ canonical m)

pub returns-in_default-2-clause-none : goal.returns-in_default-2-clause-none
returns-in_default-2-clause-none c = λ e h.
    let records = c.args.data_set.now in
    let m = c.in-Some.message in
    let is = subst (λ (o : Option MessageValue). IfSome o (IsOfText c.args.text.now)) c.in-Some.is c.in_ok-message.ensures.some in
    let none = subst (λ (o : Option ResolvedText). IfNone o ((t : ResolvedText) → ResolvesIn records m t → ⊥)) c.in_default-2.is c.in_ok-resolved.ensures.none in
    not_resolved c.equal_where_written_equal.ensures records c.args.text.now m e is.0 is.1 none h

pub of-requires : goal.of-requires
of-requires c =
    let records = c.args.data_set.now in
    let m = c.in-Some.message in
    each_dated records m c.in-Some-2.resolved (subst (λ (o : Option ResolvedText). IfSome o (ResolvesIn records m)) c.in-Some-2.is c.in_ok-resolved.ensures.some)

pub returns-clause-some : goal.returns-clause-some
returns-clause-some c =
    let records = c.args.data_set.now in
    let m = c.in-Some.message in
    let is = subst (λ (o : Option MessageValue). IfSome o (IsOfText c.args.text.now)) c.in-Some.is c.in_ok-message.ensures.some in
    let resolves = subst (λ (o : Option ResolvedText). IfSome o (ResolvesIn records m)) c.in-Some-2.is c.in_ok-resolved.ensures.some in
    text_of records c.args.text.now m c.in-Some-2.resolved c.in_ok-held.held is.0 is.1 resolves c.in_ok-held.ensures
