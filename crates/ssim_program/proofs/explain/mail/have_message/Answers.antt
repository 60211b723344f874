-- The next text has a message, or it has none.
use Rattle.std.proofs.Common.{◌≡◌, ◌∙◌, ◌+◌, ◌<◌, ◌||◌, ℕ, Bool, List, drop, get_or, length, map, refl, sym, ap}
use Rattle.std.proofs.lemmas.List.{drop_all, drop_more}
use Rattle.std.specs.List.{list_any}
use Rattle.ssim_program.specs.Mailboxes.{has_message}
use Rattle.ssim_program.specs.internal.Explain.{tried_of}
use Rattle.ssim_program.specs.declared.explain.mail.TriedText.{TriedText}
use Rattle.ssim_program.proofs.explain.mail.have_message.Goals as goal

-- whether one of these has a message
abbrev any : List TriedText → Bool
any texts = list_any has_message (map (λ t. (tried_of t).0) texts)

pub loop-text-init : goal.loop-text-init
loop-text-init c = refl

-- the texts from one on have a message if this one has, or one of the others
from_one : (texts : List TriedText) (i : ℕ) (text : TriedText) → i < length texts
    → text ≡ get_or texts i text → (found : Bool) → found ≡ has_message (tried_of text).0
    → any (drop i texts) ≡ (found || any (drop (i + 1) texts))
from_one texts i text within is found has =
    ap any (drop_more texts i text within)
    ∙ ap (λ (t : TriedText). has_message (tried_of t).0 || any (drop (i + 1) texts)) (sym is)
    ∙ ap (λ (b : Bool). b || any (drop (i + 1) texts)) (sym has)

pub loop-text-preserved : goal.loop-text-preserved
loop-text-preserved c =
    let i = c.loop-text.text-index in
    let texts = c.args.texts.now in
    c.loop-text.invariant
    ∙ from_one texts i c.text-item.result c.loop-text-test.true c.text-item.is c.in_ok-found.found
    c.in_ok-found.ensures
    ∙ ap (λ (b : Bool). b || any (drop (i + 1) texts)) c.if-found.false

pub returns-then-found : goal.returns-then-found
returns-then-found c =
    let i = c.loop-text.text-index in
    let texts = c.args.texts.now in
    sym (c.loop-text.invariant
    ∙ from_one texts i c.text-item.result c.loop-text-test.true c.text-item.is c.in_ok-found.found
    c.in_ok-found.ensures
    ∙ ap (λ (b : Bool). b || any (drop (i + 1) texts)) c.if-found.true)

pub returns : goal.returns
returns c =
    sym (c.loop-text.invariant
    ∙ ap any (drop_all c.loop-text.text-index c.args.texts.now c.loop-text-test.false))
