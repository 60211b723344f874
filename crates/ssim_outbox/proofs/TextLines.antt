-- The canonical text of a message that sends sub-messages: the lines of the heading, and those of
-- the sub-messages with a divider between two of them.
use Rattle.std.proofs.Common.{◌≡◌, ℕ, List, [], ◌∷◌, ◌++◌, sym, ap, ◌∙◌, append-nil, append_assoc}
use Rattle.ssim_text.specs.Canonical.{canonical, originator_parts, written}
use Rattle.ssim_text.specs.Grammar.{Divider, KindPart, ModePart, Part, ReferencePart, later_parts}
use Rattle.ssim_text.specs.Grammar.{sub_parts, subs_parts}
use Rattle.ssim_text.specs.Message.{MessageValue}
use Rattle.ssim_text.specs.declared.action.Sub.{Sub}
use Rattle.ssim_text.proofs.Sound.{later-push}
use Rattle.ssim_text.proofs.Writing.{written_both}
use Rattle.ssim_outbox.specs.Messages.{headed}
use Rattle.ssim_outbox.specs.internal.Texts.{heading_parts}

-- the heading, and the sub-messages
pub in_two : (h : MessageValue) (g : ℕ) (subs : List Sub)
    → canonical (headed h g subs) ≡ written (heading_parts h g) ++ written (subs_parts subs)
in_two h g subs =
    let three = KindPart h.kind ∷ ModePart h.mode ∷ ReferencePart (record h.reference { group = g }) ∷ [] in
    let own = originator_parts h.originator in
    ap written (ap (λ (x : List Part). own ++ (three ++ x)) (append-nil (subs_parts subs))
    ∙ sym (append_assoc own three (subs_parts subs)))
    ∙ written_both (heading_parts h g) (subs_parts subs)

-- one more sub-message
pub one_more : (h : MessageValue) (g : ℕ) (first : Sub) (later : List Sub) (sub : Sub)
    → canonical (headed h g (first ∷ (later ++ sub ∷ [])))
    ≡ canonical (headed h g (first ∷ later)) ++ written (Divider ∷ sub_parts sub)
one_more h g first later sub =
    let heading = written (heading_parts h g) in
    let next = Divider ∷ sub_parts sub in
    in_two h g (first ∷ (later ++ sub ∷ []))
    ∙ ap (λ (x : List Part). heading ++ written (sub_parts first ++ x)) (later-push later sub)
    ∙ ap (λ (x : List Part). heading ++ written x)
    (sym (append_assoc (sub_parts first) (later_parts later) next))
    ∙ ap (λ (x : List ℕ). heading ++ x) (written_both (subs_parts (first ∷ later)) next)
    ∙ sym (append_assoc heading (written (subs_parts (first ∷ later))) (written next))
    ∙ ap (λ (x : List ℕ). x ++ written next) (sym (in_two h g (first ∷ later)))
