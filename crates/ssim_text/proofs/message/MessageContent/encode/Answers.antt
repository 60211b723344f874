-- The parts that were written, joined.
use Rattle.std.proofs.Common.{ℕ, List, ◌∷◌, ◌++◌, ap, ◌∙◌}
use Rattle.ssim_text.specs.declared.action.Sub.{Sub}
use Rattle.ssim_text.specs.Grammar.{KindPart, ModePart, ReferencePart, subs_parts, free_parts}
use Rattle.ssim_text.specs.Canonical.{written, originator_parts, canonical}
use Rattle.ssim_text.proofs.Writing.{written_whole}
use Rattle.ssim_text.proofs.message.MessageContent.encode.Goals as goal

pub returns : goal.returns
returns c =
    let i = c.self.inside in
    let front = originator_parts i.originator in
    let kind = KindPart i.kind in
    let mode = ModePart i.mode in
    let reference = ReferencePart i.reference in
    let whole = λ (subs : List Sub) (free : List (List ℕ)). written (front ++ (kind ∷ mode ∷ reference ∷ (subs_parts subs ++ free_parts free))) in
    written_whole front (subs_parts c.deref.result.now) (free_parts c.deref-2.result.now) kind mode reference _ _ _ _ _ _
    (c.in_ok-push_originator.ensures ∙ ap (λ (x : List ℕ). x ++ written front) c.in_ok-out.ensures.items) c.in_ok-push_kind.ensures c.in_ok-push_mode.ensures c.in_ok-push.ensures c.in_ok-push_subs.ensures c.in_ok-push_free.ensures
    ∙ ap (λ (x : List Sub). whole x c.deref-2.result.now) c.deref.ensures.value
    ∙ ap (λ (x : List (List ℕ)). whole i.subs.items x) c.deref-2.ensures.value
    ∙ ap canonical c.self.view_is
