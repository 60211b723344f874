-- Each sub-message adds its row, and is left no more.
use Rattle.std.proofs.Common.{◌≡◌, ◌+◌, ◌<◌, ◌++◌, ◌∷◌, ℕ, Bool, List, [], drop, length}
use Rattle.std.proofs.Common.{ap, append_assoc, refl, subst, sym, ◌∙◌}
use Rattle.std.proofs.lemmas.List.{append-nil, drop_all}
use Rattle.ssim_text.specs.Message.{MessageValue}
use Rattle.ssim_text.specs.declared.action.Sub.{Sub}
use Rattle.ssim_text.specs.declared.reference.Reference.{Reference}
use Rattle.ssim_base.specs.declared.sub_message.ResolvedSub.{ResolvedSub}
use Rattle.ssim_desk.proofs.Shown.{splits}
use Rattle.ssim_parts.specs.Chosen.{Choosing}
use Rattle.ssim_program.specs.Messages.{chosen_row, sub_rows}
use Rattle.ssim_program.proofs.print.sub_rows.push_subs.Goals as goal

-- the row of the first sub-message, and those of the others
first_row : (spanned : Bool) (choice : Choosing) (reference : Reference) (number : ℕ)
    (subs later : List Sub) (dates after : List ResolvedSub) (sub : Sub) (dated : ResolvedSub)
    → subs ≡ sub ∷ later → dates ≡ dated ∷ after
    → chosen_row spanned choice reference number sub dated
    ++ sub_rows spanned choice reference (number + 1) later after
    ≡ sub_rows spanned choice reference number subs dates
first_row spanned choice reference number subs later dates after sub dated s d =
    λ i. sub_rows spanned choice reference number (sym s i) (sym d i)

pub loop-place-init : goal.loop-place-init
loop-place-init c = refl

pub loop-place-preserved : goal.loop-place-preserved
loop-place-preserved c =
    let held = c.args.held.now in
    let place = c.loop-place.place in
    let spanned = c.args.chosen.now.has_span in
    let choice = c.args.chosen.now.choice.now in
    let are : c.subs-sub-items.result.now ≡ held.message.subs =
    c.subs-sub-items.ensures.value ∙ ap (λ (m : MessageValue). m.subs) c.message.ensures in
    let within : place < length c.dates.result.now =
    subst (λ n. place < n) (ap length are ∙ sym c.dates.ensures.each) c.loop-place-test.true in
    let subs = splits c.subs-sub-items.result.now held.message.subs place c.sub-item.result are
    c.loop-place-test.true c.sub-item.is in
    let dates = splits c.dates.result.now held.dates place c.index-dates-place.result
    c.dates.ensures.value within c.index-dates-place.is in
    let rest = sub_rows spanned choice held.reference (place + 1 + 1)
    (drop (place + 1) held.message.subs) (drop (place + 1) held.dates) in
    let rows = c.loop-place.rows.items in
    let row = chosen_row spanned choice held.reference (place + 1) c.sub-item.result
    c.index-dates-place.result in
    let added : c.push_if_chosen.new.rows.items ≡ rows ++ row =
    c.in_ok-push_if_chosen.ensures
    ∙ ap (λ (reference : Reference). rows ++ chosen_row spanned choice reference (place + 1)
    c.sub-item.result c.index-dates-place.result) c.reference-reference.ensures in
    ap (λ (text : List ℕ). text ++ rest) added ∙ append_assoc rows row rest
    ∙ ap (λ (text : List ℕ). rows ++ text)
    (first_row spanned choice held.reference (place + 1) _ _ _ _ c.sub-item.result
    c.index-dates-place.result subs dates)
    ∙ c.loop-place.invariant

pub returns : goal.returns
returns c =
    let held = c.args.held.now in
    let spanned = c.args.chosen.now.has_span in
    let choice = c.args.chosen.now.choice.now in
    let place = c.loop-place.place in
    let are : c.subs-sub-items.result.now ≡ held.message.subs =
    c.subs-sub-items.ensures.value ∙ ap (λ (m : MessageValue). m.subs) c.message.ensures in
    let none : drop place held.message.subs ≡ [] =
    subst (λ (subs : List Sub). drop place subs ≡ []) are
    (drop_all place c.subs-sub-items.result.now c.loop-place-test.false) in
    sym (append-nil c.loop-place.rows.items)
    ∙ ap (λ (subs : List Sub). c.loop-place.rows.items ++ sub_rows spanned choice held.reference
    (place + 1) subs (drop place held.dates)) (sym none)
    ∙ c.loop-place.invariant
