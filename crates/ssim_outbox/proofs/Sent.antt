-- Each message has the first of the sub-messages, and the later messages have those that are left.
use Rattle.std.proofs.Common.{◌≡◌, ◌+◌, ℕ, zero, suc, List, [], ◌∷◌, ◌++◌, length, take, drop, IfSome, slice_get}
use Rattle.std.proofs.Common.{refl, sym, ap, subst, ◌∙◌, arith}
use Rattle.ssim_text.specs.Message.{MessageValue}
use Rattle.ssim_text.specs.declared.action.Sub.{Sub}
use Rattle.ssim_outbox.specs.Messages.{headed}
use Rattle.ssim_outbox.specs.SendLaws.{FullDatesResolve, IsHeaded, SerialsRise, SubsAreJoined}

in_two : (n : ℕ) (subs : List Sub) → take n subs ++ drop n subs ≡ subs
in_two zero subs = refl
in_two (suc n) [] = refl
in_two (suc n) (s ∷ subs) = ap (λ (x : List Sub). s ∷ x) (in_two n subs)

pub subs_are_joined : SubsAreJoined
subs_are_joined h g subs [] send = sym send
subs_are_joined h g subs (m ∷ messages) send =
    let own : m.subs ≡ take (length m.subs) subs = ap (λ (x : MessageValue). x.subs) send.0.own in
    let left = drop (length m.subs) subs in
    ap (λ (x : List Sub). m.subs ++ x) (subs_are_joined h (g + 1) left messages send.1)
    ∙ ap (λ (x : List Sub). x ++ left) own ∙ in_two (length m.subs) subs

pub serials_rise : SerialsRise
serials_rise h g subs [] send k = tt
serials_rise h g subs (m ∷ messages) send zero =
    let first = send.0 in
    let same : g ≡ g + 0 = omega arith in
    subst (λ (n : ℕ). IsHeaded h n m) same (record {
      own = first.own ∙ ap (headed h g) (sym (ap (λ (x : MessageValue). x.subs) first.own));
      text = first.text;
    })
serials_rise h g subs (m ∷ messages) send (suc k) =
    let next : g + 1 + k ≡ g + suc k = omega arith in
    subst (λ (n : ℕ). IfSome (slice_get messages k) (IsHeaded h n)) next
    (serials_rise h (g + 1) (drop (length m.subs) subs) messages send.1 k)

pub full_dates_resolve : FullDatesResolve
full_dates_resolve carrier designator period action airline order =
    record { airline = airline; dates = (refl, refl, order, refl); flight = refl }
