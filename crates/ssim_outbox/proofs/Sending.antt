-- The messages so far, and one more.
use Rattle.std.proofs.Common.{◌≡◌, ◌≤◌, ◌<◌, ◌+◌, ℕ, zero, suc, List, [], ◌∷◌, ◌++◌, length, take, drop}
use Rattle.std.proofs.Common.{refl, sym, ap, subst, ◌∙◌, append_assoc, append-nil, arith, length-drop}
use Rattle.std.specs.List.{AllByRecursion}
use Rattle.ssim_text.specs.Canonical.{canonical}
use Rattle.ssim_text.specs.Message.{MessageValue}
use Rattle.ssim_text.specs.declared.action.Sub.{Sub}
use Rattle.ssim_text.proofs.BoundsLemmas.{spelled_reference_bounded}
use Rattle.ssim_outbox.specs.clauses.Messages.{IsAlone}
use Rattle.ssim_outbox.specs.Messages.{IsFirst, Send}
use Rattle.ssim_outbox.specs.internal.Texts.{AreSent}
use Rattle.ssim_outbox.proofs.OneFirst.{one_first, within}

pub none_sent : (h : MessageValue) (subs : List Sub) → AreSent h subs [] h.reference.group subs
none_sent h subs = record { sends = λ later s. s; only = λ all s. (all, refl, s) }

-- the messages that send sub-messages begin with the one that has as many as a text can have
record Begin (h : MessageValue) (g : ℕ) (subs : List Sub) (m : MessageValue) (all : List MessageValue) : Type 0 where
  later : List MessageValue
  all_is : all ≡ m ∷ later
  send : Send h (g + 1) (drop (length m.subs) subs) later

begin : (h : MessageValue) (g : ℕ) (s : Sub) (subs : List Sub) (m : MessageValue) (all : List MessageValue)
    → IsFirst h g (s ∷ subs) m → Send h g (s ∷ subs) all → Begin h g (s ∷ subs) m all
begin h g s subs m [] first sent = cc
begin h g s subs m (n ∷ later) first sent =
    let same : n ≡ m = one_first h g (s ∷ subs) n m sent.0 first in
    record {
      later = later;
      all_is = ap (λ (x : MessageValue). x ∷ later) same;
      send = subst (λ (x : MessageValue). Send h (g + 1) (drop (length x.subs) (s ∷ subs)) later) same sent.1;
    }

pub one_more_sent : (h : MessageValue) (all : List Sub) (done new : List MessageValue) (g : ℕ)
    (left rest : List Sub) (s : Sub) (subs own : List Sub) (m : MessageValue) → AreSent h all done g left
    → left ≡ s ∷ subs → IsFirst h g (s ∷ subs) m → new ≡ done ++ m ∷ [] → own ≡ m.subs
    → rest ≡ drop (length own) left → AreSent h all new (g + 1) rest
one_more_sent h all done new g left rest s subs own m sent left_is first new_is own_is rest_is =
    subst (λ (x : List MessageValue). AreSent h all x (g + 1) rest) (sym new_is)
    (subst (AreSent h all (done ++ m ∷ []) (g + 1))
    (sym (rest_is ∙ ap (λ (x : List Sub). drop (length x) left) own_is ∙ ap (drop (length m.subs)) left_is)) (record {
      sends = λ later send. subst (Send h h.reference.group all) (sym (append_assoc done (m ∷ []) later))
          (now.sends (m ∷ later) (first, send));
      only = λ messages send.
          let o = now.only messages send in
          let b = begin h g s subs m o.0 first o.2 in (
            b.later,
            o.1 ∙ ap (λ (x : List MessageValue). done ++ x) b.all_is ∙ sym (append_assoc done (m ∷ []) b.later),
            b.send,
          );
    }))
  where
    now : AreSent h all done g (s ∷ subs)
    now = subst (AreSent h all done g) left_is sent

none_if : (subs : List Sub) → length subs ≡ 0 → subs ≡ []
none_if [] e = refl
none_if (s ∷ subs) e = absurd (omega (arith, e))

pub all_sent : (h : MessageValue) (all : List Sub) (done : List MessageValue) (g : ℕ)
    (left : List Sub) → AreSent h all done g left → length left ≡ 0 → Send h h.reference.group all done
all_sent h all done g left sent none =
    subst (Send h h.reference.group all) (append-nil done) (sent.sends [] (none_if left none))

none_of : (n : ℕ) (subs : List Sub) → subs ≡ [] → n ≡ length (take n subs) → 1 ≤ n → ⊥
none_of zero subs none e some = absurd (omega (arith, some))
none_of (suc n) [] none e some = absurd (omega (arith, e))
none_of (suc n) (s ∷ subs) none e some = cc

nothing_left : (h : MessageValue) (g : ℕ) (later : List MessageValue) → Send h g [] later → later ≡ []
nothing_left h g [] s = refl
nothing_left h g (m ∷ later) s =
    let some = s.0.text.spelled.shape.some in
    absurd (none_of (length m.subs) [] refl (ap (λ (x : MessageValue). length x.subs) s.0.own) some)

pub only_sent : (h : MessageValue) (all : List Sub) (done : List MessageValue) (g : ℕ)
    (left : List Sub) → AreSent h all done g left → length left ≡ 0
    → (other : List MessageValue) → Send h h.reference.group all other → other ≡ done
only_sent h all done g left sent none other s =
    let o = sent.only other s in
    let last = subst (λ (x : List Sub). Send h g x o.0) (none_if left none) o.2 in
    o.1 ∙ ap (λ (x : List MessageValue). done ++ x) (nothing_left h g o.0 last) ∙ append-nil done

-- no message has a group serial of six digits
pub past_last : (h : MessageValue) (all : List Sub) (done : List MessageValue) (g : ℕ) (left : List Sub)
    (s : Sub) (subs : List Sub) → AreSent h all done g left → left ≡ s ∷ subs → 99999 < g
    → (messages : List MessageValue) → Send h h.reference.group all messages → ⊥
past_last h all done g left s subs sent left_is past messages send =
    let o = sent.only messages send in
    by o.0 (subst (λ (x : List Sub). Send h g x o.0) left_is o.2)
  where
    by : (later : List MessageValue) → Send h g (s ∷ subs) later → ⊥
    by [] l = cc
    by (m ∷ later) l =
        let few = (spelled_reference_bounded m (canonical m) l.0.text).group in
        let own : m.reference.group ≡ g = ap (λ (x : MessageValue). x.reference.group) l.0.own in
        omega (arith, few, own, past)

all_after : {X : Type 0} (P : X → Type 0) (n : ℕ) (xs : List X) → AllByRecursion P xs
    → AllByRecursion P (drop n xs)
all_after P zero xs h = h
all_after P (suc n) [] h = tt
all_after P (suc n) (x ∷ xs) h = all_after P n xs h.1

-- a text can have each of the sub-messages that are left
pub left_alone : (h : MessageValue) (left own rest : List Sub) → AllByRecursion (IsAlone h) left
    → rest ≡ drop (length own) left → AllByRecursion (IsAlone h) rest
left_alone h left own rest alone is =
    subst (AllByRecursion (IsAlone h)) (sym is) (all_after (IsAlone h) (length own) left alone)

-- at least one sub-message less is left, for one group serial less
pub less_room : (h : MessageValue) (g : ℕ) (left own rest : List Sub) (s : Sub) (subs : List Sub)
    (m : MessageValue) (most : ℕ) → IsFirst h g (s ∷ subs) m → left ≡ s ∷ subs → own ≡ m.subs
    → g + length left ≤ most → rest ≡ drop (length own) left → g + 1 + length rest ≤ most
less_room h g left own rest s subs m most first left_is own_is room is =
    let some = first.text.spelled.shape.some in
    omega (
      arith,
      some,
      room,
      within h g (s ∷ subs) m first,
      ap length own_is,
      ap length left_is,
      ap length is,
      length-drop (length own) left,
    )
