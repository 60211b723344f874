-- What the writers have written, joined.
use Rattle.std.proofs.Common.{◌≡◌, ◌<◌, ℕ, ◌+◌, List, [], ◌∷◌, ◌++◌, length, refl, sym, ap, ◌∙◌, append_assoc, codes, get_or, take}
use Rattle.std.proofs.lemmas.List.{take_more}
use Rattle.ssim_text.specs.declared.action.Sub.{Sub}
use Rattle.ssim_text.specs.Grammar.{Part, Divider, sub_parts, later_parts}
use Rattle.ssim_text.specs.Canonical.{part_text, written}
use Rattle.ssim_text.proofs.Sound.{later-push}

pub written_both : (a b : List Part) → written (a ++ b) ≡ written a ++ written b
written_both [] b = refl
written_both (p ∷ a) b = ap (λ (x : List ℕ). (part_text p ++ 10 ∷ []) ++ x) (written_both a b) ∙ sym (append_assoc (part_text p ++ 10 ∷ []) (written a) (written b))

line : Part → List ℕ
line p = part_text p ++ 10 ∷ []

-- one more sub-message after a divider
pub written_later : (args out mid new : List ℕ) (xs : List Sub) (i : ℕ) (x : Sub) → i < length xs → x ≡ get_or xs i x → out ≡ args ++ written (later_parts (take i xs))
    → mid ≡ out ++ (codes "//" ++ 10 ∷ []) → new ≡ mid ++ written (sub_parts x) → new ≡ args ++ written (later_parts (take (i + 1) xs))
written_later args out mid new xs i x lt is h k j =
    let before = written (later_parts (take i xs)) in
    let divider = codes "//" ++ 10 ∷ [] in
    let own = written (sub_parts x) in
    let e : later_parts (take (i + 1) xs) ≡ later_parts (take i xs) ++ (Divider ∷ sub_parts x) =
    ap later_parts (take_more xs i x lt) ∙ later-push (take i xs) (get_or xs i x) ∙ ap (λ (y : Sub). later_parts (take i xs) ++ (Divider ∷ sub_parts y)) (sym is) in
    j ∙ ap (λ (y : List ℕ). y ++ own) (k ∙ ap (λ (y : List ℕ). y ++ divider) h)
    ∙ append_assoc (args ++ before) divider own ∙ append_assoc args before (divider ++ own)
    ∙ ap (λ (y : List ℕ). args ++ y) (sym (written_both (later_parts (take i xs)) (Divider ∷ sub_parts x)))
    ∙ ap (λ (y : List Part). args ++ written y) (sym e)

-- a whole text
pub written_whole : (front subs free : List Part) (kind mode reference : Part) (a b c d e f : List ℕ) → a ≡ [] ++ written front → b ≡ a ++ (part_text kind ++ 10 ∷ []) → c ≡ b ++ (part_text mode ++ 10 ∷ []) → d ≡ c ++ (part_text reference ++ 10 ∷ []) → e ≡ d ++ written subs → f ≡ e ++ written free
    → f ≡ written (front ++ (kind ∷ mode ∷ reference ∷ (subs ++ free)))
written_whole front subs free kind mode reference a b c d e f ha hb hc hd he hf =
    let k = part_text kind ++ 10 ∷ [] in
    let m = part_text mode ++ 10 ∷ [] in
    let r = part_text reference ++ 10 ∷ [] in
    let s = written subs in
    let t = written free in
    let whole : f ≡ (((((written front ++ k) ++ m) ++ r) ++ s) ++ t) =
    hf ∙ ap (λ (x : List ℕ). x ++ t) (he ∙ ap (λ (x : List ℕ). x ++ s) (hd ∙ ap (λ (x : List ℕ). x ++ r) (hc ∙ ap (λ (x : List ℕ). x ++ m) (hb ∙ ap (λ (x : List ℕ). x ++ k) ha)))) in
    whole ∙ regroup (written front) k m r s t ∙ sym (written_both front (kind ∷ mode ∷ reference ∷ (subs ++ free)) ∙ ap (λ (x : List ℕ). written front ++ (k ++ (m ++ (r ++ x)))) (written_both subs free))
  where
    regroup : (f k m r s t : List ℕ) → ((((f ++ k) ++ m) ++ r) ++ s) ++ t ≡ f ++ (k ++ (m ++ (r ++ (s ++ t))))
    regroup f k m r s t = simp append_assoc
