-- What a map has at a line after a leg was put into it.
use Rattle.std.proofs.Common.{◌≡◌, ◌∙◌, Bool, true, false, cond, ℕ, List, [], ◌∷◌, Option, Some, None, Vec, refl, sym, ap, true≢false, option_map}
use Rattle.std.specs.BTreeMap.{insert_entry, is_at}
use Rattle.std.specs.Borrow.{Bor}
use Rattle.std.specs.Cmp.Lexicographic.{slice_cmp}
use Rattle.std.specs.Map.{lookup}
use Rattle.std.specs.Option.{option_copied}
use Rattle.std.specs.Ordering.{is_eq, match_ordering, nat_cmp}
use Rattle.std.specs.Str.{bytes_eq}
use Rattle.std.specs.declared.cmp.Ordering.{Ordering}
use Rattle.std.specs.declared.cmp.Ordering.TheVariants.{Less, Equal, Greater}
use Rattle.std.proofs.lemmas.Map.Text.{is_eq-slice_cmp}
use Rattle.std.proofs.lemmas.Slice.Eq.{bytes_eq-Decides}
use Rattle.ssim_base.specs.Timetable.{LegValue}
use Rattle.ssim_listing.specs.clauses.Groups.{GroupSeen, grown}

bytes_either : (a b : List ℕ) (t : Bool) → bytes_eq a b ≡ t → bytes_eq b a ≡ t
bytes_either a b true e = (bytes_eq-Decides b a).1 (sym ((bytes_eq-Decides a b).0 e))
bytes_either a b false e = by (bytes_eq b a) refl
  where
    by : (t : Bool) → bytes_eq b a ≡ t → t ≡ false
    by true is = absurd (true≢false (sym ((bytes_eq-Decides a b).1 (sym ((bytes_eq-Decides b a).0 is))) ∙ e))
    by false is = refl

module _ {A : Type 0} where
  abbrev vec_cmp : Vec ℕ A → Vec ℕ A → Ordering
  vec_cmp x y = slice_cmp nat_cmp x.items y.items

  abbrev at : List ℕ → Vec ℕ A → Bool
  at text = is_at (λ key. slice_cmp nat_cmp text key.items)

  at_is : (text : List ℕ) (key : Vec ℕ A) (t : Bool) → bytes_eq key.items text ≡ t → at text key ≡ t
  at_is text key t e = is_eq-slice_cmp text key.items ∙ bytes_either key.items text t e

module _ {A X : Type 0} where
  -- the value at a line after one was put at a key
  pub put_found : (es : List (Vec ℕ A × X)) (key : Vec ℕ A) (v : X) (text : List ℕ) → lookup (at text) (insert_entry vec_cmp es key v) ≡ cond (bytes_eq key.items text) (Some v) (lookup (at text) es)
  put_found [] key v text = ap (λ (b : Bool). cond b (Some v) None) (at_is text key (bytes_eq key.items text) refl)
  put_found (e ∷ es) key v text =
      by (vec_cmp key e.0) refl (bytes_eq key.items text) refl (put_found es key v text)
    where
      by : (o : Ordering) → vec_cmp key e.0 ≡ o → (b : Bool) → bytes_eq key.items text ≡ b
          → lookup (at text) (insert_entry vec_cmp es key v) ≡ cond (bytes_eq key.items text) (Some v) (lookup (at text) es)
          → lookup (at text) (match_ordering o ((key, v) ∷ e ∷ es) ((e.0, v) ∷ es) (e ∷ insert_entry vec_cmp es key v))
          ≡ cond b (Some v) (cond (at text e.0) (Some e.1) (lookup (at text) es))
      by Less is b has later =
          ap (λ (t : Bool). cond t (Some v) (cond (at text e.0) (Some e.1) (lookup (at text) es))) (at_is text key b has)
      by Equal is b has later =
          let same : key.items ≡ e.0.items = (bytes_eq-Decides key.items e.0.items).0 (sym (is_eq-slice_cmp key.items e.0.items) ∙ ap is_eq is) in
          let here : at text e.0 ≡ b = at_is text e.0 b (ap (λ (bs : List ℕ). bytes_eq bs text) (sym same) ∙ has) in
          ap (λ (t : Bool). cond t (Some v) (lookup (at text) es)) here ∙ sym (ap (λ (t : Bool). cond b (Some v) (cond t (Some e.1) (lookup (at text) es))) here ∙ passed b)
        where
          passed : (b : Bool) → cond b (Some v) (cond b (Some e.1) (lookup (at text) es)) ≡ cond b (Some v) (lookup (at text) es)
          passed true = refl
          passed false = refl
      by Greater is true has later =
          let differ : bytes_eq key.items e.0.items ≡ false = sym (is_eq-slice_cmp key.items e.0.items) ∙ ap is_eq is in
          let same : key.items ≡ text = (bytes_eq-Decides key.items text).0 has in
          let here : at text e.0 ≡ false = at_is text e.0 false (ap (bytes_eq e.0.items) (sym same) ∙ bytes_either key.items e.0.items false differ) in
          ap (λ (t : Bool). cond t (Some e.1) (lookup (at text) (insert_entry vec_cmp es key v))) here
          ∙ (later ∙ ap (λ (t : Bool). cond t (Some v) (lookup (at text) es)) has)
      by Greater is false has later =
          ap (λ o. cond (at text e.0) (Some e.1) o) (later ∙ ap (λ (t : Bool). cond t (Some v) (lookup (at text) es)) has)

-- what is read of a value by reference is what is read of its copy
pub copied : {X Y : Type 0} (f : X → Y) (o : Option (Bor X)) → option_map (λ x. f x.now) o ≡ option_map f (option_copied o)
copied f None = refl
copied f (Some x) = refl

-- the group that was put at a line is that of the line with one more leg
pub put_or_kept : {X : Type 0} (seen : X → GroupSeen) (leg : LegValue) (v : X) (old : List ℕ → Option X) (key text : List ℕ) → seen v ≡ grown leg (option_map seen (old key))
    → (b : Bool) → bytes_eq key text ≡ b
    → option_map seen (cond b (Some v) (old text)) ≡ cond b (Some (grown leg (option_map seen (old text)))) (option_map seen (old text))
put_or_kept seen leg v old key text is true has = ap Some (is ∙ ap (λ (bs : List ℕ). grown leg (option_map seen (old bs))) ((bytes_eq-Decides key text).0 has))
put_or_kept seen leg v old key text is false has = refl
