-- Whether one of the names is the file's: none of the first i is, and then the next one is, or not.
use Rattle.std.proofs.Common.{◌≡◌, ◌∙◌, ◌||◌, ℕ, zero, suc, ◌+◌, Bool, true, false, List, [], ◌∷◌, ◌++◌, take, Option, None, Some, IfSome, is_some, unwrap_or, true≢false, refl, sym, ap, arith}
use Rattle.std.specs.List.{list_any, slice_get}
use Rattle.std.specs.Str.{bytes_eq}
use Rattle.std.proofs.lemmas.List.Folds.{list_any-append}
use Rattle.ssim_command_line.specs.Line.{Text}
use Rattle.ssim_program.specs.Files.{Files}
use Rattle.ssim_program.specs.Receiving.{IsAmong}

-- the first i of a list and the next one
first_ones : {A : Type 0} (xs : List A) (i : ℕ) (x : A) → slice_get xs i ≡ Some x → take (suc i) xs ≡ take i xs ++ x ∷ []
first_ones [] i x e = absurd (true≢false (sym (ap is_some e)))
first_ones (y ∷ ys) zero x e = ap (λ o. unwrap_or o x ∷ []) e
first_ones (y ∷ ys) (suc i) x e = ap (λ zs. y ∷ zs) (first_ones ys i x e)

next : {A : Type 0} (xs : List A) (i : ℕ) (x : A) → slice_get xs i ≡ Some x → take (i + 1) xs ≡ take i xs ++ x ∷ []
next xs i x e = let more : i + 1 ≡ suc i = omega arith in ap (λ n. take n xs) more ∙ first_ones xs i x e

neither : (a b : Bool) → a ≡ false → b ≡ false → (a || (b || false)) ≡ false
neither false false one other = refl
neither true b one other = absurd (true≢false one)
neither false true one other = absurd (true≢false other)

first_of : (a b : Bool) → a ≡ true → (a || b) ≡ true
first_of true b holds = refl
first_of false b holds = absurd (true≢false (sym holds))

second_of : (a b : Bool) → b ≡ true → (a || b) ≡ true
second_of true b holds = refl
second_of false b holds = holds

found : {A : Type 0} (p : A → Bool) (xs : List A) (i : ℕ) (x : A) → slice_get xs i ≡ Some x → p x ≡ true → list_any p xs ≡ true
found p [] i x is holds = absurd (true≢false (sym (ap is_some is)))
found p (y ∷ ys) zero x is holds = first_of (p y) (list_any p ys) (ap p (ap (λ o. unwrap_or o x) is) ∙ holds)
found p (y ∷ ys) (suc i) x is holds = second_of (p y) (list_any p ys) (found p ys i x is holds)

-- the next name is not the file's
pub none_more : (files : Option Files) (name : Text) (others : List Text) (i : ℕ) (other : Text) (same : Bool) → slice_get others i ≡ Some other → IfSome files (λ _. same ≡ bytes_eq name other) → same ≡ false
    → IsAmong false files name (take i others) → IsAmong false files name (take (i + 1) others)
none_more None name others i other same is by other_one none = tt
none_more (Some all) name others i other same is by other_one none =
    let p = bytes_eq name in
    ap (list_any p) (next others i other is) ∙ list_any-append p (take i others) (other ∷ []) ∙ neither (list_any p (take i others)) (p other) none (sym by ∙ other_one)

-- the next name is the file's
pub found_there : (files : Option Files) (name : Text) (others : List Text) (i : ℕ) (other : Text) (same : Bool) → slice_get others i ≡ Some other → IfSome files (λ _. same ≡ bytes_eq name other) → same ≡ true
    → IfSome files (λ _. true ≡ list_any (bytes_eq name) others)
found_there None name others i other same is by holds = tt
found_there (Some all) name others i other same is by holds = sym (found (bytes_eq name) others i other is (sym by ∙ holds))

-- none of all names is the file's
pub none_of_all : (files : Option Files) (name : Text) (others some : List Text) → some ≡ others → IsAmong false files name some → IfSome files (λ _. false ≡ list_any (bytes_eq name) others)
none_of_all None name others some are none = tt
none_of_all (Some all) name others some are none = sym (sym (ap (list_any (bytes_eq name)) are) ∙ none)

-- the file's is one of two names, or of the others
pub one_of : (files : Option Files) (name first second : Text) (others : List Text) (a b c : Bool) → IfSome files (λ _. a ≡ bytes_eq name first) → IfSome files (λ _. b ≡ bytes_eq name second)
    → IfSome files (λ _. c ≡ list_any (bytes_eq name) others) → IfSome files (λ _. (a || (b || c)) ≡ list_any (bytes_eq name) (first ∷ second ∷ others))
one_of None name first second others a b c is_first is_second is_other = tt
one_of (Some all) name first second others a b c is_first is_second is_other =
    ap (λ (x : Bool). x || (b || c)) is_first ∙ ap (λ (x : Bool). bytes_eq name first || (x || c)) is_second ∙ ap (λ (x : Bool). bytes_eq name first || (bytes_eq name second || x)) is_other
