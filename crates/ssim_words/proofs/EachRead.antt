-- Words are read one after another.
use Rattle.std.proofs.Common.{◌≡◌, ◌∙◌, ◌+◌, ◌<◌, ◌≤◌, ℕ, List, [], ◌∷◌, ◌++◌, length, drop, map, refl}
use Rattle.std.proofs.Common.{get_or, Option, Some, None, sym, ap, append-nil, append_assoc}
use Rattle.std.proofs.Common.{if◌then◌else◌, Bool, true, false, IfSome, IfNone, option_map}
use Rattle.ssim_values.specs.Station.{is_station}
use Rattle.ssim_words.specs.Several.{before, each_read}
use Rattle.ssim_words.specs.Station.{typed_station}
use Rattle.ssim_words.specs.Typed.{typed}
use Rattle.ssim_words.proofs.NamedFlights.{next_word, no_word}

-- values before others, if there are these
abbrev pub after : List (List ℕ) → Option (List (List ℕ)) → Option (List (List ℕ))
after so_far (Some later) = Some (so_far ++ later)
after so_far None = None

module _ (read : List ℕ → Option (List ℕ)) where
  -- the values so far, and those of the words that are left, are those of all words
  abbrev pub AreRead : List (List ℕ) → ℕ → List (List ℕ) → Type 0
  AreRead words i so_far = after so_far (each_read read (drop i words)) ≡ each_read read words

  after_none : (words : List (List ℕ)) → after [] (each_read read words) ≡ each_read read words
  after_none words = by (each_read read words)
    where
      by : (found : Option (List (List ℕ))) → after [] found ≡ found
      by None = refl
      by (Some later) = refl

  pub none_yet : (words : List (List ℕ)) → AreRead words 0 []
  none_yet words = after_none words

  more : (so_far : List (List ℕ)) (value : List ℕ) (found : Option (List (List ℕ)))
      → after (so_far ++ value ∷ []) found ≡ after so_far (before (Some value) found)
  more so_far value None = refl
  more so_far value (Some later) = ap Some (append_assoc so_far (value ∷ []) later)

  left : {A : Type 0} (f : A → List ℕ) (xs : List A) (i : ℕ) (d : A) → i < length xs
      → each_read read (drop i (map f xs))
      ≡ before (read (f (get_or xs i d))) (each_read read (drop (i + 1) (map f xs)))
  left f xs i d within = ap (each_read read) (next_word f xs i d within)

  -- one more word is read
  pub one_more : {A : Type 0} (f : A → List ℕ) (xs : List A) (i : ℕ) (d : A)
      (word : List ℕ) (so_far next : List (List ℕ)) (value : List ℕ) → i < length xs
      → word ≡ f (get_or xs i d) → read word ≡ Some value → next ≡ so_far ++ value ∷ []
      → AreRead (map f xs) i so_far → AreRead (map f xs) (i + 1) next
  one_more f xs i d word so_far next value within at is pushed were =
      let rest = each_read read (drop (i + 1) (map f xs)) in
      ap (λ (vs : List (List ℕ)). after vs rest) pushed
      ∙ more so_far value rest
      ∙ ap (λ (v : Option (List ℕ)). after so_far (before v rest)) (sym is ∙ ap read at)
      ∙ ap (after so_far) (sym (left f xs i d within))
      ∙ were

  -- a word that is read as nothing
  pub nothing : {A : Type 0} (f : A → List ℕ) (xs : List A) (i : ℕ) (d : A)
      (word : List ℕ) (so_far : List (List ℕ)) → i < length xs → word ≡ f (get_or xs i d)
      → read word ≡ None → AreRead (map f xs) i so_far → None ≡ each_read read (map f xs)
  nothing f xs i d word so_far within at is were =
      let rest = each_read read (drop (i + 1) (map f xs)) in
      ap (λ (v : Option (List ℕ)). after so_far (before v rest)) (sym is ∙ ap read at)
      ∙ ap (after so_far) (sym (left f xs i d within))
      ∙ were

  -- no word is left
  pub all_read : {A : Type 0} (f : A → List ℕ) (xs : List A) (i : ℕ) (so_far : List (List ℕ))
      → length xs ≤ i → AreRead (map f xs) i so_far → Some so_far ≡ each_read read (map f xs)
  all_read f xs i so_far past were =
      ap Some (sym (append-nil so_far))
      ∙ ap (λ (words : List (List ℕ)). after so_far (each_read read words)) (sym (no_word f xs i past))
      ∙ were

-- a word that is a station, and one that is none
pub is_read : (word station : List ℕ) → station ≡ typed word → is_station (typed word) ≡ true
    → typed_station word ≡ Some station
is_read word station same is =
    ap (λ (b : Bool). if b then Some (typed word) else None) is ∙ ap Some (sym same)

pub is_not_read : (word : List ℕ) → is_station (typed word) ≡ false → typed_station word ≡ None
is_not_read word is = ap (λ (b : Bool). if b then Some (typed word) else None) is
