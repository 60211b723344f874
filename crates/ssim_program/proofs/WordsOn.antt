-- Flights and a date: all words but the last, and the last.
use Rattle.std.proofs.Common.{◌≡◌, ◌∙◌, ◌++◌, List, [], ◌∷◌, map, refl, ap}
use Rattle.std.proofs.lemmas.List.{map-append}
use Rattle.ssim_command_line.specs.Line.{Text}
use Rattle.ssim_program.specs.Messages.{but_last, last_of}

-- the words before the last one
before_last : (first : Text) (words : List Text) (word : Text)
    → but_last first (words ++ word ∷ []) ≡ first ∷ words
before_last first [] word = refl
before_last first (next ∷ words) word =
    ap (λ (ws : List Text). first ∷ ws) (before_last next words word)

-- the last word
last_word : (first : Text) (words : List Text) (word : Text)
    → last_of first (words ++ word ∷ []) ≡ word
last_word first [] word = refl
last_word first (next ∷ words) word = last_word next words word

module _ {A : Type 0} (f : A → Text) (all others : List A) (last : A)
    (parts : all ≡ others ++ last ∷ []) where
  in_parts : map f all ≡ map f others ++ f last ∷ []
  in_parts = ap (map f) parts ∙ map-append f others (last ∷ [])

  -- of a first word and others
  pub words_before : (first : Text) → but_last first (map f all) ≡ first ∷ map f others
  words_before first = ap (but_last first) in_parts ∙ before_last first (map f others) (f last)

  pub word_at_last : (first : Text) → last_of first (map f all) ≡ f last
  word_at_last first = ap (last_of first) in_parts ∙ last_word first (map f others) (f last)
