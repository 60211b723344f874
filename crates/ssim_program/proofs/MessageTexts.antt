-- The texts of messages, one after another.
use Rattle.std.proofs.Common.{◌≡◌, ◌∙◌, ◌++◌, ℕ, Bool, true, false, if◌then◌else◌, List, [], ◌∷◌, cond, refl, sym, ap, append_assoc}
use Rattle.std.specs.List.{flat_map}
use Rattle.ssim_text.specs.Canonical.{canonical}
use Rattle.ssim_held.specs.Entries.{Entry}
use Rattle.ssim_parts.specs.Chosen.{Choosing}
use Rattle.ssim_program.specs.Messages.{is_chosen, message_texts, messages_on}

-- what the texts of messages add: an empty line before each, but for the first of all
abbrev pub texts_after : Bool → List Entry → List ℕ
texts_after true entries = message_texts entries
texts_after false entries = flat_map (λ e. (10 ∷ []) ++ canonical e.message) entries

-- the text of the first, and then the others
first_text : (is_first : Bool) (e : Entry) (entries : List Entry)
    → texts_after is_first (e ∷ entries) ≡ ((if is_first then [] else 10 ∷ []) ++ canonical e.message) ++ texts_after false entries
first_text true e entries = refl
first_text false e entries = refl

-- one more message is chosen
pub one_more_text : (spanned : Bool) (choice : Choosing) (is_first : Bool) (e : Entry) (rest : List Entry) (so_far next : List ℕ) → is_chosen spanned choice e ≡ true
    → next ≡ so_far ++ ((if is_first then [] else 10 ∷ []) ++ canonical e.message)
    → next ++ texts_after false (messages_on spanned choice rest) ≡ so_far ++ texts_after is_first (messages_on spanned choice (e ∷ rest))
one_more_text spanned choice is_first e rest so_far next chosen is =
    let text = (if is_first then [] else 10 ∷ []) ++ canonical e.message in
    let after = texts_after false (messages_on spanned choice rest) in
    ap (λ (bytes : List ℕ). bytes ++ after) is
    ∙ append_assoc so_far text after
    ∙ ap (λ (bytes : List ℕ). so_far ++ bytes) (sym (first_text is_first e (messages_on spanned choice rest)))
    ∙ ap (λ (b : Bool). so_far ++ texts_after is_first (cond b (e ∷ messages_on spanned choice rest) (messages_on spanned choice rest))) (sym chosen)

-- one more message is not chosen
pub no_more_text : (spanned : Bool) (choice : Choosing) (is_first : Bool) (e : Entry) (rest : List Entry) (so_far : List ℕ) → is_chosen spanned choice e ≡ false
    → so_far ++ texts_after is_first (messages_on spanned choice rest) ≡ so_far ++ texts_after is_first (messages_on spanned choice (e ∷ rest))
no_more_text spanned choice is_first e rest so_far other =
    ap (λ (b : Bool). so_far ++ texts_after is_first (cond b (e ∷ messages_on spanned choice rest) (messages_on spanned choice rest))) (sym other)

-- nothing is left
pub nothing_after : (is_first : Bool) → texts_after is_first [] ≡ []
nothing_after true = refl
nothing_after false = refl
