-- What a step of a command gives: a value, or a refusal.
use Rattle.std.specs.Prelude.{◌≡◌, ◌⊎◌, Option, Some, None, Result, Ok, Err}
use Rattle.ssim_program.specs.print.Refusal.{IsMemory}
use Rattle.ssim_program.specs.declared.refusal.Refusal.{Refusal}

-- An answer says which results are right.
abbrev pub Answer : Type 0 → Type 1
Answer A = Result A Refusal → Type 0

-- The first answer, and then the next one of its value. The first refusal ends both.
abbrev pub Then : {A B : Type 0} → Answer A → (A → Answer B) → Answer B
Then first next (Ok b) = (a : _) × first (Ok a) × next a (Ok b)
Then first next (Err why) = first (Err why) ⊎ ((a : _) × first (Ok a) × next a (Err why))

infixl 10 ◌>>=◌
abbrev pub ◌>>=◌ : {A B : Type 0} → Answer A → (A → Answer B) → Answer B
first >>= next = Then first next

-- exactly this value; or memory ran out
abbrev pub Gives : {A : Type 0} → A → Answer A
Gives value (Ok a) = a ≡ value
Gives value (Err why) = IsMemory why

-- a value of which this is true; or memory ran out
abbrev pub Finds : {A : Type 0} → (A → Type 0) → Answer A
Finds P (Ok a) = P a
Finds P (Err why) = IsMemory why

-- the value, or this refusal if there is none
abbrev pub OrElse : {A : Type 0} → Option A → Refusal → Answer A
OrElse found refusal (Ok a) = found ≡ Some a
OrElse found refusal (Err why) = (found ≡ None) × (why ≡ refusal)

-- a value of which this is true, or this refusal if there is none
abbrev pub OneOr : {A : Type 0} → (A → Type 0) → Refusal → Answer A
OneOr P refusal (Ok a) = P a
OneOr P refusal (Err why) = ((a : _) → P a → ⊥) × (why ≡ refusal)

-- nothing, or this refusal if it is not so
abbrev pub Require : Type 0 → Refusal → Answer (Unit {0})
Require holds refusal (Ok x) = holds
Require holds refusal (Err why) = (holds → ⊥) × (why ≡ refusal)

-- this value, of which something is known; or memory ran out
abbrev pub Known : {A : Type 0} → Type 0 → A → Answer A
Known fact value (Ok a) = fact × (a ≡ value)
Known fact value (Err why) = IsMemory why
