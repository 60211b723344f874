-- What a line is by itself excludes some roles, and a line has its role by the lines below it up to
-- the next line NNNN, which begins neither a text nor an envelope.
use Rattle.std.proofs.Common.{◌≡◌, ◌∙◌, ◌⊎◌, inl, inr, ℕ, Bool, true, false, ◌&&◌, ◌||◌, List, [], ◌∷◌}
use Rattle.std.proofs.Common.{◌++◌, codes, drop, length, take, refl, sym, ap, subst, arith}
use Rattle.std.proofs.lemmas.Bool.{and_parts, or_cases}
use Rattle.std.proofs.lemmas.Bool.Decides.{nat_tests}
use Rattle.std.specs.Prelude.{◌==◌, filter, if◌then◌else◌, not}
use Rattle.std.specs.Str.{bytes_eq}
use Rattle.std.proofs.lemmas.Slice.Eq.{bytes_eq-Decides}
use Rattle.std.specs.List.{list_all, onto_first, slice_split}
use Rattle.ssim_values.specs.Characters.{is_letter}
use Rattle.ssim_mailbox.specs.Addresses.{are_addresses, is_address, is_address_line, is_alphanumeric}
use Rattle.ssim_mailbox.specs.declared.role.Role.{Role}
use Rattle.ssim_mailbox.specs.declared.role.Role.TheVariants.{First, Inside, Envelope}
use Rattle.ssim_mailbox.specs.Lines.{begins_with_dot, dot_after}
use Rattle.ssim_mailbox.specs.Roles.{is_end, is_kind, is_start}
use Rattle.ssim_mailbox.proofs.LineBytes.{ByteLines, addresses, is_blank, leads, message, origin, pick}
use Rattle.ssim_mailbox.proofs.LineBytes.{role, starts}
use Rattle.ssim_mailbox.proofs.Reading.{no_end}
use Rattle.ssim_mailbox.proofs.CleanLines.{end_line}

false_true : {A : Type 0} → false ≡ true → A
false_true h = absurd cc

-- ---- lines that are none of two kinds

dot_alone : (line : List ℕ) → begins_with_dot line ≡ true → (rest : List ℕ) × (line ≡ 46 ∷ rest)
dot_alone [] h = false_true h
dot_alone (b ∷ rest) h =
    let e : b ≡ 46 = grind (arith, nat_tests) in (rest, ap (λ (x : ℕ). x ∷ rest) e)

pub dot_role : (line : List ℕ) → begins_with_dot line ≡ true → (is_end line ≡ false)
    × (is_kind line ≡ false) × (is_start line ≡ false)
dot_role line h =
    let one = dot_alone line h in subst
    (λ (l : List ℕ). (is_end l ≡ false) × (is_kind l ≡ false) × (is_start l ≡ false)) (sym one.1)
    (refl, refl, refl)

address_role : (line : List ℕ) → is_address_line line ≡ true → (is_end line ≡ false)
    × (is_kind line ≡ false)
address_role line h = (
  other (codes "NNNN") line h refl,
  none_or _ _ (other (codes "SSM") line h refl)
      (other (codes "ASM") line h refl),
)
  where
    by : (word line : List ℕ) (t : Bool) → bytes_eq line word ≡ t → is_address_line line ≡ true
        → is_address_line word ≡ false → bytes_eq line word ≡ false
    by word line true e h none =
        let same = (bytes_eq-Decides line word).0 e in false_true
        (sym none ∙ ap is_address_line (sym same) ∙ h)
    by word line false e h none = e

    other : (word line : List ℕ) → is_address_line line ≡ true → is_address_line word ≡ false
        → bytes_eq line word ≡ false
    other word line h none = by word line (bytes_eq line word) refl h none

    none_or : (a b : Bool) → a ≡ false → b ≡ false → (a || b) ≡ false
    none_or a b h k = rw (h, k) refl

-- a line that begins with a dot is no line of addresses
pub dot_address : (line : List ℕ) → begins_with_dot line ≡ true → is_address_line line ≡ false
dot_address line h = let one = dot_alone line h in ap is_address_line one.1 ∙ none one.0
  where
    led : (ps : ByteLines) → are_addresses (filter (λ w. not (length w == 0)) (onto_first 46 ps)) ≡
        false
    led [] = refl
    led (first ∷ ps) =
        let some : (length (46 ∷ first) == 0) ≡ false = grind (arith, nat_tests) in
        rw some (by (length (46 ∷ first) == 7)
        (list_all is_address (filter (λ w. not (length w == 0)) ps)))
      where
        by : (t u : Bool) → (((t && list_all is_letter (take 4 (46 ∷ first))) && list_all
            is_alphanumeric (drop 4 (46 ∷ first))) && u) ≡ false
        by true u = refl
        by false u = refl

    none : (rest : List ℕ) → is_address_line (46 ∷ rest) ≡ false
    none [] = refl
    none (b ∷ []) = led (slice_split (λ b. b == 32) (b ∷ []))
    none (b ∷ c ∷ rest) = led (slice_split (λ b. b == 32) (b ∷ c ∷ rest))

start_dot : (line : List ℕ) → is_start line ≡ true → (under_dot : Bool)
    → dot_after under_dot line ≡ false
start_dot [] h d = false_true h
start_dot (b ∷ line) h d = by (b == 46) refl
  where
    by : (t : Bool) → (b == 46) ≡ t → (b == 46) ≡ false
    by true e = let one = dot_role (b ∷ line) e in false_true (sym one.2 ∙ h)
    by false e = e

-- ---- an envelope is directly above the first line of a text

no_inside : First ≡ Inside → ⊥
no_inside h = absurd cc

pick_envelope : (e k d o a s : Bool) → pick e k d o a s ≡ Envelope → (a || s) ≡ true
pick_envelope true k d o a s h = absurd cc
pick_envelope false true true o a s h = absurd cc
pick_envelope false true false o a s h = absurd cc
pick_envelope false false d true a s h = absurd cc
pick_envelope false false d false true s h = refl
pick_envelope false false d false false true h = refl
pick_envelope false false d false false false h = absurd cc

-- an origin line, a line of addresses and the first line of a message are not inside
origin_first : (e k d a s : Bool) → e ≡ false → k ≡ false → pick e k d true a s ≡ Inside → ⊥
origin_first false false d a s x y h = absurd cc
origin_first true k d a s x y h = absurd cc
origin_first false true d a s x y h = absurd cc

addresses_above : (e k d o s : Bool) → e ≡ false → k ≡ false → pick e k d o true s ≡ Inside → ⊥
addresses_above false false d true s x y h = absurd cc
addresses_above false false d false s x y h = absurd cc
addresses_above true k d o s x y h = absurd cc
addresses_above false true d o s x y h = absurd cc

kind_first : (e d o a s : Bool) → e ≡ false → d ≡ false → pick e true d o a s ≡ Inside → ⊥
kind_first false false o a s x y h = absurd cc
kind_first true d o a s x y h = absurd cc
kind_first false true o a s x y h = absurd cc

module _ (d : Bool) (line next : List ℕ) (below : ByteLines)
    (inside : role (dot_after d line) next below ≡ Inside) where
  below_origin : origin (next ∷ below) ≡ true → ⊥
  below_origin h =
      let none = dot_role next (and_parts (begins_with_dot next) (leads below) h).0 in
      origin_first (is_end next) (is_kind next) (dot_after d line) (addresses (next ∷ below))
      (starts (next ∷ below)) none.0 none.1
      (ap (λ (o : Bool). pick (is_end next) (is_kind next) (dot_after d line) o
      (addresses (next ∷ below)) (starts (next ∷ below))) (sym h) ∙ inside)

  below_addresses : addresses (next ∷ below) ≡ true → ⊥
  below_addresses h =
      let none = address_role next
      (and_parts (is_address_line next) (origin below || addresses below) h).0 in
      addresses_above (is_end next) (is_kind next) (dot_after d line) (origin (next ∷ below))
      (starts (next ∷ below)) none.0 none.1
      (ap (λ (a : Bool). pick (is_end next) (is_kind next) (dot_after d line) (origin (next ∷ below)) a
      (starts (next ∷ below))) (sym h) ∙ inside)

  below_message : is_start line ≡ true → is_kind next ≡ true → ⊥
  below_message s h =
      kind_first (is_end next) (dot_after d line) (origin (next ∷ below)) (addresses (next ∷ below))
      (starts (next ∷ below)) (no_end next h) (start_dot line s d)
      (ap (λ (k : Bool). pick (is_end next) k (dot_after d line) (origin (next ∷ below))
      (addresses (next ∷ below)) (starts (next ∷ below))) (sym h) ∙ inside)

  by_addresses : (origin (next ∷ below) ≡ true) ⊎ (addresses (next ∷ below) ≡ true) → ⊥
  by_addresses (inl o) = below_origin o
  by_addresses (inr a) = below_addresses a

  by_start : is_start line ≡ true → ((is_kind next || origin (next ∷ below)) ≡ true)
      ⊎ (addresses (next ∷ below) ≡ true) → ⊥
  by_start s (inr a) = below_addresses a
  by_start s (inl m) = by_message (or_cases (is_kind next) (origin (next ∷ below)) m)
    where
      by_message : (is_kind next ≡ true) ⊎ (origin (next ∷ below) ≡ true) → ⊥
      by_message (inl k) = below_message s k
      by_message (inr o) = below_origin o

  pub no_envelope : role d line (next ∷ below) ≡ Envelope → ⊥
  no_envelope h =
      by (or_cases (addresses (line ∷ next ∷ below)) (starts (line ∷ next ∷ below))
      (pick_envelope (is_end line) (is_kind line) d (origin (line ∷ next ∷ below))
      (addresses (line ∷ next ∷ below)) (starts (line ∷ next ∷ below)) h))
    where
      by : (addresses (line ∷ next ∷ below) ≡ true) ⊎ (starts (line ∷ next ∷ below) ≡ true) → ⊥
      by (inl a) =
          by_addresses (or_cases (origin (next ∷ below)) (addresses (next ∷ below))
          (and_parts (is_address_line line) (origin (next ∷ below) || addresses (next ∷ below))
          a).1)
      by (inr s) =
          let both = and_parts (is_start line)
          ((is_kind next || origin (next ∷ below)) || addresses (next ∷ below)) s in
          by_start both.0 (or_cases (is_kind next || origin (next ∷ below)) (addresses (next ∷ below))
          both.1)

-- ---- what NNNN is above

leads_on : (lines below rest : ByteLines) → leads (lines ++ end_line ∷ below) ≡ true
    → leads (lines ++ rest) ≡ true
leads_on [] below rest h = false_true h
leads_on (line ∷ lines) below rest h = by (is_blank line) (leads_on lines below rest) h
  where
    by : (b : Bool) → (leads (lines ++ end_line ∷ below) ≡ true → leads (lines ++ rest) ≡ true)
        → (if b then leads (lines ++ end_line ∷ below) else is_kind line) ≡ true
        → (if b then leads (lines ++ rest) else is_kind line) ≡ true
    by true on h = on h
    by false on h = h

message_on : (lines below rest : ByteLines) → message (lines ++ end_line ∷ below) ≡ true
    → message (lines ++ rest) ≡ true
message_on [] below rest h = false_true h
message_on (line ∷ lines) below rest h = h

both_on : (a b c : Bool) → (b ≡ true → c ≡ true) → (a && b) ≡ true → (a && c) ≡ true
both_on true b c on h = on h
both_on false b c on h = h

either_on : (a b c d : Bool) → (a ≡ true → c ≡ true) → (b ≡ true → d ≡ true) → (a || b) ≡ true
    → (c || d) ≡ true
either_on a b true d f g h = refl
either_on true b false d f g h = false_true (f refl)
either_on false b false d f g h = g h

pub origin_on : (lines below rest : ByteLines) → origin (lines ++ end_line ∷ below) ≡ true
    → origin (lines ++ rest) ≡ true
origin_on [] below rest h = false_true h
origin_on (line ∷ lines) below rest h =
    both_on (begins_with_dot line) _ _ (leads_on lines below rest) h

pub addresses_on : (lines below rest : ByteLines) → addresses (lines ++ end_line ∷ below) ≡ true
    → addresses (lines ++ rest) ≡ true
addresses_on [] below rest h = false_true h
addresses_on (line ∷ lines) below rest h =
    both_on (is_address_line line) _ _
    (either_on _ _ _ _ (origin_on lines below rest) (addresses_on lines below rest)) h

pub start_on : (line : List ℕ) (lines below rest : ByteLines)
    → starts (line ∷ lines ++ end_line ∷ below) ≡ true → starts (line ∷ lines ++ rest) ≡ true
start_on line lines below rest h =
    both_on (is_start line) _ _
    (either_on _ _ _ _ (either_on _ _ _ _ (message_on lines below rest)
    (origin_on lines below rest)) (addresses_on lines below rest)) h

pub pick_kept : (e k d o a s p b t : Bool) → (p ≡ true → o ≡ true) → (b ≡ true → a ≡ true)
    → (t ≡ true → s ≡ true) → pick e k d o a s ≡ Inside → pick e k d p b t ≡ Inside
pick_kept true k d o a s p b t f g j h = absurd cc
pick_kept false true true o a s p b t f g j h = refl
pick_kept false true false o a s p b t f g j h = absurd cc
pick_kept false false d true a s p b t f g j h = absurd cc
pick_kept false false d false true s p b t f g j h = absurd cc
pick_kept false false d false false true p b t f g j h = absurd cc
pick_kept false false d false false false true b t f g j h = false_true (f refl)
pick_kept false false d false false false false true t f g j h = false_true (g refl)
pick_kept false false d false false false false false true f g j h = false_true (j refl)
pick_kept false false d false false false false false false f g j h = refl

-- the role of the first line of a text
abbrev pub MayBegin : Role → Type 0
MayBegin r = (r ≡ Inside) ⊎ (r ≡ First)

pub pick_begins : (e k d o a s p b t : Bool) → (o ≡ true → (b ≡ false) × (t ≡ false))
    → (b ≡ true → a ≡ true) → (t ≡ true → s ≡ true) → MayBegin (pick e k d o a s)
    → MayBegin (pick e k false p b t)
pick_begins true k d o a s p b t f g j (inl h) = absurd cc
pick_begins true k d o a s p b t f g j (inr h) = absurd cc
pick_begins false true d o a s p b t f g j h = inr refl
pick_begins false false d o a s true b t f g j h = inr refl
pick_begins false false d o a s false false false f g j h = inl refl
pick_begins false false d true a s false true t f g j h = false_true (sym (f refl).0)
pick_begins false false d true a s false false true f g j h = false_true (sym (f refl).1)
pick_begins false false d false true s false true t f g j (inl h) = absurd cc
pick_begins false false d false true s false true t f g j (inr h) = absurd cc
pick_begins false false d false false s false true t f g j h = false_true (g refl)
pick_begins false false d false a false false false true f g j h = false_true (j refl)
pick_begins false false d false true true false false true f g j (inl h) = absurd cc
pick_begins false false d false true true false false true f g j (inr h) = absurd cc
pick_begins false false d false false true false false true f g j (inl h) = absurd cc
pick_begins false false d false false true false false true f g j (inr h) = absurd cc
