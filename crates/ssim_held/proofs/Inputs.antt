-- What was used of an input, and what that says of the bytes that came next, if they are known.
use Rattle.std.proofs.Common.{◌≡◌, ℕ, ◌<◌, ◌≤◌, List, [], ◌∷◌, ◌++◌, get_or, length, take, drop, Option, Some, None, IfSome, Result, Ok, Err, IfErr, IfOk, refl, sym, ap, subst, ◌∙◌, append_assoc, arith}
use Rattle.std.specs.Io.KnownBytes.{Consumes, IsAtEnd}
use Rattle.std.proofs.lemmas.List.{append-nil, length-take, take-append-drop}
use Rattle.ssim_records.specs.clauses.InputBuffer.{Input, Uses, ahead}
use Rattle.ssim_records.proofs.InputBuffers.{uses_skipped, uses_then}
use Rattle.ssim_base.specs.declared.data_set.saved_lines.SavedFault.{SavedFault}
use Rattle.ssim_base.specs.declared.data_set.saved_lines.SavedFault.TheVariants as fault
use Rattle.ssim_held.specs.internal.DeskFileReader.{IfInvalid}

-- ---- what is known of the bytes

-- these were used, and the others come next
pub of_known : (P : List ℕ → Type 0) (used : List ℕ) (a b : Option (List ℕ)) → Consumes a b used → ((rest : List ℕ) → b ≡ Some rest → P (used ++ rest)) → IfSome a P
of_known P used None b h f = tt
of_known P used (Some x) None h f = absurd h
of_known P used (Some x) (Some y) h f = subst P (sym h) (f y refl)

pub at_known : (P : List ℕ → Type 0) (a : Option (List ℕ)) (bytes : List ℕ) → a ≡ Some bytes → IfSome a P → P bytes
at_known P None bytes is holds = absurd cc
at_known P (Some x) bytes is holds = let same : x ≡ bytes = cc in subst P same holds

-- nothing was used
pub of_next : (P : List ℕ → Type 0) (a b : Option (List ℕ)) → Consumes a b [] → IfSome b P → IfSome a P
of_next P None b h k = tt
of_next P (Some x) None h k = absurd h
of_next P (Some x) (Some y) h k = subst P (sym h) k

pub some_map : {A : Type 0} (P Q : A → Type 0) (a : Option A) → ((x : A) → P x → Q x) → IfSome a P → IfSome a Q
some_map P Q None f h = tt
some_map P Q (Some x) f h = f x h

pub invalid_map : (e : SavedFault) (P Q : Type 0) → (P → Q) → IfInvalid e P → IfInvalid e Q
invalid_map fault.Memory P Q f h = tt
invalid_map (fault.Read stop) P Q f h = tt
invalid_map (fault.Invalid offset) P Q f h = f h

-- at the end fewer bytes come than were asked for
pub few_ahead : (n : ℕ) (input : Input) (left : Option (List ℕ)) → length input.held < n → IsAtEnd left → IfSome (ahead input left) (λ bytes. length bytes < n)
few_ahead n input None few end = tt
few_ahead n input (Some x) few end = subst (λ (bs : List ℕ). length bs < n) (sym (append-nil input.held) ∙ ap (λ bs. input.held ++ bs) (sym end)) few

-- the bytes begin with those that are held
pub held_ahead : (n : ℕ) (input : Input) (left : Option (List ℕ)) → IfSome (ahead input left) (λ bytes. (later : List ℕ) × (bytes ≡ take n input.held ++ later))
held_ahead n input None = tt
held_ahead n input (Some x) = (drop n input.held ++ x, ap (λ bs. bs ++ x) (sym (take-append-drop n input.held)) ∙ append_assoc (take n input.held) (drop n input.held) x)

pub first_length : (n : ℕ) (held : List ℕ) → n ≤ length held → length (take n held) ≡ n
first_length n held h = omega (arith, length-take n held, h)

-- the next byte
pub one_byte : (held : List ℕ) → 1 ≤ length held → take 1 held ≡ get_or (take 1 held) 0 0 ∷ []
one_byte [] h = absurd (omega (arith, h))
one_byte (x ∷ held) h = refl

none_left : (held xs later : List ℕ) → held ≡ [] → xs ≡ [] → held ++ xs ≡ later → later ≡ []
none_left held xs later h x e = rw (sym e, h, x) refl

-- nothing comes after the last byte
pub last_ahead : (input : Input) (left : Option (List ℕ)) (later : List ℕ) → input.held ≡ [] → IsAtEnd left → ahead input left ≡ Some later → later ≡ []
last_ahead input None later h end is = absurd cc
last_ahead input (Some x) later h end is = none_left input.held x later h end (let same : input.held ++ x ≡ later = cc in same)

-- ---- what is used

-- the bytes that were fetched are used
pub uses_first : (n : ℕ) (first : List ℕ) (a b : Input) (l0 l1 : Option (List ℕ)) → Uses [] a l0 b l1 → take n b.held ≡ first
    → Uses first a l0 (record { limit = b.limit; came = b.came; held = drop n b.held }) l1
uses_first n first a b l0 l1 h is = subst (λ (bs : List ℕ). Uses bs a l0 (record { limit = b.limit; came = b.came; held = drop n b.held }) l1) is
    (uses_then [] (take n b.held) a b (record { limit = b.limit; came = b.came; held = drop n b.held }) l0 l1 l1 h (uses_skipped b n l1))

pub uses_more : (used first : List ℕ) (n : ℕ) (a b c : Input) (l0 l1 l2 : Option (List ℕ)) → Uses used a l0 b l1 → Uses [] b l1 c l2 → take n c.held ≡ first
    → Uses (used ++ first) a l0 (record { limit = c.limit; came = c.came; held = drop n c.held }) l2
uses_more used first n a b c l0 l1 l2 h k is = uses_then used first a b (record { limit = c.limit; came = c.came; held = drop n c.held }) l0 l1 l2 h (uses_first n first b c l1 l2 k is)

-- ---- results

pub ok_map : {A E : Type 0} (r : Result A E) (P Q : A → Type 0) → ((x : A) → P x → Q x) → IfOk r P → IfOk r Q
ok_map (Ok x) P Q f h = f x h
ok_map (Err e) P Q f h = tt

pub err_map : {A E : Type 0} (r : Result A E) (P Q : E → Type 0) → ((e : E) → P e → Q e) → IfErr r P → IfErr r Q
err_map (Ok x) P Q f h = tt
err_map (Err e) P Q f h = f e h

-- what is known of the bytes, and of those after the ones that were used
pub both_known : (P Q S : List ℕ → Type 0) (used : List ℕ) (a b : Option (List ℕ)) → Consumes a b used → IfSome a P → IfSome b Q → ((rest : List ℕ) → P (used ++ rest) → Q rest → S (used ++ rest)) → IfSome a S
both_known P Q S used None b h p q f = tt
both_known P Q S used (Some x) None h p q f = absurd h
both_known P Q S used (Some x) (Some y) h p q f = subst S (sym h) (f y (subst P h p) q)
