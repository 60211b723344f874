-- Only one message has as many of the sub-messages as a text can have: of two, the shorter one
-- could take the first sub-message that the longer one has more.
use Rattle.std.proofs.Common.{◌≡◌, ◌⊎◌, ◌≤◌, ◌<◌, ℕ, zero, suc, List, [], ◌∷◌, ◌++◌, length, take, drop}
use Rattle.std.proofs.Common.{refl, sym, ap, subst, inl, inr, ◌∙◌, append_assoc, length-append, arith}
use Rattle.std.proofs.lemmas.Bool.{cases_lt}
use Rattle.ssim_text.specs.Canonical.{canonical, written}
use Rattle.ssim_text.specs.Grammar.{Divider, Part, later_parts, sub_parts, subs_parts}
use Rattle.ssim_text.specs.Message.{MessageValue, with_sub}
use Rattle.ssim_text.specs.declared.action.Sub.{Sub}
use Rattle.ssim_text.proofs.Writing.{written_both}
use Rattle.ssim_outbox.specs.Messages.{IsFirst, IsFull, headed}
use Rattle.ssim_outbox.specs.internal.Texts.{heading_parts}
use Rattle.ssim_outbox.proofs.TextLines.{in_two}

-- ---- more sub-messages have a longer text

later_both : (xs ys : List Sub) → later_parts (xs ++ ys) ≡ later_parts xs ++ later_parts ys
later_both [] ys = refl
later_both (x ∷ xs) ys =
    ap (λ (p : List Part). Divider ∷ (sub_parts x ++ p)) (later_both xs ys)
    ∙ ap (λ (p : List Part). Divider ∷ p) (sym (append_assoc (sub_parts x) (later_parts xs) (later_parts ys)))

longer_parts : (a b : List Part) → length (written a) ≤ length (written (a ++ b))
longer_parts a b =
    omega (arith, ap length (written_both a b), length-append (written a) (written b))

longer_subs : (xs ys : List Sub) → length (written (subs_parts xs)) ≤ length (written (subs_parts (xs ++ ys)))
longer_subs [] ys = omega arith
longer_subs (x ∷ xs) ys =
    let whole : subs_parts (x ∷ (xs ++ ys)) ≡ subs_parts (x ∷ xs) ++ later_parts ys =
    ap (λ (p : List Part). sub_parts x ++ p) (later_both xs ys)
    ∙ sym (append_assoc (sub_parts x) (later_parts xs) (later_parts ys)) in
    subst (λ (p : List Part). length (written (subs_parts (x ∷ xs))) ≤ length (written p)) (sym whole)
    (longer_parts (subs_parts (x ∷ xs)) (later_parts ys))

pub longer : (h : MessageValue) (g : ℕ) (xs ys : List Sub)
    → length (canonical (headed h g xs)) ≤ length (canonical (headed h g (xs ++ ys)))
longer h g xs ys =
    let heading = written (heading_parts h g) in
    omega (
      arith,
      ap length (in_two h g xs),
      ap length (in_two h g (xs ++ ys)),
      length-append heading (written (subs_parts xs)),
      length-append heading (written (subs_parts (xs ++ ys))),
      longer_subs xs ys,
    )

-- ---- the first sub-messages of a list

-- the first b sub-messages are the first a, one more, and others
record Beyond (subs : List Sub) (a b : ℕ) : Type 0 where
  sub : Sub
  left : List Sub
  others : List Sub
  next : drop a subs ≡ sub ∷ left
  more : take b subs ≡ (take a subs ++ sub ∷ []) ++ others

beyond : (subs : List Sub) (a b : ℕ) → a < b → b ≤ length subs → Beyond subs a b
beyond [] a b lt le = absurd (omega (arith, lt, le))
beyond (s ∷ subs) zero zero lt le = absurd (omega (arith, lt))
beyond (s ∷ subs) zero (suc b) lt le =
    record { sub = s; left = subs; others = take b subs; next = refl; more = refl }
beyond (s ∷ subs) (suc a) zero lt le = absurd (omega (arith, lt))
beyond (s ∷ subs) (suc a) (suc b) lt le =
    let r = beyond subs a b (omega (arith, lt)) (omega (arith, le)) in
    record {
      sub = r.sub;
      left = r.left;
      others = r.others;
      next = r.next;
      more = ap (λ (xs : List Sub). s ∷ xs) r.more;
    }

length_taken : (n : ℕ) (subs : List Sub) → n ≡ length (take n subs) → n ≤ length subs
length_taken zero subs e = omega arith
length_taken (suc n) [] e = absurd (omega (arith, e))
length_taken (suc n) (s ∷ subs) e =
    let r = length_taken n subs (omega (arith, e)) in omega (arith, r)

-- a message has no more sub-messages than the list
pub within : (h : MessageValue) (g : ℕ) (subs : List Sub) (m : MessageValue) → IsFirst h g subs m
    → length m.subs ≤ length subs
within h g subs m first =
    length_taken (length m.subs) subs (ap (λ (x : MessageValue). length x.subs) first.own)

-- a message that is full is not shorter than another one
not_shorter : (h : MessageValue) (g : ℕ) (subs : List Sub) (m n : MessageValue)
    → IsFirst h g subs m → IsFirst h g subs n → length m.subs < length n.subs → ⊥
not_shorter h g subs m n is_m is_n lt =
    let a = length m.subs in
    let b = length n.subs in
    let r = beyond subs a b lt (within h g subs n is_n) in
    by r (subst (IsFull m) r.next is_m.full)
  where
    by : (r : Beyond subs (length m.subs) (length n.subs)) → IsFull m (r.sub ∷ r.left) → ⊥
    by r (inl many) =
        let few = is_n.text.spelled.shape.few in
        omega (arith, few, many, lt)
    by r (inr long) =
        let short = is_n.text.canonical_short in
        let taken : m.subs ≡ take (length m.subs) subs = ap (λ (x : MessageValue). x.subs) is_m.own in
        let one_more : with_sub m r.sub ≡ headed h g (take (length m.subs) subs ++ r.sub ∷ []) =
        ap (λ (x : MessageValue). with_sub x r.sub) is_m.own in
        let whole : n ≡ headed h g ((take (length m.subs) subs ++ r.sub ∷ []) ++ r.others) =
        is_n.own ∙ ap (λ (x : List Sub). headed h g x) r.more in
        omega (
          arith,
          short,
          long,
          ap (λ (x : MessageValue). length (canonical x)) one_more,
          ap (λ (x : MessageValue). length (canonical x)) whole,
          longer h g (take (length m.subs) subs ++ r.sub ∷ []) r.others,
        )

pub one_first : (h : MessageValue) (g : ℕ) (subs : List Sub) (m n : MessageValue)
    → IsFirst h g subs m → IsFirst h g subs n → m ≡ n
one_first h g subs m n is_m is_n = by (cases_lt (length m.subs) (length n.subs)) (cases_lt (length n.subs) (length m.subs))
  where
    by : ((length m.subs < length n.subs) ⊎ (length n.subs ≤ length m.subs))
        → ((length n.subs < length m.subs) ⊎ (length m.subs ≤ length n.subs)) → m ≡ n
    by (inl lt) other = absurd (not_shorter h g subs m n is_m is_n lt)
    by (inr le) (inl lt) = absurd (not_shorter h g subs n m is_n is_m lt)
    by (inr le) (inr ge) =
        let same : length m.subs ≡ length n.subs = omega (arith, le, ge) in
        is_m.own ∙ ap (λ (k : ℕ). headed h g (take k subs)) same ∙ sym is_n.own
