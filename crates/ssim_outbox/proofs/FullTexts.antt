-- The text of as many sub-messages as a text can have: the next one would make it too long, or there
-- are 250 already, or there is no next one.
use Rattle.std.proofs.Common.{◌≡◌, ◌≤◌, ◌<◌, ◌+◌, ℕ, zero, suc, List, [], ◌∷◌, ◌++◌, length, take, drop}
use Rattle.std.proofs.Common.{refl, sym, ap, subst, inl, inr, ◌∙◌, length-append, arith, get_or}
use Rattle.std.proofs.Common.{add-one, drop-cons, drop_of_length-le}
use Rattle.std.proofs.lemmas.List.{length-take, take_more}
use Rattle.std.specs.List.{AllByRecursion}
use Rattle.ssim_text.specs.Canonical.{canonical, creator_text, five_digits, group_code_text, originator_parts}
use Rattle.ssim_text.specs.Canonical.{reference_text, three_digits, written}
use Rattle.ssim_text.specs.Grammar.{Divider, KindPart, ModePart, ReferencePart, sub_parts, subs_parts}
use Rattle.ssim_text.specs.Lines.{kind_text, mode_text}
use Rattle.ssim_text.specs.Message.{MessageValue}
use Rattle.ssim_text.specs.declared.action.Sub.{Sub}
use Rattle.ssim_text.proofs.Writing.{written_both}
use Rattle.ssim_values.specs.DayMonth.{month_day_text}
use Rattle.ssim_outbox.specs.clauses.Messages.{IsAlone}
use Rattle.ssim_outbox.specs.Messages.{IsFirst, IsFull, IsText, headed}
use Rattle.ssim_outbox.specs.internal.Texts.{IsFullAt, heading_parts}
use Rattle.ssim_outbox.proofs.TextLines.{in_two, one_more}
use Rattle.ssim_outbox.proofs.Together.{together}

-- ---- the length of a heading is that with any other group serial

reference_length : (date code serial creator : List ℕ) (g k : ℕ)
    → length (date ++ five_digits g ++ code ++ serial ++ creator)
    ≡ length (date ++ five_digits k ++ code ++ serial ++ creator)
reference_length date code serial creator g k =
    let one = date ++ five_digits g in
    let other = date ++ five_digits k in
    omega (
      arith,
      length-append (one ++ code ++ serial) creator,
      length-append (one ++ code) serial,
      length-append one code,
      length-append date (five_digits g),
      length-append (other ++ code ++ serial) creator,
      length-append (other ++ code) serial,
      length-append other code,
      length-append date (five_digits k),
    )

lines_length : (own kind mode one other : List ℕ) → length one ≡ length other
    → length (own ++ ((kind ++ 10 ∷ []) ++ ((mode ++ 10 ∷ []) ++ ((one ++ 10 ∷ []) ++ []))))
    ≡ length (own ++ ((kind ++ 10 ∷ []) ++ ((mode ++ 10 ∷ []) ++ ((other ++ 10 ∷ []) ++ []))))
lines_length own kind mode one other same =
    let first = (one ++ 10 ∷ []) ++ [] in
    let second = (other ++ 10 ∷ []) ++ [] in
    omega (
      arith,
      same,
      length-append own ((kind ++ 10 ∷ []) ++ ((mode ++ 10 ∷ []) ++ first)),
      length-append (kind ++ 10 ∷ []) ((mode ++ 10 ∷ []) ++ first),
      length-append (mode ++ 10 ∷ []) first,
      length-append (one ++ 10 ∷ []) [],
      length-append one (10 ∷ []),
      length-append own ((kind ++ 10 ∷ []) ++ ((mode ++ 10 ∷ []) ++ second)),
      length-append (kind ++ 10 ∷ []) ((mode ++ 10 ∷ []) ++ second),
      length-append (mode ++ 10 ∷ []) second,
      length-append (other ++ 10 ∷ []) [],
      length-append other (10 ∷ []),
    )

heading_length : (h : MessageValue) (g k : ℕ)
    → length (written (heading_parts h g)) ≡ length (written (heading_parts h k))
heading_length h g k =
    let r = h.reference in
    let own = originator_parts h.originator in
    let three = λ (n : ℕ). KindPart h.kind ∷ ModePart h.mode ∷ ReferencePart (record r { group = n }) ∷ [] in
    ap length (written_both own (three g))
    ∙ lines_length (written own) (kind_text h.kind) (mode_text h.mode)
    (reference_text (record r { group = g })) (reference_text (record r { group = k }))
    (reference_length (month_day_text r.date) (group_code_text r.code) (three_digits r.serial)
    (creator_text r.creator) g k)
    ∙ sym (ap length (written_both own (three k)))

-- a sub-message that a text can have alone fits into a text with any group serial
pub first_short : (h : MessageValue) (g : ℕ) (sub : Sub) → IsAlone h sub
    → length (canonical (headed h g (sub ∷ []))) ≤ 65536
first_short h g sub alone =
    let k = h.reference.group in
    let own = written (subs_parts (sub ∷ [])) in
    let short = alone.canonical_short in
    omega (
      arith,
      ap length (in_two h g (sub ∷ [])),
      length-append (written (heading_parts h g)) own,
      heading_length h g k,
      length-append (written (heading_parts h k)) own,
      ap length (in_two h k (sub ∷ [])),
      short,
    )

-- ---- one more sub-message

-- the bytes of a text with the first sub-message and this many of the later ones
abbrev pub bytes_at : MessageValue → ℕ → Sub → List Sub → ℕ → ℕ
bytes_at h g first later at = length (canonical (headed h g (first ∷ take at later)))

pub more_bytes : (h : MessageValue) (g : ℕ) (first : Sub) (later : List Sub) (at : ℕ) (sub : Sub)
    → at < length later → sub ≡ get_or later at sub
    → bytes_at h g first later (at + 1)
    ≡ bytes_at h g first later at + length (written (Divider ∷ sub_parts sub))
more_bytes h g first later at sub lt is =
    let taken : take (at + 1) later ≡ take at later ++ sub ∷ [] =
    take_more later at sub lt ∙ ap (λ (x : Sub). take at later ++ x ∷ []) (sym is) in
    ap (λ (x : List Sub). length (canonical (headed h g (first ∷ x)))) taken
    ∙ ap length (one_more h g first (take at later) sub)
    ∙ length-append (canonical (headed h g (first ∷ take at later))) (written (Divider ∷ sub_parts sub))

next_of : (subs : List Sub) (at : ℕ) (sub : Sub) → at < length subs → sub ≡ get_or subs at sub
    → drop at subs ≡ sub ∷ drop (at + 1) subs
next_of subs at sub lt is =
    let f : drop at subs ≡ get_or subs at sub ∷ drop (at + 1) subs =
    rw (add-one, drop-cons subs at sub) refl in
    f ∙ ap (λ (x : Sub). x ∷ drop (at + 1) subs) (sym is)

-- ---- the text is full

module _ (h : MessageValue) (g : ℕ) (first : Sub) (later : List Sub) (at : ℕ) (few : at ≤ 249)
    (within : at ≤ length later) (short : bytes_at h g first later at ≤ 65536) where
  counted : IsFull (headed h g (first ∷ take at later)) (drop at later) → IsFullAt h g first later at
  counted full = record { few = few; within = within; short = short; full = full }

  pub none_left : length later ≤ at → IsFullAt h g first later at
  none_left le =
      counted (subst (IsFull (headed h g (first ∷ take at later))) (sym (drop_of_length-le later {i = at} le)) tt)

  pub many : (sub : Sub) → at < length later → sub ≡ get_or later at sub → at ≡ 249
      → IsFullAt h g first later at
  many sub lt is most =
      counted (subst (IsFull (headed h g (first ∷ take at later))) (sym (next_of later at sub lt is))
      (inl (omega (arith, most, within, length-take at later))))

  pub too_long : (sub : Sub) → at < length later → sub ≡ get_or later at sub
      → 65536 < bytes_at h g first later at + length (written (Divider ∷ sub_parts sub))
      → IsFullAt h g first later at
  too_long sub lt is long =
      let whole = canonical (headed h g (first ∷ take at later)) in
      let own = written (Divider ∷ sub_parts sub) in
      counted (subst (IsFull (headed h g (first ∷ take at later))) (sym (next_of later at sub lt is))
      (inr (omega (
        arith,
        long,
        ap length (one_more h g first (take at later) sub),
        length-append whole own,
      ))))

-- ---- its message

all_taken : {X : Type 0} (P : X → Type 0) (n : ℕ) (xs : List X) → AllByRecursion P xs
    → AllByRecursion P (take n xs)
all_taken P zero xs h = tt
all_taken P (suc n) [] h = tt
all_taken P (suc n) (x ∷ xs) h = (h.0, all_taken P n xs h.1)

module _ (h : MessageValue) (g : ℕ) (first : Sub) (later : List Sub) (count : ℕ) (few : g ≤ 99999)
    (alone : IsAlone h first) (each : AllByRecursion (IsAlone h) later)
    (full : IsFullAt h g first later count) where
  -- a text can have the message
  pub spelled : IsText (headed h g (first ∷ take count later))
  spelled =
      let most = full.few in
      together h g first (take count later) few alone (all_taken (IsAlone h) count later each)
      (omega (arith, most, length-take count later)) full.short

  pub is_first : (m : MessageValue) → m ≡ headed h g (first ∷ take count later)
      → IsFirst h g (first ∷ later) m
  is_first m is =
      let within = full.within in
      let count_is : length m.subs ≡ suc count =
      ap (λ (x : MessageValue). length x.subs) is
      ∙ omega (arith, within, length-take count later) in
      record {
        own = is ∙ ap (λ (n : ℕ). headed h g (take n (first ∷ later))) (sym count_is);
        text = subst IsText (sym is) spelled;
        full = subst (λ (n : ℕ). IsFull m (drop n (first ∷ later))) (sym count_is)
            (subst (λ (x : MessageValue). IsFull x (drop count later)) (sym is) full.full);
      }
