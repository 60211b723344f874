-- The groups of legs with the same text: with one more leg, and what they say of each leg.
use Rattle.std.proofs.Common.{◌≡◌, ◌∙◌, ◌&&◌, ◌||◌, Bool, true, false, not, cond, ℕ, List, [], ◌∷◌, ◌++◌}
use Rattle.std.proofs.Common.{Option, Some, None, refl, sym, ap, ap₂, true≢false, option_map, get_or, is_some, unwrap_or, append-nil}
use Rattle.std.specs.List.{find, flat_map, list_any}
use Rattle.std.specs.Option.{option_or}
use Rattle.std.specs.Str.{bytes_eq}
use Rattle.std.proofs.lemmas.Grind.{flat_map-append}
use Rattle.std.proofs.lemmas.List.Folds.{find-append, list_any-append}
use Rattle.std.proofs.lemmas.Slice.Eq.{bytes_eq-Decides}
use Rattle.ssim_base.specs.Export.{Piece, line, same_leg}
use Rattle.ssim_base.specs.clauses.ItineraryLaws.{exact_itinerary}
use Rattle.ssim_base.specs.Timetable.{LegValue, Legs}
use Rattle.ssim_listing.specs.LegText.{leg_text}
use Rattle.ssim_listing.specs.Lines.{legs_of, period_text, piece_lines}
use Rattle.ssim_listing.specs.Marks.{is_like_by, is_like_one, is_like_one_by, mark_text, marked_line}
use Rattle.ssim_listing.specs.clauses.Groups.{GroupSeen, group_of, grown, has_text, is_mixed, with_leg}
use Rattle.ssim_listing.specs.internal.GroupedLines.{grouped_line, grouped_lines}

-- ---- tests

and_true : (b : Bool) → b ≡ true → (b && true) ≡ true
and_true true e = refl
and_true false e = e

first_true : (b : Bool) → (b && true) ≡ true → b ≡ true
first_true true e = refl
first_true false e = e

and_false : (b : Bool) → (b && false) ≡ false
and_false true = refl
and_false false = refl

or_false : (b : Bool) → (b || false) ≡ b
or_false true = refl
or_false false = refl

pub or_left : (a b : Bool) → a ≡ true → (a || b) ≡ true
or_left true b e = refl
or_left false b e = absurd (true≢false (sym e))

pub or_right : (a b : Bool) → b ≡ true → (a || b) ≡ true
or_right true b e = refl
or_right false b e = e

-- legs that pass the test are one leg
one_leg : (a b : LegValue) → same_leg a b ≡ true → a ≡ b
one_leg a b e =
    ap (λ (legs : Legs). get_or legs 0 a) ((exact_itinerary (a ∷ []) (b ∷ [])).0 (and_true (same_leg a b) e))

pub same_self : (a : LegValue) → same_leg a a ≡ true
same_self a = first_true (same_leg a a) ((exact_itinerary (a ∷ []) (a ∷ [])).1 refl)

different : (a b : LegValue) (t : Bool) → same_leg a b ≡ false → same_leg b a ≡ t → t ≡ false
different a b true e is = absurd (true≢false (sym (same_self a) ∙ (sym (ap (same_leg a) (one_leg b a is)) ∙ e)))
different a b false e is = refl

same_either : (a b : LegValue) (t : Bool) → same_leg a b ≡ t → same_leg b a ≡ t
same_either a b true is = ap (λ (l : LegValue). same_leg l a) (sym (one_leg a b is)) ∙ same_self a
same_either a b false is = different a b (same_leg b a) is refl

same_text : (a b : List ℕ) → bytes_eq a b ≡ true → a ≡ b
same_text a b e = (bytes_eq-Decides a b).0 e

text_self : (a : List ℕ) → bytes_eq a a ≡ true
text_self a = (bytes_eq-Decides a a).1 refl

-- ---- legs that are found

some_is : {A : Type 0} (x y : A) → Some x ≡ Some y → x ≡ y
some_is x y e = ap (λ o. unwrap_or o x) e

none_some : {A B : Type 0} (x : A) → None ≡ Some x → B
none_some x e = absurd (true≢false (sym (ap is_some e)))

module _ (p : LegValue → Bool) where
  -- what is found passes the test, and is one of the legs
  found : (q : LegValue → Bool) (legs : Legs) (x : LegValue) → find p legs ≡ Some x
      → (p x ≡ true) × (q x ≡ true → list_any q legs ≡ true)
  found q [] x e = none_some x e
  found q (l ∷ legs) x e = by (p l) refl (λ is. found q legs x is) e
    where
      by : (b : Bool) → p l ≡ b → (find p legs ≡ Some x → (p x ≡ true) × (q x ≡ true → list_any q legs ≡ true))
          → cond b (Some l) (find p legs) ≡ Some x
          → (p x ≡ true) × (q x ≡ true → list_any q (l ∷ legs) ≡ true)
      by true is later e =
          let same = some_is l x e in
          (ap p (sym same) ∙ is, λ h. or_left (q l) (list_any q legs) (ap q same ∙ h))
      by false is later e =
          let more = later e in
          (more.0, λ h. or_right (q l) (list_any q legs) (more.1 h))

  -- a leg that passes the test lets one be found
  is_found : (leg : LegValue) (legs : Legs) → list_any (same_leg leg) legs ≡ true → p leg ≡ true
      → (x : LegValue) × (find p legs ≡ Some x)
  is_found leg [] h e = absurd (true≢false (sym h))
  is_found leg (l ∷ legs) h e = by (p l) refl (same_leg leg l) refl (λ is. is_found leg legs is e) h
    where
      by : (b : Bool) → p l ≡ b → (t : Bool) → same_leg leg l ≡ t
          → (list_any (same_leg leg) legs ≡ true → (x : LegValue) × (find p legs ≡ Some x))
          → (t || list_any (same_leg leg) legs) ≡ true → (x : LegValue) × (cond b (Some l) (find p legs) ≡ Some x)
      by true is t same later h = (l, refl)
      by false is true same later h = absurd (true≢false (sym e ∙ (ap p (one_leg leg l same) ∙ is)))
      by false is false same later h = later h

  -- a leg that passes the test is one of those that pass
  any_of : (leg : LegValue) (legs : Legs) → list_any (same_leg leg) legs ≡ true → p leg ≡ true
      → list_any p legs ≡ true
  any_of leg [] h e = h
  any_of leg (l ∷ legs) h e = by (same_leg leg l) refl (λ is. any_of leg legs is e) h
    where
      by : (t : Bool) → same_leg leg l ≡ t → (list_any (same_leg leg) legs ≡ true → list_any p legs ≡ true)
          → (t || list_any (same_leg leg) legs) ≡ true → (p l || list_any p legs) ≡ true
      by true same later h = or_left (p l) (list_any p legs) (sym (ap p (one_leg leg l same)) ∙ e)
      by false same later h = or_right (p l) (list_any p legs) (later h)

-- ---- one leg more

module _ (written : LegValue → List ℕ) where
  like : (a b : LegValue) → same_leg a b ≡ false → written a ≡ written b
      → is_like_by written a b ≡ true
  like a b differ texts =
      ap₂ (λ (x y : Bool). not x && y) differ ((bytes_eq-Decides (written a) (written b)).1 texts)

  none_like : (legs : Legs) (leg : LegValue) (text : List ℕ) → find (has_text written text) legs ≡ None
      → written leg ≡ text → is_like_one_by written legs leg ≡ false
  none_like [] leg text e is = refl
  none_like (l ∷ legs) leg text e is =
      by (has_text written text l) refl (λ none. none_like legs leg text none is) e
    where
      by : (b : Bool) → has_text written text l ≡ b
          → (find (has_text written text) legs ≡ None → is_like_one_by written legs leg ≡ false)
          → cond b (Some l) (find (has_text written text) legs) ≡ None
          → is_like_one_by written (l ∷ legs) leg ≡ false
      by true has later e = none_some l (sym e)
      by false has later e =
          ap (λ (t : Bool). t || is_like_one_by written legs leg)
          (ap (λ (bs : List ℕ). not (same_leg l leg) && bytes_eq (written l) bs) is
          ∙ (ap (λ (t : Bool). not (same_leg l leg) && t) has ∙ and_false (not (same_leg l leg))))
          ∙ later e

  -- the first of the legs with a line, beside whether one of them differs from it
  abbrev with_mark : Legs → Option LegValue → Option GroupSeen
  with_mark legs = option_map (λ first. (first, is_like_one_by written legs first))

  like_one_more : (legs : Legs) (leg first : LegValue)
      → is_like_one_by written (legs ++ leg ∷ []) first ≡
      (is_like_one_by written legs first || is_like_by written leg first)
  like_one_more legs leg first =
      list_any-append (λ other. is_like_by written other first) legs (leg ∷ [])
      ∙ ap (λ (t : Bool). is_like_one_by written legs first || t)
      (or_false (is_like_by written leg first))

  group_by : (legs : Legs) (leg : LegValue) (text : List ℕ) (o : Option LegValue)
      → find (has_text written text) legs ≡ o
      → (b : Bool) → has_text written text leg ≡ b
      → with_mark (legs ++ leg ∷ []) (option_or o (cond b (Some leg) None)) ≡ cond b
      (Some (grown leg (with_mark legs o))) (with_mark legs o)
  group_by legs leg text None is true has =
      ap (λ (t : Bool). Some (leg, t))
      (like_one_more legs leg leg
      ∙ ap₂ (λ (a b : Bool). a || b) (none_like legs leg text is (same_text (written leg) text has))
      (ap (λ (t : Bool). not t && bytes_eq (written leg) (written leg)) (same_self leg)))
  group_by legs leg text None is false has = refl
  group_by legs leg text (Some first) is true has =
      let line_is : written first ≡ text =
      same_text (written first) text (found (has_text written text) (λ _. true) legs first is).0 in
      let texts : written leg ≡ written first = same_text (written leg) text has ∙ sym line_is in
      ap (λ (t : Bool). Some (first, t))
      (like_one_more legs leg first
      ∙ ap (λ (t : Bool). is_like_one_by written legs first || t)
      (ap₂ (λ (a b : Bool). not a && b) (same_either first leg (same_leg first leg) refl)
      ((bytes_eq-Decides (written leg) (written first)).1 texts)
      ∙ with_true (not (same_leg first leg))))
    where
      with_true : (b : Bool) → (b && true) ≡ b
      with_true true = refl
      with_true false = refl
  group_by legs leg text (Some first) is false has =
      let line_is : written first ≡ text =
      same_text (written first) text (found (has_text written text) (λ _. true) legs first is).0 in
      ap (λ (t : Bool). Some (first, t))
      (like_one_more legs leg first
      ∙ (ap (λ (t : Bool). is_like_one_by written legs first || t)
      (ap (λ (bs : List ℕ). not (same_leg leg first) && bytes_eq (written leg) bs) line_is
      ∙ (ap (λ (t : Bool). not (same_leg leg first) && t) has ∙ and_false (not (same_leg leg first))))
      ∙ or_false (is_like_one_by written legs first)))

  -- the group with a line after one more leg
  pub group_more : (legs : Legs) (leg : LegValue) (text : List ℕ)
      → group_of written (legs ++ leg ∷ []) text ≡ with_leg (written leg) leg text
      (group_of written legs text)
  group_more legs leg text =
      ap (with_mark (legs ++ leg ∷ [])) (find-append (has_text written text) legs (leg ∷ []))
      ∙ group_by legs leg text (find (has_text written text) legs) refl (has_text written text leg)
      refl

  -- ---- what the groups say of each leg

  marked_by : (legs : Legs) (leg first : LegValue) → list_any (same_leg leg) legs ≡ true
      → find (has_text written (written leg)) legs ≡ Some first → (t : Bool) → same_leg first leg ≡ t
      → is_like_one_by written legs first ≡ is_like_one_by written legs leg
  marked_by legs leg first h is true same = ap (is_like_one_by written legs) (one_leg first leg same)
  marked_by legs leg first h is false same =
      let has = found (has_text written (written leg)) (λ other. is_like_by written other leg) legs
      first is in
      let texts : written first ≡ written leg = same_text (written first) (written leg) has.0 in
      any_of (λ other. is_like_by written other first) leg legs h
      (like leg first (same_either first leg false same) (sym texts))
      ∙ sym (has.1 (like first leg same texts))

  -- the group of a leg's line says whether the leg is marked
  pub marked_is : (legs : Legs) (leg : LegValue) → list_any (same_leg leg) legs ≡ true
      → is_mixed (group_of written legs (written leg)) ≡ is_like_one_by written legs leg
  marked_is legs leg h =
      let first = is_found (has_text written (written leg)) leg legs h (text_self (written leg)) in
      ap (λ (o : Option LegValue). is_mixed (with_mark legs o)) first.1
      ∙ marked_by legs leg first.0 h first.1 (same_leg first.0 leg) refl

-- the legs of pieces, and then those of one more
pub legs_more : (pieces all : List Piece) (piece : Piece) → all ≡ pieces ++ piece ∷ [] → legs_of pieces ++ piece.1 ≡ legs_of all
legs_more pieces all piece is =
    ap (λ (legs : Legs). legs_of pieces ++ legs) (sym (append-nil piece.1))
    ∙ (sym (flat_map-append (λ (p : Piece). p.1) pieces (piece ∷ [])) ∙ ap legs_of (sym is))

-- ---- the lines of legs

legs_same : (mixed : List ℕ → Bool) (all legs : Legs)
    → ((leg : LegValue) → list_any (same_leg leg) legs ≡ true → mixed (leg_text leg) ≡ is_like_one all leg)
    → flat_map (grouped_line mixed) legs ≡ flat_map (marked_line all) legs
legs_same mixed all [] h = refl
legs_same mixed all (l ∷ legs) h =
    ap₂ (λ (a b : List ℕ). a ++ b)
    (ap (λ (t : Bool). line (32 ∷ 32 ∷ leg_text l ++ mark_text t)) (h l (or_left (same_leg l l) (list_any (same_leg l) legs) (same_self l))))
    (legs_same mixed all legs (λ leg e. h leg (or_right (same_leg leg l) (list_any (same_leg leg) legs) e)))

pieces_same : (name : List ℕ) (mixed : List ℕ → Bool) (all : Legs) (pieces : List Piece)
    → ((leg : LegValue) → list_any (same_leg leg) (legs_of pieces) ≡ true → mixed (leg_text leg) ≡ is_like_one all leg)
    → flat_map (grouped_lines name mixed) pieces ≡ flat_map (piece_lines name all) pieces
pieces_same name mixed all [] h = refl
pieces_same name mixed all (piece ∷ later) h =
    ap₂ (λ (a b : List ℕ). (line (name ++ 32 ∷ period_text piece.0) ++ a) ++ b)
    (legs_same mixed all piece.1 (λ leg e. h leg
    (list_any-append (same_leg leg) piece.1 (legs_of later)
    ∙ or_left (list_any (same_leg leg) piece.1) (list_any (same_leg leg) (legs_of later)) e)))
    (pieces_same name mixed all later (λ leg e. h leg
    (list_any-append (same_leg leg) piece.1 (legs_of later)
    ∙ or_right (list_any (same_leg leg) piece.1) (list_any (same_leg leg) (legs_of later)) e)))

-- the lines of pieces, whose legs are marked by the groups of all legs
pub marked_lines : (name : List ℕ) (mixed : List ℕ → Bool) (pieces : List Piece)
    → ((text : List ℕ) → mixed text ≡ is_mixed (group_of leg_text (legs_of pieces) text))
    → flat_map (grouped_lines name mixed) pieces ≡ flat_map (piece_lines name (legs_of pieces)) pieces
marked_lines name mixed pieces is =
    pieces_same name mixed (legs_of pieces) pieces
    (λ leg e. is (leg_text leg) ∙ marked_is leg_text (legs_of pieces) leg e)
