-- A list of messages that is divided into pages: where a place is in the list, and what a change of one page makes of it.
use Rattle.std.proofs.Common.{◌≡◌, ◌≢◌, ◌⊎◌, inl, inr, ℕ, zero, suc, ◌+◌, ◌-◌, ◌<◌, ◌≤◌, List, [], ◌∷◌, ◌++◌, length, take, drop, All, Option, None, Some, IfSome, MatchOption, Result, Ok, Err, OnOk, OnErr, set, slice_get, slice_index_or, refl, sym, ap, subst, ◌∙◌, arith, length-append}
use Rattle.std.specs.Prelude.{T}
use Rattle.std.specs.List.{insert, remove}
use Rattle.std.specs.declared.cmp.Ordering.{Ordering}
use Rattle.std.specs.declared.cmp.Ordering.TheVariants.{Less, Equal, Greater}
use Rattle.std.specs.FinMap.{get, is_sorted}
use Rattle.std.specs.FinMap.Entries.{below_all}
use Rattle.std.proofs.lemmas.Bool.{cases_lt}
use Rattle.std.proofs.lemmas.Grind.{common_steps}
use Rattle.std.proofs.lemmas.Option.{get_or_from_slice_get, slice_get_past, slice_get_within}
use Rattle.std.proofs.lemmas.List.Elements.{All-append, All-cons, All-drop, All-set, All-take}
use Rattle.ssim_text.specs.declared.reference.Reference.{Reference}
use Rattle.ssim_held.specs.Held.{reference_cmp}
use Rattle.ssim_held.specs.Entries.{AreRising, Entry, keyed, map_of}
use Rattle.ssim_held.specs.clauses.Ordered.{Belongs}
use Rattle.ssim_held.specs.clauses.Pages.{IsFilled, IsHeldOn, all_of, position, position_on}
use Rattle.ssim_held.specs.declared.pages.PagePlace.{PagePlace}
use Rattle.ssim_held.proofs.Entries.{T-from_true, and_left, and_right, both, flips, held_at, true-from_T}
use Rattle.ssim_held.proofs.References.{reference_apart, reference_total}
use Rattle.ssim_held.proofs.Searching.{at_index, index_of_get, narrow_down, rise}

-- ---- positions

-- a message of a page in the list of all
pub get_on : (ps : List (List Entry)) (k : ℕ) (p : List Entry) (j : ℕ) → slice_get ps k ≡ Some p → j < length p → slice_get (all_of ps) (position_on ps k j) ≡ slice_get p j
get_on [] k p j is lt = cc
get_on (q ∷ ps) zero p j is lt = let same : q ≡ p = cc in ap (λ (x : List Entry). slice_get (x ++ all_of ps) j) same ∙ get_first p (all_of ps) j lt
  where
    get_first : (xs ys : List Entry) (i : ℕ) → i < length xs → slice_get (xs ++ ys) i ≡ slice_get xs i
    get_first [] ys i lt = absurd (omega arith)
    get_first (x ∷ xs) ys zero lt = refl
    get_first (x ∷ xs) ys (suc i) lt = get_first xs ys i (omega arith)
get_on (q ∷ ps) (suc k) p j is lt = get_after q (all_of ps) (length q + position_on ps k j) (position_on ps k j) refl ∙ get_on ps k p j is lt
  where
    get_after : (xs ys : List Entry) (n i : ℕ) → n ≡ length xs + i → slice_get (xs ++ ys) n ≡ slice_get ys i
    get_after [] ys n i e = ap (slice_get ys) (omega (arith, e))
    get_after (x ∷ xs) ys zero i e = absurd (omega (arith, e))
    get_after (x ∷ xs) ys (suc n) i e = get_after xs ys n i (omega (arith, e))

-- a position is that of its page's first message, and the number on the page
pub position_add : (ps : List (List Entry)) (k j : ℕ) → position_on ps k j ≡ position_on ps k 0 + j
position_add [] k j = omega arith
position_add (p ∷ ps) zero j = omega arith
position_add (p ∷ ps) (suc k) j = let more = position_add ps k j in omega (arith, more)

pub position_zero : (ps : List (List Entry)) → position_on ps 0 0 ≡ 0
position_zero [] = refl
position_zero (p ∷ ps) = refl

-- the next page begins after the messages of a page
pub position_next : (ps : List (List Entry)) (k : ℕ) (p : List Entry) → slice_get ps k ≡ Some p → position_on ps (suc k) 0 ≡ position_on ps k 0 + length p
position_next [] k p is = cc
position_next (q ∷ ps) zero p is = let same : q ≡ p = cc in let long = ap length same in omega (arith, long, position_zero ps)
position_next (q ∷ ps) (suc k) p is = let more = position_next ps k p is in omega (arith, more)

pub position_end : (ps : List (List Entry)) → position_on ps (length ps) 0 ≡ length (all_of ps)
position_end [] = refl
position_end (p ∷ ps) = let more = position_end ps in omega (arith, more, length-append p (all_of ps))

pub position_within : (ps : List (List Entry)) (k : ℕ) → position_on ps k 0 ≤ length (all_of ps)
position_within [] k = omega arith
position_within (p ∷ ps) zero = omega arith
position_within (p ∷ ps) (suc k) = let more = position_within ps k in omega (arith, more, length-append p (all_of ps))

-- a later page begins later
pub position_rises : (ps : List (List Entry)) (i j : ℕ) → i ≤ j → position_on ps i 0 ≤ position_on ps j 0
position_rises [] i j le = omega arith
position_rises (p ∷ ps) zero j le = omega arith
position_rises (p ∷ ps) (suc i) zero le = absurd (omega (arith, le))
position_rises (p ∷ ps) (suc i) (suc j) le = let more = position_rises ps i j (omega (arith, le)) in omega (arith, more)

-- ---- a change of one page

insert_first : (xs ys : List Entry) (at : ℕ) (e : Entry) → at ≤ length xs → insert (xs ++ ys) at e ≡ insert xs at e ++ ys
insert_first [] ys zero e le = refl
insert_first [] ys (suc at) e le = absurd (omega (arith, le))
insert_first (x ∷ xs) ys zero e le = refl
insert_first (x ∷ xs) ys (suc at) e le = ap (λ (zs : List Entry). x ∷ zs) (insert_first xs ys at e (omega (arith, le)))

insert_after : (xs ys : List Entry) (n at : ℕ) (e : Entry) → n ≡ length xs + at → insert (xs ++ ys) n e ≡ xs ++ insert ys at e
insert_after [] ys n at e is = ap (λ i. insert ys i e) (omega (arith, is))
insert_after (x ∷ xs) ys zero at e is = absurd (omega (arith, is))
insert_after (x ∷ xs) ys (suc n) at e is = ap (λ (zs : List Entry). x ∷ zs) (insert_after xs ys n at e (omega (arith, is)))

-- a message that is put on a page
pub put_on : (ps : List (List Entry)) (k : ℕ) (p : List Entry) (at : ℕ) (e : Entry) → slice_get ps k ≡ Some p → at ≤ length p
    → all_of (set ps k (insert p at e)) ≡ insert (all_of ps) (position_on ps k at) e
put_on [] k p at e is le = cc
put_on (q ∷ ps) zero p at e is le =
    let same : q ≡ p = cc in
    sym (insert_first p (all_of ps) at e le) ∙ ap (λ (x : List Entry). insert (x ++ all_of ps) at e) (sym same)
put_on (q ∷ ps) (suc k) p at e is le = ap (λ (x : List Entry). q ++ x) (put_on ps k p at e is le) ∙ sym (insert_after q (all_of ps) (length q + position_on ps k at) (position_on ps k at) e refl)

split_again : (n : ℕ) (p rest : List Entry) → take n p ++ (drop n p ++ rest) ≡ p ++ rest
split_again zero p rest = refl
split_again (suc n) [] rest = refl
split_again (suc n) (x ∷ p) rest = ap (λ (zs : List Entry). x ∷ zs) (split_again n p rest)

-- a page that is divided into two
pub all_divided : (ps : List (List Entry)) (k : ℕ) (p : List Entry) (n : ℕ) → slice_get ps k ≡ Some p → all_of (insert (set ps k (take n p)) (suc k) (drop n p)) ≡ all_of ps
all_divided [] k p n is = cc
all_divided (q ∷ ps) zero p n is = let same : q ≡ p = cc in split_again n p (all_of ps) ∙ ap (λ (x : List Entry). x ++ all_of ps) (sym same)
all_divided (q ∷ ps) (suc k) p n is = ap (λ (x : List Entry). q ++ x) (all_divided ps k p n is)

pub earlier_divided : (ps : List (List Entry)) (k : ℕ) (p : List Entry) (n at : ℕ) → slice_get ps k ≡ Some p
    → (slice_get (insert (set ps k (take n p)) (suc k) (drop n p)) k ≡ Some (take n p)) × (position_on (insert (set ps k (take n p)) (suc k) (drop n p)) k at ≡ position_on ps k at)
earlier_divided [] k p n at is = cc
earlier_divided (q ∷ ps) zero p n at is = (refl, refl)
earlier_divided (q ∷ ps) (suc k) p n at is = let more = earlier_divided ps k p n at is in (more.0, ap (λ i. length q + i) more.1)

pub later_divided : (ps : List (List Entry)) (k : ℕ) (p : List Entry) (n at : ℕ) → slice_get ps k ≡ Some p → n ≤ length p
    → (slice_get (insert (set ps k (take n p)) (suc k) (drop n p)) (suc k) ≡ Some (drop n p)) × (position_on (insert (set ps k (take n p)) (suc k) (drop n p)) (suc k) at ≡ position_on ps k (n + at))
later_divided [] k p n at is le = cc
later_divided (q ∷ ps) zero p n at is le = let long : length (take n p) ≡ n = grind (arith, common_steps) in (refl, ap (λ i. i + at) long)
later_divided (q ∷ ps) (suc k) p n at is le = let more = later_divided ps k p n at is le in (more.0, ap (λ i. length q + i) more.1)

-- ---- order

below_first : (y : Reference) (xs ys : List Entry) → T (below_all reference_cmp y (keyed (xs ++ ys))) → T (below_all reference_cmp y (keyed xs))
below_first y [] ys h = tt
below_first y (x ∷ xs) ys h = both _ _ (and_left _ _ h) (below_first y xs ys (and_right _ _ h))

sorted_first : (xs ys : List Entry) → T (is_sorted reference_cmp (keyed (xs ++ ys))) → T (is_sorted reference_cmp (keyed xs))
sorted_first [] ys h = tt
sorted_first (x ∷ xs) ys h = both _ _ (below_first x.reference xs ys (and_left _ _ h)) (sorted_first xs ys (and_right _ _ h))

sorted_after : (xs ys : List Entry) → T (is_sorted reference_cmp (keyed (xs ++ ys))) → T (is_sorted reference_cmp (keyed ys))
sorted_after [] ys h = h
sorted_after (x ∷ xs) ys h = sorted_after xs ys (and_right _ _ h)

page_sorted : (ps : List (List Entry)) (k : ℕ) (p : List Entry) → slice_get ps k ≡ Some p → T (is_sorted reference_cmp (keyed (all_of ps))) → T (is_sorted reference_cmp (keyed p))
page_sorted [] k p is h = cc
page_sorted (q ∷ ps) zero p is h = let same : q ≡ p = cc in subst (λ (x : List Entry). T (is_sorted reference_cmp (keyed x))) same (sorted_first q (all_of ps) h)
page_sorted (q ∷ ps) (suc k) p is h = page_sorted ps k p is (sorted_after q (all_of ps) h)

-- the references of a page rise
pub page_rising : (ps : List (List Entry)) (k : ℕ) (p : List Entry) → slice_get ps k ≡ Some p → AreRising (all_of ps) → AreRising p
page_rising ps k p is rising = true-from_T _ (page_sorted ps k p is (T-from_true _ rising))

-- ---- a search

-- if a message is not greater, all before it are less
pub narrow_from : (es : List Entry) → AreRising es → (r : Reference) (low high mid : ℕ) → Belongs es r low high → mid < high → (e : Entry) → slice_get es mid ≡ Some e → reference_cmp e.reference r ≢ Greater
    → Belongs es r mid high
narrow_from es rising r low high mid n to e there below = record {
  order = omega (arith, to);
  within = n.within;
  before = λ j lt. if_some (slice_get es j) (λ d. reference_cmp r d.reference ≡ Greater) (λ d at. under d (rise es j mid d e (T-from_true _ rising) lt at there) (reference_cmp e.reference r) refl);
  after = n.after;
}
  where
    if_some : (o : Option Entry) (P : Entry → Type 0) → ((d : Entry) → o ≡ Some d → P d) → IfSome o P
    if_some None P all = tt
    if_some (Some d) P all = all d refl

    under : (d : Entry) → reference_cmp d.reference e.reference ≡ Less → (o : Ordering) → reference_cmp e.reference r ≡ o → reference_cmp r d.reference ≡ Greater
    under d less Less is = flips d.reference r Less (reference_total.trans d.reference e.reference r less is)
    under d less Equal is = flips d.reference r Less (subst (λ (q : Reference). reference_cmp d.reference q ≡ Less) (reference_apart e.reference r is) less)
    under d less Greater is = absurd (below is)

-- a gap on the page on which the reference belongs
pub gap_on : (ps : List (List Entry)) (k : ℕ) (p : List Entry) (r : Reference) (at : ℕ) → slice_get ps k ≡ Some p
    → Belongs (all_of ps) r (position_on ps k 0) (position_on ps (suc k) 0) → Belongs p r at at → Belongs (all_of ps) r (position_on ps k at) (position_on ps k at)
gap_on ps k p r at is outer inner = record {
  order = omega arith;
  within = omega (arith, outer.within, inner.within, position_next ps k p is, position_add ps k at);
  before = λ j lt. first_part j (cases_lt j (position_on ps k 0)) lt;
  after = λ j le. later_part j (cases_lt j (position_on ps (suc k) 0)) le;
}
  where
    here : (P : Entry → Type 0) (j : ℕ) → position_on ps k 0 ≤ j → j - position_on ps k 0 < length p → IfSome (slice_get p (j - position_on ps k 0)) P → IfSome (slice_get (all_of ps) j) P
    here P j from lt holds =
        let back : position_on ps k (j - position_on ps k 0) ≡ j = omega (arith, from, position_add ps k (j - position_on ps k 0)) in
        subst (λ i. IfSome (slice_get (all_of ps) i) P) back
        (subst (λ o. IfSome o P) (sym (get_on ps k p (j - position_on ps k 0) is lt)) holds)

    first_part : (j : ℕ) → ((j < position_on ps k 0) ⊎ (position_on ps k 0 ≤ j)) → j < position_on ps k at → IfSome (slice_get (all_of ps) j) (λ e. reference_cmp r e.reference ≡ Greater)
    first_part j (inl before) lt = outer.before j before
    first_part j (inr from) lt =
        here (λ e. reference_cmp r e.reference ≡ Greater) j from (omega (arith, from, lt, position_add ps k at, inner.within)) (inner.before (j - position_on ps k 0) (omega (arith, from, lt, position_add ps k at)))

    later_part : (j : ℕ) → ((j < position_on ps (suc k) 0) ⊎ (position_on ps (suc k) 0 ≤ j)) → position_on ps k at ≤ j → IfSome (slice_get (all_of ps) j) (λ e. reference_cmp r e.reference ≡ Less)
    later_part j (inl before) le =
        here (λ e. reference_cmp r e.reference ≡ Less) j (omega (arith, le, position_add ps k at)) (omega (arith, le, before, position_add ps k at, position_next ps k p is))
        (inner.after (j - position_on ps k 0) (omega (arith, le, position_add ps k at)))
    later_part j (inr after) le = outer.after j after

-- ---- pages that have messages

pub filled_set : (ps : List (List Entry)) (k : ℕ) (p : List Entry) → IsFilled p → All IsFilled ps → All IsFilled (set ps k p)
filled_set ps k p some filled = All-set IsFilled ps k p some filled

pub filled_insert : (ps : List (List Entry)) (k : ℕ) (p : List Entry) → IsFilled p → All IsFilled ps → All IsFilled (insert ps k p)
filled_insert ps k p some filled = All-append IsFilled (take k ps) (p ∷ drop k ps) (All-take IsFilled k ps filled) (All-cons IsFilled p (drop k ps) some (All-drop IsFilled k ps filled))

pub has_some : (p : List Entry) → 0 < length p → IsFilled p
has_some [] lt = absurd (omega arith)
has_some (e ∷ p) lt = λ e. cc

pub inserted_some : (p : List Entry) (at : ℕ) (e : Entry) → IsFilled (insert p at e)
inserted_some p zero e = λ is. cc
inserted_some [] (suc at) e = λ is. cc
inserted_some (x ∷ p) (suc at) e = λ is. cc

-- the first message of a page in the middle says on which side of it the reference belongs
module _ (ps : List (List Entry)) (rising : AreRising (all_of ps)) (r : Reference) (low high mid : ℕ) (from : low ≤ mid) (to : mid < high) (n : Belongs (all_of ps) r (position_on ps low 0) (position_on ps high 0))
    (p : List Entry) (is : slice_get ps mid ≡ Some p) (e : Entry) (first : slice_get p 0 ≡ Some e) where
  there : slice_get (all_of ps) (position_on ps mid 0) ≡ Some e
  there = get_on ps mid p 0 is (slice_get_within p 0 e first) ∙ first

  below_end : position_on ps mid 0 < position_on ps high 0
  below_end = omega (arith, position_next ps mid p is, position_rises ps (suc mid) high (omega (arith, to)), slice_get_within p 0 e first)

  pub before_page : reference_cmp e.reference r ≡ Greater → Belongs (all_of ps) r (position_on ps low 0) (position_on ps mid 0)
  before_page greater =
      narrow_down (all_of ps) rising r (position_on ps low 0) (position_on ps high 0) (position_on ps mid 0) n (position_rises ps low mid from) below_end e
      (sym (index_of_get (all_of ps) (position_on ps mid 0) e e there)) (sym greater)

  pub from_page : reference_cmp e.reference r ≢ Greater → Belongs (all_of ps) r (position_on ps mid 0) (position_on ps high 0)
  from_page below = narrow_from (all_of ps) rising r (position_on ps low 0) (position_on ps high 0) (position_on ps mid 0) n below_end e there below

-- the page that was read at an index
pub page_at : (xs ps : List (List Entry)) (k : ℕ) (p : List Entry) → xs ≡ ps → k < length xs → p ≡ slice_index_or xs k p → slice_get ps k ≡ Some p
page_at xs ps k p same lt is = ap (λ (qs : List (List Entry)). slice_get qs k) (sym same) ∙ at_index xs k p lt ∙ ap Some (sym is)

pub read_as : (xs : List (List Entry)) (k : ℕ) (q p : List Entry) → k < length xs → q ≡ slice_index_or xs k q → p ≡ q → p ≡ slice_index_or xs k p
read_as xs k q p lt is same = subst (λ (x : List Entry). x ≡ slice_index_or xs k x) (sym same) is

-- ---- a gap, and what changes there

-- a gap that is not after all pages is on one of them
pub gap_page : (ps : List (List Entry)) (k at : ℕ) → MatchOption (slice_get ps k) ((ps ≡ []) × (k ≡ 0) × (at ≡ 0)) (λ page. at ≤ length page) → (k ≡ length ps → ⊥)
    → (page : List Entry) × (slice_get ps k ≡ Some page) × (at ≤ length page)
gap_page ps k at gap no_end = by (slice_get ps k) refl gap
  where
    by : (o : Option (List Entry)) → slice_get ps k ≡ o → MatchOption o ((ps ≡ []) × (k ≡ 0) × (at ≡ 0)) (λ page. at ≤ length page) → (page : List Entry) × (slice_get ps k ≡ Some page) × (at ≤ length page)
    by None is (none, first, _) = absurd (no_end (first ∙ ap length (sym none)))
    by (Some page) is le = (page, is, le)

insert_end : (xs : List Entry) (n : ℕ) (e : Entry) → n ≡ length xs → insert xs n e ≡ xs ++ e ∷ []
insert_end [] zero e is = refl
insert_end [] (suc n) e is = absurd (omega (arith, is))
insert_end (x ∷ xs) zero e is = absurd (omega (arith, is))
insert_end (x ∷ xs) (suc n) e is = ap (λ (zs : List Entry). x ∷ zs) (insert_end xs n e (omega (arith, is)))

-- a message after all others
pub put_last : (ps : List (List Entry)) (k : ℕ) (p : List Entry) (e : Entry) → slice_get ps k ≡ Some p → suc k ≡ length ps → all_of (set ps k (insert p (length p) e)) ≡ all_of ps ++ e ∷ []
put_last ps k p e is last =
    let last_is = ap (λ n. position_on ps n 0) last in
    put_on ps k p (length p) e is (omega arith)
    ∙ insert_end (all_of ps) (position_on ps k (length p)) e (omega (arith, last_is, position_add ps k (length p), position_next ps k p is, position_end ps))

pub filled_after : {T E : Type 0} (r : Result T E) (old new : List Entry) (at : ℕ) (e : Entry) → OnOk r (new ≡ insert old at e) → OnErr r (new ≡ old) → IsFilled old → IsFilled new
filled_after (Ok u) old new at e ok err some = subst IsFilled (sym ok) (inserted_some old at e)
filled_after (Err u) old new at e ok err some = subst IsFilled (sym err) some

-- ---- a page that was divided

module _ (ps xs : List (List Entry)) (k : ℕ) (p : List Entry) (n : ℕ) (is : slice_get ps k ≡ Some p) (le : n < length p) (made : xs ≡ insert (set ps k (take n p)) (k + 1) (drop n p)) where
  next : k + 1 ≡ suc k
  next = omega arith

  halves : xs ≡ insert (set ps k (take n p)) (suc k) (drop n p)
  halves = made ∙ ap (λ i. insert (set ps k (take n p)) i (drop n p)) next

  pub same_messages : all_of xs ≡ all_of ps
  same_messages = ap all_of halves ∙ all_divided ps k p n is

  pub both_filled : 0 < n → All IsFilled ps → All IsFilled xs
  both_filled some filled =
      let first : length (take n p) ≡ n = grind (arith, common_steps) in
      let later : length (drop n p) ≡ length p - n = grind (arith, common_steps) in
      subst (All IsFilled) (sym halves)
      (filled_insert (set ps k (take n p)) (suc k) (drop n p) (has_some (drop n p) (omega (arith, later, le))) (filled_set ps k (take n p) (has_some (take n p) (omega (arith, first, some))) filled))

  pub on_first : (at : ℕ) → at ≤ n → (page : List Entry) × (slice_get xs k ≡ Some page) × (at ≤ length page)
  on_first at at_le =
      let first : length (take n p) ≡ n = grind (arith, common_steps) in
      (take n p, ap (λ (qs : List (List Entry)). slice_get qs k) halves ∙ (earlier_divided ps k p n at is).0, omega (arith, first, at_le))

  pub at_first : (at : ℕ) → position_on xs k at ≡ position_on ps k at
  at_first at = ap (λ (qs : List (List Entry)). position_on qs k at) halves ∙ (earlier_divided ps k p n at is).1

  pub on_later : (at : ℕ) → at ≤ length p → (page : List Entry) × (slice_get xs (k + 1) ≡ Some page) × (at - n ≤ length page)
  on_later at at_le =
      let later : length (drop n p) ≡ length p - n = grind (arith, common_steps) in
      (drop n p, ap (slice_get xs) next ∙ ap (λ (qs : List (List Entry)). slice_get qs (suc k)) halves ∙ (later_divided ps k p n 0 is (omega (arith, le))).0, omega (arith, later, at_le))

  pub at_later : (at : ℕ) → n < at → position_on xs (k + 1) (at - n) ≡ position_on ps k at
  at_later at lt =
      let whole : n + (at - n) ≡ at = omega (arith, lt) in
      ap (λ i. position_on xs i (at - n)) next ∙ ap (λ (qs : List (List Entry)). position_on qs (suc k) (at - n)) halves ∙ (later_divided ps k p n (at - n) is (omega (arith, le))).1
      ∙ ap (position_on ps k) whole

-- the page that was read is long
pub is_long : (ps : List (List Entry)) (k : ℕ) (p q : List Entry) (n : ℕ) → slice_get ps k ≡ Some p → q ≡ slice_index_or ps k q → n ≡ length q → 512 ≤ n → 512 ≤ length p
is_long ps k p q n is read len full = let same = ap length (read ∙ get_or_from_slice_get ps k p q is) in omega (arith, len, full, same)

-- ---- what is held at a place

-- the message at the place of a reference is held under it
pub held_on : (ps : List (List Entry)) (r : Reference) (place : PagePlace) → AreRising (all_of ps) → IsHeldOn ps r place → (e : Entry) → slice_get (all_of ps) (position ps place) ≡ Some e
    → get (map_of (all_of ps)) r ≡ Some e.message
held_on ps r place rising is e there =
    let found = is.there in
    let same : is.entry ≡ e = cc in
    ap (get (map_of (all_of ps))) (sym is.its) ∙ held_at (all_of ps) (position ps place) is.entry rising is.there ∙ ap (λ (x : Entry). Some x.message) same

-- ---- a message that is taken away

remove_first : (xs ys : List Entry) (at : ℕ) → at < length xs → remove (xs ++ ys) at ≡ remove xs at ++ ys
remove_first [] ys at lt = absurd (omega (arith, lt))
remove_first (x ∷ xs) ys zero lt = refl
remove_first (x ∷ xs) ys (suc at) lt = ap (λ (zs : List Entry). x ∷ zs) (remove_first xs ys at (omega (arith, lt)))

remove_after : (xs ys : List Entry) (n at : ℕ) → n ≡ length xs + at → remove (xs ++ ys) n ≡ xs ++ remove ys at
remove_after [] ys n at is = ap (remove ys) (omega (arith, is))
remove_after (x ∷ xs) ys zero at is = absurd (omega (arith, is))
remove_after (x ∷ xs) ys (suc n) at is = ap (λ (zs : List Entry). x ∷ zs) (remove_after xs ys n at (omega (arith, is)))

-- a message that is taken away from its page
pub taken_from : (ps : List (List Entry)) (k : ℕ) (p : List Entry) (at : ℕ) → slice_get ps k ≡ Some p → at < length p → all_of (set ps k (remove p at)) ≡ remove (all_of ps) (position_on ps k at)
taken_from [] k p at is lt = cc
taken_from (q ∷ ps) zero p at is lt =
    let same : q ≡ p = cc in
    sym (remove_first p (all_of ps) at lt) ∙ ap (λ (x : List Entry). remove (x ++ all_of ps) at) (sym same)
taken_from (q ∷ ps) (suc k) p at is lt =
    ap (λ (x : List Entry). q ++ x) (taken_from ps k p at is lt) ∙ sym (remove_after q (all_of ps) (length q + position_on ps k at) (position_on ps k at) refl)

-- an empty page that is taken away
pub without_empty : (ps : List (List Entry)) (k : ℕ) → k < length ps → all_of (remove (set ps k []) k) ≡ all_of (set ps k [])
without_empty [] k lt = absurd (omega (arith, lt))
without_empty (q ∷ ps) zero lt = refl
without_empty (q ∷ ps) (suc k) lt = ap (λ (x : List Entry). q ++ x) (without_empty ps k (omega (arith, lt)))

without_set : (ps : List (List Entry)) (k : ℕ) (p : List Entry) → remove (set ps k p) k ≡ remove ps k
without_set [] k p = refl
without_set (q ∷ ps) zero p = refl
without_set (q ∷ ps) (suc k) p = ap (λ (x : List (List Entry)). q ∷ x) (without_set ps k p)

pub none_left : (p : List Entry) → length p ≡ 0 → p ≡ []
none_left [] none = refl
none_left (e ∷ p) none = absurd (omega (arith, none))
