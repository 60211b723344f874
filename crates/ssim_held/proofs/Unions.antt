-- Two lists of messages, each in order of reference, as maps: the references under which they
-- differ, and their union.
use Rattle.std.proofs.Common.{◌≡◌, ◌≢◌, ◌⊎◌, inl, inr, ℕ, zero, suc, ◌<◌, ◌≤◌, true, false, cond, List, [], ◌∷◌, ◌++◌, length, take, drop, Option, Some, None, IfSome, slice_get, All, IsSome, is_some, refl, sym, ap, subst, ◌∙◌, arith}
use Rattle.std.specs.declared.cmp.Ordering.{Ordering}
use Rattle.std.specs.declared.cmp.Ordering.TheVariants.{Less, Equal, Greater}
use Rattle.std.specs.Ordering.{is_eq}
use Rattle.std.specs.FinMap.{find, get, same_map}
use Rattle.std.proofs.lemmas.Bool.{cases_lt, cases_eq}
use Rattle.std.proofs.lemmas.List.Elements.{All-append, All-drop, All-take}
use Rattle.std.proofs.lemmas.List.{take-append-drop}
use Rattle.ssim_records.specs.declared.record.Record.{Record}
use Rattle.ssim_text.specs.Message.{MessageValue}
use Rattle.ssim_text.specs.declared.reference.Reference.{Reference}
use Rattle.ssim_held.specs.Held.{Agree, DifferAt, IsLeastConflict, reference_cmp, union}
use Rattle.ssim_held.specs.Entries.{AreEntries, AreRising, Entry, IsEntry, keyed, map_of}
use Rattle.ssim_held.specs.clauses.Ordered.{IsFirstNew, IsFound, IsLesser, IsMerged}
use Rattle.ssim_held.specs.declared.lookup.LookUp.{LookUp}
use Rattle.ssim_held.specs.declared.lookup.LookUp.TheVariants.{Absent, Same, Other}
use Rattle.ssim_held.proofs.Entries.{T-from_true, and_left, flips, get-map_of, held_at, not_held, self_equal, true-from_T}
use Rattle.ssim_held.proofs.MapLemmas.{get-union, or_else}
use Rattle.ssim_held.proofs.References.{reference_apart, reference_total}
use Rattle.ssim_held.proofs.TwoLists.{Below, Sorted, above_merged, all_merged, at_ref, before_drop, before_gap, find_merged, rising_merged, sorted_append, sorted_drop, sorted_take}
use Rattle.ssim_held.proofs.Searching.{index_of_get, rise}

-- a message is held under the reference of the entry
abbrev pub IsHeldIn : List Entry → Entry → Type 0
IsHeldIn mine e = IsSome (get (map_of mine) e.reference)

-- under the reference of the entry no other message is held
abbrev pub IsAlike : List Entry → Entry → Type 0
IsAlike mine e = (message : MessageValue) → get (map_of mine) e.reference ≡ Some message → message ≡ e.message

-- under the reference of none of the entries is another message held
abbrev pub HeldAlike : List Entry → List Entry → Type 0
HeldAlike mine theirs = All (IsAlike mine) theirs

-- ---- what looking up says

-- whatever is found but another message is alike
pub alike : (mine : List Entry) (e : Entry) (f : LookUp) → AreRising mine → IsFound mine e.reference e.message f → (f ≡ Other → ⊥) → IsAlike mine e
alike mine e (Absent at) rising gap n m h = let none : get (map_of mine) e.reference ≡ None = not_held mine at e.reference rising gap in cc
alike mine e Same rising same n m h = cc
alike mine e Other rising other n m h = absurd (n refl)

-- whatever is found but nothing is held
pub held_in : (mine : List Entry) (e : Entry) (f : LookUp) → IsFound mine e.reference e.message f → ((at : ℕ) → f ≡ Absent at → ⊥) → IsHeldIn mine e
held_in mine e (Absent at) gap n = absurd (n at refl)
held_in mine e Same same n = ap is_some same
held_in mine e Other other n = ap is_some other.1

-- ---- where a message is found

record IsAt (q : Reference) (es : List Entry) (x : MessageValue) : Type 0 where
  at : ℕ
  entry : Entry
  there : slice_get es at ≡ Some entry
  its : entry.reference ≡ q
  says : entry.message ≡ x

find_where : (q : Reference) (es : List Entry) (x : MessageValue) → find reference_cmp q (keyed es) ≡ Some x → IsAt q es x
find_where q [] x h = cc
find_where q (e ∷ es) x h = by (find_where q es x) (reference_cmp q e.reference) refl h
  where
    further : IsAt q es x → IsAt q (e ∷ es) x
    further w = record { at = suc w.at; entry = w.entry; there = w.there; its = w.its; says = w.says }

    by : (find reference_cmp q (keyed es) ≡ Some x → IsAt q es x) → (o : Ordering) → reference_cmp q e.reference ≡ o → cond (is_eq o) (Some e.message) (find reference_cmp q (keyed es)) ≡ Some x → IsAt q (e ∷ es) x
    by rest Less o k = further (rest k)
    by rest Equal o k = record { at = 0; entry = e; there = refl; its = sym (reference_apart q e.reference o); says = cc }
    by rest Greater o k = further (rest k)

found_where : (q : Reference) (es : List Entry) (x : MessageValue) → AreRising es → get (map_of es) q ≡ Some x → IsAt q es x
found_where q es x rising h = find_where q es x (sym (get-map_of es q rising) ∙ h)

slice_get-take : {X : Type 0} (xs : List X) (n k : ℕ) → k < n → slice_get (take n xs) k ≡ slice_get xs k
slice_get-take xs zero k lt = absurd (omega arith)
slice_get-take [] (suc n) k lt = refl
slice_get-take (x ∷ xs) (suc n) zero lt = refl
slice_get-take (x ∷ xs) (suc n) (suc k) lt = slice_get-take xs n k (omega arith)

get_within : {X : Type 0} (xs : List X) (k : ℕ) (x : X) → slice_get xs k ≡ Some x → k < length xs
get_within [] k x h = cc
get_within (y ∷ xs) zero x h = omega arith
get_within (y ∷ xs) (suc k) x h = let rest : k < length xs = get_within xs k x h in omega (arith, rest)

-- what holds of all holds of the one that is there
all_there : {X : Type 0} (P : X → Type 0) (xs : List X) (k : ℕ) (x : X) → All P xs → slice_get xs k ≡ Some x → P x
all_there P xs k x h there = subst P (index_of_get xs k x x there) (h k x (get_within xs k x there))

-- ---- conflicts

pub agree : (mine theirs : List Entry) → AreRising theirs → HeldAlike mine theirs → Agree (map_of mine) (map_of theirs)
agree mine theirs rising h q a b in_mine in_theirs =
    let w = found_where q theirs b rising in_theirs in
    all_there (IsAlike mine) theirs w.at w.entry h w.there a (ap (get (map_of mine)) w.its ∙ in_mine) ∙ w.says

pub least_conflict : (mine theirs : List Entry) (i : ℕ) (e : Entry) → AreRising theirs → slice_get theirs i ≡ Some e → HeldAlike mine (take i theirs) → IsFound mine e.reference e.message Other
    → IsLeastConflict (map_of mine) (map_of theirs) e.reference
least_conflict mine theirs i e rising there h (other, holds, apart) = record {
  differ = record { one = other; other = e.message; in_one = holds; in_other = held_at theirs i e rising there; apart = apart };
  least = λ p d less. none p d less (found_where p theirs d.other rising d.in_other);
}
  where
    none : (p : Reference) (d : DifferAt (map_of mine) (map_of theirs) p) → reference_cmp p e.reference ≡ Less → IsAt p theirs d.other → ⊥
    none p d less w = by (cases_lt w.at i)
      where
        later : ((w.at ≡ i) ⊎ (w.at ≢ i)) → i ≤ w.at → ⊥
        later (inl same) le =
            let one : w.entry ≡ e = sym (index_of_get theirs i w.entry e (ap (slice_get theirs) (sym same) ∙ w.there)) ∙ index_of_get theirs i e e there in
            let its : p ≡ e.reference = sym w.its ∙ ap (λ (z : Entry). z.reference) one in
            let equal : reference_cmp p e.reference ≡ Equal = ap (λ r. reference_cmp r e.reference) its ∙ self_equal e.reference in
            cc
        later (inr apart) le =
            let greater : reference_cmp p e.reference ≡ Greater = ap (λ r. reference_cmp r e.reference) (sym w.its) ∙ flips e.reference w.entry.reference Less (rise theirs i w.at e w.entry (T-from_true _ rising) (omega arith) there w.there) in
            cc

        by : ((w.at < i) ⊎ (i ≤ w.at)) → ⊥
        by (inl lt) =
            d.apart (all_there (IsAlike mine) (take i theirs) w.at w.entry h (slice_get-take theirs i w.at lt ∙ w.there) d.one (ap (get (map_of mine)) w.its ∙ d.in_one) ∙ w.says)
        by (inr le) = later (cases_eq w.at i) le

-- ---- the union

or_else_in : (a b c : Option MessageValue) → or_else a (or_else b c) ≡ or_else (or_else a b) c
or_else_in None b c = refl
or_else_in (Some x) b c = refl

at_ref-++ : (q : Reference) (xs ys : List Entry) → at_ref q (xs ++ ys) ≡ or_else (at_ref q xs) (at_ref q ys)
at_ref-++ q [] ys = refl
at_ref-++ q (x ∷ xs) ys =
    elim (is_eq (reference_cmp q x.reference)) as (λ b. cond b (Some x.message) (at_ref q (xs ++ ys)) ≡ or_else (cond b (Some x.message) (at_ref q xs)) (at_ref q ys)) [
      | true ↦ refl
      | false ↦ at_ref-++ q xs ys
    ]

parts : (q : Reference) (es : List Entry) (n : ℕ) → at_ref q es ≡ or_else (at_ref q (take n es)) (at_ref q (drop n es))
parts q es n = ap (at_ref q) (sym (take-append-drop n es)) ∙ at_ref-++ q (take n es) (drop n es)

there_adds : (o : Option MessageValue) (x : MessageValue) (later : Option MessageValue) → IsSome o → or_else o later ≡ or_else o (or_else (Some x) later)
there_adds None x later some = cc
there_adds (Some y) x later some = refl

-- messages that are held add nothing
held_adds : (mine some : List Entry) → AreRising mine → All (IsHeldIn mine) some → (q : Reference) (later : Option MessageValue)
    → or_else (at_ref q mine) later ≡ or_else (at_ref q mine) (or_else (at_ref q some) later)
held_adds mine some rising h q later = by (at_ref q some) refl
  where
    by : (o : Option MessageValue) → at_ref q some ≡ o → or_else (at_ref q mine) later ≡ or_else (at_ref q mine) (or_else o later)
    by None e = refl
    by (Some x) e =
        let w = find_where q some x e in
        let held = all_there (IsHeldIn mine) some w.at w.entry h w.there in
        there_adds (at_ref q mine) x later (subst IsSome (ap (get (map_of mine)) w.its ∙ get-map_of mine q rising) held)

union_at : (mine theirs : List Entry) → AreRising mine → AreRising theirs → (q : Reference) → get (union (map_of mine) (map_of theirs)) q ≡ or_else (at_ref q mine) (at_ref q theirs)
union_at mine theirs rising others q = get-union reference_total (map_of mine) (map_of theirs) q ∙ ap (λ o. or_else o (get (map_of theirs) q)) (get-map_of mine q rising) ∙ ap (or_else (at_ref q mine)) (get-map_of theirs q others)

or_else_none : (a : Option MessageValue) → a ≡ or_else a None
or_else_none None = refl
or_else_none (Some x) = refl

absorbs : (a b : Option MessageValue) → or_else a None ≡ or_else a (or_else b None) → a ≡ or_else a b
absorbs None b e = e ∙ sym (or_else_none b)
absorbs (Some x) b e = refl

-- if all of their messages are held, the union is mine
pub union_held : (mine theirs : List Entry) → AreRising mine → AreRising theirs → All (IsHeldIn mine) theirs → map_of mine ≡ union (map_of mine) (map_of theirs)
union_held mine theirs rising others h = same_map reference_total reference_apart _ _ (λ q.
    get-map_of mine q rising ∙ absorbs (at_ref q mine) (at_ref q theirs) (held_adds mine theirs rising h q None) ∙ sym (union_at mine theirs rising others q))

if_some_both : {X : Type 0} (o : Option X) (P Q R : X → Type 0) → ((x : X) → P x → Q x → R x) → IfSome o P → IfSome o Q → IfSome o R
if_some_both None P Q R f p q = tt
if_some_both (Some x) P Q R f p q = f x p q

drop_at : {X : Type 0} (xs : List X) (k : ℕ) (x : X) → slice_get xs k ≡ Some x → drop k xs ≡ x ∷ drop (suc k) xs
drop_at [] k x h = cc
drop_at (y ∷ xs) zero x h = let e : y ≡ x = cc in ap (λ z. z ∷ xs) e
drop_at (y ∷ xs) (suc k) x h = drop_at xs k x h

slice_get-drop : {X : Type 0} (xs : List X) (k : ℕ) → slice_get (drop k xs) 0 ≡ slice_get xs k
slice_get-drop xs zero = refl
slice_get-drop [] (suc k) = refl
slice_get-drop (x ∷ xs) (suc k) = slice_get-drop xs k

first_of : (f : Entry) (mine theirs all : List Entry) → IfSome (slice_get mine 0) (λ e. reference_cmp f.reference e.reference ≡ Less) → IsMerged mine (f ∷ theirs) all → (others : List Entry) × (all ≡ f ∷ others)
first_of f mine theirs [] h m = let e : f ∷ theirs ≡ [] = m.1 in cc
first_of f [] theirs (e ∷ all) h (mine_left, theirs_left, next, rest) = (all, ap (λ (z : Entry). z ∷ all) next.0)
first_of f (m ∷ mine) theirs (e ∷ all) h (mine_left, theirs_left, next, rest) =
    let greater : reference_cmp m.reference f.reference ≡ Greater = flips f.reference m.reference Less h in
    let is = subst (λ o. IsLesser o m mine f theirs e mine_left theirs_left) greater next in
    (all, ap (λ (z : Entry). z ∷ all) is.0)

module _ (mine theirs : List Entry) (place at : ℕ) (rising : AreRising mine) (others : AreRising theirs) (new : IsFirstNew mine theirs place at) (all : List Entry) (m : IsMerged (drop at mine) (drop place theirs) all) where
  sorted_mine : Sorted mine
  sorted_mine = T-from_true _ rising

  sorted_theirs : Sorted theirs
  sorted_theirs = T-from_true _ others

  from_new : drop place theirs ≡ new.first ∷ drop (suc place) theirs
  from_new = drop_at theirs place new.first new.there

  below_new : Below new.first.reference (drop (suc place) theirs)
  below_new = and_left _ _ (subst Sorted from_new (sorted_drop theirs place sorted_theirs))

  above : (j : ℕ) → IfSome (slice_get (take at mine) j) (λ x. Below x.reference all)
  above j = if_some_both (slice_get (take at mine) j) (λ x. Below x.reference (drop at mine)) (λ x. Below x.reference (new.first ∷ drop (suc place) theirs)) (λ x. Below x.reference all)
      (λ x a b. above_merged x.reference all (drop at mine) (drop place theirs) m a (subst (Below x.reference) (sym from_new) b))
      (before_drop mine at j sorted_mine) (before_gap mine at j new.first.reference (drop (suc place) theirs) new.gap.before below_new new.first refl)

  pub union_rising : AreRising (take at mine ++ all)
  union_rising = true-from_T _ (sorted_append (take at mine) all (sorted_take mine at sorted_mine) (rising_merged all (drop at mine) (drop place theirs) m (sorted_drop mine at sorted_mine) (sorted_drop theirs place sorted_theirs)) above)

  pub union_is : map_of (take at mine ++ all) ≡ union (map_of mine) (map_of theirs)
  union_is = same_map reference_total reference_apart _ _ (λ q.
      get-map_of (take at mine ++ all) q union_rising ∙ at_ref-++ q (take at mine) all
      ∙ ap (or_else (at_ref q (take at mine))) (find_merged q all (drop at mine) (drop place theirs) m (sorted_drop mine at sorted_mine) (sorted_drop theirs place sorted_theirs))
      ∙ or_else_in (at_ref q (take at mine)) (at_ref q (drop at mine)) (at_ref q (drop place theirs))
      ∙ ap (λ o. or_else o (at_ref q (drop place theirs))) (sym (parts q mine at))
      ∙ held_adds mine (take place theirs) rising new.before q (at_ref q (drop place theirs))
      ∙ ap (or_else (at_ref q mine)) (sym (parts q theirs place))
      ∙ sym (union_at mine theirs rising others q))

  pub union_first : (later : List Entry) × (all ≡ new.first ∷ later)
  union_first = first_of new.first (drop at mine) (drop (suc place) theirs) all (subst (λ o. IfSome o (λ e. reference_cmp new.first.reference e.reference ≡ Less)) (sym (slice_get-drop mine at)) (new.gap.after at (omega arith)))
      (subst (λ ts. IsMerged (drop at mine) ts all) from_new m)

pub union_entries : (records : List Record) (mine theirs : List Entry) (place at : ℕ) → AreEntries records mine → AreEntries records theirs → IsFirstNew mine theirs place at → (all : List Entry) → IsMerged (drop at mine) (drop place theirs) all
    → AreEntries records (take at mine ++ all)
union_entries records mine theirs place at h k new all m = record {
  rising = union_rising mine theirs place at h.rising k.rising new all m;
  each = All-append (IsEntry records) (take at mine) all (All-take (IsEntry records) at mine h.each)
      (all_merged (IsEntry records) all (drop at mine) (drop place theirs) m (All-drop (IsEntry records) at mine h.each) (All-drop (IsEntry records) place theirs k.each));
}

-- ---- two lists as wholes

module _ (mine theirs : List Entry) (rising : AreRising mine) (others : AreRising theirs) (all : List Entry) (m : IsMerged mine theirs all) where
  whole_rising : AreRising all
  whole_rising = true-from_T _ (rising_merged all mine theirs m (T-from_true _ rising) (T-from_true _ others))

  pub whole_is : map_of all ≡ union (map_of mine) (map_of theirs)
  whole_is = same_map reference_total reference_apart _ _ (λ q.
      get-map_of all q whole_rising ∙ find_merged q all mine theirs m (T-from_true _ rising) (T-from_true _ others) ∙ sym (union_at mine theirs rising others q))
