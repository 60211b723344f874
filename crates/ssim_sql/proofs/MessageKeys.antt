-- No two rows of messages, of their sub-messages, of a station table, or of segment records have one
-- key.
use Rattle.std.proofs.Common.{◌≡◌, ◌≢◌, ◌∙◌, ◌<◌, ◌+◌, ℕ, List, [], ◌∷◌, ◌++◌}
use Rattle.std.proofs.Common.{drop, length, map, refl, sym, ap, subst, arith}
use Rattle.std.proofs.lemmas.List.{map-append}
use Rattle.std.specs.FinMap.{is_sorted}
use Rattle.std.specs.FinMap.Entries.{below_all}
use Rattle.std.specs.List.{AllByRecursion as Each, enumerate_from, flat_map, zip}
use Rattle.std.specs.Prelude.{T}
use Rattle.ssim_base.specs.declared.sub_message.ResolvedSub.{ResolvedSub}
use Rattle.ssim_base.proofs.Each.{each-append}
use Rattle.ssim_schedule.specs.declared.finding.Finding.{Finding}
use Rattle.ssim_text.specs.declared.action.Sub.{Sub}
use Rattle.ssim_text.specs.declared.reference.Reference.{Reference}
use Rattle.ssim_held.specs.Entries.{AreRising, Entry, keyed}
use Rattle.ssim_held.specs.Held.{reference_cmp}
use Rattle.ssim_held.proofs.Entries.{T-from_true, and_left, and_right, less-from_T, self_equal}
use Rattle.ssim_desk.specs.Desk.{entry_lines, sub_lines}
use Rattle.ssim_desk.specs.declared.finding_line.FindingLine.{FindingLine}
use Rattle.ssim_sql.specs.Keys.{AreDistinct, LegKey, leg_key, message_key, segment_keys, sub_key}
use Rattle.ssim_sql.specs.LegRows.{FlightLeg}
use Rattle.ssim_sql.specs.Messages.{subs_found}
use Rattle.ssim_sql.proofs.Distinct.{apart_by, distinct-append, distinct-groups, distinct-map}

-- ---- places

places_above : {V : Type 0} (n m : ℕ) (values : List V) → n < m
    → Each (λ (place : ℕ). n ≢ place) (map (λ (it : ℕ × V). it.0) (enumerate_from m values))
places_above n m [] less = tt
places_above n m (v ∷ values) less =
    (λ e. omega (arith, e, less), places_above n (m + 1) values (omega arith))

-- places that are counted are distinct
pub places_distinct : {V : Type 0} (n : ℕ) (values : List V)
    → AreDistinct (map (λ (it : ℕ × V). it.0) (enumerate_from n values))
places_distinct n [] = tt
places_distinct n (v ∷ values) =
    (places_above n (n + 1) values (omega arith), places_distinct (n + 1) values)

-- ---- segment records

abbrev placed : LegKey → ℕ → LegKey × ℕ
placed key n = (key, n)

tails_distinct : (it : FlightLeg) → AreDistinct (segment_keys it)
tails_distinct it =
    subst (λ (ks : List (LegKey × ℕ)). AreDistinct ks) (joined (enumerate_from 1 it.leg.tails))
    (distinct-map (placed (leg_key it)) (λ (k : LegKey × ℕ). k.1) (λ n. refl)
    (map (λ (tail : ℕ × List ℕ). tail.0) (enumerate_from 1 it.leg.tails))
    (places_distinct 1 it.leg.tails))
  where
    joined : (tails : List (ℕ × List ℕ))
        → map (placed (leg_key it)) (map (λ (tail : ℕ × List ℕ). tail.0) tails)
        ≡ map (λ (tail : ℕ × List ℕ). placed (leg_key it) tail.0) tails
    joined [] = refl
    joined (tail ∷ tails) =
        ap (λ (ks : List (LegKey × ℕ)). placed (leg_key it) tail.0 ∷ ks) (joined tails)

tails_named : (key : LegKey) (tails : List (ℕ × List ℕ))
    → Each (λ (k : LegKey × ℕ). k.0 ≡ key) (map (λ (tail : ℕ × List ℕ). placed key tail.0) tails)
tails_named key [] = tt
tails_named key (tail ∷ tails) = (refl, tails_named key tails)

pub segments_distinct : (its : List FlightLeg) → AreDistinct (map leg_key its)
    → AreDistinct (flat_map segment_keys its)
segments_distinct its different =
    distinct-groups segment_keys (λ (k : LegKey × ℕ). k.0) leg_key its (own its) (named its) different
  where
    own : (its : List FlightLeg) → Each (λ it. AreDistinct (segment_keys it)) its
    own [] = tt
    own (it ∷ its) = (tails_distinct it, own its)

    named : (its : List FlightLeg)
        → Each (λ it. Each (λ (k : LegKey × ℕ). k.0 ≡ leg_key it) (segment_keys it)) its
    named [] = tt
    named (it ∷ its) = (tails_named (leg_key it) (enumerate_from 1 it.leg.tails), named its)

-- ---- messages

abbrev references : List Entry → List Reference
references entries = map (λ (e : Entry). e.reference) entries

lower : (r : Reference) (entries : List Entry) → T (below_all reference_cmp r (keyed entries))
    → Each (λ other. r ≢ other) (references entries)
lower r [] below = tt
lower r (e ∷ entries) below = (
  λ same.
      let less = less-from_T (reference_cmp r e.reference) (and_left _ _ below) in
      let equal = ap (reference_cmp r) (sym same) ∙ self_equal r in
      cc,
  lower r entries (and_right _ _ below),
)

by_order : (entries : List Entry) → T (is_sorted reference_cmp (keyed entries))
    → AreDistinct (references entries)
by_order [] sorted = tt
by_order (e ∷ entries) sorted =
    (lower e.reference entries (and_left _ _ sorted), by_order entries (and_right _ _ sorted))

pub references_distinct : (entries : List Entry) → AreRising entries
    → AreDistinct (references entries)
references_distinct entries rising = by_order entries (T-from_true _ rising)

pub message_keys_are : (n : ℕ) (entries : List Entry)
    → references entries ≡ map message_key (enumerate_from n entries)
message_keys_are n [] = refl
message_keys_are n (e ∷ entries) =
    ap (λ (rs : List Reference). e.reference ∷ rs) (message_keys_are (n + 1) entries)

-- ---- sub-messages

abbrev SubKey : Type 0
SubKey = Reference × ℕ

abbrev line_key : FindingLine → SubKey
line_key found = (found.reference, found.sub)

abbrev line_keys : List FindingLine → List SubKey
line_keys findings = map line_key findings

-- the findings of a message have its reference, and rising numbers
their_reference : (r : Reference) (n : ℕ) (subs : List Sub) (findings : List Finding)
    → Each (λ k. k.0 ≡ r) (line_keys (sub_lines r n subs findings))
their_reference r n [] findings = tt
their_reference r n (sub ∷ subs) [] = tt
their_reference r n (sub ∷ subs) (f ∷ findings) = (refl, their_reference r (n + 1) subs findings)

numbers_above : (r : Reference) (n m : ℕ) (subs : List Sub) (findings : List Finding) → n < m
    → Each (λ (k : SubKey). (r, n) ≢ k) (line_keys (sub_lines r m subs findings))
numbers_above r n m [] findings less = tt
numbers_above r n m (sub ∷ subs) [] less = tt
numbers_above r n m (sub ∷ subs) (f ∷ findings) less = (
  λ e. let same : n ≡ m = ap (λ (k : SubKey). k.1) e in omega (arith, same, less),
  numbers_above r n (m + 1) subs findings (omega arith),
)

own_distinct : (r : Reference) (n : ℕ) (subs : List Sub) (findings : List Finding)
    → AreDistinct (line_keys (sub_lines r n subs findings))
own_distinct r n [] findings = tt
own_distinct r n (sub ∷ subs) [] = tt
own_distinct r n (sub ∷ subs) (f ∷ findings) =
    (numbers_above r n (n + 1) subs findings (omega arith), own_distinct r (n + 1) subs findings)

not_theirs : (r other : Reference) (ks : List SubKey) → Each (λ k. k.0 ≡ other) ks → r ≢ other
    → Each (λ k. r ≢ k.0) ks
not_theirs r other [] same apart = tt
not_theirs r other (k ∷ ks) same apart =
    (λ e. apart (e ∙ same.0), not_theirs r other ks same.1 apart)

joined_lines : (r : Reference) (subs : List Sub) (fs : List Finding) (later : List FindingLine)
    → line_keys (sub_lines r 1 subs fs ++ later)
    ≡ line_keys (sub_lines r 1 subs fs) ++ line_keys later
joined_lines r subs fs later = map-append line_key (sub_lines r 1 subs fs) later

-- the findings of messages have no other reference than theirs
other_reference : (r : Reference) (entries : List Entry) (found : List (List Finding))
    → Each (λ other. r ≢ other) (references entries)
    → Each (λ k. r ≢ k.0) (line_keys (entry_lines entries found))
other_reference r [] found others = tt
other_reference r (e ∷ entries) [] others = tt
other_reference r (e ∷ entries) (fs ∷ found) others =
    let own = line_keys (sub_lines e.reference 1 e.message.subs fs) in
    let later = entry_lines entries found in
    subst (λ (ks : List SubKey). Each (λ k. r ≢ k.0) ks)
    (sym (joined_lines e.reference e.message.subs fs later))
    (each-append (λ k. r ≢ k.0) own (line_keys later)
    (not_theirs r e.reference own (their_reference e.reference 1 e.message.subs fs) others.0)
    (other_reference r entries found others.1))

pub findings_distinct : (entries : List Entry) (found : List (List Finding))
    → AreDistinct (references entries) → AreDistinct (line_keys (entry_lines entries found))
findings_distinct [] found different = tt
findings_distinct (e ∷ entries) [] different = tt
findings_distinct (e ∷ entries) (fs ∷ found) different =
    let own = line_keys (sub_lines e.reference 1 e.message.subs fs) in
    let later = entry_lines entries found in
    subst (λ (ks : List SubKey). AreDistinct ks)
    (sym (joined_lines e.reference e.message.subs fs later))
    (distinct-append own (line_keys later)
    (own_distinct e.reference 1 e.message.subs fs)
    (findings_distinct entries found different.1)
    (apart_by (λ (k : SubKey). k.0) e.reference own (line_keys later)
    (their_reference e.reference 1 e.message.subs fs)
    (other_reference e.reference entries found different.0)))

-- ---- the rows of sub-messages, whose findings are some of all

abbrev Rows : Type 0
Rows = List (ResolvedSub × FindingLine)

-- what is true of the keys of findings is true of the keys of rows with some of them
abbrev EachIn : (List FindingLine → Rows) → Type 1
EachIn rows = (P : SubKey → Type 0) (findings : List FindingLine) → Each P (line_keys findings)
    → Each P (map sub_key (rows findings))

each_with : (rows : List FindingLine → Rows) → EachIn rows → (dates : List ResolvedSub)
    → EachIn (λ findings. zip dates findings ++ rows (drop (length dates) findings))
each_with rows each [] P findings h = each P findings h
each_with rows each (dated ∷ dates) P [] h = each P [] tt
each_with rows each (dated ∷ dates) P (f ∷ findings) h =
    (h.0, each_with rows each dates P findings h.1)

each_found : (entries : List Entry) → EachIn (subs_found entries)
each_found [] P findings h = tt
each_found (e ∷ entries) P findings h =
    each_with (subs_found entries) (each_found entries) e.dates P findings h

abbrev StayDistinct : (List FindingLine → Rows) → Type 0
StayDistinct rows = (findings : List FindingLine) → AreDistinct (line_keys findings)
    → AreDistinct (map sub_key (rows findings))

distinct_with : (rows : List FindingLine → Rows) → EachIn rows → StayDistinct rows
    → (dates : List ResolvedSub)
    → StayDistinct (λ findings. zip dates findings ++ rows (drop (length dates) findings))
distinct_with rows each stay [] findings different = stay findings different
distinct_with rows each stay (dated ∷ dates) [] different = stay [] tt
distinct_with rows each stay (dated ∷ dates) (f ∷ findings) different = (
  each_with rows each dates (λ k. line_key f ≢ k) findings different.0,
  distinct_with rows each stay dates findings different.1,
)

pub subs_distinct : (entries : List Entry) → StayDistinct (subs_found entries)
subs_distinct [] findings different = tt
subs_distinct (e ∷ entries) findings different =
    distinct_with (subs_found entries) (each_found entries) (subs_distinct entries) e.dates findings
    different
