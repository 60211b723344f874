-- The parts of a desk file, one after another: what was read of a part is the part, and no other
-- base and messages have it.
use Rattle.std.proofs.Common.{◌≡◌, ℕ, zero, suc, ◌*◌, ◌<◌, ◌≤◌, Bool, true, false, not, nat_eq, List, [], ◌∷◌, ◌++◌, length, take, drop, codes, Option, Some, None, IfSome, refl, sym, ap, subst, ◌∙◌, arith, append_assoc, length-append}
use Rattle.std.specs.Prelude.{IsSomeAnd}
use Rattle.std.specs.Option.{option_eq}
use Rattle.std.proofs.lemmas.Bool.Decides.{nat_tests}
use Rattle.std.specs.List.{All, AllByRecursion as Each, flat_map}
use Rattle.std.proofs.lemmas.List.{append-nil, take-append-drop}
use Rattle.std.proofs.lemmas.List.Elements.{All-from_recursion, recursion_from_All}
use Rattle.ssim_records.specs.Record.{IsRecord}
use Rattle.ssim_records.specs.declared.record.Record.{Record}
use Rattle.ssim_base.specs.BaseSeen.{BaseSeen}
use Rattle.ssim_base.specs.SavedBase.{IsBaseRecords, saved}
use Rattle.ssim_base.specs.Stations.{Row}
use Rattle.ssim_text.specs.Spelling.{EqualWhereWrittenEqual}
use Rattle.ssim_held.specs.File.{IsRow, IsSpelled, counted, records_part, row_line, rows_part, text_element, texts_part}
use Rattle.ssim_held.specs.internal.DeskFileReader.{record_line, AreHeld, IsNextText, IsOf}
use Rattle.ssim_held.specs.Entries.{AreRising, Entry, IsEntry}
use Rattle.ssim_held.specs.declared.desk_file_reader.version.FileVersion.{FileVersion}
use Rattle.ssim_held.proofs.Files.{IsText, elements_apart, record_length, texts_apart}
use Rattle.ssim_held.proofs.SavedElements.{each_front, each_push, flat_map-append, length_all, part_is}
use Rattle.ssim_held.proofs.SavedRows.{length_rows}
use Rattle.ssim_held.proofs.SavedTexts.{rising_front}

-- the records and rows of a base
abbrev pub IsBase : BaseSeen → Type 0
IsBase base = IsBaseRecords base.records × All IsRow base.rows

-- ---- rows

pub rows_size : (rows : List Row) → All IsRow rows → length (flat_map row_line rows) ≡ length rows * 26
rows_size rows all = length_all row_line 26 rows (length_rows rows (recursion_from_All IsRow rows all))

pub rows_found : (bytes rest lines after : List ℕ) (rows : List Row) (count : Option ℕ) → IfSome count (λ n. bytes ≡ counted (codes "STATIONS") n ++ rest) → IsSomeAnd count (λ n. length lines ≡ n * 26)
    → rest ≡ lines ++ after → All IsRow rows → lines ≡ flat_map row_line rows → bytes ≡ rows_part rows ++ after
rows_found bytes rest lines after rows count a b c all d =
    part_is row_line (codes "STATIONS") bytes rest lines after rows 26 count (λ n e. let size = rows_size rows all in omega (arith, e, size)) a b c d

pub rows_split : (bytes later : List ℕ) (rows : List Row) → bytes ≡ rows_part rows ++ later → bytes ≡ counted (codes "STATIONS") (length rows) ++ (flat_map row_line rows ++ later)
rows_split bytes later rows e = e ∙ append_assoc (counted (codes "STATIONS") (length rows)) (flat_map row_line rows) later

-- ---- records

pub records_size : (records : List Record) → IsBaseRecords records → length (saved records) ≡ length records * 201
records_size records is = length_all record_line 201 records (record_length records (recursion_from_All IsRecord records is.each_written))

pub records_split : (bytes later : List ℕ) (records : List Record) → bytes ≡ records_part records ++ later → bytes ≡ counted (codes "RECORDS") (length records) ++ (saved records ++ later)
records_split bytes later records e = e ∙ append_assoc (counted (codes "RECORDS") (length records)) (saved records) later

-- ---- texts

-- a message that a file of the version holds
pub record IsHeldText (version : FileVersion) (records : List Record) (e : Entry) : Type 0 where
  pub entry : IsEntry records e
  pub spelled : IsSpelled e
  pub of_version : IsOf version e

all_texts : (version : FileVersion) (records : List Record) (es : List Entry) → Each (IsEntry records) es → Each IsSpelled es → Each (IsOf version) es → Each (IsHeldText version records) es
all_texts version records [] a b c = tt
all_texts version records (e ∷ es) a b c = (record { entry = a.0; spelled = b.0; of_version = c.0 }, all_texts version records es a.1 b.1 c.1)

pub held_texts : (version : FileVersion) (records : List Record) (es : List Entry) → AreHeld version records es → Each (IsHeldText version records) es
held_texts version records es h =
    all_texts version records es (recursion_from_All (IsEntry records) es h.entries_are.each) (recursion_from_All IsSpelled es h.spelled) (recursion_from_All (IsOf version) es h.of_version)

plain_texts : (version : FileVersion) (records : List Record) (es : List Entry) → Each (IsHeldText version records) es → Each (IsText records) es
plain_texts version records [] each = tt
plain_texts version records (e ∷ es) each = (record { entry = each.0.entry; spelled = each.0.spelled }, plain_texts version records es each.1)

map_each : {X : Type 0} (P Q : X → Type 0) → ((x : X) → P x → Q x) → (xs : List X) → Each P xs → Each Q xs
map_each P Q f [] each = tt
map_each P Q f (x ∷ xs) each = (f x each.0, map_each P Q f xs each.1)

pub are_held : (version : FileVersion) (records : List Record) (es : List Entry) → AreRising es → Each (IsHeldText version records) es → AreHeld version records es
are_held version records es rising each = record {
  entries_are = record { rising = rising; each = All-from_recursion (IsEntry records) es (map_each (IsHeldText version records) (IsEntry records) (λ e h. h.entry) es each) };
  spelled = All-from_recursion IsSpelled es (map_each (IsHeldText version records) IsSpelled (λ e h. h.spelled) es each);
  of_version = All-from_recursion (IsOf version) es (map_each (IsHeldText version records) (IsOf version) (λ e h. h.of_version) es each);
}

-- the texts so far, and the bytes after them
pub record Goes (version : FileVersion) (records : List Record) (start : List ℕ) (count : Option ℕ) (held : List Entry) (rest : List ℕ) : Type 0 where
  pub read : start ≡ flat_map text_element held ++ rest
  pub rising : AreRising held
  pub each : Each (IsHeldText version records) held
  pub few : (n : ℕ) → count ≡ Some n → length held ≤ n

pub goes_more : (version : FileVersion) (records : List Record) (start : List ℕ) (count : Option ℕ) (held : List Entry) (next : Entry) (rest after : List ℕ) → Goes version records start count held rest
    → (count ≡ Some (length held) → ⊥) → IsNextText version records held next → rest ≡ text_element next ++ after → Goes version records start count (held ++ next ∷ []) after
goes_more version records start count held next rest after g more is e = record {
  read = g.read ∙ ap (λ (xs : List ℕ). flat_map text_element held ++ xs) e ∙ sym (append_assoc (flat_map text_element held) (text_element next) after)
      ∙ ap (λ (xs : List ℕ). xs ++ after) (ap (λ (xs : List ℕ). flat_map text_element held ++ xs) (sym (append-nil (text_element next))) ∙ sym (flat_map-append text_element held (next ∷ [])));
  rising = is.rising;
  each = each_push (IsHeldText version records) held next g.each (record { entry = is.entry; spelled = is.spelled; of_version = is.of_version });
  few = λ n h. by n h (g.few n h);
}
  where
    by : (n : ℕ) → count ≡ Some n → length held ≤ n → length (held ++ next ∷ []) ≤ n
    by n h le =
        let apart : length held ≡ n → ⊥ = λ same. more (h ∙ ap Some (sym same)) in
        omega (arith, le, apart, length-append held (next ∷ []))

pub texts_found : (version : FileVersion) (records : List Record) (bytes start : List ℕ) (count : Option ℕ) (held : List Entry) (rest : List ℕ) → IfSome count (λ n. bytes ≡ counted (codes "TEXTS") n ++ start)
    → count ≡ Some (length held) → Goes version records start count held rest → bytes ≡ texts_part held ++ rest
texts_found version records bytes start count held rest a is g =
    subst (λ o. IfSome o (λ n. bytes ≡ counted (codes "TEXTS") n ++ start)) is a ∙ ap (λ (xs : List ℕ). counted (codes "TEXTS") (length held) ++ xs) g.read
    ∙ sym (append_assoc (counted (codes "TEXTS") (length held)) (flat_map text_element held) rest)

pub texts_split : (bytes later : List ℕ) (es : List Entry) → bytes ≡ texts_part es ++ later → bytes ≡ counted (codes "TEXTS") (length es) ++ (flat_map text_element es ++ later)
texts_split bytes later es e = e ∙ append_assoc (counted (codes "TEXTS") (length es)) (flat_map text_element es) later

-- the next of other messages whose texts these are
pub record IsNextOf (version : FileVersion) (records : List Record) (held : List Entry) (rest : List ℕ) : Type 0 where
  pub next : Entry
  pub later : List ℕ
  pub is : IsNextText version records held next
  pub read : rest ≡ text_element next ++ later

next_by : EqualWhereWrittenEqual → (version : FileVersion) (records : List Record) (start later : List ℕ) (held es front back : List Entry) (rest : List ℕ) → start ≡ flat_map text_element held ++ rest
    → Each (IsText records) held → Each (IsHeldText version records) es → AreRising es → es ≡ front ++ back → length held ≡ length front → length held < length es
    → start ≡ flat_map text_element es ++ later → IsNextOf version records held rest
next_by equal version records start later held es front [] rest read mine theirs rising parts long more all = absurd (omega (arith, long, more, ap length parts, length-append front []))
next_by equal version records start later held es front (e ∷ back) rest read mine theirs rising parts long more all =
    let each = subst (Each (IsHeldText version records)) parts theirs in
    let fronts = each_front (IsHeldText version records) front (e ∷ back) each in
    let one = each_front (IsHeldText version records) (front ++ e ∷ []) back (subst (Each (IsHeldText version records)) (sym (append_assoc front (e ∷ []) back)) each) in
    let whole : flat_map text_element held ++ rest ≡ flat_map text_element front ++ (flat_map text_element (e ∷ back) ++ later) =
    sym read ∙ all ∙ ap (λ (xs : List Entry). flat_map text_element xs ++ later) parts ∙ ap (λ (xs : List ℕ). xs ++ later) (flat_map-append text_element front (e ∷ back))
    ∙ append_assoc (flat_map text_element front) (flat_map text_element (e ∷ back)) later in
    let apart = elements_apart text_element (IsText records) (texts_apart equal records) held front rest (flat_map text_element (e ∷ back) ++ later) mine (plain_texts version records front fronts) long whole in
    let its = last_of front one in
    record {
      next = e;
      later = flat_map text_element back ++ later;
      is = record {
        entry = its.entry;
        spelled = its.spelled;
        rising = subst (λ (xs : List Entry). AreRising (xs ++ e ∷ [])) (sym apart.0) (rising_front (front ++ e ∷ []) back (subst AreRising (parts ∙ sym (append_assoc front (e ∷ []) back)) rising));
        of_version = its.of_version;
      };
      read = apart.1 ∙ append_assoc (text_element e) (flat_map text_element back) later;
    }
  where
    last_of : (xs : List Entry) → Each (IsHeldText version records) (xs ++ e ∷ []) → IsHeldText version records e
    last_of [] h = h.0
    last_of (x ∷ xs) h = last_of xs h.1

length_part : (n : ℕ) (es : List Entry) → n ≤ length es → n ≡ length (take n es)
length_part zero es h = refl
length_part (suc n) [] h = absurd (omega (arith, h))
length_part (suc n) (e ∷ es) h = ap suc (length_part n es (omega (arith, h)))

pub next_of : EqualWhereWrittenEqual → (version : FileVersion) (records : List Record) (start later : List ℕ) (count : Option ℕ) (held es : List Entry) (rest : List ℕ) → Goes version records start count held rest
    → (count ≡ Some (length held) → ⊥) → AreHeld version records es → count ≡ Some (length es) → start ≡ flat_map text_element es ++ later → IsNextOf version records held rest
next_of equal version records start later count held es rest g more h is all =
    let few : length held ≤ length es = g.few (length es) is in
    let apart : length held ≡ length es → ⊥ = λ same. more (is ∙ ap Some (sym same)) in
    next_by equal version records start later held es (take (length held) es) (drop (length held) es) rest g.read (plain_texts version records held g.each) (held_texts version records es h) h.entries_are.rising
    (sym (take-append-drop (length held) es)) (length_part (length held) es few) (omega (arith, few, apart)) all

-- ---- as many as the line says

same_number : (m n : ℕ) → not (nat_eq m n) ≡ false → m ≡ n
same_number m n h = grind (arith, nat_tests)

other_number : (n : ℕ) → not (nat_eq n n) ≡ true → ⊥
other_number n h = let same : nat_eq n n ≡ true = grind (arith, nat_tests) in let never : false ≡ true = sym (ap not same) ∙ h in cc

pub not_all : (count : Option ℕ) (n k : ℕ) (t : Bool) → t ≡ not (option_eq nat_eq count (Some n)) → t ≡ true → n ≡ k → count ≡ Some k → ⊥
not_all count n k t is more same e =
    other_number n (sym (ap (λ (o : Option ℕ). not (option_eq nat_eq o (Some n))) (e ∙ ap Some (sym same))) ∙ sym is ∙ more)

all_of : (count : Option ℕ) (n : ℕ) → not (option_eq nat_eq count (Some n)) ≡ false → count ≡ Some n
all_of None n h = let never : true ≡ false = h in absurd cc
all_of (Some m) n h = ap Some (same_number m n h)

pub all_read : (count : Option ℕ) (n k : ℕ) (t : Bool) → t ≡ not (option_eq nat_eq count (Some n)) → t ≡ false → n ≡ k → count ≡ Some k
all_read count n k t is none same = all_of count n (sym is ∙ none) ∙ ap Some same
