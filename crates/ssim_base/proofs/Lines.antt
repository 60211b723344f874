-- The bytes of an export as lines of records and fill, and what the numbers of its records are.
use Rattle.std.proofs.Common.{◌≡◌, ℕ, zero, suc, ◌+◌, List, [], ◌∷◌, ◌++◌, map, length, replicate, Option, Some, None, Result, Ok, Err, refl, sym, ap, ◌∙◌, append_assoc}
use Rattle.std.specs.List.{flat_map}
use Rattle.ssim_records.specs.Frames.{fill}
use Rattle.ssim_records.specs.Record.{written, block_of, lines, numbered, AreItems, WrittenSpells}
use Rattle.ssim_records.specs.declared.record.Record.{Record}
use Rattle.ssim_base.specs.Export.{line, fill_count, section_bytes, export_bytes, result_map}
use Rattle.ssim_base.specs.clauses.ReadBack.{records_of, section_items, items_of}
use Rattle.ssim_base.specs.ReadBack.{EachSpells}

-- ---- lines

lines-append : (xs ys : List (Option Record)) → lines (xs ++ ys) ≡ lines xs ++ lines ys
lines-append [] ys = refl
lines-append (x ∷ xs) ys = ap (λ bytes. line (block_of x) ++ bytes) (lines-append xs ys) ∙ sym (append_assoc (line (block_of x)) (lines xs) (lines ys))

pub lines-records : (rs : List Record) → lines (map (λ r. Some r) rs) ≡ flat_map (λ r. line (written r)) rs
lines-records [] = refl
lines-records (r ∷ rs) = ap (λ bytes. line (written r) ++ bytes) (lines-records rs)

lines-fill : (n : ℕ) → lines (replicate n None) ≡ flat_map line (replicate n fill)
lines-fill zero = refl
lines-fill (suc n) = ap (λ bytes. line fill ++ bytes) (lines-fill n)

section-lines : (rs : List Record) → lines (section_items rs) ≡ section_bytes rs
section-lines rs =
    lines-append (map (λ r. Some r) rs) (replicate (fill_count (length rs)) None)
    ∙ ap (λ bytes. bytes ++ lines (replicate (fill_count (length rs)) None)) (lines-records rs)
    ∙ ap (λ bytes. flat_map (λ r. line (written r)) rs ++ bytes) (lines-fill (fill_count (length rs)))

-- the bytes of an export are lines of records and fill
pub export-lines : (sections : List (List Record)) → lines (items_of sections) ≡ export_bytes sections
export-lines [] = refl
export-lines (s ∷ sections) =
    lines-append (section_items s) (items_of sections)
    ∙ ap (λ bytes. bytes ++ lines (items_of sections)) (section-lines s)
    ∙ ap (λ bytes. section_bytes s ++ bytes) (export-lines sections)

-- ---- numbers

-- the records among the fill, with their numbers
abbrev pub records_at : ℕ → List (Option Record) → List (ℕ × Record)
records_at n [] = []
records_at n (None ∷ later) = records_at (n + 1) later
records_at n (Some r ∷ later) = (n + 1, r) ∷ records_at (n + 1) later

abbrev pub records_among : List (Option Record) → List Record
records_among [] = []
records_among (None ∷ later) = records_among later
records_among (Some r ∷ later) = r ∷ records_among later

pub at-among : (n : ℕ) (items : List (Option Record)) → map (λ r. r.1) (records_at n items) ≡ records_among items
at-among n [] = refl
at-among n (None ∷ later) = at-among (n + 1) later
at-among n (Some r ∷ later) = ap (λ rs. r ∷ rs) (at-among (n + 1) later)

among-append : (xs ys : List (Option Record)) → records_among (xs ++ ys) ≡ records_among xs ++ records_among ys
among-append [] ys = refl
among-append (None ∷ xs) ys = among-append xs ys
among-append (Some r ∷ xs) ys = ap (λ rs. r ∷ rs) (among-append xs ys)

among-fill : (n : ℕ) → records_among (replicate n None) ≡ []
among-fill zero = refl
among-fill (suc n) = among-fill n

pub among-records : (rs : List Record) → records_among (map (λ r. Some r) rs) ≡ rs
among-records [] = refl
among-records (r ∷ rs) = ap (λ xs. r ∷ xs) (among-records rs)

nothing_after : (rs : List Record) → rs ++ [] ≡ rs
nothing_after [] = refl
nothing_after (r ∷ rs) = ap (λ xs. r ∷ xs) (nothing_after rs)

section-among : (rs : List Record) → records_among (section_items rs) ≡ rs
section-among rs =
    among-append (map (λ r. Some r) rs) (replicate (fill_count (length rs)) None)
    ∙ ap (λ xs. xs ++ records_among (replicate (fill_count (length rs)) None)) (among-records rs)
    ∙ ap (λ xs. rs ++ xs) (among-fill (fill_count (length rs)))
    ∙ nothing_after rs

items-among : (sections : List (List Record)) → records_among (items_of sections) ≡ records_of sections
items-among [] = refl
items-among (s ∷ sections) =
    among-append (section_items s) (items_of sections)
    ∙ ap (λ xs. xs ++ records_among (items_of sections)) (section-among s)
    ∙ ap (λ xs. s ++ xs) (items-among sections)

-- the numbered records of an export are its records
pub records-numbered : (sections : List (List Record)) → map (λ r. r.1) (records_at 0 (items_of sections)) ≡ records_of sections
records-numbered sections = at-among 0 (items_of sections) ∙ items-among sections

-- what is written for each record of an export spells it
pub each-spells : WrittenSpells → (n : ℕ) (items : List (Option Record)) → AreItems items → EachSpells (numbered n items) (records_at n items)
each-spells spells n [] h = tt
each-spells spells n (None ∷ later) h = each-spells spells (n + 1) later h.1
each-spells spells n (Some r ∷ later) h = (refl, spells r h.0, each-spells spells (n + 1) later h.1)

-- ---- what an export is the bytes of

pub from_sections : {E : Type 0} (r : Result (List (List Record)) E) (bytes : List ℕ) → result_map export_bytes r ≡ Ok bytes
    → (sections : List (List Record)) × (r ≡ Ok sections) × (export_bytes sections ≡ bytes)
from_sections (Ok sections) bytes h = (sections, refl, cc)
from_sections (Err e) bytes h = absurd cc

-- ---- fill
