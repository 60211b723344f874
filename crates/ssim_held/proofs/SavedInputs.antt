-- The records of a desk file are read from an input: the line that says their number, and their
-- lines.
use Rattle.std.proofs.Common.{◌≡◌, ℕ, ◌<◌, ◌^◌, List, ◌++◌, length, codes, Option, Some, None, IfSome, refl, sym, ap, subst, ◌∙◌}
use Rattle.std.proofs.lemmas.List.{append_cancel_left}
use Rattle.ssim_records.specs.clauses.InputBuffer.{Input, Uses, ahead}
use Rattle.ssim_records.specs.declared.record.Record.{Record}
use Rattle.ssim_records.proofs.InputBuffers.{uses_then}
use Rattle.ssim_base.specs.SavedBase.{IsBaseRecords, saved}
use Rattle.ssim_held.specs.File.{counted, records_part}
use Rattle.ssim_held.proofs.Inputs.{both_known, some_map}
use Rattle.ssim_held.proofs.SavedParts.{records_split}

-- the bytes begin with the line of no number, but this one
abbrev pub SaysOnly : Option (Option ℕ) → List ℕ → Type 0
SaysOnly read bytes = (n : ℕ) (later : List ℕ) → n < 2 ^ 64 → bytes ≡ counted (codes "RECORDS") n ++ later → read ≡ Some (Some n)

-- the bytes begin with the lines of no such number of records
abbrev pub HasNoLines : Option ℕ → List ℕ → Type 0
HasNoLines count bytes = (records : List Record) (later : List ℕ) → IsBaseRecords records → count ≡ Some (length records) → bytes ≡ saved records ++ later → ⊥

-- the bytes begin with no records of a base
abbrev pub HasNoRecords : List ℕ → Type 0
HasNoRecords bytes = (records : List Record) (later : List ℕ) → length records < 2 ^ 64 → IsBaseRecords records → bytes ≡ records_part records ++ later → ⊥

apart : (count : Option ℕ) (n : ℕ) → count ≡ None → Some count ≡ Some (Some n) → ⊥
apart count n none e = let same : count ≡ Some n = cc in absurd cc

unread : (read : Option (Option ℕ)) (n : ℕ) → read ≡ None → read ≡ Some (Some n) → ⊥
unread read n none e = absurd cc

-- the number was read, and so many records were not
pub no_lines : (count : Option ℕ) (old new : Input) (l0 l1 : Option (List ℕ)) → IfSome count (λ n. Uses (counted (codes "RECORDS") n) old l0 new l1)
    → IfSome (ahead old l0) (SaysOnly (Some count)) → IfSome (ahead new l1) (HasNoLines count) → IfSome (ahead old l0) HasNoRecords
no_lines None old new l0 l1 h only none = some_map (SaysOnly (Some None)) HasNoRecords (ahead old l0)
    (λ bs f records later low is e. apart None (length records) refl (f (length records) (saved records ++ later) low (records_split bs later records e))) only
no_lines (Some n) old new l0 l1 h only none = both_known (SaysOnly (Some (Some n))) (HasNoLines (Some n)) HasNoRecords (counted (codes "RECORDS") n) (ahead old l0) (ahead new l1) h.next only none by
  where
    by : (rest : List ℕ) → SaysOnly (Some (Some n)) (counted (codes "RECORDS") n ++ rest) → HasNoLines (Some n) rest → HasNoRecords (counted (codes "RECORDS") n ++ rest)
    by rest f g records later low is e =
        let split = records_split (counted (codes "RECORDS") n ++ rest) later records e in
        let same : Some (Some n) ≡ Some (Some (length records)) = f (length records) (saved records ++ later) low split in
        let number : n ≡ length records = cc in
        g records later is (ap Some number)
        (append_cancel_left (counted (codes "RECORDS") n) rest (saved records ++ later) (split ∙ ap (λ k. counted (codes "RECORDS") k ++ (saved records ++ later)) (sym number)))

-- the number was not read
pub no_number : (a : Option (List ℕ)) → IfSome a (SaysOnly None) → IfSome a HasNoRecords
no_number a only = some_map (SaysOnly None) HasNoRecords a
    (λ bs f records later low is e. unread None (length records) refl (f (length records) (saved records ++ later) low (records_split bs later records e))) only

-- the number and the records were read
pub records_used : (count : Option ℕ) (records : List Record) (a b c : Input) (l0 l1 l2 : Option (List ℕ)) → IfSome count (λ n. Uses (counted (codes "RECORDS") n) a l0 b l1) → count ≡ Some (length records) → Uses (saved records) b l1 c l2
    → Uses (records_part records) a l0 c l2
records_used None records a b c l0 l1 l2 h is k = absurd cc
records_used (Some n) records a b c l0 l1 l2 h is k =
    let number : n ≡ length records = cc in
    uses_then (counted (codes "RECORDS") (length records)) (saved records) a b c l0 l1 l2 (subst (λ m. Uses (counted (codes "RECORDS") m) a l0 b l1) number h) k
