-- All problems of a data set, not only the first.
use Rattle.std.specs.Prelude.{◌≡◌, ℕ, ◌+◌, ◌≤◌, ◌==◌, Bool, true, false, not, if◌then◌else◌, List, [], ◌∷◌, ◌++◌, length, slice_index, Option, Some, None, Result, Ok, Err}
use Rattle.std.specs.List.{list_any}
use Rattle.ssim_records.specs.Frames.{Frames, others}
use Rattle.ssim_records.specs.Record.{Spells, fault_of}
use Rattle.ssim_records.specs.declared.fault.RecordFault.{RecordFault}
use Rattle.ssim_records.specs.declared.fault.RecordFault.TheVariants.{Short}
use Rattle.ssim_records.specs.declared.record.Record.{Record}
use Rattle.ssim_records.specs.declared.record.Record.TheVariants.{Leg, Segment, Trailer}
use Rattle.ssim_base.specs.Base.{first_of, is_continued, is_overflow, is_rate, kept, missing, refusal_at, refuse_if}
use Rattle.ssim_base.specs.declared.fault.BaseFault.{BaseFault}
use Rattle.ssim_base.specs.declared.fault.BaseFault.TheVariants.{Read, Refused}
use Rattle.ssim_base.specs.declared.fault.BaseRefusal.{BaseRefusal}
use Rattle.ssim_base.specs.declared.fault.BaseRefusal.TheVariants as refused
use Rattle.ssim_base.specs.declared.problems.Problems.{Problems}

-- ---- what the blocks say

-- 200 bytes as a record, or why they are none
abbrev pub Item : Type 0
Item = Result Record RecordFault

-- what a block with this number says
abbrev pub Says : ℕ → List ℕ → Item → Type 0
Says number block (Ok r) = Spells r block
Says number block (Err fault) = fault_of number block ≡ Some fault

-- what the numbered blocks say, one after another
abbrev pub AreItems : List (ℕ × List ℕ) → List (ℕ × Item) → Type 0
AreItems [] [] = Unit {0}
AreItems (block ∷ blocks) (item ∷ items) =
    (block.0 ≡ item.0) × Says block.0 block.1 item.1 × AreItems blocks items
AreItems _ _ = ⊥

-- whether a block begins with `5`, as a trailer does
abbrev pub begins_as_trailer : ℕ × List ℕ → Bool
begins_as_trailer block = slice_index block.1 0 == 53

-- ---- the problem of each record

-- The valid records so far, the latest first; or that the header or the carrier record is invalid,
-- after which each record is read by itself.
pub data Standing : Type 0 where
  After : List Record → Standing
  Alone : Standing

-- the refusal of a record by its own columns, whatever records come before it
abbrev pub alone_refusal : Record → Option BaseRefusal
alone_refusal (Leg r) = first_of (
    refuse_if (is_overflow r.overflow) refused.Overflow
    ∷ refuse_if (not (is_rate r.rate)) refused.Frequency
    ∷ [])
alone_refusal (Segment r) = refuse_if (is_overflow r.overflow) refused.Overflow
alone_refusal (Trailer r) = refuse_if (is_continued r.code) refused.Continuation
alone_refusal _ = None

-- why a record is refused: after the valid records before it, or by itself
abbrev pub refusal_in : Standing → Record → Option BaseRefusal
refusal_in (After earlier) r = refusal_at earlier r
refusal_in Alone r = alone_refusal r

-- a refusal with the number of its record
abbrev pub fault_at : ℕ → Option BaseRefusal → List BaseFault
fault_at number (Some refusal) = Refused number refusal ∷ []
fault_at number None = []

-- the problem of a numbered item, if it has one
abbrev pub problem_in : Standing → ℕ × Item → List BaseFault
problem_in standing (number, Ok r) = fault_at number (refusal_in standing r)
problem_in standing (number, Err fault) = Read fault ∷ []

-- whether the header or the carrier record comes next
abbrev pub is_at_heading : List Record → Bool
is_at_heading (last ∷ second ∷ more) = false
is_at_heading _ = true

-- after an invalid record: the valid records stay, unless the header or the carrier was expected
abbrev pub after_invalid : List Record → Standing
after_invalid earlier = if is_at_heading earlier then Alone else After earlier

-- after a record: it is one of the valid records if it is not refused
abbrev pub after_record : List Record → Record → Option BaseRefusal → Standing
after_record earlier r None = After (kept earlier r ∷ earlier)
after_record earlier r (Some refusal) = after_invalid earlier

-- the standing after one more item
abbrev pub after_item : Standing → Item → Standing
after_item (After earlier) (Ok r) = after_record earlier r (refusal_at earlier r)
after_item (After earlier) (Err fault) = after_invalid earlier
after_item Alone item = Alone

-- Each invalid record has the refusal that it has without the invalid records before it.
abbrev pub problems_in : Standing → List (ℕ × Item) → List BaseFault
problems_in standing [] = []
problems_in standing (item ∷ items) =
    problem_in standing item ++ problems_in (after_item standing item.1) items

-- the standing after these items
abbrev pub standing_after : Standing → List (ℕ × Item) → Standing
standing_after standing [] = standing
standing_after standing (item ∷ items) = standing_after (after_item standing item.1) items

-- ---- the problem at the end

-- what is missing: a header, a carrier record, or any record that begins with `5`
abbrev pub missing_in : Standing → Bool → Option BaseRefusal
missing_in Alone trailer = None
missing_in (After []) trailer = missing []
missing_in (After (header ∷ [])) trailer = missing (header ∷ [])
missing_in (After (last ∷ second ∷ more)) trailer = if trailer then None else Some refused.NoTrailer

-- the problem at the end: bytes too few for a record (10), or else what is missing
abbrev pub end_problem : Standing → Bool → ℕ → List ℕ → List BaseFault
end_problem standing trailer number [] = fault_at number (missing_in standing trailer)
end_problem standing trailer number (byte ∷ rest) = Read (Short number) ∷ []

-- ---- the whole

-- All problems of the bytes of a data set, in order, and the number of its records other than fill.
pub record AreProblems (bytes : List ℕ) (problems : Problems) : Type 0 where
  pub blocks : List (List ℕ)
  pub rest : List ℕ
  pub framed : Frames 0 false bytes blocks rest
  pub items : List (ℕ × Item)
  pub are_items : AreItems (others 0 blocks) items
  pub counted : problems.records ≡ length items
  pub faults_are : problems.faults.items
      ≡ problems_in (After []) items
      ++ end_problem (standing_after (After []) items)
      (list_any begins_as_trailer (others 0 blocks)) (length blocks + 1) rest

-- bytes within the limit have these problems; nothing is said of a reader that does not report its
-- bytes
abbrev pub HasProblems : ℕ → Option (List ℕ) → Problems → Type 0
HasProblems limit None problems = Unit {0}
HasProblems limit (Some bytes) problems = (length bytes ≤ limit) × AreProblems bytes problems

-- Bytes have one list of problems.
abbrev pub SameBytesSameProblems : Type 0
SameBytesSameProblems =
    (bytes : List ℕ) (one other : Problems) → AreProblems bytes one → AreProblems bytes other
    → (one.records ≡ other.records) × (one.faults.items ≡ other.faults.items)
