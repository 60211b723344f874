-- Equal bytes are read as a data set in one way, or are refused in one way: their blocks are the same,
-- each spells one record or has one fault, and a failure of the reader is no refusal of the bytes.
use Rattle.std.proofs.Common.{◌≡◌, ◌∙◌, ◌≤◌, ◌+◌, ◌-◌, ℕ, false, List, [], ◌∷◌, ◌++◌, length, Option}
use Rattle.std.proofs.Common.{Some, None, Ok, Err, refl, sym, ap, ap₂, subst, inl, inr, append-nil}
use Rattle.std.proofs.Common.{arith}
use Rattle.ssim_records.specs.Frames.{Frames, FramesAreOne, others}
use Rattle.ssim_records.specs.Record.{Spells, fault_of}
use Rattle.ssim_records.specs.declared.fault.RecordFault.{RecordFault}
use Rattle.ssim_records.specs.declared.fault.RecordFault.TheVariants.{Short, BadType, BadColumn}
use Rattle.ssim_records.specs.declared.fault.RecordFault.TheVariants.{ReadFault, ReaderNeverEnds}
use Rattle.ssim_records.specs.declared.record.Record.{Record}
use Rattle.ssim_records.proofs.AnyRecord.{no_fault, one_record}
use Rattle.ssim_base.specs.Base.{Ending, Done, Broken, Outcome, at_end, at_record, first_refusal, kept}
use Rattle.ssim_base.specs.Base.{missing, refusal_at}
use Rattle.ssim_base.specs.Reading.{Begins, Gives, IsFaulty, IsReadAs, Stops}
use Rattle.ssim_base.specs.declared.fault.BaseFault.{BaseFault}
use Rattle.ssim_base.specs.declared.fault.BaseFault.TheVariants.{Read}
use Rattle.ssim_base.specs.declared.fault.BaseRefusal.{BaseRefusal}
use Rattle.ssim_program.specs.Made.{IsOfBytes, file_limit}
use Rattle.ssim_program.proofs.FirstProblem.{fault_in, fault_is, faulty_has}
use Rattle.ssim_program.proofs.Origins.{same_some}

-- a fault, if there is one, is of the bytes
abbrev pub IsNoFailure : Option BaseFault → Type 0
IsNoFailure None = Unit {0}
IsNoFailure (Some fault) = IsOfBytes fault

-- ---- the end

-- how the records end, if the reader does not fail
abbrev ending_by : ℕ → Option RecordFault → Ending
ending_by number None = Done number
ending_by number (Some fault) = Broken fault

abbrev ending_of : ℕ → List ℕ → List (ℕ × List ℕ) → Ending
ending_of count [] [] = Done (count + 1)
ending_of count (byte ∷ rest) [] = Broken (Short (count + 1))
ending_of count rest (block ∷ left) = ending_by 0 (fault_of block.0 block.1)

nothing_left : (block : ℕ × List ℕ) (left : List (ℕ × List ℕ)) → block ∷ left ≡ [] → ⊥
nothing_left block left h = cc

faulty_end : (count : ℕ) (rest : List ℕ) (left : List (ℕ × List ℕ)) (number : ℕ) (fault : RecordFault)
    → IsFaulty left number fault → Broken fault ≡ ending_of count rest left
faulty_end count rest [] number fault (block, later, is, faulty) =
    absurd (nothing_left (number, block) later (sym is))
faulty_end count rest ((m, b) ∷ left) number fault faulty =
    sym (ap (ending_by 0) (faulty_has m b left number fault faulty))

one_end : (left : List (ℕ × List ℕ)) (ending : Ending) (count : ℕ) (rest : List ℕ)
    (missed : Option BaseRefusal) → Stops count rest 0 left ending → IsNoFailure (at_end ending missed)
    → ending ≡ ending_of count rest left
one_end [] (Done number) count [] missed (none, empty, zero, at) of = ap Done at
one_end [] (Done number) count (byte ∷ rest) missed (none, empty, zero, at) of = absurd cc
one_end (b ∷ left) (Done number) count rest missed (none, empty, zero, at) of =
    absurd (nothing_left b left none)
one_end [] (Broken (Short number)) count [] missed (none, more, zero, at) of =
    absurd (omega (arith, more))
one_end [] (Broken (Short number)) count (byte ∷ rest) missed (none, more, zero, at) of =
    ap (λ (n : ℕ). Broken (Short n)) at
one_end (b ∷ left) (Broken (Short number)) count rest missed (none, more, zero, at) of =
    absurd (nothing_left b left none)
one_end left (Broken (ReaderNeverEnds number)) count rest missed (none, more, at) of =
    absurd (omega (arith, more))
one_end left (Broken (ReadFault number)) count rest missed stops of = absurd of
one_end left (Broken (BadType number)) count rest missed faulty of =
    faulty_end count rest left number (BadType number) faulty
one_end left (Broken (BadColumn number column)) count rest missed faulty of =
    faulty_end count rest left number (BadColumn number column) faulty

-- ---- all records

-- a block that spells a record is no end
no_end : (b : ℕ × List ℕ) (left : List (ℕ × List ℕ)) (r : Record) (ending : Ending) (count : ℕ)
    (rest : List ℕ) (missed : Option BaseRefusal) → Spells r b.1 → Stops count rest 0 (b ∷ left) ending
    → IsNoFailure (at_end ending missed) → ⊥
no_end b left r (Done number) count rest missed spells stops of = nothing_left b left stops.0
no_end b left r (Broken (Short number)) count rest missed spells stops of = nothing_left b left stops.0
no_end b left r (Broken (ReaderNeverEnds number)) count rest missed spells stops of =
    nothing_left b left stops.0
no_end b left r (Broken (ReadFault number)) count rest missed spells stops of = of
no_end b left r (Broken (BadType number)) count rest missed spells faulty of =
    let none = no_fault b.0 b.1 r spells in let some = faulty_has b.0 b.1 left number (BadType number)
    faulty in absurd cc
no_end b left r (Broken (BadColumn number column)) count rest missed spells faulty of =
    let none = no_fault b.0 b.1 r spells in let some = faulty_has b.0 b.1 left number
    (BadColumn number column) faulty in absurd cc

-- one record, and then the others if it is not refused
one_more : (n : ℕ) (o : Option BaseRefusal) (found other : Option BaseFault)
    → (o ≡ None → IsNoFailure found → IsNoFailure other → found ≡ other)
    → IsNoFailure (at_record n o found) → IsNoFailure (at_record n o other)
    → at_record n o found ≡ at_record n o other
one_more n (Some refusal) found other next of of_too = refl
one_more n None found other next of of_too = next refl of of_too

one_fault : (left : List (ℕ × List ℕ)) (records more : List (ℕ × Record)) (ending other : Ending)
    (earlier : List Record) (count : ℕ) (rest : List ℕ)
    → Gives count rest 0 left records ending → Gives count rest 0 left more other
    → IsNoFailure (first_refusal ending earlier records)
    → IsNoFailure (first_refusal other earlier more)
    → first_refusal ending earlier records ≡ first_refusal other earlier more
one_fault left [] [] ending other earlier count rest stops stops_too of of_too =
    ap (λ (e : Ending). at_end e (missing earlier))
    (one_end left ending count rest (missing earlier) stops of
    ∙ sym (one_end left other count rest (missing earlier) stops_too of_too))
one_fault [] [] (s ∷ more) ending other earlier count rest stops gives of of_too = absurd gives
one_fault (b ∷ left) [] (s ∷ more) ending other earlier count rest stops gives of of_too =
    absurd (no_end b left s.1 ending count rest (missing earlier) gives.1 stops of)
one_fault [] (r ∷ records) more ending other earlier count rest gives stops of of_too = absurd gives
one_fault (b ∷ left) (r ∷ records) [] ending other earlier count rest gives stops of of_too =
    absurd (no_end b left r.1 other count rest (missing earlier) gives.1 stops of_too)
one_fault (b ∷ left) (r ∷ records) (s ∷ more) ending other earlier count rest (at, spells, gives)
    (at_too, spells_too, gives_too) of of_too =
    let same : r ≡ s =
    ap₂ (λ (n : ℕ) (x : Record). (n, x)) (sym at ∙ at_too)
    (one_record b.1 r.1 s.1 spells spells_too) in
    let found = first_refusal ending (kept earlier r.1 ∷ earlier) records in
    let here : ℕ × Record → Option BaseFault =
    λ x. at_record x.0 (refusal_at earlier x.1)
    (first_refusal other (kept earlier x.1 ∷ earlier) more) in
    one_more r.0 (refusal_at earlier r.1) found (first_refusal other (kept earlier r.1 ∷ earlier) more)
    (λ none. one_fault left records more ending other (kept earlier r.1 ∷ earlier) count rest gives
    gives_too) of (subst (λ (x : ℕ × Record). IsNoFailure (here x)) (sym same) of_too)
    ∙ ap here same

-- ---- the outcomes

-- all records of bytes within the limit, or the first of them and then a failure
record IsFound (bytes : List ℕ) (fault : Option BaseFault) : Type 0 where
  blocks : List (List ℕ)
  rest : List ℕ
  framed : Frames 0 false bytes blocks rest
  records : List (ℕ × Record)
  ending : Ending
  gives : Gives (length blocks) rest 0 (others 0 blocks) records ending
  is : fault ≡ first_refusal ending [] records

failed : (count : ℕ) (rest : List ℕ) (left : List (ℕ × List ℕ)) (records : List (ℕ × Record))
    → Begins left records → Gives count rest 0 left records (Broken (ReadFault 0))
failed count rest left [] begins = omega arith
failed count rest [] (r ∷ records) begins = absurd begins
failed count rest (b ∷ left) (r ∷ records) (at, spells, begins) =
    (at, spells, failed count rest left records begins)

found : (bytes : List ℕ) (outcome : Outcome) → length bytes ≤ file_limit
    → IsReadAs file_limit bytes outcome → IsFound bytes (fault_in outcome)
found bytes outcome within (inl all) =
    let given = all.given in
    let none : length bytes - file_limit ≡ 0 = omega (arith, within) in
    record {
      blocks = given.blocks;
      rest = given.rest;
      framed = subst (λ (n : ℕ). Frames n false bytes given.blocks given.rest) none given.framed;
      records = all.records;
      ending = all.ending;
      gives = subst (λ (n : ℕ). Gives (length given.blocks) given.rest n (others 0 given.blocks)
          all.records all.ending) none given.given;
      is = ap fault_in all.is ∙ fault_is (first_refusal all.ending [] all.records) _;
    }
found bytes outcome within (inr first) =
    let f = first.first in
    let none : length bytes - file_limit ≡ 0 = omega (arith, within) in
    let broken = Broken (ReadFault 0) in
    record {
      blocks = f.blocks;
      rest = f.rest;
      framed = subst (λ (n : ℕ). Frames n false bytes f.blocks f.rest) none f.framed;
      records = first.records;
      ending = broken;
      gives = failed (length f.blocks) f.rest (others 0 f.blocks) first.records f.begins;
      is = ap fault_in (first.is [] broken)
          ∙ fault_is (first_refusal broken [] (first.records ++ [])) _
          ∙ ap (first_refusal broken []) (append-nil first.records);
    }

-- bytes within the limit have one fault or none, if the reader does not fail
pub one_outcome : FramesAreOne → (bytes : List ℕ) (one other : Outcome) → length bytes ≤ file_limit
    → IsReadAs file_limit bytes one → IsReadAs file_limit bytes other
    → IsNoFailure (fault_in one) → IsNoFailure (fault_in other) → fault_in one ≡ fault_in other
one_outcome frames bytes one other within read read_too of of_too =
    let a = found bytes one within read in
    let b = found bytes other within read_too in
    let same = frames 0 false bytes a.blocks b.blocks a.rest b.rest a.framed b.framed in
    let gives : Gives (length a.blocks) a.rest 0 (others 0 a.blocks) b.records b.ending =
    subst (λ (rs : List ℕ). Gives (length a.blocks) rs 0 (others 0 a.blocks) b.records b.ending)
    (sym same.1)
    (subst (λ (bs : List (List ℕ)). Gives (length bs) b.rest 0 (others 0 bs) b.records b.ending)
    (sym same.0) b.gives) in
    a.is
    ∙ one_fault (others 0 a.blocks) a.records b.records a.ending b.ending [] (length a.blocks) a.rest
    a.gives gives (subst IsNoFailure a.is of) (subst IsNoFailure b.is of_too)
    ∙ sym b.is
