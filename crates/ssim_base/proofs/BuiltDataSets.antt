-- A data set that is made record by record.
use Rattle.std.proofs.Common.{◌≡◌, ℕ, ◌+◌, not, nat_eq, List, [], ◌∷◌, ◌++◌, map, reverse}
use Rattle.std.proofs.Common.{Option, Some, None, Ok, Err}
use Rattle.std.proofs.Common.{refl, sym, ap, ◌∙◌, append_assoc}
use Rattle.std.proofs.lemmas.List.{append-nil, reverse-append}
use Rattle.std.proofs.lemmas.List.Elements.{All-append}
use Rattle.ssim_records.specs.Record.{IsRecord, serial_of}
use Rattle.ssim_records.specs.declared.fault.RecordFault.{RecordFault}
use Rattle.ssim_records.specs.declared.record.Record.{Record}
use Rattle.ssim_base.specs.Base.{Ending, Done, Broken, at_record, check_notes, data_set, first_refusal}
use Rattle.ssim_base.specs.Base.{kept, kept_all, missing, note_if, notes_of, refusal_at}
use Rattle.ssim_base.specs.Base.{unless_refused}
use Rattle.ssim_base.specs.clauses.Building.{HasBuilt, IsRefusedAt, IsRefusedAtEnd}
use Rattle.ssim_base.specs.internal.Acceptance.{AcceptsNext, IsRecordRefused}
use Rattle.ssim_base.specs.internal.DataSetReader.{notes_at}
use Rattle.ssim_base.specs.declared.data_set.builder.DataSetBuilder.{DataSetBuilder}
use Rattle.ssim_base.specs.declared.fault.BaseFault.{BaseFault}
use Rattle.ssim_base.specs.declared.fault.BaseFault.TheVariants as fault
use Rattle.ssim_base.specs.declared.fault.BaseFault.TheVariants.{Read, Refused}
use Rattle.ssim_base.specs.declared.fault.BaseRefusal.{BaseRefusal}
use Rattle.ssim_base.specs.declared.note.Note.TheVariants.{Serial}
use Rattle.ssim_base.proofs.ReadingLemmas.{Numbered, all-one, records_in}

-- ---- one more record

pub one-built : (old new : DataSetBuilder) (done : List Numbered) (x : Numbered) (closed : Record)
    → (h : HasBuilt old done) → AcceptsNext new.reader.kept h.earlier x.1 closed
    → new.records.items ≡ reverse (kept h.earlier x.1 ∷ h.earlier) → IsRecord x.1
    → HasBuilt new (done ++ x ∷ [])
one-built old new done x closed h stood listed is = record {
  earlier = kept h.earlier x.1 ∷ h.earlier;
  has = listed;
  is_kept = stood.is_kept;
  records = All-append (λ r. IsRecord r.1) done (x ∷ []) h.records (all-one x is);
  refused = λ ending later.
      ap (first_refusal ending []) (append_assoc done (x ∷ []) later)
      ∙ h.refused ending (x ∷ later)
      ∙ ap (λ o. at_record x.0 o (first_refusal ending (kept h.earlier x.1 ∷ h.earlier) later))
      stood.valid;
  kept = λ later.
      ap (λ rs. kept_all [] (records_in rs)) (append_assoc done (x ∷ []) later)
      ∙ h.kept (x ∷ later)
      ∙ sym
      (append_assoc (reverse h.earlier) (kept h.earlier x.1 ∷ [])
      (kept_all (kept h.earlier x.1 ∷ h.earlier) (records_in later)))
      ∙ ap (λ rs. rs ++ kept_all (kept h.earlier x.1 ∷ h.earlier) (records_in later))
      (sym (reverse-append (kept h.earlier x.1 ∷ []) h.earlier));
}

-- its notes
pub one-noted : (number previous : ℕ) (r : Record)
    → notes_at number previous r ≡ notes_of previous ((number, r) ∷ [])
one-noted number previous r =
    ap (λ ns. note_if (not (nat_eq (serial_of r) (previous + 1))) (Serial number) ++ ns)
    (sym (append-nil (check_notes number previous r)))

-- ---- a record is refused

refused-built : (b : DataSetBuilder) (done later : List Numbered) (ending : Ending) (x : Numbered)
    (refusal : BaseRefusal)
    → (h : HasBuilt b done) → refusal_at h.earlier x.1 ≡ Some refusal
    → data_set ending (done ++ x ∷ later) ≡ Err (Refused x.0 refusal)
refused-built b done later ending x refusal h is =
    ap (λ o. unless_refused o
    (kept_all [] (records_in (done ++ x ∷ later)), notes_of 0 (done ++ x ∷ later)))
    (h.refused ending (x ∷ later)
    ∙ ap (λ o. at_record x.0 o (first_refusal ending (kept h.earlier x.1 ∷ h.earlier) later)) is)

-- by the refusal of the record after the earlier ones
pub refused-record : (b : DataSetBuilder) (done : List Numbered) (x : Numbered) (e : BaseFault)
    → (h : HasBuilt b done) → IsRecordRefused x.0 h.earlier x.1 e → IsRefusedAt done x e
refused-record b done x fault.Memory h is = tt
refused-record b done x (Read f) h is = absurd is
refused-record b done x (Refused n refusal) h is = λ ending later.
    rw is.0 (refused-built b done later ending x refusal h is.1)

-- ---- the end

-- the data set is refused if a record cannot be read
pub broken-built : (b : DataSetBuilder) (done : List Numbered) (f : RecordFault) → HasBuilt b done
    → data_set (Broken f) done ≡ Err (Read f)
broken-built b done f h =
    ap (λ o. unless_refused o (kept_all [] (records_in done), notes_of 0 done))
    (ap (first_refusal (Broken f) []) (sym (append-nil done)) ∙ h.refused (Broken f) [])

-- nothing is missing
pub whole-built : (b : DataSetBuilder) (done : List Numbered) (number : ℕ) (h : HasBuilt b done)
    → missing h.earlier ≡ None
    → data_set (Done number) done ≡ Ok (b.records.items, notes_of 0 done)
whole-built b done number h whole =
    ap (λ o. unless_refused o (kept_all [] (records_in done), notes_of 0 done))
    (ap (first_refusal (Done number) []) (sym (append-nil done)) ∙ h.refused (Done number) [] ∙ ap
    (λ o. at_record number o None) whole)
    ∙ ap (λ rs. unless_refused None (rs, notes_of 0 done))
    (ap (λ rs. kept_all [] (records_in rs)) (sym (append-nil done)) ∙ h.kept [] ∙ append-nil
    (reverse h.earlier) ∙ sym h.has)

-- something is missing
pub missing-built : (b : DataSetBuilder) (done : List Numbered) (number : ℕ) (refusal : BaseRefusal)
    (h : HasBuilt b done)
    → missing h.earlier ≡ Some refusal → data_set (Done number) done ≡ Err (Refused number refusal)
missing-built b done number refusal h lacking =
    ap (λ o. unless_refused o (kept_all [] (records_in done), notes_of 0 done))
    (ap (first_refusal (Done number) []) (sym (append-nil done)) ∙ h.refused (Done number) [] ∙ ap
    (λ o. at_record number o None) lacking)
