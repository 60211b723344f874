-- After the last record or a fault a reader is read to its end: what the rest of its bytes adds.
use Rattle.std.proofs.Common.{◌≡◌, ℕ, ◌+◌, ◌-◌, ◌≤◌, ◌%◌, ◌^◌, true, false, List, [], ◌∷◌, ◌++◌}
use Rattle.std.proofs.Common.{length, reverse, Option, Some, None, Ok, Err, inl, inr, refl, sym, ap}
use Rattle.std.proofs.Common.{subst, ◌∙◌, append_assoc, arith}
use Rattle.std.specs.Prelude.{IfSome}
use Rattle.std.specs.Io.KnownBytes.{IsAtEnd}
use Rattle.ssim_records.specs.clauses.Blocks.{BytesCame, CameFrom, Fetches, StaysLeft}
use Rattle.ssim_records.specs.Frames.{others}
use Rattle.ssim_records.specs.Device.{Reader}
use Rattle.ssim_records.specs.clauses.Reading.{Reading, HasNumber, RestFails}
use Rattle.ssim_records.specs.declared.fault.RecordFault.{RecordFault}
use Rattle.ssim_records.specs.declared.fault.RecordFault.TheVariants.{Short, BadType, BadColumn}
use Rattle.ssim_records.specs.declared.fault.RecordFault.TheVariants.{ReadFault, ReaderNeverEnds}
use Rattle.ssim_records.specs.declared.record.Record.{Record}
use Rattle.ssim_records.proofs.FrameLaws.{frames_exist}
use Rattle.ssim_base.specs.Base.{Done, missing}
use Rattle.ssim_base.specs.internal.Acceptance.{IsRecordRefused}
use Rattle.ssim_base.specs.internal.DataSetReader.{HasRead}
use Rattle.ssim_base.specs.clauses.Reading.{AreComplete, Came, HaveCome, FailsAfter, FailsAs}
use Rattle.ssim_base.specs.Reading.{Gives}
use Rattle.ssim_base.specs.clauses.Reading.{IsAfterInvalid, IsRecordAfter, NamesNext, NeverEnds}
use Rattle.ssim_base.specs.Reading.{IsReadOf}
use Rattle.ssim_base.specs.clauses.Reading.{RefusesReading, RefusesWhole, is_of_bytes}
use Rattle.ssim_base.specs.internal.Reading.{AreGivenOf, Refuses}
use Rattle.ssim_base.specs.declared.fault.BaseFault.{BaseFault}
use Rattle.ssim_base.specs.declared.fault.BaseFault.TheVariants as fault
use Rattle.ssim_base.specs.declared.fault.BaseFault.TheVariants.{Read, Refused}
use Rattle.ssim_base.specs.declared.fault.BaseRefusal.{BaseRefusal}
use Rattle.ssim_base.specs.declared.data_set.reader.DataSetReader.{DataSetReader}
use Rattle.ssim_base.proofs.CameRecords.{counted-came}
use Rattle.ssim_base.proofs.ReadingLemmas.{Numbered, missing-outcome, of-all, whole-outcome}

-- ---- a reader that is read to its end

gives-within : (count : ℕ) (rest : List ℕ) (over : ℕ) (left : List (ℕ × List ℕ))
    (records : List Numbered) (number : ℕ) → Gives count rest over left records (Done number)
    → over ≡ 0
gives-within count rest over left [] number g = g.2
gives-within count rest over [] (r ∷ records) number g = absurd g
gives-within count rest over (block ∷ left) (r ∷ records) number g =
    gives-within count rest over left records number g.2

-- bytes whose records end at their end are within the limit
pub whole-within : (limit : ℕ) (told : Option (List ℕ)) (done : List Numbered) (number : ℕ)
    → AreGivenOf limit told done (Done number) → IfSome told (λ bytes. length bytes ≤ limit)
whole-within limit None done number given = tt
whole-within limit (Some all) done number given =
    let over : length all - limit ≡ 0 =
    gives-within (length given.blocks) given.rest (length all - limit) (others 0 given.blocks) done
    number given.given in
    omega (arith, over)

-- ---- the records and notes that were read, at the end

-- one is missing, which is what the bytes are read as
pub missing-read : {limit : ℕ} {told : Option (List ℕ)} {Has : List Record → Type 0}
    {g : DataSetReader} {number : ℕ} (refusal : BaseRefusal) (h : HasRead limit told Has g number)
    → missing h.earlier ≡ Some refusal → IsReadOf limit told (Err (Refused number refusal))
missing-read {limit} {told} {Has} {g} {number} refusal h lacking =
    of-all limit told h.done number (Err (Refused number refusal)) h.given
    (missing-outcome g h.earlier h.done number refusal h.so_far lacking) h.so_far.records

-- so a reading to the end is refused
pub missing-refuses : {limit : ℕ} {before after : Reader} {Has : List Record → Type 0}
    {g : DataSetReader} {number : ℕ} (refusal : BaseRefusal)
    (h : HasRead limit before.left Has g number) → missing h.earlier ≡ Some refusal
    → after.failures ≡ before.failures → RefusesReading limit before after (Refused number refusal)
missing-refuses {limit} {before} {after} {Has} {g} {number} refusal h lacking same = record {
  refused =
      (missing-read refusal h lacking, whole-within limit before.left h.done number h.given);
  failure = same;
  names = tt;
  never_ends = tt;
}

-- none is missing, and the bytes are read as these
pub whole-read : {limit : ℕ} {told : Option (List ℕ)} {Has : List Record → Type 0}
    {g : DataSetReader} {number : ℕ} (h : HasRead limit told Has g number)
    → missing h.earlier ≡ None → IsReadOf limit told (Ok (reverse h.earlier, g.notes.items))
whole-read {limit} {told} {Has} {g} {number} h none =
    of-all limit told h.done number (Ok (reverse h.earlier, g.notes.items)) h.given
    (whole-outcome g h.earlier h.done number h.so_far none) h.so_far.records

-- ---- the bytes that are left

-- what bytes are read as, if the bytes that are left end within the limit
rest-within : (limit : ℕ) (told left left' : Option (List ℕ)) (start mid now came came' : ℕ)
    → HaveCome told left start mid came → CameFrom left left' mid now came came' → IsAtEnd left'
    → came' ≤ limit → IfSome told (λ bytes. length bytes ≤ limit)
rest-within limit None left left' start mid now came came' h on end within = tt
rest-within limit (Some all) None left' start mid now came came' h on end within = absurd h
rest-within limit (Some all) (Some x) None start mid now came came' h on end within = absurd on
rest-within limit (Some all) (Some x) (Some y) start mid now came came' h on end within =
    omega (arith, h, on, ap length end, within)

-- a fault of bytes within the limit
whole-refused : (limit : ℕ) (told : Option (List ℕ)) (e : BaseFault) → Refuses limit told e
    → IfSome told (λ bytes. length bytes ≤ limit) → RefusesWhole limit told e
whole-refused limit told fault.Memory h within = tt
whole-refused limit told (Read (Short n)) h within = (h, within)
whole-refused limit told (Read (BadType n)) h within = (h, within)
whole-refused limit told (Read (BadColumn n column)) h within = (h, within)
whole-refused limit told (Read (ReadFault n)) h within = tt
whole-refused limit told (Read (ReaderNeverEnds n)) h within = tt
whole-refused limit told (Refused n refusal) h within = (h, within)

-- the fault of the bytes, if those that are left end within the limit
pub rest-refused : (limit : ℕ) (told mid new : Reader) (came came' : ℕ) (e : BaseFault)
    → Refuses limit told.left e → Came told mid came → BytesCame mid new came came'
    → IsAtEnd new.left → came' ≤ limit → RefusesWhole limit told.left e
rest-refused limit told mid new came came' e h c on end within =
    whole-refused limit told.left e h
    (rest-within limit told.left mid.left new.left told.came mid.came new.came came came' c on end
    within)

-- a fault that is not of the bytes says nothing of them
pub other-refused : (limit : ℕ) (told : Option (List ℕ)) (e : BaseFault) → is_of_bytes e ≡ false
    → RefusesWhole limit told e
other-refused limit told fault.Memory is = tt
other-refused limit told (Read (Short n)) is = absurd cc
other-refused limit told (Read (BadType n)) is = absurd cc
other-refused limit told (Read (BadColumn n column)) is = absurd cc
other-refused limit told (Read (ReadFault n)) is = tt
other-refused limit told (Read (ReaderNeverEnds n)) is = tt
other-refused limit told (Refused n refusal) is = absurd cc

-- a fault of the bytes counts no failure
pub bytes-count : (old new : ℕ) (e : BaseFault) → is_of_bytes e ≡ true → FailsAs old new e
    → new ≡ old
bytes-count old new fault.Memory is h = h
bytes-count old new (Read (Short n)) is h = h
bytes-count old new (Read (BadType n)) is h = h
bytes-count old new (Read (BadColumn n column)) is h = h
bytes-count old new (Read (ReadFault n)) is h = absurd cc
bytes-count old new (Read (ReaderNeverEnds n)) is h = h
bytes-count old new (Refused n refusal) is h = h

-- a fault of the bytes stays no fault of the reader, however many bytes came after it
pub bytes-end : (limit : ℕ) (C D : ℕ → Type 0) (e : BaseFault) → is_of_bytes e ≡ true
    → NeverEnds limit C e → NeverEnds limit D e
bytes-end limit C D fault.Memory is h = tt
bytes-end limit C D (Read (Short n)) is h = tt
bytes-end limit C D (Read (BadType n)) is h = tt
bytes-end limit C D (Read (BadColumn n column)) is h = tt
bytes-end limit C D (Read (ReadFault n)) is h = tt
bytes-end limit C D (Read (ReaderNeverEnds n)) is h = absurd cc
bytes-end limit C D (Refused n refusal) is h = tt

pub bytes-fail : (old new now : ℕ) (e : BaseFault) → is_of_bytes e ≡ true → FailsAs old new e
    → now ≡ new → FailsAs old now e
bytes-fail old new now fault.Memory is h same = same ∙ h
bytes-fail old new now (Read (Short n)) is h same = same ∙ h
bytes-fail old new now (Read (BadType n)) is h same = same ∙ h
bytes-fail old new now (Read (BadColumn n column)) is h same = same ∙ h
bytes-fail old new now (Read (ReadFault n)) is h same = absurd cc
bytes-fail old new now (Read (ReaderNeverEnds n)) is h same = same ∙ h
bytes-fail old new now (Refused n refusal) is h same = same ∙ h

-- bytes that came after others
came-then : (told left left' : Option (List ℕ)) (start mid now came came' : ℕ)
    → HaveCome told left start mid came → CameFrom left left' mid now came came'
    → HaveCome told left' start now came'
came-then None None None start mid now came came' c on = omega (arith, c, on)
came-then None None (Some y) start mid now came came' c on = absurd on
came-then None (Some x) left' start mid now came came' c on = absurd c
came-then (Some all) None left' start mid now came came' c on = absurd c
came-then (Some all) (Some x) None start mid now came came' c on = absurd on
came-then (Some all) (Some x) (Some y) start mid now came came' c on = on ∙ c

-- a fault of the rest: what it counts
pub rest-fails : (r : Reading) (old : ℕ) (mid new : Reader) (f : RecordFault) → mid.failures ≡ old
    → RestFails r mid new (Err f) → FailsAs old new.failures (Read f)
rest-fails r old mid new (Short n) same h = absurd h
rest-fails r old mid new (BadType n) same h = absurd h
rest-fails r old mid new (BadColumn n column) same h = absurd h
rest-fails r old mid new (ReadFault n) same h = h.1 ∙ ap (λ k. (k + 1) % 2 ^ 64) same
rest-fails r old mid new (ReaderNeverEnds n) same h = h.1 ∙ same

-- a fault of the rest: how many bytes came
pub rest-ends : (limit : ℕ) (told mid new : Reader) (came : ℕ) (r : Reading) (f : RecordFault)
    → r.limit ≡ limit → Came told mid came → BytesCame mid new came r.came
    → RestFails r mid new (Err f) → NeverEnds limit (Came told new) (Read f)
rest-ends limit told mid new came r (Short n) same c on h = tt
rest-ends limit told mid new came r (BadType n) same c on h = tt
rest-ends limit told mid new came r (BadColumn n column) same c on h = tt
rest-ends limit told mid new came r (ReadFault n) same c on h = tt
rest-ends limit told mid new came r (ReaderNeverEnds n) same c on h =
    subst (Came told new) (h.2 ∙ ap (λ k. k + 1) same)
    (came-then told.left mid.left new.left told.came mid.came new.came came r.came c on)

-- a fault of the rest says nothing of the bytes
pub rest-other : (limit : ℕ) (told : Option (List ℕ)) (r : Reading) (old new : Reader)
    (f : RecordFault) → RestFails r old new (Err f) → RefusesWhole limit told (Read f)
rest-other limit told r old new (Short n) h = absurd h
rest-other limit told r old new (BadType n) h = absurd h
rest-other limit told r old new (BadColumn n column) h = absurd h
rest-other limit told r old new (ReadFault n) h = tt
rest-other limit told r old new (ReaderNeverEnds n) h = tt

-- ---- which record a fault of the rest names

-- a refused record has the number of the records that were counted
pub after-refused : (number n : ℕ) (earlier : List Record) (r : Record) (e : BaseFault)
    → IsRecordRefused n earlier r e → n ≡ number → is_of_bytes e ≡ true
    → IsRecordAfter e (number + 1)
after-refused number n earlier r fault.Memory is same of_bytes = absurd cc
after-refused number n earlier r (Read f) is same of_bytes = absurd is
after-refused number n earlier r (Refused m refusal) is same of_bytes =
    ap (λ k. k + 1) (sym (is.0 ∙ same))

-- so has a block that spells no record
pub after-fault : (old new : Reading) (f : RecordFault) → HasNumber {A = Record} old new (Err f)
    → is_of_bytes (Read f) ≡ true → IsRecordAfter (Read f) (new.number + 1)
after-fault old new (Short n) is of_bytes = sym is
after-fault old new (BadType n) is of_bytes = ap (λ k. k + 1) (sym is)
after-fault old new (BadColumn n column) is of_bytes = ap (λ k. k + 1) (sym is)
after-fault old new (ReadFault n) is of_bytes = absurd cc
after-fault old new (ReaderNeverEnds n) is of_bytes = absurd cc

-- the fault came before any invalid record
pub names-first : (limit : ℕ) (all left : Option (List ℕ)) (e : BaseFault) → Refuses limit all e
    → FailsAfter all left e → NamesNext limit all left e
names-first limit all left fault.Memory h after = tt
names-first limit all left (Read (Short n)) h after = tt
names-first limit all left (Read (BadType n)) h after = tt
names-first limit all left (Read (BadColumn n column)) h after = tt
names-first limit None left (Read (ReadFault n)) h after = tt
names-first limit (Some all) left (Read (ReadFault n)) h after =
    (after.0, after.1, inr (after.2, after.3))
names-first limit all left (Read (ReaderNeverEnds n)) h after = (Read (ReaderNeverEnds n), h, inl refl)
names-first limit all left (Refused n refusal) h after = tt

-- a fault of the bytes names no record after the invalid one
pub names-own : (limit : ℕ) (all left : Option (List ℕ)) (e : BaseFault) → is_of_bytes e ≡ true
    → NamesNext limit all left e
names-own limit all left fault.Memory is = tt
names-own limit all left (Read (Short n)) is = tt
names-own limit all left (Read (BadType n)) is = tt
names-own limit all left (Read (BadColumn n column)) is = tt
names-own limit all left (Read (ReadFault n)) is = absurd cc
names-own limit all left (Read (ReaderNeverEnds n)) is = absurd cc
names-own limit all left (Refused n refusal) is = tt

invalid-read : (limit : ℕ) (all : Option (List ℕ)) (e : BaseFault) → is_of_bytes e ≡ true
    → Refuses limit all e → IsReadOf limit all (Err e)
invalid-read limit all fault.Memory is h = absurd cc
invalid-read limit all (Read f) is h = h
invalid-read limit all (Refused n refusal) is h = h

-- the records that were counted came, and maybe more
came-whole : (all mid left : Option (List ℕ)) (number : ℕ) (held : List ℕ)
    → Fetches false 0 [] all number held mid → StaysLeft mid left
    → IfSome all (λ bytes. (blocks : List (List ℕ)) × AreComplete bytes left blocks
    × (number ≤ length blocks))
came-whole None mid left number held fetched stays = tt
came-whole (Some all) None left number held fetched stays = absurd fetched
came-whole (Some all) (Some mid) None number held fetched stays = absurd stays
came-whole (Some all) (Some mid) (Some left) number held fetched stays =
    let came = fetched.0 ++ stays.0 in
    let frames = frames_exist 0 false came in
    let count =
    counted-came false fetched.0 stays.0 fetched.1 held frames.0 frames.1.0 fetched.4 frames.1.1 in
    let parts : all ≡ came ++ left =
    fetched.2
    ∙ ap (λ (t : List ℕ). fetched.0 ++ t) stays.1
    ∙ sym (append_assoc fetched.0 stays.0 left) in
    (frames.0, (came, frames.1.0, parts, frames.1.1), omega (arith, fetched.3, count))

-- the fault came after an invalid record
pub names-rest : (limit : ℕ) (all : Option (List ℕ)) (e : BaseFault) (number : ℕ) (held : List ℕ)
    (old new : Reader) (r : Reading) (f : RecordFault) → is_of_bytes e ≡ true → Refuses limit all e
    → IsRecordAfter e (number + 1) → Fetches false 0 [] all number held old.left
    → StaysLeft old.left new.left → r.number ≡ number → RestFails r old new (Err f)
    → NamesNext limit all new.left (Read f)
names-rest limit all e number held old new r (Short n) is h next fetched stays same fails =
    absurd fails
names-rest limit all e number held old new r (BadType n) is h next fetched stays same fails =
    absurd fails
names-rest limit all e number held old new r (BadColumn n column) is h next fetched stays same fails =
    absurd fails
names-rest limit None e number held old new r (ReadFault n) is h next fetched stays same fails = tt
names-rest limit (Some all) e number held old new r (ReadFault n) is h next fetched stays same fails =
    let named : number + 1 ≡ n = sym (fails.0 ∙ ap (λ k. k + 1) same) in
    let whole = came-whole (Some all) old.left new.left number held fetched stays in
    let invalid : IsAfterInvalid limit (Some all) n =
    (e, invalid-read limit (Some all) e is h, subst (λ k. IsRecordAfter e k) named next) in
    (whole.0, whole.1, inl (invalid, omega (arith, whole.2, named)))
names-rest limit all e number held old new r (ReaderNeverEnds n) is h next fetched stays same fails =
    let named : number + 1 ≡ n = sym (fails.0 ∙ ap (λ k. k + 1) same) in
    (e, invalid-read limit all e is h, inr (subst (λ k. IsRecordAfter e k) named next))
