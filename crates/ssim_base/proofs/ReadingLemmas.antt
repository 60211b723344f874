-- From record to record: what was read so far, and what the blocks that are left still give.
use Rattle.std.proofs.Common.{◌≡◌, ℕ, zero, suc, ◌+◌, ◌-◌, ◌<◌, ◌≤◌, ◌%◌, ◌^◌, false, not, nat_eq}
use Rattle.std.proofs.Common.{List, [], ◌∷◌, ◌++◌, map, reverse, length, Option, Some, None, Ok}
use Rattle.std.proofs.Common.{Err, inl, inr, refl, sym, ap, subst, ◌∙◌, append_assoc, arith}
use Rattle.std.proofs.lemmas.List.{append-nil, reverse-append}
use Rattle.std.proofs.lemmas.List.Elements.{All-append}
use Rattle.std.specs.List.{All}
use Rattle.ssim_records.specs.clauses.Blocks.{Fetches, beyond}
use Rattle.ssim_records.specs.Frames.{Frames, FramesExist, others}
use Rattle.ssim_records.specs.clauses.Reading as reading
use Rattle.ssim_records.specs.clauses.Reading.{FetchesNext, GivesNext}
use Rattle.ssim_records.specs.clauses.Reading.{HasNumber, HoldsFew, Reading}
use Rattle.ssim_records.specs.Record.{IsRecord, fault_of, serial_of}
use Rattle.ssim_records.specs.declared.fault.RecordFault.{RecordFault}
use Rattle.ssim_records.specs.declared.fault.RecordFault.TheVariants.{Short, BadType, BadColumn, ReadFault, ReaderNeverEnds}
use Rattle.ssim_records.specs.declared.record.Record.{Record}
use Rattle.ssim_records.proofs.Framing.{takes_all}
use Rattle.ssim_records.proofs.Readings.{block_fault}
use Rattle.ssim_base.specs.Base.{Ending, Done, Broken, Outcome, at_record, check_notes, data_set, first_refusal, kept, kept_all, missing, note_if, notes_of, refusal_at, unless_refused}
use Rattle.ssim_base.specs.internal.DataSetReader.{IsSoFar, notes_at, unread}
use Rattle.ssim_base.specs.internal.Acceptance.{HasAccepted, IsRecordRefused, AcceptsNext}
use Rattle.ssim_base.specs.Reading.{AreGiven, Begins, Gives}
use Rattle.ssim_base.specs.clauses.Reading.{FailsAfter, FailsAs}
use Rattle.ssim_base.specs.clauses.Reading.{IsAfterComplete, NeverEnds}
use Rattle.ssim_base.specs.Reading.{IsReadOf, Stops}
use Rattle.ssim_base.specs.internal.Reading.{AreGivenOf, Refuses}
use Rattle.ssim_base.specs.ReadBack.{EachSpells}
use Rattle.ssim_base.specs.declared.fault.BaseFault.{BaseFault}
use Rattle.ssim_base.specs.declared.fault.BaseFault.TheVariants as fault
use Rattle.ssim_base.specs.declared.fault.BaseFault.TheVariants.{Read, Refused}
use Rattle.ssim_base.specs.declared.fault.BaseRefusal.{BaseRefusal}
use Rattle.ssim_base.specs.declared.data_set.reader.DataSetReader.{DataSetReader}
use Rattle.ssim_base.specs.declared.note.Note.{Note}
use Rattle.ssim_base.specs.declared.note.Note.TheVariants.{Serial}
use Rattle.ssim_base.proofs.BlocksAhead.{AreAhead, all-ahead, rest-ahead}
use Rattle.ssim_base.proofs.CameRecords.{After, UpTo, first-blocks, others-after, others-append}
use Rattle.ssim_base.proofs.CameRecords.{others-up-to, part-once, up-to-append, up-to-more}
use Rattle.ssim_base.proofs.FirstRefusals.{all_allowed}
use Rattle.ssim_base.proofs.RecordsAhead.{GivesRecord, IsInvalid}

abbrev pub Numbered : Type 0
Numbered = ℕ × Record

-- ---- what was read so far

abbrev pub records_in : List Numbered → List Record
records_in = map (λ r. r.1)

-- nothing was read
pub nothing : (g : DataSetReader) → HasAccepted g.kept [] → g.notes.items ≡ [] → g.previous ≡ 0 → IsSoFar g [] []
nothing g is notes previous = record {
  is_kept = is;
  records = λ i x below. absurd (omega arith);
  refused = λ ending later. refl;
  kept = λ later. refl;
  noted = λ later. rw (notes, previous) refl;
}

pub all-one : (x : Numbered) → IsRecord x.1 → All (λ r. IsRecord r.1) (x ∷ [])
all-one x h zero d below = h
all-one x h (suc k) d below = absurd (omega (arith, below))

-- one record more was read
pub one-more : (old new : DataSetReader) (earlier : List Record) (done : List Numbered)
    (x : Numbered) (closed : Record) → IsSoFar old earlier done
    → AcceptsNext new.kept earlier x.1 closed
    → new.notes.items ≡ old.notes.items ++ notes_at x.0 old.previous x.1 → new.previous ≡ serial_of x.1 → IsRecord x.1
    → IsSoFar new (kept earlier x.1 ∷ earlier) (done ++ x ∷ [])
one-more old new earlier done x closed so_far stood notes previous is = record {
  is_kept = stood.is_kept;
  records = All-append (λ r. IsRecord r.1) done (x ∷ []) so_far.records (all-one x is);
  refused = λ ending later.
      ap (first_refusal ending []) (append_assoc done (x ∷ []) later)
      ∙ so_far.refused ending (x ∷ later)
      ∙ ap (λ o. at_record x.0 o (first_refusal ending (kept earlier x.1 ∷ earlier) later)) stood.valid;
  kept = λ later.
      ap (λ rs. kept_all [] (records_in rs)) (append_assoc done (x ∷ []) later)
      ∙ so_far.kept (x ∷ later)
      ∙ sym (append_assoc (reverse earlier) (kept earlier x.1 ∷ []) (kept_all (kept earlier x.1 ∷ earlier) (records_in later)))
      ∙ ap (λ rs. rs ++ kept_all (kept earlier x.1 ∷ earlier) (records_in later)) (sym (reverse-append (kept earlier x.1 ∷ []) earlier));
  noted = λ later.
      ap (notes_of 0) (append_assoc done (x ∷ []) later)
      ∙ so_far.noted (x ∷ later)
      ∙ ap (λ ns. old.notes.items ++ ns) (sym (append_assoc (note_if (not (nat_eq (serial_of x.1) (old.previous + 1))) (Serial x.0)) (check_notes x.0 old.previous x.1) (notes_of (serial_of x.1) later)))
      ∙ sym (append_assoc old.notes.items (notes_at x.0 old.previous x.1) (notes_of (serial_of x.1) later))
      ∙ ap (λ ns. ns ++ notes_of (serial_of x.1) later) (sym notes)
      ∙ ap (λ n. new.notes.items ++ notes_of n later) (sym previous);
}

-- the outcome if a record is refused, whatever comes after it
refused-outcome : (g : DataSetReader) (earlier : List Record) (done later : List Numbered) (ending : Ending) (x : Numbered) (refusal : BaseRefusal) → IsSoFar g earlier done
    → refusal_at earlier x.1 ≡ Some refusal → Err (Refused x.0 refusal) ≡ data_set ending ((done ++ x ∷ []) ++ later)
refused-outcome g earlier done later ending x refusal so_far is =
    sym (ap (λ o. unless_refused o (kept_all [] (records_in ((done ++ x ∷ []) ++ later)), notes_of 0 ((done ++ x ∷ []) ++ later)))
    (ap (first_refusal ending []) (append_assoc done (x ∷ []) later)
    ∙ so_far.refused ending (x ∷ later)
    ∙ ap (λ o. at_record x.0 o (first_refusal ending (kept earlier x.1 ∷ earlier) later)) is))

-- the outcome if reading fails
fault-outcome : (g : DataSetReader) (earlier : List Record) (done : List Numbered) (f : RecordFault) → IsSoFar g earlier done → Err (Read f) ≡ data_set (Broken f) done
fault-outcome g earlier done f so_far =
    sym (ap (λ o. unless_refused o (kept_all [] (records_in done), notes_of 0 done))
    (ap (first_refusal (Broken f) []) (sym (append-nil done)) ∙ so_far.refused (Broken f) []))

-- ---- what the blocks give

-- the records so far are those of the first blocks, and the others are ahead
pub record IsTold (limit : ℕ) (all left : List ℕ) (r : Reading) (done : List Numbered) : Type 0 where
  pub before : List (ℕ × List ℕ)
  pub are : AreAhead limit all left r before
  pub spelled : EachSpells before done
  pub few : UpTo r.number before

-- if the reader reports its bytes
abbrev pub Told : ℕ → Option (List ℕ) → Option (List ℕ) → Reading → List Numbered → Type 0
Told limit None left r done = Unit {0}
Told limit (Some all) None r done = ⊥
Told limit (Some all) (Some left) r done = IsTold limit all left r done

each-append : (bs cs : List (ℕ × List ℕ)) (rs ss : List Numbered) → EachSpells bs rs → EachSpells cs ss → EachSpells (bs ++ cs) (rs ++ ss)
each-append [] cs [] ss a b = b
each-append [] cs (r ∷ rs) ss a b = absurd a
each-append (x ∷ bs) cs [] ss a b = absurd a
each-append (x ∷ bs) cs (r ∷ rs) ss a b = (a.0, a.1, each-append bs cs rs ss a.2 b)

gives-append : (count : ℕ) (rest : List ℕ) (over : ℕ) (before left : List (ℕ × List ℕ)) (done records : List Numbered) (ending : Ending) → EachSpells before done
    → Gives count rest over left records ending → Gives count rest over (before ++ left) (done ++ records) ending
gives-append count rest over [] left [] records ending a b = b
gives-append count rest over [] left (r ∷ done) records ending a b = absurd a
gives-append count rest over (x ∷ before) left [] records ending a b = absurd a
gives-append count rest over (x ∷ before) left (r ∷ done) records ending a b = (a.0, a.1, gives-append count rest over before left done records ending a.2 b)

begins-append : (before left : List (ℕ × List ℕ)) (done records : List Numbered) → EachSpells before done → Begins left records → Begins (before ++ left) (done ++ records)
begins-append [] left [] records a b = b
begins-append [] left (r ∷ done) records a b = absurd a
begins-append (x ∷ before) left [] records a b = absurd a
begins-append (x ∷ before) left (r ∷ done) records a b = (a.0, a.1, begins-append before left done records a.2 b)

pub told-first : (limit : ℕ) (told : Option (List ℕ)) → FramesExist
    → Told limit told told (unread limit) []
told-first limit None exist = tt
told-first limit (Some all) exist =
    record { before = []; are = all-ahead limit all exist; spelled = tt; few = tt }

step : (limit : ℕ) (all left left' : List ℕ) (r new : Reading) (done : List Numbered) (x : Numbered)
    → IsTold limit all left r done → GivesRecord r (Some left) new (Some left') (Ok (Some x))
    → IsTold limit all left' new (done ++ x ∷ [])
step limit all left left' r new done x t given =
    let block = given.0 in
    let a = given.1.1 t.are.later t.are.rest t.are.ahead in
    let next = a.1 in
    let after = subst (After r.number) next.0 (others-after r.number t.are.later) in
    record {
      before = t.before ++ (new.number, block) ∷ [];
      are = rest-ahead limit all left left' r new t.before block a.0 t.are given.1.0 next a.2;
      spelled = each-append t.before ((new.number, block) ∷ []) done (x ∷ []) t.spelled (sym given.2, given.3, tt);
      few =
          up-to-append new.number t.before ((new.number, block) ∷ [])
          (up-to-more r.number new.number t.before (omega (arith, after.0)) t.few) (omega arith, tt);
    }

pub told-step : (limit : ℕ) (told left left' : Option (List ℕ)) (r new : Reading) (done : List Numbered) (x : Numbered) → Told limit told left r done → GivesRecord r left new left' (Ok (Some x))
    → Told limit told left' new (done ++ x ∷ [])
told-step limit None left left' r new done x t given = tt
told-step limit (Some all) None left' r new done x t given = absurd t
told-step limit (Some all) (Some left) None r new done x t given = absurd given.1
told-step limit (Some all) (Some left) (Some left') r new done x t given = step limit all left left' r new done x t given

-- ---- how reading ends

-- after the records so far come these blocks
given-by : (limit : ℕ) (all left : List ℕ) (r : Reading) (done : List Numbered) (ending : Ending)
    → (t : IsTold limit all left r done)
    → Stops (length t.are.blocks) t.are.rest (length all - limit) (others r.number t.are.later) ending
    → AreGiven limit all done ending
given-by limit all left r done ending t stops =
    let count = length t.are.blocks in
    let over = length all - limit in
    let later = others r.number t.are.later in
    let both = gives-append count t.are.rest over t.before later done [] ending t.spelled stops in
    record {
      blocks = t.are.blocks;
      rest = t.are.rest;
      framed = t.are.framed;
      given = subst (λ bs. Gives count t.are.rest over bs done ending) (sym t.are.split)
          (subst (λ rs. Gives count t.are.rest over (t.before ++ later) rs ending)
          (append-nil done) both);
    }

over-is : (limit : ℕ) (all left : List ℕ) (r : Reading) (done : List Numbered) → (t : IsTold limit all left r done) → r.limit ≡ limit → beyond r.limit r.came left ≡ length all - limit
over-is limit all left r done t same = ap (λ n. n - r.limit) t.are.came ∙ ap (λ n. length all - n) same

pub told-end : (limit : ℕ) (told left left' : Option (List ℕ)) (r new : Reading) (done : List Numbered) → r.limit ≡ limit → Told limit told left r done → GivesNext r left new left' (Ok None)
    → AreGivenOf limit told done (Done (new.number + 1))
told-end limit None left left' r new done same t given = tt
told-end limit (Some all) None left' r new done same t given = absurd t
told-end limit (Some all) (Some left) None r new done same t given = absurd given
told-end limit (Some all) (Some left) (Some left') r new done same t given =
    let a = given.1 t.are.later t.are.rest t.are.ahead in
    let last = a.0 in
    given-by limit all left r done (Done (new.number + 1)) t
    let count = last.1 ∙ t.are.count in
    (last.0, a.1, sym (over-is limit all left r done t same) ∙ a.2, ap (λ n. n + 1) count)

-- the blocks stop, since no block came
stops : (limit : ℕ) (all left left' : List ℕ) (r new : Reading) (done : List Numbered)
    (f : RecordFault) → r.limit ≡ limit → (t : IsTold limit all left r done)
    → GivesNext r (Some left) new (Some left') (Err f)
    → HasNumber {A = Record} r new (Err f)
    → Stops (length t.are.blocks) t.are.rest (length all - limit) (others r.number t.are.later)
    (Broken f)
stops limit all left left' r new done (Short n) same t given number =
    let a = given.1 t.are.later t.are.rest t.are.ahead in
    let last = a.0 in
    let count = last.1 ∙ t.are.count in
    (last.0, a.1, sym (over-is limit all left r done t same) ∙ a.3, number ∙ ap (λ n. n + 1) count)
stops limit all left left' r new done (BadType n) same t given number =
    absurd (given.1 t.are.later t.are.rest t.are.ahead)
stops limit all left left' r new done (BadColumn n column) same t given number =
    absurd (given.1 t.are.later t.are.rest t.are.ahead)
stops limit all left left' r new done (ReadFault n) same t given number =
    let a = given.1 t.are.later t.are.rest t.are.ahead in
    let count = t.are.count in
    let more = a.2 in
    omega (arith, count, more, number)
stops limit all left left' r new done (ReaderNeverEnds n) same t given number =
    let a = given.1 t.are.later t.are.rest t.are.ahead in
    let last = a.0 in
    let more = subst (λ k. 0 < k) (over-is limit all left r done t same) a.1 in
    (last.0, more, number ∙ ap (λ n. n + 1) (last.1 ∙ t.are.count))

-- the blocks stop at an invalid one
stops-at : (limit : ℕ) (all left left' : List ℕ) (r new : Reading) (done : List Numbered)
    (f : RecordFault) → (t : IsTold limit all left r done)
    → IsInvalid r (Some left) new (Some left') f
    → Stops (length t.are.blocks) t.are.rest (length all - limit) (others r.number t.are.later)
    (Broken f)
stops-at limit all left left' r new done (Short n) t given =
    absurd (block_fault new.number given.0 (Short n) given.2)
stops-at limit all left left' r new done (BadType n) t given =
    let a = given.1.1 t.are.later t.are.rest t.are.ahead in
    let number = block_fault new.number given.0 (BadType n) given.2 in
    (given.0, others new.number a.0, a.1.0 ∙ ap (λ k. (k, given.0) ∷ others new.number a.0) (sym number), subst (λ k. fault_of k given.0 ≡ Some (BadType n)) (sym number) given.2)
stops-at limit all left left' r new done (BadColumn n column) t given =
    let a = given.1.1 t.are.later t.are.rest t.are.ahead in
    let number = block_fault new.number given.0 (BadColumn n column) given.2 in
    (given.0, others new.number a.0, a.1.0 ∙ ap (λ k. (k, given.0) ∷ others new.number a.0) (sym number), subst (λ k. fault_of k given.0 ≡ Some (BadColumn n column)) (sym number) given.2)
stops-at limit all left left' r new done (ReadFault n) t given =
    absurd (block_fault new.number given.0 (ReadFault n) given.2)
stops-at limit all left left' r new done (ReaderNeverEnds n) t given =
    absurd (block_fault new.number given.0 (ReaderNeverEnds n) given.2)

pub told-fault : (limit : ℕ) (told left left' : Option (List ℕ)) (r new : Reading) (g : DataSetReader) (earlier : List Record) (done : List Numbered) (f : RecordFault) → r.limit ≡ limit
    → IsSoFar g earlier done → Told limit told left r done → GivesRecord r left new left' (Err f) → HasNumber {A = Record} r new (Err f) → IsReadOf limit told (Err (Read f))
told-fault limit None left left' r new g earlier done f same so_far t given number =
    record { records = done; ending = Broken f; valid = so_far.records; is = fault-outcome g earlier done f so_far }
told-fault limit (Some all) None left' r new g earlier done f same so_far t given number = absurd t
told-fault limit (Some all) (Some left) None r new g earlier done f same so_far t given number =
    absurd (elim given [ inl h ↦ h | inr h ↦ h.1 ])
told-fault limit (Some all) (Some left) (Some left') r new g earlier done f same so_far t given number =
    inl (record {
      records = done;
      ending = Broken f;
      given =
          given-by limit all left r done (Broken f) t
          (elim given [
            | inl h ↦ stops limit all left left' r new done f same t h number
            | inr h ↦ stops-at limit all left left' r new done f t h
          ]);
      is = fault-outcome g earlier done f so_far;
    })

pub told-refused : (limit : ℕ) (told left left' : Option (List ℕ)) (r new : Reading) (g : DataSetReader) (earlier : List Record) (done : List Numbered) (x : Numbered) (refusal : BaseRefusal)
    → IsSoFar g earlier done → Told limit told left r done → GivesRecord r left new left' (Ok (Some x)) → refusal_at earlier x.1 ≡ Some refusal → IsRecord x.1
    → IsReadOf limit told (Err (Refused x.0 refusal))
told-refused limit None left left' r new g earlier done x refusal so_far t given is valid =
    record {
      records = done ++ x ∷ [];
      ending = Done 0;
      valid = All-append (λ r. IsRecord r.1) done (x ∷ []) so_far.records (all-one x valid);
      is = refused-outcome g earlier done [] (Done 0) x refusal so_far is ∙ ap (data_set (Done 0)) (append-nil (done ++ x ∷ []));
    }
told-refused limit (Some all) None left' r new g earlier done x refusal so_far t given is valid = absurd t
told-refused limit (Some all) (Some left) None r new g earlier done x refusal so_far t given is valid = absurd given.1
told-refused limit (Some all) (Some left) (Some left') r new g earlier done x refusal so_far t given is valid =
    let after = step limit all left left' r new done x t given in
    let left = others new.number after.are.later in
    inr (record {
      records = done ++ x ∷ [];
      first = record {
        blocks = after.are.blocks;
        rest = after.are.rest;
        framed = after.are.framed;
        begins = subst (λ bs. Begins bs (done ++ x ∷ [])) (sym after.are.split)
            (subst (λ rs. Begins (after.before ++ left) rs) (append-nil (done ++ x ∷ []))
            (begins-append after.before left (done ++ x ∷ []) [] after.spelled tt));
      };
      is = λ later ending. refused-outcome g earlier done later ending x refusal so_far is;
    })

-- the refusal of a record, if one more was read
pub step-refused : (limit : ℕ) (told left left' : Option (List ℕ)) (r new : Reading) (g : DataSetReader) (earlier : List Record) (done : List Numbered) (x : Numbered) (e : BaseFault)
    → IsSoFar g earlier done → Told limit told left r done
    → GivesRecord r left new left' (Ok (Some x)) → IsRecordRefused x.0 earlier x.1 e → IsRecord x.1
    → Refuses limit told e
step-refused limit told left left' r new g earlier done x fault.Memory so_far t given is valid = tt
step-refused limit told left left' r new g earlier done x (Read f) so_far t given is valid = absurd is
step-refused limit told left left' r new g earlier done x (Refused n refusal) so_far t given is valid =
    subst (λ k. IsReadOf limit told (Err (Refused k refusal))) (sym is.0) (told-refused limit told left left' r new g earlier done x refusal so_far t given is.1 valid)

-- ---- how many bytes came

-- a reading that is refused as 14
pub ended-beyond : (A : Type 0) (limit : ℕ) (CameFrom : ℕ → Type 0) (new : Reading) (f : RecordFault)
    → new.limit ≡ limit → CameFrom new.came → HoldsFew {A = A} new (Err f)
    → NeverEnds limit CameFrom (Read f)
ended-beyond A limit CameFrom new (Short n) same came few = tt
ended-beyond A limit CameFrom new (BadType n) same came few = tt
ended-beyond A limit CameFrom new (BadColumn n column) same came few = tt
ended-beyond A limit CameFrom new (ReadFault n) same came few = tt
ended-beyond A limit CameFrom new (ReaderNeverEnds n) same came few =
    subst CameFrom (few.0 ∙ ap (λ k. k + 1) same) came

-- a record is never refused as 14
pub never-refused : (limit : ℕ) (CameFrom : ℕ → Type 0) (n : ℕ) (earlier : List Record) (r : Record) (e : BaseFault)
    → IsRecordRefused n earlier r e → NeverEnds limit CameFrom e
never-refused limit CameFrom n earlier r fault.Memory is = tt
never-refused limit CameFrom n earlier r (Read f) is = absurd is
never-refused limit CameFrom n earlier r (Refused m refusal) is = tt

-- ---- how often the reader failed

-- a record that is refused counts no failure
pub refused-fails : (old new n : ℕ) (earlier : List Record) (r : Record) (e : BaseFault)
    → IsRecordRefused n earlier r e → new ≡ old → FailsAs old new e
refused-fails old new n earlier r fault.Memory is same = same
refused-fails old new n earlier r (Read f) is same = absurd is
refused-fails old new n earlier r (Refused m refusal) is same = same

-- a fault of the next record counts a failure if it is 13
pub fault-fails : (A : Type 0) (old mid new : ℕ) (f : RecordFault) → mid ≡ old
    → reading.FailsAs {A = A} mid new (Err f) → FailsAs old new (Read f)
fault-fails A old mid new (Short n) same h = h ∙ same
fault-fails A old mid new (BadType n) same h = h ∙ same
fault-fails A old mid new (BadColumn n column) same h = h ∙ same
fault-fails A old mid new (ReadFault n) same h = h ∙ ap (λ k. (k + 1) % 2 ^ 64) same
fault-fails A old mid new (ReaderNeverEnds n) same h = h ∙ same

-- ---- which record a reading fails at

-- a reading that failed had as many complete records as were counted
pub after-complete : (all left : Option (List ℕ)) (number n : ℕ) (held : List ℕ)
    → Fetches false 0 [] all number held left → n ≡ number + 1 → length held < 200
    → IsAfterComplete all left n
after-complete None left number n held fetched is few = tt
after-complete (Some all) None number n held fetched is few = absurd fetched
after-complete (Some all) (Some left) number n held fetched is few =
    let framed = takes_all false fetched.0 fetched.1 held fetched.4 few in
    (fetched.1, (fetched.0, framed.0, fetched.2, framed.1), omega (arith, is, fetched.3))

-- these spelled the records so far, each of which is allowed
all-came : (limit : ℕ) (all left left' : List ℕ) (r new : Reading) (g : DataSetReader)
    (earlier : List Record) (done : List Numbered) (n : ℕ) → IsSoFar g earlier done
    → IsTold limit all left r done → GivesNext r (Some left) new (Some left') (Err (ReadFault n))
    → FetchesNext r (Some left) new (Some left')
    → Fetches false 0 [] (Some all) new.number new.held (Some left') → n ≡ new.number + 1
    → length new.held < 200 → FailsAfter (Some all) (Some left') (Read (ReadFault n))
all-came limit all left left' r new g earlier done n so_far t given more fetched is few =
    let a = given.1 t.are.later t.are.rest t.are.ahead in
    let came = fetched.0 in
    let blocks = fetched.1 in
    let over = length all - limit in
    let framed = takes_all false came blocks new.held fetched.4 few in
    let within : length blocks ≤ length t.are.blocks = omega (arith, fetched.3, a.2, t.are.count) in
    let rest =
    first-blocks over false came left' blocks new.held t.are.blocks t.are.rest fetched.4
    (subst (λ (bs : List ℕ). Frames over false bs t.are.blocks t.are.rest) fetched.2 t.are.framed)
    within in
    let number : 0 + length blocks ≡ new.number = omega (arith, fetched.3) in
    let split : others 0 blocks ++ others (0 + length blocks) rest.0 ≡ t.before ++ others new.number a.0 =
    sym (others-append 0 blocks rest.0)
    ∙ ap (others 0) (sym rest.1)
    ∙ t.are.split
    ∙ ap (λ (bs : List (ℕ × List ℕ)). t.before ++ bs) a.1 in
    let same =
    part-once new.number (others 0 blocks) (others (0 + length blocks) rest.0) t.before
    (others new.number a.0)
    (subst (λ (k : ℕ). UpTo k (others 0 blocks)) number (others-up-to 0 blocks))
    (subst (λ (k : ℕ). After k (others (0 + length blocks) rest.0)) number (others-after (0 + length blocks) rest.0))
    (up-to-more r.number new.number t.before (omega (arith, more.3)) t.few)
    (others-after new.number a.0) split in
    let ends : first_refusal (Broken (ReadFault n)) [] done ≡ Some (Read (ReadFault n)) =
    ap (first_refusal (Broken (ReadFault n)) []) (sym (append-nil done))
    ∙ so_far.refused (Broken (ReadFault n)) [] in (
      blocks,
      (came, framed.0, fetched.2, framed.1),
      (
        done,
        subst (λ (bs : List (ℕ × List ℕ)). EachSpells bs done) (sym same) t.spelled,
        all_allowed (ReadFault n) done ends,
      ),
      omega (arith, is, fetched.3),
    )

pub fails-after : (limit : ℕ) (told left left' : Option (List ℕ)) (r new : Reading)
    (g : DataSetReader) (earlier : List Record) (done : List Numbered) (f : RecordFault)
    → IsSoFar g earlier done → Told limit told left r done → GivesRecord r left new left' (Err f)
    → FetchesNext r left new left' → Fetches false 0 [] told new.number new.held left'
    → HasNumber {A = Record} r new (Err f) → HoldsFew {A = Option Numbered} new (Err f)
    → FailsAfter told left' (Read f)
fails-after limit told left left' r new g earlier done (Short n) so t given more fetched is few = tt
fails-after limit told left left' r new g earlier done (BadType n) so t given more fetched is few =
    tt
fails-after limit told left left' r new g earlier done (BadColumn n column) so t given more fetched
    is few = tt
fails-after limit None left left' r new g earlier done (ReadFault n) so t given more fetched is few =
    tt
fails-after limit (Some all) None left' r new g earlier done (ReadFault n) so t given more fetched is
    few = absurd t
fails-after limit (Some all) (Some left) None r new g earlier done (ReadFault n) so t given more
    fetched is few = absurd more
fails-after limit (Some all) (Some left) (Some left') r new g earlier done (ReadFault n) so t given
    more fetched is few = elim given [
      | inl h ↦ all-came limit all left left' r new g earlier done n so t h more fetched is few
      | inr h ↦ absurd (block_fault new.number h.0 (ReadFault n) h.2)
    ]
fails-after limit told left left' r new g earlier done (ReaderNeverEnds n) so t given more fetched is
    few = tt

-- a record is never refused as 13
pub never-fails : (all left : Option (List ℕ)) (n : ℕ) (earlier : List Record) (r : Record) (e : BaseFault)
    → IsRecordRefused n earlier r e → FailsAfter all left e
never-fails all left n earlier r fault.Memory is = tt
never-fails all left n earlier r (Read f) is = absurd is
never-fails all left n earlier r (Refused m refusal) is = tt

-- ---- after the last record

-- nothing is missing: the records and notes so far are the outcome
pub whole-outcome : (g : DataSetReader) (earlier : List Record) (done : List Numbered) (number : ℕ) → IsSoFar g earlier done → missing earlier ≡ None
    → Ok (reverse earlier, g.notes.items) ≡ data_set (Done number) done
whole-outcome g earlier done number so_far whole =
    ap (λ rs. outcome rs g.notes.items) (sym (append-nil (reverse earlier)) ∙ sym (so_far.kept []) ∙ ap (λ rs. kept_all [] (records_in rs)) (append-nil done))
    ∙ ap (outcome (kept_all [] (records_in done))) (sym (append-nil g.notes.items) ∙ sym (so_far.noted []) ∙ ap (notes_of 0) (append-nil done))
    ∙ ap (λ o. unless_refused o (kept_all [] (records_in done), notes_of 0 done))
    (sym (ap (first_refusal (Done number) []) (sym (append-nil done)) ∙ so_far.refused (Done number) [] ∙ ap (λ o. at_record number o None) whole))
  where
    outcome : List Record → List Note → Outcome
    outcome rs ns = Ok (rs, ns)

-- something is missing
pub missing-outcome : (g : DataSetReader) (earlier : List Record) (done : List Numbered) (number : ℕ) (refusal : BaseRefusal) → IsSoFar g earlier done → missing earlier ≡ Some refusal
    → Err (Refused number refusal) ≡ data_set (Done number) done
missing-outcome g earlier done number refusal so_far lacking =
    sym (ap (λ o. unless_refused o (kept_all [] (records_in done), notes_of 0 done))
    (ap (first_refusal (Done number) []) (sym (append-nil done)) ∙ so_far.refused (Done number) [] ∙ ap (λ o. at_record number o None) lacking))

-- the outcome of all records
pub of-all : (limit : ℕ) (told : Option (List ℕ)) (done : List Numbered) (number : ℕ) (outcome : Outcome) → AreGivenOf limit told done (Done number) → outcome ≡ data_set (Done number) done → All (λ r. IsRecord r.1) done
    → IsReadOf limit told outcome
of-all limit None done number outcome given is valid = record { records = done; ending = Done number; valid = valid; is = is }
of-all limit (Some all) done number outcome given is valid = inl (record { records = done; ending = Done number; given = given; is = is })
