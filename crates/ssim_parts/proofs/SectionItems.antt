-- What the blocks of a section say, block by block: each step adds one item to those before it.
use Rattle.std.proofs.Common.{◌≡◌, ◌∙◌, ℕ, ◌+◌, List, [], ◌∷◌, ◌++◌, Option, Some, None, Ok, Err}
use Rattle.std.proofs.Common.{refl, sym, ap, subst, append_assoc}
use Rattle.std.proofs.lemmas.List.{append-nil, length-append}
use Rattle.std.specs.Prelude.{Bool, OnOk, Result, not, nat_eq}
use Rattle.ssim_records.specs.Carrier.{CarrierFields}
use Rattle.ssim_records.specs.Record.{serial_of}
use Rattle.ssim_records.specs.declared.fault.RecordFault.{RecordFault}
use Rattle.ssim_records.specs.declared.record.Record.{Record}
use Rattle.ssim_records.specs.declared.record.Record.TheVariants.{Header, Carrier, Leg, Segment}
use Rattle.ssim_records.specs.declared.record.Record.TheVariants.{Trailer}
use Rattle.ssim_base.specs.Base.{Ending, Broken, Done, check_notes, data_set, note_if, notes_of}
use Rattle.ssim_base.specs.Problems.{Item, Says}
use Rattle.ssim_base.specs.clauses.Building.{HasBuilt, IsRefusedAt, IsRefusedAtEnd}
use Rattle.ssim_base.specs.declared.data_set.builder.DataSetBuilder.{DataSetBuilder}
use Rattle.ssim_base.specs.declared.fault.BaseFault.{BaseFault}
use Rattle.ssim_base.specs.declared.fault.BaseRefusal.{BaseRefusal}
use Rattle.ssim_base.specs.declared.fault.BaseFault.TheVariants.{Read, Refused}
use Rattle.ssim_base.specs.declared.note.Note.{Note}
use Rattle.ssim_base.specs.declared.note.Note.TheVariants.{Serial}
use Rattle.ssim_base.proofs.BuiltDataSets.{broken-built}
use Rattle.ssim_values.specs.declared.memory.Memory.{Memory}
use Rattle.ssim_parts.specs.Sections.{Before, Block, SaysInFile, SectionBlocks, airline_in, announces}
use Rattle.ssim_parts.specs.Sections.{code_note, end_note, ending_in, of_one_carrier, records_in}
use Rattle.ssim_parts.specs.Sections.{SectionNotes, section_read, serial_after, with_notes}
use Rattle.ssim_parts.specs.declared.section_builder.SectionBuilder.{SectionBuilder}
use Rattle.ssim_parts.specs.internal.SectionBlocks.{Adds, AreKnown, AreValid, HasItems, HasLast}
use Rattle.ssim_parts.specs.internal.SectionBlocks.{HasRead, IsRefused, NamesAirline, as_items}

abbrev Numbered : Type 0
Numbered = ℕ × Record

abbrev Items : Type 0
Items = List (ℕ × Item)

-- ---- valid records, and then other items

records-append : (xs : List Numbered) (later : Items)
    → records_in (as_items xs ++ later) ≡ xs ++ records_in later
records-append [] later = refl
records-append (x ∷ xs) later = ap (λ (rs : List Numbered). x ∷ rs) (records-append xs later)

ending-append : (xs : List Numbered) (later : Items) (e : Ending)
    → ending_in e (as_items xs ++ later) ≡ ending_in e later
ending-append [] later e = refl
ending-append (x ∷ xs) later e = ending-append xs later e

pub records-all : (xs : List Numbered) → records_in (as_items xs) ≡ xs
records-all [] = refl
records-all (x ∷ xs) = ap (λ (rs : List Numbered). x ∷ rs) (records-all xs)

pub ending-all : (xs : List Numbered) (e : Ending) → ending_in e (as_items xs) ≡ e
ending-all [] e = refl
ending-all (x ∷ xs) e = ending-all xs e

items-append : (xs ys : List Numbered) → as_items (xs ++ ys) ≡ as_items xs ++ as_items ys
items-append [] ys = refl
items-append (x ∷ xs) ys = ap (λ (is : Items). (x.0, Ok x.1) ∷ is) (items-append xs ys)

serial-append : (items : Items) (b : ℕ) (x : ℕ × Item)
    → serial_after b (items ++ x ∷ []) ≡ serial_after (serial_after b items) (x ∷ [])
serial-append [] b x = refl
serial-append ((n, Ok r) ∷ items) b x = serial-append items (serial_of r) x
serial-append ((n, Err f) ∷ items) b x = serial-append items b x

-- ---- the notes on one more record

append-each : (a b c d : List Note) → a ++ (b ++ (c ++ d)) ≡ (a ++ (b ++ c)) ++ d
append-each a b c d = ap (λ (ns : List Note). a ++ ns) (sym (append_assoc b c d)) ∙ sym
    (append_assoc a (b ++ c) d)

notes-append : (xs : List Numbered) (p : ℕ) (x : Numbered)
    → notes_of p (xs ++ x ∷ []) ≡ notes_of p xs ++ notes_of (serial_after p (as_items xs)) (x ∷ [])
notes-append [] p x = refl
notes-append (y ∷ xs) p x =
    let a = note_if (not (nat_eq (serial_of y.1) (p + 1))) (Serial y.0) in
    ap (λ (ns : List Note). a ++ (check_notes y.0 p y.1 ++ ns)) (notes-append xs (serial_of y.1) x)
    ∙ append-each a (check_notes y.0 p y.1) (notes_of (serial_of y.1) xs)
    (notes_of (serial_after (serial_of y.1) (as_items xs)) (x ∷ []))

-- ---- a section that is refused

still-refused : (before : Before) (items : Items) (x : ℕ × Item) (f : BaseFault)
    → IsRefused before items f → IsRefused before (items ++ x ∷ []) f
still-refused before items x f is ending later =
    subst (λ (all : Items). data_set (ending_in ending all) (before.header ∷ records_in all) ≡ Err f)
    (sym (append_assoc items (x ∷ []) later)) (is ending (x ∷ later))

-- by a block that spells no record
now-broken : (before : Before) (xs : List Numbered) (b : DataSetBuilder) (n : ℕ) (f : RecordFault)
    → HasBuilt b (before.header ∷ xs)
    → IsRefused before (as_items xs ++ (n, Err f) ∷ []) (Read f)
now-broken before xs b n f built ending later =
    subst
    (λ (all : Items). data_set (ending_in ending all) (before.header ∷ records_in all) ≡ Err
    (Read f))
    (sym (append_assoc (as_items xs) ((n, Err f) ∷ []) later))
    (ap (λ (e : Ending). data_set e (before.header ∷ records_in (as_items xs ++ (n, Err f) ∷ later)))
    (ending-append xs ((n, Err f) ∷ later) ending)
    ∙ ap (λ (rs : List Numbered). data_set (Broken f) (before.header ∷ rs))
    (records-append xs ((n, Err f) ∷ later) ∙ append-nil xs)
    ∙ broken-built b (before.header ∷ xs) f built)

-- by a record that is invalid after those before it
refused-from : (before : Before) (xs : List Numbered) (x : Numbered) (f : BaseFault)
    → ((ending : Ending) (later : List Numbered) → data_set ending ((before.header ∷ xs) ++ x ∷ later)
    ≡ Err f)
    → IsRefused before (as_items xs ++ (x.0, Ok x.1) ∷ []) f
refused-from before xs x f is ending later =
    subst (λ (all : Items). data_set (ending_in ending all) (before.header ∷ records_in all) ≡ Err f)
    (sym (append_assoc (as_items xs) ((x.0, Ok x.1) ∷ []) later))
    (ap (λ (e : Ending). data_set e
    (before.header ∷ records_in (as_items xs ++ (x.0, Ok x.1) ∷ later)))
    (ending-append xs ((x.0, Ok x.1) ∷ later) ending)
    ∙ ap (λ (rs : List Numbered). data_set (ending_in ending later) (before.header ∷ rs))
    (records-append xs ((x.0, Ok x.1) ∷ later))
    ∙ is (ending_in ending later) (records_in later))

-- ---- the airline

-- the first airline, or else the second
abbrev either : Option (List ℕ) → Option (List ℕ) → Option (List ℕ)
either (Some airline) other = Some airline
either None other = other

airline-append : (items : Items) (x : ℕ × Item)
    → airline_in (items ++ x ∷ []) ≡ either (airline_in items) (airline_in (x ∷ []))
airline-append [] x = refl
airline-append ((n, Ok (Carrier r)) ∷ items) x = refl
airline-append ((n, Ok (Header r)) ∷ items) x = airline-append items x
airline-append ((n, Ok (Leg r)) ∷ items) x = airline-append items x
airline-append ((n, Ok (Segment r)) ∷ items) x = airline-append items x
airline-append ((n, Ok (Trailer r)) ∷ items) x = airline-append items x
airline-append ((n, Err f) ∷ items) x = airline-append items x

either-none : (o : Option (List ℕ)) → either o None ≡ o
either-none (Some a) = refl
either-none None = refl

-- a record that is no carrier record names none
pub airline-same : (items : Items) (x : ℕ × Item) → airline_in (x ∷ []) ≡ None
    → airline_in (items ++ x ∷ []) ≡ airline_in items
airline-same items x none =
    airline-append items x ∙ ap (either (airline_in items)) none ∙ either-none (airline_in items)

-- a carrier record names one, unless there was one before
pub airline-there : (items : Items) (x : ℕ × Item) (a : List ℕ) → airline_in items ≡ Some a
    → airline_in (items ++ x ∷ []) ≡ Some a
airline-there items x a is =
    airline-append items x ∙ ap (λ (o : Option (List ℕ)). either o (airline_in (x ∷ []))) is

pub airline-first : (items : Items) (x : ℕ × Item) → airline_in items ≡ None
    → airline_in (items ++ x ∷ []) ≡ airline_in (x ∷ [])
airline-first items x is =
    airline-append items x ∙ ap (λ (o : Option (List ℕ)). either o (airline_in (x ∷ []))) is

-- no carrier record names no airline
pub airline-none : (n : ℕ) (one : Record) → ((r : CarrierFields) → one ≡ Carrier r → ⊥)
    → airline_in ((n, Ok one) ∷ []) ≡ None
airline-none n (Carrier r) none = absurd (none r refl)
airline-none n (Header r) none = refl
airline-none n (Leg r) none = refl
airline-none n (Segment r) none = refl
airline-none n (Trailer r) none = refl

-- ---- one more record

module _ (old named : SectionBuilder) (number : ℕ) (one : Record) (serial : ℕ)
    (s : serial ≡ serial_of one)
    (n : NamesAirline (record old { serial = serial }) named one) where
  serial-is : (before : Before) (items : Items)
      → named.serial ≡ serial_after before.serial (items ++ (number, Ok one) ∷ [])
  serial-is before items =
      ap (λ (b : SectionBuilder). b.serial) n.same
      ∙ s
      ∙ sym (serial-append items before.serial (number, Ok one))

  refusal-is : named.refusal ≡ old.refusal
  refusal-is = ap (λ (b : SectionBuilder). b.refusal) n.same

  builder-is : named.builder ≡ old.builder
  builder-is = ap (λ (b : SectionBuilder). b.builder) n.same

  -- which is valid
  valid-known : (before : Before) (items : Items) (builder : DataSetBuilder) →
      (v : AreValid before items old)
      → ((done : List Numbered) → HasBuilt old.builder done → HasBuilt builder
      (done ++ (number, one) ∷ []))
      → builder.reader.notes.items ≡ old.builder.reader.notes.items ++ notes_of
      old.builder.reader.previous ((number, one) ∷ [])
      → builder.reader.previous ≡ serial_of one
      → AreValid before (items ++ (number, Ok one) ∷ []) (record named { builder = builder })
  valid-known before items builder v built notes previous = record {
    records = v.records ++ (number, one) ∷ [];
    are = ap (λ (is : Items). is ++ (number, Ok one) ∷ []) v.are ∙ sym
        (items-append v.records ((number, one) ∷ []));
    built = built (before.header ∷ v.records) v.built;
    notes = notes
        ∙ ap (λ (p : ℕ). old.builder.reader.notes.items ++ notes_of p ((number, one) ∷ []))
        (v.previous ∙ ap (serial_after before.serial) v.are)
        ∙ ap (λ (ns : List Note). ns ++ notes_of (serial_after before.serial (as_items v.records))
        ((number, one) ∷ [])) v.notes
        ∙ append_assoc before.notes (notes_of before.serial v.records)
        (notes_of (serial_after before.serial (as_items v.records)) ((number, one) ∷ []))
        ∙ ap (λ (ns : List Note). before.notes ++ ns)
        (sym (notes-append v.records before.serial (number, one)));
    previous = previous ∙ sym (serial-append items before.serial (number, Ok one));
  }

  pub add-valid : (builder : DataSetBuilder) → named.refusal ≡ None
      → ((done : List Numbered) → HasBuilt named.builder done → HasBuilt builder
      (done ++ (number, one) ∷ []))
      → builder.reader.notes.items ≡ named.builder.reader.notes.items ++ notes_of
      named.builder.reader.previous ((number, one) ∷ [])
      → builder.reader.previous ≡ serial_of one
      → Adds old (record named { builder = builder }) (number, Ok one)
  add-valid builder open' built notes previous = record {
    has = λ before items h. record {
      airline = n.airline items number h.airline;
      serial = serial-is before items;
      known = subst
          (AreKnown before (items ++ (number, Ok one) ∷ []) (record named { builder = builder }))
          (sym open')
          (valid-known before items builder
          (subst (AreKnown before items old) (sym refusal-is ∙ open') h.known)
          (subst
          (λ (b : DataSetBuilder). (done : List Numbered) → HasBuilt b done → HasBuilt builder
          (done ++ (number, one) ∷ [])) builder-is built)
          (subst
          (λ (b : DataSetBuilder). builder.reader.notes.items ≡ b.reader.notes.items ++ notes_of
          b.reader.previous ((number, one) ∷ [])) builder-is notes)
          previous);
    };
    records = ap (λ (b : SectionBuilder). b.records) n.same;
    last = ap (λ (b : SectionBuilder). b.last) n.same;
    announces = ap (λ (b : SectionBuilder). b.announces) n.same;
  }

  -- after which the section is refused
  pub add-refused : (builder : DataSetBuilder) (m : ℕ) (why : BaseRefusal) → named.refusal ≡ None
      → ((done : List Numbered) → HasBuilt named.builder done → IsRefusedAt done (number, one)
      (Refused m why))
      → Adds old (record named { builder = builder; refusal = Some (Refused m why) }) (number, Ok one)
  add-refused builder m why open' refuses = record {
    has = λ before items h.
        let v : AreValid before items old = subst (AreKnown before items old) (sym refusal-is ∙ open')
        h.known in
        record {
          airline = n.airline items number h.airline;
          serial = serial-is before items;
          known = subst
              (λ (is : Items). IsRefused before (is ++ (number, Ok one) ∷ []) (Refused m why))
              (sym v.are)
              (refused-from before v.records (number, one) (Refused m why)
              (refuses (before.header ∷ v.records)
              (subst (λ (b : DataSetBuilder). HasBuilt b (before.header ∷ v.records))
              (sym builder-is) v.built)));
        };
    records = ap (λ (b : SectionBuilder). b.records) n.same;
    last = ap (λ (b : SectionBuilder). b.last) n.same;
    announces = ap (λ (b : SectionBuilder). b.announces) n.same;
  }

  -- in a section that is refused
  pub add-to-refused : (f : BaseFault) → named.refusal ≡ Some f → Adds old named (number, Ok one)
  add-to-refused f is = record {
    has = λ before items h.
        let r : IsRefused before items f = subst (AreKnown before items old) (sym refusal-is ∙ is)
        h.known in
        record {
          airline = n.airline items number h.airline;
          serial = serial-is before items;
          known = subst (AreKnown before (items ++ (number, Ok one) ∷ []) named) (sym is)
              (still-refused before items (number, Ok one) f r);
        };
    records = ap (λ (b : SectionBuilder). b.records) n.same;
    last = ap (λ (b : SectionBuilder). b.last) n.same;
    announces = ap (λ (b : SectionBuilder). b.announces) n.same;
  }

-- ---- one more block, which spells no record

pub pass-first : (old : SectionBuilder) (number : ℕ) (f : RecordFault) → old.refusal ≡ None
    → Adds old (record old { refusal = Some (Read f) }) (number, Err f)
pass-first old number f open' = record {
  has = λ before items h.
      let v : AreValid before items old = subst (AreKnown before items old) open' h.known in
      record {
        airline = h.airline ∙ sym (airline-same items (number, Err f) refl);
        serial = h.serial ∙ sym (serial-append items before.serial (number, Err f));
        known = subst (λ (is : Items). IsRefused before (is ++ (number, Err f) ∷ []) (Read f))
            (sym v.are)
            (now-broken before v.records old.builder number f v.built);
      };
  records = refl;
  last = refl;
  announces = refl;
}

pub pass-again : (old : SectionBuilder) (number : ℕ) (f : RecordFault) (g : BaseFault)
    → old.refusal ≡ Some g → Adds old old (number, Err f)
pass-again old number f g is = record {
  has = λ before items h.
      let r : IsRefused before items g = subst (AreKnown before items old) is h.known in
      record {
        airline = h.airline ∙ sym (airline-same items (number, Err f) refl);
        serial = h.serial ∙ sym (serial-append items before.serial (number, Err f));
        known = subst (AreKnown before (items ++ (number, Err f) ∷ []) old) (sym is)
            (still-refused before items (number, Err f) g r);
      };
  records = refl;
  last = refl;
  announces = refl;
}

-- ---- one more block

says-append : (bs : List Block) (items : Items) (b : Block) (x : ℕ × Item)
    → SaysInFile bs items → SaysInFile (b ∷ []) (x ∷ []) → SaysInFile (bs ++ b ∷ []) (items ++ x ∷ [])
says-append [] [] b x h one = one
says-append [] (i ∷ is) b x h one = absurd h
says-append (c ∷ bs) [] b x h one = absurd h
says-append (c ∷ bs) (i ∷ is) b x h one = (h.0, h.1, says-append bs is b x h.2 one)

end-append : (bs : List Block) (first b : Block) (followed : Bool)
    → end_note followed first (bs ++ b ∷ []) ≡ code_note (announces b.1) followed b.0
end-append [] first b followed = refl
end-append (c ∷ bs) first b followed = end-append bs c b followed

last-append : (bs : List Block) (b : Block) (new : SectionBuilder) → new.last ≡ b.0
    → new.announces ≡ announces b.1 → HasLast (bs ++ b ∷ []) new
last-append [] b new last code = λ followed. rw (last, code) refl
last-append (first ∷ bs) b new last code = λ followed.
    end-append bs first b followed ∙ rw (last, code) refl

-- it says this
pub one-more : (old mid new : SectionBuilder) (number : ℕ) (block : List ℕ) (item : Item)
    → mid ≡ record old { records = old.records + 1; last = number; announces = announces block }
    → Adds mid new (number, item) → Says number (of_one_carrier block) item
    → (before : Before) (blocks : List Block) → HasRead before blocks old
    → HasRead before (blocks ++ (number, block) ∷ []) new
one-more old mid new number block item is adds says before blocks read = record {
  items = read.items ++ (number, item) ∷ [];
  says = says-append blocks read.items (number, block) (number, item) read.says (refl, says, tt);
  has = adds.has before read.items (mid-has read.has);
  records = adds.records ∙ ap (λ (b : SectionBuilder). b.records) is ∙ ap (λ n. n + 1) read.records
      ∙ sym (length-append read.items ((number, item) ∷ []));
  last = last-append blocks (number, block) new
      (adds.last ∙ ap (λ (b : SectionBuilder). b.last) is)
      (adds.announces ∙ ap (λ (b : SectionBuilder). b.announces) is);
}
  where
    valid : (r : Option BaseFault) → AreKnown before read.items old r → AreKnown before read.items
        (record old { records = old.records + 1; last = number; announces = announces block }) r
    valid None v = record
        { records = v.records; are = v.are; built = v.built; notes = v.notes; previous = v.previous }
    valid (Some f) r = r

    mid-has : HasItems before read.items old → HasItems before read.items mid
    mid-has h = subst (HasItems before read.items) (sym is)
        (record { airline = h.airline; serial = h.serial; known = valid old.refusal h.known })

-- none so far
pub none-read : (b : SectionBuilder) (before : Before) → b.refusal ≡ None → b.airline ≡ None →
    b.records ≡ 0
    → b.serial ≡ before.serial → HasBuilt b.builder (before.header ∷ [])
    → b.builder.reader.notes.items ≡ before.notes → b.builder.reader.previous ≡ before.serial
    → HasRead before [] b
none-read b before open' unnamed none serial built notes previous = record {
  items = [];
  says = tt;
  has = record {
    airline = unnamed;
    serial = serial;
    known = subst (AreKnown before [] b) (sym open')
        (record {
          records = [];
          are = refl;
          built = built;
          notes = notes ∙ sym (append-nil before.notes);
          previous = previous;
        });
  };
  records = none;
  last = tt;
}

-- ---- the end

-- a section that is refused
pub refused-section : (before : Before) (blocks : SectionBlocks) (ending : Ending) (followed : Bool)
    (b : SectionBuilder) (f : BaseFault)
    → (read : HasRead before (blocks.first ∷ blocks.later) b) → b.refusal ≡ Some f
    → SaysInFile (blocks.first ∷ blocks.later) read.items
    × (record { airline = b.airline; records = b.records; outcome = Err f } ≡ section_read before
    blocks ending followed read.items)
refused-section before blocks ending followed b f read is =
    let r : IsRefused before read.items f = subst (AreKnown before read.items b) is read.has.known in
    let whole : data_set (ending_in ending read.items) (before.header ∷ records_in read.items) ≡ Err f
    =
    subst (λ (all : Items). data_set (ending_in ending all) (before.header ∷ records_in all) ≡ Err f)
    (append-nil read.items) (r ending []) in
    (read.says, rw (read.has.airline, read.records, whole) refl)

-- a section that is refused by no block so far
pub ended-section : (before : Before) (blocks : SectionBlocks) (ending : Ending) (followed : Bool)
    (b : SectionBuilder) (outcome : Result (List Record × SectionNotes) BaseFault)
    → (read : HasRead before (blocks.first ∷ blocks.later) b) → b.refusal ≡ None
    → ((done : List Numbered) → HasBuilt b.builder done
    → with_notes (b.builder.reader.notes.items, code_note b.announces followed b.last)
    (data_set ending done) ≡ outcome)
    → SaysInFile (blocks.first ∷ blocks.later) read.items
    × (record { airline = b.airline; records = b.records; outcome = outcome }
    ≡ section_read before blocks ending followed read.items)
ended-section before blocks ending followed b outcome read open' whole =
    let v : AreValid before read.items b = subst (AreKnown before read.items b) open' read.has.known in
    let ends : ending_in ending read.items ≡ ending = ap (ending_in ending) v.are ∙ ending-all
    v.records ending in
    let are : records_in read.items ≡ v.records = ap records_in v.are ∙ records-all v.records in
    let notes : before.notes ++ notes_of before.serial (records_in read.items) ≡
    b.builder.reader.notes.items =
    ap (λ (rs : List Numbered). before.notes ++ notes_of before.serial rs) are ∙ sym v.notes in
    let is : data_set (ending_in ending read.items) (before.header ∷ records_in read.items) ≡ data_set
    ending (before.header ∷ v.records) =
    ap (λ (e : Ending). data_set e (before.header ∷ records_in read.items)) ends
    ∙ ap (λ (rs : List Numbered). data_set ending (before.header ∷ rs)) are in (
      read.says,
      rw (
        read.has.airline,
        read.records,
        read.last followed,
        notes,
        is,
        whole
            (before.header ∷ v.records) v.built,
      ) refl,
    )

-- a section that is cut off
pub cut-section : (before : Before) (blocks : SectionBlocks) (followed : Bool) (b : SectionBuilder)
    (f : RecordFault)
    → (read : HasRead before (blocks.first ∷ blocks.later) b) → b.refusal ≡ None
    → SaysInFile (blocks.first ∷ blocks.later) read.items
    × (record { airline = b.airline; records = b.records; outcome = Err (Read f) } ≡ section_read
    before blocks (Broken f) followed read.items)
cut-section before blocks followed b f read open' =
    ended-section before blocks (Broken f) followed b (Err (Read f)) read open'
    (λ done built. ap
    (with_notes (b.builder.reader.notes.items, code_note b.announces followed b.last))
    (broken-built b.builder done f built))

-- a whole section is a data set
pub whole-section : (before : Before) (blocks : SectionBlocks) (number : ℕ) (followed : Bool)
    (b : SectionBuilder) (set : List Record) (notes : List Note) (end' : Option ℕ)
    → (read : HasRead before (blocks.first ∷ blocks.later) b) → b.refusal ≡ None
    → ((done : List Numbered) → HasBuilt b.builder done → data_set (Done number) done ≡ Ok
    (set, notes_of 0 done))
    → notes ≡ b.builder.reader.notes.items → end' ≡ code_note b.announces followed b.last
    → SaysInFile (blocks.first ∷ blocks.later) read.items
    × (record { airline = b.airline; records = b.records; outcome = Ok (set, (notes, end')) }
    ≡ section_read before blocks (Done number) followed read.items)
whole-section before blocks number followed b set notes end' read open' whole noted code =
    ended-section before blocks (Done number) followed b (Ok (set, (notes, end'))) read open'
    (λ done built. ap
    (with_notes (b.builder.reader.notes.items, code_note b.announces followed b.last))
    (whole done built)
    ∙ rw (noted, code) refl)

-- or it is refused at its end
pub refused-at-end : (before : Before) (blocks : SectionBlocks) (number : ℕ) (followed : Bool)
    (b : SectionBuilder) (m : ℕ) (why : BaseRefusal)
    → (read : HasRead before (blocks.first ∷ blocks.later) b) → b.refusal ≡ None
    → ((done : List Numbered) → HasBuilt b.builder done → IsRefusedAtEnd (Done number) done
    (Refused m why))
    → SaysInFile (blocks.first ∷ blocks.later) read.items
    × (record { airline = b.airline; records = b.records; outcome = Err (Refused m why) }
    ≡ section_read before blocks (Done number) followed read.items)
refused-at-end before blocks number followed b m why read open' refuses =
    ended-section before blocks (Done number) followed b (Err (Refused m why)) read open'
    (λ done built. ap
    (with_notes (b.builder.reader.notes.items, code_note b.announces followed b.last))
    (refuses done built))

-- what holds of a result that is no error
pub when-ok : {A B : Type 0} (r : Result (Unit {0}) Memory) → OnOk r A → (A → B) → OnOk r B
when-ok (Ok x) a f = f a
when-ok (Err e) a f = a
