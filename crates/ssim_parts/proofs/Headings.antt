-- A file without a header, or without a block that begins with `2` after it, is refused by its first
-- blocks.
use Rattle.std.proofs.Common.{◌≡◌, ◌∙◌, ℕ, List, [], ◌∷◌, Option, Some, None, Ok, Err}
use Rattle.std.proofs.Common.{is_some, refl, sym, ap, subst, true, false, true≢false}
use Rattle.ssim_records.specs.Device.{Reader}
use Rattle.ssim_records.specs.Frames.{FramesExist}
use Rattle.ssim_records.specs.Header.{HeaderFields, SpellsHeader}
use Rattle.ssim_records.specs.Record.{Spells, fault_of}
use Rattle.ssim_records.specs.clauses.Reading.{FailsAs, GivesNext, HasNumber, IsNoBlockFault, Reading}
use Rattle.ssim_records.specs.clauses.Record.{HasSpelt}
use Rattle.ssim_records.specs.declared.fault.RecordFault.{RecordFault}
use Rattle.ssim_records.specs.declared.fault.RecordFault.TheVariants.{Short, BadType, BadColumn}
use Rattle.ssim_records.specs.declared.fault.RecordFault.TheVariants.{ReadFault, ReaderNeverEnds}
use Rattle.ssim_records.specs.declared.record.Record.{Record}
use Rattle.ssim_records.specs.declared.record.Record.TheVariants.{Header, Carrier, Leg, Segment}
use Rattle.ssim_records.specs.declared.record.Record.TheVariants.{Trailer}
use Rattle.ssim_records.proofs.Readings.{block_fault}
use Rattle.ssim_records.proofs.AnyRecord.{first_byte, kind_is, no_fault, one_record}
use Rattle.ssim_base.specs.Base.{Broken, Done, Ending, data_set}
use Rattle.ssim_base.specs.declared.fault.BaseFault.TheVariants.{Read, Refused}
use Rattle.ssim_base.specs.declared.fault.BaseRefusal.TheVariants.{NoCarrier, NoHeader}
use Rattle.ssim_parts.specs.Sections.{Block, FileEnd, IsHeaded, RefusesHeading, Whole}
use Rattle.ssim_parts.specs.Sections.{begins_as_carrier}
use Rattle.ssim_parts.specs.clauses.Sections.{HasLeft, Knows}
use Rattle.ssim_parts.specs.internal.SectionSteps.{RefusesAfter, RefusesCarrier, RefusesHeader}
use Rattle.ssim_parts.specs.internal.SectionSteps.{is_header}
use Rattle.ssim_parts.proofs.SectionsLeft.{carrier-true, none-left, over-back, short-back}

-- ---- no header

pub no-header : (n : ℕ) → RefusesHeading [] (Whole (Done n)) (Refused n NoHeader)
no-header n = (
  λ headed. headed,
  [],
  [],
  refl,
  [],
  tt,
  λ ending is. subst (λ (e : Ending). data_set e [] ≡ Err (Refused n NoHeader)) (sym is) refl,
)

pub short-header : (f : RecordFault) → RefusesHeading [] (Whole (Broken f)) (Read f)
short-header f = (
  λ headed. headed,
  [],
  [],
  refl,
  [],
  tt,
  λ ending is. subst (λ (e : Ending). data_set e [] ≡ Err (Read f)) (sym is) refl,
)

unspelt : (n : ℕ) (b : List ℕ) (f : RecordFault) (r : Record) → fault_of n b ≡ Some f → Spells r b → ⊥
unspelt n b f r is spells = true≢false (ap is_some (sym is ∙ no_fault n b r spells))

not-headed : (first : Block) (later : List Block) → ((h : HeaderFields) → SpellsHeader h first.1 → ⊥)
    → IsHeaded (first ∷ later) → ⊥
not-headed first [] none headed = headed
not-headed first (second ∷ later) none headed = none headed.0.0 headed.0.1

pub invalid-header : (n : ℕ) (b : List ℕ) (later : List Block) (end' : FileEnd) (f : RecordFault) →
    fault_of n b ≡ Some f
    → RefusesHeading ((n, b) ∷ later) end' (Read f)
invalid-header n b later end' f is = (
  not-headed (n, b) later (λ h spells. unspelt n b f (Header h) is spells),
  (n, b) ∷ [],
  later,
  refl,
  (n, Err f) ∷ [],
  (refl, is, tt),
  λ ending ends. refl,
)

other-refused : (n : ℕ) (r : Record) (ending : Ending) → is_header r ≡ false
    → data_set ending ((n, r) ∷ []) ≡ Err (Refused n NoHeader)
other-refused n (Header h) ending is = absurd (true≢false is)
other-refused n (Carrier h) ending is = refl
other-refused n (Leg h) ending is = refl
other-refused n (Segment h) ending is = refl
other-refused n (Trailer h) ending is = refl

pub other-header : (n : ℕ) (b : List ℕ) (later : List Block) (end' : FileEnd) (r : Record) → Spells r b
    → is_header r ≡ false
    → RefusesHeading ((n, b) ∷ later) end' (Refused n NoHeader)
other-header n b later end' r spells is = (
  not-headed (n, b) later
      (λ h header. true≢false (sym (ap is_header (one_record b r (Header h) spells header)) ∙ is)),
  (n, b) ∷ [],
  later,
  refl,
  (n, Ok r) ∷ [],
  (refl, spells, tt),
  λ ending ends. other-refused n r ending is,
)

-- ---- no carrier record

pub no-carrier : (n : ℕ) → RefusesAfter [] (Whole (Done n)) (Refused n NoCarrier)
no-carrier n first header spells = (
  λ headed. headed,
  first ∷ [],
  [],
  refl,
  (first.0, Ok (Header header)) ∷ [],
  (refl, spells, tt),
  λ ending is. subst
      (λ (e : Ending). data_set e ((first.0, Header header) ∷ []) ≡ Err (Refused n NoCarrier)) (sym is)
      refl,
)

pub short-carrier : (f : RecordFault) → RefusesAfter [] (Whole (Broken f)) (Read f)
short-carrier f first header spells = (
  λ headed. headed,
  first ∷ [],
  [],
  refl,
  (first.0, Ok (Header header)) ∷ [],
  (refl, spells, tt),
  λ ending is. subst (λ (e : Ending). data_set e ((first.0, Header header) ∷ []) ≡ Err (Read f))
      (sym is) refl,
)

pub invalid-carrier : (n : ℕ) (b : List ℕ) (later : List Block) (end' : FileEnd) (f : RecordFault) →
    fault_of n b ≡ Some f
    → begins_as_carrier (n, b) ≡ false → RefusesAfter ((n, b) ∷ later) end' (Read f)
invalid-carrier n b later end' f is other first header spells = (
  λ headed. true≢false (sym headed.1 ∙ other),
  first ∷ (n, b) ∷ [],
  later,
  refl,
  (first.0, Ok (Header header)) ∷ (n, Err f) ∷ [],
  (refl, spells, (refl, is, tt)),
  λ ending ends. refl,
)

after-refused : (m n : ℕ) (h : HeaderFields) (b : List ℕ) (r : Record) (ending : Ending) → Spells r b →
    begins_as_carrier (n, b) ≡ false
    → data_set ending ((m, Header h) ∷ (n, r) ∷ []) ≡ Err (Refused n NoCarrier)
after-refused m n h b (Header r) ending spells other = refl
after-refused m n h b (Carrier r) ending spells other =
    absurd
    (true≢false
    (sym (carrier-true (n, b) (first_byte b 50 (kind_is (Carrier r) b spells))) ∙ other))
after-refused m n h b (Leg r) ending spells other = refl
after-refused m n h b (Segment r) ending spells other = refl
after-refused m n h b (Trailer r) ending spells other = refl

pub other-carrier : (n : ℕ) (b : List ℕ) (later : List Block) (end' : FileEnd) (r : Record) → Spells r
    b
    → begins_as_carrier (n, b) ≡ false → RefusesAfter ((n, b) ∷ later) end' (Refused n NoCarrier)
other-carrier n b later end' r is other first header spells = (
  λ headed. true≢false (sym headed.1 ∙ other),
  first ∷ (n, b) ∷ [],
  later,
  refl,
  (first.0, Ok (Header header)) ∷ (n, Ok r) ∷ [],
  (refl, spells, (refl, is, tt)),
  λ ending ends. after-refused first.0 n header b r ending is other,
)

-- ---- no block

pub faulty-header : FramesExist → (old new : Reading) (left : Option (List ℕ)) (before after : Reader)
    (f : RecordFault)
    → IsNoBlockFault f → GivesNext old left new after.left (Err f) → HasNumber {A = List ℕ} old new
    (Err f)
    → FailsAs {A = Option (ℕ × List ℕ)} before.failures after.failures (Err f)
    → (known known' : Option (List ℕ)) → Knows left after.left known known' → RefusesHeader old known
    before after (Read f)
faulty-header exist old new left before after (Short n) stops gives is fails known known' knows = (
  [],
  Whole (Broken (Short n)),
  none-left old left after.left _
      (short-back exist old new left after.left n gives is) known known' knows,
  short-header
      (Short n),
)
faulty-header exist old new left before after (BadType n) stops gives is fails known known' knows =
    absurd stops
faulty-header exist old new left before after (BadColumn n column) stops gives is fails known known'
    knows = absurd stops
faulty-header exist old new left before after (ReadFault n) stops gives is fails known known' knows =
    fails
faulty-header exist old new left before after (ReaderNeverEnds n) stops gives is fails known known'
    knows = (
      [],
      none-left old left after.left _ (over-back exist old new left after.left n gives) known known'
          knows,
    )

pub faulty-carrier : FramesExist → (old new : Reading) (left : Option (List ℕ)) (before after : Reader)
    (f : RecordFault)
    → IsNoBlockFault f → GivesNext old left new after.left (Err f) → HasNumber {A = List ℕ} old new
    (Err f)
    → FailsAs {A = Option (ℕ × List ℕ)} before.failures after.failures (Err f)
    → (known known' : Option (List ℕ)) → Knows left after.left known known' → RefusesCarrier old known
    before after (Read f)
faulty-carrier exist old new left before after (Short n) stops gives is fails known known' knows = (
  [],
  Whole (Broken (Short n)),
  none-left old left after.left _
      (short-back exist old new left after.left n gives is) known known' knows,
  short-carrier
      (Short n),
)
faulty-carrier exist old new left before after (BadType n) stops gives is fails known known' knows =
    absurd stops
faulty-carrier exist old new left before after (BadColumn n column) stops gives is fails known known'
    knows = absurd stops
faulty-carrier exist old new left before after (ReadFault n) stops gives is fails known known' knows =
    fails
faulty-carrier exist old new left before after (ReaderNeverEnds n) stops gives is fails known known'
    knows = (
      [],
      none-left old left after.left _ (over-back exist old new left after.left n gives) known known'
          knows,
    )

-- ---- an invalid record, by its fault

-- the fault of 200 bytes is of no device
pub unread-header : (old : Reading) (known : Option (List ℕ)) (before after : Reader) (n : ℕ)
    (b : List ℕ) (f : RecordFault) → fault_of n b ≡ Some f
    → (later : List Block) × (end' : FileEnd) × HasLeft old known ((n, b) ∷ later) end'
    → RefusesHeader old known before after (Read f)
unread-header old known before after n b (Short m) is (later, end', left) =
    ((n, b) ∷ later, end', left, invalid-header n b later end' (Short m) is)
unread-header old known before after n b (BadType m) is (later, end', left) =
    ((n, b) ∷ later, end', left, invalid-header n b later end' (BadType m) is)
unread-header old known before after n b (BadColumn m column) is (later, end', left) =
    ((n, b) ∷ later, end', left, invalid-header n b later end' (BadColumn m column) is)
unread-header old known before after n b (ReadFault m) is left = absurd
    (block_fault n b (ReadFault m) is)
unread-header old known before after n b (ReaderNeverEnds m) is left = absurd
    (block_fault n b (ReaderNeverEnds m) is)

pub unread-carrier : (old : Reading) (known : Option (List ℕ)) (before after : Reader) (n : ℕ)
    (b : List ℕ) (f : RecordFault) → fault_of n b ≡ Some f
    → begins_as_carrier (n, b) ≡ false
    → (later : List Block) × (end' : FileEnd) × HasLeft old known ((n, b) ∷ later) end'
    → RefusesCarrier old known before after (Read f)
unread-carrier old known before after n b (Short m) is other (later, end', left) =
    ((n, b) ∷ later, end', left, invalid-carrier n b later end' (Short m) is other)
unread-carrier old known before after n b (BadType m) is other (later, end', left) =
    ((n, b) ∷ later, end', left, invalid-carrier n b later end' (BadType m) is other)
unread-carrier old known before after n b (BadColumn m column) is other (later, end', left) =
    ((n, b) ∷ later, end', left, invalid-carrier n b later end' (BadColumn m column) is other)
unread-carrier old known before after n b (ReadFault m) is other left = absurd
    (block_fault n b (ReadFault m) is)
unread-carrier old known before after n b (ReaderNeverEnds m) is other left = absurd
    (block_fault n b (ReaderNeverEnds m) is)

-- ---- a record that was put in

pub spelt-one : (o : Option Record) (b : List ℕ) → HasSpelt o b → (r : Record) × (o ≡ Some r) × Spells
    r b
spelt-one None b spells = absurd spells
spelt-one (Some r) b spells = (r, refl, spells)

pub as-header : (r : Record) (b : List ℕ) → is_header r ≡ true → Spells r b
    → (h : HeaderFields) × (r ≡ Header h) × SpellsHeader h b
as-header (Header h) b is spells = (h, refl, spells)
as-header (Carrier h) b is spells = absurd (true≢false (sym is))
as-header (Leg h) b is spells = absurd (true≢false (sym is))
as-header (Segment h) b is spells = absurd (true≢false (sym is))
as-header (Trailer h) b is spells = absurd (true≢false (sym is))
