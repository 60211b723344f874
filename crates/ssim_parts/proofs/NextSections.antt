-- What a call for the next section says of those that are left.
use Rattle.std.proofs.Common.{◌≡◌, ◌∙◌, ◌<◌, ◌≤◌, ℕ, suc, ◌+◌, ◌-◌, ◌*◌, ◌%◌, ◌^◌, List, [], ◌∷◌}
use Rattle.std.proofs.Common.{◌++◌, Option, Some, None}
use Rattle.std.specs.Prelude.{if◌then◌else◌}
use Rattle.std.proofs.Common.{inl, inr, append_assoc, arith, length, refl, sym, ap, subst, true, false}
use Rattle.std.proofs.Common.{Bool}
use Rattle.std.proofs.lemmas.List.{append-nil}
use Rattle.ssim_records.specs.Device.{Reader}
use Rattle.ssim_records.specs.Frames.{Frames, FramesExist}
use Rattle.ssim_records.specs.clauses.Reading.{Reading}
use Rattle.ssim_records.specs.declared.fault.RecordFault.TheVariants.{Short, BadType, BadColumn}
use Rattle.ssim_records.specs.declared.fault.RecordFault.TheVariants.{ReadFault, ReaderNeverEnds}
use Rattle.ssim_records.specs.declared.record.Record.{Record}
use Rattle.ssim_records.specs.Record.{serial_of}
use Rattle.ssim_base.specs.Base.{Ending, Done, notes_of}
use Rattle.ssim_base.specs.Problems.{Item}
use Rattle.ssim_base.specs.declared.fault.BaseFault.{BaseFault}
use Rattle.ssim_base.specs.declared.fault.BaseFault.TheVariants as fault
use Rattle.ssim_base.specs.declared.fault.BaseFault.TheVariants.{Read, Refused}
use Rattle.ssim_parts.specs.Sections.{Before, Block, FileEnd, HasBlocks, IsHeaded, SectionBlocks}
use Rattle.ssim_parts.specs.Sections.{Unread, Whole}
use Rattle.ssim_parts.specs.Sections.{after_items, before_all, begins_as_carrier, cut, is_followed}
use Rattle.ssim_parts.specs.Sections.{section_end, serial_after}
use Rattle.ssim_parts.specs.clauses.Sections.{AreLeft, GivesSection, HasLeft, IsOpen, IsSection, Knows}
use Rattle.ssim_parts.specs.clauses.Sections.{Begins, RefusesFile, RefusesNext, SectionsState}
use Rattle.ssim_parts.specs.clauses.Sections.{HasRest, ended_as, most_left}
use Rattle.ssim_parts.specs.declared.section.Section.{Section}
use Rattle.ssim_parts.specs.internal.SectionSteps.{BeginNone, GoesOn, ReadsCarrier, ReadsHeader}
use Rattle.ssim_parts.specs.internal.SectionSteps.{RefusesCarrier, RefusesHeader, RefusesOwn}
use Rattle.ssim_parts.proofs.SectionsLeft as left
use Rattle.ssim_parts.proofs.SectionsLeft.{cut-first, some-left}

-- ---- sections that are left

-- a section with these blocks, and others
pub section-left : (before : Before) (first : Block) (r : Reading) (known : Option (List ℕ))
    (own later : List Block)
    (sections : List SectionBlocks) (end' : FileEnd) → begins_as_carrier first ≡ true → BeginNone own
    → HasLeft r known (own ++ later) end' → cut later ≡ ([], sections)
    → AreLeft (record { before = before; next = Some first; reading = r }) known
    (record { first = first; later = own } ∷ sections) end'
section-left before first r known own later sections end' begins none has cuts = (
  first ∷ own ++ later,
  (own ++ later, refl, has),
  left.cut-section first own later sections begins
      none cuts,
)

-- the last section
pub last-left : (before : Before) (first : Block) (r : Reading) (known : Option (List ℕ))
    (own : List Block)
    (end' : FileEnd) → begins_as_carrier first ≡ true → BeginNone own → HasLeft r known own end'
    → AreLeft (record { before = before; next = Some first; reading = r }) known
    (record { first = first; later = own } ∷ []) end'
last-left before first r known own end' begins none has =
    section-left before first r known own [] [] end' begins none
    (subst (λ (bs : List Block). HasLeft r known bs end') (sym (append-nil own)) has) refl

-- some section
pub some-section : FramesExist → (before : Before) (first : Block) (r : Reading)
    (known : Option (List ℕ))
    → begins_as_carrier first ≡ true
    → (blocks : SectionBlocks) × (later : List SectionBlocks) × (end' : FileEnd)
    × AreLeft (record { before = before; next = Some first; reading = r }) known (blocks ∷ later) end'
some-section exist before first r known begins =
    let some = some-left exist r known in (
      record { first = first; later = (cut some.0).0 },
      (cut some.0).1,
      some.1,
      (first ∷ some.0, (some.0, refl, some.2), cut-first first some.0 begins),
    )

-- after the block that begins the next section
pub rest-after : FramesExist → (before : Before) (next : Block) (r : Reading)
    (known : Option (List ℕ)) → begins_as_carrier next ≡ true
    → HasRest (record { before = before; next = Some next; reading = r }) known
rest-after exist before next r known begins =
    let some = some-section exist before next r known begins in
    (some.0 ∷ some.1, some.2, some.3)

-- after the last section
pub no-rest : (next : Option Block) (r : Reading) (known : Option (List ℕ)) (before : Before)
    → next ≡ None → HasRest (record { before = before; next = next; reading = r }) known
no-rest next r known before is =
    subst (λ (n : Option Block). HasRest (record { before = before; next = n; reading = r }) known)
    (sym is) ([], ended_as r, ([], (refl, refl), refl))

-- ---- no section is returned

pub refuses-next : FramesExist → (before : Before) (first : Block) (r : Reading)
    (known : Option (List ℕ)) (x y : Reader) (f : BaseFault)
    → begins_as_carrier first ≡ true → RefusesOwn r known x y f
    → RefusesNext (record { before = before; next = Some first; reading = r }) known x y f
refuses-next exist before first r known x y fault.Memory begins own = some-section exist before first r
    known begins
refuses-next exist before first r known x y (Read (ReadFault n)) begins fails = (
  fails,
  λ none. (
    record { first = first; later = [] },
    last-left before first r known [] Unread begins left.begin-none
        (subst (λ (k : Option (List ℕ)). HasLeft r k [] Unread) (sym none) tt),
  ),
)
refuses-next exist before first r known x y (Read (ReaderNeverEnds n)) begins (own, none, has) =
    (record { first = first; later = own }, last-left before first r known own Unread begins none has)
refuses-next exist before first r known x y (Read (Short n)) begins own = absurd own
refuses-next exist before first r known x y (Read (BadType n)) begins own = absurd own
refuses-next exist before first r known x y (Read (BadColumn n column)) begins own = absurd own
refuses-next exist before first r known x y (Refused n why) begins own = absurd own

-- ---- fewer sections are left

fewer : (limit limit' n n' : ℕ) → limit' ≡ limit → n < n' → 200 * n' ≤ limit' + 1
    → suc (limit' + 1 - 200 * n') < suc (limit + 1 - 200 * n)
fewer limit limit' n n' is later room = omega (arith, is, later, room)

-- than before, if one of them is the next one
pub fewer-next : (before after : Before) (first second : Block) (r new : Reading)
    → (new.limit ≡ r.limit) × (r.number < new.number) × (200 * new.number ≤ new.limit + 1)
    → most_left (record { before = after; next = Some second; reading = new })
    < most_left (record { before = before; next = Some first; reading = r })
fewer-next before after first second r new (limit, later, room) =
    fewer r.limit new.limit r.number new.number limit later room

-- none is left
pub fewer-none : (before after : Before) (first : Block) (r new : Reading)
    → most_left (record { before = after; next = None; reading = new })
    < most_left (record { before = before; next = Some first; reading = r })
fewer-none before after first r new = omega arith

-- ---- a section is returned

-- before the next section
pub before-after : (before : Before) (header : ℕ × Record) (serial : ℕ) (items : List (ℕ × Item)) →
    header ≡ before.header
    → serial ≡ serial_after before.serial items
    → record { header = header; notes = []; serial = serial } ≡ after_items before items
before-after before header serial items a b =
    λ i. record { header = a i; notes = []; serial = b i }

none-cut : (blocks : List Block) (sections : List SectionBlocks) → blocks ≡ [] → cut blocks ≡
    ([], sections) → sections ≡ []
none-cut blocks sections is cuts =
    ap (λ (c : List Block × List SectionBlocks). c.1) (sym cuts ∙ ap cut is)

-- the last section
pub gives-last : (before after : Before) (first : Block) (r new : Reading)
    (known known' : Option (List ℕ)) (own : List Block)
    (ending : Ending) (items : List (ℕ × Item)) (section : Section) → begins_as_carrier first ≡ true →
    BeginNone own
    → ended_as new ≡ Whole ending → HasLeft r known own (Whole ending)
    → IsSection before (record { first = first; later = own }) ending false items section → after ≡
    after_items before items
    → GivesSection (record { before = before; next = Some first; reading = r }) known
    (record { before = after; next = None; reading = new }) known' (Some section)
gives-last before after first r new known known' own ending items section begins none ended has is
    follows sections end' (blocks, (no-blocks, ends), cuts) =
    let nothing = none-cut blocks sections no-blocks cuts in
    let end-is = ends ∙ ended in
    subst (λ (ss : List SectionBlocks). (bs : SectionBlocks) × (e : Ending)
    × AreLeft (record { before = before; next = Some first; reading = r }) known (bs ∷ ss) end'
    × (section_end end' ss ≡ Some e) × (is' : List (ℕ × Item)) × IsSection before bs e (is_followed ss)
    is' section
    × (after ≡ after_items before is')) (sym nothing) (
      record { first = first; later = own },
      ending,
      last-left before first r known own end' begins none
          (subst (HasLeft r known own) (sym end-is) has),
      ap (λ (e : FileEnd). section_end e []) end-is,
      items,
      is,
      follows,
    )

-- a section that another one follows
pub gives-one : (before after : Before) (first second : Block) (r new : Reading)
    (known known' : Option (List ℕ)) (own : List Block)
    (items : List (ℕ × Item)) (section : Section) → begins_as_carrier first ≡ true → begins_as_carrier
    second ≡ true → BeginNone own
    → GoesOn r known new known' (own ++ second ∷ [])
    → IsSection before (record { first = first; later = own }) (Done second.0) true items section →
    after ≡ after_items before items
    → GivesSection (record { before = before; next = Some first; reading = r }) known
    (record { before = after; next = Some second; reading = new }) known' (Some section)
gives-one before after first second r new known known' own items section begins next none goes is
    follows sections end' (blocks, (later, blocks-are, has), cuts) =
    let cuts-so : cut blocks ≡ ([], record { first = second; later = (cut later).0 } ∷ (cut later).1) =
    ap cut blocks-are ∙ cut-first second later next in
    let sections-are : sections ≡ record { first = second; later = (cut later).0 } ∷ (cut later).1 =
    ap (λ (c : List Block × List SectionBlocks). c.1) (sym cuts ∙ cuts-so) in
    let all : HasLeft r known (own ++ blocks) end' =
    subst (λ (bs : List Block). HasLeft r known (own ++ bs) end') (sym blocks-are)
    (subst (λ (bs : List Block). HasLeft r known bs end') (append_assoc own (second ∷ []) later)
    (goes later end' has)) in (
      record { first = first; later = own },
      Done second.0,
      section-left before first r known own blocks sections end' begins none all cuts,
      ap (section_end end') sections-are,
      items,
      subst
          (λ (b : Bool). IsSection before (record { first = first; later = own }) (Done second.0) b
          items section)
          (sym (ap is_followed sections-are)) is,
      follows,
    )

-- ---- the state before the next section

pub state-is : (s : SectionsState) (first : Block) → s.next ≡ Some first
    → s ≡ record { before = s.before; next = Some first; reading = s.reading }
state-is s first is = ap
    (λ (n : Option Block). record { before = s.before; next = n; reading = s.reading }) is

pub open-first : (next : Option Block) (r : Reading) (first : Block) → next ≡ Some first → IsOpen next
    r → IsOpen (Some first) r
open-first next r first is open' = subst (λ (n : Option Block). IsOpen n r) is open'

-- ---- the beginning

-- a reading that has not begun
abbrev pub fresh : ℕ → Reading
fresh limit = record { limit = limit; came = 0; number = 0; held = []; ended = None }

-- all blocks of the bytes are left
pub has-blocks : (limit : ℕ) (known : Option (List ℕ)) (blocks : List Block) (end' : FileEnd)
    → HasLeft (fresh limit) known blocks end' → HasBlocks limit known blocks end'
has-blocks limit None blocks end' has = tt
has-blocks limit (Some bytes) blocks end' (all, rest, ahead, are, ends) =
    let over : (0 + length bytes) - limit ≡ length bytes - limit = omega arith in
    let number : 0 + length all + 1 ≡ length all + 1 = omega arith in (
      all,
      rest,
      subst (λ (n : ℕ). Frames n false bytes all rest) over ahead,
      are,
      ends ∙ left.same-end (0 + length all + 1) (length all + 1) ((0 + length bytes) - limit)
          (length bytes - limit) rest rest number refl over,
    )

-- no header was read
pub header-refuses : (limit : ℕ) (known : Option (List ℕ)) (x y : Reader) (f : BaseFault)
    → RefusesHeader (fresh limit) known x y f → RefusesFile limit known x y f
header-refuses limit known x y fault.Memory refuses = tt
header-refuses limit known x y (Read (ReadFault n)) refuses = refuses
header-refuses limit known x y (Read (ReaderNeverEnds n)) (blocks, has) =
    (blocks, has-blocks limit known blocks Unread has)
header-refuses limit known x y (Read (Short n)) (blocks, end', has, is) =
    (blocks, end', has-blocks limit known blocks end' has, is)
header-refuses limit known x y (Read (BadType n)) (blocks, end', has, is) =
    (blocks, end', has-blocks limit known blocks end' has, is)
header-refuses limit known x y (Read (BadColumn n column)) (blocks, end', has, is) =
    (blocks, end', has-blocks limit known blocks end' has, is)
header-refuses limit known x y (Refused n why) (blocks, end', has, is) =
    (blocks, end', has-blocks limit known blocks end' has, is)

-- what is known between two calls
pub knows-between : (l m n : Option (List ℕ)) (known known' : Option (List ℕ)) → Knows l n known known'
    → (between : Option (List ℕ)) × Knows l m known between × Knows m n between known'
knows-between l m n known known' (inl (a, b)) = (None, inl (a, refl), inl (refl, b))
knows-between l m n known known' (inr (a, b)) = (m, inr (a, refl), inr (refl, b))

-- after a header
module _ (limit : ℕ) (x m y : Reader) (mid : Reading) (found : ℕ × Record)
    (h : ReadsHeader (fresh limit) x mid m found)
    (known known' : Option (List ℕ)) (knows : Knows x.left y.left known known') where
  between : (between : Option (List ℕ)) × Knows x.left m.left known between × Knows m.left y.left
      between known'
  between = knows-between x.left m.left y.left known known' knows

  -- blocks that are left then come after it
  all-blocks : (blocks : List Block) (end' : FileEnd) → HasLeft mid between.0 blocks end'
      → HasBlocks limit known ((found.0, h.block) ∷ blocks) end'
  all-blocks blocks end' has = has-blocks limit known ((found.0, h.block) ∷ blocks) end'
      (h.goes known between.0 between.1 blocks end' has)

  -- no carrier record was read
  carrier-file : (f : BaseFault) → RefusesCarrier mid between.0 m y f → RefusesFile limit known x y f
  carrier-file fault.Memory refuses = tt
  carrier-file (Read (ReadFault n)) refuses = refuses ∙ ap (λ (k : ℕ). (k + 1) % 2 ^ 64) h.no_failure
  carrier-file (Read (ReaderNeverEnds n)) (blocks, has) =
      ((found.0, h.block) ∷ blocks, all-blocks blocks Unread has)
  carrier-file (Read (Short n)) (blocks, end', has, is) = (
    (found.0, h.block) ∷ blocks,
    end',
    all-blocks blocks end' has,
    is (found.0, h.block) h.header
        h.spells,
  )
  carrier-file (Read (BadType n)) (blocks, end', has, is) = (
    (found.0, h.block) ∷ blocks,
    end',
    all-blocks blocks end' has,
    is (found.0, h.block) h.header
        h.spells,
  )
  carrier-file (Read (BadColumn n column)) (blocks, end', has, is) = (
    (found.0, h.block) ∷ blocks,
    end',
    all-blocks blocks end' has,
    is (found.0, h.block) h.header
        h.spells,
  )
  carrier-file (Refused n why) (blocks, end', has, is) = (
    (found.0, h.block) ∷ blocks,
    end',
    all-blocks blocks end' has,
    is (found.0, h.block) h.header
        h.spells,
  )

  pub carrier-refuses : (f : BaseFault)
      → ((k k' : Option (List ℕ)) → Knows m.left y.left k k' → RefusesCarrier mid k m y f) →
      RefusesFile limit known x y f
  carrier-refuses f refuses = carrier-file f (refuses between.0 known' between.2)

  -- a carrier record was read
  pub both-read : (new : Reading) (next : Block) (serial : ℕ) → ReadsCarrier mid m.left new y.left next
      → serial ≡ serial_of found.1
      → Begins limit known (record {
        before = record { header = found; notes = notes_of 0 (found ∷ []); serial = serial };
        next = Some next;
        reading = new;
      }) known'
  both-read new next serial c serial-is = (
    (found.0, h.block),
    h.header,
    h.spells,
    (λ i. record { header = found; notes = notes_of 0 (found ∷ []); serial = serial-is i })
        ∙ ap (λ (r : Record). before_all (found.0, r)) h.is,
    λ sections end' (blocks, (later, are, has), cuts). (
      blocks,
      all-blocks blocks end'
          (subst (λ (bs : List Block). HasLeft mid between.0 bs end') (sym are)
          (c.goes between.0 known' between.2 later end' has)),
      subst (λ (bs : List Block). IsHeaded ((found.0, h.block) ∷ bs)) (sym are)
          ((h.header, h.spells), c.open'.0),
      cuts,
    ),
  )

-- ---- a call for the next section

-- what comes before a section, by the fields of the reading
abbrev pub heading_of : ℕ → Record → Bool → ℕ → Before
heading_of number header is-first serial = record {
  header = (number, header);
  notes = if is-first then notes_of 0 ((number, header) ∷ []) else [];
  serial = serial;
}

-- a state with this block is the state of the reading
pub first-state : (s : SectionsState) (before : Before) (next : Option Block) (r : Reading)
    (first : Block)
    → record { before = before; next = next; reading = r } ≡ s → next ≡ Some first
    → record { before = before; next = Some first; reading = r } ≡ s
first-state s before next r first is next-is =
    ap (λ (n : Option Block). record { before = before; next = n; reading = r }) (sym next-is) ∙ is

-- memory ran out
pub no-memory : FramesExist → (s : SectionsState) (before : Before) (first : Block) (r : Reading)
    (known : Option (List ℕ)) (x y : Reader)
    → record { before = before; next = Some first; reading = r } ≡ s → begins_as_carrier first ≡ true
    → RefusesNext s known x y fault.Memory
no-memory exist s before first r known x y is begins =
    subst (λ (t : SectionsState). RefusesNext t known x y fault.Memory) is
    (some-section exist before first r known begins)

-- the section is not read to its end
pub own-refused : FramesExist → (s : SectionsState) (before : Before) (first : Block) (r : Reading)
    (known : Option (List ℕ)) (x y : Reader) (f : BaseFault)
    → record { before = before; next = Some first; reading = r } ≡ s → begins_as_carrier first ≡ true
    → RefusesOwn r known x y f → RefusesNext s known x y f
own-refused exist s before first r known x y f is begins refuses =
    subst (λ (t : SectionsState). RefusesNext t known x y f) is
    (refuses-next exist before first r known x y f begins refuses)
