-- The sections of a data set of several carriers, one after another: what is done with one of them, and
-- then with the others.
use Rattle.std.proofs.Common.{◌≡◌, ◌∙◌, ◌<◌, inl, inr, ℕ, ◌+◌, ◌-◌, ◌%◌, ◌^◌, zero, suc, arith}
use Rattle.std.proofs.Common.{List, [], ◌∷◌, ◌++◌, length, Option, Some, None, Result, Ok, Err}
use Rattle.std.proofs.Common.{refl, sym, ap, subst}
use Rattle.std.specs.Prelude.{IfSome, codes}
use Rattle.ssim_records.specs.Device.{Reader}
use Rattle.ssim_records.specs.declared.fault.RecordFault.TheVariants.{Short, BadType, BadColumn}
use Rattle.ssim_records.specs.declared.fault.RecordFault.TheVariants.{ReadFault, ReaderNeverEnds}
use Rattle.ssim_records.specs.declared.record.Record.{Record}
use Rattle.ssim_records.specs.declared.record.Record.TheVariants.{Header}
use Rattle.ssim_base.specs.Base.{Ending}
use Rattle.ssim_base.specs.Problems.{Item}
use Rattle.ssim_base.specs.declared.fault.BaseFault.{BaseFault}
use Rattle.ssim_base.specs.declared.fault.BaseFault.TheVariants as fault
use Rattle.ssim_base.specs.declared.fault.BaseFault.TheVariants.{Read, Refused}
use Rattle.ssim_parts.specs.Sections.{Before, Block, FileEnd, HasBlocks, RefusesHeading, SaysInFile}
use Rattle.ssim_parts.specs.Sections.{SectionBlocks, SectionRead, Unread, after_items, before_all, cut}
use Rattle.ssim_parts.specs.Sections.{file_end, is_followed, section_end, section_read}
use Rattle.ssim_parts.specs.clauses.Sections.{AreLeft, Begins, GivesSection, HasRest, Knows}
use Rattle.ssim_parts.specs.clauses.Sections.{RefusesFile, RefusesNext, SectionsState, ended_as}
use Rattle.ssim_parts.specs.clauses.Sections.{section_seen}
use Rattle.ssim_parts.specs.declared.section.Section.{Section as Declared}
use Rattle.ssim_command_line.specs.Line.{Text}
use Rattle.ssim_program.specs.Acts.{Act, Acts, Print, Keep, Stop}
use Rattle.ssim_program.specs.Answer.{Answer, Gives, ◌>>=◌}
use Rattle.ssim_program.specs.Files.{Files, IsOpened, with_kept}
use Rattle.ssim_program.specs.Made.{IsMissingWithin}
use Rattle.ssim_program.specs.Places.{place_in}
use Rattle.ssim_program.specs.Splitting.{KeptAs, RefusedAs, RefusesRead, Section}
use Rattle.ssim_program.specs.Splitting.{SectionFate, acts_of, blocks_in, count_line, end_in, fate_of}
use Rattle.ssim_program.specs.Splitting.{header_in}
use Rattle.ssim_program.specs.Splitting.{is_kept, items_in, sections_of, split, split_each, split_limit}
use Rattle.ssim_program.specs.World.{Acted, Does, Performs, World}
use Rattle.ssim_program.specs.print.Refusal.{IsMemory, IsOfFile, refusal_number}
use Rattle.ssim_program.specs.internal.Splitting.{ActsAs, IsReadFault, PutsSection}
use Rattle.ssim_program.specs.declared.content_kind.ContentKind.TheVariants as kind
use Rattle.ssim_program.specs.declared.refusal.Refusal.{Refusal}
use Rattle.ssim_program.specs.declared.refusal.Refusal.TheVariants as refused
use Rattle.ssim_program.proofs.Acting.{last, refuses}
use Rattle.ssim_program.proofs.Within.{Fails}

-- ---- answers one after another

-- a step, and then the acts of what comes next
does-then : {A : Type 0} (first : Answer A) (next : A → Answer (List Act)) (a : A) (w v : World) (r : Result (Unit {0}) Refusal)
    → first (Ok a) → Does (next a) w v r → Does (Rattle.ssim_program.specs.Answer.Then first next) w v r
does-then first next a w v r is (acts, inl made, performed) = (acts, inl (a, is, made), performed)
does-then first next a w v r is (acts, inr (why, not_so, are), performed) =
    (acts, inr (why, inr (a, is, not_so), are), performed)

-- ---- the acts of a section

-- Memory may run out in what comes next.
abbrev pub MayRunOut : (Option Files → Answer (List Act)) → Type 0
MayRunOut next = (files : Option Files) → next files (Err refused.Memory)

stops : (next : Answer (List Act)) → next (Err refused.Memory) → Acts next (Stop refused.Memory ∷ [])
stops next may = inr (refused.Memory, may, refl)

-- they are done, and what comes next is done
pub acts-done : (fate : SectionFate) (w v : World) → ActsAs fate w v (Ok tt) → (next : Option Files → Answer (List Act)) (u : World) (r : Result (Unit {0}) Refusal)
    → Does (next v.files) v u r → Does (acts_of w.files fate next) w u r
acts-done (RefusedAs line) w v (inl (m, printed, same)) next u r (acts, are, performed) =
    let files : v.files ≡ w.files = ap (λ (x : World). x.files) same ∙ printed.2 in (
      Print line ∷ acts,
      inl (acts, subst (λ (fs : Option Files). Acts (next fs) acts) files are, refl),
      inl (m, printed, subst (λ (x : World). Performs acts x u r) same performed),
    )
acts-done (RefusedAs line) w v (inr (why, failed, is)) next u r does = absurd cc
acts-done (KeptAs name bytes lines) w v (inl (place, inl (m, kept, inl (n, printed, same)))) next u r (acts, are, performed) =
    let files : v.files ≡ with_kept ((name, bytes) ∷ []) w.files = ap (λ (x : World). x.files) same ∙ printed.2 ∙ kept.0 in (
      Keep name bytes ∷ Print lines ∷ acts,
      inl (tt, place, (acts, subst (λ (fs : Option Files). Acts (next fs) acts) files are, refl)),
      inl (m, kept, inl (n, printed, subst (λ (x : World). Performs acts x u r) same performed)),
    )
acts-done (KeptAs name bytes lines) w v (inl (place, inl (m, kept, inr (why, failed, is)))) next u r does = absurd cc
acts-done (KeptAs name bytes lines) w v (inl (place, inr (why, failed, is))) next u r does = absurd cc
acts-done (KeptAs name bytes lines) w v (inr (why, place, is, same)) next u r does = absurd cc

-- they are not done
pub acts-failed : (fate : SectionFate) (w v : World) (why : Refusal) → ActsAs fate w v (Err why) → (next : Option Files → Answer (List Act)) → MayRunOut next
    → Does (acts_of w.files fate next) w v (Err why)
acts-failed (RefusedAs line) w v why (inl (m, printed, same)) next may = absurd same
acts-failed (RefusedAs line) w v why (inr (other, failed, is)) next may =
    (Print line ∷ Stop refused.Memory ∷ [], inl (Stop refused.Memory ∷ [], stops (next w.files) (may w.files), refl), inr (other, failed, is))
acts-failed (KeptAs name bytes lines) w v why (inl (place, inl (m, kept, inl (n, printed, same)))) next may = absurd same
acts-failed (KeptAs name bytes lines) w v why (inl (place, inl (m, kept, inr (other, failed, is)))) next may = (
  Keep name bytes ∷ Print lines ∷ Stop refused.Memory ∷ [],
  inl (tt, place, (Stop refused.Memory ∷ [], stops (next (with_kept ((name, bytes) ∷ []) w.files)) (may (with_kept ((name, bytes) ∷ []) w.files)), refl)),
  inl (m, kept, inr (other, failed, is)),
)
acts-failed (KeptAs name bytes lines) w v why (inl (place, inr (other, failed, is))) next may = (
  Keep name bytes ∷ Print lines ∷ Stop refused.Memory ∷ [],
  inl (tt, place, (Stop refused.Memory ∷ [], stops (next (with_kept ((name, bytes) ∷ []) w.files)) (may (with_kept ((name, bytes) ∷ []) w.files)), refl)),
  inr (other, failed, is),
)
acts-failed (KeptAs name bytes lines) w v why (inr (other, place, is, same)) next may =
    subst (λ (x : Result (Unit {0}) Refusal). Does (acts_of w.files (KeptAs name bytes lines) next) w v x) (sym is)
    (refuses (acts_of w.files (KeptAs name bytes lines) next) w v other (inl place) same)

-- ---- one section, and then the others

module _ (files : Option Files) (name prefix : Text) (end' : FileEnd) where
  -- memory may run out before any section
  pub may-run-out : (done : List Section) (before : Before) (sections : List SectionBlocks)
      → MayRunOut (λ now. split_each files name prefix end' now done before sections)
  may-run-out done before [] now = refl
  may-run-out done before (section ∷ later) now = inl (inl refl)

  module _ (now : Option Files) (done : List Section) (before : Before) (section : SectionBlocks) (later : List SectionBlocks)
      (ending : Ending) (items : List (ℕ × Item)) (read : SectionRead)
      (ends : section_end end' later ≡ Some ending) (says : SaysInFile (section.first ∷ section.later) items)
      (is : read ≡ section_read before section ending (is_followed later) items) where
    -- the acts of a section, and what comes next
    acts-then : (fate : SectionFate) (w v : World) (r : Result (Unit {0}) Refusal) → fate_of prefix done read (Ok fate)
        → Does (acts_of now fate (λ after. split_each files name prefix end' after (done ++ (read.airline, is_kept fate) ∷ []) (after_items before items) later)) w v r
        → Does (split_each files name prefix end' now done before (section ∷ later)) w v r
    acts-then fate w v r made does =
        let one = subst (λ (s : SectionRead). fate_of prefix done s (Ok fate)) is made in
        let next = subst (λ (s : SectionRead). Does (acts_of now fate (λ after. split_each files name prefix end' after (done ++ (s.airline, is_kept fate) ∷ []) (after_items before items) later)) w v r) is does in
        does-then (end_in files name end' later)
        (λ x. items_in section >>= (λ is'. fate_of prefix done (section_read before section x (is_followed later) is') >>=
        (λ made'. acts_of now made' (λ after. split_each files name prefix end' after (done ++ ((section_read before section x (is_followed later) is').airline, is_kept made') ∷ []) (after_items before is') later))))
        ending w v r ends
        (does-then (items_in section)
        (λ is'. fate_of prefix done (section_read before section ending (is_followed later) is') >>=
        (λ made'. acts_of now made' (λ after. split_each files name prefix end' after (done ++ ((section_read before section ending (is_followed later) is').airline, is_kept made') ∷ []) (after_items before is') later)))
        items w v r says
        (does-then (fate_of prefix done (section_read before section ending (is_followed later) items))
        (λ made'. acts_of now made' (λ after. split_each files name prefix end' after (done ++ ((section_read before section ending (is_followed later) items).airline, is_kept made') ∷ []) (after_items before items) later))
        fate w v r one next))

    -- it is put, and what comes next is done
    pub one-put : (after : List Section) (w v u : World) (r : Result (Unit {0}) Refusal) → w.files ≡ now
        → PutsSection prefix done read after w v (Ok tt)
        → Does (split_each files name prefix end' v.files after (after_items before items) later) v u r
        → Does (split_each files name prefix end' now done before (section ∷ later)) w u r
    one-put after w v u r at (fate, made, are, acts) next =
        acts-then fate w u r made
        (subst (λ (fs : Option Files). Does (acts_of fs fate (λ x. split_each files name prefix end' x (done ++ (read.airline, is_kept fate) ∷ []) (after_items before items) later)) w u r) at
        (acts-done fate w v acts (λ x. split_each files name prefix end' x (done ++ (read.airline, is_kept fate) ∷ []) (after_items before items) later) u r
        (subst (λ (ds : List Section). Does (split_each files name prefix end' v.files ds (after_items before items) later) v u r) are next)))

    -- it is not put
    pub none-put : (after : List Section) (w v : World) (why : Refusal) → w.files ≡ now
        → PutsSection prefix done read after w v (Err why)
        → Does (split_each files name prefix end' now done before (section ∷ later)) w v (Err why)
    none-put after w v why at (Ok fate, made, acts) =
        acts-then fate w v (Err why) made
        (subst (λ (fs : Option Files). Does (acts_of fs fate (λ x. split_each files name prefix end' x (done ++ (read.airline, is_kept fate) ∷ []) (after_items before items) later)) w v (Err why)) at
        (acts-failed fate w v why acts (λ x. split_each files name prefix end' x (done ++ (read.airline, is_kept fate) ∷ []) (after_items before items) later)
        (λ x. may-run-out (done ++ (read.airline, is_kept fate) ∷ []) (after_items before items) later x)))
    none-put after w v why at (Err other, made, (same, stays)) =
        subst (λ (o : Refusal). Does (split_each files name prefix end' now done before (section ∷ later)) w v (Err o)) (sym same)
        (refuses (split_each files name prefix end' now done before (section ∷ later)) w v other
        (inr (ending, ends, inr (items, says, inl (subst (λ (s : SectionRead). fate_of prefix done s (Err other)) is made)))) stays)

  -- the file is not read to the end of a section
  pub unread : (now : Option Files) (done : List Section) (before : Before) (section : SectionBlocks) (w v : World) (why : Refusal)
      → section_end end' [] ≡ None → RefusesRead files name why → v ≡ w
      → Does (split_each files name prefix end' now done before (section ∷ [])) w v (Err why)
  unread now done before section w v why ends refuses' same =
      refuses (split_each files name prefix end' now done before (section ∷ [])) w v why (inl (inr (ends, refuses'))) same

-- ---- what a function has done

-- a file is not kept
pub kept-not : (name file : Text) (bytes lines : List ℕ) (g : Option Files) (w u v : World) (why : Refusal) → u ≡ w → file ≡ name → g ≡ w.files
    → place_in g name kind.DataSet (Ok tt) → Acted (Keep file bytes) u v (Err why) → ActsAs (KeptAs name bytes lines) w v (Err why)
kept-not name file bytes lines g w u v why world-is file-is files-are place failed =
    inl (
      subst (λ (fs : Option Files). place_in fs name kind.DataSet (Ok tt)) files-are place,
      inr (
        why,
        subst (λ (x : World). Acted (Keep name bytes) x v (Err why)) world-is
            (subst (λ (n : Text). Acted (Keep n bytes) u v (Err why)) file-is failed),
        refl,
      ),
    )

-- it is kept, and its lines are printed or not
pub kept-so : (name file : Text) (bytes lines : List ℕ) (g : Option Files) (w u m v : World) (r : Result (Unit {0}) Refusal) → u ≡ w → file ≡ name → g ≡ w.files
    → place_in g name kind.DataSet (Ok tt) → Acted (Keep file bytes) u m (Ok tt) → Acted (Print lines) m v r → ActsAs (KeptAs name bytes lines) w v r
kept-so name file bytes lines g w u m v r world-is file-is files-are place kept printed =
    inl (
      subst (λ (fs : Option Files). place_in fs name kind.DataSet (Ok tt)) files-are place,
      inl (
        m,
        subst (λ (x : World). Acted (Keep name bytes) x m (Ok tt)) world-is
            (subst (λ (n : Text). Acted (Keep n bytes) u m (Ok tt)) file-is kept),
        last (Print lines) m v r printed,
      ),
    )

-- a section is put
pub puts : (prefix : Text) (done now : List Section) (read : SectionRead) (fate : SectionFate) (w v : World) (r : Result (Unit {0}) Refusal)
    → fate_of prefix done read (Ok fate) → now ≡ done ++ (read.airline, is_kept fate) ∷ [] → ActsAs fate w v r
    → PutsSection prefix done read now w v r
puts prefix done now read fate w v (Ok x) made are acts = (fate, made, are, acts)
puts prefix done now read fate w v (Err why) made are acts = (Ok fate, made, acts)

-- memory ran out before it
pub puts-none : (prefix : Text) (done now : List Section) (read : SectionRead) (w : World) (why : Refusal) → IsMemory why
    → PutsSection prefix done read now w w (Err why)
puts-none prefix done now read w why is = (Err why, is, (refl, refl))

-- ---- what is known of the bytes

-- what a contract knows of the bytes of a file
abbrev pub seen : Option Files → Option (List ℕ) → Option (List ℕ)
seen None left = None
seen (Some all) left = left

pub knows-seen : (files : Option Files) (left left' : Option (List ℕ))
    → Knows left left' (seen files left) (seen files left')
knows-seen None left left' = inl (refl, refl)
knows-seen (Some all) left left' = inr (refl, refl)

opened-seen : (files : Option Files) (name : Text) (left : Option (List ℕ)) → IsOpened files name left
    → IsOpened files name (seen files left)
opened-seen None name left is = tt
opened-seen (Some all) name left is = is

-- a file that is not read to its end has more bytes than the limit
not-whole : (files : Option Files) (name : Text) (left : Option (List ℕ)) (blocks : List Block)
    → IsOpened files name left → HasBlocks split_limit left blocks Unread → IsMissingWithin split_limit files name
not-whole None name left blocks opened has = tt
not-whole (Some all) name left blocks (bytes, is, left-is) has =
    subst (λ (o : Option (List ℕ)). IfSome o (λ b. split_limit < length b)) (sym is)
    (longer bytes (subst (λ (l : Option (List ℕ)). HasBlocks split_limit l blocks Unread) left-is has))
  where
    over : (number : ℕ) (rest : List ℕ) (n : ℕ) → Unread ≡ file_end number rest n → 0 < n
    over number [] zero is = absurd cc
    over number (byte ∷ rest) zero is = absurd cc
    over number rest (suc n) is = omega arith

    more : (n limit : ℕ) → 0 < n - limit → limit < n
    more n limit some = omega (arith, some)

    longer : (bytes : List ℕ) → HasBlocks split_limit (Some bytes) blocks Unread
        → split_limit < length bytes
    longer bytes (blocks', rest, are, is', ends) =
        more (length bytes) split_limit
        (over (length blocks' + 1) rest (length bytes - split_limit) ends)

-- ---- the file is not read

-- a read fault of a file that the contract can see cannot be
read-fault : (files : Option Files) (name : Text) (before after : ℕ) (why : Refusal)
    → Fails files before → Fails files after → after ≡ (before + 1) % 2 ^ 64
    → IsOfFile 91 (codes "File") name why → RefusesRead files name why
read-fault None name before after why none none' failed is = inr (is, tt)
read-fault (Some all) name before after why none none' failed is =
    absurd (omega (arith, none, none', failed))

-- a file whose first blocks are refused as those of a data set
heading-refused : (files : Option Files) (name prefix : Text) (left : Option (List ℕ)) (f : BaseFault)
    (why : Refusal) (w : World) → IsOpened files name left
    → ((blocks : List Block) × (end' : FileEnd) × HasBlocks split_limit (seen files left) blocks end'
    × RefusesHeading blocks end' f) → why ≡ refused.DataSet f
    → Does (split files name prefix) w w (Err why)
heading-refused files name prefix left f why w opened (blocks, end', has, heading) is =
    refuses (split files name prefix) w w why (inr (
      (blocks, end'),
      (seen files left, opened-seen files name left opened, has),
      inl (inl (f, heading, is)),
    )) refl

-- its first blocks are refused, or are not read
pub refuses-file : (files : Option Files) (name prefix : Text) (before after : Reader)
    (f : BaseFault) (why : Refusal) (w : World) → IsOpened files name before.left
    → Fails files before.failures → Fails files after.failures
    → RefusesFile split_limit (seen files before.left) before after f → IsReadFault name f why
    → Does (split files name prefix) w w (Err why)
refuses-file files name prefix before after fault.Memory why w opened none none' refuses' is =
    refuses (split files name prefix) w w why (inl (inl (ap refusal_number is))) refl
refuses-file files name prefix before after (Read (ReadFault n)) why w opened none none' failed is =
    refuses (split files name prefix) w w why
    (inl (read-fault files name before.failures after.failures why none none' failed is)) refl
refuses-file files name prefix before after (Read (ReaderNeverEnds n)) why w opened none none' never is =
    refuses (split files name prefix) w w why
    (inl (inr (
      is,
      not-whole files name (seen files before.left) never.0
          (opened-seen files name before.left opened) never.1,
    ))) refl
refuses-file files name prefix before after (Read (Short n)) why w opened none none' heading is =
    heading-refused files name prefix before.left (Read (Short n)) why w opened heading is
refuses-file files name prefix before after (Read (BadType n)) why w opened none none' heading is =
    heading-refused files name prefix before.left (Read (BadType n)) why w opened heading is
refuses-file files name prefix before after (Read (BadColumn n column)) why w opened none none' heading is =
    heading-refused files name prefix before.left (Read (BadColumn n column)) why w opened heading is
refuses-file files name prefix before after (Refused n other) why w opened none none' heading is =
    heading-refused files name prefix before.left (Refused n other) why w opened heading is

-- ---- from section to section

-- What the sections that are left do makes the whole of what is done, and if they are not read to
-- their end, the file is not.
pub record IsAt (files : Option Files) (name prefix : Text) (start now : World) (done : List Section)
    (state : SectionsState) (known : Option (List ℕ)) : Type 0 where
  pub through : (sections : List SectionBlocks) (end' : FileEnd) (after : World)
      (r : Result (Unit {0}) Refusal) → AreLeft state known sections end'
      → Does (split_each files name prefix end' now.files done state.before sections) now after r
      → Does (split files name prefix) start after r
  pub whole : (sections : List SectionBlocks) → AreLeft state known sections Unread
      → IsMissingWithin split_limit files name

-- before the first section
pub at-first : (name prefix : Text) (left left' : Option (List ℕ)) (w : World) (new : SectionsState)
    → IsOpened w.files name left → Begins split_limit (seen w.files left) new (seen w.files left')
    → IsAt w.files name prefix w w [] new (seen w.files left')
at-first name prefix left left' w new opened (first, header, spells, before-is, all) = record {
  through = λ sections end' after r are does.
      let found = all sections end' are in
      let files = w.files in
      let blocks : List Block × FileEnd = (first ∷ found.0, end') in
      let heading : ℕ × Record = (first.0, Header header) in
      does-then (blocks_in files name)
      (λ f. header_in files name f >>=
      (λ h. split_each files name prefix f.1 files [] (before_all h) (sections_of f.0)))
      blocks w after r (seen files left, opened-seen files name left opened, found.1)
      (does-then (header_in files name blocks)
      (λ h. split_each files name prefix end' files [] (before_all h) (sections_of (first ∷ found.0)))
      heading w after r (found.2, (refl, header, refl, spells))
      (subst (λ (ss : List SectionBlocks). Does (split_each files name prefix end' files []
      (before_all heading) ss) w after r) (sym (ap (λ (c : List Block × List SectionBlocks). c.1) found.3))
      (subst (λ (b : Before). Does (split_each files name prefix end' files [] b sections) w after r)
      before-is does)));
  whole = λ sections are.
      let found = all sections Unread are in
      not-whole w.files name (seen w.files left) (first ∷ found.0)
      (opened-seen w.files name left opened) found.1;
}

-- a section was put
pub at-next : (files : Option Files) (name prefix : Text) (start w v : World)
    (done after : List Section) (old new : SectionsState) (known known' : Option (List ℕ))
    (section : Declared) → IsAt files name prefix start w done old known
    → GivesSection old known new known' (Some section)
    → PutsSection prefix done (section_seen section) after w v (Ok tt)
    → IsAt files name prefix start v after new known'
at-next files name prefix start w v done after old new known known' section at gives puts' = record {
  through = λ sections end' u r are does.
      let one = gives sections end' are in
      at.through (one.0 ∷ sections) end' u r one.2
      (one-put files name prefix end' w.files done old.before one.0 sections one.1 one.4
      (section_seen section) one.3 one.5.0 one.5.1 after w v u r refl puts'
      (subst (λ (b : Before). Does (split_each files name prefix end' v.files after b sections) v u r)
      one.6 does));
  whole = λ sections are.
      let one = gives sections Unread are in
      at.whole (one.0 ∷ sections) one.2;
}

-- a section was not put
pub not-put : (files : Option Files) (name prefix : Text) (start w v : World)
    (done after : List Section) (old new : SectionsState) (known known' : Option (List ℕ))
    (section : Declared) (why : Refusal) → IsAt files name prefix start w done old known
    → GivesSection old known new known' (Some section) → HasRest new known'
    → PutsSection prefix done (section_seen section) after w v (Err why)
    → Does (split files name prefix) start v (Err why)
not-put files name prefix start w v done after old new known known' section why at gives
    (sections, end', are) puts' =
    let one = gives sections end' are in
    at.through (one.0 ∷ sections) end' v (Err why) one.2
    (none-put files name prefix end' w.files done old.before one.0 sections one.1 one.4
    (section_seen section) one.3 one.5.0 one.5.1 after w v why refl puts')

-- no section was left, and the numbers were printed or not
pub none-left : (files : Option Files) (name prefix : Text) (start w v : World) (done : List Section)
    (old new : SectionsState) (known known' : Option (List ℕ)) (r : Result (Unit {0}) Refusal)
    → IsAt files name prefix start w done old known → GivesSection old known new known' None
    → Does (Gives (Print (count_line done) ∷ [])) w v r → Does (split files name prefix) start v r
none-left files name prefix start w v done old new known known' r at gives does =
    at.through [] (ended_as old.reading) v r gives does

-- a section was not read to its end
pub not-read : (files : Option Files) (name prefix : Text) (start w : World) (done : List Section)
    (old : SectionsState) (before after : Reader) (f : BaseFault) (why : Refusal)
    → IsAt files name prefix start w done old (seen files before.left)
    → Fails files before.failures → Fails files after.failures
    → RefusesNext old (seen files before.left) before after f → IsReadFault name f why
    → Does (split files name prefix) start w (Err why)
not-read files name prefix start w done old before after fault.Memory why at none none'
    (section, later, end', are) is =
    at.through (section ∷ later) end' w (Err why) are
    (refuses (split_each files name prefix end' w.files done old.before (section ∷ later)) w w why
    (inl (inl (ap refusal_number is))) refl)
not-read None name prefix start w done old before after (Read (ReadFault n)) why at none none'
    (failed, left) is =
    let one = left refl in
    at.through (one.0 ∷ []) Unread w (Err why) one.1
    (unread None name prefix Unread w.files done old.before one.0 w w why refl (inr (is, tt)) refl)
not-read (Some all) name prefix start w done old before after (Read (ReadFault n)) why at none none'
    (failed, left) is =
    absurd (omega (arith, none, none', failed))
not-read files name prefix start w done old before after (Read (ReaderNeverEnds n)) why at none none'
    (section, are) is =
    at.through (section ∷ []) Unread w (Err why) are
    (unread files name prefix Unread w.files done old.before section w w why refl
    (inr (is, at.whole (section ∷ []) are)) refl)
not-read files name prefix start w done old before after (Read (Short n)) why at none none' left is =
    absurd left
not-read files name prefix start w done old before after (Read (BadType n)) why at none none' left is =
    absurd left
not-read files name prefix start w done old before after (Read (BadColumn n column)) why at none none'
    left is = absurd left
not-read files name prefix start w done old before after (Refused n other) why at none none' left is =
    absurd left
