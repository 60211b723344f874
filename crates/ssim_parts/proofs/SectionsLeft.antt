-- From block to block of a reading of sections: those that were read come before those that are left.
use Rattle.std.proofs.Common.{◌≡◌, ◌∙◌, ℕ, ◌+◌, ◌%◌, ◌^◌, ◌<◌, true≢false, List, [], ◌∷◌, ◌++◌, length}
use Rattle.std.proofs.Common.{Option, Some, None, Ok, Err}
use Rattle.std.proofs.Common.{inl, inr, refl, sym, ap, subst, append_assoc, arith}
use Rattle.std.proofs.lemmas.List.{append-nil}
use Rattle.std.specs.Prelude.{nat_lt, slice_index, zero, suc, true, false}
use Rattle.std.proofs.lemmas.Bool.Decides.{nat_tests}
use Rattle.ssim_records.specs.Frames.{FramesAreOne, FramesExist, others}
use Rattle.ssim_records.specs.clauses.Blocks.{beyond}
use Rattle.ssim_records.specs.clauses.Reading.{FailsAs, GivesNext, IsNoBlockFault, Reading}
use Rattle.ssim_records.specs.Device.{Reader}
use Rattle.ssim_records.specs.declared.fault.RecordFault.{RecordFault}
use Rattle.ssim_records.specs.declared.fault.RecordFault.TheVariants.{Short, BadType, BadColumn}
use Rattle.ssim_records.specs.declared.fault.RecordFault.TheVariants.{ReadFault, ReaderNeverEnds}
use Rattle.ssim_base.specs.Base.{Broken, Done}
use Rattle.ssim_parts.specs.Sections.{Block, FileEnd, SectionBlocks, Unread, Whole, begins_as_carrier}
use Rattle.ssim_parts.specs.Sections.{cut}
use Rattle.ssim_parts.specs.Sections.{file_end}
use Rattle.ssim_parts.specs.clauses.Sections.{HasLeft, Knows}
use Rattle.ssim_base.specs.clauses.Reading.{is_of_bytes}
use Rattle.ssim_base.specs.declared.fault.BaseFault.TheVariants.{Read}
use Rattle.ssim_parts.specs.internal.SectionSteps.{BeginNone, GoesOn, RefusesOwn}

-- ---- how a file ends

pub same-end : (n m o p : ℕ) (r s : List ℕ) → n ≡ m → r ≡ s → o ≡ p → file_end n r o ≡ file_end m s p
same-end n m o p r s a b d =
    ap (λ (k : ℕ). file_end k r o) a ∙ ap (λ (t : List ℕ). file_end m t o) b ∙ ap
    (λ (k : ℕ). file_end m s k) d

short-end : (n : ℕ) (rest : List ℕ) → 0 < length rest → file_end n rest 0 ≡ Whole (Broken (Short n))
short-end n [] few = absurd (omega (arith, few))
short-end n (byte ∷ rest) few = refl

over-end : (n o : ℕ) (rest : List ℕ) → 0 < o → file_end n rest o ≡ Unread
over-end n zero rest over = absurd (omega (arith, over))
over-end n (suc o) [] over = refl
over-end n (suc o) (byte ∷ rest) over = refl

-- ---- some blocks are left

pub some-left : FramesExist → (r : Reading) (known : Option (List ℕ))
    → (later : List Block) × (end' : FileEnd) × HasLeft r known later end'
some-left exist r None = ([], Unread, tt)
some-left exist r (Some bytes) =
    let e = exist (beyond r.limit r.came bytes) (nat_lt 0 r.number) (r.held ++ bytes) in (
      others r.number e.0,
      file_end (r.number + length e.0 + 1) e.1.0 (beyond r.limit r.came bytes),
      (e.0, e.1.0, e.1.1, refl, refl),
    )

-- ---- what a call for the next block says of them

-- a block is the first of them
pub step-back : FramesExist → FramesAreOne → (old new : Reading) (known known' : Option (List ℕ))
    (number : ℕ) (block : List ℕ)
    → new.limit ≡ old.limit → GivesNext old known new known' (Ok (Some (number, block))) → number ≡
    new.number
    → GoesOn old known new known' ((number, block) ∷ [])
step-back exist one old new None known' number block limit gives is later end' left = tt
step-back exist one old new (Some bytes) None number block limit gives is later end' left = absurd
    gives
step-back exist one old new (Some bytes) (Some rest) number block limit gives is later end'
    (all, last, ahead, are, ends) =
    let e = exist (beyond old.limit old.came bytes) (nat_lt 0 old.number) (old.held ++ bytes) in
    let next = gives.1 e.0 e.1.0 e.1.1 in
    let same = one (beyond new.limit new.came rest) (nat_lt 0 new.number) (new.held ++ rest) all next.0
    last e.1.0 ahead next.2 in
    let count : new.number + length next.0 ≡ old.number + length e.0 = next.1.1 in
    let came = gives.0 in
    let over : beyond new.limit new.came rest ≡ beyond old.limit old.came bytes = omega
    (arith, came, limit) in
    let number-is : new.number + length all + 1 ≡ old.number + length e.0 + 1 =
    ap (λ (bs : List (List ℕ)). new.number + length bs + 1) same.0 ∙ ap (λ (n : ℕ). n + 1) count in (
      e.0,
      e.1.0,
      e.1.1,
      ap (λ (bs : List Block). (number, block) ∷ bs) (are ∙ ap (others new.number) same.0)
          ∙ ap (λ (n : ℕ). (n, block) ∷ others new.number next.0) is
          ∙ sym next.1.0,
      ends ∙ same-end _ _ _ _ last e.1.0 number-is same.1 over,
    )

-- none is left
pub end-back : FramesExist → (old new : Reading) (known known' : Option (List ℕ))
    → GivesNext old known new known' (Ok None) → HasLeft old known [] (Whole (Done (new.number + 1)))
end-back exist old new None known' gives = tt
end-back exist old new (Some bytes) None gives = absurd gives
end-back exist old new (Some bytes) (Some rest) gives =
    let e = exist (beyond old.limit old.came bytes) (nat_lt 0 old.number) (old.held ++ bytes) in
    let last = gives.1 e.0 e.1.0 e.1.1 in (
      e.0,
      e.1.0,
      e.1.1,
      sym last.0.0,
      sym (same-end _ (new.number + 1) _ 0 e.1.0 [] (ap (λ (n : ℕ). n + 1) (sym last.0.1)) last.1
          last.2),
    )

-- the bytes that are left are too few
pub short-back : FramesExist → (old new : Reading) (known known' : Option (List ℕ)) (n : ℕ)
    → GivesNext old known new known' (Err (Short n)) → n ≡ new.number + 1
    → HasLeft old known [] (Whole (Broken (Short n)))
short-back exist old new None known' n gives is = tt
short-back exist old new (Some bytes) None n gives is = absurd gives
short-back exist old new (Some bytes) (Some rest) n gives is =
    let e = exist (beyond old.limit old.came bytes) (nat_lt 0 old.number) (old.held ++ bytes) in
    let last = gives.1 e.0 e.1.0 e.1.1 in (
      e.0,
      e.1.0,
      e.1.1,
      sym last.0.0,
      sym (same-end _ n _ 0 e.1.0 e.1.0 (ap (λ (n : ℕ). n + 1) (sym last.0.1) ∙ sym is) refl last.3
          ∙ short-end n e.1.0 last.1),
    )

-- more bytes came than the limit
pub over-back : FramesExist → (old new : Reading) (known known' : Option (List ℕ)) (n : ℕ)
    → GivesNext old known new known' (Err (ReaderNeverEnds n)) → HasLeft old known [] Unread
over-back exist old new None known' n gives = tt
over-back exist old new (Some bytes) None n gives = absurd gives
over-back exist old new (Some bytes) (Some rest) n gives =
    let e = exist (beyond old.limit old.came bytes) (nat_lt 0 old.number) (old.held ++ bytes) in
    let last = gives.1 e.0 e.1.0 e.1.1 in
    (e.0, e.1.0, e.1.1, sym last.0.0, sym (over-end _ _ e.1.0 last.1))

-- ---- after other blocks

-- nothing was read yet
pub goes-none : (r : Reading) (known : Option (List ℕ)) → GoesOn r known r known []
goes-none r known later end' left = left

-- one more block
pub goes-more : (old mid new : Reading) (known between known' : Option (List ℕ)) (own : List Block)
    (block : Block)
    → GoesOn old known mid between own → GoesOn mid between new known' (block ∷ [])
    → GoesOn old known new known' (own ++ block ∷ [])
goes-more old mid new known between known' own block first next later end' left =
    subst (λ (bs : List Block). HasLeft old known bs end') (sym (append_assoc own (block ∷ []) later))
    (first (block ∷ later) end' (next later end' left))

-- the last ones
pub goes-last : (old mid : Reading) (known between : Option (List ℕ)) (own : List Block)
    (end' : FileEnd)
    → GoesOn old known mid between own → HasLeft mid between [] end' → HasLeft old known own end'
goes-last old mid known between own end' first left =
    subst (λ (bs : List Block). HasLeft old known bs end') (append-nil own) (first [] end' left)

-- ---- where the blocks are cut

pub begin-none : BeginNone []
begin-none later = refl

pub begin-more : (own : List Block) (block : Block) → BeginNone own → begins_as_carrier block ≡ false
    → BeginNone (own ++ block ∷ [])
begin-more own block none not-first later =
    ap cut (append_assoc own (block ∷ []) later)
    ∙ none (block ∷ later)
    ∙ ap (λ (c : List Block × List SectionBlocks). (own ++ c.0, c.1)) (not-cut block later not-first)
    ∙ ap (λ (bs : List Block). (bs, (cut later).1)) (sym (append_assoc own (block ∷ []) (cut later).0))
  where
    not-cut : (b : Block) (bs : List Block) → begins_as_carrier b ≡ false
        → cut (b ∷ bs) ≡ (b ∷ (cut bs).0, (cut bs).1)
    not-cut b bs is = rw is refl

-- a block that begins a section, and others
pub cut-first : (first : Block) (later : List Block) → begins_as_carrier first ≡ true
    → cut (first ∷ later) ≡ ([], record { first = first; later = (cut later).0 } ∷ (cut later).1)
cut-first first later is = rw is refl

-- a section, and then others
pub cut-section : (first : Block) (own later : List Block) (sections : List SectionBlocks) →
    begins_as_carrier first ≡ true
    → BeginNone own → cut later ≡ ([], sections)
    → cut (first ∷ own ++ later) ≡ ([], record { first = first; later = own } ∷ sections)
cut-section first own later sections is none after =
    cut-first first (own ++ later) is
    ∙ ap (λ (c : List Block × List SectionBlocks). ([], record { first = first; later = c.0 } ∷ c.1))
    (none later ∙ ap (λ (c : List Block × List SectionBlocks). (own ++ c.0, c.1)) after
    ∙ ap (λ (bs : List Block). (bs, sections)) (append-nil own))

-- ---- whatever is known of the bytes

-- before the first block
pub goes-first : (r : Reading) (left known known' : Option (List ℕ)) → Knows left left known known'
    → GoesOn r known r known' []
goes-first r left known known' (inl (a, b)) =
    subst (λ (k : Option (List ℕ)). GoesOn r known r k []) (a ∙ sym b) (goes-none r known)
goes-first r left known known' (inr (a, b)) =
    subst (λ (k : Option (List ℕ)). GoesOn r known r k []) (a ∙ sym b) (goes-none r known)

-- one more block
pub goes-next : FramesExist → FramesAreOne → (old mid new : Reading)
    (left between left' : Option (List ℕ)) (own : List Block) (number : ℕ) (block : List ℕ)
    → ((known known' : Option (List ℕ)) → Knows left between known known' → GoesOn old known mid known'
    own)
    → new.limit ≡ mid.limit → GivesNext mid between new left' (Ok (Some (number, block))) → number ≡
    new.number
    → (known known' : Option (List ℕ)) → Knows left left' known known' → GoesOn old known new known'
    (own ++ (number, block) ∷ [])
goes-next exist one old mid new left between left' own number block first limit gives is known known'
    (inl (a, b)) =
    goes-more old mid new known None known' own (number, block) (first known None (inl (a, refl)))
    (step-back exist one mid new None known' number block limit tt is)
goes-next exist one old mid new left between left' own number block first limit gives is known known'
    (inr (a, b)) =
    goes-more old mid new known between known' own (number, block)
    (first known between (inr (a, refl)))
    (step-back exist one mid new between known' number block limit
    (subst (λ (k : Option (List ℕ)). GivesNext mid between new k (Ok (Some (number, block)))) (sym b)
    gives) is)

-- the last ones
pub goes-end : (old mid : Reading) (left between left' : Option (List ℕ)) (own : List Block)
    (end' : FileEnd)
    → ((known known' : Option (List ℕ)) → Knows left between known known' → GoesOn old known mid known'
    own)
    → HasLeft mid between [] end'
    → (known known' : Option (List ℕ)) → Knows left left' known known' → HasLeft old known own end'
goes-end old mid left between left' own end' first last known known' (inl (a, b)) =
    goes-last old mid known None own end' (first known None (inl (a, refl))) tt
goes-end old mid left between left' own end' first last known known' (inr (a, b)) =
    goes-last old mid known between own end' (first known between (inr (a, refl))) last

-- ---- a reader that is not read to its end

pub refuses-own : FramesExist → (old mid new : Reading) (left between : Option (List ℕ))
    (before now after : Reader) (own : List Block) (f : RecordFault)
    → is_of_bytes (Read f) ≡ false → IsNoBlockFault f
    → ((known known' : Option (List ℕ)) → Knows left between known known' → GoesOn old known mid known'
    own)
    → BeginNone own → GivesNext mid between new after.left (Err f) → now.failures ≡ before.failures
    → FailsAs {A = Option (ℕ × List ℕ)} now.failures after.failures (Err f)
    → (known known' : Option (List ℕ)) → Knows left after.left known known' → RefusesOwn old known
    before after (Read f)
refuses-own exist old mid new left between before now after own (Short n) of-device stops goes none
    gives same fails known known' knows = absurd (true≢false of-device)
refuses-own exist old mid new left between before now after own (BadType n) of-device stops goes none
    gives same fails known known' knows = absurd stops
refuses-own exist old mid new left between before now after own (BadColumn n column) of-device stops
    goes none gives same fails known known' knows = absurd stops
refuses-own exist old mid new left between before now after own (ReadFault n) of-device stops goes none
    gives same fails known known' knows =
    fails ∙ ap (λ (k : ℕ). (k + 1) % 2 ^ 64) same
refuses-own exist old mid new left between before now after own (ReaderNeverEnds n) of-device stops
    goes none gives same fails known known' knows = (
      own,
      none,
      goes-end old mid left between after.left own Unread goes
          (over-back exist mid new between after.left n gives) known known' knows,
    )

-- ---- whether a block begins a section

pub carrier-true : (b : Block) → slice_index b.1 0 ≡ 50 → begins_as_carrier b ≡ true
carrier-true b is = grind (arith, nat_tests)

pub carrier-false : (b : Block) → (slice_index b.1 0 ≡ 50 → ⊥) → begins_as_carrier b ≡ false
carrier-false b is = grind (arith, nat_tests)

-- ---- the first block

pub goes-one : FramesExist → FramesAreOne → (old new : Reading) (left left' : Option (List ℕ))
    (number : ℕ) (block : List ℕ)
    → new.limit ≡ old.limit → GivesNext old left new left' (Ok (Some (number, block))) → number ≡
    new.number
    → (known known' : Option (List ℕ)) → Knows left left' known known' → GoesOn old known new known'
    ((number, block) ∷ [])
goes-one exist one old new left left' number block limit gives is =
    goes-next exist one old old new left left left' [] number block
    (λ k k' w. goes-first old left k k' w) limit gives is

-- it comes before some blocks
pub one-left : FramesExist → (old new : Reading) (known known' : Option (List ℕ)) (block : Block)
    → GoesOn old known new known' (block ∷ [])
    → (later : List Block) × (end' : FileEnd) × HasLeft old known (block ∷ later) end'
one-left exist old new known known' block goes =
    let some = some-left exist new known' in
    (some.0, some.1, goes some.0 some.1 some.2)

-- there is none
pub none-left : (old : Reading) (left left' : Option (List ℕ)) (end' : FileEnd) → HasLeft old left []
    end'
    → (known known' : Option (List ℕ)) → Knows left left' known known' → HasLeft old known [] end'
none-left old left left' end' last known known' knows =
    goes-end old old left left left' [] end' (λ k k' w. goes-first old left k k' w) last known known'
    knows
