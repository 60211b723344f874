-- Bytes that spell the records of a base are read as this base, unless the reader fails: their
-- blocks are one, and each spells one record.
use Rattle.std.proofs.Common.{◌≡◌, ◌⊎◌, ℕ, ◌+◌, ◌-◌, ◌≤◌, false, List, [], ◌∷◌, ◌++◌, length, map, Some, None, Ok, inl, inr, refl, sym, ap, subst, ◌∙◌, arith}
use Rattle.ssim_records.specs.Frames.{Frames, FramesAreOne, others}
use Rattle.ssim_records.specs.Record.{Spells}
use Rattle.ssim_records.specs.declared.fault.RecordFault.{RecordFault}
use Rattle.ssim_records.specs.declared.fault.RecordFault.TheVariants.{Short, BadType, BadColumn, ReadFault, ReaderNeverEnds}
use Rattle.ssim_records.specs.declared.record.Record.{Record}
use Rattle.ssim_records.proofs.AnyRecord.{no_fault, one_record}
use Rattle.ssim_base.specs.Base.{Ending, Done, Broken, Outcome, at_record, data_set, first_refusal, kept, kept_all, notes_of, refusal_at, unless_refused}
use Rattle.ssim_base.specs.ReadBack.{AreRead, EachSpells}
use Rattle.ssim_base.specs.Reading.{AreGiven, Begins, FailedReader, Gives, IsFaulty, IsOfAll, IsOfFirst, IsReadBack, Stops}
use Rattle.ssim_base.specs.declared.fault.BaseFault.TheVariants.{Read}
use Rattle.ssim_base.specs.declared.note.Note.{Note}
use Rattle.ssim_base.proofs.Bases.{at_record-none, from-ok}

abbrev Numbered : Type 0
Numbered = ℕ × Record

not-faulty : (left : List (ℕ × List ℕ)) (all : List Numbered) (n : ℕ) (f : RecordFault) → EachSpells left all → IsFaulty left n f → ⊥
not-faulty [] all n f each faulty = let e = faulty.2 in absurd cc
not-faulty (b ∷ left) [] n f each faulty = each
not-faulty (b ∷ left) (r ∷ all) n f each faulty =
    let block : b.1 ≡ faulty.0 = ap (λ bs. head-block bs b.1) faulty.2 in
    let clash : None ≡ Some f = sym (no_fault n faulty.0 r.1 (subst (λ k. Spells r.1 k) block each.1)) ∙ faulty.3 in
    absurd cc
  where
    head-block : List (ℕ × List ℕ) → List ℕ → List ℕ
    head-block [] other = other
    head-block (x ∷ xs) other = x.1

same-pair : (b : ℕ × List ℕ) (r s : Numbered) → b.0 ≡ r.0 → Spells r.1 b.1 → b.0 ≡ s.0 → Spells s.1 b.1 → r ≡ s
same-pair b r s n p m q =
    let number : r.0 ≡ s.0 = sym n ∙ m in
    let same : r.1 ≡ s.1 = one_record b.1 r.1 s.1 p q in
    ap (λ k. (k, r.1)) number ∙ ap (λ x. (s.0, x)) same

-- the reader failed, or all records were given, and nothing is left
gives-all : (count : ℕ) (rest : List ℕ) (over : ℕ) (left : List (ℕ × List ℕ)) (given all : List Numbered) (ending : Ending) → EachSpells left all → Gives count rest over left given ending
    → ((n : ℕ) × (ending ≡ Broken (ReadFault n))) ⊎ ((given ≡ all) × Stops count rest over [] ending)
gives-all count rest over [] [] [] ending each gives = inr (refl, gives)
gives-all count rest over [] [] (s ∷ all) ending each gives = absurd each
gives-all count rest over (b ∷ left) [] [] ending each gives = absurd each
gives-all count rest over (b ∷ left) [] (s ∷ all) (Done n) each gives = let e = gives.0 in absurd cc
gives-all count rest over (b ∷ left) [] (s ∷ all) (Broken (Short n)) each gives = let e = gives.0 in absurd cc
gives-all count rest over (b ∷ left) [] (s ∷ all) (Broken (ReaderNeverEnds n)) each gives = let e = gives.0 in absurd cc
gives-all count rest over (b ∷ left) [] (s ∷ all) (Broken (ReadFault n)) each gives = inl (n, refl)
gives-all count rest over (b ∷ left) [] (s ∷ all) (Broken (BadType n)) each gives = absurd (not-faulty (b ∷ left) (s ∷ all) n (BadType n) each gives)
gives-all count rest over (b ∷ left) [] (s ∷ all) (Broken (BadColumn n c)) each gives = absurd (not-faulty (b ∷ left) (s ∷ all) n (BadColumn n c) each gives)
gives-all count rest over [] (r ∷ given) all ending each gives = absurd gives
gives-all count rest over (b ∷ left) (r ∷ given) [] ending each gives = absurd each
gives-all count rest over (b ∷ left) (r ∷ given) (s ∷ all) ending each gives =
    with-first (same-pair b r s gives.0 gives.1 each.0 each.1) (gives-all count rest over left given all ending each.2 gives.2)
  where
    with-first : r ≡ s → ((n : ℕ) × (ending ≡ Broken (ReadFault n))) ⊎ ((given ≡ all) × Stops count rest over [] ending)
        → ((n : ℕ) × (ending ≡ Broken (ReadFault n))) ⊎ ((r ∷ given ≡ s ∷ all) × Stops count rest over [] ending)
    with-first same (inl fails) = inl fails
    with-first same (inr (rest-same, stops)) = inr (ap (λ x. x ∷ given) same ∙ ap (λ xs. s ∷ xs) rest-same, stops)

-- the first records are the first of all
begins-all : (left : List (ℕ × List ℕ)) (first all : List Numbered) → EachSpells left all → Begins left first → (later : List Numbered) × (first ++ later ≡ all)
begins-all left [] all each begins = (all, refl)
begins-all [] (r ∷ first) all each begins = absurd begins
begins-all (b ∷ left) (r ∷ first) [] each begins = absurd each
begins-all (b ∷ left) (r ∷ first) (s ∷ all) each begins =
    let behind = begins-all left first all each.2 begins.2 in
    (behind.0, ap (λ x. x ∷ (first ++ behind.0)) (same-pair b r s begins.0 begins.1 each.0 each.1) ∙ ap (λ xs. s ∷ xs) behind.1)

gives-begins : (count : ℕ) (rest : List ℕ) (over : ℕ) (left : List (ℕ × List ℕ)) (given : List Numbered) (ending : Ending) → Gives count rest over left given ending → Begins left given
gives-begins count rest over left [] ending gives = tt
gives-begins count rest over [] (r ∷ given) ending gives = absurd gives
gives-begins count rest over (b ∷ left) (r ∷ given) ending gives = (gives.0, gives.1, gives-begins count rest over left given ending gives.2)

-- if all records are valid, reading that fails after some of them is refused for that failure
front-stands : (n : ℕ) (f : RecordFault) (e : List Record) (given later : List Numbered) → first_refusal (Done n) e (given ++ later) ≡ None → first_refusal (Broken f) e given ≡ Some (Read f)
front-stands n f e [] later none = refl
front-stands n f e (r ∷ given) later none =
    let parts = at_record-none r.0 (refusal_at e r.1) (first_refusal (Done n) (kept e r.1 ∷ e) (given ++ later)) none in
    ap (λ o. at_record r.0 o (first_refusal (Broken f) (kept e r.1 ∷ e) given)) parts.0 ∙ front-stands n f (kept e r.1 ∷ e) given later parts.1

-- how all records end if no byte is left over
stops-done : (count : ℕ) (over : ℕ) (ending : Ending) → over ≡ 0 → Stops count [] over [] ending → ((n : ℕ) × (ending ≡ Broken (ReadFault n))) ⊎ (ending ≡ Done (count + 1))
stops-done count over (Done n) none stops = inr (ap Done stops.3)
stops-done count over (Broken (Short n)) none stops = let less = stops.1 in absurd (omega (arith, less))
stops-done count over (Broken (ReaderNeverEnds n)) none stops = let less = stops.1 in absurd (omega (arith, less, none))
stops-done count over (Broken (ReadFault n)) none stops = inl (n, refl)
stops-done count over (Broken (BadType n)) none stops = let e = stops.2 in absurd cc
stops-done count over (Broken (BadColumn n c)) none stops = let e = stops.2 in absurd cc

module _ (one : FramesAreOne) (bytes : List ℕ) (count : ℕ) (records : List Numbered) (limit : ℕ) (read : AreRead bytes count records) (fits : length bytes ≤ limit) where
  none-over : length bytes - limit ≡ 0
  none-over = omega (arith, fits)

  -- any blocks of the bytes are the blocks of the records, with nothing left over
  same-blocks : (blocks : List (List ℕ)) (rest : List ℕ) → Frames (length bytes - limit) false bytes blocks rest → (read.blocks ≡ blocks) × ([] ≡ rest)
  same-blocks blocks rest framed = one 0 false bytes read.blocks blocks [] rest read.framed (subst (λ n. Frames n false bytes blocks rest) none-over framed)

  whole : (base : List Record) (notes : List Note) (outcome : Outcome) → data_set (Done (count + 1)) records ≡ Ok (base, notes) → IsOfAll limit bytes outcome
      → (outcome ≡ Ok (base, notes)) ⊎ FailedReader outcome
  whole base notes outcome stands all = settle (gives-all (length g.blocks) g.rest (length bytes - limit) (others 0 g.blocks) all.records records all.ending each g.given)
    where
      g : AreGiven limit bytes all.records all.ending
      g = all.given

      same : (read.blocks ≡ g.blocks) × ([] ≡ g.rest)
      same = same-blocks g.blocks g.rest g.framed

      each : EachSpells (others 0 g.blocks) records
      each = subst (λ bs. EachSpells (others 0 bs) records) same.0 read.spelled

      numbered : length g.blocks ≡ count
      numbered = sym (ap length same.0) ∙ read.counted

      failed : (n : ℕ) → all.ending ≡ Broken (ReadFault n) → FailedReader outcome
      failed n is =
          let behind = begins-all (others 0 g.blocks) all.records records each (gives-begins (length g.blocks) g.rest (length bytes - limit) (others 0 g.blocks) all.records all.ending g.given) in
          let stood = (from-ok (first_refusal (Done (count + 1)) [] records) (kept_all [] (map (λ r. r.1) records)) base (notes_of 0 records) notes stands).0 in (
            n,
            all.is ∙ ap (λ e. data_set e all.records) is
                ∙ ap (λ o. unless_refused o (kept_all [] (map (λ r. r.1) all.records), notes_of 0 all.records))
                (front-stands (count + 1) (ReadFault n) [] all.records behind.0 (ap (first_refusal (Done (count + 1)) []) behind.1 ∙ stood)),
          )

      done : all.records ≡ records → (((n : ℕ) × (all.ending ≡ Broken (ReadFault n))) ⊎ (all.ending ≡ Done (length g.blocks + 1))) → (outcome ≡ Ok (base, notes)) ⊎ FailedReader outcome
      done rs (inl (n, is)) = inr (failed n is)
      done rs (inr is) = inl (all.is ∙ ap (λ e. data_set e all.records) (is ∙ ap (λ n. Done (n + 1)) numbered) ∙ ap (data_set (Done (count + 1))) rs ∙ stands)

      settle : ((n : ℕ) × (all.ending ≡ Broken (ReadFault n))) ⊎ ((all.records ≡ records) × Stops (length g.blocks) g.rest (length bytes - limit) [] all.ending)
          → (outcome ≡ Ok (base, notes)) ⊎ FailedReader outcome
      settle (inl (n, is)) = inr (failed n is)
      settle (inr (rs, stops)) = done rs (stops-done (length g.blocks) (length bytes - limit) all.ending none-over (subst (λ rest. Stops (length g.blocks) rest (length bytes - limit) [] all.ending) (sym same.1) stops))

  early : (base : List Record) (notes : List Note) (outcome : Outcome) → data_set (Done (count + 1)) records ≡ Ok (base, notes) → IsOfFirst limit bytes outcome → outcome ≡ Ok (base, notes)
  early base notes outcome stands first =
      let f = first.first in
      let same = same-blocks f.blocks f.rest f.framed in
      let behind = begins-all (others 0 f.blocks) first.records records (subst (λ bs. EachSpells (others 0 bs) records) same.0 read.spelled) f.begins in
      first.is behind.0 (Done (count + 1)) ∙ ap (data_set (Done (count + 1))) behind.1 ∙ stands

pub read_back : FramesAreOne → IsReadBack
read_back one bytes count records base notes limit outcome read stands fits (inl all) = whole one bytes count records limit read fits base notes outcome stands all
read_back one bytes count records base notes limit outcome read stands fits (inr first) = inl (early one bytes count records limit read fits base notes outcome stands first)
