-- Lines are read as the records of a base, one after another: what is left after some records
-- begins with the lines of records that complete these to a base, exactly if the bytes begin with
-- the lines of a base.
use Rattle.std.proofs.Common.{◌≡◌, ℕ, ◌+◌, ◌<◌, List, [], ◌∷◌, ◌++◌, map, reverse, length, take, drop, Option, Result, IfErr, Some, None, Ok, Err, true, false, refl, sym, ap, subst, ◌∙◌, append_assoc, length-append, arith}
use Rattle.std.proofs.lemmas.List.{append_cancel_left, append-nil, reverse-append, take-append-drop}
use Rattle.std.proofs.lemmas.List.Elements.{recursion_from_All, All-from_recursion}
use Rattle.std.proofs.Math.Seq.{drop-append_seam, take-append_seam}
use Rattle.std.specs.List.{AllByRecursion as Each}
use Rattle.std.specs.Prelude.{OnOk, is_some}
use Rattle.std.specs.Result.{is_err}
use Rattle.ssim_records.specs.Record.{IsRecord, Spells, fault_of, written}
use Rattle.ssim_records.specs.declared.fault.RecordFault.{RecordFault}
use Rattle.ssim_records.specs.declared.record.Record.{Record}
use Rattle.ssim_records.proofs.AnyRecord.{no_fault, one_record, same_record, spells_written}
use Rattle.ssim_records.proofs.Lines.{length_written}
use Rattle.ssim_base.specs.Base.{Done, first_refusal, kept, kept_all, missing, notes_of, refusal_at, unless_refused}
use Rattle.ssim_base.specs.BaseSeen.{WasRead}
use Rattle.ssim_base.specs.SavedBase.{IsBare, IsBaseRecords, saved}
use Rattle.ssim_base.specs.internal.SavedLines.{IsLine}
use Rattle.ssim_base.specs.declared.fault.BaseRefusal.{BaseRefusal}
use Rattle.ssim_base.proofs.Bases.{from-ok, stood}
use Rattle.ssim_base.proofs.SavedBases.{all-kept, its_records, kept-bare, numbered-are}
use Rattle.ssim_base.proofs.Stands.{StandsTo, not_refused}

-- ---- the records that complete a base

-- these records are valid after the earlier ones up to the end of a base, and a base can have each
pub record Completes (earlier records : List Record) : Type 0 where
  pub each_record : Each IsRecord records
  pub each_bare : Each IsBare records
  pub stand : StandsTo earlier records (λ d. missing d ≡ None)

-- all records in order, of the earlier ones and the later
abbrev pub in_order : List Record → List Record → List Record
in_order [] later = later
in_order (r ∷ earlier) later = in_order earlier (r ∷ later)

order-reverse : (earlier later : List Record) → in_order earlier later ≡ reverse earlier ++ later
order-reverse [] later = refl
order-reverse (r ∷ earlier) later =
    order-reverse earlier (r ∷ later) ∙ sym (append_assoc (reverse earlier) (r ∷ []) later) ∙ ap (λ rs. rs ++ later) (sym (reverse-append (r ∷ []) earlier))

pub base-completes : (base : List Record) → IsBaseRecords base → Completes [] base
base-completes base is =
    let rs = its_records base in
    let all = kept_all [] (map (λ (r : ℕ × Record). r.1) rs) in
    let from = from-ok (first_refusal (Done 0) [] rs) all base (notes_of 0 rs) (notes_of 0 rs) (is.read_again 0 rs (numbered-are base)) in
    record {
      each_record = recursion_from_All IsRecord base is.each_written;
      each_bare = recursion_from_All IsBare base is.each_bare;
      stand = subst (λ xs. StandsTo [] xs (λ d. missing d ≡ None)) (numbered-are base) (stood (Done 0) [] rs from.0);
    }

each-numbered : (records : List (ℕ × Record)) → Each IsRecord (map (λ r. r.1) records) → Each (λ r. IsRecord r.1) records
each-numbered [] each = tt
each-numbered (r ∷ records) each = (each.0, each-numbered records each.1)

pub complete-read : (base : List Record) → Completes [] base → WasRead base
complete-read base c =
    let rs = its_records base in
    record {
      ending = Done 0;
      records = rs;
      notes = notes_of 0 rs;
      spelt = All-from_recursion (λ (r : ℕ × Record). IsRecord r.1) rs (each-numbered rs (subst (Each IsRecord) (sym (numbered-are base)) c.each_record));
      read =
          ap (λ o. unless_refused o (kept_all [] (map (λ r. r.1) rs), notes_of 0 rs)) (not_refused 0 [] base rs (numbered-are base) c.stand)
          ∙ ap (λ xs. Ok (kept_all [] xs, notes_of 0 rs)) (numbered-are base)
          ∙ ap (λ xs. Ok (xs, notes_of 0 rs)) (all-kept [] base c.each_bare);
    }

-- ---- one line

line_of : Record → List ℕ
line_of r = written r ++ 10 ∷ []

-- two texts of one length that begin the same bytes are equal, as are the rests
same-front : (a b s t : List ℕ) → length a ≡ length b → a ++ s ≡ b ++ t → (a ≡ b) × (s ≡ t)
same-front [] [] s t e h = (refl, h)
same-front [] (y ∷ b) s t e h = absurd cc
same-front (x ∷ a) [] s t e h = absurd cc
same-front (x ∷ a) (y ∷ b) s t e h =
    let head : x ≡ y = cc in
    let tails : a ++ s ≡ b ++ t = cc in
    let lengths : length a ≡ length b = cc in
    let later = same-front a b s t lengths tails in
    (ap (λ z. z ∷ a) head ∙ ap (λ zs. y ∷ zs) later.0, later.1)

-- a line begins with one record
pub one-line : (r x : Record) (rest more : List ℕ) → IsRecord r → IsRecord x → (written r ++ 10 ∷ []) ++ rest ≡ (written x ++ 10 ∷ []) ++ more → (r ≡ x) × (rest ≡ more)
one-line r x rest more is are e =
    let lengths : length (written r) ≡ length (written x) = length_written r is ∙ sym (length_written x are) in
    let parts = same-front (written r) (written x) (10 ∷ rest) (10 ∷ more) lengths (sym (append_assoc (written r) (10 ∷ []) rest) ∙ e ∙ append_assoc (written x) (10 ∷ []) more) in
    (same_record r x (spells_written r is) (spells_written x are) parts.0, append_cancel_left (10 ∷ []) rest more parts.1)

-- ---- what is left of the lines

-- what is left after these records, the latest of which comes first, begins with the lines of the
-- records that complete a base of this size, exactly if the bytes begin with the lines of such a
-- base
pub record IsLeft (bytes rest : List ℕ) (count : ℕ) (earlier : List Record) : Type 0 where
  pub whole : (later : List Record) (tail : List ℕ) → rest ≡ saved later ++ tail → Completes earlier later → (bytes ≡ saved (in_order earlier later) ++ tail) × Completes [] (in_order earlier later)
  pub only : (records : List Record) (tail : List ℕ) → bytes ≡ saved records ++ tail → length records ≡ count → Completes [] records
      → (later : List Record) × (rest ≡ saved later ++ tail) × (length earlier + length later ≡ count) × Completes earlier later

-- the lines of a record and others
first-line : (x : Record) (more : List Record) (tail : List ℕ) → saved (x ∷ more) ++ tail ≡ (written x ++ 10 ∷ []) ++ (saved more ++ tail)
first-line x more tail = append_assoc (written x ++ 10 ∷ []) (saved more) tail

pub left-more : (bytes rest after : List ℕ) (count : ℕ) (earlier : List Record) (r : Record) → IsLeft bytes rest count earlier → IsLine r rest after → refusal_at earlier r ≡ None → (length earlier ≡ count → ⊥)
    → IsLeft bytes after count (r ∷ earlier)
left-more bytes rest after count earlier r left line stands few = record {
  whole = λ later tail e c.
      left.whole (r ∷ later) tail (line.written_is ∙ ap (λ bs. (written r ++ 10 ∷ []) ++ bs) e ∙ sym (first-line r later tail)) (record {
        each_record = (line.is_record, c.each_record);
        each_bare = (line.bare, c.each_bare);
        stand = (stands, subst (λ k. StandsTo (k ∷ earlier) later (λ d. missing d ≡ None)) (sym (kept-bare earlier r line.bare)) c.stand);
      });
  only = λ records tail e n c. let found = left.only records tail e n c in behind tail found.0 found.1 found.2 found.3;
}
  where
    behind : (tail : List ℕ) (later : List Record) → rest ≡ saved later ++ tail → length earlier + length later ≡ count → Completes earlier later
        → (more : List Record) × (after ≡ saved more ++ tail) × (length (r ∷ earlier) + length more ≡ count) × Completes (r ∷ earlier) more
    behind tail [] e n c = absurd (few (omega (arith, n)))
    behind tail (x ∷ more) e n c =
        let same = one-line r x after (saved more ++ tail) line.is_record c.each_record.0 (sym line.written_is ∙ e ∙ first-line x more tail) in
        let bare = subst IsBare (sym same.0) c.each_bare.0 in (
          more,
          same.1,
          omega (arith, n),
          record {
            each_record = c.each_record.1;
            each_bare = c.each_bare.1;
            stand = subst (λ k. StandsTo (k ∷ earlier) more (λ d. missing d ≡ None)) (ap (kept earlier) (sym same.0) ∙ kept-bare earlier r bare) c.stand.1;
          },
        )

module _ (bytes rest : List ℕ) (count : ℕ) (earlier : List Record) (left : IsLeft bytes rest count earlier) where
  -- if no record of a base can come next, and more are to come, the bytes begin with no such base
  pub left-none : (length earlier ≡ count → ⊥) → ((r : Record) (after : List ℕ) → IsLine r rest after → refusal_at earlier r ≡ None → ⊥)
      → (records : List Record) (tail : List ℕ) → IsBaseRecords records → length records ≡ count → bytes ≡ saved records ++ tail → ⊥
  left-none few none records tail is n e =
      let found = left.only records tail e n (base-completes records is) in
      by found.0 found.1 found.2 found.3
    where
      by : (later : List Record) → rest ≡ saved later ++ tail → length earlier + length later ≡ count → Completes earlier later → ⊥
      by [] e n c = few (omega (arith, n))
      by (x ∷ more) e n c = none x (saved more ++ tail) (record { is_record = c.each_record.0; bare = c.each_bare.0; written_is = e ∙ first-line x more tail }) c.stand.0

  -- after the last line nothing is missing
  pub end-whole : (lacking : Option BaseRefusal) → lacking ≡ missing earlier → is_some lacking ≡ false → (bytes ≡ saved (reverse earlier) ++ rest) × WasRead (reverse earlier)
  end-whole None is whole =
      let all = left.whole [] rest refl (record { each_record = tt; each_bare = tt; stand = sym is }) in
      let order : in_order earlier [] ≡ reverse earlier = order-reverse earlier [] ∙ append-nil (reverse earlier) in
      (all.0 ∙ ap (λ rs. saved rs ++ rest) order, subst WasRead order (complete-read (in_order earlier []) all.1))
  end-whole (Some refusal) is whole = absurd cc

  -- after the last line something is missing
  pub end-lacks : length earlier ≡ count → (lacking : Option BaseRefusal) → lacking ≡ missing earlier → is_some lacking ≡ true
      → (records : List Record) (tail : List ℕ) → IsBaseRecords records → length records ≡ count → bytes ≡ saved records ++ tail → ⊥
  end-lacks all None is some records tail are n e = absurd cc
  end-lacks all (Some refusal) is some records tail are n e =
      let found = left.only records tail e n (base-completes records are) in
      by found.0 found.2 found.3
    where
      by : (later : List Record) → length earlier + length later ≡ count → Completes earlier later → ⊥
      by [] n c = let apart = is ∙ c.stand in absurd cc
      by (x ∷ more) n c = absurd (omega (arith, all, n))

-- ---- the parts of a line

-- a block and what follows it
pub line-parts : (r : Record) (bytes rest : List ℕ) → IsLine r bytes rest → (take 200 bytes ≡ written r) × (drop 200 bytes ≡ 10 ∷ rest)
line-parts r bytes rest line =
    let bytes_is : bytes ≡ written r ++ (10 ∷ rest) = line.written_is ∙ append_assoc (written r) (10 ∷ []) rest in
    let long = length_written r line.is_record in (
      ap (take 200) bytes_is ∙ ap (λ n. take n (written r ++ (10 ∷ rest))) (sym long) ∙ take-append_seam (written r) (10 ∷ rest),
      ap (drop 200) bytes_is ∙ ap (λ n. drop n (written r ++ (10 ∷ rest))) (sym long) ∙ drop-append_seam (written r) (10 ∷ rest),
    )

pub line-short : (r : Record) (bytes rest : List ℕ) → IsLine r bytes rest → length bytes < 200 → ⊥
line-short r bytes rest line short =
    let long = length_written r line.is_record in
    let whole = ap length line.written_is in
    let one = length-append (written r ++ 10 ∷ []) rest in
    let two = length-append (written r) (10 ∷ []) in
    omega (arith, long, whole, one, two, short)

-- a block that is refused is no line's block
pub line-refused : {A : Type 0} (r : Record) (bytes rest block : List ℕ) (read : Result A RecordFault) → IsLine r bytes rest → block ≡ take 200 bytes → is_err read ≡ true
    → IfErr read (λ e. fault_of 0 block ≡ Some e) → ⊥
line-refused r bytes rest block (Ok a) line is refused fault = absurd cc
line-refused r bytes rest block (Err e) line is refused fault =
    let spelt : Spells r block = subst (Spells r) (sym (is ∙ (line-parts r bytes rest line).0)) (spells_written r line.is_record) in
    let none = no_fault 0 block r spelt in
    absurd cc

pub line-spelt : (r s : Record) (bytes rest block : List ℕ) → IsLine r bytes rest → block ≡ take 200 bytes → Spells s block → (s ≡ r) × (block ≡ written s)
line-spelt r s bytes rest block line is spelt =
    let block_is = is ∙ (line-parts r bytes rest line).0 in
    let same = one_record block s r spelt (subst (Spells r) (sym block_is) (spells_written r line.is_record)) in
    (same, block_is ∙ ap written (sym same))

pub line-whole : (r : Record) (bytes block after rest : List ℕ) (end : ℕ) → block ≡ take 200 bytes → after ≡ drop 200 bytes → after ≡ end ∷ rest → end ≡ 10 → IsRecord r → IsBare r → block ≡ written r → IsLine r bytes rest
line-whole r bytes block after rest end first second cut lf is bare same = record {
  is_record = is;
  bare = bare;
  written_is =
      sym (take-append-drop 200 bytes) ∙ ap (λ xs. xs ++ drop 200 bytes) (sym first ∙ same) ∙ ap (λ xs. written r ++ xs) (sym second ∙ cut ∙ ap (λ n. n ∷ rest) lf)
      ∙ sym (append_assoc (written r) (10 ∷ []) rest);
}

-- ---- the next record, and the end

pub read-ok : {A E : Type 0} (P : Type 0) (read : Result A E) → is_err read ≡ false → OnOk read P → P
read-ok P (Ok a) ok holds = holds
read-ok P (Err e) ok holds = absurd cc

-- a record that is refused is the record of its line
pub next-refused : (one r : Record) (rest after more : List ℕ) (earlier : List Record) (refusal : BaseRefusal) → IsLine one rest after → IsLine r rest more
    → refusal_at earlier one ≡ Some refusal → refusal_at earlier r ≡ None → ⊥
next-refused one r rest after more earlier refusal line other refused stands =
    let same = one-line one r after more line.is_record other.is_record (sym line.written_is ∙ other.written_is) in
    let both = ap (refusal_at earlier) same.0 in
    absurd cc

-- ---- a line of 201 bytes

-- A line of 201 bytes is the line of a record and nothing else.
pub whole-line : (r : Record) (line rest old new : List ℕ) → length line ≡ 201 → old ≡ line ++ new → IsLine r line rest → IsLine r old new
whole-line r line rest old new long is one =
    let whole = ap length one.written_is in
    let a = length-append (written r ++ 10 ∷ []) rest in
    let b = length-append (written r) (10 ∷ []) in
    let w = length_written r one.is_record in
    let none : rest ≡ [] = no-bytes rest (omega (arith, long, whole, a, b, w)) in
    record {
      is_record = one.is_record;
      bare = one.bare;
      written_is = is ∙ ap (λ bs. bs ++ new) (one.written_is ∙ ap (λ bs. (written r ++ 10 ∷ []) ++ bs) none ∙ append-nil (written r ++ 10 ∷ []));
    }
  where
    no-bytes : (bs : List ℕ) → length bs ≡ 0 → bs ≡ []
    no-bytes [] h = refl
    no-bytes (b ∷ bs) h = absurd (omega (arith, h))

pub line-first : (r : Record) (line rest old new : List ℕ) → length line ≡ 201 → old ≡ line ++ new → IsLine r old rest → IsLine r line []
line-first r line rest old new long is one =
    let b = length-append (written r) (10 ∷ []) in
    let w = length_written r one.is_record in
    let same = same-front (written r ++ 10 ∷ []) line rest new (omega (arith, long, b, w)) (sym one.written_is ∙ is) in
    record { is_record = one.is_record; bare = one.bare; written_is = sym same.0 ∙ sym (append-nil (written r ++ 10 ∷ [])) }

-- fewer bytes begin with no line
pub few-bytes : (r : Record) (old rest : List ℕ) → length old < 201 → IsLine r old rest → ⊥
few-bytes r old rest few one =
    let whole = ap length one.written_is in
    let a = length-append (written r ++ 10 ∷ []) rest in
    let b = length-append (written r) (10 ∷ []) in
    let w = length_written r one.is_record in
    omega (arith, whole, a, b, w, few)
