-- Records and fill that are written with LF are framed as their blocks.
use Rattle.std.proofs.Common.{◌≡◌, ℕ, ◌+◌, ◌≤◌, ◌==◌, true, false, List, [], ◌∷◌, ◌++◌, length, Option, Some, None, refl, sym, ap, ◌∙◌, append_assoc, arith, lit<, inl, inr}
use Rattle.std.specs.Prelude.{map}
use Rattle.std.specs.Str.{bytes_eq}
use Rattle.std.proofs.lemmas.Bool.Decides.{nat_tests}
use Rattle.std.proofs.lemmas.Slice.Eq.{bytes_eq-Decides}
use Rattle.ssim_records.specs.declared.record.Record.{Record}
use Rattle.ssim_records.specs.declared.record.Record.TheVariants.{Header, Carrier, Leg, Segment, Trailer}
use Rattle.ssim_columns.specs.Columns.{columns}
use Rattle.ssim_records.specs.Frames.{drop_line_ends, Frames, fill, is_fill, others}
use Rattle.ssim_records.specs.Record.{IsRecord, written, block_of, lines, numbered, IsItem, AreItems}
use Rattle.ssim_columns.proofs.lemmas.Choices.{pick}
use Rattle.ssim_records.proofs.Headers.{length_header}
use Rattle.ssim_records.proofs.Carriers.{length_carrier}
use Rattle.ssim_columns.proofs.lemmas.Legs.{length_leg}
use Rattle.ssim_columns.proofs.lemmas.Segments.{length_segment}
use Rattle.ssim_records.proofs.Trailers.{length_trailer}
use Rattle.ssim_records.proofs.AnyRecord.{kind_of, kind_is, spells_written}

pub length_written : (r : Record) → IsRecord r → length (written r) ≡ 200
length_written (Header r) h = length_header r h
length_written (Carrier r) h = length_carrier r h
length_written (Leg r) h = length_leg r h
length_written (Segment r) h = length_segment r h
length_written (Trailer r) h = length_trailer r h

-- a text of two bytes or more that begins with a digit begins with no line end
digit_first : (t L : List ℕ) (k : ℕ) → columns 1 1 t ≡ k ∷ [] → 2 ≤ length t → 48 ≤ k → k ≤ 53 → drop_line_ends (t ++ L) ≡ t ++ L
digit_first [] L k e two low high = absurd cc
digit_first (b ∷ []) L k e two low high = absurd (omega (arith, two))
digit_first (b ∷ c ∷ bs) L k e two low high =
    let is : b ≡ k = cc in
    let lf : (b == 10) ≡ false = grind (arith, nat_tests, is, low) in
    let cr : (b == 13) ≡ false = grind (arith, nat_tests, is, low) in
    simp (lf, cr)

kind_low : (r : Record) → (49 ≤ kind_of r) × (kind_of r ≤ 53)
kind_low (Header r) = (omega arith, omega arith)
kind_low (Carrier r) = (omega arith, omega arith)
kind_low (Leg r) = (omega arith, omega arith)
kind_low (Segment r) = (omega arith, omega arith)
kind_low (Trailer r) = (omega arith, omega arith)

length_block : (x : Option Record) → IsItem x → length (block_of x) ≡ 200
length_block None h = refl
length_block (Some r) h = length_written r h

kept_block : (x : Option Record) (L : List ℕ) → IsItem x → drop_line_ends (block_of x ++ L) ≡ block_of x ++ L
kept_block None L h = digit_first fill L 48 refl (omega arith) (omega arith) (omega arith)
kept_block (Some r) L h =
    let k = kind_low r in
    digit_first (written r) L (kind_of r) (kind_is r (written r) (spells_written r h)) (omega (arith, length_written r h)) (omega (arith, k.0)) k.1

drop_lf : (L : List ℕ) → drop_line_ends (10 ∷ L) ≡ drop_line_ends L
drop_lf [] = refl
drop_lf (c ∷ cs) = refl

one_line : (x : Option Record) (later : List (Option Record)) → lines (x ∷ later) ≡ block_of x ++ (10 ∷ lines later)
one_line x later = append_assoc (block_of x) (10 ∷ []) (lines later)

pub framed_behind : (items : List (Option Record)) → AreItems items → Frames 0 true (10 ∷ lines items) (map block_of items) []
framed_behind [] h = (refl, lit< tt)
framed_behind (x ∷ xs) h =
    (10 ∷ lines xs, length_block x h.0, drop_lf (lines (x ∷ xs)) ∙ ap drop_line_ends (one_line x xs) ∙ kept_block x (10 ∷ lines xs) h.0, omega arith, framed_behind xs h.1)

pub framed : (items : List (Option Record)) → AreItems items → Frames 0 false (lines items) (map block_of items) []
framed [] h = (refl, lit< tt)
framed (x ∷ xs) h = (10 ∷ lines xs, length_block x h.0, one_line x xs, omega arith, framed_behind xs h.1)

-- ---- numbers

fill_is : is_fill fill ≡ true
unfolding is_fill
fill_is = (bytes_eq-Decides fill fill).1 refl

no_fill : (r : Record) → IsRecord r → is_fill (written r) ≡ false
unfolding is_fill
no_fill r h =
    elim (pick (bytes_eq (written r) fill)) [
      | inl t ↦ (
          let same : written r ≡ fill = (bytes_eq-Decides (written r) fill).0 t in
          let e : columns 1 1 fill ≡ kind_of r ∷ [] = ap (columns 1 1) (sym same) ∙ kind_is r (written r) (spells_written r h) in
          let zero : 48 ≡ kind_of r = cc in
          absurd (omega (arith, zero, (kind_low r).0))
          )
      | inr f ↦ f
    ]

pub others_numbered : (n : ℕ) (items : List (Option Record)) → AreItems items → others n (map block_of items) ≡ numbered n items
others_numbered n [] h = refl
others_numbered n (None ∷ xs) h = rw fill_is (others_numbered (n + 1) xs h.1)
others_numbered n (Some r ∷ xs) h = rw (no_fill r h.0) (ap (λ (x : List (ℕ × List ℕ)). (n + 1, written r) ∷ x) (others_numbered (n + 1) xs h.1))
