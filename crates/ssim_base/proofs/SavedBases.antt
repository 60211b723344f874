-- The records of a base are kept as they are: what a base leaves out of a record is left out
-- already, and a record that is not refused is not refused without it. So the bytes of these
-- records are read as the same records.
use Rattle.std.proofs.Common.{◌≡◌, ◌⊎◌, ℕ, ◌+◌, ◌-◌, ◌<◌, ◌≤◌, false, not, nat_lt, min, unwrap_or, List, [], ◌∷◌, map, length, Option, Some, None, Ok, inl, inr, refl, sym, ap, subst, ◌∙◌, arith}
use Rattle.std.specs.Prelude.{IsSome}
use Rattle.std.proofs.lemmas.Bool.Decides.{nat_tests}
use Rattle.std.proofs.lemmas.List.Elements.{recursion_from_All, All-from_recursion}
use Rattle.std.specs.List.{list_any, AllByRecursion as Each}
use Rattle.std.specs.Str.{bytes_eq}
use Rattle.ssim_values.specs.Calendar.{day_limit}
use Rattle.ssim_records.specs.Frames.{Frames, others}
use Rattle.ssim_records.specs.Leg.{IsEnd}
use Rattle.ssim_records.specs.Record.{IsRecord, WrittenIsFramed, WrittenSpells, block_of}
use Rattle.ssim_records.specs.declared.record.Record.{Record}
use Rattle.ssim_records.specs.declared.record.Record.TheVariants.{Header, Carrier, Leg, Segment, Trailer}
use Rattle.ssim_base.specs.Base.{Done, airline_of, carrier_end, closed, first_of, first_refusal, is_leg_named, is_overflow, is_rate, kept, kept_all, missing, notes_of, or_else, overlaps, own_refusal, place_refusal, refusal_at, refuse_if, unless_refused}
use Rattle.ssim_base.specs.BaseSeen.{WasRead}
use Rattle.ssim_base.specs.ReadBack.{AreRead, EachSpells}
use Rattle.ssim_base.proofs.ExportLaws.{ReadOnce}
use Rattle.ssim_base.specs.Reading.{FailedReader, Gives, IsReadBack}
use Rattle.ssim_base.specs.SavedBase.{IsBare, IsBaseRecords, IsOfRecords, SavedCanBeRead, SavedIsOne, SavedIsRead, saved}
use Rattle.ssim_base.specs.Timetable.{period_of}
use Rattle.ssim_base.specs.declared.fault.BaseRefusal.{BaseRefusal}
use Rattle.ssim_base.specs.declared.fault.BaseRefusal.TheVariants as refused
use Rattle.ssim_base.proofs.FrameLemmas.{framed}
use Rattle.ssim_base.proofs.Bases.{each-second, from-ok, or_else-none, refuse_if-none, stood}
use Rattle.ssim_base.proofs.Lines.{at-among, each-spells, among-records, lines-records, records_at}
use Rattle.ssim_base.proofs.Stands.{StandsTo, not_refused}
use Rattle.ssim_base.proofs.Valid.{items-records}

-- ---- what is kept of a record is bare, and a bare record is kept as it is

bare-kept : (e : List Record) (r : Record) → IsBare (kept e r)
bare-kept e (Header r) = refl
bare-kept e (Carrier r) = refl
bare-kept e (Leg r) = (refl, refl, refl, refl)
bare-kept e (Segment r) = (refl, refl)
bare-kept e (Trailer r) = (refl, refl)

all-bare : (e rs : List Record) → Each IsBare (kept_all e rs)
all-bare e [] = tt
all-bare e (r ∷ rs) = (bare-kept e r, all-bare (kept e r ∷ e) rs)

some-is : (o : Option ℕ) (d : ℕ) → IsSome o → Some (unwrap_or o d) ≡ o
some-is None d h = absurd cc
some-is (Some x) d h = refl

pub kept-bare : (e : List Record) (r : Record) → IsBare r → kept e r ≡ r
kept-bare e (Header r) h = ap (λ n. Header (record r { serial = n })) (sym h)
kept-bare e (Carrier r) h = ap (λ n. Carrier (record r { serial = n })) (sym h)
kept-bare e (Leg r) h =
    ap (λ last. Leg (record r { last = last; rate = 32; overflow = 32; serial = 0 })) (some-is r.last (carrier_end e) h.3)
    ∙ ap (λ n. Leg (record r { rate = n; overflow = 32; serial = 0 })) (sym h.1)
    ∙ ap (λ n. Leg (record r { overflow = n; serial = 0 })) (sym h.2)
    ∙ ap (λ n. Leg (record r { serial = n })) (sym h.0)
kept-bare e (Segment r) h = ap (λ n. Segment (record r { overflow = n; serial = 0 })) (sym h.1) ∙ ap (λ n. Segment (record r { serial = n })) (sym h.0)
kept-bare e (Trailer r) h = ap (λ n. Trailer (record r { check = n; serial = 0 })) (sym h.1) ∙ ap (λ n. Trailer (record r { serial = n })) (sym h.0)

pub all-kept : (e rs : List Record) → Each IsBare rs → kept_all e rs ≡ rs
all-kept e [] h = refl
all-kept e (r ∷ rs) h = ap (λ x. x ∷ kept_all (kept e r ∷ e) rs) (kept-bare e r h.0) ∙ ap (λ xs. r ∷ xs) (all-kept (kept e r ∷ e) rs h.1)

-- ---- what is kept of a record is not refused

both-none : (a b : Option BaseRefusal) → a ≡ None → b ≡ None → or_else a b ≡ None
both-none a b p q = ap (λ x. or_else x b) p ∙ q

place-kept : (e : List Record) (r : Record) → place_refusal e (kept e r) ≡ place_refusal e r
place-kept [] (Header r) = refl
place-kept [] (Carrier r) = refl
place-kept [] (Leg r) = refl
place-kept [] (Segment r) = refl
place-kept [] (Trailer r) = refl
place-kept (x ∷ []) (Header r) = refl
place-kept (x ∷ []) (Carrier r) = refl
place-kept (x ∷ []) (Leg r) = refl
place-kept (x ∷ []) (Segment r) = refl
place-kept (x ∷ []) (Trailer r) = refl
place-kept (x ∷ y ∷ e) (Header r) = refl
place-kept (x ∷ y ∷ e) (Carrier r) = refl
place-kept (x ∷ y ∷ e) (Leg r) = refl
place-kept (x ∷ y ∷ e) (Segment r) = refl
place-kept (x ∷ y ∷ e) (Trailer r) = refl

-- the refusals of a leg record, without those for overflow and rate, which are blank in what is
-- kept
leg-parts : (a b c d f : Option BaseRefusal) → first_of (a ∷ b ∷ c ∷ d ∷ f ∷ []) ≡ None → (a ≡ None) × (d ≡ None) × (f ≡ None)
leg-parts a b c d f h =
    let one = or_else-none a (first_of (b ∷ c ∷ d ∷ f ∷ [])) h in
    let two = or_else-none b (first_of (c ∷ d ∷ f ∷ [])) one.1 in
    let three = or_else-none c (first_of (d ∷ f ∷ [])) two.1 in
    let four = or_else-none d (first_of (f ∷ [])) three.1 in
    let five = or_else-none f None four.1 in
    (one.0, four.0, five.0)

own-kept : (e : List Record) (r : Record) → own_refusal e r ≡ None → own_refusal e (kept e r) ≡ None
own-kept e (Header r) h = refl
own-kept e (Carrier r) h = refl
own-kept e (Leg r) h =
    let leg = closed (carrier_end e) r in
    let a = refuse_if (not (bytes_eq r.name.airline (airline_of e))) refused.OtherAirline in
    let d = refuse_if (nat_lt (period_of leg).last r.first) refused.OpenEnd in
    let f = refuse_if (list_any (overlaps r.name (period_of leg)) e) refused.Overlap in
    let parts = leg-parts a (refuse_if (is_overflow r.overflow) refused.Overflow) (refuse_if (not (is_rate r.rate)) refused.Frequency) d f h in
    both-none a (or_else d (or_else f None)) parts.0 (both-none d (or_else f None) parts.1 (both-none f None parts.2 refl))
own-kept e (Segment r) h =
    let a = refuse_if (not (bytes_eq r.name.airline (airline_of e))) refused.OtherAirline in
    let b = refuse_if (is_overflow r.overflow) refused.Overflow in
    let c = refuse_if (not (list_any (is_leg_named r.name) e)) refused.Segment in
    let one = or_else-none a (or_else b (or_else c None)) h in
    both-none a (or_else c None) one.0 (or_else-none b (or_else c None) one.1).1
own-kept e (Trailer r) h = h

stands-kept : (e : List Record) (r : Record) → refusal_at e r ≡ None → refusal_at e (kept e r) ≡ None
stands-kept e r h =
    let parts = or_else-none (place_refusal e r) (own_refusal e r) h in
    both-none (place_refusal e (kept e r)) (own_refusal e (kept e r)) (place-kept e r ∙ parts.0) (own-kept e r parts.1)

stand-again : (P : List Record → Type 0) (e rs : List Record) → StandsTo e rs P → StandsTo e (kept_all e rs) P
stand-again P e [] h = h
stand-again P e (r ∷ rs) h = (
  stands-kept e r h.0,
  subst (λ x. StandsTo (x ∷ e) (kept_all (kept e r ∷ e) rs) P) (sym (kept-bare e (kept e r) (bare-kept e r))) (stand-again P (kept e r ∷ e) rs h.1),
)

-- ---- what is kept of a record can be written

end-within : (first : ℕ) (last : Option ℕ) → IsEnd first last → unwrap_or last (min (first + 730) (day_limit - 1)) < day_limit
end-within first None h = omega arith
end-within first (Some day) h = h.1

carrier-within : (e : List Record) → Each IsRecord e → carrier_end e < day_limit
carrier-within [] h = omega arith
carrier-within (Carrier r ∷ e) h = end-within r.first r.last h.0.last
carrier-within (Header r ∷ e) h = carrier-within e h.1
carrier-within (Leg r ∷ e) h = carrier-within e h.1
carrier-within (Segment r ∷ e) h = carrier-within e h.1
carrier-within (Trailer r ∷ e) h = carrier-within e h.1

closed-within : (last : Option ℕ) (first end' : ℕ) → IsEnd first last → end' < day_limit → unwrap_or last end' < day_limit
closed-within None first end' h within = within
closed-within (Some day) first end' h within = h.1

record-kept : (e : List Record) (r : Record) → Each IsRecord e → IsRecord r → refusal_at e r ≡ None → IsRecord (kept e r)
record-kept e (Header r) before is h = record { len = is.len; carried = is.carried; serial = omega arith }
record-kept e (Carrier r) before is h = record {
  airline = is.airline;
  season_len = is.season_len;
  season = is.season;
  first = is.first;
  last = is.last;
  created = is.created;
  details_len = is.details_len;
  details = is.details;
  serial = omega arith;
}
record-kept e (Leg r) before is h =
    let leg = closed (carrier_end e) r in
    let last = unwrap_or r.last (carrier_end e) in
    let a = refuse_if (not (bytes_eq r.name.airline (airline_of e))) refused.OtherAirline in
    let d = refuse_if (nat_lt (period_of leg).last r.first) refused.OpenEnd in
    let f = refuse_if (list_any (overlaps r.name (period_of leg)) e) refused.Overlap in
    let own = (or_else-none (place_refusal e (Leg r)) (own_refusal e (Leg r)) h).1 in
    let parts = leg-parts a (refuse_if (is_overflow r.overflow) refused.Overflow) (refuse_if (not (is_rate r.rate)) refused.Frequency) d f own in
    let after : nat_lt last r.first ≡ false = refuse_if-none (nat_lt last r.first) refused.OpenEnd parts.1 in
    let ordered : r.first ≤ last = grind (arith, nat_tests) in
    let within : last < day_limit = closed-within r.last r.first (carrier_end e) is.last (carrier-within e before) in
    record { name = is.name; first = is.first; last = (ordered, within); days = is.days; rate = refl; columns = is.columns; overflow = refl; serial = omega arith }
record-kept e (Segment r) before is h = record { name = is.name; service = is.service; tail = is.tail; overflow = refl; serial = omega arith }
record-kept e (Trailer r) before is h = record { spare = is.spare; airline = is.airline; release_len = is.release_len; release = is.release; check = omega arith; serial = omega arith }

all-records : (P : List Record → Type 0) (e rs : List Record) → Each IsRecord e → Each IsRecord rs → StandsTo e rs P → Each IsRecord (kept_all e rs)
all-records P e [] before each h = tt
all-records P e (r ∷ rs) before each h =
    let here = record-kept e r before each.0 h.0 in
    (here, all-records P (kept e r ∷ e) rs (here, before) each.1 h.1)

-- ---- the records of a base

pub base-records : (base : List Record) → WasRead base → IsBaseRecords base
base-records base w =
    let rs = map (λ (r : ℕ × Record). r.1) w.records in
    let from = from-ok (first_refusal w.ending [] w.records) (kept_all [] rs) base (notes_of 0 w.records) w.notes w.read in
    let each = each-second w.records (recursion_from_All (λ (r : ℕ × Record). IsRecord r.1) w.records w.spelt) in
    let stand = stood w.ending [] w.records from.0 in
    let bare = subst (Each IsBare) from.1 (all-bare [] rs) in
    let again = subst (λ xs. StandsTo [] xs (λ d. missing d ≡ None)) from.1 (stand-again (λ d. missing d ≡ None) [] rs stand) in
    record {
      framed = framed base w;
      each_written = All-from_recursion IsRecord base (subst (Each IsRecord) from.1 (all-records (λ d. missing d ≡ None) [] rs tt each stand));
      each_bare = All-from_recursion IsBare base bare;
      read_again = λ number records are.
          ap (λ o. unless_refused o (kept_all [] (map (λ r. r.1) records), notes_of 0 records)) (not_refused number [] base records are again)
          ∙ ap (λ xs. Ok (kept_all [] xs, notes_of 0 records)) are
          ∙ ap (λ xs. Ok (xs, notes_of 0 records)) (all-kept [] base bare);
    }

-- ---- the bytes of these records

abbrev pub items : List Record → List (Option Record)
items base = map (λ r. Some r) base

abbrev its_blocks : List Record → List (List ℕ)
its_blocks base = map block_of (items base)

abbrev pub its_records : List Record → List (ℕ × Record)
its_records base = records_at 0 (items base)

saved-read : WrittenIsFramed → WrittenSpells → (base : List Record) → Each IsRecord base → AreRead (saved base) (length (its_blocks base)) (its_records base)
saved-read frames spells base each =
    let valid = items-records base each in
    let read = frames (items base) valid in
    record {
      blocks = its_blocks base;
      framed = subst (λ bytes. Frames 0 false bytes (its_blocks base) []) (lines-records base) read.0;
      counted = refl;
      spelled = subst (λ blocks. EachSpells blocks (its_records base)) (sym read.1) (each-spells spells 0 (items base) valid);
    }

pub numbered-are : (base : List Record) → map (λ r. r.1) (its_records base) ≡ base
numbered-are base = at-among 0 (items base) ∙ among-records base

each-of : (base : List Record) → IsBaseRecords base → Each IsRecord base
each-of base is = recursion_from_All IsRecord base is.each_written

pub saved_is_read : WrittenIsFramed → WrittenSpells → IsReadBack → SavedIsRead
saved_is_read frames spells back base limit outcome is fits reads =
    let count = length (its_blocks base) in
    let records = its_records base in
    by (back (saved base) count records base (notes_of 0 records) limit outcome (saved-read frames spells base (each-of base is)) (is.read_again (count + 1) records (numbered-are base)) fits reads)
  where
    by : (outcome ≡ Ok (base, notes_of 0 (its_records base))) ⊎ FailedReader outcome → IsOfRecords base outcome ⊎ FailedReader outcome
    by (inl is) = inl (notes_of 0 (its_records base), is)
    by (inr failed) = inr failed

each-gives : (count over : ℕ) (blocks : List (ℕ × List ℕ)) (records : List (ℕ × Record)) → over ≡ 0 → EachSpells blocks records → Gives count [] over blocks records (Done (count + 1))
each-gives count over [] [] none each = (refl, refl, none, refl)
each-gives count over [] (r ∷ records) none each = absurd each
each-gives count over (b ∷ blocks) [] none each = absurd each
each-gives count over (b ∷ blocks) (r ∷ records) none each = (each.0, each.1, each-gives count over blocks records none each.2)

pub saved_can_be_read : WrittenIsFramed → WrittenSpells → SavedCanBeRead
unfolding saved-read
saved_can_be_read frames spells base limit is fits =
    let read = saved-read frames spells base (each-of base is) in
    let blocks = its_blocks base in
    let none : length (saved base) - limit ≡ 0 = omega (arith, fits) in (
      notes_of 0 (its_records base),
      inl (record {
        records = its_records base;
        ending = Done (length blocks + 1);
        given = record {
          blocks = blocks;
          rest = [];
          framed = subst (λ n. Frames n false (saved base) blocks []) (sym none) read.framed;
          given = each-gives (length blocks) (length (saved base) - limit) (others 0 blocks) (its_records base) none read.spelled;
        };
        is = sym (is.read_again (length blocks + 1) (its_records base) (numbered-are base));
      }),
    )

pub saved_is_one : WrittenIsFramed → WrittenSpells → ReadOnce → SavedIsOne
saved_is_one frames spells once base other is are same =
    let read = saved-read frames spells base (each-of base is) in
    let reads = subst (λ bytes. AreRead bytes (length (its_blocks other)) (its_records other)) (sym same) (saved-read frames spells other (each-of other are)) in
    let records = (once (saved base) (length (its_blocks base)) (length (its_blocks other)) (its_records base) (its_records other) read reads).1 in
    sym (numbered-are base) ∙ ap (λ (rs : List (ℕ × Record)). map (λ (r : ℕ × Record). r.1) rs) records ∙ numbered-are other
