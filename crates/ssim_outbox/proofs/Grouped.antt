-- The segments of new legs in the order of the legs with which they begin: they are as many at
-- most, and give each leg the same tails.
use Rattle.std.proofs.Common.{◌≡◌, ◌≤◌, ◌<◌, ◌+◌, ◌∙◌, ℕ, Bool, true, false, if◌then◌else◌}
use Rattle.std.proofs.Common.{List, [], ◌∷◌, ◌++◌, length, refl, ap, arith}
use Rattle.std.proofs.Common.{Option, Some, None, nat_eq, length-append, append-nil}
use Rattle.std.specs.List.{AllByRecursion}
use Rattle.std.proofs.lemmas.Bool.Decides.{nat_tests}
use Rattle.ssim_text.specs.Grammar.{leg_pair}
use Rattle.ssim_text.specs.declared.leg.LegLine.{LegLine}
use Rattle.ssim_text.specs.declared.segment.SegmentLine.{SegmentLine}
use Rattle.ssim_schedule.specs.MessageColumns.{segment_tail}
use Rattle.ssim_schedule.specs.Effect.{tail_at, tail_for, tails_for, with_tail}
use Rattle.ssim_text.proofs.ReadsBack.{all_both}

-- the segment before others, if its pair of points begins with leg i
abbrev pub own_at : Option (ℕ × ℕ) → ℕ → SegmentLine → List SegmentLine → List SegmentLine
own_at None i s later = later
own_at (Some pair) i s later = if nat_eq pair.0 i then s ∷ later else later

abbrev pub pair_of : List LegLine → SegmentLine → Option (ℕ × ℕ)
pair_of legs s = leg_pair s.board s.off 0 legs

-- the segments whose pair of points begins with leg i
abbrev pub own : ℕ → List LegLine → List SegmentLine → List SegmentLine
own i legs [] = []
own i legs (s ∷ segments) = own_at (pair_of legs s) i s (own i legs segments)

-- the segments that begin with leg i or a later one, as many as there are lines, in the order of
-- these
abbrev pub grouped : ℕ → List LegLine → List LegLine → List SegmentLine → List SegmentLine
grouped i [] legs segments = []
grouped i (line ∷ lines) legs segments =
    own i legs segments ++ grouped (i + 1) lines legs segments

-- ---- what holds of each

all_own : (P : SegmentLine → Type 0) (i : ℕ) (legs : List LegLine) (segments : List SegmentLine)
    → AllByRecursion P segments → AllByRecursion P (own i legs segments)
all_own P i legs [] h = tt
all_own P i legs (s ∷ segments) h = by (pair_of legs s) (all_own P i legs segments h.1)
  where
    if_own : (b : Bool) → AllByRecursion P (own i legs segments)
        → AllByRecursion P (if b then s ∷ own i legs segments else own i legs segments)
    if_own true later = (h.0, later)
    if_own false later = later

    by : (pair : Option (ℕ × ℕ)) → AllByRecursion P (own i legs segments)
        → AllByRecursion P (own_at pair i s (own i legs segments))
    by None later = later
    by (Some pair) later = if_own (nat_eq pair.0 i) later

pub all_grouped : (P : SegmentLine → Type 0) (i : ℕ) (lines legs : List LegLine)
    (segments : List SegmentLine) → AllByRecursion P segments
    → AllByRecursion P (grouped i lines legs segments)
all_grouped P i [] legs segments h = tt
all_grouped P i (line ∷ lines) legs segments h =
    all_both P (own i legs segments) (grouped (i + 1) lines legs segments)
    (all_own P i legs segments h) (all_grouped P (i + 1) lines legs segments h)

-- ---- how many

other_number : (j i : ℕ) → j < i → nat_eq j i ≡ false
other_number j i h = grind (arith, nat_tests)

same_number : (j k : ℕ) → nat_eq j k ≡ true → j ≡ k
same_number j k h = grind (arith, nat_tests)

-- a segment that begins before leg i is none of those from it on
earlier : (j k i : ℕ) (lines legs : List LegLine) (s : SegmentLine) (segments : List SegmentLine)
    → pair_of legs s ≡ Some (j, k) → j < i
    → grouped i lines legs (s ∷ segments) ≡ grouped i lines legs segments
earlier j k i [] legs s segments e h = refl
earlier j k i (line ∷ lines) legs s segments e h = λ t.
    (ap (λ (pair : Option (ℕ × ℕ)). own_at pair i s (own i legs segments)) e
    ∙ ap (λ (b : Bool). if b then s ∷ own i legs segments else own i legs segments)
    (other_number j i h)) t
    ++ earlier j k (i + 1) lines legs s segments e (omega (arith, h)) t

-- a segment that no legs fly
unflown : (i : ℕ) (lines legs : List LegLine) (s : SegmentLine) (segments : List SegmentLine)
    → pair_of legs s ≡ None
    → grouped i lines legs (s ∷ segments) ≡ grouped i lines legs segments
unflown i [] legs s segments e = refl
unflown i (line ∷ lines) legs s segments e = λ t.
    ap (λ (pair : Option (ℕ × ℕ)). own_at pair i s (own i legs segments)) e t
    ++ unflown (i + 1) lines legs s segments e t

one_more : (i : ℕ) (lines legs : List LegLine) (s : SegmentLine) (segments : List SegmentLine)
    → length (grouped i lines legs (s ∷ segments)) ≤ 1 + length (grouped i lines legs segments)
one_more i [] legs s segments = omega arith
one_more i (line ∷ lines) legs s segments =
    by (pair_of legs s) refl (one_more (i + 1) lines legs s segments)
  where
    now : List SegmentLine
    now = own i legs segments

    rest : List SegmentLine → List SegmentLine
    rest all = grouped (i + 1) lines legs all

    if_own : (b : Bool) (j k : ℕ) → pair_of legs s ≡ Some (j, k) → nat_eq j i ≡ b
        → length (rest (s ∷ segments)) ≤ 1 + length (rest segments)
        → length ((if b then s ∷ now else now) ++ rest (s ∷ segments))
        ≤ 1 + length (now ++ rest segments)
    if_own true j k e f later =
        let here : j ≡ i = grind (arith, nat_tests) in
        let same = ap length (earlier j k (i + 1) lines legs s segments e (omega (arith, here))) in
        omega (arith, length-append now (rest (s ∷ segments)), length-append now (rest segments), same)
    if_own false j k e f later =
        omega (arith, length-append now (rest (s ∷ segments)), length-append now (rest segments), later)

    by : (pair : Option (ℕ × ℕ)) → pair_of legs s ≡ pair
        → length (rest (s ∷ segments)) ≤ 1 + length (rest segments)
        → length (own_at pair i s now ++ rest (s ∷ segments)) ≤ 1 + length (now ++ rest segments)
    by None e later =
        omega (arith, length-append now (rest (s ∷ segments)), length-append now (rest segments), later)
    by (Some pair) e later = if_own (nat_eq pair.0 i) pair.0 pair.1 e refl later

no_segments : (i : ℕ) (lines legs : List LegLine) → length (grouped i lines legs []) ≤ 0
no_segments i [] legs = omega arith
no_segments i (line ∷ lines) legs = no_segments (i + 1) lines legs

pub grouped_few : (i : ℕ) (lines legs : List LegLine) (segments : List SegmentLine)
    → length (grouped i lines legs segments) ≤ length segments
grouped_few i lines legs [] = no_segments i lines legs
grouped_few i lines legs (s ∷ segments) =
    let more = one_more i lines legs s segments in
    let few = grouped_few i lines legs segments in
    omega (arith, more, few)

-- ---- the tails

tails_both : (i : ℕ) (legs : List LegLine) (first later : List SegmentLine)
    → tails_for i legs (first ++ later) ≡ tails_for i legs first ++ tails_for i legs later
tails_both i legs [] later = refl
tails_both i legs (s ∷ first) later =
    ap (with_tail (tail_for i legs s)) (tails_both i legs first later)
    ∙ joined (tail_for i legs s) (tails_for i legs first) (tails_for i legs later)
  where
    joined : (tail : Option (List ℕ)) (xs ys : List (List ℕ))
        → with_tail tail (xs ++ ys) ≡ with_tail tail xs ++ ys
    joined None xs ys = refl
    joined (Some tail) xs ys = refl

-- the segments of leg i give it its tails
own_tails : (i : ℕ) (legs : List LegLine) (segments : List SegmentLine)
    → tails_for i legs (own i legs segments) ≡ tails_for i legs segments
own_tails i legs [] = refl
own_tails i legs (s ∷ segments) = by (pair_of legs s) refl (own_tails i legs segments)
  where
    now : List SegmentLine
    now = own i legs segments

    if_own : (b : Bool) (pair : ℕ × ℕ) → pair_of legs s ≡ Some pair → nat_eq pair.0 i ≡ b
        → tails_for i legs now ≡ tails_for i legs segments
        → tails_for i legs (if b then s ∷ now else now)
        ≡ with_tail (if b then Some (segment_tail pair.0 pair.1 s) else None) (tails_for i legs segments)
    if_own true pair e f later = λ t. with_tail
        ((ap (tail_at i s) e
        ∙ ap (λ (b : Bool). if b then Some (segment_tail pair.0 pair.1 s) else None) f) t)
        (later t)
    if_own false pair e f later = later

    by : (pair : Option (ℕ × ℕ)) → pair_of legs s ≡ pair
        → tails_for i legs now ≡ tails_for i legs segments
        → tails_for i legs (own_at pair i s now)
        ≡ with_tail (tail_at i s pair) (tails_for i legs segments)
    by None e later = later
    by (Some pair) e later = if_own (nat_eq pair.0 i) pair e refl later

-- those of another leg give it none
other_tails : (k i : ℕ) (legs : List LegLine) (segments : List SegmentLine) → nat_eq k i ≡ false
    → tails_for i legs (own k legs segments) ≡ []
other_tails k i legs [] h = refl
other_tails k i legs (s ∷ segments) h =
    by (pair_of legs s) refl (other_tails k i legs segments h)
  where
    now : List SegmentLine
    now = own k legs segments

    if_own : (b : Bool) (pair : ℕ × ℕ) → pair_of legs s ≡ Some pair → nat_eq pair.0 k ≡ b
        → tails_for i legs now ≡ [] → tails_for i legs (if b then s ∷ now else now) ≡ []
    if_own true pair e f later = λ t. with_tail
        ((ap (tail_at i s) e
        ∙ ap (λ (b : Bool). if b then Some (segment_tail pair.0 pair.1 s) else None)
        (ap (λ (x : ℕ). nat_eq x i) (same_number pair.0 k f) ∙ h)) t)
        (later t)
    if_own false pair e f later = later

    by : (pair : Option (ℕ × ℕ)) → pair_of legs s ≡ pair → tails_for i legs now ≡ []
        → tails_for i legs (own_at pair k s now) ≡ []
    by None e later = later
    by (Some pair) e later = if_own (nat_eq pair.0 k) pair e refl later

passed_tails : (k i : ℕ) (lines legs : List LegLine) (segments : List SegmentLine) → i < k
    → tails_for i legs (grouped k lines legs segments) ≡ []
passed_tails k i [] legs segments h = refl
passed_tails k i (line ∷ lines) legs segments h =
    let other : nat_eq k i ≡ false = grind (arith, nat_tests) in
    tails_both i legs (own k legs segments) (grouped (k + 1) lines legs segments)
    ∙ (λ t. other_tails k i legs segments other t
    ++ passed_tails (k + 1) i lines legs segments (omega (arith, h)) t)

pub grouped_tails : (k i : ℕ) (lines legs : List LegLine) (segments : List SegmentLine) → k ≤ i
    → i < k + length lines
    → tails_for i legs (grouped k lines legs segments) ≡ tails_for i legs segments
grouped_tails k i [] legs segments low high = absurd (omega (arith, low, high))
grouped_tails k i (line ∷ lines) legs segments low high =
    tails_both i legs (own k legs segments) (grouped (k + 1) lines legs segments)
    ∙ by (nat_eq k i) refl
    (λ above below. grouped_tails (k + 1) i lines legs segments above below)
  where
    rest : List SegmentLine
    rest = grouped (k + 1) lines legs segments

    by : (b : Bool) → nat_eq k i ≡ b
        → (k + 1 ≤ i → i < k + 1 + length lines
        → tails_for i legs rest ≡ tails_for i legs segments)
        → tails_for i legs (own k legs segments) ++ tails_for i legs rest ≡ tails_for i legs segments
    by true e later =
        let same = same_number k i e in
        let own_first : tails_for i legs (own k legs segments) ≡ tails_for i legs segments =
        ap (λ (x : ℕ). tails_for i legs (own x legs segments)) same ∙ own_tails i legs segments in
        (λ t. own_first t
        ++ passed_tails (k + 1) i lines legs segments (omega (arith, same)) t)
        ∙ append-nil (tails_for i legs segments)
    by false e later =
        let above : k + 1 ≤ i = grind (arith, nat_tests) in
        let below : i < k + 1 + length lines = omega (arith, high) in
        (λ t. other_tails k i legs segments e t ++ later above below t)
