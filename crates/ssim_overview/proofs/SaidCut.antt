-- Rows that grow date by date are the dates, cut.
use Rattle.std.proofs.Common.{◌≡◌, ◌∙◌, ℕ, ◌++◌, Bool, true, false, ◌&&◌, not, nat_eq, if◌then◌else◌}
use Rattle.std.proofs.Common.{List, [], ◌∷◌, refl, sym, ap, arith, append-nil, append_assoc}
use Rattle.std.proofs.lemmas.Bool.Decides.{nat_tests}
use Rattle.ssim_values.specs.Variation.{Offset}
use Rattle.ssim_base.specs.Stations.{Row}
use Rattle.ssim_overview.specs.SaidRows.{cut, is_same, joins, row_of, with_date}
use Rattle.ssim_overview.specs.internal.SaidRows.{extended, goes_on, grown}

-- variations with the same sign and minutes are one
pub same_is : (v w : Offset) → is_same v w ≡ true → v ≡ w
same_is v w h = by v.negative w.negative refl refl h
  where
    minutes : nat_eq v.minutes w.minutes ≡ true → v.minutes ≡ w.minutes
    minutes t = grind (arith, nat_tests)

    by : (a b : Bool) → v.negative ≡ a → w.negative ≡ b
        → ((if a then b else not b) && nat_eq v.minutes w.minutes) ≡ true → v ≡ w
    by true true e f t = λ i. record { negative = (e ∙ sym f) i; minutes = minutes t i }
    by false false e f t = λ i. record { negative = (e ∙ sym f) i; minutes = minutes t i }
    by true false e f t = absurd cc
    by false true e f t = absurd cc

both : (a b : Bool) → (a && b) ≡ true → a ≡ true
both true b h = refl
both false b h = absurd cc

-- a date before rows and a date after them
commute : (station : List ℕ) (d e : ℕ × Offset) (rows : List Row)
    → with_date station d (extended station rows e) ≡ extended station (with_date station d rows) e
commute station d e [] = by (goes_on (row_of station d) e) refl
  where
    by : (b : Bool) → goes_on (row_of station d) e ≡ b
        → (if b then record { station = station; first = d.0; last = e.0; variation = e.1 } ∷ []
        else row_of station d ∷ row_of station e ∷ [])
        ≡ (if b then record { station = station; first = d.0; last = e.0; variation = d.1 } ∷ []
        else row_of station d ∷ row_of station e ∷ [])
    by true t = ap (λ (v : Offset). record { station = station; first = d.0; last = e.0; variation = v } ∷ [])
        (sym (same_is d.1 e.1 (both (is_same d.1 e.1) _ t)))
    by false t = refl
commute station d e (row ∷ []) =
    left (goes_on row e) ∙ inner (goes_on row e) (joins d row) ∙ sym (right (joins d row))
  where
    start : Row
    start = record row { first = d.0 }

    stop : Row
    stop = record row { last = e.0 }

    full : Row
    full = record { station = row.station; first = d.0; last = e.0; variation = row.variation }

    kept : Bool → List Row
    kept b = if b then stop ∷ [] else row ∷ row_of station e ∷ []

    begun : Bool → List Row
    begun b = if b then full ∷ [] else start ∷ row_of station e ∷ []

    left : (b : Bool) → with_date station d (kept b)
        ≡ (if b then (if joins d row then full ∷ [] else row_of station d ∷ stop ∷ [])
        else (if joins d row then start ∷ row_of station e ∷ []
        else row_of station d ∷ row ∷ row_of station e ∷ []))
    left true = refl
    left false = refl

    inner : (b j : Bool)
        → (if b then (if j then full ∷ [] else row_of station d ∷ stop ∷ [])
        else (if j then start ∷ row_of station e ∷ [] else row_of station d ∷ row ∷ row_of station e ∷ []))
        ≡ (if j then begun b else row_of station d ∷ kept b)
    inner true true = refl
    inner true false = refl
    inner false true = refl
    inner false false = refl

    right : (j : Bool) → extended station (if j then start ∷ [] else row_of station d ∷ row ∷ []) e
        ≡ (if j then begun (goes_on row e) else row_of station d ∷ kept (goes_on row e))
    right true = refl
    right false = refl
commute station d e (row ∷ next ∷ rows) = by (joins d row)
  where
    by : (j : Bool)
        → (if j then record row { first = d.0 } ∷ extended station (next ∷ rows) e
        else row_of station d ∷ row ∷ extended station (next ∷ rows) e)
        ≡ extended station (if j then record row { first = d.0 } ∷ next ∷ rows
        else row_of station d ∷ row ∷ next ∷ rows) e
    by true = refl
    by false = refl

cut_more : (station : List ℕ) (dates : List (ℕ × Offset)) (e : ℕ × Offset)
    → cut station (dates ++ e ∷ []) ≡ extended station (cut station dates) e
cut_more station [] e = refl
cut_more station (d ∷ dates) e =
    ap (with_date station d) (cut_more station dates e) ∙ commute station d e (cut station dates)

grown_more : (station : List ℕ) (dates later : List (ℕ × Offset))
    → grown station (cut station dates) later ≡ cut station (dates ++ later)
grown_more station dates [] = ap (cut station) (sym (append-nil dates))
grown_more station dates (e ∷ later) =
    ap (λ (rows : List Row). grown station rows later) (sym (cut_more station dates e))
    ∙ grown_more station (dates ++ e ∷ []) later ∙ ap (cut station) (append_assoc dates (e ∷ []) later)

pub grown_is : (station : List ℕ) (dates : List (ℕ × Offset))
    → grown station [] dates ≡ cut station dates
grown_is station dates = grown_more station [] dates

-- the last row of some, and a date after it
pub extended_last : (station : List ℕ) (rows : List Row) (row : Row) (e : ℕ × Offset)
    → extended station (rows ++ row ∷ []) e
    ≡ rows ++ (if goes_on row e then record row { last = e.0 } ∷ [] else row ∷ row_of station e ∷ [])
extended_last station [] row e = refl
extended_last station (x ∷ []) row e = refl
extended_last station (x ∷ y ∷ rows) row e = ap (λ (r : List Row). x ∷ r) (extended_last station (y ∷ rows) row e)

-- the last row goes on to a date
pub goes_on_last : (station : List ℕ) (rows : List Row) (row : Row) (e : ℕ × Offset) (old new : List Row)
    → old ≡ rows ++ row ∷ [] → goes_on row e ≡ true → new ≡ rows ++ record row { last = e.0 } ∷ []
    → new ≡ extended station old e
goes_on_last station rows row e old new was on is =
    is ∙ ap (λ (b : Bool). rows ++ (if b then record row { last = e.0 } ∷ [] else row ∷ row_of station e ∷ [])) (sym on)
    ∙ sym (extended_last station rows row e) ∙ ap (λ (r : List Row). extended station r e) (sym was)

-- a row begins after the last one
pub begins_last : (station : List ℕ) (rows : List Row) (row : Row) (e : ℕ × Offset) (old mid new : List Row)
    → old ≡ rows ++ row ∷ [] → goes_on row e ≡ false → mid ≡ rows ++ row ∷ []
    → new ≡ mid ++ row_of station e ∷ [] → new ≡ extended station old e
begins_last station rows row e old mid new was off back is =
    is ∙ ap (λ (r : List Row). r ++ row_of station e ∷ []) back ∙ append_assoc rows (row ∷ []) (row_of station e ∷ [])
    ∙ ap (λ (b : Bool). rows ++ (if b then record row { last = e.0 } ∷ [] else row ∷ row_of station e ∷ [])) (sym off)
    ∙ sym (extended_last station rows row e) ∙ ap (λ (r : List Row). extended station r e) (sym was)
