-- Parts one after another, each at its position.
use Rattle.std.proofs.Common.{◌≡◌, ℕ, ◌+◌, ◌-◌, List, [], ◌∷◌, ◌++◌, length, take, drop, Option, Some, None, refl, sym, ap, ◌∙◌, append_assoc, arith}
use Rattle.std.specs.Prelude.{slice_range, IsSome}
use Rattle.std.specs.List.{concat, AllZip}
use Rattle.std.proofs.lemmas.List.{take_at, drop_at, drop_all, drop-drop, drop-take, length-append, take-append-drop}
use Rattle.std.proofs.lemmas.List.Folds.{concat-append}
use Rattle.ssim_values.specs.Day.{day_of}
use Rattle.ssim_columns.specs.declared.field.FieldKind.TheVariants.{Dates}
use Rattle.ssim_columns.specs.Columns.{columns, fault_in, dates_fault, end_from}
use Rattle.ssim_columns.proofs.lemmas.Slices.{slice_in}

-- the parts come one after another, from position n on, each of its width
abbrev pub Placed : ℕ → List ℕ → List (List ℕ) → List ℕ → Type 0
Placed n [] ps b = Unit {0}
Placed n (w ∷ ws) [] b = Unit {0}
Placed n (w ∷ ws) (p ∷ ps) b = (slice_range b n (n + w) ≡ p) × Placed (n + w) ws ps b

pub part_at : (before p after : List ℕ) (n w : ℕ) → n ≡ length before → length p ≡ w → slice_range (before ++ (p ++ after)) n (n + w) ≡ p
part_at before p after n w at len =
    let k : (n + w) - n ≡ w = omega arith in
    rw (k, drop_at before (p ++ after) n (sym at)) (take_at p after w len)

placed : (before : List ℕ) (n : ℕ) (ws : List ℕ) (ps : List (List ℕ)) → n ≡ length before → AllZip (λ w p. length p ≡ w) ws ps → Placed n ws ps (before ++ concat ps)
placed before n [] ps at h = tt
placed before n (w ∷ ws) [] at h = tt
placed before n (w ∷ ws) (p ∷ ps) at h =
    let later : Placed (n + w) ws ps ((before ++ p) ++ concat ps) = placed (before ++ p) (n + w) ws ps (omega (arith, length-append before p, h.0)) h.1 in
    (part_at before p (concat ps) n w at h.0, rw (← append_assoc before p (concat ps)) later)

pub all_placed : (ws : List ℕ) (ps : List (List ℕ)) → AllZip (λ w p. length p ≡ w) ws ps → Placed 0 ws ps (concat ps)
all_placed ws ps h = placed [] 0 ws ps refl h

abbrev pub sum_of : List ℕ → ℕ
sum_of [] = 0
sum_of (w ∷ ws) = w + sum_of ws

-- all parts together are as long as the sum of their widths
pub length_concat : (ws : List ℕ) (ps : List (List ℕ)) → AllZip (λ w p. length p ≡ w) ws ps → length ws ≡ length ps → length (concat ps) ≡ sum_of ws
length_concat [] [] h e = refl
length_concat [] (p ∷ ps) h e = absurd (omega (arith, e))
length_concat (w ∷ ws) [] h e = absurd (omega (arith, e))
length_concat (w ∷ ws) (p ∷ ps) h e = omega (arith, length-append p (concat ps), h.0, length_concat ws ps h.1 (omega (arith, e)))

-- a list with all parts at their positions, and nothing after them, is these parts
pub placed_whole : (n : ℕ) (ws : List ℕ) (ps : List (List ℕ)) (b : List ℕ) → length ws ≡ length ps → length b ≡ n + sum_of ws → Placed n ws ps b → drop n b ≡ concat ps
placed_whole n [] [] b e len at = drop_all n b (omega (arith, len))
placed_whole n [] (p ∷ ps) b e len at = absurd (omega (arith, e))
placed_whole n (w ∷ ws) [] b e len at = absurd (omega (arith, e))
placed_whole n (w ∷ ws) (p ∷ ps) b e len at =
    let k : (n + w) - n ≡ w = omega arith in
    let here : take w (drop n b) ≡ p = rw k at at.0 in
    let rest : drop w (drop n b) ≡ concat ps = drop-drop w n b ∙ placed_whole (n + w) ws ps b (omega (arith, e)) (omega (arith, len)) at.1 in
    sym (take-append-drop w (drop n b)) ∙ ap (λ (t : List ℕ). t ++ drop w (drop n b)) here ∙ ap (λ (t : List ℕ). p ++ t) rest

-- parts that are joined first are joined as the others
pub joined : (kind : List ℕ) (name front back : List (List ℕ)) → concat (concat (kind ∷ concat name ∷ front) ∷ back) ≡ concat (kind ∷ (name ++ (front ++ back)))
joined kind name front back =
    append_assoc kind (concat name ++ concat front) (concat back)
    ∙ ap (λ (t : List ℕ). kind ++ t) (append_assoc (concat name) (concat front) (concat back) ∙ ap (λ (t : List ℕ). concat name ++ t) (sym (concat-append front back)) ∙ sym (concat-append name (front ++ back)))

pub name_joined : (kind : List ℕ) (name back : List (List ℕ)) → concat (kind ∷ concat name ∷ back) ≡ concat (kind ∷ (name ++ back))
name_joined kind name back = ap (λ (t : List ℕ). kind ++ t) (sym (concat-append name back))

pub period_joined : (kind : List ℕ) (name front dates back : List (List ℕ)) → concat (kind ∷ concat name ∷ (front ++ concat dates ∷ back)) ≡ concat (kind ∷ (name ++ (front ++ (dates ++ back))))
period_joined kind name front dates back =
    ap (λ (t : List ℕ). kind ++ (concat name ++ t)) (concat-append front (concat dates ∷ back) ∙ ap (λ (t : List ℕ). concat front ++ t) (sym (concat-append dates back)) ∙ sym (concat-append front (dates ++ back)))
    ∙ ap (λ (t : List ℕ). kind ++ t) (sym (concat-append name (front ++ (dates ++ back))))

-- ---- a start and an end

pub first_day_in : (b : List ℕ) → take 7 (slice_range b 14 28) ≡ slice_range b 14 21
first_day_in b = slice_in b 14 28 0 7 (omega arith) (omega arith)

pub last_day_in : (b : List ℕ) → drop 7 (slice_range b 14 28) ≡ slice_range b 21 28
last_day_in b = drop-take 7 7 (drop 14 b) ∙ ap (take 7) (drop-drop 7 14 b)

no_first_day : (b : List ℕ) → fault_in Dates (columns 15 28 b) ≡ None → day_of (columns 15 21 b) ≡ None → ⊥
unfolding dates_fault
no_first_day b s h =
    let e : day_of (take 7 (slice_range b 14 28)) ≡ None = ap day_of (first_day_in b) ∙ h in
    let t = rw e at s in
    cc

no_last_day : (b : List ℕ) (start : ℕ) → fault_in Dates (columns 15 28 b) ≡ None → day_of (columns 15 21 b) ≡ Some start → end_from (Some start) (columns 22 28 b) ≡ None → ⊥
unfolding dates_fault
no_last_day b start s p h =
    let e : day_of (take 7 (slice_range b 14 28)) ≡ Some start = ap day_of (first_day_in b) ∙ p in
    let f : end_from (Some start) (drop 7 (slice_range b 14 28)) ≡ None = ap (end_from (Some start)) (last_day_in b) ∙ h in
    let t = rw (e, f) at s in
    cc

is_some_by : {A : Type 0} (o : Option A) → (o ≡ None → ⊥) → IsSome o
is_some_by None h = absurd (h refl)
is_some_by (Some x) h = refl

pub is_first_day : (b : List ℕ) → fault_in Dates (columns 15 28 b) ≡ None → IsSome (day_of (columns 15 21 b))
is_first_day b s = is_some_by (day_of (columns 15 21 b)) (no_first_day b s)

pub is_last_day : (b : List ℕ) (start : ℕ) → fault_in Dates (columns 15 28 b) ≡ None → day_of (columns 15 21 b) ≡ Some start → IsSome (end_from (Some start) (columns 22 28 b))
is_last_day b start s p = is_some_by (end_from (Some start) (columns 22 28 b)) (no_last_day b start s p)

pub dates_stand : (b : List ℕ) (start : ℕ) (o : Option ℕ) → day_of (columns 15 21 b) ≡ Some start → end_from (Some start) (columns 22 28 b) ≡ Some o → fault_in Dates (columns 15 28 b) ≡ None
unfolding dates_fault
dates_stand b start o p q = rw (first_day_in b, last_day_in b, p, q) refl
