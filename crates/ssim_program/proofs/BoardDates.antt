-- The boards of several dates, one after another, of flights that are right near all of them.
use Rattle.std.proofs.Common.{◌≡◌, ◌∙◌, ℕ, zero, suc, ◌+◌, ◌-◌, ◌≤◌, ◌<◌, nat_lt, Bool, true, false}
use Rattle.std.proofs.Common.{if◌then◌else◌, List, [], ◌∷◌, ◌++◌, append-nil, append_assoc, map, refl, sym}
use Rattle.std.proofs.Common.{ap, arith}
use Rattle.std.specs.List.{flat_map, range_with_len}
use Rattle.std.proofs.lemmas.Bool.Decides.{nat_tests}
use Rattle.std.proofs.lemmas.Grind.{flat_map-append}
use Rattle.ssim_values.specs.Flight.{FlightNumber}
use Rattle.ssim_base.specs.Timetable.{Days}
use Rattle.ssim_schedule.specs.clauses.Dates.{AgreeBetween}
use Rattle.ssim_board.specs.clauses.Movements.{first_date, last_date}
use Rattle.ssim_board.specs.declared.board.Board.{Board}
use Rattle.ssim_program.specs.print.Board.{board_on}

-- one number more
range_added : {X : Type 0} (f : ℕ → X) (a n m : ℕ) → m ≡ n + 1
    → map f (range_with_len a m) ≡ map f (range_with_len a n) ++ f (a + n) ∷ []
range_added f a zero m e =
    let one : m ≡ suc zero = omega (arith, e) in
    let here : a ≡ a + zero = omega arith in
    ap (λ (k : ℕ). map f (range_with_len a k)) one ∙ ap (λ (k : ℕ). f k ∷ []) here
range_added f a (suc n) m e =
    let more : m ≡ suc (suc n) = omega (arith, e) in
    let next : suc n ≡ n + 1 = omega arith in
    let here : a + 1 + n ≡ a + suc n = omega arith in
    ap (λ (k : ℕ). map f (range_with_len a k)) more
    ∙ ap (λ xs. f a ∷ xs) (range_added f (a + 1) n (suc n) next)
    ∙ ap (λ (k : ℕ). f a ∷ (map f (range_with_len (a + 1) n) ++ f k ∷ [])) here

-- a list with one element more
pub shown_next : {X : Type 0} (f : ℕ → X) (a j : ℕ) (now next : List X) → a ≤ j
    → now ≡ map f (range_with_len a (j - a)) → next ≡ now ++ f j ∷ []
    → next ≡ map f (range_with_len a (j + 1 - a))
shown_next f a j now next from so_far is =
    let more : j + 1 - a ≡ (j - a) + 1 = omega arith in
    let here : j ≡ a + (j - a) = omega arith in
    is ∙ ap (λ xs. xs ++ f j ∷ []) so_far
    ∙ ap (λ (k : ℕ). map f (range_with_len a (j - a)) ++ f k ∷ []) here
    ∙ sym (range_added f a (j - a) (j + 1 - a) more)

-- the numbers of a range with one more
range_more : (a n m : ℕ) → m ≡ n + 1 → range_with_len a m ≡ range_with_len a n ++ (a + n) ∷ []
range_more a zero m e =
    let one : m ≡ suc zero = omega (arith, e) in
    let here : a ≡ a + zero = omega arith in
    ap (range_with_len a) one ∙ ap (λ (k : ℕ). k ∷ []) here
range_more a (suc n) m e =
    let more : m ≡ suc (suc n) = omega (arith, e) in
    let next : suc n ≡ n + 1 = omega arith in
    let here : a + 1 + n ≡ a + suc n = omega arith in
    ap (range_with_len a) more
    ∙ ap (λ (xs : List ℕ). a ∷ xs) (range_more (a + 1) n (suc n) next)
    ∙ ap (λ (k : ℕ). a ∷ (range_with_len (a + 1) n ++ k ∷ [])) here

-- the rows of one date more
pub rows_next : (f : ℕ → List ℕ) (head : List ℕ) (a j : ℕ) (now next : List ℕ) → a ≤ j
    → now ≡ head ++ flat_map f (range_with_len a (j - a)) → next ≡ now ++ f j
    → next ≡ head ++ flat_map f (range_with_len a (j + 1 - a))
rows_next f head a j now next from so_far is =
    let more : j + 1 - a ≡ (j - a) + 1 = omega arith in
    let here : j ≡ a + (j - a) = omega arith in
    let before = range_with_len a (j - a) in
    is ∙ ap (λ (xs : List ℕ). xs ++ f j) so_far ∙ append_assoc head (flat_map f before) (f j)
    ∙ ap (λ (xs : List ℕ). head ++ (flat_map f before ++ xs)) (sym (append-nil (f j)))
    ∙ ap (λ (xs : List ℕ). head ++ xs) (sym (flat_map-append f before (j ∷ [])))
    ∙ ap (λ (k : ℕ). head ++ flat_map f (before ++ k ∷ [])) here
    ∙ ap (λ (ns : List ℕ). head ++ flat_map f ns) (sym (range_more a (j - a) (j + 1 - a) more))

later_last : (day last : ℕ) (b d : Bool) → nat_lt day 36524 ≡ b → nat_lt last 36524 ≡ d → day ≤ last
    → last < 36525
    → (if b then day + 1 else 36524) ≤ (if d then last + 1 else 36524)
later_last day last true true e f le within = omega (arith, le)
later_last day last true false e f le within =
    let early : day < 36524 = grind (arith, nat_tests) in
    omega (arith, early)
later_last day last false true e f le within =
    let late : 36524 ≤ day = grind (arith, nat_tests) in
    let early : last < 36524 = grind (arith, nat_tests) in
    absurd (omega (arith, late, early, le))
later_last day last false false e f le within = omega arith

-- a date of origin that can have something on a date, up to one before an end
up_to_end : (board : Board) (day end n : ℕ) → day < end → end ≤ 36525 → n ≤ last_date (board_on board day)
    → n ≤ last_date (board_on board (end - 1))
up_to_end board day end n before within to =
    let more = later_last day (end - 1) (nat_lt day 36524) (nat_lt (end - 1) 36524) refl refl
    (omega (arith, before)) (omega (arith, before, within)) in
    omega (arith, more, to)

-- timetables that agree near all of several dates agree near each
pub near_date : (board : Board) (near days : FlightNumber → Days) (day end : ℕ) → board.day ≤ day → day < end
    → end ≤ 36525 → AgreeBetween (first_date board) (last_date (board_on board (end - 1))) near days
    → AgreeBetween (first_date (board_on board day)) (last_date (board_on board day)) near days
near_date board near days day end from before within agree flight n after to =
    let begun : board.day - 10 ≤ n = omega (arith, from, after) in
    agree flight n begun (up_to_end board day end n before within to)
