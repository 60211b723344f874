-- Lists that grow by one element: of loaded steps, of the lines of steps, of exports and their
-- lines. Each result of a run has its line.
use Rattle.std.proofs.Common.{◌≡◌, ◌∙◌, ◌+◌, ◌++◌, ◌<◌, ℕ, suc, List, [], ◌∷◌, length, map, take, drop, get_or, Option, Some, None, refl, sym, ap, subst, add-one, drop-cons, take-append-drop, inr, arith}
use Rattle.std.proofs.lemmas.Grind.{common_steps}
use Rattle.std.proofs.lemmas.List.{length_push, map-append}
use Rattle.std.proofs.lemmas.List.{take_more}
use Rattle.ssim_held.specs.Held.{DeskState}
use Rattle.ssim_desk.specs.declared.steps.Answer.{Answer}
use Rattle.ssim_desk.specs.declared.steps.Step.{Step}
use Rattle.ssim_program.specs.Files.{Files}
use Rattle.ssim_program.specs.rehearse.Rehearsal.{AreExports, AreLoaded, IsLoaded, IsOutcome, Outcome, RefusesStep, RefusesStepTexts, answer_line, desk_line, desk_lines, desk_of, step_lines}
use Rattle.ssim_program.specs.rehearse.Script.{IsFirstOther, Written, step_in}
use Rattle.ssim_program.specs.declared.refusal.Refusal.{Refusal}
use Rattle.ssim_program.specs.declared.rehearse.line.RehearsalLine.{RehearsalLine}

-- ---- one more

loaded_more : (files : Option Files) (ws : List Written) (ss : List Step) (w : Written) (s : Step)
    → AreLoaded files ws ss → IsLoaded files w s → AreLoaded files (ws ++ w ∷ []) (ss ++ s ∷ [])
loaded_more files [] [] w s are is = (is, tt)
loaded_more files [] (x ∷ ss) w s are is = absurd are
loaded_more files (y ∷ ws) [] w s are is = absurd are
loaded_more files (y ∷ ws) (x ∷ ss) w s are is = (are.0, loaded_more files ws ss w s are.1 is)

lines_more : (ss : List Step) (us : List Answer) (s : Step) (u : Answer) → length us ≡ length ss
    → step_lines (ss ++ s ∷ []) (us ++ u ∷ [])
    ≡ step_lines ss us ++ answer_line (desk_of s + 1) u ∷ []
lines_more [] [] s u same = refl
lines_more [] (y ∷ us) s u same = absurd (omega (arith, same))
lines_more (x ∷ ss) [] s u same = absurd (omega (arith, same))
lines_more (x ∷ ss) (y ∷ us) s u same =
    ap (λ (ls : List RehearsalLine). answer_line (desk_of x + 1) y ∷ ls)
    (lines_more ss us s u (omega (arith, same)))

-- ---- the same of the first elements of lists

map_more : {X Y : Type 0} (f : X → Y) (xs : List X) (i : ℕ) (d : X) → i < length xs
    → map f (take (i + 1) xs) ≡ map f (take i xs) ++ f (get_or xs i d) ∷ []
map_more f xs i d lt =
    ap (map f) (take_more xs i d lt) ∙ map-append f (take i xs) (get_or xs i d ∷ [])

pub loaded_next : {X : Type 0} (f : X → Written) (files : Option Files) (xs : List X) (i : ℕ)
    (x : X) (ss new : List Step) (s : Step) → i < length xs → x ≡ get_or xs i x
    → AreLoaded files (map f (take i xs)) ss → IsLoaded files (f x) s → new ≡ ss ++ s ∷ []
    → AreLoaded files (map f (take (i + 1) xs)) new
loaded_next f files xs i x ss new s lt at are is pushed =
    subst (λ ws. AreLoaded files ws new) (sym (map_more f xs i x lt))
    (subst (AreLoaded files (map f (take i xs) ++ f (get_or xs i x) ∷ [])) (sym pushed)
    (loaded_more files (map f (take i xs)) ss (f (get_or xs i x)) s are
    (subst (λ y. IsLoaded files (f y) s) at is)))

pub lines_next : (ss : List Step) (us : List Answer) (i : ℕ) (s : Step) (u : Answer)
    → i < length ss → length us ≡ length ss → s ≡ get_or ss i s → u ≡ get_or us i u
    → step_lines (take (i + 1) ss) (take (i + 1) us)
    ≡ step_lines (take i ss) (take i us) ++ answer_line (desk_of s + 1) u ∷ []
lines_next ss us i s u lt same at at' =
    ap (λ (xs : List Step). step_lines xs (take (i + 1) us)) (take_one_more ss i s lt at)
    ∙ ap (λ (xs : List Answer). step_lines (take i ss ++ s ∷ []) xs)
    (take_one_more us i u (omega (arith, lt, same)) at')
    ∙ lines_more (take i ss) (take i us) s u (grind (arith, common_steps, lt, same))
  where
    take_one_more : {X : Type 0} (xs : List X) (k : ℕ) (x : X) → k < length xs → x ≡ get_or xs k x
        → take (k + 1) xs ≡ take k xs ++ x ∷ []
    take_one_more xs k x less is =
        take_more xs k x less ∙ ap (λ y. take k xs ++ y ∷ []) (sym is)

-- ---- one more desk has its export and its line

exports_pushed : {X Y : Type 0} (f : X → DeskState) (g : Y → Outcome) (xs : List X) (ys : List Y)
    (x : X) (y : Y) → AreExports (map f xs) (map g ys) → IsOutcome (f x) (g y)
    → AreExports (map f (xs ++ x ∷ [])) (map g (ys ++ y ∷ []))
exports_pushed f g [] [] x y are is = (is, tt)
exports_pushed f g [] (b ∷ ys) x y are is = absurd are
exports_pushed f g (a ∷ xs) [] x y are is = absurd are
exports_pushed f g (a ∷ xs) (b ∷ ys) x y are is = (are.0, exports_pushed f g xs ys x y are.1 is)

lines_pushed : {X Y : Type 0} (f : X → DeskState) (g : Y → Outcome) (n : ℕ) (xs : List X)
    (ys : List Y) (x : X) (y : Y) → AreExports (map f xs) (map g ys)
    → desk_lines n (map f (xs ++ x ∷ [])) (map g (ys ++ y ∷ []))
    ≡ desk_lines n (map f xs) (map g ys) ++ desk_line (n + length xs) (f x) (g y) ∷ []
lines_pushed f g n [] [] x y are =
    let same : n ≡ n + 0 = omega arith in ap (λ k. desk_line k (f x) (g y) ∷ []) same
lines_pushed f g n [] (b ∷ ys) x y are = absurd are
lines_pushed f g n (a ∷ xs) [] x y are = absurd are
lines_pushed f g n (a ∷ xs) (b ∷ ys) x y are =
    let same : (n + 1) + length xs ≡ n + suc (length xs) = omega arith in
    ap (λ rest. desk_line n (f a) (g b) ∷ rest)
    (lines_pushed f g (n + 1) xs ys x y are.1
    ∙ ap (λ k. desk_lines (n + 1) (map f xs) (map g ys) ++ desk_line k (f x) (g y) ∷ []) same)

pub ends_next : {X Y : Type 0} (f : X → DeskState) (g : Y → Outcome) (xs : List X)
    (ys more_ys : List Y) (ls more_ls : List RehearsalLine) (x : X) (y : Y) (l : RehearsalLine)
    (k : ℕ)
    → AreExports (map f xs) (map g ys) → ls ≡ desk_lines 1 (map f xs) (map g ys)
    → length ls ≡ length xs
    → IsOutcome (f x) (g y) → k ≡ length ls → l ≡ desk_line (k + 1) (f x) (g y)
    → more_ls ≡ ls ++ l ∷ [] → more_ys ≡ ys ++ y ∷ []
    → AreExports (map f (xs ++ x ∷ [])) (map g more_ys)
    × (more_ls ≡ desk_lines 1 (map f (xs ++ x ∷ [])) (map g more_ys))
    × (length more_ls ≡ length (xs ++ x ∷ []))
ends_next f g xs ys more_ys ls more_ls x y l k are lines count is before line_is pushed_line
    pushed = (
      subst (λ os. AreExports (map f (xs ++ x ∷ [])) (map g os)) (sym pushed)
          (exports_pushed f g xs ys x y are is),
      pushed_line ∙ ap (λ all. all ++ l ∷ []) lines
          ∙ ap (λ one. desk_lines 1 (map f xs) (map g ys) ++ one ∷ [])
          (line_is ∙ ap (λ n. desk_line n (f x) (g y)) number)
          ∙ sym (lines_pushed f g 1 xs ys x y are)
          ∙ ap (λ os. desk_lines 1 (map f (xs ++ x ∷ [])) (map g os)) (sym pushed),
      ap length pushed_line ∙ length_push ls l ∙ ap (λ n. n + 1) count ∙ sym (length_push xs x),
    )
  where
    number : k + 1 ≡ 1 + length xs
    number = omega (arith, before, count)

-- ---- a line that is no step

steps_before : {X : Type 0} (f : X → ℕ × List ℕ) (count : ℕ) (xs : List X)
    → map (λ l. step_in count l.1) (map f xs) ≡ map (λ x. step_in count (f x).1) xs
steps_before f count [] = refl
steps_before f count (x ∷ xs) =
    ap (λ (rest : List (Option Written)). step_in count (f x).1 ∷ rest) (steps_before f count xs)

somes : {X : Type 0} (f : X → Written) (xs : List X)
    → map Some (map f xs) ≡ map (λ x. Some (f x)) xs
somes f [] = refl
somes f (x ∷ xs) = ap (λ (rest : List (Option Written)). Some (f x) ∷ rest) (somes f xs)

-- steps of lines, in the words of definitions
pub are_steps : {X Y : Type 0} (f : X → ℕ × List ℕ) (g : Y → Written) (count : ℕ) (xs : List X)
    (ys : List Y) → map (λ x. step_in count (f x).1) xs ≡ map (λ y. Some (g y)) ys
    → map (λ l. step_in count l.1) (map f xs) ≡ map Some (map g ys)
are_steps f g count xs ys is = steps_before f count xs ∙ is ∙ sym (somes g ys)

split : {X : Type 0} (xs : List X) (i : ℕ) (d : X) → i < length xs
    → xs ≡ take i xs ++ get_or xs i d ∷ drop (i + 1) xs
split xs i d lt =
    let e : drop i xs ≡ get_or xs i d ∷ drop (i + 1) xs = rw (add-one, drop-cons xs i d) refl in
    sym (take-append-drop i xs) ∙ ap (λ rest. take i xs ++ rest) e

map_split : {X Y : Type 0} (f : X → Y) (xs : List X) (i : ℕ) (x : X) → i < length xs
    → x ≡ get_or xs i x → map f xs ≡ map f (take i xs) ++ f x ∷ map f (drop (i + 1) xs)
map_split f xs i x lt at =
    ap (map f) (split xs i x lt ∙ ap (λ y. take i xs ++ y ∷ drop (i + 1) xs) (sym at))
    ∙ map-append f (take i xs) (x ∷ drop (i + 1) xs)

pub first_other : {X Y : Type 0} (f : X → ℕ × List ℕ) (g : Y → Written) (count : ℕ) (xs : List X)
    (i : ℕ) (x : X) (ys : List Y) → i < length xs → x ≡ get_or xs i x
    → map (λ z. step_in count (f z).1) (take i xs) ≡ map (λ y. Some (g y)) ys
    → step_in count (f x).1 ≡ None → IsFirstOther count (map f xs) (f x).0
first_other f g count xs i x ys lt at so_far none = record {
  before = map f (take i xs);
  line = f x;
  after = map f (drop (i + 1) xs);
  are = map_split f xs i x lt at;
  steps = map g ys;
  spelled = are_steps f g count (take i xs) ys so_far;
  no_step = none;
  is = refl;
}

-- the text that is not loaded, after those that are
pub refuses_next : {X : Type 0} (f : X → Written) (files : Option Files) (xs : List X) (i : ℕ)
    (x : X) (ss : List Step) (refusal : Refusal) → i < length xs → x ≡ get_or xs i x
    → AreLoaded files (map f (take i xs)) ss → RefusesStep files (f x) refusal
    → RefusesStepTexts files (map f xs) refusal
refuses_next f files xs i x ss refusal lt at are is =
    inr (map f (take i xs), f x, map f (drop (i + 1) xs), map_split f xs i x lt at, (ss, are), is)
