-- Desks that agree have one export, so the exports of all desks are equal.
use Rattle.std.proofs.Common.{◌≡◌, ◌∙◌, inl, inr, ℕ, suc, ◌+◌, ◌-◌, ◌<◌, ◌&&◌, Bool, true, false, if◌then◌else◌, List, [], ◌∷◌, ◌++◌, All, length, map, Option, Some, None, Result, Ok, Err, refl, sym, ap, subst, arith, append_assoc, append-nil}
use Rattle.std.proofs.lemmas.Bool.Decides.{nat_tests}
use Rattle.std.proofs.lemmas.List.Concat.{flat_map-append}
use Rattle.std.proofs.lemmas.List.Elements.{All-from_recursion, recursion_from_All}
use Rattle.std.specs.List.{AllByRecursion, flat_map, slice_index_or}
use Rattle.std.specs.Prelude.{nat_le, nat_lt}
use Rattle.ssim_base.specs.Export as exported
use Rattle.ssim_base.specs.Export.{ExportRefusal}
use Rattle.ssim_schedule.specs.declared.export.ExportFault.TheVariants as export
use Rattle.ssim_text.specs.Bytes.{◌>>=◌, after_word, word}
use Rattle.ssim_text.specs.Grammar.{OneMessage}
use Rattle.ssim_held.specs.Entries.{state_of}
use Rattle.ssim_held.specs.Held.{DeskState, IsDesk, no_desk}
use Rattle.ssim_desk.proofs.Moments.{at_end}
use Rattle.ssim_desk.proofs.OneRun.{desks_agree, is_desk}
use Rattle.ssim_desk.specs.Agreement.{AnyTwoDesksAgree, AreAgreed, BeganAlike}
use Rattle.ssim_desk.specs.Meaning.{Exports}
use Rattle.ssim_desk.specs.Steps.{IsInRange, desk_at}
use Rattle.ssim_desk.specs.declared.steps.Step.{Step}
use Rattle.ssim_program.proofs.Scripted.{loaded_in_range}
use Rattle.ssim_program.specs.Files.{Files}
use Rattle.ssim_program.specs.rehearse.Rehearsal.{AreEqualTo, AreExports, AreLoaded, AreSame, HasSteps, IsOutcome, IsVerdict, Outcome, desk_line, desk_lines, fresh, printed_line, step_lines}
use Rattle.ssim_program.specs.rehearse.Script.{AreSteps, Merges, Takes, Written, desk_in, merge_in, name_in, step_in, take_in}
use Rattle.ssim_program.specs.internal.Rehearse.{IsStepOf}
use Rattle.ssim_program.specs.rehearse.Verdict.{EndsWithSame, IsWithoutMemory}
use Rattle.ssim_program.specs.declared.rehearse.line.RehearsalLine.{RehearsalLine}
use Rattle.ssim_program.specs.declared.rehearse.line.RehearsalLine.TheVariants as printed

-- ---- the exports of desks that agree

-- memory did not run out for the export
abbrev HadMemory : Outcome → Type 0
HadMemory outcome = outcome ≡ Err export.Memory → ⊥

-- an export result as the program keeps it
abbrev kept_as : Result (List ℕ) ExportRefusal → Outcome
kept_as (Ok bytes) = Ok bytes
kept_as (Err (exported.Variations flight)) = Err (export.Variations flight)
kept_as (Err exported.Records) = Err export.Records

has_answer : (desk : DeskState) (outcome : Outcome) → IsOutcome desk outcome → HadMemory outcome
    → (answer : Result (List ℕ) ExportRefusal) × Exports desk answer × (outcome ≡ kept_as answer)
has_answer desk (Ok bytes) is had = (Ok bytes, is, refl)
has_answer desk (Err (export.Variations flight)) is had =
    (Err (exported.Variations flight), is, refl)
has_answer desk (Err export.Records) is had = (Err exported.Records, is, refl)
has_answer desk (Err export.WriteFault) is had = absurd is
has_answer desk (Err export.Memory) is had = absurd (had refl)

one_outcome : (v w : DeskState) (o p : Outcome) → AreAgreed v w → IsOutcome v o → IsOutcome w p
    → HadMemory o → HadMemory p → p ≡ o
one_outcome v w o p agreed is are had have =
    let mine = has_answer v o is had in
    let theirs = has_answer w p are have in
    theirs.2 ∙ ap kept_as (agreed.no_other_answer theirs.0 (inr theirs.1)
    ∙ sym (agreed.no_other_answer mine.0 (inl mine.1))) ∙ sym mine.2

equal_to : (v : DeskState) (o : Outcome) → IsOutcome v o → HadMemory o
    → (ws : List DeskState) (os : List Outcome)
    → ((k : ℕ) → k < length ws → AreAgreed v (slice_index_or ws k no_desk))
    → AreExports ws os → AllByRecursion HadMemory os → AreEqualTo o os
equal_to v o is had [] [] agree are have = tt
equal_to v o is had [] (p ∷ os) agree are have = absurd are
equal_to v o is had (w ∷ ws) [] agree are have = absurd are
equal_to v o is had (w ∷ ws) (p ∷ os) agree are have = (
  one_outcome v w o p (agree 0 (omega arith)) is are.0 had have.0,
  equal_to v o is had ws os
      (λ k lt. agree (suc k) (omega (arith, lt))) are.1 have.1,
)

all_same : (desks : List DeskState) (os : List Outcome)
    → ((d e : ℕ) → d < length desks → e < length desks
    → AreAgreed (desk_at desks d) (desk_at desks e))
    → AreExports desks os → AllByRecursion HadMemory os → AreSame os
all_same [] [] agree are have = tt
all_same [] (o ∷ os) agree are have = absurd are
all_same (v ∷ vs) [] agree are have = absurd are
all_same (v ∷ vs) (o ∷ os) agree are have =
    equal_to v o are.0 have.0 vs os (λ k lt. agree 0 (suc k) (omega arith) (omega (arith, lt)))
    are.1 have.1

-- ---- the lines of the desks

all_left : {X : Type 0} (P : X → Type 0) (xs ys : List X) → AllByRecursion P (xs ++ ys)
    → AllByRecursion P xs
all_left P [] ys all = tt
all_left P (x ∷ xs) ys all = (all.0, all_left P xs ys all.1)

all_right : {X : Type 0} (P : X → Type 0) (xs ys : List X) → AllByRecursion P (xs ++ ys)
    → AllByRecursion P ys
all_right P [] ys all = all
all_right P (x ∷ xs) ys all = all_right P xs ys all.1

-- no line says that memory ran out, so it did not
had_memory : (n : ℕ) (desks : List DeskState) (os : List Outcome) → AreExports desks os
    → AllByRecursion (λ l. IsWithoutMemory l → ⊥) (desk_lines n desks os)
    → AllByRecursion HadMemory os
had_memory n [] [] are all = tt
had_memory n [] (o ∷ os) are all = absurd are
had_memory n (desk ∷ desks) [] are all = absurd are
had_memory n (desk ∷ desks) (o ∷ os) are all = (
  λ e. all.0 (subst (λ x. IsWithoutMemory (desk_line n desk x)) (sym e) tt),
  had_memory (n + 1)
      desks os are.1 all.1,
)

-- ---- the desks that a script names

in_bounds : (digit count d : ℕ) (b : Bool) → (nat_le 49 digit && nat_lt digit (49 + count)) ≡ b
    → (if b then Some (digit - 49) else None) ≡ Some d → d < count
in_bounds digit count d false test is = absurd cc
in_bounds digit count d true test is =
    let same : digit - 49 ≡ d = cc in
    let low : digit - 49 < count = grind (arith, nat_tests) in
    subst (λ n. n < count) same low

desk_below : (count : ℕ) (text : List ℕ) (d : ℕ) → desk_in count text ≡ Some d → d < count
desk_below count [] d is = absurd cc
desk_below count (digit ∷ []) d is = in_bounds digit count d _ refl is
desk_below count (digit ∷ other ∷ rest) d is = absurd cc

takes_below : (count : ℕ) (desk : Option ℕ) (name : Option (List ℕ)) (w : Written)
    → ((d : ℕ) → desk ≡ Some d → d < count)
    → (desk >>= λ d. name >>= λ n. Some (Takes d n)) ≡ Some w → IsStepOf count w
takes_below count None name w below is = absurd cc
takes_below count (Some d) None w below is = absurd cc
takes_below count (Some d) (Some n) w below is =
    let same : Takes d n ≡ w = cc in subst (IsStepOf count) same (below d refl)

merges_below : (count : ℕ) (into from : Option ℕ) (w : Written)
    → ((d : ℕ) → into ≡ Some d → d < count) → ((d : ℕ) → from ≡ Some d → d < count)
    → (into >>= λ i. from >>= λ f. Some (Merges i f)) ≡ Some w → IsStepOf count w
merges_below count None from w below less is = absurd cc
merges_below count (Some i) None w below less is = absurd cc
merges_below count (Some i) (Some f) w below less is =
    let same : Merges i f ≡ w = cc in subst (IsStepOf count) same (below i refl, less f refl)

step_below : (count : ℕ) (text : List ℕ) (w : Written) (t m : Bool)
    → (if t then take_in count (after_word text)
    else (if m then merge_in count (after_word text) else None)) ≡ Some w → IsStepOf count w
step_below count text w true m is =
    takes_below count (desk_in count (word (after_word text)))
    (name_in (after_word (after_word text))) w
    (λ d e. desk_below count (word (after_word text)) d e) is
step_below count text w false true is =
    merges_below count (desk_in count (word (after_word text)))
    (desk_in count (after_word (after_word text))) w
    (λ d e. desk_below count (word (after_word text)) d e)
    (λ d e. desk_below count (after_word (after_word text)) d e) is
step_below count text w false false is = absurd cc

steps_below : (count : ℕ) (lines : List (ℕ × List ℕ)) (ws : List Written) → AreSteps count lines ws
    → AllByRecursion (IsStepOf count) ws
steps_below count lines [] are = tt
steps_below count [] (w ∷ ws) are = absurd cc
steps_below count (l ∷ lines) (w ∷ ws) are =
    let first : step_in count l.1 ≡ Some w = cc in
    let rest : AreSteps count lines ws = cc in
    (step_below count l.1 w _ _ first, steps_below count lines ws rest)

map_self : {X : Type 0} (xs : List X) → map (λ x. x) xs ≡ xs
map_self [] = refl
map_self (x ∷ xs) = ap (λ ys. x ∷ ys) (map_self xs)

in_range : (files : Option Files) (name : List ℕ) (count : ℕ) (steps : List Step)
    → HasSteps files name count steps → All (IsInRange count) steps
in_range files name count steps has =
    let spelled = has.reads.2 in
    let below = All-from_recursion (IsStepOf has.script.count) has.script.steps
    (steps_below has.script.count spelled.others has.script.steps spelled.steps) in
    subst (λ n. All (IsInRange n) steps) has.desks
    (loaded_in_range (λ w. w) files has.script.count has.script.steps steps
    (subst (λ ws. AreLoaded files ws steps) (sym (map_self has.script.steps)) has.loaded) below)

-- ---- the last line

last_is_same : (outcomes : List Outcome) (last : RehearsalLine) → AreSame outcomes
    → IsVerdict outcomes last → last ≡ printed.Same
last_is_same outcomes last same (inl v) = v.1
last_is_same outcomes last same (inr v) = absurd (v.0 same)

pub ends_with_same : OneMessage → AnyTwoDesksAgree → EndsWithSame
ends_with_same one agree files dataset stations script bytes r reached had =
    let run = r.rehearsed in
    let ends = run.ends in
    let front = step_lines r.steps run.answers ++ desk_lines 1 run.after ends.outcomes in
    let are : r.lines ≡ front ++ printed.Same ∷ [] =
    run.all ∙ ap (λ ls. step_lines r.steps run.answers ++ ls)
    (ends.all ∙ ap (λ l. desk_lines 1 run.after ends.outcomes ++ l ∷ [])
    (last_is_same ends.outcomes ends.last same ends.verdict))
    ∙ sym (append_assoc (step_lines r.steps run.answers) (desk_lines 1 run.after ends.outcomes) (printed.Same ∷ []))
    in (
      flat_map printed_line front,
      r.printed ∙ ap (flat_map printed_line) are
          ∙ flat_map-append printed_line front (printed.Same ∷ [])
          ∙ ap (λ ls. flat_map printed_line front ++ ls) (append-nil (printed_line printed.Same)),
    )
  where
    within : All (IsInRange (length r.rehearsed.start)) r.steps
    within =
        subst (λ n. All (IsInRange n) r.steps) (sym r.rehearsed.number)
        (in_range files script r.count r.steps r.has_steps)

    new : IsDesk (state_of (fresh r.base))
    new =
        is_desk (fresh r.base) r.records
        (record { rising = refl; each = λ k d lt. absurd (omega (arith, lt)) })

    desks : All IsDesk r.rehearsed.start
    desks k d lt = subst IsDesk (sym (r.rehearsed.each k d lt)) new

    size : length r.rehearsed.after ≡ length r.rehearsed.start
    size =
        let far = at_end one r.rehearsed.start r.rehearsed.after r.steps r.rehearsed.answers within
        r.rehearsed.runs in far.count

    alike : (d e : ℕ) → d < length r.rehearsed.start → e < length r.rehearsed.start
        → BeganAlike (desk_at r.rehearsed.start d) (desk_at r.rehearsed.start e)
    alike d e here there =
        inr (r.rehearsed.each d no_desk here ∙ sym (r.rehearsed.each e no_desk there))

    agreed : (d e : ℕ) → d < length r.rehearsed.after → e < length r.rehearsed.after
        → AreAgreed (desk_at r.rehearsed.after d) (desk_at r.rehearsed.after e)
    agreed d e lt less =
        let here : d < length r.rehearsed.start = subst (λ n. d < n) size lt in
        let there : e < length r.rehearsed.start = subst (λ n. e < n) size less in
        desks_agree agree r.rehearsed.start r.rehearsed.after r.steps r.rehearsed.answers desks
        within r.rehearsed.runs d e here there (alike d e here there)
        (λ reference message. (
          reached d e reference message here there,
          reached e d reference
              message there here,
        ))

    memory : AllByRecursion HadMemory r.rehearsed.ends.outcomes
    memory =
        let run = r.rehearsed in
        let every = subst (AllByRecursion (λ l. IsWithoutMemory l → ⊥)) run.all
        (recursion_from_All (λ l. IsWithoutMemory l → ⊥) r.lines had) in
        let late = subst (AllByRecursion (λ l. IsWithoutMemory l → ⊥)) run.ends.all
        (all_right (λ l. IsWithoutMemory l → ⊥) (step_lines r.steps run.answers) run.end_lines every) in
        had_memory 1 run.after run.ends.outcomes run.ends.exports
        (all_left (λ l. IsWithoutMemory l → ⊥) (desk_lines 1 run.after run.ends.outcomes)
        (run.ends.last ∷ []) late)

    same : AreSame r.rehearsed.ends.outcomes
    same =
        all_same r.rehearsed.after r.rehearsed.ends.outcomes agreed r.rehearsed.ends.exports memory
