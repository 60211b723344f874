-- Each act of what was made is done, or fails.
use Rattle.std.proofs.Common.{◌≡◌, ◌∷◌, [], Err, List, ℕ, Ok, Option, Result, inl, inr, refl, rules, subst, sym}
use Rattle.ssim_program.specs.Acts.{Act, Keep, Print, found_then}
use Rattle.ssim_program.specs.Files.{Files}
use Rattle.ssim_program.specs.World.{Does, Performs, World, world}
use Rattle.ssim_program.specs.internal.Print.{Prints}
use Rattle.ssim_program.specs.internal.Program.{bytes_of, keeps, says_found, will}
use Rattle.ssim_program.specs.print.Paper.{Paper}
use Rattle.ssim_program.specs.declared.made.Made.{Made}
use Rattle.ssim_program.specs.declared.refusal.Refusal.{Refusal}
use Rattle.ssim_program.proofs.Acting.{acted_print, last, said_first}
use Rattle.ssim_program.proofs.finish.finish.Goals as goal

-- what was made is that
over : {H : Type 0} (file : H → List ℕ) (files : Option Files) (m other : Made H) (w v : World) (r : Result (Unit {0}) Refusal) → m ≡ other → Does (will file files other) w v r → Does (will file files m) w v r
over {H = H} file files m other w v r is does = subst (λ (x : Made H). Does (will file files x) w v r) (sym is) does

-- what was made is that, whose acts come after the one that says that something was found, if it is to
-- be said
over_said : {H : Type 0} (file : H → List ℕ) (files : Option Files) (m other : Made H) (w v : World) (r : Result (Unit {0}) Refusal) (acts : List Act) → m ≡ other
    → ((these : List Act) → these ≡ found_then (says_found other) acts → will file files other (Ok these)) → Performs acts w v r → Does (will file files m) w v r
over_said {H = H} file files m other w v r acts is fits performs =
    subst (λ (x : Made H). Does (will file files x) w v r) (sym is)
    (found_then (says_found other) acts, inl (fits (found_then (says_found other) acts) refl), said_first (says_found other) acts w v r performs)

-- bytes are printed last
printed : (files old : Option Files) (n m : ℕ) (p q : Paper) (bytes others : List ℕ) (r : Result (Unit {0}) Refusal) → files ≡ old → n ≡ m → others ≡ bytes → Prints others p q r
    → Performs (Print bytes ∷ []) (world old m p) (world files n q) r
printed files old n m p q bytes others r same counted is h =
    last (Print bytes) (world old m p) (world files n q) r (acted_print files old n m p q bytes r same counted (subst (λ (bs : List ℕ). Prints bs p q r) is h))

pub returns-in-Lines-clause-does : goal.returns-in-Lines-clause-does
returns-in-Lines-clause-does g c =
    let lines = c.in-Lines.lines.items in
    over _ _ _ _ _ _ _ c.in-Lines.is (Print lines ∷ [], inl refl, printed _ _ _ _ c.args.out.now c.print_all.new.out lines c.deref.result.now c.print_all.result refl refl c.deref.ensures.value c.print_all.ensures)

pub returns-in_err-keep_content-in-Kept-clause-does : goal.returns-in_err-keep_content-in-Kept-clause-does
returns-in_err-keep_content-in-Kept-clause-does g c =
    let why = c.in_err-keep_content-in-Kept.field-0.0 in let kept = c.in-Kept.kept in let lines = c.in-Kept.lines.items in
    let is : c.from_residual.result ≡ Err why = search rules in
    rw is (over _ _ _ _ _ _ _ c.in-Kept.is (Keep (g.S.Hold.Hold.file kept.place) (bytes_of kept.contents) ∷ Print lines ∷ [], inl refl, inr (why, c.in_err-keep_content-in-Kept.ensures c.args.out.now, refl)))

pub returns-in_ok-keep_content-in-Kept-clause-does : goal.returns-in_ok-keep_content-in-Kept-clause-does
returns-in_ok-keep_content-in-Kept-clause-does g c =
    let kept = c.in-Kept.kept in let lines = c.in-Kept.lines.items in
    let between = world (g.S.Store.files c.keep_content.new.store) (g.S.Store.failures c.keep_content.new.store) c.args.out.now in
    over _ _ _ _ _ _ _ c.in-Kept.is (
      Keep (g.S.Hold.Hold.file kept.place) (bytes_of kept.contents) ∷ Print lines ∷ [],
      inl refl,
      inl (
        between,
        c.in_ok-keep_content-in-Kept.ensures c.args.out.now,
        printed _ _ _ _ c.args.out.now c.print_all-in-Kept.new.out lines c.deref-in-Kept.result.now c.print_all-in-Kept.result refl refl c.deref-in-Kept.ensures.value c.print_all-in-Kept.ensures,
      ),
    )

pub returns-in_err-print_all-in-Printed-clause-does : goal.returns-in_err-print_all-in-Printed-clause-does
returns-in_err-print_all-in-Printed-clause-does g c =
    let why = c.in_err-print_all-in-Printed.field-0.0 in let lines = c.in-Printed.lines.items in
    let is : c.from_residual-in_err-print_all-in-Printed.result ≡ Err why = search rules in
    let acts = Print lines ∷ keeps g.S.Hold.Hold.file c.in-Printed.refused c.in-Printed.kept in
    rw is (over_said _ _ _ _ _ _ _ acts c.in-Printed.is (λ these e. e) (inr (
      why,
      acted_print _ _ _ _ c.args.out.now c.print_all-in-Printed.new.out lines (Err why) refl refl
          (subst (λ (bs : List ℕ). Prints bs c.args.out.now c.print_all-in-Printed.new.out (Err why)) c.deref-in-Printed.ensures.value c.in_err-print_all-in-Printed.ensures),
      refl,
    )))

pub returns-in_ok-print_all-in-Printed-clause-does : goal.returns-in_ok-print_all-in-Printed-clause-does
returns-in_ok-print_all-in-Printed-clause-does g c =
    let lines = c.in-Printed.lines.items in
    let between = world (g.S.Store.files c.args.store.now) (g.S.Store.failures c.args.store.now) c.print_all-in-Printed.new.out in
    let acts = Print lines ∷ keeps g.S.Hold.Hold.file c.in-Printed.refused c.in-Printed.kept in
    over_said _ _ _ _ _ _ _ acts c.in-Printed.is (λ these e. e) (inl (
      between,
      acted_print _ _ _ _ c.args.out.now c.print_all-in-Printed.new.out lines (Ok tt) refl refl
          (subst (λ (bs : List ℕ). Prints bs c.args.out.now c.print_all-in-Printed.new.out (Ok tt)) c.deref-in-Printed.ensures.value c.in_ok-print_all-in-Printed.ensures),
      c.keep_files.ensures c.print_all-in-Printed.new.out,
    ))

pub returns-in-DataSet-clause-does : goal.returns-in-DataSet-clause-does
returns-in-DataSet-clause-does g c = over _ _ _ _ _ _ _ c.in-DataSet.is (c.export_set.ensures.printed (g.S.Store.files c.args.store.now) (g.S.Store.failures c.args.store.now))

pub returns-in-Part-clause-does : goal.returns-in-Part-clause-does
returns-in-Part-clause-does g c =
    over _ _ _ _ _ _ _ c.in-Part.is (c.export_part.ensures.printed
    (g.S.Store.files c.args.store.now) (g.S.Store.failures c.args.store.now))

pub returns-in-Desk-clause-does : goal.returns-in-Desk-clause-does
returns-in-Desk-clause-does g c = over _ _ _ _ _ _ _ c.in-Desk.is (c.export_desk.ensures.printed (g.S.Store.files c.args.store.now) (g.S.Store.failures c.args.store.now))

pub returns-in-Sections-clause-does : goal.returns-in-Sections-clause-does
returns-in-Sections-clause-does g c = over _ _ _ _ _ _ _ c.in-Sections.is c.split_file.ensures

pub returns-in-Reported-clause-does : goal.returns-in-Reported-clause-does
returns-in-Reported-clause-does g c =
    let lines = c.in-Reported.lines.items in
    over_said _ _ _ _ _ _ _ (Print lines ∷ []) c.in-Reported.is (λ these e. e)
    (printed _ _ _ _ c.args.out.now c.print_all-in-Reported.new.out lines c.deref-in-Reported.result.now
    c.print_all-in-Reported.result refl refl c.deref-in-Reported.ensures.value c.print_all-in-Reported.ensures)
