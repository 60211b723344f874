-- The list was empty, so each day had the empty value.
use Rattle.std.proofs.Common.{◌≡◌, List, [], ◌∷◌, Option, IfSome, length, refl, ap, subst, sym, ◌∙◌, arith}
use Rattle.std.specs.declared.alloc.Global.{Global}
use Rattle.std.specs.declared.vec.Vec.{Vec}
use Rattle.std.specs.List.{Contains}
use Rattle.ssim_values.specs.Period.{DayRange}
use Rattle.ssim_periods.specs.clauses.Days.{changed_by_each, ends_of}
use Rattle.ssim_periods.specs.Days.{each_day}
use Rattle.ssim_periods.specs.internal.Apart.{value_in, AreApart, AreCutsOf, AreOutcomes}
use Rattle.ssim_periods.proofs.ApartLemmas.{index-week}
use Rattle.ssim_periods.proofs.DayLemmas.{each_day-same}
use Rattle.ssim_periods.proofs.apart_periods.ApartPeriods.begin.Goals as goal

no_entries : {X : Type 0} (xs : List X) → length xs ≡ 0 → xs ≡ []
no_entries [] e = refl
no_entries (x ∷ xs) e = absurd (omega arith)

pub outcomes_of-requires : goal.outcomes_of-requires
outcomes_of-requires g c = index-week g.V.Value.nothing c.index-self-0.result c.self.inside.empty 0 c.self.invariant.0 (omega arith)

pub invariant_of-self : goal.invariant_of-self
invariant_of-self g c =
    let nothing = g.V.Value.nothing in let changes = c.args.changes.now in let entries = c.in-Some.entries.items in
    let made : AreOutcomes nothing g.C.Change.outcome changes entries =
    subst (λ (o : Option (Vec (DayRange × g.row.V.Denot) Global)). IfSome o (λ es. AreOutcomes nothing g.C.Change.outcome changes es.items)) c.in-Some.is c.in_ok-entries.ensures in
    let cuts : AreCutsOf entries c.in_ok-cuts.cuts.items = subst (λ es. AreCutsOf es c.in_ok-cuts.cuts.items) c.deref.ensures.value c.in_ok-cuts.ensures in (
      c.self.invariant.0,
      subst (λ cs. AreApart nothing entries cs) (sym c.of.ensures) (record { once = made.once; given = made.given; divided = cuts.divided; rising = cuts.rising; in_calendar = cuts.in_calendar }),
    )

pub returns-clause-days : goal.returns-clause-days
returns-clause-days g c = λ _.
    let nothing = g.V.Value.nothing in let changes = c.args.changes.now in let entries = c.in-Some.entries.items in let old = c.self.inside.entries in
    let made : AreOutcomes nothing g.C.Change.outcome changes entries =
    subst (λ (o : Option (Vec (DayRange × g.row.V.Denot) Global)). IfSome o (λ es. AreOutcomes nothing g.C.Change.outcome changes es.items)) c.in-Some.is c.in_ok-entries.ensures in
    let none : old.items ≡ [] = no_entries old.items (let ok = old.ok in let empty = c.if-not-is_empty.false in let is = c.is_empty.ensures in grind arith) in
    made.days ∙ ap (changed_by_each g.C.Change.outcome changes)
    (each_day-same (λ _. nothing) (value_in nothing []) (λ n l. refl) ∙ sym (ap (λ es. each_day (value_in nothing es)) none) ∙ ap (λ s. s.days) c.self.view_is)

pub returns-clause-cuts : goal.returns-clause-cuts
returns-clause-cuts g c = λ _ cut has.
    let nothing = g.V.Value.nothing in let changes = c.args.changes.now in let entries = c.in-Some.entries.items in
    let made : AreOutcomes nothing g.C.Change.outcome changes entries =
    subst (λ (o : Option (Vec (DayRange × g.row.V.Denot) Global)). IfSome o (λ es. AreOutcomes nothing g.C.Change.outcome changes es.items)) c.in-Some.is c.in_ok-entries.ensures in
    let cuts : AreCutsOf entries c.in_ok-cuts.cuts.items = subst (λ es. AreCutsOf es c.in_ok-cuts.cuts.items) c.deref.ensures.value c.in_ok-cuts.ensures in
    cuts.only (ends_of changes) made.ends cut (subst (λ cs. Contains cs cut) c.of.ensures has)
