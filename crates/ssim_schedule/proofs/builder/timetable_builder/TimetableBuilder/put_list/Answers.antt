-- A part at the end of what is left is built before what was built.
use Rattle.std.proofs.Common.{◌≡◌, ◌++◌, ◌∙◌, List, [], ◌∷◌, length, take, drop, refl, sym, ap, ap₂, subst, append_assoc, arith}
use Rattle.std.proofs.lemmas.Grind.{common_steps}
use Rattle.ssim_records.specs.declared.record.Record.{Record}
use Rattle.ssim_schedule.specs.internal.TimetableBuilder.{IsBuilt}
use Rattle.ssim_schedule.proofs.builder.timetable_builder.TimetableBuilder.put_list.Goals as goal

-- the records of a list in two parts, with those after it
parts : (records later : List Record) (p : _) → take p records ++ (drop p records ++ later) ≡ records ++ later
parts records later p = let whole : take p records ++ drop p records ≡ records = simp common_steps in sym (append_assoc (take p records) (drop p records) later) ∙ ap (λ (rs : List Record). rs ++ later) whole

none_left : (records : List Record) → length records ≡ 0 → records ≡ []
none_left [] e = refl
none_left (r ∷ records) e = absurd (omega (arith, e))

pub loop-left-preserved : goal.loop-left-preserved
loop-left-preserved c =
    let items = c.loop-left.left.items in
    let later = c.loop-left.invariant.0 in
    let p = c.saturating_sub-place.result in
    let last = c.split_at.result.1.now in
    let back : last ≡ drop p items = c.split_at.ensures.back ∙ ap (λ (rs : List Record). drop p rs) c.deref.ensures.value in
    let front : c.shrink_to_fit.new.self.items ≡ take p items = c.shrink_to_fit.ensures.items ∙ c.truncate.ensures.items in (
      last ++ later,
      ap₂ (λ (xs ys : List Record). xs ++ (ys ++ later)) front back ∙ parts items later p ∙ c.loop-left.invariant.1,
      λ wanted done built. subst (λ (rs : List Record). IsBuilt wanted c.put_all.new.self rs) (sym (append_assoc last later done))
          (c.in_ok-put_all.ensures wanted (later ++ done) (c.loop-left.invariant.2 wanted done built)),
    )

pub returns : goal.returns
returns c = λ wanted done built.
    let items = c.loop-left.left.items in
    let later = c.loop-left.invariant.0 in
    let none : length c.loop-left.left.items ≡ 0 = grind (arith, common_steps) in
    let all : later ≡ c.args.records.items = ap (λ (rs : List Record). rs ++ later) (sym (none_left items none)) ∙ c.loop-left.invariant.1 in
    subst (λ (rs : List Record). IsBuilt wanted c.loop-left.self (rs ++ done)) all (c.loop-left.invariant.2 wanted done built)
