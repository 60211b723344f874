-- What `say` tries makes the new itinerary: the columns of its legs have the lines of the actions,
-- which do it.
use Rattle.std.proofs.Common.{◌≡◌, ◌⊎◌, ◌++◌, ◌∙◌, ℕ, List, [], ◌∷◌, map, length, refl, sym, ap, subst}
use Rattle.std.proofs.Common.{inl, inr, append_assoc, Option, IfSome, take, drop}
use Rattle.std.proofs.Common.{take-append-drop}
use Rattle.std.specs.List.{AllZip}
use Rattle.ssim_text.specs.Grammar.{IsEquipment}
use Rattle.ssim_text.specs.Values.{EquipmentValue}
use Rattle.ssim_text.specs.declared.action.Action.{Action}
use Rattle.ssim_text.specs.declared.action.Action.TheVariants.{Eqt, Tim}
use Rattle.ssim_text.specs.declared.leg.LegLine.{LegLine}
use Rattle.ssim_base.specs.Stations.{Row}
use Rattle.ssim_base.specs.Timetable.{LegValue, Legs}
use Rattle.ssim_schedule.specs.Acts.{after_on}
use Rattle.ssim_schedule.specs.Effect.{equipped, retime, with_lines}
use Rattle.ssim_schedule.specs.MessageColumns.{equipment_of, times_of, with_equipment}
use Rattle.ssim_outbox.specs.Reach.{after_all}
use Rattle.ssim_outbox.specs.Sayable.{ArePartsOf, HaveColumns, equipped_by}
use Rattle.ssim_outbox.specs.internal.Candidates.{AddsTimes, AreTimes, Makes}
use Rattle.ssim_outbox.specs.internal.ColumnLines.{FirstHas, HasEquipment, HasLine, retimed_columns}
use Rattle.ssim_outbox.specs.declared.candidates.Candidate.TheVariants as candidate
use Rattle.ssim_outbox.proofs.Closed.{by_long}
use Rattle.ssim_outbox.proofs.ColumnLines.{equipped_has, timed_keeps}
use Rattle.ssim_outbox.proofs.Columns.{length_equipment}
use Rattle.ssim_outbox.proofs.OldLegs.{lines_after, lines_long}
use Rattle.ssim_outbox.proofs.Retimed.{Changed, Chosen, Fit, IsRetimed, choose, fit_have, fit_split}
use Rattle.ssim_outbox.proofs.Retimed.{parts_times, with_lines_changed}

-- ---- TIM of up to twenty leg lines each

pub add_times : (lines : List LegLine) (before first after : List Action)
    → first ≡ before ++ Tim (take 20 lines) ∷ [] → AddsTimes (drop 20 lines) first after
    → AddsTimes lines before after
add_times lines before first after h r = record {
  more = Tim (take 20 lines) ∷ r.more;
  added = r.added ∙ ap (λ (x : List Action). x ++ r.more) h
      ∙ append_assoc before (Tim (take 20 lines) ∷ []) r.more;
  times = (take 20 lines, drop 20 lines, sym (take-append-drop 20 lines), refl, r.times);
}

retime_all : (lines : List LegLine) (legs : Legs) → HaveColumns legs → Fit lines legs
    → (retime lines legs).0 ≡ with_lines lines legs
retime_all lines [] long fit = sym (none lines)
  where
    none : (lines : List LegLine) → with_lines lines [] ≡ []
    none [] = refl
    none (line ∷ lines) = none lines
retime_all lines (leg ∷ legs) long fit = rw (fit_have lines (leg ∷ legs) long fit) refl

after_times : (rows : List Row) (day : ℕ) (lines : List LegLine) (more : List Action) (legs : Legs)
    → HaveColumns legs → Fit lines legs → AreTimes lines more
    → after_all rows day more legs ≡ with_lines lines legs
after_times rows day lines [] legs long fit h =
    sym (ap (λ (ls : List LegLine). with_lines ls legs) h)
after_times rows day lines (action ∷ more) legs long fit h =
    let first = h.0 in
    let later = h.1 in
    let cut = h.2 in
    let parts = fit_split first later legs (subst (λ (ls : List LegLine). Fit ls legs) cut fit) in
    ap (λ (a : Action). after_all rows day more (after_on rows a day legs)) h.3
    ∙ ap (after_all rows day more) (retime_all first legs long parts.0)
    ∙ after_times rows day later more (with_lines first legs) (lines_long first legs long) parts.1
    h.4
    ∙ sym (lines_after first later legs)
    ∙ sym (ap (λ (ls : List LegLine). with_lines ls legs) cut)

pub after_both : (rows : List Row) (day : ℕ) (first later : List Action) (legs : Legs)
    → after_all rows day (first ++ later) legs
    ≡ after_all rows day later (after_all rows day first legs)
after_both rows day [] later legs = refl
after_both rows day (action ∷ first) later legs =
    after_both rows day first later (after_on rows action day legs)

after_added : (rows : List Row) (day : ℕ) (before after : List Action) (lines : List LegLine)
    (old legs : Legs) → HaveColumns legs → Fit lines legs → after_all rows day before old ≡ legs
    → AddsTimes lines before after → after_all rows day after old ≡ with_lines lines legs
after_added rows day before after lines old legs long fit made adds =
    ap (λ (actions : List Action). after_all rows day actions old) adds.added
    ∙ after_both rows day before adds.more old
    ∙ ap (after_all rows day adds.more) made
    ∙ after_times rows day lines adds.more legs long fit adds.times

-- ---- the old itinerary with other equipment and times

pub parts_changed : (old new : Legs) (p : ArePartsOf old new) → HaveColumns old
    → Changed [] (equipped_by p.equipment old) new
parts_changed old new p h =
    let legs = equipped_by p.equipment old in
    subst (Changed [] legs) (sym p.made)
    (with_lines_changed p.lines legs p.are_lines (by_long p.equipment old h))

chosen_lines : (old new : Legs) (p : ArePartsOf old new) → HaveColumns old
    → Chosen [] (equipped_by p.equipment old) new (retimed_columns old new)
chosen_lines old new p h =
    choose [] [] old (equipped_by p.equipment old) new (by_long p.equipment old h)
    (parts_times p.equipment old h) (λ line. refl) (parts_changed old new p h)

-- the leg lines of the legs with other times, and that TIM with them after other actions make the
-- new itinerary
pub record MakesTimes (rows : List Row) (day : ℕ) (before : List Action) (old new : Legs) : Type 0 where
  pub lines : List LegLine
  pub have : AllZip HasLine lines (retimed_columns old new)
  pub make : (after : List Action) → AddsTimes lines before after → after_all rows day after old ≡ new

make_times : (rows : List Row) (day : ℕ) (before : List Action) (old new : Legs)
    (p : ArePartsOf old new) → HaveColumns old
    → after_all rows day before old ≡ equipped_by p.equipment old
    → MakesTimes rows day before old new
make_times rows day before old new p h begun =
    let k = chosen_lines old new p h in
    record {
      lines = k.lines;
      have = k.have;
      make = λ after adds. after_added rows day before after k.lines old
          (equipped_by p.equipment old) (by_long p.equipment old h) k.fit begun adds ∙ k.made;
    }

pub times_make : (rows : List Row) (day : ℕ) (old new : Legs) → HaveColumns old
    → Makes rows day candidate.Times old new → MakesTimes rows day [] old new
times_make rows day old new h m =
    make_times rows day [] old new m.0 h
    (ap (λ (e : Option EquipmentValue). equipped_by e old) (sym m.1))

-- the first leg has the equipment of EQT, after which TIM make the new itinerary
pub record MakesBoth (rows : List Row) (day : ℕ) (old new : Legs) : Type 0 where
  pub equipment : EquipmentValue
  pub is_equipment : IsEquipment equipment
  pub has : FirstHas equipment new
  pub times : MakesTimes rows day (Eqt equipment ∷ []) old new

-- a leg that was equipped, and perhaps retimed, has the equipment
equipped_leg : (e : EquipmentValue) (before : Legs) (old new : LegValue) → IsEquipment e
    → length old.columns ≡ 158 → (new ≡ equipped e old) ⊎ IsRetimed before (equipped e old) new → HasEquipment e new.columns
equipped_leg e before old new is len (inl same) =
    subst (λ (l : LegValue). HasEquipment e l.columns) (sym same) (equipped_has e old.columns is len)
equipped_leg e before old new is len (inr r) =
    subst (λ (l : LegValue). HasEquipment e l.columns) (sym r.made)
    (timed_keeps e (times_of r.line) (with_equipment e old.columns)
    (length_equipment (equipment_of e) old.columns len) (equipped_has e old.columns is len))

both_of : (rows : List Row) (day : ℕ) (e : EquipmentValue) (leg : LegValue) (legs new : Legs)
    → HaveColumns (leg ∷ legs) → IsEquipment e → Changed [] (map (equipped e) (leg ∷ legs)) new
    → MakesTimes rows day (Eqt e ∷ []) (leg ∷ legs) new → MakesBoth rows day (leg ∷ legs) new
both_of rows day e leg legs [] h is changed times = absurd changed
both_of rows day e leg legs (first ∷ news) h is changed times = record {
  equipment = e;
  is_equipment = is;
  has = equipped_leg e [] leg first is h.0 changed.0;
  times = times;
}

pub both_make : (rows : List Row) (day : ℕ) (old new : Legs) → HaveColumns old
    → Makes rows day candidate.EquipmentAndTimes old new → MakesBoth rows day old new
both_make rows day [] new h m = absurd m
both_make rows day (leg ∷ legs) new h m =
    let p = m.0 in
    let e = m.1 in
    let old = leg ∷ legs in
    let by : equipped_by p.equipment old ≡ map (equipped e) old =
    ap (λ (o : Option EquipmentValue). equipped_by o old) m.2 in
    both_of rows day e leg legs new h
    (subst (λ (o : Option EquipmentValue). IfSome o IsEquipment) m.2 p.is_equipment)
    (subst (λ (ls : Legs). Changed [] ls new) by (parts_changed old new p h))
    (make_times rows day (Eqt e ∷ []) old new p h (sym by))
