-- The pending legs are put into the table.
use Rattle.std.proofs.Common.{◌≡◌, ◌⊎◌, Contains, Option, Some, Result, Ok, Err, OnOk, sym, ap, subst, ◌∙◌}
use Rattle.ssim_schedule.specs.internal.LegGroup.{IsBound, with_legs}
use Rattle.ssim_schedule.specs.internal.Table.{Table, table_cuts, table_days}
use Rattle.ssim_schedule.specs.internal.TableBuilder.{table_of}
use Rattle.ssim_schedule.specs.declared.builder.table_builder.TableBuilder.{TableBuilder}
use Rattle.ssim_schedule.specs.declared.builder.leg_group.Heading.{Heading}
use Rattle.ssim_schedule.proofs.builder.timetable_builder.TimetableBuilder.put_group.Goals as goal

always : {A E P : Type 0} (r : Result A E) → P → OnOk r P
always (Ok a) h = h
always (Err e) h = tt

pub returns : goal.returns
returns c =
    let old = c.args.self.now in
    let h : Heading = c.in-Some.heading in
    let heading : old.group.heading ≡ Some h = sym c.heading.ensures ∙ c.in-Some.is in
    let table : Table = table_of old.table in
    let legs = old.group.legs in
    always c.leave.result (record {
      days = λ g.
          ap (λ (t : TableBuilder). table_days (table_of t) g) c.leave.ensures.table
          ∙ c.in_ok-put.ensures.days g
          ∙ ap (λ (o : Option Heading). with_legs o legs g (table_days table g)) (sym heading);
      cuts = λ g cut has.
          subst (λ (o : Option Heading). Contains (table_cuts table g) cut ⊎ IsBound o g cut)
          (sym heading) (c.in_ok-put.ensures.cuts g cut
          (subst (λ (t : TableBuilder). Contains (table_cuts (table_of t) g) cut)
          c.leave.ensures.table has));
      group = c.leave.ensures.group ∙ c.clear-2.ensures;
      waiting = c.leave.ensures.waiting;
      wanted = c.leave.ensures.wanted;
    })
