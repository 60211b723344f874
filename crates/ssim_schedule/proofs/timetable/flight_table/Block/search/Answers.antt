-- The closure gives the rank of an entry's flight, and the slice is the block's entries.
use Rattle.std.proofs.Common.{rules, sym, subst}
use Rattle.std.proofs.lemmas.List.Sorted.{answers_always}
use Rattle.ssim_base.specs.ReadBack.{place_of}
use Rattle.ssim_schedule.specs.internal.Table.{AreRising, Table}
use Rattle.ssim_schedule.specs.declared.timetable.flight_table.FlightPeriods.{FlightPeriods}
use Rattle.ssim_schedule.proofs.TableLemmas.{searched}
use Rattle.ssim_schedule.proofs.timetable.flight_table.Block.search.Goals as goal

pub returns : goal.returns
returns c =
    let facts = c.binary_search_by_key.ensures in
    let by_key = facts.position (λ (f : FlightPeriods). place_of f.flight) (answers_always _ _ _ (λ f a r g called. search rules)) in
    let rising = subst (λ (t : Table). AreRising t) (sym c.self.view_is) c.requires in
    rw (← c.self.view_is, ← c.deref.ensures.value) (searched _ (rw c.deref.ensures.value rising) c.args.flight _ facts.bound (rw c.place.ensures.value at by_key))
