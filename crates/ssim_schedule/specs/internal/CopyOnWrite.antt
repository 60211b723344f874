-- What a shared value is once the reference that was lent into it has ended.
use Rattle.std.specs.Prelude.{Option, Result}
use Rattle.std.specs.Borrow.{Fml, LendsIf, LendsIfOk, MutBor, RattleType}
use Rattle.ssim_schedule.specs.contracts.timetable.copy_on_write.CopyOnWrite.{the_row}

module _ (T : RattleType) (s : MutBor T.Denot) where
  -- the value is the one that was written last through r; at `None` it is unchanged
  abbrev pub lends_unshared : Option (MutBor T.Denot) → Fml
  lends_unshared r = LendsIf (the_row T) T s r (λ w. w) s.now

  -- the value is the one that was written last through r; at an error it is unchanged
  abbrev pub lends_own : {E : Type 0} → Result (MutBor T.Denot) E → Fml
  lends_own r = LendsIfOk (the_row T) T s r (λ w. w) s.now
