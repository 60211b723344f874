-- The two forms in which the values of days are kept.
use Rattle.ssim_periods.specs.clauses.Days.{Seen}
use Rattle.ssim_periods.specs.declared.periods.Form.{Form}
use Rattle.ssim_periods.specs.declared.periods.Form.TheVariants.{Apart, Rows}

-- what contracts see of a `Periods`, in whichever form it is kept
abbrev pub seen : {V : Type 0} → Form V → Seen V
seen (Apart periods) = periods
seen (Rows rows) = rows
