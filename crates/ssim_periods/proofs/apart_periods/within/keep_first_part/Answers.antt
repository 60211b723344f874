-- The entry keeps its value and gets the first part, or it goes.
use Rattle.ssim_periods.proofs.PartsLemmas.{kept-none, kept-some}
use Rattle.ssim_periods.proofs.apart_periods.within.keep_first_part.Goals as goal

pub returns-in-Some-clause-items : goal.returns-in-Some-clause-items
returns-in-Some-clause-items g c before after entry is at =
    kept-some c.args.period.now c.args.entries.now.items before after entry c.index.result.now c.index_mut.result.now c.args.place c.first_part.result c.in-Some.part is at c.index.ensures c.index_mut.ensures.value c.first_part.ensures c.in-Some.is

pub returns-in-None-clause-items : goal.returns-in-None-clause-items
returns-in-None-clause-items g c before after entry is at =
    kept-none c.args.period.now c.args.entries.now.items c.remove.new.self.items before after entry c.index.result.now c.args.place c.first_part.result is at c.index.ensures c.first_part.ensures c.in-None.is c.remove.ensures.by_index.2
