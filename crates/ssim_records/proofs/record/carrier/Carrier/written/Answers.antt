-- The joined parts are the written spelling, which spells the record.
use Rattle.std.proofs.Common.{◌≡◌, rules}
use Rattle.ssim_records.specs.Carrier.{written_carrier}
use Rattle.ssim_records.proofs.Carriers.{spells_carrier}
use Rattle.ssim_records.proofs.record.carrier.Carrier.written.Goals as goal

pub returns-clause-spells : goal.returns-clause-spells
returns-clause-spells c =
    let e : c.join.new.out ≡ written_carrier c.args.self.now = search rules in
    rw (e, ← c.self.view_is) (spells_carrier _ c.self.invariant)
