-- The joined parts are the written spelling, which spells the record.
use Rattle.std.proofs.Common.{◌≡◌, rules}
use Rattle.ssim_records.specs.Header.{written_header}
use Rattle.ssim_records.proofs.Headers.{spells_header}
use Rattle.ssim_records.proofs.record.header.Header.written.Goals as goal

pub returns-clause-spells : goal.returns-clause-spells
returns-clause-spells c =
    let e : c.join.new.out ≡ written_header c.args.self.now = search rules in
    rw (e, ← c.self.view_is) (spells_header _ c.self.invariant)
