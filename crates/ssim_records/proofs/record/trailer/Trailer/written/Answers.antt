-- The joined parts are the written spelling, which spells the record.
use Rattle.std.proofs.Common.{◌≡◌, rules}
use Rattle.ssim_records.specs.Trailer.{written_trailer}
use Rattle.ssim_records.proofs.Trailers.{spells_trailer}
use Rattle.ssim_records.proofs.record.trailer.Trailer.written.Goals as goal

pub returns-clause-spells : goal.returns-clause-spells
returns-clause-spells c =
    let e : c.join.new.out ≡ written_trailer c.args.self.now = search rules in
    rw (e, ← c.self.view_is) (spells_trailer _ c.self.invariant)
