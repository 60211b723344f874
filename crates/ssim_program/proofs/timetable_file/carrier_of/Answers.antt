-- The second record of the base is the carrier record of its frame.
use Rattle.std.proofs.Common.{◌∙◌, ◌∷◌, ◌++◌, [], ap, sym}
use Rattle.ssim_records.specs.declared.record.Record.TheVariants.{Carrier, Header, Trailer}
use Rattle.ssim_base.specs.Export.{Frame}
use Rattle.ssim_program.proofs.timetable_file.carrier_of.Goals as goal

pub returns : goal.returns
returns c =
    let frame = c.frame.result.now in
    let has = c.frame.ensures.frame in
    let later = has.0 ++ Trailer frame.trailer ∷ [] in (
      frame.header,
      later,
      sym c.data_set.ensures ∙ has.1
          ∙ ap (λ (f : Frame). Header frame.header ∷ Carrier f.carrier ∷ later)
          (sym c.records.ensures.value),
    )
