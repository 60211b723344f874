-- The file of the desk is held first.
use Rattle.std.proofs.Common.{◌≡◌, Err, List, None, Option, Some, inl, map, option_map, rules}
use Rattle.ssim_command_line.specs.Line.{Text}
use Rattle.ssim_program.specs.Files.{Files}
use Rattle.ssim_program.specs.Places.{place_in}
use Rattle.ssim_program.specs.Receiving.{places_in}
use Rattle.ssim_program.specs.declared.content_kind.ContentKind.TheVariants as kind
use Rattle.ssim_program.specs.declared.refusal.Refusal.{Refusal}
use Rattle.ssim_program.proofs.command.receive.hold_places.Goals as goal

not_held : (files : Option Files) (refused : Option Text) (file out : Text) (names : List Text) (why : Refusal) → place_in files out kind.DeskFile (Err why) → places_in files refused file out names (Err why)
not_held files None file out names why not_so = not_so
not_held files (Some refused) file out names why not_so = inl not_so

pub returns-in_err-desk-clause-refused : goal.returns-in_err-desk-clause-refused
returns-in_err-desk-clause-refused g c =
    let why = c.in_err-desk.field-0.0 in
    let is : c.from_residual.result ≡ Err why = search rules in
    rw is (not_held (g.S.Store.files c.args.store.now) (option_map (λ t. t.now) c.args.refused) c.args.file.now c.args.out.now (map (λ t. t.now) c.args.names.now) why c.in_err-desk.ensures.refused)
