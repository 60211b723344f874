-- The header and the block after it were read, or the file is refused by them.
use Rattle.std.proofs.Common.{rules, ◌≡◌, ℕ, List, Option, Err, subst}
use Rattle.ssim_records.specs.clauses.Reading.{Reading}
use Rattle.ssim_parts.specs.clauses.Sections.{Knows}
use Rattle.ssim_parts.specs.internal.SectionSteps.{ReadsHeader, RefusesHeader}
use Rattle.ssim_parts.proofs.NextSections.{both-read, carrier-refuses, header-refuses}
use Rattle.ssim_parts.proofs.sections.SectionReader.new.Goals as goal

pub returns-in_err-number-clause-err : goal.returns-in_err-number-clause-err
returns-in_err-number-clause-err g c known known' knows =
    let why = c.in_err-number.field-0.0 in
    let x = g.R.Source.state c.args.reader.now in
    let y = g.R.Source.state c.read_header.new.reader in
    let is : c.from_residual.result ≡ Err why = search rules in
    let refuses : (k k' : Option (List ℕ)) → Knows x.left y.left k k' → RefusesHeader
    c.new-blocks.result k x y why = c.in_err-number.ensures.err in
    rw is (header-refuses c.args.limit known x y why
    (subst (λ (r : Reading). RefusesHeader r known x y why) c.new-blocks.ensures
    (refuses known known' knows)))

pub returns-in_err-next-clause-err : goal.returns-in_err-next-clause-err
returns-in_err-next-clause-err g c known known' knows =
    let why = c.in_err-next.field-0.0 in
    let x = g.R.Source.state c.args.reader.now in
    let m = g.R.Source.state c.read_header.new.reader in
    let y = g.R.Source.state c.read_carrier.new.reader in
    let is : c.from_residual-in_err-next.result ≡ Err why = search rules in
    let header : ReadsHeader c.new-blocks.result x c.read_header.new.blocks m
    (c.in_ok-number.number, c.in_ok-number.header) = c.in_ok-number.ensures.ok in
    rw is
    (carrier-refuses c.args.limit x m y c.read_header.new.blocks
    (c.in_ok-number.number, c.in_ok-number.header)
    (subst
    (λ (r : Reading). ReadsHeader r x c.read_header.new.blocks m
    (c.in_ok-number.number, c.in_ok-number.header)) c.new-blocks.ensures header)
    known known' knows why c.in_err-next.ensures.err)

pub returns-clause-ok : goal.returns-clause-ok
returns-clause-ok g c known known' knows =
    let x = g.R.Source.state c.args.reader.now in
    let m = g.R.Source.state c.read_header.new.reader in
    let y = g.R.Source.state c.read_carrier.new.reader in
    let header : ReadsHeader c.new-blocks.result x c.read_header.new.blocks m
    (c.in_ok-number.number, c.in_ok-number.header) = c.in_ok-number.ensures.ok in
    both-read c.args.limit x m y c.read_header.new.blocks
    (c.in_ok-number.number, c.in_ok-number.header)
    (subst
    (λ (r : Reading). ReadsHeader r x c.read_header.new.blocks m
    (c.in_ok-number.number, c.in_ok-number.header)) c.new-blocks.ensures header)
    known known' knows c.read_carrier.new.blocks c.in_ok-next.next c.serial.result
    c.in_ok-next.ensures.ok c.serial.ensures.value
