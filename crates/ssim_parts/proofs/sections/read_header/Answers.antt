-- The block is a header, or the file is refused by it.
use Rattle.std.proofs.Common.{rules, ◌≡◌, ◌∙◌, ℕ, ◌+◌, Option, Some, None, Ok, Err, [], ◌∷◌, sym, ap}
use Rattle.std.proofs.Common.{subst, arith}
use Rattle.ssim_records.specs.clauses.Reading.{BlockAnswer, ReadsBlock, ending_of}
use Rattle.ssim_records.specs.clauses.Record.{HasSpelt}
use Rattle.ssim_records.specs.declared.record.Record.{Record}
use Rattle.ssim_base.proofs.BlocksAhead.{while-open}
use Rattle.ssim_base.specs.Base.{Done}
use Rattle.ssim_base.specs.declared.fault.BaseFault.TheVariants.{Refused}
use Rattle.ssim_base.specs.declared.fault.BaseRefusal.TheVariants.{NoHeader}
use Rattle.ssim_parts.specs.Sections.{Whole}
use Rattle.ssim_parts.specs.internal.SectionSteps.{RefusesHeader}
use Rattle.ssim_parts.proofs.Headings.{as-header, faulty-header, no-header, other-header}
use Rattle.ssim_parts.proofs.Headings.{unread-header}
use Rattle.ssim_parts.proofs.SectionsLeft.{end-back, goes-one, none-left, one-left}
use Rattle.ssim_parts.proofs.sections.read_header.Given as given
use Rattle.ssim_parts.proofs.sections.read_header.Goals.{After-next_block}
use Rattle.ssim_parts.proofs.sections.read_header.Goals as goal

returned : (g : given.Over) (c : After-next_block g) (a : BlockAnswer) → c.next_block.result ≡ a
    → ReadsBlock c.args.blocks.now (g.R.Source.state c.args.reader.now) c.next_block.new.self
    (g.R.Source.state c.next_block.new.reader) a
returned g c a is =
    subst (ReadsBlock c.args.blocks.now (g.R.Source.state c.args.reader.now)
    c.next_block.new.self (g.R.Source.state c.next_block.new.reader)) is
    (while-open _ c.requires.open c.next_block.ensures.reads)

pub returns-then-is_header-clause-ok : goal.returns-then-is_header-clause-ok
returns-then-is_header-clause-ok g c =
    let at = (goal.at.returns-then-is_header-clause-ok g c).After-next_block in
    let number = c.in-Ok-Some.first.0 in
    let block = c.in-Ok-Some.first.1 in
    let answer : c.next_block.result ≡ Ok (Some (number, block)) = search rules in
    let next = returned g at (Ok (Some (number, block))) answer in
    let spells = subst (λ (o : Option Record). HasSpelt o block) c.in-Some.is c.in-Ok.ensures.ok in
    let found = as-header c.in-Some.header block (sym c.is_header.ensures ∙ c.if-is_header.true) spells
    in
    record {
      block = block;
      header = found.0;
      is = found.1;
      spells = found.2;
      open' = c.next_block.ensures.ended ∙ ap ending_of answer;
      limit = c.next_block.ensures.limit;
      no_failure = next.failure;
      goes = goes-one c.frames_are_one.ensures.exist c.frames_are_one.ensures.one c.args.blocks.now
          c.next_block.new.self _ _
          number block c.next_block.ensures.limit next.next next.number.0;
    }

pub overflow_add-result : goal.overflow_add-result
overflow_add-result g c =
    let small = c.number.ensures.small in
    let limit = c.next_block.ensures.limit in
    let few = c.requires.limit in
    omega (arith, small, limit, few)

pub returns-else-is_header-clause-err : goal.returns-else-is_header-clause-err
returns-else-is_header-clause-err g c known known' knows =
    let at = (goal.at.returns-else-is_header-clause-err g c).After-next_block in
    let number = c.in-Ok-Some.first.0 in
    let block = c.in-Ok-Some.first.1 in
    let answer : c.next_block.result ≡ Ok (Some (number, block)) = search rules in
    let next = returned g at (Ok (Some (number, block))) answer in
    let spells = subst (λ (o : Option Record). HasSpelt o block) c.in-Some.is c.in-Ok.ensures.ok in
    let some = one-left c.frames_are_one.ensures.exist c.args.blocks.now c.next_block.new.self known
    known' (number, block)
    (goes-one c.frames_are_one.ensures.exist c.frames_are_one.ensures.one c.args.blocks.now
    c.next_block.new.self _ _
    number block c.next_block.ensures.limit next.next next.number.0 known known' knows) in (
      (number, block) ∷ some.0,
      some.1,
      some.2,
      other-header number block some.0 some.1 c.in-Some.header spells
          (sym c.is_header.ensures ∙ c.if-is_header.false),
    )

pub returns-in-Err-read_into-clause-err : goal.returns-in-Err-read_into-clause-err
returns-in-Err-read_into-clause-err g c known known' knows =
    let at = (goal.at.returns-in-Err-read_into-clause-err g c).After-next_block in
    let number = c.in-Ok-Some.first.0 in
    let block = c.in-Ok-Some.first.1 in
    let answer : c.next_block.result ≡ Ok (Some (number, block)) = search rules in
    let next = returned g at (Ok (Some (number, block))) answer in
    unread-header c.args.blocks.now known (g.R.Source.state c.args.reader.now)
    (g.R.Source.state c.next_block.new.reader) number block
    c.in-Err-read_into.fault c.in-Err-read_into.ensures.err
    (one-left c.frames_are_one.ensures.exist c.args.blocks.now c.next_block.new.self known known'
    (number, block)
    (goes-one c.frames_are_one.ensures.exist c.frames_are_one.ensures.one c.args.blocks.now
    c.next_block.new.self _ _
    number block c.next_block.ensures.limit next.next next.number.0 known known' knows))

pub returns-in-Ok-None-clause-err : goal.returns-in-Ok-None-clause-err
returns-in-Ok-None-clause-err g c known known' knows =
    let at = (goal.at.returns-in-Ok-None-clause-err g c).After-next_block in
    let new = c.next_block.new.self in
    let answer : c.next_block.result ≡ Ok None = search rules in
    let next = returned g at (Ok None) answer in
    let number : c.number.result + 1 ≡ new.number + 1 = ap (λ (n : ℕ). n + 1) c.number.ensures.value in
    subst
    (λ (n : ℕ). RefusesHeader c.args.blocks.now known (g.R.Source.state c.args.reader.now)
    (g.R.Source.state c.next_block.new.reader) (Refused n NoHeader)) (sym number) (
      [],
      Whole (Done (new.number + 1)),
      none-left c.args.blocks.now _ _ _
          (end-back c.frames_are_one.ensures.exist c.args.blocks.now new _ _ next.next) known known'
          knows,
      no-header (new.number + 1),
    )

pub returns-in-Err-clause-err : goal.returns-in-Err-clause-err
returns-in-Err-clause-err g c =
    let at = (goal.at.returns-in-Err-clause-err g c).After-next_block in
    let next = returned g at (Err c.in-Err.fault) (search rules) in
    faulty-header c.frames_are_one.ensures.exist c.args.blocks.now c.next_block.new.self _
    (g.R.Source.state c.args.reader.now) (g.R.Source.state c.next_block.new.reader) c.in-Err.fault
    next.stops next.next next.number next.failure
