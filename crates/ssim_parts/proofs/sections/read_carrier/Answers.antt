-- The block begins a section, or the file is refused by its first two blocks.
use Rattle.std.proofs.Common.{rules, ◌≡◌, ◌∙◌, ℕ, ◌+◌, Some, None, Ok, Err, [], ◌∷◌, sym, ap, subst}
use Rattle.std.proofs.Common.{arith}
use Rattle.ssim_records.specs.clauses.Reading.{BlockAnswer, ReadsBlock, ending_of}
use Rattle.ssim_base.proofs.BlocksAhead.{while-open}
use Rattle.ssim_base.specs.Base.{Done}
use Rattle.ssim_base.specs.declared.fault.BaseFault.TheVariants.{Refused}
use Rattle.ssim_base.specs.declared.fault.BaseRefusal.TheVariants.{NoCarrier}
use Rattle.ssim_parts.specs.Sections.{Whole}
use Rattle.ssim_parts.specs.internal.SectionSteps.{RefusesCarrier}
use Rattle.ssim_parts.proofs.Headings.{faulty-carrier, no-carrier, other-carrier, spelt-one}
use Rattle.ssim_parts.proofs.Headings.{unread-carrier}
use Rattle.ssim_parts.proofs.SectionsLeft.{carrier-false, carrier-true, end-back, goes-one, none-left}
use Rattle.ssim_parts.proofs.SectionsLeft.{one-left}
use Rattle.ssim_parts.proofs.sections.read_carrier.Given as given
use Rattle.ssim_parts.proofs.sections.read_carrier.Goals.{After-next_block}
use Rattle.ssim_parts.proofs.sections.read_carrier.Goals as goal

returned : (g : given.Over) (c : After-next_block g) (a : BlockAnswer) → c.next_block.result ≡ a
    → ReadsBlock c.args.blocks.now (g.R.Source.state c.args.reader.now) c.next_block.new.self
    (g.R.Source.state c.next_block.new.reader) a
returned g c a is =
    subst (ReadsBlock c.args.blocks.now (g.R.Source.state c.args.reader.now)
    c.next_block.new.self (g.R.Source.state c.next_block.new.reader)) is
    (while-open _ c.requires.open c.next_block.ensures.reads)

pub returns-then-block-eq50-clause-ok : goal.returns-then-block-eq50-clause-ok
returns-then-block-eq50-clause-ok g c =
    let at = (goal.at.returns-then-block-eq50-clause-ok g c).After-next_block in
    let number = c.in-Ok-Some.next.0 in
    let block = c.in-Ok-Some.next.1 in
    let answer : c.next_block.result ≡ Ok (Some (number, block)) = search rules in
    let next = returned g at (Ok (Some (number, block))) answer in
    let more = next.number.1 in
    let limit = c.next_block.ensures.limit in
    let small = c.requires.limit in
    record {
      open' = (
        carrier-true (number, block) c.if-block-eq50.true,
        c.next_block.ensures.ended ∙ ap ending_of
            answer,
        omega (arith, more),
        omega (arith, limit, small),
      );
      goes = goes-one c.frames_are_one.ensures.exist c.frames_are_one.ensures.one c.args.blocks.now
          c.next_block.new.self _ _
          number block limit next.next next.number.0;
    }

pub overflow_add-result : goal.overflow_add-result
overflow_add-result g c =
    let small = c.number.ensures.small in
    let limit = c.next_block.ensures.limit in
    let few = c.requires.limit in
    omega (arith, small, limit, few)

pub returns-in-Ok-clause-err : goal.returns-in-Ok-clause-err
returns-in-Ok-clause-err g c known known' knows =
    let at = (goal.at.returns-in-Ok-clause-err g c).After-next_block in
    let number = c.in-Ok-Some.next.0 in
    let block = c.in-Ok-Some.next.1 in
    let answer : c.next_block.result ≡ Ok (Some (number, block)) = search rules in
    let next = returned g at (Ok (Some (number, block))) answer in
    let one = spelt-one c.read_into.new.into block c.in-Ok.ensures.ok in
    let some = one-left c.frames_are_one.ensures.exist c.args.blocks.now c.next_block.new.self known
    known' (number, block)
    (goes-one c.frames_are_one.ensures.exist c.frames_are_one.ensures.one c.args.blocks.now
    c.next_block.new.self _ _
    number block c.next_block.ensures.limit next.next next.number.0 known known' knows) in (
      (number, block) ∷ some.0,
      some.1,
      some.2,
      other-carrier number block some.0 some.1 one.0 one.2
          (carrier-false (number, block) c.if-block-eq50.false),
    )

pub returns-in-Err-read_into-clause-err : goal.returns-in-Err-read_into-clause-err
returns-in-Err-read_into-clause-err g c known known' knows =
    let at = (goal.at.returns-in-Err-read_into-clause-err g c).After-next_block in
    let number = c.in-Ok-Some.next.0 in
    let block = c.in-Ok-Some.next.1 in
    let answer : c.next_block.result ≡ Ok (Some (number, block)) = search rules in
    let next = returned g at (Ok (Some (number, block))) answer in
    unread-carrier c.args.blocks.now known (g.R.Source.state c.args.reader.now)
    (g.R.Source.state c.next_block.new.reader) number block c.in-Err-read_into.fault
    c.in-Err-read_into.ensures.err
    (carrier-false (number, block) c.if-block-eq50.false)
    (one-left c.frames_are_one.ensures.exist c.args.blocks.now c.next_block.new.self known known'
    (number, block)
    (goes-one c.frames_are_one.ensures.exist c.frames_are_one.ensures.one c.args.blocks.now
    c.next_block.new.self _ _
    number block c.next_block.ensures.limit next.next next.number.0 known known' knows))

pub returns-in-Ok-None-clause-err : goal.returns-in-Ok-None-clause-err
returns-in-Ok-None-clause-err g c known known' knows =
    let at = (goal.at.returns-in-Ok-None-clause-err g c).After-next_block in
    let new = c.next_block.new.self in
    let answer : c.next_block.result ≡ Ok None = search rules in
    let next = returned g at (Ok None) answer in
    let number : c.number.result + 1 ≡ new.number + 1 = ap (λ (n : ℕ). n + 1) c.number.ensures.value in
    subst
    (λ (n : ℕ). RefusesCarrier c.args.blocks.now known (g.R.Source.state c.args.reader.now)
    (g.R.Source.state c.next_block.new.reader) (Refused n NoCarrier)) (sym number) (
      [],
      Whole (Done (new.number + 1)),
      none-left c.args.blocks.now _ _ _
          (end-back c.frames_are_one.ensures.exist c.args.blocks.now new _ _ next.next) known known'
          knows,
      no-carrier (new.number + 1),
    )

pub returns-in-Err-clause-err : goal.returns-in-Err-clause-err
returns-in-Err-clause-err g c =
    let at = (goal.at.returns-in-Err-clause-err g c).After-next_block in
    let next = returned g at (Err c.in-Err.fault) (search rules) in
    faulty-carrier c.frames_are_one.ensures.exist c.args.blocks.now c.next_block.new.self _
    (g.R.Source.state c.args.reader.now) (g.R.Source.state c.next_block.new.reader) c.in-Err.fault
    next.stops next.next next.number next.failure
