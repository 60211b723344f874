-- From block to block, by what each call says of those that are left.
use Rattle.std.proofs.Common.{append_assoc, false, rules, ◌≡◌, ◌∙◌, ℕ, ◌+◌, List, Some, None, Ok, Err}
use Rattle.std.proofs.Common.{[], ◌∷◌, ◌++◌, refl, sym, ap, subst, arith}
use Rattle.std.proofs.lemmas.List.{append-nil}
use Rattle.ssim_records.specs.clauses.Reading.{BlockAnswer, ReadsBlock, ending_of}
use Rattle.ssim_base.proofs.BlocksAhead.{while-open}
use Rattle.ssim_records.specs.declared.fault.RecordFault.TheVariants.{Short}
use Rattle.ssim_base.specs.Base.{Broken, Done}
use Rattle.ssim_base.specs.clauses.Reading.{is_of_bytes}
use Rattle.ssim_base.specs.declared.fault.BaseFault.TheVariants.{Read}
use Rattle.ssim_parts.specs.Sections.{Block, Whole}
use Rattle.ssim_parts.specs.clauses.Sections.{HasLeft}
use Rattle.ssim_parts.specs.internal.SectionBlocks.{HasRead}
use Rattle.ssim_parts.proofs.SectionsLeft.{begin-more, begin-none, carrier-false, carrier-true}
use Rattle.ssim_parts.proofs.SectionsLeft.{end-back, goes-end, goes-first, goes-next}
use Rattle.ssim_parts.proofs.SectionsLeft.{refuses-own, short-back}
use Rattle.ssim_parts.proofs.sections.read_own.Given as given
use Rattle.ssim_parts.proofs.sections.read_own.Goals.{After-next_block}
use Rattle.ssim_parts.proofs.sections.read_own.Goals as goal

pub loop-next-init : goal.loop-next-init
loop-next-init g c = record {
  open' = c.requires.open;
  limit_is = refl;
  few = c.requires.few;
  rises = omega arith;
  own = [];
  none = begin-none;
  read = λ b blocks h. subst (λ (bs : List Block). HasRead b bs c.args.section.now)
      (sym (append-nil blocks)) h;
  goes = λ known known' knows. goes-first c.args.blocks.now _ known known' knows;
  no_failure = refl;
}

-- ---- what a call for the next block says

returned : (g : given.Over) (c : After-next_block g) (a : BlockAnswer) → c.next_block.result ≡ a
    → ReadsBlock c.loop-next.blocks (g.R.Source.state c.loop-next.reader) c.next_block.new.self
    (g.R.Source.state c.next_block.new.reader) a
returned g c a is =
    subst (ReadsBlock c.loop-next.blocks (g.R.Source.state c.loop-next.reader)
    c.next_block.new.self (g.R.Source.state c.next_block.new.reader)) is
    (while-open _ c.loop-next.invariant.open' c.next_block.ensures.reads)

pub loop-next-preserved : goal.loop-next-preserved
loop-next-preserved g c =
    let at = (goal.at.loop-next-preserved g c).After-next_block in
    let i = c.loop-next.invariant in
    let old = c.loop-next.blocks in
    let new = c.next_block.new.self in
    let number = c.in-Ok-Some.next.0 in
    let block = c.in-Ok-Some.next.1 in
    let answer : c.next_block.result ≡ Ok (Some (number, block)) = search rules in
    let next = returned g at (Ok (Some (number, block))) answer in
    let more = next.number.1 in
    let records = c.in_ok-take-in-Ok-Some.ensures.records in
    let few = i.few in
    let rises = i.rises in
    record {
      open' = c.next_block.ensures.ended ∙ ap ending_of answer;
      limit_is = c.next_block.ensures.limit ∙ i.limit_is;
      few = omega (arith, records, few, more);
      rises = omega (arith, rises, more);
      own = i.own ++ (number, block) ∷ [];
      none = begin-more i.own (number, block) i.none
          (carrier-false (number, block) c.if-block-eq50.false);
      read = λ b blocks h.
          subst (λ (bs : List Block). HasRead b bs c.take.new.self)
          (append_assoc blocks i.own ((number, block) ∷ []))
          (c.in_ok-take-in-Ok-Some.ensures.read b (blocks ++ i.own) (i.read b blocks h));
      goes =
          goes-next c.frames_are_one.ensures.exist c.frames_are_one.ensures.one c.args.blocks.now old
          new _ _ _ i.own
          number block i.goes c.next_block.ensures.limit next.next next.number.0;
      no_failure = next.failure ∙ i.no_failure;
    }

pub returns-then-block-eq50-clause-ok : goal.returns-then-block-eq50-clause-ok
returns-then-block-eq50-clause-ok g c =
    let at = (goal.at.returns-then-block-eq50-clause-ok g c).After-next_block in
    let i = c.loop-next.invariant in
    let old = c.loop-next.blocks in
    let new = c.next_block.new.self in
    let number = c.in-Ok-Some.next.0 in
    let block = c.in-Ok-Some.next.1 in
    let answer : c.next_block.result ≡ Ok (Some (number, block)) = search rules in
    let next = returned g at (Ok (Some (number, block))) answer in
    let more = next.number.1 in
    let limit = c.next_block.ensures.limit in
    let limit-is = i.limit_is in
    let small = c.requires.limit in
    let rises = i.rises in
    record {
      own = i.own;
      none = i.none;
      read = i.read;
      follows = λ known known' knows. (
        (
          carrier-true (number, block) c.if-block-eq50.true,
          c.next_block.ensures.ended ∙ ap ending_of
              answer,
          omega (arith, more),
          omega (arith, limit, limit-is, small),
        ),
        goes-next c.frames_are_one.ensures.exist c.frames_are_one.ensures.one c.args.blocks.now old new
            _ _ _ i.own
            number block i.goes c.next_block.ensures.limit next.next next.number.0 known known' knows,
      );
      later = (limit ∙ limit-is, omega (arith, rises, more), next.number.2);
    }

pub overflow_add-result : goal.overflow_add-result
overflow_add-result g c =
    let small = c.number.ensures.small in
    let limit = c.next_block.ensures.limit in
    let limit-is = c.loop-next.invariant.limit_is in
    let few = c.requires.limit in
    omega (arith, small, limit, limit-is, few)

pub returns-in-Ok-None-clause-ok : goal.returns-in-Ok-None-clause-ok
returns-in-Ok-None-clause-ok g c =
    let at = (goal.at.returns-in-Ok-None-clause-ok g c).After-next_block in
    let i = c.loop-next.invariant in
    let new = c.next_block.new.self in
    let answer : c.next_block.result ≡ Ok None = search rules in
    let next = returned g at (Ok None) answer in
    let number : c.number.result + 1 ≡ new.number + 1 = ap (λ (n : ℕ). n + 1) c.number.ensures.value in
    let ended : new.ended ≡ ending_of {A = ℕ × List ℕ} (Ok None) = c.next_block.ensures.ended ∙ ap
    ending_of answer in
    record {
      own = i.own;
      none = i.none;
      read = i.read;
      follows = λ known known' knows. (
        rw (ended, number) refl,
        subst (λ (n : ℕ). HasLeft c.args.blocks.now known i.own (Whole (Done n))) (sym number)
            (goes-end c.args.blocks.now c.loop-next.blocks _ _ _ i.own (Whole (Done (new.number + 1)))
            i.goes
            (end-back c.frames_are_one.ensures.exist c.loop-next.blocks new _ _ next.next) known known'
            knows),
      );
      later = tt;
    }

pub returns-in-Err-Short-clause-ok : goal.returns-in-Err-Short-clause-ok
returns-in-Err-Short-clause-ok g c =
    let at = (goal.at.returns-in-Err-Short-clause-ok g c).After-next_block in
    let i = c.loop-next.invariant in
    let new = c.next_block.new.self in
    let n = c.in-Err-Short.record in
    let answer : c.next_block.result ≡ Err (Short n) = search rules in
    let next = returned g at (Err (Short n)) answer in
    let ended : new.ended ≡ ending_of {A = ℕ × List ℕ} (Err (Short n)) = c.next_block.ensures.ended ∙
    ap ending_of answer in
    record {
      own = i.own;
      none = i.none;
      read = i.read;
      follows = λ known known' knows. (
        rw ended refl,
        goes-end c.args.blocks.now c.loop-next.blocks _ _ _ i.own (Whole (Broken (Short n))) i.goes
            (short-back c.frames_are_one.ensures.exist c.loop-next.blocks new _ _ n next.next
            next.number) known known' knows,
      );
      later = tt;
    }

pub returns-in-Err : goal.returns-in-Err
returns-in-Err g c =
    let at = (goal.at.returns-in-Err g c).After-next_block in
    let i = c.loop-next.invariant in
    let next = returned g at (Err c.in-Err.fault) (search rules) in
    let of-device : is_of_bytes (Read c.in-Err.fault) ≡ false = search rules in
    record {
      ok = tt;
      err =
          refuses-own c.frames_are_one.ensures.exist c.args.blocks.now c.loop-next.blocks
          c.next_block.new.self _ _
          (g.R.Source.state c.args.reader.now) (g.R.Source.state c.loop-next.reader)
          (g.R.Source.state c.next_block.new.reader) i.own
          c.in-Err.fault of-device next.stops i.goes i.none next.next i.no_failure next.failure;
    }
