-- From block to block, by the lemmas on what was read so far.
use Rattle.std.proofs.Common.{rules, ◌≡◌, ◌∙◌, ℕ, ◌+◌, List, Option, Some, None, Ok, Err, false, [], ◌∷◌, ◌++◌, refl, sym, ap, subst, arith}
use Rattle.ssim_records.specs.clauses.Blocks.{BytesCame, Fetches}
use Rattle.ssim_records.specs.clauses.Reading.{BlockAnswer, IsNoBlockFault, Reading}
use Rattle.ssim_records.specs.clauses.Reading.{ReadsBlock, ending_of}
use Rattle.ssim_records.specs.declared.fault.RecordFault.TheVariants.{Short}
use Rattle.ssim_records.proofs.Framing.{came_twice}
use Rattle.ssim_base.specs.Problems.{missing_in, fault_at}
use Rattle.ssim_base.specs.clauses.Reading.{Came}
use Rattle.ssim_base.specs.declared.fault.BaseFault.TheVariants.{Read}
use Rattle.ssim_base.proofs.ProblemLemmas.{ToldBlocks, none-so-far, one-so-far}
use Rattle.ssim_base.proofs.ProblemLemmas.{names-last, problems-cut, problems-end, told-block}
use Rattle.ssim_base.proofs.ProblemLemmas.{told-none}
use Rattle.ssim_base.proofs.ReadingLemmas.{ended-beyond, fault-fails}
use Rattle.ssim_base.proofs.BlocksAhead.{came-first, fetched-first, fetched-on, have-come}
use Rattle.ssim_base.proofs.BlocksAhead.{while-open}
use Rattle.ssim_base.proofs.problems.Problems.read.Given as given
use Rattle.ssim_base.proofs.problems.Problems.read.Goals.{After-next_block}
use Rattle.ssim_base.proofs.problems.Problems.read.Goals as goal

pub loop-next-init : goal.loop-next-init
loop-next-init g c =
    let fresh = c.new-blocks.ensures in
    let limit = c.args.limit in
    let before = g.R.Source.state c.args.reader.now in
    let left = before.left in
    let number : c.new-blocks.result.number ≡ 0 = ap (λ (r : Reading). r.number) fresh in
    let few = c.new-found.ensures.records_are in
    record {
      limit_is = ap (λ (r : Reading). r.limit) fresh;
      open' = ap (λ (r : Reading). r.ended) fresh;
      counted = omega (arith, number);
      few = omega (arith, number, few);
      blocks = [];
      so_far = none-so-far c.new-found.result c.new-found.ensures;
      told =
          subst (λ (r : Reading). ToldBlocks limit left left r []) (sym fresh)
          (told-none limit left c.frames_are_one.ensures.exist);
      fetched = fetched-first left fresh;
      came = came-first before fresh;
      no_failure = refl;
    }

-- ---- what a call for the next block says

-- of what it returned
returned : (g : given.Over) (c : After-next_block g) (a : BlockAnswer) → c.next_block.result ≡ a
    → ReadsBlock c.loop-next.blocks (g.R.Source.state c.loop-next.reader) c.next_block.new.self
    (g.R.Source.state c.next_block.new.reader) a
returned g c a is =
    subst (ReadsBlock c.loop-next.blocks (g.R.Source.state c.loop-next.reader)
    c.next_block.new.self (g.R.Source.state c.next_block.new.reader)) is
    (while-open _ c.loop-next.invariant.open' c.next_block.ensures.reads)

-- of all bytes that were fetched
fetched : (g : given.Over) (c : After-next_block g)
    → Fetches false 0 [] (g.R.Source.state c.args.reader.now).left c.next_block.new.self.number
    c.next_block.new.self.held (g.R.Source.state c.next_block.new.reader).left
fetched g c =
    fetched-on _ _ _ c.loop-next.blocks c.next_block.new.self c.loop-next.invariant.fetched
    (returned g c c.next_block.result refl).fetched

-- and of how many came
came-so-far : (g : given.Over) (c : After-next_block g)
    → BytesCame (g.R.Source.state c.args.reader.now) (g.R.Source.state c.next_block.new.reader) 0
    c.next_block.new.self.came
came-so-far g c =
    came_twice _ _ _ _ _ _ _ _ _ c.loop-next.invariant.came
    (returned g c c.next_block.result refl).came

-- ---- a block was read

pub loop-next-preserved : goal.loop-next-preserved
loop-next-preserved g c =
    let at = (goal.at.loop-next-preserved g c).After-next_block in
    let i = c.loop-next.invariant in
    let old = c.loop-next.blocks in
    let new = c.next_block.new.self in
    let number = c.in-Ok-Some.next.0 in
    let block = c.in-Ok-Some.next.1 in
    let answer : c.next_block.result ≡ Ok (Some (number, block)) = search rules in
    let next = returned g at (Ok (Some (number, block))) answer in
    let more = next.number.1 in
    let within = next.number.2 in
    let same = c.next_block.ensures.limit in
    let limit = i.limit_is in
    let records = c.take.ensures.records in
    let few = i.few in
    record {
      limit_is = same ∙ limit;
      open' = c.next_block.ensures.ended ∙ ap ending_of answer;
      counted = omega (arith, within, same, limit);
      few = omega (arith, records, few, more);
      blocks = i.blocks ++ (number, block) ∷ [];
      so_far =
          one-so-far c.loop-next.found c.take.new.self i.blocks number block i.so_far
          c.in_ok-take-in-Ok-Some.ensures.takes records c.take.ensures.trailer;
      told =
          told-block c.args.limit (g.R.Source.state c.args.reader.now).left
          (g.R.Source.state c.loop-next.reader).left
          (g.R.Source.state c.next_block.new.reader).left old new i.blocks number block i.told
          next.next next.number.0;
      fetched = fetched g at;
      came = came-so-far g at;
      no_failure = next.failure ∙ i.no_failure;
    }

-- ---- no block is left

pub returns-in-Ok-None-clause-ok : goal.returns-in-Ok-None-clause-ok
returns-in-Ok-None-clause-ok g c =
    let at = (goal.at.returns-in-Ok-None-clause-ok g c).After-next_block in
    let i = c.loop-next.invariant in
    let found = c.loop-next.found in
    let p = c.in_ok-problems-in-Ok-None.problems in
    let so = i.so_far in
    let next = returned g at (Ok None) (search rules) in
    let faults = c.in_ok-problems-in-Ok-None.ensures.faults so.standing so.checks_are in
    problems-end c.args.limit (g.R.Source.state c.args.reader.now).left
    (g.R.Source.state c.loop-next.reader).left (g.R.Source.state c.next_block.new.reader).left
    c.loop-next.blocks c.next_block.new.self i.blocks found p i.limit_is so i.told next.next
    c.in_ok-problems-in-Ok-None.ensures.records
    (subst (λ (n : ℕ). p.faults.items ≡ found.faults.items
    ++ fault_at (n + 1) (missing_in so.standing found.trailer)) c.number.ensures.value faults)

-- ---- the next block has a fault

pub returns-in-Err-Short-clause-ok : goal.returns-in-Err-Short-clause-ok
returns-in-Err-Short-clause-ok g c =
    let at = (goal.at.returns-in-Err-Short-clause-ok g c).After-next_block in
    let i = c.loop-next.invariant in
    let n = c.in-Err-Short.record in
    let found = c.loop-next.found in
    let done = c.in_ok-problems-in-Err-Short in
    let faults : done.problems.faults.items ≡ found.faults.items ++ Read (Short n) ∷ [] =
    rw c.in-Err-Short.field-0-is at done.ensures.faults in
    let next = returned g at (Err (Short n)) (search rules) in
    problems-cut c.args.limit (g.R.Source.state c.args.reader.now).left
    (g.R.Source.state c.loop-next.reader).left (g.R.Source.state c.next_block.new.reader).left
    c.loop-next.blocks c.next_block.new.self i.blocks found done.problems n i.limit_is i.so_far
    i.told next.next next.number done.ensures.records faults

pub returns-in-Err-clause-err : goal.returns-in-Err-clause-err
returns-in-Err-clause-err g c =
    let at = (goal.at.returns-in-Err-clause-err g c).After-next_block in
    let i = c.loop-next.invariant in
    let old = c.loop-next.blocks in
    let new = c.next_block.new.self in
    let before = g.R.Source.state c.args.reader.now in
    let mid = g.R.Source.state c.loop-next.reader in
    let after = g.R.Source.state c.next_block.new.reader in
    let next = returned g at (Err c.in-Err.fault) (search rules) in
    let stops : IsNoBlockFault c.in-Err.fault = next.stops in
    let came = have-come before after new.came (came-so-far g at) in
    record {
      is_of_device = search rules;
      failure =
          fault-fails (Option (ℕ × List ℕ)) before.failures mid.failures after.failures c.in-Err.fault i.no_failure
          next.failure;
      names =
          names-last c.args.limit before.left mid.left after.left old new i.blocks c.in-Err.fault
          (fetched g at) next.held i.told next.next next.number;
      never_ends =
          ended-beyond (Option (ℕ × List ℕ)) c.args.limit (Came before after) new c.in-Err.fault
          (c.next_block.ensures.limit ∙ i.limit_is) came next.held;
    }
