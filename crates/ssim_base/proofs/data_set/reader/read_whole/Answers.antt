-- After a fault of the bytes those that are left are counted too. A fault of these names the record
-- after the invalid one.
use Rattle.std.proofs.Common.{◌≤◌, ℕ, ap, sym, subst, ◌∙◌}
use Rattle.ssim_records.specs.clauses.Reading.{Reading}
use Rattle.ssim_base.specs.clauses.Reading.{Came, NeverEnds}
use Rattle.ssim_base.specs.internal.Reading.{Refuses}
use Rattle.ssim_base.proofs.RestLemmas.{bytes-count, bytes-end, bytes-fail, names-first, names-own}
use Rattle.ssim_base.proofs.RestLemmas.{names-rest, other-refused, rest-ends, rest-fails}
use Rattle.ssim_base.proofs.RestLemmas.{rest-other, rest-refused}
use Rattle.ssim_base.proofs.data_set.reader.read_whole.Goals as goal

pub returns-then-not-is_of_bytes-clause-err : goal.returns-then-not-is_of_bytes-clause-err
returns-then-not-is_of_bytes-clause-err g c =
    let before = g.R.Source.state c.args.reader.now in
    let after = g.R.Source.state c.read_records.new.reader in
    let fault = c.in-Err.fault in
    let limit = ap (λ (r : Reading). r.limit) c.new-blocks.ensures in
    let is = sym c.is_of_bytes.ensures ∙ c.if-not-is_of_bytes.true in
    record {
      refused = other-refused c.args.limit before.left fault is;
      failure = c.in-Err.ensures.by_record.failure;
      names =
          names-first c.args.limit before.left after.left fault
          (subst (λ (n : ℕ). Refuses n before.left fault) limit c.in-Err.ensures.err)
          c.in-Err.ensures.by_record.fails_after;
      never_ends =
          subst (λ (n : ℕ). NeverEnds n (Came before after) fault) limit
          c.in-Err.ensures.by_record.never_ends;
    }

pub returns-in-Ok-skip_rest-clause-err : goal.returns-in-Ok-skip_rest-clause-err
returns-in-Ok-skip_rest-clause-err g c =
    let before = g.R.Source.state c.args.reader.now in
    let mid = g.R.Source.state c.read_records.new.reader in
    let after = g.R.Source.state c.skip_rest.new.reader in
    let fault = c.in-Err.fault in
    let limit = ap (λ (r : Reading). r.limit) c.new-blocks.ensures in
    let same = c.skip_rest.ensures.limit ∙ c.in-Err.ensures.limit ∙ limit in
    let is = sym c.is_of_bytes.ensures ∙ c.if-not-is_of_bytes.false in
    let end' = c.in-Ok-skip_rest.ensures.end in
    record {
      refused =
          rest-refused c.args.limit before mid after c.read_records.new.blocks.came
          c.skip_rest.new.self.came fault
          (subst (λ (n : ℕ). Refuses n before.left fault) limit c.in-Err.ensures.err)
          c.in-Err.ensures.came c.skip_rest.ensures.came end'.0
          (subst (λ (n : ℕ). c.skip_rest.new.self.came ≤ n) same end'.1);
      failure =
          bytes-fail before.failures mid.failures after.failures fault is c.in-Err.ensures.by_record.failure
          c.in-Ok-skip_rest.ensures.fault;
      names = names-own c.args.limit before.left after.left fault is;
      never_ends =
          bytes-end c.args.limit (Came before mid) (Came before after) fault is
          (subst (λ (n : ℕ). NeverEnds n (Came before mid) fault) limit
          c.in-Err.ensures.by_record.never_ends);
    }

pub returns-in-Err-skip_rest-clause-err : goal.returns-in-Err-skip_rest-clause-err
returns-in-Err-skip_rest-clause-err g c =
    let before = g.R.Source.state c.args.reader.now in
    let mid = g.R.Source.state c.read_records.new.reader in
    let after = g.R.Source.state c.skip_rest.new.reader in
    let fault = c.in-Err.fault in
    let rest = c.in-Err-skip_rest.rest in
    let limit = ap (λ (r : Reading). r.limit) c.new-blocks.ensures in
    let same = c.skip_rest.ensures.limit ∙ c.in-Err.ensures.limit ∙ limit in
    let is = sym c.is_of_bytes.ensures ∙ c.if-not-is_of_bytes.false in
    let fails = c.in-Err-skip_rest.ensures.fault in
    record {
      refused = rest-other c.args.limit before.left c.skip_rest.new.self mid after rest fails;
      failure =
          rest-fails c.skip_rest.new.self before.failures mid after rest
          (bytes-count before.failures mid.failures fault is c.in-Err.ensures.by_record.failure) fails;
      names =
          names-rest c.args.limit before.left fault c.read_records.new.blocks.number
          c.read_records.new.blocks.held mid after c.skip_rest.new.self rest is
          (subst (λ (n : ℕ). Refuses n before.left fault) limit c.in-Err.ensures.err)
          (c.in-Err.ensures.next is) c.in-Err.ensures.fetched c.skip_rest.ensures.left
          c.skip_rest.ensures.number fails;
      never_ends =
          rest-ends c.args.limit before mid after c.read_records.new.blocks.came
          c.skip_rest.new.self rest same c.in-Err.ensures.came c.skip_rest.ensures.came fails;
    }
