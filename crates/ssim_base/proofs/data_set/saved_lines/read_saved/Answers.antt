-- Line by line a record is stored that is valid after the earlier ones; if there is none, no base
-- has the lines.
use Rattle.std.proofs.Common.{List, ℕ, ◌≡◌, ◌++◌, ◌∷◌, [], Ok, false, true, length, take, reverse, rules, sym, ap, subst, ◌∙◌, arith}
use Rattle.std.proofs.lemmas.List.{length-reverse}
use Rattle.ssim_records.specs.clauses.InputBuffer.{Uses}
use Rattle.ssim_records.specs.declared.record.Record.{Record}
use Rattle.ssim_records.proofs.InputBuffers.{gives_then}
use Rattle.ssim_base.specs.internal.Acceptance.{HasAccepted, IsRecordRefused}
use Rattle.ssim_base.specs.BaseSeen.{AreFlights, WasRead}
use Rattle.ssim_base.specs.SavedBase.{IsBaseRecords, saved}
use Rattle.ssim_base.specs.internal.SavedLines.{IsLine}
use Rattle.ssim_base.specs.declared.fault.BaseFault.TheVariants.{Refused}
use Rattle.ssim_base.proofs.NextLines.{ahead_line, begins_none, if_known, left_after, uses_line, uses_more}
use Rattle.ssim_base.proofs.SavedBases.{base-records, kept-bare}
use Rattle.ssim_base.proofs.SavedLines.{end-lacks, end-whole, left-none, next-refused}
use Rattle.ssim_base.proofs.data_set.saved_lines.read_saved.Goals as goal

pub loop-done-preserved : goal.loop-done-preserved
loop-done-preserved g c =
    let i = c.loop-done.invariant in
    let r = c.in-Some.one in
    let is : c.next_line.result ≡ Ok true = search rules in
    let line : IsLine r (take 201 c.next_line.new.input.held) [] = rw c.in-Some.is at ((c.next_line.ensures.some is).1) in
    let stood = c.in-Ok.ensures.accepts i.earlier i.is_kept in
    let few : length i.earlier ≡ c.args.count → ⊥ = λ all. omega (arith, all, i.number, c.loop-done-test.true) in
    record {
      earlier = r ∷ i.earlier;
      is_kept = subst (λ (k : Record). HasAccepted c.put.new.self (k ∷ i.earlier)) (kept-bare i.earlier r line.bare) stood.is_kept;
      is_left = left_after c.args.count i.earlier r (take 201 c.next_line.new.input.held) i.is_left line stood.valid few;
      has = c.in_ok-push_record-in-Ok.ensures i.earlier i.has
          ∙ ap (λ (x : Record). reverse (x ∷ i.earlier))
          (stood.closed_is ∙ kept-bare i.earlier r line.bare);
      number = omega (arith, i.number);
      few = omega (arith, c.loop-done-test.true);
      limit = rw c.skip.ensures (c.next_line.ensures.limit ∙ i.limit);
      uses = rw c.skip.ensures (uses_line i.earlier r c.args.input.now c.loop-done.input c.next_line.new.input _ _ _ i.uses c.in_ok-next_line.ensures.uses line);
      gives = rw c.skip.ensures (gives_then _ _ _ _ _ _ i.gives c.in_ok-next_line.ensures.gives);
    }

pub returns-then-not-branch-clause-err : goal.returns-then-not-branch-clause-err
returns-then-not-branch-clause-err g c =
    let i = c.loop-done.invariant in
    let is : c.next_line.result ≡ Ok false = search rules in
    let used = uses_more (saved (reverse i.earlier)) c.args.input.now c.loop-done.input c.next_line.new.input _ _ _ i.uses c.in_ok-next_line.ensures.uses in
    begins_none (saved (reverse i.earlier)) c.args.count _ _ used.next
    (λ rest at. left-none (saved (reverse i.earlier) ++ rest) rest c.args.count i.earlier (i.is_left rest) (λ all. omega (arith, all, i.number, c.loop-done-test.true))
    (λ r after line stands. if_known _ rest (λ (bytes : List ℕ). (s : Record) (more : List ℕ) → IsLine s bytes more → ⊥) at (c.next_line.ensures.none is) r after line))

pub returns-in-Err-Refused-clause-err : goal.returns-in-Err-Refused-clause-err
returns-in-Err-Refused-clause-err g c =
    let i = c.loop-done.invariant in
    let one = c.in-Some.one in
    let is : c.next_line.result ≡ Ok true = search rules in
    let some = c.next_line.ensures.some is in
    let line : IsLine one (take 201 c.next_line.new.input.held) [] = rw c.in-Some.is at (some.1) in
    let refused : IsRecordRefused 0 i.earlier one (Refused c.in-Err-Refused.field-0-0 c.in-Err-Refused.field-0-1) = rw c.in-Err-Refused.field-0-is at (c.in-Err-Refused.ensures.err i.earlier i.is_kept) in
    let used = uses_more (saved (reverse i.earlier)) c.args.input.now c.loop-done.input c.next_line.new.input _ _ _ i.uses c.in_ok-next_line.ensures.uses in
    begins_none (saved (reverse i.earlier)) c.args.count _ _ used.next
    (λ rest at. left-none (saved (reverse i.earlier) ++ rest) rest c.args.count i.earlier (i.is_left rest) (λ all. omega (arith, all, i.number, c.loop-done-test.true))
    (λ r more other stands.
    let next = ahead_line c.next_line.new.input _ rest one at some.0 line in
    next-refused one r rest next.0 more i.earlier c.in-Err-Refused.field-0-1 next.1 other refused.1 stands))

pub returns-then-is_some-clause-err : goal.returns-then-is_some-clause-err
returns-then-is_some-clause-err g c =
    let i = c.loop-done.invariant in
    begins_none (saved (reverse i.earlier)) c.args.count _ _ i.uses.next
    (λ rest at. end-lacks (saved (reverse i.earlier) ++ rest) rest c.args.count i.earlier (i.is_left rest) (omega (arith, i.number, i.few, c.loop-done-test.false)) c.missing.result (c.missing.ensures i.earlier i.is_kept) (sym c.is_some.ensures ∙ c.if-is_some.true))

pub of_base-requires-clause-was_read : goal.of_base-requires-clause-was_read
of_base-requires-clause-was_read g c =
    let i = c.loop-done.invariant in
    let whole = end-whole (saved (reverse i.earlier) ++ []) [] c.args.count i.earlier (i.is_left []) c.missing.result (c.missing.ensures i.earlier i.is_kept) (sym c.is_some.ensures ∙ c.if-is_some.false) in
    subst (λ (rs : List Record). WasRead rs) (sym i.has) whole.1

pub of_base-requires-clause-flights : goal.of_base-requires-clause-flights
of_base-requires-clause-flights g c =
    let i = c.loop-done.invariant in
    subst (λ (rs : List Record). AreFlights rs c.in_ok-flights.flights.items) (sym i.has)
    (c.in_ok-flights.ensures i.earlier i.is_kept)

pub returns-clause-ok : goal.returns-clause-ok
returns-clause-ok g c =
    let i = c.loop-done.invariant in
    let whole = end-whole (saved (reverse i.earlier) ++ []) [] c.args.count i.earlier (i.is_left []) c.missing.result (c.missing.ensures i.earlier i.is_kept) (sym c.is_some.ensures ∙ c.if-is_some.false) in
    let are = c.of_base.ensures ∙ i.has in (
      subst (λ (rs : List Record). IsBaseRecords rs) (sym are) (base-records (reverse i.earlier) whole.1),
      ap (λ (rs : List Record). length rs) are ∙ length-reverse i.earlier ∙ omega (arith, i.number, i.few, c.loop-done-test.false),
      subst (λ (rs : List Record). Uses (saved rs) c.args.input.now (g.R.Source.state c.args.reader.now).left c.loop-done.input (g.R.Source.state c.loop-done.reader).left) (sym are) i.uses,
    )
