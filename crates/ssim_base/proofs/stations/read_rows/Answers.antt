-- The current line is the first of the rest.
use Rattle.std.proofs.Common.{rules, ◌≡◌, ℕ, List, [], Err, get_or, sym, ap, subst, ◌∙◌, arith}
use Rattle.ssim_text.specs.Left.{lines_left, numbered, without_end}
use Rattle.ssim_text.proofs.LeftLemmas.{from_shorter, tail_cons, tail_none}
use Rattle.ssim_base.specs.internal.StationRows.{StopsAs, rows_of}
use Rattle.ssim_base.proofs.StationLines.{line_on, last_line, stops}
use Rattle.ssim_base.proofs.stations.read_rows.Goals as goal

pub returns-in_err-rows-clause-err : goal.returns-in_err-rows-clause-err
returns-in_err-rows-clause-err c =
    let k : c.from_residual.result ≡ Err c.in_err-rows.field-0.0 = search rules in
    let line = c.without_end.ensures ∙ ap without_end c.cut.ensures.before in
    rw k (stops (rows_of (lines_left c.args.text.now)) c.loop-rows.rows.items c.loop-rows.number c.loop-rows.rest.now c.in_err-rows.field-0.0 c.loop-rows.invariant.rows
    (subst (λ (l : List ℕ). StopsAs (rows_of (numbered c.loop-rows.number l [])) c.in_err-rows.field-0.0) line c.in_err-rows.ensures.err))

pub returns-in-empty-clause-ok : goal.returns-in-empty-clause-ok
returns-in-empty-clause-ok c =
    let line = c.without_end.ensures ∙ ap without_end c.cut.ensures.before in
    let one = c.in_ok-rows.ensures.ok in
    last_line (rows_of (lines_left c.args.text.now)) c.loop-rows.rows.items one.0 c.in_ok-rows.rows.items c.loop-rows.number c.loop-rows.rest.now c.loop-rows.invariant.rows one.1
    (ap (λ (l : List ℕ). rows_of (numbered c.loop-rows.number l [])) (sym line) ∙ one.2)
    (sym c.cut.ensures.from ∙ tail_none c.cut.result.1.now c.in-empty.len_below)

pub loop-rows-smaller : goal.loop-rows-smaller
loop-rows-smaller c =
    omega (arith, from_shorter 10 (get_or c.cut.result.1.now 0 0) c.loop-rows.rest.now _ (sym c.cut.ensures.from ∙ tail_cons c.cut.result.1.now c.in-len1-up.len_at_least))

pub loop-rows-preserved : goal.loop-rows-preserved
loop-rows-preserved c =
    let cut = sym c.cut.ensures.from ∙ tail_cons c.cut.result.1.now c.in-len1-up.len_at_least in
    let line = c.without_end.ensures ∙ ap without_end c.cut.ensures.before in
    let one = c.in_ok-rows.ensures.ok in
    record {
      rows = line_on (rows_of (lines_left c.args.text.now)) c.loop-rows.rows.items one.0 c.in_ok-rows.rows.items c.loop-rows.number (get_or c.cut.result.1.now 0 0) c.loop-rows.rest.now _ c.loop-rows.invariant.rows one.1
          (ap (λ (l : List ℕ). rows_of (numbered c.loop-rows.number l [])) (sym line) ∙ one.2)
          cut;
      bound = omega (arith, c.loop-rows.invariant.bound, from_shorter 10 (get_or c.cut.result.1.now 0 0) c.loop-rows.rest.now _ cut);
    }
