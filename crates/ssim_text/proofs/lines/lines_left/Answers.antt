-- The current line is the first of the rest.
use Rattle.std.proofs.Common.{◌+◌, ◌++◌, ℕ, List, [], length, map, get_or, sym, ap, ◌∙◌, arith}
use Rattle.ssim_text.specs.declared.lines.Line.{Line}
use Rattle.ssim_text.specs.Left.{without_end, numbered, lines_left}
use Rattle.ssim_text.proofs.LeftLemmas.{line_on, last_line, from_shorter, tail_cons, tail_none}
use Rattle.ssim_text.proofs.lines.lines_left.Goals as goal

seen : List Line → List (ℕ × List ℕ)
seen lines = map (λ (l : Line). (l.number, l.bytes.now)) lines

pub returns-in-empty-clause-lines : goal.returns-in-empty-clause-lines
unfolding seen
returns-in-empty-clause-lines c =
    last_line (lines_left c.args.text.now) (seen c.loop-lines.lines.items) (seen c.push_line.new.lines.items) c.loop-lines.number c.loop-lines.rest.now c.loop-lines.invariant.lines
    (c.in_ok-push_line.ensures.lines ∙ ap (λ (x : List ℕ). seen c.loop-lines.lines.items ++ numbered c.loop-lines.number x []) (c.without_end.ensures ∙ ap without_end c.cut.ensures.before))
    (sym c.cut.ensures.from ∙ tail_none c.cut.result.1.now c.in-empty.len_below)

pub loop-lines-smaller : goal.loop-lines-smaller
loop-lines-smaller c =
    omega (arith, from_shorter 10 (get_or c.cut.result.1.now 0 0) c.loop-lines.rest.now _ (sym c.cut.ensures.from ∙ tail_cons c.cut.result.1.now c.in-len1-up.len_at_least))

pub loop-lines-preserved : goal.loop-lines-preserved
unfolding seen
loop-lines-preserved c =
    let cut = sym c.cut.ensures.from ∙ tail_cons c.cut.result.1.now c.in-len1-up.len_at_least in
    record {
      lines = line_on (lines_left c.args.text.now) (seen c.loop-lines.lines.items) (seen c.push_line.new.lines.items) c.loop-lines.number (get_or c.cut.result.1.now 0 0) c.loop-lines.rest.now _ c.loop-lines.invariant.lines
          (c.in_ok-push_line.ensures.lines ∙ ap (λ (x : List ℕ). seen c.loop-lines.lines.items ++ numbered c.loop-lines.number x []) (c.without_end.ensures ∙ ap without_end c.cut.ensures.before))
          cut;
      bound = omega (arith, c.loop-lines.invariant.bound, from_shorter 10 (get_or c.cut.result.1.now 0 0) c.loop-lines.rest.now _ cut);
      numbers = c.in_ok-push_line.ensures.bound (1 + length c.args.text.now) (omega (arith, c.loop-lines.invariant.bound)) c.loop-lines.invariant.numbers;
    }
