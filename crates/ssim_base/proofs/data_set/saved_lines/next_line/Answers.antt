-- The line is held, or fewer bytes are left.
use Rattle.std.proofs.Common.{◌≡◌, ℕ, List, Ok, false, true, rules, subst, sym}
use Rattle.ssim_base.specs.internal.SavedLines.{IsLine, IsLineOf}
use Rattle.ssim_base.proofs.NextLines.{held_line, no_line, too_few}
use Rattle.ssim_base.proofs.data_set.saved_lines.next_line.Goals as goal

pub returns-then-not-branch-clause-none : goal.returns-then-not-branch-clause-none
returns-then-not-branch-clause-none g c = λ e.
    let short : c.has.result ≡ Ok false = search rules in
    let end = c.has.ensures.end short in
    too_few c.has.new.self (g.R.Source.state c.has.new.reader).left end.0 end.1

pub returns-in-Some-clause-some : goal.returns-in-Some-clause-some
returns-in-Some-clause-some g c = λ e.
    let enough : c.has.result ≡ Ok true = search rules in
    let long = c.has.ensures.held enough in
    let rest = c.in-Some.field-0.now in
    (long, held_line c.read_line.new.into c.has.new.self.held rest long (subst (λ (bs : List ℕ). IsLineOf c.read_line.new.into bs rest) c.first.ensures c.in-Some.ensures.some))

pub returns-in-None-clause-none : goal.returns-in-None-clause-none
returns-in-None-clause-none g c = λ e.
    let enough : c.has.result ≡ Ok true = search rules in
    no_line c.has.new.self (g.R.Source.state c.has.new.reader).left (c.has.ensures.held enough)
    (λ r rest line. c.in-None.ensures.none r rest (subst (λ (bs : List ℕ). IsLine r bs rest) (sym c.first.ensures) line))
