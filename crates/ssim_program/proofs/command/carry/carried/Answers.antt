-- What carrying one message after another leaves is the desk that was wanted, or its refusal.
use Rattle.std.proofs.Common.{◌≡◌, ◌∙◌, ◌++◌, Err, List, length, rules, sym, ap, subst}
use Rattle.std.specs.Prelude.{All}
use Rattle.ssim_held.specs.Entries.{AreRising, DeskSeen, Entry, IsEntry}
use Rattle.ssim_program.specs.Desks.{held_line}
use Rattle.ssim_program.specs.internal.Carry.{CarriesEach, RefusesAny}
use Rattle.ssim_program.specs.declared.refusal.Refusal.TheVariants as refused
use Rattle.ssim_program.proofs.CarriedLines.{is_carry, is_refused}
use Rattle.ssim_program.proofs.command.carry.carried.Goals as goal

pub returns-in_err-lines-clause-why : goal.returns-in_err-lines-clause-why
returns-in_err-lines-clause-why c =
    let mine = c.args.mine in let theirs = c.args.other.now in let why = c.in_err-lines.field-0.0 in
    let es = c.held.result.now in
    let rising = subst AreRising c.held.ensures.value c.held.ensures.rising in
    let entries =
    subst (λ (xs : List Entry). All (IsEntry theirs.base.records) xs) (sym c.held.ensures.value)
    c.held.ensures.kept.each in
    let refuses : RefusesAny theirs.base c.in_ok-desk.desk es why =
    c.in_err-lines.ensures.why theirs.base entries in
    let here : RefusesAny theirs.base mine theirs.held why =
    subst (λ (xs : List Entry). RefusesAny theirs.base mine xs why) c.held.ensures.value
    (subst (λ (d : DeskSeen). RefusesAny theirs.base d es why) c.in_ok-desk.ensures refuses) in
    let is : c.from_residual-in_err-lines.result ≡ Err (refused.Desk why) = search rules in
    rw is (is_refused mine theirs rising why here)

pub returns-clause-done : goal.returns-clause-done
returns-clause-done c =
    let mine = c.args.mine in let theirs = c.args.other.now in
    let es = c.held.result.now in
    let rising = subst AreRising c.held.ensures.value c.held.ensures.rising in
    let entries =
    subst (λ (xs : List Entry). All (IsEntry theirs.base.records) xs) (sym c.held.ensures.value)
    c.held.ensures.kept.each in
    let lines = c.in_ok-lines.lines.items in let after = c.in_ok-after.after in
    let done : CarriesEach theirs.base c.in_ok-desk.desk es c.carry_each.new.desk lines =
    c.in_ok-lines.ensures.done theirs.base entries in
    let each : CarriesEach theirs.base mine theirs.held after lines =
    subst (λ (d : DeskSeen). CarriesEach theirs.base mine theirs.held d lines)
    (sym c.in_ok-after.ensures)
    (subst (λ (xs : List Entry). CarriesEach theirs.base mine xs c.carry_each.new.desk lines)
    c.held.ensures.value
    (subst (λ (d : DeskSeen). CarriesEach theirs.base d es c.carry_each.new.desk lines)
    c.in_ok-desk.ensures done)) in
    record {
      lines = lines;
      carry = is_carry mine theirs rising after lines each;
      rising = subst AreRising c.held-2.ensures.value c.held-2.ensures.rising;
      all = c.in_ok-add_line.ensures
          ∙ ap (λ (xs : List Entry). lines ++ held_line (length xs)) c.held-2.ensures.value;
    }
