-- What `clap` finds is what the words name, and words that spell a command name it.
use Rattle.std.proofs.Common.{◌∙◌, sym, ap, true≢false}
use denote.Enum.Bare.{sameb}
use Rattle.clap.specs.contracts.error.kind.ErrorKind.{the_type}
use Rattle.clap.specs.declared.error.kind.ErrorKind.{ErrorKind}
use Rattle.clap.specs.declared.error.kind.ErrorKind.TheVariants as kind
use Rattle.ssim_command_line.proofs.Lines.{fault_shown, names_none, names_once, names_read, names_unentered}
use Rattle.ssim_command_line.proofs.Lines.{spelled_fault, spells_names}
use Rattle.ssim_command_line.proofs.command_line.parse.Goals as goal

pub returns-in-Err-clause-fault : goal.returns-in-Err-clause-fault
returns-in-Err-clause-fault c =
    fault_shown _ _ c.in-Ok.ensures c.in-Err.error c.in-Err.ensures.kinds
    (λ is. true≢false (sym (c.eq.ensures ∙ ap (λ (k : ErrorKind). sameb the_type k kind.OutOfMemory) (c.kind.ensures ∙ is)) ∙ c.if-eq.false))

pub returns-in-Err-clause-spelled : goal.returns-in-Err-clause-spelled
returns-in-Err-clause-spelled c line spells = spelled_fault _ line _ spells (returns-in-Err-clause-fault c)

pub returns-in_default-subcommand-clause-fault : goal.returns-in_default-subcommand-clause-fault
returns-in_default-subcommand-clause-fault c =
    let m = c.in-Ok-try_get_matches_from in
    names_unentered _ _ c.in-Ok.ensures m.matches m.ensures.matches m.ensures.kinds c.in_default-subcommand.ensures.name

pub returns-in_default-subcommand-clause-spelled : goal.returns-in_default-subcommand-clause-spelled
returns-in_default-subcommand-clause-spelled c line spells =
    spelled_fault _ line _ spells (returns-in_default-subcommand-clause-fault c)

pub returns-in-Ok-Some-clause-named : goal.returns-in-Ok-Some-clause-named
returns-in-Ok-Some-clause-named c =
    let m = c.in-Ok-try_get_matches_from in
    names_read _ _ c.in-Ok.ensures m.matches m.ensures.matches m.ensures.kinds _ _ c.in-Some.ensures.name
    c.in-Some.ensures.rows _ (rw c.in-Ok-Some.field-0-is at c.in-Ok-Some.ensures)

pub returns-in-Ok-Some-clause-spelled : goal.returns-in-Ok-Some-clause-spelled
returns-in-Ok-Some-clause-spelled c line spells =
    names_once _ _ line (returns-in-Ok-Some-clause-named c) (spells_names _ line spells)

pub returns-in-Ok-None-clause-fault : goal.returns-in-Ok-None-clause-fault
returns-in-Ok-None-clause-fault c =
    let m = c.in-Ok-try_get_matches_from in
    names_none _ _ c.in-Ok.ensures m.matches m.ensures.matches m.ensures.kinds _ _ c.in-Some.ensures.name
    c.in-Some.ensures.rows (rw c.in-Ok-None.field-0-is at c.in-Ok-None.ensures)

pub returns-in-Ok-None-clause-spelled : goal.returns-in-Ok-None-clause-spelled
returns-in-Ok-None-clause-spelled c line spells =
    spelled_fault _ line _ spells (returns-in-Ok-None-clause-fault c)
