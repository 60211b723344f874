-- The record is accepted after the records so far, or refused after them.
use Rattle.std.proofs.Common.{◌≡◌, ◌∷◌, ◌++◌, Err, rules, subst, ap, ◌∙◌}
use Rattle.ssim_records.specs.declared.record.Record.{Record}
use Rattle.ssim_base.specs.internal.DataSetReader.{IsListOf}
use Rattle.ssim_base.proofs.BuiltDataSets.{one-built, one-noted, refused-record}
use Rattle.ssim_base.proofs.ReadingLemmas.{Numbered}
use Rattle.ssim_base.proofs.data_set.builder.DataSetBuilder.add.Goals as goal

pub returns-clause-built : goal.returns-clause-built
returns-clause-built c = λ done h.
    let taken = c.in_ok-take.ensures in
    let x : Numbered = (c.args.number, c.args.one.now) in
    let accepted = taken.accepts h.earlier h.is_kept in
    one-built _ _ done x _ h accepted
    (subst (λ (r : Record). IsListOf c.push_record.new.self.items (r ∷ h.earlier))
    accepted.closed_is (c.in_ok-push_record.ensures h.earlier h.has)) taken.is_record

pub returns-clause-notes : goal.returns-clause-notes
returns-clause-notes c =
    c.in_ok-take.ensures.noted
    ∙ ap (λ ns. c.args.self.now.reader.notes.items ++ ns)
    (one-noted c.args.number c.args.self.now.reader.previous c.args.one.now)

pub returns-in_err-take-clause-err : goal.returns-in_err-take-clause-err
returns-in_err-take-clause-err c =
    let fault = c.in_err-take.field-0.0 in
    let x : Numbered = (c.args.number, c.args.one.now) in
    let refusal : c.from_residual.result ≡ Err fault = search rules in
    rw refusal (λ done h.
    refused-record c.args.self.now done x fault h (c.in_err-take.ensures.err h.earlier h.is_kept))
