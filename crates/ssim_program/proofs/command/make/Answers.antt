-- Each request makes what its command does.
use Rattle.std.proofs.Common.{◌≡◌, [], ◌∷◌, Bool, Bor, Err, List, ℕ, Ok, Option, Result, Vec, ap₂, map}
use Rattle.std.proofs.Common.{option_map, refl, subst, sym}
use Rattle.ssim_command_line.specs.Line.{choice_line, line_of, span_line}
use Rattle.ssim_command_line.specs.declared.command_line.Request.{Request}
use Rattle.ssim_program.specs.Acts.{Print, found_then, prints, reports}
use Rattle.ssim_program.specs.Answer.{Answer}
use Rattle.ssim_program.specs.Answers as answer
use Rattle.ssim_program.specs.Answers.{answers}
use Rattle.ssim_program.specs.Files.{Files}
use Rattle.ssim_program.specs.Splitting.{split}
use Rattle.ssim_program.specs.internal.Program.{Answers, AreLines, IsReport, MakesOr, Reports}
use Rattle.ssim_program.specs.declared.made.Made.{Made}
use Rattle.ssim_program.specs.declared.made.Made.TheVariants as made
use Rattle.ssim_program.specs.declared.made.Report.{Report}
use Rattle.ssim_program.specs.declared.refusal.Refusal.{Refusal}
use Rattle.ssim_program.proofs.command.make.Goals as goal

made_of : {H : Type 0} (file : H → List ℕ) (files : Option Files) (request other : Request)
    (r : Result (Made H) Refusal) → request ≡ other
    → MakesOr file files (answers (line_of other) files) r
    → MakesOr file files (answers (line_of request) files) r
made_of file files request other r is makes =
    subst (λ (q : Request). MakesOr file files (answers (line_of q) files) r) (sym is) makes

lines_of : {A H : Type 0} (file : H → List ℕ) (files : Option Files) (answer : Answer (List ℕ))
    (v : Result (Vec ℕ A) Refusal) (r : Result (Made H) Refusal) → Answers answer v → AreLines v r
    → MakesOr file files (prints answer) r
lines_of file files answer (Ok v) (Ok (made.Lines lines)) is same =
    (lines.items, subst (λ (bytes : List ℕ). answer (Ok bytes)) (sym same) is, refl)
lines_of file files answer (Ok v) (Ok (made.Reported found lines)) is same = absurd same
lines_of file files answer (Ok v) (Ok (made.Kept kept lines)) is same = absurd same
lines_of file files answer (Ok v) (Ok (made.Printed found lines refused kept)) is same = absurd same
lines_of file files answer (Ok v) (Ok (made.DataSet set)) is same = absurd same
lines_of file files answer (Ok v) (Ok (made.Desk desk)) is same = absurd same
lines_of file files answer (Ok v) (Ok (made.Part desk choice)) is same = absurd same
lines_of file files answer (Ok v) (Ok (made.Texts place desk names effects)) is same = absurd same
lines_of file files answer (Ok v) (Ok (made.Sections dataset prefix)) is same = absurd same
lines_of file files answer (Ok v) (Err why) is same = absurd same
lines_of file files answer (Err why) (Ok m) is same = absurd same
lines_of file files answer (Err why) (Err refusal) is same =
    subst (λ (e : Refusal). answer (Err e)) (sym same) is

report_of : {H : Type 0} (file : H → List ℕ) (files : Option Files) (asked : Bool)
    (answer : Answer (List ℕ × Bool)) (v : Result Report Refusal) (r : Result (Made H) Refusal)
    → Reports answer v → IsReport asked v r → MakesOr file files (reports asked answer) r
report_of file files asked answer (Ok report) (Ok (made.Reported found lines)) is same = (
  (report.lines.items, report.found),
  is,
  ap₂ (λ (b : Bool) (bytes : List ℕ). found_then b (Print bytes ∷ [])) same.0 same.1,
)
report_of file files asked answer (Ok report) (Ok (made.Lines lines)) is same = absurd same
report_of file files asked answer (Ok report) (Ok (made.Kept kept lines)) is same = absurd same
report_of file files asked answer (Ok report) (Ok (made.Printed found lines refused kept)) is same = absurd same
report_of file files asked answer (Ok report) (Ok (made.DataSet set)) is same = absurd same
report_of file files asked answer (Ok report) (Ok (made.Desk desk)) is same = absurd same
report_of file files asked answer (Ok report) (Ok (made.Part desk choice)) is same = absurd same
report_of file files asked answer (Ok report) (Ok (made.Texts place desk names effects)) is same = absurd same
report_of file files asked answer (Ok report) (Ok (made.Sections dataset prefix)) is same = absurd same
report_of file files asked answer (Ok report) (Err why) is same = absurd same
report_of file files asked answer (Err why) (Ok m) is same = absurd same
report_of file files asked answer (Err why) (Err refusal) is same =
    subst (λ (e : Refusal). answer (Err e)) (sym same) is

sections_made : {H : Type 0} (file : H → List ℕ) (files : Option Files) (dataset prefix : Bor (List ℕ))
    → MakesOr file files (split files dataset.now prefix.now) (Ok (made.Sections dataset prefix))
sections_made file files dataset prefix = λ result is. is

pub returns-in-Start-clause-answer : goal.returns-in-Start-clause-answer
returns-in-Start-clause-answer g c = made_of _ _ _ _ _ c.in-Start.is c.start.ensures.answer

pub returns-in-Take-clause-answer : goal.returns-in-Take-clause-answer
returns-in-Take-clause-answer g c = let old = g.S.Store.files c.args.store.now in
    made_of _ _ _ _ _ c.in-Take.is
    (subst (λ (words : List (Bor (List ℕ))). MakesOr g.S.Hold.Hold.file old
    (answer.take old c.in-Take.effects c.in-Take.desk.now c.in-Take.out.now (map (λ t. t.now) words))
    c.take.result) c.deref.ensures.value c.take.ensures.answer)

pub returns-in-Receive-clause-answer : goal.returns-in-Receive-clause-answer
returns-in-Receive-clause-answer g c = let old = g.S.Store.files c.args.store.now in
    made_of _ _ _ _ _ c.in-Receive.is
    (subst (λ (words : List (Bor (List ℕ))). MakesOr g.S.Hold.Hold.file old
    (answer.receive old (option_map (λ t. t.now) c.in-Receive.refused) c.in-Receive.form
    c.in-Receive.desk.now c.in-Receive.out.now (map (λ t. t.now) words)) c.receive.result)
    c.deref-in-Receive.ensures.value c.receive.ensures.answer)

pub returns-in-Merge-clause-answer : goal.returns-in-Merge-clause-answer
returns-in-Merge-clause-answer g c = made_of _ _ _ _ _ c.in-Merge.is c.merge_either.ensures.answer

pub returns-in-Carry-clause-answer : goal.returns-in-Carry-clause-answer
returns-in-Carry-clause-answer g c = made_of _ _ _ _ _ c.in-Carry.is c.carry.ensures.answer

pub returns-in-Withdraw-clause-answer : goal.returns-in-Withdraw-clause-answer
returns-in-Withdraw-clause-answer g c = let old = g.S.Store.files c.args.store.now in
    made_of _ _ _ _ _ c.in-Withdraw.is
    (subst (λ (words : List (Bor (List ℕ))). MakesOr g.S.Hold.Hold.file old
    (answer.withdraw old c.in-Withdraw.effects c.in-Withdraw.desk.now c.in-Withdraw.out.now (map (λ t. t.now) words))
    c.withdraw.result) c.deref-in-Withdraw.ensures.value c.withdraw.ensures.answer)

pub returns-in-Publish-clause-answer : goal.returns-in-Publish-clause-answer
returns-in-Publish-clause-answer g c = made_of _ _ _ _ _ c.in-Publish.is c.publish.ensures.answer

pub returns-in-Convert-clause-answer : goal.returns-in-Convert-clause-answer
returns-in-Convert-clause-answer g c = made_of _ _ _ _ _ c.in-Convert.is c.convert.ensures.answer

pub returns-in-Tidy-clause-answer : goal.returns-in-Tidy-clause-answer
returns-in-Tidy-clause-answer g c = made_of _ _ _ _ _ c.in-Tidy.is c.tidy.ensures.answer

pub returns-in-Export-clause-answer : goal.returns-in-Export-clause-answer
returns-in-Export-clause-answer g c = made_of _ _ _ _ _ c.in-Export.is c.export.ensures.answer

pub returns-in-Split-clause-answer : goal.returns-in-Split-clause-answer
returns-in-Split-clause-answer g c = let old = g.S.Store.files c.args.store.now in
    made_of {H = g.row.S-Hold.Denot} g.S.Hold.Hold.file old _ _
    (Ok (made.Sections c.in-Split.dataset c.in-Split.prefix)) c.in-Split.is
    (sections_made g.S.Hold.Hold.file old c.in-Split.dataset c.in-Split.prefix)

pub returns-in-Check-clause-answer : goal.returns-in-Check-clause-answer
returns-in-Check-clause-answer g c = let old = g.S.Store.files c.args.store.now in
    made_of _ _ _ _ _ c.in-Check.is
    (lines_of g.S.Hold.Hold.file old (answer.check old c.in-Check.dataset.now) c.check.result
    c.lines.result c.check.ensures.answer c.lines.ensures)

pub returns-in-Problems-clause-answer : goal.returns-in-Problems-clause-answer
returns-in-Problems-clause-answer g c = let old = g.S.Store.files c.args.store.now in
    made_of _ _ _ _ _ c.in-Problems.is
    (report_of g.S.Hold.Hold.file old c.in-Problems.form.status
    (answer.problems old c.in-Problems.form.csv c.in-Problems.dataset.now)
    c.problems.result c.reported.result c.problems.ensures.answer c.reported.ensures)

pub returns-in-Texts-clause-answer : goal.returns-in-Texts-clause-answer
returns-in-Texts-clause-answer g c = let old = g.S.Store.files c.args.store.now in
    made_of _ _ _ _ _ c.in-Texts.is
    (lines_of g.S.Hold.Hold.file old
    (answer.texts old c.in-Texts.csv (span_line c.in-Texts.span) c.in-Texts.desk.now
    (map (λ t. t.now) c.in-Texts.flights.items)) c.texts.result c.lines-in-Texts.result
    (subst (λ (words : List (Bor (List ℕ))). Answers
    (answer.texts old c.in-Texts.csv (span_line c.in-Texts.span) c.in-Texts.desk.now
    (map (λ t. t.now) words))
    c.texts.result) c.deref-in-Texts.ensures.value c.texts.ensures.answer)
    c.lines-in-Texts.ensures)

pub returns-in-Show-clause-answer : goal.returns-in-Show-clause-answer
returns-in-Show-clause-answer g c = let old = g.S.Store.files c.args.store.now in
    made_of _ _ _ _ _ c.in-Show.is
    (lines_of g.S.Hold.Hold.file old
    (answer.show old c.in-Show.file.now c.in-Show.flight.now
    (map (λ t. t.now) c.in-Show.words.items)) c.show.result c.lines-in-Show.result
    (subst (λ (words : List (Bor (List ℕ))). Answers
    (answer.show old c.in-Show.file.now c.in-Show.flight.now (map (λ t. t.now) words))
    c.show.result) c.deref-in-Show.ensures.value c.show.ensures.answer)
    c.lines-in-Show.ensures)

pub returns-in-History-clause-answer : goal.returns-in-History-clause-answer
returns-in-History-clause-answer g c = let old = g.S.Store.files c.args.store.now in
    made_of _ _ _ _ _ c.in-History.is
    (lines_of g.S.Hold.Hold.file old
    (answer.history old c.in-History.csv c.in-History.file.now c.in-History.flight.now
    (map (λ t. t.now) c.in-History.words.items)) c.history.result c.lines-in-History.result
    (subst (λ (words : List (Bor (List ℕ))). Answers
    (answer.history old c.in-History.csv c.in-History.file.now c.in-History.flight.now (map (λ t. t.now) words))
    c.history.result) c.deref-in-History.ensures.value c.history.ensures.answer)
    c.lines-in-History.ensures)

pub returns-in-Blame-clause-answer : goal.returns-in-Blame-clause-answer
returns-in-Blame-clause-answer g c = let old = g.S.Store.files c.args.store.now in
    made_of _ _ _ _ _ c.in-Blame.is
    (lines_of g.S.Hold.Hold.file old
    (answer.blame old c.in-Blame.csv c.in-Blame.file.now
    (map (λ t. t.now) c.in-Blame.flights.items)) c.blame.result c.lines-in-Blame.result
    (subst (λ (words : List (Bor (List ℕ))). Answers
    (answer.blame old c.in-Blame.csv c.in-Blame.file.now (map (λ t. t.now) words))
    c.blame.result) c.deref-in-Blame.ensures.value c.blame.ensures.answer)
    c.lines-in-Blame.ensures)

pub returns-in-Board-clause-answer : goal.returns-in-Board-clause-answer
returns-in-Board-clause-answer g c = let old = g.S.Store.files c.args.store.now in
    made_of _ _ _ _ _ c.in-Board.is
    (lines_of g.S.Hold.Hold.file old
    (answer.board old c.in-Board.form c.in-Board.file.now c.in-Board.station.now
    c.in-Board.date.now)
    c.board.result c.lines-in-Board.result c.board.ensures.answer c.lines-in-Board.ensures)

pub returns-in-List-clause-answer : goal.returns-in-List-clause-answer
returns-in-List-clause-answer g c = let old = g.S.Store.files c.args.store.now in
    made_of _ _ _ _ _ c.in-List.is
    (lines_of g.S.Hold.Hold.file old
    (answer.list old c.in-List.form (choice_line c.in-List.choice) c.in-List.file.now
    (map (λ t. t.now) c.in-List.flights.items)) c.list.result c.lines-in-List.result
    (subst (λ (words : List (Bor (List ℕ))). Answers
    (answer.list old c.in-List.form (choice_line c.in-List.choice) c.in-List.file.now
    (map (λ t. t.now) words)) c.list.result) c.deref-in-List.ensures.value
    c.list.ensures.answer)
    c.lines-in-List.ensures)

pub returns-in-Calendar-clause-answer : goal.returns-in-Calendar-clause-answer
returns-in-Calendar-clause-answer g c = let old = g.S.Store.files c.args.store.now in
    made_of _ _ _ _ _ c.in-Calendar.is
    (lines_of g.S.Hold.Hold.file old
    (answer.calendar old (choice_line c.in-Calendar.choice) c.in-Calendar.file.now
    (map (λ t. t.now) c.in-Calendar.flights.items)) c.calendar.result c.lines-in-Calendar.result
    (subst (λ (words : List (Bor (List ℕ))). Answers
    (answer.calendar old (choice_line c.in-Calendar.choice) c.in-Calendar.file.now
    (map (λ t. t.now) words)) c.calendar.result) c.deref-in-Calendar.ensures.value
    c.calendar.ensures.answer)
    c.lines-in-Calendar.ensures)

pub returns-in-Info-clause-answer : goal.returns-in-Info-clause-answer
returns-in-Info-clause-answer g c = let old = g.S.Store.files c.args.store.now in
    made_of _ _ _ _ _ c.in-Info.is
    (lines_of g.S.Hold.Hold.file old (answer.info old c.in-Info.file.now) c.info.result
    c.lines-in-Info.result c.info.ensures.answer c.lines-in-Info.ensures)

pub returns-in-Stations-clause-answer : goal.returns-in-Stations-clause-answer
returns-in-Stations-clause-answer g c = let old = g.S.Store.files c.args.store.now in
    made_of _ _ _ _ _ c.in-Stations.is
    (lines_of g.S.Hold.Hold.file old (answer.stations old c.in-Stations.file.now) c.stations.result
    c.lines-in-Stations.result c.stations.ensures.answer c.lines-in-Stations.ensures)

pub returns-in-Sql-clause-answer : goal.returns-in-Sql-clause-answer
returns-in-Sql-clause-answer g c = let old = g.S.Store.files c.args.store.now in
    made_of _ _ _ _ _ c.in-Sql.is
    (lines_of g.S.Hold.Hold.file old (answer.sql old c.in-Sql.file.now) c.sql.result
    c.lines-in-Sql.result c.sql.ensures.answer c.lines-in-Sql.ensures)

pub returns-in-Page-clause-answer : goal.returns-in-Page-clause-answer
returns-in-Page-clause-answer g c = let old = g.S.Store.files c.args.store.now in
    made_of _ _ _ _ _ c.in-Page.is
    (lines_of g.S.Hold.Hold.file old
    (answer.page old (option_map (λ f. f.now) c.in-Page.from) c.in-Page.file.now) c.page.result
    c.lines-in-Page.result c.page.ensures.answer c.lines-in-Page.ensures)

pub returns-in-Diff-clause-answer : goal.returns-in-Diff-clause-answer
returns-in-Diff-clause-answer g c = let old = g.S.Store.files c.args.store.now in
    made_of _ _ _ _ _ c.in-Diff.is
    (report_of g.S.Hold.Hold.file old c.in-Diff.form.status
    (answer.diff old c.in-Diff.form (choice_line c.in-Diff.choice) c.in-Diff.from.now
    c.in-Diff.to.now (map (λ t. t.now) c.in-Diff.flights.items)) c.diff.result
    c.reported-in-Diff.result
    (subst (λ (words : List (Bor (List ℕ))). Reports
    (answer.diff old c.in-Diff.form (choice_line c.in-Diff.choice) c.in-Diff.from.now
    c.in-Diff.to.now (map (λ t. t.now) words)) c.diff.result) c.deref-in-Diff.ensures.value
    c.diff.ensures.answer)
    c.reported-in-Diff.ensures)

pub returns-in-Findings-clause-answer : goal.returns-in-Findings-clause-answer
returns-in-Findings-clause-answer g c = let old = g.S.Store.files c.args.store.now in
    made_of _ _ _ _ _ c.in-Findings.is
    (lines_of g.S.Hold.Hold.file old
    (answer.findings old c.in-Findings.form (span_line c.in-Findings.span)
    c.in-Findings.desk.now (map (λ t. t.now) c.in-Findings.flights.items))
    c.findings.result c.lines-in-Findings.result
    (subst (λ (words : List (Bor (List ℕ))). Answers
    (answer.findings old c.in-Findings.form (span_line c.in-Findings.span)
    c.in-Findings.desk.now (map (λ t. t.now) words))
    c.findings.result) c.deref-in-Findings.ensures.value c.findings.ensures.answer)
    c.lines-in-Findings.ensures)

pub returns-in-Select-clause-answer : goal.returns-in-Select-clause-answer
returns-in-Select-clause-answer g c =
    let old = g.S.Store.files c.args.store.now in
    made_of _ _ _ _ _ c.in-Select.is (subst (λ (words : List (Bor (List ℕ))).
    MakesOr g.S.Hold.Hold.file old (answer.select old (choice_line c.in-Select.choice)
    c.in-Select.file.now (map (λ t. t.now) words)) c.select.result)
    c.deref-in-Select.ensures.value c.select.ensures.answer)

pub returns-in-Rehearse-clause-answer : goal.returns-in-Rehearse-clause-answer
returns-in-Rehearse-clause-answer g c = let old = g.S.Store.files c.args.store.now in
    made_of _ _ _ _ _ c.in-Rehearse.is
    (lines_of g.S.Hold.Hold.file old
    (answer.rehearse old c.in-Rehearse.dataset.now c.in-Rehearse.stations.now
    c.in-Rehearse.script.now) c.rehearse.result c.lines-in-Rehearse.result
    c.rehearse.ensures.answer c.lines-in-Rehearse.ensures)

pub returns-in-Explain-clause-answer : goal.returns-in-Explain-clause-answer
returns-in-Explain-clause-answer g c = let old = g.S.Store.files c.args.store.now in
    made_of _ _ _ _ _ c.in-Explain.is
    (report_of g.S.Hold.Hold.file old c.in-Explain.status (answer.explain old c.in-Explain.word.now)
    c.explain.result c.reported-in-Explain.result c.explain.ensures.answer
    c.reported-in-Explain.ensures)
