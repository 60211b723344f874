-- The next file is received, of those that are left.
use Rattle.std.proofs.Common.{◌≡◌, ◌∙◌, ◌+◌, Bor, List, ℕ, [], drop, map, refl, sym, ap, subst}
use Rattle.std.proofs.lemmas.List.{drop_all, drop_more}
use Rattle.ssim_program.specs.Receiving.{ReceivesEach}
use Rattle.ssim_program.proofs.Received.{begun, ends, file_received}
use Rattle.ssim_program.proofs.command.receive.mailboxes.receive_files.Goals as goal

pub loop-name-init : goal.loop-name-init
loop-name-init g c = record { through = begun (ReceivesEach (g.S.Store.files c.args.store.now) (map (λ t. t.now) c.args.names.now)) c.args.desk.now c.in_ok-receipts.receipts; files = refl; counted = refl }

pub loop-name-preserved : goal.loop-name-preserved
loop-name-preserved g c =
    let files = g.S.Store.files c.args.store.now in
    let names = c.args.names.now in
    let i = c.loop-name.name-index in
    record {
      through = file_received files (g.S.Store.files c.loop-name.store) (ReceivesEach files (map (λ t. t.now) names)) _ (map (λ t. t.now) (drop i names)) (map (λ t. t.now) (drop (i + 1) names))
          c.args.desk.now c.loop-name.desk c.receive_file.new.desk c.in_ok-receipts.receipts c.loop-name.receipts c.receive_file.new.receipts c.in_ok-receive_file.ensures.received c.loop-name.invariant.files
          (ap (map (λ t. t.now)) (drop_more names i _ c.loop-name-test.true)) c.loop-name.invariant.through;
      files = c.receive_file.ensures.same ∙ c.loop-name.invariant.files;
      counted = c.receive_file.ensures.counted ∙ c.loop-name.invariant.counted;
    }

pub returns-clause-received : goal.returns-clause-received
returns-clause-received g c =
    let files = g.S.Store.files c.args.store.now in
    let names = c.args.names.now in
    let i = c.loop-name.name-index in
    let now = c.loop-name.desk in
    let none : drop i names ≡ [] = drop_all i names c.loop-name-test.false in
    let (received, is, are) = ends (ReceivesEach files (map (λ t. t.now) names)) (ReceivesEach files (map (λ t. t.now) (drop i names))) c.args.desk.now now c.in_ok-receipts.receipts c.loop-name.receipts
    (subst (λ (ns : List (Bor (List ℕ))). ReceivesEach files (map (λ t. t.now) ns) now [] now) (sym none) (refl, refl)) c.loop-name.invariant.through in
    (received, is, are c.args.csv [] c.in_ok-receipts.ensures)
