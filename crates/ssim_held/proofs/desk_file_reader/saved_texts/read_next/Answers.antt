-- The text is of one message, so the message that was read is the one that would be next.
use Rattle.std.proofs.Common.{◌≡◌, ◌++◌, ◌∷◌, [], true, false, sym, subst, ◌∙◌}
use Rattle.std.specs.Prelude.{IfSome, Option}
use Rattle.ssim_held.specs.Entries.{AreRising, Entry}
use Rattle.ssim_held.specs.internal.DeskFileReader.{IsOf, IsTextOf}
use Rattle.ssim_held.proofs.SavedTexts.{same_text}
use Rattle.ssim_held.proofs.desk_file_reader.saved_texts.read_next.Goals as goal
use Rattle.ssim_held.proofs.desk_file_reader.saved_texts.read_next.Goals.{else-follows-via-then-follows+else-allows, else-follows-via-else-follows}

pub returns-else-follows-clause-none : goal.returns-else-follows-clause-none
returns-else-follows-clause-none c = λ e is its.
    let records = c.args.data_set.now in
    let mine = subst (λ (o : Option Entry). IfSome o (IsTextOf records c.args.text.now)) c.in-Some.is c.in_ok-next.ensures.some in
    let same = same_text c.equal_where_written_equal.ensures records c.args.text.now e c.in-Some.next its mine in
    elim c.else-follows.branch [
      | else-follows-via-then-follows+else-allows w ↦
          let yes = w.allows.ensures.1 (subst (IsOf c.args.version) same is.of_version) in
          let never : true ≡ false = sym yes ∙ w.if-allows.false in cc
      | else-follows-via-else-follows w ↦
          let yes = c.follows.ensures.1 (subst (λ (x : Entry). AreRising (c.args.held.now ++ x ∷ [])) same is.rising) in
          let never : true ≡ false = sym yes ∙ w.if-follows.false in cc
    ]
