-- One more desk is equal to the one given.
use Rattle.std.proofs.Common.{◌≡◌, [], ◌∷◌, ◌++◌, List, All, sym, subst, refl, arith}
use Rattle.std.proofs.lemmas.Grind.{common_steps}
use Rattle.std.proofs.lemmas.List.Elements.{All-push}
use Rattle.ssim_held.specs.Entries.{DeskSeen}
use Rattle.ssim_program.proofs.rehearse.lines.equal_desks.Goals as goal

pub loop-preserved : goal.loop-preserved
loop-preserved c =
    let old = c.loop.invariant in
    let is : DeskSeen → Type 0 = λ one. one ≡ c.args.desk in
    let each : All is (c.loop.desks.items ++ c.in_ok-copy.field-0 ∷ []) = All-push is
    c.loop.desks.items c.in_ok-copy.field-0 old.each c.in_ok-copy.ensures in
    record {
      count = grind (arith, common_steps, c.in_ok-push.ensures.items, old.count);
      each = subst (All is) (sym {A = List DeskSeen} c.in_ok-push.ensures.items) each;
    }

pub returns : goal.returns
returns c =
    let old = c.loop.invariant in
    let is : DeskSeen → Type 0 = λ one. one ≡ c.args.desk in
    let each : All is (c.loop.desks.items ++ c.args.desk ∷ []) = All-push is c.loop.desks.items
    c.args.desk old.each refl in
    record {
      count = grind (arith, common_steps, c.in_ok-push-2.ensures.items, old.count);
      each = subst (All is) (sym {A = List DeskSeen} c.in_ok-push-2.ensures.items) each;
    }
