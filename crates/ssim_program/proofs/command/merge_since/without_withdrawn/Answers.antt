-- One more message has gone, or stays.
use Rattle.std.proofs.Common.{◌≡◌, ◌∙◌, ◌+◌, List, Result, Ok, Err, IfOk, refl, sym, ap, subst}
use Rattle.std.proofs.lemmas.Option.{slice_get_read}
use Rattle.ssim_values.specs.declared.memory.Memory.{Memory}
use Rattle.std.specs.FinMap.{remove}
use Rattle.ssim_held.specs.Entries.{DeskSeen, Entry, map_of}
use Rattle.ssim_program.specs.MergingSince.{IsWithoutWithdrawn}
use Rattle.ssim_program.proofs.MergingSince.{AreGone, all_gone, none_gone, one_gone, one_stays}
use Rattle.ssim_program.specs.internal.MergingSince.{IsAmong}
use Rattle.ssim_program.proofs.command.merge_since.without_withdrawn.Goals as goal
use Rattle.ssim_program.proofs.command.merge_since.without_withdrawn.Goals.{else-is_withdrawn, then-is_withdrawn}

-- what is known of a value is known of a result that is this value, if it is one
of_value : (P : DeskSeen → Type 0) (d : DeskSeen) (r : Result DeskSeen Memory)
    → IfOk r (λ x. x ≡ d) → P d → IfOk r P
of_value P d (Ok x) is h = subst P (sym is) h
of_value P d (Err why) is h = tt

pub loop-held-init : goal.loop-held-init
loop-held-init c =
    let same = c.in_ok-left.ensures ∙ c.in_ok-copy.ensures in
    record {
      gone = subst (λ (d : DeskSeen). AreGone 0 c.args.before.now (map_of c.args.other.now.held)
          (map_of c.args.desk.now.held) (map_of d.held)) (sym same)
          (none_gone c.args.before.now (map_of c.args.other.now.held) (map_of c.args.desk.now.held));
      base = ap (λ (d : DeskSeen). d.base) same;
    }

pub loop-held-preserved : goal.loop-held-preserved
loop-held-preserved c =
    let before = c.args.before.now in let i = c.loop-held.held-index in let e = c.held-item.result in
    let desk = map_of c.args.desk.now.held in let others = c.args.other.now.held in
    let left = map_of c.loop-held.left.held in
    let at = slice_get_read before _ i e refl c.loop-held-test.true c.held-item.is in
    let gone = c.loop-held.invariant.gone in
    let mine = c.held-in-loop-held.ensures.value in let theirs = c.held.ensures.value in
    elim c.if-is_withdrawn.branch [
      | then-is_withdrawn w ↦ let is = c.is_withdrawn.ensures.yes w.if-is_withdrawn.true in
          let next =
          one_gone i before others desk left (map_of w.withdraw.new.self.held) e at gone
          (subst (λ (es : List Entry). IsAmong es e) mine is.0)
          (λ held. is.1 (subst (λ (es : List Entry). IsAmong es e) (sym theirs) held))
          (w.withdraw.ensures.held ∙ ap (remove left) w.reference.ensures) in
          record {
            gone = subst (λ (d : DeskSeen). AreGone (i + 1) before (map_of others) desk (map_of d.held))
                (sym w.left-is) next;
            base = ap (λ (d : DeskSeen). d.base) w.left-is ∙ w.withdraw.ensures.base
                ∙ c.loop-held.invariant.base;
          }
      | else-is_withdrawn w ↦ let next =
          one_stays i before others desk left left e at gone
          (λ held. subst (λ (es : List Entry). IsAmong es e) theirs
          (c.is_withdrawn.ensures.no w.if-is_withdrawn.false
          (subst (λ (es : List Entry). IsAmong es e) (sym mine) held))) in
          record {
            gone = subst (λ (d : DeskSeen). AreGone (i + 1) before (map_of others) desk (map_of d.held))
                (sym w.left-is) next;
            base = ap (λ (d : DeskSeen). d.base) w.left-is ∙ c.loop-held.invariant.base;
          }
    ]

pub returns : goal.returns
returns c =
    of_value (IsWithoutWithdrawn c.args.before.now c.args.other.now c.args.desk.now)
    c.loop-held.left c.finish.result c.finish.ensures
    (record {
      base = c.loop-held.invariant.base;
      holds = all_gone c.loop-held.held-index c.args.before.now (map_of c.args.other.now.held)
          (map_of c.args.desk.now.held) (map_of c.loop-held.left.held) c.requires
          c.loop-held-test.false c.loop-held.invariant.gone;
    })
