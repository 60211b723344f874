-- Desks that the same messages reached are equal, as are their meanings and exports.
use Rattle.std.proofs.Common.{◌≡◌, ◌⊎◌, inl, inr, ℕ, ◌<◌, ◌==◌, Bool, true, false, List, length, Option, Some, None, Result, refl, sym, ap, subst, ◌∙◌}
use Rattle.std.proofs.lemmas.Bool.Decides.{Decides-eqb}
use Rattle.std.specs.FinMap.{get, same_map}
use Rattle.ssim_base.specs.BaseSeen.{BaseSeen, WasRead}
use Rattle.ssim_base.specs.Export.{ExportRefusal}
use Rattle.ssim_base.specs.ReadBack.{BasesExport}
use Rattle.ssim_base.specs.Reading.{SameBytesSameBase}
use Rattle.ssim_base.specs.Stations.{SameBytesSameRows}
use Rattle.ssim_text.specs.Grammar.{OneMessage}
use Rattle.ssim_text.specs.Message.{MessageValue}
use Rattle.ssim_text.specs.declared.reference.Reference.{Reference}
use Rattle.ssim_held.specs.Held.{DeskState, HasReference, Holds, IsDesk, no_desk}
use Rattle.ssim_held.proofs.References.{reference_apart, reference_total}
use Rattle.ssim_desk.specs.Agreement.{AnyTwoDesksAgree, AreAgreed, BeganAlike, BeganFrom, Run, SameMessagesSameDesk}
use Rattle.ssim_desk.specs.Meaning.{Exports, Means, Timetable}
use Rattle.ssim_desk.specs.Deliveries.{Brings, by_text, from_start, from_step}
use Rattle.ssim_desk.specs.Steps.{MergesOne, desk_at}
use Rattle.ssim_desk.specs.declared.steps.Answer.TheVariants.{Merged}
use Rattle.ssim_desk.proofs.Meanings.{has_export, has_meaning, has_one_export, has_one_meaning}
use Rattle.ssim_desk.proofs.Moments.{at_end, at_step}
use Rattle.ssim_desk.proofs.Reaching.{SoFar}

same_option : (a b : Option MessageValue) → ((m : MessageValue) → a ≡ Some m → b ≡ Some m) → ((m : MessageValue) → b ≡ Some m → a ≡ Some m) → a ≡ b
same_option None None f g = refl
same_option None (Some y) f g = g y refl
same_option (Some x) b f g = sym (f x refl)

pub same_desk : (v w : DeskState) → v.base ≡ w.base → ((r : Reference) (m : MessageValue) → Holds v r m → Holds w r m) → ((r : Reference) (m : MessageValue) → Holds w r m → Holds v r m) → v ≡ w
same_desk v w base f g =
    let held : v.held ≡ w.held = same_map reference_total reference_apart v.held w.held (λ q. same_option (get v.held q) (get w.held q) (f q) (g q)) in
    λ i. record { base = base i; held = held i }

one_side : {A B C D : Type 0} → (A → C) → (B → D) → A ⊎ B → C ⊎ D
one_side f g (inl a) = inl (f a)
one_side f g (inr b) = inr (g b)

pub same_messages_same_desk : OneMessage → SameMessagesSameDesk
same_messages_same_desk one here there d e took began =
    let mine = at_end one here.start here.after here.steps here.answers here.in_range here.runs in
    let theirs = at_end one there.start there.after there.steps there.answers there.in_range there.runs in
    same_desk (desk_at here.after d) (desk_at there.after e)
    (mine.base d ∙ ap (λ (x : DeskState). x.base) began ∙ sym (theirs.base e))
    (λ r m h. (theirs.holds e r m took.there).1 (one_side (λ k. ap (λ (x : DeskState). get x.held r) (sym began) ∙ k) (took.reached r m).0 ((mine.holds d r m took.here).0 h)))
    (λ r m h. (mine.holds d r m took.here).1 (one_side (λ k. ap (λ (x : DeskState). get x.held r) began ∙ k) (took.reached r m).1 ((theirs.holds e r m took.there).0 h)))

-- ---- a desk stays a desk

-- desks that were merged have one base
merged_base : (start now next : List DeskState) (into from : ℕ) (same : Bool) → (into == from) ≡ same → MergesOne same now into from Merged next
    → ((d : ℕ) → (let x = desk_at now d in let y = desk_at start d in x.base ≡ y.base)) → (let x = desk_at start into in let y = desk_at start from in x.base ≡ y.base)
merged_base start now next into from true e is base = ap (λ k. let x = desk_at start k in x.base) ((Decides-eqb into from).0 e)
merged_base start now next into from false e is base = sym (base into) ∙ is.merges.base ∙ base from

module _ (one : OneMessage) (run : Run) where
  -- what reaches a desk has its reference in the desk's base
  reaches_with_reference : {k d : ℕ} {r : Reference} {m : MessageValue} → Brings run.start run.steps run.answers k d r m → (let x = desk_at run.start d in HasReference x.base r m)
  reaches_with_reference (by_text text answer is accepted says) = record { resolved = says.resolved; resolves = says.resolves; referred = says.referred }
  reaches_with_reference (from_start {k = k} {d = d} {reference = r} {message = m} from is held) =
      let moment = at_step one run.start run.after run.steps run.answers run.in_range run.runs k _ Merged is in
      subst (λ base. HasReference base r m) (sym (merged_base run.start moment.now moment.next d from (d == from) refl moment.acts moment.so_far.base))
      ((run.desks from no_desk moment.in_range.1).each r m held)
  reaches_with_reference (from_step {k = k} {d = d} {reference = r} {message = m} from j is lt b) =
      let moment = at_step one run.start run.after run.steps run.answers run.in_range run.runs k _ Merged is in
      subst (λ base. HasReference base r m) (sym (merged_base run.start moment.now moment.next d from (d == from) refl moment.acts moment.so_far.base))
      (reaches_with_reference b)

  desk_after : (d : ℕ) → d < length run.start → IsDesk (desk_at run.after d)
  desk_after d lt = record {
    base = subst (λ (x : BaseSeen). WasRead x.records) (sym (far.base d)) (run.desks d no_desk lt).base;
    each = λ r m h. subst (λ base. HasReference base r m) (sym (far.base d)) (by r m ((far.holds d r m lt).0 h));
  }
    where
      far : SoFar run.start run.after (λ d r m. (k : ℕ) × Brings run.start run.steps run.answers k d r m)
      far = at_end one run.start run.after run.steps run.answers run.in_range run.runs

      by : (r : Reference) (m : MessageValue) → Holds (desk_at run.start d) r m ⊎ ((k : ℕ) × Brings run.start run.steps run.answers k d r m) → (let x = desk_at run.start d in HasReference x.base r m)
      by r m (inl h) = (run.desks d no_desk lt).each r m h
      by r m (inr reached) = reaches_with_reference reached.1

-- ---- the headline

one_beginning : SameBytesSameBase → SameBytesSameRows → (data_set stations : List ℕ) (v w : DeskState) → BeganFrom data_set stations v → BeganFrom data_set stations w → v ≡ w
one_beginning same_base same_rows data_set stations v w from_v from_w =
    let records = (same_base data_set from_v.limit from_w.limit v.base.records w.base.records from_v.notes from_w.notes from_v.read from_w.read).0 in
    let rows = same_rows stations v.base.rows w.base.rows from_v.rows from_w.rows in
    let held : v.held ≡ w.held = from_v.nothing ∙ sym from_w.nothing in
    λ i. record { base = record { records = records i; rows = rows i }; held = held i }

agreed : BasesExport → (v w : DeskState) → IsDesk v → v ≡ w → AreAgreed v w
agreed export v w is same =
    let meaning = has_meaning v is in
    let answer = has_export export v is in
    record {
      same = same;
      timetable = meaning.0;
      means_one = meaning.1;
      means_other = subst (λ x. Means x meaning.0) same meaning.1;
      no_other = means meaning.0 meaning.1;
      answer = answer.0;
      exports_one = answer.1;
      exports_other = subst (λ x. Exports x answer.0) same answer.1;
      no_other_answer = exports answer.0 answer.1;
    }
  where
    means : (t : Timetable) → Means v t → (meant : Timetable) → Means v meant ⊎ Means w meant → meant ≡ t
    means t is_t meant (inl h) = has_one_meaning v meant t h is_t
    means t is_t meant (inr h) = has_one_meaning v meant t (subst (λ x. Means x meant) (sym same) h) is_t

    exports : (a : Result (List ℕ) ExportRefusal) → Exports v a → (given : Result (List ℕ) ExportRefusal) → Exports v given ⊎ Exports w given → given ≡ a
    exports a is_a given (inl h) = has_one_export v given a h is_a
    exports a is_a given (inr h) = has_one_export v given a (subst (λ x. Exports x given) (sym same) h) is_a

pub any_two_desks_agree : OneMessage → SameBytesSameBase → SameBytesSameRows → BasesExport → AnyTwoDesksAgree
any_two_desks_agree one same_base same_rows export here there d e took began =
    agreed export (desk_at here.after d) (desk_at there.after e) (desk_after one here d took.here) (same_messages_same_desk one here there d e took (start began))
  where
    start : BeganAlike (desk_at here.start d) (desk_at there.start e) → desk_at here.start d ≡ desk_at there.start e
    start (inl (data_set, stations, from_here, from_there)) = one_beginning same_base same_rows data_set stations (desk_at here.start d) (desk_at there.start e) from_here from_there
    start (inr same) = same
