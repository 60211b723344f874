-- Two legs are the same if each part is the same.
use Rattle.std.proofs.Common.{◌≡◌, ap, sym, ◌∙◌, true, false}
use Rattle.std.specs.Prelude.{not}
use Rattle.std.proofs.lemmas.Bool.{both_ways, not-false}
use Rattle.std.proofs.lemmas.Bool.Decides.{Decides-eqb}
use Rattle.std.proofs.lemmas.Slice.Eq.{bytes_eq-Decides}
use Rattle.ssim_columns.specs.Leg.{LegFields}
use Rattle.ssim_columns.proofs.lemmas.Days.{days_decide, days_eq}
use Rattle.ssim_columns.proofs.lemmas.Legs.{leg_of_parts}
use Rattle.ssim_columns.proofs.lemmas.Names.{names_decide, names_eq}
use Rattle.ssim_records.proofs.record.leg.LegRecord.same.Goals as goal

pub returns-then-ne : goal.returns-then-ne
returns-then-ne c =
    let a = c.self.inside.name in
    let b = c.other.inside.name in
    (λ h. absurd cc, λ e. let same : names_eq a b ≡ true = (names_decide a b).1 (ap (λ (l : LegFields). l.name) (c.self.view_is ∙ e ∙ sym c.other.view_is)) in let k : c.ne.result ≡ false = c.ne.ensures ∙ ap not same in absurd (both_ways _ k c.if-ne.true))

pub returns-then-ne-3 : goal.returns-then-ne-3
returns-then-ne-3 c =
    let a = c.self.inside.days in
    let b = c.other.inside.days in
    (λ h. absurd cc, λ e. let same : days_eq a b ≡ true = (days_decide a b).1 (ap (λ (l : LegFields). l.days) (c.self.view_is ∙ e ∙ sym c.other.view_is)) in let k : c.ne-3.result ≡ false = c.ne-3.ensures ∙ ap not same in absurd (both_ways _ k c.if-ne-3.true))

pub returns : goal.returns
returns c =
    let a = c.self.inside in
    let b = c.other.inside in
    let v = c.self.view_is in
    let w = c.other.view_is in
    let name : a.name ≡ b.name = (names_decide a.name b.name).0 (not-false _ (sym c.ne.ensures ∙ c.if-ne.false)) in
    let first : a.first ≡ b.first = (Decides-eqb a.first b.first).0 (not-false _ (sym c.ne-2.ensures ∙ c.if-ne-2.false)) in
    let last : a.last ≡ b.last = c.same_end.ensures.0 c.if-not-same_end.false in
    let days : a.days ≡ b.days = (days_decide a.days b.days).0 (not-false _ (sym c.ne-3.ensures ∙ c.if-ne-3.false)) in
    let own = bytes_eq-Decides a.columns b.columns in
    (λ h. sym v ∙ leg_of_parts _ _ name first last days c.if-self-other.false c.if-self-other-2.false c.if-self-other-3.false (own.0 (sym c.same.ensures ∙ h)) ∙ w, λ e. c.same.ensures ∙ own.1 (ap (λ (l : LegFields). l.columns) (v ∙ e ∙ sym w)))
