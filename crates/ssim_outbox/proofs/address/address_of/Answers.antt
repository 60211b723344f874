-- The carrier records are those of the frames; what is refused is refused in this order.
use Rattle.std.proofs.Common.{◌≡◌, ℕ, List, Result, Err, IfErr, refl, sym, subst, rules}
use Rattle.ssim_base.specs.Export.{Frame}
use Rattle.ssim_base.specs.clauses.Export.{frame_from}
use Rattle.ssim_base.specs.ReadBack.{HasFrame}
use Rattle.ssim_held.specs.Entries.{Entry}
use Rattle.ssim_outbox.specs.Comparable.{HaveCarriers}
use Rattle.ssim_outbox.specs.Heading.{NamesHeading}
use Rattle.ssim_outbox.specs.Order.{Follows, RefusesOrder}
use Rattle.ssim_outbox.specs.Publication.{RefusesPublication}
use Rattle.ssim_outbox.specs.internal.Addressed.{HasReference, RefusesDate}
use Rattle.ssim_outbox.specs.internal.Headings.{RefusesWord}
use Rattle.ssim_outbox.proofs.Addressing.{addressed, foreign, framed, no_date, no_heading, not_after}
use Rattle.ssim_outbox.proofs.address.address_of.Goals.{After-compare, After-follows}
use Rattle.ssim_outbox.proofs.address.address_of.Goals.{After-reference_of}
use Rattle.ssim_outbox.proofs.address.address_of.Goals as goal

-- a result that is an error has what holds of the error
at_err : {A E : Type 0} (r : Result A E) (e : E) (P : E → Type 0) → r ≡ Err e → P e → IfErr r P
at_err r e P is h = subst (λ x. IfErr x P) (sym is) h

-- the carrier records that are compared are those of the two desks
abbrev carriers : (c : After-compare)
    → HaveCarriers c.args.from.now.base.records c.args.to.now.base.records
carriers c =
    let r = c.records.result in
    let s = c.records-2.result in
    let mine = frame_from r.0.now r.1.now r.2.now in
    let theirs = frame_from s.0.now s.1.now s.2.now in
    record {
      mine = mine;
      theirs = theirs;
      has = framed c.base.result.now c.args.from.now c.frame-frame.result.now mine c.base.ensures
          c.frame-frame.ensures c.records.ensures.value;
      has_too = framed c.base-2.result.now c.args.to.now c.frame.result.now theirs c.base-2.ensures
          c.frame.ensures c.records-2.ensures.value;
    }

own : (c : After-compare) → HasFrame c.frame-frame.result.now c.args.from.now.base.records
own c =
    framed c.base.result.now c.args.from.now c.frame-frame.result.now c.frame-frame.result.now
    c.base.ensures c.frame-frame.ensures refl

-- the word names the heading
names : (c : After-reference_of)
    → NamesHeading c.records.result.1.now.time_mode c.args.word.now c.in_ok-heading.heading
names c =
    subst (λ (w : List ℕ). NamesHeading c.records.result.1.now.time_mode w c.in_ok-heading.heading)
    c.as_bytes.ensures.value c.in_ok-heading.ensures.named

-- the reference is the one that the heading means to the first desk
has_reference : (c : After-follows)
    → HasFrame c.frame-frame.result.now c.args.from.now.base.records
    → HasReference c.records.result.1.now c.in_ok-heading.heading c.in_ok-reference.reference
has_reference c own =
    subst
    (λ (x : Frame). HasReference x.carrier c.in_ok-heading.heading c.in_ok-reference.reference)
    (sym c.records.ensures.value) (c.in_ok-reference.ensures.ok c.args.from.now.base.records own)

pub returns-in_err-compare-clause-err : goal.returns-in_err-compare-clause-err
returns-in_err-compare-clause-err c =
    let at = goal.at.returns-in_err-compare-clause-err c in
    let from = c.args.from.now in let to = c.args.to.now in let word = c.args.word.now in
    let refusal = c.in_err-compare.field-0.0 in
    at_err c.from_residual.result refusal (RefusesPublication from to word) (search rules)
    (foreign from to word (carriers at.After-compare) refusal c.in_err-compare.ensures.err)

pub returns-in_err-heading-clause-err : goal.returns-in_err-heading-clause-err
returns-in_err-heading-clause-err c =
    let at = goal.at.returns-in_err-heading-clause-err c in
    let from = c.args.from.now in let to = c.args.to.now in let word = c.args.word.now in
    let refusal = c.in_err-heading.field-0.0 in
    at_err c.from_residual-in_err-heading.result refusal (RefusesPublication from to word)
    (search rules)
    (no_heading from to word (carriers at.After-compare) c.in_ok-compare.ensures.airline
    c.in_ok-compare.ensures.mode refusal
    (subst (λ (w : List ℕ). RefusesWord c.records.result.1.now.time_mode w refusal)
    c.as_bytes.ensures.value c.in_err-heading.ensures.err))

pub returns-in_err-reference-clause-err : goal.returns-in_err-reference-clause-err
returns-in_err-reference-clause-err c =
    let at = goal.at.returns-in_err-reference-clause-err c in
    let from = c.args.from.now in let to = c.args.to.now in let word = c.args.word.now in
    let m = c.in_ok-heading.heading in
    let refusal = c.in_err-reference.field-0.0 in
    at_err c.from_residual-in_err-reference.result refusal (RefusesPublication from to word)
    (search rules)
    (no_date from to word (carriers at.After-compare) c.in_ok-compare.ensures.airline
    c.in_ok-compare.ensures.mode m (names at.After-reference_of) refusal
    (subst (λ (x : Frame). RefusesDate x.carrier m refusal) (sym c.records.ensures.value)
    (c.in_err-reference.ensures.err from.base.records (own at.After-compare))))

pub returns-in-Ok-clause-ok : goal.returns-in-Ok-clause-ok
returns-in-Ok-clause-ok c =
    let at = goal.at.returns-in-Ok-clause-ok c in
    addressed c.args.from.now c.args.to.now c.args.word.now (carriers at.After-compare)
    c.in_ok-compare.ensures.airline c.in_ok-compare.ensures.mode c.in_ok-heading.heading
    (names at.After-reference_of) c.in_ok-reference.reference
    (has_reference at.After-follows (own at.After-compare))
    (subst (Follows c.in_ok-reference.reference) c.held.ensures.value c.in-Ok.ensures.ok)

pub returns-in-Err-clause-err : goal.returns-in-Err-clause-err
returns-in-Err-clause-err c =
    let at = goal.at.returns-in-Err-clause-err c in
    let reference = c.in_ok-reference.reference in
    not_after c.args.from.now c.args.to.now c.args.word.now (carriers at.After-compare)
    c.in_ok-compare.ensures.airline c.in_ok-compare.ensures.mode c.in_ok-heading.heading
    (names at.After-reference_of) reference
    (has_reference at.After-follows (own at.After-compare)) c.in-Err.last
    (subst (λ (es : List Entry). RefusesOrder reference es c.in-Err.last) c.held.ensures.value
    c.in-Err.ensures.err)
