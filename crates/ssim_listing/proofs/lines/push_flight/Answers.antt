-- There is no piece, or there is one.
use Rattle.std.proofs.Common.{◌≡◌, ◌++◌, ◌∷◌, [], List, ℕ, OnOk, length, refl, subst, arith}
use Rattle.ssim_base.specs.Export.{Piece}
use Rattle.ssim_listing.specs.Lines.{no_flight}
use Rattle.ssim_listing.specs.internal.Divisions.{divided_lines, part_lines}
use Rattle.ssim_listing.specs.declared.division.Division.{Division}
use Rattle.ssim_listing.specs.declared.division.Division.TheVariants.{Periods, Dates}
use Rattle.ssim_listing.proofs.lines.push_flight.Goals as goal

there_is_none : (division : Division) (name : List ℕ) (pieces : List Piece) → length pieces ≡ 0
    → no_flight name ≡ divided_lines division name pieces
there_is_none Periods name [] none = refl
there_is_none Periods name (piece ∷ pieces) none = absurd (omega arith)
there_is_none Dates name [] none = refl
there_is_none Dates name (piece ∷ pieces) none = absurd (omega arith)

there_is_one : (division : Division) (name : List ℕ) (pieces : List Piece) (first : Piece) (later : List Piece)
    → pieces ≡ first ∷ later → part_lines division name pieces ≡ divided_lines division name pieces
there_is_one Periods name [] first later is = absurd cc
there_is_one Periods name (piece ∷ pieces) first later is = refl
there_is_one Dates name [] first later is = absurd cc
there_is_one Dates name (piece ∷ pieces) first later is = refl

pub returns-in-None : goal.returns-in-None
returns-in-None c =
    subst (λ (bytes : List ℕ). OnOk c.push_no_flight.result (c.push_no_flight.new.lines.items ≡ c.args.lines.now.items ++ bytes))
    (there_is_none c.args.division c.args.name.now c.args.pieces.now c.in-None.ensures.cases) c.push_no_flight.ensures

pub returns-in-Some : goal.returns-in-Some
returns-in-Some c =
    subst (λ (bytes : List ℕ). OnOk c.push_parts.result (c.push_parts.new.lines.items ≡ c.args.lines.now.items ++ bytes))
    (there_is_one c.args.division c.args.name.now c.args.pieces.now c.in-Some.field-0.0.now c.in-Some.field-0.1.now
    c.in-Some.ensures.cases.0) c.push_parts.ensures
