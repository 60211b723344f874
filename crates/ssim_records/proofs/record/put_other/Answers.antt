-- The byte in column 1 says which table the fault is of; an unknown type has no table.
use Rattle.std.proofs.Common.{◌≡◌, ◌≢◌, ◌∷◌, [], ℕ, List, Err, false, rules, ap, ◌∙◌, arith, inl, inr}
use Rattle.std.specs.Prelude.{◌==◌}
use Rattle.std.proofs.lemmas.Bool.Decides.{nat_tests}
use Rattle.ssim_records.proofs.AnyRecord.{header_fault, carrier_fault, trailer_fault, other_fault}
use Rattle.ssim_columns.proofs.lemmas.Choices.{pick}
use Rattle.ssim_records.proofs.record.put_other.Goals as goal

abbrev only_byte : ℕ → List ℕ
only_byte kind = kind ∷ []

is_other : (t : List ℕ) (k n : ℕ) → t ≡ k ∷ [] → t ≢ n ∷ [] → (k == n) ≡ false
is_other t k n is other = elim (pick (k == n)) [ inl e ↦ (let same : k ≡ n = grind (arith, nat_tests, e) in absurd (other (is ∙ ap only_byte same))) | inr f ↦ f ]

pub returns-in_err-read_header-in-49-clause-err : goal.returns-in_err-read_header-in-49-clause-err
returns-in_err-read_header-in-49-clause-err c =
    let e : c.from_residual.result ≡ Err c.in_err-read_header-in-49.field-0.0 = search rules in
    rw e (λ number. header_fault number c.args.bytes.now c.in_err-read_header-in-49.field-0.0 (c.kind_of.ensures ∙ ap only_byte c.in-49.is) c.in_err-read_header-in-49.ensures.err)

pub returns-in_err-read_carrier-in-50-clause-err : goal.returns-in_err-read_carrier-in-50-clause-err
returns-in_err-read_carrier-in-50-clause-err c =
    let e : c.from_residual-in_err-read_carrier-in-50.result ≡ Err c.in_err-read_carrier-in-50.field-0.0 = search rules in
    rw e (λ number. carrier_fault number c.args.bytes.now c.in_err-read_carrier-in-50.field-0.0 (c.kind_of.ensures ∙ ap only_byte c.in-50.is) c.in_err-read_carrier-in-50.ensures.err)

pub returns-in_err-read_trailer-in-53-clause-err : goal.returns-in_err-read_trailer-in-53-clause-err
returns-in_err-read_trailer-in-53-clause-err c =
    let e : c.from_residual-in_err-read_trailer-in-53.result ≡ Err c.in_err-read_trailer-in-53.field-0.0 = search rules in
    rw e (λ number. trailer_fault number c.args.bytes.now c.in_err-read_trailer-in-53.field-0.0 (c.kind_of.ensures ∙ ap only_byte c.in-53.is) c.in_err-read_trailer-in-53.ensures.err)

pub returns-in_default-clause-none : goal.returns-in_default-clause-none
returns-in_default-clause-none c = λ known number.
    let k = c.kind_of.result in
    let a : (k == 49) ≡ false = grind (arith, nat_tests) in
    let b : (k == 50) ≡ false = grind (arith, nat_tests) in
    let d : (k == 51) ≡ false = is_other _ k 51 c.kind_of.ensures c.requires.leg in
    let e : (k == 52) ≡ false = is_other _ k 52 c.kind_of.ensures c.requires.segment in
    let f : (k == 53) ≡ false = grind (arith, nat_tests) in
    other_fault number c.args.bytes.now k c.kind_of.ensures a b d e f
