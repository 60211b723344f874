-- The tests of a name, one after another.
use Rattle.std.proofs.Common.{◌≡◌, ◌∙◌, ℕ, Bool, true, false, List, length, Some, None, refl, sym, ap, arith}
use Rattle.std.specs.Prelude.{◌==◌, nat_lt}
use Rattle.std.specs.List.{list_any}
use Rattle.std.specs.Str.{IsUtf8, is_utf8}
use Rattle.std.proofs.lemmas.Bool.Decides.{nat_tests}
use Rattle.std.proofs.lemmas.Str.{is_utf8-from_IsUtf8, IsUtf8-from_is_utf8}
use Rattle.ssim_program.specs.rehearse.Script.{name_in}
use Rattle.ssim_program.proofs.rehearse.script.name_in.Goals as goal

long : (n : ℕ) → (n == 0) ≡ false → nat_lt 0 n ≡ true
long n e = grind (arith, nat_tests)

named : (text : List ℕ) → nat_lt 0 (length text) ≡ true → list_any (λ b. b == 32) text ≡ false
    → is_utf8 text ≡ true → name_in text ≡ Some text
named text a b d = rw (a, b, d) refl

unnamed : (text : List ℕ) → nat_lt 0 (length text) ≡ true → list_any (λ b. b == 32) text ≡ false
    → is_utf8 text ≡ false → name_in text ≡ None
unnamed text a b d = rw (a, b, d) refl

not_utf8 : (text : List ℕ) (b : Bool) → is_utf8 text ≡ b → (IsUtf8 text → ⊥) → is_utf8 text ≡ false
not_utf8 text true e never = absurd (never (IsUtf8-from_is_utf8 text e))
not_utf8 text false e never = e

pub returns-in-Ok : goal.returns-in-Ok
returns-in-Ok c =
    let text = c.args.text.now in
    ap Some c.in-Ok.ensures.cases.0
    ∙ sym (named text (long (length text) (sym c.if-is_empty.ensures))
    (sym c.if-contains.ensures.value) (is_utf8-from_IsUtf8 text c.in-Ok.ensures.cases.1))

pub returns-in-Err : goal.returns-in-Err
returns-in-Err c =
    let text = c.args.text.now in
    sym (unnamed text (long (length text) (sym c.if-is_empty.ensures))
    (sym c.if-contains.ensures.value)
    (not_utf8 text (is_utf8 text) refl c.in-Err.ensures.cases.0))
