-- An order of makers, by which equal ones are found among many: that of their numbers. Two makers
-- are equal exactly if their numbers are.
use Rattle.std.proofs.Common.{◌≡◌, ◌↔◌, ◌∙◌, ℕ, zero, suc, List, [], ◌∷◌, refl, sym, ap}
use Rattle.std.proofs.Common.{IsTrue}
use Rattle.std.specs.Cmp.{IsTotalOrder, on_total}
use Rattle.std.specs.Cmp.Lexicographic.{nat_list_cmp_total, slice_cmp}
use Rattle.std.specs.Ordering.{is_eq, nat_cmp}
use Rattle.std.specs.declared.cmp.Ordering.{Ordering}
use Rattle.std.proofs.lemmas.Map.Text.{is_eq-slice_cmp}
use Rattle.std.proofs.lemmas.Slice.Eq.{bytes_eq-Decides}
use Rattle.ssim_text.specs.Reference.{kind_number}
use Rattle.ssim_text.specs.declared.kind.ActionIdentifier.{ActionIdentifier}
use Rattle.ssim_text.specs.declared.kind.ActionIdentifier.TheVariants.{New, Cnl, Rpl, Eqt, Tim}
use Rattle.ssim_text.specs.declared.kind.Kind.{Kind}
use Rattle.ssim_text.specs.declared.kind.Kind.TheVariants.{Ssm, Asm}
use Rattle.ssim_blame.specs.Makers.{action_number, maker_numbers, same_maker}
use Rattle.ssim_blame.specs.declared.maker.Maker.{Maker}
use Rattle.ssim_blame.specs.declared.maker.Maker.TheVariants.{Nobody, DataSet, Sub}

-- the order of two makers
abbrev pub maker_cmp : Maker → Maker → Ordering
maker_cmp one other = slice_cmp nat_cmp (maker_numbers one) (maker_numbers other)

-- the kind of this number
kind_of : ℕ → Kind
kind_of zero = Ssm
kind_of (suc n) = Asm

kind_back : (k : Kind) → kind_of (kind_number k) ≡ k
unfolding kind_of
kind_back Ssm = refl
kind_back Asm = refl

-- the action of this number
action_of : ℕ → ActionIdentifier
action_of zero = New
action_of (suc zero) = Cnl
action_of (suc (suc zero)) = Rpl
action_of (suc (suc (suc zero))) = Eqt
action_of (suc (suc (suc (suc n)))) = Tim

action_back : (a : ActionIdentifier) → action_of (action_number a) ≡ a
unfolding action_of
action_back New = refl
action_back Cnl = refl
action_back Rpl = refl
action_back Eqt = refl
action_back Tim = refl

abbrev named : ℕ → ActionIdentifier → ℕ → ℕ → ℕ → Kind → List ℕ → Maker
named number action date group serial kind originator = Sub (record {
  reference = record {
    date = date;
    group = group;
    serial = serial;
    kind = kind;
    originator = originator;
  };
  sub = number;
  action = action;
})

-- the maker of these numbers
maker_of : List ℕ → Maker
maker_of [] = Nobody
maker_of (one ∷ []) = DataSet
maker_of (one ∷ number ∷ action ∷ date ∷ group ∷ serial ∷ kind ∷ originator) =
    named number (action_of action) date group serial (kind_of kind) originator
maker_of _ = Nobody

read_back : (x : Maker) → maker_of (maker_numbers x) ≡ x
unfolding maker_of
read_back Nobody = refl
read_back DataSet = refl
read_back (Sub name) =
    let r = name.reference in
    ap (λ (a : ActionIdentifier).
    named name.sub a r.date r.group r.serial (kind_of (kind_number r.kind)) r.originator)
    (action_back name.action)
    ∙ ap (λ (k : Kind). named name.sub name.action r.date r.group r.serial k r.originator)
    (kind_back r.kind)

pub maker_cmp_total : IsTotalOrder maker_cmp
maker_cmp_total = on_total maker_numbers nat_list_cmp_total

pub makers_told_apart : (x y : Maker) → same_maker x y ≡ is_eq (maker_cmp x y)
makers_told_apart x y = sym (is_eq-slice_cmp (maker_numbers x) (maker_numbers y))

pub same_maker_exact : (x y : Maker) → IsTrue (same_maker x y) ↔ (x ≡ y)
same_maker_exact x y = (
  λ same. sym (read_back x)
      ∙ ap maker_of ((bytes_eq-Decides (maker_numbers x) (maker_numbers y)).0 same) ∙ read_back y,
  λ equal. (bytes_eq-Decides (maker_numbers x) (maker_numbers y)).1 (ap maker_numbers equal),
)
