-- Two answers are alike if their steps are: the first steps, and then the next ones of values that are
-- the same.
use Rattle.std.proofs.Common.{◌≡◌, ◌∙◌, inl, inr, List, [], ◌∷◌, ◌++◌, ℕ, Option, Some, None, Ok, Err}
use Rattle.std.proofs.Common.{Bool, true, false, ◌&&◌}
use Rattle.std.proofs.Common.{sym, ap, ap₂, subst, refl}
use Rattle.ssim_program.specs.Acts.{Act, Print, found_then, printed_by, prints, reports}
use Rattle.ssim_program.specs.Answer.{Answer, Finds, Gives, OneOr, OrElse, Require, ◌>>=◌}
use Rattle.ssim_program.specs.EqualFiles.{AreAlike, AreOneRefusal, PrintTheSame}
use Rattle.ssim_program.specs.print.Refusal.{IsMemory}
use Rattle.ssim_program.specs.declared.refusal.Refusal.{Refusal}
use Rattle.ssim_program.proofs.Origins.{same_some}

-- two values are equal
abbrev pub Equal : {A : Type 0} → A → A → Type 0
Equal a b = a ≡ b

pub then_alike : {A B : Type 0} (R : A → A → Type 0) (S : B → B → Type 0) (one other : Answer A)
    (next after : A → Answer B) → AreAlike R one other
    → ((a b : A) → R a b → AreAlike S (next a) (after b)) → AreAlike S (one >>= next) (other >>= after)
then_alike R S one other next after h on = record {
  values = λ x y (a, is, gives) (b, is_too, gives_too). (on a b (h.values a b is is_too)).values x y
      gives gives_too;
  refusals = λ why that p q. by why that p q;
  first = λ x that p q. one_way x that p q;
  second = λ why y p q. other_way why y p q;
}
  where
    by : (why that : Refusal) → (one >>= next) (Err why) → (other >>= after) (Err that)
        → AreOneRefusal why that
    by why that (inl p) (inl q) = h.refusals why that p q
    by why that (inl p) (inr (b, is_too, q)) = inl (h.second why b p is_too)
    by why that (inr (a, is, p)) (inl q) = inr (inl (h.first a that is q))
    by why that (inr (a, is, p)) (inr (b, is_too, q)) =
        (on a b (h.values a b is is_too)).refusals why that p q

    one_way : (x : _) (that : Refusal) → (one >>= next) (Ok x) → (other >>= after) (Err that)
        → IsMemory that
    one_way x that (a, is, gives) (inl q) = h.first a that is q
    one_way x that (a, is, gives) (inr (b, is_too, q)) =
        (on a b (h.values a b is is_too)).first x that gives q

    other_way : (why : Refusal) (y : _) → (one >>= next) (Err why) → (other >>= after) (Ok y)
        → IsMemory why
    other_way why y (inl p) (b, is_too, gives) = h.second why b p is_too
    other_way why y (inr (a, is, p)) (b, is_too, gives) =
        (on a b (h.values a b is is_too)).second why y p gives

pub gives_alike : {A : Type 0} (x y : A) → x ≡ y → AreAlike Equal (Gives x) (Gives y)
gives_alike x y same = record {
  values = λ a b is are. is ∙ same ∙ sym are;
  refusals = λ why that p q. inl p;
  first = λ a that p q. q;
  second = λ why b p q. p;
}

pub finds_alike : {A : Type 0} (P Q : A → Type 0) → ((a b : A) → P a → Q b → a ≡ b)
    → AreAlike Equal (Finds P) (Finds Q)
finds_alike P Q same = record {
  values = same;
  refusals = λ why that p q. inl p;
  first = λ a that p q. q;
  second = λ why b p q. p;
}

some_none : {A : Type 0} (a : A) → Some a ≡ None → ⊥
some_none a h = cc

pub or_else_alike : {A : Type 0} (found : Option A) (refusal : Refusal)
    → AreAlike Equal (OrElse found refusal) (OrElse found refusal)
or_else_alike found refusal = record {
  values = λ a b is are. same_some a b (sym is ∙ are);
  refusals = λ why that p q. inr (inr (inl (p.1 ∙ sym q.1)));
  first = λ a that p q. absurd (some_none a (sym p ∙ q.0));
  second = λ why b p q. absurd (some_none b (sym q ∙ p.0));
}

pub one_or_alike : {A : Type 0} (P : A → Type 0) (refusal : Refusal) → ((a b : A) → P a → P b → a ≡ b)
    → AreAlike Equal (OneOr P refusal) (OneOr P refusal)
one_or_alike P refusal same = record {
  values = same;
  refusals = λ why that p q. inr (inr (inl (p.1 ∙ sym q.1)));
  first = λ a that p q. absurd (q.0 a p);
  second = λ why b p q. absurd (p.0 b q);
}

-- both are nothing
abbrev pub Nothing : Unit {0} → Unit {0} → Type 0
Nothing x y = Unit {0}

pub require_alike : (P : Type 0) (refusal : Refusal)
    → AreAlike Nothing (Require P refusal) (Require P refusal)
require_alike P refusal = record {
  values = λ x y p q. tt;
  refusals = λ why that p q. inr (inr (inl (p.1 ∙ sym q.1)));
  first = λ x that p q. absurd (q.0 p);
  second = λ why y p q. absurd (p.0 q);
}

-- to say that something was found prints nothing
printed_too : (found : Bool) (acts : List Act) → printed_by (found_then found acts) ≡ printed_by acts
printed_too true acts = refl
printed_too false acts = refl

-- equal bytes are printed of what was found
pub reports_alike : (asked : Bool) (one other : Answer (List ℕ × Bool)) → AreAlike Equal one other
    → AreAlike PrintTheSame (reports asked one) (reports asked other)
reports_alike asked one other h = record {
  values = λ acts again (made, is, all) (more, are, all_too).
      ap printed_by all ∙ (printed_too (asked && made.1) (Print made.0 ∷ [])
      ∙ (ap (λ (m : List ℕ × Bool). m.0 ++ []) (h.values made more is are)
      ∙ sym (ap printed_by all_too ∙ printed_too (asked && more.1) (Print more.0 ∷ []))));
  refusals = h.refusals;
  first = λ acts that (made, is, all) q. h.first made that is q;
  second = λ why acts p (made, is, all). h.second why made p is;
}

-- equal bytes are printed
pub prints_alike : (lines others : Answer (List ℕ)) → AreAlike Equal lines others
    → AreAlike PrintTheSame (prints lines) (prints others)
prints_alike lines others h = record {
  values = λ acts again (bytes, is, all) (more, are, all_too).
      ap printed_by all ∙ ap (λ (bs : List ℕ). bs ++ []) (h.values bytes more is are)
      ∙ sym (ap printed_by all_too);
  refusals = h.refusals;
  first = λ acts that (bytes, is, all) q. h.first bytes that is q;
  second = λ why acts p (bytes, is, all). h.second why bytes p is;
}
