-- A base and a message have at most one outcome: a date is the least of its kind, so dates,
-- sub-messages and refusals are one.
use Rattle.std.proofs.Common.{◌≡◌, ◌⊎◌, ℕ, ◌+◌, ◌<◌, ◌≤◌, Bool, true, false, nat_lt, List, [], ◌∷◌, Ok, Err, inl, inr, refl, sym, ap, subst, ◌∙◌, arith}
use Rattle.std.proofs.lemmas.Bool.Decides.{nat_tests}
use Rattle.ssim_values.specs.DayMonth.{MonthDay}
use Rattle.ssim_values.specs.Period.{DayRange}
use Rattle.ssim_values.specs.Flight.{FlightNumber}
use Rattle.ssim_records.specs.Carrier.{CarrierFields}
use Rattle.ssim_records.specs.declared.record.Record.{Record}
use Rattle.ssim_text.specs.Message.{MessageValue}
use Rattle.ssim_text.specs.declared.action.Sub.{Sub}
use Rattle.ssim_text.specs.declared.dates.Dates.{Dates}
use Rattle.ssim_text.specs.declared.dates.Dates.TheVariants.{Period, Date}
use Rattle.ssim_text.specs.declared.dates.GivenDate.{GivenDate}
use Rattle.ssim_text.specs.declared.dates.GivenDate.TheVariants.{Full, Yearless}
use Rattle.ssim_text.specs.declared.dates.GivenEnd.{GivenEnd}
use Rattle.ssim_text.specs.declared.dates.GivenEnd.TheVariants.{Until, Open}
use Rattle.ssim_text.specs.declared.kind.Kind.{Kind}
use Rattle.ssim_text.specs.declared.reference.Reference.{Reference}
use Rattle.ssim_base.specs.Export.{Frame}
use Rattle.ssim_base.specs.ReadBack.{HasFrame}
use Rattle.ssim_base.specs.Resolve.{AreDates, AreResolved, AreTurned, HasOneOutcome, IsFirstRefused, IsNext, IsOutcome, IsRefused, IsRefusedBySub, IsReferenceRefused, IsResolved, IsSameOutcome, IsSubRefused, LackYear, Means, MeansEnd, MeansNoEnd, MeansNone, Resolves, ResolvesIn, same_mode}
use Rattle.ssim_base.specs.declared.sub_message.ResolvedSub.{ResolvedSub}
use Rattle.ssim_base.specs.declared.resolution.ResolveFault.{ResolveFault}
use Rattle.ssim_base.specs.declared.resolution.ResolveFault.TheVariants as fault
use Rattle.ssim_base.specs.declared.resolution.ResolvedText.{ResolvedText}
use Rattle.ssim_base.proofs.Bytes.{same-frame}

-- ---- dates

next-one : (from : ℕ) (date : MonthDay) (x y : ℕ) → IsNext from date x → IsNext from date y → x ≡ y
next-one from date x y a b =
    elim (nat_lt x y) as (λ t. nat_lt x y ≡ t → x ≡ y) [
      | true ↦ λ e. let less : x < y = grind (arith, nat_tests) in absurd (b.least x a.from_on less a.has)
      | false ↦ λ e.
          elim (nat_lt y x) as (λ t. nat_lt y x ≡ t → x ≡ y) [
            | true ↦ λ f. let less : y < x = grind (arith, nat_tests) in absurd (a.least y b.from_on less b.has)
            | false ↦ λ f. grind (arith, nat_tests)
          ] refl
    ] refl

means-one : (from : ℕ) (date : GivenDate) (x y : ℕ) → Means from date x → Means from date y → x ≡ y
means-one from (Full day) x y a b = a ∙ sym b
means-one from (Yearless date) x y a b = next-one from date x y a b

means-none : (from : ℕ) (date : GivenDate) (x : ℕ) → Means from date x → MeansNone from date → ⊥
means-none from (Full day) x a none = none
means-none from (Yearless date) x a none = none x a.from_on a.has

end-one : (k : CarrierFields) (first : ℕ) (end' : GivenEnd) (x y : ℕ) → MeansEnd k first end' x → MeansEnd k first end' y → x ≡ y
end-one k first (Until date) x y a b = means-one first date x y a b
end-one k first Open x y a b = a ∙ sym b

end-none : (k : CarrierFields) (first : ℕ) (end' : GivenEnd) (x : ℕ) → MeansEnd k first end' x → MeansNoEnd first end' → ⊥
end-none k first (Until date) x a none = means-none first date x a none
end-none k first Open x a none = none

-- the end of a period for the same first day
end-from : (k : CarrierFields) (first other : ℕ) (end' : GivenEnd) (x y : ℕ) → first ≡ other → MeansEnd k first end' x → MeansEnd k other end' y → x ≡ y
end-from k first other end' x y same a b = end-one k other end' x y (subst (λ n. MeansEnd k n end' x) same a) b

abbrev range_of : ℕ → ℕ → List Bool → DayRange
range_of first last days = record { first = first; last = last; days = days }

same-range : (p q : DayRange) → p.first ≡ q.first → p.last ≡ q.last → p.days ≡ q.days → p ≡ q
same-range p q first last days = ap (λ n. range_of n p.last p.days) first ∙ ap (λ n. range_of q.first n p.days) last ∙ ap (λ d. range_of q.first q.last d) days

dates-one : (k : CarrierFields) (dates : Dates) (p q : DayRange) → AreDates k dates p → AreDates k dates q → p ≡ q
dates-one k (Period given) p q a b =
    let first = means-one k.first given.first p.first q.first a.0 b.0 in
    same-range p q first (end-from k p.first q.first given.last p.last q.last first a.1 b.1) (a.3 ∙ sym b.3)
dates-one k (Date given) p q a b =
    let first = means-one k.first given p.first q.first a.0 b.0 in
    same-range p q first (a.1 ∙ first ∙ sym b.1) (a.2 ∙ sym b.2)

dates-lack : (k : CarrierFields) (dates : Dates) (p : DayRange) → AreDates k dates p → LackYear k dates → ⊥
dates-lack k (Period given) p a (inl none) = means-none k.first given.first p.first a.0 none
dates-lack k (Period given) p a (inr (first, means, none)) =
    let same = means-one k.first given.first p.first first a.0 means in
    end-none k first given.last p.last (subst (λ n. MeansEnd k n given.last p.last) same a.1) none
dates-lack k (Date given) p a none = means-none k.first given p.first a.0 none

dates-turned : (k : CarrierFields) (dates : Dates) (p : DayRange) → AreDates k dates p → AreTurned k dates → ⊥
dates-turned k (Period given) p a (first, last, means, ends, less) =
    let same = means-one k.first given.first p.first first a.0 means in
    let lasts = end-from k p.first first given.last p.last last same a.1 ends in
    let ordered : p.first ≤ p.last = a.2 in
    omega (arith, same, lasts, ordered, less)
dates-turned k (Date given) p a turned = turned

lack-turned : (k : CarrierFields) (dates : Dates) → LackYear k dates → AreTurned k dates → ⊥
lack-turned k (Period given) (inl none) (first, last, means, ends, less) = means-none k.first given.first first means none
lack-turned k (Period given) (inr (one, meant, none)) (first, last, means, ends, less) =
    let same = means-one k.first given.first first one means meant in
    end-none k one given.last last (subst (λ n. MeansEnd k n given.last last) same ends) none
lack-turned k (Date given) none turned = turned

-- ---- sub-messages

abbrev sub_of : FlightNumber → DayRange → ResolvedSub
sub_of flight period = record { flight = flight; period = period }

sub-one : (k : CarrierFields) (sub : Sub) (r q : ResolvedSub) → IsResolved k sub r → IsResolved k sub q → r ≡ q
sub-one k sub r q a b =
    ap (λ f. sub_of f r.period) (a.flight ∙ sym b.flight) ∙ ap (λ p. sub_of q.flight p) (dates-one k sub.dates r.period q.period a.dates b.dates)

sub-either : (k : CarrierFields) (n : ℕ) (sub : Sub) (r : ResolvedSub) (f : ResolveFault) → IsResolved k sub r → IsSubRefused k n sub f → ⊥
sub-either k n sub r fault.Memory a b = b
sub-either k n sub r fault.TimeMode a b = b
sub-either k n sub r (fault.Airline m) a b = b.1 a.airline
sub-either k n sub r (fault.NoSuchDate m) a b = dates-lack k sub.dates r.period a.dates b.2
sub-either k n sub r (fault.Period m) a b = dates-turned k sub.dates r.period a.dates b.2

refused-one : (k : CarrierFields) (n : ℕ) (sub : Sub) (f g : ResolveFault) → IsSubRefused k n sub f → IsSubRefused k n sub g → f ≡ g
refused-one k n sub fault.Memory g a b = absurd a
refused-one k n sub fault.TimeMode g a b = absurd a
refused-one k n sub (fault.Airline m) fault.Memory a b = absurd b
refused-one k n sub (fault.Airline m) fault.TimeMode a b = absurd b
refused-one k n sub (fault.Airline m) (fault.Airline l) a b = ap (λ i. fault.Airline i) (a.0 ∙ sym b.0)
refused-one k n sub (fault.Airline m) (fault.NoSuchDate l) a b = absurd (a.1 b.1)
refused-one k n sub (fault.Airline m) (fault.Period l) a b = absurd (a.1 b.1)
refused-one k n sub (fault.NoSuchDate m) fault.Memory a b = absurd b
refused-one k n sub (fault.NoSuchDate m) fault.TimeMode a b = absurd b
refused-one k n sub (fault.NoSuchDate m) (fault.Airline l) a b = absurd (b.1 a.1)
refused-one k n sub (fault.NoSuchDate m) (fault.NoSuchDate l) a b = ap (λ i. fault.NoSuchDate i) (a.0 ∙ sym b.0)
refused-one k n sub (fault.NoSuchDate m) (fault.Period l) a b = absurd (lack-turned k sub.dates a.2 b.2)
refused-one k n sub (fault.Period m) fault.Memory a b = absurd b
refused-one k n sub (fault.Period m) fault.TimeMode a b = absurd b
refused-one k n sub (fault.Period m) (fault.Airline l) a b = absurd (b.1 a.1)
refused-one k n sub (fault.Period m) (fault.NoSuchDate l) a b = absurd (lack-turned k sub.dates b.2 a.2)
refused-one k n sub (fault.Period m) (fault.Period l) a b = ap (λ i. fault.Period i) (a.0 ∙ sym b.0)

subs-one : (k : CarrierFields) (subs : List Sub) (rs qs : List ResolvedSub) → AreResolved k subs rs → AreResolved k subs qs → rs ≡ qs
subs-one k [] [] [] a b = refl
subs-one k [] [] (q ∷ qs) a b = absurd b
subs-one k [] (r ∷ rs) qs a b = absurd a
subs-one k (s ∷ subs) [] qs a b = absurd a
subs-one k (s ∷ subs) (r ∷ rs) [] a b = absurd b
subs-one k (s ∷ subs) (r ∷ rs) (q ∷ qs) a b = ap (λ x. x ∷ rs) (sub-one k s r q a.0 b.0) ∙ ap (λ xs. q ∷ xs) (subs-one k subs rs qs a.1 b.1)

subs-either : (k : CarrierFields) (n : ℕ) (subs : List Sub) (rs : List ResolvedSub) (f : ResolveFault) → AreResolved k subs rs → IsFirstRefused k n subs f → ⊥
subs-either k n [] rs f a b = b
subs-either k n (s ∷ subs) [] f a b = a
subs-either k n (s ∷ subs) (r ∷ rs) f a (inl b) = sub-either k n s r f a.0 b
subs-either k n (s ∷ subs) (r ∷ rs) f a (inr (q, is, b)) = subs-either k (n + 1) subs rs f a.1 b

first-one : (k : CarrierFields) (n : ℕ) (subs : List Sub) (f g : ResolveFault) → IsFirstRefused k n subs f → IsFirstRefused k n subs g → f ≡ g
first-one k n [] f g a b = absurd a
first-one k n (s ∷ subs) f g (inl a) (inl b) = refused-one k n s f g a b
first-one k n (s ∷ subs) f g (inl a) (inr (r, is, b)) = absurd (sub-either k n s r f is a)
first-one k n (s ∷ subs) f g (inr (r, is, a)) (inl b) = absurd (sub-either k n s r g is b)
first-one k n (s ∷ subs) f g (inr (r, is, a)) (inr (q, are, b)) = first-one k (n + 1) subs f g a b

-- ---- messages

abbrev reference_of : ℕ → ℕ → ℕ → Kind → List ℕ → Reference
reference_of date group serial kind originator = record { date = date; group = group; serial = serial; kind = kind; originator = originator }

same-reference : (r q : Reference) → r.date ≡ q.date → r.group ≡ q.group → r.serial ≡ q.serial → r.kind ≡ q.kind → r.originator ≡ q.originator → r ≡ q
same-reference r q date group serial kind originator =
    ap (λ x. reference_of x r.group r.serial r.kind r.originator) date
    ∙ ap (λ x. reference_of q.date x r.serial r.kind r.originator) group
    ∙ ap (λ x. reference_of q.date q.group x r.kind r.originator) serial
    ∙ ap (λ x. reference_of q.date q.group q.serial x r.originator) kind
    ∙ ap (λ x. reference_of q.date q.group q.serial q.kind x) originator

same-text : (k : CarrierFields) (m : MessageValue) (t u : ResolvedText) → Resolves k m t → Resolves k m u → IsSameOutcome (Ok t) (Ok u)
same-text k m t u a b = (
  same-reference t.reference u.reference (next-one k.created m.reference.date t.reference.date u.reference.date a.date b.date) (a.group ∙ sym b.group) (a.serial ∙ sym b.serial) (a.kind ∙ sym b.kind)
      (a.originator ∙ sym b.originator),
  subs-one k m.subs t.subs.items u.subs.items a.subs b.subs,
)

-- a message that resolves is not refused
text-by-sub : (k : CarrierFields) (m : MessageValue) (t : ResolvedText) (f : ResolveFault) → Resolves k m t → IsRefusedBySub k m f → ⊥
text-by-sub k m t f a b = subs-either k 1 m.subs t.subs.items f a.subs b.first

other-mode : (b : Bool) → b ≡ true → b ≡ false → ⊥
other-mode true is not = absurd cc
other-mode false is not = absurd cc

-- what a refusal for anything but memory says
abbrev IsTold : CarrierFields → MessageValue → ResolveFault → Type 0
IsTold k m fault.Memory = ⊥
IsTold k m fault.TimeMode = IsRefused k m fault.TimeMode
IsTold k m (fault.Airline n) = IsRefused k m (fault.Airline n)
IsTold k m (fault.NoSuchDate n) = IsRefused k m (fault.NoSuchDate n)
IsTold k m (fault.Period n) = IsRefused k m (fault.Period n)

text-either : (k : CarrierFields) (m : MessageValue) (t : ResolvedText) (f : ResolveFault) → Resolves k m t → IsTold k m f → ⊥
text-either k m t fault.Memory a b = b
text-either k m t fault.TimeMode a b = other-mode (same_mode k.time_mode m.mode) a.mode b
text-either k m t (fault.Airline n) a b = text-by-sub k m t (fault.Airline n) a b
text-either k m t (fault.NoSuchDate n) a (inl b) = b.none t.reference.date a.date.from_on a.date.has
text-either k m t (fault.NoSuchDate n) a (inr b) = text-by-sub k m t (fault.NoSuchDate n) a b
text-either k m t (fault.Period n) a b = text-by-sub k m t (fault.Period n) a b

by-sub-one : (k : CarrierFields) (m : MessageValue) (f g : ResolveFault) → IsRefusedBySub k m f → IsRefusedBySub k m g → f ≡ g
by-sub-one k m f g a b = first-one k 1 m.subs f g a.first b.first

reference-or-sub : (k : CarrierFields) (m : MessageValue) (n : ℕ) (f : ResolveFault) → IsReferenceRefused k m n → IsRefusedBySub k m f → ⊥
reference-or-sub k m n f a b = a.none b.date.0 b.date.1.from_on b.date.1.has

-- a refusal that is not for the time mode
abbrev IsLater : CarrierFields → MessageValue → ResolveFault → Type 0
IsLater k m f = ((n : ℕ) × (f ≡ fault.NoSuchDate n) × IsReferenceRefused k m n) ⊎ IsRefusedBySub k m f

later-mode : (k : CarrierFields) (m : MessageValue) (f : ResolveFault) → IsLater k m f → same_mode k.time_mode m.mode ≡ true
later-mode k m f (inl (n, is, a)) = a.mode
later-mode k m f (inr a) = a.mode

later-one : (k : CarrierFields) (m : MessageValue) (f g : ResolveFault) → IsLater k m f → IsLater k m g → f ≡ g
later-one k m f g (inl (n, is, a)) (inl (l, are, b)) = is ∙ ap (λ i. fault.NoSuchDate i) (a.is_zero ∙ sym b.is_zero) ∙ sym are
later-one k m f g (inl (n, is, a)) (inr b) = absurd (reference-or-sub k m n g a b)
later-one k m f g (inr a) (inl (l, are, b)) = absurd (reference-or-sub k m l f b a)
later-one k m f g (inr a) (inr b) = by-sub-one k m f g a b

is-later : (k : CarrierFields) (m : MessageValue) (f : ResolveFault) → IsTold k m f → ((f ≡ fault.TimeMode) × (same_mode k.time_mode m.mode ≡ false)) ⊎ IsLater k m f
is-later k m fault.Memory a = absurd a
is-later k m fault.TimeMode a = inl (refl, a)
is-later k m (fault.Airline n) a = inr (inr a)
is-later k m (fault.NoSuchDate n) (inl a) = inr (inl (n, refl, a))
is-later k m (fault.NoSuchDate n) (inr a) = inr (inr a)
is-later k m (fault.Period n) a = inr (inr a)

told-one : (k : CarrierFields) (m : MessageValue) (f g : ResolveFault) → IsTold k m f → IsTold k m g → f ≡ g
told-one k m f g a b = by (is-later k m f a) (is-later k m g b)
  where
    by : ((f ≡ fault.TimeMode) × (same_mode k.time_mode m.mode ≡ false)) ⊎ IsLater k m f → ((g ≡ fault.TimeMode) × (same_mode k.time_mode m.mode ≡ false)) ⊎ IsLater k m g → f ≡ g
    by (inl x) (inl y) = x.0 ∙ sym y.0
    by (inl x) (inr y) = absurd (other-mode (same_mode k.time_mode m.mode) (later-mode k m g y) x.1)
    by (inr x) (inl y) = absurd (other-mode (same_mode k.time_mode m.mode) (later-mode k m f x) y.1)
    by (inr x) (inr y) = later-one k m f g x y

-- ---- a base has one carrier

same-carrier : (base : List Record) (frame other : Frame) → HasFrame frame base → HasFrame other base → frame.carrier ≡ other.carrier
same-carrier base frame other f g = ap (λ (x : Frame). x.carrier) (same-frame frame other base base refl f g)

abbrev IsToldIn : List Record → MessageValue → ResolveFault → Type 0
IsToldIn base m f = (frame : Frame) × HasFrame frame base × IsTold frame.carrier m f

told-in : (base : List Record) (m : MessageValue) (f : ResolveFault) → IsOutcome base m (Err f) → IsToldIn base m f
told-in base m fault.Memory a = absurd a
told-in base m fault.TimeMode a = a
told-in base m (fault.Airline n) a = a
told-in base m (fault.NoSuchDate n) a = a
told-in base m (fault.Period n) a = a

either-in : (base : List Record) (m : MessageValue) (t : ResolvedText) (f : ResolveFault) → ResolvesIn base m t → IsToldIn base m f → ⊥
either-in base m t f (frame, is, a) (other, are, b) = text-either other.carrier m t f (subst (λ k. Resolves k m t) (same-carrier base frame other is are) a) b

pub one_outcome : HasOneOutcome
one_outcome base m (Ok t) (Ok u) (frame, is, a) (other, are, b) = same-text other.carrier m t u (subst (λ k. Resolves k m t) (same-carrier base frame other is are) a) b
one_outcome base m (Ok t) (Err f) a b = absurd (either-in base m t f a (told-in base m f b))
one_outcome base m (Err f) (Ok t) a b = absurd (either-in base m t f b (told-in base m f a))
one_outcome base m (Err f) (Err g) a b = by (told-in base m f a) (told-in base m g b)
  where
    by : IsToldIn base m f → IsToldIn base m g → f ≡ g
    by (frame, is, x) (other, are, y) = told-one other.carrier m f g (subst (λ k. IsTold k m f) (same-carrier base frame other is are) x) y
