-- A message resolves against a base in one way.
use Rattle.std.proofs.Common.{◌≡◌, ◌⊎◌, inl, inr, ℕ, suc, ◌<◌, ◌≤◌, List, [], ◌∷◌, length, refl, sym, ap, subst, ◌∙◌, arith, slice_index_or}
use Rattle.std.proofs.lemmas.Bool.{cases_lt}
use Rattle.ssim_records.specs.Carrier.{CarrierFields}
use Rattle.ssim_records.specs.declared.record.Record.{Record}
use Rattle.ssim_records.specs.declared.record.Record.TheVariants.{Header, Carrier, Leg, Segment, Trailer}
use Rattle.ssim_base.specs.Export.{Frame}
use Rattle.ssim_base.specs.ReadBack.{HasFrame}
use Rattle.ssim_base.specs.Resolve.{AreDates, AreResolved, IsNext, IsResolved, Means, MeansEnd, Resolves, ResolvesIn}
use Rattle.ssim_base.specs.declared.sub_message.ResolvedSub.{ResolvedSub}
use Rattle.ssim_base.specs.declared.resolution.ResolvedText.{ResolvedText}
use Rattle.ssim_text.specs.Message.{MessageValue}
use Rattle.ssim_text.specs.declared.action.Sub.{Sub}
use Rattle.ssim_text.specs.declared.dates.Dates.{Dates}
use Rattle.ssim_text.specs.declared.dates.Dates.TheVariants.{Period, Date}
use Rattle.ssim_text.specs.declared.dates.GivenDate.{GivenDate}
use Rattle.ssim_text.specs.declared.dates.GivenDate.TheVariants.{Full, Yearless}
use Rattle.ssim_text.specs.declared.dates.GivenEnd.{GivenEnd}
use Rattle.ssim_text.specs.declared.dates.GivenEnd.TheVariants.{Until, Open}
use Rattle.ssim_values.specs.DayMonth.{MonthDay}
use Rattle.ssim_values.specs.Period.{DayRange}

-- ---- dates

one_next : (from : ℕ) (date : MonthDay) (a b : ℕ) → IsNext from date a → IsNext from date b → a ≡ b
one_next from date a b is_a is_b = by (cases_lt a b) (cases_lt b a)
  where
    by : ((a < b) ⊎ (b ≤ a)) → ((b < a) ⊎ (a ≤ b)) → a ≡ b
    by (inl lt) other = absurd (is_b.least a is_a.from_on lt is_a.has)
    by (inr le) (inl lt) = absurd (is_a.least b is_b.from_on lt is_b.has)
    by (inr le) (inr ge) = omega arith

one_date : (from : ℕ) (date : GivenDate) (a b : ℕ) → Means from date a → Means from date b → a ≡ b
one_date from (Full day) a b is_a is_b = is_a ∙ sym is_b
one_date from (Yearless date) a b is_a is_b = one_next from date a b is_a is_b

one_end : (carrier : CarrierFields) (first : ℕ) (end : GivenEnd) (a b : ℕ) → MeansEnd carrier first end a → MeansEnd carrier first end b → a ≡ b
one_end carrier first (Until date) a b is_a is_b = one_date first date a b is_a is_b
one_end carrier first Open a b is_a is_b = is_a ∙ sym is_b

same_range : (a b : DayRange) → a.first ≡ b.first → a.last ≡ b.last → a.days ≡ b.days → a ≡ b
same_range a b first last days = λ i. record { first = first i; last = last i; days = days i }

one_period : (carrier : CarrierFields) (dates : Dates) (a b : DayRange) → AreDates carrier dates a → AreDates carrier dates b → a ≡ b
one_period carrier (Period given) a b is_a is_b =
    let first : a.first ≡ b.first = one_date carrier.first given.first a.first b.first is_a.0 is_b.0 in
    let last : a.last ≡ b.last = one_end carrier b.first given.last a.last b.last (subst (λ n. MeansEnd carrier n given.last a.last) first is_a.1) is_b.1 in
    same_range a b first last (is_a.3 ∙ sym is_b.3)
one_period carrier (Date given) a b is_a is_b =
    let first : a.first ≡ b.first = one_date carrier.first given a.first b.first is_a.0 is_b.0 in
    same_range a b first (is_a.1 ∙ first ∙ sym is_b.1) (is_a.2 ∙ sym is_b.2)

-- ---- sub-messages

one_sub : (carrier : CarrierFields) (sub : Sub) (a b : ResolvedSub) → IsResolved carrier sub a → IsResolved carrier sub b → a ≡ b
one_sub carrier sub a b is_a is_b =
    let flight : a.flight ≡ b.flight = is_a.flight ∙ sym is_b.flight in
    let period : a.period ≡ b.period = one_period carrier sub.dates a.period b.period is_a.dates is_b.dates in
    λ i. record { flight = flight i; period = period i }

pub one_list : (carrier : CarrierFields) (subs : List Sub) (a b : List ResolvedSub) → AreResolved carrier subs a → AreResolved carrier subs b → a ≡ b
one_list carrier [] [] [] are_a are_b = refl
one_list carrier [] [] (y ∷ b) are_a are_b = absurd are_b
one_list carrier [] (x ∷ a) b are_a are_b = absurd are_a
one_list carrier (sub ∷ subs) [] b are_a are_b = absurd are_a
one_list carrier (sub ∷ subs) (x ∷ a) [] are_a are_b = absurd are_b
one_list carrier (sub ∷ subs) (x ∷ a) (y ∷ b) are_a are_b =
    let head : x ≡ y = one_sub carrier sub x y are_a.0 are_b.0 in
    let rest : a ≡ b = one_list carrier subs a b are_a.1 are_b.1 in
    λ i. head i ∷ rest i

-- ---- messages

abbrev carrier_in : CarrierFields → Record → CarrierFields
carrier_in other (Header r) = other
carrier_in other (Carrier r) = r
carrier_in other (Leg r) = other
carrier_in other (Segment r) = other
carrier_in other (Trailer r) = other

one_carrier : (base : List Record) (f g : Frame) → HasFrame f base → HasFrame g base → f.carrier ≡ g.carrier
one_carrier base f g in_f in_g =
    ap (carrier_in f.carrier) (ap (λ records. slice_index_or records 1 (Header f.header)) (sym in_f.1 ∙ in_g.1))

reference_of : (carrier : CarrierFields) (m : MessageValue) (a b : ResolvedText) → Resolves carrier m a → Resolves carrier m b → a.reference ≡ b.reference
reference_of carrier m a b is_a is_b =
    let date : a.reference.date ≡ b.reference.date = one_next carrier.created m.reference.date a.reference.date b.reference.date is_a.date is_b.date in
    let group : a.reference.group ≡ b.reference.group = is_a.group ∙ sym is_b.group in
    let serial : a.reference.serial ≡ b.reference.serial = is_a.serial ∙ sym is_b.serial in
    let kind : a.reference.kind ≡ b.reference.kind = is_a.kind ∙ sym is_b.kind in
    let originator : a.reference.originator ≡ b.reference.originator = is_a.originator ∙ sym is_b.originator in
    λ i. record { date = date i; group = group i; serial = serial i; kind = kind i; originator = originator i }

-- a base gives a message one reference
pub one_reference : (base : List Record) (m : MessageValue) (a b : ResolvedText) → ResolvesIn base m a → ResolvesIn base m b → a.reference ≡ b.reference
one_reference base m a b (f, in_f, is_a) (g, in_g, is_b) =
    reference_of g.carrier m a b (subst (λ carrier. Resolves carrier m a) (one_carrier base f g in_f in_g) is_a) is_b

-- a base gives the sub-messages of a message only one list of full dates
pub one_subs : (base : List Record) (m : MessageValue) (a b : ResolvedText) → ResolvesIn base m a → ResolvesIn base m b → a.subs.items ≡ b.subs.items
one_subs base m a b (f, in_f, is_a) (g, in_g, is_b) =
    one_list g.carrier m.subs a.subs.items b.subs.items (subst (λ carrier. AreResolved carrier m.subs a.subs.items) (one_carrier base f g in_f in_g) is_a.subs) is_b.subs

-- a resolved message has dates for each of its sub-messages
length-resolved : (carrier : CarrierFields) (subs : List Sub) (dates : List ResolvedSub) → AreResolved carrier subs dates → length dates ≡ length subs
length-resolved carrier [] [] h = refl
length-resolved carrier [] (d ∷ dates) h = absurd h
length-resolved carrier (s ∷ subs) [] h = absurd h
length-resolved carrier (s ∷ subs) (d ∷ dates) h = ap suc (length-resolved carrier subs dates h.1)

pub each_dated : (records : List Record) (m : MessageValue) (text : ResolvedText) → ResolvesIn records m text → length text.subs.items ≡ length m.subs
each_dated records m text (frame, in_frame, is) = length-resolved frame.carrier m.subs text.subs.items is.subs
