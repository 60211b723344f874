-- A heading that cancels a flight of the carrier's airline, in the carrier's time mode, resolves if
-- its date means a day: nothing else of it can be refused.
use Rattle.std.proofs.Common.{◌≡◌, ◌⊎◌, ℕ, true, false, List, [], ◌∷◌}
use Rattle.std.proofs.Common.{refl, sym, ap, subst, inl, inr, ◌∙◌, arith}
use Rattle.ssim_values.specs.declared.time_mode.TimeMode.{TimeMode}
use Rattle.ssim_values.specs.declared.time_mode.TimeMode.TheVariants.{Local, Utc}
use Rattle.ssim_records.specs.Carrier.{CarrierFields}
use Rattle.ssim_records.specs.declared.record.Record.{Record}
use Rattle.ssim_records.specs.declared.record.Record.TheVariants.{Carrier, Header, Leg, Segment, Trailer}
use Rattle.ssim_base.specs.BaseSeen.{BaseSeen}
use Rattle.ssim_base.specs.Export.{Frame}
use Rattle.ssim_base.specs.ReadBack.{HasFrame}
use Rattle.ssim_base.specs.Resolve.{HasNone, IsFirstRefused, IsRefused, IsRefusedIn, Resolves, ResolvesIn, same_mode}
use Rattle.ssim_base.specs.declared.resolution.ResolveFault.{ResolveFault}
use Rattle.ssim_base.specs.declared.resolution.ResolveFault.TheVariants as resolve
use Rattle.ssim_base.specs.declared.resolution.ResolvedText.{ResolvedText}
use Rattle.ssim_text.specs.Message.{MessageValue}
use Rattle.ssim_text.specs.declared.action.Sub.{Sub}
use Rattle.ssim_text.specs.declared.reference.Reference.{Reference}
use Rattle.ssim_held.specs.Entries.{DeskSeen}
use Rattle.ssim_outbox.specs.Comparable.{AreComparable, HaveCarriers}
use Rattle.ssim_outbox.specs.Heading.{NamesHeading}
use Rattle.ssim_outbox.specs.Order.{Follows, RefusesOrder}
use Rattle.ssim_outbox.specs.Publication.{IsFirstReference, IsHeading, BeginAt, RefusesPublication}
use Rattle.ssim_outbox.specs.declared.fault.OutboxFault.{OutboxFault}
use Rattle.ssim_outbox.specs.declared.fault.OutboxFault.TheVariants as fault
use Rattle.ssim_outbox.specs.Comparable.{RefusesCarriers}
use Rattle.ssim_outbox.specs.internal.Addressed.{HasReference, IsAddressed, RefusesDate, date_refused}
use Rattle.ssim_outbox.specs.internal.Headings.{RefusesWord, cancellation}

-- ---- the carrier record of a base

abbrev its_carrier : CarrierFields → Record → CarrierFields
its_carrier other (Carrier r) = r
its_carrier other (Header r) = other
its_carrier other (Leg r) = other
its_carrier other (Segment r) = other
its_carrier other (Trailer r) = other

abbrev second : CarrierFields → List Record → CarrierFields
second other [] = other
second other (x ∷ []) = other
second other (x ∷ y ∷ records) = its_carrier other y

-- a base has one carrier record
pub same_carrier : (f g : Frame) (records : List Record) → HasFrame f records → HasFrame g records
    → f.carrier ≡ g.carrier
same_carrier f g records p q = ap (second f.carrier) (sym p.1 ∙ q.1)

-- ---- what is refused

own_mode : (mode : TimeMode) → same_mode mode mode ≡ true
own_mode Utc = refl
own_mode Local = refl

false_true : false ≡ true → ⊥
false_true h = cc

mode_same : (carrier : CarrierFields) (m : MessageValue) → m.mode ≡ carrier.time_mode
    → same_mode carrier.time_mode m.mode ≡ false → ⊥
mode_same carrier m is h =
    false_true (sym h ∙ ap (same_mode carrier.time_mode) is ∙ own_mode carrier.time_mode)

-- the one sub-message is not refused
sub_accepted : (carrier : CarrierFields) (fault : ResolveFault)
    → IsFirstRefused carrier 1 (cancellation carrier.airline ∷ []) fault → ⊥
sub_accepted carrier resolve.Memory (inl h) = h
sub_accepted carrier resolve.TimeMode (inl h) = h
sub_accepted carrier (resolve.Airline n) (inl h) = h.1 refl
sub_accepted carrier (resolve.NoSuchDate n) (inl (number, airline, inl none)) = none
sub_accepted carrier (resolve.NoSuchDate n) (inl (number, airline, inr (first, means, none))) = none
sub_accepted carrier (resolve.Period n) (inl (number, airline, (first, last, begins, ends, turned))) =
    omega (arith, begins, ends, turned)
sub_accepted carrier fault (inr (r, resolved, none)) = none

pub refused : (carrier : CarrierFields) (m : MessageValue) (fault : ResolveFault) → m.mode ≡ carrier.time_mode
    → m.subs ≡ cancellation carrier.airline ∷ [] → IsRefused carrier m fault
    → (fault ≡ resolve.Memory) ⊎ HasNone carrier.created m.reference.date
refused carrier m resolve.Memory mode subs h = inl refl
refused carrier m resolve.TimeMode mode subs h = absurd (mode_same carrier m mode h)
refused carrier m (resolve.NoSuchDate n) mode subs (inl r) = inr r.none
refused carrier m (resolve.NoSuchDate n) mode subs (inr r) =
    absurd (sub_accepted carrier (resolve.NoSuchDate n)
    (subst (λ (s : List Sub). IsFirstRefused carrier 1 s (resolve.NoSuchDate n)) subs r.first))
refused carrier m (resolve.Airline n) mode subs r =
    absurd (sub_accepted carrier (resolve.Airline n)
    (subst (λ (s : List Sub). IsFirstRefused carrier 1 s (resolve.Airline n)) subs r.first))
refused carrier m (resolve.Period n) mode subs r =
    absurd (sub_accepted carrier (resolve.Period n)
    (subst (λ (s : List Sub). IsFirstRefused carrier 1 s (resolve.Period n)) subs r.first))

pub refused_in : (f : Frame) (records : List Record) (m : MessageValue) (fault : ResolveFault) → HasFrame f records
    → m.mode ≡ f.carrier.time_mode → m.subs ≡ cancellation f.carrier.airline ∷ []
    → IsRefusedIn records m fault → (fault ≡ resolve.Memory) ⊎ HasNone f.carrier.created m.reference.date
refused_in f records m fault has mode subs (g, has_too, is) =
    refused f.carrier m fault mode subs
    (subst (λ (c : CarrierFields). IsRefused c m fault) (same_carrier g f records has_too has) is)

pub date_refusal : (f : Frame) (records : List Record) (m : MessageValue) (fault : ResolveFault) → HasFrame f records
    → m.mode ≡ f.carrier.time_mode → m.subs ≡ cancellation f.carrier.airline ∷ []
    → IsRefusedIn records m fault → RefusesDate f.carrier m (date_refused fault)
date_refusal f records m fault has mode subs is = by fault (refused_in f records m fault has mode subs is)
  where
    by : (fault : ResolveFault) → (fault ≡ resolve.Memory) ⊎ HasNone f.carrier.created m.reference.date
        → RefusesDate f.carrier m (date_refused fault)
    by fault (inl e) = inl (ap date_refused e)
    by resolve.Memory (inr h) = inl refl
    by resolve.TimeMode (inr h) = inr (refl, h)
    by (resolve.Airline n) (inr h) = inr (refl, h)
    by (resolve.NoSuchDate n) (inr h) = inr (refl, h)
    by (resolve.Period n) (inr h) = inr (refl, h)

-- ---- what is resolved

pub resolved_in : (f : Frame) (records : List Record) (m : MessageValue) (text : ResolvedText) → HasFrame f records
    → ResolvesIn records m text → HasReference f.carrier m text.reference
resolved_in f records m text has (g, has_too, is) = record {
  text = text;
  resolves = subst (λ (c : CarrierFields). Resolves c m text) (same_carrier g f records has_too has) is;
  reference_is = refl;
}

pub means : (carrier : CarrierFields) (m : MessageValue) (reference : Reference) → HasReference carrier m reference
    → IsFirstReference carrier m reference
means carrier m reference h =
    subst (IsFirstReference carrier m) (sym h.reference_is) (record {
      date = h.resolves.date;
      group = h.resolves.group;
      serial = h.resolves.serial;
      kind = h.resolves.kind;
      originator = h.resolves.originator;
    })

-- ---- the whole

module _ (from to : DeskSeen) (word : List ℕ)
    (carriers : HaveCarriers from.base.records to.base.records) where
  abbrev mine : CarrierFields
  mine = carriers.mine.carrier

  abbrev theirs : CarrierFields
  theirs = carriers.theirs.carrier

  pub foreign : (refusal : OutboxFault) → RefusesCarriers mine theirs refusal
      → RefusesPublication from to word refusal
  foreign refusal (inl h) =
      subst (RefusesPublication from to word) (sym h.0) (record { carriers = carriers; other = h.1 })
  foreign refusal (inr h) =
      subst (RefusesPublication from to word) (sym h.0) (record { carriers = carriers; airline = h.1; other = h.2 })

  module _ (airline : theirs.airline ≡ mine.airline)
      (mode : theirs.time_mode ≡ mine.time_mode) where
    abbrev comparable : AreComparable from.base.records to.base.records
    comparable = record { carriers = carriers; airline = airline; mode = mode }

    pub no_heading : (refusal : OutboxFault) → RefusesWord mine.time_mode word refusal
        → RefusesPublication from to word refusal
    no_heading refusal (inl e) = subst (RefusesPublication from to word) (sym e) tt
    no_heading refusal (inr h) = subst (RefusesPublication from to word) (sym h.0) (comparable, h.1)

    module _ (heading : MessageValue) (names : NamesHeading mine.time_mode word heading) where
      abbrev named : IsHeading from to word heading
      named = record { comparable = comparable; names = names }

      pub no_date : (refusal : OutboxFault) → RefusesDate mine heading refusal
          → RefusesPublication from to word refusal
      no_date refusal (inl e) = subst (RefusesPublication from to word) (sym e) tt
      no_date refusal (inr h) = subst (RefusesPublication from to word) (sym h.0) (heading, named, h.1)

      module _ (reference : Reference) (h : HasReference mine heading reference) where
        abbrev with_reference : BeginAt from to word heading reference
        with_reference = record { named = named; means = means mine heading reference h }

        pub not_after : (last : Reference) → RefusesOrder reference from.held last
            → RefusesPublication from to word (fault.Order last)
        not_after last refused = (heading, reference, with_reference, refused)

        pub addressed : Follows reference from.held → IsAddressed from to word heading reference
        addressed follows = record { named = with_reference; has = h; follows = follows }

-- a desk's frame, given as the frame of its base
pub framed : (b : BaseSeen) (desk : DeskSeen) (f g : Frame) → b ≡ desk.base → HasFrame f b.records → g ≡ f
    → HasFrame g desk.base.records
framed b desk f g base has is =
    subst (λ (x : Frame). HasFrame x desk.base.records) (sym is)
    (subst (λ (x : BaseSeen). HasFrame f x.records) base has)
