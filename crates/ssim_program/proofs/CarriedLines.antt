-- What is printed of messages that are carried one after another, and which conflict is the first.
use Rattle.std.proofs.Common.{◌≡◌, ◌≢◌, ◌⊎◌, ◌↔◌, ◌∙◌, inl, inr, ℕ, Bool, true, false, cond, List, []}
use Rattle.std.proofs.Common.{◌∷◌, ◌++◌, ◌+◌, Some, None, Result, Ok, Err, IfOk, IfErr, drop, refl}
use Rattle.std.proofs.Common.{sym, ap, subst, append_assoc}
use Rattle.std.proofs.lemmas.List.{append-nil}
use Rattle.std.specs.Prelude.{T}
use Rattle.std.specs.FinMap.{find, get, get-insert, insert, is_sorted}
use Rattle.std.specs.FinMap.Entries.{below_all}
use Rattle.std.specs.Ordering.{eq_by_cmp, is_eq}
use Rattle.std.specs.declared.cmp.Ordering.{Ordering}
use Rattle.std.specs.declared.cmp.Ordering.TheVariants.{Less, Equal, Greater}
use Rattle.ssim_records.specs.Carrier.{CarrierFields}
use Rattle.ssim_records.specs.declared.record.Record.{Record}
use Rattle.ssim_records.specs.declared.record.Record.TheVariants.{Header, Carrier}
use Rattle.ssim_base.specs.BaseSeen.{BaseSeen}
use Rattle.ssim_base.specs.Export.{line}
use Rattle.ssim_base.specs.Resolve.{AreResolved, IsNext, IsRefusedIn, ResolvesIn}
use Rattle.ssim_base.specs.declared.resolution.ResolveFault.{ResolveFault}
use Rattle.ssim_base.specs.declared.resolution.ResolveFault.TheVariants as resolve_fault
use Rattle.ssim_base.specs.declared.resolution.ResolvedText.{ResolvedText}
use Rattle.ssim_base.specs.declared.sub_message.ResolvedSub.{ResolvedSub}
use Rattle.ssim_base.proofs.ResolvedOnce.{one_outcome}
use Rattle.ssim_text.specs.Message.{MessageValue}
use Rattle.ssim_text.specs.Spelling.{SpellsMessage}
use Rattle.ssim_text.specs.declared.fault.TextFault.{TextFault}
use Rattle.ssim_text.specs.declared.fault.TextFault.TheVariants as text_fault
use Rattle.ssim_text.specs.declared.reference.Reference.{Reference}
use Rattle.ssim_text.proofs.Place.{one_message}
use Rattle.ssim_held.proofs.Entries.{T-from_true, and_left, and_right, find_below, get-map_of}
use Rattle.ssim_held.proofs.Entries.{less-from_T, self_equal}
use Rattle.ssim_held.proofs.References.{reference_apart, reference_total}
use Rattle.ssim_held.proofs.SavedTexts.{refused_none}
use Rattle.ssim_held.proofs.Withdrawing.{equal_at}
use Rattle.ssim_held.specs.Entries.{AreRising, DeskSeen, Entry, IsEntry, keyed, map_of, state_of}
use Rattle.ssim_held.specs.Held.{HeldMessages, Holds, Says, reference_cmp}
use Rattle.ssim_held.specs.declared.fault.DeskFault.{DeskFault}
use Rattle.ssim_held.specs.declared.fault.DeskFault.TheVariants as fault
use Rattle.ssim_desk.proofs.Taking.{says_message, says_reference}
use Rattle.ssim_desk.specs.Desk.{take_answer}
use Rattle.ssim_desk.specs.Steps.{IsUnspelt, RefusesText, Takes}
use Rattle.ssim_desk.specs.declared.desk.Took.{Took}
use Rattle.ssim_desk.specs.declared.desk.Took.TheVariants as took
use Rattle.ssim_program.specs.Carrying.{AreOfOneAirline, Becomes, IsCarried, IsCarryOf, IsConflict}
use Rattle.ssim_program.specs.Carrying.{MeansTheSame, PrintsEach, RefusesCarry}
use Rattle.ssim_program.specs.Desks.{took_printed}
use Rattle.ssim_program.specs.internal.Carry.{Carries, CarriesEach, RefusesAny, RefusesOne}
use Rattle.ssim_program.specs.Timetables.{HasCarrier}
use Rattle.ssim_program.specs.print.PrintedLine.{printed_text}
use Rattle.ssim_program.specs.print.Refusal.{refusal_number}
use Rattle.ssim_program.specs.declared.print.printed_line.PrintedLine.{PrintedLine}
use Rattle.ssim_program.specs.declared.print.printed_line.PrintedLine.TheVariants as printed
use Rattle.ssim_program.specs.declared.refusal.Refusal.TheVariants as refused
use Rattle.ssim_program.proofs.Carrying.{Found, IsAt, IsSorted, at_first, at_later, base_after}
use Rattle.ssim_program.proofs.Carrying.{each_base, each_holds, found_apart, found_at, found_first}
use Rattle.ssim_program.proofs.Carrying.{found_later, none_some, same_under, some_same}

-- ---- what is printed, and the first conflict

module _ (mine theirs : DeskSeen) where
  -- under the references of these entries the desk holds what it held at first
  abbrev Kept : DeskSeen → List Entry → Type 0
  Kept now es = (r : Reference) (m : MessageValue) → Found es r m
      → get (map_of now.held) r ≡ get (map_of mine.held) r

  kept_next : (before between : DeskSeen) (e : Entry) (es : List Entry) (p : PrintedLine)
      → IsSorted (e ∷ es) → Carries theirs.base before e p between → Kept before (e ∷ es)
      → Kept between es
  kept_next before between e es p sorted one kept r m found =
      same_under theirs.base before between e p r one (found_apart e es r m sorted found)
      ∙ kept r m (found_later e es r m sorted found)

  becomes : (before between : DeskSeen) (e : Entry) (p : PrintedLine) → before.base ≡ mine.base
      → get (map_of before.held) e.reference ≡ get (map_of mine.held) e.reference
      → Carries theirs.base before e p between → Becomes mine theirs e p
  becomes before between e (printed.Left r) base kept c = (
    c.0,
    λ means. c.1 (subst (λ (b : BaseSeen). MeansTheSame b theirs.base e.message) (sym base)
        means),
  )
  becomes before between e (printed.Repeated r) base kept c =
      (c.0, subst (λ (b : BaseSeen). MeansTheSame b theirs.base e.message) base c.1, sym kept ∙ c.2)
  becomes before between e (printed.Taken r) base kept c =
      (c.0, subst (λ (b : BaseSeen). MeansTheSame b theirs.base e.message) base c.1, sym kept ∙ c.2)
  becomes before between e (printed.SerialNote n) base kept c = absurd c
  becomes before between e (printed.CheckReferenceNote n) base kept c = absurd c
  becomes before between e (printed.Summary a b d) base kept c = absurd c
  becomes before between e (printed.ProblemCount a b) base kept c = absurd c
  becomes before between e (printed.Withdrawn r) base kept c = absurd c
  becomes before between e (printed.NotHeld r) base kept c = absurd c
  becomes before between e (printed.Held n) base kept c = absurd c

  each_prints : (es : List Entry) (before after : DeskSeen) (lines : List ℕ) → IsSorted es
      → before.base ≡ mine.base → Kept before es → CarriesEach theirs.base before es after lines
      → PrintsEach mine theirs es lines
  each_prints [] before after lines sorted base kept c = c.1
  each_prints (e ∷ es) before after lines sorted base kept (p, between, more, one, rest, is) = (
    p,
    more,
    becomes before between e p base (kept e.reference e.message (found_first e es)) one,
    each_prints es between after more (and_right _ _ sorted)
        (base_after theirs.base before between e p one
        ∙ base) (kept_next before between e es p sorted one kept) rest,
    is,
  )

  -- this desk holds another message under the reference of one of these that means the same
  record Clash (es : List Entry) (r : Reference) : Type 0 where
    here : MessageValue
    there : MessageValue
    holds : get (map_of mine.held) r ≡ Some here
    found : Found es r there
    means : MeansTheSame mine.base theirs.base there
    apart : here ≢ there

  record FirstClash (es : List Entry) (r : Reference) : Type 0 where
    clash : Clash es r
    least : (q : Reference) → Clash es q → reference_cmp q r ≢ Less

  abbrev Refused : List Entry → DeskFault → Type 0
  Refused es why =
      (why ≡ fault.Memory) ⊎ ((r : Reference) × FirstClash es r × (why ≡ fault.Conflict r))

  -- a message that was carried has no clash
  no_clash : (before between : DeskSeen) (e : Entry) (p : PrintedLine) (here : MessageValue)
      → before.base ≡ mine.base
      → get (map_of before.held) e.reference ≡ get (map_of mine.held) e.reference
      → Carries theirs.base before e p between
      → get (map_of mine.held) e.reference ≡ Some here → MeansTheSame mine.base theirs.base e.message
      → here ≢ e.message → ⊥
  no_clash before between e p here base kept one holds means apart =
      by p (becomes before between e p base kept one)
    where
      by : (p : PrintedLine) → Becomes mine theirs e p → ⊥
      by (printed.Left r) b = b.1 means
      by (printed.Repeated r) b = apart (some_same here e.message (sym holds ∙ b.2))
      by (printed.Taken r) b = none_some here (sym b.2 ∙ holds)
      by (printed.SerialNote n) b = b
      by (printed.CheckReferenceNote n) b = b
      by (printed.Summary x y z) b = b
      by (printed.ProblemCount x y) b = b
      by (printed.Withdrawn r) b = b
      by (printed.NotHeld r) b = b
      by (printed.Held n) b = b

  -- the first message clashes
  clash_here : (before : DeskSeen) (e : Entry) (es : List Entry) (why : DeskFault) → IsSorted (e ∷ es)
      → before.base ≡ mine.base → Kept before (e ∷ es) → RefusesOne theirs.base before e why
      → Refused (e ∷ es) why
  clash_here before e es fault.Memory sorted base kept r = inl refl
  clash_here before e es (fault.Conflict q) sorted base kept (same, means, other, holds, apart) =
      inr (e.reference, record { clash = clash; least = least }, ap fault.Conflict same)
    where
      clash : Clash (e ∷ es) e.reference
      clash = record {
        here = other;
        there = e.message;
        holds = sym (kept e.reference e.message (found_first e es)) ∙ holds;
        found = found_first e es;
        means = subst (λ (b : BaseSeen). MeansTheSame b theirs.base e.message) base means;
        apart = apart;
      }

      least : (x : Reference) → Clash (e ∷ es) x → reference_cmp x e.reference ≢ Less
      least x k less =
          none_some k.there
          (sym (ap (λ (o : Ordering). cond (is_eq o) (Some e.message)
          (find reference_cmp x (keyed es))) less
          ∙ find_below x e.reference (keyed es) less (and_left _ _ sorted)) ∙ k.found)
  clash_here before e es (fault.Text why) sorted base kept r = absurd r
  clash_here before e es (fault.Resolve why) sorted base kept r = absurd r
  clash_here before e es fault.OtherBase sorted base kept r = absurd r
  clash_here before e es (fault.Read why) sorted base kept r = absurd r
  clash_here before e es (fault.File offset) sorted base kept r = absurd r

  -- a later message clashes
  clash_later : (before between : DeskSeen) (e : Entry) (es : List Entry) (p : PrintedLine)
      (why : DeskFault) → IsSorted (e ∷ es) → before.base ≡ mine.base → Kept before (e ∷ es)
      → Carries theirs.base before e p between
      → Refused es why → Refused (e ∷ es) why
  clash_later before between e es p why sorted base kept one (inl memory) = inl memory
  clash_later before between e es p why sorted base kept one (inr (r, f, is)) =
      inr (r, record { clash = clash; least = least }, is)
    where
      clash : Clash (e ∷ es) r
      clash = let k = f.clash in
          record {
            here = k.here;
            there = k.there;
            holds = k.holds;
            found =
                found_later e es r k.there sorted k.found;
            means = k.means;
            apart = k.apart;
          }

      least : (q : Reference) → Clash (e ∷ es) q → reference_cmp q r ≢ Less
      least q k = by (found_at e es q k.there sorted k.found)
        where
          by : IsAt e es q k.there → reference_cmp q r ≢ Less
          by (at_first reference message) less =
              no_clash before between e p k.here base (kept e.reference e.message (found_first e es))
              one (ap (get (map_of mine.held)) (sym reference) ∙ k.holds)
              (subst (MeansTheSame mine.base theirs.base) message k.means)
              (λ same. k.apart (same ∙ sym message))
          by (at_later apart found) less =
              f.least q
              (record {
                here = k.here;
                there = k.there;
                holds = k.holds;
                found = found;
                means =
                    k.means;
                apart = k.apart;
              }) less

  each_refused : (es : List Entry) (before : DeskSeen) (why : DeskFault) → IsSorted es
      → before.base ≡ mine.base → Kept before es → RefusesAny theirs.base before es why
      → Refused es why
  each_refused [] before why sorted base kept memory = inl memory
  each_refused (e ∷ es) before why sorted base kept (inl memory) = inl memory
  each_refused (e ∷ es) before why sorted base kept (inr (inl one)) =
      clash_here before e es why sorted base kept one
  each_refused (e ∷ es) before why sorted base kept (inr (inr (p, between, one, rest))) =
      clash_later before between e es p why sorted base kept one
      (each_refused es between why (and_right _ _ sorted)
      (base_after theirs.base before between e p one
      ∙ base) (kept_next before between e es p sorted one kept) rest)

  module _ (rising : AreRising theirs.held) where
    in_list : (r : Reference) (m : MessageValue) → Holds (state_of theirs) r m → Found theirs.held r m
    in_list r m h = sym (get-map_of theirs.held r rising) ∙ h

    in_map : (r : Reference) (m : MessageValue) → Found theirs.held r m → Holds (state_of theirs) r m
    in_map r m found = get-map_of theirs.held r rising ∙ found

    -- the desk after all messages
    pub is_carry : (after : DeskSeen) (lines : List ℕ)
        → CarriesEach theirs.base mine theirs.held after lines → IsCarryOf mine theirs after lines
    is_carry after lines each = record {
      base = each_base theirs.base theirs.held mine after lines each;
      holds = λ r m. (λ h. there r m ((all r m).0 h), λ s. (all r m).1 (back r m s));
      prints = each_prints theirs.held mine after lines (T-from_true _ rising) refl (λ r m found. refl)
          each;
    }
      where
        all : (r : Reference) (m : MessageValue)
            → (get (map_of after.held) r ≡ Some m) ↔ ((get (map_of mine.held) r ≡ Some m)
            ⊎ (Found theirs.held r m × MeansTheSame mine.base theirs.base m))
        all = each_holds theirs.base theirs.held mine after lines (T-from_true _ rising) each

        there : (r : Reference) (m : MessageValue) → (get (map_of mine.held) r ≡ Some m)
            ⊎ (Found theirs.held r m × MeansTheSame mine.base theirs.base m)
            → Holds (state_of mine) r m ⊎ IsCarried mine theirs r m
        there r m (inl h) = inl h
        there r m (inr k) = inr (in_map r m k.0, k.1)

        back : (r : Reference) (m : MessageValue) → Holds (state_of mine) r m
            ⊎ IsCarried mine theirs r m → (get (map_of mine.held) r ≡ Some m)
            ⊎ (Found theirs.held r m × MeansTheSame mine.base theirs.base m)
        back r m (inl h) = inl h
        back r m (inr k) = inr (in_list r m k.0, k.1)

    conflict_of : (r : Reference) → Clash theirs.held r → IsConflict mine theirs r
    conflict_of r k =
        record {
          one = k.here;
          other = k.there;
          holds = k.holds;
          carried =
              (in_map r k.there k.found, k.means);
          apart = k.apart;
        }

    clash_of : (r : Reference) → IsConflict mine theirs r → Clash theirs.held r
    clash_of r k =
        record {
          here = k.one;
          there = k.other;
          holds = k.holds;
          found =
              in_list r k.other k.carried.0;
          means = k.carried.1;
          apart = k.apart;
        }

    -- why not all messages are carried
    pub is_refused : (why : DeskFault) → RefusesAny theirs.base mine theirs.held why
        → RefusesCarry mine theirs (refused.Desk why)
    is_refused why refuses =
        by (each_refused theirs.held mine why (T-from_true _ rising) refl (λ r m found. refl) refuses)
      where
        by : Refused theirs.held why → RefusesCarry mine theirs (refused.Desk why)
        by (inl memory) = inl (ap (λ (f : DeskFault). refusal_number (refused.Desk f)) memory)
        by (inr (r, f, is)) =
            inr (
              r,
              record {
                conflict = conflict_of r f.clash;
                least =
                    λ q k. f.least q (clash_of q k);
              },
              ap refused.Desk is,
            )

-- ---- one more message

-- the lines so far, and what the messages that are left do, are what all messages do
abbrev pub AreCarried : BaseSeen → DeskSeen → List Entry → ℕ → DeskSeen → List ℕ → Type 0
AreCarried theirs before es i now lines =
    (after : DeskSeen) (later : List ℕ) → CarriesEach theirs now (drop i es) after later
    → CarriesEach theirs before es after (lines ++ later)

-- a message that is left and refused is one of all messages
abbrev pub StopsLater : BaseSeen → DeskSeen → List Entry → ℕ → DeskSeen → Type 0
StopsLater theirs before es i now = (why : DeskFault) → RefusesAny theirs now (drop i es) why
    → RefusesAny theirs before es why

pub one_carried : (theirs : BaseSeen) (before now next : DeskSeen) (es : List Entry) (i : ℕ)
    (e : Entry) (p : PrintedLine) (lines more : List ℕ) → drop i es ≡ e ∷ drop (i + 1) es
    → Carries theirs now e p next
    → more ≡ lines ++ line (printed_text p) → AreCarried theirs before es i now lines
    → AreCarried theirs before es (i + 1) next more
one_carried theirs before now next es i e p lines more left one is so_far = λ after later rest.
    let text = line (printed_text p) in
    let step =
    subst (λ (xs : List Entry). CarriesEach theirs now xs after (text ++ later)) (sym left)
    (p, next, later, one, rest, refl) in
    subst (CarriesEach theirs before es after)
    (sym (ap (λ (bytes : List ℕ). bytes ++ later) is ∙ append_assoc lines text later))
    (so_far after (text ++ later) step)

pub one_passed : (theirs : BaseSeen) (before now next : DeskSeen) (es : List Entry) (i : ℕ) (e : Entry)
    (p : PrintedLine) → drop i es ≡ e ∷ drop (i + 1) es → Carries theirs now e p next
    → StopsLater theirs before es i now
    → StopsLater theirs before es (i + 1) next
one_passed theirs before now next es i e p left one so_far = λ why rest.
    so_far why (subst (λ (xs : List Entry). RefusesAny theirs now xs why) (sym left)
    (inr (inr (p, next, one, rest))))

pub all_carried : (theirs : BaseSeen) (before now : DeskSeen) (es : List Entry) (i : ℕ)
    (lines : List ℕ) → drop i es ≡ [] → AreCarried theirs before es i now lines
    → CarriesEach theirs before es now lines
all_carried theirs before now es i lines none so_far =
    subst (CarriesEach theirs before es now) (append-nil lines)
    (so_far now [] (subst (λ (xs : List Entry). CarriesEach theirs now xs now []) (sym none)
    (refl, refl)))

pub none_carried : (theirs : BaseSeen) (before : DeskSeen) (es : List Entry) (lines : List ℕ)
    → lines ≡ [] → AreCarried theirs before es 0 before lines
none_carried theirs before es lines none =
    λ after later left. subst (CarriesEach theirs before es after)
    (sym (ap (λ (xs : List ℕ). xs ++ later) none)) left

-- ---- carrier records

abbrev carrier_in : CarrierFields → List Record → CarrierFields
carrier_in other (Header header ∷ Carrier carrier ∷ later) = carrier
carrier_in other _ = other

one_carrier : (base : List Record) (a b : CarrierFields) → HasCarrier base a → HasCarrier base b
    → a ≡ b
one_carrier base a b (header, later, is) (head, rest, are) = ap (carrier_in a) (sym is ∙ are)

pub of_one : (mine theirs : DeskSeen) (here there : CarrierFields) → HasCarrier mine.base.records here
    → HasCarrier theirs.base.records there → AreOfOneAirline mine theirs
    → (there.airline ≡ here.airline) × (there.time_mode ≡ here.time_mode)
of_one mine theirs here there a b one =
    let same = one_carrier mine.base.records one.here here one.carrier_here a in
    let same_too = one_carrier theirs.base.records one.there there one.carrier_there b in (
      sym (ap (λ (r : CarrierFields). r.airline) same_too) ∙ one.airline
          ∙ ap (λ (r : CarrierFields). r.airline) same,
      sym (ap (λ (r : CarrierFields). r.time_mode) same_too) ∙ one.time_mode
          ∙ ap (λ (r : CarrierFields). r.time_mode) same,
    )
