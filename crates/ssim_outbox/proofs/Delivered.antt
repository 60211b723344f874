-- The next message resolves to the next reference and to the first of the dates; what is left can
-- then be delivered, since its reference follows.
use Rattle.std.proofs.Common.{◌≡◌, ◌<◌, ◌+◌, ◌^◌, ℕ, zero, suc, List, [], ◌∷◌, ◌++◌, length, take, drop}
use Rattle.std.proofs.Common.{refl, sym, ap, subst, ◌∙◌, append_assoc, append-nil, arith}
use Rattle.std.proofs.lemmas.List.{length-take}
use Rattle.std.specs.Cmp.{nat_cmp_is}
use Rattle.std.specs.Ordering.{nat_cmp}
use Rattle.std.specs.declared.alloc.Global.{Global}
use Rattle.std.specs.declared.cmp.Ordering.TheVariants.{Equal, Less}
use Rattle.std.specs.declared.vec.Vec.{Vec}
use Rattle.ssim_records.specs.Carrier.{CarrierFields}
use Rattle.ssim_base.specs.BaseSeen.{BaseSeen}
use Rattle.ssim_base.specs.Resolve.{AreResolved, IsNext, Resolves, ResolvesIn}
use Rattle.ssim_base.specs.Stations.{Row}
use Rattle.ssim_base.specs.declared.resolution.ResolvedText.{ResolvedText}
use Rattle.ssim_base.specs.declared.sub_message.ResolvedSub.{ResolvedSub}
use Rattle.ssim_text.specs.Message.{MessageValue}
use Rattle.ssim_text.specs.declared.action.Sub.{Sub}
use Rattle.ssim_text.specs.declared.reference.Reference.{Reference}
use Rattle.ssim_held.specs.Entries.{DeskSeen, Entry}
use Rattle.ssim_held.specs.Held.{reference_cmp}
use Rattle.ssim_held.proofs.References.{reference_total}
use Rattle.ssim_desk.specs.Desk.{timetable_of}
use Rattle.ssim_desk.specs.Meaning.{Timetable, after_entries, after_one, after_subs, left_by}
use Rattle.ssim_base.specs.Timetable.{itinerary}
use Rattle.ssim_desk.proofs.Trails.{after_entries-++}
use Rattle.ssim_outbox.specs.Delivery.{AreAddressed, AreDelivered, CanDeliver, entries_of}
use Rattle.ssim_outbox.specs.Messages.{IsFirst, Send, headed}
use Rattle.ssim_outbox.specs.Order.{Follows}
use Rattle.ssim_outbox.specs.internal.Delivery.{AreLeft}

-- ---- the first of the dates

-- a vector with these elements, at the place of another one
vector : {X : Type 0} → Vec X Global → (xs : List X) → length xs < 2 ^ 63 → Vec X Global
vector v xs small = record {
  ptr = v.ptr;
  len = length xs;
  cap = length xs;
  alloc = v.alloc;
  items = xs;
  ok = (refl, omega arith);
  small = small;
}

taken_dates : (carrier : CarrierFields) (n : ℕ) (subs : List Sub) (dates : List ResolvedSub)
    → AreResolved carrier subs dates → AreResolved carrier (take n subs) (take n dates)
taken_dates carrier zero subs dates h = tt
taken_dates carrier (suc n) [] [] h = tt
taken_dates carrier (suc n) [] (d ∷ dates) h = absurd h
taken_dates carrier (suc n) (s ∷ subs) [] h = absurd h
taken_dates carrier (suc n) (s ∷ subs) (d ∷ dates) h = (h.0, taken_dates carrier n subs dates h.1)

left_dates : (carrier : CarrierFields) (n : ℕ) (subs : List Sub) (dates : List ResolvedSub)
    → AreResolved carrier subs dates → AreResolved carrier (drop n subs) (drop n dates)
left_dates carrier zero subs dates h = h
left_dates carrier (suc n) [] [] h = tt
left_dates carrier (suc n) [] (d ∷ dates) h = absurd h
left_dates carrier (suc n) (s ∷ subs) [] h = absurd h
left_dates carrier (suc n) (s ∷ subs) (d ∷ dates) h = left_dates carrier n subs dates h.1

each_date : (carrier : CarrierFields) (subs : List Sub) (dates : List ResolvedSub)
    → AreResolved carrier subs dates → length dates ≡ length subs
each_date carrier [] [] h = refl
each_date carrier [] (d ∷ dates) h = absurd h
each_date carrier (s ∷ subs) [] h = absurd h
each_date carrier (s ∷ subs) (d ∷ dates) h = ap suc (each_date carrier subs dates h.1)

-- ---- the next message

-- a message with its reference and dates, as a base gives them
pub record HasResolved (base : BaseSeen) (m : MessageValue) (reference : Reference)
    (dates : List ResolvedSub) : Type 0 where
  pub text : ResolvedText
  pub resolves : ResolvesIn base.records m text
  pub reference_is : text.reference ≡ reference
  pub dates_are : text.subs.items ≡ dates

resolved_first : (base : BaseSeen) (h : MessageValue) (g : ℕ) (subs : List Sub) (reference : Reference)
    (dates : List ResolvedSub) (m : MessageValue) → AreAddressed base.records h g subs reference dates
    → IsFirst h g subs m → HasResolved base m reference (take (length m.subs) dates)
unfolding vector
resolved_first base h g subs reference dates m a first =
    let n = length m.subs in
    let r = a.resolves in
    let is = a.reference_is in
    let few = first.text.spelled.shape.few in
    let small : length (take n dates) < 2 ^ 63 = omega (arith, few, length-take n dates) in
    let text : ResolvedText =
    record { reference = reference; subs = vector a.resolved.subs (take n dates) small } in
    let own : Resolves a.frame.carrier (headed h g (take n subs)) text = record {
      mode = r.mode;
      date = subst (λ (q : Reference). IsNext a.frame.carrier.created h.reference.date q.date) (sym is) r.date;
      group = ap (λ (q : Reference). q.group) is;
      serial = ap (λ (q : Reference). q.serial) is ∙ r.serial;
      kind = ap (λ (q : Reference). q.kind) is ∙ r.kind;
      originator = ap (λ (q : Reference). q.originator) is ∙ r.originator;
      subs = taken_dates a.frame.carrier n subs dates a.dated;
    } in
    record {
      text = text;
      resolves = (
        a.frame,
        a.in_base,
        subst (λ (x : MessageValue). Resolves a.frame.carrier x text) (sym first.own) own,
      );
      reference_is = refl {A = Reference};
      dates_are = refl {A = List ResolvedSub};
    }

-- ---- the messages that are left

-- the reference with the next group serial
abbrev next : Reference → Reference
next r = record r { group = r.group + 1 }

next_greater : (r : Reference) → reference_cmp r (next r) ≡ Less
next_greater r =
    let same : nat_cmp r.date r.date ≡ Equal = sym (nat_cmp_is r.date r.date Equal refl) in
    let less : nat_cmp r.group (r.group + 1) ≡ Less =
    sym (nat_cmp_is r.group (r.group + 1) Less (omega arith)) in
    rw (same, less) refl

follows_next : (es : List Entry) (e : Entry) (r : Reference) → e.reference ≡ r → Follows r es
    → Follows (next r) (es ++ e ∷ [])
follows_next [] e r is h = (ap (λ (q : Reference). reference_cmp q (next r)) is ∙ next_greater r, tt)
follows_next (x ∷ es) e r is h = (
  reference_total.trans x.reference r (next r) h.0 (next_greater r),
  follows_next es e r is h.1,
)

addressed_next : (base : BaseSeen) (h : MessageValue) (g : ℕ) (subs : List Sub) (r : Reference)
    (dates : List ResolvedSub) (n : ℕ) → AreAddressed base.records h g subs r dates
    → AreAddressed base.records h (g + 1) (drop n subs) (next r) (drop n dates)
addressed_next base h g subs r dates n a = record {
  frame = a.frame;
  in_base = a.in_base;
  resolved = a.resolved;
  resolves = a.resolves;
  reference_is = ap next a.reference_is;
  dated = left_dates a.frame.carrier n subs dates a.dated;
}

abbrev entry_of : Reference → List ResolvedSub → MessageValue → Entry
entry_of r dates m = record { reference = r; message = m; dates = dates }

-- one message was delivered
pub one_less : (old new : DeskSeen) (h : MessageValue) (left later : List MessageValue) (m : MessageValue)
    (all : List Entry) → left ≡ m ∷ later → new.base ≡ old.base
    → ((text : ResolvedText) → ResolvesIn old.base.records m text → Follows text.reference old.held
    → new.held ≡ old.held ++ entry_of text.reference text.subs.items m ∷ [])
    → AreLeft old h left all → AreLeft new h later all
one_less old new h left later m all left_is base_is delivered l =
    by (subst (λ (x : List MessageValue). AreLeft old h x all) left_is l)
  where
    by : AreLeft old h (m ∷ later) all → AreLeft new h later all
    by l =
        let can = l.can in
        let n = length m.subs in
        let e = entry_of l.reference (take n l.dates) m in
        let r = resolved_first old.base h l.group l.subs l.reference l.dates m can.addressed can.send.0 in
        let follows = subst (λ (q : Reference). Follows q old.held) (sym r.reference_is) can.follows in
        let held : new.held ≡ old.held ++ e ∷ [] =
        delivered r.text r.resolves follows
        ∙ ap (λ (q : Reference). old.held ++ entry_of q r.text.subs.items m ∷ []) r.reference_is
        ∙ ap (λ (d : List ResolvedSub). old.held ++ entry_of l.reference d m ∷ []) r.dates_are in
        let rest = entries_of (next l.reference) (drop n l.dates) later in
        record {
          group = l.group + 1;
          subs = drop n l.subs;
          reference = next l.reference;
          dates = drop n l.dates;
          can = record {
            send = can.send.1;
            addressed = subst (λ (b : BaseSeen). AreAddressed b.records h (l.group + 1) (drop n l.subs)
                (next l.reference) (drop n l.dates)) (sym base_is)
                (addressed_next old.base h l.group l.subs l.reference l.dates n can.addressed);
            follows = subst (Follows (next l.reference)) (sym held) (follows_next old.held e l.reference refl can.follows);
          };
          all_is = ap (λ (x : List Entry). x ++ rest) held ∙ append_assoc old.held (e ∷ []) rest ∙ l.all_is;
        }

-- no message can be refused but for memory
pub can_resolve : (desk : DeskSeen) (h : MessageValue) (left later : List MessageValue) (m : MessageValue)
    (all : List Entry) (P : Type 0) → left ≡ m ∷ later
    → ((text : ResolvedText) → ResolvesIn desk.base.records m text → Follows text.reference desk.held → P)
    → AreLeft desk h left all → P
can_resolve desk h left later m all P left_is then l = by (subst (λ (x : List MessageValue). AreLeft desk h x all) left_is l)
  where
    by : AreLeft desk h (m ∷ later) all → P
    by l =
        let can = l.can in
        let r = resolved_first desk.base h l.group l.subs l.reference l.dates m can.addressed can.send.0 in
        then r.text r.resolves (subst (λ (q : Reference). Follows q desk.held) (sym r.reference_is) can.follows)

-- ---- the timetable

without_dates : (rows : List Row) (subs : List Sub) (t : Timetable) → after_subs rows subs [] t ≡ t
without_dates rows [] t = refl
without_dates rows (s ∷ subs) t = refl

-- the first sub-messages, and then the others
after_parts : (rows : List Row) (n : ℕ) (subs : List Sub) (dates : List ResolvedSub) (t : Timetable)
    → after_subs rows subs dates t
    ≡ after_subs rows (drop n subs) (drop n dates) (after_subs rows (take n subs) (take n dates) t)
after_parts rows zero subs dates t = refl
after_parts rows (suc n) [] dates t = refl
after_parts rows (suc n) (s ∷ subs) [] t = sym (without_dates rows (drop n subs) t)
after_parts rows (suc n) (s ∷ subs) (d ∷ dates) t = after_parts rows n subs dates (after_one rows s.action d t)

all_entries : (rows : List Row) (h : MessageValue) (g : ℕ) (subs : List Sub) (r : Reference)
    (dates : List ResolvedSub) (messages : List MessageValue) (t : Timetable) → Send h g subs messages
    → after_entries rows (entries_of r dates messages) t ≡ after_subs rows subs dates t
all_entries rows h g subs r dates [] t send = ap (λ (x : List Sub). after_subs rows x dates t) (sym send)
all_entries rows h g subs r dates (m ∷ messages) t send =
    let n = length m.subs in
    let own : m.subs ≡ take n subs = ap (λ (x : MessageValue). x.subs) send.0.own in
    all_entries rows h (g + 1) (drop n subs) (next r) (drop n dates) messages
    (after_subs rows m.subs (take n dates) t) send.1
    ∙ ap (λ (x : List Sub). after_subs rows (drop n subs) (drop n dates) (after_subs rows x (take n dates) t)) own
    ∙ sym (after_parts rows n subs dates t)

nothing_left : (h : MessageValue) (desk : DeskSeen) (all : List Entry) → AreLeft desk h [] all → desk.held ≡ all
nothing_left h desk all l = sym (append-nil desk.held) ∙ l.all_is

none_if : (messages : List MessageValue) → length messages ≡ 0 → messages ≡ []
none_if [] e = refl
none_if (m ∷ messages) e = absurd (omega (arith, e))

-- a desk that holds the messages after all else
pub holding_all : (old new : DeskSeen) (h : MessageValue) (g : ℕ) (subs : List Sub) (r : Reference)
    (dates : List ResolvedSub) (messages : List MessageValue) → Send h g subs messages
    → new.base ≡ old.base → new.held ≡ old.held ++ entries_of r dates messages
    → AreDelivered old subs r dates messages new
holding_all old new h g subs r dates messages send base_is held =
    let rows = old.base.rows in
    record {
      base = base_is;
      held = held;
      timetable = ap (λ (b : BaseSeen). left_by b new.held) base_is ∙ ap (left_by old.base) held
          ∙ after_entries-++ rows old.held (entries_of r dates messages) (itinerary old.base.records)
          ∙ all_entries rows h g subs r dates messages (timetable_of old) send;
    }

pub all_delivered : (old new : DeskSeen) (h : MessageValue) (g : ℕ) (subs : List Sub) (r : Reference)
    (dates : List ResolvedSub) (messages left : List MessageValue) → CanDeliver old h g subs r dates messages
    → new.base ≡ old.base → length left ≡ 0
    → AreLeft new h left (old.held ++ entries_of r dates messages)
    → AreDelivered old subs r dates messages new
all_delivered old new h g subs r dates messages left can base_is none l =
    let all = old.held ++ entries_of r dates messages in
    let held = nothing_left h new all (subst (λ (x : List MessageValue). AreLeft new h x all) (none_if left none) l) in
    holding_all old new h g subs r dates messages can.send base_is held
