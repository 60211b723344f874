-- Desks that agree merge in any order; and the result for a text, or for another desk, is
-- determined.
use Rattle.std.proofs.Common.{◌≡◌, ◌≢◌, ℕ, List, Option, Some, None, refl, sym, ap, subst, ◌∙◌}
use Rattle.std.specs.FinMap.{get, insert}
use Rattle.std.specs.Ordering.{ordering_reverse}
use Rattle.std.specs.declared.cmp.Ordering.{Ordering}
use Rattle.std.specs.declared.cmp.Ordering.TheVariants.{Less, Equal, Greater}
use Rattle.ssim_base.specs.BaseSeen.{BaseSeen}
use Rattle.ssim_base.specs.Resolve.{HasOneOutcome, IsRefusedIn}
use Rattle.ssim_base.specs.declared.resolution.ResolveFault.{ResolveFault}
use Rattle.ssim_text.specs.Decoder.{OneRefusal}
use Rattle.ssim_text.specs.Grammar.{OneMessage}
use Rattle.ssim_text.specs.Message.{MessageValue}
use Rattle.ssim_text.specs.Spelling.{SpellsMessage}
use Rattle.ssim_text.specs.declared.fault.TextFault.{TextFault}
use Rattle.ssim_text.specs.declared.fault.TextFault.TheVariants as text_fault
use Rattle.ssim_text.specs.declared.reference.Reference.{Reference}
use Rattle.ssim_held.specs.Held.{Agree, DeskState, DifferAt, HeldMessages, Holds, IsLeastConflict, Says, reference_cmp, union}
use Rattle.ssim_held.specs.declared.fault.DeskFault.TheVariants.{Memory, Text, Resolve, Conflict, OtherBase, Read, File}
use Rattle.ssim_held.proofs.MapLemmas.{get-union, or_else, union-assoc, union-comm, union-idem}
use Rattle.ssim_held.proofs.References.{reference_apart, reference_total}
use Rattle.ssim_desk.specs.Merging.{IsMergedTo, MergesAreDetermined, TakesAreDetermined, ThreeDesksMerge, merged}
use Rattle.ssim_desk.specs.Steps.{IsInConflict, IsKnown, IsNew, IsUnresolved, IsUnspelt, Merges, Takes}
use Rattle.ssim_desk.specs.declared.steps.Answer.{Answer}
use Rattle.ssim_desk.specs.declared.steps.Answer.TheVariants.{Taken, Repeated, Merged, Refused}
use Rattle.ssim_desk.proofs.Refusing.{one_refusal, resolves_or_not}
use Rattle.ssim_desk.proofs.Taking.{says_message, says_reference}

-- ---- merges

-- maps that agree differ nowhere
no_difference : (m n : HeldMessages) (r : Reference) → Agree m n → DifferAt m n r → ⊥
no_difference m n r agree differ = differ.apart (agree r differ.one differ.other differ.in_one differ.in_other)

one_least : (m n : HeldMessages) (q r : Reference) → IsLeastConflict m n q → IsLeastConflict m n r → q ≡ r
one_least m n q r of_q of_r = by (reference_cmp q r) refl
  where
    by : (o : Ordering) → reference_cmp q r ≡ o → q ≡ r
    by Less e = absurd (of_r.least q of_q.differ e)
    by Equal e = reference_apart q r e
    by Greater e = absurd (of_q.least r of_r.differ (reference_total.antisymm r q ∙ ap ordering_reverse e))

as_union : (mine theirs : DeskState) (b : Answer) (y : HeldMessages) → mine.base ≡ theirs.base → Agree mine.held theirs.held → Merges mine theirs b y → b ≢ Refused Memory
    → (b ≡ Merged) × (y ≡ union mine.held theirs.held)
as_union mine theirs (Taken t) y base agree is memory = absurd is
as_union mine theirs (Repeated t) y base agree is memory = absurd is
as_union mine theirs Merged y base agree is memory = (refl, is.all)
as_union mine theirs (Refused Memory) y base agree is memory = absurd (memory refl)
as_union mine theirs (Refused (Text fault)) y base agree is memory = absurd is.0
as_union mine theirs (Refused (Resolve fault)) y base agree is memory = absurd is.0
as_union mine theirs (Refused (Conflict r)) y base agree is memory = absurd (no_difference mine.held theirs.held r agree is.0.1.differ)
as_union mine theirs (Refused OtherBase) y base agree is memory = absurd (is.0 base)
as_union mine theirs (Refused (Read fault)) y base agree is memory = absurd is.0
as_union mine theirs (Refused (File offset)) y base agree is memory = absurd is.0

as_clash : (mine theirs : DeskState) (r : Reference) (b : Answer) (y : HeldMessages) → mine.base ≡ theirs.base → IsLeastConflict mine.held theirs.held r → Merges mine theirs b y → b ≢ Refused Memory
    → (b ≡ Refused (Conflict r)) × (y ≡ mine.held)
as_clash mine theirs r (Taken t) y base clash is memory = absurd is
as_clash mine theirs r (Repeated t) y base clash is memory = absurd is
as_clash mine theirs r Merged y base clash is memory = absurd (no_difference mine.held theirs.held r is.agree clash.differ)
as_clash mine theirs r (Refused Memory) y base clash is memory = absurd (memory refl)
as_clash mine theirs r (Refused (Text fault)) y base clash is memory = absurd is.0
as_clash mine theirs r (Refused (Resolve fault)) y base clash is memory = absurd is.0
as_clash mine theirs r (Refused (Conflict q)) y base clash is memory = (ap (λ k. Refused (Conflict k)) (one_least mine.held theirs.held q r is.0.1 clash), is.1)
as_clash mine theirs r (Refused OtherBase) y base clash is memory = absurd (is.0 base)
as_clash mine theirs r (Refused (Read fault)) y base clash is memory = absurd is.0
as_clash mine theirs r (Refused (File offset)) y base clash is memory = absurd is.0

as_other : (mine theirs : DeskState) (b : Answer) (y : HeldMessages) → mine.base ≢ theirs.base → Merges mine theirs b y → b ≢ Refused Memory → (b ≡ Refused OtherBase) × (y ≡ mine.held)
as_other mine theirs (Taken t) y apart is memory = absurd is
as_other mine theirs (Repeated t) y apart is memory = absurd is
as_other mine theirs Merged y apart is memory = absurd (apart is.base)
as_other mine theirs (Refused Memory) y apart is memory = absurd (memory refl)
as_other mine theirs (Refused (Text fault)) y apart is memory = absurd is.0
as_other mine theirs (Refused (Resolve fault)) y apart is memory = absurd is.0
as_other mine theirs (Refused (Conflict q)) y apart is memory = absurd (apart is.0.0)
as_other mine theirs (Refused OtherBase) y apart is memory = (refl, is.1)
as_other mine theirs (Refused (Read fault)) y apart is memory = absurd is.0
as_other mine theirs (Refused (File offset)) y apart is memory = absurd is.0

both : {A B : Type 0} {a b c : A} {x y z : B} → (b ≡ a) × (y ≡ x) → c ≡ a → z ≡ x → (c ≡ b) × (z ≡ y)
both of first second = (first ∙ sym of.0, second ∙ sym of.1)

pub merges_are_determined : MergesAreDetermined
merges_are_determined mine theirs (Taken t) b x y is_a is_b memory_a memory_b = absurd is_a
merges_are_determined mine theirs (Repeated t) b x y is_a is_b memory_a memory_b = absurd is_a
merges_are_determined mine theirs Merged b x y is_a is_b memory_a memory_b = both (as_union mine theirs b y is_a.base is_a.agree is_b memory_b) refl is_a.all
merges_are_determined mine theirs (Refused Memory) b x y is_a is_b memory_a memory_b = absurd (memory_a refl)
merges_are_determined mine theirs (Refused (Text fault)) b x y is_a is_b memory_a memory_b = absurd is_a.0
merges_are_determined mine theirs (Refused (Resolve fault)) b x y is_a is_b memory_a memory_b = absurd is_a.0
merges_are_determined mine theirs (Refused (Conflict r)) b x y is_a is_b memory_a memory_b = both (as_clash mine theirs r b y is_a.0.0 is_a.0.1 is_b memory_b) refl is_a.1
merges_are_determined mine theirs (Refused OtherBase) b x y is_a is_b memory_a memory_b = both (as_other mine theirs b y is_a.0 is_b memory_b) refl is_a.1
merges_are_determined mine theirs (Refused (Read fault)) b x y is_a is_b memory_a memory_b = absurd is_a.0
merges_are_determined mine theirs (Refused (File offset)) b x y is_a is_b memory_a memory_b = absurd is_a.0

-- ---- three desks

some_of : {X : Type 0} (x y : X) → Some x ≡ Some y → x ≡ y
some_of x y e = cc

-- what agrees with two maps agrees with their union
agree_union : (m n k : HeldMessages) → Agree m k → Agree n k → Agree (union m n) k
agree_union m n k m_k n_k q x y is_x is_y = by (get m q) refl (sym (get-union reference_total m n q) ∙ is_x)
  where
    by : (o : Option MessageValue) → get m q ≡ o → or_else o (get n q) ≡ Some x → x ≡ y
    by None e h = n_k q x y h is_y
    by (Some z) e h = m_k q x y (e ∙ h) is_y

turned : (m n : HeldMessages) → Agree m n → Agree n m
turned m n agree q x y is_x is_y = sym (agree q y x is_y is_x)

itself : (m : HeldMessages) → Agree m m
itself m q x y is_x is_y = some_of x y (sym is_x ∙ is_y)

-- the merge of two desks that agree
merges_to : (mine theirs after : DeskState) → mine.base ≡ theirs.base → Agree mine.held theirs.held → merged mine theirs ≡ after → IsMergedTo mine theirs after
merges_to mine theirs after base agree is answer held merges memory =
    let one = as_union mine theirs answer held base agree merges memory in
    (one.0, ap (λ (h : HeldMessages). desk_of mine.base h) one.1 ∙ is)
  where
    desk_of : BaseSeen → HeldMessages → DeskState
    desk_of base held = record { base = base; held = held }

pub three_desks_merge : ThreeDesksMerge
three_desks_merge a b c are =
    let flipped : union b.held a.held ≡ union a.held b.held = sym (union-comm reference_total reference_apart a.held b.held are.a_and_b) in
    let own : union a.held a.held ≡ a.held = union-idem reference_total reference_apart a.held in
    let grouped : union a.held (union b.held c.held) ≡ union (union a.held b.held) c.held = sym (union-assoc reference_total reference_apart a.held b.held c.held) in
    record {
      a_b = merges_to a b (merged a b) are.base_of_b are.a_and_b refl;
      b_a = merges_to b a (merged a b) (sym are.base_of_b) (turned a.held b.held are.a_and_b) (λ i. record { base = sym are.base_of_b i; held = flipped i });
      a_a = merges_to a a a refl (itself a.held) (λ i. record { base = a.base; held = own i });
      b_c = merges_to b c (merged b c) (sym are.base_of_b ∙ are.base_of_c) are.b_and_c refl;
      ab_c = merges_to (merged a b) c (merged (merged a b) c) are.base_of_c (agree_union a.held b.held c.held are.a_and_c are.b_and_c) refl;
      a_bc = merges_to a (merged b c) (merged (merged a b) c) are.base_of_b
          (turned (union b.held c.held) a.held (agree_union b.held c.held a.held (turned a.held b.held are.a_and_b) (turned a.held c.held are.a_and_c)))
          (λ i. record { base = a.base; held = grouped i });
    }

-- ---- texts

module _ (one : OneMessage) (refusals : OneRefusal) (outcome : HasOneOutcome) (desk : DeskState) (text : List ℕ) where
  not_spelt : (m : MessageValue) (fault : TextFault) → SpellsMessage m text → IsUnspelt text fault → ⊥
  not_spelt m text_fault.Memory spelt un = un
  not_spelt m (text_fault.Refused fault line) spelt un = un.0 m spelt

  not_unresolved : (r : Reference) (m : MessageValue) (fault : ResolveFault) → Says desk.base text r m → IsUnresolved desk text fault → ⊥
  not_unresolved r m fault says un =
      let same_message : un.message ≡ m = one un.message m _ un.spelt.spelled says.spelt.spelled in
      resolves_or_not outcome desk.base.records m says.resolved fault says.resolves (subst (λ x. IsRefusedIn desk.base.records x fault) same_message un.refused) un.of_message

  -- what a text says is held under the same reference
  held_there : (r q : Reference) (m n x : MessageValue) → Says desk.base text r m → Says desk.base text q n → Holds desk q x → Holds desk r x
  held_there r q m n x says_m says_n holds = ap (get desk.held) (says_reference one desk.base text r q m n says_m says_n) ∙ holds

  some_none : (r : Reference) (x : MessageValue) → get desk.held r ≡ None → Holds desk r x → ⊥
  some_none r x absent holds = let never : None ≡ Some x = sym absent ∙ holds in absurd cc

  as_new : (r : Reference) (b : Answer) (x y : HeldMessages) → IsNew desk text r x → Takes desk text b y → b ≢ Refused Memory → (b ≡ Taken r) × (y ≡ x)
  as_new r (Taken q) x y new is memory =
      let reference = says_reference one desk.base text q r is.message new.message is.says new.says in
      let message = says_message one desk.base text q r is.message new.message is.says new.says in
      (ap (λ k. Taken k) reference, is.added ∙ (λ i. insert desk.held (reference i) (message i)) ∙ sym new.added)
  as_new r (Repeated q) x y new is memory =
      let known = is.0 in
      absurd (some_none r known.message new.absent (held_there r q new.message known.message known.message new.says known.says known.holds))
  as_new r Merged x y new is memory = absurd is
  as_new r (Refused Memory) x y new is memory = absurd (memory refl)
  as_new r (Refused (Text fault)) x y new is memory = absurd (not_spelt new.message fault new.says.spelt is.0)
  as_new r (Refused (Resolve fault)) x y new is memory = absurd (not_unresolved r new.message fault new.says is.0)
  as_new r (Refused (Conflict q)) x y new is memory =
      let clash = is.0 in
      absurd (some_none r clash.other new.absent (held_there r q new.message clash.message clash.other new.says clash.says clash.holds))
  as_new r (Refused OtherBase) x y new is memory = absurd is.0
  as_new r (Refused (Read fault)) x y new is memory = absurd is.0
  as_new r (Refused (File offset)) x y new is memory = absurd is.0

  not_both : (r q : Reference) → IsKnown desk text r → IsInConflict desk text q → ⊥
  not_both r q known clash =
      let there = held_there q r clash.message known.message known.message clash.says known.says known.holds in
      let message = says_message one desk.base text q r clash.message known.message clash.says known.says in
      clash.apart (some_of clash.other known.message (sym clash.holds ∙ there) ∙ sym message)

  as_known : (r : Reference) (b : Answer) (y : HeldMessages) → IsKnown desk text r → Takes desk text b y → b ≢ Refused Memory → (b ≡ Repeated r) × (y ≡ desk.held)
  as_known r (Taken q) y known is memory =
      absurd (some_none q known.message is.absent (held_there q r is.message known.message known.message is.says known.says known.holds))
  as_known r (Repeated q) y known is memory =
      let other = is.0 in (ap (λ k. Repeated k) (says_reference one desk.base text q r other.message known.message other.says known.says), is.1)
  as_known r Merged y known is memory = absurd is
  as_known r (Refused Memory) y known is memory = absurd (memory refl)
  as_known r (Refused (Text fault)) y known is memory = absurd (not_spelt known.message fault known.says.spelt is.0)
  as_known r (Refused (Resolve fault)) y known is memory = absurd (not_unresolved r known.message fault known.says is.0)
  as_known r (Refused (Conflict q)) y known is memory = absurd (not_both r q known is.0)
  as_known r (Refused OtherBase) y known is memory = absurd is.0
  as_known r (Refused (Read fault)) y known is memory = absurd is.0
  as_known r (Refused (File offset)) y known is memory = absurd is.0

  as_conflict : (r : Reference) (b : Answer) (y : HeldMessages) → IsInConflict desk text r → Takes desk text b y → b ≢ Refused Memory → (b ≡ Refused (Conflict r)) × (y ≡ desk.held)
  as_conflict r (Taken q) y clash is memory =
      absurd (some_none q clash.other is.absent (held_there q r is.message clash.message clash.other is.says clash.says clash.holds))
  as_conflict r (Repeated q) y clash is memory = absurd (not_both q r is.0 clash)
  as_conflict r Merged y clash is memory = absurd is
  as_conflict r (Refused Memory) y clash is memory = absurd (memory refl)
  as_conflict r (Refused (Text fault)) y clash is memory = absurd (not_spelt clash.message fault clash.says.spelt is.0)
  as_conflict r (Refused (Resolve fault)) y clash is memory = absurd (not_unresolved r clash.message fault clash.says is.0)
  as_conflict r (Refused (Conflict q)) y clash is memory =
      let other = is.0 in
      (ap (λ k. Refused (Conflict k)) (says_reference one desk.base text q r other.message clash.message other.says clash.says), is.1)
  as_conflict r (Refused OtherBase) y clash is memory = absurd is.0
  as_conflict r (Refused (Read fault)) y clash is memory = absurd is.0
  as_conflict r (Refused (File offset)) y clash is memory = absurd is.0

  same_fault : (f g : TextFault) → IsUnspelt text f → IsUnspelt text g → f ≡ g
  same_fault text_fault.Memory g un other = absurd un
  same_fault (text_fault.Refused f m) text_fault.Memory un other = absurd other
  same_fault (text_fault.Refused f m) (text_fault.Refused g n) un other =
      let both = refusals text f g m n un.1 other.1 in
      λ i. text_fault.Refused (both.0 i) (both.1 i)

  as_unspelt : (f : TextFault) (b : Answer) (y : HeldMessages) → IsUnspelt text f → Takes desk text b y → b ≢ Refused Memory → (b ≡ Refused (Text f)) × (y ≡ desk.held)
  as_unspelt f (Taken q) y un is memory = absurd (not_spelt is.message f is.says.spelt un)
  as_unspelt f (Repeated q) y un is memory = let known = is.0 in absurd (not_spelt known.message f known.says.spelt un)
  as_unspelt f Merged y un is memory = absurd is
  as_unspelt f (Refused Memory) y un is memory = absurd (memory refl)
  as_unspelt f (Refused (Text g)) y un is memory = (ap (λ k. Refused (Text k)) (same_fault g f is.0 un), is.1)
  as_unspelt f (Refused (Resolve g)) y un is memory = let other = is.0 in absurd (not_spelt other.message f other.spelt un)
  as_unspelt f (Refused (Conflict q)) y un is memory = let clash = is.0 in absurd (not_spelt clash.message f clash.says.spelt un)
  as_unspelt f (Refused OtherBase) y un is memory = absurd is.0
  as_unspelt f (Refused (Read fault)) y un is memory = absurd is.0
  as_unspelt f (Refused (File offset)) y un is memory = absurd is.0

  as_unresolved : (f : ResolveFault) (b : Answer) (y : HeldMessages) → IsUnresolved desk text f → Takes desk text b y → b ≢ Refused Memory → (b ≡ Refused (Resolve f)) × (y ≡ desk.held)
  as_unresolved f (Taken q) y un is memory = absurd (not_unresolved q is.message f is.says un)
  as_unresolved f (Repeated q) y un is memory = let known = is.0 in absurd (not_unresolved q known.message f known.says un)
  as_unresolved f Merged y un is memory = absurd is
  as_unresolved f (Refused Memory) y un is memory = absurd (memory refl)
  as_unresolved f (Refused (Text g)) y un is memory = absurd (not_spelt un.message g un.spelt is.0)
  as_unresolved f (Refused (Resolve g)) y un is memory =
      let other = is.0 in
      let same_message : other.message ≡ un.message = one other.message un.message _ other.spelt.spelled un.spelt.spelled in
      (ap (λ k. Refused (Resolve k)) (one_refusal outcome desk.base.records un.message g f (subst (λ x. IsRefusedIn desk.base.records x g) same_message other.refused) other.of_message un.refused un.of_message), is.1)
  as_unresolved f (Refused (Conflict q)) y un is memory = let clash = is.0 in absurd (not_unresolved q clash.message f clash.says un)
  as_unresolved f (Refused OtherBase) y un is memory = absurd is.0
  as_unresolved f (Refused (Read fault)) y un is memory = absurd is.0
  as_unresolved f (Refused (File offset)) y un is memory = absurd is.0

  equals : (a b : Answer) (x y z : HeldMessages) → (b ≡ a) × (y ≡ z) → x ≡ z → (a ≡ b) × (x ≡ y)
  equals a b x y z of held = (sym of.0, held ∙ sym of.1)

  determined : (a b : Answer) (x y : HeldMessages) → Takes desk text a x → Takes desk text b y → a ≢ Refused Memory → b ≢ Refused Memory → (a ≡ b) × (x ≡ y)
  determined (Taken r) b x y is_a is_b memory_a memory_b = equals (Taken r) b x y x (as_new r b x y is_a is_b memory_b) refl
  determined (Repeated r) b x y is_a is_b memory_a memory_b = equals (Repeated r) b x y desk.held (as_known r b y is_a.0 is_b memory_b) is_a.1
  determined Merged b x y is_a is_b memory_a memory_b = absurd is_a
  determined (Refused Memory) b x y is_a is_b memory_a memory_b = absurd (memory_a refl)
  determined (Refused (Text f)) b x y is_a is_b memory_a memory_b = equals (Refused (Text f)) b x y desk.held (as_unspelt f b y is_a.0 is_b memory_b) is_a.1
  determined (Refused (Resolve f)) b x y is_a is_b memory_a memory_b = equals (Refused (Resolve f)) b x y desk.held (as_unresolved f b y is_a.0 is_b memory_b) is_a.1
  determined (Refused (Conflict r)) b x y is_a is_b memory_a memory_b = equals (Refused (Conflict r)) b x y desk.held (as_conflict r b y is_a.0 is_b memory_b) is_a.1
  determined (Refused OtherBase) b x y is_a is_b memory_a memory_b = absurd is_a.0
  determined (Refused (Read fault)) b x y is_a is_b memory_a memory_b = absurd is_a.0
  determined (Refused (File offset)) b x y is_a is_b memory_a memory_b = absurd is_a.0

pub takes_are_determined : OneMessage → OneRefusal → HasOneOutcome → TakesAreDetermined
takes_are_determined one refusals outcome desk text a b x y is_a is_b memory_a memory_b = determined one refusals outcome desk text a b x y is_a is_b memory_a memory_b
