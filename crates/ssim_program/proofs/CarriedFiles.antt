-- Equal desk files are carried the same; and on one base each message means the same, so that carrying
-- is merging.
use Rattle.std.proofs.Common.{◌≡◌, ◌≢◌, ◌∙◌, ◌⊎◌, ◌↔◌, inl, inr, ℕ, true, false, List, [], ◌∷◌, ◌++◌}
use Rattle.std.proofs.Common.{Option, Some, None, Ok, Err, length, refl, sym, ap, ap₂, subst}
use Rattle.std.specs.FinMap.{entries, get}
use Rattle.std.specs.Prelude.{IfSome, IsTrue}
use Rattle.std.specs.declared.cmp.Ordering.{Ordering}
use Rattle.std.specs.declared.cmp.Ordering.TheVariants.{Less, Equal, Greater}
use Rattle.ssim_base.specs.BaseSeen.{BaseSeen}
use Rattle.ssim_base.specs.Export.{line}
use Rattle.ssim_text.specs.Message.{MessageValue}
use Rattle.ssim_text.specs.declared.reference.Reference.{Reference}
use Rattle.ssim_held.proofs.Entries.{entries-map_of, flips}
use Rattle.ssim_held.proofs.References.{reference_apart}
use Rattle.ssim_held.specs.Entries.{AreRising, DeskSeen, Entry, keyed, map_of, state_of}
use Rattle.ssim_held.specs.File.{CanBeSaved, NoTwoDesks, desk_file}
use Rattle.ssim_held.specs.Held.{Holds, IsLeastConflict, reference_cmp}
use Rattle.ssim_held.specs.declared.fault.DeskFault.{DeskFault}
use Rattle.ssim_held.specs.declared.fault.DeskFault.TheVariants as fault
use Rattle.ssim_desk.proofs.Agreeing.{same_desk}
use Rattle.ssim_desk.proofs.Taking.{merge_holds}
use Rattle.ssim_desk.specs.Steps.{RefusesDesk}
use Rattle.ssim_desk.specs.declared.steps.Answer.TheVariants.{Merged}
use Rattle.ssim_command_line.specs.Line.{Carry, Text}
use Rattle.ssim_program.specs.Acts.{Act, Keep, Print, kept_by, printed_by}
use Rattle.ssim_program.specs.Answer.{Answer, Known, Require, ◌>>=◌}
use Rattle.ssim_program.specs.Carrying.{AreOfOneAirline, Becomes, IsCarried, IsCarryOf, IsConflict}
use Rattle.ssim_program.specs.Carrying.{IsFirstConflict, MeansTheSame, PrintsEach, RefusesCarry}
use Rattle.ssim_program.specs.Carrying.{carried}
use Rattle.ssim_program.specs.Desks.{IsMergeOf, desk_in, held_line, merged}
use Rattle.ssim_program.specs.EqualFiles.{AreAlike, AreOneRefusal, CarriesAsMerges, KeepTheSame}
use Rattle.ssim_program.specs.EqualFiles.{PrintsTheSameOfPairs}
use Rattle.ssim_program.specs.Files.{Files}
use Rattle.ssim_program.specs.Places.{MayReplace, RefusesHold, place_in, replaces}
use Rattle.ssim_program.specs.Timetables.{HasCarrier}
use Rattle.ssim_program.specs.print.PrintedLine.{printed_text}
use Rattle.ssim_program.specs.print.Refusal.{IsMemory, refusal_number}
use Rattle.ssim_program.specs.declared.content_kind.ContentKind.TheVariants as kind
use Rattle.ssim_program.specs.declared.print.printed_line.PrintedLine.{PrintedLine}
use Rattle.ssim_program.specs.declared.print.printed_line.PrintedLine.TheVariants as printed
use Rattle.ssim_program.specs.declared.refusal.Refusal.{Refusal}
use Rattle.ssim_program.specs.declared.refusal.Refusal.TheVariants as refused
use Rattle.ssim_program.proofs.Alike.{Nothing, then_alike}
use Rattle.ssim_program.proofs.SameReading.{SameDesk, desk_alike}
use Rattle.ssim_program.proofs.SavedDesks.{known_in, length-keyed, same_file}

-- ---- one line for each message

-- what becomes of a message
data Fate (mine theirs : DeskSeen) (e : Entry) (p : PrintedLine) : Type 0 where
  left : p ≡ printed.Left e.reference → (MeansTheSame mine.base theirs.base e.message → ⊥)
      → Fate mine theirs e p
  repeated : p ≡ printed.Repeated e.reference → MeansTheSame mine.base theirs.base e.message
      → get (map_of mine.held) e.reference ≡ Some e.message → Fate mine theirs e p
  taken : p ≡ printed.Taken e.reference → MeansTheSame mine.base theirs.base e.message
      → get (map_of mine.held) e.reference ≡ None → Fate mine theirs e p

fate : (mine theirs : DeskSeen) (e : Entry) (p : PrintedLine) → Becomes mine theirs e p
    → Fate mine theirs e p
fate mine theirs e (printed.Left r) b = left (ap printed.Left b.0) b.1
fate mine theirs e (printed.Repeated r) b = repeated (ap printed.Repeated b.0) b.1 b.2
fate mine theirs e (printed.Taken r) b = taken (ap printed.Taken b.0) b.1 b.2
fate mine theirs e (printed.SerialNote n) b = absurd b
fate mine theirs e (printed.CheckReferenceNote n) b = absurd b
fate mine theirs e (printed.Summary x y z) b = absurd b
fate mine theirs e (printed.ProblemCount x y) b = absurd b
fate mine theirs e (printed.Withdrawn r) b = absurd b
fate mine theirs e (printed.NotHeld r) b = absurd b
fate mine theirs e (printed.Held n) b = absurd b

none_some : (m : MessageValue) → None ≡ Some m → ⊥
none_some m h = cc

some_same : (a b : MessageValue) → Some a ≡ Some b → a ≡ b
some_same a b h = cc

module _ (mine theirs here there : DeskSeen) (one : SameDesk mine here) (other : SameDesk theirs there)
  where
    same_means : (m : MessageValue) → MeansTheSame mine.base theirs.base m
        → MeansTheSame here.base there.base m
    same_means m means =
        subst (λ (b : BaseSeen). MeansTheSame here.base b m) other.0
        (subst (λ (b : BaseSeen). MeansTheSame b theirs.base m) one.0 means)

    means_same : (m : MessageValue) → MeansTheSame here.base there.base m
        → MeansTheSame mine.base theirs.base m
    means_same m means =
        subst (λ (b : BaseSeen). MeansTheSame mine.base b m) (sym other.0)
        (subst (λ (b : BaseSeen). MeansTheSame b there.base m) (sym one.0) means)

    same_get : (r : Reference) → get (map_of mine.held) r ≡ get (map_of here.held) r
    same_get r = ap (λ (es : List Entry). get (map_of es) r) one.1

    same_get_too : (r : Reference) → get (map_of theirs.held) r ≡ get (map_of there.held) r
    same_get_too r = ap (λ (es : List Entry). get (map_of es) r) other.1

    one_fate : (e : Entry) (p q : PrintedLine) → Fate mine theirs e p → Fate here there e q → p ≡ q
    one_fate e p q (left is apart) (left are apart_too) = is ∙ sym are
    one_fate e p q (left is apart) (repeated are means held) =
        absurd (apart (means_same e.message means))
    one_fate e p q (left is apart) (taken are means none) = absurd (apart (means_same e.message means))
    one_fate e p q (repeated is means held) (left are apart) =
        absurd (apart (same_means e.message means))
    one_fate e p q (repeated is means held) (repeated are means_too held_too) = is ∙ sym are
    one_fate e p q (repeated is means held) (taken are means_too none) =
        absurd (none_some e.message (sym none ∙ sym (same_get e.reference) ∙ held))
    one_fate e p q (taken is means none) (left are apart) = absurd (apart (same_means e.message means))
    one_fate e p q (taken is means none) (repeated are means_too held) =
        absurd (none_some e.message (sym none ∙ same_get e.reference ∙ held))
    one_fate e p q (taken is means none) (taken are means_too none_too) = is ∙ sym are

    prints_once : (es : List Entry) (lines others : List ℕ) → PrintsEach mine theirs es lines
        → PrintsEach here there es others → lines ≡ others
    prints_once [] lines others is are = is ∙ sym are
    prints_once (e ∷ es) lines others (p, more, b, rest, is) (q, again, d, rests, are) =
        let same : p ≡ q = one_fate e p q (fate mine theirs e p b) (fate here there e q d) in
        is ∙ ap₂ (λ (x : PrintedLine) (bytes : List ℕ). line (printed_text x) ++ bytes) same
        (prints_once es more again rest rests) ∙ sym are

    -- the desks afterwards hold the same
    same_held : (after last : DeskSeen) (lines others : List ℕ) → AreRising after.held
        → AreRising last.held → IsCarryOf mine theirs after lines → IsCarryOf here there last others
        → keyed after.held ≡ keyed last.held
    same_held after last lines others rising rising_too is are =
        let base : after.base ≡ last.base = is.base ∙ one.0 ∙ sym are.base in
        let desks =
        same_desk (state_of after) (state_of last) base
        (λ r m h. (are.holds r m).1 (on r m ((is.holds r m).0 h)))
        (λ r m h. (is.holds r m).1 (back r m ((are.holds r m).0 h))) in
        sym (entries-map_of after.held rising) ∙ ap (λ d. entries d.held) desks
        ∙ entries-map_of last.held rising_too
      where
        on : (r : Reference) (m : MessageValue) → Holds (state_of mine) r m ⊎ IsCarried mine theirs r m
            → Holds (state_of here) r m ⊎ IsCarried here there r m
        on r m (inl h) = inl (sym (same_get r) ∙ h)
        on r m (inr c) = inr (sym (same_get_too r) ∙ c.0, same_means m c.1)

        back : (r : Reference) (m : MessageValue) → Holds (state_of here) r m
            ⊎ IsCarried here there r m
            → Holds (state_of mine) r m ⊎ IsCarried mine theirs r m
        back r m (inl h) = inl (same_get r ∙ h)
        back r m (inr c) = inr (same_get_too r ∙ c.0, means_same m c.1)

same_count : (xs ys : List Entry) → keyed xs ≡ keyed ys → held_line (length xs) ≡ held_line (length ys)
same_count xs ys same = ap held_line (sym (length-keyed xs) ∙ ap length same ∙ length-keyed ys)

pub carry_same : NoTwoDesks → (out : Text) → PrintsTheSameOfPairs
    (λ desk other. Carry false desk other out)
carry_same no_two out files others from to here there acts again same same_too
    (_, may, (mine, read, (theirs, reads, (_, alike, (made, is, (rising, all)))))) (
      _,
      may_too,
      (first, read_too, (second, reads_too, (_, alike_too, (last, are, (rising_too, all_too))))),
    ) =
    let one = (desk_alike files others from here same no_two).values mine first read read_too in
    let other =
    (desk_alike files others to there same_too no_two).values theirs second reads reads_too in
    let lines : made.1 ≡ last.1 =
    prints_once mine theirs first second one other second.held made.1 last.1
    (subst (λ (es : List Entry). PrintsEach mine theirs es made.1) other.1 is.prints) are.prints in
    let held =
    same_held mine theirs first second one other made.0 last.0 made.1 last.1 rising rising_too is
    are in
    ap printed_by all
    ∙ ap (λ (bs : List ℕ). bs ++ [])
    (ap₂ (λ (xs ys : List ℕ). xs ++ ys) lines (same_count made.0.held last.0.held held))
    ∙ sym (ap printed_by all_too)

-- ---- on one base

-- a desk that is read of a file is this one
abbrev Is : DeskSeen → DeskSeen → DeskSeen → Type 0
Is desk one other = SameDesk one desk × SameDesk other desk

opened_alike : NoTwoDesks → (files : Files) (name : Text) (desk : DeskSeen)
    → desk_in (Some files) name (Ok desk)
    → AreAlike (Is desk) (desk_in (Some files) name) (desk_in (Some files) name)
opened_alike no_two files name desk read =
    let alike = desk_alike files files name name (read.0, read.1.1, read.1.1) no_two in
    record {
      values = λ a b is are. (alike.values a desk is read, alike.values b desk are read);
      refusals = alike.refusals;
      first = alike.first;
      second = alike.second;
    }

-- a place that is held is not refused
not_refused : (files : Files) (out : Text) (why : Refusal) → MayReplace (Some files) out kind.DeskFile
    → RefusesHold (Some files) out kind.DeskFile why → IsMemory why
not_refused files out why may (inl memory) = memory
not_refused files out why may (inr (inl (of, (bytes, is, kept)))) =
    let yes : IsTrue (replaces kind.DeskFile bytes) =
    subst (λ (f : Option (List ℕ)). IfSome f (λ bs. IsTrue (replaces kind.DeskFile bs))) is may in
    let clash : false ≡ true = sym kept ∙ yes in absurd cc
not_refused files out why may (inr (inr (inl (of, none)))) = absurd cc
not_refused files out why may (inr (inr (inr (of, none)))) = absurd cc

place_alike : (files : Files) (out : Text) → MayReplace (Some files) out kind.DeskFile
    → AreAlike Nothing (place_in (Some files) out kind.DeskFile)
    (place_in (Some files) out kind.DeskFile)
place_alike files out may = record {
  values = λ x y p q. tt;
  refusals = λ why that p q. inl (not_refused files out why may p);
  first = λ x that p q. not_refused files out that may q;
  second = λ why y p q. not_refused files out why may p;
}

-- a step that is required, and is so
require_first : {A : Type 0} (P : Type 0) (refusal : Refusal) (S : A → A
    → Type 0) (next other : Answer A) → P → AreAlike S next other
    → AreAlike S (Require P refusal >>= (λ x. next)) other
require_first P refusal S next other so h = record {
  values = λ a b (x, p, gives) are. h.values a b gives are;
  refusals = λ why that p q. by why that p q;
  first = λ a that (x, p, gives) q. h.first a that gives q;
  second = λ why b p are. by_one why b p are;
}
  where
    by : (why that : Refusal) → (Require P refusal >>= (λ x. next)) (Err why) → other (Err that)
        → AreOneRefusal why that
    by why that (inl (not, is)) q = absurd (not so)
    by why that (inr (x, p, refuses)) q = h.refusals why that refuses q

    by_one : (why : Refusal) (b : _) → (Require P refusal >>= (λ x. next)) (Err why) → other (Ok b)
        → IsMemory why
    by_one why b (inl (not, is)) are = absurd (not so)
    by_one why b (inr (x, p, refuses)) are = h.second why b refuses are

-- neither is less, so both are the same
same_least : (q r : Reference) → reference_cmp q r ≢ Less → reference_cmp r q ≢ Less → q ≡ r
same_least q r not_less not_less_too = by (reference_cmp q r) refl
  where
    by : (o : Ordering) → reference_cmp q r ≡ o → q ≡ r
    by Less at = absurd (not_less at)
    by Equal at = reference_apart q r at
    by Greater at = absurd (not_less_too (flips q r Greater at))

module _ (mine theirs here there : DeskSeen) (one : SameDesk mine here) (other : SameDesk theirs there)
    (base : here.base ≡ there.base) (saved : CanBeSaved theirs.base theirs.held) where
  -- both desks have one base
  one_base : mine.base ≡ theirs.base
  one_base = one.0 ∙ base ∙ sym other.0

  -- each message of the other desk means the same
  means : (r : Reference) (m : MessageValue) → Holds (state_of theirs) r m
      → MeansTheSame mine.base theirs.base m
  means r m held =
      let known = known_in theirs.base theirs.held saved r m held in
      subst (λ (b : BaseSeen). MeansTheSame b theirs.base m) (sym one_base)
      (known.resolved, known.resolves, known.resolves)

  -- what was carried is what was merged
  abbrev Same : DeskSeen × List ℕ → DeskSeen → Type 0
  Same made after = (made.0.base ≡ after.base) × (map_of made.0.held ≡ map_of after.held)

  merge_conflict : (r : Reference) → IsLeastConflict (map_of here.held) (map_of there.held) r
      → IsFirstConflict mine theirs r
  merge_conflict r c = record {
    conflict = record {
      one = c.differ.one;
      other = c.differ.other;
      holds = same_get mine theirs here there one other r ∙ c.differ.in_one;
      carried = (
        same_get_too mine theirs here there one other r
            ∙ c.differ.in_other,
        means r c.differ.other
            (same_get_too mine theirs here there one other r ∙ c.differ.in_other),
      );
      apart = c.differ.apart;
    };
    least = λ p k. c.least p (record {
      one = k.one;
      other = k.other;
      in_one = sym (same_get mine theirs here there one other p) ∙ k.holds;
      in_other = sym (same_get_too mine theirs here there one other p) ∙ k.carried.0;
      apart = k.apart;
    });
  }

  one_conflict : (q r : Reference) → IsFirstConflict mine theirs q → IsFirstConflict mine theirs r
      → q ≡ r
  one_conflict q r a b = same_least q r (b.least q a.conflict) (a.least r b.conflict)

  refused_merge : (why : DeskFault) → RefusesDesk (state_of here) (state_of there) why
      → IsMemory (refused.Desk why)
      ⊎ ((r : Reference) × IsFirstConflict mine theirs r
      × (refused.Desk why ≡ refused.Desk (fault.Conflict r)))
  refused_merge fault.Memory r = inl refl
  refused_merge fault.OtherBase r = absurd (r base)
  refused_merge (fault.Conflict q) r = inr (q, merge_conflict q r.1, refl)
  refused_merge (fault.Text why) r = absurd r
  refused_merge (fault.Resolve why) r = absurd r
  refused_merge (fault.Read why) r = absurd r
  refused_merge (fault.File offset) r = absurd r

  refused_as : (that : Refusal) → merged here there (Err that) → RefusesCarry mine theirs that
  refused_as that (why, refuses, is) = by (refused_merge why refuses)
    where
      by : IsMemory (refused.Desk why)
          ⊎ ((r : Reference) × IsFirstConflict mine theirs r
          × (refused.Desk why ≡ refused.Desk (fault.Conflict r))) → RefusesCarry mine theirs that
      by (inl memory) = inl (ap refusal_number is ∙ memory)
      by (inr (r, first, same)) = inr (r, first, is ∙ same)

  both_refused : (why that : Refusal) → RefusesCarry mine theirs why → RefusesCarry mine theirs that
      → AreOneRefusal why that
  both_refused why that (inl memory) q = inl memory
  both_refused why that (inr p) (inl memory) = inr (inl memory)
  both_refused why that (inr (q, first, is)) (inr (r, first_too, are)) =
      inr (inr (inl (is
      ∙ ap (λ (x : Reference). refused.Desk (fault.Conflict x)) (one_conflict q r first first_too)
      ∙ sym are)))

  -- no message clashes of those that are held together
  no_conflict : (after : DeskSeen) (r : Reference)
      → ((m : MessageValue) → Holds (state_of mine) r m ⊎ Holds (state_of theirs) r m
      → Holds (state_of after) r m) → IsConflict mine theirs r → ⊥
  no_conflict after r holds k =
      k.apart (some_same k.one k.other (sym (holds k.one (inl k.holds))
      ∙ holds k.other (inr k.carried.0)))

  carried_holds : (made : DeskSeen × List ℕ) → IsCarryOf mine theirs made.0 made.1
      → (r : Reference) (m : MessageValue) → Holds (state_of mine) r m ⊎ Holds (state_of theirs) r m
      → Holds (state_of made.0) r m
  carried_holds made is r m (inl h) = (is.holds r m).1 (inl h)
  carried_holds made is r m (inr h) = (is.holds r m).1 (inr (h, means r m h))

  merged_all : (after : DeskSeen) → IsMergeOf here there after → (r : Reference) (m : MessageValue)
      → (get (map_of after.held) r ≡ Some m) ↔ ((get (map_of here.held) r ≡ Some m)
      ⊎ ((Merged ≡ Merged) × (get (map_of there.held) r ≡ Some m)))
  merged_all after is =
      merge_holds (state_of here) (state_of there) Merged (map_of after.held) is.merges

  merged_holds : (after : DeskSeen) → IsMergeOf here there after → (r : Reference) (m : MessageValue)
      → Holds (state_of mine) r m ⊎ Holds (state_of theirs) r m → Holds (state_of after) r m
  merged_holds after is r m (inl h) =
      (merged_all after is r m).1 (inl (sym (same_get mine theirs here there one other r) ∙ h))
  merged_holds after is r m (inr h) =
      (merged_all after is r m).1 (inr (
        refl,
        sym (same_get_too mine theirs here there one other r)
            ∙ h,
      ))

  same_made : (made : DeskSeen × List ℕ) (after : DeskSeen) → IsCarryOf mine theirs made.0 made.1
      → IsMergeOf here there after → Same made after
  same_made made after is are =
      let base_is : made.0.base ≡ after.base = is.base ∙ one.0 ∙ sym are.base in
      let desks =
      same_desk (state_of made.0) (state_of after) base_is (λ r m h. on r m ((is.holds r m).0 h))
      (λ r m h. back r m ((merged_all after are r m).0 h)) in
      (base_is, ap (λ d. d.held) desks)
    where
      on : (r : Reference) (m : MessageValue) → Holds (state_of mine) r m ⊎ IsCarried mine theirs r m
          → Holds (state_of after) r m
      on r m (inl h) = merged_holds after are r m (inl h)
      on r m (inr c) = merged_holds after are r m (inr c.0)

      back : (r : Reference) (m : MessageValue) → (get (map_of here.held) r ≡ Some m)
          ⊎ ((Merged ≡ Merged) × (get (map_of there.held) r ≡ Some m)) → Holds (state_of made.0) r m
      back r m (inl h) =
          carried_holds made is r m (inl (same_get mine theirs here there one other r ∙ h))
      back r m (inr h) =
          carried_holds made is r m (inr (same_get_too mine theirs here there one other r ∙ h.1))

  not_both : (made : DeskSeen × List ℕ) (that : Refusal) → IsCarryOf mine theirs made.0 made.1
      → RefusesCarry mine theirs that → IsMemory that
  not_both made that is (inl memory) = memory
  not_both made that is (inr (r, first, are)) =
      absurd (no_conflict made.0 r (carried_holds made is r) first.conflict)

  not_both_too : (why : Refusal) (after : DeskSeen) → RefusesCarry mine theirs why
      → IsMergeOf here there after → IsMemory why
  not_both_too why after (inl memory) are = memory
  not_both_too why after (inr (r, first, is)) are =
      absurd (no_conflict after r (merged_holds after are r) first.conflict)

-- two answers to whatever was made, in two types
record AreAlikeOf {A B : Type 0} (same : A → B → Type 0) (one : Answer A) (other : Answer B) : Type 0
  where
    values : (a : A) (b : B) → one (Ok a) → other (Ok b) → same a b
    refusals : (why that : Refusal) → one (Err why) → other (Err that) → AreOneRefusal why that
    first : (a : A) (that : Refusal) → one (Ok a) → other (Err that) → IsMemory that
    second : (why : Refusal) (b : B) → one (Err why) → other (Ok b) → IsMemory why

then_alike_of : {A B C : Type 0} (R : A → B → Type 0) (S : C → C → Type 0) (one : Answer A)
    (other : Answer B) (next : A → Answer C) (after : B → Answer C) → AreAlikeOf R one other
    → ((a : A) (b : B) → R a b → AreAlike S (next a) (after b))
    → AreAlike S (one >>= next) (other >>= after)
then_alike_of R S one other next after h on = record {
  values = λ x y (a, is, gives) (b, is_too, gives_too). (on a b (h.values a b is is_too)).values x y
      gives gives_too;
  refusals = λ why that p q. by why that p q;
  first = λ x that p q. one_way x that p q;
  second = λ why y p q. other_way why y p q;
}
  where
    by : (why that : Refusal) → (one >>= next) (Err why) → (other >>= after) (Err that)
        → AreOneRefusal why that
    by why that (inl p) (inl q) = h.refusals why that p q
    by why that (inl p) (inr (b, is_too, q)) = inl (h.second why b p is_too)
    by why that (inr (a, is, p)) (inl q) = inr (inl (h.first a that is q))
    by why that (inr (a, is, p)) (inr (b, is_too, q)) =
        (on a b (h.values a b is is_too)).refusals why that p q

    one_way : (x : _) (that : Refusal) → (one >>= next) (Ok x) → (other >>= after) (Err that)
        → IsMemory that
    one_way x that (a, is, gives) (inl q) = h.first a that is q
    one_way x that (a, is, gives) (inr (b, is_too, q)) =
        (on a b (h.values a b is is_too)).first x that gives q

    other_way : (why : Refusal) (y : _) → (one >>= next) (Err why) → (other >>= after) (Ok y)
        → IsMemory why
    other_way why y (inl p) (b, is_too, gives) = h.second why b p is_too
    other_way why y (inr (a, is, p)) (b, is_too, gives) =
        (on a b (h.values a b is is_too)).second why y p gives

-- the desk that was made is kept
abbrev keep_carried : Text → DeskSeen × List ℕ → Answer (List Act)
keep_carried out made =
    Known (AreRising made.0.held)
    (Keep out (desk_file made.0.base made.0.held) ∷ Print
    (made.1 ++ held_line (length made.0.held)) ∷ [])

abbrev keep_merged : Text → DeskSeen → Answer (List Act)
keep_merged out after =
    Known (AreRising after.held)
    (Keep out (desk_file after.base after.held) ∷ Print (held_line (length after.held)) ∷ [])

keep_alike : (out : Text) (made : DeskSeen × List ℕ) (after : DeskSeen) → made.0.base ≡ after.base
    → map_of made.0.held ≡ map_of after.held
    → AreAlike KeepTheSame (keep_carried out made) (keep_merged out after)
keep_alike out made after base maps = record {
  values = λ acts again (rising, all) (rising_too, all_too).
      let same : keyed made.0.held ≡ keyed after.held =
      sym (entries-map_of made.0.held rising) ∙ ap entries maps
      ∙ entries-map_of after.held rising_too in
      let bytes : desk_file made.0.base made.0.held ≡ desk_file after.base after.held =
      same_file made.0.base made.0.held after.held same
      ∙ ap (λ (b : BaseSeen). desk_file b after.held) base in
      ap kept_by all ∙ ap (λ (bs : List ℕ). (out, bs) ∷ []) bytes ∙ sym (ap kept_by all_too);
  refusals = λ why that p q. inl p;
  first = λ acts that p q. q;
  second = λ why acts p q. p;
}

of_airline : (mine theirs : DeskSeen) → CanBeSaved mine.base mine.held → mine.base ≡ theirs.base
    → AreOfOneAirline mine theirs
of_airline mine theirs saved same =
    let frame = saved.is_base.framed in
    let carrier : HasCarrier mine.base.records frame.0.carrier = (frame.0.header, _, frame.1.1) in
    record {
      here = frame.0.carrier;
      there = frame.0.carrier;
      carrier_here = carrier;
      carrier_there = subst (λ (b : BaseSeen). HasCarrier b.records frame.0.carrier) same carrier;
      airline = refl;
      time_mode = refl;
    }

-- what follows when both desks are read
abbrev carry_to : Text → DeskSeen → DeskSeen → Answer (List Act)
carry_to out mine theirs =
    Require (AreOfOneAirline mine theirs) (refused.Desk fault.OtherBase) >>=
    (λ x. carried mine theirs >>= keep_carried out)

abbrev merge_to : Text → DeskSeen → DeskSeen → Answer (List Act)
merge_to out mine theirs = merged mine theirs >>= keep_merged out

made_alike : (out : Text) (mine theirs here there : DeskSeen) → SameDesk mine here
    → SameDesk theirs there → here.base ≡ there.base → CanBeSaved mine.base mine.held
    → CanBeSaved theirs.base theirs.held
    → AreAlike KeepTheSame (carry_to out mine theirs) (merge_to out here there)
made_alike out mine theirs here there one other base saved saved_too =
    require_first (AreOfOneAirline mine theirs) (refused.Desk fault.OtherBase) KeepTheSame
    (carried mine theirs >>= keep_carried out) (merge_to out here there)
    (of_airline mine theirs saved (one.0 ∙ base ∙ sym other.0))
    (then_alike_of (Same mine theirs here there one other base saved_too) KeepTheSame
    (carried mine theirs) (merged here there) (keep_carried out) (keep_merged out)
    (record {
      values = same_made mine theirs here there one other base saved_too;
      refusals =
          λ why that p q. both_refused mine theirs here there one other base saved_too why that p
          (refused_as mine theirs here there one other base saved_too that q);
      first = λ made that is q. not_both mine theirs here there one other base saved_too made that is
          (refused_as mine theirs here there one other base saved_too that q);
      second = λ why after p are. not_both_too mine theirs here there one other base saved_too why
          after p are;
    })
    (λ made after same. keep_alike out made after same.0 same.1))

same_saved : (one desk : DeskSeen) → SameDesk one desk → CanBeSaved desk.base desk.held
    → CanBeSaved one.base one.held
same_saved one desk same saved =
    subst (λ (b : BaseSeen). CanBeSaved b one.held) (sym same.0)
    (subst (CanBeSaved desk.base) (sym same.1) saved)

same_both : (one other desk : DeskSeen) → Is desk one other → SameDesk one other
same_both one other desk is = (is.0.0 ∙ sym is.1.0, is.0.1 ∙ sym is.1.1)

pub carries_as_merges : NoTwoDesks → CarriesAsMerges
carries_as_merges no_two files mine theirs out one other may read reads base =
    let place = place_in (Some files) out kind.DeskFile in
    let here = desk_in (Some files) mine in
    let there = desk_in (Some files) theirs in
    then_alike Nothing KeepTheSame place place (λ x. here >>= (λ a. there >>= carry_to out a))
    (λ x. here >>= (λ a. there >>= merge_to out a)) (place_alike files out may)
    (λ x y nothing. then_alike (Is one) KeepTheSame here here (λ a. there >>= carry_to out a)
    (λ a. there >>= merge_to out a) (opened_alike no_two files mine one read)
    (λ a b same. then_alike (Is other) KeepTheSame there there (carry_to out a) (merge_to out b)
    (opened_alike no_two files theirs other reads)
    (λ d e same_too. made_alike out a d b e (same_both a b one same) (same_both d e other same_too)
    (same.1.0 ∙ base ∙ sym same_too.1.0)
    (same_saved a one same.0 read.2.saved) (same_saved d other same_too.0 reads.2.saved))))
