-- The desk file that a command keeps is the file of a desk: its base was read, and each message
-- that it holds is spelled by a text and has its reference.
use Rattle.std.proofs.Common.{◌≡◌, ◌∙◌, ◌⊎◌, inl, inr, ℕ, ◌==◌, suc, true, cond, All, if◌then◌else◌}
use Rattle.std.proofs.Common.{List, [], ◌∷◌, ◌++◌, length, None, Some, codes, refl, sym, ap, subst}
use Rattle.std.proofs.lemmas.List.Elements.{All-from_recursion, All-head, All-tail}
use Rattle.std.specs.FinMap.{entries, entries_sorted, find, get, is_sorted}
use Rattle.std.specs.List.{AllByRecursion, flat_map}
use Rattle.std.specs.Ordering.{is_eq}
use Rattle.std.specs.Prelude.{T}
use Rattle.std.specs.declared.cmp.Ordering.{Ordering}
use Rattle.std.specs.declared.cmp.Ordering.TheVariants.{Less, Equal, Greater}
use Rattle.ssim_values.proofs.ClockLaws.{variation_of-sound}
use Rattle.ssim_values.proofs.DayLaws.{day_of-bound, day_of-sound}
use Rattle.ssim_values.specs.Day.{day_of}
use Rattle.ssim_values.specs.Station.{is_station}
use Rattle.ssim_values.specs.Variation.{variation_of}
use Rattle.ssim_text.proofs.Words.{only_if}
use Rattle.ssim_text.specs.Bytes.{after_word, word}
use Rattle.ssim_text.specs.Canonical.{canonical}
use Rattle.ssim_text.specs.Grammar.{OneMessage}
use Rattle.ssim_text.specs.Message.{MessageValue}
use Rattle.ssim_text.specs.Spelling.{CanonicalReadsBack, SpellsMessage}
use Rattle.ssim_text.specs.declared.reference.Reference.{Reference}
use Rattle.ssim_base.specs.BaseSeen.{BaseSeen}
use Rattle.ssim_base.specs.SavedBase.{IsBaseRecords}
use Rattle.ssim_base.specs.Stations.{AreRows, Row, SpellsRow}
use Rattle.ssim_held.proofs.Entries.{get-map_of, true-from_T}
use Rattle.ssim_held.proofs.References.{reference_apart, reference_total}
use Rattle.ssim_held.proofs.Resolving.{one_reference}
use Rattle.ssim_held.specs.Entries.{DeskSeen, Entry, IsEntry, keyed, map_of}
use Rattle.ssim_held.specs.File.{CanBeSaved, IsRow, IsSpelled, counted, desk_file, end_line}
use Rattle.ssim_held.specs.File.{records_part, rows_part, text_element, texts_part}
use Rattle.ssim_held.specs.Held.{DeskState, HasReference, HeldMessages, Says, reference_cmp}
use Rattle.ssim_desk.proofs.HeldEntries.{each_entry}
use Rattle.ssim_desk.proofs.Taking.{merge_holds, take_holds}
use Rattle.ssim_desk.specs.Deliveries.{is_accepted}
use Rattle.ssim_desk.specs.Steps.{Merges, Takes}
use Rattle.ssim_desk.specs.declared.steps.Answer.{Answer}
use Rattle.ssim_desk.specs.declared.steps.Answer.TheVariants.{Merged}
use Rattle.ssim_program.specs.Carrying.{IsCarried, IsCarryOf}

-- ---- the rows of a table

row_is : (row : Row) (line : List ℕ) → SpellsRow row line → IsRow row
row_is row line is =
    let station_text = word line in
    let long =
    only_if (length station_text == 3)
    (if is_station station_text then Some station_text else None) row.station is.station in
    let station = only_if (is_station station_text) (Some station_text) row.station long.1 in
    let same : station_text ≡ row.station = let e = station.1 in cc in
    let last_text = word (after_word (after_word line)) in
    let last = only_if (length last_text == 7) (day_of last_text) row.last is.last in
    let variation_text = after_word (after_word (after_word line)) in
    let variation =
    only_if (length variation_text == 5) (variation_of variation_text) row.variation is.variation
    in
    let spelled = variation_of-sound row.variation variation_text variation.1 in
    record {
      station = ap is_station (sym same) ∙ station.0;
      ordered = is.ordered;
      in_calendar = day_of-bound row.last last_text (day_of-sound row.last last_text last.1);
      variation = spelled.to;
    }

rows_are : (rows : List Row) (lines : List (ℕ × List ℕ)) → AreRows rows lines
    → AllByRecursion IsRow rows
rows_are [] lines are = tt
rows_are (row ∷ rows) [] are = absurd are
rows_are (row ∷ rows) (line ∷ lines) are = (row_is row line.1 are.0, rows_are rows lines are.1)

-- ---- desks whose file can be saved

-- a text spells the message, and the base gives it the reference
abbrev IsKnown : BaseSeen → Reference → MessageValue → Type 0
IsKnown base r m = HasReference base r m × SpellsMessage m (canonical m)

-- the desk can be saved
pub record IsValid (base : BaseSeen) (held : HeldMessages) : Type 0 where
  is_base : IsBaseRecords base.records
  rows : All IsRow base.rows
  each : (r : Reference) (m : MessageValue) → get held r ≡ Some m → IsKnown base r m

-- a desk that holds nothing
pub valid_start : (base : BaseSeen) (lines : List (ℕ × List ℕ)) → IsBaseRecords base.records
    → AreRows base.rows lines → IsValid base (map_of [])
valid_start base lines is_base rows = record {
  is_base = is_base;
  rows = All-from_recursion IsRow base.rows (rows_are base.rows lines rows);
  each = λ r m is. absurd (let none : get (map_of []) r ≡ None = get-map_of [] r refl in cc);
}

-- what is found under a reference is an entry
found_in : (P : Reference → MessageValue → Type 0) (es : List Entry) (r : Reference) (m : MessageValue)
    → All (λ e. P e.reference e.message) es → find reference_cmp r (keyed es) ≡ Some m → P r m
found_in P [] r m each is = absurd (let never : None ≡ Some m = is in cc)
found_in P (e ∷ es) r m each is =
    by (reference_cmp r e.reference) refl
    (found_in P es r m (All-tail (λ (x : Entry). P x.reference x.message) e es each)) is
  where
    by : (o : Ordering) → reference_cmp r e.reference ≡ o
        → (find reference_cmp r (keyed es) ≡ Some m → P r m)
        → cond (is_eq o) (Some e.message) (find reference_cmp r (keyed es)) ≡ Some m → P r m
    by Less at later found = later found
    by Greater at later found = later found
    by Equal at later found =
        let same : e.message ≡ m = cc in
        subst (P r) same
        (subst (λ (q : Reference). P q e.message) (sym (reference_apart r e.reference at))
        (All-head (λ (x : Entry). P x.reference x.message) e es each))

-- a desk that was read of a file
pub valid_file : (base : BaseSeen) (es : List Entry) → CanBeSaved base es → IsValid base (map_of es)
valid_file base es can = record {
  is_base = can.is_base;
  rows = can.rows;
  each = λ r m is. found_in (IsKnown base) es r m known (sym (get-map_of es r can.entries_are.rising)
      ∙ is);
}
  where
    known : All (λ e. IsKnown base e.reference e.message) es
    known k d lt =
        let one = can.entries_are.each k d lt in (
          record { resolved = one.text; resolves = one.resolves; referred = one.referred },
          can.spelled
              k d lt,
        )

-- what is found in such a desk has its reference
pub known_in : (base : BaseSeen) (es : List Entry) → CanBeSaved base es
    → (r : Reference) (m : MessageValue) → get (map_of es) r ≡ Some m → HasReference base r m
known_in base es can r m held = ((valid_file base es can).each r m held).0

-- the desk after a text
pub valid_take : OneMessage → CanonicalReadsBack
    → (desk : DeskState) (text : List ℕ) (answer : Answer) (held : HeldMessages)
    → IsValid desk.base desk.held → Takes desk text answer held → IsValid desk.base held
valid_take one canonical_too desk text answer held valid takes = record {
  is_base = valid.is_base;
  rows = valid.rows;
  each = λ r m is. by r m ((take_holds one desk text answer held takes r m).0 is);
}
  where
    by : (r : Reference) (m : MessageValue) → (get desk.held r ≡ Some m)
        ⊎ ((is_accepted answer ≡ true) × Says desk.base text r m) → IsKnown desk.base r m
    by r m (inl before) = valid.each r m before
    by r m (inr said) =
        let says = said.1 in (
          record { resolved = says.resolved; resolves = says.resolves; referred = says.referred },
          canonical_too m text says.spelt,
        )

-- the desk after a merge
pub valid_merge : (mine theirs : DeskState) (held : HeldMessages) → IsValid mine.base mine.held
    → IsValid theirs.base theirs.held → Merges mine theirs Merged held → IsValid mine.base held
valid_merge mine theirs held valid other merges = record {
  is_base = valid.is_base;
  rows = valid.rows;
  each = λ r m is. by r m ((merge_holds mine theirs Merged held merges r m).0 is);
}
  where
    by : (r : Reference) (m : MessageValue) → (get mine.held r ≡ Some m)
        ⊎ ((Merged ≡ Merged) × (get theirs.held r ≡ Some m)) → IsKnown mine.base r m
    by r m (inl before) = valid.each r m before
    by r m (inr theirs_too) =
        subst (λ (b : BaseSeen). IsKnown b r m) (sym merges.base) (other.each r m theirs_too.1)

-- the desk after messages of another were carried to it
pub valid_carry : (mine theirs after : DeskSeen) (lines : List ℕ)
    → IsValid mine.base (map_of mine.held) → IsValid theirs.base (map_of theirs.held)
    → IsCarryOf mine theirs after lines → IsValid mine.base (map_of after.held)
valid_carry mine theirs after lines valid other carry = record {
  is_base = valid.is_base;
  rows = valid.rows;
  each = λ r m is. by r m ((carry.holds r m).0 is);
}
  where
    by : (r : Reference) (m : MessageValue) → (get (map_of mine.held) r ≡ Some m)
        ⊎ IsCarried mine theirs r m → IsKnown mine.base r m
    by r m (inl before) = valid.each r m before
    by r m (inr (held, (text, here, there))) =
        let known = other.each r m held in
        let same = one_reference theirs.base.records m text known.0.resolved there known.0.resolves in
        (record { resolved = text; resolves = here; referred = same ∙ known.0.referred }, known.1)

-- a desk that holds some of the messages
pub valid_fewer : (base : BaseSeen) (held fewer : HeldMessages) → IsValid base held
    → ((r : Reference) (m : MessageValue) → get fewer r ≡ Some m → get held r ≡ Some m)
    → IsValid base fewer
valid_fewer base held fewer valid some = record {
  is_base = valid.is_base;
  rows = valid.rows;
  each = λ r m is. valid.each r m (some r m is);
}

-- ---- the list of such a desk

listed : (base : BaseSeen) (ps : List (Reference × MessageValue))
    → AllByRecursion (λ (p : Reference × MessageValue). IsKnown base p.0 p.1) ps
    → (es : List Entry) × (keyed es ≡ ps) × AllByRecursion (IsEntry base.records) es
    × AllByRecursion IsSpelled es
listed base [] each = ([], refl, tt, tt)
listed base ((r, m) ∷ ps) each =
    let rest = listed base ps each.1 in
    let h = each.0.0 in
    let e : Entry = record { reference = r; message = m; dates = h.resolved.subs.items } in (
      e ∷ rest.0,
      ap (λ (qs : List (Reference × MessageValue)). (r, m) ∷ qs) rest.1,
      (
        record { text = h.resolved; resolves = h.resolves; referred = h.referred; dated = refl },
        rest.2,
      ),
      (each.0.1, rest.3),
    )

-- a list of what the desk holds, with which it can be saved
pub record IsListed (base : BaseSeen) (held : HeldMessages) : Type 0 where
  pub es : List Entry
  pub are : keyed es ≡ entries held
  pub can : CanBeSaved base es

pub is_listed : (base : BaseSeen) (held : HeldMessages) → IsValid base held → IsListed base held
is_listed base held valid =
    let found =
    listed base (entries held)
    (each_entry reference_total reference_apart (IsKnown base) held valid.each) in
    record {
      es = found.0;
      are = found.1;
      can = record {
        is_base = valid.is_base;
        rows = valid.rows;
        entries_are = record {
          rising = true-from_T _
              (subst (λ (ps : List (Reference × MessageValue)). T (is_sorted reference_cmp ps))
              (sym found.1) (entries_sorted held));
          each = All-from_recursion (IsEntry base.records) found.0 found.2;
        };
        spelled = All-from_recursion IsSpelled found.0 found.3;
      };
    }

-- ---- a file has the references and messages alone

abbrev texts_of : List (Reference × MessageValue) → List ℕ
texts_of ps =
    counted (codes "TEXTS") (length ps) ++ flat_map
    (λ (p : Reference × MessageValue). counted (codes "TEXT") (length (canonical p.1)) ++ canonical
    p.1) ps

pub length-keyed : (es : List Entry) → length (keyed es) ≡ length es
length-keyed [] = refl
length-keyed (e ∷ es) = ap suc (length-keyed es)

elements : (es : List Entry)
    → flat_map (λ (p : Reference × MessageValue). counted (codes "TEXT") (length (canonical p.1)) ++
    canonical p.1) (keyed es) ≡ flat_map text_element es
elements [] = refl
elements (e ∷ es) = ap (λ (rest : List ℕ). text_element e ++ rest) (elements es)

texts-keyed : (es : List Entry) → texts_of (keyed es) ≡ texts_part es
texts-keyed es = λ i. counted (codes "TEXTS") (length-keyed es i) ++ elements es i

pub same_file : (base : BaseSeen) (xs ys : List Entry) → keyed xs ≡ keyed ys
    → desk_file base xs ≡ desk_file base ys
same_file base xs ys same =
    ap (λ (texts : List ℕ). counted (codes "SSIMDESK") 2 ++
    (records_part base.records ++ (rows_part base.rows ++ (texts ++ end_line))))
    (sym (texts-keyed xs) ∙ ap texts_of same ∙ texts-keyed ys)
