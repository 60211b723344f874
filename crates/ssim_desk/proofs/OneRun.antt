-- The desks of a slice are desks, so that the laws of runs speak of them.
use Rattle.std.proofs.Common.{◌≡◌, ℕ, cond, All, List, [], ◌∷◌, map, length, Some, None, refl, sym, ap, subst, ◌∙◌}
use Rattle.std.proofs.lemmas.List.Elements.{All-head, All-map, All-tail}
use Rattle.std.specs.FinMap.{find}
use Rattle.std.specs.Ordering.{is_eq}
use Rattle.std.specs.declared.cmp.Ordering.{Ordering}
use Rattle.std.specs.declared.cmp.Ordering.TheVariants.{Less, Equal, Greater}
use Rattle.ssim_records.specs.Record.{IsRecord}
use Rattle.ssim_records.specs.declared.record.Record.{Record}
use Rattle.ssim_base.specs.Base.{Done}
use Rattle.ssim_base.specs.BaseSeen.{WasRead}
use Rattle.ssim_base.specs.SavedBase.{IsBaseRecords}
use Rattle.ssim_base.specs.Resolve.{ResolvesIn}
use Rattle.ssim_base.specs.Stations.{Row}
use Rattle.ssim_text.specs.Message.{MessageValue}
use Rattle.ssim_text.specs.declared.reference.Reference.{Reference}
use Rattle.ssim_held.specs.Held.{DeskState, HasReference, IsDesk, reference_cmp}
use Rattle.ssim_held.specs.Entries.{AreEntries, DeskSeen, Entry, IsEntry, keyed, state_of}
use Rattle.ssim_held.proofs.Entries.{get-map_of}
use Rattle.ssim_held.proofs.References.{reference_apart}
use Rattle.ssim_desk.specs.Agreement.{AnyTwoDesksAgree, Run}
use Rattle.ssim_desk.specs.clauses.Agreement.{DesksAgree}
use Rattle.ssim_desk.specs.Steps.{IsInRange, Runs}
use Rattle.ssim_desk.specs.declared.steps.Answer.{Answer}
use Rattle.ssim_desk.specs.declared.steps.Step.{Step}

abbrev numbered : List Record → List (ℕ × Record)
numbered base = map (λ r. (0, r)) base

plain : (base : List Record) → map (λ (r : ℕ × Record). r.1) (numbered base) ≡ base
plain [] = refl
plain (r ∷ base) = ap (λ (rs : List Record). r ∷ rs) (plain base)

-- the records of a base are read as themselves
was_read : (base : List Record) → IsBaseRecords base → WasRead base
was_read base is = record {
  ending = Done 0;
  records = numbered base;
  notes = _;
  spelt = All-map (λ (r : ℕ × Record). IsRecord r.1) (λ (r : Record). (0, r)) base is.each_written;
  read = is.read_again 0 (numbered base) (plain base);
}

-- the message found under a reference is the message of an entry, to which the base gives this
-- reference
referred : (records : List Record) (rows : List Row) (es : List Entry) (r : Reference) (m : MessageValue) → All (IsEntry records) es → find reference_cmp r (keyed es) ≡ Some m → HasReference (record { records = records; rows = rows }) r m
referred records rows [] r m each is = absurd (let never : None ≡ Some m = is in cc)
referred records rows (e ∷ es) r m each is = by (reference_cmp r e.reference) refl (referred records rows es r m (All-tail (IsEntry records) e es each)) is
  where
    by : (o : Ordering) → reference_cmp r e.reference ≡ o → (find reference_cmp r (keyed es) ≡ Some m → HasReference (record { records = records; rows = rows }) r m)
        → cond (is_eq o) (Some e.message) (find reference_cmp r (keyed es)) ≡ Some m → HasReference (record { records = records; rows = rows }) r m
    by Less at later found = later found
    by Greater at later found = later found
    by Equal at later found =
        let one = All-head (IsEntry records) e es each in
        let same : e.message ≡ m = cc in
        record {
          resolved = one.text;
          resolves = subst (λ (x : MessageValue). ResolvesIn records x one.text) same one.resolves;
          referred = one.referred ∙ sym (reference_apart r e.reference at);
        }

pub is_desk : (desk : DeskSeen) → IsBaseRecords desk.base.records → AreEntries desk.base.records desk.held → IsDesk (state_of desk)
is_desk desk base entries = record {
  base = was_read desk.base.records base;
  each = λ r m holds. referred desk.base.records desk.base.rows desk.held r m entries.each (sym (get-map_of desk.held r entries.rising) ∙ holds);
}

-- any two desks of a run agree as desks of two runs do
pub desks_agree : AnyTwoDesksAgree → (start after : List DeskState) (steps : List Step) (answers : List Answer) → All IsDesk start → All (IsInRange (length start)) steps → Runs start steps answers after → DesksAgree start steps answers after
desks_agree agree start after steps answers desks in_range runs d e here there began reached =
    let run : Run = record { start = start; steps = steps; answers = answers; after = after; desks = desks; in_range = in_range; runs = runs } in
    agree run run d e (record { here = here; there = there; reached = reached }) began
