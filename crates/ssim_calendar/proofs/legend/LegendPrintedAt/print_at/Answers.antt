-- The texts at a place, after its head.
use Rattle.std.proofs.Common.{◌≡◌, ◌∙◌, ◌<◌, ◌++◌, [], Vec, List, ℕ, OnOk, map, length, get_or}
use Rattle.std.proofs.Common.{slice_index_or, sym, ap, ap₂, subst}
use Rattle.std.proofs.Math.ListN.{get_or-map}
use Rattle.std.proofs.lemmas.List.{get_or_default}
use Rattle.ssim_periods.proofs.SplitLemmas.{length-map-one}
use Rattle.ssim_calendar.specs.Legend.{entry_lines}
use Rattle.ssim_calendar.specs.clauses.Legend.{texts_of}
use Rattle.ssim_calendar.proofs.legend.LegendPrintedAt.print_at.Goals as goal

-- the texts of the entry at a place
at_place : {A B : Type 0} (entries : List (Vec (Vec ℕ A) B)) (n : ℕ) (entry : Vec (Vec ℕ A) B)
    → n < length entries
    → texts_of (get_or entries n entry).items
    ≡ slice_index_or (map (λ texts. texts_of texts.items) entries) n []
at_place {A} {B} entries n entry within =
    let texts_in = λ (texts : Vec (Vec ℕ A) B). texts_of texts.items in
    sym (get_or-map texts_in entries n entry)
    ∙ get_or_default (map texts_in entries) n (texts_in entry) []
    (subst (λ (k : ℕ). n < k) (sym (length-map-one texts_in entries)) within)

pub returns : goal.returns
returns c =
    let entries = c.args.self.now.entries.now in
    let texts =
    ap texts_of c.deref-2.ensures.value
    ∙ at_place entries c.args.place c.index-self-place.result c.requires in
    subst (λ (bytes : List ℕ). OnOk c.push_entry.result
    (c.push_entry.new.lines.items ≡ c.args.lines.now.items ++ bytes))
    (ap₂ entry_lines (c.deref.ensures.value ∙ c.in_ok-head.ensures) texts) c.push_entry.ensures
