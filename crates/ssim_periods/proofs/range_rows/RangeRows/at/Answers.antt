use Rattle.std.proofs.Common.{◌≡◌, ℕ, ◌<◌, List, ◌∷◌, length, slice_get, slice_index_or, Some, ◌-◌, ap, sym, ◌∙◌, arith, zero, suc}
use Rattle.ssim_periods.specs.Days.{each_day}
use Rattle.ssim_periods.specs.clauses.Days.{Seen}
use Rattle.ssim_values.specs.Calendar.{slot}
use Rattle.ssim_periods.specs.internal.Rows.{place, row_on, value_on, AreRows}
use Rattle.ssim_periods.proofs.DayLemmas.{get-each_day}
use Rattle.ssim_periods.proofs.RowLemmas.{row_on-place, value_on-at}
use Rattle.ssim_periods.proofs.range_rows.RangeRows.at.Goals as goal

-- the value found in a row is that of the list of days
seen : {V : Type 0} {w : ℕ} (s : Seen V) (e : V) (row : List V) (cuts : List ℕ) (rows : List (List V)) (day n : ℕ) (found : List V) (x : V) → each_day (value_on e row cuts rows) ≡ s.days → AreRows row cuts rows → n ≡ day → n < 36525 → row_on row cuts rows n ≡ found → w ≡ slot n → x ≡ slice_index_or found w x → slice_get s.days day ≡ Some (slice_index_or found w x)
seen s e row cuts rows day n found x view inv same lt f weekday is =
    ap (λ l. slice_get l day) (sym view) ∙ ap (λ d. slice_get (each_day (value_on e row cuts rows)) d) (sym same)
    ∙ get-each_day (value_on e row cuts rows) n lt ∙ ap Some (value_on-at e row cuts rows n found x inv f (is ∙ ap (λ v. slice_index_or found v x) weekday) ∙ is)

-- the row before the first cut
first_row : {V : Type 0} (row : List V) (cuts : List ℕ) (rows : List (List V)) (n p : ℕ) (cs : List ℕ) → length rows ≡ length cuts → p ≡ place cs n → cs ≡ cuts → p ≡ 0 → row_on row cuts rows n ≡ row
first_row row cuts rows n p cs count is same z = row_on-place row cuts rows n row count ∙ ap (λ k. slice_index_or (row ∷ rows) k row) (ap (λ c. place c n) (sym same) ∙ sym is ∙ z)

later_row : {V : Type 0} (row : List V) (cuts : List ℕ) (rows : List (List V)) (n p : ℕ) (cs : List ℕ) (found : List V) → length rows ≡ length cuts → p ≡ place cs n → cs ≡ cuts → (p ≡ 0 → ⊥) → found ≡ slice_index_or rows (p - 1) found → row_on row cuts rows n ≡ found
later_row row cuts rows n zero cs found count is same z f = absurd (z (omega arith))
later_row row cuts rows n (suc p) cs found count is same z f =
    row_on-place row cuts rows n found count ∙ ap (λ k. slice_index_or (row ∷ rows) k found) (ap (λ c. place c n) (sym same) ∙ sym is)
    ∙ ap (λ k. slice_index_or rows k found) (omega arith) ∙ sym f

pub returns-then-place-eq0 : goal.returns-then-place-eq0
returns-then-place-eq0 g c =
    seen c.args.self.now g.V.Value.nothing c.self.inside.before c.self.inside.cuts.items c.self.inside.rows.items c.args.day c.number-number.result _ _
    (ap (λ s. s.days) c.self.view_is) c.self.invariant c.number-number.ensures.value c.number-number.ensures.bound
    (first_row _ _ _ _ _ _ c.self.invariant.row_count c.place_of-place.ensures.place c.deref.ensures.value c.if-place-eq0.true) c.weekday_of-weekday.ensures.value c.index-self-weekday.is

pub returns-else-place-eq0 : goal.returns-else-place-eq0
returns-else-place-eq0 g c =
    seen c.args.self.now g.V.Value.nothing c.self.inside.before c.self.inside.cuts.items c.self.inside.rows.items c.args.day c.number-number.result _ _
    (ap (λ s. s.days) c.self.view_is) c.self.invariant c.number-number.ensures.value c.number-number.ensures.bound
    (later_row _ _ _ _ _ _ _ c.self.invariant.row_count c.place_of-place.ensures.place c.deref.ensures.value c.if-place-eq0.false c.index.ensures) c.weekday_of-weekday.ensures.value c.index-index-weekday.is
