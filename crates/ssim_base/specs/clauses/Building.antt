-- What is known of a data set that is made record by record.
use Rattle.std.specs.Prelude.{◌≡◌, ℕ, List, [], ◌∷◌, ◌++◌, reverse, map, Err}
use Rattle.std.specs.List.{All}
use Rattle.ssim_records.specs.Record.{IsRecord}
use Rattle.ssim_records.specs.declared.record.Record.{Record}
use Rattle.ssim_base.specs.Base.{Ending, data_set, first_refusal, kept_all}
use Rattle.ssim_base.specs.internal.Acceptance.{HasAccepted}
use Rattle.ssim_base.specs.internal.DataSetReader.{IsListOf}
use Rattle.ssim_base.specs.declared.data_set.builder.DataSetBuilder.{DataSetBuilder}
use Rattle.ssim_base.specs.declared.fault.BaseFault.{BaseFault}
use Rattle.ssim_base.specs.declared.fault.BaseFault.TheVariants as fault

-- The numbered records done are those of the builder, and each is valid after those before it.
-- Reading them and then any later ones gives the same as reading the later ones after them.
pub record HasBuilt (builder : DataSetBuilder) (done : List (ℕ × Record)) : Type 0 where
  pub earlier : List Record
  pub has : IsListOf builder.records.items earlier
  pub is_kept : HasAccepted builder.reader.kept earlier
  pub records : All (λ r. IsRecord r.1) done
  pub refused : (ending : Ending) (later : List (ℕ × Record))
      → first_refusal ending [] (done ++ later) ≡ first_refusal ending earlier later
  pub kept : (later : List (ℕ × Record))
      → kept_all [] (map (λ r. r.1) (done ++ later))
      ≡ reverse earlier ++ kept_all earlier (map (λ r. r.1) later)

-- The data set with one more record is refused in this way, whatever records come after it. Out of
-- memory says nothing of the records.
abbrev pub IsRefusedAt : List (ℕ × Record) → ℕ × Record → BaseFault → Type 0
IsRefusedAt done r fault.Memory = Unit {0}
IsRefusedAt done r refusal = (ending : Ending) (later : List (ℕ × Record))
    → data_set ending (done ++ r ∷ later) ≡ Err refusal

-- The data set of these records is refused in this way, if they end so.
abbrev pub IsRefusedAtEnd : Ending → List (ℕ × Record) → BaseFault → Type 0
IsRefusedAtEnd ending done fault.Memory = Unit {0}
IsRefusedAtEnd ending done refusal = data_set ending done ≡ Err refusal
