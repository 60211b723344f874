-- Words make a choice, or the first of them that is invalid is refused.
use Rattle.std.proofs.Common.{◌≡◌, ◌⊎◌, ℕ, ◌≤◌, List, Some, None, Ok, Err, map, inl, inr, refl}
use Rattle.std.specs.Prelude.{All}
use Rattle.ssim_values.specs.declared.designator.Designator.{Designator}
use Rattle.ssim_values.specs.declared.fault.Fault.TheVariants as value_fault
use Rattle.ssim_words.specs.Aircraft.{typed_aircraft}
use Rattle.ssim_words.specs.Flight.{NameEach}
use Rattle.ssim_words.specs.Several.{each_read}
use Rattle.ssim_words.specs.Station.{typed_station}
use Rattle.ssim_command_line.specs.Line.{ChoiceTexts, Text}
use Rattle.ssim_program.specs.Choices.{choice_in, dated, turned_dates}
use Rattle.ssim_program.specs.Desks.{other_airline}
use Rattle.ssim_program.specs.Messages.{IsOf}
use Rattle.ssim_program.specs.print.Refusal.{IsMemory}
use Rattle.ssim_program.specs.declared.refusal.Refusal.{Refusal}
use Rattle.ssim_program.specs.declared.refusal.Refusal.TheVariants as refused

module _ (airline : List ℕ) (words : ChoiceTexts) (flights : List Text) where
  pub no_memory : (why : Refusal) → IsMemory why → choice_in airline words flights (Err why)
  no_memory why memory = inl memory

  pub no_flights : (why : Refusal)
      → IsMemory why ⊎ ((why ≡ refused.Value value_fault.BadDesignator)
      × ((named : List Designator) → NameEach airline flights named → ⊥))
      → choice_in airline words flights (Err why)
  no_flights why (inl memory) = inl memory
  no_flights why (inr (is, none)) = inr (tt, refl, inl (none, is))

  module _ (named : List Designator) (names : NameEach airline flights named) where
    pub no_stations : (why : Refusal)
        → IsMemory why ⊎ ((why ≡ refused.Value value_fault.BadStation)
        × (each_read typed_station words.stations ≡ None))
        → choice_in airline words flights (Err why)
    no_stations why (inl memory) = inl memory
    no_stations why (inr (is, none)) = inr (tt, refl, inr (named, names, inl (none, is)))

    module _ (stations : List (List ℕ))
        (are : each_read typed_station words.stations ≡ Some stations) where
      pub no_aircraft : (why : Refusal)
          → IsMemory why ⊎ ((why ≡ refused.Aircraft)
          × (each_read typed_aircraft words.aircraft ≡ None))
          → choice_in airline words flights (Err why)
      no_aircraft why (inl memory) = inl memory
      no_aircraft why (inr (is, none)) =
          inr (tt, refl, inr (named, names, inr (stations, are, inl (none, is))))

      module _ (aircraft : List (List ℕ))
          (types : each_read typed_aircraft words.aircraft ≡ Some aircraft) where
        pub no_first : (why : Refusal)
            → IsMemory why ⊎ ((why ≡ refused.Value value_fault.BadDate)
            × (dated 0 words.from ≡ None))
            → choice_in airline words flights (Err why)
        no_first why (inl memory) = inl memory
        no_first why (inr (is, none)) = inr (
          tt,
          refl,
          inr (named, names, inr (stations, are, inr (aircraft, types, inl (none, is)))),
        )

        module _ (first : ℕ) (from : dated 0 words.from ≡ Some first) where
          pub no_last : (why : Refusal)
              → IsMemory why ⊎ ((why ≡ refused.Value value_fault.BadDate)
              × (dated 36524 words.to ≡ None))
              → choice_in airline words flights (Err why)
          no_last why (inl memory) = inl memory
          no_last why (inr (is, none)) = inr (
            tt,
            refl,
            inr (
              named,
              names,
              inr (stations, are, inr (aircraft, types, inr (first, from, inl (none, is)))),
            ),
          )

          module _ (last : ℕ) (to : dated 36524 words.to ≡ Some last) where
            pub no_airline : (why : Refusal) → why ≡ other_airline
                → (All (IsOf airline) named → ⊥) → choice_in airline words flights (Err why)
            no_airline why is other = inr (
              tt,
              refl,
              inr (
                named,
                names,
                inr (
                  stations,
                  are,
                  inr (aircraft, types, inr (first, from, inr (last, to, inl (other, is)))),
                ),
              ),
            )

            module _ (all : All (IsOf airline) named) where
              pub no_dates : (why : Refusal) → why ≡ turned_dates → (first ≤ last → ⊥)
                  → choice_in airline words flights (Err why)
              no_dates why is turned = inr (
                tt,
                refl,
                inr (
                  named,
                  names,
                  inr (
                    stations,
                    are,
                    inr (
                      aircraft,
                      types,
                      inr (first, from, inr (last, to, inr (tt, all, inl (turned, is)))),
                    ),
                  ),
                ),
              )

              pub made : first ≤ last → choice_in airline words flights (Ok (record {
                flights = map (λ d. d.flight) named;
                first = first;
                last = last;
                stations = stations;
                aircraft = aircraft;
              }))
              made rising = (
                tt,
                refl,
                (
                  named,
                  names,
                  (
                    stations,
                    are,
                    (aircraft, types, (first, from, (last, to, (tt, all, (tt, rising, refl))))),
                  ),
                ),
              )
