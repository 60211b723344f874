-- What is said, at the ranks of its stations, and the rows of all stations.
use Rattle.std.proofs.Common.{◌≡◌, ◌∙◌, ℕ, zero, suc, ◌+◌, ◌++◌, ◌≤◌, ◌<◌, Bool, nat_eq, subst}
use Rattle.std.proofs.Common.{if◌then◌else◌, List, [], ◌∷◌, length, map, take, get_or, set}
use Rattle.std.proofs.Common.{refl, sym, ap, ap₂, arith, append-nil, append_assoc}
use Rattle.std.specs.List.{flat_map, range_with_len}
use Rattle.std.specs.Str.{bytes_eq}
use Rattle.std.proofs.lemmas.List.{length-set}
use Rattle.std.proofs.lemmas.List.Concat.{flat_map-append}
use Rattle.std.proofs.lemmas.List.Elements.{filter-append}
use Rattle.ssim_base.specs.Stations.{Row}
use Rattle.ssim_overview.specs.SaidRows.{is_about}
use Rattle.ssim_overview.specs.Totals.{station_at}
use Rattle.ssim_overview.specs.internal.SaidRows.{AddsSayings, AreByRank, Dated, about, dates_said}
use Rattle.ssim_overview.specs.internal.SaidRows.{grown, rank_rows, rows_by}
use Rattle.ssim_overview.proofs.Ranks.{one_at}
use Rattle.ssim_overview.proofs.SaidHalves.{no_dates}
use Rattle.ssim_overview.proofs.SaidSteps.{taken}

-- ---- what is said at ranks

pub nothing_said : (lists : List (List Dated)) → length lists ≡ 17576
    → ((k : ℕ) → get_or lists k [] ≡ []) → AreByRank [] lists
nothing_said lists len none = record { len = len; each = λ k lt. none k }

-- nothing more
pub no_more : (lists : List (List Dated)) → AddsSayings [] lists lists
no_more lists = record { len = refl; each = λ k lt. sym (append-nil (get_or lists k [])) }

about_more : (k : ℕ) (some more : List Dated)
    → about (station_at k) some ++ about (station_at k) more ≡ about (station_at k) (some ++ more)
about_more k some more = sym (filter-append (λ s. is_about (station_at k) s.1) some more)

-- some and then others
pub more_sayings : (some more : List Dated) (old mid new : List (List Dated))
    → AddsSayings some old mid → AddsSayings more mid new → AddsSayings (some ++ more) old new
more_sayings some more old mid new a b = record {
  len = b.len ∙ a.len;
  each = λ k lt.
      b.each k lt ∙ ap (λ (l : List Dated). l ++ about (station_at k) more) (a.each k lt)
      ∙ append_assoc (get_or old k []) (about (station_at k) some) (about (station_at k) more)
      ∙ ap (λ (l : List Dated). get_or old k [] ++ l) (about_more k some more);
}

all_more : {A : Type 0} (f : A → List Dated) (xs : List A) (i : ℕ) (x : A)
    → i < length xs → x ≡ get_or xs i x
    → flat_map f (take i xs) ++ f x ≡ flat_map f (take (i + 1) xs)
all_more f xs i x lt is =
    sym (ap (flat_map f) (taken xs i x lt is) ∙ flat_map-append f (take i xs) (x ∷ [])
    ∙ ap (λ (l : List Dated). flat_map f (take i xs) ++ l) (append-nil (f x)))

-- what one element more says
pub adds_more : {A : Type 0} (f : A → List Dated) (xs : List A) (i : ℕ) (x : A)
    (old mid new : List (List Dated)) → i < length xs → x ≡ get_or xs i x
    → AddsSayings (flat_map f (take i xs)) old mid → AddsSayings (f x) mid new
    → AddsSayings (flat_map f (take (i + 1) xs)) old new
adds_more f xs i x old mid new lt is before adds =
    subst (λ (s : List Dated). AddsSayings s old new) (all_more f xs i x lt is)
    (more_sayings (flat_map f (take i xs)) (f x) old mid new before adds)

pub are_more : {A : Type 0} (f : A → List Dated) (xs : List A) (i : ℕ) (x : A)
    (old new : List (List Dated)) → i < length xs → x ≡ get_or xs i x
    → AreByRank (flat_map f (take i xs)) old → AddsSayings (f x) old new
    → AreByRank (flat_map f (take (i + 1) xs)) new
are_more f xs i x old new lt is are adds =
    subst (λ (s : List Dated). AreByRank s new) (all_more f xs i x lt is) (record {
      len = adds.len ∙ are.len;
      each = λ k below.
          adds.each k below
          ∙ ap (λ (l : List Dated). l ++ about (station_at k) (f x)) (are.each k below)
          ∙ about_more k (flat_map f (take i xs)) (f x);
    })

-- what one end says is at its rank
pub one_saying : (n : ℕ) (x : Dated) (old new : List (List Dated)) → length old ≡ 17576
    → n < 17576 → ((k : ℕ) → k < 17576 → nat_eq n k ≡ bytes_eq x.1.station (station_at k))
    → new ≡ set old n (get_or old n [] ++ x ∷ []) → AddsSayings (x ∷ []) old new
one_saying n x old new size within only added = record {
  len = ap length added ∙ length-set old n (get_or old n [] ++ x ∷ []);
  each = λ k lt.
      let inside : n < length old = omega arith in
      ap (λ (l : List (List Dated)). get_or l k []) added ∙ one_at old n k x inside
      ∙ ap (λ (b : Bool). get_or old k [] ++ (if b then x ∷ [] else [])) (only k lt);
}

-- ---- rows

-- a station of which nothing is said has no row
pub no_rows : (station : List ℕ) (sayings : List Dated) (rows : List Row) → sayings ≡ []
    → rows ≡ rows ++ grown station [] (dates_said sayings 0 36525)
no_rows station sayings rows none =
    sym (append-nil rows) ∙ ap (λ (r : List Row). rows ++ r)
    (sym (ap (λ (s : List Dated). grown station [] (dates_said s 0 36525)) none
    ∙ ap (grown station []) (no_dates 0 36525)))

ranks_are : (sayings : List Dated) (lists : List (List Dated)) → AreByRank sayings lists
    → (a count : ℕ) → a + count ≤ 17576
    → flat_map (rank_rows lists) (range_with_len a count)
    ≡ flat_map (rows_by sayings) (map station_at (range_with_len a count))
ranks_are sayings lists are a zero within = refl
ranks_are sayings lists are a (suc count) within =
    ap₂ (λ (x y : List Row). x ++ y)
    (ap (λ (s : List Dated). grown (station_at a) [] (dates_said s 0 36525))
    (are.each a (omega arith)))
    (ranks_are sayings lists are (a + 1) count (omega arith))

-- the rows by ranks are the rows of all stations
pub rows_are : (sayings : List Dated) (lists : List (List Dated)) (rows : List Row) (end : ℕ)
    → AreByRank sayings lists → end ≡ 17576
    → rows ≡ flat_map (rank_rows lists) (range_with_len 0 end)
    → rows ≡ flat_map (rows_by sayings) (map station_at (range_with_len 0 17576))
rows_are sayings lists rows end are done is =
    is ∙ ap (λ (n : ℕ). flat_map (rank_rows lists) (range_with_len 0 n)) done
    ∙ ranks_are sayings lists are 0 17576 (omega arith)
