-- The parts of a desk file, and the elements of its lists, which are put one after another.
use Rattle.std.proofs.Common.{◌≡◌, ◌<◌, ◌≤◌, ℕ, ◌+◌, List, ◌++◌, Result, append_assoc, codes}
use Rattle.std.proofs.Common.{length, take, drop, get_or, refl, sym, ap, subst, ◌∙◌, arith}
use Rattle.std.proofs.lemmas.List.{drop_all}
use Rattle.std.specs.List.{All, flat_map}
use Rattle.std.specs.Result.{IsErr}
use Rattle.ssim_records.specs.Device.{Writer}
use Rattle.ssim_records.specs.declared.record.Record.{Record}
use Rattle.ssim_base.specs.BaseSeen.{base_with}
use Rattle.ssim_base.specs.Sinks.{Breaks}
use Rattle.ssim_base.specs.clauses.Sinks.{GrowsUpTo, PutsUpTo}
use Rattle.ssim_base.specs.Stations.{Row}
use Rattle.ssim_base.proofs.Each.{all_done, all_more, item}
use Rattle.ssim_base.proofs.SinkLemmas.{next_fails, next_put, none_put, nothing_after}
use Rattle.ssim_held.specs.Entries.{Entry}
use Rattle.ssim_held.specs.File.{counted, desk_file, end_line, records_part, rows_part, texts_part}
use Rattle.ssim_held.specs.internal.DeskFileWriter.{base_part}

-- ---- the elements of a list

-- What was put, and the elements that are left, is all of it; and each that was put has P.
pub record ArePut {X : Type 0} (f : X → List ℕ) (P : X → Type 0) (all : List ℕ) (t : Writer)
    (xs : List X) (i : ℕ) (block : List ℕ) (u : Writer) : Type 0 where
  pub puts : GrowsUpTo all (block ++ flat_map f (drop i xs)) t u
  pub each : All P (take i xs)

-- a line was put before them
pub elements_first : {X : Type 0} {f : X → List ℕ} {P : X → Type 0} {kept : List ℕ} {xs : List X}
    {t u : Writer} (block line : List ℕ) → GrowsUpTo (block ++ line) kept t u
    → ArePut f P (block ++ (line ++ flat_map f xs)) t xs 0 kept u
elements_first block line put = record {
  puts = next_put block _ _ refl (none_put _ _) put;
  each = λ k x less. absurd (omega arith);
}

-- the elements that are left are the current one, which has these bytes, and those after it
elements-split : {X : Type 0} {x : X} {bytes : List ℕ} (f : X → List ℕ) (xs : List X) (i : ℕ)
    → i < length xs → x ≡ get_or xs i x → bytes ≡ f x
    → flat_map f (drop i xs) ≡ bytes ++ flat_map f (drop (i + 1) xs)
elements-split {x = x} f xs i less is same =
    ap (flat_map f) (item xs i x less is)
    ∙ ap (λ (bs : List ℕ). bs ++ flat_map f (drop (i + 1) xs)) (sym same)

module _ {X : Type 0} {f : X → List ℕ} {P : X → Type 0} {all : List ℕ} {t : Writer} {xs : List X}
    {i : ℕ} {block : List ℕ} {u : Writer} (h : ArePut f P all t xs i block u)
  where
    -- one more is put
    pub element_put : {x : X} {bytes kept : List ℕ} {v : Writer} → i < length xs
        → x ≡ get_or xs i x → bytes ≡ f x → P x → GrowsUpTo (block ++ bytes) kept u v
        → ArePut f P all t xs (i + 1) kept v
    element_put {x} less is same one put = record {
      puts = next_put block _ _ (elements-split f xs i less is same) h.puts put;
      each = all_more P xs i x less is h.each one;
    }

    pub element_fails : {A E : Type 0} {x : X} {bytes : List ℕ} {v : Writer} → i < length xs
        → x ≡ get_or xs i x → bytes ≡ f x → (held : List ℕ) (result : Result A E) → IsErr result
        → Breaks (block ++ bytes) u v → PutsUpTo all held t v result
    element_fails less is same held result err put =
        next_fails block _ _ (elements-split f xs i less is same) h.puts held result err put

    -- all are put
    pub elements_put : length xs ≤ i → GrowsUpTo all block t u
    elements_put done =
        subst (λ (bs : List ℕ). GrowsUpTo all bs t u)
        (ap (λ left. block ++ flat_map f left) (drop_all i xs done) ∙ nothing_after block) h.puts

    pub each_put : length xs ≤ i → All P xs
    each_put done = all_done P xs i done h.each

-- ---- the base, the texts and the last line

pub desk_file-split : (records : List Record) (rows : List Row) (held : List Entry)
    → desk_file (base_with records rows) held
    ≡ base_part records rows ++ (texts_part held ++ end_line)
desk_file-split records rows held =
    let first = counted (codes "SSIMDESK") 2 in
    let mine = records_part records in
    let later = texts_part held ++ end_line in
    sym (append_assoc first (mine ++ rows_part rows) later
    ∙ ap (λ (bs : List ℕ). first ++ bs) (append_assoc mine (rows_part rows) later))
