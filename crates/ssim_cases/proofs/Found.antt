-- A file that is found by its name.
use Rattle.std.proofs.Common.{◌≡◌, ℕ, Bool, cond, true, false, refl, List, [], ◌∷◌, Some, option_map, String, Vec, string_bytes}
use Rattle.std.specs.List.{find}
use Rattle.std.specs.Str.{bytes_eq}
use Rattle.ssim_program.specs.Files.{file_of}
use Rattle.ssim_cases.specs.Held.{files_of}

module _ {A B : Type 0} where
  pub found_file : (xs : List (String A × Vec ℕ B)) (name : List ℕ) → file_of (files_of xs) name ≡ option_map (λ f. f.1.items) (find (λ f. bytes_eq (string_bytes f.0) name) xs)
  found_file [] name = refl
  found_file (x ∷ xs) name = go (bytes_eq (string_bytes x.0) name) (found_file xs name)
    where
      go : (b : Bool) → file_of (files_of xs) name ≡ option_map (λ f. f.1.items) (find (λ f. bytes_eq (string_bytes f.0) name) xs)
          → option_map (λ f. f.1) (cond b (Some (string_bytes x.0, x.1.items)) (find (λ f. bytes_eq f.0 name) (files_of xs)))
          ≡ option_map (λ (f : String A × Vec ℕ B). f.1.items) (cond b (Some x) (find (λ f. bytes_eq (string_bytes f.0) name) xs))
      go true e = refl
      go false e = e
