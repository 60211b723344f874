-- Named files.
use Rattle.std.specs.Prelude.{Vec, ◌≡◌, ◌<◌, ◌+◌, ◌%◌, ◌^◌, ℕ, IfSome, List, [], ◌∷◌, ⊤}
use Rattle.std.specs.Prelude.{Option, Some, None, Result, Ok, Err, find, length, option_map}
use Rattle.std.specs.Str.{bytes_eq}
use Rattle.ssim_records.specs.Device.{Reader}
use Rattle.ssim_program.specs.declared.store.KeepFault.{KeepFault}
use Rattle.ssim_program.specs.declared.store.KeepFault.TheVariants as keep
use Rattle.ssim_program.specs.declared.store.StoreFault.{StoreFault}
use Rattle.ssim_program.specs.declared.store.StoreFault.TheVariants as fault

-- files, each with its name and its bytes
abbrev pub Files : Type 0
Files = List (List ℕ × List ℕ)

-- the newest file of this name
abbrev pub file_of : Files → List ℕ → Option (List ℕ)
file_of all name = option_map (λ f. f.1) (find (λ f. bytes_eq f.0 name) all)

-- a load gives the bytes of the file, and fails only if there is none within the limit
abbrev pub LoadsFile : {A : Type 0} → Files → List ℕ → ℕ → Result (Vec ℕ A) StoreFault → Type 0
LoadsFile all name limit (Ok v) = file_of all name ≡ Some v.items
LoadsFile all name limit (Err fault.Memory) = ⊤
LoadsFile all name limit (Err fault.Fault) =
    IfSome (file_of all name) (λ bytes. limit < length bytes)

-- An opened file has exactly these bytes to give, if the contract can see the files: those of the
-- file of this name.
abbrev pub IsOpened : Option Files → List ℕ → Option (List ℕ) → Type 0
IsOpened None name left = ⊤
IsOpened (Some all) name left =
    (bytes : List ℕ) × (file_of all name ≡ Some bytes) × (left ≡ Some bytes)

-- the file of this name is opened, or there is none
abbrev pub OpensFile : {F : Type 0} → (F → Reader) → Option Files → List ℕ → Result F StoreFault
    → Type 0
OpensFile state files name (Ok file) = IsOpened files name (state file).left
OpensFile state files name (Err fault.Memory) = ⊤
OpensFile state files name (Err fault.Fault) =
    IfSome files (λ all. IfSome (file_of all name) (λ bytes. ⊥))

-- a file that is kept comes first; after a fault the files are as they were
abbrev pub KeepsFile : Option Files → Option Files → List ℕ → List ℕ → Result ⊤ KeepFault → Type 0
KeepsFile old new name bytes (Ok x) = new ≡ option_map (λ all. (name, bytes) ∷ all) old
KeepsFile old new name bytes (Err e) = new ≡ old

-- the store counts a file that it failed to keep (91), and nothing else; the count wraps
abbrev pub CountsKeep : ℕ → ℕ → Result ⊤ KeepFault → Type 0
CountsKeep old new (Ok x) = new ≡ old
CountsKeep old new (Err keep.Fault) = new ≡ (old + 1) % 2 ^ 64
CountsKeep old new (Err _) = new ≡ old

-- the names and the bytes of files that are kept, in order
abbrev pub Kept : Type 0
Kept = List (List ℕ × List ℕ)

-- the files after these were kept
abbrev pub with_kept : Kept → Option Files → Option Files
with_kept [] files = files
with_kept (file ∷ later) files = with_kept later (option_map (λ all. file ∷ all) files)
