-- The first lines of both versions have 11 bytes.
use Rattle.std.proofs.Common.{◌≡◌, ◌++◌, ◌<◌, List, [], ◌∷◌, ℕ, length, take, Ok, true, false, refl, rules, sym, ap, ◌∙◌, arith, length-append}
use Rattle.std.specs.Fmt.{digits}
use Rattle.std.proofs.lemmas.List.{append-nil, take_at}
use Rattle.ssim_held.specs.internal.DeskFileReader.{first_line}
use Rattle.ssim_held.specs.declared.desk_file_reader.version.FileVersion.{FileVersion}
use Rattle.ssim_held.specs.declared.desk_file_reader.version.FileVersion.TheVariants.{One, Two}
use Rattle.ssim_held.proofs.Inputs.{few_ahead, first_length, held_ahead, of_next, some_map, uses_first}
use Rattle.ssim_held.proofs.desk_file_reader.version.take_version.Goals as goal

eleven : (version : FileVersion) → length (first_line version) ≡ 11
unfolding digits
eleven One = refl
eleven Two = refl

nothing : (bs : List ℕ) → length bs ≡ 0 → bs ≡ []
nothing [] h = refl
nothing (b ∷ bs) h = absurd (omega (arith, h))

-- 11 bytes that begin with a first line are this line
line_is : (version : FileVersion) (line rest : List ℕ) → length line ≡ 11 → line ≡ first_line version ++ rest → line ≡ first_line version
line_is version line rest long e =
    let a = ap length e in
    let b = length-append (first_line version) rest in
    let n = eleven version in
    e ∙ ap (λ bs. first_line version ++ bs) (nothing rest (omega (arith, a, b, n, long))) ∙ append-nil (first_line version)

-- the first 11 of bytes that begin with a first line are this line
first_is : (version : FileVersion) (line rest old new : List ℕ) → length line ≡ 11 → old ≡ line ++ new → old ≡ first_line version ++ rest → line ≡ first_line version ++ []
first_is version line rest old new long is e =
    sym (take_at line new 11 long) ∙ ap (take 11) (sym is ∙ e) ∙ take_at (first_line version) rest 11 (eleven version) ∙ sym (append-nil (first_line version))

-- the bytes begin with no first line
abbrev HasNone : List ℕ → Type 0
HasNone bytes = (version : FileVersion) (rest : List ℕ) → bytes ≡ first_line version ++ rest → ⊥

too_few : (bytes : List ℕ) → length bytes < 11 → HasNone bytes
too_few bytes few version rest e =
    let a = ap length e in
    let b = length-append (first_line version) rest in
    let n = eleven version in
    omega (arith, a, b, n, few)

pub returns-then-not-branch-clause-none : goal.returns-then-not-branch-clause-none
returns-then-not-branch-clause-none g c =
    let short : c.has.result ≡ Ok false = search rules in
    let end = c.has.ensures.end short in
    of_next HasNone _ _ c.in_ok-has.ensures.uses.next
    (some_map (λ (bytes : List ℕ). length bytes < 11) HasNone _ too_few (few_ahead 11 c.has.new.self (g.R.Source.state c.has.new.reader).left end.0 end.1))

pub returns-in-Some-clause-some : goal.returns-in-Some-clause-some
returns-in-Some-clause-some g c =
    let enough : c.has.result ≡ Ok true = search rules in
    let long = first_length 11 c.has.new.self.held (c.has.ensures.held enough) in
    let version = c.in-Some.version in
    rw c.skip.ensures (uses_first 11 (first_line version) c.args.input.now c.has.new.self _ _ c.in_ok-has.ensures.uses
    (line_is version (take 11 c.has.new.self.held) c.in-Some.field-0-1.now long (sym c.first.ensures ∙ c.in-Some.ensures.some)))

pub returns-in-None-clause-none : goal.returns-in-None-clause-none
returns-in-None-clause-none g c =
    let enough : c.has.result ≡ Ok true = search rules in
    let long = first_length 11 c.has.new.self.held (c.has.ensures.held enough) in
    of_next HasNone _ _ c.in_ok-has.ensures.uses.next
    (some_map (λ (bytes : List ℕ). (later : List ℕ) × (bytes ≡ take 11 c.has.new.self.held ++ later)) HasNone _
    (λ bytes cut version rest e. c.in-None.ensures.none version [] (c.first.ensures ∙ first_is version (take 11 c.has.new.self.held) rest bytes cut.0 long cut.1 e))
    (held_ahead 11 c.has.new.self (g.R.Source.state c.has.new.reader).left))
