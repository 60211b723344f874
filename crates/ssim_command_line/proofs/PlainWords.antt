-- Plain words at a command with no subcommand: each goes to the positional, and none is at fault.
use Rattle.std.proofs.Common.{◌≡◌, ◌∙◌, ◌&&◌, ℕ, Bool, cond, true, false, not, refl, sym, ap, ap₂, List, []}
use Rattle.std.proofs.Common.{◌∷◌, Option, Some, None, is_some, true≢false}
use Rattle.std.specs.Prelude.{option_and_then, ◌==◌}
use Rattle.std.specs.List.{fold, list_all}
use Rattle.std.specs.Option.{option_map_or}
use Rattle.std.specs.Str.{bytes_eq}
use Rattle.clap.specs.Faults.{bundle_fault, check_fault, defaults_fault, flag_word_fault, level_fault, other_fault}
use Rattle.clap.specs.Faults.{settle_fault, step_fault, turn_fault, walk_fault, word_fault}
use Rattle.clap.specs.Kinds.{Kinds, or_else}
use Rattle.clap.specs.Lexer.{long_of, long_of_rest, short_of, short_of_rest, strip_byte}
use Rattle.clap.specs.Simple.{Shape}
use Rattle.clap.specs.Walk.{Held, Row, Rule, Step, Waiting, Walk, after_step, arg_by_index, finished, idle}
use Rattle.clap.specs.Walk.{is_multiple, long_or_other, nothing_held, option, positional, rows_after, settled}
use Rattle.clap.specs.Walk.{short_or_plain, subcommand_or_other, to_positional, value, walk_from}
use Rattle.clap.specs.Walk.{trailing, walked, walked_from, word_met}
use Rattle.clap.proofs.WalkLemmas.{both}
use Rattle.ssim_command_line.specs.Line.{Text, is_plain}

-- ---- one word

-- the word is no `--` and no flag
record Looks (word : Text) : Type 0 where
  dashes : bytes_eq word (45 ∷ 45 ∷ []) ≡ false
  long : long_of word ≡ None
  short : short_of word ≡ None

is_false : (b : Bool) → not b ≡ true → b ≡ false
is_false true e = absurd (true≢false (sym e))
is_false false e = refl

and_false : (b : Bool) → (b && false) ≡ false
and_false true = refl
and_false false = refl

no_long : (b : Bool)
    → option_and_then long_of_rest (option_and_then (strip_byte 45) (cond b (Some []) None)) ≡ None
no_long true = refl
no_long false = refl

no_short : (b : Bool) → option_and_then short_of_rest (cond b (Some []) None) ≡ None
no_short true = refl
no_short false = refl

looks : (word : Text) → is_plain word ≡ true → Looks word
looks [] e = absurd (true≢false (sym e))
looks (x ∷ []) e =
    record { dashes = and_false (x == 45); long = no_long (x == 45); short = no_short (x == 45) }
looks (x ∷ y ∷ rest) e =
    let h : (x == 45) ≡ false = is_false _ e in
    record { dashes = rw h refl; long = rw h refl; short = rw h refl }

abbrev awaits_option : Waiting → Bool
awaits_option (option id) = true
awaits_option _ = false

-- no option waits for a value, and no subcommand was met
record IsOpen (w : Walk) : Type 0 where
  free : awaits_option w.waiting ≡ false
  here : w.stopped ≡ None

-- what the word is, and its fault
abbrev Met : Type 0
Met = (Held × Step) × Kinds

abbrev met : Shape → Bool → Waiting → ℕ → Text → Held → Met
met s t waiting position word h =
    (word_met s.rules [] t waiting position word h, word_fault s [] t waiting word h)

-- the word is a value, and has no fault
abbrev as_value : Held → Met
as_value h = ((h, value), [])

abbrev met_as : Shape → Waiting → ℕ → Text → Held → Met
met_as s waiting position word h =
    (subcommand_or_other s.rules None waiting position word h, other_fault s None word h)

by_looks : (s : Shape) (waiting : Waiting) (position : ℕ) (word : Text) (h : Held) → Looks word
    → short_or_plain s.rules waiting word None h ≡ (h, value)
    → met_as s waiting position word h ≡ as_value h
by_looks s waiting position word h l plain =
    let again = s.args_override_self in
    ap (λ (b : Bool). (
      cond b (h, trailing position) (long_or_other s.rules waiting word (long_of word) h),
      cond b [] (flag_word_fault s.rules again (long_of word) word h),
    )) l.dashes
    ∙ ap (λ o. (long_or_other s.rules waiting word o h, flag_word_fault s.rules again o word h)) l.long
    ∙ ap (λ o. (
      short_or_plain s.rules waiting word o h,
      option_map_or (λ flags. bundle_fault s.rules again flags h) o [],
    )) l.short
    ∙ ap (λ (x : Held × Step). (x, [])) plain

met_is : (s : Shape) (t : Bool) (waiting : Waiting) (position : ℕ) (word : Text) (h : Held) → Looks word
    → awaits_option waiting ≡ false → met s t waiting position word h ≡ as_value h
met_is s true waiting position word h l free = refl
met_is s false (option id) position word h l free = absurd (true≢false free)
met_is s false idle position word h l free = by_looks s idle position word h l refl
met_is s false positional position word h l free = by_looks s positional position word h l refl

-- the walk after a plain word
abbrev pub plain_walked : Shape → Walk → Text → Walk
plain_walked s w word = to_positional s.rules (arg_by_index s.rules w.position) word w w.held

abbrev pub step_at : Shape → Walk → Kinds
step_at s w = step_fault s w.position w.held value

walked_is : (s : Shape) (w : Walk) (word : Text) → Looks word → IsOpen w
    → walked s.rules [] w word ≡ plain_walked s w word
unfolding walked
walked_is s w word l o =
    ap (λ x. walked_from s.rules [] x w word) o.here
    ∙ ap (λ (m : Met). after_step s.rules word w m.0.0 m.0.1)
    (met_is s w.is_trailing w.waiting w.position word w.held l o.free)

turn_is : (s : Shape) (w : Walk) (word : Text) → Looks word → IsOpen w → turn_fault s [] w word ≡ step_at s w
turn_is s w word l o =
    let m = met s w.is_trailing w.waiting w.position word w.held in
    ap (λ (x : Option (Text × List Text)). cond (is_some x) [] (or_else m.1 (step_fault s w.position m.0.0 m.0.1))) o.here
    ∙ ap (λ (x : Met). or_else x.1 (step_fault s w.position x.0.0 x.0.1))
    (met_is s w.is_trailing w.waiting w.position word w.held l o.free)

free_after : (b : Bool) → awaits_option (cond b positional idle) ≡ false
free_after true = refl
free_after false = refl

open_after : (s : Shape) (w : Walk) (word : Text) (o : Option Rule) → IsOpen w
    → IsOpen (to_positional s.rules o word w w.held)
open_after s w word None is = record { free = is.free; here = is.here }
open_after s w word (Some a) is = record { free = free_after (is_multiple a); here = refl }

-- ---- words

-- the faults of plain words
abbrev pub plain_fault : Shape → Walk → List Text → Kinds
plain_fault s w [] = []
plain_fault s w (word ∷ rest) = or_else (step_at s w) (plain_fault s (plain_walked s w word) rest)

record IsPlainWalk (s : Shape) (w : Walk) (words : List Text) : Type 0 where
  ends : fold (walked s.rules []) w words ≡ fold (plain_walked s) w words
  right : walk_fault s [] w words ≡ plain_fault s w words

plain_walk : (s : Shape) (w : Walk) (words : List Text) → list_all is_plain words ≡ true → IsOpen w
    → IsPlainWalk s w words
unfolding walk_fault
plain_walk s w [] e o = record { ends = refl; right = refl }
plain_walk s w (word ∷ rest) e o =
    let p = both _ _ e in
    let l = looks word p.0 in
    let is = walked_is s w word l o in
    let next = open_after s w word (arg_by_index s.rules w.position) o in
    let later = plain_walk s (plain_walked s w word) rest p.1 next in
    record {
      ends = ap (λ (x : Walk). fold (walked s.rules []) x rest) is ∙ later.ends;
      right = ap₂ or_else (turn_is s w word l o)
          (ap (λ (x : Walk). walk_fault s [] x rest) is ∙ later.right);
    }

-- what is found after the words
abbrev pub after : Shape → Walk → Kinds
after s w = or_else (settle_fault s.rules s.args_override_self w.held)
    (or_else (defaults_fault (settled s.rules w.held).rows s.rules) (check_fault s (finished s.rules w.held) false))

-- the faults of plain words, and the rows at their end
abbrev pub Outcome : Type 0
Outcome = Kinds × List Row

-- the outcome of these faults and of the words from a walk on
abbrev pub outcome : Shape → Kinds → Walk → List Text → Outcome
outcome s k w words =
    let end = fold (plain_walked s) w words in
    (or_else (or_else k (plain_fault s w words)) (after s end), finished s.rules end.held)

-- what a command makes of plain words
pub level_is : (s : Shape) (words : List Text) → list_all is_plain words ≡ true
    → (level_fault s [] nothing_held words false [], rows_after s.rules [] words)
    ≡ outcome s [] (walk_from nothing_held) words
level_is s words e =
    let p = plain_walk s (walk_from nothing_held) words e (record { free = refl; here = refl }) in
    ap₂ (λ (k : Kinds) (w : Walk). (or_else k (after s w), finished s.rules w.held)) p.right p.ends
