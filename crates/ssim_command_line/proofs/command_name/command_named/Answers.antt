-- A name that is none of the table makes no line.
use Rattle.std.proofs.Common.{◌≡◌, false, List, ℕ, codes, refl}
use Rattle.std.specs.Str.{bytes_eq}
use Rattle.std.proofs.lemmas.Bool.{false_from_ne_true}
use Rattle.std.proofs.lemmas.Slice.Eq.{bytes_eq-Decides}
use Rattle.ssim_command_line.proofs.command_name.command_named.Goals as goal

-- a name that differs from a word is not found by it
other : (name word : List ℕ) → (name ≡ word → ⊥) → bytes_eq name word ≡ false
other name word differs =
    false_from_ne_true (bytes_eq name word) (λ same. differs ((bytes_eq-Decides name word).0 same))

pub returns-in_default-clause-other : goal.returns-in_default-clause-other
returns-in_default-clause-other c = λ rows values.
    let name = c.args.name.now in
    rw (
      other name (codes "check") c.in_default.not-check,
      other name (codes "problems") c.in_default.not-problems,
      other name (codes "tidy") c.in_default.not-tidy,
      other name (codes "start") c.in_default.not-start,
      other name (codes "take") c.in_default.not-take,
      other name (codes "receive") c.in_default.not-receive,
      other name (codes "merge") c.in_default.not-merge,
      other name (codes "carry") c.in_default.not-carry,
      other name (codes "texts") c.in_default.not-texts,
      other name (codes "withdraw") c.in_default.not-withdraw,
      other name (codes "show") c.in_default.not-show,
      other name (codes "history") c.in_default.not-history,
      other name (codes "blame") c.in_default.not-blame,
      other name (codes "list") c.in_default.not-list,
      other name (codes "board") c.in_default.not-board,
      other name (codes "calendar") c.in_default.not-calendar,
      other name (codes "info") c.in_default.not-info,
      other name (codes "stations") c.in_default.not-stations,
      other name (codes "sql") c.in_default.not-sql,
      other name (codes "diff") c.in_default.not-diff,
      other name (codes "publish") c.in_default.not-publish,
      other name (codes "page") c.in_default.not-page,
      other name (codes "findings") c.in_default.not-findings,
      other name (codes "export") c.in_default.not-export,
      other name (codes "select") c.in_default.not-select,
      other name (codes "convert") c.in_default.not-convert,
      other name (codes "split") c.in_default.not-split,
      other name (codes "rehearse") c.in_default.not-rehearse,
      other name (codes "explain") c.in_default.not-explain,
    ) refl
