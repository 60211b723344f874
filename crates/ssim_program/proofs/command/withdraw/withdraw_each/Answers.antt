-- One more word spells a reference, or it spells none.
use Rattle.std.proofs.Common.{◌∙◌, ◌++◌, ℕ, List, [], inr, map, Some, refl, sym, ap, subst}
use Rattle.std.proofs.lemmas.Option.{slice_get-get_or, slice_get-map}
use Rattle.std.specs.Option.{option_map}
use Rattle.ssim_held.specs.Entries.{map_of}
use Rattle.ssim_text.specs.Reference.{SpellsReference}
use Rattle.ssim_base.specs.Export.{line}
use Rattle.ssim_program.specs.Withdrawing.{Withdraws}
use Rattle.ssim_program.specs.print.PrintedLine.{printed_text}
use Rattle.ssim_program.specs.declared.print.printed_line.PrintedLine.{PrintedLine}
use Rattle.ssim_words.proofs.NamedFlights.{next_word, no_word}
use Rattle.ssim_program.proofs.Withdrawing.{all_withdrawn, one_more}
use Rattle.ssim_program.proofs.command.withdraw.withdraw_each.Goals as goal

pub loop-word-init : goal.loop-word-init
loop-word-init c = record {
  withdrawn = λ after later left.
      subst (Withdraws (map (λ t. t.now) c.args.words.now) (map_of c.args.desk.now.held) after) (sym (ap (λ (xs : List ℕ). xs ++ later) c.new-lines.ensures.items)) left;
  base = refl;
}

pub loop-word-preserved : goal.loop-word-preserved
loop-word-preserved c =
    let words = c.args.words.now in let i = c.loop-word.word-index in let reference = c.in-Ok.reference in
    let so_far = map_of c.loop-word.desk.held in
    record {
      withdrawn = one_more (map (λ t. t.now) words) i _ (map_of c.args.desk.now.held) so_far (map_of c.withdraw-was_held.new.self.held) c.loop-word.lines.items c.add_line.new.lines.items reference c.withdraw-was_held.result
          (next_word (λ t. t.now) words i (record { ref_ptr = (0, 0); now = [] }) c.loop-word-test.true) c.loop-word.invariant.withdrawn
          (subst (SpellsReference reference) c.as_bytes.ensures.value c.in-Ok.ensures.ok) c.withdraw-was_held.ensures.held c.withdraw-was_held.ensures.was_held
          (c.in_ok-add_line.ensures ∙ ap (λ (p : PrintedLine). c.loop-word.lines.items ++ line (printed_text p)) c.printed.ensures);
      base = c.withdraw-was_held.ensures.base ∙ c.loop-word.invariant.base;
    }

pub returns-clause-done : goal.returns-clause-done
returns-clause-done c =
    let words = c.args.words.now in
    record {
      withdraws = all_withdrawn (map (λ t. t.now) words) c.loop-word.word-index (map_of c.args.desk.now.held) (map_of c.loop-word.desk.held) c.loop-word.lines.items
          (no_word (λ t. t.now) words c.loop-word.word-index c.loop-word-test.false) c.loop-word.invariant.withdrawn;
      base = c.loop-word.invariant.base;
    }

pub returns-in_default-clause-why : goal.returns-in_default-clause-why
returns-in_default-clause-why c =
    let words = c.args.words.now in let i = c.loop-word.word-index in
    inr (
      refl,
      (
        i,
        c.as_bytes.result.now,
        slice_get-map (λ t. t.now) words i ∙ ap (option_map (λ t. t.now)) (slice_get-get_or words i (record { ref_ptr = (0, 0); now = [] }) c.loop-word-test.true)
            ∙ ap (λ (word : List ℕ). Some word) (sym c.as_bytes.ensures.value),
        λ reference spelled. c.in_default.not-Ok reference (c.parse.ensures.only reference spelled),
      ),
    )
