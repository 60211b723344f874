-- An empty file, or a desk file, or bytes that are no desk file.
use Rattle.std.proofs.Common.{◌≡◌, ◌≢◌, ◌∙◌, ℕ, false, length, true≢false, [], ◌∷◌, Some, sym, ap, refl}
use Rattle.std.specs.Prelude.{◌==◌}
use Rattle.ssim_program.proofs.MergingSince.{alone, older_refused}
use Rattle.ssim_program.proofs.command.merge_since.open_older.Goals as goal

not_zero : (n : ℕ) → (n == 0) ≡ false → n ≡ 0 → ⊥
not_zero n some none = true≢false (sym (ap (λ (k : ℕ). k == 0) none) ∙ some)

pub returns-clause-answer : goal.returns-clause-answer
returns-clause-answer g c =
    let bytes = c.in_ok-bytes.bytes.items in let name = c.args.name.now in
    older_refused (g.S.Store.files c.args.store.now) name bytes c.in-Err.refusal
    c.in_ok-bytes.ensures.within c.in_ok-bytes.ensures.bytes
    (λ empty. not_zero c.in_ok-bytes.bytes.len (sym c.if-is_empty.ensures)
    (sym c.as_slice.ensures.len ∙ ap length (c.as_slice.ensures.value ∙ empty)))
    (c.in-Err.ensures.refused (Some ((name, bytes) ∷ []))
    (bytes, alone name bytes, ap Some c.as_slice.ensures.value) (λ other. refl))
