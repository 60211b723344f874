-- Text by text, as far as the number of texts.
use Rattle.std.proofs.Common.{rules, ◌≡◌, ◌++◌, ◌∷◌, [], ◌<◌, ◌^◌, ℕ, List, Some, Err, length, sym, subst, arith}
use Rattle.std.specs.List.{flat_map}
use Rattle.ssim_held.specs.File.{text_element, texts_part}
use Rattle.ssim_held.specs.Entries.{Entry}
use Rattle.ssim_held.specs.internal.DeskFileReader.{AreHeld, IsNextText}
use Rattle.ssim_held.proofs.PartFaults.{handed_on}
use Rattle.ssim_held.proofs.SavedParts.{Goes, all_read, are_held, goes_more, next_of, not_all, texts_found, texts_split}
use Rattle.ssim_held.proofs.desk_file_reader.saved_texts.read_texts.Goals as goal

pub loop-alloc-preserved : goal.loop-alloc-preserved
loop-alloc-preserved c =
    let records = c.args.data_set.now in
    let held = c.loop-alloc.held.items in
    let pushed : c.push.new.self.items ≡ held ++ c.in_ok-next.next ∷ [] = c.in_ok-push.ensures.items in
    let size : c.len.result ≡ length held = omega (arith, c.len.ensures, c.loop-alloc.held.ok.0) in
    let more : c.in-Some.count ≡ Some (length held) → ⊥ = not_all c.in-Some.count c.len.result (length held) c.ne.result c.ne.ensures c.loop-alloc-test.true size in
    subst (λ (es : List Entry). Goes c.args.version records c.in-Some.rest.now c.in-Some.count es c.in_ok-next.after.now) (sym pushed)
    (goes_more c.args.version records c.in-Some.rest.now c.in-Some.count held c.in_ok-next.next c.loop-alloc.rest.now c.in_ok-next.after.now c.loop-alloc.invariant more
    (subst (λ (es : List Entry). IsNextText c.args.version records es c.in_ok-next.next) c.deref.ensures.value c.in_ok-next.ensures.ok.0) c.in_ok-next.ensures.ok.1)

pub returns-in_err-next-clause-err : goal.returns-in_err-next-clause-err
returns-in_err-next-clause-err c =
    let records = c.args.data_set.now in
    let held = c.loop-alloc.held.items in
    let size : c.len.result ≡ length held = omega (arith, c.len.ensures, c.loop-alloc.held.ok.0) in
    let more : c.in-Some.count ≡ Some (length held) → ⊥ = not_all c.in-Some.count c.len.result (length held) c.ne.result c.ne.ensures c.loop-alloc-test.true size in
    let k : c.from_residual.result ≡ Err c.in_err-next.field-0.0 = search rules in
    handed_on c.from_residual.result c.in_err-next.field-0.0
    ((entries : List Entry) (later : List ℕ) → length entries < 2 ^ 64 → AreHeld c.args.version records entries → c.args.bytes.now ≡ texts_part entries ++ later → ⊥) k
    (λ invalid entries later low are e.
    let line = c.in-Some.ensures.only (length entries) (flat_map text_element entries ++ later) low (texts_split c.args.bytes.now later entries e) in
    let n = next_of c.equal_where_written_equal.ensures c.args.version records c.in-Some.rest.now later c.in-Some.count held entries c.loop-alloc.rest.now c.loop-alloc.invariant more are line.0 line.1 in
    c.in_err-next.ensures.err invalid n.next n.later (subst (λ (es : List Entry). IsNextText c.args.version records es n.next) (sym c.deref.ensures.value) n.is) n.read)

pub returns-clause-ok : goal.returns-clause-ok
returns-clause-ok c =
    let records = c.args.data_set.now in
    let held = c.loop-alloc.held.items in
    let size : c.len.result ≡ length held = omega (arith, c.len.ensures, c.loop-alloc.held.ok.0) in
    let whole : c.in-Some.count ≡ Some (length held) = all_read c.in-Some.count c.len.result (length held) c.ne.result c.ne.ensures c.loop-alloc-test.false size in (
      are_held c.args.version records held c.loop-alloc.invariant.rising c.loop-alloc.invariant.each,
      texts_found c.args.version records c.args.bytes.now c.in-Some.rest.now c.in-Some.count held c.loop-alloc.rest.now c.in-Some.ensures.some whole c.loop-alloc.invariant,
    )
