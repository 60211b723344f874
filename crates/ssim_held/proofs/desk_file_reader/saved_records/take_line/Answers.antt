-- The next byte is one more of the line.
use Rattle.std.proofs.Common.{rules, ◌≡◌, ◌++◌, ◌∙◌, ◌∷◌, [], Bool, List, ℕ, Ok, true, get_or, take, ap, sym}
use Rattle.std.specs.Prelude.{if◌then◌else◌}
use Rattle.std.specs.Result.{is_ok}
use Rattle.ssim_records.proofs.InputBuffers.{gives_then}
use Rattle.ssim_held.proofs.Inputs.{one_byte, uses_more}
use Rattle.ssim_held.proofs.NextLines.{no_end_more}
use Rattle.ssim_held.proofs.desk_file_reader.saved_records.take_line.Goals as goal

pub loop-line-preserved : goal.loop-line-preserved
loop-line-preserved g c =
    let i = c.loop-line.invariant in
    let enough : c.has.result ≡ Ok true = search rules in
    let held = c.has.new.self.held in
    let line = c.loop-line.line.items in
    let byte = get_or c.first.result.now 0 0 in
    let ok : is_ok c.push.result ≡ true = rw c.if-is_err.false at c.is_err.ensures.negation in
    let items : c.push.new.self.items ≡ line ++ byte ∷ [] = c.push.ensures.items ∙ ap (λ (t : Bool). if t then line ++ byte ∷ [] else line) ok in
    let next : take 1 held ≡ byte ∷ [] = one_byte held (c.has.ensures.held enough) ∙ ap (λ (bs : List ℕ). get_or bs 0 0 ∷ []) (sym c.first.ensures) in
    record {
      no_end = rw items (no_end_more line byte i.no_end c.if-byte-eq10.false);
      limit = rw c.skip.ensures (c.has.ensures.limit ∙ i.limit);
      uses = rw (c.skip.ensures, items) (uses_more line (byte ∷ []) 1 c.args.input.now c.loop-line.input c.has.new.self _ _ _ i.uses c.in_ok-has.ensures.uses next);
      gives = rw c.skip.ensures (gives_then _ _ _ _ _ _ i.gives c.in_ok-has.ensures.gives);
    }
