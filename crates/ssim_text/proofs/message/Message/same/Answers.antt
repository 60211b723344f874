-- Both texts are canonical, so messages are equal if their texts are.
use Rattle.std.proofs.Common.{sym, ◌∙◌}
use Rattle.std.specs.Str.{bytes_eq}
use Rattle.std.proofs.lemmas.Bool.Decides.{Decides-at, Decides-like}
use Rattle.std.proofs.lemmas.Slice.Eq.{bytes_eq-Decides}
use Rattle.ssim_text.specs.Canonical.{canonical}
use Rattle.ssim_text.proofs.ReadsBack.{equal_where_written_equal}
use Rattle.ssim_text.proofs.message.Message.same.Goals as goal

pub returns : goal.returns
returns c =
    let a = c.self.inside.content in
    let b = c.other.inside.content in
    let mine = c.as_slice.result.now in
    let theirs = c.as_slice-2.result.now in
    let mine_is = c.as_slice.ensures.value ∙ c.self.invariant.0 in
    let theirs_is = c.as_slice-2.ensures.value ∙ c.other.invariant.0 in
    let exact = equal_where_written_equal a b (canonical a) (canonical b) c.self.invariant.1 c.other.invariant.1 in
    Decides-at c.eq.result (bytes_eq mine theirs) c.eq.ensures
    (Decides-like (bytes_eq mine theirs)
    (λ e. sym c.self.view_is ∙ exact.1 (sym mine_is ∙ e ∙ theirs_is) ∙ c.other.view_is)
    (λ e. mine_is ∙ exact.0 (c.self.view_is ∙ e ∙ sym c.other.view_is) ∙ sym theirs_is)
    (bytes_eq-Decides mine theirs))
