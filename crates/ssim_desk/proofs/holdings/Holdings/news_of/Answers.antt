-- From the first message that is new on, the messages of both are put together.
use Rattle.std.proofs.Common.{List, All, drop, subst, arith}
use Rattle.std.proofs.lemmas.Grind.{common_steps}
use Rattle.ssim_held.specs.Entries.{AreEntries, DeskSeen, Entry}
use Rattle.ssim_held.specs.clauses.Ordered.{IsFirstNew, IsMerged}
use Rattle.ssim_held.proofs.Unions.{IsHeldIn}
use Rattle.ssim_desk.proofs.Brought.{brings, united_none}
use Rattle.ssim_desk.proofs.holdings.Holdings.news_of.Goals as goal

pub returns-in-None : goal.returns-in-None
returns-in-None c =
    let mine = c.args.self.now in let theirs = c.args.other.now in
    let kept = subst (λ (d : DeskSeen). AreEntries d.base.records d.held) c.self.view_is c.self.invariant in
    let others = subst (λ (d : DeskSeen). AreEntries d.base.records d.held) c.other.view_is c.other.invariant in
    let there = subst (λ (es : List Entry). All (IsHeldIn es) c.other.inside.held.items) c.deref.ensures.value (subst (λ (es : List Entry). All (IsHeldIn c.deref.result.now) es) c.deref-2.ensures.value c.in-None.ensures.none) in
    let held = subst (λ (d : DeskSeen). All (IsHeldIn d.held) theirs.held) c.self.view_is (subst (λ (d : DeskSeen). All (IsHeldIn c.self.inside.held.items) d.held) c.other.view_is there) in
    united_none mine theirs c.requires.base c.requires.agree kept others held

pub returns-in_ok-rest-in-Some : goal.returns-in_ok-rest-in-Some
returns-in_ok-rest-in-Some c =
    let mine = c.args.self.now in let theirs = c.args.other.now in let place = c.in-Some.place in let at = c.in-Some.at in
    let rest = c.in_ok-rest-in-Some.rest.items in
    let one = c.self.inside.held.items in let two = c.other.inside.held.items in
    let kept = subst (λ (d : DeskSeen). AreEntries d.base.records d.held) c.self.view_is c.self.invariant in
    let others = subst (λ (d : DeskSeen). AreEntries d.base.records d.held) c.other.view_is c.other.invariant in
    let new = subst (λ (es : List Entry). IsFirstNew es two place at) c.deref.ensures.value (subst (λ (es : List Entry). IsFirstNew c.deref.result.now es place at) c.deref-2.ensures.value c.in-Some.ensures.some) in
    let first = subst (λ (d : DeskSeen). IsFirstNew d.held theirs.held place at) c.self.view_is (subst (λ (d : DeskSeen). IsFirstNew one d.held place at) c.other.view_is new) in
    let m : IsMerged (drop at one) (drop place two) rest = grind (arith, common_steps) in
    let both = subst (λ (d : DeskSeen). IsMerged (drop at d.held) (drop place theirs.held) rest) c.self.view_is (subst (λ (d : DeskSeen). IsMerged (drop at one) (drop place d.held) rest) c.other.view_is m) in
    brings mine theirs c.requires.base c.requires.agree kept others place at first rest both
