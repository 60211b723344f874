-- One piece more.
use Rattle.std.proofs.Common.{◌≡◌, ◌∙◌, ◌≤◌, ◌+◌, ◌++◌, ◌∷◌, [], List, take, sym, ap, subst, arith}
use Rattle.std.specs.List.{AllByRecursion}
use Rattle.std.proofs.lemmas.List.{take_all, take_more}
use Rattle.ssim_base.specs.Export.{Piece}
use Rattle.ssim_base.specs.Timetable.{Legs}
use Rattle.ssim_board.specs.internal.DaysThere.{AreWithin, IsWithin}
use Rattle.ssim_board.proofs.DaysThere.{more_legs, more_pieces}
use Rattle.ssim_board.proofs.Lists.{every_append}
use Rattle.ssim_board.proofs.board.Board.days_of_pieces.Goals as goal

pub loop-piece-preserved : goal.loop-piece-preserved
loop-piece-preserved c =
    let board = c.args.self.now in
    let pieces = c.args.pieces.now in
    let i = c.loop-piece.piece-index in
    let piece = c.piece-item.result in
    let days = c.max-days.result in
    let more : take (i + 1) pieces ≡ take i pieces ++ piece ∷ [] =
    take_more pieces i piece c.loop-piece-test.true
    ∙ ap (λ (one : Piece). take i pieces ++ one ∷ []) (sym c.piece-item.is) in
    let some : c.days_of_legs.result ≤ days = omega (arith, c.max-days.ensures) in
    let old : c.loop-piece.days ≤ days = omega (arith, c.max-days.ensures) in
    let own = more_legs board c.days_of_legs.result days piece.1 some
    (subst (λ (xs : Legs). AllByRecursion (IsWithin board c.days_of_legs.result) xs) c.legs.ensures
    c.days_of_legs.ensures.within) in
    record {
      bound = omega (
        arith,
        c.max-days.ensures,
        c.days_of_legs.ensures.bound,
        c.loop-piece.invariant.bound,
      );
      within = subst (λ (xs : List Piece). AreWithin board days xs) (sym more)
          (every_append (λ one. AllByRecursion (IsWithin board days) one.1) (take i pieces) (piece ∷ [])
          (more_pieces board c.loop-piece.days days (take i pieces) old c.loop-piece.invariant.within)
          (own, tt));
    }

pub returns-clause-within : goal.returns-clause-within
returns-clause-within c =
    subst (λ (xs : List Piece). AreWithin c.args.self.now c.loop-piece.days xs)
    (take_all c.loop-piece.piece-index c.args.pieces.now c.loop-piece-test.false)
    c.loop-piece.invariant.within
