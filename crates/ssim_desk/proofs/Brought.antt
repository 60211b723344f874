-- What a merge brings, and what a desk is after it.
use Rattle.std.proofs.Common.{◌≡◌, ℕ, List, drop, All, sym, subst}
use Rattle.ssim_base.specs.BaseSeen.{BaseSeen}
use Rattle.ssim_held.specs.Held.{Agree}
use Rattle.ssim_held.specs.Entries.{AreEntries, DeskSeen, Entry, map_of, state_of}
use Rattle.ssim_held.specs.clauses.Ordered.{IsFirstNew, IsMerged}
use Rattle.ssim_held.proofs.Entries.{not_held}
use Rattle.ssim_held.proofs.Unions.{IsHeldIn, union_entries, union_first, union_held, union_is}
use Rattle.ssim_desk.specs.clauses.Desk.{IsReplayed}
use Rattle.ssim_desk.specs.Steps.{IsUnion}
use Rattle.ssim_desk.specs.internal.Changes.{MergeBrings, IsReplaced}
use Rattle.ssim_desk.proofs.Changes.{replayed}

module _ (old other : DeskSeen) (base : old.base ≡ other.base) (agree : Agree (map_of old.held) (map_of other.held)) (mine : AreEntries old.base.records old.held) (theirs : AreEntries other.base.records other.held) where
  pub united_none : All (IsHeldIn old.held) other.held → IsUnion (state_of old) (state_of other) (map_of old.held)
  united_none h = record { base = base; agree = agree; all = union_held old.held other.held mine.rising theirs.rising h }

  pub brings : (place at : ℕ) → IsFirstNew old.held other.held place at → (rest : List Entry) → IsMerged (drop at old.held) (drop place other.held) rest → MergeBrings old other at rest
  brings place at first rest m =
      let head = union_first old.held other.held place at mine.rising theirs.rising first rest m in
      let kept = subst (λ (b : BaseSeen). let records = b.records in AreEntries records other.held) (sym base) theirs in
      record {
        within = first.gap.within;
        entries = union_entries old.base.records old.held other.held place at mine kept first rest m;
        union = record { base = base; agree = agree; all = union_is old.held other.held place at mine.rising theirs.rising first rest m };
        first = first.first;
        others = head.0;
        begins = head.1;
        is_new = not_held old.held at first.first.reference mine.rising first.gap;
      }
