-- What a desk is: a base, and messages by reference. The union of two maps of messages, and the
-- keys under which they differ.
use Rattle.std.specs.Prelude.{◌≡◌, ◌≢◌, ◌++◌, ℕ, List, [], Some}
use Rattle.std.specs.Cmp.Lexicographic.{slice_cmp}
use Rattle.std.specs.FinMap.{FinMap, empty, entries, from_entries, get}
use Rattle.std.specs.{Ordering.nat_cmp, declared.cmp.Ordering.Ordering}
use Rattle.std.specs.declared.cmp.Ordering.TheVariants.{Less}
use Rattle.ssim_base.specs.BaseSeen.{BaseSeen, WasRead}
use Rattle.ssim_base.specs.Resolve.{ResolvesIn}
use Rattle.ssim_base.specs.declared.resolution.ResolvedText.{ResolvedText}
use Rattle.ssim_text.specs.Message.{MessageValue}
use Rattle.ssim_text.specs.Reference.{reference_numbers}
use Rattle.ssim_text.specs.Spelling.{SpellsMessage}
use Rattle.ssim_text.specs.declared.reference.Reference.{Reference}

-- references are compared by date, group serial, message serial, kind and originator
abbrev pub reference_cmp : Reference → Reference → Ordering
reference_cmp a b = slice_cmp nat_cmp (reference_numbers a) (reference_numbers b)

-- messages by reference
abbrev pub HeldMessages : Type 0
HeldMessages = FinMap reference_cmp MessageValue

-- the state of a desk: the base that it began from, and the messages that it holds
pub record DeskState : Type 0 where
  pub base : BaseSeen
  pub held : HeldMessages

-- the message is held under the reference
abbrev pub Holds : DeskState → Reference → MessageValue → Type 0
Holds desk reference message = get desk.held reference ≡ Some message

-- the text spells the message, and the base gives it this reference
pub record Says (base : BaseSeen) (text : List ℕ) (reference : Reference)
    (message : MessageValue) : Type 0 where
  pub spelt : SpellsMessage message text
  pub resolved : ResolvedText
  pub resolves : ResolvesIn base.records message resolved
  pub referred : resolved.reference ≡ reference

-- the base gives the message this reference
pub record HasReference (base : BaseSeen) (reference : Reference)
    (message : MessageValue) : Type 0 where
  pub resolved : ResolvedText
  pub resolves : ResolvesIn base.records message resolved
  pub referred : resolved.reference ≡ reference

-- a desk: its base was read, and the base gives each message that it holds the reference under
-- which it is held
pub record IsDesk (desk : DeskState) : Type 0 where
  pub base : WasRead desk.base.records
  pub each : (reference : Reference) (message : MessageValue) → Holds desk reference message
      → HasReference desk.base reference message

-- the value of a look-up of a desk by a number that no desk has
abbrev pub no_desk : DeskState
no_desk = record { base = record { records = []; rows = [] }; held = empty }

module _ {K X : Type 0} {R : K → K → Ordering} where
  -- the union of two maps: under a key of both maps it has the first map's value
  unfoldable pub union : FinMap R X → FinMap R X → FinMap R X
  union m n = from_entries (entries m ++ entries n)

  -- the two maps have different values under no key
  abbrev pub Agree : FinMap R X → FinMap R X → Type 0
  Agree m n = (q : K) (a b : X) → get m q ≡ Some a → get n q ≡ Some b → a ≡ b

  -- the two maps have different values under the key
  pub record DifferAt (m n : FinMap R X) (q : K) : Type 0 where
    pub one : X
    pub other : X
    pub in_one : get m q ≡ Some one
    pub in_other : get n q ≡ Some other
    pub apart : one ≢ other

  -- no key before q has different values
  pub record IsLeastConflict (m n : FinMap R X) (q : K) : Type 0 where
    pub differ : DifferAt m n q
    pub least : (p : K) → DifferAt m n p → R p q ≢ Less
