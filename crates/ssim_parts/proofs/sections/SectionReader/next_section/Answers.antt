-- The blocks of a section are read, and what comes after them; or memory runs out, or the reader
-- fails.
use Rattle.std.proofs.Common.{rules, ◌≡◌, ◌∙◌, ◌<◌, [], ◌∷◌, Option, Some, None, Err, inl, refl, sym, subst}
use Rattle.std.proofs.Common.{true≢false}
use Rattle.ssim_records.specs.declared.fault.RecordFault.TheVariants.{Short}
use Rattle.ssim_base.specs.Base.{Broken, Done}
use Rattle.ssim_base.specs.declared.fault.BaseFault.TheVariants as fault
use Rattle.ssim_parts.specs.Sections.{Before, Block}
use Rattle.ssim_parts.specs.clauses.Sections.{GivesSection, SectionsState, most_left}
use Rattle.ssim_parts.specs.declared.sections.After.{After}
use Rattle.ssim_parts.specs.internal.SectionBlocks.{HasRead}
use Rattle.ssim_parts.specs.internal.SectionSteps.{BeginsLater, Follows}
use Rattle.ssim_parts.proofs.NextSections.{before-after, fewer-next, fewer-none, first-state}
use Rattle.ssim_parts.proofs.NextSections.{gives-last, gives-one, no-rest, rest-after}
use Rattle.ssim_parts.proofs.NextSections.{heading_of}
use Rattle.ssim_parts.proofs.NextSections.{no-memory, open-first, own-refused}
use Rattle.ssim_parts.proofs.sections.SectionReader.next_section.Goals as goal

-- ---- memory ran out

pub returns-in_err-heading-clause-err : goal.returns-in_err-heading-clause-err
returns-in_err-heading-clause-err g c known known' knows =
    let inside = c.self.inside in
    let first = c.in-Some.first in
    let before = heading_of inside.number inside.header inside.is_first inside.serial in
    let next-is : inside.next ≡ Some first = sym c.take.ensures.value ∙ c.in-Some.is in
    let open' = open-first inside.next inside.blocks first next-is c.self.invariant.0 in
    let state = first-state c.args.self.now before inside.next inside.blocks first c.self.view_is
    next-is in
    let is : c.from_residual.result ≡ Err fault.Memory = search rules in
    rw is
    (no-memory c.frames_are_one.ensures.exist c.args.self.now before first inside.blocks known
    (g.R.Source.state c.args.reader.now) (g.R.Source.state c.args.reader.now) state open'.0)

pub returns-in_err-take-clause-err : goal.returns-in_err-take-clause-err
returns-in_err-take-clause-err g c known known' knows =
    let inside = c.self.inside in
    let first = c.in-Some.first in
    let before = heading_of inside.number inside.header inside.is_first inside.serial in
    let next-is : inside.next ≡ Some first = sym c.take.ensures.value ∙ c.in-Some.is in
    let open' = open-first inside.next inside.blocks first next-is c.self.invariant.0 in
    let state = first-state c.args.self.now before inside.next inside.blocks first c.self.view_is
    next-is in
    let is : c.from_residual-in_err-take.result ≡ Err fault.Memory = search rules in
    rw is
    (no-memory c.frames_are_one.ensures.exist c.args.self.now before first inside.blocks known
    (g.R.Source.state c.args.reader.now) (g.R.Source.state c.args.reader.now) state open'.0)

pub returns-in_err-section-in-Section-clause-err : goal.returns-in_err-section-in-Section-clause-err
returns-in_err-section-in-Section-clause-err g c known known' knows =
    let inside = c.self.inside in
    let first = c.in-Some.first in
    let before = heading_of inside.number inside.header inside.is_first inside.serial in
    let next-is : inside.next ≡ Some first = sym c.take.ensures.value ∙ c.in-Some.is in
    let open' = open-first inside.next inside.blocks first next-is c.self.invariant.0 in
    let state = first-state c.args.self.now before inside.next inside.blocks first c.self.view_is
    next-is in
    let is : c.from_residual-in_err-section-in-Section.result ≡ Err fault.Memory = search rules in
    rw is
    (no-memory c.frames_are_one.ensures.exist c.args.self.now before first inside.blocks known
    (g.R.Source.state c.args.reader.now) (g.R.Source.state c.read_own.new.reader) state
    open'.0)

pub returns-in_err-section-in-End-clause-err : goal.returns-in_err-section-in-End-clause-err
returns-in_err-section-in-End-clause-err g c known known' knows =
    let inside = c.self.inside in
    let first = c.in-Some.first in
    let before = heading_of inside.number inside.header inside.is_first inside.serial in
    let next-is : inside.next ≡ Some first = sym c.take.ensures.value ∙ c.in-Some.is in
    let open' = open-first inside.next inside.blocks first next-is c.self.invariant.0 in
    let state = first-state c.args.self.now before inside.next inside.blocks first c.self.view_is
    next-is in
    let is : c.from_residual-in_err-section-in-End.result ≡ Err fault.Memory = search rules in
    rw is
    (no-memory c.frames_are_one.ensures.exist c.args.self.now before first inside.blocks known
    (g.R.Source.state c.args.reader.now) (g.R.Source.state c.read_own.new.reader) state
    open'.0)

-- ---- the section is not read to its end

pub returns-in_err-after-clause-err : goal.returns-in_err-after-clause-err
returns-in_err-after-clause-err g c known known' knows =
    let inside = c.self.inside in
    let first = c.in-Some.first in
    let before = heading_of inside.number inside.header inside.is_first inside.serial in
    let next-is : inside.next ≡ Some first = sym c.take.ensures.value ∙ c.in-Some.is in
    let open' = open-first inside.next inside.blocks first next-is c.self.invariant.0 in
    let state = first-state c.args.self.now before inside.next inside.blocks first c.self.view_is
    next-is in
    let why = c.in_err-after.field-0.0 in
    let is : c.from_residual-in_err-after.result ≡ Err why = search rules in
    rw is
    (own-refused c.frames_are_one.ensures.exist c.args.self.now before first inside.blocks known
    (g.R.Source.state c.args.reader.now) (g.R.Source.state c.read_own.new.reader) why state
    open'.0
    (c.in_err-after.ensures.err known known' knows))

-- ---- its blocks were read

pub finish-requires : goal.finish-requires
finish-requires g c =
    let inside = c.self.inside in
    let first = c.in-Some.first in
    let before = heading_of inside.number inside.header inside.is_first inside.serial in
    let next-is : inside.next ≡ Some first = sym c.take.ensures.value ∙ c.in-Some.is in
    let open' = open-first inside.next inside.blocks first next-is c.self.invariant.0 in
    let state = first-state c.args.self.now before inside.next inside.blocks first c.self.view_is
    next-is in
    let heading = c.in_ok-heading.ensures in
    let none : HasRead before [] c.new-section.result = c.new-section.ensures.read before heading.built
    heading.notes heading.previous refl in
    let one : HasRead before (first ∷ []) c.take-2.new.self = c.in_ok-take.ensures.read before [] none
    in
    let own = c.in_ok-after.ensures.ok in
    let all : HasRead before (first ∷ own.own) c.read_own.new.section = own.read before (first ∷ [])
    one in
    (before, first ∷ own.own, all)

pub finish-requires-in-End : goal.finish-requires-in-End
finish-requires-in-End g c =
    let inside = c.self.inside in
    let first = c.in-Some.first in
    let before = heading_of inside.number inside.header inside.is_first inside.serial in
    let next-is : inside.next ≡ Some first = sym c.take.ensures.value ∙ c.in-Some.is in
    let open' = open-first inside.next inside.blocks first next-is c.self.invariant.0 in
    let state = first-state c.args.self.now before inside.next inside.blocks first c.self.view_is
    next-is in
    let heading = c.in_ok-heading.ensures in
    let none : HasRead before [] c.new-section.result = c.new-section.ensures.read before heading.built
    heading.notes heading.previous refl in
    let one : HasRead before (first ∷ []) c.take-2.new.self = c.in_ok-take.ensures.read before [] none
    in
    let own = c.in_ok-after.ensures.ok in
    let all : HasRead before (first ∷ own.own) c.read_own.new.section = own.read before (first ∷ [])
    one in
    (before, first ∷ own.own, all)

pub invariant_of-self-in_err-section-in-Section : goal.invariant_of-self-in_err-section-in-Section
invariant_of-self-in_err-section-in-Section g c =
    let own = c.in_ok-after.ensures.ok in
    let follows = subst
    (λ (a : After). Follows c.self.inside.blocks None c.read_own.new.blocks None own.own a)
    c.in-Section.is
    (own.follows None None (inl (refl, refl))) in
    (follows.0, λ first. absurd (true≢false (sym first)))

pub invariant_of-self-in-Section : goal.invariant_of-self-in-Section
invariant_of-self-in-Section g c =
    let own = c.in_ok-after.ensures.ok in
    let follows = subst
    (λ (a : After). Follows c.self.inside.blocks None c.read_own.new.blocks None own.own a)
    c.in-Section.is
    (own.follows None None (inl (refl, refl))) in
    (follows.0, λ first. absurd (true≢false (sym first)))

-- ---- a section

pub returns-in_ok-section-in-Section-clause-ok : goal.returns-in_ok-section-in-Section-clause-ok
returns-in_ok-section-in-Section-clause-ok g c known known' knows =
    let inside = c.self.inside in
    let first = c.in-Some.first in
    let before = heading_of inside.number inside.header inside.is_first inside.serial in
    let next-is : inside.next ≡ Some first = sym c.take.ensures.value ∙ c.in-Some.is in
    let open' = open-first inside.next inside.blocks first next-is c.self.invariant.0 in
    let state = first-state c.args.self.now before inside.next inside.blocks first c.self.view_is
    next-is in
    let heading = c.in_ok-heading.ensures in
    let none : HasRead before [] c.new-section.result = c.new-section.ensures.read before heading.built
    heading.notes heading.previous refl in
    let one : HasRead before (first ∷ []) c.take-2.new.self = c.in_ok-take.ensures.read before [] none
    in
    let own = c.in_ok-after.ensures.ok in
    let all : HasRead before (first ∷ own.own) c.read_own.new.section = own.read before (first ∷ [])
    one in
    let after = before-after before (inside.number, inside.header) c.read_own.new.section.serial
    all.items refl all.has.serial in
    let second : Block = (c.in-Section.number, c.in-Section.block) in
    let section = c.in_ok-section-in-Section.section in
    let follows = subst
    (λ (a : After). Follows inside.blocks known c.read_own.new.blocks known' own.own a)
    c.in-Section.is
    (own.follows known known' knows) in
    subst (λ (s : SectionsState). GivesSection s known (record {
      before = record {
        header = (inside.number, inside.header);
        notes = [];
        serial = c.read_own.new.section.serial;
      };
      next = Some second;
      reading = c.read_own.new.blocks;
    }) known' (Some section)) state
    (gives-one before _ first second inside.blocks c.read_own.new.blocks known known' own.own all.items
    section open'.0 follows.0.0
    own.none follows.1
    (c.in_ok-section-in-Section.ensures before (record { first = first; later = own.own }) all)
    after)

pub returns-in_ok-section-in-End-clause-ok : goal.returns-in_ok-section-in-End-clause-ok
returns-in_ok-section-in-End-clause-ok g c known known' knows =
    let inside = c.self.inside in
    let first = c.in-Some.first in
    let before = heading_of inside.number inside.header inside.is_first inside.serial in
    let next-is : inside.next ≡ Some first = sym c.take.ensures.value ∙ c.in-Some.is in
    let open' = open-first inside.next inside.blocks first next-is c.self.invariant.0 in
    let state = first-state c.args.self.now before inside.next inside.blocks first c.self.view_is
    next-is in
    let heading = c.in_ok-heading.ensures in
    let none : HasRead before [] c.new-section.result = c.new-section.ensures.read before heading.built
    heading.notes heading.previous refl in
    let one : HasRead before (first ∷ []) c.take-2.new.self = c.in_ok-take.ensures.read before [] none
    in
    let own = c.in_ok-after.ensures.ok in
    let all : HasRead before (first ∷ own.own) c.read_own.new.section = own.read before (first ∷ [])
    one in
    let after = before-after before (inside.number, inside.header) c.read_own.new.section.serial
    all.items refl all.has.serial in
    let section = c.in_ok-section-in-End.section in
    let follows = subst
    (λ (a : After). Follows inside.blocks known c.read_own.new.blocks known' own.own a) c.in-End.is
    (own.follows known known' knows) in
    subst (λ (s : SectionsState). GivesSection s known (record {
      before = record {
        header = (inside.number, inside.header);
        notes = [];
        serial = c.read_own.new.section.serial;
      };
      next = c.take.new.self;
      reading = c.read_own.new.blocks;
    }) known' (Some section)) state
    (subst
    (λ (n : Option Block). GivesSection
    (record { before = before; next = Some first; reading = inside.blocks }) known (record {
      before = record {
        header = (inside.number, inside.header);
        notes = [];
        serial = c.read_own.new.section.serial;
      };
      next = n;
      reading = c.read_own.new.blocks;
    }) known' (Some section)) (sym c.take.ensures.after)
    (gives-last before _ first inside.blocks c.read_own.new.blocks known known' own.own
    (Done c.in-End.number) all.items section open'.0 own.none
    follows.0 follows.1
    (c.in_ok-section-in-End.ensures before (record { first = first; later = own.own }) all) after))

pub returns-in-Cut-clause-ok : goal.returns-in-Cut-clause-ok
returns-in-Cut-clause-ok g c known known' knows =
    let inside = c.self.inside in
    let first = c.in-Some.first in
    let before = heading_of inside.number inside.header inside.is_first inside.serial in
    let next-is : inside.next ≡ Some first = sym c.take.ensures.value ∙ c.in-Some.is in
    let open' = open-first inside.next inside.blocks first next-is c.self.invariant.0 in
    let state = first-state c.args.self.now before inside.next inside.blocks first c.self.view_is
    next-is in
    let heading = c.in_ok-heading.ensures in
    let none : HasRead before [] c.new-section.result = c.new-section.ensures.read before heading.built
    heading.notes heading.previous refl in
    let one : HasRead before (first ∷ []) c.take-2.new.self = c.in_ok-take.ensures.read before [] none
    in
    let own = c.in_ok-after.ensures.ok in
    let all : HasRead before (first ∷ own.own) c.read_own.new.section = own.read before (first ∷ [])
    one in
    let after = before-after before (inside.number, inside.header) c.read_own.new.section.serial
    all.items refl all.has.serial in
    let section = c.cut_off.result in
    let follows = subst
    (λ (a : After). Follows inside.blocks known c.read_own.new.blocks known' own.own a) c.in-Cut.is
    (own.follows known known' knows) in
    subst (λ (s : SectionsState). GivesSection s known (record {
      before = record {
        header = (inside.number, inside.header);
        notes = [];
        serial = c.read_own.new.section.serial;
      };
      next = c.take.new.self;
      reading = c.read_own.new.blocks;
    }) known' (Some section)) state
    (subst
    (λ (n : Option Block). GivesSection
    (record { before = before; next = Some first; reading = inside.blocks }) known (record {
      before = record {
        header = (inside.number, inside.header);
        notes = [];
        serial = c.read_own.new.section.serial;
      };
      next = n;
      reading = c.read_own.new.blocks;
    }) known' (Some section)) (sym c.take.ensures.after)
    (gives-last before _ first inside.blocks c.read_own.new.blocks known known' own.own
    (Broken (Short c.in-Cut.number)) all.items section open'.0 own.none
    follows.0 follows.1 (c.cut_off.ensures before (record { first = first; later = own.own }) all)
    after))

-- ---- fewer sections are left

pub returns-in_ok-section-in-Section-clause-fewer : goal.returns-in_ok-section-in-Section-clause-fewer
returns-in_ok-section-in-Section-clause-fewer g c =
    let inside = c.self.inside in
    let first = c.in-Some.first in
    let before = heading_of inside.number inside.header inside.is_first inside.serial in
    let after : Before = record {
      header = (inside.number, inside.header);
      notes = [];
      serial = c.read_own.new.section.serial;
    } in
    let second : Block = (c.in-Section.number, c.in-Section.block) in
    let next-is : inside.next ≡ Some first = sym c.take.ensures.value ∙ c.in-Some.is in
    let state = first-state c.args.self.now before inside.next inside.blocks first c.self.view_is
    next-is in
    let later = subst (λ (a : After). BeginsLater inside.blocks c.read_own.new.blocks a) c.in-Section.is
    c.in_ok-after.ensures.ok.later in
    subst (λ (s : SectionsState). most_left
    (record { before = after; next = Some second; reading = c.read_own.new.blocks }) < most_left s) state
    (fewer-next before after first second inside.blocks c.read_own.new.blocks later)

pub returns-in_ok-section-in-End-clause-fewer : goal.returns-in_ok-section-in-End-clause-fewer
returns-in_ok-section-in-End-clause-fewer g c =
    let inside = c.self.inside in
    let first = c.in-Some.first in
    let before = heading_of inside.number inside.header inside.is_first inside.serial in
    let after : Before = record {
      header = (inside.number, inside.header);
      notes = [];
      serial = c.read_own.new.section.serial;
    } in
    let next-is : inside.next ≡ Some first = sym c.take.ensures.value ∙ c.in-Some.is in
    let state = first-state c.args.self.now before inside.next inside.blocks first c.self.view_is
    next-is in
    subst (λ (s : SectionsState). most_left
    (record { before = after; next = c.take.new.self; reading = c.read_own.new.blocks }) < most_left s)
    state
    (subst (λ (n : Option Block). most_left
    (record { before = after; next = n; reading = c.read_own.new.blocks })
    < most_left (record { before = before; next = Some first; reading = inside.blocks }))
    (sym c.take.ensures.after) (fewer-none before after first inside.blocks c.read_own.new.blocks))

pub returns-in-Cut-clause-fewer : goal.returns-in-Cut-clause-fewer
returns-in-Cut-clause-fewer g c =
    let inside = c.self.inside in
    let first = c.in-Some.first in
    let before = heading_of inside.number inside.header inside.is_first inside.serial in
    let after : Before = record {
      header = (inside.number, inside.header);
      notes = [];
      serial = c.read_own.new.section.serial;
    } in
    let next-is : inside.next ≡ Some first = sym c.take.ensures.value ∙ c.in-Some.is in
    let state = first-state c.args.self.now before inside.next inside.blocks first c.self.view_is
    next-is in
    subst (λ (s : SectionsState). most_left
    (record { before = after; next = c.take.new.self; reading = c.read_own.new.blocks }) < most_left s)
    state
    (subst (λ (n : Option Block). most_left
    (record { before = after; next = n; reading = c.read_own.new.blocks })
    < most_left (record { before = before; next = Some first; reading = inside.blocks }))
    (sym c.take.ensures.after) (fewer-none before after first inside.blocks c.read_own.new.blocks))

-- ---- some sections are left

pub returns-in_ok-section-in-Section-clause-rest : goal.returns-in_ok-section-in-Section-clause-rest
returns-in_ok-section-in-Section-clause-rest g c known known' knows =
    let inside = c.self.inside in
    let after : Before = record {
      header = (inside.number, inside.header);
      notes = [];
      serial = c.read_own.new.section.serial;
    } in
    let second : Block = (c.in-Section.number, c.in-Section.block) in
    let own = c.in_ok-after.ensures.ok in
    let follows = subst
    (λ (a : After). Follows inside.blocks known c.read_own.new.blocks known' own.own a)
    c.in-Section.is
    (own.follows known known' knows) in
    rest-after c.frames_are_one.ensures.exist after second c.read_own.new.blocks known' follows.0.0

pub returns-in_ok-section-in-End-clause-rest : goal.returns-in_ok-section-in-End-clause-rest
returns-in_ok-section-in-End-clause-rest g c known known' knows =
    let after : Before = record {
      header = (c.self.inside.number, c.self.inside.header);
      notes = [];
      serial = c.read_own.new.section.serial;
    } in
    no-rest c.take.new.self c.read_own.new.blocks known' after c.take.ensures.after

pub returns-in-Cut-clause-rest : goal.returns-in-Cut-clause-rest
returns-in-Cut-clause-rest g c known known' knows =
    let after : Before = record {
      header = (c.self.inside.number, c.self.inside.header);
      notes = [];
      serial = c.read_own.new.section.serial;
    } in
    no-rest c.take.new.self c.read_own.new.blocks known' after c.take.ensures.after
