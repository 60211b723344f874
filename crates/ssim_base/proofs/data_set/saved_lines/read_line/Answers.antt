-- A line is a block, LF and the rest, and a block spells only the record that it is written for.
use Rattle.std.proofs.Common.{◌≡◌, length, None, rules, sym, subst, ◌∙◌, ap, arith}
use Rattle.ssim_records.specs.clauses.Record.{HasSpelt}
use Rattle.ssim_records.specs.Record.{Spells}
use Rattle.ssim_records.specs.declared.record.Record.{Record}
use Rattle.ssim_base.specs.SavedBase.{IsBare}
use Rattle.ssim_base.proofs.SavedLines.{line-parts, line-refused, line-short, line-spelt, line-whole, read-ok}
use Rattle.ssim_base.proofs.data_set.saved_lines.read_line.Goals.{in_default-via-in-Some+else-is_bare, in_default-via-in-Some+then-is_bare+else-is_written, in_default-via-in_default, then-end-ne10-via-else-end-ne10+then-is_err, then-end-ne10-via-then-end-ne10}
use Rattle.ssim_base.proofs.data_set.saved_lines.read_line.Goals as goal

pub returns-in_err-block-clause-none : goal.returns-in_err-block-clause-none
returns-in_err-block-clause-none c =
    let e : c.from_residual.result ≡ None = search rules in
    rw e (λ r rest line. line-short r c.args.bytes.now rest line c.in_err-block.ensures.cases)

pub returns-in_err-end-clause-none : goal.returns-in_err-end-clause-none
returns-in_err-end-clause-none c =
    let e : c.from_residual-in_err-end.result ≡ None = search rules in
    rw e (λ r rest line.
    let long = ap length (c.in_ok-block.ensures.cases.1 ∙ (line-parts r c.args.bytes.now rest line).1) in
    let none : length c.in_ok-block.after.now ≡ 0 = c.in_err-end.ensures.cases in
    absurd (omega (arith, long, none)))

pub returns-then-end-ne10-clause-none : goal.returns-then-end-ne10-clause-none
returns-then-end-ne10-clause-none c = λ r rest line.
    elim c.then-end-ne10.branch [
      | then-end-ne10-via-then-end-ne10 w ↦ (
          let cut = sym c.in_ok-end.ensures.cases.0 ∙ c.in_ok-block.ensures.cases.1 ∙ (line-parts r c.args.bytes.now rest line).1 in
          w.if-end-ne10.true cc
          )
      | then-end-ne10-via-else-end-ne10+then-is_err w ↦ (
          line-refused r c.args.bytes.now rest c.in_ok-block.block.now w.read_into.result line c.in_ok-block.ensures.cases.0 (sym w.is_err.ensures.value ∙ w.if-is_err.true) w.read_into.ensures.err
          )
    ]

pub returns-in-Some-clause-some : goal.returns-in-Some-clause-some
returns-in-Some-clause-some c =
    line-whole c.in-Some.one c.args.bytes.now c.in_ok-block.block.now c.in_ok-block.after.now c.in_ok-end.rest.now c.in_ok-end.end.now
    c.in_ok-block.ensures.cases.0 c.in_ok-block.ensures.cases.1 c.in_ok-end.ensures.cases.0 (omega arith) c.is_written.ensures.is_record (c.is_bare.ensures.0 c.if-is_bare.true) (c.is_written.ensures.same.0 c.if-is_written.true)

pub is_written-requires : goal.is_written-requires
is_written-requires c =
    let spelt = read-ok (HasSpelt c.read_into.new.into c.in_ok-block.block.now) c.read_into.result (sym c.is_err.ensures.value ∙ c.if-is_err.false) c.read_into.ensures.ok in
    rw c.in-Some.is at spelt

pub returns-in_default-clause-none : goal.returns-in_default-clause-none
returns-in_default-clause-none c = λ r rest line.
    let block = c.in_ok-block.block.now in
    let spelt = read-ok (HasSpelt c.read_into.new.into block) c.read_into.result (sym c.is_err.ensures.value ∙ c.if-is_err.false) c.read_into.ensures.ok in
    elim c.in_default.branch [
      | in_default-via-in-Some+then-is_bare+else-is_written w ↦ (
          let here : Spells w.in-Some.one block = rw w.in-Some.is at spelt in
          let same = line-spelt r w.in-Some.one c.args.bytes.now rest block line c.in_ok-block.ensures.cases.0 here in
          let yes = w.is_written.ensures.same.1 same.1 in
          let no = w.if-is_written.false in
          absurd cc
          )
      | in_default-via-in-Some+else-is_bare w ↦ (
          let here : Spells w.in-Some.one block = rw w.in-Some.is at spelt in
          let same = line-spelt r w.in-Some.one c.args.bytes.now rest block line c.in_ok-block.ensures.cases.0 here in
          let yes = w.is_bare.ensures.1 (subst (λ (x : Record). IsBare x) (sym same.0) line.bare) in
          let no = w.if-is_bare.false in
          absurd cc
          )
      | in_default-via-in_default w ↦ (let never : ⊥ = rw w.in_default.is at spelt in never)
    ]
