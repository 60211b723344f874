-- What the program replies to words that are no command.
use Rattle.std.proofs.Common.{◌≡◌, ◌≤◌, ◌∙◌, ◌⊎◌, if◌then◌else◌, inl, inr, ℕ, Bool, true, false, refl, List, [], ◌∷◌, Result, Ok, Err, ap, arith, subst, sym}
use Rattle.clap.specs.Kinds.{IsAmong}
use Rattle.clap.specs.Values.{kind_of}
use Rattle.clap.specs.Words.{fault_of}
use Rattle.clap.specs.declared.error.kind.ErrorKind.{ErrorKind}
use Rattle.ssim_base.specs.Export.{line}
use Rattle.ssim_command_line.specs.Usage.{whole_program}
use Rattle.ssim_command_line.specs.clauses.Usage.{IsFaultOf}
use Rattle.ssim_command_line.specs.Usage.{is_help}
use Rattle.ssim_command_line.specs.declared.command_line.LineFault.{LineFault}
use Rattle.ssim_command_line.specs.declared.command_line.LineFault.TheVariants as fault
use Rattle.ssim_program.specs.Acts.{Act, Print, Keep, Find, Stop, finds}
use Rattle.ssim_program.specs.print.Refusal.{refusal_text}
use Rattle.ssim_program.specs.declared.refusal.Refusal.{Refusal}
use Rattle.ssim_program.specs.declared.refusal.Refusal.TheVariants as refused
use Rattle.ssim_command_line.specs.Line.{Line, Text}
use Rattle.ssim_program.specs.Runs.{Explained, Obeys, Replies, Runs, RunsPlainly, SaysWrong, command_words, is_explained}
use Rattle.ssim_program.specs.internal.Program.{EndsWithoutRequest, SaysHelp}
use Rattle.ssim_program.specs.World.{Acted, Performs, World}
use Rattle.ssim_program.specs.print.Paper.{Paper, PrintsOrFails}

abbrev line_bytes : Refusal → List ℕ
line_bytes refusal = line (refusal_text refusal)

found_small : (found : Bool) → (if found then 3 else 0) ≤ 3
found_small true = omega arith
found_small false = omega arith

pub status_obeyed : (line : Line) (before after : World) (err err' : Paper) (status : ℕ) → Obeys line before after err err' status → status ≤ 3
status_obeyed line before after err err' status (inl done) = subst (λ (n : ℕ). n ≤ 3) (sym done.1) (found_small (finds done.0.0))
status_obeyed line before after err err' status (inr refused) = omega (arith, refused.0)

pub status_replied : (words : List Text) (out out' err err' : Paper) (status : ℕ) → Replies words out out' err err' status → status ≤ 3
status_replied words out out' err err' status (inl (help, inl asked)) = omega (arith, asked.0)
status_replied words out out' err err' status (inl (help, inr refused)) = omega (arith, refused.0)
status_replied words out out' err err' status (inr (inl wrong)) = omega (arith, wrong.1)
status_replied words out out' err err' status (inr (inr memory)) = omega (arith, memory.0)

-- ---- devices

acted_device : (act : Act) (w v : World) (r : Result (Unit {0}) Refusal) → Acted act w v r → v.out.device ≡ w.out.device
acted_device (Print bytes) w v (Ok x) acted = acted.0.device
acted_device (Print bytes) w v (Err why) acted = acted.1.device
acted_device (Keep name bytes) w v (Ok x) acted = ap (λ (p : Paper). p.device) acted.2
acted_device (Keep name bytes) w v (Err why) acted = ap (λ (p : Paper). p.device) acted.2
acted_device Find w v (Ok x) acted = ap (λ (x : World). x.out.device) acted
acted_device Find w v (Err why) acted = absurd acted
acted_device (Stop refusal) w v (Ok x) acted = absurd acted
acted_device (Stop refusal) w v (Err why) acted = ap (λ (x : World). x.out.device) acted.1

performed_device : (acts : List Act) (w v : World) (r : Result (Unit {0}) Refusal) → Performs acts w v r → v.out.device ≡ w.out.device
performed_device [] w v (Ok x) is = ap (λ (y : World). y.out.device) is
performed_device [] w v (Err why) is = absurd is
performed_device (act ∷ later) w v r (inl (mid, acted, rest)) = performed_device later mid v r rest ∙ acted_device act w mid (Ok tt) acted
performed_device (act ∷ later) w v r (inr (why, acted, is)) = acted_device act w v (Err why) acted

pub printed_device : (bytes : List ℕ) (p q : Paper) → PrintsOrFails bytes p q → q.device ≡ p.device
printed_device bytes p q (inl grows) = grows.device
printed_device bytes p q (inr breaks) = breaks.device

pub devices_obeyed : (line : Line) (before after : World) (err err' : Paper) (status : ℕ) → Obeys line before after err err' status → (after.out.device ≡ before.out.device) × (err'.device ≡ err.device)
devices_obeyed line before after err err' status (inl done) = (performed_device done.0.0 before after (Ok tt) done.0.2, ap (λ (p : Paper). p.device) done.3)
devices_obeyed line before after err err' status (inr (one, refusal, does, printed)) = (performed_device does.0 before after (Err refusal) does.2, printed_device (line_bytes refusal) err err' printed)

pub devices_replied : (words : List Text) (out out' err err' : Paper) (status : ℕ) → Replies words out out' err err' status → (out'.device ≡ out.device) × (err'.device ≡ err.device)
devices_replied words out out' err err' status (inl (help, inl (zero, ((text, grows), flushed, same)))) = (grows.device, ap (λ (p : Paper). p.device) same)
devices_replied words out out' err err' status (inl (help, inr (one, (refusal, inl (memory, grows), printed)))) = (grows.device, printed_device (line_bytes refusal) err err' printed)
devices_replied words out out' err err' status (inl (help, inr (one, (refusal, inr (failed, text, breaks), printed)))) = (breaks.device, printed_device (line_bytes refusal) err err' printed)
devices_replied words out out' err err' status (inr (inl (wrong, two, (grows, text, printed)))) = (grows.device, printed_device text err err' printed)
devices_replied words out out' err err' status (inr (inr (one, same, printed))) = (ap (λ (p : Paper). p.device) same, printed_device (line_bytes refused.Memory) err err' printed)

explained_device : (asked : Bool) (status : ℕ) (p q : Paper) → Explained asked status p q → q.device ≡ p.device
explained_device asked status p q (inl same) = ap (λ (x : Paper). x.device) same
explained_device asked status p q (inr (is, one, text, printed)) = printed_device text p q printed

-- a refusal that was explained, as it was asked
pub explained_so : (asked : Bool) (status : ℕ) (p q : Paper) → asked ≡ true → status ≡ 1 → Explained true 1 p q → Explained asked status p q
explained_so asked status p q is one (inl same) = inl same
explained_so asked status p q is one (inr (asks, same, text, printed)) = inr (is, one, text, printed)

-- ---- all words

pub status_run : (words : List Text) (before after : World) (err err' : Paper) (status : ℕ) → RunsPlainly words before after err err' status → status ≤ 3
status_run words before after err err' status (inl (l, names, obeys)) = status_obeyed l before after err err' status obeys
status_run words before after err err' status (inr (replies, same, count)) = status_replied words before.out after.out err err' status replies

devices_plainly : (words : List Text) (before after : World) (err err' : Paper) (status : ℕ) → RunsPlainly words before after err err' status → (after.out.device ≡ before.out.device) × (err'.device ≡ err.device)
devices_plainly words before after err err' status (inl (l, names, obeys)) = devices_obeyed l before after err err' status obeys
devices_plainly words before after err err' status (inr (replies, same, count)) = devices_replied words before.out after.out err err' status replies

pub devices_run : (words : List Text) (asked : Bool) (before after : World) (err line err' : Paper) (status : ℕ) → RunsPlainly words before after err line status
    → Explained asked status line err' → (after.out.device ≡ before.out.device) × (err'.device ≡ err.device)
devices_run words asked before after err line err' status runs explained =
    let devices = devices_plainly words before after err line status runs in
    (devices.0, explained_device asked status line err' explained ∙ devices.1)

-- words without `--explain` are the words of the command
pub without_explain : (words : List Text) → is_explained words ≡ false → command_words words ≡ words
without_explain [] other = refl
without_explain (program ∷ []) other = refl
without_explain (program ∷ word ∷ rest) other =
    ap (λ (b : Bool). if b then program ∷ rest else program ∷ word ∷ rest) other

-- what the words of the command do, explained as the words ask
pub explained_run : (words left : List Text) (asked : Bool) (before after : World) (err err' : Paper) (status : ℕ) → command_words words ≡ left → is_explained words ≡ asked
    → (line : Paper) × RunsPlainly left before after err line status × Explained asked status line err' → Runs words before after err err' status
explained_run words left asked before after err err' status are is (line, runs, explained) = (
  line,
  subst (λ (ws : List Text). RunsPlainly ws before after err line status) (sym are) runs,
  subst (λ (b : Bool). Explained b status line err') (sym is) explained,
)

-- ---- words that make no request

shown : (words : List Text) (k : ErrorKind) (out out' err err' : Paper) (status : ℕ) (b : Bool) → is_help k ≡ b → IsAmong k (fault_of whole_program words)
    → ((is_help k ≡ true) × SaysHelp out out' err err' status) ⊎ ((is_help k ≡ false) × (status ≡ 2) × SaysWrong out out' err err') → Replies words out out' err err' status
shown words k out out' err err' status b is among (inl (help, says)) = inl ((k, among, help), says)
shown words k out out' err err' status b is among (inr (wrong, two, says)) = inr (inl (inl (k, among, wrong), two, says))

pub replied : (words : List Text) (f : LineFault) (out out' err err' : Paper) (status : ℕ) → IsFaultOf words f → EndsWithoutRequest f out out' err err' status → Replies words out out' err err' status
replied words fault.Memory out out' err err' status is ends = inr (inr ends)
replied words (fault.Shown error) out out' err err' status is ends = shown words (kind_of error) out out' err err' status (is_help (kind_of error)) refl is ends
replied words fault.NoCommand out out' err err' status is ends = inr (inl (inr is, ends.0, ends.1))
