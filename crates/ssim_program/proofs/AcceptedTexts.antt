-- What a desk holds after it received mailboxes: what it held, and what the texts say that it
-- accepted.
use Rattle.std.proofs.Common.{◌≡◌, ◌∙◌, ◌⊎◌, ◌↔◌, inl, inr, ℕ, ◌≤◌, ◌<◌, Bool, true, List, [], ◌∷◌, ◌++◌, length, Option, Some, None, Ok, cond, refl, sym, ap, subst, arith}
use Rattle.std.specs.Prelude.{IfSome}
use Rattle.std.specs.FinMap.{get}
use Rattle.std.proofs.lemmas.Bool.Decides.{leb_tells}
use Rattle.ssim_base.specs.BaseSeen.{BaseSeen}
use Rattle.ssim_text.specs.Grammar.{OneMessage}
use Rattle.ssim_text.specs.Message.{MessageValue}
use Rattle.ssim_text.specs.Spelling.{CanonicalReadsBack}
use Rattle.ssim_text.specs.declared.reference.Reference.{Reference}
use Rattle.ssim_mailbox.specs.Texts.{MailText, texts_in}
use Rattle.ssim_held.specs.Entries.{DeskSeen, map_of, state_of}
use Rattle.ssim_held.specs.Held.{Says}
use Rattle.ssim_desk.proofs.Taking.{take_holds}
use Rattle.ssim_desk.specs.Desk.{take_answer}
use Rattle.ssim_desk.specs.Deliveries.{is_accepted}
use Rattle.ssim_desk.specs.declared.desk.Took.{Took}
use Rattle.ssim_desk.specs.declared.desk.Took.TheVariants as took
use Rattle.ssim_command_line.specs.Line.{Text}
use Rattle.ssim_program.specs.Files.{Files, file_of}
use Rattle.ssim_program.specs.Made.{file_limit}
use Rattle.ssim_program.specs.Receiving.{Accepted, IsAccepted, Receipt, ReceivesEach, ReceivesFile, Refused, Tries, TriesEach, Unread, texts_received, texts_within}
use Rattle.ssim_program.proofs.SavedDesks.{IsValid, valid_take}

-- ---- the texts of a file

pub within_limit : (bytes : List ℕ) → length bytes ≤ file_limit → texts_within (Some bytes) ≡ texts_in bytes
within_limit bytes short = elim (leb_tells (length bytes) file_limit) [
  | inl short_too ↦ ap (λ (b : Bool). cond b (texts_in bytes) []) short_too.0
  | inr over ↦ absurd (omega (arith, short, over.1))
]

pub missing : (file : Option (List ℕ)) → IfSome file (λ bytes. file_limit < length bytes) → texts_within file ≡ []
missing None none = refl
missing (Some bytes) long = elim (leb_tells (length bytes) file_limit) [
  | inl short_too ↦ absurd (omega (arith, long, short_too.1))
  | inr over ↦ ap (λ (b : Bool). cond b (texts_in bytes) []) over.0
]

pub accepted : (answer : Took) (reference : Reference)
    → is_accepted (take_answer (Ok (answer, reference))) ≡ true
accepted took.Taken reference = refl
accepted took.Repeated reference = refl

-- a desk after some texts, before more of them
pub record AfterEach (texts : List MailText) (receipts : List Receipt) (before after : DeskSeen) : Type 0 where
  pub base : after.base ≡ before.base
  pub valid : IsValid after.base (map_of after.held)
  pub holds : (more : List MailText) (later : List Receipt) (r : Reference) (m : MessageValue)
      → ((get (map_of after.held) r ≡ Some m) ⊎ IsAccepted before.base more later r m) ↔ ((get (map_of before.held) r ≡ Some m) ⊎ IsAccepted before.base (texts ++ more) (receipts ++ later) r m)

-- a desk after some files
pub record AfterFiles (files : Files) (names : List Text) (receipts : List Receipt) (before after : DeskSeen) : Type 0 where
  pub base : after.base ≡ before.base
  pub valid : IsValid after.base (map_of after.held)
  pub holds : (r : Reference) (m : MessageValue) → (get (map_of after.held) r ≡ Some m) ↔ ((get (map_of before.held) r ≡ Some m) ⊎ IsAccepted before.base (texts_received files names) receipts r m)

module _ (one : OneMessage) (again : CanonicalReadsBack) where
  -- one more text
  next_each : (file : Text) (text : MailText) (texts : List MailText) (first : Receipt) (later : List Receipt) (before between after : DeskSeen) → Tries file before text first between
      → IsValid before.base (map_of before.held) → (IsValid between.base (map_of between.held) → AfterEach texts later between after) → AfterEach (text ∷ texts) (first ∷ later) before after
  next_each file text texts (Accepted name n answer reference) later before between after (same_file, same_line, taken) valid others =
      record {
        base = rest.base ∙ taken.base;
        valid = rest.valid;
        holds = λ more behind r m. (λ h. there more behind r m ((at_base more behind r m).0 h), λ s. back more behind r m s);
      }
    where
      rest : AfterEach texts later between after
      rest = others (subst (λ (b : BaseSeen). IsValid b (map_of between.held)) (sym taken.base) (valid_take one again (state_of before) text.bytes (take_answer (Ok (answer, reference))) (map_of between.held) valid taken.takes))

      step : (r : Reference) (m : MessageValue) → (get (map_of between.held) r ≡ Some m) ↔ ((get (map_of before.held) r ≡ Some m) ⊎ ((is_accepted (take_answer (Ok (answer, reference))) ≡ true) × Says before.base text.bytes r m))
      step = take_holds one (state_of before) text.bytes (take_answer (Ok (answer, reference))) (map_of between.held) taken.takes

      at_base : (more : List MailText) (behind : List Receipt) (r : Reference) (m : MessageValue)
          → ((get (map_of after.held) r ≡ Some m) ⊎ IsAccepted before.base more behind r m) ↔ ((get (map_of between.held) r ≡ Some m) ⊎ IsAccepted before.base (texts ++ more) (later ++ behind) r m)
      at_base more behind r m =
          subst (λ (b : BaseSeen). ((get (map_of after.held) r ≡ Some m) ⊎ IsAccepted b more behind r m) ↔ ((get (map_of between.held) r ≡ Some m) ⊎ IsAccepted b (texts ++ more) (later ++ behind) r m)) taken.base
          (rest.holds more behind r m)

      there : (more : List MailText) (behind : List Receipt) (r : Reference) (m : MessageValue) → (get (map_of between.held) r ≡ Some m) ⊎ IsAccepted before.base (texts ++ more) (later ++ behind) r m
          → (get (map_of before.held) r ≡ Some m) ⊎ (Says before.base text.bytes r m ⊎ IsAccepted before.base (texts ++ more) (later ++ behind) r m)
      there more behind r m (inl h) = elim ((step r m).0 h) [ inl b ↦ inl b | inr s ↦ inr (inl s.1) ]
      there more behind r m (inr s) = inr (inr s)

      back : (more : List MailText) (behind : List Receipt) (r : Reference) (m : MessageValue) → (get (map_of before.held) r ≡ Some m) ⊎ (Says before.base text.bytes r m ⊎ IsAccepted before.base (texts ++ more) (later ++ behind) r m)
          → (get (map_of after.held) r ≡ Some m) ⊎ IsAccepted before.base more behind r m
      back more behind r m (inl h) = (at_base more behind r m).1 (inl ((step r m).1 (inl h)))
      back more behind r m (inr (inl says)) = (at_base more behind r m).1 (inl ((step r m).1 (inr (accepted answer reference, says))))
      back more behind r m (inr (inr s)) = (at_base more behind r m).1 (inr s)
  next_each file text texts (Refused name refused fault) later before between after (same_file, same_text, why, same) valid others =
      let rest = subst (λ (d : DeskSeen). AfterEach texts later d after) same (others (subst (λ (d : DeskSeen). IsValid d.base (map_of d.held)) (sym same) valid)) in
      record { base = rest.base; valid = rest.valid; holds = rest.holds }
  next_each file text texts (Unread name) later before between after tries valid others = absurd tries

  after_each : (file : Text) (texts : List MailText) (receipts : List Receipt) (before after : DeskSeen) → TriesEach file before texts receipts after → IsValid before.base (map_of before.held) → AfterEach texts receipts before after
  after_each file [] receipts before after (none, same) valid =
      subst (λ (rs : List Receipt). AfterEach [] rs before after) (sym none)
      (subst (λ (d : DeskSeen). AfterEach [] [] before d) (sym same) (record { base = refl; valid = valid; holds = λ more behind r m. (λ h. h, λ h. h) }))
  after_each file (text ∷ texts) receipts before after (first, later, between, tries, others, are) valid =
      subst (λ (rs : List Receipt). AfterEach (text ∷ texts) rs before after) (sym are)
      (next_each file text texts first later before between after tries valid (λ v. after_each file texts later between after others v))

  -- one more file
  next_files : (files : Files) (name : Text) (names : List Text) (first later : List Receipt) (before between after : DeskSeen) → ReceivesFile (Some files) name before first between
      → IsValid before.base (map_of before.held) → (IsValid between.base (map_of between.held) → AfterFiles files names later between after) → AfterFiles files (name ∷ names) (first ++ later) before after
  next_files files name names first later before between after (inl (bytes, has, tries)) valid others =
      let each = after_each name (texts_in bytes) first before between tries valid in
      let rest = others each.valid in
      let texts : texts_within (file_of files name) ≡ texts_in bytes = ap texts_within has.1 ∙ within_limit bytes has.0 in
      record {
        base = rest.base ∙ each.base;
        valid = rest.valid;
        holds = λ r m.
            let left = subst (λ (b : BaseSeen). (get (map_of after.held) r ≡ Some m) ↔ ((get (map_of between.held) r ≡ Some m) ⊎ IsAccepted b (texts_received files names) later r m)) each.base (rest.holds r m) in
            let right = subst (λ (ts : List MailText). ((get (map_of between.held) r ≡ Some m) ⊎ IsAccepted before.base (texts_received files names) later r m) ↔ ((get (map_of before.held) r ≡ Some m) ⊎ IsAccepted before.base (ts ++ texts_received files names) (first ++ later) r m))
            (sym texts) (each.holds (texts_received files names) later r m) in
            (λ h. right.0 (left.0 h), λ s. left.1 (right.1 s));
      }
  next_files files name names first later before between after (inr (none, unread, same)) valid others =
      let rest = subst (λ (d : DeskSeen). AfterFiles files names later d after) same (others (subst (λ (d : DeskSeen). IsValid d.base (map_of d.held)) (sym same) valid)) in
      record {
        base = rest.base;
        valid = rest.valid;
        holds = λ r m.
            subst (λ (rs : List Receipt). (get (map_of after.held) r ≡ Some m) ↔ ((get (map_of before.held) r ≡ Some m) ⊎ IsAccepted before.base (texts_within (file_of files name) ++ texts_received files names) (rs ++ later) r m)) (sym unread)
            (subst (λ (ts : List MailText). (get (map_of after.held) r ≡ Some m) ↔ ((get (map_of before.held) r ≡ Some m) ⊎ IsAccepted before.base (ts ++ texts_received files names) (Unread name ∷ later) r m))
            (sym (missing (file_of files name) none)) (rest.holds r m));
      }

  pub after_files : (files : Files) (names : List Text) (receipts : List Receipt) (before after : DeskSeen) → ReceivesEach (Some files) names before receipts after → IsValid before.base (map_of before.held)
      → AfterFiles files names receipts before after
  after_files files [] receipts before after (none, same) valid =
      subst (λ (rs : List Receipt). AfterFiles files [] rs before after) (sym none)
      (subst (λ (d : DeskSeen). AfterFiles files [] [] before d) (sym same) (record { base = refl; valid = valid; holds = λ r m. (λ h. inl h, λ s. elim s [ inl h ↦ h | inr n ↦ absurd n ]) }))
  after_files files (name ∷ names) receipts before after (first, later, between, received, others, are) valid =
      subst (λ (rs : List Receipt). AfterFiles files (name ∷ names) rs before after) (sym are)
      (next_files files name names first later before between after received valid (λ v. after_files files names later between after others v))
