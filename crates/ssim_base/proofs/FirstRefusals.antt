-- The fault of a data set names its first invalid record: an induction over the records, of which
-- those that were accepted are passed on, the latest first.
use Rattle.std.proofs.Common.{◌≡◌, ℕ, zero, suc, ◌<◌, List, [], ◌∷◌, ◌++◌, map, reverse, take, Option, Some, None, IfSome, slice_get, refl, sym, ap, subst, ◌∙◌, append_assoc, arith}
use Rattle.std.proofs.lemmas.List.{append-nil, reverse-append}
use Rattle.ssim_records.specs.declared.record.Record.{Record}
use Rattle.ssim_records.specs.declared.fault.RecordFault.{RecordFault}
use Rattle.ssim_base.specs.Base.{Broken, Ending, IsAllowed, NamesTheEnd, NamesTheFirst, at_end, at_record, before_record, first_refusal, kept, kept_all, missing, notes_of, refusal_at, unless_refused}
use Rattle.ssim_base.specs.declared.fault.BaseFault.{BaseFault}
use Rattle.ssim_base.specs.declared.fault.BaseFault.TheVariants.{Read, Refused}
use Rattle.ssim_base.specs.declared.fault.BaseRefusal.{BaseRefusal}

-- the records that were accepted earlier and then these, the latest first
abbrev accepted : List Record → List (ℕ × Record) → List Record
accepted earlier rs = reverse (kept_all earlier (map (λ r. r.1) rs)) ++ earlier

accepted_more : (earlier : List Record) (r : ℕ × Record) (rs : List (ℕ × Record)) → accepted earlier (r ∷ rs) ≡ accepted (kept earlier r.1 ∷ earlier) rs
accepted_more earlier r rs =
    let k = kept earlier r.1 in
    let ks = kept_all (k ∷ earlier) (map (λ x. x.1) rs) in
    ap (λ xs. xs ++ earlier) (reverse-append (k ∷ []) ks) ∙ append_assoc (reverse ks) (k ∷ []) earlier

abbrev AllowedAfter : List Record → List (ℕ × Record) → ℕ → Type 0
AllowedAfter earlier records j = IfSome (slice_get records j) (λ r. refusal_at (accepted earlier (take j records)) r.1 ≡ None)

allowed_later : (earlier : List Record) (r : ℕ × Record) (rs : List (ℕ × Record)) (j : ℕ) → AllowedAfter earlier (r ∷ rs) (suc j) → AllowedAfter (kept earlier r.1 ∷ earlier) rs j
allowed_later earlier r rs j h = subst (λ (es : List Record). IfSome (slice_get rs j) (λ x. refusal_at es x.1 ≡ None)) (accepted_more earlier r (take j rs)) h

first_at : (ending : Ending) (earlier : List Record) (records : List (ℕ × Record)) (k : ℕ) (r : ℕ × Record) (refusal : BaseRefusal)
    → ((j : ℕ) → j < k → AllowedAfter earlier records j) → slice_get records k ≡ Some r → refusal_at (accepted earlier (take k records)) r.1 ≡ Some refusal
    → first_refusal ending earlier records ≡ Some (Refused r.0 refusal)
first_at ending earlier [] k r refusal allowed is refused = cc
first_at ending earlier (x ∷ rs) zero r refusal allowed is refused =
    let same : x ≡ r = cc in
    ap (λ (y : ℕ × Record). at_record y.0 (refusal_at earlier y.1) (first_refusal ending (kept earlier y.1 ∷ earlier) rs)) same
    ∙ ap (λ o. at_record r.0 o (first_refusal ending (kept earlier r.1 ∷ earlier) rs)) refused
first_at ending earlier (x ∷ rs) (suc k) r refusal allowed is refused =
    ap (λ o. at_record x.0 o (first_refusal ending (kept earlier x.1 ∷ earlier) rs)) (allowed 0 (omega arith))
    ∙ first_at ending (kept earlier x.1 ∷ earlier) rs k r refusal (λ j lt. allowed_later earlier x rs j (allowed (suc j) (omega arith))) is
    (ap (λ es. refusal_at es r.1) (sym (accepted_more earlier x (take k rs))) ∙ refused)

end_at : (ending : Ending) (earlier : List Record) (records : List (ℕ × Record)) → ((j : ℕ) → AllowedAfter earlier records j)
    → first_refusal ending earlier records ≡ at_end ending (missing (accepted earlier records))
end_at ending earlier [] allowed = refl
end_at ending earlier (x ∷ rs) allowed =
    ap (λ o. at_record x.0 o (first_refusal ending (kept earlier x.1 ∷ earlier) rs)) (allowed 0)
    ∙ end_at ending (kept earlier x.1 ∷ earlier) rs (λ j. allowed_later earlier x rs j (allowed (suc j)))
    ∙ ap (λ es. at_end ending (missing es)) (sym (accepted_more earlier x rs))

-- none was accepted before the first record
from_start : (records : List (ℕ × Record)) (j : ℕ) → IfSome (slice_get records j) (λ r. refusal_at (before_record records j) r.1 ≡ None) → AllowedAfter [] records j
from_start records j h = subst (λ (es : List Record). IfSome (slice_get records j) (λ r. refusal_at es r.1 ≡ None)) (sym (append-nil (before_record records j))) h

pub names_the_first : NamesTheFirst
names_the_first ending records k r refusal allowed is refused =
    let base = kept_all [] (map (λ x. x.1) records) in
    ap (λ o. unless_refused o (base, notes_of 0 records))
    (first_at ending [] records k r refusal (λ j lt. from_start records j (allowed j lt)) is (ap (λ es. refusal_at es r.1) (append-nil (before_record records k)) ∙ refused))

pub names_the_end : NamesTheEnd
names_the_end ending records allowed =
    let base = kept_all [] (map (λ x. x.1) records) in
    ap (λ o. unless_refused o (base, notes_of 0 records))
    (end_at ending [] records (λ j. from_start records j (allowed j)) ∙ ap (λ es. at_end ending (missing es)) (append-nil (reverse base)))

-- ---- records of which none is refused

passed : (n : ℕ) (o : Option BaseRefusal) (later : Option BaseFault) (f : RecordFault) → at_record n o later ≡ Some (Read f) → (o ≡ None) × (later ≡ Some (Read f))
passed n None later f is = (refl, is)
passed n (Some refusal) later f is = absurd cc

allowed_at : (f : RecordFault) (earlier : List Record) (records : List (ℕ × Record)) → first_refusal (Broken f) earlier records ≡ Some (Read f) → (j : ℕ) → AllowedAfter earlier records j
allowed_at f earlier [] is zero = tt
allowed_at f earlier [] is (suc j) = tt
allowed_at f earlier (x ∷ rs) is zero = (passed x.0 (refusal_at earlier x.1) (first_refusal (Broken f) (kept earlier x.1 ∷ earlier) rs) f is).0
allowed_at f earlier (x ∷ rs) is (suc j) =
    let later = passed x.0 (refusal_at earlier x.1) (first_refusal (Broken f) (kept earlier x.1 ∷ earlier) rs) f is in
    subst (λ (es : List Record). IfSome (slice_get rs j) (λ r. refusal_at es r.1 ≡ None)) (sym (accepted_more earlier x (take j rs)))
    (allowed_at f (kept earlier x.1 ∷ earlier) rs later.1 j)

-- records that end with a fault of the reader are all allowed
pub all_allowed : (f : RecordFault) (records : List (ℕ × Record)) → first_refusal (Broken f) [] records ≡ Some (Read f) → (k : ℕ) → IsAllowed records k
all_allowed f records is k =
    subst (λ (es : List Record). IfSome (slice_get records k) (λ r. refusal_at es r.1 ≡ None)) (append-nil (before_record records k)) (allowed_at f [] records is k)
