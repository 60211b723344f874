-- A base has its frame around its records: header and carrier first, the trailer last.
use Rattle.std.proofs.Common.{◌≡◌, ◌≤◌, ℕ, suc, ◌+◌, ◌-◌, List, [], ◌∷◌, ◌++◌, length, map}
use Rattle.std.proofs.Common.{slice_index_or, refl, sym, ap, subst, ◌∙◌, arith}
use Rattle.std.proofs.lemmas.List.{length-append}
use Rattle.std.proofs.lemmas.List.Elements.{All-from_recursion}
use Rattle.std.specs.List.{All, AllByRecursion as Each}
use Rattle.ssim_records.specs.Carrier.{CarrierFields}
use Rattle.ssim_records.specs.Header.{HeaderFields}
use Rattle.ssim_records.specs.Trailer.{TrailerFields}
use Rattle.ssim_records.specs.declared.record.Record.{Record}
use Rattle.ssim_records.specs.declared.record.Record.TheVariants.{Header, Carrier, Leg, Segment, Trailer}
use Rattle.ssim_base.specs.Base.{airline_of, first_refusal, kept, kept_all, notes_of}
use Rattle.ssim_base.specs.BaseSeen.{WasRead}
use Rattle.ssim_base.specs.internal.Reading.{AreOfFrame}
use Rattle.ssim_base.specs.clauses.Closed.{IsClosed}
use Rattle.ssim_base.specs.Export.{Frame}
use Rattle.ssim_base.specs.clauses.Export.{frame_from}
use Rattle.ssim_base.specs.ReadBack.{CanExport, HasFrame}
use Rattle.ssim_base.proofs.ReadingBack.{frame-is}
use Rattle.ssim_base.proofs.Bases.{bases_export, from-ok}

pub exportable : (rs : List Record) → WasRead rs → CanExport rs
exportable rs w = bases_export w.ending w.records rs w.notes w.spelt w.read

pub framed : (rs : List Record) → WasRead rs → (frame : Frame) × HasFrame frame rs
framed rs w = let e = exportable rs w in (e.frame, e.has_frame)

length-framed : (frame : Frame) (rs : List Record) → (f : HasFrame frame rs)
    → length rs ≡ suc (suc (length f.0 + 1))
length-framed frame rs f =
    ap length f.1 ∙ ap (λ n. suc (suc n)) (length-append f.0 (Trailer frame.trailer ∷ []))

-- these are three records at least
pub three-read : (rs : List Record) → WasRead rs → 3 ≤ length rs
three-read rs w =
    let e = exportable rs w in
    omega (arith, length-framed e.frame rs e.has_frame)

pub first-is : (frame : Frame) (rs : List Record) (d : Record) → HasFrame frame rs → slice_index_or rs 0 d ≡ Header frame.header
first-is frame rs d f = ap (λ xs. slice_index_or xs 0 d) f.1

pub second-is : (frame : Frame) (rs : List Record) (d : Record) → HasFrame frame rs → slice_index_or rs 1 d ≡ Carrier frame.carrier
second-is frame rs d f = ap (λ xs. slice_index_or xs 1 d) f.1

at-end : (xs : List Record) (x d : Record) → slice_index_or (xs ++ x ∷ []) (length xs) d ≡ x
at-end [] x d = refl
at-end (y ∷ xs) x d = at-end xs x d

pub last-is : (frame : Frame) (rs : List Record) (d : Record) → HasFrame frame rs → slice_index_or rs (length rs - 1) d ≡ Trailer frame.trailer
last-is frame rs d f =
    let len = length-framed frame rs f in
    let place : length rs - 1 ≡ suc (suc (length f.0)) = omega (arith, len) in
    ap (λ n. slice_index_or rs n d) place ∙ ap (λ xs. slice_index_or xs (suc (suc (length f.0))) d) f.1 ∙ at-end f.0 (Trailer frame.trailer) d

-- of a base the first, the second and the last record are those of its frame
pub are-of-frame : (frame : Frame) (rs : List Record) (number : ℕ) (a b d : Record)
    → HasFrame frame rs → number ≡ length rs → a ≡ slice_index_or rs 0 a → b ≡ slice_index_or rs 1 b
    → d ≡ slice_index_or rs (number - 1) d → AreOfFrame frame a b d
are-of-frame frame rs number a b d f is first second last = (
  first ∙ first-is frame rs a f,
  second ∙ second-is frame rs b f,
  last ∙ ap (λ n. slice_index_or rs (n - 1) d) is ∙ last-is frame rs d f,
)

pub of-frame : (frame : Frame) (a b d : Record) (h : HeaderFields) (c : CarrierFields) (t : TrailerFields) → AreOfFrame frame a b d → a ≡ Header h → b ≡ Carrier c → d ≡ Trailer t → frame_from h c t ≡ frame
of-frame frame a b d h c t are header carrier trailer =
    let first : Header h ≡ Header frame.header = sym header ∙ are.0 in
    let second : Carrier c ≡ Carrier frame.carrier = sym carrier ∙ are.1 in
    let last : Trailer t ≡ Trailer frame.trailer = sym trailer ∙ are.2 in
    frame-is frame h c t (cc) (cc) (cc)

pub airline-is : (frame : Frame) (rs : List Record) → HasFrame frame rs → airline_of rs ≡ frame.carrier.airline
airline-is frame rs f = ap airline_of f.1

-- ---- no end is open

kept-closed : (earlier : List Record) (r : Record) → IsClosed (kept earlier r)
kept-closed earlier (Header r) = tt
kept-closed earlier (Carrier r) = tt
kept-closed earlier (Leg r) = refl
kept-closed earlier (Segment r) = tt
kept-closed earlier (Trailer r) = tt

all-closed : (earlier rs : List Record) → Each IsClosed (kept_all earlier rs)
all-closed earlier [] = tt
all-closed earlier (r ∷ rs) = (kept-closed earlier r, all-closed (kept earlier r ∷ earlier) rs)

pub closed-records : (rs : List Record) → WasRead rs → All IsClosed rs
closed-records rs w =
    subst (λ xs. All IsClosed xs) ((from-ok (first_refusal w.ending [] w.records) (kept_all [] (map (λ r. r.1) w.records)) rs (notes_of 0 w.records) w.notes w.read).1)
    (All-from_recursion IsClosed (kept_all [] (map (λ r. r.1) w.records)) (all-closed [] (map (λ r. r.1) w.records)))
