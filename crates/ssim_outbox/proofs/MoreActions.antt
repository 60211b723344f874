-- What some actions leave of an itinerary, and what these and more actions leave of it, in any
-- order: messages can make the second of the first. If one of all the actions begins anew, what
-- comes after it does not rest on what was there. If none does, all the actions are said again:
-- they write over whatever some of them wrote.
use Rattle.std.proofs.Common.{◌≡◌, ◌||◌, ◌&&◌, ◌∙◌, ℕ, Bool, true, false, if◌then◌else◌}
use Rattle.std.proofs.Common.{List, [], ◌∷◌, ◌++◌, map, refl, sym, ap, subst, inl, inr}
use Rattle.std.proofs.Common.{Option, Some, None, is_some}
use Rattle.std.proofs.lemmas.Bool.{or_parts}
use Rattle.std.specs.List.{AllByRecursion, flat_map, list_any}
use Rattle.ssim_text.specs.Values.{EquipmentValue}
use Rattle.ssim_text.specs.declared.action.Action.{Action}
use Rattle.ssim_text.specs.declared.action.Action.TheVariants.{New, Cnl, Rpl, Eqt, Tim}
use Rattle.ssim_text.specs.declared.action.NewLegs.{NewLegs}
use Rattle.ssim_text.specs.declared.leg.LegLine.{LegLine}
use Rattle.ssim_base.specs.Stations.{Row}
use Rattle.ssim_base.specs.Timetable.{Legs}
use Rattle.ssim_schedule.specs.Acts.{after_on}
use Rattle.ssim_schedule.specs.Effect.{create, equipped, fits, has_leg, have_legs, new_legs}
use Rattle.ssim_schedule.specs.Effect.{replace, retime, retimed, variation_on, with_line}
use Rattle.ssim_text.proofs.ReadsBack.{all_both}
use Rattle.ssim_outbox.specs.Reach.{IsSaid, Reach, after_all}
use Rattle.ssim_outbox.specs.Sayable.{HaveColumns}
use Rattle.ssim_outbox.proofs.SaidActions.{said_if_allowed}
use Rattle.ssim_outbox.proofs.Closed.{cancel_is}
use Rattle.ssim_outbox.proofs.OldLegs.{fits_equipped}
use Rattle.ssim_outbox.proofs.Retimed.{have_kept}
use Rattle.ssim_outbox.proofs.Said.{said_can_act}
use Rattle.ssim_outbox.proofs.SaidAgain.{Change, IsIn, all_once_more, changed, changed_by_all}
use Rattle.ssim_outbox.proofs.SaidAgain.{changed_by_both, changed_by_lines, changed_long}
use Rattle.ssim_outbox.proofs.SaidAgain.Change.{Equipment, Times}
use Rattle.ssim_outbox.proofs.Tried.{after_both}

-- ---- membership

all_weaker : {X : Type 0} (P Q : X → Type 0) → ((x : X) → P x → Q x) → (xs : List X)
    → AllByRecursion P xs → AllByRecursion Q xs
all_weaker P Q f [] h = tt
all_weaker P Q f (x ∷ xs) h = (f x h.0, all_weaker P Q f xs h.1)

in_first : {X : Type 0} (xs ys : List X) (x : X) → IsIn xs x → IsIn (xs ++ ys) x
in_first [] ys x h = absurd h
in_first (z ∷ xs) ys x (inl here) = inl here
in_first (z ∷ xs) ys x (inr later) = inr (in_first xs ys x later)

in_later : {X : Type 0} (xs ys : List X) (x : X) → IsIn ys x → IsIn (xs ++ ys) x
in_later [] ys x h = h
in_later (z ∷ xs) ys x h = inr (in_later xs ys x h)

all_in : {X : Type 0} (xs : List X) → AllByRecursion (IsIn xs) xs
all_in [] = tt
all_in (x ∷ xs) = (inl refl, all_weaker (IsIn xs) (IsIn (x ∷ xs)) (λ y. inr) xs (all_in xs))

-- what an element gives is among what all give
pub given_in : {X Y : Type 0} (f : X → List Y) (xs : List X) (x : X) → IsIn xs x
    → AllByRecursion (IsIn (flat_map f xs)) (f x)
given_in f [] x h = absurd h
given_in f (y ∷ ys) x (inl here) =
    subst (λ z. AllByRecursion (IsIn (f y ++ flat_map f ys)) (f z)) here
    (all_weaker (IsIn (f y)) (IsIn (f y ++ flat_map f ys)) (in_first (f y) (flat_map f ys)) (f y)
    (all_in (f y)))
given_in f (y ∷ ys) x (inr later) =
    all_weaker (IsIn (flat_map f ys)) (IsIn (f y ++ flat_map f ys)) (in_later (f y) (flat_map f ys))
    (f x) (given_in f ys x later)

some_given_in : {X Y : Type 0} (f : X → List Y) (all some : List X) → AllByRecursion (IsIn all) some
    → AllByRecursion (IsIn (flat_map f all)) (flat_map f some)
some_given_in f all [] h = tt
some_given_in f all (x ∷ some) h =
    all_both (IsIn (flat_map f all)) (f x) (flat_map f some) (given_in f all x h.0)
    (some_given_in f all some h.1)

-- a test that no element passes
none_passes : {X : Type 0} (test : X → Bool) (xs : List X) (x : X) → list_any test xs ≡ false
    → IsIn xs x → test x ≡ false
none_passes test [] x none h = absurd h
none_passes test (y ∷ xs) x none (inl here) =
    ap test (sym here) ∙ (or_parts (test y) (list_any test xs) none).0
none_passes test (y ∷ xs) x none (inr later) =
    none_passes test xs x (or_parts (test y) (list_any test xs) none).1 later

some_pass : {X : Type 0} (test : X → Bool) (all some : List X) → list_any test all ≡ false
    → AllByRecursion (IsIn all) some → list_any test some ≡ false
some_pass test all [] none h = refl
some_pass test all (x ∷ some) none h = λ i.
    none_passes test all x none h.0 i || some_pass test all some none h.1 i

-- ---- an action that begins anew

module _ (rows : List Row) (day : ℕ) where
  -- whether the action leaves an itinerary that does not rest on the old one, if there is one: CNL,
  -- and RPL unless a station has no UTC variation
  abbrev begins : Action → Bool
  begins (New new) = false
  begins Cnl = true
  begins (Rpl new) = is_some (new_legs (variation_on rows day) new)
  begins (Eqt e) = false
  begins (Tim lines) = false

  -- what is made of no legs is made of any
  from_none : (old new : Legs) → Reach rows day [] new → Reach rows day old new
  from_none old new reach = record {
    actions = Cnl ∷ reach.actions;
    leads = record {
      said = (said_if_allowed Cnl tt tt, reach.leads.said);
      result = ap (after_all rows day reach.actions) (cancel_is old) ∙ reach.leads.result;
    };
  }

  further : (actions : List Action) (old new : Legs) → AllByRecursion IsSaid actions
      → Reach rows day old new → Reach rows day old (after_all rows day actions new)
  further actions old new said reach = record {
    actions = reach.actions ++ actions;
    leads = record {
      said = all_both IsSaid reach.actions actions reach.leads.said said;
      result = after_both rows day reach.actions actions old
          ∙ ap (after_all rows day actions) reach.leads.result;
    };
  }

  stays : (legs : Legs) → Reach rows day legs legs
  stays legs = record { actions = []; leads = record { said = tt; result = refl } }

  -- the legs that RPL makes are those that NEW makes of none
  replaced : (new : NewLegs) (legs : Legs) (made : Option Legs) → IsSaid (Rpl new)
      → new_legs (variation_on rows day) new ≡ made → is_some made ≡ true
      → Reach rows day [] (replace made legs).0
  replaced new [] made said is some = stays []
  replaced new (leg ∷ legs) None said is some = absurd cc
  replaced new (leg ∷ legs) (Some made) said is some =
      let are = said_can_act (Rpl new) said in
      record {
        actions = New new ∷ [];
        leads = record {
          said = (said_if_allowed (New new) are.allowed are, tt);
          result = ap (λ (o : Option Legs). (create o []).0) is;
        };
      }

  begun : (action : Action) (legs : Legs) → IsSaid action → begins action ≡ true
      → Reach rows day [] (after_on rows action day legs)
  begun (New new) legs said h = absurd cc
  begun Cnl legs said h = subst (Reach rows day []) (sym (cancel_is legs)) (stays [])
  begun (Rpl new) legs said h = replaced new legs (new_legs (variation_on rows day) new) said refl h
  begun (Eqt e) legs said h = absurd cc
  begun (Tim lines) legs said h = absurd cc

  begun_among : (actions : List Action) (legs : Legs) → AllByRecursion IsSaid actions
      → list_any begins actions ≡ true → Reach rows day [] (after_all rows day actions legs)
  begun_among [] legs said h = absurd cc
  begun_among (action ∷ actions) legs said h =
      by (begins action) refl h (begun_among actions (after_on rows action day legs) said.1)
    where
      by : (b : Bool) → begins action ≡ b → b || list_any begins actions ≡ true
          → (list_any begins actions ≡ true
          → Reach rows day [] (after_all rows day actions (after_on rows action day legs)))
          → Reach rows day [] (after_all rows day actions (after_on rows action day legs))
      by true e h later =
          further actions [] (after_on rows action day legs) said.1 (begun action legs said.0 e)
      by false e h later = later h

  -- ---- actions of which none begins anew

  -- there are legs
  abbrev Fly : Legs → Type 0
  Fly [] = ⊥
  Fly (leg ∷ legs) = Unit {0}

  -- the legs are those of the base, but for equipment and times: leg lines fit them alike
  record AreLike (base legs : Legs) : Type 0 where
    fly : Fly legs
    long : HaveColumns legs
    have : (lines : List LegLine) → have_legs legs lines ≡ have_legs base lines

  -- what an action writes, if there are legs that its lines fit as they fit those of the base
  abbrev changes_of : Legs → Action → List Change
  changes_of base (New new) = []
  changes_of base Cnl = []
  changes_of base (Rpl new) = []
  changes_of base (Eqt e) = Equipment e ∷ []
  changes_of base (Tim lines) = if have_legs base lines then map Times lines else []

  has_equipped : (e : EquipmentValue) (line : LegLine) (legs : Legs) → HaveColumns legs
      → has_leg (map (equipped e) legs) line ≡ has_leg legs line
  has_equipped e line [] long = refl
  has_equipped e line (leg ∷ legs) long = λ i.
      fits_equipped line e leg long.0 i || has_equipped e line legs long.1 i

  have_equipped : (e : EquipmentValue) (lines : List LegLine) (legs : Legs) → HaveColumns legs
      → have_legs (map (equipped e) legs) lines ≡ have_legs legs lines
  have_equipped e [] legs long = refl
  have_equipped e (line ∷ lines) legs long = λ i.
      has_equipped e line legs long i && have_equipped e lines legs long i

  have_changed : (change : Change) (lines : List LegLine) (legs : Legs) → HaveColumns legs
      → have_legs (changed change legs) lines ≡ have_legs legs lines
  have_changed (Equipment e) lines legs long = have_equipped e lines legs long
  have_changed (Times line) lines legs long = have_kept line lines legs long

  fly_changed : (change : Change) (legs : Legs) → Fly legs → Fly (changed change legs)
  fly_changed change [] fly = absurd fly
  fly_changed (Equipment e) (leg ∷ legs) fly = tt
  fly_changed (Times line) (leg ∷ legs) fly = by (fits line leg)
    where
      by : (b : Bool) → Fly (if b then retimed line leg ∷ legs else leg ∷ with_line line legs)
      by true = tt
      by false = tt

  like_changed : (base : Legs) (changes : List Change) (legs : Legs) → AreLike base legs
      → AreLike base (changed_by_all changes legs)
  like_changed base [] legs like = like
  like_changed base (change ∷ changes) legs like =
      like_changed base changes (changed change legs) (record {
        fly = fly_changed change legs like.fly;
        long = changed_long change legs like.long;
        have = λ lines. have_changed change lines legs like.long ∙ like.have lines;
      })

  one_action : (base legs : Legs) (action : Action) → AreLike base legs → begins action ≡ false
      → after_on rows action day legs ≡ changed_by_all (changes_of base action) legs
  one_action base [] action like h = absurd like.fly
  one_action base (leg ∷ legs) (New new) like h = refl
  one_action base (leg ∷ legs) Cnl like h = absurd cc
  one_action base (leg ∷ legs) (Rpl new) like h = by (new_legs (variation_on rows day) new) h
    where
      by : (made : Option Legs) → is_some made ≡ false → (replace made (leg ∷ legs)).0 ≡ leg ∷ legs
      by None h = refl
      by (Some made) h = absurd cc
  one_action base (leg ∷ legs) (Eqt e) like h = refl
  one_action base (leg ∷ legs) (Tim lines) like h =
      by (have_legs (leg ∷ legs) lines) refl
      ∙ ap (λ (b : Bool). changed_by_all (if b then map Times lines else []) (leg ∷ legs))
      (like.have lines)
    where
      by : (b : Bool) → have_legs (leg ∷ legs) lines ≡ b
          → (retime lines (leg ∷ legs)).0
          ≡ changed_by_all (if b then map Times lines else []) (leg ∷ legs)
      by true e = rw e (sym (changed_by_lines lines (leg ∷ legs)))
      by false e = rw e refl

  each_action : (base : Legs) (actions : List Action) (legs : Legs) → AreLike base legs
      → list_any begins actions ≡ false
      → after_all rows day actions legs ≡ changed_by_all (flat_map (changes_of base) actions) legs
  each_action base [] legs like h = refl
  each_action base (action ∷ actions) legs like h =
      let parts = or_parts (begins action) (list_any begins actions) h in
      let changes = changes_of base action in
      ap (after_all rows day actions) (one_action base legs action like parts.0)
      ∙ each_action base actions (changed_by_all changes legs)
      (like_changed base changes legs like) parts.1
      ∙ sym (changed_by_both changes (flat_map (changes_of base) actions) legs)

  -- ---- the itineraries that some actions and all actions leave

  pub more_reached : (base : Legs) (some all : List Action) → HaveColumns base
      → AllByRecursion IsSaid all → AllByRecursion (IsIn all) some
      → Reach rows day (after_all rows day some base) (after_all rows day all base)
  more_reached [] some all long said are =
      from_none (after_all rows day some []) (after_all rows day all [])
      (further all [] [] said (stays []))
  more_reached (leg ∷ legs) some all long said are = by (list_any begins all) refl
    where
      base : Legs
      base = leg ∷ legs

      like : AreLike base base
      like = record { fly = tt; long = long; have = λ lines. refl }

      by : (b : Bool) → list_any begins all ≡ b
          → Reach rows day (after_all rows day some base) (after_all rows day all base)
      by true e =
          from_none (after_all rows day some base) (after_all rows day all base)
          (begun_among all base said e)
      by false e =
          let first = flat_map (changes_of base) some in
          let changes = flat_map (changes_of base) all in
          record {
            actions = all;
            leads = record {
              said = said;
              result = ap (after_all rows day all)
                  (each_action base some base like (some_pass begins all some e are))
                  ∙ each_action base all (changed_by_all first base)
                  (like_changed base first base like) e
                  ∙ all_once_more changes first base long
                  (some_given_in (changes_of base) all some are)
                  ∙ sym (each_action base all base like e);
            };
          }
