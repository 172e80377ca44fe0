-- A reader that was opened, and one that can read on.
use Rattle.std.proofs.Common.{◌≡◌, ◌≢◌, ◌⊎◌, inl, inr, ℕ, ◌≤◌, ◌<◌, List, [], ◌∷◌, ◌++◌, length, drop, refl, sym, ◌∙◌, ap, arith}
use Rattle.std.proofs.lemmas.Bool.{cases_lt}
use Rattle.std.proofs.lemmas.List.{drop_all}
use Rattle.std.proofs.lemmas.List.Elements.{All-nil}
use Rattle.std.specs.Prelude.{Result, Err}
use Rattle.std.specs.Option.{option_map, ForSome}
use Rattle.std.specs.declared.option.Option.{Option}
use Rattle.std.specs.declared.option.Option.TheVariants.{None, Some}
use Rattle.tpz_io.specs.Causes.{Rose}
use Rattle.tpz_base.specs.Cubes.{Row}
use Rattle.tpz_base.specs.Texts.{Bytes, Face}
use Rattle.ply_head.specs.declared.element.Element.{Element}
use Rattle.ply_head.specs.Heads.{IsSkipped, IsSmall}
use Rattle.ply_body.specs.declared.fault.BodyFault.{BodyFault}
use Rattle.ply_body.specs.declared.fault.BodyFault.TheVariants.{InputFault, WorkFault, WorkDamage}
use Rattle.ply_body.specs.declared.fault.BodyFault.TheVariants as fault
use Rattle.ply_body.specs.declared.faces.Faces.TheInside.{Inside}
use Rattle.ply_body.specs.declared.frame.Frame.{Frame}
use Rattle.ply_body.specs.declared.place.Place.{Place}
use Rattle.ply_body.specs.Items.{Items, ItemPlace}
use Rattle.ply_body.specs.Bodies.{Setting, Input, elements, no_input}
use Rattle.ply_body.specs.Inputs.{setting_of, vertex_count}
use Rattle.ply_body.specs.Readings.{Reading, coming, coming_told, faces_from, opened, with_faces, with_spots, IsOpened, IsRefusal, IsRest}
use Rattle.ply_body.specs.Places.{before, coming_of, cursor_of, IsPlaced, IsReason, IsWorkReason, Walks, WalkFails, WorkFails}
use Rattle.ply_body.specs.Reader.{reading_of, IsReader, IsReady}

-- what an opened reader is like
pub record IsNew (r : Inside) : Type 0 where
  pub next : r.walk.place.next ≡ 0
  pub frame : r.frame ≡ None
  pub refusal : r.refusal ≡ None
  pub given : r.given ≡ 0
  pub dropped : r.walk.dropped ≡ 0

pub is_new : (r : Inside) (v : Reading) → reading_of r ≡ v → IsOpened v → IsNew r
is_new r v is new =
    let e : reading_of r ≡ opened new.0 new.1 = is ∙ new.2 in
    record {
      next = ap (λ (x : Reading). x.cursor.next) e;
      frame = ap (λ (x : Reading). x.frame) e;
      refusal = ap (λ (x : Reading). x.refusal) e;
      given = ap (λ (x : Reading). x.given) e;
      dropped = ap (λ (x : Reading). x.dropped) e;
    }

spots_before : (s : Setting) (es : List Element) (next : ℕ) (rows : List Row) (o : Option Items)
    → option_map (λ (rest : Items). with_spots rows (faces_from s next (drop next es) rest)) o ≡ option_map (with_spots rows) (option_map (coming s (cursor_of (before next) es)) o)
spots_before s es next rows None = refl
spots_before s es next rows (Some items) = refl

-- what was told at the opening, by the rows and by what comes
pub loaded_told : (r : Inside) (place : Place) (next : ℕ) (rows : List Row) (old new : Option Items)
    → r.walk.place.next ≡ 0 → r.walk.vertices ≡ vertex_count r.walk.elements.items → place ≡ before next
    → option_map (elements (setting_of r.walk.elements.items r.digits) 0 r.walk.elements.items no_input) old
    ≡ option_map (λ (rest : Items). with_spots rows (faces_from (setting_of r.walk.elements.items r.digits) next (drop next r.walk.elements.items) rest)) new
    → option_map (elements (reading_of r).setting (reading_of r).cursor.next (reading_of r).cursor.behind no_input) old
    ≡ option_map (with_spots rows) (option_map (coming (reading_of r).setting (cursor_of place r.walk.elements.items)) new)
loaded_told r place next rows old new zero_next vertices at told =
    rw (zero_next, vertices, at) (told ∙ spots_before (setting_of r.walk.elements.items r.digits) r.walk.elements.items next rows new)

refused_at : (f : Items → Result Input BodyFault) (o : Option Items) (b : BodyFault) → ForSome o (λ rest. f rest ≡ Err b) → ForSome (option_map f o) (λ input. input ≡ Err b)
refused_at f None b h input told = absurd (cc)
refused_at f (Some items) b h input told = let e = h items refl in cc

pub loaded_refused : (r : Inside) (old : Option Items) (f : BodyFault) → r.walk.place.next ≡ 0 → r.walk.vertices ≡ vertex_count r.walk.elements.items
    → ForSome old (λ rest. elements (setting_of r.walk.elements.items r.digits) 0 r.walk.elements.items no_input rest ≡ Err f)
    → ForSome (option_map (elements (reading_of r).setting (reading_of r).cursor.next (reading_of r).cursor.behind no_input) old) (λ input. input ≡ Err f)
loaded_refused r old f zero_next vertices refused =
    rw (zero_next, vertices) (refused_at (elements (setting_of r.walk.elements.items r.digits) 0 r.walk.elements.items no_input) old f refused)

-- Behind the points there is an element.
within : (es : List Element) (next : ℕ) → IsRest (drop next es) → next < length es
within es next rest = by_case (cases_lt next (length es)) where
  by_between : (between : List Element) (face : Element) (behind : List Element) → [] ≡ between ++ face ∷ behind → ⊥
  by_between [] face behind is = cc
  by_between (b ∷ bs) face behind is = cc

  by_case : (next < length es) ⊎ (length es ≤ next) → next < length es
  by_case (inl h) = h
  by_case (inr h) = absurd (by_between rest.between rest.face rest.behind (sym (drop_all next es h) ∙ rest.order))

pub before_placed : (v : ℕ) (es : List Element) (next : ℕ) → IsSmall es → IsRest (drop next es) → IsPlaced v es (before next)
before_placed v es next small rest =
    let here = within es next rest in
    record {
      counted = record { next = omega (arith, small.few); rows = omega arith; corners = omega arith; few = omega arith };
      corners = λ none. absurd (omega (arith, none));
      behind = record { skipped = All-nil IsSkipped; reach = tt };
      layout = λ none. absurd (omega (arith, none));
      next = omega arith;
      order = inl (record { rest = rest; tally = refl; polygon = refl; plain = λ none. absurd (omega (arith, none)) });
    }

-- a reader without a refusal can read on
pub ready_of : (r : Inside) (v : Reading) (frame : Frame) → reading_of r ≡ v → IsReader r → (v.frame ≡ Some frame) ⊎ (v.refusal ≢ None) → r.refusal ≡ None → IsReady r frame
ready_of r v frame is it (inl e) none = it.ready frame (ap (λ (x : Reading). x.frame) is ∙ e) none
ready_of r v frame is it (inr e) none = absurd (e (sym (ap (λ (x : Reading). x.refusal) is) ∙ none))

-- A step between places in the elements, as contracts see it.
pub walked : (r r' : Inside) (told told' : Option Bytes) (faces : List Face)
    → r'.walk.elements ≡ r.walk.elements → r'.walk.vertices ≡ r.walk.vertices → r'.digits ≡ r.digits
    → Walks r.walk.vertices r.walk.elements.items r.walk.place r.walk.items told r'.walk.place r'.walk.items told' faces
    → coming_told (reading_of r) told ≡ option_map (with_faces faces) (coming_told (reading_of r') told')
walked r r' told told' faces same_elements same_vertices same_digits walks = rw (same_elements, same_vertices, same_digits) (walks.told (reading_of r).setting refl)

-- What a failed step says of each kind of fault.
pub failed_refused : {v : ℕ} {es : List Element} {p : Place} {i : ItemPlace} {l : Option Bytes} {before now before' now' : ℕ} {held : Option Bytes} {f : BodyFault}
    → WalkFails v es p i l before now f ⊎ WorkFails held before' now' f → IsRefusal f → (s : Setting) → s.vertices ≡ v
    → ForSome (coming_of s es p i l) (λ r. r ≡ Err f)
failed_refused {es = es} {p = p} {i = i} {l = l} {before = before} {now = now} {f = f} (inl h) is s here = by_fault (coming_of s es p i l) f is (h.reason s here) where
  by_fault : (coming : Option (Result (List Face) BodyFault)) (f : BodyFault) → IsRefusal f → IsReason coming before now f → ForSome coming (λ r. r ≡ Err f)
  by_fault coming InputFault is h = absurd is
  by_fault coming WorkFault is h = absurd is
  by_fault coming (WorkDamage offset) is h = absurd is
  by_fault coming (fault.Short e r) is h = h
  by_fault coming (fault.Number e r) is h = h
  by_fault coming (fault.Range e r) is h = h
  by_fault coming (fault.BadIndex e r i) is h = h
  by_fault coming (fault.Extent x y z) is h = h
  by_fault coming (fault.TooManyTris e r) is h = h
  by_fault coming (fault.TooLong e r) is h = h
failed_refused {before' = before'} {now' = now'} {held = held} {f = f} (inr h) is s here = absurd (by_fault f is h.reason) where
  by_fault : (f : BodyFault) → IsRefusal f → IsWorkReason held before' now' f → ⊥
  by_fault InputFault is h = is
  by_fault WorkFault is h = is
  by_fault (WorkDamage offset) is h = is
  by_fault (fault.Short e r) is h = h
  by_fault (fault.Number e r) is h = h
  by_fault (fault.Range e r) is h = h
  by_fault (fault.BadIndex e r i) is h = h
  by_fault (fault.Extent x y z) is h = h
  by_fault (fault.TooManyTris e r) is h = h
  by_fault (fault.TooLong e r) is h = h

pub failed_input : {v : ℕ} {es : List Element} {p : Place} {i : ItemPlace} {l : Option Bytes} {before now before' now' : ℕ} {held : Option Bytes}
    → WalkFails v es p i l before now InputFault ⊎ WorkFails held before' now' InputFault → (s : Setting) → s.vertices ≡ v → Rose before now
failed_input (inl h) s here = h.reason s here
failed_input (inr h) s here = absurd h.reason

pub failed_work : {v : ℕ} {es : List Element} {p : Place} {i : ItemPlace} {l : Option Bytes} {before now before' now' : ℕ} {held : Option Bytes}
    → WalkFails v es p i l before now WorkFault ⊎ WorkFails held before' now' WorkFault → (s : Setting) → s.vertices ≡ v → Rose before' now'
failed_work (inl h) s here = absurd (h.reason s here)
failed_work (inr h) s here = h.reason

pub failed_damage : {v : ℕ} {es : List Element} {p : Place} {i : ItemPlace} {l : Option Bytes} {before now before' now' offset : ℕ} {held : Option Bytes}
    → WalkFails v es p i l before now (WorkDamage offset) ⊎ WorkFails held before' now' (WorkDamage offset) → (s : Setting) → s.vertices ≡ v → held ≡ None
failed_damage (inl h) s here = absurd (h.reason s here)
failed_damage (inr h) s here = h.reason
