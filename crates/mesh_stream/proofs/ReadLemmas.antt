-- The triangles of an input, collected one by one.
use Rattle.std.proofs.Common.{◌≡◌, ℕ, zero, suc, ◌+◌, ◌*◌, ◌≤◌, Bool, true, false, cond, List, [], ◌∷◌, ◌++◌, length, refl, sym, ◌∙◌, ap, ap₂, subst, arith, append_assoc, Ok, Err, inl, inr}
use Rattle.std.specs.Prelude.{◌⊎◌, is_some, not, map, min, take, drop, filter, count_by, All, IsTrue, Result, ℤ, pos, unsigned_abs, slice_index_or}
use Rattle.std.specs.Option.{option_map, ForSome}
use Rattle.std.specs.declared.option.Option.{Option}
use Rattle.std.specs.declared.option.Option.TheVariants.{Some, None}
use Rattle.std.proofs.lemmas.List.{append-nil, map-append, length-map, length-take, take-take, take_min}
use Rattle.std.proofs.lemmas.List.Elements.{All-head, All-tail, filter-append}
use Rattle.std.proofs.lemmas.List.Sums.{sum_by-append}
use Rattle.tpz_base.specs.declared.shape.Point.{Point}
use Rattle.tpz_base.specs.declared.shape.Tri.{Tri}
use Rattle.tpz_base.specs.Meshes.{Mesh, is_whole}
use Rattle.tpz_io.specs.Told.{ahead, Changes}
use Rattle.tpz_base.specs.Cubes.{Row, level_bound, low_of}
use Rattle.tpz_base.specs.Texts.{Bytes, Face}
use Rattle.tpz_base.proofs.Elements.{count_by-filter}
use Rattle.ply_head.specs.declared.fault.HeadFault.{HeadFault}
use Rattle.ply_head.specs.declared.fault.HeadFault.TheVariants as head
use Rattle.ply_head.specs.Headers.{Heading, heading, default_digits}
use Rattle.ply_head.specs.Heads.{HeadState, IsHeadOf, IsRefusal as IsHeadRefusal}
use Rattle.ply_body.specs.declared.fault.BodyFault.{BodyFault}
use Rattle.ply_body.specs.declared.fault.BodyFault.TheVariants as body
use Rattle.ply_body.specs.declared.frame.Frame.{Frame}
use Rattle.ply_body.specs.Items.{◌>>=◌, MOST_BYTES, items_of}
use Rattle.ply_body.specs.Bodies.{Input, no_input, elements}
use Rattle.ply_body.specs.Inputs.{Refusal, InHead, InBody, refused_as, body as body_of, triangle_at, whole_of, broken_of, setting_of, mesh_of, dropped_of}
use Rattle.ply_body.specs.Spots.{coordinates, spots_of, rows_bytes, AreSpots, HoldsPoints, HoldsRows}
use Rattle.ply_body.proofs.SpotRows.{length-rows_bytes}
use Rattle.ply_body.proofs.CubeRows.{frame_spots}
use Rattle.ply_body.specs.Readings.{with_faces, with_spots, coming_told, input_told, opened, IsRefusal, Reading}
use Rattle.run_status.specs.declared.status.Status.{Status}
use Rattle.run_status.specs.declared.status.Status.TheVariants.{WorkDamage}
use Rattle.mesh_stream.specs.Digits.{digits_for, digits_of, input_for}
use Rattle.run_status.specs.Statuses.{head_status, body_status, status_of, IsRefused}
use Rattle.mesh_stream.specs.Readings.{AreWhole, HasOpened, IsInputLow, IsRefusalTold, TrisTold}

abbrev Coming : Type 0
Coming = Option (Result (List Face) BodyFault)

with_none : (r : Result (List Face) BodyFault) → with_faces [] r ≡ r
with_none (Ok fs) = refl
with_none (Err f) = refl

with_both : (fs gs : List Face) (r : Result (List Face) BodyFault) → with_faces fs (with_faces gs r) ≡ with_faces (fs ++ gs) r
with_both fs gs (Ok hs) = ap Ok (sym (append_assoc fs gs hs))
with_both fs gs (Err f) = refl

pub none_read : (c : Coming) → c ≡ option_map (with_faces []) c
none_read None = refl
none_read (Some r) = ap Some (sym (with_none r))

-- these faces, those behind them, and then what comes
pub more_read : (c0 c1 c2 : Coming) (fs gs : List Face) → c0 ≡ option_map (with_faces fs) c1 → c1 ≡ option_map (with_faces gs) c2
    → c0 ≡ option_map (with_faces (fs ++ gs)) c2
more_read c0 c1 None fs gs first second = first ∙ ap (option_map (with_faces fs)) second
more_read c0 c1 (Some r) fs gs first second = first ∙ ap (option_map (with_faces fs)) second ∙ ap Some (with_both fs gs r)

-- .. which is refused, or has no more than the last faces
pub read_refused : (c0 c1 : Coming) (fs : List Face) (f : BodyFault) → c0 ≡ option_map (with_faces fs) c1 → ForSome c1 (λ r. r ≡ Err f)
    → ForSome c0 (λ r. r ≡ Err f)
read_refused c0 c1 fs f first last = λ r told. go c1 r (sym first ∙ told) last where
  go : (c1 : Coming) (r : Result (List Face) BodyFault) → option_map (with_faces fs) c1 ≡ Some r → ForSome c1 (λ r. r ≡ Err f) → r ≡ Err f
  go None r told last = cc
  go (Some (Ok gs)) r told last = let same : Ok gs ≡ Err f = last (Ok gs) refl in cc
  go (Some (Err g)) r told last = let same : Err g ≡ Err f = last (Err g) refl in cc

pub read_all : (c0 c1 : Coming) (fs gs : List Face) → c0 ≡ option_map (with_faces fs) c1 → ForSome c1 (λ r. r ≡ Ok gs)
    → ForSome c0 (λ r. r ≡ Ok (fs ++ gs))
read_all c0 c1 fs gs first last = λ r told. go c1 r (sym first ∙ told) last where
  go : (c1 : Coming) (r : Result (List Face) BodyFault) → option_map (with_faces fs) c1 ≡ Some r → ForSome c1 (λ r. r ≡ Ok gs) → r ≡ Ok (fs ++ gs)
  go None r told last = cc
  go (Some (Ok hs)) r told last = let same : Ok hs ≡ Ok gs = last (Ok hs) refl in cc
  go (Some (Err g)) r told last = let same : Err g ≡ Ok gs = last (Err g) refl in cc

abbrev AreLost : List Point → List Face → Type 0
AreLost ps fs = All (λ f. is_whole (triangle_at ps f) ≡ false) fs

-- by the points that are held, all of these faces aren't whole; .. and then one is this triangle
abbrev pub AllLost : Frame → Option Bytes → List Face → Type 0
AllLost frame held lost = ForSome held (λ bytes. (low : Row) (rows : List Row) → AreSpots frame low rows → HoldsRows rows bytes → AreLost (spots_of low rows) lost)

abbrev pub OneGiven : Frame → Option Bytes → List Face → Face → Tri → Type 0
OneGiven frame held lost face t = ForSome held (λ bytes. (low : Row) (rows : List Row) → AreSpots frame low rows → HoldsRows rows bytes
    → AreLost (spots_of low rows) lost × (t ≡ triangle_at (spots_of low rows) face))

whole-append : (ps : List Point) (fs gs : List Face) → whole_of ps (fs ++ gs) ≡ whole_of ps fs ++ whole_of ps gs
whole-append ps fs gs =
    ap (filter is_whole) (map-append (triangle_at ps) fs gs) ∙ filter-append is_whole (map (triangle_at ps) fs) (map (triangle_at ps) gs)

broken-append : (ps : List Point) (fs gs : List Face) → broken_of ps (fs ++ gs) ≡ broken_of ps fs + broken_of ps gs
broken-append ps fs gs =
    ap (count_by (λ t. not (is_whole t))) (map-append (triangle_at ps) fs gs)
    ∙ sum_by-append (λ t. cond (not (is_whole t)) 1 0) (map (triangle_at ps) fs) (map (triangle_at ps) gs)

none_pass : {X Y : Type 0} (p : Y → Bool) (f : X → Y) (xs : List X) → All (λ x. p (f x) ≡ false) xs → filter p (map f xs) ≡ []
none_pass p f [] all = refl
none_pass p f (x ∷ xs) all = rw (All-head (λ x. p (f x) ≡ false) x xs all) (none_pass p f xs (All-tail (λ x. p (f x) ≡ false) x xs all))

others_pass : {X Y : Type 0} (p : Y → Bool) (f : X → Y) (xs : List X) → All (λ x. p (f x) ≡ false) xs → filter (λ y. not (p y)) (map f xs) ≡ map f xs
others_pass p f [] all = refl
others_pass p f (x ∷ xs) all =
    rw (All-head (λ x. p (f x) ≡ false) x xs all) (ap (λ ys. f x ∷ ys) (others_pass p f xs (All-tail (λ x. p (f x) ≡ false) x xs all)))

all_counted : {X Y : Type 0} (p : Y → Bool) (f : X → Y) (xs : List X) → All (λ x. p (f x) ≡ false) xs → count_by (λ y. not (p y)) (map f xs) ≡ length xs
all_counted p f xs all = count_by-filter (λ y. not (p y)) (map f xs) ∙ ap length (others_pass p f xs all) ∙ simp length-map

one_passes : {X Y : Type 0} (p : Y → Bool) (f : X → Y) (x : X) → p (f x) ≡ true → filter p (map f (x ∷ [])) ≡ f x ∷ []
one_passes p f x passes = rw passes refl

none_counted : {X Y : Type 0} (p : Y → Bool) (f : X → Y) (x : X) → p (f x) ≡ true → count_by (λ y. not (p y)) (map f (x ∷ [])) ≡ 0
none_counted p f x passes = rw passes refl

whole_lost : (ps : List Point) (lost : List Face) → AreLost ps lost → whole_of ps lost ≡ []
whole_lost ps lost all = none_pass is_whole (triangle_at ps) lost all

broken_lost : (ps : List Point) (lost : List Face) → AreLost ps lost → broken_of ps lost ≡ length lost
broken_lost ps lost all = all_counted is_whole (triangle_at ps) lost all

whole_one : (ps : List Point) (f : Face) (t : Tri) → t ≡ triangle_at ps f → IsTrue (is_whole t) → whole_of ps (f ∷ []) ≡ t ∷ []
whole_one ps f t is whole =
    one_passes is_whole (triangle_at ps) f (sym (ap is_whole is) ∙ whole) ∙ ap (λ (u : Tri). u ∷ []) (sym is)

broken_one : (ps : List Point) (f : Face) (t : Tri) → t ≡ triangle_at ps f → IsTrue (is_whole t) → broken_of ps (f ∷ []) ≡ 0
broken_one ps f t is whole = none_counted is_whole (triangle_at ps) f (sym (ap is_whole is) ∙ whole)

pub none_whole : (frame : Frame) (held : Option Bytes) (tris : Mesh) (dropped : ℕ) → tris ≡ [] → dropped ≡ 0 → AreWhole frame held [] tris dropped
none_whole frame held tris dropped no_tris no_dropped = λ bytes told low rows is holds. (no_tris, no_dropped)

-- one triangle more, behind some that aren't whole
pub one_whole : (frame : Frame) (held : Option Bytes) (faces lost : List Face) (face : Face) (t : Tri) (tris tris' : Mesh) (dropped dropped' : ℕ)
    → AreWhole frame held faces tris dropped → tris' ≡ tris ++ t ∷ [] → dropped' ≡ dropped + length lost → IsTrue (is_whole t)
    → OneGiven frame held lost face t
    → AreWhole frame held (faces ++ (lost ++ face ∷ [])) tris' dropped'
one_whole frame held faces lost face t tris tris' dropped dropped' are pushed counted whole more = λ bytes told low rows is holds.
    let ps = spots_of low rows in
    let old = are bytes told low rows is holds in
    let new = more bytes told low rows is holds in (
      pushed ∙ ap₂ (λ (l m : Mesh). l ++ m) old.0 (ap₂ (λ (l m : Mesh). l ++ m) (sym (whole_lost ps lost new.0)) (sym (whole_one ps face t new.1 whole)) ∙ sym (whole-append ps lost (face ∷ [])))
          ∙ sym (whole-append ps faces (lost ++ face ∷ [])),
      omega (arith, counted, old.1, broken-append ps faces (lost ++ face ∷ []), broken-append ps lost (face ∷ []), broken_lost ps lost new.0, broken_one ps face t new.1 whole),
    )

-- no triangle more
pub no_more_whole : (frame : Frame) (held : Option Bytes) (faces lost : List Face) (tris : Mesh) (dropped dropped' : ℕ)
    → AreWhole frame held faces tris dropped → dropped' ≡ dropped + length lost
    → AllLost frame held lost
    → AreWhole frame held (faces ++ lost) tris dropped'
no_more_whole frame held faces lost tris dropped dropped' are counted more = λ bytes told low rows is holds.
    let ps = spots_of low rows in
    let old = are bytes told low rows is holds in
    let new = more bytes told low rows is holds in (
      old.0 ∙ sym (append-nil (whole_of ps faces)) ∙ ap (λ (l : Mesh). whole_of ps faces ++ l) (sym (whole_lost ps lost new)) ∙ sym (whole-append ps faces lost),
      omega (arith, counted, old.1, broken-append ps faces lost, broken_lost ps lost new),
    )

-- A status of a refused input is that of a refusal.
pub refusal_of_body : (f : BodyFault) → IsRefused (body_status f) → IsRefusal f
refusal_of_body (body.Short element row) refused = refused
refusal_of_body (body.Number element row) refused = refused
refusal_of_body (body.Range element row) refused = refused
refusal_of_body (body.BadIndex element row index) refused = refused
refusal_of_body (body.Extent axis least greatest) refused = refused
refusal_of_body (body.TooManyTris element row) refused = refused
refusal_of_body (body.TooLong element row) refused = refused
refusal_of_body body.InputFault refused = refused
refusal_of_body body.WorkFault refused = refused
refusal_of_body (body.WorkDamage offset) refused = refused

pub refusal_of_head : (f : HeadFault) → IsRefused (head_status f) → IsHeadRefusal f
refusal_of_head (head.NotPly line) refused = refused
refusal_of_head (head.Format line) refused = refused
refusal_of_head (head.Line line) refused = refused
refusal_of_head (head.TypeName line) refused = refused
refusal_of_head (head.NoVertex line) refused = refused
refusal_of_head (head.NoFace line) refused = refused
refusal_of_head (head.FloatBinary line) refused = refused
refusal_of_head (head.TooMany line) refused = refused
refusal_of_head head.InputFault refused = refused
refusal_of_head head.Memory refused = refused

-- what an input means, by its header and what stands behind
body_told : (chosen : Option ℕ) (bytes : Bytes) (h : Heading) → heading bytes ≡ Ok h
    → input_for chosen bytes ≡ refused_as InBody (body_of h (digits_for chosen h.elements) (drop h.size bytes))
body_told None bytes h is =
    ap (λ (r : Result Heading HeadFault). refused_as InHead r >>= (λ (k : Heading). refused_as InBody (body_of k (default_digits k.elements) (drop k.size bytes)))) is
body_told (Some digits) bytes h is =
    ap (λ (r : Result Heading HeadFault). refused_as InHead r >>= (λ (k : Heading). refused_as InBody (body_of k digits (drop k.size bytes)))) is

pub head_told : (chosen : Option ℕ) (bytes : Bytes) (f : HeadFault) → heading bytes ≡ Err f → input_for chosen bytes ≡ Err (InHead f)
head_told None bytes f is =
    ap (λ (r : Result Heading HeadFault). refused_as InHead r >>= (λ (k : Heading). refused_as InBody (body_of k (default_digits k.elements) (drop k.size bytes)))) is
head_told (Some digits) bytes f is =
    ap (λ (r : Result Heading HeadFault). refused_as InHead r >>= (λ (k : Heading). refused_as InBody (body_of k digits (drop k.size bytes)))) is

pub same_status : {X : Type 0} (given status status' : Status) → ◌≡◌ {A = Result X Status} (Err given) (Err status) → given ≡ status' → status ≡ status'
same_status given status status' same is = cc

pub not_refused_yet : {P : Type 0} (refusal : Option BodyFault) (f : BodyFault) → refusal ≡ None → (refusal ≡ Some f) ⊎ P → P
not_refused_yet refusal f none (inl e) = let no : None ≡ Some f = sym none ∙ e in cc
not_refused_yet refusal f none (inr p) = p

pub damage_of_body : (f : BodyFault) (offset : ℕ) → body_status f ≡ WorkDamage offset → f ≡ body.WorkDamage offset
damage_of_body (body.Short element row) offset e = cc
damage_of_body (body.Number element row) offset e = cc
damage_of_body (body.Range element row) offset e = cc
damage_of_body (body.BadIndex element row index) offset e = cc
damage_of_body (body.Extent axis least greatest) offset e = cc
damage_of_body (body.TooManyTris element row) offset e = cc
damage_of_body (body.TooLong element row) offset e = cc
damage_of_body body.InputFault offset e = cc
damage_of_body body.WorkFault offset e = cc
damage_of_body (body.WorkDamage n) offset e = cc

-- what an input means, by what a reader that was opened behind its header still has to read
pub input_by : (chosen : Option ℕ) (head : HeadState) (reading : Reading) (digits : ℕ) (told left : Option Bytes) (bytes : Bytes) (r : Result Input BodyFault)
    → (size : ℕ) × IsHeadOf head size told (ahead head.held left) → digits ≡ digits_for chosen head.elements → reading ≡ opened head digits
    → told ≡ Some bytes → ForSome (input_told reading left) (λ x. x ≡ r) → input_for chosen bytes ≡ refused_as InBody r
input_by chosen head reading digits told left bytes r read scale is tells means =
    let h : Heading = record { format = head.format; elements = head.elements; size = read.0 } in
    let rest : ahead head.held left ≡ Some (drop read.0 bytes) = read.1.rest ∙ ap (option_map (drop read.0)) tells in
    let known : input_told (opened head digits) left ≡ Some (body_of h digits (drop read.0 bytes)) =
    ap (λ (o : Option Bytes). option_map (elements (setting_of head.elements digits) 0 head.elements no_input) (option_map (items_of head.format MOST_BYTES) o)) rest in
    let meant : body_of h digits (drop read.0 bytes) ≡ r = means _ (ap (λ (x : Reading). input_told x left) is ∙ known) in
    body_told chosen bytes h (read.1.heading bytes tells) ∙ ap (λ (d : ℕ). refused_as InBody (body_of h d (drop read.0 bytes))) (sym scale)
    ∙ ap (refused_as InBody) meant

one_meaning : (i j : Input) → ◌≡◌ {A = Result Input Refusal} (Ok i) (Ok j) → i ≡ j
one_meaning i j same = cc

pub some_same : {X : Type 0} {x y : X} → ◌≡◌ {A = Option X} (Some x) (Some y) → x ≡ y
some_same e = cc

-- what is told stays told
no_less : (head : HeadState) (reading : Reading) (digits : ℕ) (told left : Option Bytes) (bytes : Bytes)
    → (size : ℕ) × IsHeadOf head size told (ahead head.held left) → reading ≡ opened head digits → told ≡ Some bytes → input_told reading left ≡ None → ⊥
no_less head reading digits told left bytes read is tells none =
    let rest : ahead head.held left ≡ Some (drop read.0 bytes) = read.1.rest ∙ ap (option_map (drop read.0)) tells in
    let h : Heading = record { format = head.format; elements = head.elements; size = read.0 } in
    let known : input_told (opened head digits) left ≡ Some (body_of h digits (drop read.0 bytes)) =
    ap (λ (o : Option Bytes). option_map (elements (setting_of head.elements digits) 0 head.elements no_input) (option_map (items_of head.format MOST_BYTES) o)) rest in
    let no : None ≡ Some (body_of h digits (drop read.0 bytes)) = sym none ∙ ap (λ (x : Reading). input_told x left) is ∙ known in
    cc

-- what an opened reader still has to give is told where the input is
pub opened_means : (chosen : Option ℕ) (head : HeadState) (reading : Reading) (digits : ℕ) (told left : Option Bytes) (bytes : Bytes) (c : Coming) (rs : List Row)
    → (size : ℕ) × IsHeadOf head size told (ahead head.held left) → digits ≡ digits_for chosen head.elements → reading ≡ opened head digits
    → told ≡ Some bytes → input_told reading left ≡ option_map (with_spots rs) c
    → (r : Result (List Face) BodyFault) × (c ≡ Some r) × (input_for chosen bytes ≡ refused_as InBody (with_spots rs r))
opened_means chosen head reading digits told left bytes None rs read scale is tells first =
    absurd (no_less head reading digits told left bytes read is tells first)
opened_means chosen head reading digits told left bytes (Some r) rs read scale is tells first =
    (r, refl, input_by chosen head reading digits told left bytes (with_spots rs r) read scale is tells (λ x e. sym (some_same (sym first ∙ e))))

module _ (chosen : Option ℕ) (told left held : Option Bytes) (bytes : Bytes) (scale : ℕ) (frame : Frame) (reading : Reading)
    (o : HasOpened chosen told left held scale frame reading) (tells : told ≡ Some bytes) where
  -- an input is refused where the triangles are that were to come
  pub refused_by : (status status' : Status) → ForSome (coming_told reading left) (λ r. IsRefusalTold r status) → status' ≡ status
      → (x : Refusal) × (input_for chosen bytes ≡ Err x) × (status' ≡ status_of x)
  refused_by status status' last same =
      let m = o.means bytes tells in
      let why = last m.0 m.1 in
      (InBody why.0, m.2 ∙ ap (λ r. refused_as InBody (with_spots o.rows r)) why.1, same ∙ why.2)

  -- and means the rows with all triangles that came
  pub accepted_by : (faces : List Face) → ForSome (coming_told reading left) (λ r. r ≡ Ok faces) → input_for chosen bytes ≡ Ok (record { rows = o.rows; faces = faces })
  accepted_by faces all =
      let m = o.means bytes tells in
      m.2 ∙ ap (λ r. refused_as InBody (with_spots o.rows r)) (all m.0 m.1)

-- what was read is what an input of these rows and faces means
pub record IsRead (scale : ℕ) (frame : Frame) (tris : Mesh) (dropped digits : ℕ) (rows : List Row) (faces : List Face) : Type 0 where
  pub l : frame.l ≡ level_bound rows
  pub scaled : scale ≡ digits
  pub low : frame.low ≡ coordinates (low_of rows)
  pub whole : tris ≡ mesh_of rows faces
  pub lost : dropped ≡ dropped_of rows faces

pub all_read : (chosen : Option ℕ) (told left held held' : Option Bytes) (bytes holds : Bytes) (scale : ℕ) (frame : Frame) (reading last : Reading) (tris : Mesh) (rows : List Row) (faces : List Face)
    → HasOpened chosen told left held scale frame reading → told ≡ Some bytes → held ≡ Some holds → held' ≡ held → TrisTold reading last left held' frame tris
    → input_for chosen bytes ≡ Ok (record { rows = rows; faces = faces }) → IsRead scale frame tris last.dropped (digits_of chosen bytes) rows faces
all_read chosen told left held held' bytes holds scale frame reading last tris rows faces o tells keeps same_held t means =
    let is = accepted_by chosen told left held bytes scale frame reading o tells t.faces t.all in
    let same : record { rows = o.rows; faces = t.faces } ≡ record { rows = rows; faces = faces } =
    one_meaning (record { rows = o.rows; faces = t.faces }) (record { rows = rows; faces = faces }) (sym is ∙ means) in
    let whole = t.whole holds (same_held ∙ keeps) (low_of o.rows) o.rows (frame_spots frame o.rows o.framed) (o.points holds keeps) in
    record {
      l = o.framed.l ∙ ap (λ (i : Input). level_bound i.rows) same;
      scaled = o.digits bytes tells;
      low = o.framed.low ∙ ap (λ (i : Input). coordinates (low_of i.rows)) same;
      whole = whole.0 ∙ ap (λ (i : Input). mesh_of i.rows i.faces) same;
      lost = whole.1 ∙ ap (λ (i : Input). dropped_of i.rows i.faces) same;
    }

-- coordinates that are small where they stand, or aren't there
small_at : (zs : List ℤ) (i : ℕ) → All (λ z. unsigned_abs z ≤ 2147483647) zs → unsigned_abs (slice_index_or zs i (pos 0)) ≤ 2147483647
small_at [] i all = omega arith
small_at (z ∷ zs) zero all = All-head (λ z. unsigned_abs z ≤ 2147483647) z zs all
small_at (z ∷ zs) (suc i) all = small_at zs i (All-tail (λ z. unsigned_abs z ≤ 2147483647) z zs all)

pub low_small : (zs : List ℤ) → All (λ z. unsigned_abs z ≤ 2147483647) zs → IsInputLow zs
low_small zs all = record { x = small_at zs 0 all; y = small_at zs 1 all; z = small_at zs 2 all }

-- what is told before is told later
pub told_later : {X : Type 0} (old new : Option X) (x : X) → is_some new ≡ is_some old → old ≡ Some x → (y : X) × (new ≡ Some y)
told_later old (Some y) x same is = (y, refl)
told_later old None x same is = absurd (let no : false ≡ true = same ∙ ap is_some is in cc)

-- What is told later begins with what was told before a base, as far as that went.
abbrev pub KeepsFront : ℕ → Option Bytes → Option Bytes → Type 0
KeepsFront base before now = Changes (λ bytes bytes'. take (min base (length bytes)) bytes' ≡ take base bytes) before now

-- bytes that hold rows are as long as they
rows_long : (rows : List Row) (bytes : Bytes) → HoldsRows rows bytes → 12 * length rows ≤ length bytes
rows_long rows bytes holds =
    let len = length-rows_bytes rows in
    let cut = length-take (length (rows_bytes rows)) bytes in
    let same = ap length holds in
    omega arith

-- bytes with the same front hold the same rows
rows_kept : (base : ℕ) (bytes bytes' : Bytes) (rows : List Row) → base ≡ 12 * length rows → take (min base (length bytes)) bytes' ≡ take base bytes
    → HoldsRows rows bytes → HoldsRows rows bytes'
rows_kept base bytes bytes' rows size same holds =
    let len : length (rows_bytes rows) ≡ base = length-rows_bytes rows ∙ sym size in
    let long = rows_long rows bytes holds in
    let all : base ≡ min base (length bytes) = omega arith in
    ap (λ n. take n bytes') (len ∙ all) ∙ same ∙ ap (λ n. take n bytes) (sym len) ∙ holds

-- what is given by the points that a blob holds later is given by those that it held before, where its front is kept
pub given_before : (frame : Frame) (base : ℕ) (before now : Option Bytes) (lost : List Face) (face : Face) (t : Tri)
    → KeepsFront base before now → base ≡ 12 * frame.vertices → OneGiven frame now lost face t → OneGiven frame before lost face t
given_before frame base before now lost face t changes size given = λ bytes told low rows is holds.
    let later = told_later before now bytes changes.same_telling told in
    given later.0 later.1 low rows is (rows_kept base bytes later.0 rows (size ∙ ap (λ n. 12 * n) is.vertices) (changes.change bytes later.0 told later.1) holds)

pub lost_before : (frame : Frame) (base : ℕ) (before now : Option Bytes) (lost : List Face)
    → KeepsFront base before now → base ≡ 12 * frame.vertices → AllLost frame now lost → AllLost frame before lost
lost_before frame base before now lost changes size given = λ bytes told low rows is holds.
    let later = told_later before now bytes changes.same_telling told in
    given later.0 later.1 low rows is (rows_kept base bytes later.0 rows (size ∙ ap (λ n. 12 * n) is.vertices) (changes.change bytes later.0 told later.1) holds)

pub points_kept : (frame : Frame) (base : ℕ) (before now : Option Bytes)
    → KeepsFront base before now → base ≡ 12 * frame.vertices → ForSome before (HoldsPoints frame) → ForSome now (HoldsPoints frame)
points_kept frame base before now changes size points = λ bytes told.
    let first = told_later now before bytes (sym changes.same_telling) told in
    let p = points first.0 first.1 in
    (p.0, p.1, p.2, rows_kept base first.0 bytes p.1 (size ∙ ap (λ n. 12 * n) p.2.vertices) (changes.change first.0 bytes first.1 told) p.3)

pub same_front : (base : ℕ) (told : Option Bytes) → KeepsFront base told told
same_front base told = record {
  same_telling = refl;
  change = λ x y is is'. ap (take (min base (length x))) (some_same (sym is' ∙ is)) ∙ take_min base x;
}

front_twice : (base : ℕ) (x y z : Bytes) → take (min base (length x)) y ≡ take base x → take (min base (length y)) z ≡ take base y
    → take (min base (length x)) z ≡ take base x
front_twice base x y z first second =
    let n = min base (length x) in
    let long = ap length first in
    let cut = length-take n y in
    let cut' = length-take base x in
    let below : n ≤ min base (length y) = omega arith in
    let within : n ≤ base = omega arith in
    sym (take-take n (min base (length y)) z below) ∙ ap (take n) second ∙ take-take n base y within ∙ first

-- the front is kept from one to the next
pub fronts_join : (base base' : ℕ) (x y z : Option Bytes) → base' ≡ base → KeepsFront base x y → KeepsFront base' y z → KeepsFront base x z
fronts_join base base' x y z same first second = record {
  same_telling = second.same_telling ∙ first.same_telling;
  change = λ bytes bytes' told told'.
      let mid = told_later x y bytes first.same_telling told in
      front_twice base bytes mid.0 bytes' (first.change bytes mid.0 told mid.1)
      (subst (λ n. take (min n (length mid.0)) bytes' ≡ take n mid.0) same (second.change mid.0 bytes' mid.1 told'));
}

pub err_is : {X : Type 0} (s t : Status) → ◌≡◌ {A = Result X Status} (Err s) (Err t) → s ≡ t
err_is s t is = cc
