-- From a stream that was split and built to the store of an input.
use Rattle.std.proofs.Common.{◌≡◌, ◌⊎◌, ℕ, List, [], ◌∷◌, inl, inr, length, refl, sym, ◌∙◌, ap, ap₂, subst}
use Rattle.std.specs.Prelude.{◌≤◌, ℤ, unsigned_abs, All, Option, Some, None, Result, Err, pos}
use Rattle.std.specs.List.{slice_index_or}
use Rattle.tpz_base.specs.declared.shape.Point.{Point}
use Rattle.tpz_base.specs.Meshes.{Mesh}
use Rattle.tpz_base.specs.Cubes.{Row}
use Rattle.tpz_base.specs.Texts.{Bytes, Face}
use Rattle.ply_body.specs.Inputs.{mesh_of, dropped_of}
use Rattle.tri_stream.specs.declared.names.StreamId.{StreamId}
use Rattle.tri_stream.specs.Streams.{told_list, StreamsState}
use Rattle.assign.specs.Names.{LeafTable}
use Rattle.assign.specs.Splits.{split_set}
use Rattle.assign.specs.Standing.{HoldsPatches}
use Rattle.build_pass.specs.declared.fault.BuildFault.{BuildFault}
use Rattle.build_pass.specs.declared.fault.BuildFault.TheVariants as build
use Rattle.build_pass.specs.declared.pass.Built.{Built}
use Rattle.build_pass.specs.Building.{greatest_fine, IsBuildable}
use Rattle.build_pass.proofs.Coarsening.{held_right}
use Rattle.tpz_base.proofs.Elements.{all_from}
use Rattle.patch_file.specs.Blocks.{is_right_tri}
use Rattle.tri_stream.specs.Lists.{IsHeld}
use Rattle.diamond_graph.specs.Adding.{most_centres}
use Rattle.command_build.specs.declared.build.Summary.{Summary}
use Rattle.mesh_stream.specs.declared.reading.InputStream.{InputStream}
use Rattle.run_status.specs.declared.status.Status.{Status}
use Rattle.run_status.specs.declared.status.Status.TheVariants as status
use Rattle.command_build.specs.Build.{built_of, params_of, stream_params, summary_of}
use Rattle.mesh_stream.specs.Readings.{IsSmallStream, IsStreamOf}
use Rattle.run_status.specs.Statuses.{build_status, IsOfStreams, IsRefused, IsUnbuilt, IsUnread}
use Rattle.run_status.proofs.StreamFaults.{split_never, split_not_refused, split_unbuilt}

-- a list that is told has bytes that are told
pub told_bytes : (s : StreamsState) (told : Option Bytes) (id : StreamId) (M : Mesh) → told_list s told id ≡ Some M → (b : Bytes) × (told ≡ Some b)
told_bytes s None id M is = absurd cc
told_bytes s (Some b) id M is = (b, refl)

-- the split of a stream in the cube that its store tells
pub split_at : (L level cap : ℕ) (C : List Point) (M : Mesh) (leaves : LeafTable) (s : StreamsState) (told : Option Bytes) → level ≡ L → C ≡ split_set level cap M → HoldsPatches level (split_set level cap M) M leaves s told
    → (C ≡ split_set L cap M) × HoldsPatches L C M leaves s told
split_at L level cap C M leaves s told same is holds = (
  is ∙ ap (λ (n : ℕ). split_set n cap M) same,
  subst (λ (n : ℕ). HoldsPatches n C M leaves s told) same (subst (λ (F : List Point). HoldsPatches level F M leaves s told) (sym is) holds),
)

abbrev built_with : ℕ → ℕ → Built
built_with records peak = record { records = records; peak = peak }

pub built_is : (b : Built) (L cap budget : ℕ) (C : List Point) (M : Mesh) → b.records ≡ length C → C ≡ split_set L cap M
    → b.peak ≡ greatest_fine L budget (split_set L cap M) M (split_set L cap M) → b ≡ built_of L cap budget M
built_is b L cap budget C M records is peak = ap₂ built_with (records ∙ ap length is) peak

-- a stream that was read is one that every law of builds speaks of
pub stream_buildable : (cap budget : ℕ) (read : InputStream) (now : Option Bytes) (M : Mesh) (x y z : ℤ) → IsSmallStream now read → All (IsHeld read.l) M → read.tris ≡ length M → read.low ≡ x ∷ y ∷ z ∷ []
    → 1 ≤ cap → cap ≤ 16777216 → 1 ≤ budget → budget ≤ 4194304 → length (split_set read.l cap M) ≤ most_centres → IsBuildable M (stream_params cap budget read)
stream_buildable cap budget read now M x y z small held count three some_cap most_cap some most few =
    let level = small.level in
    let all = small.few in
    record {
      some_levels = level.0;
      few_levels = level.1;
      digits = small.digits;
      low_x = x;
      low_y = y;
      low_z = z;
      low = three;
      low_x_fits = subst (λ zs. unsigned_abs (slice_index_or zs 0 (pos 0)) ≤ 2147483647) three small.low.x;
      low_y_fits = subst (λ zs. unsigned_abs (slice_index_or zs 1 (pos 0)) ≤ 2147483647) three small.low.y;
      low_z_fits = subst (λ zs. unsigned_abs (slice_index_or zs 2 (pos 0)) ≤ 2147483647) three small.low.z;
      tris = count;
      all_tris = all;
      some_cap = some_cap;
      cap = most_cap;
      some_budget = some;
      budget = most;
      triangles = all_from (is_right_tri read.l None) M (held_right read.l M held);
      few_records = few;
    }

-- what a store says of a stream is what it says of the input
pub params_same : (cap budget scale : ℕ) (read : InputStream) (now : Option Bytes) (rows : List Row) (faces : List Face) → IsStreamOf read now scale rows faces
    → stream_params cap budget read ≡ params_of cap budget scale rows faces
params_same cap budget scale read now rows faces is =
    let l = is.l in
    let digits = is.digits in
    let low = is.low in
    let tris = is.tris in
    let dropped = is.dropped in
    cc

abbrev pub summary_with : ℕ → ℕ → Built → Summary
summary_with tris dropped built = record { tris = tris; dropped = dropped; built = built }

pub summary_same : (cap budget scale : ℕ) (read : InputStream) (now : Option Bytes) (rows : List Row) (faces : List Face) (b : Built) → IsStreamOf read now scale rows faces
    → b ≡ built_of read.l cap budget (mesh_of rows faces) → summary_with read.tris read.dropped b ≡ summary_of cap budget rows faces
summary_same cap budget scale read now rows faces b is built =
    ap (λ (n : ℕ). summary_with n read.dropped b) is.tris
    ∙ ap (λ (n : ℕ). summary_with (length (mesh_of rows faces)) n b) is.dropped
    ∙ ap (λ (x : Built). summary_with (length (mesh_of rows faces)) (dropped_of rows faces) x) (built ∙ ap (λ (n : ℕ). built_of n cap budget (mesh_of rows faces)) is.l)

-- reading an input doesn't end so
pub unread_never : {X : Type 0} {P : Type 0} (s t : Status) → IsUnread s → ◌≡◌ {A = Result X Status} (Err s) (Err t) → (IsUnread t → ⊥) → P
unread_never s t unread is never = absurd (let same : s ≡ t = cc in never (subst (λ x. IsUnread x) same unread))

-- what a store that isn't built is told as
pub build_told : (s : Status) (f : BuildFault) → s ≡ build_status f → (s ≡ status.StoreFault) ⊎ ((s ≡ status.TooManyRecords) ⊎ IsOfStreams s)
build_told s build.WorkFault is = inr (inr (inr (inl is)))
build_told s (build.WorkDamage offset) is = inr (inr (inr (inr (offset, is))))
build_told s build.StoreFault is = inl is
build_told s build.Memory is = inr (inr (inl is))

pub never_too_many : (s : Status) (f : BuildFault) → s ≡ build_status f → s ≡ status.TooManyRecords → ⊥
never_too_many s build.WorkFault is many = absurd cc
never_too_many s (build.WorkDamage offset) is many = absurd cc
never_too_many s build.StoreFault is many = absurd cc
never_too_many s build.Memory is many = absurd cc

pub store_fault_told : (s : Status) (f : BuildFault) → s ≡ build_status f → s ≡ status.StoreFault → f ≡ build.StoreFault
store_fault_told s build.WorkFault is fault = absurd cc
store_fault_told s (build.WorkDamage offset) is fault = absurd cc
store_fault_told s build.StoreFault is fault = refl
store_fault_told s build.Memory is fault = absurd cc

pub build_was_fault : (s : Status) (f : BuildFault) → s ≡ build_status f → s ≡ status.WorkFault → f ≡ build.WorkFault
build_was_fault s build.WorkFault is e = refl
build_was_fault s (build.WorkDamage offset) is e = absurd cc
build_was_fault s build.StoreFault is e = absurd cc
build_was_fault s build.Memory is e = absurd cc

pub build_was_damage : (s : Status) (f : BuildFault) (offset : ℕ) → s ≡ build_status f → s ≡ status.WorkDamage offset → f ≡ build.WorkDamage offset
build_was_damage s build.WorkFault offset is e = absurd cc
build_was_damage s (build.WorkDamage n) offset is e = cc
build_was_damage s build.StoreFault offset is e = absurd cc
build_was_damage s build.Memory offset is e = absurd cc

-- what a stream that is stored ends with is no other status
pub stored_never : {X : Type 0} (s t : Status) → (s ≡ status.StoreFault) ⊎ ((s ≡ status.TooManyRecords) ⊎ IsOfStreams s) → s ≡ t → (status.StoreFault ≡ t → ⊥)
    → (status.TooManyRecords ≡ t → ⊥) → (status.Memory ≡ t → ⊥) → (status.WorkFault ≡ t → ⊥) → ((offset : ℕ) → status.WorkDamage offset ≡ t → ⊥) → X
stored_never s t (inl e) is store many memory work damage = absurd (store (sym e ∙ is))
stored_never s t (inr k) is store many memory work damage = split_never s t k is many memory work damage

pub stored_not_refused : (s : Status) → (s ≡ status.StoreFault) ⊎ ((s ≡ status.TooManyRecords) ⊎ IsOfStreams s) → IsRefused s → ⊥
stored_not_refused s (inl e) h = subst (λ x. IsRefused x) e h
stored_not_refused s (inr k) h = split_not_refused s k h

pub stored_unbuilt : (s : Status) → (s ≡ status.StoreFault) ⊎ ((s ≡ status.TooManyRecords) ⊎ IsOfStreams s) → IsUnbuilt s
stored_unbuilt s (inl e) = subst (λ x. IsUnbuilt x) (sym e) tt
stored_unbuilt s (inr k) = split_unbuilt s k

-- what ends a reading may end a build
pub unread_unbuilt : (s : Status) → IsUnread s → IsUnbuilt s
unread_unbuilt status.Ok h = absurd h
unread_unbuilt status.Usage h = absurd h
unread_unbuilt (status.BadInput kind place) h = tt
unread_unbuilt (status.Extent axis least greatest) h = tt
unread_unbuilt status.InputFault h = tt
unread_unbuilt status.WorkFault h = tt
unread_unbuilt (status.WorkDamage offset) h = tt
unread_unbuilt status.StoreFault h = absurd h
unread_unbuilt (status.NotEmpty len) h = absurd h
unread_unbuilt status.TooManyRecords h = absurd h
unread_unbuilt (status.ScriptBad line) h = absurd h
unread_unbuilt status.ScriptFault h = absurd h
unread_unbuilt (status.BadStore why) h = absurd h
unread_unbuilt (status.ReadFault at) h = absurd h
unread_unbuilt status.OutFault h = absurd h
unread_unbuilt status.Memory h = tt
