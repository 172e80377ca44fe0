-- The command `build`: the store that it leaves, and what it writes.
use Rattle.std.specs.Prelude.{◌≡◌, ◌⊎◌, ℕ, List, [], ◌∷◌, ◌++◌, length, codes, decimal, Option}
use Rattle.std.specs.Option.{ForSome}
use Rattle.tpz_io.specs.Writes.{Item, Note}
use Rattle.tpz_base.specs.Meshes.{Mesh}
use Rattle.tpz_base.specs.Cubes.{Row, low_of, level_bound}
use Rattle.tpz_base.specs.Texts.{Bytes, Face}
use Rattle.ply_body.specs.Inputs.{mesh_of, dropped_of}
use Rattle.ply_body.specs.Spots.{coordinates}
use Rattle.assign.specs.Splits.{split_set}
use Rattle.patch_file.specs.declared.shape.Params.{Params}
use Rattle.patch_file.specs.Bytes.{bytes_of}
use Rattle.patch_file.specs.Tables.{Table}
use Rattle.patch_file.specs.Written.{ReadsUnfinished}
use Rattle.build_pass.specs.declared.pass.Built.{Built}
use Rattle.build_pass.specs.Building.{greatest_fine, store_of}
use Rattle.command_build.specs.declared.build.Summary.{Summary}
use Rattle.mesh_stream.specs.declared.reading.InputStream.{InputStream}

-- what the store of an input of these digits, rows and faces says of its build
abbrev pub params_of : ℕ → ℕ → ℕ → List Row → List Face → Params
params_of cap budget scale rows faces = record {
  l = level_bound rows;
  digits = scale;
  low = coordinates (low_of rows);
  tris = length (mesh_of rows faces);
  dropped = dropped_of rows faces;
  cap = cap;
  budget = budget;
}

-- that of a stream that was read
abbrev pub stream_params : ℕ → ℕ → InputStream → Params
stream_params cap budget read = record {
  l = read.l;
  digits = read.digits;
  low = read.low;
  tris = read.tris;
  dropped = read.dropped;
  cap = cap;
  budget = budget;
}

-- the store of an input
abbrev pub input_store : ℕ → ℕ → ℕ → List Row → List Face → Bytes
input_store cap budget scale rows faces = store_of (mesh_of rows faces) (params_of cap budget scale rows faces)

-- the number of split diamonds of a mesh, and the greatest length of a fine list within the budget
abbrev pub built_of : ℕ → ℕ → ℕ → Mesh → Built
built_of L cap budget M = let F = split_set L cap M in record { records = length F; peak = greatest_fine L budget F M F }

-- what is told of the build of an input
abbrev pub summary_of : ℕ → ℕ → List Row → List Face → Summary
summary_of cap budget rows faces = record {
  tris = length (mesh_of rows faces);
  dropped = dropped_of rows faces;
  built = built_of (level_bound rows) cap budget (mesh_of rows faces);
}

-- the numbers of the mesh
abbrev pub read_text : Summary → Bytes
read_text s = codes "build tris " ++ (decimal s.tris ++ (codes " dropped " ++ decimal s.dropped))

-- and those of its build
abbrev pub built_text : Built → ℕ → Bytes
built_text b budget = codes " records " ++ (decimal b.records ++ (codes " peak " ++ (decimal b.peak ++ (codes " budget " ++ decimal budget))))

abbrev pub build_note : Summary → ℕ → Bytes
build_note s budget = read_text s ++ built_text s.built budget

-- the note of the build of an input
abbrev pub build_items : ℕ → ℕ → List Row → List Face → List Item
build_items cap budget rows faces = Note (build_note (summary_of cap budget rows faces) budget) ∷ []

-- What a build leaves in the store that isn't done: what was there, or bytes that are refused as too short or unfinished, or the whole store.
abbrev pub IsLeft : Option Bytes → Option Bytes → Bytes → Type 0
IsLeft held held' whole = (held' ≡ held) ⊎ ForSome held' (λ store. ReadsUnfinished store ⊎ (store ≡ whole))

-- The same where the mesh isn't told: the whole store of some table.
abbrev pub IsLeftOver : Option Bytes → Option Bytes → Type 0
IsLeftOver held held' = (held' ≡ held) ⊎ ForSome held' (λ store. ReadsUnfinished store ⊎ ((tb : Table) × (params : Params) × (store ≡ bytes_of tb params)))
