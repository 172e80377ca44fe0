-- The diamonds that a cap splits.
use Rattle.std.specs.Prelude.{ℕ, List, [], Option, Some, None}
use Rattle.tpz_base.specs.declared.shape.Point.{Point}
use Rattle.tpz_base.specs.Meshes.{Mesh}
use Rattle.tpz_base.specs.Cubes.{Row, level_bound}
use Rattle.tpz_base.specs.Texts.{Face}
use Rattle.ply_body.specs.Inputs.{mesh_of}
use Rattle.assign.specs.Splits.{split_set}

-- the diamonds that are split: none without a cap
abbrev pub split_for : Option ℕ → ℕ → Mesh → List Point
split_for None L M = []
split_for (Some cap) L M = split_set L cap M

-- the diamonds that are split for an input
abbrev pub finest_split : Option ℕ → List Row → List Face → List Point
finest_split cap rows faces = split_for cap (level_bound rows) (mesh_of rows faces)
