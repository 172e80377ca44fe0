-- Where no diamond is split, the mesh of the finest cut is that of the roots' triangles, root by root.
use Rattle.std.proofs.Common.{◌≡◌, ℕ, ◌∙◌, ap}
use Rattle.std.specs.Prelude.{count_by, Option, Some, None}
use Rattle.tpz_base.specs.Meshes.{Mesh, tri_eq, SameTriangles}
use Rattle.tpz_base.specs.Roots.{mesh_by_roots}
use Rattle.tpz_base.proofs.RootMesh.{root_mesh_is, root_mesh_same}
use Rattle.assign.proofs.LeafFacts.{finest-none}
use Rattle.assign.proofs.SplitLaw.{split_finest}
use Rattle.finest_cut.specs.Cuts.{mesh_for}

pub by_roots : (L : ℕ) (M : Mesh) → mesh_for None L M ≡ mesh_by_roots M
unfolding mesh_for
by_roots L M = finest-none L M ∙ root_mesh_is L M

-- the finest cut holds the triangles of the mesh, each once
pub each_once : (cap : Option ℕ) (L : ℕ) (M : Mesh) → SameTriangles (mesh_for cap L M) M
unfolding mesh_for
each_once None L M t = ap (count_by (tri_eq t)) (finest-none L M) ∙ root_mesh_same L M t
each_once (Some cap) L M t = split_finest L cap M t
