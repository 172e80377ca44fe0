-- The mesh that is split by a cap is that of its finest cut.
use Rattle.std.proofs.Common.{◌≡◌, ℕ, ◌≤◌, ◌<◌, List, length, refl, sym, ◌∙◌, ap, ap₂, subst, Option, Some}
use Rattle.std.specs.Option.{unwrap_or}
use Rattle.tpz_base.specs.declared.shape.Point.{Point}
use Rattle.tpz_base.specs.Meshes.{Mesh}
use Rattle.tpz_base.specs.Cuts.{cut_mesh}
use Rattle.tpz_base.specs.Texts.{Bytes}
use Rattle.diamond_graph.specs.Adding.{most_centres}
use Rattle.diamond_graph.specs.Graphs.{centres, GraphState}
use Rattle.tri_stream.specs.Streams.{StreamsState}
use Rattle.assign.specs.Leaf.{leaf_patch}
use Rattle.assign.specs.Names.{LeafTable}
use Rattle.assign.specs.Splits.{split_set}
use Rattle.assign.specs.Standing.{HoldsPatches}
use Rattle.split_pass.specs.declared.fault.SplitFault.{SplitFault}
use Rattle.split_pass.specs.declared.fault.SplitFault.TheVariants as split
use Rattle.run_status.specs.declared.status.Status.TheVariants.{TooManyRecords}
use Rattle.finest_cut.specs.Cuts.{mesh_for}
use Rattle.run_status.specs.Statuses.{split_status}

pub split_mesh : (l cap : ℕ) (tris : Mesh) (graph : GraphState) (level : ℕ) (leaves : LeafTable) (s : StreamsState) (told : Option Bytes) (N : Mesh)
    → level ≡ l → graph.l ≡ level → centres graph ≡ split_set level cap tris → HoldsPatches level (split_set level cap tris) tris leaves s told
    → ((M : Mesh) → HoldsPatches graph.l (centres graph) M leaves s told → N ≡ cut_mesh graph.l (leaf_patch graph.l (centres graph) M) (centres graph))
    → N ≡ mesh_for (Some cap) l tris
unfolding mesh_for
split_mesh l cap tris graph level leaves s told N same its is holds made =
    let here : HoldsPatches graph.l (centres graph) tris leaves s told =
    subst (λ (n : ℕ). HoldsPatches n (centres graph) tris leaves s told) (sym its)
    (subst (λ (F : List Point). HoldsPatches level F tris leaves s told) (sym is) holds) in
    made tris here
    ∙ ap₂ (λ (n : ℕ) (F : List Point). cut_mesh n (leaf_patch n F tris) F) (its ∙ same) (is ∙ ap (λ (n : ℕ). split_set n cap tris) same)

pub few_split : (l cap level : ℕ) (tris : Mesh) → level ≡ l → length (split_set level cap tris) ≤ most_centres → length (split_set l cap tris) ≤ most_centres
few_split l cap level tris same few = subst (λ (n : ℕ). length (split_set n cap tris) ≤ most_centres) same few

pub many_split : (l cap level : ℕ) (tris : Mesh) → level ≡ l → most_centres < length (split_set level cap tris) → most_centres < length (split_set l cap tris)
many_split l cap level tris same many = subst (λ (n : ℕ). most_centres < length (split_set n cap tris)) same many

pub split_too_many : (f : SplitFault) → split_status f ≡ TooManyRecords → f ≡ split.TooManyRecords
split_too_many split.TooManyRecords is = refl
split_too_many split.WorkFault is = absurd cc
split_too_many (split.WorkDamage offset) is = absurd cc
split_too_many split.Memory is = absurd cc

pub counted_size : (o : Option ℕ) (n : ℕ) → o ≡ Some n → unwrap_or o 0 ≡ n
counted_size o n is = ap (λ o. unwrap_or o 0) is
