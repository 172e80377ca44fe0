-- One triangle is numbered after another.
use Rattle.std.proofs.Common.{◌∷◌, ◌++◌, [], List, sym, ap₂, ◌∙◌}
use Rattle.std.proofs.lemmas.List.{take_more}
use Rattle.std.proofs.lemmas.Option.{get_or_from_slice_get, slice_get_within}
use Rattle.tpz_base.specs.declared.shape.Tri.{Tri}
use Rattle.mesh_gen.specs.Generator.{generated}
use Rattle.command_gen.proofs.generate.number_generated.Goals as goal

pub tris-preserved : goal.tris-preserved
tris-preserved c =
    let M = generated c.args.size in
    let t = c.gen_tri.result in
    let at = c.gen_tri.ensures.tri in
    record {
      mesh =
          c.in_ok-add.ensures.mesh
          ∙ ap₂ (λ (N : List Tri) (s : Tri). N ++ s ∷ []) c.tris.invariant.mesh (sym (get_or_from_slice_get M c.tris.i t t at))
          ∙ sym (take_more M c.tris.i t (slice_get_within M c.tris.i t at));
      numbering = c.in_ok-add.ensures.numbering;
    }
