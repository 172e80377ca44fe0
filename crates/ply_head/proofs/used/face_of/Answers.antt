use Rattle.std.proofs.Common.{refl}
use Rattle.ply_head.specs.declared.element.Role.TheVariants.{Indices}
use Rattle.ply_head.specs.Headers.{is_index_list}
use Rattle.ply_head.proofs.RoleLemmas.{role_put}
use Rattle.ply_head.proofs.used.face_of.Goals as goal

pub returns : goal.returns
returns c =
    rw (
      c.new.ensures,
      c.put_role.ensures,
      c.first_index_list.ensures,
      c.in_ok-properties.ensures,
      c.as_slice-named.ensures,
      ← role_put is_index_list Indices c.args.declared.now.properties,
    ) refl
