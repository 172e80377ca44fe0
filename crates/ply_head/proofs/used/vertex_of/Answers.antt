use Rattle.std.proofs.Common.{refl}
use Rattle.std.specs.Prelude.{codes}
use Rattle.ply_head.specs.declared.element.Role.TheVariants.{X, Y, Z}
use Rattle.ply_head.specs.Headers.{is_scalar}
use Rattle.ply_head.proofs.RoleLemmas.{roles_put}
use Rattle.ply_head.proofs.used.vertex_of.Goals as goal

pub returns : goal.returns
returns c =
    rw (
      c.new.ensures,
      c.put_role-3.ensures,
      c.put_role-2.ensures,
      c.put_role.ensures,
      c.first_scalar.ensures,
      c.first_scalar-2.ensures,
      c.first_scalar-3.ensures,
      c.in_ok-properties.ensures,
      c.as_slice-named.ensures,
      ← roles_put (is_scalar (codes "x")) (is_scalar (codes "y")) (is_scalar (codes "z")) X Y Z (λ n. refl) (λ n. refl) (λ n. refl) c.args.declared.now.properties,
    ) refl
