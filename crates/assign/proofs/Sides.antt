-- The number of the child by the side.
use Rattle.std.proofs.Common.{◌≡◌, ◌<◌, Bool, true, false, refl, sym, ap, arith}
use Rattle.std.specs.Prelude.{Option, Some, None, IfSome}
use Rattle.std.specs.Option.{option_map}
use mir.Val.{bool_byte}
use Rattle.tpz_base.specs.declared.shape.Tri.{Tri}
use Rattle.tpz_base.specs.Tetrahedra.{Tetrahedron, child_0, child_1}
use Rattle.tetra_name.specs.Names.{child_of}
use Rattle.assign.specs.Paths.{is_beyond, side_of, entered}

pub side_number : (t : Tri) (o : Option Tetrahedron) (b : Bool) → IfSome o (λ T. b ≡ is_beyond t T) → IfSome o (λ T. bool_byte b ≡ side_of t T)
unfolding side_of
side_number t None b h = h
side_number t (Some T) true h = rw (sym h) refl
side_number t (Some T) false h = rw (sym h) refl

entered_true : (t : Tri) (T : Tetrahedron) → is_beyond t T ≡ true → child_1 T ≡ entered t T
unfolding entered
entered_true t T e = rw e refl

entered_false : (t : Tri) (T : Tetrahedron) → is_beyond t T ≡ false → child_0 T ≡ entered t T
unfolding entered
entered_false t T e = rw e refl

pub side_child : (t : Tri) (o : Option Tetrahedron) (b : Bool) → IfSome o (λ T. b ≡ is_beyond t T) → child_of (bool_byte b) o ≡ option_map (entered t) o
unfolding child_of
side_child t None true h = refl
side_child t None false h = refl
side_child t (Some T) true h = ap Some (entered_true t T (sym h))
side_child t (Some T) false h = ap Some (entered_false t T (sym h))

pub few_sides : (b : Bool) → bool_byte b < 2
few_sides true = omega arith
few_sides false = omega arith
