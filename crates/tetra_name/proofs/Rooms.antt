-- The corners of a member lie in the cube.
use Rattle.std.proofs.Common.{◌≡◌, ℕ, zero, suc, ◌*◌, ◌%◌, ◌^◌, ◌≤◌, ◌<◌, true, List, [], ◌∷◌, map, sym, subst, arith}
use Rattle.std.specs.List.{AllByRecursion}
use Rattle.tpz_base.specs.declared.shape.Point.{Point}
use Rattle.tpz_base.specs.Points.{point_scale}
use Rattle.tpz_base.proofs.AxisPaths.{Order}
use Rattle.tpz_base.proofs.CutLaw.{Member}
use Rattle.tetra_name.specs.Places.{InBox}
use Rattle.tetra_name.specs.Steps.{is_member, long_axes, pairs, corners_at, IsScalable}
use Rattle.tetra_name.proofs.Flags.{spot, cube_list, face_list, edge_list, CubeFlag, FaceFlag, EdgeFlag}
use Rattle.tetra_name.proofs.Closed.{Corners, cube_found, face_found, edge_found}
use Rattle.tetra_name.proofs.Units.{along-box, big_middle}

-- the corners lie in the cube
box : (N : ℕ) (w : Order) (p q r : ℕ) → p ≤ N → q ≤ N → r ≤ N → InBox N (spot 1 w p q r)
box N w p q r a b c = along-box N w (1 * p) (1 * q) (1 * r) (omega (arith, a)) (omega (arith, b)) (omega (arith, c))

unscaled : (N : ℕ) (ps : List Point) → AllByRecursion (InBox N) (map (point_scale 1) ps) → AllByRecursion (InBox N) ps
unscaled N [] h = tt
unscaled N (p ∷ ps) h = (record { x = omega (arith, h.0.x); y = omega (arith, h.0.y); z = omega (arith, h.0.z) }, unscaled N ps h.1)

cube_inside : (N : ℕ) (ps : List Point) → CubeFlag 1 N ps → AllByRecursion (InBox N) ps
unfolding cube_list
cube_inside N ps F =
    subst (AllByRecursion (InBox N)) (sym F.is) (
      box N F.w F.a0 F.a1 F.a2 F.s0.a_in F.s1.a_in F.s2.a_in,
      (
        box N F.w F.b0 F.a1 F.a2 F.s0.b_in F.s1.a_in F.s2.a_in,
        (
          box N F.w F.b0 F.b1 F.a2 F.s0.b_in F.s1.b_in F.s2.a_in,
          (box N F.w F.b0 F.b1 F.b2 F.s0.b_in F.s1.b_in F.s2.b_in, tt),
        ),
      ),
    )

face_inside : (N : ℕ) (ps : List Point) → FaceFlag 1 N ps → AllByRecursion (InBox N) ps
unfolding face_list
face_inside N ps F =
    subst (AllByRecursion (InBox N)) (sym F.is) (
      box N F.w F.a0 F.a1 F.a2 F.s0.a_in F.s1.a_in F.s2.a_in,
      (
        box N F.w F.b0 F.a1 F.a2 F.s0.b_in F.s1.a_in F.s2.a_in,
        (
          box N F.w F.b0 F.b1 F.a2 F.s0.b_in F.s1.b_in F.s2.a_in,
          (box N F.w F.m0 F.m1 F.b2 (big_middle _ _ _ _ F.s0) (big_middle _ _ _ _ F.s1) F.s2.b_in, tt),
        ),
      ),
    )

edge_inside : (N : ℕ) (ps : List Point) → EdgeFlag 1 N ps → AllByRecursion (InBox N) ps
unfolding edge_list
edge_inside N ps F =
    subst (AllByRecursion (InBox N)) (sym F.is) (
      box N F.w F.a0 F.a1 F.a2 F.s0.a_in F.s1.a_in F.s2.a_in,
      (
        box N F.w F.b0 F.a1 F.a2 F.s0.b_in F.s1.a_in F.s2.a_in,
        (
          box N F.w F.m0 F.b1 F.a2 (big_middle _ _ _ _ F.s0) F.s1.b_in F.s2.a_in,
          (box N F.w F.m0 F.b1 F.b2 (big_middle _ _ _ _ F.s0) F.s1.b_in F.s2.b_in, tt),
        ),
      ),
    )

pub corners_inside : (N : ℕ) (u : Point) (q : ℕ × ℕ) (o : ℕ) → N % 2 ≡ 0 → InBox N u → long_axes u ≡ suc o → o < 3 → Member pairs q → is_member N u q ≡ true → AllByRecursion (InBox N) (corners_at u q)
corners_inside N u q zero even box e lt m valid = unscaled N (corners_at u q) (edge_inside N (Corners 1 u q) (edge_found 1 N u q even box e m valid))
corners_inside N u q (suc zero) even box e lt m valid = unscaled N (corners_at u q) (face_inside N (Corners 1 u q) (face_found 1 N u q even box e m valid))
corners_inside N u q (suc (suc zero)) even box e lt m valid = unscaled N (corners_at u q) (cube_inside N (Corners 1 u q) (cube_found 1 N u q even box e m valid))
corners_inside N u q (suc (suc (suc o))) even box e lt m valid = absurd (omega (arith, lt))

pub in_range : (j N m : ℕ) → 2 ^ j * N < 2 ^ 32 → m ≤ N → m * 2 ^ j < 2 ^ 32
in_range j N m h le = grind arith

pub scalable : (j N : ℕ) (ps : List Point) → 2 ^ j * N < 2 ^ 32 → AllByRecursion (InBox N) ps → AllByRecursion (IsScalable j) ps
scalable j N [] h a = tt
scalable j N (p ∷ ps) h a = ((in_range j N p.x h a.0.x, in_range j N p.y h a.0.y, in_range j N p.z h a.0.z), scalable j N ps h a.1)
