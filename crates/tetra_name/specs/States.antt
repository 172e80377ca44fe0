-- A member's directions and slot from a small state of each axis: 0 and 1 where the bisected edge runs along it, forwards or backwards; 2 where a step either way stays in the cube; 3 where only one forwards does, 4 where only one backwards does.
use Rattle.std.specs.Prelude.{ℕ, zero, suc, ◌+◌, ◌-◌, ◌*◌, ◌/◌, ◌%◌, min, max, Bool, ◌==◌, nat_lt, cond, List, [], ◌∷◌}
use Rattle.std.specs.List.{slice_index_or}
use Rattle.tpz_base.specs.declared.shape.Point.{Point}
use Rattle.tpz_base.specs.Points.{point}
use Rattle.tetra_name.specs.Steps.{coordinate}

abbrev pub one : Bool → ℕ
one b = cond b 1 0

unfoldable pub axis_state : ℕ → ℕ → ℕ
axis_state N n = cond (n % 2 == 1) (n % 4 / 2) (cond (n == 0) 3 (cond (n == N) 4 2))

unfoldable pub states_of : ℕ → Point → Point
states_of N u = point (axis_state N u.x) (axis_state N u.y) (axis_state N u.z)

-- on how many axes the edge runs
unfoldable pub edge_axes : Point → ℕ
edge_axes S = one (nat_lt S.x 2) + (one (nat_lt S.y 2) + one (nat_lt S.z 2))

-- how many ways a step across goes
unfoldable pub ways : ℕ → ℕ
ways s = cond (s == 2) 2 1

-- the direction of the edge on an axis
unfoldable pub along_edge : ℕ → ℕ → ℕ
along_edge axis s = cond (s == 0) axis (5 - axis)

-- the step across at this place
unfoldable pub across : ℕ → ℕ → ℕ → ℕ
across axis s k = cond (k == 0) (cond (s == 4) (5 - axis) axis) (5 - axis)

-- the direction of the edge on the axis of neither direction
unfoldable pub third_direction : Point → ℕ × ℕ → ℕ
third_direction S q = let axis = 3 - min q.0 (5 - q.0) - min q.1 (5 - q.1) in along_edge axis (coordinate axis S)

-- whether a step across has another before it, and whether that is before e
unfoldable pub is_upper : ℕ → ℕ → ℕ
is_upper s d = cond (s == 2) (one (nat_lt 2 d)) 0

unfoldable pub other_before : ℕ → ℕ → ℕ → ℕ
other_before s d e = cond (s == 2) (one (nat_lt (5 - d) e)) 0

-- how many members are before the one that these directions tell
unfoldable pub quick_slot : Point → ℕ × ℕ → ℕ
quick_slot S q = of_kind (edge_axes S) where
  of_kind : ℕ → ℕ
  of_kind (suc (suc (suc o))) = 2 * (one (nat_lt q.1 q.0) + one (nat_lt (third_direction S q) q.0)) + one (nat_lt (third_direction S q) q.1)
  of_kind (suc (suc zero)) = ways (coordinate q.1 S) * one (nat_lt (third_direction S q) q.0) + is_upper (coordinate q.1 S) q.1
  of_kind _ =
      ways (coordinate q.1 S) * is_upper (coordinate q.0 S) q.0
      + ways (coordinate q.0 S) * (one (nat_lt q.1 q.0) + other_before (coordinate q.1 S) q.1 q.0)
      + is_upper (coordinate q.1 S) q.1

-- a cube's members by the directions of its diagonal: eight times six
unfoldable pub cube_pairs : List (ℕ × ℕ)
cube_pairs = (0, 1) ∷ (0, 2) ∷ (1, 0) ∷ (1, 2) ∷ (2, 0) ∷ (2, 1) ∷ (1, 2) ∷ (1, 5) ∷ (2, 1) ∷ (2, 5) ∷ (5, 1) ∷ (5, 2) ∷ (0, 2) ∷ (0, 4) ∷ (2, 0) ∷ (2, 4) ∷ (4, 0) ∷ (4, 2) ∷ (2, 4) ∷ (2, 5) ∷ (4, 2) ∷ (4, 5) ∷ (5, 2) ∷ (5, 4) ∷ (0, 1) ∷ (0, 3) ∷ (1, 0) ∷ (1, 3) ∷ (3, 0) ∷ (3, 1) ∷ (1, 3) ∷ (1, 5) ∷ (3, 1) ∷ (3, 5) ∷ (5, 1) ∷ (5, 3) ∷ (0, 3) ∷ (0, 4) ∷ (3, 0) ∷ (3, 4) ∷ (4, 0) ∷ (4, 3) ∷ (3, 4) ∷ (3, 5) ∷ (4, 3) ∷ (4, 5) ∷ (5, 3) ∷ (5, 4) ∷ []

unfoldable pub cube_pair : Point → ℕ → ℕ × ℕ
cube_pair S slot = slice_index_or cube_pairs (6 * (S.x + 2 * S.y + 4 * S.z) + slot) (0, 0)

unfoldable pub face_pair : ℕ → ℕ → ℕ → ℕ → ℕ → ℕ × ℕ
face_pair axis s low high slot = cond (nat_lt slot (ways s)) (low, across axis s slot) (high, across axis s (slot - ways s))

unfoldable pub edge_pair : ℕ → ℕ → ℕ → ℕ → ℕ → ℕ × ℕ
edge_pair a s b t slot =
    let first = cond (s == 4) 0 (ways t) in
    let second = first + cond (t == 4) 0 (ways s) in
    let third = second + cond (t == 3) 0 (ways s) in
    cond (nat_lt slot first) (a, across b t slot)
    (cond (nat_lt slot second) (b, across a s (slot - first)) (cond (nat_lt slot third) (5 - b, across a s (slot - second)) (5 - a, across b t (slot - third))))

unfoldable pub edge_pair_at : Point → ℕ → ℕ × ℕ
edge_pair_at S slot = cond (nat_lt S.x 2) (edge_pair 1 S.y 2 S.z slot) (cond (nat_lt S.y 2) (edge_pair 0 S.x 2 S.z slot) (edge_pair 0 S.x 1 S.y slot))

-- the directions of the member at a slot
unfoldable pub quick_pair : Point → ℕ → ℕ × ℕ
quick_pair S slot = of_kind (edge_axes S) where
  x : ℕ
  x = along_edge 0 S.x

  y : ℕ
  y = along_edge 1 S.y

  z : ℕ
  z = along_edge 2 S.z

  of_kind : ℕ → ℕ × ℕ
  of_kind (suc (suc (suc o))) = cube_pair S slot
  of_kind (suc (suc zero)) =
      cond (nat_lt S.x 2) (cond (nat_lt S.y 2) (face_pair 2 S.z (min x y) (max x y) slot) (face_pair 1 S.y (min x z) (max x z) slot)) (face_pair 0 S.x (min y z) (max y z) slot)
  of_kind _ = edge_pair_at S slot

-- how many members there are
unfoldable pub quick_count : Point → ℕ
quick_count S = of_kind (edge_axes S) where
  of_kind : ℕ → ℕ
  of_kind (suc (suc (suc o))) = 6
  of_kind o = 2 * (ways S.x * (ways S.y * ways S.z))
