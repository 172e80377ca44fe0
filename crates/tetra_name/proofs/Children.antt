-- Both children of every member, in closed form.
use Rattle.std.proofs.Common.{◌≡◌, ℕ, suc, ◌+◌, ◌*◌, ◌%◌, ◌≤◌, ◌<◌, Bool, true, false, not, map, refl, sym, ◌∙◌, ap, ap₂, subst, arith}
use Rattle.tpz_base.specs.declared.shape.Point.{Point}
use Rattle.tpz_base.specs.Points.{point_scale}
use Rattle.tpz_base.specs.Tetrahedra.{Tetrahedron, child_0, child_1}
use Rattle.tpz_base.proofs.CutLaw.{Member}
use Rattle.tpz_base.proofs.Distinct.{all_at}
use Rattle.tpz_base.proofs.AxisPaths.{Order, along}
use Rattle.tetra_name.specs.Places.{InBox}
use Rattle.tetra_name.specs.Steps.{moved, start, finish, allows, is_member, long_axes, pairs, opposite, rest_of, child_pair, child_point}
use Rattle.tetra_name.proofs.Directions.{first, second, third, shifted, moved-first, moved-second, moved-third, coordinate-first, coordinate-second, coordinate-third, forwards-first, forwards-second, forwards-third, long_axes-along, by_order, FirstSecond, FirstThird, SecondThird, all-first_second, all-first_third, all-second_third}
use Rattle.tetra_name.proofs.Closed.{way, ways, start_up, start_down, finish_up, finish_down, scale-along, long_allows, box-along, cube_is, face_is, edge_is, cube_kind, face_kind, edge_kind, member_parts, Corners}
use Rattle.tetra_name.proofs.ChildLaw.{Child, rest-second_third, opposite-first, may_back, cube_child_at_0, cube_child_at_1, face_child_at_0, face_child_at_1, edge_child_at_0, edge_child_at_1}

pub both : {X Y : Type 0} (F : X → Y → Type 0) (x x' : X) (y y' : Y) → x ≡ x' → y ≡ y' → F x y → F x' y'
both F x x' y y' e f h = subst (λ a. F a y') e (subst (λ b. F x b) f h)

-- a pair with its order of axes, signs and coordinates
pub record CubeParts (N : ℕ) (u : Point) (q : ℕ × ℕ) : Type 0 where
  pub w : Order
  pub b : Bool
  pub c : Bool
  pub d : Bool
  pub x : ℕ
  pub y : ℕ
  pub z : ℕ
  pub u_is : u ≡ along w x y z
  pub q_is : q ≡ (first w b, second w c)
  pub inside : (x ≤ N) × (y ≤ N) × (z ≤ N)
  pub x_way : x % 4 ≡ way b
  pub y_way : y % 4 ≡ way c
  pub z_way : z % 4 ≡ way d

pub cube_parts : (N : ℕ) (u : Point) (q : ℕ × ℕ) → InBox N u → long_axes u ≡ 3 → Member pairs q → is_member N u q ≡ true → CubeParts N u q
cube_parts N u q box o m valid =
    let d = all_at FirstSecond pairs all-first_second q m in
    let k = by_order d.w u in
    let o' : long_axes (along d.w k.p k.q k.r) ≡ 3 = subst (λ v. long_axes v ≡ 3) k.is o in
    let v : is_member N (along d.w k.p k.q k.r) (first d.w d.b, second d.w d.c) ≡ true = subst (λ r. is_member N (along d.w k.p k.q k.r) r ≡ true) d.is (subst (λ x. is_member N x q ≡ true) k.is valid) in
    let s : k.p % 2 + (k.q % 2 + k.r % 2) ≡ 3 = sym (long_axes-along d.w k.p k.q k.r) ∙ o' in
    let a = member_parts N (along d.w k.p k.q k.r) (first d.w d.b) (second d.w d.c) d.b d.c k.p k.q (forwards-first d.w d.b) (coordinate-first d.w d.b k.p k.q k.r) (forwards-second d.w d.c) (coordinate-second d.w d.c k.p k.q k.r) v in
    let t = ways k.r (omega (arith, s)) in
    record {
      w = d.w;
      b = d.b;
      c = d.c;
      d = t.0;
      x = k.p;
      y = k.q;
      z = k.r;
      u_is = k.is;
      q_is = d.is;
      inside = box-along N d.w k.p k.q k.r (subst (InBox N) k.is box);
      x_way = long_allows N d.b k.p (omega (arith, s)) a.may;
      y_way = long_allows N d.c k.q (omega (arith, s)) a.may';
      z_way = t.1;
    }

pub record FaceParts (N : ℕ) (u : Point) (q : ℕ × ℕ) : Type 0 where
  pub w : Order
  pub b : Bool
  pub c : Bool
  pub s : Bool
  pub x : ℕ
  pub y : ℕ
  pub z : ℕ
  pub u_is : u ≡ along w x y z
  pub q_is : q ≡ (first w b, third w s)
  pub inside : (x ≤ N) × (y ≤ N) × (z ≤ N)
  pub x_way : x % 4 ≡ way b
  pub y_way : y % 4 ≡ way c
  pub even : z % 2 ≡ 0
  pub may : allows N s z ≡ true

pub face_parts : (N : ℕ) (u : Point) (q : ℕ × ℕ) → InBox N u → long_axes u ≡ 2 → Member pairs q → is_member N u q ≡ true → FaceParts N u q
face_parts N u q box o m valid =
    let d = all_at FirstThird pairs all-first_third q m in
    let k = by_order d.w u in
    let o' : long_axes (along d.w k.p k.q k.r) ≡ 2 = subst (λ v. long_axes v ≡ 2) k.is o in
    let v : is_member N (along d.w k.p k.q k.r) (first d.w d.b, third d.w d.c) ≡ true = subst (λ r. is_member N (along d.w k.p k.q k.r) r ≡ true) d.is (subst (λ x. is_member N x q ≡ true) k.is valid) in
    let s : k.p % 2 + (k.q % 2 + k.r % 2) ≡ 2 = sym (long_axes-along d.w k.p k.q k.r) ∙ o' in
    let a = member_parts N (along d.w k.p k.q k.r) (first d.w d.b) (third d.w d.c) d.b d.c k.p k.r (forwards-first d.w d.b) (coordinate-first d.w d.b k.p k.q k.r) (forwards-third d.w d.c) (coordinate-third d.w d.c k.p k.q k.r) v in
    let p_odd : k.p % 2 ≡ 1 = omega (arith, a.m_odd, o') in
    let r_even : k.r % 2 ≡ 0 = omega (arith, a.n_odd, o') in
    let t = ways k.q (omega (arith, s, p_odd, r_even)) in
    record {
      w = d.w;
      b = d.b;
      c = t.0;
      s = d.c;
      x = k.p;
      y = k.q;
      z = k.r;
      u_is = k.is;
      q_is = d.is;
      inside = box-along N d.w k.p k.q k.r (subst (InBox N) k.is box);
      x_way = long_allows N d.b k.p p_odd a.may;
      y_way = t.1;
      even = r_even;
      may = a.may';
    }

pub record EdgeParts (N : ℕ) (u : Point) (q : ℕ × ℕ) : Type 0 where
  pub w : Order
  pub b : Bool
  pub s : Bool
  pub t : Bool
  pub x : ℕ
  pub y : ℕ
  pub z : ℕ
  pub u_is : u ≡ along w x y z
  pub q_is : q ≡ (second w s, third w t)
  pub inside : (x ≤ N) × (y ≤ N) × (z ≤ N)
  pub x_way : x % 4 ≡ way b
  pub y_even : y % 2 ≡ 0
  pub z_even : z % 2 ≡ 0
  pub may : allows N s y ≡ true
  pub may' : allows N t z ≡ true

pub edge_parts : (N : ℕ) (u : Point) (q : ℕ × ℕ) → InBox N u → long_axes u ≡ 1 → Member pairs q → is_member N u q ≡ true → EdgeParts N u q
edge_parts N u q box o m valid =
    let d = all_at SecondThird pairs all-second_third q m in
    let k = by_order d.w u in
    let o' : long_axes (along d.w k.p k.q k.r) ≡ 1 = subst (λ v. long_axes v ≡ 1) k.is o in
    let v : is_member N (along d.w k.p k.q k.r) (second d.w d.b, third d.w d.c) ≡ true = subst (λ r. is_member N (along d.w k.p k.q k.r) r ≡ true) d.is (subst (λ x. is_member N x q ≡ true) k.is valid) in
    let s : k.p % 2 + (k.q % 2 + k.r % 2) ≡ 1 = sym (long_axes-along d.w k.p k.q k.r) ∙ o' in
    let a = member_parts N (along d.w k.p k.q k.r) (second d.w d.b) (third d.w d.c) d.b d.c k.q k.r (forwards-second d.w d.b) (coordinate-second d.w d.b k.p k.q k.r) (forwards-third d.w d.c) (coordinate-third d.w d.c k.p k.q k.r) v in
    let q_even : k.q % 2 ≡ 0 = omega (arith, a.m_odd, o') in
    let r_even : k.r % 2 ≡ 0 = omega (arith, a.n_odd, o') in
    let t = ways k.p (omega (arith, s, q_even, r_even)) in
    record {
      w = d.w;
      b = t.0;
      s = d.b;
      t = d.c;
      x = k.p;
      y = k.q;
      z = k.r;
      u_is = k.is;
      q_is = d.is;
      inside = box-along N d.w k.p k.q k.r (subst (InBox N) k.is box);
      x_way = t.1;
      y_even = q_even;
      z_even = r_even;
      may = a.may;
      may' = a.may';
    }

-- the words of the code at each kind
module _ (u : Point) (q : ℕ × ℕ) where
  pub pair_3_0 : long_axes u ≡ 3 → child_pair 0 u q ≡ (q.0, rest_of u q)
  unfolding child_pair
  pair_3_0 e = rw e refl

  pub pair_3_1 : long_axes u ≡ 3 → child_pair 1 u q ≡ (q.1, opposite q.0)
  unfolding child_pair
  pair_3_1 e = rw e refl

  pub pair_2_0 : long_axes u ≡ 2 → child_pair 0 u q ≡ (rest_of u q, q.1)
  unfolding child_pair
  pair_2_0 e = rw e refl

  pub pair_2_1 : long_axes u ≡ 2 → child_pair 1 u q ≡ (opposite q.0, q.1)
  unfolding child_pair
  pair_2_1 e = rw e refl

  pub pair_1_0 : long_axes u ≡ 1 → child_pair 0 u q ≡ (rest_of u q, q.0)
  unfolding child_pair
  pair_1_0 e = rw e refl

  pub pair_1_1 : long_axes u ≡ 1 → child_pair 1 u q ≡ (opposite (rest_of u q), q.0)
  unfolding child_pair
  pair_1_1 e = rw e refl

  pub point_more_0 : (o : ℕ) → long_axes u ≡ suc (suc o) → child_point 0 u q ≡ moved 1 (opposite (rest_of u q)) u
  unfolding child_point
  point_more_0 o e = rw e refl

  pub point_more_1 : (o : ℕ) → long_axes u ≡ suc (suc o) → child_point 1 u q ≡ moved 1 q.0 u
  unfolding child_point
  point_more_1 o e = rw e refl

  pub point_1_0 : long_axes u ≡ 1 → child_point 0 u q ≡ moved 1 (opposite (rest_of u q)) (moved 1 q.0 (moved 1 q.1 (point_scale 2 u)))
  unfolding child_point
  point_1_0 e = rw e refl

  pub point_1_1 : long_axes u ≡ 1 → child_point 1 u q ≡ moved 1 (rest_of u q) (moved 1 q.0 (moved 1 q.1 (point_scale 2 u)))
  unfolding child_point
  point_1_1 e = rw e refl

-- the children of a cube's and of a face's member
module _ (h N : ℕ) (T : Tetrahedron) (u : Point) (q : ℕ × ℕ) (box : InBox N u) (m : Member pairs q) (valid : is_member N u q ≡ true) (is : T.corners ≡ Corners h u q) where
  pub cube_children : long_axes u ≡ 3 → T.level % 3 ≡ 0 → Child h N 2 (child_0 T) (child_point 0 u q) (child_pair 0 u q) × Child h N 2 (child_1 T) (child_point 1 u q) (child_pair 1 u q)
  cube_children o n =
      let P = cube_parts N u q box o m valid in
      let o' : long_axes (along P.w P.x P.y P.z) ≡ 3 = subst (λ v. long_axes v ≡ 3) P.u_is o in
      let list = is ∙ ap₂ (λ v r. Corners h v r) P.u_is P.q_is ∙ ap (map (point_scale h)) (cube_kind _ _ o') ∙ cube_is h P.w P.b P.c P.x P.y P.z P.x_way P.y_way in
      let c0 = cube_child_at_0 h N T P.w P.b P.c P.d P.x P.y P.z P.inside.0 P.inside.1 P.inside.2 P.x_way P.y_way P.z_way n list in
      let c1 = cube_child_at_1 h N T P.w P.b P.c P.d P.x P.y P.z P.inside.0 P.inside.1 P.inside.2 P.x_way P.y_way P.z_way n list in
      (both (λ v r. Child h N 2 (child_0 T) v r) _ _ _ _ (sym (point_more_0 u q 1 o)) (sym (pair_3_0 u q o)) (both (λ v r. Child h N 2 (child_0 T) (moved 1 (opposite (rest_of v r)) v) ((r.0, rest_of v r))) _ _ _ _ (sym P.u_is) (sym P.q_is) c0), both (λ v r. Child h N 2 (child_1 T) v r) _ _ _ _ (sym (point_more_1 u q 1 o)) (sym (pair_3_1 u q o)) (both (λ v r. Child h N 2 (child_1 T) (moved 1 r.0 v) ((r.1, opposite r.0))) _ _ _ _ (sym P.u_is) (sym P.q_is) c1))

  pub face_children : long_axes u ≡ 2 → T.level % 3 ≡ 1 → Child h N 1 (child_0 T) (child_point 0 u q) (child_pair 0 u q) × Child h N 1 (child_1 T) (child_point 1 u q) (child_pair 1 u q)
  face_children o n =
      let P = face_parts N u q box o m valid in
      let o' : long_axes (along P.w P.x P.y P.z) ≡ 2 = subst (λ v. long_axes v ≡ 2) P.u_is o in
      let list = is ∙ ap₂ (λ v r. Corners h v r) P.u_is P.q_is ∙ ap (map (point_scale h)) (face_kind _ _ o') ∙ face_is h P.w P.b P.s P.x P.y P.z P.x_way P.even in
      let c0 = face_child_at_0 h N T P.w P.b P.c P.s P.x P.y P.z P.inside.0 P.inside.1 P.x_way P.y_way P.even P.may n list in
      let c1 = face_child_at_1 h N T P.w P.b P.c P.s P.x P.y P.z P.inside.0 P.inside.1 P.x_way P.y_way P.even P.may n list in
      (both (λ v r. Child h N 1 (child_0 T) v r) _ _ _ _ (sym (point_more_0 u q 0 o)) (sym (pair_2_0 u q o)) (both (λ v r. Child h N 1 (child_0 T) (moved 1 (opposite (rest_of v r)) v) ((rest_of v r, r.1))) _ _ _ _ (sym P.u_is) (sym P.q_is) c0), both (λ v r. Child h N 1 (child_1 T) v r) _ _ _ _ (sym (point_more_1 u q 0 o)) (sym (pair_2_1 u q o)) (both (λ v r. Child h N 1 (child_1 T) (moved 1 r.0 v) ((opposite r.0, r.1))) _ _ _ _ (sym P.u_is) (sym P.q_is) c1))

double_shift : (d : Bool) (n : ℕ) → (d ≡ false → 0 < n) → shifted d 1 (2 * n) ≡ n + shifted d 1 n
double_shift true n pos = omega arith
double_shift false n pos = let lt = pos refl in omega (arith, lt)

double_start : (b : Bool) (m : ℕ) → m % 4 ≡ way b → shifted (not b) 1 (2 * m) ≡ start m + m
double_start true m e = let s = start_up m e in omega (arith, s, e)
double_start false m e = let s = start_down m e in omega (arith, s, e)

double_finish : (b : Bool) (m : ℕ) → m % 4 ≡ way b → shifted b 1 (2 * m) ≡ finish m + m
double_finish true m e = let s = finish_up m e in omega (arith, s, e)
double_finish false m e = let s = finish_down m e in omega (arith, s, e)

along_cong : (w : Order) (p q r p' q' r' : ℕ) → p ≡ p' → q ≡ q' → r ≡ r' → along w p q r ≡ along w p' q' r'
along_cong w p q r p' q' r' e f g = cc

-- three steps from the doubled point
pub three_steps : (w : Order) (d s t : Bool) (x y z : ℕ) → moved 1 (first w d) (moved 1 (second w s) (moved 1 (third w t) (point_scale 2 (along w x y z)))) ≡ along w (shifted d 1 (2 * x)) (shifted s 1 (2 * y)) (shifted t 1 (2 * z))
three_steps w d s t x y z =
    ap (λ P. moved 1 (first w d) (moved 1 (second w s) (moved 1 (third w t) P))) (scale-along 2 w x y z)
    ∙ ap (λ P. moved 1 (first w d) (moved 1 (second w s) P)) (moved-third 1 w t (2 * x) (2 * y) (2 * z))
    ∙ ap (moved 1 (first w d)) (moved-second 1 w s (2 * x) (2 * y) (shifted t 1 (2 * z)))
    ∙ moved-first 1 w d (2 * x) (shifted s 1 (2 * y)) (shifted t 1 (2 * z))

-- the children of an edge's member
module _ (h N : ℕ) (T : Tetrahedron) (u : Point) (q : ℕ × ℕ) (box : InBox N u) (m : Member pairs q) (valid : is_member N u q ≡ true) (is : T.corners ≡ Corners (2 * h) u q) where
  pub edge_children : long_axes u ≡ 1 → T.level % 3 ≡ 2 → Child h (2 * N) 3 (child_0 T) (child_point 0 u q) (child_pair 0 u q) × Child h (2 * N) 3 (child_1 T) (child_point 1 u q) (child_pair 1 u q)
  edge_children o n =
      let P = edge_parts N u q box o m valid in
      let o' : long_axes (along P.w P.x P.y P.z) ≡ 1 = subst (λ v. long_axes v ≡ 1) P.u_is o in
      let list = is ∙ ap₂ (λ v r. Corners (2 * h) v r) P.u_is P.q_is ∙ ap (map (point_scale (2 * h))) (edge_kind _ _ o') ∙ edge_is (2 * h) P.w P.s P.t P.x P.y P.z P.y_even P.z_even in
      let rest = rest-second_third P.w P.s P.t P.b P.x P.y P.z P.x_way in
      let dy = double_shift P.s P.y (may_back N P.s P.y P.y_even P.may) in
      let dz = double_shift P.t P.z (may_back N P.t P.z P.z_even P.may') in
      let at0 : moved 1 (opposite (rest_of (along P.w P.x P.y P.z) (second P.w P.s, third P.w P.t))) (moved 1 (second P.w P.s) (moved 1 (third P.w P.t) (point_scale 2 (along P.w P.x P.y P.z)))) ≡ along P.w (start P.x + P.x) (P.y + shifted P.s 1 P.y) (P.z + shifted P.t 1 P.z) =
      ap (λ d. moved 1 d (moved 1 (second P.w P.s) (moved 1 (third P.w P.t) (point_scale 2 (along P.w P.x P.y P.z))))) (ap opposite rest ∙ opposite-first P.w P.b)
      ∙ three_steps P.w (not P.b) P.s P.t P.x P.y P.z ∙ along_cong P.w _ _ _ _ _ _ (double_start P.b P.x P.x_way) dy dz in
      let at1 : moved 1 (rest_of (along P.w P.x P.y P.z) (second P.w P.s, third P.w P.t)) (moved 1 (second P.w P.s) (moved 1 (third P.w P.t) (point_scale 2 (along P.w P.x P.y P.z)))) ≡ along P.w (finish P.x + P.x) (P.y + shifted P.s 1 P.y) (P.z + shifted P.t 1 P.z) =
      ap (λ d. moved 1 d (moved 1 (second P.w P.s) (moved 1 (third P.w P.t) (point_scale 2 (along P.w P.x P.y P.z))))) rest
      ∙ three_steps P.w P.b P.s P.t P.x P.y P.z ∙ along_cong P.w _ _ _ _ _ _ (double_finish P.b P.x P.x_way) dy dz in
      let c0 = edge_child_at_0 h N T P.w P.b P.s P.t P.x P.y P.z P.x_way P.y_even P.z_even P.may P.may' n list in
      let c1 = edge_child_at_1 h N T P.w P.b P.s P.t P.x P.y P.z P.x_way P.y_even P.z_even P.may P.may' n list in
      let r0 : (first P.w P.b, second P.w P.s) ≡ (rest_of (along P.w P.x P.y P.z) (second P.w P.s, third P.w P.t), second P.w P.s) = ap (λ d. (d, second P.w P.s)) (sym rest) in
      let r1 : (first P.w (not P.b), second P.w P.s) ≡ (opposite (rest_of (along P.w P.x P.y P.z) (second P.w P.s, third P.w P.t)), second P.w P.s) = ap (λ d. (d, second P.w P.s)) (sym (ap opposite rest ∙ opposite-first P.w P.b)) in
      let d0 = both (λ v r. Child h (2 * N) 3 (child_0 T) v r) _ _ _ _ (sym at0) r0 c0 in
      let d1 = both (λ v r. Child h (2 * N) 3 (child_1 T) v r) _ _ _ _ (sym at1) r1 c1 in (
        both (λ v r. Child h (2 * N) 3 (child_0 T) v r) _ _ _ _ (sym (point_1_0 u q o)) (sym (pair_1_0 u q o))
            (both (λ v r. Child h (2 * N) 3 (child_0 T) (moved 1 (opposite (rest_of v r)) (moved 1 r.0 (moved 1 r.1 (point_scale 2 v)))) (rest_of v r, r.0)) _ _ _ _ (sym P.u_is) (sym P.q_is) d0),
        both (λ v r. Child h (2 * N) 3 (child_1 T) v r) _ _ _ _ (sym (point_1_1 u q o)) (sym (pair_1_1 u q o))
            (both (λ v r. Child h (2 * N) 3 (child_1 T) (moved 1 (rest_of v r) (moved 1 r.0 (moved 1 r.1 (point_scale 2 v)))) (opposite (rest_of v r), r.0)) _ _ _ _ (sym P.u_is) (sym P.q_is) d1),
      )
