-- A flag with this centre is the member of one pair of directions, and each such pair gives a flag.
use Rattle.std.proofs.Common.{◌≡◌, ℕ, zero, suc, ◌+◌, ◌-◌, ◌/◌, ◌%◌, ◌≤◌, ◌<◌, Bool, true, false, List, map, refl, sym, ◌∙◌, ap, ap₂, subst, inl, inr, arith}
use Rattle.std.proofs.lemmas.Bool.{and_parts, and_from, eqb-true, eq-eqb, ltb-true, lt-ltb}
use Rattle.tpz_base.specs.declared.shape.Point.{Point}
use Rattle.tpz_base.specs.Points.{point_scale}
use Rattle.tpz_base.proofs.CutLaw.{Member}
use Rattle.tpz_base.proofs.Distinct.{all_at}
use Rattle.tpz_base.proofs.AxisPaths.{Order, xyz, xzy, yxz, yzx, zxy, zyx, along}
use Rattle.tetra_name.specs.Steps.{moved, coordinate, is_forwards, start, finish, start_point, finish_point, allows, is_allowed, is_member, long_axes, pairs, cube_corners, face_corners, edge_corners, corners_at}
use Rattle.tetra_name.specs.Places.{InBox}
use Rattle.tetra_name.proofs.Flags.{spot, Big, Small, cube_list, face_list, edge_list, CubeFlag, FaceFlag, EdgeFlag, four}
use Rattle.tetra_name.proofs.Directions.{first, second, third, shifted, moved-first, moved-second, moved-third, coordinate-first, coordinate-second, coordinate-third, forwards-first, forwards-second, forwards-third, start-along, finish-along, long_axes-along, by_order, pair-first_second, pair-first_third, pair-second_third, FirstSecond, FirstThird, SecondThird, all-first_second, all-first_third, all-second_third}

-- the rest of a long axis' coordinate modulo four, by the way that the step goes
abbrev pub way : Bool → ℕ
way true = 1
way false = 3

pub start_up : (m : ℕ) → m % 4 ≡ 1 → start m ≡ m - 1
unfolding start
start_up m e = let odd : m % 2 ≡ 1 = omega (arith, e) in rw (odd, e) refl

pub start_down : (m : ℕ) → m % 4 ≡ 3 → start m ≡ m + 1
unfolding start
start_down m e = let odd : m % 2 ≡ 1 = omega (arith, e) in rw (odd, e) refl

pub finish_up : (m : ℕ) → m % 4 ≡ 1 → finish m ≡ m + 1
unfolding finish
finish_up m e = let odd : m % 2 ≡ 1 = omega (arith, e) in rw (odd, e) refl

pub finish_down : (m : ℕ) → m % 4 ≡ 3 → finish m ≡ m - 1
unfolding finish
finish_down m e = let odd : m % 2 ≡ 1 = omega (arith, e) in rw (odd, e) refl

pub start_flat : (m : ℕ) → m % 2 ≡ 0 → start m ≡ m
unfolding start
start_flat m e = rw e refl

pub finish_flat : (m : ℕ) → m % 2 ≡ 0 → finish m ≡ m
unfolding finish
finish_flat m e = rw e refl

-- from one end to the other
pub shift_start : (b : Bool) (m : ℕ) → m % 4 ≡ way b → shifted b 2 (start m) ≡ finish m
shift_start true m e = rw (start_up m e, finish_up m e) (omega (arith, e))
shift_start false m e = rw (start_down m e, finish_down m e) (omega (arith, e))

pub ways : (m : ℕ) → m % 2 ≡ 1 → (b : Bool) × (m % 4 ≡ way b)
ways m e = cases (m % 4) refl where
  cases : (r : ℕ) → m % 4 ≡ r → (b : Bool) × (m % 4 ≡ way b)
  cases zero k = absurd (omega (arith, k, e))
  cases (suc zero) k = (true, k)
  cases (suc (suc zero)) k = absurd (omega (arith, k, e))
  cases (suc (suc (suc zero))) k = (false, k)
  cases (suc (suc (suc (suc r)))) k = absurd (omega (arith, k))

-- a long axis
pub record Long (N a b m : ℕ) : Type 0 where
  pub up : Bool
  pub odd : m % 2 ≡ 1
  pub rest : m % 4 ≡ way up
  pub a_is : a ≡ start m
  pub b_is : b ≡ finish m

pub long_of : (N a b m : ℕ) → Big N a b m → Long N a b m
long_of N a b m s =
    elim s.near [
      | inl k ↦
          let r : m % 4 ≡ 1 = omega (arith, k.1, s.even) in
          record { up = true; odd = omega (arith, r); rest = r; a_is = omega (arith, k.1, start_up m r); b_is = omega (arith, k.0, k.1, finish_up m r) }
      | inr k ↦
          let r : m % 4 ≡ 3 = omega (arith, k.0, k.1, s.even) in
          record { up = false; odd = omega (arith, r); rest = r; a_is = omega (arith, k.0, k.1, start_down m r); b_is = omega (arith, k.1, finish_down m r) }
    ]

pub big_of : (N : ℕ) (b : Bool) (m : ℕ) → N % 2 ≡ 0 → m ≤ N → m % 4 ≡ way b → Big N (start m) (finish m) m
big_of N true m n h e = rw (start_up m e, finish_up m e) (record { even = omega (arith, e); near = inl (omega (arith, e), omega (arith, e)); a_in = omega (arith, h); b_in = omega (arith, e, n, h) })
big_of N false m n h e = rw (start_down m e, finish_down m e) (record { even = omega (arith, e); near = inr (omega (arith, e), omega (arith, e)); a_in = omega (arith, e, n, h); b_in = omega (arith, h) })

pub allows_long : (N : ℕ) (b : Bool) (m : ℕ) → m % 4 ≡ way b → allows N b m ≡ true
unfolding allows
allows_long N true m e = let odd : m % 2 ≡ 1 = omega (arith, e) in rw (odd, e) refl
allows_long N false m e = let odd : m % 2 ≡ 1 = omega (arith, e) in rw (odd, e) refl

pub long_allows : (N : ℕ) (b : Bool) (m : ℕ) → m % 2 ≡ 1 → allows N b m ≡ true → m % 4 ≡ way b
unfolding allows
long_allows N true m odd h = eqb-true (m % 4) 1 (rw odd at h)
long_allows N false m odd h = eqb-true (m % 4) 3 (rw odd at h)

-- a flat axis
pub record Flat (N a b : ℕ) : Type 0 where
  pub up : Bool
  pub even : a % 2 ≡ 0
  pub may : allows N up a ≡ true
  pub b_is : b ≡ shifted up 1 a

pub flat_of : (N a b : ℕ) → Small N a b → Flat N a b
unfolding allows
flat_of N a b s =
    elim s.near [
      | inl k ↦ record { up = true; even = s.even; may = rw s.even (lt-ltb a N (omega (arith, k, s.b_in))); b_is = k }
      | inr k ↦ record { up = false; even = s.even; may = rw s.even (lt-ltb 0 a (omega (arith, k))); b_is = omega (arith, k) }
    ]

pub small_of : (N : ℕ) (b : Bool) (m : ℕ) → m ≤ N → m % 2 ≡ 0 → allows N b m ≡ true → Small N m (shifted b 1 m)
unfolding allows
small_of N true m h e k = let l : m < N = ltb-true m N (rw e at k) in record { even = e; near = inl refl; a_in = h; b_in = omega (arith, l) }
small_of N false m h e k = let l : 0 < m = ltb-true 0 m (rw e at k) in record { even = e; near = inr (omega (arith, l)); a_in = h; b_in = omega (arith, h) }

pub scale-along : (h : ℕ) (w : Order) (p q r : ℕ) → point_scale h (along w p q r) ≡ spot h w p q r
scale-along h xyz p q r = refl
scale-along h xzy p q r = refl
scale-along h yxz p q r = refl
scale-along h yzx p q r = refl
scale-along h zxy p q r = refl
scale-along h zyx p q r = refl

pub box-along : (N : ℕ) (w : Order) (p q r : ℕ) → InBox N (along w p q r) → (p ≤ N) × (q ≤ N) × (r ≤ N)
box-along N xyz p q r h = (h.x, h.y, h.z)
box-along N xzy p q r h = (h.x, h.z, h.y)
box-along N yxz p q r h = (h.y, h.x, h.z)
box-along N yzx p q r h = (h.y, h.z, h.x)
box-along N zxy p q r h = (h.z, h.x, h.y)
box-along N zyx p q r h = (h.z, h.y, h.x)

on : (h : ℕ) (w : Order) (P : Point) (p q r : ℕ) → P ≡ along w p q r → point_scale h P ≡ spot h w p q r
on h w P p q r e = ap (point_scale h) e ∙ scale-along h w p q r

-- the corners of each kind
pub cube_is : (h : ℕ) (w : Order) (b c : Bool) (p q r : ℕ) → p % 4 ≡ way b → q % 4 ≡ way c
    → map (point_scale h) (cube_corners (along w p q r) (first w b, second w c)) ≡ cube_list h w (start p) (start q) (start r) (finish p) (finish q) (finish r)
unfolding cube_corners cube_list
cube_is h w b c p q r e f =
    let x0 = start-along w p q r in
    let x1 : moved 2 (first w b) (start_point (along w p q r)) ≡ along w (finish p) (start q) (start r) =
    ap (moved 2 (first w b)) x0 ∙ moved-first 2 w b (start p) (start q) (start r) ∙ ap (λ n. along w n (start q) (start r)) (shift_start b p e) in
    let x2 : moved 2 (second w c) (moved 2 (first w b) (start_point (along w p q r))) ≡ along w (finish p) (finish q) (start r) =
    ap (moved 2 (second w c)) x1 ∙ moved-second 2 w c (finish p) (start q) (start r) ∙ ap (λ n. along w (finish p) n (start r)) (shift_start c q f) in
    four (on h w _ _ _ _ x0) (on h w _ _ _ _ x1) (on h w _ _ _ _ x2) (on h w _ _ _ _ (finish-along w p q r))

pub face_is : (h : ℕ) (w : Order) (b c : Bool) (p q r : ℕ) → p % 4 ≡ way b → r % 2 ≡ 0
    → map (point_scale h) (face_corners (along w p q r) (first w b, third w c)) ≡ face_list h w (start p) (start q) r (finish p) (finish q) p q (shifted c 1 r)
unfolding face_corners face_list
face_is h w b c p q r e f =
    let x0 : start_point (along w p q r) ≡ along w (start p) (start q) r = start-along w p q r ∙ ap (λ n. along w (start p) (start q) n) (start_flat r f) in
    let x1 : moved 2 (first w b) (start_point (along w p q r)) ≡ along w (finish p) (start q) r =
    ap (moved 2 (first w b)) x0 ∙ moved-first 2 w b (start p) (start q) r ∙ ap (λ n. along w n (start q) r) (shift_start b p e) in
    let x2 : finish_point (along w p q r) ≡ along w (finish p) (finish q) r = finish-along w p q r ∙ ap (λ n. along w (finish p) (finish q) n) (finish_flat r f) in
    four (on h w _ _ _ _ x0) (on h w _ _ _ _ x1) (on h w _ _ _ _ x2) (on h w _ _ _ _ (moved-third 1 w c p q r))

pub edge_is : (h : ℕ) (w : Order) (b c : Bool) (p q r : ℕ) → q % 2 ≡ 0 → r % 2 ≡ 0
    → map (point_scale h) (edge_corners (along w p q r) (second w b, third w c)) ≡ edge_list h w (start p) q r (finish p) p (shifted b 1 q) (shifted c 1 r)
unfolding edge_corners edge_list
edge_is h w b c p q r e f =
    let x0 : start_point (along w p q r) ≡ along w (start p) q r = start-along w p q r ∙ ap₂ (λ m n. along w (start p) m n) (start_flat q e) (start_flat r f) in
    let x1 : finish_point (along w p q r) ≡ along w (finish p) q r = finish-along w p q r ∙ ap₂ (λ m n. along w (finish p) m n) (finish_flat q e) (finish_flat r f) in
    let x2 : moved 1 (second w b) (along w p q r) ≡ along w p (shifted b 1 q) r = moved-second 1 w b p q r in
    let x3 : moved 1 (third w c) (moved 1 (second w b) (along w p q r)) ≡ along w p (shifted b 1 q) (shifted c 1 r) = ap (moved 1 (third w c)) x2 ∙ moved-third 1 w c p (shifted b 1 q) r in
    four (on h w _ _ _ _ x0) (on h w _ _ _ _ x1) (on h w _ _ _ _ x2) (on h w _ _ _ _ x3)

-- which pairs are members
pub member_from : (N : ℕ) (u : Point) (d e : ℕ) (b c : Bool) (m n : ℕ) → is_forwards d ≡ b → coordinate d u ≡ m → is_forwards e ≡ c → coordinate e u ≡ n
    → allows N b m ≡ true → allows N c n ≡ true → m % 2 ≡ long_axes u / 2 → n % 2 ≡ long_axes u / 3 → is_member N u (d, e) ≡ true
unfolding is_member is_allowed
member_from N u d e b c m n f g i j may may' k l =
    rw (f, g, i, j) (and_from _ _ (and_from _ _ may may') (and_from _ _ (eq-eqb (m % 2) (long_axes u / 2) k) (eq-eqb (n % 2) (long_axes u / 3) l)))

pub record Parts (N : ℕ) (b c : Bool) (m n o : ℕ) : Type 0 where
  pub may : allows N b m ≡ true
  pub may' : allows N c n ≡ true
  pub m_odd : m % 2 ≡ o / 2
  pub n_odd : n % 2 ≡ o / 3

pub member_parts : (N : ℕ) (u : Point) (d e : ℕ) (b c : Bool) (m n : ℕ) → is_forwards d ≡ b → coordinate d u ≡ m → is_forwards e ≡ c → coordinate e u ≡ n
    → is_member N u (d, e) ≡ true → Parts N b c m n (long_axes u)
unfolding is_member is_allowed
member_parts N u d e b c m n f g i j h =
    let k = rw (f, g, i, j) at h in
    let a = and_parts _ _ k in
    let may = and_parts _ _ a.0 in
    let odd = and_parts _ _ a.1 in
    record { may = may.0; may' = may.1; m_odd = eqb-true (m % 2) (long_axes u / 2) odd.0; n_odd = eqb-true (n % 2) (long_axes u / 3) odd.1 }

pub cube_kind : (u : Point) (q : ℕ × ℕ) → long_axes u ≡ 3 → corners_at u q ≡ cube_corners u q
unfolding corners_at
cube_kind u q e = rw e refl

pub face_kind : (u : Point) (q : ℕ × ℕ) → long_axes u ≡ 2 → corners_at u q ≡ face_corners u q
unfolding corners_at
face_kind u q e = rw e refl

pub edge_kind : (u : Point) (q : ℕ × ℕ) → long_axes u ≡ 1 → corners_at u q ≡ edge_corners u q
unfolding corners_at
edge_kind u q e = rw e refl

-- the pair of directions of these corners
pub record Found (N h : ℕ) (u : Point) (ps : List Point) : Type 0 where
  pub q : ℕ × ℕ
  pub has : Member pairs q
  pub valid : is_member N u q ≡ true
  pub is : ps ≡ map (point_scale h) (corners_at u q)

list_cong : (h : ℕ) (w : Order) (a0 a1 a2 b0 b1 b2 c0 c1 c2 d0 d1 d2 : ℕ) → a0 ≡ c0 → a1 ≡ c1 → a2 ≡ c2 → b0 ≡ d0 → b1 ≡ d1 → b2 ≡ d2 → cube_list h w a0 a1 a2 b0 b1 b2 ≡ cube_list h w c0 c1 c2 d0 d1 d2
list_cong h w a0 a1 a2 b0 b1 b2 c0 c1 c2 d0 d1 d2 e0 e1 e2 f0 f1 f2 = cc

pub found_cube : (h N : ℕ) (ps : List Point) (F : CubeFlag h N ps) → Found N h (along F.w F.m0 F.m1 F.m2) ps
found_cube h N ps F =
    let l0 = long_of N F.a0 F.b0 F.m0 F.s0 in
    let l1 = long_of N F.a1 F.b1 F.m1 F.s1 in
    let l2 = long_of N F.a2 F.b2 F.m2 F.s2 in
    let o : long_axes (along F.w F.m0 F.m1 F.m2) ≡ 3 = long_axes-along F.w F.m0 F.m1 F.m2 ∙ omega (arith, l0.odd, l1.odd, l2.odd) in
    record {
      q = (first F.w l0.up, second F.w l1.up);
      has = pair-first_second F.w l0.up l1.up;
      valid = member_from N (along F.w F.m0 F.m1 F.m2) (first F.w l0.up) (second F.w l1.up) l0.up l1.up F.m0 F.m1 (forwards-first F.w l0.up) (coordinate-first F.w l0.up F.m0 F.m1 F.m2)
          (forwards-second F.w l1.up) (coordinate-second F.w l1.up F.m0 F.m1 F.m2) (allows_long N l0.up F.m0 l0.rest) (allows_long N l1.up F.m1 l1.rest) (omega (arith, o, l0.odd)) (omega (arith, o, l1.odd));
      is = F.is ∙ list_cong h F.w F.a0 F.a1 F.a2 F.b0 F.b1 F.b2 _ _ _ _ _ _ l0.a_is l1.a_is l2.a_is l0.b_is l1.b_is l2.b_is
          ∙ sym (ap (map (point_scale h)) (cube_kind _ _ o) ∙ cube_is h F.w l0.up l1.up F.m0 F.m1 F.m2 l0.rest l1.rest);
    }

face_cong : (h : ℕ) (w : Order) (a0 a1 a2 b0 b1 m0 m1 b2 c0 c1 d0 d1 d2 : ℕ) → a0 ≡ c0 → a1 ≡ c1 → b0 ≡ d0 → b1 ≡ d1 → b2 ≡ d2 → face_list h w a0 a1 a2 b0 b1 m0 m1 b2 ≡ face_list h w c0 c1 a2 d0 d1 m0 m1 d2
face_cong h w a0 a1 a2 b0 b1 m0 m1 b2 c0 c1 d0 d1 d2 e0 e1 f0 f1 f2 = cc

pub found_face : (h N : ℕ) (ps : List Point) (F : FaceFlag h N ps) → Found N h (along F.w F.m0 F.m1 F.a2) ps
found_face h N ps F =
    let l0 = long_of N F.a0 F.b0 F.m0 F.s0 in
    let l1 = long_of N F.a1 F.b1 F.m1 F.s1 in
    let l2 = flat_of N F.a2 F.b2 F.s2 in
    let o : long_axes (along F.w F.m0 F.m1 F.a2) ≡ 2 = long_axes-along F.w F.m0 F.m1 F.a2 ∙ omega (arith, l0.odd, l1.odd, l2.even) in
    record {
      q = (first F.w l0.up, third F.w l2.up);
      has = pair-first_third F.w l0.up l2.up;
      valid = member_from N (along F.w F.m0 F.m1 F.a2) (first F.w l0.up) (third F.w l2.up) l0.up l2.up F.m0 F.a2 (forwards-first F.w l0.up) (coordinate-first F.w l0.up F.m0 F.m1 F.a2)
          (forwards-third F.w l2.up) (coordinate-third F.w l2.up F.m0 F.m1 F.a2) (allows_long N l0.up F.m0 l0.rest) l2.may (omega (arith, o, l0.odd)) (omega (arith, o, l0.odd));
      is = F.is ∙ face_cong h F.w F.a0 F.a1 F.a2 F.b0 F.b1 F.m0 F.m1 F.b2 _ _ _ _ _ l0.a_is l1.a_is l0.b_is l1.b_is l2.b_is
          ∙ sym (ap (map (point_scale h)) (face_kind _ _ o) ∙ face_is h F.w l0.up l2.up F.m0 F.m1 F.a2 l0.rest l2.even);
    }

edge_cong : (h : ℕ) (w : Order) (a0 a1 a2 b0 m0 b1 b2 c0 d0 d1 d2 : ℕ) → a0 ≡ c0 → b0 ≡ d0 → b1 ≡ d1 → b2 ≡ d2 → edge_list h w a0 a1 a2 b0 m0 b1 b2 ≡ edge_list h w c0 a1 a2 d0 m0 d1 d2
edge_cong h w a0 a1 a2 b0 m0 b1 b2 c0 d0 d1 d2 e0 f0 f1 f2 = cc

pub found_edge : (h N : ℕ) (ps : List Point) (F : EdgeFlag h N ps) → Found N h (along F.w F.m0 F.a1 F.a2) ps
found_edge h N ps F =
    let l0 = long_of N F.a0 F.b0 F.m0 F.s0 in
    let l1 = flat_of N F.a1 F.b1 F.s1 in
    let l2 = flat_of N F.a2 F.b2 F.s2 in
    let o : long_axes (along F.w F.m0 F.a1 F.a2) ≡ 1 = long_axes-along F.w F.m0 F.a1 F.a2 ∙ omega (arith, l0.odd, l1.even, l2.even) in
    record {
      q = (second F.w l1.up, third F.w l2.up);
      has = pair-second_third F.w l1.up l2.up;
      valid = member_from N (along F.w F.m0 F.a1 F.a2) (second F.w l1.up) (third F.w l2.up) l1.up l2.up F.a1 F.a2 (forwards-second F.w l1.up) (coordinate-second F.w l1.up F.m0 F.a1 F.a2)
          (forwards-third F.w l2.up) (coordinate-third F.w l2.up F.m0 F.a1 F.a2) l1.may l2.may (omega (arith, o, l1.even)) (omega (arith, o, l2.even));
      is = F.is ∙ edge_cong h F.w F.a0 F.a1 F.a2 F.b0 F.m0 F.b1 F.b2 _ _ _ _ l0.a_is l0.b_is l1.b_is l2.b_is
          ∙ sym (ap (map (point_scale h)) (edge_kind _ _ o) ∙ edge_is h F.w l1.up l2.up F.m0 F.a1 F.a2 l1.even l2.even);
    }

-- the other way
abbrev pub Corners : ℕ → Point → ℕ × ℕ → List Point
Corners h u q = map (point_scale h) (corners_at u q)

pub cube_found : (h N : ℕ) (u : Point) (q : ℕ × ℕ) → N % 2 ≡ 0 → InBox N u → long_axes u ≡ 3 → Member pairs q → is_member N u q ≡ true → CubeFlag h N (Corners h u q)
cube_found h N u q even box o m valid =
    let d = all_at FirstSecond pairs all-first_second q m in
    let k = by_order d.w u in
    let box' : InBox N (along d.w k.p k.q k.r) = subst (InBox N) k.is box in
    let o' : long_axes (along d.w k.p k.q k.r) ≡ 3 = subst (λ v. long_axes v ≡ 3) k.is o in
    let valid' : is_member N (along d.w k.p k.q k.r) (first d.w d.b, second d.w d.c) ≡ true = subst (λ r. is_member N (along d.w k.p k.q k.r) r ≡ true) d.is (subst (λ v. is_member N v q ≡ true) k.is valid) in
    let same : Corners h (along d.w k.p k.q k.r) (first d.w d.b, second d.w d.c) ≡ Corners h u q = ap₂ (λ v r. Corners h v r) (sym k.is) (sym d.is) in
    subst (CubeFlag h N) same (made d.w d.b d.c k.p k.q k.r (box-along N d.w k.p k.q k.r box') o' valid')
  where
    made : (w : Order) (b c : Bool) (p q r : ℕ) → (p ≤ N) × (q ≤ N) × (r ≤ N) → long_axes (along w p q r) ≡ 3 → is_member N (along w p q r) (first w b, second w c) ≡ true
        → CubeFlag h N (Corners h (along w p q r) (first w b, second w c))
    made w b c p q r box o valid =
        let s : p % 2 + (q % 2 + r % 2) ≡ 3 = sym (long_axes-along w p q r) ∙ o in
        let a = member_parts N (along w p q r) (first w b) (second w c) b c p q (forwards-first w b) (coordinate-first w b p q r) (forwards-second w c) (coordinate-second w c p q r) valid in
        let p_way = long_allows N b p (omega (arith, s)) a.may in
        let q_way = long_allows N c q (omega (arith, s)) a.may' in
        let t = ways r (omega (arith, s)) in
        record {
          w = w;
          a0 = start p;
          a1 = start q;
          a2 = start r;
          b0 = finish p;
          b1 = finish q;
          b2 = finish r;
          m0 = p;
          m1 = q;
          m2 = r;
          s0 = big_of N b p even box.0 p_way;
          s1 = big_of N c q even box.1 q_way;
          s2 = big_of N t.0 r even box.2 t.1;
          is = ap (map (point_scale h)) (cube_kind _ _ o) ∙ cube_is h w b c p q r p_way q_way;
        }

pub face_found : (h N : ℕ) (u : Point) (q : ℕ × ℕ) → N % 2 ≡ 0 → InBox N u → long_axes u ≡ 2 → Member pairs q → is_member N u q ≡ true → FaceFlag h N (Corners h u q)
face_found h N u q even box o m valid =
    let d = all_at FirstThird pairs all-first_third q m in
    let k = by_order d.w u in
    let box' : InBox N (along d.w k.p k.q k.r) = subst (InBox N) k.is box in
    let o' : long_axes (along d.w k.p k.q k.r) ≡ 2 = subst (λ v. long_axes v ≡ 2) k.is o in
    let valid' : is_member N (along d.w k.p k.q k.r) (first d.w d.b, third d.w d.c) ≡ true = subst (λ r. is_member N (along d.w k.p k.q k.r) r ≡ true) d.is (subst (λ v. is_member N v q ≡ true) k.is valid) in
    let same : Corners h (along d.w k.p k.q k.r) (first d.w d.b, third d.w d.c) ≡ Corners h u q = ap₂ (λ v r. Corners h v r) (sym k.is) (sym d.is) in
    subst (FaceFlag h N) same (made d.w d.b d.c k.p k.q k.r (box-along N d.w k.p k.q k.r box') o' valid')
  where
    made : (w : Order) (b c : Bool) (p q r : ℕ) → (p ≤ N) × (q ≤ N) × (r ≤ N) → long_axes (along w p q r) ≡ 2 → is_member N (along w p q r) (first w b, third w c) ≡ true
        → FaceFlag h N (Corners h (along w p q r) (first w b, third w c))
    made w b c p q r box o valid =
        let s : p % 2 + (q % 2 + r % 2) ≡ 2 = sym (long_axes-along w p q r) ∙ o in
        let a = member_parts N (along w p q r) (first w b) (third w c) b c p r (forwards-first w b) (coordinate-first w b p q r) (forwards-third w c) (coordinate-third w c p q r) valid in
        let p_odd : p % 2 ≡ 1 = omega (arith, a.m_odd, o) in
        let r_even : r % 2 ≡ 0 = omega (arith, a.n_odd, o) in
        let p_way = long_allows N b p p_odd a.may in
        let t = ways q (omega (arith, s, p_odd, r_even)) in
        record {
          w = w;
          a0 = start p;
          a1 = start q;
          a2 = r;
          b0 = finish p;
          b1 = finish q;
          b2 = shifted c 1 r;
          m0 = p;
          m1 = q;
          s0 = big_of N b p even box.0 p_way;
          s1 = big_of N t.0 q even box.1 t.1;
          s2 = small_of N c r box.2 r_even a.may';
          is = ap (map (point_scale h)) (face_kind _ _ o) ∙ face_is h w b c p q r p_way r_even;
        }

pub edge_found : (h N : ℕ) (u : Point) (q : ℕ × ℕ) → N % 2 ≡ 0 → InBox N u → long_axes u ≡ 1 → Member pairs q → is_member N u q ≡ true → EdgeFlag h N (Corners h u q)
edge_found h N u q even box o m valid =
    let d = all_at SecondThird pairs all-second_third q m in
    let k = by_order d.w u in
    let box' : InBox N (along d.w k.p k.q k.r) = subst (InBox N) k.is box in
    let o' : long_axes (along d.w k.p k.q k.r) ≡ 1 = subst (λ v. long_axes v ≡ 1) k.is o in
    let valid' : is_member N (along d.w k.p k.q k.r) (second d.w d.b, third d.w d.c) ≡ true = subst (λ r. is_member N (along d.w k.p k.q k.r) r ≡ true) d.is (subst (λ v. is_member N v q ≡ true) k.is valid) in
    let same : Corners h (along d.w k.p k.q k.r) (second d.w d.b, third d.w d.c) ≡ Corners h u q = ap₂ (λ v r. Corners h v r) (sym k.is) (sym d.is) in
    subst (EdgeFlag h N) same (made d.w d.b d.c k.p k.q k.r (box-along N d.w k.p k.q k.r box') o' valid')
  where
    made : (w : Order) (b c : Bool) (p q r : ℕ) → (p ≤ N) × (q ≤ N) × (r ≤ N) → long_axes (along w p q r) ≡ 1 → is_member N (along w p q r) (second w b, third w c) ≡ true
        → EdgeFlag h N (Corners h (along w p q r) (second w b, third w c))
    made w b c p q r box o valid =
        let s : p % 2 + (q % 2 + r % 2) ≡ 1 = sym (long_axes-along w p q r) ∙ o in
        let a = member_parts N (along w p q r) (second w b) (third w c) b c q r (forwards-second w b) (coordinate-second w b p q r) (forwards-third w c) (coordinate-third w c p q r) valid in
        let q_even : q % 2 ≡ 0 = omega (arith, a.m_odd, o) in
        let r_even : r % 2 ≡ 0 = omega (arith, a.n_odd, o) in
        let t = ways p (omega (arith, s, q_even, r_even)) in
        record {
          w = w;
          a0 = start p;
          a1 = q;
          a2 = r;
          b0 = finish p;
          b1 = shifted b 1 q;
          b2 = shifted c 1 r;
          m0 = p;
          s0 = big_of N t.0 p even box.0 t.1;
          s1 = small_of N b q box.1 q_even a.may;
          s2 = small_of N c r box.2 r_even a.may';
          is = ap (map (point_scale h)) (edge_kind _ _ o) ∙ edge_is h w b c p q r q_even r_even;
        }

pub few_kind : (u : Point) (q : ℕ × ℕ) (o : ℕ) → long_axes u ≡ o → o < 2 → corners_at u q ≡ edge_corners u q
unfolding corners_at
few_kind u q zero e h = rw e refl
few_kind u q (suc zero) e h = rw e refl
few_kind u q (suc (suc o)) e h = absurd (omega (arith, h))
