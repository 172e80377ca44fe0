-- The flags of every level are its tetrahedra, both ways.
use Rattle.std.proofs.Common.{◌≡◌, ℕ, zero, suc, ◌+◌, ◌-◌, ◌*◌, ◌/◌, ◌%◌, ◌^◌, List, [], ◌∷◌, refl, sym, ◌∙◌, ap, subst, inl, inr, arith, zero-add, add-zero}
use Rattle.tpz_base.specs.declared.shape.Point.{Point}
use Rattle.tpz_base.specs.Tetrahedra.{Tetrahedron, child_0, child_1, children, at_level, roots_of_side}
use Rattle.std.specs.List.{flat_map}
use Rattle.tpz_base.proofs.AxisPaths.{Order, xyz, xzy, yxz, yzx, zxy, zyx, along, axis_path, swapped, turned, three_more}
use Rattle.tpz_base.proofs.CutLaw.{Member}
use Rattle.tpz_base.proofs.Distinct.{member-flat_map, at_its_level}
use Rattle.tetra_name.proofs.Flags.{spot, Big, Small, cube_list, face_list, edge_list, CubeFlag, FaceFlag, EdgeFlag, NextFlag, big_sum, big_a, big_b, by_four, swapped_back, turned_back, cube_child_0, cube_child_1, face_child_0, face_child_1, edge_child_0, edge_child_1, cube_down_0, cube_down_1, face_down_0, face_down_1, edge_down_0, edge_down_1}

along_cong : (w : Order) (p q r p' q' r' : ℕ) → p ≡ p' → q ≡ q' → r ≡ r' → along w p q r ≡ along w p' q' r'
along_cong w p q r p' q' r' e f g = cc

doubled : (h p p' : ℕ) → p' ≡ 2 * p → 2 * h * p ≡ h * p'
doubled h p p' e = rw e (omega arith)

spot_doubled : (h : ℕ) (w : Order) (p q r p' q' r' : ℕ) → p' ≡ 2 * p → q' ≡ 2 * q → r' ≡ 2 * r → spot (2 * h) w p q r ≡ spot h w p' q' r'
spot_doubled h w p q r p' q' r' e f g = along_cong w (2 * h * p) (2 * h * q) (2 * h * r) (h * p') (h * q') (h * r') (doubled h p p' e) (doubled h q q' f) (doubled h r r' g)

four : {X : Type 0} {a b c d a' b' c' d' : X} → a ≡ a' → b ≡ b' → c ≡ c' → d ≡ d' → ◌≡◌ {A = List X} (a ∷ b ∷ c ∷ d ∷ []) (a' ∷ b' ∷ c' ∷ d' ∷ [])
four p q r t = cc

pub list_doubled : (h : ℕ) (w : Order) (a0 a1 a2 b0 b1 b2 c0 c1 c2 d0 d1 d2 : ℕ) → c0 ≡ 2 * a0 → c1 ≡ 2 * a1 → c2 ≡ 2 * a2 → d0 ≡ 2 * b0 → d1 ≡ 2 * b1 → d2 ≡ 2 * b2
    → cube_list (2 * h) w a0 a1 a2 b0 b1 b2 ≡ cube_list h w c0 c1 c2 d0 d1 d2
unfolding cube_list
list_doubled h w a0 a1 a2 b0 b1 b2 c0 c1 c2 d0 d1 d2 e0 e1 e2 f0 f1 f2 =
    four (spot_doubled h w a0 a1 a2 c0 c1 c2 e0 e1 e2) (spot_doubled h w b0 a1 a2 d0 c1 c2 f0 e1 e2) (spot_doubled h w b0 b1 a2 d0 d1 c2 f0 f1 e2) (spot_doubled h w b0 b1 b2 d0 d1 d2 f0 f1 f2)

grown : (N a b : ℕ) → Small N a b → Big (2 * N) (2 * a) (2 * b) (a + b)
grown N a b s =
    elim s.near [
      | inl k ↦ record { even = omega (arith, s.even); near = inl (omega (arith, k), omega (arith, k)); a_in = omega (arith, s.a_in); b_in = omega (arith, s.b_in) }
      | inr k ↦ record { even = omega (arith, s.even); near = inr (omega (arith, k), omega (arith, k)); a_in = omega (arith, s.a_in); b_in = omega (arith, s.b_in) }
    ]

shrunk : (N a b m : ℕ) → Big (2 * N) a b m → Small N (a / 2) (b / 2)
shrunk N a b m s =
    elim s.near [
      | inl k ↦ record { even = omega (arith, s.even); near = inl (omega (arith, k.0, s.even)); a_in = omega (arith, s.a_in); b_in = omega (arith, s.b_in) }
      | inr k ↦ record { even = omega (arith, s.even); near = inr (omega (arith, k.0, s.even)); a_in = omega (arith, s.a_in); b_in = omega (arith, s.b_in) }
    ]

whole_a : (N a b m : ℕ) → Big N a b m → a ≡ 2 * (a / 2)
whole_a N a b m s = omega (arith, s.even)

whole_b : (N a b m : ℕ) → Big N a b m → b ≡ 2 * (b / 2)
whole_b N a b m s = elim s.near [ inl k ↦ omega (arith, s.even, k.0) | inr k ↦ omega (arith, s.even, k.0) ]

-- three bisections later the unit is half as long
next_cube : (h N : ℕ) (ps : List Point) → NextFlag (2 * h) N ps → CubeFlag h (2 * N) ps
next_cube h N ps F = record {
  w = F.w;
  a0 = 2 * F.a0;
  a1 = 2 * F.a1;
  a2 = 2 * F.a2;
  b0 = 2 * F.b0;
  b1 = 2 * F.b1;
  b2 = 2 * F.b2;
  m0 = F.a0 + F.b0;
  m1 = F.a1 + F.b1;
  m2 = F.a2 + F.b2;
  s0 = grown N F.a0 F.b0 F.s0;
  s1 = grown N F.a1 F.b1 F.s1;
  s2 = grown N F.a2 F.b2 F.s2;
  is = F.is ∙ list_doubled h F.w F.a0 F.a1 F.a2 F.b0 F.b1 F.b2 _ _ _ _ _ _ refl refl refl refl refl refl;
}

cube_next : (h N : ℕ) (ps : List Point) → CubeFlag h (2 * N) ps → NextFlag (2 * h) N ps
cube_next h N ps F = record {
  w = F.w;
  a0 = F.a0 / 2;
  a1 = F.a1 / 2;
  a2 = F.a2 / 2;
  b0 = F.b0 / 2;
  b1 = F.b1 / 2;
  b2 = F.b2 / 2;
  s0 = shrunk N F.a0 F.b0 F.m0 F.s0;
  s1 = shrunk N F.a1 F.b1 F.m1 F.s1;
  s2 = shrunk N F.a2 F.b2 F.m2 F.s2;
  is = F.is
      ∙ sym (list_doubled h F.w (F.a0 / 2) (F.a1 / 2) (F.a2 / 2) (F.b0 / 2) (F.b1 / 2) (F.b2 / 2) F.a0 F.a1 F.a2 F.b0 F.b1 F.b2
      (whole_a _ _ _ _ F.s0) (whole_a _ _ _ _ F.s1) (whole_a _ _ _ _ F.s2) (whole_b _ _ _ _ F.s0) (whole_b _ _ _ _ F.s1) (whole_b _ _ _ _ F.s2));
}

-- from a flag of one level to those of the next, for all tetrahedra of the level
abbrev pub AllAre : (List Point → Type 0) → ℕ → ℕ → Type 0
AllAre P L n = (T : Tetrahedron) → Member (at_level L n) T → P T.corners

one_down : (P Q : List Point → Type 0) (L n : ℕ) → ((T : Tetrahedron) → T.level ≡ n → P T.corners → Q (child_0 T).corners) → ((T : Tetrahedron) → T.level ≡ n → P T.corners → Q (child_1 T).corners)
    → AllAre P L n → AllAre Q L (suc n)
one_down P Q L n f g all T m =
    let r = member-flat_map children (at_level L n) T m in
    let at : r.0.level ≡ n = at_its_level L n r.0 r.1 in
    elim r.2 [
      | inl e ↦ subst (λ (S : Tetrahedron). Q S.corners) e (f r.0 at (all r.0 r.1))
      | inr k ↦ elim k [ inl e ↦ subst (λ (S : Tetrahedron). Q S.corners) e (g r.0 at (all r.0 r.1)) | inr none ↦ absurd none ]
    ]

pub faces : (L k h N : ℕ) → AllAre (CubeFlag h N) L (3 * k) → AllAre (FaceFlag h N) L (suc (3 * k))
faces L k h N all =
    one_down (CubeFlag h N) (FaceFlag h N) L (3 * k) (λ T e F. cube_down_0 h N T (omega (arith, e)) F) (λ T e F. cube_down_1 h N T (omega (arith, e)) F) all

pub edges : (L k h N : ℕ) → AllAre (FaceFlag h N) L (suc (3 * k)) → AllAre (EdgeFlag h N) L (suc (suc (3 * k)))
edges L k h N all =
    one_down (FaceFlag h N) (EdgeFlag h N) L (suc (3 * k)) (λ T e F. face_down_0 h N T (omega (arith, e)) F) (λ T e F. face_down_1 h N T (omega (arith, e)) F) all

nexts : (L k h N : ℕ) → AllAre (EdgeFlag h N) L (suc (suc (3 * k))) → AllAre (NextFlag h N) L (suc (suc (suc (3 * k))))
nexts L k h N all =
    one_down (EdgeFlag h N) (NextFlag h N) L (suc (suc (3 * k))) (λ T e F. edge_down_0 h N T (omega (arith, e)) F) (λ T e F. edge_down_1 h N T (omega (arith, e)) F) all

-- a root
root_flag : (h : ℕ) (w : Order) (ps : List Point) → ps ≡ cube_list h w 0 0 0 2 2 2 → CubeFlag h 2 ps
root_flag h w ps e = record {
  w = w;
  a0 = 0;
  a1 = 0;
  a2 = 0;
  b0 = 2;
  b1 = 2;
  b2 = 2;
  m0 = 1;
  m1 = 1;
  m2 = 1;
  s0 = unit_step;
  s1 = unit_step;
  s2 = unit_step;
  is = e;
} where
  unit_step : Big 2 0 2 1
  unit_step = record { even = refl; near = inl (refl, refl); a_in = omega arith; b_in = omega arith }

root_list : (h : ℕ) (w : Order) → cube_list h w 0 0 0 2 2 2 ≡ axis_path w 0 0 0 (h * 2) (h * 2) (h * 2)
unfolding cube_list
root_list h w = four (along_cong w _ _ _ 0 0 0 z z z) (along_cong w _ _ _ (h * 2) 0 0 refl z z) (along_cong w _ _ _ (h * 2) (h * 2) 0 refl refl z) refl where
  z : h * 0 ≡ 0
  z = omega arith

root_path : (h : ℕ) (w : Order) (ps : List Point) → ps ≡ axis_path w 0 0 0 (h * 2) (h * 2) (h * 2) → CubeFlag h 2 ps
root_path h w ps e = root_flag h w ps (e ∙ sym (root_list h w))

pub side : (L : ℕ) → 2 ^ (L + 1) ≡ 2 ^ L * 2
side L =
    let up : L + 1 ≡ suc L = omega arith in
    ap (λ n. 2 ^ n) up ∙ omega arith

abbrev roots_are : ℕ → ℕ → Type 0
roots_are h s = (T : Tetrahedron) → Member (roots_of_side s) T → CubeFlag h 2 T.corners

roots_flags : (h : ℕ) → roots_are h (h * 2)
roots_flags h T m =
    elim m [
      | inl e ↦ subst P e (root_path h xyz _ (simp (zero-add, add-zero)))
      | inr m ↦ elim m [
        | inl e ↦ subst P e (root_path h xzy _ (simp (zero-add, add-zero)))
        | inr m ↦ elim m [
          | inl e ↦ subst P e (root_path h yxz _ (simp (zero-add, add-zero)))
          | inr m ↦ elim m [
            | inl e ↦ subst P e (root_path h yzx _ (simp (zero-add, add-zero)))
            | inr m ↦ elim m [
              | inl e ↦ subst P e (root_path h zxy _ (simp (zero-add, add-zero)))
              | inr m ↦ elim m [ inl e ↦ subst P e (root_path h zyx _ (simp (zero-add, add-zero))) | inr none ↦ absurd none ]
            ]
          ]
        ]
      ]
    ]
  where
    P : Tetrahedron → Type 0
    P S = CubeFlag h 2 S.corners

-- every tetrahedron is a flag
pub cubes : (L k j : ℕ) → k + j ≡ L → AllAre (CubeFlag (2 ^ j) (2 ^ suc k)) L (3 * k)
cubes L zero j e =
    let is : L ≡ j = omega (arith, e) in
    rw is (subst (λ s. roots_are (2 ^ j) s) (sym (side j)) (roots_flags (2 ^ j)))
cubes L (suc k) j e = λ T m.
    let before : AllAre (CubeFlag (2 * 2 ^ j) (2 ^ suc k)) L (3 * k) = subst (λ h. AllAre (CubeFlag h (2 ^ suc k)) L (3 * k)) (omega arith) (cubes L k (suc j) (omega (arith, e))) in
    let all = nexts L k (2 * 2 ^ j) (2 ^ suc k) (edges L k (2 * 2 ^ j) (2 ^ suc k) (faces L k (2 * 2 ^ j) (2 ^ suc k) before)) in
    let m' : Member (at_level L (suc (suc (suc (3 * k))))) T = subst (λ n. Member (at_level L n) T) (three_more k) m in
    subst (λ N. CubeFlag (2 ^ j) N T.corners) (omega arith) (next_cube (2 ^ j) (2 ^ suc k) T.corners (all T m'))

-- a tetrahedron of level n with these corners
pub record Made (L n : ℕ) (ps : List Point) : Type 0 where
  pub T : Tetrahedron
  pub has : Member (at_level L n) T
  pub is : T.corners ≡ ps

pub child_in_0 : (Ts : List Tetrahedron) (S : Tetrahedron) → Member Ts S → Member (flat_map children Ts) (child_0 S)
child_in_0 [] S m = absurd m
child_in_0 (T ∷ Ts) S m = elim m [ inl e ↦ inl (ap child_0 e) | inr k ↦ inr (inr (child_in_0 Ts S k)) ]

pub child_in_1 : (Ts : List Tetrahedron) (S : Tetrahedron) → Member Ts S → Member (flat_map children Ts) (child_1 S)
child_in_1 [] S m = absurd m
child_in_1 (T ∷ Ts) S m = elim m [ inl e ↦ inr (inl (ap child_1 e)) | inr k ↦ inr (inr (child_in_1 Ts S k)) ]

made_0 : (L n : ℕ) (qs ps : List Point) → (M : Made L n qs) → (child_0 M.T).corners ≡ ps → Made L (suc n) ps
made_0 L n qs ps M e = record { T = child_0 M.T; has = child_in_0 (at_level L n) M.T M.has; is = e }

made_1 : (L n : ℕ) (qs ps : List Point) → (M : Made L n qs) → (child_1 M.T).corners ≡ ps → Made L (suc n) ps
made_1 L n qs ps M e = record { T = child_1 M.T; has = child_in_1 (at_level L n) M.T M.has; is = e }

abbrev pub AllMade : (List Point → Type 0) → ℕ → ℕ → Type 0
AllMade P L n = (ps : List Point) → P ps → Made L n ps

of_made : (L n : ℕ) (ps : List Point) (M : Made L n ps) → M.T.level ≡ n
of_made L n ps M = at_its_level L n M.T M.has

pub made_faces : (L k h N : ℕ) → N % 2 ≡ 0 → AllMade (CubeFlag h N) L (3 * k) → AllMade (FaceFlag h N) L (suc (3 * k))
made_faces L k h N n all ps F =
    elim (by_four F.a2 F.s2.even) [
      | inl e ↦
          let B = big_a N F.a2 F.b2 n F.s2 e in
          let M = all (cube_list h F.w F.a0 F.a1 F.a2 F.b0 F.b1 (2 * F.b2 - F.a2)) (record {
            w = F.w;
            a0 = F.a0;
            a1 = F.a1;
            a2 = F.a2;
            b0 = F.b0;
            b1 = F.b1;
            b2 = 2 * F.b2 - F.a2;
            m0 = F.m0;
            m1 = F.m1;
            m2 = F.b2;
            s0 = F.s0;
            s1 = F.s1;
            s2 = B;
            is = refl;
          }) in
          made_0 L (3 * k) _ ps M
          (cube_child_0 h M.T F.w F.a0 F.a1 F.a2 F.b0 F.b1 (2 * F.b2 - F.a2) F.m0 F.m1 F.b2 (big_sum _ _ _ _ F.s0) (big_sum _ _ _ _ F.s1) (big_sum _ _ _ _ B) (omega (arith, of_made L (3 * k) _ M)) M.is
          ∙ sym F.is)
      | inr e ↦
          let B = big_b N F.a2 F.b2 n F.s2 e in
          let M = all (cube_list h (turned (turned F.w)) (2 * F.b2 - F.a2) F.a0 F.a1 F.a2 F.b0 F.b1) (record {
            w = turned (turned F.w);
            a0 = 2 * F.b2 - F.a2;
            a1 = F.a0;
            a2 = F.a1;
            b0 = F.a2;
            b1 = F.b0;
            b2 = F.b1;
            m0 = F.b2;
            m1 = F.m0;
            m2 = F.m1;
            s0 = B;
            s1 = F.s0;
            s2 = F.s1;
            is = refl;
          }) in
          made_1 L (3 * k) _ ps M
          (cube_child_1 h M.T (turned (turned F.w)) (2 * F.b2 - F.a2) F.a0 F.a1 F.a2 F.b0 F.b1 F.b2 F.m0 F.m1 (big_sum _ _ _ _ B) (big_sum _ _ _ _ F.s0) (big_sum _ _ _ _ F.s1) (omega (arith, of_made L (3 * k) _ M)) M.is
          ∙ ap (λ v. face_list h v F.a0 F.a1 F.a2 F.b0 F.b1 F.m0 F.m1 F.b2) (turned_back F.w) ∙ sym F.is)
    ]

pub made_edges : (L k h N : ℕ) → N % 2 ≡ 0 → AllMade (FaceFlag h N) L (suc (3 * k)) → AllMade (EdgeFlag h N) L (suc (suc (3 * k)))
made_edges L k h N n all ps F =
    elim (by_four F.a1 F.s1.even) [
      | inl e ↦
          let B = big_a N F.a1 F.b1 n F.s1 e in
          let M = all (face_list h F.w F.a0 F.a1 F.a2 F.b0 (2 * F.b1 - F.a1) F.m0 F.b1 F.b2) (record {
            w = F.w;
            a0 = F.a0;
            a1 = F.a1;
            a2 = F.a2;
            b0 = F.b0;
            b1 = 2 * F.b1 - F.a1;
            b2 = F.b2;
            m0 = F.m0;
            m1 = F.b1;
            s0 = F.s0;
            s1 = B;
            s2 = F.s2;
            is = refl;
          }) in
          made_0 L (suc (3 * k)) _ ps M
          (face_child_0 h M.T F.w F.a0 F.a1 F.a2 F.b0 (2 * F.b1 - F.a1) F.m0 F.b1 F.b2 (big_sum _ _ _ _ F.s0) (big_sum _ _ _ _ B) (omega (arith, of_made L (suc (3 * k)) _ M)) M.is ∙ sym F.is)
      | inr e ↦
          let B = big_b N F.a1 F.b1 n F.s1 e in
          let M = all (face_list h (swapped F.w) (2 * F.b1 - F.a1) F.a0 F.a2 F.a1 F.b0 F.b1 F.m0 F.b2) (record {
            w = swapped F.w;
            a0 = 2 * F.b1 - F.a1;
            a1 = F.a0;
            a2 = F.a2;
            b0 = F.a1;
            b1 = F.b0;
            b2 = F.b2;
            m0 = F.b1;
            m1 = F.m0;
            s0 = B;
            s1 = F.s0;
            s2 = F.s2;
            is = refl;
          }) in
          made_1 L (suc (3 * k)) _ ps M
          (face_child_1 h M.T (swapped F.w) (2 * F.b1 - F.a1) F.a0 F.a2 F.a1 F.b0 F.b1 F.m0 F.b2 (big_sum _ _ _ _ B) (big_sum _ _ _ _ F.s0) (omega (arith, of_made L (suc (3 * k)) _ M)) M.is
          ∙ ap (λ v. edge_list h v F.a0 F.a1 F.a2 F.b0 F.m0 F.b1 F.b2) (swapped_back F.w) ∙ sym F.is)
    ]

made_nexts : (L k h N : ℕ) → N % 2 ≡ 0 → AllMade (EdgeFlag h N) L (suc (suc (3 * k))) → AllMade (NextFlag h N) L (suc (suc (suc (3 * k))))
made_nexts L k h N n all ps F =
    elim (by_four F.a0 F.s0.even) [
      | inl e ↦
          let B = big_a N F.a0 F.b0 n F.s0 e in
          let M = all (edge_list h F.w F.a0 F.a1 F.a2 (2 * F.b0 - F.a0) F.b0 F.b1 F.b2) (record {
            w = F.w;
            a0 = F.a0;
            a1 = F.a1;
            a2 = F.a2;
            b0 = 2 * F.b0 - F.a0;
            b1 = F.b1;
            b2 = F.b2;
            m0 = F.b0;
            s0 = B;
            s1 = F.s1;
            s2 = F.s2;
            is = refl;
          }) in
          made_0 L (suc (suc (3 * k))) _ ps M
          (edge_child_0 h M.T F.w F.a0 F.a1 F.a2 (2 * F.b0 - F.a0) F.b0 F.b1 F.b2 (big_sum _ _ _ _ B) (omega (arith, of_made L (suc (suc (3 * k))) _ M)) M.is ∙ sym F.is)
      | inr e ↦
          let B = big_b N F.a0 F.b0 n F.s0 e in
          let M = all (edge_list h F.w (2 * F.b0 - F.a0) F.a1 F.a2 F.a0 F.b0 F.b1 F.b2) (record {
            w = F.w;
            a0 = 2 * F.b0 - F.a0;
            a1 = F.a1;
            a2 = F.a2;
            b0 = F.a0;
            b1 = F.b1;
            b2 = F.b2;
            m0 = F.b0;
            s0 = B;
            s1 = F.s1;
            s2 = F.s2;
            is = refl;
          }) in
          made_1 L (suc (suc (3 * k))) _ ps M
          (edge_child_1 h M.T F.w (2 * F.b0 - F.a0) F.a1 F.a2 F.a0 F.b0 F.b1 F.b2 (big_sum _ _ _ _ B) (omega (arith, of_made L (suc (suc (3 * k))) _ M)) M.is ∙ sym F.is)
    ]

-- the six roots are all flags of the whole cube
start_a : (a b m : ℕ) → Big 2 a b m → a ≡ 0
start_a a b m s = elim s.near [ inl k ↦ omega (arith, s.even, s.a_in) | inr k ↦ omega (arith, s.even, s.a_in, k.0, s.b_in) ]

start_b : (a b m : ℕ) → Big 2 a b m → b ≡ 2
start_b a b m s = elim s.near [ inl k ↦ omega (arith, s.even, s.a_in, k.0, s.b_in) | inr k ↦ omega (arith, s.even, s.a_in, k.0, s.b_in) ]

list_cong : (h : ℕ) (w : Order) (a0 a1 a2 b0 b1 b2 c0 c1 c2 d0 d1 d2 : ℕ) → a0 ≡ c0 → a1 ≡ c1 → a2 ≡ c2 → b0 ≡ d0 → b1 ≡ d1 → b2 ≡ d2 → cube_list h w a0 a1 a2 b0 b1 b2 ≡ cube_list h w c0 c1 c2 d0 d1 d2
list_cong h w a0 a1 a2 b0 b1 b2 c0 c1 c2 d0 d1 d2 e0 e1 e2 f0 f1 f2 = cc

record Root (s : ℕ) (ps : List Point) : Type 0 where
  T : Tetrahedron
  has : Member (roots_of_side s) T
  is : T.corners ≡ ps

root_made : (s : ℕ) (w : Order) → Root s (axis_path w 0 0 0 s s s)
root_made s xyz = record { T = _; has = inl refl; is = simp (zero-add, add-zero) }
root_made s xzy = record { T = _; has = inr (inl refl); is = simp (zero-add, add-zero) }
root_made s yxz = record { T = _; has = inr (inr (inl refl)); is = simp (zero-add, add-zero) }
root_made s yzx = record { T = _; has = inr (inr (inr (inl refl))); is = simp (zero-add, add-zero) }
root_made s zxy = record { T = _; has = inr (inr (inr (inr (inl refl)))); is = simp (zero-add, add-zero) }
root_made s zyx = record { T = _; has = inr (inr (inr (inr (inr (inl refl))))); is = simp (zero-add, add-zero) }

made_roots : (L : ℕ) → AllMade (CubeFlag (2 ^ L) 2) L 0
made_roots L ps F =
    let r = root_made (2 ^ (L + 1)) F.w in
    record {
      T = r.T;
      has = r.has;
      is = r.is ∙ ap (λ s. axis_path F.w 0 0 0 s s s) (side L) ∙ sym (root_list (2 ^ L) F.w)
          ∙ sym (F.is ∙ list_cong (2 ^ L) F.w F.a0 F.a1 F.a2 F.b0 F.b1 F.b2 0 0 0 2 2 2 (start_a _ _ _ F.s0) (start_a _ _ _ F.s1) (start_a _ _ _ F.s2) (start_b _ _ _ F.s0) (start_b _ _ _ F.s1) (start_b _ _ _ F.s2));
    }

pub even_side : (k : ℕ) → 2 ^ suc k % 2 ≡ 0
even_side k =
    let e : 2 ^ suc k ≡ 2 * 2 ^ k = omega arith in
    omega (arith, e)

-- every flag is a tetrahedron
pub made_cubes : (L k j : ℕ) → k + j ≡ L → AllMade (CubeFlag (2 ^ j) (2 ^ suc k)) L (3 * k)
made_cubes L zero j e =
    let is : j ≡ L = omega (arith, e) in
    subst (λ n. AllMade (CubeFlag (2 ^ n) 2) L 0) (sym is) (made_roots L)
made_cubes L (suc k) j e = λ ps F.
    let before : AllMade (CubeFlag (2 * 2 ^ j) (2 ^ suc k)) L (3 * k) = subst (λ h. AllMade (CubeFlag h (2 ^ suc k)) L (3 * k)) (omega arith) (made_cubes L k (suc j) (omega (arith, e))) in
    let even = even_side k in
    let all = made_nexts L k (2 * 2 ^ j) (2 ^ suc k) even (made_edges L k (2 * 2 ^ j) (2 ^ suc k) even (made_faces L k (2 * 2 ^ j) (2 ^ suc k) even before)) in
    let F' : CubeFlag (2 ^ j) (2 * 2 ^ suc k) ps = subst (λ N. CubeFlag (2 ^ j) N ps) (omega arith) F in
    subst (λ n. Made L n ps) (sym (three_more k)) (all ps (cube_next (2 ^ j) (2 ^ suc k) ps F'))
