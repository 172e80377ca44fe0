-- The tetrahedra of a level are exactly the flags of small cubes.
use Rattle.std.proofs.Common.{◌≡◌, ℕ, zero, suc, ◌+◌, ◌-◌, ◌*◌, ◌/◌, ◌%◌, ◌≤◌, ◌⊎◌, List, [], ◌∷◌, refl, sym, ◌∙◌, ap, inl, inr, arith}
use Rattle.tpz_base.specs.declared.shape.Point.{Point}
use Rattle.tpz_base.specs.Points.{midpoint}
use Rattle.tpz_base.specs.Tetrahedra.{Tetrahedron, child_0, child_1}
use Rattle.tpz_base.proofs.AxisPaths.{Order, xyz, xzy, yxz, yzx, zxy, zyx, along, midpoint-along, swapped, turned, child_0_at_0, child_1_at_0, child_0_at_1, child_1_at_1, child_0_at_2, child_1_at_2}

-- h times the point with these coordinates in the order w
abbrev pub spot : ℕ → Order → ℕ → ℕ → ℕ → Point
spot h w p q r = along w (h * p) (h * q) (h * r)

-- a step of two units from a multiple of four to b, with the middle m
pub record Big (N a b m : ℕ) : Type 0 where
  pub even : a % 4 ≡ 0
  pub near : ((b ≡ a + 2) × (m ≡ a + 1)) ⊎ ((a ≡ b + 2) × (m ≡ b + 1))
  pub a_in : a ≤ N
  pub b_in : b ≤ N

-- a step of one unit from an even number to b
pub record Small (N a b : ℕ) : Type 0 where
  pub even : a % 2 ≡ 0
  pub near : (b ≡ a + 1) ⊎ (a ≡ b + 1)
  pub a_in : a ≤ N
  pub b_in : b ≤ N

unfoldable pub cube_list : ℕ → Order → ℕ → ℕ → ℕ → ℕ → ℕ → ℕ → List Point
cube_list h w a0 a1 a2 b0 b1 b2 = spot h w a0 a1 a2 ∷ spot h w b0 a1 a2 ∷ spot h w b0 b1 a2 ∷ spot h w b0 b1 b2 ∷ []

unfoldable pub face_list : ℕ → Order → ℕ → ℕ → ℕ → ℕ → ℕ → ℕ → ℕ → ℕ → List Point
face_list h w a0 a1 a2 b0 b1 m0 m1 b2 = spot h w a0 a1 a2 ∷ spot h w b0 a1 a2 ∷ spot h w b0 b1 a2 ∷ spot h w m0 m1 b2 ∷ []

unfoldable pub edge_list : ℕ → Order → ℕ → ℕ → ℕ → ℕ → ℕ → ℕ → ℕ → List Point
edge_list h w a0 a1 a2 b0 m0 b1 b2 = spot h w a0 a1 a2 ∷ spot h w b0 a1 a2 ∷ spot h w m0 b1 a2 ∷ spot h w m0 b1 b2 ∷ []

-- three steps along the axes
pub record CubeFlag (h N : ℕ) (ps : List Point) : Type 0 where
  pub w : Order
  pub a0 : ℕ
  pub a1 : ℕ
  pub a2 : ℕ
  pub b0 : ℕ
  pub b1 : ℕ
  pub b2 : ℕ
  pub m0 : ℕ
  pub m1 : ℕ
  pub m2 : ℕ
  pub s0 : Big N a0 b0 m0
  pub s1 : Big N a1 b1 m1
  pub s2 : Big N a2 b2 m2
  pub is : ps ≡ cube_list h w a0 a1 a2 b0 b1 b2

-- two steps along the sides of a face, and the centre of a cube at it
pub record FaceFlag (h N : ℕ) (ps : List Point) : Type 0 where
  pub w : Order
  pub a0 : ℕ
  pub a1 : ℕ
  pub a2 : ℕ
  pub b0 : ℕ
  pub b1 : ℕ
  pub b2 : ℕ
  pub m0 : ℕ
  pub m1 : ℕ
  pub s0 : Big N a0 b0 m0
  pub s1 : Big N a1 b1 m1
  pub s2 : Small N a2 b2
  pub is : ps ≡ face_list h w a0 a1 a2 b0 b1 m0 m1 b2

-- an edge, the centre of a face at it, and the centre of a cube at that face
pub record EdgeFlag (h N : ℕ) (ps : List Point) : Type 0 where
  pub w : Order
  pub a0 : ℕ
  pub a1 : ℕ
  pub a2 : ℕ
  pub b0 : ℕ
  pub b1 : ℕ
  pub b2 : ℕ
  pub m0 : ℕ
  pub s0 : Big N a0 b0 m0
  pub s1 : Small N a1 b1
  pub s2 : Small N a2 b2
  pub is : ps ≡ edge_list h w a0 a1 a2 b0 m0 b1 b2

-- three steps of half the length
pub record NextFlag (h N : ℕ) (ps : List Point) : Type 0 where
  pub w : Order
  pub a0 : ℕ
  pub a1 : ℕ
  pub a2 : ℕ
  pub b0 : ℕ
  pub b1 : ℕ
  pub b2 : ℕ
  pub s0 : Small N a0 b0
  pub s1 : Small N a1 b1
  pub s2 : Small N a2 b2
  pub is : ps ≡ cube_list h w a0 a1 a2 b0 b1 b2

pub big_sum : (N a b m : ℕ) → Big N a b m → a + b ≡ 2 * m
big_sum N a b m s = elim s.near [ inl k ↦ omega (arith, k.0, k.1) | inr k ↦ omega (arith, k.0, k.1) ]

-- the two halves of a step
pub small_a : (N a b m : ℕ) → Big N a b m → Small N a m
small_a N a b m s =
    elim s.near [
      | inl k ↦ record { even = omega (arith, s.even); near = inl (omega (arith, k.1)); a_in = s.a_in; b_in = omega (arith, k.0, k.1, s.b_in) }
      | inr k ↦ record { even = omega (arith, s.even); near = inr (omega (arith, k.0, k.1)); a_in = s.a_in; b_in = omega (arith, k.0, k.1, s.a_in) }
    ]

pub small_b : (N a b m : ℕ) → Big N a b m → Small N b m
small_b N a b m s =
    elim s.near [
      | inl k ↦ record { even = omega (arith, s.even, k.0); near = inr (omega (arith, k.0, k.1)); a_in = s.b_in; b_in = omega (arith, k.0, k.1, s.b_in) }
      | inr k ↦ record { even = omega (arith, s.even, k.0); near = inl (omega (arith, k.0, k.1)); a_in = s.b_in; b_in = omega (arith, k.0, k.1, s.a_in) }
    ]

-- the step whose half begins at a multiple of four
pub big_a : (N a m : ℕ) → N % 2 ≡ 0 → Small N a m → a % 4 ≡ 0 → Big N a (2 * m - a) m
big_a N a m n s e =
    elim s.near [
      | inl k ↦ record { even = e; near = inl (omega (arith, k), k); a_in = s.a_in; b_in = omega (arith, k, n, s.b_in, s.even) }
      | inr k ↦ record { even = e; near = inr (omega (arith, k, e), omega (arith, k, e)); a_in = s.a_in; b_in = omega (arith, k, s.a_in) }
    ]

-- the step whose half begins at its end
pub big_b : (N b m : ℕ) → N % 2 ≡ 0 → Small N b m → b % 4 ≡ 2 → Big N (2 * m - b) b m
big_b N b m n s e =
    elim s.near [
      | inl k ↦ record { even = omega (arith, e, k); near = inr (omega (arith, k), omega (arith, k, e)); a_in = omega (arith, k, n, s.b_in, s.even); b_in = s.a_in }
      | inr k ↦ record { even = omega (arith, e, k); near = inl (omega (arith, k, e), omega (arith, k, e)); a_in = omega (arith, k, s.a_in); b_in = s.a_in }
    ]

pub by_four : (a : ℕ) → a % 2 ≡ 0 → (a % 4 ≡ 0) ⊎ (a % 4 ≡ 2)
by_four a e = cases (a % 4) refl where
  cases : (r : ℕ) → a % 4 ≡ r → (a % 4 ≡ 0) ⊎ (a % 4 ≡ 2)
  cases zero k = inl k
  cases (suc zero) k = absurd (omega (arith, k, e))
  cases (suc (suc zero)) k = inr k
  cases (suc (suc (suc r))) k = absurd (omega (arith, k, e))

pub half_sum : (h a b m : ℕ) → a + b ≡ 2 * m → (h * a + h * b) / 2 ≡ h * m
half_sum h a b m e =
    let k : h * a + h * b ≡ 2 * (h * m) = omega (arith, ap (λ n. h * n) e) in
    omega (arith, k)

pub middle : (h : ℕ) (w : Order) (p q r p' q' r' x y z : ℕ) → p + p' ≡ 2 * x → q + q' ≡ 2 * y → r + r' ≡ 2 * z → midpoint (spot h w p q r) (spot h w p' q' r') ≡ spot h w x y z
middle h w p q r p' q' r' x y z e f g =
    midpoint-along w (h * p) (h * q) (h * r) (h * p') (h * q') (h * r') ∙ rw (half_sum h p p' x e, half_sum h q q' y f, half_sum h r r' z g) refl

pub twice : (n : ℕ) → n + n ≡ 2 * n
twice n = omega arith

pub four : {X : Type 0} {a b c d a' b' c' d' : X} → a ≡ a' → b ≡ b' → c ≡ c' → d ≡ d' → ◌≡◌ {A = List X} (a ∷ b ∷ c ∷ d ∷ []) (a' ∷ b' ∷ c' ∷ d' ∷ [])
four p q r t = cc

along-swapped : (w : Order) (p q r : ℕ) → along (swapped w) p q r ≡ along w q p r
along-swapped xyz p q r = refl
along-swapped xzy p q r = refl
along-swapped yxz p q r = refl
along-swapped yzx p q r = refl
along-swapped zxy p q r = refl
along-swapped zyx p q r = refl

along-turned : (w : Order) (p q r : ℕ) → along (turned w) p q r ≡ along w r p q
along-turned xyz p q r = refl
along-turned xzy p q r = refl
along-turned yxz p q r = refl
along-turned yzx p q r = refl
along-turned zxy p q r = refl
along-turned zyx p q r = refl

pub swapped_back : (w : Order) → swapped (swapped w) ≡ w
swapped_back xyz = refl
swapped_back xzy = refl
swapped_back yxz = refl
swapped_back yzx = refl
swapped_back zxy = refl
swapped_back zyx = refl

pub turned_back : (w : Order) → turned (turned (turned w)) ≡ w
turned_back xyz = refl
turned_back xzy = refl
turned_back yxz = refl
turned_back yzx = refl
turned_back zxy = refl
turned_back zyx = refl

-- the corners of the children
pub cube_child_0 : (h : ℕ) (T : Tetrahedron) (w : Order) (a0 a1 a2 b0 b1 b2 m0 m1 m2 : ℕ) → a0 + b0 ≡ 2 * m0 → a1 + b1 ≡ 2 * m1 → a2 + b2 ≡ 2 * m2 → T.level % 3 ≡ 0
    → T.corners ≡ cube_list h w a0 a1 a2 b0 b1 b2 → (child_0 T).corners ≡ face_list h w a0 a1 a2 b0 b1 m0 m1 m2
unfolding cube_list face_list
cube_child_0 h T w a0 a1 a2 b0 b1 b2 m0 m1 m2 e f g n is =
    child_0_at_0 T (spot h w a0 a1 a2) (spot h w b0 a1 a2) (spot h w b0 b1 a2) (spot h w b0 b1 b2) n is
    ∙ four refl refl refl (middle h w a0 a1 a2 b0 b1 b2 m0 m1 m2 e f g)

pub cube_child_1 : (h : ℕ) (T : Tetrahedron) (w : Order) (a0 a1 a2 b0 b1 b2 m0 m1 m2 : ℕ) → a0 + b0 ≡ 2 * m0 → a1 + b1 ≡ 2 * m1 → a2 + b2 ≡ 2 * m2 → T.level % 3 ≡ 0
    → T.corners ≡ cube_list h w a0 a1 a2 b0 b1 b2 → (child_1 T).corners ≡ face_list h (turned w) a1 a2 b0 b1 b2 m1 m2 m0
unfolding cube_list face_list
cube_child_1 h T w a0 a1 a2 b0 b1 b2 m0 m1 m2 e f g n is =
    child_1_at_0 T (spot h w a0 a1 a2) (spot h w b0 a1 a2) (spot h w b0 b1 a2) (spot h w b0 b1 b2) n is
    ∙ four (sym (along-turned w (h * a1) (h * a2) (h * b0))) (sym (along-turned w (h * b1) (h * a2) (h * b0))) (sym (along-turned w (h * b1) (h * b2) (h * b0)))
    (middle h w a0 a1 a2 b0 b1 b2 m0 m1 m2 e f g ∙ sym (along-turned w (h * m1) (h * m2) (h * m0)))

pub face_child_0 : (h : ℕ) (T : Tetrahedron) (w : Order) (a0 a1 a2 b0 b1 m0 m1 b2 : ℕ) → a0 + b0 ≡ 2 * m0 → a1 + b1 ≡ 2 * m1 → T.level % 3 ≡ 1
    → T.corners ≡ face_list h w a0 a1 a2 b0 b1 m0 m1 b2 → (child_0 T).corners ≡ edge_list h w a0 a1 a2 b0 m0 m1 b2
unfolding face_list edge_list
face_child_0 h T w a0 a1 a2 b0 b1 m0 m1 b2 e f n is =
    child_0_at_1 T (spot h w a0 a1 a2) (spot h w b0 a1 a2) (spot h w b0 b1 a2) (spot h w m0 m1 b2) n is
    ∙ four refl refl (middle h w a0 a1 a2 b0 b1 a2 m0 m1 a2 e f (twice a2)) refl

pub face_child_1 : (h : ℕ) (T : Tetrahedron) (w : Order) (a0 a1 a2 b0 b1 m0 m1 b2 : ℕ) → a0 + b0 ≡ 2 * m0 → a1 + b1 ≡ 2 * m1 → T.level % 3 ≡ 1
    → T.corners ≡ face_list h w a0 a1 a2 b0 b1 m0 m1 b2 → (child_1 T).corners ≡ edge_list h (swapped w) a1 b0 a2 b1 m1 m0 b2
unfolding face_list edge_list
face_child_1 h T w a0 a1 a2 b0 b1 m0 m1 b2 e f n is =
    child_1_at_1 T (spot h w a0 a1 a2) (spot h w b0 a1 a2) (spot h w b0 b1 a2) (spot h w m0 m1 b2) n is
    ∙ four (sym (along-swapped w (h * a1) (h * b0) (h * a2))) (sym (along-swapped w (h * b1) (h * b0) (h * a2)))
    (middle h w a0 a1 a2 b0 b1 a2 m0 m1 a2 e f (twice a2) ∙ sym (along-swapped w (h * m1) (h * m0) (h * a2))) (sym (along-swapped w (h * m1) (h * m0) (h * b2)))

pub edge_child_0 : (h : ℕ) (T : Tetrahedron) (w : Order) (a0 a1 a2 b0 m0 b1 b2 : ℕ) → a0 + b0 ≡ 2 * m0 → T.level % 3 ≡ 2
    → T.corners ≡ edge_list h w a0 a1 a2 b0 m0 b1 b2 → (child_0 T).corners ≡ cube_list h w a0 a1 a2 m0 b1 b2
unfolding edge_list cube_list
edge_child_0 h T w a0 a1 a2 b0 m0 b1 b2 e n is =
    child_0_at_2 T (spot h w a0 a1 a2) (spot h w b0 a1 a2) (spot h w m0 b1 a2) (spot h w m0 b1 b2) n is
    ∙ four refl (middle h w a0 a1 a2 b0 a1 a2 m0 a1 a2 e (twice a1) (twice a2)) refl refl

pub edge_child_1 : (h : ℕ) (T : Tetrahedron) (w : Order) (a0 a1 a2 b0 m0 b1 b2 : ℕ) → a0 + b0 ≡ 2 * m0 → T.level % 3 ≡ 2
    → T.corners ≡ edge_list h w a0 a1 a2 b0 m0 b1 b2 → (child_1 T).corners ≡ cube_list h w b0 a1 a2 m0 b1 b2
unfolding edge_list cube_list
edge_child_1 h T w a0 a1 a2 b0 m0 b1 b2 e n is =
    child_1_at_2 T (spot h w a0 a1 a2) (spot h w b0 a1 a2) (spot h w m0 b1 a2) (spot h w m0 b1 b2) n is
    ∙ four refl (middle h w a0 a1 a2 b0 a1 a2 m0 a1 a2 e (twice a1) (twice a2)) refl refl

-- children of flags are flags
pub cube_down_0 : (h N : ℕ) (T : Tetrahedron) → T.level % 3 ≡ 0 → CubeFlag h N T.corners → FaceFlag h N (child_0 T).corners
cube_down_0 h N T n F = record {
  w = F.w;
  a0 = F.a0;
  a1 = F.a1;
  a2 = F.a2;
  b0 = F.b0;
  b1 = F.b1;
  b2 = F.m2;
  m0 = F.m0;
  m1 = F.m1;
  s0 = F.s0;
  s1 = F.s1;
  s2 = small_a N F.a2 F.b2 F.m2 F.s2;
  is = cube_child_0 h T F.w F.a0 F.a1 F.a2 F.b0 F.b1 F.b2 F.m0 F.m1 F.m2 (big_sum N _ _ _ F.s0) (big_sum N _ _ _ F.s1) (big_sum N _ _ _ F.s2) n F.is;
}

pub cube_down_1 : (h N : ℕ) (T : Tetrahedron) → T.level % 3 ≡ 0 → CubeFlag h N T.corners → FaceFlag h N (child_1 T).corners
cube_down_1 h N T n F = record {
  w = turned F.w;
  a0 = F.a1;
  a1 = F.a2;
  a2 = F.b0;
  b0 = F.b1;
  b1 = F.b2;
  b2 = F.m0;
  m0 = F.m1;
  m1 = F.m2;
  s0 = F.s1;
  s1 = F.s2;
  s2 = small_b N F.a0 F.b0 F.m0 F.s0;
  is = cube_child_1 h T F.w F.a0 F.a1 F.a2 F.b0 F.b1 F.b2 F.m0 F.m1 F.m2 (big_sum N _ _ _ F.s0) (big_sum N _ _ _ F.s1) (big_sum N _ _ _ F.s2) n F.is;
}

pub face_down_0 : (h N : ℕ) (T : Tetrahedron) → T.level % 3 ≡ 1 → FaceFlag h N T.corners → EdgeFlag h N (child_0 T).corners
face_down_0 h N T n F = record {
  w = F.w;
  a0 = F.a0;
  a1 = F.a1;
  a2 = F.a2;
  b0 = F.b0;
  b1 = F.m1;
  b2 = F.b2;
  m0 = F.m0;
  s0 = F.s0;
  s1 = small_a N F.a1 F.b1 F.m1 F.s1;
  s2 = F.s2;
  is = face_child_0 h T F.w F.a0 F.a1 F.a2 F.b0 F.b1 F.m0 F.m1 F.b2 (big_sum N _ _ _ F.s0) (big_sum N _ _ _ F.s1) n F.is;
}

pub face_down_1 : (h N : ℕ) (T : Tetrahedron) → T.level % 3 ≡ 1 → FaceFlag h N T.corners → EdgeFlag h N (child_1 T).corners
face_down_1 h N T n F = record {
  w = swapped F.w;
  a0 = F.a1;
  a1 = F.b0;
  a2 = F.a2;
  b0 = F.b1;
  b1 = F.m0;
  b2 = F.b2;
  m0 = F.m1;
  s0 = F.s1;
  s1 = small_b N F.a0 F.b0 F.m0 F.s0;
  s2 = F.s2;
  is = face_child_1 h T F.w F.a0 F.a1 F.a2 F.b0 F.b1 F.m0 F.m1 F.b2 (big_sum N _ _ _ F.s0) (big_sum N _ _ _ F.s1) n F.is;
}

pub edge_down_0 : (h N : ℕ) (T : Tetrahedron) → T.level % 3 ≡ 2 → EdgeFlag h N T.corners → NextFlag h N (child_0 T).corners
edge_down_0 h N T n F = record {
  w = F.w;
  a0 = F.a0;
  a1 = F.a1;
  a2 = F.a2;
  b0 = F.m0;
  b1 = F.b1;
  b2 = F.b2;
  s0 = small_a N F.a0 F.b0 F.m0 F.s0;
  s1 = F.s1;
  s2 = F.s2;
  is = edge_child_0 h T F.w F.a0 F.a1 F.a2 F.b0 F.m0 F.b1 F.b2 (big_sum N _ _ _ F.s0) n F.is;
}

pub edge_down_1 : (h N : ℕ) (T : Tetrahedron) → T.level % 3 ≡ 2 → EdgeFlag h N T.corners → NextFlag h N (child_1 T).corners
edge_down_1 h N T n F = record {
  w = F.w;
  a0 = F.b0;
  a1 = F.a1;
  a2 = F.a2;
  b0 = F.m0;
  b1 = F.b1;
  b2 = F.b2;
  s0 = small_b N F.a0 F.b0 F.m0 F.s0;
  s1 = F.s1;
  s2 = F.s2;
  is = edge_child_1 h T F.w F.a0 F.a1 F.a2 F.b0 F.m0 F.b1 F.b2 (big_sum N _ _ _ F.s0) n F.is;
}
