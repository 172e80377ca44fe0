-- The lengths of a tetrahedron's edges: the bisected one is the longest, and together with the corners they tell the level.
use Rattle.std.proofs.Common.{◌≡◌, ℕ, zero, suc, ◌+◌, ◌-◌, ◌*◌, ◌/◌, ◌%◌, ◌^◌, ◌≤◌, ◌<◌, ◌⊎◌, List, [], ◌∷◌, refl, sym, ◌∙◌, ap, ap₂, subst, inl, inr, arith, pow_pos, pow-add}
use Rattle.std.proofs.lemmas.Bool.{cases_order}
use Rattle.std.proofs.Math.Pow.{pow-lt}
use Rattle.tpz_base.specs.declared.shape.Point.{Point}
use Rattle.tpz_base.specs.Points.{gap_of, squared_length}
use Rattle.tpz_base.specs.Tetrahedra.{Tetrahedron, at_level, corner, tag, BisectsLongest}
use Rattle.tpz_base.proofs.CutLaw.{Member}
use Rattle.tpz_base.proofs.AxisPaths.{Order, xyz, xzy, yxz, yzx, zxy, zyx, along}
use Rattle.tpz_base.proofs.Distinct.{at_its_level}
use Rattle.tetra_name.proofs.Flags.{spot, Big, Small, cube_list, face_list, edge_list, CubeFlag, FaceFlag, EdgeFlag}
use Rattle.tetra_name.proofs.Rounds.{cubes, faces, edges}
use Rattle.tetra_name.proofs.MembersLaw.{cancelled}

gap_same : (n : ℕ) → gap_of n n ≡ 0
gap_same n = omega arith

gap_times : (h m n : ℕ) → gap_of (h * m) (h * n) ≡ h * gap_of m n
gap_times h m n =
    elim (cases_order m n) [
      | inl e ↦ rw (e, gap_same n) (omega (arith, gap_same (h * n)))
      | inr u ↦ elim u [
        | inl lt ↦
            let d : n ≡ m + (n - m) = omega (arith, lt) in
            let times : h * n ≡ h * m + h * (n - m) = ap (λ x. h * x) d ∙ omega arith in
            let gap : gap_of m n ≡ n - m = omega (arith, lt) in
            rw gap (omega (arith, times))
        | inr lt ↦
            let d : m ≡ n + (m - n) = omega (arith, lt) in
            let times : h * m ≡ h * n + h * (m - n) = ap (λ x. h * x) d ∙ omega arith in
            let gap : gap_of m n ≡ m - n = omega (arith, lt) in
            rw gap (omega (arith, times))
      ]
    ]

swap_23 : (a b c : ℕ) → a + b + c ≡ a + c + b
swap_23 a b c = omega arith

swap_12 : (a b c : ℕ) → a + b + c ≡ b + a + c
swap_12 a b c = omega arith

turn : (a b c : ℕ) → a + b + c ≡ b + c + a
turn a b c = omega arith

turn_back : (a b c : ℕ) → a + b + c ≡ c + a + b
turn_back a b c = omega arith

turn_over : (a b c : ℕ) → a + b + c ≡ c + b + a
turn_over a b c = omega arith

length-along : (w : Order) (p q r p' q' r' : ℕ) → squared_length (along w p q r) (along w p' q' r') ≡ gap_of p p' * gap_of p p' + gap_of q q' * gap_of q q' + gap_of r r' * gap_of r r'
length-along xyz p q r p' q' r' = refl
length-along xzy p q r p' q' r' = swap_23 (gap_of p p' * gap_of p p') (gap_of r r' * gap_of r r') (gap_of q q' * gap_of q q')
length-along yxz p q r p' q' r' = swap_12 (gap_of q q' * gap_of q q') (gap_of p p' * gap_of p p') (gap_of r r' * gap_of r r')
length-along yzx p q r p' q' r' = turn (gap_of r r' * gap_of r r') (gap_of p p' * gap_of p p') (gap_of q q' * gap_of q q')
length-along zxy p q r p' q' r' = turn_back (gap_of q q' * gap_of q q') (gap_of r r' * gap_of r r') (gap_of p p' * gap_of p p')
length-along zyx p q r p' q' r' = turn_over (gap_of r r' * gap_of r r') (gap_of q q' * gap_of q q') (gap_of p p' * gap_of p p')

-- points at these distances along three axes
spot_length : (h : ℕ) (w : Order) (p q r p' q' r' x y z n : ℕ) → gap_of p p' ≡ x → gap_of q q' ≡ y → gap_of r r' ≡ z → x * x + y * y + z * z ≡ n
    → squared_length (spot h w p q r) (spot h w p' q' r') ≡ h * h * n
spot_length h w p q r p' q' r' x y z n e f g s =
    let a : gap_of (h * p) (h * p') ≡ h * x = gap_times h p p' ∙ ap (λ m. h * m) e in
    let b : gap_of (h * q) (h * q') ≡ h * y = gap_times h q q' ∙ ap (λ m. h * m) f in
    let c : gap_of (h * r) (h * r') ≡ h * z = gap_times h r r' ∙ ap (λ m. h * m) g in
    length-along w (h * p) (h * q) (h * r) (h * p') (h * q') (h * r') ∙ rw (a, b, c) (times h x y z n s)
  where
    times : (h x y z n : ℕ) → x * x + y * y + z * z ≡ n → h * x * (h * x) + h * y * (h * y) + h * z * (h * z) ≡ h * h * n
    times h x y z n s =
        let e : h * h * (x * x + y * y + z * z) ≡ h * h * n = ap (λ m. h * h * m) s in
        omega (arith, e)

-- the lengths of steps
big_gap : (N a b m : ℕ) → Big N a b m → gap_of a b ≡ 2
big_gap N a b m s = elim s.near [ inl k ↦ omega (arith, k.0) | inr k ↦ omega (arith, k.0) ]

big_start : (N a b m : ℕ) → Big N a b m → gap_of a m ≡ 1
big_start N a b m s = elim s.near [ inl k ↦ omega (arith, k.1) | inr k ↦ omega (arith, k.0, k.1) ]

big_end : (N a b m : ℕ) → Big N a b m → gap_of b m ≡ 1
big_end N a b m s = elim s.near [ inl k ↦ omega (arith, k.0, k.1) | inr k ↦ omega (arith, k.1) ]

small_gap : (N a b : ℕ) → Small N a b → gap_of a b ≡ 1
small_gap N a b s = elim s.near [ inl k ↦ omega (arith, k) | inr k ↦ omega (arith, k) ]

-- four corners with the six squared lengths in units of s
record Edges (s : ℕ) (ps : List Point) (ab ac ad bc bd cd : ℕ) : Type 0 where
  A : Point
  B : Point
  C : Point
  D : Point
  is : ps ≡ A ∷ B ∷ C ∷ D ∷ []
  AB : squared_length A B ≡ s * ab
  AC : squared_length A C ≡ s * ac
  AD : squared_length A D ≡ s * ad
  BC : squared_length B C ≡ s * bc
  BD : squared_length B D ≡ s * bd
  CD : squared_length C D ≡ s * cd

cube_edges : (h N : ℕ) (ps : List Point) → CubeFlag h N ps → Edges (h * h) ps 4 8 12 4 8 4
unfolding cube_list
cube_edges h N ps F =
    let x = big_gap N F.a0 F.b0 F.m0 F.s0 in
    let y = big_gap N F.a1 F.b1 F.m1 F.s1 in
    let z = big_gap N F.a2 F.b2 F.m2 F.s2 in
    record {
      A = spot h F.w F.a0 F.a1 F.a2;
      B = spot h F.w F.b0 F.a1 F.a2;
      C = spot h F.w F.b0 F.b1 F.a2;
      D = spot h F.w F.b0 F.b1 F.b2;
      is = F.is;
      AB = spot_length h F.w F.a0 F.a1 F.a2 F.b0 F.a1 F.a2 2 0 0 4 x (gap_same F.a1) (gap_same F.a2) refl;
      AC = spot_length h F.w F.a0 F.a1 F.a2 F.b0 F.b1 F.a2 2 2 0 8 x y (gap_same F.a2) refl;
      AD = spot_length h F.w F.a0 F.a1 F.a2 F.b0 F.b1 F.b2 2 2 2 12 x y z refl;
      BC = spot_length h F.w F.b0 F.a1 F.a2 F.b0 F.b1 F.a2 0 2 0 4 (gap_same F.b0) y (gap_same F.a2) refl;
      BD = spot_length h F.w F.b0 F.a1 F.a2 F.b0 F.b1 F.b2 0 2 2 8 (gap_same F.b0) y z refl;
      CD = spot_length h F.w F.b0 F.b1 F.a2 F.b0 F.b1 F.b2 0 0 2 4 (gap_same F.b0) (gap_same F.b1) z refl;
    }

face_edges : (h N : ℕ) (ps : List Point) → FaceFlag h N ps → Edges (h * h) ps 4 8 3 4 3 3
unfolding face_list
face_edges h N ps F =
    let x = big_gap N F.a0 F.b0 F.m0 F.s0 in
    let y = big_gap N F.a1 F.b1 F.m1 F.s1 in
    let z = small_gap N F.a2 F.b2 F.s2 in
    let xa = big_start N F.a0 F.b0 F.m0 F.s0 in
    let xb = big_end N F.a0 F.b0 F.m0 F.s0 in
    let ya = big_start N F.a1 F.b1 F.m1 F.s1 in
    let yb = big_end N F.a1 F.b1 F.m1 F.s1 in
    record {
      A = spot h F.w F.a0 F.a1 F.a2;
      B = spot h F.w F.b0 F.a1 F.a2;
      C = spot h F.w F.b0 F.b1 F.a2;
      D = spot h F.w F.m0 F.m1 F.b2;
      is = F.is;
      AB = spot_length h F.w F.a0 F.a1 F.a2 F.b0 F.a1 F.a2 2 0 0 4 x (gap_same F.a1) (gap_same F.a2) refl;
      AC = spot_length h F.w F.a0 F.a1 F.a2 F.b0 F.b1 F.a2 2 2 0 8 x y (gap_same F.a2) refl;
      AD = spot_length h F.w F.a0 F.a1 F.a2 F.m0 F.m1 F.b2 1 1 1 3 xa ya z refl;
      BC = spot_length h F.w F.b0 F.a1 F.a2 F.b0 F.b1 F.a2 0 2 0 4 (gap_same F.b0) y (gap_same F.a2) refl;
      BD = spot_length h F.w F.b0 F.a1 F.a2 F.m0 F.m1 F.b2 1 1 1 3 xb ya z refl;
      CD = spot_length h F.w F.b0 F.b1 F.a2 F.m0 F.m1 F.b2 1 1 1 3 xb yb z refl;
    }

edge_edges : (h N : ℕ) (ps : List Point) → EdgeFlag h N ps → Edges (h * h) ps 4 2 3 2 3 1
unfolding edge_list
edge_edges h N ps F =
    let x = big_gap N F.a0 F.b0 F.m0 F.s0 in
    let y = small_gap N F.a1 F.b1 F.s1 in
    let z = small_gap N F.a2 F.b2 F.s2 in
    let xa = big_start N F.a0 F.b0 F.m0 F.s0 in
    let xb = big_end N F.a0 F.b0 F.m0 F.s0 in
    record {
      A = spot h F.w F.a0 F.a1 F.a2;
      B = spot h F.w F.b0 F.a1 F.a2;
      C = spot h F.w F.m0 F.b1 F.a2;
      D = spot h F.w F.m0 F.b1 F.b2;
      is = F.is;
      AB = spot_length h F.w F.a0 F.a1 F.a2 F.b0 F.a1 F.a2 2 0 0 4 x (gap_same F.a1) (gap_same F.a2) refl;
      AC = spot_length h F.w F.a0 F.a1 F.a2 F.m0 F.b1 F.a2 1 1 0 2 xa y (gap_same F.a2) refl;
      AD = spot_length h F.w F.a0 F.a1 F.a2 F.m0 F.b1 F.b2 1 1 1 3 xa y z refl;
      BC = spot_length h F.w F.b0 F.a1 F.a2 F.m0 F.b1 F.a2 1 1 0 2 xb y (gap_same F.a2) refl;
      BD = spot_length h F.w F.b0 F.a1 F.a2 F.m0 F.b1 F.b2 1 1 1 3 xb y z refl;
      CD = spot_length h F.w F.m0 F.b1 F.a2 F.m0 F.b1 F.b2 0 0 1 1 (gap_same F.m0) (gap_same F.b1) z refl;
    }

shorter : (s m n x y : ℕ) → 0 < s → m ≡ s * x → n ≡ s * y → x < y → m < n
shorter s m n x y pos e f lt = rw (e, f) (times s x y pos lt) where
  times : (s x y : ℕ) → 0 < s → x < y → s * x < s * y
  times s x y pos lt = grind arith

-- a corner by its place
corner_at : (T : Tetrahedron) (A B C D : Point) → T.corners ≡ A ∷ B ∷ C ∷ D ∷ [] → (corner T 0 ≡ A) × (corner T 1 ≡ B) × (corner T 2 ≡ C) × (corner T 3 ≡ D)
corner_at T A B C D e = (rw e refl, rw e refl, rw e refl, rw e refl)

between : (T : Tetrahedron) (i k : ℕ) (P Q : Point) (n : ℕ) → corner T i ≡ P → corner T k ≡ Q → squared_length P Q ≡ n → squared_length (corner T i) (corner T k) ≡ n
between T i k P Q n e f g = ap₂ squared_length e f ∙ g

-- the longest, by which corner ends the bisected edge
module _ (T : Tetrahedron) (s ab ac ad bc bd cd : ℕ) (pos : 0 < s) (E : Edges s T.corners ab ac ad bc bd cd) where
  c : (corner T 0 ≡ E.A) × (corner T 1 ≡ E.B) × (corner T 2 ≡ E.C) × (corner T 3 ≡ E.D)
  c = corner_at T E.A E.B E.C E.D E.is

  d01 : squared_length (corner T 0) (corner T 1) ≡ s * ab
  d01 = between T 0 1 E.A E.B (s * ab) c.0 c.1 E.AB

  d02 : squared_length (corner T 0) (corner T 2) ≡ s * ac
  d02 = between T 0 2 E.A E.C (s * ac) c.0 c.2 E.AC

  d03 : squared_length (corner T 0) (corner T 3) ≡ s * ad
  d03 = between T 0 3 E.A E.D (s * ad) c.0 c.3 E.AD

  d12 : squared_length (corner T 1) (corner T 2) ≡ s * bc
  d12 = between T 1 2 E.B E.C (s * bc) c.1 c.2 E.BC

  d13 : squared_length (corner T 1) (corner T 3) ≡ s * bd
  d13 = between T 1 3 E.B E.D (s * bd) c.1 c.3 E.BD

  d23 : squared_length (corner T 2) (corner T 3) ≡ s * cd
  d23 = between T 2 3 E.C E.D (s * cd) c.2 c.3 E.CD

  -- an edge is the bisected one of this length, or shorter
  abbrev Within : ℕ → ℕ → ℕ → Type 0
  Within longest i k = ((i ≡ 0) × (k ≡ tag T)) ⊎ (squared_length (corner T i) (corner T k) < s * longest)

  six : (longest : ℕ) → Within longest 0 1 → Within longest 0 2 → Within longest 0 3 → Within longest 1 2 → Within longest 1 3 → Within longest 2 3
      → squared_length (corner T 0) (corner T (tag T)) ≡ s * longest → BisectsLongest T
  unfolding BisectsLongest
  six longest e01 e02 e03 e12 e13 e23 is i k lt lt' = let go = all i k lt lt' in subst (λ n. ((i ≡ 0) × (k ≡ tag T)) ⊎ (squared_length (corner T i) (corner T k) < n)) (sym is) go where
    all : (i k : ℕ) → i < k → k < 4 → Within longest i k
    all zero zero lt lt' = absurd (omega (arith, lt))
    all zero (suc zero) lt lt' = e01
    all zero (suc (suc zero)) lt lt' = e02
    all zero (suc (suc (suc zero))) lt lt' = e03
    all (suc zero) zero lt lt' = absurd (omega (arith, lt))
    all (suc zero) (suc zero) lt lt' = absurd (omega (arith, lt))
    all (suc zero) (suc (suc zero)) lt lt' = e12
    all (suc zero) (suc (suc (suc zero))) lt lt' = e13
    all (suc (suc i)) zero lt lt' = absurd (omega (arith, lt))
    all (suc (suc i)) (suc zero) lt lt' = absurd (omega (arith, lt))
    all (suc (suc zero)) (suc (suc zero)) lt lt' = absurd (omega (arith, lt))
    all (suc (suc (suc i))) (suc (suc zero)) lt lt' = absurd (omega (arith, lt))
    all (suc (suc zero)) (suc (suc (suc zero))) lt lt' = e23
    all (suc (suc (suc i))) (suc (suc (suc zero))) lt lt' = absurd (omega (arith, lt))
    all i (suc (suc (suc (suc k)))) lt lt' = absurd (omega (arith, lt'))

  less : (m n x y : ℕ) → m ≡ s * x → x < y → m < s * y
  less m n x y e lt = shorter s m (s * y) x y pos e refl lt

  longest_03 : tag T ≡ 3 → ab < ad → ac < ad → bc < ad → bd < ad → cd < ad → BisectsLongest T
  longest_03 g l01 l02 l12 l13 l23 =
      six ad (inr (less _ 0 ab ad d01 l01)) (inr (less _ 0 ac ad d02 l02)) (inl (refl, sym g)) (inr (less _ 0 bc ad d12 l12)) (inr (less _ 0 bd ad d13 l13)) (inr (less _ 0 cd ad d23 l23))
      (ap (λ k. squared_length (corner T 0) (corner T k)) g ∙ d03)

  longest_02 : tag T ≡ 2 → ab < ac → ad < ac → bc < ac → bd < ac → cd < ac → BisectsLongest T
  longest_02 g l01 l03 l12 l13 l23 =
      six ac (inr (less _ 0 ab ac d01 l01)) (inl (refl, sym g)) (inr (less _ 0 ad ac d03 l03)) (inr (less _ 0 bc ac d12 l12)) (inr (less _ 0 bd ac d13 l13)) (inr (less _ 0 cd ac d23 l23))
      (ap (λ k. squared_length (corner T 0) (corner T k)) g ∙ d02)

  longest_01 : tag T ≡ 1 → ac < ab → ad < ab → bc < ab → bd < ab → cd < ab → BisectsLongest T
  longest_01 g l02 l03 l12 l13 l23 =
      six ab (inl (refl, sym g)) (inr (less _ 0 ac ab d02 l02)) (inr (less _ 0 ad ab d03 l03)) (inr (less _ 0 bc ab d12 l12)) (inr (less _ 0 bd ab d13 l13)) (inr (less _ 0 cd ab d23 l23))
      (ap (λ k. squared_length (corner T 0) (corner T k)) g ∙ d01)

-- the kind of diamond by the last edge
pub kind_by : ℕ → ℕ
kind_by zero = 0
kind_by (suc zero) = 1
kind_by (suc (suc zero)) = 0
kind_by (suc (suc (suc zero))) = 2
kind_by (suc (suc (suc (suc n)))) = 3

-- what the lengths say of a tetrahedron
pub record Shape (L : ℕ) (T : Tetrahedron) : Type 0 where
  pub j : ℕ
  pub below : j ≤ L
  pub last : ℕ
  pub level : T.level + kind_by last ≡ 3 * (L - j) + 3
  pub first_edge : squared_length (corner T 0) (corner T 1) ≡ 2 ^ j * 2 ^ j * 4
  pub last_edge : squared_length (corner T 2) (corner T 3) ≡ 2 ^ j * 2 ^ j * last
  pub longest : BisectsLongest T

square_pos : (j : ℕ) → 0 < 2 ^ j * 2 ^ j
square_pos j = let p : 0 < 2 ^ (j + j) = pow_pos (j + j) in subst (λ n. 0 < n) (pow-add 2 j j) p

tag_of : (T : Tetrahedron) (r : ℕ) → T.level % 3 ≡ r → tag T ≡ 3 - r
tag_of T r e = rw e refl

pub shape_of : (L n : ℕ) (T : Tetrahedron) → n ≤ 3 * L → Member (at_level L n) T → Shape L T
unfolding kind_by
shape_of L n T within m = cases (n % 3) refl where
  k : ℕ
  k = n / 3

  cases : (r : ℕ) → n % 3 ≡ r → Shape L T
  cases zero e =
      let is : n ≡ 3 * (n / 3) = omega (arith, e) in
      let sum : n / 3 + (L - n / 3) ≡ L = omega (arith, e, within) in
      let m' : Member (at_level L (3 * (n / 3))) T = subst (λ x. Member (at_level L x) T) is m in
      let level = at_its_level L (3 * (n / 3)) T m' in
      let E = cube_edges (2 ^ (L - n / 3)) (2 ^ suc (n / 3)) T.corners (cubes L (n / 3) (L - n / 3) sum T m') in
      let pos = square_pos (L - n / 3) in
      record {
        j = L - n / 3;
        below = omega (arith, sum);
        last = 4;
        level = omega (arith, level, sum);
        first_edge = d01 T (2 ^ (L - n / 3) * 2 ^ (L - n / 3)) 4 8 12 4 8 4 pos E;
        last_edge = d23 T (2 ^ (L - n / 3) * 2 ^ (L - n / 3)) 4 8 12 4 8 4 pos E;
        longest = longest_03 T (2 ^ (L - n / 3) * 2 ^ (L - n / 3)) 4 8 12 4 8 4 pos E (tag_of T 0 (omega (arith, level))) (omega arith) (omega arith) (omega arith) (omega arith) (omega arith);
      }
  cases (suc zero) e =
      let is : n ≡ suc (3 * (n / 3)) = omega (arith, e) in
      let sum : n / 3 + (L - n / 3) ≡ L = omega (arith, e, within) in
      let m' : Member (at_level L (suc (3 * (n / 3)))) T = subst (λ x. Member (at_level L x) T) is m in
      let level = at_its_level L (suc (3 * (n / 3))) T m' in
      let E = face_edges (2 ^ (L - n / 3)) (2 ^ suc (n / 3)) T.corners (faces L (n / 3) _ _ (cubes L (n / 3) (L - n / 3) sum) T m') in
      let pos = square_pos (L - n / 3) in
      record {
        j = L - n / 3;
        below = omega (arith, sum);
        last = 3;
        level = omega (arith, level, sum);
        first_edge = d01 T (2 ^ (L - n / 3) * 2 ^ (L - n / 3)) 4 8 3 4 3 3 pos E;
        last_edge = d23 T (2 ^ (L - n / 3) * 2 ^ (L - n / 3)) 4 8 3 4 3 3 pos E;
        longest = longest_02 T (2 ^ (L - n / 3) * 2 ^ (L - n / 3)) 4 8 3 4 3 3 pos E (tag_of T 1 (omega (arith, level))) (omega arith) (omega arith) (omega arith) (omega arith) (omega arith);
      }
  cases (suc (suc zero)) e =
      let is : n ≡ suc (suc (3 * (n / 3))) = omega (arith, e) in
      let sum : n / 3 + (L - n / 3) ≡ L = omega (arith, e, within) in
      let m' : Member (at_level L (suc (suc (3 * (n / 3))))) T = subst (λ x. Member (at_level L x) T) is m in
      let level = at_its_level L (suc (suc (3 * (n / 3)))) T m' in
      let E = edge_edges (2 ^ (L - n / 3)) (2 ^ suc (n / 3)) T.corners (edges L (n / 3) _ _ (faces L (n / 3) _ _ (cubes L (n / 3) (L - n / 3) sum)) T m') in
      let pos = square_pos (L - n / 3) in
      record {
        j = L - n / 3;
        below = omega (arith, sum);
        last = 1;
        level = omega (arith, level, sum);
        first_edge = d01 T (2 ^ (L - n / 3) * 2 ^ (L - n / 3)) 4 2 3 2 3 1 pos E;
        last_edge = d23 T (2 ^ (L - n / 3) * 2 ^ (L - n / 3)) 4 2 3 2 3 1 pos E;
        longest = longest_01 T (2 ^ (L - n / 3) * 2 ^ (L - n / 3)) 4 2 3 2 3 1 pos E (tag_of T 2 (omega (arith, level))) (omega arith) (omega arith) (omega arith) (omega arith) (omega arith);
      }
  cases (suc (suc (suc r))) e = absurd (omega (arith, e))

one_power : (a b : ℕ) → 2 ^ a ≡ 2 ^ b → a ≡ b
one_power a b e =
    elim (cases_order a b) [
      | inl same ↦ same
      | inr u ↦ elim u [ inl lt ↦ absurd (let p : 2 ^ a < 2 ^ b = pow-lt lt in omega (arith, p, e)) | inr lt ↦ absurd (let p : 2 ^ b < 2 ^ a = pow-lt lt in omega (arith, p, e)) ]
    ]

-- equal corners are of one level
pub level_by_corners : (L : ℕ) (S T : Tetrahedron) → Shape L S → Shape L T → S.corners ≡ T.corners → S.level ≡ T.level
level_by_corners L S T X Y e =
    let first : squared_length (corner S 0) (corner S 1) ≡ squared_length (corner T 0) (corner T 1) = rw e refl in
    let last : squared_length (corner S 2) (corner S 3) ≡ squared_length (corner T 2) (corner T 3) = rw e refl in
    let four : 2 ^ X.j * 2 ^ X.j * 4 ≡ 2 ^ Y.j * 2 ^ Y.j * 4 = sym X.first_edge ∙ first ∙ Y.first_edge in
    let squares : 2 ^ X.j * 2 ^ X.j ≡ 2 ^ Y.j * 2 ^ Y.j = omega (arith, four) in
    let twice : X.j + X.j ≡ Y.j + Y.j = one_power (X.j + X.j) (Y.j + Y.j) (pow-add 2 X.j X.j ∙ squares ∙ sym (pow-add 2 Y.j Y.j)) in
    let j : X.j ≡ Y.j = omega (arith, twice) in
    let times : 2 ^ X.j * 2 ^ X.j * X.last ≡ 2 ^ X.j * 2 ^ X.j * Y.last = sym X.last_edge ∙ last ∙ Y.last_edge ∙ ap (λ s. s * Y.last) (sym squares) in
    let kind : kind_by X.last ≡ kind_by Y.last = ap kind_by (cancelled (2 ^ X.j * 2 ^ X.j) X.last Y.last (square_pos X.j) times) in
    omega (arith, X.level, Y.level, j, kind)
