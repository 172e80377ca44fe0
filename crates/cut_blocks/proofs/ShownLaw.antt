-- The patches that are shown of blocks, and the reads that they were asked by.
use Rattle.std.proofs.Common.{◌≡◌, ℕ, zero, suc, ◌+◌, ◌<◌, ◌≤◌, Bool, true, false, List, [], ◌∷◌, ◌++◌, take, length, replicate, refl, sym, ◌∙◌, ap, subst, arith, append_assoc, slice_get, length-append, Option, Some}
use Rattle.std.specs.Prelude.{Ok, Err, Result, is_ok, IsErr, flat_map, ◌==◌, if◌then◌else◌}
use Rattle.std.specs.Int.{bit_at}
use Rattle.std.specs.Result.{IsErrAnd}
use Rattle.std.proofs.lemmas.List.{append-nil, take_more, length-take-le, length-replicate}
use Rattle.std.proofs.lemmas.Grind.{flat_map-append}
use Rattle.std.proofs.lemmas.Option.{slice_get_within, get_or_from_slice_get}
use Rattle.tpz_base.specs.Meshes.{Mesh}
use Rattle.patch_view.specs.declared.PatchView.{PatchView}
use Rattle.patch_view.specs.Views.{mesh_of}
use Rattle.patch_file.specs.Asking.{failures, Asks, HasAsked}
use Rattle.patch_file.proofs.AskingLaw.{asks_both, asked_refused, failures_both}
use Rattle.view_cut.specs.Views.{counted_by}
use Rattle.diamond_graph.specs.Graphs.{counted_on}
use Rattle.run_status.specs.declared.status.Status.{Status}
use Rattle.run_status.specs.declared.status.Status.TheVariants.{Memory}
use Rattle.cut_blocks.specs.Shown.{bit_picked, is_read_fault, is_unread, AreCounted}
use Rattle.patch_file.specs.Patches.{joined}

-- ---- views

-- the first k + 1 elements
pub take_next : {X : Type 0} (xs : List X) (k : ℕ) (x : X) → slice_get xs k ≡ Some x → take (k + 1) xs ≡ take k xs ++ x ∷ []
take_next xs k x at = take_more xs k x (slice_get_within xs k x at) ∙ ap (λ y. take k xs ++ y ∷ []) (get_or_from_slice_get xs k x x at)

abbrev one_if : Bool → Mesh → List Mesh
one_if b N = if b then N ∷ [] else []

picked_push : (bits n : ℕ) (Ns : List Mesh) (N : Mesh) → bit_picked bits n (Ns ++ N ∷ []) ≡ bit_picked bits n Ns ++ one_if (bit_at bits (n + length Ns) == 1) N
picked_push bits n [] N = let e : n + 0 ≡ n = omega arith in ap (λ m. one_if (bit_at bits m == 1) N) (sym e)
picked_push bits n (M ∷ Ns) N =
    let e : suc n + length Ns ≡ n + suc (length Ns) = omega arith in
    let rest = picked_push bits (suc n) Ns N ∙ ap (λ m. bit_picked bits (suc n) Ns ++ one_if (bit_at bits m == 1) N) e in
    at (bit_at bits n == 1) rest
  where
    at : (b : Bool) → bit_picked bits (suc n) (Ns ++ N ∷ []) ≡ bit_picked bits (suc n) Ns ++ one_if (bit_at bits (n + suc (length Ns)) == 1) N
        → (if b then M ∷ bit_picked bits (suc n) (Ns ++ N ∷ []) else bit_picked bits (suc n) (Ns ++ N ∷ []))
        ≡ (if b then M ∷ bit_picked bits (suc n) Ns else bit_picked bits (suc n) Ns) ++ one_if (bit_at bits (n + suc (length Ns)) == 1) N
    at true rest = ap (λ xs. M ∷ xs) rest
    at false rest = rest

picked_next : (bits k : ℕ) (Ns : List Mesh) (N : Mesh) → slice_get Ns k ≡ Some N → bit_picked bits 0 (take (k + 1) Ns) ≡ bit_picked bits 0 (take k Ns) ++ one_if (bit_at bits k == 1) N
picked_next bits k Ns N at =
    let within = slice_get_within Ns k N at in
    ap (bit_picked bits 0) (take_next Ns k N at) ∙ picked_push bits 0 (take k Ns) N
    ∙ ap (λ m. bit_picked bits 0 (take k Ns) ++ one_if (bit_at bits m == 1) N) (zero_more (length (take k Ns)) ∙ length-take-le k Ns (omega (arith, within)))
  where
    zero_more : (n : ℕ) → 0 + n ≡ n
    zero_more n = omega arith

views_push : (views now : List PatchView) (v : PatchView) (N : Mesh) → now ≡ views ++ v ∷ [] → v.tris.now ≡ N → mesh_of now ≡ mesh_of views ++ N
unfolding mesh_of
views_push views now v N e is =
    ap mesh e ∙ flat_map-append (λ (w : PatchView). w.tris.now) views (v ∷ []) ∙ ap (λ m. mesh views ++ m) (append-nil v.tris.now ∙ is)
  where
    mesh : List PatchView → Mesh
    mesh vs = flat_map (λ (w : PatchView). w.tris.now) vs

joined_push : (Ns : List Mesh) (N : Mesh) → joined (Ns ++ N ∷ []) ≡ joined Ns ++ N
joined_push Ns N = flat_map-append (λ (M : Mesh). M) Ns (N ∷ []) ∙ ap (λ m. joined Ns ++ m) (append-nil N)

pub joined_both : (Ns Ms : List Mesh) → joined (Ns ++ Ms) ≡ joined Ns ++ joined Ms
joined_both Ns Ms = flat_map-append (λ (M : Mesh). M) Ns Ms

-- the view of one more patch
pub root_added : (Ns : List Mesh) (k : ℕ) (N : Mesh) (views now : List PatchView) (v : PatchView) (before : Mesh) → slice_get Ns k ≡ Some N → mesh_of views ≡ before ++ joined (take k Ns)
    → now ≡ views ++ v ∷ [] → v.tris.now ≡ N → mesh_of now ≡ before ++ joined (take (k + 1) Ns)
root_added Ns k N views now v before at so_far e is =
    views_push views now v N e is ∙ ap (λ m. m ++ N) so_far ∙ append_assoc before (joined (take k Ns)) N
    ∙ ap (λ m. before ++ m) (sym (joined_push (take k Ns) N) ∙ ap joined (sym (take_next Ns k N at)))

-- one whose bit is 1
pub part_added : (bits k : ℕ) (Ns : List Mesh) (N : Mesh) (views now : List PatchView) (v : PatchView) (before : Mesh) → slice_get Ns k ≡ Some N
    → mesh_of views ≡ before ++ joined (bit_picked bits 0 (take k Ns)) → (bit_at bits k == 1) ≡ true → now ≡ views ++ v ∷ [] → v.tris.now ≡ N
    → mesh_of now ≡ before ++ joined (bit_picked bits 0 (take (k + 1) Ns))
part_added bits k Ns N views now v before at so_far set e is =
    views_push views now v N e is ∙ ap (λ m. m ++ N) so_far ∙ append_assoc before (joined (bit_picked bits 0 (take k Ns))) N
    ∙ ap (λ m. before ++ m) (sym (joined_push (bit_picked bits 0 (take k Ns)) N)
    ∙ ap joined (ap (λ b. bit_picked bits 0 (take k Ns) ++ one_if b N) (sym set) ∙ sym (picked_next bits k Ns N at)))

-- one whose bit is 0
pub part_passed : (bits k : ℕ) (Ns : List Mesh) (N : Mesh) (views : List PatchView) (before : Mesh) → slice_get Ns k ≡ Some N
    → mesh_of views ≡ before ++ joined (bit_picked bits 0 (take k Ns)) → (bit_at bits k == 1) ≡ false → mesh_of views ≡ before ++ joined (bit_picked bits 0 (take (k + 1) Ns))
part_passed bits k Ns N views before at so_far unset =
    so_far ∙ ap (λ m. before ++ joined m) (sym (picked_next bits k Ns N at ∙ ap (λ b. bit_picked bits 0 (take k Ns) ++ one_if b N) unset ∙ append-nil _))

-- what is shown of one more block
pub block_added : {S : Type 0} (patches : S → List Mesh) (shown : List S) (k : ℕ) (s : S) (before old new : Mesh) → slice_get shown k ≡ Some s → old ≡ before ++ joined (flat_map patches (take k shown))
    → new ≡ old ++ joined (patches s) → new ≡ before ++ joined (flat_map patches (take (k + 1) shown))
block_added patches shown k s before old new at so_far e =
    e ∙ ap (λ m. m ++ joined (patches s)) so_far ∙ append_assoc before (joined (flat_map patches (take k shown))) (joined (patches s))
    ∙ ap (λ m. before ++ m) (sym (ap (λ xs. joined (flat_map patches xs)) (take_next shown k s at)
    ∙ ap joined (flat_map-append patches (take k shown) (s ∷ []) ∙ ap (λ ps. flat_map patches (take k shown) ++ ps) (append-nil (patches s)))
    ∙ joined_both (flat_map patches (take k shown)) (patches s)))

-- ---- reads

one_answer : (a : List Bool) → length a ≤ 1 → length a ≡ 1 + failures a → a ≡ true ∷ []
one_answer [] few e = absurd (omega (arith, e))
one_answer (true ∷ []) few e = refl
one_answer (false ∷ []) few e = absurd cc
one_answer (x ∷ y ∷ ys) few e = absurd (omega (arith, few))

one_failure : (a front : List Bool) → length a ≤ 1 → a ≡ front ++ false ∷ [] → a ≡ false ∷ []
one_failure a [] few e = e
one_failure a (x ∷ front) few e = let long = ap length e ∙ length-append (x ∷ front) (false ∷ []) in absurd (omega (arith, few, long))

failures_of : (n : ℕ) → failures (replicate n false) ≡ n
failures_of zero = refl
failures_of (suc n) = let e = failures_both (false ∷ []) (replicate n false) in let f = failures_of n in e ∙ omega arith

replicate_next : (n : ℕ) → replicate n false ++ false ∷ [] ≡ replicate (n + 1) false
replicate_next zero = refl
replicate_next (suc n) = let e : suc (n + 1) ≡ suc n + 1 = omega arith in ap (λ xs. false ∷ xs) (replicate_next n) ∙ ap (λ m. replicate m false) e

module _ (tries n f f' f'' r r' r'' : ℕ) (o o' o'' : Option (List Bool)) where
  -- after n reads that failed, one more was answered
  pub read_answered : n < tries → Asks (replicate n false) f f' r r' o o' → HasAsked 1 1 true false f' f'' r' r'' o' o'' → HasAsked tries 1 true false f f'' r r'' o o''
  read_answered low h k =
      let a : k.answers ≡ true ∷ [] = one_answer k.answers (let few = k.few in omega (arith, few)) (k.all_answered refl) in
      let long = length-append (replicate n false) (true ∷ []) in
      let all = length-replicate n false in
      let fails = failures_both (replicate n false) (true ∷ []) in
      let none = failures_of n in
      record {
        answers = replicate n false ++ true ∷ [];
        asked = asks_both (replicate n false) (true ∷ []) f f' f'' r r' r'' o o' o'' h (subst (λ b. Asks b f' f'' r' r'' o' o'') a k.asked);
        few = omega arith;
        all_answered = λ e. omega arith;
        all_failed = λ e. absurd (apart e);
      }
    where
      apart : ◌≡◌ {A = Bool} false true → ⊥
      apart e = cc

  -- one more failed
  pub read_failed : Asks (replicate n false) f f' r r' o o' → HasAsked 1 1 false true f' f'' r' r'' o' o'' → Asks (replicate (n + 1) false) f f'' r r'' o o''
  read_failed h k =
      let all = k.all_failed refl in
      let a : k.answers ≡ false ∷ [] = one_failure k.answers all.0 (let few = k.few in omega (arith, few)) all.1 in
      subst (λ b. Asks b f f'' r r'' o o'') (replicate_next n)
      (asks_both (replicate n false) (false ∷ []) f f' f'' r r' r'' o o' o'' h (subst (λ b. Asks b f' f'' r' r'' o' o'') a k.asked))

  -- something else refused
  pub read_refused : (spent : Bool) → n < tries → Asks (replicate n false) f f' r r' o o' → HasAsked 1 1 false spent f' f'' r' r'' o' o'' → HasAsked tries 1 false false f f'' r r'' o o''
  read_refused spent low h k =
      let long = length-append (replicate n false) k.answers in
      let all = length-replicate n false in
      let few = k.few in
      record {
        answers = replicate n false ++ k.answers;
        asked = asks_both (replicate n false) k.answers f f' f'' r r' r'' o o' o'' h k.asked;
        few = omega arith;
        all_answered = λ e. absurd (apart e);
        all_failed = λ e. absurd (apart e);
      }
    where
      apart : ◌≡◌ {A = Bool} false true → ⊥
      apart e = cc

  -- the reads and the count of them rose alike
  pub read_counted : (c c' : ℕ) → c' ≡ counted_by (n + 1) c → Asks (replicate n false) f f' r r' o o' → HasAsked 1 1 true false f' f'' r' r'' o' o'' → AreCounted c c' r r''
  read_counted c c' e h k =
      let a : k.answers ≡ true ∷ [] = one_answer k.answers (let few = k.few in omega (arith, few)) (k.all_answered refl) in
      let long = ap length a in
      let all = length-replicate n false in
      let first = h.counted in
      let last = k.asked.counted in
      record { number = n + 1; counted = e; read = omega arith }

-- all reads failed
pub read_out : (tries n f f' r r' : ℕ) (o o' : Option (List Bool)) → n ≡ tries → Asks (replicate n false) f f' r r' o o' → HasAsked tries 1 false true f f' r r' o o'
read_out tries n f f' r r' o o' e h =
    let long = length-replicate n false in
    record {
      answers = replicate n false;
      asked = h;
      few = omega arith;
      all_answered = λ e'. absurd (apart e');
      all_failed = λ e'. ([], ap (λ m. replicate m false) e);
    }
  where
    apart : ◌≡◌ {A = Bool} false true → ⊥
    apart e = cc

-- one more is counted
pub count_next : (n c now c' : ℕ) → now ≡ counted_by n c → c' ≡ counted_on now → c' ≡ counted_by (n + 1) c
count_next n c now c' e f = let one : suc n ≡ n + 1 = omega arith in f ∙ ap counted_on e ∙ ap (λ m. counted_by m c) one

pub counts_both : (m n c : ℕ) → counted_by m (counted_by n c) ≡ counted_by (m + n) c
counts_both zero n c = let e : n ≡ 0 + n = omega arith in ap (λ k. counted_by k c) e
counts_both (suc m) n c = let e : suc (m + n) ≡ suc m + n = omega arith in ap counted_on (counts_both m n c) ∙ ap (λ k. counted_by k c) e

pub counted_none : (c r : ℕ) → AreCounted c c r r
counted_none c r = record { number = 0; counted = refl; read = omega arith }

pub counted_both : (c c' c'' r r' r'' : ℕ) → AreCounted c c' r r' → AreCounted c' c'' r' r'' → AreCounted c c'' r r''
counted_both c c' c'' r r' r'' h k =
    let d = h.read in
    let e = k.read in
    record { number = k.number + h.number; counted = k.counted ∙ ap (counted_by k.number) h.counted ∙ counts_both k.number h.number c; read = omega arith }

pub patch_there : {X : Type 0} (xs : List X) (k : ℕ) → k < length xs → (x : X) × (slice_get xs k ≡ Some x)
patch_there [] k low = absurd (omega (arith, low))
patch_there (x ∷ xs) zero low = (x, refl)
patch_there (x ∷ xs) (suc k) low = patch_there xs k (omega (arith, low))

-- calls that were answered, after which memory ran out
pub asked_refused_at : {T : Type 0} (tries m n : ℕ) (s : Bool) (r : Result T Status) (f f' k k' : ℕ) (o o' : Option (List Bool)) → IsErr r × IsErrAnd r (λ e. e ≡ Memory) → m ≤ n
    → HasAsked tries m true s f f' k k' o o' → HasAsked tries n (is_ok r) (is_unread r) f f' k k' o o'
asked_refused_at tries m n s (Ok x) f f' k k' o o' is few h = absurd is.1
asked_refused_at tries m n s (Err e) f f' k k' o o' is few h =
    let none : is_read_fault e ≡ false = ap is_read_fault is.1 in
    subst (λ b. HasAsked tries n false b f f' k k' o o') (sym none) (asked_refused tries m n true s f f' k k' o o' few h)

pub no_views : (views : List PatchView) → views ≡ [] → mesh_of views ≡ []
unfolding mesh_of
no_views views e = ap (flat_map (λ (v : PatchView). v.tris.now)) e

pub asked_all : (tries m n : ℕ) (ok s : Bool) (f f' r r' : ℕ) (o o' : Option (List Bool)) → m ≡ n → HasAsked tries m ok s f f' r r' o o' → HasAsked tries n ok s f f' r r' o o'
asked_all tries m n ok s f f' r r' o o' e h = subst (λ k. HasAsked tries k ok s f f' r r' o o') e h
