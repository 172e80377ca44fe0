-- A name that is set in a table of leaves.
use Rattle.std.proofs.Common.{◌≡◌, ◌≢◌, ◌⊎◌, true, cond, Some, None, Option, ℕ, List, [], refl, sym, ◌∙◌, ap, inl, inr, true≢false}
use Rattle.std.specs.Prelude.{is_some}
use Rattle.std.specs.Option.{ForSome, option_map, unwrap_or}
use Rattle.std.specs.Ordering.{eq_by_cmp}
use Rattle.std.specs.FinMap.{get, insert, get-insert}
use Rattle.std.proofs.lemmas.Bool.{cases_Bool}
use Rattle.std.proofs.lemmas.Cmp.{eq_by_cmp_equiv}
use Rattle.std.proofs.lemmas.Map.Views.{tells_apart}
use Rattle.tetra_name.specs.declared.shape.Tet.{Tet}
use Rattle.tri_stream.specs.declared.names.StreamId.{StreamId}
use Rattle.tri_stream.specs.Streams.{StreamsState, count_of, list_of, size_of, told_list, IsLive, Stands}
use Rattle.tri_stream.proofs.Changes.{Makes}
use Rattle.assign.specs.Names.{tet_cmp, LeafTable}
use Rattle.assign.specs.Naming.{Names}
use Rattle.assign.proofs.TableLaw.{tet_cmp_same, tet_cmp_total}

pub some_same : (x y : StreamId) → Some x ≡ Some y → x ≡ y
some_same x y e = cc

pub ties_itself : (a : Tet) → eq_by_cmp tet_cmp a a ≡ true
ties_itself a = (eq_by_cmp_equiv tet_cmp_total).refl a

-- two names are the same or not
pub same_tet : (a b : Tet) → (a ≡ b) ⊎ (a ≢ b)
same_tet a b =
    elim (cases_Bool (eq_by_cmp tet_cmp a b)) [
      | inl e ↦ inl (tells_apart tet_cmp_same a b e)
      | inr e ↦ inr (λ same. true≢false (sym (ties_itself a) ∙ ap (eq_by_cmp tet_cmp a) same ∙ e))
    ]

pub set_here : (table : LeafTable) (leaf : Tet) (id : StreamId) → get (insert table leaf id) leaf ≡ Some id
set_here table leaf id = get-insert tet_cmp_total table leaf id leaf ∙ ap (λ b. cond b (Some id) (get table leaf)) (ties_itself leaf)

pub set_rest : (table : LeafTable) (leaf : Tet) (id : StreamId) (name : Tet) → name ≢ leaf → get (insert table leaf id) name ≡ get table name
set_rest table leaf id name ne =
    get-insert tet_cmp_total table leaf id name
    ∙ elim (cases_Bool (eq_by_cmp tet_cmp name leaf)) [
      | inl e ↦ absurd (ne (tells_apart tet_cmp_same name leaf e))
      | inr e ↦ ap (λ b. cond b (Some id) (get table name)) e
    ]

-- a leaf whose stream was there
pub named_before : (leaf : Tet) (id : StreamId) (table : LeafTable) (s : StreamsState) → get table leaf ≡ Some id → IsLive s id → Names leaf id table table s s
named_before leaf id table s is live = record {
  live = live;
  here = is;
  rest = λ name ne. refl;
  was = inl is;
  size = refl;
  total = refl;
  counts = λ x ne. refl;
  lists = λ told h x ne. refl;
  cursors = λ told h at ne f. f;
  list = λ told h. ap (λ (o : Option StreamId). option_map (λ (bytes : List ℕ). cond (is_some o) (list_of s bytes id) []) told) (sym is);
}

sized : (s : StreamsState) (x : StreamId) (o : Option ℕ) (n : ℕ) → count_of s x ≡ o → unwrap_or o 0 ≡ n → size_of s x ≡ n
sized s x o n is e = ap (λ o. unwrap_or o 0) is ∙ e

-- a leaf whose stream was made
pub named_now : (leaf : Tet) (id : StreamId) (table : LeafTable) (s s' : StreamsState) → get table leaf ≡ None → Makes id s s'
    → Names leaf id table (insert table leaf id) s s'
named_now leaf id table s s' none made = record {
  live = rw made.count refl;
  here = set_here table leaf id;
  rest = λ name ne. set_rest table leaf id name ne;
  was = inr (none, made.fresh);
  size = sized s' id (Some 0) 0 made.count refl ∙ sym (sized s id None 0 made.fresh refl);
  total = made.total;
  counts = λ x ne. (made.others None (λ bytes is. absurd cc)).counts x ne;
  lists = λ told h x ne. (made.others told h).lists x ne;
  cursors = λ told h at ne f. (made.others told h).cursors at ne f;
  list = λ told h.
      all told h ∙ ap (λ (o : Option StreamId). option_map (λ (bytes : List ℕ). cond (is_some o) (list_of s bytes id) []) told) (sym none);
}
  where
    all : (told : Option (List ℕ)) → ForSome told (Stands s) → told_list s' told id ≡ option_map (λ (bytes : List ℕ). []) told
    all None h = refl
    all (Some bytes) h = ap Some (made.list bytes (h bytes refl))
