-- A name that gets a stream in a table.
use Rattle.std.specs.Prelude.{◌≡◌, ◌≢◌, ◌⊎◌, [], List, Option, is_some, if◌then◌else◌, ℕ}
use Rattle.std.specs.FinMap.{get}
use Rattle.std.specs.Option.{ForSome, option_map}
use Rattle.std.specs.declared.option.Option.TheVariants.{None, Some}
use Rattle.tetra_name.specs.declared.shape.Tet.{Tet}
use Rattle.tri_stream.specs.declared.names.Cursor.{Cursor}
use Rattle.tri_stream.specs.declared.names.StreamId.{StreamId}
use Rattle.tri_stream.specs.Streams.{StreamsState, count_of, list_of, size_of, told_list, total, Follows, IsLive, Stands}
use Rattle.assign.specs.Names.{LeafTable}

-- The stream of a leaf was there, or is new and has no triangles. Every other stream, and that of every other name, is as before.
pub record Names (leaf : Tet) (id : StreamId) (before after : LeafTable) (old new : StreamsState) : Type 0 where
  pub live : IsLive new id
  pub here : get after leaf ≡ Some id
  pub rest : (name : Tet) → name ≢ leaf → get after name ≡ get before name
  pub was : (get before leaf ≡ Some id) ⊎ ((get before leaf ≡ None) × (count_of old id ≡ None))
  pub size : size_of new id ≡ size_of old id
  pub total : total new ≡ total old
  pub counts : (x : StreamId) → x ≢ id → count_of new x ≡ count_of old x
  pub lists : (told : Option (List ℕ)) → ForSome told (Stands old) → (x : StreamId) → x ≢ id → told_list new told x ≡ told_list old told x
  pub cursors : (told : Option (List ℕ)) → ForSome told (Stands old) → (at : Cursor) → at.stream ≢ id → Follows old told at → Follows new told at
  pub list : (told : Option (List ℕ)) → ForSome told (Stands old)
      → told_list new told id ≡ option_map (λ bytes. if is_some (get before leaf) then list_of old bytes id else []) told
