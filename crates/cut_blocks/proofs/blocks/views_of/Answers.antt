-- The roots, or what is shown.
use Rattle.std.proofs.Common.{◌≡◌, Bool, true, false, List, [], ◌∷◌, ◌++◌, length, refl, sym, ◌∙◌, ap, arith, Vec, Global}
use Rattle.std.proofs.lemmas.Bool.{eqb-true}
use Rattle.std.specs.Prelude.{◌==◌, flat_map}
use Rattle.tpz_base.specs.Meshes.{Mesh}
use Rattle.patch_file.specs.Patches.{joined}
use Rattle.patch_view.specs.declared.PatchView.{PatchView}
use Rattle.patch_view.specs.Views.{mesh_of}
use Rattle.cut_blocks.specs.declared.blocks.Shown.{Shown}
use Rattle.cut_blocks.specs.Shown.{all_patches, shown_patches}
use Rattle.cut_blocks.proofs.ShownLaw.{no_views}
use Rattle.cut_blocks.proofs.blocks.views_of.Goals.{then-is_empty+in_ok-add_roots, else-is_empty+in_ok-add_all_shown}
use Rattle.cut_blocks.proofs.blocks.views_of.Goals as goal

none_shown : (base : List Mesh) (shown : List Shown) (b : Bool) → b ≡ (length shown == 0) → b ≡ true → all_patches base shown ≡ base
none_shown base [] b e f = refl
none_shown base (s ∷ shown) b e f = let none = eqb-true (length (s ∷ shown)) 0 (sym e ∙ f) in absurd (omega (arith, none))

some_shown : (base : List Mesh) (shown : List Shown) (b : Bool) → b ≡ (length shown == 0) → b ≡ false → all_patches base shown ≡ flat_map shown_patches shown
some_shown base [] b e f = absurd cc
some_shown base (s ∷ shown) b e f = refl

pub returns : goal.returns
returns c =
    let base = c.args.base.now.patches in
    let shown = c.args.shown.now in
    let mesh : Vec PatchView Global → Mesh = λ v. mesh_of v.items in
    let first = no_views c.new-views.result.items c.new-views.ensures.items in
    elim c.if-is_empty.branch [
      | then-is_empty+in_ok-add_roots w ↦
          ap mesh w.views-is ∙ w.in_ok-add_roots.ensures ∙ ap (λ m. m ++ joined base) first ∙ ap joined (sym (none_shown base shown c.is_empty.result c.is_empty.ensures w.if-is_empty.true))
      | else-is_empty+in_ok-add_all_shown w ↦
          ap mesh w.views-is ∙ w.in_ok-add_all_shown.ensures ∙ ap (λ m. m ++ joined (flat_map shown_patches shown)) first
          ∙ ap joined (sym (some_shown base shown c.is_empty.result c.is_empty.ensures w.if-is_empty.false))
    ]
