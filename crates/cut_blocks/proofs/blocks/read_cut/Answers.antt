-- Record after record.
use Rattle.std.proofs.Common.{◌≡◌, ◌+◌, ap, refl, sym, ◌∙◌, subst, Err, arith, get_or, length, length-append, ◌∷◌, []}
use Rattle.std.specs.Prelude.{All, flat_map}
use Rattle.std.proofs.lemmas.List.Elements.{All-nil, All-push, Contains-get_or}
use Rattle.std.proofs.lemmas.Option.{slice_get-get_or}
use Rattle.patch_file.proofs.AskingLaw.{asked_both, asked_none, asked_some}
use Rattle.view_cut.specs.Sets.{centres_at}
use Rattle.cut_blocks.specs.Shown.{outer_patches_at, shown_patches, stored_in, IsNamed}
use Rattle.cut_blocks.proofs.OpenLaw.{no_wrong, patches_next, right_next, same_status, told_of, wrong_next}
use Rattle.cut_blocks.proofs.ShownLaw.{counted_none, counted_both, asked_all, asked_refused_at}
use Rattle.cut_blocks.proofs.blocks.read_cut.Goals as goal

pub records-init : goal.records-init
records-init g c = record {
  held = refl;
  patches = λ bs told. ap (λ xs. flat_map shown_patches xs) c.new-shown.ensures.items;
  count = ap length c.new-shown.ensures.items;
  right = λ bs told. no_wrong (stored_in c.args.reader.now bs).0;
  named = subst (All (IsNamed c.args.graph.now.l)) (sym c.new-shown.ensures.items) (All-nil (IsNamed c.args.graph.now.l));
  asked = asked_none _ _ _ _;
  counted = counted_none _ _;
}

pub returns-in_err-push-in-Ok-clause-asked : goal.returns-in_err-push-in-Ok-clause-asked
returns-in_err-push-in-Ok-clause-asked g c =
    asked_refused_at c.args.tries (c.records.i-index + 1) (length c.args.set.now) _ _ _ _ _ _ _ _ (c.from_residual.ensures) (omega (arith, c.records-test.true))
    (asked_both _ _ _ _ _ _ _ _ _ _ _ _ _ _ _ c.records.invariant.asked c.in-Ok.ensures.asked)

pub returns-in-Err-clause-bad : goal.returns-in-Err-clause-bad
returns-in-Err-clause-bad g c = λ bad e.
    let r = c.in-Err.ensures.bad bad (ap Err (same_status _ _ e)) in (
      get_or c.args.set.now c.records.i-index 0,
      r.0,
      r.1,
      λ bs told.
          wrong_next (stored_in c.args.reader.now bs).0 c.args.set.now c.records.i-index (get_or c.args.set.now c.records.i-index 0) _
          (slice_get-get_or c.args.set.now c.records.i-index 0 c.records-test.true) (c.records.invariant.right bs told) (r.2 bs (c.records.invariant.held ∙ told)),
    )

pub returns-in-Err-clause-status : goal.returns-in-Err-clause-status
returns-in-Err-clause-status g c =
    told_of c.args.set.now (get_or c.args.set.now c.records.i-index 0) c.in-Err.status (Contains-get_or c.args.set.now c.records.i-index 0 c.records-test.true) c.in-Err.ensures.status

pub returns-in-Err-clause-asked : goal.returns-in-Err-clause-asked
returns-in-Err-clause-asked g c =
    asked_some _ _ _ _ _ _ _ _ _ _ _ (omega (arith, c.records-test.true)) (asked_both _ c.records.i-index 1 _ _ _ _ _ _ _ _ _ _ _ _ c.records.invariant.asked c.in-Err.ensures.asked)

pub records-preserved : goal.records-preserved
records-preserved g c =
    let there = slice_get-get_or c.args.set.now c.records.i-index 0 c.records-test.true in
    let items = c.in_ok-push-in-Ok.ensures.items in
    record {
      held = c.in-Ok.ensures.held ∙ c.records.invariant.held;
      patches = λ bs told.
          ap (λ xs. flat_map shown_patches xs) items
          ∙ patches_next shown_patches (outer_patches_at (stored_in c.args.reader.now bs).0 (centres_at c.args.graph.now.records c.args.set.now)) c.records.shown.items c.args.set.now c.records.i-index (get_or c.args.set.now c.records.i-index 0) c.in-Ok.one there
          (c.records.invariant.patches bs told) (c.in-Ok.ensures.patches bs (c.records.invariant.held ∙ told));
      count = ap length items ∙ length-append c.records.shown.items (c.in-Ok.one ∷ []) ∙ ap (λ n. n + 1) c.records.invariant.count;
      right = λ bs told.
          right_next (stored_in c.args.reader.now bs).0 c.args.set.now c.records.i-index _ there (c.records.invariant.right bs told) (c.in-Ok.ensures.right bs (c.records.invariant.held ∙ told));
      named = subst (All (IsNamed c.args.graph.now.l)) (sym items) (All-push (IsNamed c.args.graph.now.l) c.records.shown.items c.in-Ok.one c.records.invariant.named c.in-Ok.ensures.named);
      asked = asked_both _ _ _ _ _ _ _ _ _ _ _ _ _ _ _ c.records.invariant.asked c.in-Ok.ensures.asked;
      counted = counted_both _ _ _ _ _ _ c.records.invariant.counted c.in-Ok.ensures.counted;
    }

pub returns-clause-asked : goal.returns-clause-asked
returns-clause-asked g c =
    let all : c.records.i-index ≡ length c.args.set.now = omega (arith, c.records-test.false, c.records.auto.i-index-end) in
    asked_all _ _ _ _ _ _ _ _ _ _ _ all c.records.invariant.asked
