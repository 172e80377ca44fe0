-- The places so far, and one record more.
use Rattle.std.proofs.Common.{◌≡◌, ◌+◌, Result, Ok, Err, OnErr, Some, arith, refl, sym, ap, ◌∙◌, slice_get}
use Rattle.diamond_graph.specs.Graphs.{GraphState}
use Rattle.view_cut.specs.Views.{wanted_places}
use Rattle.view_cut.proofs.PlaceLaw.{next_found, next_missed, next_tests}
use Rattle.view_cut.proofs.looking.find_wanted.Goals.{then-wants+in_ok-push, else-wants}
use Rattle.view_cut.proofs.looking.find_wanted.Goals as goal

-- what holds of any answer
on_err : {T E P : Type 0} (r : Result T E) → P → OnErr r P
on_err (Ok x) p = tt
on_err (Err e) p = p

pub records-init : goal.records-init
unfolding wanted_places
records-init c = record { end = c.len-i-end.ensures.len; found = c.new-found.ensures.items; graph = refl }

pub returns-in_err-push-clause-refused : goal.returns-in_err-push-clause-refused
returns-in_err-push-clause-refused c =
    on_err c.from_residual.result
    (c.records.i + 1, omega (arith, c.records.invariant.end), next_tests c.args.graph.now c.records.graph _ c.records.i c.records.invariant.graph c.record_at-rec.ensures.tests)

pub records-preserved : goal.records-preserved
records-preserved c =
    let rs = c.args.graph.now.records in
    let at : slice_get rs c.records.i ≡ Some c.record_at-rec.result
    = ap (λ (g : GraphState). slice_get g.records c.records.i) (sym c.records.invariant.graph) ∙ c.record_at-rec.ensures.value in
    record {
      end = c.records.invariant.end;
      found = elim c.if-wants.branch [
        | then-wants+in_ok-push w ↦
            next_found c.args.view.now rs c.records.i c.record_at-rec.result c.wants.result c.records.found.items c.if-wants.found.items at c.records.invariant.found c.wants.ensures w.if-wants.true
            (ap (λ v. v.items) w.found-is ∙ w.in_ok-push.ensures.items)
        | else-wants w ↦
            ap (λ v. v.items) w.found-is
            ∙ next_missed c.args.view.now rs c.records.i c.record_at-rec.result c.wants.result c.records.found.items at c.records.invariant.found c.wants.ensures w.if-wants.false
      ];
      graph = next_tests c.args.graph.now c.records.graph c.record_at-rec.new.self c.records.i c.records.invariant.graph c.record_at-rec.ensures.tests;
    }
