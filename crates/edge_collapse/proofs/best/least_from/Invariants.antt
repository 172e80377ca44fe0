-- The pairs to the corners so far are covered, where they are legal.
use Rattle.std.proofs.Common.{◌≡◌, true, not, ◌||◌, take}
use Rattle.std.specs.Option.{IfSome}
use Rattle.std.specs.List.{list_all}
use Rattle.tpz_base.specs.Collapses.{is_legal, key_of}
use Rattle.edge_collapse.specs.declared.keys.Key.{Key}
use Rattle.edge_collapse.specs.declared.star.StarFace.{StarFace}
use Rattle.edge_collapse.specs.Feeds.{is_covered, is_due}
use Rattle.edge_collapse.specs.Least.{IsFrom}
use Rattle.edge_collapse.proofs.best.least_from.Given as goal

abbrev pub invariant-loop-f : goal.invariant-loop-f
invariant-loop-f l = record {
  covered : list_all (λ (x : StarFace). not (is_legal l.list.mesh l.p x.next) || is_covered l.best (key_of l.list.mesh (l.p, x.next))) (take l.f-index l.faces) ≡ true;
  from : IfSome l.best (IsFrom l.p);
  due : l.legal_only ≡ true → IfSome l.best (λ (b : Key). is_due l.list.mesh b ≡ true);
}
