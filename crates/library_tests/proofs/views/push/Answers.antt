use Rattle.std.proofs.Common.{[], ◌∷◌, ◌++◌}
use Rattle.std.proofs.lemmas.List.Elements.{All-nil, All-cons, All-append, All-same}
use Rattle.diamond_graph.specs.Graphs.{IsStored}
use Rattle.library_tests.proofs.views.push.Goals as goal

pub returns-clause-stored : goal.returns-clause-stored
returns-clause-stored g c =
    All-same (IsStored 2) c.push.new.self.items (c.args.records.now.items ++ c.args.r ∷ []) c.in_ok-push.ensures.items
    (All-append (IsStored 2) c.args.records.now.items (c.args.r ∷ []) c.requires (All-cons (IsStored 2) c.args.r [] c.check_fields.ensures (All-nil (IsStored 2))))
