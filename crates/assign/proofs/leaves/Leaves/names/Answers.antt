-- All keys were yielded, and each name with a stream is that of a key.
use Rattle.std.proofs.Common.{◌≡◌, ◌++◌, ◌∙◌, [], Some, Contains, map, append-nil, ap, sym, subst}
use Rattle.std.specs.FinMap.{get}
use Rattle.std.specs.Map.{keys_of}
use Rattle.assign.specs.Names.{name_of}
use Rattle.assign.proofs.TableLaw.{named_key}
use Rattle.assign.proofs.leaves.Leaves.names.Goals as goal

pub returns : goal.returns
returns c = λ name id is.
    let es = c.self.inside.table.entries in
    let all = c.keys.invariant in
    let there = named_key es name id (ap (λ m. get m name) c.self.view_is ∙ is) in
    let none : c.keys.key-iterator ≡ [] = c.in-None.ensures.steps.0 in
    let end : c.keys.names.items ≡ c.keys.names.items ++ map name_of c.keys.key-iterator =
    sym (append-nil c.keys.names.items) ∙ ap (λ ks. c.keys.names.items ++ map name_of ks) (sym none)
    in
    let from : c.into_iter-key-iterator.result ≡ keys_of es = c.into_iter-key-iterator.ensures.into_iter_gives ∙ c.keys-key-items.ensures.rest in
    subst (λ xs. Contains xs name) (sym (end ∙ all ∙ ap (map name_of) from)) there
