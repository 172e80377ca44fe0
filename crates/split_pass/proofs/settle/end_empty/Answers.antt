-- The stream ends with its name.
use Rattle.std.proofs.Common.{◌∙◌, ap}
use Rattle.std.specs.FinMap as map
use Rattle.split_pass.proofs.Halving.{removed_here, removed_rest}
use Rattle.split_pass.proofs.Settling.{empty_list, ended_holds, ended_keyed}
use Rattle.split_pass.proofs.settle.end_empty.Goals as goal

pub returns-clause-keyed : goal.returns-clause-keyed
returns-clause-keyed g c =
    let held = g.B.Blob.held in
    rw c.take.ensures.rest (ended_keyed c.args.name c.args.id c.args.leaves.now c.args.streams.now c.give_back.new.self (held c.args.work.now) (held c.give_back.new.blob) c.requires.named c.requires.keyed c.in_ok-give_back.ensures.ended c.in_ok-give_back.ensures.others)

pub returns-clause-rest : goal.returns-clause-rest
returns-clause-rest g c = λ other ne. ap (λ m. map.get m other) c.take.ensures.rest ∙ removed_rest c.args.leaves.now c.args.name other ne

pub returns-clause-gone : goal.returns-clause-gone
returns-clause-gone g c = ap (λ m. map.get m c.args.name) c.take.ensures.rest ∙ removed_here c.args.leaves.now c.args.name

pub returns-clause-holds : goal.returns-clause-holds
returns-clause-holds g c = λ L M before.
    let held = g.B.Blob.held in
    rw c.take.ensures.rest (ended_holds L M c.args.name c.args.id c.args.leaves.now c.args.streams.now c.give_back.new.self (held c.args.work.now) (held c.give_back.new.blob) c.requires.named c.requires.keyed
    c.in_ok-give_back.ensures.others (λ bytes told. empty_list c.args.streams.now c.args.id bytes c.requires.empty) before)
