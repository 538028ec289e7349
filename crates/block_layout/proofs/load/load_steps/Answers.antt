use Rattle.std.proofs.Common.{refl}
use Rattle.block_layout.proofs.Laying.{steps_loaded}
use Rattle.block_layout.proofs.load.load_steps.Goals as goal

pub returns-clause-loaded : goal.returns-clause-loaded
returns-clause-loaded c =
    steps_loaded c.args.theory c.args.names.now c.args.root c.args.steps.now c.args.space.now c.put_steps.new.space _ c.put_steps.new.loaded.items c.put_steps.new.clauses.items
    c.put_steps.ensures.kept c.in_ok-stop.ensures.sorted c.in_ok-stop.ensures.put c.known.ensures
    (record { root_is = c.root_node-root.ensures; steps_are = refl; clauses_are = refl })
