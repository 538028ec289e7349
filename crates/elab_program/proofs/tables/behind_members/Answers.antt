use Rattle.std.proofs.Common.{refl, arith, List}
use Rattle.c_syntax.specs.Items.{Member}
use Rattle.c_syntax.specs.Views as view
use Rattle.elab_clauses.proofs.Clauses.{counted, counted_all}
use Rattle.elab_clauses.specs.Members.{member_formulas}
use Rattle.typed_program.specs.Tables.{struct_formulas, invariants_of}
use Rattle.elab_program.proofs.Walks.{members_counted}
use Rattle.elab_program.proofs.tables.behind_members.Goals as goal

pub loop-x-preserved : goal.loop-x-preserved
loop-x-preserved c =
    counted view.member (λ (xs : List Member). struct_formulas (invariants_of xs)) member_formulas members_counted c.args.all.now c.loop-x.x-index c.x-item.result c.loop-x-test.true c.x-item.is _ _ _ c.in_ok-next.ensures c.loop-x.invariant

pub returns : goal.returns
returns c = counted_all view.member (λ (xs : List Member). struct_formulas (invariants_of xs)) refl c.args.all.now c.loop-x.x-index (omega arith) c.loop-x.next _ c.loop-x.invariant
