use Rattle.std.proofs.Common.{ap, sym, subst}
use Rattle.conditions.specs.Quantified.{action_quantifiers}
use Rattle.program_quantifiers.specs.Quantifiers.{Adds}
use Rattle.program_quantifiers.proofs.Adding.{adds_none, same_added}
use Rattle.program_quantifiers.proofs.Alike.{no_action}
use Rattle.program_quantifiers.proofs.statements.add_action.Goals as goal

pub returns-in-Simply : goal.returns-in-Simply
returns-in-Simply c = λ h. same_added c.add_simple.result _ _ _ _ (ap (action_quantifiers c.args.program.now c.args.f.now) (sym c.in-Simply.is)) c.add_simple.ensures

pub returns-in-WrapObject : goal.returns-in-WrapObject
returns-in-WrapObject c = λ h. same_added c.add_members.result _ _ _ _ (ap (action_quantifiers c.args.program.now c.args.f.now) (sym c.in-WrapObject.is)) c.add_members.ensures

pub returns-in-AssertSpec : goal.returns-in-AssertSpec
returns-in-AssertSpec c = λ h. same_added c.add_annotation.result _ _ _ _ (ap (action_quantifiers c.args.program.now c.args.f.now) (sym c.in-AssertSpec.is)) (c.add_annotation.ensures _ h)

pub returns-in-Atomic : goal.returns-in-Atomic
returns-in-Atomic c = λ h. same_added c.add_block.result _ _ _ _ (ap (action_quantifiers c.args.program.now c.args.f.now) (sym c.in-Atomic.is)) (rw c.deref.ensures.value at c.add_block.ensures)

pub returns-in-Declare : goal.returns-in-Declare
returns-in-Declare c = λ h. subst (λ qs. Adds c.args.list.now c.args.list.now qs) (no_action c.args.program.now c.args.f.now c.args.action.now c.in-Declare.is) (adds_none c.args.list.now)
