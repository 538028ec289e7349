use Rattle.std.proofs.Common.{ap, not, ◌&&◌}
use Rattle.method.specs.Tables.{is_struct, is_claimable, has_volatile_owns}
use Rattle.axiom_instances.specs.Axioms.{is_type, is_fixed, is_approved_of, is_content_column, is_owned}
use Rattle.rule_instances.proofs.Passing.{by_test, by_type, by_column, by_both}
use Rattle.rule_instances.proofs.walk.State.passes.Goals as goal

pub returns-in-CleanHeap : goal.returns-in-CleanHeap
returns-in-CleanHeap c = λ st m. by_test c.args.program.now st c.in-CleanHeap.is (c.is_first_clean.ensures st m)

pub returns-in-CleanRead : goal.returns-in-CleanRead
returns-in-CleanRead c = λ st m. by_test c.args.program.now st c.in-CleanRead.is (c.is_first_clean_read.ensures st m)

pub returns-in-Unclaimable : goal.returns-in-Unclaimable
returns-in-Unclaimable c = λ st m. by_test c.args.program.now st c.in-Unclaimable.is (by_type (λ ty. is_type c.args.program.now ty && not (is_claimable c.args.program.now ty)) m c.is_unclaimable.ensures)

pub returns-in-HasFixedSet : goal.returns-in-HasFixedSet
returns-in-HasFixedSet c = λ st m. by_test c.args.program.now st c.in-HasFixedSet.is (by_type (λ ty. is_type c.args.program.now ty && not (has_volatile_owns c.args.program.now ty)) m c.has_fixed_set.ensures)

pub returns-in-IsStruct : goal.returns-in-IsStruct
returns-in-IsStruct c = λ st m. by_test c.args.program.now st c.in-IsStruct.is (by_type (is_struct c.args.program.now) m c.is_struct.ensures)

pub returns-in-IsFixed : goal.returns-in-IsFixed
returns-in-IsFixed c = λ st m. by_test c.args.program.now st c.in-IsFixed.is (by_both (is_fixed c.args.program.now) m c.is_fixed.ensures)

pub returns-in-IsApproved : goal.returns-in-IsApproved
returns-in-IsApproved c = λ st m. by_test c.args.program.now st c.in-IsApproved.is (by_both (is_approved_of c.args.program.now) m c.is_approved_of.ensures)

pub returns-in-IsContent : goal.returns-in-IsContent
returns-in-IsContent c = λ st m. by_test c.args.program.now st c.in-IsContent.is (by_column is_content_column m c.is_content.ensures)

pub returns-in-IsNotOwned : goal.returns-in-IsNotOwned
returns-in-IsNotOwned c = λ st m. by_test c.args.program.now st c.in-IsNotOwned.is (by_column (λ column. not (is_owned column)) m (ap not c.is_owned.ensures))
