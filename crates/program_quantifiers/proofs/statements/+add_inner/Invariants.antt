use Rattle.method.specs.declared.program.Inner.{Inner}
use Rattle.conditions.specs.Quantified.{inner_quantifiers}
use Rattle.program_quantifiers.proofs.Adding.{AddsUpTo}
use Rattle.program_quantifiers.proofs.statements.+add_inner.Given as goal

abbrev pub invariant-add_block-loop-statement : goal.invariant-add_block-loop-statement
invariant-add_block-loop-statement l = AddsUpTo (λ (s : Unit {0}). Unit {0}) (λ (s : Unit {0}) (x : Inner). inner_quantifiers x) l.fn.list l.list l.row l.statement-index
