use Rattle.method.specs.declared.program.Stmt.{Stmt}
use Rattle.conditions.specs.Quantified.{stmt_quantifiers, function_words}
use Rattle.annotation_scenes.specs.Scenes.{IsScene}
use Rattle.program_quantifiers.proofs.Adding.{AddsUpTo}
use Rattle.program_quantifiers.proofs.statements.+add_statement.Given as goal

abbrev pub invariant-add_statements-loop-statement : goal.invariant-add_statements-loop-statement
invariant-add_statements-loop-statement l = AddsUpTo (λ (s : Unit {0}). IsScene l.fn.list.graph l.scene (function_words l.f)) (λ (s : Unit {0}) (x : Stmt). stmt_quantifiers l.program l.f x) l.fn.list l.list l.row l.statement-index
