use Rattle.std.proofs.Common.{ap, ◌∙◌, List, Bor, map}
use Rattle.c_syntax.specs.declared.expressions.Identifier.{Identifier}
use Rattle.c_syntax.specs.declared.items.Function.{Function}
use Rattle.c_syntax.specs.Views as view
use Rattle.typing_symbols.specs.declared.declarations.StructEntry.{StructEntry}
use Rattle.typing_expressions.specs.Views.{maybe_broken}
use Rattle.typing_program.specs.Violation.{twice}
use Rattle.typing_program.specs.Names.{held}
use Rattle.typing_program.proofs.Firsts.{names_together}
use Rattle.typing_program.proofs.program.declared_twice.Goals as goal

pub returns : goal.returns
returns c =
    names_together (map (λ (s : StructEntry). view.struct s.tree.now) c.args.structs.now) (map (λ (f : Bor Function). view.function f.now) c.args.functions.now) (held c.in_ok-struct_names.struct_names.items) (held c.in_ok-function_names.function_names.items)
    (maybe_broken c.in_ok-struct_twice.struct_twice) (maybe_broken c.in_ok-function_twice.function_twice) _ c.in_ok-struct_names.ensures (c.in_ok-struct_twice.ensures ∙ ap (λ (ns : List (Bor Identifier)). twice (held ns)) c.deref.ensures.value) c.in_ok-function_names.ensures
    (c.in_ok-function_twice.ensures ∙ ap (λ (ns : List (Bor Identifier)). twice (held ns)) c.deref-2.ensures.value) c.earlier.ensures
