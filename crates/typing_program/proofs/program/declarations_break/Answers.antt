use Rattle.std.proofs.Common.{refl, not, Bor, map}
use Rattle.c_syntax.specs.declared.items.Function.{Function}
use Rattle.c_syntax.specs.Views as view
use Rattle.typing_symbols.specs.declared.declarations.StructEntry.{StructEntry}
use Rattle.typing_symbols.specs.Whole.{program}
use Rattle.typing_expressions.specs.Views.{maybe_broken}
use Rattle.typing_program.proofs.Firsts.{program_together}
use Rattle.typing_program.proofs.program.declarations_break.Goals as goal

pub returns : goal.returns
returns c =
    program_together (program c.args.declarations.now) c.args.end (map (λ (s : StructEntry). view.struct s.tree.now) c.structs-structs.result.now) (map (λ (f : Bor Function). view.function f.now) c.functions-functions.result.now) c.has_main.result (not c.has_main.result) (maybe_broken c.in_ok-names.names)
    (maybe_broken c.in_ok-in_structs.in_structs) (maybe_broken c.in_ok-in_functions.in_functions) (maybe_broken c.earlier.result) (maybe_broken c.earlier-2.result) (maybe_broken c.broken_if-no_main.result) _ c.structs-structs.ensures c.functions-functions.ensures c.in_ok-names.ensures
    c.in_ok-in_structs.ensures c.in_ok-in_functions.ensures c.has_main.ensures refl c.broken_if-no_main.ensures c.earlier.ensures c.earlier-2.ensures c.earlier-3.ensures
