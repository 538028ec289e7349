-- A program with an object that is well typed and keeps to its scopes: the one that a text leaves, in vectors of any memory. Own.
use Rattle.std.specs.Prelude.{ℕ, false, pos, List, [], ◌∷◌, None, Result, Ok, Err, codes}
use Prim.Native.String.{String}
use Rattle.int_ranges.specs.declared.ctype.CType.TheVariants.{Int}
use Rattle.c_syntax.specs.declared.token.Span.{Span}
use Rattle.c_syntax.specs.Items.{Item}
use Rattle.c_syntax.specs.Faults.{SyntaxFault, read_source}
use Rattle.method.specs.declared.program.DeclaredType.TheVariants.{Integer, Pointer}
use Rattle.method.specs.declared.program.Comparison.TheVariants.{Equal, NotEqual}
use Rattle.method.specs.declared.program.Expr.TheVariants.{Number, Null, Variable, Compare'}
use Rattle.method.specs.declared.program.Spec.TheVariants.{Number as SNumber, Variable as SVariable, Field' as SField, Compare' as SCompare}
use Rattle.method.specs.declared.program.Target.TheVariants.{FieldOf}
use Rattle.method.specs.declared.program.RightSide.TheVariants.{Compute, Malloc}
use Rattle.method.specs.declared.program.Simple.TheVariants.{Assign}
use Rattle.method.specs.declared.program.Action.TheVariants.{Simply, Define, AssertSpec}
use Rattle.method.specs.declared.program.Stmt.{end_of-Stmt, more_of-Stmt}
use Rattle.method.specs.declared.program.Stmt.TheVariants.{Do, If'}
use Rattle.method.specs.declared.program.Item.TheVariants.{Struct, Function}
use Rattle.method.specs.declared.program.FunctionInfo.{FunctionInfo}
use Rattle.method.specs.declared.program.Program.{Program}
use Rattle.method.specs.Typing.{WellTyped}
use Rattle.method.specs.Scopes.{Scoped}
use Rattle.method.specs.Trace.{Memory, vec, box}
use Rattle.typed_program.specs.Rows.{placed_lines}

abbrev pub text : List String
text =
    "struct S { int v ; } ;" ∷
    "void main ( ) {" ∷
    "struct S * p = malloc ( sizeof ( struct S ) ) ;" ∷
    "if ( p != NULL ) {" ∷
    "p -> v = 7 ;" ∷
    "_( assert p -> v == 7 )" ∷
    "}" ∷
    "}" ∷ []

abbrev pub items_of : Result (List Item × ℕ) (SyntaxFault × Span) → List Item
items_of (Ok r) = r.0
items_of (Err e) = []

abbrev pub items : List Item
items = items_of (read_source (placed_lines 1 text))

module _ (m : Memory) where
  abbrev pub main : FunctionInfo
  main = record {
    name = vec m (codes "main");
    result = None;
    parameters = 0;
    variables = vec m (record { name = vec m (codes "p"); ty = Pointer 3; is_ghost = false } ∷ []);
    requires_ = vec m [];
    ensures_ = vec m [];
    writes = vec m [];
    body = vec m (Do 3 (Define 0 (Malloc 3))
        ∷ If' 4 false (Compare' NotEqual (box m) (Variable 0) (box m) Null) (vec m (tt ∷ tt ∷ []))
        (more_of-Stmt (Do 5 (Simply (Assign (FieldOf (Variable 0) 0) (Compute (Number (pos 7))))))
        (more_of-Stmt (Do 6 (AssertSpec (SCompare Equal (box m) (SField (box m) (SVariable 0) 0) (box m) (SNumber (pos 7))))) end_of-Stmt))
        (vec m []) end_of-Stmt ∷ []);
    end = 8;
  }

  abbrev pub program : Program
  program = record {
    structs = vec m (record { name = vec m (codes "S"); line = 1; is_claimable = false; has_dynamic_owns = false; has_volatile_owns = false; first_field = 0; fields = 1; invariants = vec m []; has_approval = false; mine = vec m [] } ∷ []);
    fields = vec m (record { name = vec m (codes "v"); of = 3; ty = Integer Int; is_volatile = false; is_ghost = false; is_approved = false } ∷ []);
    functions = vec m (main ∷ []);
    sites = vec m [];
    shapes = vec m [];
    items = vec m (Struct 0 ∷ Function 0 ∷ []);
    main = 0;
  }

abbrev pub ObjectRow : Type 0
ObjectRow = (m : Memory) → WellTyped (program m) × Scoped (program m)
