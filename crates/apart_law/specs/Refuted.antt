-- Without either premise the law is false. Of a text whose atomic block has two assignments of code, to no volatile field; and of trees that no text has, whose parameter of code is an `\object`. Own.
use Rattle.std.specs.Prelude.{◌≡◌, ℕ, pos, false, List, [], ◌∷◌, Option, Some, None, Result, Ok, Err, IsTrue, codes, refl}
use Rattle.std.proofs.Common.{sym}
use Rattle.std.proofs.lemmas.Bool.{true≢false}
use Prim.Native.String.{String}
use Rattle.ebnf.specs.Sets.{first, first_rule, low, low_rule, is_empty}
use Rattle.ebnf.specs.Reading.{read, links, climbs, read_rule, reads}
use Rattle.int_ranges.specs.declared.ctype.CType.TheVariants.{Int as SignedInt}
use Rattle.c_syntax.specs.declared.token.Span.{Span}
use Rattle.c_syntax.specs.Expressions as e
use Rattle.c_syntax.specs.Expressions.{Id}
use Rattle.c_syntax.specs.Statements as st
use Rattle.c_syntax.specs.Items as i
use Rattle.c_syntax.specs.Items.{Item}
use Rattle.c_syntax.specs.Faults.{SyntaxFault, read_source}
use Rattle.object_types.specs.Sets.{every}
use Rattle.typing_spec.specs.First.{IsWellTyped}
use Rattle.typing_spec.specs.FirstLaws.{none_broken}
use Rattle.typing_spec.specs.Reading.{placed, words_of}
use Rattle.method.specs.declared.program.DeclaredType.{DeclaredType}
use Rattle.method.specs.declared.program.DeclaredType.TheVariants.{Integer, Object}
use Rattle.method.specs.declared.program.Expr.TheVariants.{Number, Null}
use Rattle.method.specs.declared.program.Target.TheVariants.{Local}
use Rattle.method.specs.declared.program.RightSide.TheVariants.{Compute}
use Rattle.method.specs.declared.program.Simple.TheVariants.{Assign}
use Rattle.method.specs.declared.program.Inner.TheVariants.{Inside}
use Rattle.method.specs.declared.program.Action.TheVariants.{Atomic}
use Rattle.method.specs.declared.program.Stmt.{Stmt}
use Rattle.method.specs.declared.program.Stmt.TheVariants.{Do}
use Rattle.method.specs.declared.program.Item.TheVariants.{Function}
use Rattle.method.specs.declared.program.VariableInfo.{VariableInfo}
use Rattle.method.specs.declared.program.FunctionInfo.{FunctionInfo}
use Rattle.method.specs.declared.program.Program.{Program}
use Rattle.method.specs.Trace.{Memory, vec}
use Rattle.plain_machine.specs.GhostApart.{GhostApart}
use Rattle.typed_program.specs.Tables as tables
use Rattle.typed_program.specs.Views as seen
use Rattle.tree_forms.specs.InForm.{in_form}
use Rattle.apart_law.specs.Premises.{item_stores_once, item_of_c}

-- the law without its premise on atomic blocks
abbrev AnyBlockIsApart : Type 0
AnyBlockIsApart =
    (items : List Item) (end : Span) → IsTrue (in_form items) → IsTrue (every item_of_c items)
    → IsWellTyped items end → (p : Program) → seen.program p ≡ tables.program items → GhostApart p

-- the law without its premise on types
abbrev AnyTypeIsApart : Type 0
AnyTypeIsApart =
    (items : List Item) (end : Span) → IsTrue (in_form items) → IsTrue (every item_stores_once items)
    → IsWellTyped items end → (p : Program) → seen.program p ≡ tables.program items → GhostApart p

abbrev at : ℕ → Span
at n = record { line = 1; column = n }

abbrev id : String → ℕ → Id
id text n = record { place = at n; name = codes text }

abbrev trees_of : Result (List Item × ℕ) (SyntaxFault × Span) → Option (List Item)
trees_of (Ok p) = Some p.0
trees_of (Err x) = None

-- ---- the first: a text

abbrev text : String
text = "void main ( int x , int y ) { _( atomic NULL ) { x = 1 ; y = 2 ; } }"

abbrev both_stores : st.Stms
both_stores =
    st.More (st.Assign (at 16) (record { left = e.Name (id "x" 16); place = at 17; effect = e.Set (e.Value (e.Number (at 18) 1 SignedInt)) }))
    (st.More (st.Assign (at 20) (record { left = e.Name (id "y" 20); place = at 21; effect = e.Set (e.Value (e.Number (at 22) 2 SignedInt)) })) st.Empty)

abbrev block_items : List Item
block_items =
    i.Function (record {
      place = at 1;
      value = None;
      name = id "main" 2;
      parameters = record { ty = e.Integer SignedInt; name = id "x" 5 } ∷ record { ty = e.Integer SignedInt; name = id "y" 8 } ∷ [];
      ghost_parameters = [];
      contract = [];
      body = record { start = at 10; all = st.More (st.Atomic (at 11) (e.Null (at 13) ∷ []) both_stores (at 24)) st.Empty; end = at 25 };
    }) ∷ []

-- these are its trees
text_reads : trees_of (read_source (placed 1 (words_of text))) ≡ Some block_items
unfolding reads read links climbs read_rule first first_rule low low_rule is_empty
text_reads = refl

-- no text has a parameter of code that is an `\object`
object_reads : trees_of (read_source (placed 1 (words_of "void main ( \\object o ) { }"))) ≡ None
unfolding reads read links climbs read_rule first first_rule low low_rule is_empty
object_reads = refl

module _ (m : Memory) where
  abbrev variable : String → DeclaredType → VariableInfo
  variable name ty = record { name = vec m (codes name); ty = ty; is_ghost = false }

  abbrev main : List VariableInfo → ℕ → List Stmt → FunctionInfo
  main variables n body =
      record {
        name = vec m (codes "main");
        result = None;
        parameters = n;
        variables = vec m variables;
        requires_ = vec m [];
        ensures_ = vec m [];
        writes = vec m [];
        body = vec m body;
        end = 1;
      }

  abbrev alone : FunctionInfo → Program
  alone f =
      record {
        structs = vec m [];
        fields = vec m [];
        functions = vec m (f ∷ []);
        sites = vec m [];
        shapes = vec m [];
        items = vec m (Function 0 ∷ []);
        main = 0;
      }

  abbrev block_main : FunctionInfo
  block_main =
      main (variable "x" (Integer SignedInt) ∷ variable "y" (Integer SignedInt) ∷ []) 2
      (Do 1 (Atomic (vec m (record { object = Null; is_claim = false } ∷ []))
      (vec m (Inside 1 (Assign (Local 0) (Compute (Number (pos 1)))) ∷ Inside 1 (Assign (Local 1) (Compute (Number (pos 2)))) ∷ []))) ∷ [])

  pub two_stores_refute : AnyBlockIsApart → ⊥
  two_stores_refute law =
      let apart = law block_items (at 26) refl refl (none_broken block_items (at 26) refl) (alone block_main) refl in
      true≢false (sym (apart.bodies 0 block_main refl))

  -- ---- the second: trees in form, of no text

  abbrev object_items : List Item
  object_items =
      i.Function (record {
        place = at 1;
        value = None;
        name = id "main" 2;
        parameters = record { ty = e.Object; name = id "o" 5 } ∷ [];
        ghost_parameters = [];
        contract = [];
        body = record { start = at 7; all = st.Empty; end = at 8 };
      }) ∷ []

  abbrev object_main : FunctionInfo
  object_main = main (variable "o" Object ∷ []) 1 []

  pub object_refutes : AnyTypeIsApart → ⊥
  object_refutes law =
      let apart = law object_items (at 9) refl refl (none_broken object_items (at 9) refl) (alone object_main) refl in
      true≢false (sym (apart.variables 0 object_main refl))
