-- Rules 7 and 8: what runs doesn't depend on ghosts.
use Rattle.std.specs.Prelude.{Bool, true, false, not, List, [], Option, Some, None}
use Rattle.c_syntax.specs.declared.token.Span.{Span}
use Rattle.c_syntax.specs.Expressions as e
use Rattle.c_syntax.specs.Expressions.{Id, Exp}
use Rattle.c_syntax.specs.Ghosts as g
use Rattle.c_syntax.specs.Items.{FieldTree}
use Rattle.typing_spec.specs.Contexts.{Text, Code, Variable, Context}
use Rattle.typing_spec.specs.Types.{find_variable}
use Rattle.typing_spec.specs.Values.{field_named}
use Rattle.typing_spec.specs.Pieces.{Piece, GhostStatement, Expression}
use Rattle.typing_spec.specs.Places.{place_if, places_if}

-- a variable, a field that is known and passes
abbrev pub variable_is : (Variable → Bool) → Option Variable → Bool
variable_is test None = false
variable_is test (Some v) = test v

abbrev pub field_is : (FieldTree → Bool) → Option FieldTree → Bool
field_is test None = false
field_is test (Some f) = test f

-- the name of a variable or field, where the test takes whether its declaration is a ghost's
abbrev pub named_where : (Bool → Bool) → Context → Exp → List Span
named_where test c (e.Name x) = place_if (variable_is (λ v. test v.is_ghost) (find_variable c.scope x)) x.place
named_where test c (e.Field p x y) = place_if (field_is (λ f. test f.is_ghost) (field_named c.scope (e.Field p x y))) y.place
named_where test c _ = []

abbrev pub is_code : Text → Bool
is_code Code = true
is_code _ = false

-- Rule 7: concrete code reads or writes a field or variable that is declared inside `_(ghost ..)`, at its name. VCC manual.
abbrev pub ghost_in_code : Piece → List Span
ghost_in_code (Expression c x) = places_if (is_code c.text) (named_where (λ b. b) c x)
ghost_in_code _ = []

-- Rule 8: ghost code writes a concrete field or variable, at its name. VCC manual.
abbrev pub ghost_writes : Piece → List Span
ghost_writes (GhostStatement c (g.Assign p x q r)) = named_where not c x
ghost_writes _ = []
