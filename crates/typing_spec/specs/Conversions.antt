-- Rules 4 and 5: values that convert, and arguments that match parameters.
use Rattle.std.specs.Prelude.{Bool, not, ◌&&◌, ◌==◌, List, [], ◌∷◌, ◌++◌, Option, Some, None, map, flat_map, length}
use Rattle.c_syntax.specs.declared.token.Span.{Span}
use Rattle.c_syntax.specs.declared.tree.SpecFunction.{SpecFunction}
use Rattle.c_syntax.specs.declared.tree.SpecFunction.TheVariants as f
use Rattle.c_syntax.specs.declared.tree.ListWord.{ListWord}
use Rattle.c_syntax.specs.declared.tree.ListWord.TheVariants as lists
use Rattle.c_syntax.specs.Expressions as e
use Rattle.c_syntax.specs.Expressions.{Ty, Exp, Exps, CallTree, Rhs, Effect}
use Rattle.c_syntax.specs.Ghosts as g
use Rattle.c_syntax.specs.Ghosts.{Members, OwnsEffect, GhostRhs}
use Rattle.c_syntax.specs.Statements as st
use Rattle.c_syntax.specs.Grammar.{first_place}
use Rattle.c_syntax.specs.Items as i
use Rattle.c_syntax.specs.Items.{Written, Param, FunctionTree}
use Rattle.typing_spec.specs.Declarations.{find_function}
use Rattle.typing_spec.specs.Contexts.{Context, ghost}
use Rattle.typing_spec.specs.Types.{Kind, Object, Claim, converts, kind_of, kind}
use Rattle.typing_spec.specs.Values.{interlocked_kind, struct_pointer, right_kind, right_place, ghost_right_kind, ghost_right_place}
use Rattle.typing_spec.specs.Pieces.{Piece, Statement, GhostStatement, Assigned, Called, Allocation, Interlocked, NewClaim, WritesItem, Expression}
use Rattle.typing_spec.specs.Places.{place_if, fail_together}

-- a value, and the kind that is wanted where it stands
pub record Use : Type 0 where
  pub place : Span
  pub value : Option Kind
  pub wanted : Option Kind

abbrev pub to : Option Kind → Context → Exp → Use
to k c x = record { place = first_place x; value = kind c.scope x; wanted = k }

-- where any reference may stand, each converts to `\object`
abbrev pub as_reference : Context → Exp → Use
as_reference = to (Some Object)

abbrev pub as_claim : Context → Exp → Use
as_claim = to (Some Claim)

abbrev pub as_references : Context → Exps → List Use
as_references c e.Stop = []
as_references c (e.With x xs) = as_reference c x ∷ as_references c xs

-- `\mine` takes references, `\claims_only` a claim and references
abbrev pub list_uses : ListWord → Context → Exps → List Use
list_uses lists.Mine c xs = as_references c xs
list_uses lists.ClaimsOnly c e.Stop = []
list_uses lists.ClaimsOnly c (e.With x xs) = as_claim c x ∷ as_references c xs

abbrev pub argument_uses : SpecFunction → Context → Exp → List Use
argument_uses f.Old c x = []
argument_uses f.Unchanged c x = []
argument_uses _ c x = as_reference c x ∷ []

abbrev pub right_use : Context → Option Kind → Rhs → Use
right_use c k r = record { place = right_place r; value = right_kind c.scope r; wanted = k }

abbrev pub ghost_right_use : Context → Option Kind → GhostRhs → Use
ghost_right_use c k r = record { place = ghost_right_place r; value = ghost_right_kind c.scope r; wanted = k }

abbrev pub effect_uses : Context → Exp → Effect → List Use
effect_uses c x (e.Set r) = right_use c (kind c.scope x) r ∷ []
effect_uses c x _ = []

-- arguments and parameters by pairs, as far as there are both
abbrev pub paired : Context → List Exp → List Param → List Use
paired c (x ∷ xs) (p ∷ ps) = to (kind_of c.scope.items p.ty) c x ∷ paired c xs ps
paired c _ _ = []

abbrev pub call_uses : Context → CallTree → Option FunctionTree → List Use
call_uses c x None = []
call_uses c x (Some h) = paired c x.arguments h.parameters ++ paired (ghost c) x.ghost_arguments h.ghost_parameters

abbrev pub member_uses : Context → Members → List Use
member_uses c (g.One x) = as_reference c x ∷ []
member_uses c (g.Several xs) = map (as_reference c) xs

abbrev pub owns_uses : Context → OwnsEffect → List Use
owns_uses c (g.Become xs) = map (as_reference c) xs
owns_uses c (g.Join x) = member_uses c x
owns_uses c (g.Leave x) = member_uses c x

abbrev pub written_uses : Context → Written → List Use
written_uses c (i.Thing x) = as_reference c x ∷ []
written_uses c (i.SpanOf p x) = as_reference c x ∷ []
written_uses c (i.ExtentOf p x) = as_reference c x ∷ []

-- a return of a value, in a function with one
abbrev pub return_uses : Context → Option Ty → Exp → List Use
return_uses c None x = []
return_uses c (Some ty) x = to (kind_of c.scope.items ty) c x ∷ []

-- the values of a piece that have to convert
abbrev pub uses : Piece → List Use
uses (Expression c (e.Apply p h x)) = argument_uses h c x
uses (Expression c (e.Several p w xs)) = list_uses w c xs
uses (Expression c (e.ClaimsObject p x y)) = as_claim c x ∷ as_reference c y ∷ []
uses (Expression c (e.Claims p x y)) = as_claim c x ∷ []
uses (WritesItem c x) = written_uses c x
uses (Called c x) = call_uses c x (find_function c.scope.items x.function)
uses (Allocation c (Some x) p y) = record { place = p; value = struct_pointer c.scope.items y; wanted = struct_pointer c.scope.items x } ∷ []
uses (Interlocked c x y) = map (to (interlocked_kind c.scope x) c) x.arguments
uses (Assigned c a) = effect_uses c a.left a.effect
uses (NewClaim c xs x) = map (as_reference c) xs
uses (Statement c (st.Declare p ty x (Some r))) = right_use c (kind_of c.scope.items ty) r ∷ []
uses (Statement c (st.Return p (Some x))) = return_uses c c.value x
uses (Statement c (st.Free p x)) = as_reference c x ∷ []
uses (Statement c (st.Atomic p xs ss q)) = map (as_reference (ghost c)) xs
uses (GhostStatement c (g.Declare p ty x (Some r))) = ghost_right_use c (kind_of c.scope.items ty) r ∷ []
uses (GhostStatement c (g.Assign p x q r)) = ghost_right_use c (kind c.scope x) r ∷ []
uses (GhostStatement c (g.Owns p x q y)) = owns_uses c y
uses (GhostStatement c (g.DestroyClaim p x xs)) = as_claim c x ∷ map (as_reference c) xs
uses _ = []

-- Rule 4: a value doesn't convert to what is wanted there, at the value; that of a call is at the called name. ISO/IEC 9899 6.5.16.1, 6.5.2.2, 6.8.6.4; VCC manual for references.
abbrev pub unconverted : Piece → List Span
unconverted x = flat_map (λ u. place_if (fail_together converts u.value u.wanted) u.place) (uses x)

abbrev pub counts_match : CallTree → FunctionTree → Bool
counts_match x h = length x.arguments == length h.parameters && length x.ghost_arguments == length h.ghost_parameters

abbrev pub count_fault : CallTree → Option FunctionTree → List Span
count_fault x None = []
count_fault x (Some h) = place_if (not (counts_match x h)) x.function.place

-- Rule 5: the number of concrete or of ghost arguments differs, at the called or spawned name. ISO/IEC 9899 6.5.2.2.
abbrev pub argument_count : Piece → List Span
argument_count (Called c x) = count_fault x (find_function c.scope.items x.function)
argument_count _ = []
