-- Functions and structs, part by part.
use Rattle.std.proofs.Common.{◌≡◌, refl, ◌∙◌, ap, append-nil, Bool, true, false, List, [], ◌∷◌, ◌++◌, None}
use Rattle.std.specs.Prelude.{flat_map, if◌then◌else◌}
use Rattle.c_syntax.specs.Items.{FunctionTree, StructTree, Member}
use Rattle.typing_spec.specs.Declarations.{is_approval}
use Rattle.typing_spec.specs.Pieces as pieces
use Rattle.typing_spec.specs.Pieces.{with_params, in_function, in_struct, if_some, struct_name, types_of, clause, in_statements}
use Rattle.std.proofs.lemmas.Grind.{flat_map-append}
use Rattle.c_syntax.specs.Expressions.{Exp}
use Rattle.c_syntax.specs.Items as i
use Rattle.c_syntax.specs.Items.{Written, Param, Item}
use Rattle.typing_spec.specs.Contexts.{Context, Variable}
use Rattle.typing_spec.specs.Pieces.{Piece, WritesItem, expression, written}
use Rattle.typing_spec.specs.Conversions.{as_reference}
use Rattle.typing_expressions.specs.Violations.{violations, nothing, breaking, joined}
use Rattle.typing_expressions.specs.Judging.{unconverted}
use Rattle.typing_expressions.proofs.FoundLaws.{found_none, found_append}
use Rattle.typing_expressions.proofs.Judgements.{own, own_type}
use Rattle.typing_statements.specs.Views.{Fixed, within}
use Rattle.typing_statements.specs.Parts.{listed, listed_pieces, listed_found, with_parameters, body_of, function_parts, in_member, member_found}
use Rattle.typing_statements.proofs.Values.{one_value}
use Rattle.typing_statements.proofs.Own.{uses_alone}
use Rattle.typing_statements.proofs.Parts.{behind_own}

-- one more of several that stand in a row
pub each_more : {X : Type 0} (f : X → List Piece) (xs : List X) (y : X) → violations (flat_map f (xs ++ y ∷ [])) ≡ joined (violations (flat_map f xs)) (violations (f y))
each_more f xs y =
    ap violations (flat_map-append f xs (y ∷ []))
    ∙ (found_append (flat_map f xs) (f y ++ []) ∙ ap (λ (ps : List Piece). joined (violations (flat_map f xs)) (violations ps)) (append-nil (f y)))

reference_found : (c : Context) (x : Exp) (w : Piece) (ps : List Piece) → violations (w ∷ []) ≡ breaking (unconverted (as_reference c x ∷ [])) → ps ≡ expression c x → violations (w ∷ ps) ≡ listed_found c x
reference_found c x w ps h k =
    behind_own w ps _ _ h (ap violations k) ∙ ap (λ o. joined (breaking o) (violations (expression c x))) (one_value (as_reference c x))

-- an item of a writes list
pub listed_is : (c : Context) (x : Written) → violations (listed_pieces c x) ≡ listed_found c (listed x)
listed_is c (i.Thing x) = reference_found c x (WritesItem c (i.Thing x)) (expression c x) (own (WritesItem c (i.Thing x)) _ refl (uses_alone (as_reference c x ∷ []))) refl
listed_is c (i.SpanOf p x) = reference_found c x (WritesItem c (i.SpanOf p x)) (expression c x) (own (WritesItem c (i.SpanOf p x)) _ refl (uses_alone (as_reference c x ∷ []))) refl
listed_is c (i.ExtentOf p x) = reference_found c x (WritesItem c (i.ExtentOf p x)) (expression c x) (own (WritesItem c (i.ExtentOf p x)) _ refl (uses_alone (as_reference c x ∷ []))) refl

-- one more parameter
pub parameters_more : (is_ghost : Bool) (xs : List Param) (y : Param) (vs : List Variable) → with_parameters is_ghost (xs ++ y ∷ []) vs ≡ (record { name = y.name; ty = y.ty; is_ghost = is_ghost }) ∷ with_parameters is_ghost xs vs
parameters_more is_ghost [] y vs = refl
parameters_more is_ghost (x ∷ xs) y vs = parameters_more is_ghost xs y ((record { name = x.name; ty = x.ty; is_ghost = is_ghost }) ∷ vs)

params_known : (is_ghost : Bool) (xs : List Param) (x : Fixed) (vs : List Variable) → with_params is_ghost xs (within x vs) ≡ within x (with_parameters is_ghost xs vs)
params_known is_ghost [] x vs = refl
params_known is_ghost (y ∷ ys) x vs = params_known is_ghost ys x ((record { name = y.name; ty = y.ty; is_ghost = is_ghost }) ∷ vs)

-- what stands around a function's contract and body
pub function_context : (items : List Item) (h : FunctionTree) → in_function items h ≡ within (body_of items h.value) (with_parameters true h.ghost_parameters (with_parameters false h.parameters []))
function_context items h =
    ap (λ (c : Context). record c { value = h.value })
    (ap (with_params true h.ghost_parameters) (params_known false h.parameters (body_of items None) []) ∙ params_known true h.ghost_parameters (body_of items None) (with_parameters false h.parameters []))

pub function_found : (items : List Item) (h : FunctionTree)
    → violations (function_parts items h) ≡ joined (violations (if_some (struct_name items) h.value)) (joined (violations (types_of items h.parameters)) (joined (violations (types_of items h.ghost_parameters)) (joined (violations (flat_map (clause (in_function items h)) h.contract)) (violations (in_statements (in_function items h) h.body.all)))))
function_found items h =
    let c = in_function items h in
    found_append (if_some (struct_name items) h.value) _ ∙ ap (joined (violations (if_some (struct_name items) h.value)))
    (found_append (types_of items h.parameters) _ ∙ ap (joined (violations (types_of items h.parameters)))
    (found_append (types_of items h.ghost_parameters) _ ∙ ap (joined (violations (types_of items h.ghost_parameters)))
    (found_append (flat_map (clause c) h.contract) (in_statements c h.body.all))))

-- an invariant that has no pieces where it is an approval
unless_approval : (b : Bool) (ps : List Piece) → violations (if b then [] else ps) ≡ (if b then nothing else violations ps)
unless_approval true ps = found_none
unless_approval false ps = refl

-- a member of a struct
pub member_is : (c : Context) (x : Member) → violations (in_member c x) ≡ member_found c x
member_is c (i.Field x) = own_type c.scope.items x.ty
member_is c (i.Invariant x) = unless_approval (is_approval x.property) (expression c x.property)

same_member : (items : List Item) (s : StructTree) (x : Member) → in_member (in_struct items s) x ≡ pieces.member items s x
same_member items s (i.Field x) = refl
same_member items s (i.Invariant x) = refl

pub same_members : (items : List Item) (s : StructTree) (xs : List Member) → flat_map (in_member (in_struct items s)) xs ≡ flat_map (pieces.member items s) xs
same_members items s [] = refl
same_members items s (x ∷ xs) = ap (λ (ps : List Piece). ps ++ flat_map (in_member (in_struct items s)) xs) (same_member items s x) ∙ ap (λ (ps : List Piece). pieces.member items s x ++ ps) (same_members items s xs)
