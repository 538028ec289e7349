-- The variables that the pieces of a function declare are those that its text declares, whatever stands around them. From ISO/IEC 9899 6.7: a declaration declares one name; the VCC manual: ghost declarations are of the same form.
use Rattle.std.specs.Prelude.{true, List, [], ◌∷◌, ◌++◌, Option, Some, None, map, flat_map}
use Rattle.std.proofs.Common.{◌≡◌, refl, sym, ◌∙◌, ap, append-nil}
use Rattle.std.proofs.lemmas.Bool.{true≢false}
use Rattle.std.proofs.lemmas.Grind.{flat_map-append}
use Rattle.c_syntax.specs.Expressions as e
use Rattle.c_syntax.specs.Expressions.{Id, Ty, Exp, Comparison, CallTree, Rhs, Effect, Assignment}
use Rattle.c_syntax.specs.Ghosts as g
use Rattle.c_syntax.specs.Ghosts.{Members, OwnsEffect, GhostRhs, GStm, GStms}
use Rattle.c_syntax.specs.Items.{Param, FunctionTree, Item}
use Rattle.c_syntax.specs.Statements as st
use Rattle.c_syntax.specs.Statements.{Inv, Stm, Stms}
use Rattle.typing_spec.specs.Contexts as texts
use Rattle.typing_spec.specs.Contexts.{Text, Context, with_text, ghost, inside_atomic, inside_unwrapping}
use Rattle.typing_spec.specs.ExpressionPieces.{is_of_expression, expression_pieces, type_pieces, nothing}
use Rattle.typing_spec.specs.Names.{variable_of, variables}
use Rattle.typing_spec.specs.Pieces as pieces
use Rattle.typing_spec.specs.Pieces.{Piece, Statement, GhostStatement, expression, expressions, struct_name, cast, compared, right, call, effect, assignment, if_some, owns_effect, ghost_right, claim_property, behind_ghost, in_ghost, in_ghosts, invariants, following, in_statement, in_statements, in_function}

-- ---- what texts declare

abbrev mutual
  -- the names that a ghost statement declares, with what stands in it. ISO/IEC 9899 6.7
  pub ghost_names : GStm → List Id
  ghost_names (g.Block p ss) = all_ghost_names ss
  ghost_names (g.Declare p ty x r) = x ∷ []
  ghost_names (g.Assign p x q r) = []
  ghost_names (g.Owns p x q y) = []
  ghost_names (g.DestroyClaim p x xs) = []
  ghost_names (g.Wrap p x) = []
  ghost_names (g.Unwrap p x) = []
  ghost_names (g.If p x s) = ghost_names s
  ghost_names (g.IfElse p x s t) = ghost_names s ++ ghost_names t

  -- and several. Own
  pub all_ghost_names : GStms → List Id
  all_ghost_names g.Empty = []
  all_ghost_names (g.More s ss) = ghost_names s ++ all_ghost_names ss

abbrev mutual
  -- the names that a statement declares, with what stands in it. ISO/IEC 9899 6.7
  pub statement_names : Stm → List Id
  statement_names (st.Block p ss q) = all_statement_names ss
  statement_names (st.Skip p) = []
  statement_names (st.Declare p ty x r) = x ∷ []
  statement_names (st.Assign p x) = []
  statement_names (st.Call p x) = []
  statement_names (st.If p x s) = statement_names s
  statement_names (st.IfElse p x s t) = statement_names s ++ statement_names t
  statement_names (st.While p x is s) = statement_names s
  statement_names (st.Do p is s q x) = statement_names s
  statement_names (st.For p a x b is s) = statement_names s
  statement_names (st.Return p x) = []
  statement_names (st.Spawn p x) = []
  statement_names (st.Free p x) = []
  statement_names (st.Assert p x) = []
  statement_names (st.Ghost p s) = ghost_names s
  statement_names (st.Wrap p x) = []
  statement_names (st.Unwrap p x) = []
  statement_names (st.Unwrapping p x ss q) = all_statement_names ss
  statement_names (st.Atomic p xs ss q) = all_statement_names ss

  -- and several. Own
  pub all_statement_names : Stms → List Id
  all_statement_names st.Empty = []
  all_statement_names (st.More s ss) = statement_names s ++ all_statement_names ss

-- the names of parameters. ISO/IEC 9899 6.9.1
abbrev pub parameter_names : List Param → List Id
parameter_names = map (λ x. x.name)

-- the names of a function's variables: parameters, ghost parameters, and those of its body. ISO/IEC 9899 6.2.1
abbrev pub function_names : FunctionTree → List Id
function_names f = parameter_names f.parameters ++ (parameter_names f.ghost_parameters ++ all_statement_names f.body.all)

-- ---- lists of pieces

abbrev names_in : List Piece → List Id
names_in = flat_map variable_of

-- none of these pieces declares a variable
abbrev Bare : List Piece → Type 0
Bare xs = names_in xs ≡ []

joins : (xs ys : List Piece) (a b : List Id) → names_in xs ≡ a → names_in ys ≡ b → names_in (xs ++ ys) ≡ a ++ b
joins xs ys a b h k = flat_map-append variable_of xs ys ∙ (ap (λ (ns : List Id). ns ++ names_in ys) h ∙ ap (λ (ns : List Id). a ++ ns) k)

bare_append : (xs ys : List Piece) → Bare xs → Bare ys → Bare (xs ++ ys)
bare_append xs ys h k = joins xs ys [] [] h k

-- bare pieces in front of others, and behind them
drops : (xs ys : List Piece) (b : List Id) → Bare xs → names_in ys ≡ b → names_in (xs ++ ys) ≡ b
drops xs ys b h k = joins xs ys [] b h k

trails : (xs ys : List Piece) (a : List Id) → names_in xs ≡ a → Bare ys → names_in (xs ++ ys) ≡ a
trails xs ys a h k = joins xs ys a [] h k ∙ append-nil a

-- ---- expressions

no_variable : (x : Piece) → is_of_expression x ≡ true → variable_of x ≡ []
no_variable (Statement c s) h = absurd (true≢false (sym h))
no_variable (GhostStatement c s) h = absurd (true≢false (sym h))
no_variable _ h = refl

bare_type : (items : List Item) (ty : Ty) → Bare (struct_name items ty)
bare_type items ty = nothing variable_of no_variable (struct_name items ty) (type_pieces items ty)

bare : (c : Context) (x : Exp) → Bare (expression c x)
bare c x = nothing variable_of no_variable (expression c x) (expression_pieces c x)

bare_all : (c : Context) (xs : List Exp) → Bare (expressions c xs)
bare_all c [] = refl
bare_all c (x ∷ xs) = bare_append (expression c x) (expressions c xs) (bare c x) (bare_all c xs)

bare_option : {A : Type 0} (f : A → List Piece) → ((x : A) → Bare (f x)) → (o : Option A) → Bare (if_some f o)
bare_option f h None = refl
bare_option f h (Some x) = h x

-- ---- right sides and assignments

bare_call : (c : Context) (x : CallTree) → Bare (call c x)
bare_call c x = bare_append (expressions c x.arguments) (expressions (ghost c) x.ghost_arguments) (bare_all c x.arguments) (bare_all (ghost c) x.ghost_arguments)

bare_cast : (items : List Item) (o : Option Id) → Bare (cast items o)
bare_cast items None = refl
bare_cast items (Some x) = refl

bare_compared : (c : Context) (o : Option Comparison) → Bare (compared c o)
bare_compared c None = refl
bare_compared c (Some x) = bare c x.other

bare_right : (c : Context) (x : Rhs) → Bare (right c x)
bare_right c (e.Value x) = bare c x
bare_right c (e.Malloc x p y) = bare_append (cast c.scope.items x) _ (bare_cast c.scope.items x) refl
bare_right c (e.Locked x y) =
    bare_append (expression c x.field) (expressions c x.arguments ++ compared c y) (bare c x.field) (bare_append (expressions c x.arguments) (compared c y) (bare_all c x.arguments) (bare_compared c y))
bare_right c (e.Called x) = bare_call c x

bare_effect : (c : Context) (x : Effect) → Bare (effect c x)
bare_effect c (e.Set x) = bare_right c x
bare_effect c (e.Add x) = bare c x
bare_effect c (e.Subtract x) = bare c x
bare_effect c e.Increment = refl
bare_effect c e.Decrement = refl

bare_assignment : (c : Context) (x : Assignment) → Bare (assignment c x)
bare_assignment c x = bare_append (expression c x.left) (effect c x.effect) (bare c x.left) (bare_effect c x.effect)

-- ---- ghost statements

bare_members : (c : Context) (x : Members) → Bare (pieces.members c x)
bare_members c (g.One x) = bare c x
bare_members c (g.Several xs) = bare_all c xs

bare_owns : (c : Context) (x : OwnsEffect) → Bare (owns_effect c x)
bare_owns c (g.Become xs) = bare_all c xs
bare_owns c (g.Join x) = bare_members c x
bare_owns c (g.Leave x) = bare_members c x

bare_ghost_right : (c : Context) (x : GhostRhs) → Bare (ghost_right c x)
bare_ghost_right c (g.Value x) = bare c x
bare_ghost_right c (g.MakeClaim p xs x) = bare_append (expressions c xs) (expression (claim_property xs c) x) (bare_all c xs) (bare (claim_property xs c) x)

mutual
  ghost_in : (c : Context) (s : GStm) → names_in (GhostStatement c s ∷ in_ghost c s) ≡ ghost_names s
  ghost_in c (g.Block p ss) = ghosts_in c ss
  ghost_in c (g.Declare p ty x r) =
      ap (λ (ns : List Id). x ∷ ns) (bare_append (struct_name c.scope.items ty) (if_some (ghost_right c) r) (bare_type c.scope.items ty) (bare_option (ghost_right c) (bare_ghost_right c) r))
  ghost_in c (g.Assign p x q r) = bare_append (expression c x) (ghost_right c r) (bare c x) (bare_ghost_right c r)
  ghost_in c (g.Owns p x q y) = bare_append (expression c x) (owns_effect c y) (bare c x) (bare_owns c y)
  ghost_in c (g.DestroyClaim p x xs) = bare_append (expression c x) (expressions c xs) (bare c x) (bare_all c xs)
  ghost_in c (g.Wrap p x) = bare c x
  ghost_in c (g.Unwrap p x) = bare c x
  ghost_in c (g.If p x s) = drops (expression c x) (GhostStatement c s ∷ in_ghost c s) (ghost_names s) (bare c x) (ghost_in c s)
  ghost_in c (g.IfElse p x s t) =
      let a = GhostStatement c s ∷ in_ghost c s in
      let b = GhostStatement c t ∷ in_ghost c t in
      drops (expression c x) (a ++ b) (ghost_names s ++ ghost_names t) (bare c x) (joins a b (ghost_names s) (ghost_names t) (ghost_in c s) (ghost_in c t))

  ghosts_in : (c : Context) (ss : GStms) → names_in (in_ghosts c ss) ≡ all_ghost_names ss
  ghosts_in c g.Empty = refl
  ghosts_in c (g.More s ss) = joins (GhostStatement c s ∷ in_ghost c s) (in_ghosts (behind_ghost c s) ss) (ghost_names s) (all_ghost_names ss) (ghost_in c s) (ghosts_in (behind_ghost c s) ss)

-- ---- statements

bare_invariants : (t : Text) (c : Context) (xs : List Inv) → Bare (invariants t c xs)
bare_invariants t c [] = refl
bare_invariants t c (x ∷ xs) = bare_append (expression (with_text t c) x.property) (invariants t c xs) (bare (with_text t c) x.property) (bare_invariants t c xs)

abbrev whole : Context → Stm → List Piece
whole c s = Statement c s ∷ in_statement c s

-- a body behind invariants
looped : (c : Context) (xs : List Inv) (ys : List Piece) (b : List Id) → names_in ys ≡ b → names_in (invariants texts.LoopInvariant c xs ++ ys) ≡ b
looped c xs ys b h = drops (invariants texts.LoopInvariant c xs) ys b (bare_invariants texts.LoopInvariant c xs) h

mutual
  statement_in : (c : Context) (s : Stm) → names_in (whole c s) ≡ statement_names s
  statement_in c (st.Block p ss q) = statements_in c ss
  statement_in c (st.Skip p) = refl
  statement_in c (st.Declare p ty x r) =
      ap (λ (ns : List Id). x ∷ ns) (bare_append (struct_name c.scope.items ty) (if_some (right c) r) (bare_type c.scope.items ty) (bare_option (right c) (bare_right c) r))
  statement_in c (st.Assign p x) = bare_assignment c x
  statement_in c (st.Call p x) = bare_call c x
  statement_in c (st.If p x s) = drops (expression c x) (whole c s) (statement_names s) (bare c x) (statement_in c s)
  statement_in c (st.IfElse p x s t) =
      drops (expression c x) (whole c s ++ whole c t) (statement_names s ++ statement_names t) (bare c x)
      (joins (whole c s) (whole c t) (statement_names s) (statement_names t) (statement_in c s) (statement_in c t))
  statement_in c (st.While p x is s) =
      drops (expression c x) (invariants texts.LoopInvariant c is ++ whole c s) (statement_names s) (bare c x) (looped c is (whole c s) (statement_names s) (statement_in c s))
  statement_in c (st.Do p is s q x) =
      looped c is (whole c s ++ expression c x) (statement_names s) (trails (whole c s) (expression c x) (statement_names s) (statement_in c s) (bare c x))
  statement_in c (st.For p a x b is s) =
      let body = invariants texts.LoopInvariant c is ++ whole c s in
      drops (if_some (assignment c) a) (expression c x ++ (if_some (assignment c) b ++ body)) (statement_names s) (bare_option (assignment c) (bare_assignment c) a)
      (drops (expression c x) (if_some (assignment c) b ++ body) (statement_names s) (bare c x)
      (drops (if_some (assignment c) b) body (statement_names s) (bare_option (assignment c) (bare_assignment c) b) (looped c is (whole c s) (statement_names s) (statement_in c s))))
  statement_in c (st.Return p x) = bare_option (expression c) (bare c) x
  statement_in c (st.Spawn p x) = bare_call c x
  statement_in c (st.Free p x) = bare c x
  statement_in c (st.Assert p x) = bare (with_text texts.Assert c) x
  statement_in c (st.Ghost p s) = ghost_in (ghost c) s
  statement_in c (st.Wrap p x) = bare (ghost c) x
  statement_in c (st.Unwrap p x) = bare (ghost c) x
  statement_in c (st.Unwrapping p x ss q) =
      drops (expression (ghost c) x) (in_statements (inside_unwrapping c) ss) (all_statement_names ss) (bare (ghost c) x) (statements_in (inside_unwrapping c) ss)
  statement_in c (st.Atomic p xs ss q) =
      drops (expressions (ghost c) xs) (in_statements (inside_atomic c) ss) (all_statement_names ss) (bare_all (ghost c) xs) (statements_in (inside_atomic c) ss)

  statements_in : (c : Context) (ss : Stms) → names_in (in_statements c ss) ≡ all_statement_names ss
  statements_in c st.Empty = refl
  statements_in c (st.More s ss) = joins (whole c s) (in_statements (following c s) ss) (statement_names s) (all_statement_names ss) (statement_in c s) (statements_in (following c s) ss)

-- the variables of a function
pub variables_are : (items : List Item) (f : FunctionTree) → variables items f ≡ function_names f
variables_are items f = ap (λ (ns : List Id). parameter_names f.parameters ++ (parameter_names f.ghost_parameters ++ ns)) (statements_in (in_function items f) f.body.all)
