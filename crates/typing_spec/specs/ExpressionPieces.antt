-- The pieces of an expression are expressions and names of structs.
use Rattle.std.specs.Prelude.{Bool, true, false, ◌&&◌, List, [], ◌∷◌, ◌++◌, flat_map}
use Rattle.std.specs.List.{list_all}
use Rattle.std.proofs.Common.{◌≡◌, refl, ◌∙◌, ap}
use Rattle.std.proofs.lemmas.Bool.{and_parts}
use Rattle.std.proofs.lemmas.List.Folds.{list_all-append}
use Rattle.c_syntax.specs.Expressions as e
use Rattle.c_syntax.specs.Expressions.{Ty, Exp, Exps}
use Rattle.c_syntax.specs.Items.{Item}
use Rattle.typing_spec.specs.Contexts.{Context, with_quantified, deeper, inside_claims}
use Rattle.typing_spec.specs.Pieces.{Piece, StructName, Expression, part, below, each_below, expression, operand, argument, struct_name}

-- whether an expression can have such a piece
abbrev pub is_of_expression : Piece → Bool
is_of_expression (StructName items x) = true
is_of_expression (Expression c x) = true
is_of_expression _ = false

-- pieces of this kind alone
abbrev pub OfExpressions : List Piece → Type 0
OfExpressions xs = list_all is_of_expression xs ≡ true

appended : (xs ys : List Piece) → OfExpressions xs → OfExpressions ys → OfExpressions (xs ++ ys)
appended xs ys h k = list_all-append is_of_expression xs ys ∙ (ap (λ (b : Bool). b && list_all is_of_expression ys) h ∙ k)

pub type_pieces : (items : List Item) (ty : Ty) → OfExpressions (struct_name items ty)
type_pieces items (e.Integer ty) = refl
type_pieces items (e.Pointer x) = refl
type_pieces items e.Object = refl
type_pieces items e.Claim = refl

part_pieces : (c : Context) (x : Exp) (inner : List Piece) → OfExpressions inner → OfExpressions (part c x inner)
part_pieces c x inner h = appended inner (Expression c x ∷ []) h refl

mutual
  below_pieces : (c : Context) (x : Exp) → OfExpressions (below c x)
  below_pieces c (e.Number p n ty) = refl
  below_pieces c (e.Name x) = refl
  below_pieces c (e.Null p) = refl
  below_pieces c (e.Word p x) = refl
  below_pieces c (e.Group p x) = part_pieces c x (below c x) (below_pieces c x)
  below_pieces c (e.Field p x y) = part_pieces (deeper c) x (below (deeper c) x) (below_pieces (deeper c) x)
  below_pieces c (e.State p x q s) = part_pieces (deeper c) x (below (deeper c) x) (below_pieces (deeper c) x)
  below_pieces c (e.Owns p x q) = part_pieces (deeper c) x (below (deeper c) x) (below_pieces (deeper c) x)
  below_pieces c (e.Unary p o x) = part_pieces (deeper c) x (below (deeper c) x) (below_pieces (deeper c) x)
  below_pieces c (e.Binary p o x y) =
      let d = operand o c in
      appended (expression d x) (expression d y) (part_pieces d x (below d x) (below_pieces d x)) (part_pieces d y (below d y) (below_pieces d y))
  below_pieces c (e.Conditional p x y z) =
      let d = deeper c in
      appended (expression d x) (expression d y ++ expression d z) (part_pieces d x (below d x) (below_pieces d x))
      (appended (expression d y) (expression d z) (part_pieces d y (below d y) (below_pieces d y)) (part_pieces d z (below d z) (below_pieces d z)))
  below_pieces c (e.Apply p h x) = part_pieces (argument h c) x (below (argument h c) x) (below_pieces (argument h c) x)
  below_pieces c (e.Several p w xs) = each_pieces (deeper c) xs
  below_pieces c (e.ClaimsObject p x y) =
      let d = deeper c in
      appended (expression d x) (expression d y) (part_pieces d x (below d x) (below_pieces d x)) (part_pieces d y (below d y) (below_pieces d y))
  below_pieces c (e.Claims p x y) =
      let d = deeper c in
      let k = inside_claims c in
      appended (expression d x) (expression k y) (part_pieces d x (below d x) (below_pieces d x)) (part_pieces k y (below k y) (below_pieces k y))
  below_pieces c (e.Approves p x) = refl
  below_pieces c (e.Quantified p q ty x y) =
      let d = with_quantified ty x (deeper c) in
      appended (struct_name c.scope.items ty) (expression d y) (type_pieces c.scope.items ty) (part_pieces d y (below d y) (below_pieces d y))

  each_pieces : (c : Context) (xs : Exps) → OfExpressions (each_below c xs)
  each_pieces c e.Stop = refl
  each_pieces c (e.With x xs) = appended (expression c x) (each_below c xs) (part_pieces c x (below c x) (below_pieces c x)) (each_pieces c xs)

pub expression_pieces : (c : Context) (x : Exp) → OfExpressions (expression c x)
expression_pieces c x = part_pieces c x (below c x) (below_pieces c x)

-- functions that agree on such pieces agree on lists of them
pub alike : {A : Type 0} (f g : Piece → List A) → ((x : Piece) → is_of_expression x ≡ true → f x ≡ g x) → (xs : List Piece) → OfExpressions xs → flat_map f xs ≡ flat_map g xs
alike f g same [] h = refl
alike f g same (x ∷ xs) h =
    let both = and_parts (is_of_expression x) (list_all is_of_expression xs) h in
    ap (λ ys. ys ++ flat_map f xs) (same x both.0) ∙ ap (λ ys. g x ++ ys) (alike f g same xs both.1)

pub nothing : {A : Type 0} (f : Piece → List A) → ((x : Piece) → is_of_expression x ≡ true → f x ≡ []) → (xs : List Piece) → OfExpressions xs → flat_map f xs ≡ []
nothing f none [] h = refl
nothing f none (x ∷ xs) h =
    let both = and_parts (is_of_expression x) (list_all is_of_expression xs) h in
    ap (λ ys. ys ++ flat_map f xs) (none x both.0) ∙ nothing f none xs both.1
