-- An expression that breaks no rule has a type, where the types of what is declared are known.
use Rattle.std.specs.Prelude.{Bool, true, false, not, ◌||◌, ◌&&◌, if◌then◌else◌, List, [], ◌∷◌, ◌++◌, Option, Some, None, Contains, find, cond, is_some, option_map, option_and_then, zero, suc, length}
use Rattle.std.proofs.Common.{◌≡◌, refl, sym, ap, subst, arith}
use Rattle.std.proofs.lemmas.Bool.{true≢false}
use Rattle.std.proofs.lemmas.List.Elements.{Contains-append_left, Contains-append_right}
use Rattle.c_syntax.specs.declared.token.Span.{Span}
use Rattle.c_syntax.specs.declared.tree.Constant.{Constant}
use Rattle.c_syntax.specs.declared.tree.Constant.TheVariants as constants
use Rattle.c_syntax.specs.declared.tree.Status.{Status}
use Rattle.c_syntax.specs.declared.tree.Status.TheVariants as statuses
use Rattle.c_syntax.specs.declared.tree.UnaryOperator.{UnaryOperator}
use Rattle.c_syntax.specs.declared.tree.BinaryOperator.{BinaryOperator}
use Rattle.c_syntax.specs.declared.tree.SpecFunction.{SpecFunction}
use Rattle.c_syntax.specs.declared.tree.SpecFunction.TheVariants as f
use Rattle.c_syntax.specs.Expressions as e
use Rattle.c_syntax.specs.Expressions.{Id, Ty, Exp, Exps}
use Rattle.c_syntax.specs.Items.{FieldTree, StructTree, Item}
use Rattle.typing_spec.specs.Declarations.{structs, fields, find_struct, find_field, same_name}
use Rattle.typing_spec.specs.Contexts.{Text, Scope, Variable, known, Context, deeper, with_quantified, quantified, inside_claims}
use Rattle.typing_spec.specs.Types.{Kind, Integer, Pointer, OwnedSet, is_pointer, is_scalar, only_if, kind_of, status_kind, find_variable, find_own_field, variable_or_field, type_of_name, field_of, unary_fits, left_fits, right_fits, together_fit, binary_fits, branches, conditional_kind, function_kind, truth_of_both, truth, kind, kinds, converts}
use Rattle.typing_spec.specs.Places.{place_if, fails}
use Rattle.typing_spec.specs.Rules as r
use Rattle.typing_spec.specs.Rules.{Rule}
use Rattle.typing_spec.specs.Names.{may_have}
use Rattle.typing_spec.specs.Operands.{misfit, branches_misfit}
use Rattle.typing_spec.specs.SpecWords.{is_type_invariant, is_ensures}
use Rattle.typing_spec.specs.Pieces.{Piece, StructName, Expression, struct_name, operand, argument, each_below, expression}
use Rattle.typing_spec.specs.First.{places}

-- what a look-up gives, if anything, has the property
abbrev pub Where : {A : Type 0} → (A → Type 0) → Option A → Type 0
Where P None = Unit {0}
Where P (Some x) = P x

-- a pointer's struct is one of the program's
abbrev pub Sound : List Item → Kind → Type 0
Sound items (Pointer s) = Contains (structs items) s
Sound items _ = Unit {0}

-- the kind is known
abbrev pub Typed : List Item → Option Kind → Type 0
Typed items None = ⊥
Typed items (Some k) = Sound items k

-- what a scope knows has types
pub record IsKnown (here : Scope) : Type 0 where
  pub variables_typed : (v : Variable) → Contains here.variables v → Typed here.items (kind_of here.items v.ty)
  pub fields_typed : (s : StructTree) (g : FieldTree) → Contains (structs here.items) s → Contains (fields s.members) g → Typed here.items (kind_of here.items g.ty)
  pub this_declared : Where (Contains (structs here.items)) here.this
  pub result_typed : Where (λ ty. Typed here.items (kind_of here.items ty)) here.result

-- `\this` and `\result` stand for something where they may stand
pub record IsPlaced (t : Text) (value : Option Ty) (here : Scope) : Type 0 where
  pub this_given : is_type_invariant t ≡ true → is_some here.this ≡ true
  pub result_given : (is_ensures t && is_some value) ≡ true → is_some here.result ≡ true

-- none of the pieces breaks a rule
abbrev pub Quiet : List Piece → Type 0
Quiet xs = (x : Piece) → Contains xs x → (rule : Rule) → places rule x ≡ []

-- ---- lists and options

quiet_left : (xs ys : List Piece) → Quiet (xs ++ ys) → Quiet xs
quiet_left xs ys h x c = h x (Contains-append_left xs ys x c)

quiet_right : (xs ys : List Piece) → Quiet (xs ++ ys) → Quiet ys
quiet_right xs ys h x c = h x (Contains-append_right xs ys x c)

quiet_last : (xs : List Piece) (x : Piece) → Quiet (xs ++ (x ∷ [])) → (rule : Rule) → places rule x ≡ []
quiet_last xs x h = h x (Contains-append_right xs (x ∷ []) x (0, omega arith, refl))

not_placed : (b : Bool) (p : Span) → place_if b p ≡ [] → b ≡ false
not_placed true p h = absurd (omega (arith, ap length h))
not_placed false p h = refl

one_more : {A : Type 0} (y : A) (xs : List A) (o : Option A) → Where (Contains xs) o → Where (Contains (y ∷ xs)) o
one_more y xs None h = tt
one_more y xs (Some x) h = Contains-append_right (y ∷ []) xs x h

found : {A : Type 0} (test : A → Bool) (xs : List A) → Where (Contains xs) (find test xs)
found test [] = tt
found test (y ∷ xs) = elim (test y) as (λ b. Where (Contains (y ∷ xs)) (cond b (Some y) (find test xs))) [ true ↦ (0, omega arith, refl) | false ↦ one_more y xs (find test xs) (found test xs) ]

-- ---- parts

is_given : {A : Type 0} (o : Option A) → not (is_some o) ≡ false → is_some o ≡ true
is_given None h = absurd (true≢false h)
is_given (Some x) h = refl

struct_typed : (items : List Item) (o : Option StructTree) → Where (Contains (structs items)) o → is_some o ≡ true → Typed items (option_map (λ s. Pointer s) o)
struct_typed items None h k = absurd (true≢false (sym k))
struct_typed items (Some s) h k = h

-- a type whose struct is declared
pub type_typed : (items : List Item) (ty : Ty) → Quiet (struct_name items ty) → Typed items (kind_of items ty)
type_typed items (e.Integer ty) h = tt
type_typed items (e.Pointer x) h =
    struct_typed items (find_struct items x) (found (λ s. same_name s.name x) (structs items)) (is_given (find_struct items x) (not_placed _ x.place (h (StructName items x) (0, omega arith, refl) r.Undeclared)))
type_typed items e.Object h = tt
type_typed items e.Claim h = tt

field_found : (here : Scope) → IsKnown here → (s : StructTree) → Contains (structs here.items) s → (o : Option FieldTree) → Where (Contains (fields s.members)) o → is_some o ≡ true → Typed here.items (option_and_then (λ g. kind_of here.items g.ty) o)
field_found here all s c None h k = absurd (true≢false (sym k))
field_found here all s c (Some g) h k = all.fields_typed s g c h

field_typed : (here : Scope) → IsKnown here → (y : Id) (o : Option Kind) (p q : Span) → Typed here.items o → place_if (fails is_pointer o) p ≡ [] → place_if (fails (may_have y) o) q ≡ []
    → Typed here.items (option_and_then (λ k. option_and_then (λ g. kind_of here.items g.ty) (field_of k y)) o)
field_typed here all y None p q h a b = h
field_typed here all y (Some (Pointer s)) p q h a b = field_found here all s h (find_field s y) (found (λ g. same_name g.name y) (fields s.members)) (is_given (find_field s y) (not_placed _ q b))
field_typed here all y (Some _) p q h a b = absurd (omega (arith, ap length a))

pointer_typed : (items : List Item) (k : Kind) → Sound items k → (o : Option Kind) (p : Span) → Typed items o → place_if (fails is_pointer o) p ≡ [] → Typed items (option_and_then (λ j. only_if (is_pointer j) k) o)
pointer_typed items k s None p h a = h
pointer_typed items k s (Some (Pointer t)) p h a = s
pointer_typed items k s (Some _) p h a = absurd (omega (arith, ap length a))

only_typed : (items : List Item) (b : Bool) → not b ≡ false → Typed items (only_if b Integer)
only_typed items true h = tt
only_typed items false h = absurd (true≢false h)

unary_typed : (items : List Item) (o : UnaryOperator) (k : Option Kind) → Typed items k → fails (unary_fits o) k ≡ false → Typed items (option_and_then (λ j. only_if (unary_fits o j) Integer) k)
unary_typed items o None h a = h
unary_typed items o (Some k) h a = only_typed items (unary_fits o k) a

three : (a b c : Bool) → (not a || (not b || not c)) ≡ false → not (a && (b && c)) ≡ false
three true true true h = refl
three true true false h = h
three true false c h = h
three false b c h = h

binary_typed : (items : List Item) (o : BinaryOperator) (k l : Option Kind) → Typed items k → Typed items l → misfit o k l ≡ false → Typed items (option_and_then (λ a. option_and_then (λ b. only_if (binary_fits o a b) Integer) l) k)
binary_typed items o None l h i a = h
binary_typed items o (Some k) None h i a = i
binary_typed items o (Some k) (Some l) h i a = only_typed items (binary_fits o k l) (three (left_fits o k) (right_fits o l) (together_fit o k l) a)

two : (a b : Bool) → (not a || not b) ≡ false → (not a ≡ false) × (not b ≡ false)
two true true h = (refl, refl)
two true false h = absurd (true≢false h)
two false b h = absurd (true≢false h)

branches_typed : (items : List Item) (k l : Kind) → Sound items k → Sound items l → is_some (branches k l) ≡ true → Typed items (branches k l)
branches_typed items k l h i = go (converts k l) (converts l k)
  where
    go : (a b : Bool) → is_some (if a then Some l else only_if b k) ≡ true → Typed items (if a then Some l else only_if b k)
    go true b g = i
    go false true g = h
    go false false g = absurd (true≢false (sym g))

conditional_typed : (items : List Item) (t k l : Option Kind) → Typed items t → Typed items k → Typed items l → branches_misfit t k l ≡ false → Typed items (option_and_then (λ a. option_and_then (λ b. option_and_then (conditional_kind a b) l) k) t)
conditional_typed items None k l g h i a = g
conditional_typed items (Some t) None l g h i a = h
conditional_typed items (Some t) (Some k) None g h i a = i
conditional_typed items (Some t) (Some k) (Some l) g h i a =
    let parts = two (is_scalar t) (is_some (branches k l)) a in
    go (is_scalar t) parts.0 (branches_typed items k l h i (is_given (branches k l) parts.1))
  where
    go : (b : Bool) → not b ≡ false → Typed items (branches k l) → Typed items (if b then branches k l else None)
    go true n x = x
    go false n x = absurd (true≢false n)

apply_typed : (items : List Item) (h : SpecFunction) (k : Option Kind) → Typed items k → Typed items (option_map (function_kind h) k)
apply_typed items h None a = a
apply_typed items f.Old (Some k) a = a
apply_typed items _ (Some k) a = tt

truth_typed : (items : List Item) (k : Option Kind) → Typed items k → Typed items (truth k)
truth_typed items None a = a
truth_typed items (Some k) a = tt

both_typed : (items : List Item) (k l : Option Kind) → Typed items k → Typed items l → Typed items (truth_of_both k l)
both_typed items None l a b = a
both_typed items (Some k) l a b = truth_typed items l b

result_known : (here : Scope) (o : Option Ty) → Where (λ ty. Typed here.items (kind_of here.items ty)) o → is_some o ≡ true → Typed here.items (option_and_then (kind_of here.items) o)
result_known here None h a = absurd (true≢false (sym a))
result_known here (Some ty) h a = h

from_not : (b : Bool) → not b ≡ false → b ≡ true
from_not true h = refl
from_not false h = absurd (true≢false h)

word_typed : (c : Context) → IsKnown c.scope → IsPlaced c.text c.value c.scope → (p : Span) (x : Constant) → ((rule : Rule) → places rule (Expression c (e.Word p x)) ≡ []) → Typed c.scope.items (kind c.scope (e.Word p x))
word_typed c all placed p constants.True q = tt
word_typed c all placed p constants.False q = tt
word_typed c all placed p constants.This q = struct_typed c.scope.items c.scope.this all.this_declared (placed.this_given (from_not (is_type_invariant c.text) (not_placed _ p (q r.ThisPlace))))
word_typed c all placed p constants.Me q = tt
word_typed c all placed p constants.Result q = result_known c.scope c.scope.result all.result_typed (placed.result_given (from_not (is_ensures c.text && is_some c.value) (not_placed _ p (q r.ResultPlace))))

own_field_typed : (here : Scope) → IsKnown here → (x : Id) (o : Option StructTree) → Where (Contains (structs here.items)) o → is_some (variable_or_field None (option_and_then (λ s. find_field s x) o)) ≡ true
    → Typed here.items (option_and_then (kind_of here.items) (variable_or_field None (option_and_then (λ s. find_field s x) o)))
own_field_typed here all x None h a = absurd (true≢false (sym a))
own_field_typed here all x (Some s) h a = go (find_field s x) (found (λ g. same_name g.name x) (fields s.members)) a
  where
    go : (o : Option FieldTree) → Where (Contains (fields s.members)) o → is_some (variable_or_field None o) ≡ true → Typed here.items (option_and_then (kind_of here.items) (variable_or_field None o))
    go None g b = absurd (true≢false (sym b))
    go (Some y) g b = all.fields_typed s y h g

name_typed : (here : Scope) → IsKnown here → (x : Id) → is_some (type_of_name here x) ≡ true → Typed here.items (option_and_then (kind_of here.items) (type_of_name here x))
name_typed here all x = go (find_variable here x) (found (λ v. same_name v.name x) here.variables)
  where
    go : (o : Option Variable) → Where (Contains here.variables) o → is_some (variable_or_field o (find_own_field here x)) ≡ true → Typed here.items (option_and_then (kind_of here.items) (variable_or_field o (find_own_field here x)))
    go None h a = own_field_typed here all x here.this all.this_declared a
    go (Some v) h a = all.variables_typed v h

status_sound : (items : List Item) (s : Status) → Sound items (status_kind s)
status_sound items statuses.Closed = tt
status_sound items statuses.Owner = tt
status_sound items statuses.ClaimCount = tt

-- with one more variable of a known type
pub one_known : (here : Scope) → IsKnown here → (v : Variable) → Typed here.items (kind_of here.items v.ty) → IsKnown (known v here)
one_known here all v h = record { variables_typed = go; fields_typed = all.fields_typed; this_declared = all.this_declared; result_typed = all.result_typed }
  where
    go : (w : Variable) → Contains (v ∷ here.variables) w → Typed here.items (kind_of here.items w.ty)
    go w (zero, l, q) = subst (λ u. Typed here.items (kind_of here.items u.ty)) q h
    go w (suc k, l, q) = all.variables_typed w (k, omega arith, q)

-- ---- expressions

mutual
  -- an expression that breaks no rule has a type, where those of the declarations are known
  pub expression_typed : (c : Context) → IsKnown c.scope → IsPlaced c.text c.value c.scope → (x : Exp) → Quiet (expression c x) → Typed c.scope.items (kind c.scope x)
  expression_typed c all placed (e.Number p n ty) q = tt
  expression_typed c all placed (e.Name x) q = name_typed c.scope all x (is_given (type_of_name c.scope x) (not_placed _ x.place (quiet_last [] (Expression c (e.Name x)) q r.Undeclared)))
  expression_typed c all placed (e.Null p) q = tt
  expression_typed c all placed (e.Word p x) q = word_typed c all placed p x (quiet_last [] (Expression c (e.Word p x)) q)
  expression_typed c all placed (e.Group p x) q = expression_typed c all placed x (quiet_left (expression c x) (Expression c (e.Group p x) ∷ []) q)
  expression_typed c all placed (e.Field p x y) q =
      let whole = quiet_last (expression (deeper c) x) (Expression c (e.Field p x y)) q in
      field_typed c.scope all y (kind c.scope x) p y.place (expression_typed (deeper c) all placed x (quiet_left (expression (deeper c) x) (Expression c (e.Field p x y) ∷ []) q)) (whole r.Arrow) (whole r.Undeclared)
  expression_typed c all placed (e.State p x w s) q =
      pointer_typed c.scope.items (status_kind s) (status_sound c.scope.items s) (kind c.scope x) p (expression_typed (deeper c) all placed x (quiet_left (expression (deeper c) x) (Expression c (e.State p x w s) ∷ []) q))
      (quiet_last (expression (deeper c) x) (Expression c (e.State p x w s)) q r.Arrow)
  expression_typed c all placed (e.Owns p x w) q =
      pointer_typed c.scope.items OwnedSet tt (kind c.scope x) p (expression_typed (deeper c) all placed x (quiet_left (expression (deeper c) x) (Expression c (e.Owns p x w) ∷ []) q))
      (quiet_last (expression (deeper c) x) (Expression c (e.Owns p x w)) q r.Arrow)
  expression_typed c all placed (e.Unary p o x) q =
      unary_typed c.scope.items o (kind c.scope x) (expression_typed (deeper c) all placed x (quiet_left (expression (deeper c) x) (Expression c (e.Unary p o x) ∷ []) q))
      (not_placed _ p (quiet_last (expression (deeper c) x) (Expression c (e.Unary p o x)) q r.Operands))
  expression_typed c all placed (e.Binary p o x y) q =
      let d = operand o c in
      let inner = quiet_left (expression d x ++ expression d y) (Expression c (e.Binary p o x y) ∷ []) q in
      binary_typed c.scope.items o (kind c.scope x) (kind c.scope y) (expression_typed d all placed x (quiet_left (expression d x) (expression d y) inner)) (expression_typed d all placed y (quiet_right (expression d x) (expression d y) inner))
      (not_placed _ p (quiet_last (expression d x ++ expression d y) (Expression c (e.Binary p o x y)) q r.Operands))
  expression_typed c all placed (e.Conditional p x y z) q =
      let d = deeper c in
      let inner = quiet_left (expression d x ++ (expression d y ++ expression d z)) (Expression c (e.Conditional p x y z) ∷ []) q in
      let both = quiet_right (expression d x) (expression d y ++ expression d z) inner in
      conditional_typed c.scope.items (kind c.scope x) (kind c.scope y) (kind c.scope z) (expression_typed d all placed x (quiet_left (expression d x) (expression d y ++ expression d z) inner))
      (expression_typed d all placed y (quiet_left (expression d y) (expression d z) both)) (expression_typed d all placed z (quiet_right (expression d y) (expression d z) both))
      (not_placed _ p (quiet_last (expression d x ++ (expression d y ++ expression d z)) (Expression c (e.Conditional p x y z)) q r.Operands))
  expression_typed c all placed (e.Apply p h x) q =
      apply_typed c.scope.items h (kind c.scope x) (expression_typed (argument h c) all placed x (quiet_left (expression (argument h c) x) (Expression c (e.Apply p h x) ∷ []) q))
  expression_typed c all placed (e.Several p w xs) q = expressions_typed (deeper c) all placed xs (quiet_left (each_below (deeper c) xs) (Expression c (e.Several p w xs) ∷ []) q)
  expression_typed c all placed (e.ClaimsObject p x y) q =
      let d = deeper c in
      let inner = quiet_left (expression d x ++ expression d y) (Expression c (e.ClaimsObject p x y) ∷ []) q in
      both_typed c.scope.items (kind c.scope x) (kind c.scope y) (expression_typed d all placed x (quiet_left (expression d x) (expression d y) inner)) (expression_typed d all placed y (quiet_right (expression d x) (expression d y) inner))
  expression_typed c all placed (e.Claims p x y) q =
      let inner = quiet_left (expression (deeper c) x ++ expression (inside_claims c) y) (Expression c (e.Claims p x y) ∷ []) q in
      both_typed c.scope.items (kind c.scope x) (kind c.scope y) (expression_typed (deeper c) all placed x (quiet_left (expression (deeper c) x) (expression (inside_claims c) y) inner))
      (expression_typed (inside_claims c) all placed y (quiet_right (expression (deeper c) x) (expression (inside_claims c) y) inner))
  expression_typed c all placed (e.Approves p x) q = tt
  expression_typed c all placed (e.Quantified p k ty x y) q =
      let d = with_quantified ty x (deeper c) in
      let inner = quiet_left (struct_name c.scope.items ty ++ expression d y) (Expression c (e.Quantified p k ty x y) ∷ []) q in
      let declared = type_typed c.scope.items ty (quiet_left (struct_name c.scope.items ty) (expression d y) inner) in
      truth_typed c.scope.items (kind (quantified ty x c.scope) y)
      (expression_typed d (one_known c.scope all (record { name = x; ty = ty; is_ghost = true }) declared) (record { this_given = placed.this_given; result_given = placed.result_given }) y (quiet_right (struct_name c.scope.items ty) (expression d y) inner))

  expressions_typed : (c : Context) → IsKnown c.scope → IsPlaced c.text c.value c.scope → (xs : Exps) → Quiet (each_below c xs) → Typed c.scope.items (kinds c.scope xs)
  expressions_typed c all placed e.Stop q = tt
  expressions_typed c all placed (e.With x xs) q =
      both_typed c.scope.items (kind c.scope x) (kinds c.scope xs) (expression_typed c all placed x (quiet_left (expression c x) (each_below c xs) q)) (expressions_typed c all placed xs (quiet_right (expression c x) (each_below c xs) q))
