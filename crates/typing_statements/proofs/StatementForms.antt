-- What statements break, out of what their parts give.
use Rattle.std.proofs.Common.{◌≡◌, refl, sym, ◌∙◌, ap, append-nil, append_assoc, List, [], ◌∷◌, ◌++◌, Option, Some, None, map}
use Rattle.std.proofs.lemmas.Grind.{flat_map-append}
use Rattle.c_syntax.specs.declared.token.Span.{Span}
use Rattle.c_syntax.specs.Expressions.{Id, Ty, Exp, CallTree, Rhs, Assignment}
use Rattle.c_syntax.specs.Ghosts.{GStm}
use Rattle.c_syntax.specs.Statements as st
use Rattle.c_syntax.specs.Statements.{Inv, Stm, Stms}
use Rattle.c_syntax.specs.Grammar.{first_place}
use Rattle.typing_spec.specs.Contexts as contexts
use Rattle.typing_spec.specs.Contexts.{Text, Context, with_text, ghost, inside_atomic, inside_unwrapping}
use Rattle.typing_spec.specs.Types.{kind, kind_of}
use Rattle.typing_spec.specs.Pieces.{Piece, Statement, expression, expressions, right, assignment, invariants, if_some, struct_name, in_statement, in_statements}
use Rattle.typing_spec.specs.Conversions.{to, as_reference, right_use, return_uses}
use Rattle.typing_spec.specs.First.{Fault, earlier}
use Rattle.typing_expressions.specs.Violations.{Violations, violations, breaking, joined}
use Rattle.typing_expressions.specs.Judging.{unconverted, type_breaks}
use Rattle.typing_expressions.proofs.FoundLaws.{found_append, found_none}
use Rattle.typing_expressions.proofs.Judgements.{own_type, none_behind}
use Rattle.typing_statements.specs.Breaks as b
use Rattle.typing_statements.specs.Views.{ghost_pieces, statement_pieces}
use Rattle.typing_statements.proofs.Values.{one_value}
use Rattle.typing_statements.proofs.Own.{own_statement}
use Rattle.typing_statements.proofs.Parts.{behind_own, two}

-- what a statement breaks itself, in front of what stands in it
behind_statement : (c : Context) (s : Stm) (f : Violations) → violations (in_statement c s) ≡ f → violations (statement_pieces c s) ≡ joined (breaking (b.statement_breaks c s)) f
behind_statement c s f h = behind_own (Statement c s) (in_statement c s) _ f (own_statement c s) h

pub skip_is : (c : Context) (p : Span) → violations (statement_pieces c (st.Skip p)) ≡ violations []
skip_is c p = behind_statement c (st.Skip p) _ refl

pub declare_is : (c : Context) (p : Span) (ty : Ty) (n : Id) (x : Option Rhs) → violations (statement_pieces c (st.Declare p ty n x)) ≡ b.declaration c p ty x
declare_is c p ty n None = behind_statement c (st.Declare p ty n None) _ (two (struct_name c.scope.items ty) [] _ _ (own_type c.scope.items ty) found_none ∙ ap breaking (none_behind (type_breaks c.scope.items ty)))
declare_is c p ty n (Some x) =
    behind_statement c (st.Declare p ty n (Some x)) _ (two (struct_name c.scope.items ty) (right c x) _ _ (own_type c.scope.items ty) refl)
    ∙ ap (λ (o : Option Fault). joined (breaking (earlier o (b.atomic_breaks c p))) (joined (breaking (type_breaks c.scope.items ty)) (violations (right c x)))) (one_value (right_use c (kind_of c.scope.items ty) x))

pub assign_is : (c : Context) (p : Span) (a : Assignment) → violations (statement_pieces c (st.Assign p a)) ≡ b.assign_statement c p a
assign_is c p a = behind_statement c (st.Assign p a) _ refl

pub call_is : (c : Context) (p : Span) (x : CallTree) → violations (statement_pieces c (st.Call p x)) ≡ b.call_statement c p x
call_is c p x = behind_statement c (st.Call p x) _ refl

returned_of : (c : Context) (ty : Option Ty) (x : Exp) → unconverted (return_uses c ty x) ≡ b.returned_by c.scope.items ty (kind c.scope x) (first_place x)
returned_of c None x = refl
returned_of c (Some ty) x = one_value (to (kind_of c.scope.items ty) c x)

pub return_is : (c : Context) (p : Span) (x : Option Exp) → violations (statement_pieces c (st.Return p x)) ≡ b.return_statement c p x
return_is c p None = own_statement c (st.Return p None)
return_is c p (Some x) = behind_statement c (st.Return p (Some x)) _ refl ∙ ap (λ (o : Option Fault). joined (breaking (earlier o (b.return_breaks c p (Some x)))) (violations (expression c x))) (returned_of c c.value x)

pub spawn_is : (c : Context) (p : Span) (x : CallTree) → violations (statement_pieces c (st.Spawn p x)) ≡ b.spawn_statement c p x
spawn_is c p x = behind_statement c (st.Spawn p x) _ refl

pub free_is : (c : Context) (p : Span) (x : Exp) → violations (statement_pieces c (st.Free p x)) ≡ b.free_statement c p x
free_is c p x = behind_statement c (st.Free p x) _ refl ∙ ap (λ (o : Option Fault). joined (breaking (earlier o (b.atomic_breaks c p))) (violations (expression c x))) (one_value (as_reference c x))

pub assert_is : (c : Context) (p : Span) (x : Exp) → violations (statement_pieces c (st.Assert p x)) ≡ b.assertion c p x
assert_is c p x = behind_statement c (st.Assert p x) _ refl

pub wrap_is : (c : Context) (p : Span) (x : Exp) → violations (statement_pieces c (st.Wrap p x)) ≡ b.wrap_statement c p x
wrap_is c p x = behind_statement c (st.Wrap p x) _ refl

pub unwrap_is : (c : Context) (p : Span) (x : Exp) → violations (statement_pieces c (st.Unwrap p x)) ≡ b.wrap_statement c p x
unwrap_is c p x = behind_statement c (st.Unwrap p x) _ refl

-- ---- those that hold others

pub block_is : (c : Context) (p : Span) (ss : Stms) (q : Span) → violations (statement_pieces c (st.Block p ss q)) ≡ violations (in_statements c ss)
block_is c p ss q = behind_statement c (st.Block p ss q) _ refl

pub ghost_is : (c : Context) (p : Span) (s : GStm) → violations (statement_pieces c (st.Ghost p s)) ≡ violations (ghost_pieces (ghost c) s)
ghost_is c p s = behind_statement c (st.Ghost p s) _ refl

pub atomic_is : (c : Context) (p : Span) (xs : List Exp) (ss : Stms) (q : Span)
    → violations (statement_pieces c (st.Atomic p xs ss q))
    ≡ joined (breaking (earlier (unconverted (map (as_reference (ghost c)) xs)) (earlier (b.atomic_breaks c p) (violations (in_statements (inside_atomic c) ss)).later))) (joined (violations (expressions (ghost c) xs)) (violations (in_statements (inside_atomic c) ss)))
atomic_is c p xs ss q = behind_statement c (st.Atomic p xs ss q) _ (found_append (expressions (ghost c) xs) (in_statements (inside_atomic c) ss))

-- one more invariant of a loop
pub invariants_more : (t : Text) (c : Context) (is : List Inv) (x : Inv) → violations (invariants t c (is ++ x ∷ [])) ≡ joined (violations (invariants t c is)) (violations (expression (with_text t c) x.property))
invariants_more t c is x =
    ap violations (flat_map-append (λ (y : Inv). expression (with_text t c) y.property) is (x ∷ []))
    ∙ (found_append (invariants t c is) (expression (with_text t c) x.property ++ []) ∙ ap (λ (ps : List Piece). joined (violations (invariants t c is)) (violations ps)) (append-nil (expression (with_text t c) x.property)))

-- ---- what is found does not depend on how neighbours are grouped

grouped : (xs ys zs : List Piece) → joined (joined (violations xs) (violations ys)) (violations zs) ≡ joined (violations xs) (joined (violations ys) (violations zs))
grouped xs ys zs =
    ap (λ (f : Violations). joined f (violations zs)) (sym (found_append xs ys)) ∙ (sym (found_append (xs ++ ys) zs) ∙ (ap violations (append_assoc xs ys zs) ∙ (found_append xs (ys ++ zs) ∙ ap (joined (violations xs)) (found_append ys zs))))

-- a statement's own front, and what stands behind it
fronted : (c : Context) (s : Stm) (xs ys : List Piece) → in_statement c s ≡ xs ++ ys → violations (statement_pieces c s) ≡ joined (joined (breaking (b.statement_breaks c s)) (violations xs)) (violations ys)
fronted c s xs ys h =
    behind_statement c s _ (ap violations h ∙ found_append xs ys)
    ∙ (ap (λ (f : Violations). joined f (joined (violations xs) (violations ys))) (sym (own_statement c s))
    ∙ (sym (grouped (Statement c s ∷ []) xs ys) ∙ ap (λ (f : Violations). joined (joined f (violations xs)) (violations ys)) (own_statement c s)))

pub if_fronted : (c : Context) (p : Span) (x : Exp) (s : Stm) → violations (statement_pieces c (st.If p x s)) ≡ joined (b.if_front c p x) (violations (statement_pieces c s))
if_fronted c p x s = fronted c (st.If p x s) (expression c x) (statement_pieces c s) refl

pub if_else_fronted : (c : Context) (p : Span) (x : Exp) (s t : Stm) → violations (statement_pieces c (st.IfElse p x s t)) ≡ joined (b.if_front c p x) (joined (violations (statement_pieces c s)) (violations (statement_pieces c t)))
if_else_fronted c p x s t = fronted c (st.IfElse p x s t) (expression c x) (statement_pieces c s ++ statement_pieces c t) refl ∙ ap (joined (b.if_front c p x)) (found_append (statement_pieces c s) (statement_pieces c t))

pub while_fronted : (c : Context) (p : Span) (x : Exp) (is : List Inv) (s : Stm) → violations (statement_pieces c (st.While p x is s)) ≡ joined (b.while_front c p x is) (violations (statement_pieces c s))
while_fronted c p x is s =
    fronted c (st.While p x is s) (expression c x ++ invariants contexts.LoopInvariant c is) (statement_pieces c s) (sym (append_assoc (expression c x) (invariants contexts.LoopInvariant c is) (statement_pieces c s)))
    ∙ ap (λ (f : Violations). joined (joined (breaking (b.atomic_breaks c p)) f) (violations (statement_pieces c s))) (found_append (expression c x) (invariants contexts.LoopInvariant c is))

pub do_fronted : (c : Context) (p : Span) (is : List Inv) (s : Stm) (q : Span) (x : Exp) → violations (statement_pieces c (st.Do p is s q x)) ≡ joined (b.do_front c p is) (joined (violations (statement_pieces c s)) (violations (expression c x)))
do_fronted c p is s q x = fronted c (st.Do p is s q x) (invariants contexts.LoopInvariant c is) (statement_pieces c s ++ expression c x) refl ∙ ap (joined (b.do_front c p is)) (found_append (statement_pieces c s) (expression c x))

four_behind : (xs bs cs ds es : List Piece) → xs ++ (bs ++ (cs ++ (ds ++ es))) ≡ (xs ++ (bs ++ (cs ++ ds))) ++ es
four_behind xs bs cs ds es =
    ap (λ (ps : List Piece). xs ++ (bs ++ ps)) (sym (append_assoc cs ds es)) ∙ (ap (λ (ps : List Piece). xs ++ ps) (sym (append_assoc bs (cs ++ ds) es)) ∙ sym (append_assoc xs (bs ++ (cs ++ ds)) es))

pub for_fronted : (c : Context) (p : Span) (a : Option Assignment) (x : Exp) (d : Option Assignment) (is : List Inv) (s : Stm)
    → violations (statement_pieces c (st.For p a x d is s)) ≡ joined (b.for_front c p a x d is) (violations (statement_pieces c s))
for_fronted c p a x d is s =
    let heads = if_some (assignment c) a in
    let ds = if_some (assignment c) d in
    let invs = invariants contexts.LoopInvariant c is in
    fronted c (st.For p a x d is s) (heads ++ (expression c x ++ (ds ++ invs))) (statement_pieces c s) (four_behind heads (expression c x) ds invs (statement_pieces c s))
    ∙ ap (λ (f : Violations). joined (joined (breaking (b.atomic_breaks c p)) f) (violations (statement_pieces c s)))
    (two heads (expression c x ++ (ds ++ invs)) _ _ refl (two (expression c x) (ds ++ invs) _ _ refl (found_append ds invs)))

pub unwrapping_fronted : (c : Context) (p : Span) (x : Exp) (ss : Stms) (q : Span) → violations (statement_pieces c (st.Unwrapping p x ss q)) ≡ joined (b.wrap_statement c p x) (violations (in_statements (inside_unwrapping c) ss))
unwrapping_fronted c p x ss q = fronted c (st.Unwrapping p x ss q) (expression (ghost c) x) (in_statements (inside_unwrapping c) ss) refl

pub atomic_whole : (c : Context) (p : Span) (xs : List Exp) (ss : Stms) (q : Span) → violations (statement_pieces c (st.Atomic p xs ss q)) ≡ b.atomic_block c p xs (violations (in_statements (inside_atomic c) ss))
atomic_whole c p xs ss q = atomic_is c p xs ss q
