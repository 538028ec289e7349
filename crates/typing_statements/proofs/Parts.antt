-- What the pieces of calls, right sides and ghost statements break, part by part.
use Rattle.std.proofs.Common.{◌≡◌, refl, sym, ◌∙◌, ap, List, [], ◌∷◌, ◌++◌, Option, Some, None, map}
use Rattle.c_syntax.specs.declared.token.Span.{Span}
use Rattle.c_syntax.specs.Expressions as e
use Rattle.c_syntax.specs.Expressions.{Id, Ty, Exp, Inter, Comparison, CallTree, Rhs, Effect, Assignment}
use Rattle.c_syntax.specs.Ghosts as g
use Rattle.c_syntax.specs.Ghosts.{GhostRhs, GStm, GStms}
use Rattle.c_syntax.specs.Items.{Param, FunctionTree, Item}
use Rattle.typing_spec.specs.Conversions.{Use, to, paired, call_uses, right_use, effect_uses}
use Rattle.typing_spec.specs.First.{Fault, earlier}
use Rattle.typing_expressions.specs.Judging.{unconverted}
use Rattle.typing_expressions.proofs.Rows.{unconverted_append}
use Rattle.typing_statements.specs.Views.{Values, values, RightSide, right_side}
use Rattle.typing_spec.specs.Types.{Kind, kind}
use Rattle.typing_spec.specs.Values.{interlocked_kind, compared_kind}
use Rattle.typing_spec.specs.Rules as r
use Rattle.typing_spec.specs.Operands.{effect_misfit}
use Rattle.typing_expressions.specs.Violations.{Judged, judge, broken_if}
use Rattle.typing_expressions.proofs.FoundLaws.{put}
use Rattle.typing_statements.proofs.Values.{one_value}
use Rattle.typing_spec.specs.Declarations.{find_function}
use Rattle.typing_spec.specs.Contexts.{Context, ghost}
use Rattle.typing_spec.specs.Pieces.{Piece, Called, Allocation, Interlocked, Assigned, NewClaim, StructName, expression, expressions, call, cast, compared, right, effect, assignment, claim_property, ghost_right}
use Rattle.typing_expressions.specs.Violations.{Violations, violations, breaking, joined}
use Rattle.typing_expressions.proofs.FoundLaws.{found_none, found_append, found_first}
use Rattle.typing_statements.specs.Breaks as b
use Rattle.typing_statements.proofs.Own.{own_called, own_allocation, own_struct_name, own_interlocked, own_assigned, own_new_claim}

-- a piece whose faults are known in front of others
pub behind_own : (x : Piece) (xs : List Piece) (o : Violations) (f : Violations) → violations (x ∷ []) ≡ o → violations xs ≡ f → violations (x ∷ xs) ≡ joined o f
behind_own x xs o f h k = found_first x xs ∙ (ap (λ (z : Violations). joined z (violations xs)) h ∙ ap (joined o) k)

pub two : (xs ys : List Piece) (f k : Violations) → violations xs ≡ f → violations ys ≡ k → violations (xs ++ ys) ≡ joined f k
two xs ys f k h i = found_append xs ys ∙ (ap (λ (z : Violations). joined z (violations ys)) h ∙ ap (joined f) i)

pub call_found : (c : Context) (x : CallTree) → violations (call c x) ≡ joined (breaking (b.called_breaks c x (find_function c.scope.items x.function))) (joined (violations (expressions c x.arguments)) (violations (expressions (ghost c) x.ghost_arguments)))
call_found c x = behind_own (Called c x) _ _ _ (own_called c x) (found_append (expressions c x.arguments) (expressions (ghost c) x.ghost_arguments))

-- a cast in front of a `malloc`, and the struct behind it
cast_found : (items : List Item) (x : Option Id) (y : Id) → violations (cast items x ++ (StructName items y ∷ [])) ≡ joined (breaking (b.cast_breaks items x)) (breaking (b.struct_breaks items y))
cast_found items None y = own_struct_name items y
cast_found items (Some x) y = two (StructName items x ∷ []) (StructName items y ∷ []) _ _ (own_struct_name items x) (own_struct_name items y)

pub malloc_found : (c : Context) (x : Option Id) (p : Span) (y : Id) → violations (right c (e.Malloc x p y)) ≡ joined (breaking (b.allocation_breaks c.scope.items x p y)) (joined (breaking (b.cast_breaks c.scope.items x)) (breaking (b.struct_breaks c.scope.items y)))
malloc_found c x p y = behind_own (Allocation c x p y) _ _ _ (own_allocation c x p y) (cast_found c.scope.items x y)

pub locked_found : (c : Context) (x : Inter) (y : Option Comparison) → violations (right c (e.Locked x y)) ≡ joined (breaking (b.interlocked_breaks c x y)) (joined (violations (expression c x.field)) (joined (violations (expressions c x.arguments)) (violations (compared c y))))
locked_found c x y =
    behind_own (Interlocked c x y) _ _ _ (own_interlocked c x y) (two (expression c x.field) (expressions c x.arguments ++ compared c y) _ _ refl (found_append (expressions c x.arguments) (compared c y)))

pub assignment_found : (c : Context) (a : Assignment) → violations (assignment c a) ≡ joined (b.assigned_found c a (violations (expression c a.left)) a.effect) (joined (violations (expression c a.left)) (violations (effect c a.effect)))
assignment_found c a = behind_own (Assigned c a) _ _ _ (own_assigned c a) (found_append (expression c a.left) (effect c a.effect))

pub claim_found : (c : Context) (p : Span) (xs : List Exp) (x : Exp) → violations (ghost_right c (g.MakeClaim p xs x)) ≡ joined (breaking (b.new_claim_breaks c xs)) (joined (violations (expressions c xs)) (violations (expression (claim_property xs c) x)))
claim_found c p xs x = behind_own (NewClaim c xs x) _ _ _ (own_new_claim c xs x) (found_append (expressions c xs) (expression (claim_property xs c) x))

-- ---- calls, out of what their arguments give

paired_none : (c : Context) (xs : List Exp) → paired c xs [] ≡ []
paired_none c [] = refl
paired_none c (x ∷ xs) = refl

both_paired : (c : Context) (x : CallTree) (h : Option FunctionTree) → earlier (unconverted (paired c x.arguments (b.parameters_of h))) (unconverted (paired (ghost c) x.ghost_arguments (b.ghost_parameters_of h))) ≡ unconverted (call_uses c x h)
both_paired c x None = ap (λ (us : List Use). earlier (unconverted us) (unconverted (paired (ghost c) x.ghost_arguments []))) (paired_none c x.arguments) ∙ ap (λ (us : List Use). unconverted us) (paired_none (ghost c) x.ghost_arguments)
both_paired c x (Some h) = sym (unconverted_append (paired c x.arguments h.parameters) (paired (ghost c) x.ghost_arguments h.ghost_parameters))

pub call_of : (c d : Context) (x : CallTree) (h : Option FunctionTree) (ps gs : List Param) (a k : Values) (u o : Option Fault)
    → h ≡ find_function c.scope.items x.function → ps ≡ b.parameters_of h → gs ≡ b.ghost_parameters_of h → d ≡ ghost c
    → a ≡ values c x.arguments (paired c x.arguments ps) → k ≡ values d x.ghost_arguments (paired d x.ghost_arguments gs)
    → u ≡ earlier a.unconverted k.unconverted → o ≡ b.called_by x h u → joined (breaking o) (joined a.violations k.violations) ≡ violations (call c x)
call_of c d x h ps gs a k u o eh ep eg ed ea ek eu eo =
    let first : a ≡ values c x.arguments (paired c x.arguments (b.parameters_of h)) = ea ∙ ap (λ (qs : List Param). values c x.arguments (paired c x.arguments qs)) ep in
    let second : k ≡ values (ghost c) x.ghost_arguments (paired (ghost c) x.ghost_arguments (b.ghost_parameters_of h)) =
    ek ∙ (ap (λ (e : Context). values e x.ghost_arguments (paired e x.ghost_arguments gs)) ed ∙ ap (λ (qs : List Param). values (ghost c) x.ghost_arguments (paired (ghost c) x.ghost_arguments qs)) eg) in
    let both : u ≡ unconverted (call_uses c x h) =
    eu ∙ (ap (λ (v : Values). earlier v.unconverted k.unconverted) first ∙ (ap (λ (v : Values). earlier (unconverted (paired c x.arguments (b.parameters_of h))) v.unconverted) second ∙ both_paired c x h)) in
    let own : o ≡ b.called_breaks c x (find_function c.scope.items x.function) = eo ∙ (ap (b.called_by x h) both ∙ ap (b.called_breaks c x) eh) in
    ap (λ (f : Option Fault). joined (breaking f) (joined a.violations k.violations)) own
    ∙ (ap (λ (v : Values). joined (breaking (b.called_breaks c x (find_function c.scope.items x.function))) (joined v.violations k.violations)) first
    ∙ (ap (λ (v : Values). joined (breaking (b.called_breaks c x (find_function c.scope.items x.function))) (joined (violations (expressions c x.arguments)) v.violations)) second ∙ sym (call_found c x)))

-- ---- right sides, out of what their parts give

abbrev side : Option Kind → Span → Violations → RightSide
side k p f = record { kind = k; place = p; violations = f }

pub side_at : {k l : Option Kind} {f h : Violations} (p : Span) → k ≡ l → f ≡ h → side k p f ≡ side l p h
side_at p q s = λ i. record { kind = q i; place = p; violations = s i }

comparison_same : (c : Context) (x : Inter) (y : Option Comparison) → b.comparison_of c (interlocked_kind c.scope x) y ≡ b.comparison_breaks c x y
comparison_same c x None = refl
comparison_same c x (Some y) = refl

pub locked_of : (c : Context) (x : Inter) (y : Option Comparison) (f : Judged) (k g : Option Kind) (a : Values) (inner : Violations) (un o : Option Fault)
    → f ≡ judge c x.field → k ≡ b.integer_of f.kind → g ≡ compared_kind c.scope k y → a ≡ values c x.arguments (map (to k c) x.arguments) → inner ≡ violations (compared c y) → un ≡ b.comparison_of c k y
    → o ≡ earlier un (earlier a.unconverted (broken_if (b.is_out_of_form c x) r.InterlockedCall x.place)) → side g x.place (joined (breaking o) (joined f.violations (joined a.violations inner))) ≡ right_side c (e.Locked x y)
locked_of c x y f k g a inner un o ef ek eg ea ei eu eo =
    let kinds : k ≡ interlocked_kind c.scope x = ek ∙ ap (λ (j : Judged). b.integer_of j.kind) ef in
    let args : a ≡ values c x.arguments (map (to (interlocked_kind c.scope x) c) x.arguments) = ea ∙ ap (λ (q : Option Kind). values c x.arguments (map (to q c) x.arguments)) kinds in
    let first : un ≡ b.comparison_breaks c x y = eu ∙ (ap (λ (q : Option Kind). b.comparison_of c q y) kinds ∙ comparison_same c x y) in
    let tail = broken_if (b.is_out_of_form c x) r.InterlockedCall x.place in
    let own : o ≡ b.interlocked_breaks c x y = eo ∙ (ap (λ (u : Option Fault). earlier u (earlier a.unconverted tail)) first ∙ ap (λ (v : Values). earlier (b.comparison_breaks c x y) (earlier v.unconverted tail)) args) in
    side_at x.place (eg ∙ ap (λ (q : Option Kind). compared_kind c.scope q y) kinds)
    (ap (λ (u : Option Fault). joined (breaking u) (joined f.violations (joined a.violations inner))) own
    ∙ (ap (λ (j : Judged). joined (breaking (b.interlocked_breaks c x y)) (joined j.violations (joined a.violations inner))) ef
    ∙ (ap (λ (v : Values). joined (breaking (b.interlocked_breaks c x y)) (joined (violations (expression c x.field)) (joined v.violations inner))) args
    ∙ (ap (λ (z : Violations). joined (breaking (b.interlocked_breaks c x y)) (joined (violations (expression c x.field)) (joined (violations (expressions c x.arguments)) z))) ei ∙ sym (locked_found c x y)))))

-- ---- assignments

breaks_by : (c : Context) (a : Assignment) (f : Effect) → a.effect ≡ f → b.assigned_breaks c a ≡ earlier (broken_if (effect_misfit c (kind c.scope a.left) f) r.Operands a.place) (unconverted (effect_uses c a.left f))
breaks_by c a f h = ap (λ (z : Effect). earlier (broken_if (effect_misfit c (kind c.scope a.left) z) r.Operands a.place) (unconverted (effect_uses c a.left z))) h

abbrev put_all : Violations → Option Fault → Violations
put_all l o = put o l.access l.later

assigned_same : (c : Context) (a : Assignment) (l : Violations) (f : Effect) → a.effect ≡ f → b.assigned l a.place (b.change c (kind c.scope a.left) f) ≡ b.assigned_found c a l f
assigned_same c a l (e.Set x) h = ap breaking (sym (breaks_by c a (e.Set x) h ∙ one_value (right_use c (kind c.scope a.left) x)))
assigned_same c a l (e.Add x) h = ap (put_all l) (sym (breaks_by c a (e.Add x) h))
assigned_same c a l (e.Subtract x) h = ap (put_all l) (sym (breaks_by c a (e.Subtract x) h))
assigned_same c a l e.Increment h = ap (put_all l) (sym (breaks_by c a e.Increment h))
assigned_same c a l e.Decrement h = ap (put_all l) (sym (breaks_by c a e.Decrement h))

change_found : (c : Context) (k : Option Kind) (f : Effect) → (b.change c k f).violations ≡ violations (effect c f)
change_found c k (e.Set x) = refl
change_found c k (e.Add x) = refl
change_found c k (e.Subtract x) = refl
change_found c k e.Increment = sym found_none
change_found c k e.Decrement = sym found_none

pub assignment_of : (c : Context) (a : Assignment) (l : Judged) (x : b.Change) (o : Violations) → l ≡ judge c a.left → x ≡ b.change c l.kind a.effect → o ≡ b.assigned l.violations a.place x → joined o (joined l.violations x.violations) ≡ violations (assignment c a)
assignment_of c a l x o el ex eo =
    let f = violations (expression c a.left) in
    let k = kind c.scope a.left in
    let change : x ≡ b.change c k a.effect = ex ∙ ap (λ (j : Judged). b.change c j.kind a.effect) el in
    let own : o ≡ b.assigned_found c a f a.effect = eo ∙ (ap (λ (j : Judged). b.assigned j.violations a.place x) el ∙ (ap (b.assigned f a.place) change ∙ assigned_same c a f a.effect refl)) in
    ap (λ (z : Violations). joined z (joined l.violations x.violations)) own
    ∙ (ap (λ (j : Judged). joined (b.assigned_found c a f a.effect) (joined j.violations x.violations)) el
    ∙ (ap (λ (z : b.Change). joined (b.assigned_found c a f a.effect) (joined f z.violations)) change
    ∙ (ap (λ (z : Violations). joined (b.assigned_found c a f a.effect) (joined f z)) (change_found c k a.effect) ∙ sym (assignment_found c a))))
