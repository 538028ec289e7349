-- What an expression is and what breaks in it, by its parts.
use Rattle.std.proofs.Common.{◌≡◌, ℕ, refl, sym, ◌∙◌, ap, append-nil, Bool, true, false, not, ◌&&◌, List, [], ◌∷◌, ◌++◌, Option, Some, None, drop}
use Rattle.std.specs.Prelude.{flat_map, map, is_some}
use Rattle.std.specs.Option.{option_and_then}
use Rattle.c_syntax.specs.declared.token.Span.{Span}
use Rattle.c_syntax.specs.declared.tree.Constant.{Constant}
use Rattle.c_syntax.specs.declared.tree.Constant.TheVariants as constants
use Rattle.c_syntax.specs.declared.tree.Status.{Status}
use Rattle.c_syntax.specs.declared.tree.Status.TheVariants as statuses
use Rattle.c_syntax.specs.declared.tree.UnaryOperator.{UnaryOperator}
use Rattle.c_syntax.specs.declared.tree.BinaryOperator.{BinaryOperator}
use Rattle.c_syntax.specs.declared.tree.SpecFunction.{SpecFunction}
use Rattle.c_syntax.specs.declared.tree.SpecFunction.TheVariants as f
use Rattle.c_syntax.specs.declared.tree.ListWord.{ListWord}
use Rattle.c_syntax.specs.declared.tree.ListWord.TheVariants as lists
use Rattle.c_syntax.specs.declared.tree.Quantifier.{Quantifier}
use Rattle.int_ranges.specs.declared.ctype.CType.{CType}
use Rattle.c_syntax.specs.Expressions as e
use Rattle.c_syntax.specs.Expressions.{Id, Ty, Exp, Exps}
use Rattle.c_syntax.specs.Items.{FieldTree, Item}
use Rattle.typing_spec.specs.Contexts.{InProperty, Outside, Conjunct, Below, Context, deeper, inside_claims, with_quantified}
use Rattle.typing_spec.specs.Types.{Kind, Integer, Null, Object, is_pointer, kind_of, find_variable, type_of_name, field_of, converts, kind}
use Rattle.typing_spec.specs.Rules as r
use Rattle.typing_spec.specs.Rules.{Rule}
use Rattle.typing_spec.specs.Pieces.{Piece, Expression, StructName, part, operand, argument, expression, expressions, each_below, struct_name}
use Rattle.typing_spec.specs.Places.{place_if, places_if, fails, fail_together}
use Rattle.typing_spec.specs.Atomic.{accesses}
use Rattle.typing_spec.specs.SpecWords.{is_ensures, is_type_invariant, is_property, old_is_misplaced, is_mine}
use Rattle.typing_spec.specs.Properties.{closed_held, is_of_form, is_this}
use Rattle.typing_spec.specs.Trees.{bare}
use Rattle.typing_spec.specs.Names.{may_have}
use Rattle.typing_spec.specs.Values.{field_named}
use Rattle.typing_spec.specs.GhostCode.{variable_is, field_is, is_code}
use Rattle.typing_spec.specs.Conversions.{Use, as_reference, as_claim, as_references, list_uses}
use Rattle.typing_spec.specs.FirstLaws.{first_append}
use Rattle.c_syntax.specs.Grammar.{first_place, exps_of}
use Rattle.typing_spec.specs.First.{Fault, faults, first_of, earlier, all_at}
use Rattle.typing_expressions.specs.Violations.{Violations, violations, front, further, breaking, broken_if, joined, Judged, judge}
use Rattle.typing_expressions.specs.Judging as j
use Rattle.typing_expressions.proofs.FoundLaws.{put, made, found_none, found_append, found_part}

-- ---- tests

pub none_behind : (o : Option Fault) → earlier o None ≡ o
none_behind None = refl
none_behind (Some x) = refl

-- a test in front of what else a piece breaks
pub one : (b : Bool) (rule : Rule) (p : Span) (rest : List Fault) → first_of (all_at rule (place_if b p) ++ rest) ≡ earlier (broken_if b rule p) (first_of rest)
one true rule p rest = refl
one false rule p rest = elim (first_of rest) as (λ o. o ≡ earlier None o) [ None ↦ refl | Some x ↦ refl ]

pub last : (b : Bool) (rule : Rule) (p : Span) → first_of (all_at rule (place_if b p) ++ []) ≡ broken_if b rule p
last true rule p = refl
last false rule p = refl

-- two tests of one rule
pub one_of_two : (a b : Bool) (rule : Rule) (p : Span) (rest : List Fault) → first_of (all_at rule (places_if a (place_if b p)) ++ rest) ≡ earlier (broken_if (a && b) rule p) (first_of rest)
one_of_two true true rule p rest = refl
one_of_two true false rule p rest = one false rule p rest
one_of_two false true rule p rest = one false rule p rest
one_of_two false false rule p rest = one false rule p rest

pub last_of_two : (a b : Bool) (rule : Rule) (p : Span) → first_of (all_at rule (places_if a (place_if b p)) ++ []) ≡ broken_if (a && b) rule p
last_of_two a b rule p = one_of_two a b rule p [] ∙ none_behind (broken_if (a && b) rule p)

-- a test at a place that is there
pub one_here : (a : Bool) (rule : Rule) (p : Span) (rest : List Fault) → first_of (all_at rule (places_if a (p ∷ [])) ++ rest) ≡ earlier (broken_if a rule p) (first_of rest)
one_here true rule p rest = refl
one_here false rule p rest = one false rule p rest

pub last_here : (a : Bool) (rule : Rule) (p : Span) → first_of (all_at rule (places_if a (p ∷ [])) ++ []) ≡ broken_if a rule p
last_here a rule p = one_here a rule p [] ∙ none_behind (broken_if a rule p)

-- a value that has to convert, and two
pub one_alone : (b : Bool) (rule : Rule) (p : Span) (rest : List Fault) → first_of (all_at rule (place_if b p ++ []) ++ rest) ≡ earlier (broken_if b rule p) (first_of rest)
one_alone true rule p rest = refl
one_alone false rule p rest = one false rule p rest

two_uses : (a b : Bool) (rule : Rule) (p q : Span) → first_of (all_at rule (place_if a p ++ (place_if b q ++ [])) ++ []) ≡ earlier (broken_if a rule p) (broken_if b rule q)
two_uses true true rule p q = refl
two_uses true false rule p q = refl
two_uses false true rule p q = refl
two_uses false false rule p q = refl

-- what names, arrows and words break, as tests
name_tests : (a b d : Bool) (p : Span) → first_of (all_at r.Undeclared (place_if a p) ++ (all_at r.GhostInCode (places_if b (place_if d p)) ++ [])) ≡ earlier (broken_if a r.Undeclared p) (broken_if (b && d) r.GhostInCode p)
name_tests a b d p = one a r.Undeclared p (all_at r.GhostInCode (places_if b (place_if d p)) ++ []) ∙ ap (earlier (broken_if a r.Undeclared p)) (last_of_two b d r.GhostInCode p)

result_tests : (a b : Bool) (p : Span) → first_of (all_at r.InvariantReads (places_if a (p ∷ [])) ++ (all_at r.ResultPlace (place_if b p) ++ [])) ≡ earlier (broken_if a r.InvariantReads p) (broken_if b r.ResultPlace p)
result_tests a b p = one_here a r.InvariantReads p (all_at r.ResultPlace (place_if b p) ++ []) ∙ ap (earlier (broken_if a r.InvariantReads p)) (last b r.ResultPlace p)

field_tests : (a b d f : Bool) (q p : Span) → first_of (all_at r.Undeclared (place_if a q) ++ (all_at r.Arrow (place_if b p) ++ (all_at r.GhostInCode (places_if d (place_if f q)) ++ [])))
    ≡ earlier (broken_if a r.Undeclared q) (earlier (broken_if b r.Arrow p) (broken_if (d && f) r.GhostInCode q))
field_tests a b d f q p =
    one a r.Undeclared q (all_at r.Arrow (place_if b p) ++ (all_at r.GhostInCode (places_if d (place_if f q)) ++ []))
    ∙ ap (earlier (broken_if a r.Undeclared q)) (one b r.Arrow p (all_at r.GhostInCode (places_if d (place_if f q)) ++ []) ∙ ap (earlier (broken_if b r.Arrow p)) (last_of_two d f r.GhostInCode q))

-- an arrow to a word about a status, and what else is broken there
word_tests : (a b : Bool) (p w : Span) (rest : List Fault) (o : Option Fault) → first_of rest ≡ o → first_of (all_at r.Arrow (place_if a p) ++ (all_at r.InvariantReads (places_if b (w ∷ [])) ++ rest)) ≡ earlier (broken_if a r.Arrow p) (earlier (broken_if b r.InvariantReads w) o)
word_tests a b p w rest o h =
    one a r.Arrow p (all_at r.InvariantReads (places_if b (w ∷ [])) ++ rest) ∙ ap (earlier (broken_if a r.Arrow p)) (one_here b r.InvariantReads w rest ∙ ap (earlier (broken_if b r.InvariantReads w)) h)

owns_tests : (a b d f : Bool) (p w : Span) → first_of (all_at r.Arrow (place_if a p) ++ (all_at r.QuantifierForm (places_if b (place_if d w)) ++ (all_at r.PropertyForm (places_if f (w ∷ [])) ++ [])))
    ≡ earlier (broken_if a r.Arrow p) (earlier (broken_if (b && d) r.QuantifierForm w) (broken_if f r.PropertyForm w))
owns_tests a b d f p w =
    one a r.Arrow p (all_at r.QuantifierForm (places_if b (place_if d w)) ++ (all_at r.PropertyForm (places_if f (w ∷ [])) ++ []))
    ∙ ap (earlier (broken_if a r.Arrow p)) (one_of_two b d r.QuantifierForm w (all_at r.PropertyForm (places_if f (w ∷ [])) ++ []) ∙ ap (earlier (broken_if (b && d) r.QuantifierForm w)) (last_here f r.PropertyForm w))

-- what a word about a status breaks
four : (a b d g : Bool) (q p : Span) → first_of (all_at r.Conversion (place_if a q ++ []) ++ (all_at r.InvariantReads (places_if b (p ∷ [])) ++ (all_at r.OldPlace (place_if d p) ++ (all_at r.PropertyForm (places_if g (p ∷ [])) ++ []))))
    ≡ earlier (broken_if a r.Conversion q) (earlier (broken_if b r.InvariantReads p) (earlier (broken_if d r.OldPlace p) (broken_if g r.PropertyForm p)))
four a b d g q p =
    one_alone a r.Conversion q (all_at r.InvariantReads (places_if b (p ∷ [])) ++ (all_at r.OldPlace (place_if d p) ++ (all_at r.PropertyForm (places_if g (p ∷ [])) ++ [])))
    ∙ ap (earlier (broken_if a r.Conversion q)) (one_here b r.InvariantReads p (all_at r.OldPlace (place_if d p) ++ (all_at r.PropertyForm (places_if g (p ∷ [])) ++ []))
    ∙ ap (earlier (broken_if b r.InvariantReads p)) (one d r.OldPlace p (all_at r.PropertyForm (places_if g (p ∷ [])) ++ []) ∙ ap (earlier (broken_if d r.OldPlace p)) (last_here g r.PropertyForm p)))

-- what one piece breaks that accesses nothing
pub own : (x : Piece) (o : Option Fault) → accesses x ≡ [] → first_of (faults x) ≡ o → violations (x ∷ []) ≡ breaking o
unfolding violations
own x o a h =
    made (ap first_of (append-nil (faults x)) ∙ h) (ap (λ (ps : List Span). front (ps ++ [])) a) (ap (λ (ps : List Span). further (drop 1 (ps ++ []))) a)

abbrev judged_with : Option Kind → Violations → Judged
judged_with k f = record { kind = k; violations = f }

-- an expression without parts
leaf_of : (c : Context) (x : Exp) (o : Option Fault) → expression c x ≡ Expression c x ∷ [] → accesses (Expression c x) ≡ [] → first_of (faults (Expression c x)) ≡ o → judge c x ≡ j.leaf (kind c.scope x) o
leaf_of c x o e a h = ap (judged_with (kind c.scope x)) (ap violations e ∙ own (Expression c x) o a h)

-- an expression behind its parts
whole_of : (c : Context) (x : Exp) (inner : List Piece) (f : Violations) (o : Option Fault) → expression c x ≡ part c x inner → violations inner ≡ f → accesses (Expression c x) ≡ [] → first_of (faults (Expression c x)) ≡ o
    → judge c x ≡ j.whole (kind c.scope x) f o
whole_of c x inner f o e g a h =
    ap (judged_with (kind c.scope x)) (ap violations e ∙ (found_part c x inner ∙ (ap (λ (z : Violations). joined z (violations (Expression c x ∷ []))) g ∙ ap (joined f) (own (Expression c x) o a h))))

-- ---- names and words

pub number_judged : (c : Context) (p : Span) (n : ℕ) (ty : CType) → judge c (e.Number p n ty) ≡ j.leaf (Some Integer) None
number_judged c p n ty = leaf_of c (e.Number p n ty) None refl refl refl

pub null_judged : (c : Context) (p : Span) → judge c (e.Null p) ≡ j.leaf (Some Null) None
null_judged c p = leaf_of c (e.Null p) None refl refl refl

pub name_judged : (c : Context) (x : Id) → judge c (e.Name x) ≡ j.name c x
name_judged c x = leaf_of c (e.Name x) (j.name_breaks c x) refl refl (name_tests (not (is_some (type_of_name c.scope x))) (is_code c.text) (variable_is (λ v. v.is_ghost) (find_variable c.scope x)) x.place)

pub word_judged : (c : Context) (p : Span) (x : Constant) → judge c (e.Word p x) ≡ j.word c p x
word_judged c p constants.True = leaf_of c (e.Word p constants.True) None refl refl refl
word_judged c p constants.False = leaf_of c (e.Word p constants.False) None refl refl refl
word_judged c p constants.This = leaf_of c (e.Word p constants.This) _ refl refl (last _ r.ThisPlace p)
word_judged c p constants.Me = leaf_of c (e.Word p constants.Me) _ refl refl (last_here _ r.InvariantReads p)
word_judged c p constants.Result = leaf_of c (e.Word p constants.Result) _ refl refl (result_tests (is_type_invariant c.text) (not (is_ensures c.text && is_some c.value)) p)

-- ---- brackets and arrows

pub group_judged : (c : Context) (p : Span) (x : Exp) → judge c (e.Group p x) ≡ j.whole (judge c x).kind (judge c x).violations None
group_judged c p x = whole_of c (e.Group p x) (expression c x) _ None refl refl refl refl

-- the access of an arrow
access_of : (a b : Bool) (p : Span) → front (places_if a (place_if b p) ++ []) ≡ j.access_if (a && b) p
access_of true true p = refl
access_of true false p = refl
access_of false true p = refl
access_of false false p = refl

no_further : (a b : Bool) (p : Span) → further (drop 1 (places_if a (place_if b p) ++ [])) ≡ None
no_further true true p = refl
no_further true false p = refl
no_further false true p = refl
no_further false false p = refl

own_field : (c : Context) (p : Span) (x : Exp) (y : Id) → violations (Expression c (e.Field p x y) ∷ []) ≡ put (j.field_breaks c p y (kind c.scope x)) (j.field_access c y (kind c.scope x)) None
unfolding violations
own_field c p x y =
    made (ap first_of (append-nil (faults (Expression c (e.Field p x y)))) ∙ field_tests (fails (may_have y) (kind c.scope x)) (fails is_pointer (kind c.scope x)) (is_code c.text) (field_is (λ f. f.is_ghost) (field_named c.scope (e.Field p x y))) y.place p)
    (access_of (is_code c.text) (field_is (λ f. f.is_volatile) (field_named c.scope (e.Field p x y))) y.place) (no_further (is_code c.text) (field_is (λ f. f.is_volatile) (field_named c.scope (e.Field p x y))) y.place)

field_kind : (c : Context) (y : Id) (k : Option Kind) → option_and_then (λ l. option_and_then (λ g. kind_of c.scope.items g.ty) (field_of l y)) k ≡ option_and_then (λ (g : FieldTree). kind_of c.scope.items g.ty) (j.field_found k y)
field_kind c y None = refl
field_kind c y (Some k) = refl

judged_by : {k l : Option Kind} {f g : Violations} → k ≡ l → f ≡ g → judged_with k f ≡ judged_with l g
judged_by p q = λ i. record { kind = p i; violations = q i }

pub field_judged : (c : Context) (p : Span) (x : Exp) (y : Id) → judge c (e.Field p x y) ≡ j.field c p y (judge (deeper c) x)
field_judged c p x y =
    judged_by (field_kind c y (kind c.scope x)) (found_part c (e.Field p x y) (expression (deeper c) x) ∙ ap (joined (violations (expression (deeper c) x))) (own_field c p x y))

closed_of : (q : InProperty) (x : Exp) (w : Span) → first_of (all_at r.PropertyForm (closed_held q x w) ++ []) ≡ j.closed_breaks q x w
closed_of Outside x w = refl
closed_of (Conjunct None) x w = refl
closed_of (Conjunct (Some objects)) x w = last _ r.PropertyForm (first_place x)
closed_of Below x w = refl

status_of : (c : Context) (p : Span) (x : Exp) (w : Span) (s : Status) → first_of (faults (Expression c (e.State p x w s))) ≡ earlier (broken_if (fails is_pointer (kind c.scope x)) r.Arrow p) (j.status_breaks c x w s)
status_of c p x w statuses.Closed = word_tests (fails is_pointer (kind c.scope x)) (is_type_invariant c.text) p w (all_at r.PropertyForm (closed_held c.property x w) ++ []) (j.closed_breaks c.property x w) (closed_of c.property x w)
status_of c p x w statuses.Owner = word_tests (fails is_pointer (kind c.scope x)) (is_type_invariant c.text) p w (all_at r.PropertyForm (places_if (is_property c.property) (w ∷ [])) ++ []) (broken_if (is_property c.property) r.PropertyForm w) (last_here (is_property c.property) r.PropertyForm w)
status_of c p x w statuses.ClaimCount = one (fails is_pointer (kind c.scope x)) r.Arrow p []

pub status_judged : (c : Context) (p : Span) (x : Exp) (w : Span) (s : Status) → judge c (e.State p x w s) ≡ j.status c p x w s (judge (deeper c) x)
status_judged c p x w s = whole_of c (e.State p x w s) (expression (deeper c) x) _ _ refl refl refl (status_of c p x w s)

pub owns_judged : (c : Context) (p : Span) (x : Exp) (w : Span) → judge c (e.Owns p x w) ≡ j.owns c p x w (judge (deeper c) x)
owns_judged c p x w =
    whole_of c (e.Owns p x w) (expression (deeper c) x) _ _ refl refl refl
    (owns_tests (fails is_pointer (kind c.scope x)) (is_type_invariant c.text) (not (is_this (bare x))) (is_property c.property) p w)

-- ---- operators

pub unary_judged : (c : Context) (p : Span) (o : UnaryOperator) (x : Exp) → judge c (e.Unary p o x) ≡ j.unary p o (judge (deeper c) x)
unary_judged c p o x = whole_of c (e.Unary p o x) (expression (deeper c) x) _ _ refl refl refl (last _ r.Operands p)

pub binary_judged : (c : Context) (p : Span) (o : BinaryOperator) (x y : Exp) → judge c (e.Binary p o x y) ≡ j.binary p o (judge (operand o c) x) (judge (operand o c) y)
binary_judged c p o x y = whole_of c (e.Binary p o x y) _ _ _ refl (found_append (expression (operand o c) x) (expression (operand o c) y)) refl (last _ r.Operands p)

pub conditional_judged : (c : Context) (p : Span) (x y z : Exp) → judge c (e.Conditional p x y z) ≡ j.conditional p (judge (deeper c) x) (judge (deeper c) y) (judge (deeper c) z)
conditional_judged c p x y z =
    let d = deeper c in
    whole_of c (e.Conditional p x y z) _ _ _ refl (found_append (expression d x) (expression d y ++ expression d z) ∙ ap (joined (violations (expression d x))) (found_append (expression d y) (expression d z))) refl (last _ r.Operands p)

-- ---- words with arguments

apply_of : (c : Context) (p : Span) (h : SpecFunction) (x : Exp) → first_of (faults (Expression c (e.Apply p h x))) ≡ j.apply_breaks c p h x (kind c.scope x)
apply_of c p f.Old x = last (old_is_misplaced f.Old c) r.OldPlace p ∙ sym (none_behind (broken_if (old_is_misplaced f.Old c) r.OldPlace p))
apply_of c p f.Unchanged x = last (old_is_misplaced f.Unchanged c) r.OldPlace p ∙ sym (none_behind (broken_if (old_is_misplaced f.Unchanged c) r.OldPlace p))
apply_of c p f.Fresh x = four (fail_together converts (kind c.scope x) (Some Object)) (is_type_invariant c.text) (old_is_misplaced f.Fresh c) (is_property c.property) (first_place x) p
apply_of c p f.Wrapped x = four (fail_together converts (kind c.scope x) (Some Object)) (is_type_invariant c.text) (old_is_misplaced f.Wrapped c) (is_property c.property) (first_place x) p
apply_of c p f.WrappedUnclaimed x = four (fail_together converts (kind c.scope x) (Some Object)) (is_type_invariant c.text) (old_is_misplaced f.WrappedUnclaimed c) (is_property c.property) (first_place x) p
apply_of c p f.Mutable x = four (fail_together converts (kind c.scope x) (Some Object)) (is_type_invariant c.text) (old_is_misplaced f.Mutable c) (is_property c.property) (first_place x) p

pub apply_judged : (c : Context) (p : Span) (h : SpecFunction) (x : Exp) → judge c (e.Apply p h x) ≡ j.apply c p h x (judge (argument h c) x)
apply_judged c p h x = whole_of c (e.Apply p h x) (expression (argument h c) x) _ _ refl refl refl (apply_of c p h x)

-- ---- rows

below_each : (c : Context) (xs : List Exp) → each_below c (exps_of xs) ≡ expressions c xs
below_each c [] = refl
below_each c (x ∷ xs) = ap (λ (ys : List Piece). expression c x ++ ys) (below_each c xs)

references_each : (c : Context) (xs : List Exp) → as_references c (exps_of xs) ≡ map (as_reference (deeper c)) xs
references_each c [] = refl
references_each c (x ∷ xs) = ap (λ (us : List Use). as_reference c x ∷ us) (references_each c xs)

uses_each : (w : ListWord) (c : Context) (xs : List Exp) → list_uses w c (exps_of xs) ≡ j.row_uses (j.first_wanted w) (deeper c) xs
uses_each lists.Mine c [] = refl
uses_each lists.Mine c (x ∷ xs) = ap (λ (us : List Use). as_reference c x ∷ us) (references_each c xs)
uses_each lists.ClaimsOnly c [] = refl
uses_each lists.ClaimsOnly c (x ∷ xs) = ap (λ (us : List Use). as_claim c x ∷ us) (references_each c xs)

-- what a word of several arguments breaks behind them
several_tests : (a b d f : Bool) (p : Span) → first_of (all_at r.ThisPlace (place_if (a && b) p) ++ (all_at r.PropertyForm (places_if d (place_if f p)) ++ [])) ≡ earlier (broken_if (a && b) r.ThisPlace p) (broken_if (d && f) r.PropertyForm p)
several_tests a b d f p = one (a && b) r.ThisPlace p (all_at r.PropertyForm (places_if d (place_if f p)) ++ []) ∙ ap (earlier (broken_if (a && b) r.ThisPlace p)) (last_of_two d f r.PropertyForm p)

several_of : (c : Context) (p : Span) (w : ListWord) (xs : List Exp) → first_of (faults (Expression c (e.Several p w (exps_of xs)))) ≡ earlier (j.unconverted (j.row_uses (j.first_wanted w) (deeper c) xs)) (j.several_breaks c p w)
several_of c p w xs =
    let uses = list_uses w c (exps_of xs) in
    first_append (all_at r.Conversion (flat_map (λ u. place_if (fail_together converts u.value u.wanted) u.place) uses)) _
    ∙ (ap (earlier (j.unconverted uses)) (several_tests (is_mine w) (not (is_type_invariant c.text)) (is_property c.property) (not (is_mine w)) p)
    ∙ ap (λ (us : List Use). earlier (j.unconverted us) (j.several_breaks c p w)) (uses_each w c xs))

pub several_judged : (c : Context) (p : Span) (w : ListWord) (xs : List Exp) → judge c (e.Several p w (exps_of xs)) ≡ j.several c p w (j.row (j.first_wanted w) (deeper c) xs)
several_judged c p w xs = whole_of c (e.Several p w (exps_of xs)) (each_below (deeper c) (exps_of xs)) _ _ refl (ap violations (below_each (deeper c) xs)) refl (several_of c p w xs)

pub claims_object_judged : (c : Context) (p : Span) (x y : Exp) → judge c (e.ClaimsObject p x y) ≡ j.claims_object x y (judge (deeper c) x) (judge (deeper c) y)
claims_object_judged c p x y =
    whole_of c (e.ClaimsObject p x y) _ _ _ refl (found_append (expression (deeper c) x) (expression (deeper c) y)) refl (two_uses _ _ r.Conversion (first_place x) (first_place y))

pub claims_judged : (c : Context) (p : Span) (x y : Exp) → judge c (e.Claims p x y) ≡ j.claims x (judge (deeper c) x) (judge (inside_claims c) y)
claims_judged c p x y = whole_of c (e.Claims p x y) _ _ _ refl (found_append (expression (deeper c) x) (expression (inside_claims c) y)) refl (one_alone _ r.Conversion (first_place x) [] ∙ none_behind _)

pub approves_judged : (c : Context) (p : Span) (x : Id) → judge c (e.Approves p x) ≡ j.leaf (Some Integer) (broken_if true r.ApprovalForm p)
approves_judged c p x = leaf_of c (e.Approves p x) (broken_if true r.ApprovalForm p) refl refl refl

-- ---- quantifiers

pub own_type : (items : List Item) (ty : Ty) → violations (struct_name items ty) ≡ breaking (j.type_breaks items ty)
own_type items (e.Integer ty) = found_none
own_type items (e.Pointer x) = own (StructName items x) _ refl (last _ r.Undeclared x.place)
own_type items e.Object = found_none
own_type items e.Claim = found_none

pub quantified_judged : (c : Context) (p : Span) (q : Quantifier) (ty : Ty) (n : Id) (x : Exp) → judge c (e.Quantified p q ty n x) ≡ j.quantified c p q ty n x (judge (with_quantified ty n (deeper c)) x)
quantified_judged c p q ty n x =
    let d = with_quantified ty n (deeper c) in
    whole_of c (e.Quantified p q ty n x) (struct_name c.scope.items ty ++ expression d x) _ _ refl (found_append (struct_name c.scope.items ty) (expression d x) ∙ ap (λ (z : Violations). joined z (violations (expression d x))) (own_type c.scope.items ty)) refl
    (one (not (is_of_form q n x)) r.QuantifierForm p (all_at r.PropertyForm (places_if (is_property c.property) (p ∷ [])) ++ []) ∙ ap (earlier _) (last_here (is_property c.property) r.PropertyForm p))
