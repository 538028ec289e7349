-- Each row of the grammar builds trees in form, of parts in form and tokens whose numbers are of their types.
use Rattle.std.proofs.Common.{◌≡◌, ◌⊎◌, ℕ, Bool, true, false, List, [], ◌∷◌, Option, Some, None, refl, sym, subst}
use Rattle.std.specs.Prelude.{◌&&◌, pos, int_le}
use Rattle.int_ranges.specs.Ranges.{greatest_of}
use Rattle.ebnf.specs.Rules.{below, many, nothing, by_next, by_value, chain}
use Rattle.ebnf.specs.Sets.{PartOf, RuleOf}
use Rattle.ebnf.specs.Tools.{and_left, and_right}
use Rattle.c_syntax.specs.declared.token.Sign.TheVariants as s
use Rattle.c_syntax.specs.Classes as cl
use Rattle.c_syntax.specs.Faults as fa
use Rattle.c_syntax.specs.Faults.{IsSource}
use Rattle.c_syntax.specs.declared.tree.Attribute.{Attribute}
use Rattle.c_syntax.specs.declared.tree.BinaryOperator.{BinaryOperator}
use Rattle.c_syntax.specs.declared.tree.BinaryOperator.TheVariants as op
use Rattle.c_syntax.specs.declared.tree.Constant.{Constant}
use Rattle.c_syntax.specs.declared.tree.Status.{Status}
use Rattle.c_syntax.specs.declared.tree.SpecFunction.{SpecFunction}
use Rattle.c_syntax.specs.declared.tree.ListWord.{ListWord}
use Rattle.c_syntax.specs.declared.tree.UnaryOperator.{UnaryOperator}
use Rattle.c_syntax.specs.declared.tree.Quantifier.{Quantifier}
use Rattle.c_syntax.specs.declared.tree.Condition.{Condition}
use Rattle.c_syntax.specs.Ghosts.{GStm}
use Rattle.c_syntax.specs.Items as it
use Rattle.c_syntax.specs.Items.{Clause, FunctionTree, Member, StructTree, Item}
use Rattle.c_syntax.specs.Expressions as e
use Rattle.c_syntax.specs.Expressions.{Id, Ty, Exp, Exps, Inter, Comparison, CallTree, Rhs, Assignment}
use Rattle.c_syntax.specs.Statements.{Inv, Stm}
use Rattle.c_syntax.specs.Tokens as t
use Rattle.c_syntax.specs.Tokens.{Word}
use Rattle.c_syntax.specs.Lexing.{Lexeme}
use Rattle.c_syntax.specs.declared.token.Span.{Span}
use Rattle.c_syntax.specs.Grammar as gr
use Rattle.c_syntax.specs.Grammar.{◌▷◌, Mode, Code, InSpec, Tier, Prefix, Product, Sum, Order, Equality, Conjunction, Disjunction, Choice, Implication, Equivalence, N, V, Level, Primary, Unnamed, Start, NamePlace, OtherPlace, AnyPlace, GhostName, GhostOther, SetStart, OwnedSet, SetQuantifier, SetBody, Membership, Element, InterlockedCall, Allocation, GhostArgument, Assigned, MakeClaim, GhostBody, GhostStatement, BlockOf, Statement, LoopItem, WritesOf, ClauseOf, MemberOf, ItemOf, Program, Begun, Plain, Cast, Pending, Done, Open}
use Rattle.c_syntax.specs.Language.{language}
use Rattle.object_types.specs.Sets.{every}
use Rattle.tree_forms.specs.InForm.{of_code, is_code, is_spec, are_specs, if_any, is_field, is_place, is_owned_set, in_call, in_interlocked, in_comparison, in_right, in_assignment, in_members, in_owns_effect, in_ghost_right, in_ghost, in_ghosts, in_statement, in_statements, in_member, in_item, in_form}
use Rattle.tree_forms.proofs.Fine.{Tests, Each, Known, Good, either, pair, token_is, tree_is, ends, both, use_of, word_then, tree_then, part_then, value_then, all_of, up_to, a_form, a_pick, a_chain, a_climb, found}

-- ---- tests

-- a number is of its type
abbrev pub is_typed : Word → Bool
is_typed (t.Number n ty) = int_le (pos n) (greatest_of ty)
is_typed _ = true

abbrev pub fits : Mode → Exp → Bool
fits Code x = is_code x
fits InSpec x = is_spec x

-- an owned set in an annotation
abbrev pub is_set : Exp → Bool
is_set (e.Owns p x q) = is_spec x
is_set _ = false

-- what stands left in ghost code: what is stored in, or an owned set
abbrev pub is_left : Exp → Bool
is_left (e.Owns p x q) = is_code x
is_left x = is_place x

abbrev pub begun : Begun → Bool
begun (Plain x) = is_code x
begun (Cast x) = true

abbrev pub locked : Inter × Option Comparison → Bool
locked x = in_interlocked x.0 && if_any in_comparison x.1

abbrev pub in_loop : Inv ⊎ Stm → Bool
in_loop x = either (λ i. true) in_statement x

-- the test of each nonterminal's tree
abbrev pub high : (n : N) → V n → Bool
high (Level m l) x = fits m x
high (Primary m) x = fits m x
high Unnamed x = is_code x
high Start x = begun x
high NamePlace x = is_place x
high OtherPlace x = is_field x
high AnyPlace x = is_field x
high GhostName x = is_left x
high GhostOther x = is_left x
high SetStart x = is_spec x
high OwnedSet x = is_set x
high SetQuantifier x = is_spec x
high SetBody x = is_spec x
high Membership x = is_spec x
high Element x = is_spec x
high InterlockedCall x = locked x
high Allocation x = true
high GhostArgument x = is_code x
high Assigned x = in_assignment x
high MakeClaim x = in_ghost_right x
high GhostBody x = in_ghost x
high GhostStatement x = in_ghost x
high BlockOf x = in_statements x.all
high Statement x = in_statement x
high LoopItem x = in_loop x
high WritesOf x = true
high ClauseOf x = true
high MemberOf x = in_member x
high ItemOf x = in_item x
high Program x = in_form x

abbrev pub Typed : Lexeme → Type 0
Typed x = is_typed x.word ≡ true

abbrev pub tests : Tests
tests = record { g = language; Ok = Typed; high = high }

abbrev Has : {A : Type 0} → PartOf language A → (A → Type 0) → Type 0
Has p Q = Known tests p Q

abbrev Part_is : {A : Type 0} → PartOf language A → (A → Bool) → Type 0
Part_is p v = Known tests p (λ a. v a ≡ true)

abbrev Rule_is : {A : Type 0} → RuleOf language A → (A → Bool) → Type 0
Rule_is r v = Good tests r v

-- nothing is asked of what is no expression
abbrev Any : {A : Type 0} → A → Type 0
Any x = Unit {0}

-- ---- trees

number_is : (m : Mode) (p : Span) (w : Word) → is_typed w ≡ true → fits m (gr.number_exp p w) ≡ true
number_is Code p (t.Name x) o = refl
number_is Code p (t.Key x) o = refl
number_is Code p (t.Spec x) o = refl
number_is Code p t.OtherSpec o = refl
number_is Code p (t.Number n ty) o = o
number_is Code p (t.Mark x) o = refl
number_is Code p t.End o = refl
number_is InSpec p (t.Name x) o = refl
number_is InSpec p (t.Key x) o = refl
number_is InSpec p (t.Spec x) o = refl
number_is InSpec p t.OtherSpec o = refl
number_is InSpec p (t.Number n ty) o = refl
number_is InSpec p (t.Mark x) o = refl
number_is InSpec p t.End o = refl

null_is : (m : Mode) (p : Span) → fits m (e.Null p) ≡ true
null_is Code p = refl
null_is InSpec p = refl

name_is : (m : Mode) (x : Id) → fits m (e.Name x) ≡ true
name_is Code x = refl
name_is InSpec x = refl

group_is : (m : Mode) (p : Span) (x : Exp) → fits m x ≡ true → fits m (e.Group p x) ≡ true
group_is Code p x h = h
group_is InSpec p x h = h

field_is : (m : Mode) (p : Span) (x : Exp) (y : Id) → fits m x ≡ true → fits m (e.Field p x y) ≡ true
field_is Code p x y h = h
field_is InSpec p x y h = h

unary_is : (m : Mode) (p : Span) (o : UnaryOperator) (x : Exp) → fits m x ≡ true → fits m (e.Unary p o x) ≡ true
unary_is Code p o x h = h
unary_is InSpec p o x h = h

-- an operator of the mode
abbrev allowed : Mode → BinaryOperator → Bool
allowed Code o = of_code o
allowed InSpec o = true

in_both : (m : Mode) (o : BinaryOperator) → of_code o ≡ true → allowed m o ≡ true
in_both Code o h = h
in_both InSpec o h = refl

-- an owned set stands right of no operator but `\in`
spec_binary : (p : Span) (o : BinaryOperator) (x y : Exp) → is_spec x ≡ true → is_spec y ≡ true → is_spec (e.Binary p o x y) ≡ true
spec_binary p op.In x (e.Owns r y w) h k = absurd cc
spec_binary p o x y h k = pair h k

binary_is : (m : Mode) (p : Span) (o : BinaryOperator) (x y : Exp) → allowed m o ≡ true → fits m x ≡ true → fits m y ≡ true → fits m (e.Binary p o x y) ≡ true
binary_is Code p o x y a h k = pair a (pair h k)
binary_is InSpec p o x y a h k = spec_binary p o x y h k

in_is : (p : Span) (x y : Exp) → is_spec x ≡ true → is_set y ≡ true → is_spec (e.Binary p op.In x y) ≡ true
in_is p x (e.Owns r y w) h k = pair h k
in_is p x y h k = absurd cc

conditional_is : (m : Mode) (p : Span) (x y z : Exp) → fits m x ≡ true → fits m y ≡ true → fits m z ≡ true → fits m (e.Conditional p x y z) ≡ true
conditional_is Code p x y z h k l = pair h (pair k l)
conditional_is InSpec p x y z h k l = pair h (pair k l)

exps_are : (xs : List Exp) → every is_spec xs ≡ true → are_specs (gr.exps_of xs) ≡ true
exps_are [] h = refl
exps_are (x ∷ xs) h = pair (and_left (is_spec x) _ h) (exps_are xs (and_right (is_spec x) _ h))

stms_are : (xs : List Stm) → every in_statement xs ≡ true → in_statements (gr.stms_of xs) ≡ true
stms_are [] h = refl
stms_are (x ∷ xs) h = pair (and_left (in_statement x) _ h) (stms_are xs (and_right (in_statement x) _ h))

ghosts_are : (xs : List GStm) → every in_ghost xs ≡ true → in_ghosts (gr.ghosts_of xs) ≡ true
ghosts_are [] h = refl
ghosts_are (x ∷ xs) h = pair (and_left (in_ghost x) _ h) (ghosts_are xs (and_right (in_ghost x) _ h))

-- a field is an expression of code, and may be stored in
field_code : (x : Exp) → is_field x ≡ true → is_code x ≡ true
field_code (e.Field p x y) h = h
field_code x h = absurd cc

field_place : (x : Exp) → is_field x ≡ true → is_place x ≡ true
field_place (e.Name x) h = refl
field_place x h = h

place_code : (x : Exp) → is_place x ≡ true → is_code x ≡ true
place_code (e.Name x) h = refl
place_code (e.Field p x y) h = h
place_code x h = absurd cc

place_left : (x : Exp) → is_place x ≡ true → is_left x ≡ true
place_left (e.Owns p x q) h = absurd cc
place_left x h = h

left_code : (x : Exp) → gr.is_no_owns x ≡ true → is_left x ≡ true → is_code x ≡ true
left_code (e.Owns p x q) t h = absurd cc
left_code x t h = place_code x h

left_place : (x : Exp) → gr.is_owns x ≡ false → is_left x ≡ true → is_place x ≡ true
left_place (e.Owns p x q) t h = absurd cc
left_place x t h = h

left_owned : (x : Exp) → gr.is_owns x ≡ true → is_left x ≡ true → is_owned_set x ≡ true
left_owned (e.Owns p x q) t h = h
left_owned x t h = absurd cc

-- ---- parts that recur

tree : (n : N) → Has (below n (λ x. x)) (λ x. high n x ≡ true)
tree n = tree_is (λ x d. d)

many_is : {A : Type 0} {p : PartOf language A} {v : A → Bool} → Part_is p v → Part_is (many p (λ xs. xs)) (every v)
many_is {v = v} k = all_of v k (λ xs d. d)

list_is : {A : Type 0} {p : PartOf language A} {v : A → Bool} → Part_is p v → Part_is (gr.list p) (every v)
list_is {v = v} k = part_then k (λ x d. part_then (many_is {v = v} (word_then (λ c. part_then k (λ y h. ends h)))) (λ ys h. ends (pair d h)))

list_or_none_is : {A : Type 0} {p : PartOf language A} {v : A → Bool} → Part_is p v → Part_is (gr.list_or_none p) (every v)
list_or_none_is k = both (list_is k) (ends refl)

optional_is : {A : Type 0} {p : PartOf language A} {v : A → Bool} → Part_is p v → Part_is (gr.optional p) (if_any v)
optional_is k = both (part_then k (λ x d. ends d)) (ends refl)

inside_is : {A : Type 0} {p : PartOf language A} {v : A → Bool} → Part_is p v → Part_is (gr.inside p) v
inside_is k = word_then (λ o. part_then k (λ x d. word_then (λ c. ends d)))

word_or_none : (class : ℕ) → Has (gr.optional (gr.word class)) Any
word_or_none class = both (word_then (λ o. ends tt)) (ends tt)

flag : (class : ℕ) → Has (gr.flag class) Any
flag class = both (token_is (λ x o. tt)) (ends tt)

code : Part_is gr.code is_code
code = tree (Level Code Choice)

whole_spec : Part_is gr.whole_spec is_spec
whole_spec = tree (Level InSpec Equivalence)

spec_exp : Part_is gr.spec_exp is_spec
spec_exp = tree (Level InSpec Choice)

-- ---- types

unsigned_behind : Has gr.unsigned_behind Any
unsigned_behind = both (word_then (λ a. word_then (λ b. part_then (word_or_none _) (λ x d. ends tt)))) (part_then (word_or_none _) (λ x d. ends tt))

int_type : Has gr.int_type Any
int_type = both (token_is (λ x o. tt)) (both (word_then (λ a. word_then (λ b. part_then (word_or_none _) (λ x d. ends tt)))) (word_then (λ a. part_then unsigned_behind (λ x d. ends tt))))

struct_pointer : Has gr.struct_pointer Any
struct_pointer = word_then (λ a. word_then (λ n. word_then (λ s. ends tt)))

ctype : Has gr.ctype Any
ctype = both int_type (part_then struct_pointer (λ x d. ends tt))

gtype : Has gr.gtype Any
gtype = both ctype (both (token_is (λ x o. tt)) (token_is (λ x o. tt)))

-- ---- primaries

number : (m : Mode) → Rule_is gr.number (fits m)
number m = a_form (token_is (λ x o. number_is m x.place x.word o))

null : (m : Mode) → Rule_is gr.null (fits m)
null m = a_form (token_is (λ x o. null_is m x.place))

named : (m : Mode) → Rule_is gr.named (fits m)
named m = a_form (token_is (λ x o. name_is m (gr.id_of x)))

in_brackets : (m : Mode) → Part_is (gr.in_brackets m) (fits m)
in_brackets Code = code
in_brackets InSpec = whole_spec

group : (m : Mode) → Rule_is (gr.group m) (fits m)
group m = a_form (word_then (λ o. part_then (in_brackets m) (λ x d. word_then (λ c. ends (group_is m o.place x d)))))

constant : (class : ℕ) (x : Constant) → Rule_is (gr.constant class x) is_spec
constant class x = a_form (token_is (λ y o. refl))

apply : {p : PartOf language Exp} (class : ℕ) (h : SpecFunction) → Part_is p is_spec → Rule_is (gr.apply class h p) is_spec
apply class h k = a_form (word_then (λ o. part_then (inside_is k) (λ x d. ends d)))

several : (class : ℕ) (w : ListWord) → Rule_is (gr.several class w) is_spec
several class w = a_form (word_then (λ o. part_then (inside_is (list_is {v = is_spec} spec_exp)) (λ xs d. ends (exps_are xs d))))

this_owner : Has gr.this_owner Any
this_owner = word_then (λ o. word_then (λ a. word_then (λ t. ends tt)))

spec_word : Rule_is gr.spec_word is_spec
spec_word =
    a_pick (constant _ _) (a_pick (constant _ _) (a_pick (constant _ _) (a_pick (constant _ _) (a_pick (constant _ _)
    (a_pick (apply _ _ whole_spec) (a_pick (apply _ _ whole_spec) (a_pick (apply _ _ spec_exp) (a_pick (apply _ _ spec_exp) (a_pick (apply _ _ spec_exp) (a_pick (apply _ _ spec_exp)
    (a_pick (several _ _) (a_pick (several _ _)
    (a_pick (a_form (word_then (λ o. word_then (λ a. part_then spec_exp (λ x d. word_then (λ c. part_then spec_exp (λ y h. word_then (λ b. ends (pair d h)))))))))
    (a_pick (a_form (word_then (λ o. word_then (λ a. part_then spec_exp (λ x d. word_then (λ c. part_then whole_spec (λ y h. word_then (λ b. ends (pair d h)))))))))
    (a_form (word_then (λ o. word_then (λ a. part_then this_owner (λ x d. word_then (λ m. word_then (λ n. word_then (λ c. ends refl))))))))))))))))))))))

quantified : (class : ℕ) (q : Quantifier) → Rule_is (gr.quantified class q) is_spec
quantified class q = a_form (word_then (λ o. part_then gtype (λ ty i. word_then (λ n. word_then (λ m. part_then whole_spec (λ x d. ends d))))))

unnamed : (m : Mode) → Rule_is (gr.unnamed m) (fits m)
unnamed m = a_pick (number m) (a_pick (null m) (group m))

primary : (m : Mode) → Rule_is (gr.primary m) (fits m)
primary Code = a_pick (named Code) (unnamed Code)
primary InSpec = a_pick (named InSpec) (a_pick (unnamed InSpec) (a_pick spec_word (a_pick (quantified _ _) (quantified _ _))))

-- ---- behind an arrow

abbrev Suffix : Mode → (Span → Exp → Exp) → Type 0
Suffix m h = (o : Span) (x : Exp) → fits m x ≡ true → fits m (h o x) ≡ true

field : (m : Mode) → Has gr.field (Suffix m)
field m = word_then (λ n. ends (λ o x d. field_is m o x (gr.id_of n) d))

status : (class : ℕ) (x : Status) → Has (gr.status class x) (Suffix InSpec)
status class s = token_is (λ y u o x d. d)

suffix : (m : Mode) → Has (gr.suffix m) (Suffix m)
suffix Code = field Code
suffix InSpec = both (field InSpec) (both (status _ _) (both (status _ _) (status _ _)))

-- ---- levels

module _ {A : Type 0} (m : Mode) (plain : Exp → A) (over : (Exp → Exp) → A → A) (goes : A → Bool) (v : A → Bool) (plain_is : (x : Exp) → v (plain x) ≡ fits m x)
    (over_is : (h : Exp → Exp) (a : A) → goes a ≡ true → ((x : Exp) → fits m x ≡ true → fits m (h x) ≡ true) → v a ≡ true → v (over h a) ≡ true) where
  abbrev Link : (A → A) → Type 0
  Link h = (a : A) → goes a ≡ true → v a ≡ true → v (h a) ≡ true

  -- of an operator of the mode
  operator : (class : ℕ) (o : BinaryOperator) (following : Tier) → allowed m o ≡ true → Has (gr.operator m plain over goes class o following) Link
  operator class o following u = word_then (λ p. tree_then (λ r d. ends (λ a t q. over_is (λ x. e.Binary p.place o x r) a t (λ x w. binary_is m p.place o x r u w d) q)))

  -- of one of both modes
  plainly : (class : ℕ) (o : BinaryOperator) (following : Tier) → of_code o ≡ true → Has (gr.operator m plain over goes class o following) Link
  plainly class o following u = operator class o following (in_both m o u)

  postfixed : {l : RuleOf language A} → Rule_is l v → Rule_is (gr.postfixed m plain over goes l) v
  postfixed k = a_chain k (word_then (λ o. part_then (suffix m) (λ h s. ends (λ a t q. over_is (h o.place) a t (s o.place) q))))

  prefixed : {l : RuleOf language A} → Rule_is l v → Rule_is (gr.prefixed m plain over goes l) v
  prefixed k =
      a_pick (a_form (word_then (λ o. tree_then (λ x d. ends (fine_plain _ (unary_is m o.place _ x d)))))) (a_pick (a_form (word_then (λ o. tree_then (λ x d. ends (fine_plain _ (unary_is m o.place _ x d)))))) (postfixed k))
    where
      fine_plain : (x : Exp) → fits m x ≡ true → v (plain x) ≡ true
      fine_plain x d = subst (λ b. b ≡ true) (sym (plain_is x)) d

  products : {l : RuleOf language A} → Rule_is l v → Rule_is (gr.products m plain over goes l) v
  products k = a_chain (prefixed k) (both (plainly _ _ _ refl) (both (plainly _ _ _ refl) (plainly _ _ _ refl)))

  sums : {l : RuleOf language A} → Rule_is l v → Rule_is (gr.sums m plain over goes l) v
  sums k = a_chain (products k) (both (plainly _ _ _ refl) (plainly _ _ _ refl))

  compares : Has (gr.compares m plain over goes) Link
  compares = both (plainly _ _ _ refl) (both (plainly _ _ _ refl) (both (plainly _ _ _ refl) (plainly _ _ _ refl)))

  order_of : (n : Mode) → n ≡ m → Has (gr.order_of m plain over goes n) Link
  order_of Code u = compares
  order_of InSpec u =
      both compares (word_then (λ p. tree_then (λ r d. ends (λ a t q. over_is (λ x. e.Binary p.place op.In x r) a t (subst (λ n. (x : Exp) → fits n x ≡ true → fits n (e.Binary p.place op.In x r) ≡ true) u (λ x w. in_is p.place x r w d)) q))))

  orders : {l : RuleOf language A} → Rule_is l v → Rule_is (gr.orders m plain over goes l) v
  orders k = a_chain (sums k) (order_of m refl)

  equalities : {l : RuleOf language A} → Rule_is l v → Rule_is (gr.equalities m plain over goes l) v
  equalities k = a_chain (orders k) (both (plainly _ _ _ refl) (plainly _ _ _ refl))

  conjunctions : {l : RuleOf language A} → Rule_is l v → Rule_is (gr.conjunctions m plain over goes l) v
  conjunctions k = a_chain (equalities k) (plainly _ _ _ refl)

  disjunctions : {l : RuleOf language A} → Rule_is l v → Rule_is (gr.disjunctions m plain over goes l) v
  disjunctions k = a_chain (conjunctions k) (plainly _ _ _ refl)

  choices : {l : RuleOf language A} → Rule_is l v → Rule_is (gr.choices m plain over goes l) v
  choices k =
      a_chain (disjunctions k) (word_then (λ o. tree_then (λ y d. word_then (λ c. tree_then (λ z h. ends (λ a t q. over_is (λ x. e.Conditional o.place x y z) a t (λ x w. conditional_is m o.place x y z w d h) q))))))

  implications : {l : RuleOf language A} → allowed m op.Implies ≡ true → Rule_is l v → Rule_is (gr.implications m plain over goes l) v
  implications u k = a_chain (choices k) (operator _ _ _ u)

  equivalences : {l : RuleOf language A} → allowed m op.Implies ≡ true → allowed m op.Equivalent ≡ true → Rule_is l v → Rule_is (gr.equivalences m plain over goes l) v
  equivalences u w k = a_chain (implications u k) (operator _ _ _ w)

same_is : (m : Mode) (x : Exp) → fits m (gr.same x) ≡ fits m x
same_is m x = refl

change_is : (m : Mode) (h : Exp → Exp) (a : Exp) → gr.always a ≡ true → ((x : Exp) → fits m x ≡ true → fits m (h x) ≡ true) → fits m a ≡ true → fits m (gr.change h a) ≡ true
change_is m h a t s q = s a q

level : (m : Mode) (l : Tier) → Rule_is (gr.level m l) (fits m)
level m Prefix = prefixed m gr.same gr.change gr.always (fits m) (same_is m) (change_is m) (primary m)
level m Product = products m gr.same gr.change gr.always (fits m) (same_is m) (change_is m) (primary m)
level m Sum = sums m gr.same gr.change gr.always (fits m) (same_is m) (change_is m) (primary m)
level m Order = orders m gr.same gr.change gr.always (fits m) (same_is m) (change_is m) (primary m)
level m Equality = equalities m gr.same gr.change gr.always (fits m) (same_is m) (change_is m) (primary m)
level m Conjunction = conjunctions m gr.same gr.change gr.always (fits m) (same_is m) (change_is m) (primary m)
level m Disjunction = disjunctions m gr.same gr.change gr.always (fits m) (same_is m) (change_is m) (primary m)
level m Choice = choices m gr.same gr.change gr.always (fits m) (same_is m) (change_is m) (primary m)
level Code Implication = choices Code gr.same gr.change gr.always is_code (same_is Code) (change_is Code) (primary Code)
level InSpec Implication = implications InSpec gr.same gr.change gr.always is_spec (same_is InSpec) (change_is InSpec) refl (primary InSpec)
level Code Equivalence = choices Code gr.same gr.change gr.always is_code (same_is Code) (change_is Code) (primary Code)
level InSpec Equivalence = equivalences InSpec gr.same gr.change gr.always is_spec (same_is InSpec) (change_is InSpec) refl refl (primary InSpec)

-- ---- left sides

-- makes of an expression with the first test one with the second
abbrev Makes : (Exp → Bool) → (Exp → Bool) → (Exp → Exp) → Type 0
Makes v w h = (x : Exp) → v x ≡ true → w (h x) ≡ true

-- what stands behind an arrow, of code
abbrev Following : (Exp → Bool) → (Span → Exp → Exp) → Type 0
Following w h = (o : Span) (x : Exp) → is_code x ≡ true → w (h o x) ≡ true

a_field : Has gr.field (Following is_field)
a_field = word_then (λ n. ends (λ o x d. d))

arrow : Has gr.arrow (Makes is_code is_field)
arrow = word_then (λ o. part_then a_field (λ h s. ends (s o.place)))

after_arrow : {p : PartOf language (Exp → Exp)} {q : PartOf language Exp} {v w : Exp → Bool} → Has p (Makes v w) → Part_is q v → Rule_is (gr.after_arrow q p) w
after_arrow k l = a_form (part_then l (λ x d. part_then k (λ h s. ends (s x d))))

further : {p : PartOf language (Exp → Exp)} {s : RuleOf language Exp} {goes v w : Exp → Bool} → ((x : Exp) → goes x ≡ true → w x ≡ true → v x ≡ true) → Has p (Makes v w) → Rule_is s w → Rule_is (chain s goes p gr.apply_to) w
further u k r = a_chain r (use_of k (λ h s a t q. s a (u a t q)))

name_place : Rule_is gr.name_place is_place
name_place = further (λ x t q. place_code x q) (use_of arrow (λ h s x d. field_place (h x) (s x d))) (a_form (token_is (λ x o. refl)))

other_place : Rule_is gr.other_place is_field
other_place = further (λ x t q. field_code x q) arrow (after_arrow arrow (tree Unnamed))

any_place : Rule_is gr.any_place is_field
any_place = further (λ x t q. field_code x q) arrow (after_arrow arrow (tree (Primary Code)))

field_left : (x : Exp) → is_field x ≡ true → is_left x ≡ true
field_left x h = place_left x (field_place x h)

left_field : Has gr.field (Following is_left)
left_field = use_of a_field (λ h s o x d. field_left (h o x) (s o x d))

left_owns : Has gr.owns (Following is_left)
left_owns = token_is (λ y u o x d. d)

ghost_arrow : Has gr.ghost_arrow (Makes is_code is_left)
ghost_arrow = word_then (λ o. part_then {R = Following is_left} (both left_field left_owns) (λ h s. ends (s o.place)))

ghost_name : Rule_is gr.ghost_name is_left
ghost_name = further left_code ghost_arrow (a_form (token_is (λ x o. refl)))

ghost_other : Rule_is gr.ghost_other is_left
ghost_other = further left_code ghost_arrow (after_arrow ghost_arrow (tree Unnamed))

-- ---- what stands right of `\in`

set_primary : Rule_is gr.set_primary is_spec
set_primary = a_pick (named InSpec) (a_pick (unnamed InSpec) spec_word)

set_quantified : (class : ℕ) (q : Quantifier) → Rule_is (gr.set_quantified class q) is_spec
set_quantified class q = a_form (word_then (λ o. part_then gtype (λ ty i. word_then (λ n. word_then (λ m. part_then (tree SetBody) (λ x d. ends d))))))

set_quantifier : Rule_is gr.set_quantifier is_spec
set_quantifier = a_pick (set_quantified _ _) (set_quantified _ _)

set_start : Rule_is gr.set_start is_spec
set_start = a_pick set_primary set_quantifier

spec_arrow : Has gr.spec_arrow (Makes is_spec is_spec)
spec_arrow = word_then (λ o. part_then (suffix InSpec) (λ h s. ends (s o.place)))

set_element : Rule_is gr.element is_spec
set_element = further (λ x t q. q) spec_arrow (a_pick set_primary (after_arrow spec_arrow (tree SetQuantifier)))

in_set : Has gr.in_set (Makes is_spec is_spec)
in_set = word_then (λ o. tree_then (λ r d. ends (λ x u. in_is o.place x r u d)))

and_membership : Has gr.and_membership (Makes is_spec is_spec)
and_membership = word_then (λ o. tree_then (λ r d. ends (λ x u. spec_binary o.place op.And x r u d)))

implies_body : Has gr.implies_body (Makes is_spec is_spec)
implies_body = word_then (λ o. tree_then (λ r d. ends (λ x u. spec_binary o.place op.Implies x r u d)))

memberships : Rule_is gr.memberships is_spec
memberships = further (λ x t q. q) in_set (after_arrow in_set (tree Element))

set_body : Rule_is gr.set_body is_spec
set_body = further (λ x t q. q) implies_body (further (λ x t q. q) and_membership memberships)

spec_owns : Has gr.owns (λ h. (o : Span) (x : Exp) → is_spec x ≡ true → is_set (h o x) ≡ true)
spec_owns = token_is (λ y u o x d. d)

owned_set : Rule_is gr.owned_set is_set
owned_set = a_climb is_spec (tree SetStart) (part_then (suffix InSpec) (λ h s. ends (λ x a q. s x.place a q))) (part_then spec_owns (λ h s. ends (λ x a q. s x.place a q)))

-- ---- calls

size_of : Has gr.size_of Any
size_of = word_then (λ a. word_then (λ b. word_then (λ c. word_then (λ d. word_then (λ x. word_then (λ z. word_then (λ u. ends tt)))))))

allocation : Rule_is gr.allocation (λ x. true)
allocation = a_form (word_then (λ m. part_then size_of (λ h d. ends refl)))

ghost_arguments : Part_is gr.ghost_arguments (every is_code)
ghost_arguments = many_is {v = is_code} (tree GhostArgument)

call_tail : Has gr.call_tail (λ h. (n : Id) → in_call (h n) ≡ true)
call_tail = word_then (λ o. part_then (list_or_none_is {v = is_code} code) (λ xs d. part_then ghost_arguments (λ gs h. word_then (λ c. ends (λ n. pair d h)))))

ghost_argument : Rule_is gr.ghost_argument is_code
ghost_argument = a_form (word_then (λ a. word_then (λ b. part_then code (λ x d. word_then (λ c. ends d)))))

locked_word : Has gr.locked_word Any
locked_word = both (token_is (λ x o. tt)) (both (token_is (λ x o. tt)) (both (token_is (λ x o. tt)) (token_is (λ x o. tt))))

comparison : Part_is gr.comparison in_comparison
comparison = both (word_then (λ o. part_then code (λ x d. ends d))) (word_then (λ o. part_then code (λ x d. ends d)))

interlocked_call : Rule_is gr.interlocked_call locked
interlocked_call =
    a_chain
    (a_form (part_then locked_word (λ w i. word_then (λ o. word_then (λ a. tree_then (λ x d. part_then (many_is {v = is_code} (word_then (λ m. part_then code (λ y k. ends k)))) (λ xs h. word_then (λ c. ends (pair (pair d h) refl)))))))))
    (use_of comparison (λ c s a t q. pair (and_left (in_interlocked a.0) _ q) s))

-- ---- right sides

begun_over : (h : Exp → Exp) (a : Begun) → gr.is_plain a ≡ true → ((x : Exp) → is_code x ≡ true → is_code (h x) ≡ true) → begun a ≡ true → begun (gr.over_begun h a) ≡ true
begun_over h (Plain x) t s q = s x q
begun_over h (Cast x) t s q = refl

cast_or_group : Has gr.cast_or_group (λ h. (o : Span) → begun (h o) ≡ true)
cast_or_group = both (part_then struct_pointer (λ x d. word_then (λ c. ends (λ o. refl)))) (part_then code (λ x d. word_then (λ c. ends (λ o. d))))

start_primary : Rule_is gr.start_primary begun
start_primary =
    a_pick (a_form (token_is (λ x o. refl))) (a_pick (a_form (token_is (λ x o. number_is Code x.place x.word o))) (a_pick (a_form (token_is (λ x o. refl))) (a_form (word_then (λ o. part_then cast_or_group (λ h s. ends (s o.place)))))))

start : Rule_is gr.start begun
start = choices Code (λ x. Plain x) gr.over_begun gr.is_plain begun (λ x. refl) begun_over start_primary

abbrev pending : Pending → Bool
pending (Done x) = in_right x
pending (Open x) = is_code x

no_cast : (b : Begun) → gr.is_cast b ≡ false → begun b ≡ true → is_code (gr.plain_of b) ≡ true
no_cast (Plain x) t h = h
no_cast (Cast x) t h = refl

cast_done : Part_is gr.cast_done pending
cast_done = value_then (tree Start) (λ b d t. word_then (λ m. part_then size_of (λ h s. ends refl))) (λ b d t. ends (no_cast b t d))

done_is : (x : Pending) → pending x ≡ true → in_right (gr.done x) ≡ true
done_is (Done x) h = h
done_is (Open x) h = h

rhs : Part_is gr.rhs in_right
rhs =
    both (tree_is (λ x d. refl)) (both (tree_is (λ x d. d))
    (value_then cast_done (λ x d t. both (part_then call_tail (λ h s. ends (s (gr.callee x)))) (ends (done_is x d))) (λ x d t. ends (done_is x d))))

abbrev Changes : (Exp → Assignment) → Type 0
Changes h = (l : Exp) → is_place l ≡ true → in_assignment (h l) ≡ true

assignment_tail : Has gr.assignment_tail Changes
assignment_tail =
    both (word_then (λ o. part_then rhs (λ x d. ends (λ l u. pair u d)))) (both (word_then (λ o. part_then code (λ x d. ends (λ l u. pair u d))))
    (both (word_then (λ o. part_then code (λ x d. ends (λ l u. pair u d)))) (both (token_is (λ x o l u. pair u refl)) (token_is (λ x o l u. pair u refl)))))

assigned : Rule_is gr.assigned in_assignment
assigned = a_pick (a_form (tree_then (λ l d. part_then assignment_tail (λ h s. ends (s l d))))) (a_form (tree_then (λ l d. part_then assignment_tail (λ h s. ends (s l (field_place l d))))))

-- ---- ghost statements

set : Part_is gr.set (every is_code)
set = word_then (λ o. part_then (list_or_none_is {v = is_code} code) (λ xs d. word_then (λ c. ends d)))

members : Part_is gr.members in_members
members = both (part_then set (λ xs d. ends d)) (part_then code (λ x d. ends d))

make_claim : Rule_is gr.make_claim in_ghost_right
make_claim = a_form (word_then (λ p. word_then (λ o. part_then set (λ xs d. word_then (λ m. part_then whole_spec (λ x h. word_then (λ c. ends (pair d h))))))))

ghost_rhs : Part_is gr.ghost_rhs in_ghost_right
ghost_rhs = both (tree MakeClaim) (part_then code (λ x d. ends d))

semicolon_or_none : Has gr.semicolon_or_none Any
semicolon_or_none = word_or_none _

-- makes a ghost statement of what the test holds of
abbrev Changes_ghost : (Exp → Bool) → (Exp → GStm) → Type 0
Changes_ghost v h = (l : Exp) → v l ≡ true → in_ghost (h l) ≡ true

ghost_set : Has gr.ghost_set (Changes_ghost is_place)
ghost_set = word_then (λ o. part_then ghost_rhs (λ x d. part_then semicolon_or_none (λ z i. ends (λ l u. pair u d))))

owns_change : Has gr.owns_change (λ x. in_owns_effect x.1 ≡ true)
owns_change = both (word_then (λ o. part_then set (λ x d. ends d))) (both (word_then (λ o. part_then members (λ x d. ends d))) (word_then (λ o. part_then members (λ x d. ends d))))

owns_set : Has gr.owns_set (Changes_ghost is_owned_set)
owns_set = part_then owns_change (λ x d. part_then semicolon_or_none (λ z i. ends (λ l u. pair u d)))

ghost_if_is : (p : Span) (x : Exp) (a : GStm) (b : Option GStm) → is_code x ≡ true → in_ghost a ≡ true → if_any in_ghost b ≡ true → in_ghost (gr.ghost_if p x a b) ≡ true
ghost_if_is p x a None h k l = pair h k
ghost_if_is p x a (Some b) h k l = pair h (pair k l)

ghost_first : Part_is gr.ghost_first in_ghost_right
ghost_first = word_then (λ o. part_then ghost_rhs (λ x d. ends d))

ghost_wrap : Has gr.ghost_wrap (λ h. (p : Span) → in_ghost (h p) ≡ true)
ghost_wrap = both (word_then (λ o. part_then code (λ x d. ends (λ p. d)))) (word_then (λ o. part_then code (λ x d. ends (λ p. d))))

ghost_else : Part_is gr.ghost_else in_ghost
ghost_else = word_then (λ o. part_then (tree GhostBody) (λ x d. ends d))

-- a change of what stands left, which is an owned set or what is stored in
ghost_change : {p : PartOf language Exp} → Part_is p is_left → Part_is (by_value p gr.is_owns gr.owns_set gr.ghost_set) in_ghost
ghost_change k = value_then k (λ l d t. use_of owns_set (λ h s. s l (left_owned l t d))) (λ l d t. use_of ghost_set (λ h s. s l (left_place l t d)))

ghost_statement : Rule_is gr.ghost_statement in_ghost
ghost_statement =
    a_pick (a_form (part_then gtype (λ ty i. word_then (λ n. part_then (optional_is {v = in_ghost_right} ghost_first) (λ x d. part_then semicolon_or_none (λ z j. ends d))))))
    (a_pick (a_form (ghost_change (tree GhostName))) (a_pick (a_form (ghost_change (tree GhostOther)))
    (a_pick (a_form (word_then (λ p. word_then (λ o. part_then code (λ x d. word_then (λ m. part_then set (λ xs h. word_then (λ c. part_then semicolon_or_none (λ z i. ends (pair d h))))))))))
    (a_pick (a_form (word_then (λ p. part_then ghost_wrap (λ h s. word_then (λ c. part_then semicolon_or_none (λ z i. ends (s p.place)))))))
    (a_form (word_then (λ p. part_then (inside_is code) (λ x d. part_then (tree GhostBody) (λ a h. part_then (optional_is {v = in_ghost} ghost_else) (λ b k. part_then semicolon_or_none (λ z i. ends (ghost_if_is p.place x a b d h k))))))))))))

ghost_body : Rule_is gr.ghost_body in_ghost
ghost_body = a_pick (a_form (word_then (λ o. part_then (many_is {v = in_ghost} (tree GhostStatement)) (λ xs d. word_then (λ c. ends (ghosts_are xs d)))))) ghost_statement

-- ---- statements

some_statements : Part_is (many (below Statement (λ x. x)) (λ xs. xs)) (every in_statement)
some_statements = many_is {v = in_statement} (tree Statement)

block_of : Rule_is gr.block_of (λ x. in_statements x.all)
block_of = a_form (word_then (λ o. part_then some_statements (λ xs d. word_then (λ c. ends (stms_are xs d)))))

first_value : Part_is gr.first_value in_right
first_value = word_then (λ o. part_then rhs (λ x d. ends d))

abbrev Ends_statement : (Exp → Stm) → Type 0
Ends_statement h = (l : Exp) → is_place l ≡ true → in_statement (h l) ≡ true

assign_statement : Has gr.assign_statement Ends_statement
assign_statement = part_then assignment_tail (λ h s. word_then (λ c. ends s))

call_statement : Has gr.call_statement Ends_statement
call_statement = part_then call_tail (λ h s. word_then (λ c. ends (λ l u. s (gr.name_of l))))

if_is : (p : Span) (x : Exp) (a : Stm) (b : Option Stm) → is_code x ≡ true → in_statement a ≡ true → if_any in_statement b ≡ true → in_statement (gr.if_of p x a b) ≡ true
if_is p x a None h k l = pair h k
if_is p x a (Some b) h k l = pair h (pair k l)

else_part : Part_is gr.else_part in_statement
else_part = word_then (λ o. part_then (tree Statement) (λ x d. ends d))

loop_body : Has gr.loop_body (λ b. in_statement b.1 ≡ true)
loop_body = up_to (λ x. true) in_statement (tree LoopItem) (λ xs x d h. h)

spawn_arguments : Has {A = List Exp × List Exp} (by_next (gr.word (cl.sign s.Comma) ▷ gr.list_or_none gr.code ▷ gr.ghost_arguments ▷ nothing (λ gs xs c. (xs, gs))) (nothing ([], []))) (λ x. (every is_code x.0 && every is_code x.1) ≡ true)
spawn_arguments = both (word_then (λ c. part_then (list_or_none_is {v = is_code} code) (λ xs d. part_then ghost_arguments (λ gs h. ends (pair d h))))) (ends refl)

name_statement : Part_is (by_value (below NamePlace (λ x. x)) gr.is_name (by_next gr.call_statement gr.assign_statement) gr.assign_statement) in_statement
name_statement = value_then (tree NamePlace) (λ l d t. both (use_of call_statement (λ h s. s l d)) (use_of assign_statement (λ h s. s l d))) (λ l d t. use_of assign_statement (λ h s. s l d))

module _ {A : Type 0} (wrap : Stm → A) (v : A → Bool) (wrap_is : (x : Stm) → in_statement x ≡ true → v (wrap x) ≡ true) where
  loops : Rule_is (gr.loops wrap) v
  loops =
      a_pick (a_form (word_then (λ p. part_then (inside_is code) (λ x d. part_then loop_body (λ b h. ends (wrap_is _ (pair d h)))))))
      (a_pick (a_form (word_then (λ p. part_then loop_body (λ b d. word_then (λ q. part_then (inside_is code) (λ x h. word_then (λ c. ends (wrap_is _ (pair d h)))))))))
      (a_form (word_then (λ p. word_then (λ o. part_then (optional_is {v = in_assignment} (tree Assigned)) (λ x d. word_then (λ n. part_then code (λ y h. word_then (λ m. part_then (optional_is {v = in_assignment} (tree Assigned)) (λ z k. word_then (λ c. part_then loop_body (λ b l. ends (wrap_is _ (pair d (pair h (pair k l))))))))))))))))

  calls : Rule_is (gr.calls wrap) v
  calls =
      a_pick (a_form (word_then (λ p. part_then (optional_is {v = is_code} code) (λ x d. word_then (λ c. ends (wrap_is _ d))))))
      (a_pick (a_form (word_then (λ p. word_then (λ o. word_then (λ n. part_then spawn_arguments (λ xs d. word_then (λ c. word_then (λ z. ends (wrap_is _ d)))))))))
      (a_form (word_then (λ p. part_then (inside_is code) (λ x d. word_then (λ c. ends (wrap_is _ d)))))))

  simple : Rule_is (gr.simple wrap) v
  simple =
      a_pick (a_form (word_then (λ o. part_then some_statements (λ xs d. word_then (λ c. ends (wrap_is _ (stms_are xs d)))))))
      (a_pick (a_form (token_is (λ x o. wrap_is _ refl)))
      (a_pick (a_form (part_then ctype (λ ty i. word_then (λ n. part_then (optional_is {v = in_right} first_value) (λ x d. word_then (λ c. ends (wrap_is _ d)))))))
      (a_pick (a_form (part_then name_statement (λ x d. ends (wrap_is _ d))))
      (a_pick (a_form (tree_then (λ l d. part_then assign_statement (λ h s. ends (wrap_is _ (s l (field_place l d)))))))
      (a_pick (a_form (word_then (λ p. part_then (inside_is code) (λ x d. part_then (tree Statement) (λ a h. part_then (optional_is {v = in_statement} else_part) (λ b k. ends (wrap_is _ (if_is p.place x a b d h k))))))))
      (a_pick loops calls))))))

annotated : Has gr.annotated (λ h. (p : Span) → in_statement (h p) ≡ true)
annotated =
    both (word_then (λ q. part_then whole_spec (λ x d. word_then (λ c. ends (λ p. refl))))) (both (word_then (λ q. part_then (tree GhostBody) (λ x d. word_then (λ c. ends (λ p. d)))))
    (both (word_then (λ q. part_then code (λ x d. word_then (λ c. ends (λ p. d))))) (both (word_then (λ q. part_then code (λ x d. word_then (λ c. ends (λ p. d)))))
    (both (word_then (λ q. part_then code (λ x d. word_then (λ c. tree_then (λ b h. ends (λ p. pair d h))))))
    (word_then (λ q. part_then (list_is {v = is_code} code) (λ xs d. word_then (λ c. tree_then (λ b h. ends (λ p. pair d h))))))))))

statement : Rule_is gr.statement in_statement
statement = a_pick (simple (λ x. x) in_statement (λ x d. d)) (a_form (word_then (λ p. part_then annotated (λ h s. ends (s p.place)))))

invariant_tail : Has gr.invariant_tail (λ h. (p : Span) → is_spec ((h p).property) ≡ true)
invariant_tail = word_then (λ q. part_then whole_spec (λ x d. word_then (λ c. ends (λ p. d))))

loop_annotation : Has gr.loop_annotation (λ h. (p : Span) → in_loop (h p) ≡ true)
loop_annotation = both (part_then invariant_tail (λ h s. ends (λ p. refl))) (part_then annotated (λ h s. ends s))

loop_item : Rule_is gr.loop_item in_loop
loop_item = a_pick (simple gr.as_statement in_loop (λ x d. d)) (a_form (word_then (λ p. part_then loop_annotation (λ h s. ends (s p.place)))))

-- ---- contracts, functions and structs

abbrev anything : {A : Type 0} → A → Bool
anything x = true

writes_of : Rule_is gr.writes_of anything
writes_of = a_pick (a_form (word_then (λ p. part_then (inside_is whole_spec) (λ x d. ends refl)))) (a_form (word_then (λ p. part_then (inside_is whole_spec) (λ x d. ends refl))))

written : Part_is gr.written anything
written = both (tree_is (λ x d. refl)) (part_then whole_spec (λ x d. ends refl))

condition : (class : ℕ) (x : Condition) → Has (gr.condition class x) Any
condition class x = word_then (λ q. part_then whole_spec (λ y d. ends tt))

clause_tail : Has gr.clause_tail Any
clause_tail = both (condition _ _) (both (condition _ _) (both (condition _ _) (word_then (λ q. part_then (list_is {v = anything} written) (λ xs d. ends tt)))))

clause_of : Rule_is gr.clause_of anything
clause_of = a_form (word_then (λ p. part_then clause_tail (λ h s. word_then (λ c. ends refl))))

param : Part_is gr.param anything
param = part_then ctype (λ ty i. word_then (λ n. ends refl))

params : Has gr.params Any
params = both (word_then (λ v. ends tt)) (use_of (list_or_none_is {v = anything} param) (λ xs d. tt))

ghost_param : Part_is gr.ghost_param anything
ghost_param = word_then (λ a. word_then (λ b. part_then gtype (λ ty i. word_then (λ n. word_then (λ c. ends refl)))))

function_tail : Has gr.function_tail (λ h. (n : Id) (p : Span) (ty : Option Ty) → in_statements (h n p ty).body.all ≡ true)
function_tail =
    word_then (λ o. part_then params (λ ps i. part_then (many_is {v = anything} ghost_param) (λ gs j. word_then (λ c. part_then (many_is {v = anything} (tree ClauseOf)) (λ cs k. tree_then (λ b d. ends (λ n p ty. d)))))))

leaf_pointer : Has gr.leaf_pointer Any
leaf_pointer = word_then (λ a. word_then (λ n. word_then (λ s. ends tt)))

field_type : Has gr.field_type Any
field_type = both int_type leaf_pointer

ghost_type : Has gr.ghost_type Any
ghost_type = both field_type (both (token_is (λ x o. tt)) (token_is (λ x o. tt)))

abbrev Members_are : (Span → Member) → Type 0
Members_are h = (p : Span) → in_member (h p) ≡ true

ghost_field : Has gr.ghost_field Members_are
ghost_field = word_then (λ q. part_then (flag _) (λ v i. part_then ghost_type (λ ty j. word_then (λ n. part_then semicolon_or_none (λ z k. word_then (λ c. ends (λ p. refl)))))))

member_annotation : Has gr.member_annotation Members_are
member_annotation = both (part_then invariant_tail (λ h s. ends s)) ghost_field

member_of : Rule_is gr.member_of in_member
member_of = a_pick (a_form (part_then (flag _) (λ v i. part_then field_type (λ ty j. word_then (λ n. word_then (λ z. ends refl)))))) (a_form (word_then (λ p. part_then member_annotation (λ h s. ends (s p.place)))))

attribute : Part_is gr.attribute anything
attribute = both (token_is (λ x o. refl)) (both (token_is (λ x o. refl)) (token_is (λ x o. refl)))

attribute_list : Part_is gr.attribute_list anything
attribute_list = word_then (λ a. part_then (list_is {v = anything} attribute) (λ xs d. word_then (λ c. ends refl)))

struct_tail : Has gr.struct_tail (λ h. (n : Id) (p : Span) (xs : List Attribute) → every in_member (h n p xs).members ≡ true)
struct_tail = word_then (λ o. part_then (many_is {v = in_member} (tree MemberOf)) (λ ms d. word_then (λ c. word_then (λ z. ends (λ n p xs. d)))))

abbrev Items_behind : (Id → Span → Item) → Type 0
Items_behind h = (n : Id) (p : Span) → in_item (h n p) ≡ true

pointer_function : Has gr.pointer_function Items_behind
pointer_function = word_then (λ a. word_then (λ n. part_then function_tail (λ h s. ends (λ x p. s (gr.id_of n) p (Some (e.Pointer x))))))

struct_or_function : Has (by_next (gr.struct_tail ▷ nothing (λ h n p. it.Struct (h n p []))) gr.pointer_function) Items_behind
struct_or_function = both (part_then struct_tail (λ h s. ends (λ n p. s n p []))) pointer_function

result_type : Has gr.result_type Any
result_type = both (token_is (λ x o. tt)) (part_then int_type (λ ty i. ends tt))

item_of : Rule_is gr.item_of in_item
item_of =
    a_pick (a_form (part_then attribute_list (λ one i. part_then (many_is {v = anything} attribute_list) (λ more j. word_then (λ p. word_then (λ n. part_then struct_tail (λ h s. ends (s (gr.id_of n) p.place (gr.concat (one ∷ more))))))))))
    (a_pick (a_form (word_then (λ p. word_then (λ n. part_then struct_or_function (λ h s. ends (s (gr.id_of n) p.place)))))) (a_form (part_then result_type (λ ty i. word_then (λ n. part_then function_tail (λ h s. ends (s (gr.id_of n) ty.0 ty.1)))))))

program : Rule_is gr.program in_form
program = a_form (tree_then (λ x d. part_then (many_is {v = in_item} (tree ItemOf)) (λ xs h. ends (pair d h))))

-- ---- the grammar

rule : (n : N) → Rule_is (gr.rule n) (high n)
rule (Level m l) = level m l
rule (Primary m) = primary m
rule Unnamed = unnamed Code
rule Start = start
rule NamePlace = name_place
rule OtherPlace = other_place
rule AnyPlace = any_place
rule GhostName = ghost_name
rule GhostOther = ghost_other
rule SetStart = set_start
rule OwnedSet = owned_set
rule SetQuantifier = set_quantifier
rule SetBody = set_body
rule Membership = memberships
rule Element = set_element
rule InterlockedCall = interlocked_call
rule Allocation = allocation
rule GhostArgument = ghost_argument
rule Assigned = assigned
rule MakeClaim = make_claim
rule GhostBody = ghost_body
rule GhostStatement = ghost_statement
rule BlockOf = block_of
rule Statement = statement
rule LoopItem = loop_item
rule WritesOf = writes_of
rule ClauseOf = clause_of
rule MemberOf = member_of
rule ItemOf = item_of
rule Program = program

abbrev pub All_typed : List Lexeme → Type 0
All_typed = Each language Typed high

-- a source whose numbers are of their types is in form
pub source_form : (ts : List Lexeme) (items : List Item) (i : ℕ) → All_typed ts → IsSource ts items i → in_form items ≡ true
source_form ts items i o (fa.none u h d) = subst (λ xs. in_form xs ≡ true) (sym h) refl
source_form ts items i o (fa.some x) = found tests (λ m. (rule m).suits) x.is.0 Program ts items i (x.end ∷ []) o x.is.1
