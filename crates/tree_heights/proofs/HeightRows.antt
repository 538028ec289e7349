-- How high what each row of the grammar derives is: as high as its tree.
use Rattle.std.proofs.Common.{◌≡◌, ◌⊎◌, ℕ, suc, ◌≤◌, max, Bool, true, false, List, [], ◌∷◌, Option, Some, None, refl, ap, sym, ◌∙◌, arith}
use Rattle.ebnf.specs.Rules.{below, many, nothing, by_next, by_value, chain}
use Rattle.ebnf.specs.Sets.{PartOf, RuleOf}
use Rattle.ebnf.specs.Derives.{IsPhrase}
use Rattle.c_syntax.specs.declared.token.Sign.TheVariants as s
use Rattle.c_syntax.specs.declared.tree.Attribute.{Attribute}
use Rattle.c_syntax.specs.Classes as cl
use Rattle.c_syntax.specs.Faults as fa
use Rattle.c_syntax.specs.Faults.{IsSource}
use Rattle.c_syntax.specs.declared.tree.BinaryOperator.{BinaryOperator}
use Rattle.c_syntax.specs.declared.tree.BinaryOperator.TheVariants as op
use Rattle.c_syntax.specs.declared.tree.Constant.{Constant}
use Rattle.c_syntax.specs.declared.tree.Status.{Status}
use Rattle.c_syntax.specs.declared.tree.SpecFunction.{SpecFunction}
use Rattle.c_syntax.specs.declared.tree.ListWord.{ListWord}
use Rattle.c_syntax.specs.declared.tree.Quantifier.{Quantifier}
use Rattle.c_syntax.specs.declared.tree.Condition.{Condition}
use Rattle.c_syntax.specs.Ghosts.{GStm}
use Rattle.c_syntax.specs.Items as it
use Rattle.c_syntax.specs.Items.{Written, Clause, Param, FunctionTree, FieldTree, Member, StructTree, Item}
use Rattle.c_syntax.specs.Expressions as e
use Rattle.c_syntax.specs.Expressions.{Id, Ty, Exp, Exps, Inter, Comparison, CallTree, Rhs, Effect, Assignment}
use Rattle.c_syntax.specs.Statements.{Inv, Stm}
use Rattle.c_syntax.specs.Tokens as t
use Rattle.c_syntax.specs.Tokens.{Word}
use Rattle.c_syntax.specs.Lexing.{Lexeme}
use Rattle.c_syntax.specs.declared.token.Span.{Span}
use Rattle.c_syntax.specs.Grammar as gr
use Rattle.c_syntax.specs.Grammar.{◌▷◌, Mode, Code, InSpec, Tier, Prefix, Product, Sum, Order, Equality, Conjunction, Disjunction, Choice, Implication, Equivalence, N, V, Level, Primary, Unnamed, Start, NamePlace, OtherPlace, AnyPlace, GhostName, GhostOther, SetStart, OwnedSet, SetQuantifier, SetBody, Membership, Element, InterlockedCall, Allocation, GhostArgument, Assigned, MakeClaim, GhostBody, GhostStatement, BlockOf, Statement, LoopItem, WritesOf, ClauseOf, MemberOf, ItemOf, Program, Begun, Plain, Cast, Pending, Done, Open}
use Rattle.c_syntax.specs.Language.{language}
use Rattle.tree_heights.specs.Heights as h
use Rattle.tree_heights.specs.Heights.{greatest, optional, expression, program_height}
use Rattle.tree_heights.proofs.Measures.{Measure, Laws, Known, Good, either, token_is, tree_is, ends, both, use_of, word_then, tree_then, part_then, value_then, all_of, up_to, a_form, a_pick, a_chain, a_climb, found}

abbrev pub begun : Begun → ℕ
begun (Plain x) = expression x
begun (Cast x) = 2

-- how high the tree of each nonterminal is
abbrev pub high : (n : N) → V n → ℕ
high (Level m l) x = expression x
high (Primary m) x = expression x
high Unnamed x = expression x
high Start x = begun x
high NamePlace x = expression x
high OtherPlace x = expression x
high AnyPlace x = expression x
high GhostName x = expression x
high GhostOther x = expression x
high SetStart x = expression x
high OwnedSet x = expression x
high SetQuantifier x = expression x
high SetBody x = expression x
high Membership x = expression x
high Element x = expression x
high InterlockedCall x = h.compared x.0 x.1
high Allocation x = 2
high GhostArgument x = h.ghost_argument x
high Assigned x = h.assignment x
high MakeClaim x = h.ghost_right x
high GhostBody x = h.ghost_statement x
high GhostStatement x = h.ghost_statement x
high BlockOf x = h.block x
high Statement x = h.statement x
high LoopItem x = either h.invariant h.statement x
high WritesOf x = h.written x
high ClauseOf x = h.clause x
high MemberOf x = h.member x
high ItemOf x = h.item x
high Program x = program_height x

abbrev joined : ℕ → ℕ → ℕ
joined a b = max a b

abbrev marked : ℕ → ℕ
marked k = k

abbrev own : ℕ → ℕ
own k = suc k

abbrev total : (A : Type 0) → (A → ℕ) → List A → ℕ
total A v xs = greatest v xs

abbrev Is : ℕ → ℕ → Type 0
Is v i = v ≡ i

abbrev Meas : List Lexeme → ℕ → List Lexeme → ℕ → Type 0
Meas ts k rest i = k ≡ i

pub height_laws : Laws language joined marked own total Is high Meas
height_laws = record {
  assoc = λ a b c. omega arith;
  right_zero = λ a. omega arith;
  left_zero = λ a. omega arith;
  at_none = λ v. refl;
  at_more = λ v x xs i j d f. omega arith;
  here = λ ts. refl;
  one = λ x rest k. refl;
  then = λ ts mid rest a b i j d f. omega arith;
  over = λ ts rest a i d. omega arith;
  skip = λ ts rest x a i d. d;
}

abbrev pub heights : Measure
heights = record { g = language; join = joined; mark = marked; own = own; total = total; Is = Is; high = high; Meas = Meas; laws = height_laws }

-- a part whose values have the height
abbrev Part_is : {A : Type 0} → PartOf language A → (A → ℕ) → Type 0
Part_is p v = Known heights p 0 (λ a i. v a ≡ i)

abbrev Rule_is : {A : Type 0} → RuleOf language A → (A → ℕ) → Type 0
Rule_is r v = Good heights r v

-- ---- expressions

some : (x : Exp) → 1 ≤ expression x
some (e.Number p n ty) = omega arith
some (e.Name x) = omega arith
some (e.Null p) = omega arith
some (e.Word p x) = omega arith
some (e.Group p x) = omega arith
some (e.Field p x f) = omega arith
some (e.State p x q s) = omega arith
some (e.Owns p x q) = omega arith
some (e.Unary p o x) = omega arith
some (e.Binary p o x y) = omega arith
some (e.Conditional p x y z) = omega arith
some (e.Apply p f x) = omega arith
some (e.Several p w xs) = omega arith
some (e.ClaimsObject p x y) = omega arith
some (e.Claims p x y) = omega arith
some (e.Approves p x) = omega arith
some (e.Quantified p q ty n x) = omega arith

number_is : (p : Span) (w : Word) → expression (gr.number_exp p w) ≡ 1
number_is p (t.Name x) = refl
number_is p (t.Key x) = refl
number_is p (t.Spec x) = refl
number_is p t.OtherSpec = refl
number_is p (t.Number n ty) = refl
number_is p (t.Mark x) = refl
number_is p t.End = refl

abbrev Has : {A : Type 0} → PartOf language A → (A → ℕ → Type 0) → Type 0
Has p Q = Known heights p 0 Q

-- ---- parts that recur

tree : (n : N) → Has (below n (λ x. x)) (λ x i. high n x ≡ i)
tree n = tree_is (λ x i d. omega arith)

many_is : {A : Type 0} {p : PartOf language A} {v : A → ℕ} → Part_is p v → Part_is (many p (λ xs. xs)) (greatest v)
many_is {v = v} k = all_of v k (λ xs i d. omega arith)

list_is : {A : Type 0} {p : PartOf language A} {v : A → ℕ} → Part_is p v → Part_is (gr.list p) (greatest v)
list_is {v = v} k = part_then k (λ x i d. part_then (many_is {v = v} (word_then (λ c. part_then k (λ y j f. ends (omega arith))))) (λ ys j f. ends (omega arith)))

list_or_none_is : {A : Type 0} {p : PartOf language A} {v : A → ℕ} → Part_is p v → Part_is (gr.list_or_none p) (greatest v)
list_or_none_is k = both (list_is k) (ends refl)

optional_is : {A : Type 0} {p : PartOf language A} {v : A → ℕ} → Part_is p v → Part_is (gr.optional p) (optional v)
optional_is k = both (part_then k (λ x i d. ends (omega arith))) (ends refl)

inside_is : {A : Type 0} {p : PartOf language A} {v : A → ℕ} → Part_is p v → Part_is (gr.inside p) v
inside_is k = word_then (λ o. part_then k (λ x i d. word_then (λ c. ends (omega arith))))

word_or_none : (class : ℕ) → Has (gr.optional (gr.word class)) (λ x i. i ≡ 0)
word_or_none class = both (word_then (λ o. ends refl)) (ends refl)

flag : (class : ℕ) → Has (gr.flag class) (λ x i. i ≡ 0)
flag class = both (token_is (λ x. refl)) (ends refl)

exps_is : (xs : List Exp) → h.expressions (gr.exps_of xs) ≡ greatest expression xs
exps_is [] = refl
exps_is (x ∷ xs) = ap (λ i. max (expression x) i) (exps_is xs)

stms_is : (xs : List Stm) → h.statements (gr.stms_of xs) ≡ greatest h.statement xs
stms_is [] = refl
stms_is (x ∷ xs) = ap (λ i. max (h.statement x) i) (stms_is xs)

ghosts_is : (xs : List GStm) → h.ghost_statements (gr.ghosts_of xs) ≡ greatest h.ghost_statement xs
ghosts_is [] = refl
ghosts_is (x ∷ xs) = ap (λ i. max (h.ghost_statement x) i) (ghosts_is xs)

ones : {A : Type 0} (xs : List A) → greatest (λ x. 1) xs ≤ 1
ones [] = omega arith
ones (x ∷ xs) = omega (arith, ones xs)

zeros : {A : Type 0} (xs : List A) → greatest (λ x. 0) xs ≡ 0
zeros [] = refl
zeros (x ∷ xs) = omega (arith, zeros xs)

code : Part_is gr.code expression
code = tree (Level Code Choice)

whole_spec : Part_is gr.whole_spec expression
whole_spec = tree (Level InSpec Equivalence)

spec_exp : Part_is gr.spec_exp expression
spec_exp = tree (Level InSpec Choice)

-- ---- types

unsigned_behind : Has gr.unsigned_behind (λ x i. i ≡ 0)
unsigned_behind = both (word_then (λ a. word_then (λ b. part_then (word_or_none _) (λ x i d. ends (omega arith))))) (part_then (word_or_none _) (λ x i d. ends (omega arith)))

int_type : Has gr.int_type (λ x i. i ≡ 0)
int_type =
    both (token_is (λ x. refl)) (both (word_then (λ a. word_then (λ b. part_then (word_or_none _) (λ x i d. ends (omega arith)))))
    (word_then (λ a. part_then unsigned_behind (λ x i d. ends (omega arith)))))

struct_pointer : Has gr.struct_pointer (λ x i. i ≡ 1)
struct_pointer = word_then (λ a. word_then (λ n. word_then (λ s. ends refl)))

ctype : Has gr.ctype (λ x i. i ≤ 1)
ctype = both (use_of int_type (λ x i d. omega arith)) (part_then struct_pointer (λ x i d. ends (omega arith)))

gtype : Has gr.gtype (λ x i. i ≤ 1)
gtype = both ctype (both (token_is (λ x. omega arith)) (token_is (λ x. omega arith)))

-- ---- primaries

number : Rule_is gr.number expression
number = a_form (token_is (λ x. number_is x.place x.word))

null : Rule_is gr.null expression
null = a_form (token_is (λ x. refl))

named : Rule_is gr.named expression
named = a_form (token_is (λ x. refl))

in_brackets : (m : Mode) → Part_is (gr.in_brackets m) expression
in_brackets Code = code
in_brackets InSpec = whole_spec

group : (m : Mode) → Rule_is (gr.group m) expression
group m = a_form (word_then (λ o. part_then (in_brackets m) (λ x i d. word_then (λ c. ends (omega arith)))))

constant : (class : ℕ) (x : Constant) → Rule_is (gr.constant class x) expression
constant class x = a_form (token_is (λ y. refl))

apply : {p : PartOf language Exp} (class : ℕ) (f : SpecFunction) → Part_is p expression → Rule_is (gr.apply class f p) expression
apply class f k = a_form (word_then (λ o. part_then (inside_is k) (λ x i d. ends (omega arith))))

several : (class : ℕ) (w : ListWord) → Rule_is (gr.several class w) expression
several class w = a_form (word_then (λ o. part_then (inside_is (list_is spec_exp)) (λ xs i d. ends (omega (arith, exps_is xs)))))

this_owner : Has gr.this_owner (λ x i. i ≡ 2)
this_owner = word_then (λ o. word_then (λ a. word_then (λ t. ends refl)))

spec_word : Rule_is gr.spec_word expression
spec_word =
    a_pick (constant _ _) (a_pick (constant _ _) (a_pick (constant _ _) (a_pick (constant _ _) (a_pick (constant _ _)
    (a_pick (apply _ _ whole_spec) (a_pick (apply _ _ whole_spec) (a_pick (apply _ _ spec_exp) (a_pick (apply _ _ spec_exp) (a_pick (apply _ _ spec_exp) (a_pick (apply _ _ spec_exp)
    (a_pick (several _ _) (a_pick (several _ _)
    (a_pick (a_form (word_then (λ o. word_then (λ a. part_then spec_exp (λ x i d. word_then (λ c. part_then spec_exp (λ y j f. word_then (λ b. ends (omega arith)))))))))
    (a_pick (a_form (word_then (λ o. word_then (λ a. part_then spec_exp (λ x i d. word_then (λ c. part_then whole_spec (λ y j f. word_then (λ b. ends (omega arith)))))))))
    (a_form (word_then (λ o. word_then (λ a. part_then this_owner (λ x i d. word_then (λ m. word_then (λ n. word_then (λ c. ends (omega arith)))))))))))))))))))))))

quantified : (class : ℕ) (q : Quantifier) → Rule_is (gr.quantified class q) expression
quantified class q = a_form (word_then (λ o. part_then gtype (λ ty i d. word_then (λ n. word_then (λ m. part_then whole_spec (λ x j f. ends (omega (arith, some x))))))))

unnamed : (m : Mode) → Rule_is (gr.unnamed m) expression
unnamed m = a_pick number (a_pick null (group m))

primary : (m : Mode) → Rule_is (gr.primary m) expression
primary Code = a_pick named (unnamed Code)
primary InSpec = a_pick named (a_pick (unnamed InSpec) (a_pick spec_word (a_pick (quantified _ _) (quantified _ _))))

-- ---- behind an arrow

abbrev Suffix : (Span → Exp → Exp) → ℕ → Type 0
Suffix f i = (o : Span) (x : Exp) → expression (f o x) ≡ suc (max (expression x) i)

field : Has gr.field Suffix
field = word_then (λ n. ends (λ o x. omega (arith, some x)))

status : (class : ℕ) (x : Status) → Has (gr.status class x) Suffix
status class s = token_is (λ y o x. omega arith)

suffix : (m : Mode) → Has (gr.suffix m) Suffix
suffix Code = field
suffix InSpec = both field (both (status _ _) (both (status _ _) (status _ _)))

owns : Has gr.owns Suffix
owns = token_is (λ y o x. omega arith)

-- ---- levels

module _ {A : Type 0} (m : Mode) (plain : Exp → A) (over : (Exp → Exp) → A → A) (goes : A → Bool) (v : A → ℕ) (plain_is : (x : Exp) → v (plain x) ≡ expression x)
    (over_is : (f : Exp → Exp) (a : A) (k i : ℕ) → goes a ≡ true → ((x : Exp) → expression (f x) ≡ suc (max (expression x) i)) → v a ≡ k → v (over f a) ≡ suc (max k i)) where
  abbrev Link : (A → A) → ℕ → Type 0
  Link f i = (a : A) (k : ℕ) → goes a ≡ true → v a ≡ k → v (f a) ≡ suc (max k i)

  operator : (class : ℕ) (o : BinaryOperator) (right : Tier) → Has (gr.operator m plain over goes class o right) Link
  operator class o right = word_then (λ p. tree_then (λ r i d. ends (λ a k t q. over_is (λ x. e.Binary p.place o x r) a k (max 0 i) t (λ x. omega arith) q)))

  postfixed : {l : RuleOf language A} → Rule_is l v → Rule_is (gr.postfixed m plain over goes l) v
  postfixed k = a_chain k (word_then (λ o. part_then (suffix m) (λ f i s. ends (λ a k t q. over_is (f o.place) a k (max 0 i) t (λ x. omega (arith, s o.place x)) q))))

  prefixed : {l : RuleOf language A} → Rule_is l v → Rule_is (gr.prefixed m plain over goes l) v
  prefixed k = a_pick (a_form (word_then (λ o. tree_then (λ x i d. ends (plain_is _ ∙ omega arith))))) (a_pick (a_form (word_then (λ o. tree_then (λ x i d. ends (plain_is _ ∙ omega arith))))) (postfixed k))

  products : {l : RuleOf language A} → Rule_is l v → Rule_is (gr.products m plain over goes l) v
  products k = a_chain (prefixed k) (both (operator _ _ _) (both (operator _ _ _) (operator _ _ _)))

  sums : {l : RuleOf language A} → Rule_is l v → Rule_is (gr.sums m plain over goes l) v
  sums k = a_chain (products k) (both (operator _ _ _) (operator _ _ _))

  compares : Has (gr.compares m plain over goes) Link
  compares = both (operator _ _ _) (both (operator _ _ _) (both (operator _ _ _) (operator _ _ _)))

  order_of : (n : Mode) → Has (gr.order_of m plain over goes n) Link
  order_of Code = compares
  order_of InSpec = both compares (word_then (λ p. tree_then (λ r i d. ends (λ a k t q. over_is (λ x. e.Binary p.place op.In x r) a k (max 0 i) t (λ x. omega arith) q))))

  orders : {l : RuleOf language A} → Rule_is l v → Rule_is (gr.orders m plain over goes l) v
  orders k = a_chain (sums k) (order_of m)

  equalities : {l : RuleOf language A} → Rule_is l v → Rule_is (gr.equalities m plain over goes l) v
  equalities k = a_chain (orders k) (both (operator _ _ _) (operator _ _ _))

  conjunctions : {l : RuleOf language A} → Rule_is l v → Rule_is (gr.conjunctions m plain over goes l) v
  conjunctions k = a_chain (equalities k) (operator _ _ _)

  disjunctions : {l : RuleOf language A} → Rule_is l v → Rule_is (gr.disjunctions m plain over goes l) v
  disjunctions k = a_chain (conjunctions k) (operator _ _ _)

  choices : {l : RuleOf language A} → Rule_is l v → Rule_is (gr.choices m plain over goes l) v
  choices k =
      a_chain (disjunctions k) (word_then (λ o. tree_then (λ y i d. word_then (λ c. tree_then (λ z j f. ends (λ a k t q. over_is (λ x. e.Conditional o.place x y z) a k (max (max 0 i) j) t (λ x. omega arith) q))))))

  implications : {l : RuleOf language A} → Rule_is l v → Rule_is (gr.implications m plain over goes l) v
  implications k = a_chain (choices k) (operator _ _ _)

  equivalences : {l : RuleOf language A} → Rule_is l v → Rule_is (gr.equivalences m plain over goes l) v
  equivalences k = a_chain (implications k) (operator _ _ _)

same_is : (x : Exp) → expression (gr.same x) ≡ expression x
same_is x = refl

change_is : (f : Exp → Exp) (a : Exp) (k i : ℕ) → gr.always a ≡ true → ((x : Exp) → expression (f x) ≡ suc (max (expression x) i)) → expression a ≡ k → expression (gr.change f a) ≡ suc (max k i)
change_is f a k i t s q = omega (arith, s a)

level : (m : Mode) (l : Tier) → Rule_is (gr.level m l) expression
level m Prefix = prefixed m gr.same gr.change gr.always expression same_is change_is (primary m)
level m Product = products m gr.same gr.change gr.always expression same_is change_is (primary m)
level m Sum = sums m gr.same gr.change gr.always expression same_is change_is (primary m)
level m Order = orders m gr.same gr.change gr.always expression same_is change_is (primary m)
level m Equality = equalities m gr.same gr.change gr.always expression same_is change_is (primary m)
level m Conjunction = conjunctions m gr.same gr.change gr.always expression same_is change_is (primary m)
level m Disjunction = disjunctions m gr.same gr.change gr.always expression same_is change_is (primary m)
level m Choice = choices m gr.same gr.change gr.always expression same_is change_is (primary m)
level Code Implication = choices Code gr.same gr.change gr.always expression same_is change_is (primary Code)
level InSpec Implication = implications InSpec gr.same gr.change gr.always expression same_is change_is (primary InSpec)
level Code Equivalence = choices Code gr.same gr.change gr.always expression same_is change_is (primary Code)
level InSpec Equivalence = equivalences InSpec gr.same gr.change gr.always expression same_is change_is (primary InSpec)

-- ---- left sides

abbrev Following : (Exp → Exp) → ℕ → Type 0
Following f i = (x : Exp) → expression (f x) ≡ suc (max (expression x) i)

arrow : Has gr.arrow Following
arrow = word_then (λ o. part_then field (λ f i s. ends (λ x. omega (arith, s o.place x))))

after_arrow : {p : PartOf language (Exp → Exp)} {q : PartOf language Exp} → Has p Following → Part_is q expression → Rule_is (gr.after_arrow q p) expression
after_arrow k l = a_form (part_then l (λ x i d. part_then k (λ f j s. ends (omega (arith, s x)))))

further : {p : PartOf language (Exp → Exp)} {s : RuleOf language Exp} {goes : Exp → Bool} → Has p Following → Rule_is s expression → Rule_is (chain s goes p gr.apply_to) expression
further k r = a_chain r (use_of k (λ f i s a j t q. omega (arith, s a)))

name_place : Rule_is gr.name_place expression
name_place = further arrow named

other_place : Rule_is gr.other_place expression
other_place = further arrow (after_arrow arrow (tree Unnamed))

any_place : Rule_is gr.any_place expression
any_place = further arrow (after_arrow arrow (tree (Primary Code)))

ghost_arrow : Has gr.ghost_arrow Following
ghost_arrow = word_then (λ o. part_then {R = Suffix} (both field owns) (λ f i s. ends (λ x. omega (arith, s o.place x))))

ghost_name : Rule_is gr.ghost_name expression
ghost_name = further ghost_arrow named

ghost_other : Rule_is gr.ghost_other expression
ghost_other = further ghost_arrow (after_arrow ghost_arrow (tree Unnamed))

set_primary : Rule_is gr.set_primary expression
set_primary = a_pick named (a_pick (unnamed InSpec) spec_word)

set_quantified : (class : ℕ) (q : Quantifier) → Rule_is (gr.set_quantified class q) expression
set_quantified class q = a_form (word_then (λ o. part_then gtype (λ ty i d. word_then (λ n. word_then (λ m. part_then (tree SetBody) (λ x j f. ends (omega (arith, some x))))))))

set_quantifier : Rule_is gr.set_quantifier expression
set_quantifier = a_pick (set_quantified _ _) (set_quantified _ _)

set_start : Rule_is gr.set_start expression
set_start = a_pick set_primary set_quantifier

spec_arrow : Has gr.spec_arrow Following
spec_arrow = word_then (λ o. part_then (suffix InSpec) (λ f i s. ends (λ x. omega (arith, s o.place x))))

set_element : Rule_is gr.element expression
set_element = further spec_arrow (a_pick set_primary (after_arrow spec_arrow (tree SetQuantifier)))

in_set : Has gr.in_set Following
in_set = word_then (λ o. tree_then (λ r i d. ends (λ x. omega arith)))

and_membership : Has gr.and_membership Following
and_membership = word_then (λ o. tree_then (λ r i d. ends (λ x. omega arith)))

implies_body : Has gr.implies_body Following
implies_body = word_then (λ o. tree_then (λ r i d. ends (λ x. omega arith)))

memberships : Rule_is gr.memberships expression
memberships = further in_set (after_arrow in_set (tree Element))

set_body : Rule_is gr.set_body expression
set_body = further implies_body (further and_membership memberships)

owned_set : Rule_is gr.owned_set expression
owned_set =
    a_climb expression (tree SetStart) (part_then (suffix InSpec) (λ f i s. ends (λ x a k q. omega (arith, s x.place a)))) (part_then owns (λ f i s. ends (λ x a k q. omega (arith, s x.place a))))

-- ---- calls

size_of : Has gr.size_of (λ f i. i ≡ 1)
size_of = word_then (λ a. word_then (λ b. word_then (λ c. word_then (λ d. word_then (λ x. word_then (λ z. word_then (λ u. ends refl)))))))

allocation : Rule_is gr.allocation (λ x. 2)
allocation = a_form (word_then (λ m. part_then size_of (λ f i d. ends (omega arith))))

ghost_arguments : Part_is gr.ghost_arguments (greatest h.ghost_argument)
ghost_arguments = many_is {v = h.ghost_argument} (tree GhostArgument)

call_tail : Has gr.call_tail (λ f i. (n : Id) → h.call (f n) ≡ max 1 i)
call_tail = word_then (λ o. part_then (list_or_none_is code) (λ xs i d. part_then ghost_arguments (λ gs j f. word_then (λ c. ends (λ n. omega arith)))))

ghost_argument : Rule_is gr.ghost_argument h.ghost_argument
ghost_argument = a_form (word_then (λ a. word_then (λ b. part_then code (λ x i d. word_then (λ c. ends (omega arith))))))

locked_word : Has gr.locked_word (λ x i. i ≡ 0)
locked_word = both (token_is (λ x. refl)) (both (token_is (λ x. refl)) (both (token_is (λ x. refl)) (token_is (λ x. refl))))

comparison : Has gr.comparison (λ x i. expression x.other ≡ i)
comparison = both (word_then (λ o. part_then code (λ x i d. ends (omega arith)))) (word_then (λ o. part_then code (λ x i d. ends (omega arith))))

abbrev locked : Inter × Option Comparison → ℕ
locked x = h.compared x.0 x.1

uncompared : (x : Inter × Option Comparison) → gr.not_compared x ≡ true → locked x ≡ h.interlocked x.0
uncompared (x, None) e = refl
uncompared (x, Some y) e = absurd cc

interlocked_call : Rule_is gr.interlocked_call locked
interlocked_call =
    a_chain
    (a_form (part_then locked_word (λ w i d. word_then (λ o. word_then (λ a. tree_then (λ x j f. part_then (many_is {v = expression} (word_then (λ m. part_then code (λ y k q. ends (omega arith))))) (λ xs k q. word_then (λ c. ends (omega arith)))))))))
    (use_of comparison (λ c i s a k t q. omega (arith, uncompared a t)))

-- ---- right sides

begun_plain : (x : Exp) → begun (Plain x) ≡ expression x
begun_plain x = refl

begun_over : (f : Exp → Exp) (a : Begun) (k i : ℕ) → gr.is_plain a ≡ true → ((x : Exp) → expression (f x) ≡ suc (max (expression x) i)) → begun a ≡ k → begun (gr.over_begun f a) ≡ suc (max k i)
begun_over f (Plain x) k i t s q = omega (arith, s x)
begun_over f (Cast x) k i t s q = absurd cc

cast_or_group : Has gr.cast_or_group (λ f i. (o : Span) → begun (f o) ≡ suc i)
cast_or_group = both (part_then struct_pointer (λ x i d. word_then (λ c. ends (λ o. omega arith)))) (part_then code (λ x i d. word_then (λ c. ends (λ o. omega arith))))

start_primary : Rule_is gr.start_primary begun
start_primary =
    a_pick (a_form (token_is (λ x. refl))) (a_pick (a_form (token_is (λ x. number_is x.place x.word))) (a_pick (a_form (token_is (λ x. refl)))
    (a_form (word_then (λ o. part_then cast_or_group (λ f i s. ends (omega (arith, s o.place))))))))

start : Rule_is gr.start begun
start = choices Code (λ x. Plain x) gr.over_begun gr.is_plain begun begun_plain begun_over start_primary

abbrev pending : Pending → ℕ
pending (Done x) = h.right x
pending (Open x) = expression x

cast_two : (b : Begun) → gr.is_cast b ≡ true → begun b ≡ 2
cast_two (Plain x) e = absurd cc
cast_two (Cast x) e = refl

no_cast : (b : Begun) → gr.is_cast b ≡ false → expression (gr.plain_of b) ≡ begun b
no_cast (Plain x) e = refl
no_cast (Cast x) e = absurd cc

cast_done : Has gr.cast_done (λ x i. pending x ≡ i)
cast_done = value_then (tree Start) (λ b i d t. word_then (λ m. part_then size_of (λ f j s. ends (omega (arith, cast_two b t))))) (λ b i d t. ends (omega (arith, no_cast b t)))

open_name : (x : Exp) → gr.is_bare (Open x) ≡ true → expression x ≡ 1
open_name (e.Name x) t = refl
open_name (e.Number p n ty) t = absurd cc
open_name (e.Null p) t = absurd cc
open_name (e.Word p x) t = absurd cc
open_name (e.Group p x) t = absurd cc
open_name (e.Field p x f) t = absurd cc
open_name (e.State p x q s) t = absurd cc
open_name (e.Owns p x q) t = absurd cc
open_name (e.Unary p o x) t = absurd cc
open_name (e.Binary p o x y) t = absurd cc
open_name (e.Conditional p x y z) t = absurd cc
open_name (e.Apply p f x) t = absurd cc
open_name (e.Several p w xs) t = absurd cc
open_name (e.ClaimsObject p x y) t = absurd cc
open_name (e.Claims p x y) t = absurd cc
open_name (e.Approves p x) t = absurd cc
open_name (e.Quantified p q ty n x) t = absurd cc

bare_one : (x : Pending) → gr.is_bare x ≡ true → pending x ≡ 1
bare_one (Done x) t = absurd cc
bare_one (Open x) t = open_name x t

done_is : (x : Pending) → h.right (gr.done x) ≡ pending x
done_is (Done x) = refl
done_is (Open x) = refl

rhs : Part_is gr.rhs h.right
rhs =
    both (tree_is (λ x i d. omega arith)) (both (tree_is (λ x i d. omega arith))
    (value_then cast_done (λ x i d t. both (part_then call_tail (λ f j s. ends (omega (arith, s (gr.callee x), bare_one x t)))) (ends (omega (arith, done_is x)))) (λ x i d t. ends (omega (arith, done_is x)))))

abbrev Changes : (Exp → Assignment) → ℕ → Type 0
Changes f i = (l : Exp) → h.assignment (f l) ≡ suc (max (expression l) i)

assignment_tail : Has gr.assignment_tail Changes
assignment_tail =
    both (word_then (λ o. part_then rhs (λ x i d. ends (λ l. omega arith)))) (both (word_then (λ o. part_then code (λ x i d. ends (λ l. omega arith))))
    (both (word_then (λ o. part_then code (λ x i d. ends (λ l. omega arith)))) (both (token_is (λ x l. omega arith)) (token_is (λ x l. omega arith)))))

assigned : Rule_is gr.assigned h.assignment
assigned = a_pick (a_form (tree_then (λ l i d. part_then assignment_tail (λ f j s. ends (omega (arith, s l)))))) (a_form (tree_then (λ l i d. part_then assignment_tail (λ f j s. ends (omega (arith, s l))))))

-- ---- ghost statements

set : Part_is gr.set (greatest expression)
set = word_then (λ o. part_then (list_or_none_is code) (λ xs i d. word_then (λ c. ends (omega arith))))

members : Part_is gr.members h.members
members = both (part_then set (λ xs i d. ends (omega arith))) (part_then code (λ x i d. ends (omega arith)))

make_claim : Rule_is gr.make_claim h.ghost_right
make_claim = a_form (word_then (λ p. word_then (λ o. part_then set (λ xs i d. word_then (λ m. part_then whole_spec (λ x j f. word_then (λ c. ends (omega arith))))))))

ghost_rhs : Part_is gr.ghost_rhs h.ghost_right
ghost_rhs = both (tree MakeClaim) (part_then code (λ x i d. ends (omega arith)))

semicolon_or_none : Has gr.semicolon_or_none (λ x i. i ≡ 0)
semicolon_or_none = word_or_none _

abbrev Changes_ghost : (Exp → GStm) → ℕ → Type 0
Changes_ghost f i = (l : Exp) → h.ghost_statement (f l) ≡ suc (max (expression l) i)

ghost_set : Has gr.ghost_set Changes_ghost
ghost_set = word_then (λ o. part_then ghost_rhs (λ x i d. part_then semicolon_or_none (λ z j f. ends (λ l. omega arith))))

owns_change : Has gr.owns_change (λ x i. h.owns_effect x.1 ≡ i)
owns_change =
    both (word_then (λ o. part_then set (λ x i d. ends (omega arith)))) (both (word_then (λ o. part_then members (λ x i d. ends (omega arith)))) (word_then (λ o. part_then members (λ x i d. ends (omega arith)))))

owns_set : Has gr.owns_set Changes_ghost
owns_set = part_then owns_change (λ x i d. part_then semicolon_or_none (λ z j f. ends (λ l. omega arith)))

ghost_if_is : (p : Span) (x : Exp) (a : GStm) (b : Option GStm) → h.ghost_statement (gr.ghost_if p x a b) ≡ suc (max (expression x) (max (h.ghost_statement a) (optional h.ghost_statement b)))
ghost_if_is p x a None = omega arith
ghost_if_is p x a (Some b) = refl

ghost_first : Part_is gr.ghost_first h.ghost_right
ghost_first = word_then (λ o. part_then ghost_rhs (λ x i d. ends (omega arith)))

ghost_wrap : Has gr.ghost_wrap (λ f i. (p : Span) → h.ghost_statement (f p) ≡ suc i)
ghost_wrap = both (word_then (λ o. part_then code (λ x i d. ends (λ p. omega arith)))) (word_then (λ o. part_then code (λ x i d. ends (λ p. omega arith))))

ghost_else : Part_is gr.ghost_else h.ghost_statement
ghost_else = word_then (λ o. part_then (tree GhostBody) (λ x i d. ends (omega arith)))

ghost_statement : Rule_is gr.ghost_statement h.ghost_statement
ghost_statement =
    a_pick (a_form (part_then gtype (λ ty i d. word_then (λ n. part_then (optional_is ghost_first) (λ x j f. part_then semicolon_or_none (λ z k q. ends (omega arith)))))))
    (a_pick (a_form (value_then (tree GhostName) (λ l i d t. use_of owns_set (λ f j s. omega (arith, s l))) (λ l i d t. use_of ghost_set (λ f j s. omega (arith, s l)))))
    (a_pick (a_form (value_then (tree GhostOther) (λ l i d t. use_of owns_set (λ f j s. omega (arith, s l))) (λ l i d t. use_of ghost_set (λ f j s. omega (arith, s l)))))
    (a_pick (a_form (word_then (λ p. word_then (λ o. part_then code (λ x i d. word_then (λ m. part_then set (λ xs j f. word_then (λ c. part_then semicolon_or_none (λ z k q. ends (omega arith))))))))))
    (a_pick (a_form (word_then (λ p. part_then ghost_wrap (λ f i s. word_then (λ c. part_then semicolon_or_none (λ z k q. ends (omega (arith, s p.place))))))))
    (a_form (word_then (λ p. part_then (inside_is code) (λ x i d. part_then (tree GhostBody) (λ a j f. part_then (optional_is ghost_else) (λ b k q. part_then semicolon_or_none (λ z l r. ends (omega (arith, ghost_if_is p.place x a b)))))))))))))

ghost_body : Rule_is gr.ghost_body h.ghost_statement
ghost_body = a_pick (a_form (word_then (λ o. part_then (many_is {v = h.ghost_statement} (tree GhostStatement)) (λ xs i d. word_then (λ c. ends (omega (arith, ghosts_is xs))))))) ghost_statement

-- ---- statements

block_of : Rule_is gr.block_of h.block
block_of = a_form (word_then (λ o. part_then (many_is {v = h.statement} (tree Statement)) (λ xs i d. word_then (λ c. ends (omega (arith, stms_is xs))))))

first_value : Part_is gr.first_value h.right
first_value = word_then (λ o. part_then rhs (λ x i d. ends (omega arith)))

abbrev Ends_statement : (Exp → Stm) → ℕ → Type 0
Ends_statement f i = (l : Exp) → h.statement (f l) ≡ suc (max (expression l) i)

assign_statement : Has gr.assign_statement Ends_statement
assign_statement = part_then assignment_tail (λ f i s. word_then (λ c. ends (λ l. omega (arith, s l))))

-- the name of a call is 1 high
call_statement : Has gr.call_statement (λ f i. (l : Exp) → h.statement (f l) ≡ suc (max 1 i))
call_statement = part_then call_tail (λ f i s. word_then (λ c. ends (λ l. omega (arith, s (gr.name_of l)))))

name_one : (x : Exp) → gr.is_name x ≡ true → expression x ≡ 1
name_one (e.Name x) t = refl
name_one (e.Number p n ty) t = absurd cc
name_one (e.Null p) t = absurd cc
name_one (e.Word p x) t = absurd cc
name_one (e.Group p x) t = absurd cc
name_one (e.Field p x f) t = absurd cc
name_one (e.State p x q s) t = absurd cc
name_one (e.Owns p x q) t = absurd cc
name_one (e.Unary p o x) t = absurd cc
name_one (e.Binary p o x y) t = absurd cc
name_one (e.Conditional p x y z) t = absurd cc
name_one (e.Apply p f x) t = absurd cc
name_one (e.Several p w xs) t = absurd cc
name_one (e.ClaimsObject p x y) t = absurd cc
name_one (e.Claims p x y) t = absurd cc
name_one (e.Approves p x) t = absurd cc
name_one (e.Quantified p q ty n x) t = absurd cc

if_is : (p : Span) (x : Exp) (a : Stm) (b : Option Stm) → h.statement (gr.if_of p x a b) ≡ suc (max (expression x) (max (h.statement a) (optional h.statement b)))
if_is p x a None = omega arith
if_is p x a (Some b) = refl

else_part : Part_is gr.else_part h.statement
else_part = word_then (λ o. part_then (tree Statement) (λ x i d. ends (omega arith)))

loop_body : Has gr.loop_body (λ b i. max (greatest h.invariant b.0) (h.statement b.1) ≡ i)
loop_body = up_to h.invariant h.statement (tree LoopItem) (λ xs x i j d f. omega arith)

spawn_arguments : Has {A = List Exp × List Exp} (by_next (gr.word (cl.sign s.Comma) ▷ gr.list_or_none gr.code ▷ gr.ghost_arguments ▷ nothing (λ gs xs c. (xs, gs))) (nothing ([], []))) (λ x i. max (greatest expression x.0) (greatest h.ghost_argument x.1) ≡ i)
spawn_arguments = both (word_then (λ c. part_then (list_or_none_is code) (λ xs i d. part_then ghost_arguments (λ gs j f. ends (omega arith))))) (ends refl)

name_statement : Has (by_value (below NamePlace (λ x. x)) gr.is_name (by_next gr.call_statement gr.assign_statement) gr.assign_statement) (λ x i. h.statement x ≡ suc i)
name_statement =
    value_then (tree NamePlace) (λ l i d t. both (use_of call_statement (λ f j s. omega (arith, s l, name_one l t))) (use_of assign_statement (λ f j s. omega (arith, s l)))) (λ l i d t. use_of assign_statement (λ f j s. omega (arith, s l)))

module _ {A : Type 0} (wrap : Stm → A) (v : A → ℕ) (wrap_is : (x : Stm) → v (wrap x) ≡ h.statement x) where
  loops : Rule_is (gr.loops wrap) v
  loops =
      a_pick (a_form (word_then (λ p. part_then (inside_is code) (λ x i d. part_then loop_body (λ b j f. ends (wrap_is _ ∙ omega arith))))))
      (a_pick (a_form (word_then (λ p. part_then loop_body (λ b i d. word_then (λ q. part_then (inside_is code) (λ x j f. word_then (λ c. ends (wrap_is _ ∙ omega arith))))))))
      (a_form (word_then (λ p. word_then (λ o. part_then (optional_is (tree Assigned)) (λ x i d. word_then (λ n. part_then code (λ y j f. word_then (λ m. part_then (optional_is (tree Assigned)) (λ z k q. word_then (λ c. part_then loop_body (λ b l r. ends (wrap_is _ ∙ omega arith)))))))))))))

  calls : Rule_is (gr.calls wrap) v
  calls =
      a_pick (a_form (word_then (λ p. part_then (optional_is code) (λ x i d. word_then (λ c. ends (wrap_is _ ∙ omega arith))))))
      (a_pick (a_form (word_then (λ p. word_then (λ o. word_then (λ f. part_then spawn_arguments (λ xs i d. word_then (λ c. word_then (λ z. ends (wrap_is _ ∙ omega arith)))))))))
      (a_form (word_then (λ p. part_then (inside_is code) (λ x i d. word_then (λ c. ends (wrap_is _ ∙ omega arith)))))))

  simple : Rule_is (gr.simple wrap) v
  simple =
      a_pick (a_form (word_then (λ o. part_then (many_is {v = h.statement} (tree Statement)) (λ xs i d. word_then (λ c. ends (wrap_is _ ∙ omega (arith, stms_is xs)))))))
      (a_pick (a_form (token_is (λ x. wrap_is _)))
      (a_pick (a_form (part_then ctype (λ ty i d. word_then (λ n. part_then (optional_is first_value) (λ x j f. word_then (λ c. ends (wrap_is _ ∙ omega arith)))))))
      (a_pick (a_form (part_then name_statement (λ x i d. ends (wrap_is _ ∙ omega arith))))
      (a_pick (a_form (tree_then (λ l i d. part_then assign_statement (λ f j s. ends (wrap_is _ ∙ omega (arith, s l))))))
      (a_pick (a_form (word_then (λ p. part_then (inside_is code) (λ x i d. part_then (tree Statement) (λ a j f. part_then (optional_is else_part) (λ b k q. ends (wrap_is _ ∙ omega (arith, if_is p.place x a b))))))))
      (a_pick loops calls))))))

annotated : Has gr.annotated (λ f i. (p : Span) → h.statement (f p) ≡ suc i)
annotated =
    both (word_then (λ q. part_then whole_spec (λ x i d. word_then (λ c. ends (λ p. omega arith))))) (both (word_then (λ q. part_then (tree GhostBody) (λ x i d. word_then (λ c. ends (λ p. omega arith)))))
    (both (word_then (λ q. part_then code (λ x i d. word_then (λ c. ends (λ p. omega arith))))) (both (word_then (λ q. part_then code (λ x i d. word_then (λ c. ends (λ p. omega arith)))))
    (both (word_then (λ q. part_then code (λ x i d. word_then (λ c. tree_then (λ b j f. ends (λ p. omega arith))))))
    (word_then (λ q. part_then (list_is code) (λ xs i d. word_then (λ c. tree_then (λ b j f. ends (λ p. omega arith))))))))))

statement : Rule_is gr.statement h.statement
statement = a_pick (simple (λ x. x) h.statement (λ x. refl)) (a_form (word_then (λ p. part_then annotated (λ f i s. ends (omega (arith, s p.place))))))

invariant_tail : Has gr.invariant_tail (λ f i. (p : Span) → h.invariant (f p) ≡ suc i)
invariant_tail = word_then (λ q. part_then whole_spec (λ x i d. word_then (λ c. ends (λ p. omega arith))))

abbrev in_loop : Inv ⊎ Stm → ℕ
in_loop x = either h.invariant h.statement x

loop_annotation : Has gr.loop_annotation (λ f i. (p : Span) → in_loop (f p) ≡ suc i)
loop_annotation = both (part_then invariant_tail (λ f i s. ends (λ p. omega (arith, s p)))) (part_then annotated (λ f i s. ends (λ p. omega (arith, s p))))

loop_item : Rule_is gr.loop_item in_loop
loop_item = a_pick (simple gr.as_statement in_loop (λ x. refl)) (a_form (word_then (λ p. part_then loop_annotation (λ f i s. ends (omega (arith, s p.place))))))

-- ---- contracts, functions and structs

writes_of : Rule_is gr.writes_of h.written
writes_of = a_pick (a_form (word_then (λ p. part_then (inside_is whole_spec) (λ x i d. ends (omega arith))))) (a_form (word_then (λ p. part_then (inside_is whole_spec) (λ x i d. ends (omega arith)))))

written : Part_is gr.written h.written
written = both (tree WritesOf) (part_then whole_spec (λ x i d. ends (omega arith)))

abbrev Clauses : (Span → Clause) → ℕ → Type 0
Clauses f i = (p : Span) → h.clause (f p) ≡ suc i

condition : (class : ℕ) (x : Condition) → Has (gr.condition class x) Clauses
condition class x = word_then (λ q. part_then whole_spec (λ y i d. ends (λ p. omega arith)))

clause_tail : Has gr.clause_tail Clauses
clause_tail = both (condition _ _) (both (condition _ _) (both (condition _ _) (word_then (λ q. part_then (list_is written) (λ xs i d. ends (λ p. omega arith))))))

clause_of : Rule_is gr.clause_of h.clause
clause_of = a_form (word_then (λ p. part_then clause_tail (λ f i s. word_then (λ c. ends (omega (arith, s p.place))))))

param : Part_is gr.param (λ x. 1)
param = part_then ctype (λ ty i d. word_then (λ n. ends (omega arith)))

params : Has gr.params (λ x i. i ≤ 1)
params = both (word_then (λ v. ends (omega arith))) (use_of (list_or_none_is {v = λ x. 1} param) (λ xs i d. omega (arith, ones xs)))

ghost_param : Part_is gr.ghost_param (λ x. 1)
ghost_param = word_then (λ a. word_then (λ b. part_then gtype (λ ty i d. word_then (λ n. word_then (λ c. ends (omega arith))))))

function_tail : Has gr.function_tail (λ f i. ((n : Id) (p : Span) (ty : Option Ty) → h.function (f n p ty) ≡ suc i) × (1 ≤ i))
function_tail =
    word_then (λ o. part_then params (λ ps i d. part_then (many_is {v = λ x. 1} ghost_param) (λ gs j f. word_then (λ c. part_then (many_is {v = h.clause} (tree ClauseOf)) (λ cs k q. tree_then (λ b l r. ends (λ n p ty. omega (arith, ones gs), omega arith)))))))

leaf_pointer : Has gr.leaf_pointer (λ x i. i ≡ 0)
leaf_pointer = word_then (λ a. word_then (λ n. word_then (λ s. ends refl)))

field_type : Has gr.field_type (λ x i. i ≡ 0)
field_type = both int_type leaf_pointer

ghost_type : Has gr.ghost_type (λ x i. i ≡ 0)
ghost_type = both field_type (both (token_is (λ x. refl)) (token_is (λ x. refl)))

abbrev Members_are : (Span → Member) → ℕ → Type 0
Members_are f i = (p : Span) → h.member (f p) ≡ suc i

ghost_field : Has gr.ghost_field Members_are
ghost_field = word_then (λ q. part_then (flag _) (λ v i d. part_then ghost_type (λ ty j f. word_then (λ n. part_then semicolon_or_none (λ z k q. word_then (λ c. ends (λ p. omega arith)))))))

member_annotation : Has gr.member_annotation Members_are
member_annotation = both (part_then invariant_tail (λ f i s. ends (λ p. omega (arith, s p)))) ghost_field

member_of : Rule_is gr.member_of h.member
member_of =
    a_pick (a_form (part_then (flag _) (λ v i d. part_then field_type (λ ty j f. word_then (λ n. word_then (λ z. ends (omega arith))))))) (a_form (word_then (λ p. part_then member_annotation (λ f i s. ends (omega (arith, s p.place))))))

attribute : Part_is gr.attribute (λ x. 0)
attribute = both (token_is (λ x. refl)) (both (token_is (λ x. refl)) (token_is (λ x. refl)))

attribute_list : Part_is gr.attribute_list (λ x. 0)
attribute_list = word_then (λ a. part_then (list_is {v = λ x. 0} attribute) (λ xs i d. word_then (λ c. ends (omega (arith, zeros xs)))))

struct_tail : Has gr.struct_tail (λ f i. (n : Id) (p : Span) (xs : List Attribute) → h.struct (f n p xs) ≡ suc (max 1 i))
struct_tail = word_then (λ o. part_then (many_is {v = h.member} (tree MemberOf)) (λ ms i d. word_then (λ c. word_then (λ z. ends (λ n p xs. omega arith)))))

abbrev Items_behind : (Id → Span → Item) → ℕ → Type 0
Items_behind f i = (n : Id) (p : Span) → h.item (f n p) ≡ suc (max 1 i)

pointer_function : Has gr.pointer_function Items_behind
pointer_function = word_then (λ a. word_then (λ n. part_then function_tail (λ f i s. ends (λ x p. omega (arith, s.0 (gr.id_of n) p (Some (e.Pointer x)), s.1)))))

struct_or_function : Has (by_next (gr.struct_tail ▷ nothing (λ f n p. it.Struct (f n p []))) gr.pointer_function) Items_behind
struct_or_function = both (part_then struct_tail (λ f i s. ends (λ n p. omega (arith, s n p [])))) pointer_function

result_type : Has gr.result_type (λ x i. i ≡ 0)
result_type = both (token_is (λ x. refl)) (part_then int_type (λ ty i d. ends (omega arith)))

item_of : Rule_is gr.item_of h.item
item_of =
    a_pick (a_form (part_then attribute_list (λ one i d. part_then (many_is {v = λ x. 0} attribute_list) (λ more j f. word_then (λ p. word_then (λ n. part_then struct_tail (λ g k s. ends (omega (arith, zeros more, s (gr.id_of n) p.place (gr.concat (one ∷ more)))))))))))
    (a_pick (a_form (word_then (λ p. word_then (λ n. part_then struct_or_function (λ f i s. ends (omega (arith, s (gr.id_of n) p.place)))))))
    (a_form (part_then result_type (λ ty i d. word_then (λ n. part_then function_tail (λ f j s. ends (omega (arith, s.0 (gr.id_of n) ty.0 ty.1, s.1))))))))

program : Rule_is gr.program program_height
program = a_form (tree_then (λ x i d. part_then (many_is {v = h.item} (tree ItemOf)) (λ xs j f. ends (omega arith))))

-- ---- the grammar

rule : (n : N) → Rule_is (gr.rule n) (high n)
rule (Level m l) = level m l
rule (Primary m) = primary m
rule Unnamed = unnamed Code
rule Start = start
rule NamePlace = name_place
rule OtherPlace = other_place
rule AnyPlace = any_place
rule GhostName = ghost_name
rule GhostOther = ghost_other
rule SetStart = set_start
rule OwnedSet = owned_set
rule SetQuantifier = set_quantifier
rule SetBody = set_body
rule Membership = memberships
rule Element = set_element
rule InterlockedCall = interlocked_call
rule Allocation = allocation
rule GhostArgument = ghost_argument
rule Assigned = assigned
rule MakeClaim = make_claim
rule GhostBody = ghost_body
rule GhostStatement = ghost_statement
rule BlockOf = block_of
rule Statement = statement
rule LoopItem = loop_item
rule WritesOf = writes_of
rule ClauseOf = clause_of
rule MemberOf = member_of
rule ItemOf = item_of
rule Program = program

-- a phrase is as high as its tree
pub phrase_high : (n : N) (ts : List Lexeme) (a : V n) (i : ℕ) (rest : List Lexeme) → IsPhrase language n ts a i rest → i ≡ high n a
phrase_high n ts a i rest d = let x = found heights (λ m. (rule m).suits) d.0 n ts a i rest d.1 in x.1 ∙ sym x.2

pub source_high : (ts : List Lexeme) (items : List Item) (i : ℕ) → IsSource ts items i → i ≡ program_height items
source_high ts items i (fa.none e f d) = d ∙ ap program_height (sym f)
source_high ts items i (fa.some x) = phrase_high Program ts items i (x.end ∷ []) x.is
