-- The grammar. From ISO/IEC 9899 6.5 to 6.9 for C, and from the VCC manual for what stands behind `_(`; own: `vcc_spawn`, and what of C is left out. A row is a production, its parts from left to right; the function at its end builds the tree, and takes the parts' values from right to left.
use Rattle.std.specs.Prelude.{◌⊎◌, ℕ, Bool, true, false, List, [], ◌∷◌, ◌++◌, Option, Some, None}
use Rattle.std.proofs.Common.{inl, inr}
use Rattle.int_ranges.specs.declared.ctype.CType.TheVariants as c
use Rattle.ebnf.specs.Rules.{Part, token, below, nothing, row, by_value, by_next, many, until, Rule, form, pick, chain, climb}
use Rattle.c_syntax.specs.declared.token.Span.{Span}
use Rattle.c_syntax.specs.declared.token.Keyword.TheVariants as k
use Rattle.c_syntax.specs.declared.token.SpecWord.TheVariants as w
use Rattle.c_syntax.specs.declared.token.Sign.TheVariants as s
use Rattle.c_syntax.specs.declared.tree.Constant.{Constant}
use Rattle.c_syntax.specs.declared.tree.Constant.TheVariants as constants
use Rattle.c_syntax.specs.declared.tree.Status.{Status}
use Rattle.c_syntax.specs.declared.tree.Status.TheVariants as statuses
use Rattle.c_syntax.specs.declared.tree.UnaryOperator.TheVariants as unaries
use Rattle.c_syntax.specs.declared.tree.BinaryOperator.{BinaryOperator}
use Rattle.c_syntax.specs.declared.tree.BinaryOperator.TheVariants as op
use Rattle.c_syntax.specs.declared.tree.SpecFunction.{SpecFunction}
use Rattle.c_syntax.specs.declared.tree.SpecFunction.TheVariants as functions
use Rattle.c_syntax.specs.declared.tree.ListWord.{ListWord}
use Rattle.c_syntax.specs.declared.tree.ListWord.TheVariants as lists
use Rattle.c_syntax.specs.declared.tree.Quantifier.{Quantifier}
use Rattle.c_syntax.specs.declared.tree.Quantifier.TheVariants as quantifiers
use Rattle.c_syntax.specs.declared.tree.Interlocked.{Interlocked}
use Rattle.c_syntax.specs.declared.tree.Interlocked.TheVariants as locked
use Rattle.c_syntax.specs.declared.tree.Condition.{Condition}
use Rattle.c_syntax.specs.declared.tree.Condition.TheVariants as conditions
use Rattle.c_syntax.specs.declared.tree.Attribute.{Attribute}
use Rattle.c_syntax.specs.declared.tree.Attribute.TheVariants as attributes
use Rattle.c_syntax.specs.Tokens as t
use Rattle.c_syntax.specs.Tokens.{Word}
use Rattle.c_syntax.specs.Lexing.{Lexeme}
use Rattle.c_syntax.specs.Classes.{key, spec, sign}
use Rattle.c_syntax.specs.Expressions as e
use Rattle.c_syntax.specs.Expressions.{Id, Ty, Exp, Exps, Inter, Comparison, CallTree, Rhs, Effect, Assignment}
use Rattle.c_syntax.specs.Ghosts as g
use Rattle.c_syntax.specs.Ghosts.{Members, OwnsEffect, GhostRhs, GStm, GStms}
use Rattle.c_syntax.specs.Statements as st
use Rattle.c_syntax.specs.Statements.{Inv, Stm, Stms, Braces}
use Rattle.c_syntax.specs.Items as i
use Rattle.c_syntax.specs.Items.{Written, Clause, Param, FunctionTree, FieldTree, Member, StructTree, Item}

-- ---- nonterminals

-- the levels of expressions, from the operators that bind tightest on; code has none above the conditional
pub data Tier : Type 0 where
  Prefix : Tier
  Product : Tier
  Sum : Tier
  Order : Tier
  Equality : Tier
  Conjunction : Tier
  Disjunction : Tier
  Choice : Tier
  Implication : Tier
  Equivalence : Tier

-- code, or a spec
pub data Mode : Type 0 where
  Code : Mode
  InSpec : Mode

pub data N : Type 0 where
  Level : Mode → Tier → N
  Primary : Mode → N
  -- a number, `NULL` or brackets
  Unnamed : N
  -- what stands right of a `=`, where it is no `malloc` or Interlocked call
  Start : N
  -- left sides: a name with arrows behind, and something else with one arrow at least; in ghost code they may end with `->\owns`
  NamePlace : N
  OtherPlace : N
  AnyPlace : N
  GhostName : N
  GhostOther : N
  SetStart : N
  OwnedSet : N
  -- a quantifier right of `\in`, its body, what the body joins, and what stands left of an `\in` there
  SetQuantifier : N
  SetBody : N
  Membership : N
  Element : N
  InterlockedCall : N
  Allocation : N
  GhostArgument : N
  Assigned : N
  MakeClaim : N
  GhostBody : N
  GhostStatement : N
  BlockOf : N
  Statement : N
  -- a statement, or an invariant in front of a loop's body
  LoopItem : N
  WritesOf : N
  ClauseOf : N
  MemberOf : N
  ItemOf : N
  Program : N

-- an expression, or a cast in front of a `malloc`
pub data Begun : Type 0 where
  Plain : Exp → Begun
  Cast : Id → Begun

-- a right side that is done, or that may turn out to be a call
pub data Pending : Type 0 where
  Done : Rhs → Pending
  Open : Exp → Pending

-- what each nonterminal's tree is
abbrev pub V : N → Type 0
V (Level m l) = Exp
V (Primary m) = Exp
V Unnamed = Exp
V Start = Begun
V NamePlace = Exp
V OtherPlace = Exp
V AnyPlace = Exp
V GhostName = Exp
V GhostOther = Exp
V SetStart = Exp
V OwnedSet = Exp
V SetQuantifier = Exp
V SetBody = Exp
V Membership = Exp
V Element = Exp
V InterlockedCall = Inter × Option Comparison
V Allocation = Span × Id
V GhostArgument = Exp
V Assigned = Assignment
V MakeClaim = GhostRhs
V GhostBody = GStm
V GhostStatement = GStm
V BlockOf = Braces
V Statement = Stm
V LoopItem = Inv ⊎ Stm
V WritesOf = Written
V ClauseOf = Clause
V MemberOf = Member
V ItemOf = Item
V Program = List Item

abbrev pub P : Type 0 → Type 1
P = Part N V Lexeme

abbrev pub R : Type 0 → Type 1
R = Rule N V Lexeme

infixr 5 ◌▷◌
abbrev pub ◌▷◌ : {A B : Type 0} → P B → P (B → A) → P A
p ▷ q = row p q

-- ---- tokens

abbrev pub name_text : Word → List ℕ
name_text (t.Name x) = x
name_text (t.Key x) = []
name_text (t.Spec x) = []
name_text t.OtherSpec = []
name_text (t.Number n ty) = []
name_text (t.Mark x) = []
name_text t.End = []

abbrev pub number_exp : Span → Word → Exp
number_exp place (t.Number n ty) = e.Number place n ty
number_exp place (t.Name x) = e.Null place
number_exp place (t.Key x) = e.Null place
number_exp place (t.Spec x) = e.Null place
number_exp place t.OtherSpec = e.Null place
number_exp place (t.Mark x) = e.Null place
number_exp place t.End = e.Null place

abbrev pub id_of : Lexeme → Id
id_of x = record { place = x.place; name = name_text x.word }

-- a word or sign, with its place
abbrev pub word : ℕ → P Span
word class = token class 0 (λ x. x.place)

-- a name that counts as 1 high, and one in a tree that is nothing but it
abbrev pub name : P Id
name = token 1 1 id_of

abbrev pub leaf_name : P Id
leaf_name = token 1 0 id_of

-- ---- parts that recur

abbrev pub optional : {A : Type 0} → P A → P (Option A)
optional p = by_next (p ▷ nothing (λ x. Some x)) (nothing None)

abbrev pub flag : ℕ → P Bool
flag class = by_next (token class 0 (λ x. true)) (nothing false)

-- one, and further ones behind commas
abbrev pub list : {A : Type 0} → P A → P (List A)
list p = p ▷ many (word (sign s.Comma) ▷ p ▷ nothing (λ x c. x)) (λ xs. xs) ▷ nothing (λ xs x. x ∷ xs)

abbrev pub list_or_none : {A : Type 0} → P A → P (List A)
list_or_none p = by_next (list p) (nothing [])

abbrev pub exps_of : List Exp → Exps
exps_of [] = e.Stop
exps_of (x ∷ xs) = e.With x (exps_of xs)

abbrev pub stms_of : List Stm → Stms
stms_of [] = st.Empty
stms_of (x ∷ xs) = st.More x (stms_of xs)

abbrev pub ghosts_of : List GStm → GStms
ghosts_of [] = g.Empty
ghosts_of (x ∷ xs) = g.More x (ghosts_of xs)

-- in brackets
abbrev pub inside : {A : Type 0} → P A → P A
inside p = word (sign s.Open) ▷ p ▷ word (sign s.Close) ▷ nothing (λ c x o. x)

-- an expression of code, one of a spec, and a whole spec
abbrev pub code : P Exp
code = below (Level Code Choice) (λ x. x)

abbrev pub spec_exp : P Exp
spec_exp = below (Level InSpec Choice) (λ x. x)

abbrev pub whole_spec : P Exp
whole_spec = below (Level InSpec Equivalence) (λ x. x)

-- ---- types

abbrev pub maybe_int : P (Option Span)
maybe_int = optional (word (key k.Int))

-- what follows the word `unsigned`
abbrev pub unsigned_behind : P Ty
unsigned_behind = by_next (word (key k.Long) ▷ word (key k.Long) ▷ maybe_int ▷ nothing (λ i l m. e.Integer c.UnsignedLongLong)) (maybe_int ▷ nothing (λ i. e.Integer c.Unsigned))

-- a type, with the place of its first token
abbrev pub int_type : P (Span × Ty)
int_type =
    by_next (token (key k.Int) 0 (λ x. (x.place, e.Integer c.Int)))
    (by_next (word (key k.Long) ▷ word (key k.Long) ▷ maybe_int ▷ nothing (λ i l m. (m, e.Integer c.LongLong)))
    (word (key k.Unsigned) ▷ unsigned_behind ▷ nothing (λ ty u. (u, ty))))

abbrev pub struct_pointer : P (Span × Id)
struct_pointer = word (key k.Struct) ▷ name ▷ word (sign s.Star) ▷ nothing (λ a x st. (st, x))

abbrev pub ctype : P (Span × Ty)
ctype = by_next int_type (struct_pointer ▷ nothing (λ x. (x.0, e.Pointer x.1)))

abbrev pub gtype : P (Span × Ty)
gtype = by_next ctype (by_next (token (spec w.Object) 0 (λ x. (x.place, e.Object))) (token (spec w.Claim) 0 (λ x. (x.place, e.Claim))))

-- ---- expressions

abbrev pub leaf : {A : Type 0} → ℕ → (Lexeme → A) → R A
leaf class f = form (token class 0 f)

abbrev pub number : R Exp
number = leaf 2 (λ x. number_exp x.place x.word)

abbrev pub null : R Exp
null = leaf (key k.Null) (λ x. e.Null x.place)

abbrev pub named : R Exp
named = leaf 1 (λ x. e.Name (id_of x))

abbrev pub top : Mode → N
top Code = Level Code Choice
top InSpec = Level InSpec Equivalence

abbrev pub in_brackets : Mode → P Exp
in_brackets Code = code
in_brackets InSpec = whole_spec

abbrev pub group : Mode → R Exp
group m = form (word (sign s.Open) ▷ in_brackets m ▷ word (sign s.Close) ▷ nothing (λ c x o. e.Group o x))

abbrev pub constant : (class : ℕ) → Constant → R Exp
constant class x = leaf class (λ y. e.Word y.place x)

abbrev pub apply : (class : ℕ) → SpecFunction → P Exp → R Exp
apply class f p = form (word class ▷ inside p ▷ nothing (λ x o. e.Apply o f x))

abbrev pub two : {A : Type 0} → P Exp → P Exp → (Exp → Exp → A) → P A
two p q f = word (sign s.Open) ▷ p ▷ word (sign s.Comma) ▷ q ▷ word (sign s.Close) ▷ nothing (λ c y m x o. f x y)

abbrev pub several : (class : ℕ) → ListWord → R Exp
several class w = form (word class ▷ inside (list spec_exp) ▷ nothing (λ xs o. e.Several o w (exps_of xs)))

-- `\this->\owner`, which is 2 high as every arrow behind a word
abbrev pub this_owner : P Span
this_owner = word (spec w.This) ▷ word (sign s.Arrow) ▷ token (spec w.Owner) 2 (λ x. x.place) ▷ nothing (λ o a t. t)

abbrev pub quantified : (class : ℕ) → Quantifier → R Exp
quantified class q = form (word class ▷ gtype ▷ name ▷ word (sign s.Semicolon) ▷ whole_spec ▷ nothing (λ x m n ty o. e.Quantified o q ty.1 n x))

-- what only a spec has
abbrev pub spec_word : R Exp
spec_word =
    pick (constant (spec w.True) constants.True) (pick (constant (spec w.False) constants.False) (pick (constant (spec w.This) constants.This) (pick (constant (spec w.Me) constants.Me) (pick (constant (spec w.Result) constants.Result)
    (pick (apply (spec w.Old) functions.Old whole_spec) (pick (apply (spec w.Unchanged) functions.Unchanged whole_spec) (pick (apply (spec w.Wrapped) functions.Wrapped spec_exp) (pick (apply (spec w.WrappedUnclaimed) functions.WrappedUnclaimed spec_exp)
    (pick (apply (spec w.Mutable) functions.Mutable spec_exp) (pick (apply (spec w.Fresh) functions.Fresh spec_exp)
    (pick (several (spec w.Mine) lists.Mine) (pick (several (spec w.ClaimsOnly) lists.ClaimsOnly)
    (pick (form (word (spec w.ClaimsObject) ▷ two spec_exp spec_exp (λ x y o. e.ClaimsObject o x y)))
    (pick (form (word (spec w.Claims) ▷ two spec_exp whole_spec (λ x y o. e.Claims o x y)))
    (form (word (spec w.Approves) ▷ word (sign s.Open) ▷ this_owner ▷ word (sign s.Comma) ▷ name ▷ word (sign s.Close) ▷ nothing (λ c x m o b p. e.Approves p x)))))))))))))))))

-- quantifiers reach as far right as they can
abbrev pub quantifier : R Exp
quantifier = pick (quantified (spec w.Forall) quantifiers.ForAll) (quantified (spec w.Exists) quantifiers.Exists)

abbrev pub unnamed : Mode → R Exp
unnamed m = pick number (pick null (group m))

abbrev pub primary : Mode → R Exp
primary Code = pick named (unnamed Code)
primary InSpec = pick named (pick (unnamed InSpec) (pick spec_word quantifier))

-- what stands behind an arrow
abbrev pub field : P (Span → Exp → Exp)
field = name ▷ nothing (λ x o l. e.Field o l x)

abbrev pub status : (class : ℕ) → Status → P (Span → Exp → Exp)
status class x = token class 0 (λ y o l. e.State o l y.place x)

abbrev pub suffix : Mode → P (Span → Exp → Exp)
suffix Code = field
suffix InSpec = by_next field (by_next (status (spec w.Closed) statuses.Closed) (by_next (status (spec w.Owner) statuses.Owner) (status (spec w.ClaimCount) statuses.ClaimCount)))

abbrev pub owns : P (Span → Exp → Exp)
owns = token (spec w.Owns) 0 (λ y o l. e.Owns o l y.place)

-- The levels over what stands leftmost, which is an expression or begins as one: plain makes it of an expression, over changes the expression that it is, and goes says whether an operator may follow.
module _ {A : Type 0} (m : Mode) (plain : Exp → A) (over : (Exp → Exp) → A → A) (goes : A → Bool) where
  abbrev pub links : R A → P (A → A) → R A
  links left link = chain left goes link (λ l f. f l)

  abbrev pub operator : (class : ℕ) → BinaryOperator → Tier → P (A → A)
  operator class o right = word class ▷ below (Level m right) (λ x. x) ▷ nothing (λ r p l. over (λ x. e.Binary p o x r) l)

  abbrev pub postfixed : R A → R A
  postfixed leftmost = links leftmost (word (sign s.Arrow) ▷ suffix m ▷ nothing (λ f o l. over (f o) l))

  abbrev pub prefixed : R A → R A
  prefixed leftmost =
      pick (form (word (sign s.Not) ▷ below (Level m Prefix) (λ x. x) ▷ nothing (λ x o. plain (e.Unary o unaries.Not x)))) (pick (form (word (sign s.Minus) ▷ below (Level m Prefix) (λ x. x) ▷ nothing (λ x o. plain (e.Unary o unaries.Negate x)))) (postfixed leftmost))

  abbrev pub products : R A → R A
  products leftmost = links (prefixed leftmost) (by_next (operator (sign s.Star) op.Times Prefix) (by_next (operator (sign s.Slash) op.Over Prefix) (operator (sign s.Percent) op.Modulo Prefix)))

  abbrev pub sums : R A → R A
  sums leftmost = links (products leftmost) (by_next (operator (sign s.Plus) op.Plus Product) (operator (sign s.Minus) op.Minus Product))

  abbrev pub compares : P (A → A)
  compares = by_next (operator (sign s.Less) op.Less Sum) (by_next (operator (sign s.LessEqual) op.LessEqual Sum) (by_next (operator (sign s.Greater) op.Greater Sum) (operator (sign s.GreaterEqual) op.GreaterEqual Sum)))

  abbrev pub order_of : Mode → P (A → A)
  order_of Code = compares
  order_of InSpec = by_next compares (word (spec w.In) ▷ below OwnedSet (λ x. x) ▷ nothing (λ r p l. over (λ x. e.Binary p op.In x r) l))

  abbrev pub orders : R A → R A
  orders leftmost = links (sums leftmost) (order_of m)

  abbrev pub equalities : R A → R A
  equalities leftmost = links (orders leftmost) (by_next (operator (sign s.Equal) op.Equal Order) (operator (sign s.NotEqual) op.NotEqual Order))

  abbrev pub conjunctions : R A → R A
  conjunctions leftmost = links (equalities leftmost) (operator (sign s.And) op.And Equality)

  abbrev pub disjunctions : R A → R A
  disjunctions leftmost = links (conjunctions leftmost) (operator (sign s.Or) op.Or Conjunction)

  abbrev pub choices : R A → R A
  choices leftmost =
      links (disjunctions leftmost) (word (sign s.Question) ▷ below (Level m Choice) (λ x. x) ▷ word (sign s.Colon) ▷ below (Level m Choice) (λ x. x) ▷ nothing (λ z c y o l. over (λ x. e.Conditional o x y z) l))

  abbrev pub implications : R A → R A
  implications leftmost = links (choices leftmost) (operator (sign s.Implies) op.Implies Implication)

  abbrev pub equivalences : R A → R A
  equivalences leftmost = links (implications leftmost) (operator (sign s.Equivalent) op.Equivalent Implication)

abbrev pub always : {A : Type 0} → A → Bool
always x = true

abbrev pub same : Exp → Exp
same x = x

abbrev pub change : (Exp → Exp) → Exp → Exp
change f x = f x

abbrev pub level : Mode → Tier → R Exp
level m Prefix = prefixed m same change always (primary m)
level m Product = products m same change always (primary m)
level m Sum = sums m same change always (primary m)
level m Order = orders m same change always (primary m)
level m Equality = equalities m same change always (primary m)
level m Conjunction = conjunctions m same change always (primary m)
level m Disjunction = disjunctions m same change always (primary m)
level m Choice = choices m same change always (primary m)
level Code Implication = choices Code same change always (primary Code)
level InSpec Implication = implications InSpec same change always (primary InSpec)
level Code Equivalence = choices Code same change always (primary Code)
level InSpec Equivalence = equivalences InSpec same change always (primary InSpec)

-- ---- left and right sides

-- an arrow and a field
abbrev pub arrow : P (Exp → Exp)
arrow = word (sign s.Arrow) ▷ field ▷ nothing (λ f o l. f o l)

abbrev pub apply_to : Exp → (Exp → Exp) → Exp
apply_to l f = f l

-- with one arrow at least
abbrev pub after_arrow : P Exp → P (Exp → Exp) → R Exp
after_arrow q p = form (q ▷ p ▷ nothing (λ f x. f x))

abbrev pub name_place : R Exp
name_place = chain named always arrow apply_to

abbrev pub other_place : R Exp
other_place = chain (after_arrow (below Unnamed (λ x. x)) arrow) always arrow apply_to

abbrev pub any_place : R Exp
any_place = chain (after_arrow (below (Primary Code) (λ x. x)) arrow) always arrow apply_to

-- in ghost code an arrow may end with the owned set
abbrev pub ghost_arrow : P (Exp → Exp)
ghost_arrow = word (sign s.Arrow) ▷ by_next field owns ▷ nothing (λ f o l. f o l)

abbrev pub is_owns : Exp → Bool
is_owns (e.Owns o l w) = true
is_owns _ = false

abbrev pub is_no_owns : Exp → Bool
is_no_owns (e.Owns o l w) = false
is_no_owns _ = true

abbrev pub ghost_name : R Exp
ghost_name = chain named is_no_owns ghost_arrow apply_to

abbrev pub ghost_other : R Exp
ghost_other = chain (after_arrow (below Unnamed (λ x. x)) ghost_arrow) is_no_owns ghost_arrow apply_to

-- a primary of a spec that is no quantifier
abbrev pub set_primary : R Exp
set_primary = pick named (pick (unnamed InSpec) spec_word)

-- A quantifier right of `\in`: an arrow has to follow it, so its body joins memberships alone, which no arrow goes on with.
abbrev pub set_quantified : (class : ℕ) → Quantifier → R Exp
set_quantified class q = form (word class ▷ gtype ▷ name ▷ word (sign s.Semicolon) ▷ below SetBody (λ x. x) ▷ nothing (λ x m n ty o. e.Quantified o q ty.1 n x))

abbrev pub set_quantifier : R Exp
set_quantifier = pick (set_quantified (spec w.Forall) quantifiers.ForAll) (set_quantified (spec w.Exists) quantifiers.Exists)

-- what stands right of `\in` begins with a primary
abbrev pub set_start : R Exp
set_start = pick set_primary set_quantifier

-- an arrow, and what it leaves an expression with
abbrev pub spec_arrow : P (Exp → Exp)
spec_arrow = word (sign s.Arrow) ▷ suffix InSpec ▷ nothing (λ f o l. f o l)

-- what stands left of an `\in` in such a body
abbrev pub quantified_field : R Exp
quantified_field = after_arrow (below SetQuantifier (λ x. x)) spec_arrow

abbrev pub element_start : R Exp
element_start = pick set_primary quantified_field

abbrev pub element : R Exp
element = chain element_start always spec_arrow apply_to

-- an operator of such a body, with what stands right of it
abbrev pub in_set : P (Exp → Exp)
in_set = word (spec w.In) ▷ below OwnedSet (λ x. x) ▷ nothing (λ r p l. e.Binary p op.In l r)

abbrev pub and_membership : P (Exp → Exp)
and_membership = word (sign s.And) ▷ below Membership (λ x. x) ▷ nothing (λ r p l. e.Binary p op.And l r)

abbrev pub implies_body : P (Exp → Exp)
implies_body = word (sign s.Implies) ▷ below SetBody (λ x. x) ▷ nothing (λ r p l. e.Binary p op.Implies l r)

abbrev pub first_membership : R Exp
first_membership = after_arrow (below Element (λ x. x)) in_set

abbrev pub memberships : R Exp
memberships = chain first_membership always in_set apply_to

abbrev pub set_conjunction : R Exp
set_conjunction = chain memberships always and_membership apply_to

abbrev pub set_body : R Exp
set_body = chain set_conjunction always implies_body apply_to

abbrev pub owned_set : R Exp
owned_set = climb (below SetStart (λ x. x)) (sign s.Arrow) (suffix InSpec ▷ nothing (λ f o l. f o.place l)) (owns ▷ nothing (λ f o l. f o.place l))

-- what follows the word `malloc`
abbrev pub size_of : P (Span → Id)
size_of = word (sign s.Open) ▷ word (key k.Sizeof) ▷ word (sign s.Open) ▷ word (key k.Struct) ▷ name ▷ word (sign s.Close) ▷ word (sign s.Close) ▷ nothing (λ d c x st b z a m. x)

abbrev pub allocation : R (Span × Id)
allocation = form (word (key k.Malloc) ▷ size_of ▷ nothing (λ f m. (m, f m)))

-- arguments, and ghost arguments behind them
abbrev pub ghost_arguments : P (List Exp)
ghost_arguments = many (below GhostArgument (λ x. x)) (λ xs. xs)

abbrev pub call_tail : P (Id → CallTree)
call_tail = word (sign s.Open) ▷ list_or_none code ▷ ghost_arguments ▷ word (sign s.Close) ▷ nothing (λ c gs xs o f. record { function = f; arguments = xs; ghost_arguments = gs })

abbrev pub ghost_argument : R Exp
ghost_argument = form (word (sign s.Annotation) ▷ word (key k.Ghost) ▷ code ▷ word (sign s.Close) ▷ nothing (λ c x gh a. x))

abbrev pub locked_word : P (Span × Interlocked)
locked_word =
    by_next (token (key k.CompareExchange) 0 (λ x. (x.place, locked.CompareExchange)))
    (by_next (token (key k.Exchange) 0 (λ x. (x.place, locked.Exchange))) (by_next (token (key k.Increment) 0 (λ x. (x.place, locked.Increment))) (token (key k.Decrement) 0 (λ x. (x.place, locked.Decrement)))))

abbrev pub not_compared : Inter × Option Comparison → Bool
not_compared (x, None) = true
not_compared (x, Some y) = false

abbrev pub compared_with : Inter × Option Comparison → Comparison → Inter × Option Comparison
compared_with x y = (x.0, Some y)

abbrev pub comparison : P Comparison
comparison = by_next (word (sign s.Equal) ▷ code ▷ nothing (λ x o. record { place = o; is_equal = true; other = x })) (word (sign s.NotEqual) ▷ code ▷ nothing (λ x o. record { place = o; is_equal = false; other = x }))

abbrev pub interlocked_call : R (Inter × Option Comparison)
interlocked_call =
    chain (form (locked_word ▷ word (sign s.Open) ▷ word (sign s.Ampersand) ▷ below AnyPlace (λ x. x) ▷ many (word (sign s.Comma) ▷ code ▷ nothing (λ x m. x)) (λ xs. xs) ▷ word (sign s.Close)
    ▷ nothing (λ c xs x a o w. (record { place = w.0; function = w.1; field = x; arguments = xs }, None)))) not_compared comparison compared_with

-- an expression that a right side begins with, or a cast
abbrev pub over_begun : (Exp → Exp) → Begun → Begun
over_begun f (Plain x) = Plain (f x)
over_begun f (Cast x) = Cast x

abbrev pub is_plain : Begun → Bool
is_plain (Plain x) = true
is_plain (Cast x) = false

abbrev pub is_cast : Begun → Bool
is_cast (Plain x) = false
is_cast (Cast x) = true

abbrev pub cast_or_group : P (Span → Begun)
cast_or_group = by_next (struct_pointer ▷ word (sign s.Close) ▷ nothing (λ c x o. Cast x.1)) (code ▷ word (sign s.Close) ▷ nothing (λ c x o. Plain (e.Group o x)))

abbrev pub start_primary : R Begun
start_primary = pick (leaf 1 (λ x. Plain (e.Name (id_of x)))) (pick (leaf 2 (λ x. Plain (number_exp x.place x.word))) (pick (leaf (key k.Null) (λ x. Plain (e.Null x.place))) (form (word (sign s.Open) ▷ cast_or_group ▷ nothing (λ f o. f o)))))

abbrev pub start : R Begun
start = choices Code (λ x. Plain x) over_begun is_plain start_primary

abbrev pub cast_name : Begun → Option Id
cast_name (Plain x) = None
cast_name (Cast x) = Some x

abbrev pub plain_of : Begun → Exp
plain_of (Plain x) = x
plain_of (Cast x) = e.Name x

-- a cast stands only in front of a `malloc`
abbrev pub cast_done : P Pending
cast_done = by_value (below Start (λ x. x)) is_cast (word (key k.Malloc) ▷ size_of ▷ nothing (λ f m x. Done (e.Malloc (cast_name x) m (f m)))) (nothing (λ x. Open (plain_of x)))

abbrev pub is_bare : Pending → Bool
is_bare (Done x) = false
is_bare (Open (e.Name x)) = true
is_bare (Open _) = false

abbrev pub callee : Pending → Id
callee (Done x) = record { place = record { line = 0; column = 0 }; name = [] }
callee (Open (e.Name x)) = x
callee (Open _) = record { place = record { line = 0; column = 0 }; name = [] }

abbrev pub done : Pending → Rhs
done (Done x) = x
done (Open x) = e.Value x

abbrev pub rhs : P Rhs
rhs =
    by_next (below Allocation (λ x. e.Malloc None x.0 x.1)) (by_next (below InterlockedCall (λ x. e.Locked x.0 x.1))
    (by_value cast_done is_bare (by_next (call_tail ▷ nothing (λ f x. e.Called (f (callee x)))) (nothing done)) (nothing done)))

abbrev pub assignment_tail : P (Exp → Assignment)
assignment_tail =
    by_next (word (sign s.Assign) ▷ rhs ▷ nothing (λ x o l. record { left = l; place = o; effect = e.Set x })) (by_next (word (sign s.AddAssign) ▷ code ▷ nothing (λ x o l. record { left = l; place = o; effect = e.Add x }))
    (by_next (word (sign s.SubtractAssign) ▷ code ▷ nothing (λ x o l. record { left = l; place = o; effect = e.Subtract x }))
    (by_next (token (sign s.Increment) 0 (λ x l. record { left = l; place = x.place; effect = e.Increment })) (token (sign s.Decrement) 0 (λ x l. record { left = l; place = x.place; effect = e.Decrement })))))

-- an assignment of a `for`
abbrev pub assigned : R Assignment
assigned = pick (form (below NamePlace (λ x. x) ▷ assignment_tail ▷ nothing (λ f l. f l))) (form (below OtherPlace (λ x. x) ▷ assignment_tail ▷ nothing (λ f l. f l)))

-- the place of an expression's first token
abbrev pub first_place : Exp → Span
first_place (e.Number p n ty) = p
first_place (e.Name x) = x.place
first_place (e.Null p) = p
first_place (e.Word p x) = p
first_place (e.Group p x) = p
first_place (e.Field p x f) = first_place x
first_place (e.State p x q y) = first_place x
first_place (e.Owns p x q) = first_place x
first_place (e.Unary p o x) = p
first_place (e.Binary p o x y) = first_place x
first_place (e.Conditional p x y z) = first_place x
first_place (e.Apply p f x) = p
first_place (e.Several p w xs) = p
first_place (e.ClaimsObject p x y) = p
first_place (e.Claims p x y) = p
first_place (e.Approves p x) = p
first_place (e.Quantified p q ty x y) = p

-- ---- ghost statements

abbrev pub set : P (List Exp)
set = word (sign s.BraceOpen) ▷ list_or_none code ▷ word (sign s.BraceClose) ▷ nothing (λ c xs o. xs)

abbrev pub members : P Members
members = by_next (set ▷ nothing (λ xs. g.Several xs)) (code ▷ nothing (λ x. g.One x))

abbrev pub make_claim : R GhostRhs
make_claim = form (word (spec w.MakeClaim) ▷ word (sign s.Open) ▷ set ▷ word (sign s.Comma) ▷ whole_spec ▷ word (sign s.Close) ▷ nothing (λ c x m xs o p. g.MakeClaim p xs x))

abbrev pub ghost_rhs : P GhostRhs
ghost_rhs = by_next (below MakeClaim (λ x. x)) (code ▷ nothing (λ x. g.Value x))

abbrev pub semicolon_or_none : P (Option Span)
semicolon_or_none = optional (word (sign s.Semicolon))

-- what stands behind a left side, and behind an owned set
abbrev pub ghost_set : P (Exp → GStm)
ghost_set = word (sign s.Assign) ▷ ghost_rhs ▷ semicolon_or_none ▷ nothing (λ z x o l. g.Assign (first_place l) l o x)

abbrev pub owns_change : P (Span × OwnsEffect)
owns_change =
    by_next (word (sign s.Assign) ▷ set ▷ nothing (λ xs o. (o, g.Become xs))) (by_next (word (sign s.AddAssign) ▷ members ▷ nothing (λ x o. (o, g.Join x))) (word (sign s.SubtractAssign) ▷ members ▷ nothing (λ x o. (o, g.Leave x))))

abbrev pub owns_set : P (Exp → GStm)
owns_set = owns_change ▷ semicolon_or_none ▷ nothing (λ z x l. g.Owns (first_place l) l x.0 x.1)

abbrev pub ghost_if : Span → Exp → GStm → Option GStm → GStm
ghost_if p x a None = g.If p x a
ghost_if p x a (Some b) = g.IfElse p x a b

abbrev pub ghost_first : P GhostRhs
ghost_first = word (sign s.Assign) ▷ ghost_rhs ▷ nothing (λ x o. x)

abbrev pub ghost_wrap : P (Span → GStm)
ghost_wrap = by_next (word (key k.Wrap) ▷ code ▷ nothing (λ x u p. g.Wrap p x)) (word (key k.Unwrap) ▷ code ▷ nothing (λ x u p. g.Unwrap p x))

abbrev pub ghost_else : P GStm
ghost_else = word (key k.Else) ▷ below GhostBody (λ x. x) ▷ nothing (λ x l. x)

abbrev pub ghost_statement : R GStm
ghost_statement =
    pick (form (gtype ▷ name ▷ optional ghost_first ▷ semicolon_or_none ▷ nothing (λ z x n ty. g.Declare ty.0 ty.1 n x)))
    (pick (form (by_value (below GhostName (λ x. x)) is_owns owns_set ghost_set)) (pick (form (by_value (below GhostOther (λ x. x)) is_owns owns_set ghost_set))
    (pick (form (word (spec w.DestroyClaim) ▷ word (sign s.Open) ▷ code ▷ word (sign s.Comma) ▷ set ▷ word (sign s.Close) ▷ semicolon_or_none ▷ nothing (λ z c xs m x o p. g.DestroyClaim p x xs)))
    (pick (form (word (sign s.Annotation) ▷ ghost_wrap ▷ word (sign s.Close) ▷ semicolon_or_none ▷ nothing (λ z c f p. f p)))
    (form (word (key k.If) ▷ inside code ▷ below GhostBody (λ x. x) ▷ optional ghost_else ▷ semicolon_or_none ▷ nothing (λ z b a x p. ghost_if p x a b)))))))

abbrev pub ghost_body : R GStm
ghost_body = pick (form (word (sign s.BraceOpen) ▷ many (below GhostStatement (λ x. x)) (λ xs. xs) ▷ word (sign s.BraceClose) ▷ nothing (λ c xs o. g.Block o (ghosts_of xs)))) ghost_statement

-- ---- statements

abbrev pub block_of : R Braces
block_of = form (word (sign s.BraceOpen) ▷ many (below Statement (λ x. x)) (λ xs. xs) ▷ word (sign s.BraceClose) ▷ nothing (λ c xs o. record { start = o; all = stms_of xs; end = c }))

abbrev pub first_value : P Rhs
first_value = word (sign s.Assign) ▷ rhs ▷ nothing (λ x o. x)

abbrev pub is_name : Exp → Bool
is_name (e.Name x) = true
is_name _ = false

abbrev pub name_of : Exp → Id
name_of (e.Name x) = x
name_of _ = record { place = record { line = 0; column = 0 }; name = [] }

abbrev pub assign_statement : P (Exp → Stm)
assign_statement = assignment_tail ▷ word (sign s.Semicolon) ▷ nothing (λ c f l. st.Assign (first_place l) (f l))

abbrev pub call_statement : P (Exp → Stm)
call_statement = call_tail ▷ word (sign s.Semicolon) ▷ nothing (λ c f l. st.Call (first_place l) (f (name_of l)))

abbrev pub if_of : Span → Exp → Stm → Option Stm → Stm
if_of p x a None = st.If p x a
if_of p x a (Some b) = st.IfElse p x a b

abbrev pub else_part : P Stm
else_part = word (key k.Else) ▷ below Statement (λ x. x) ▷ nothing (λ x l. x)

-- invariants, and the body behind them
abbrev pub loop_body : P (List Inv × Stm)
loop_body = until (below LoopItem (λ x. x)) (λ xs x. (xs, x))

-- The statements that don't begin with `_(`, each as wrap makes of it.
module _ {A : Type 0} (wrap : Stm → A) where
  abbrev pub loops : R A
  loops =
      pick (form (word (key k.While) ▷ inside code ▷ loop_body ▷ nothing (λ b x p. wrap (st.While p x b.0 b.1))))
      (pick (form (word (key k.Do) ▷ loop_body ▷ word (key k.While) ▷ inside code ▷ word (sign s.Semicolon) ▷ nothing (λ c x q b p. wrap (st.Do p b.0 b.1 q x))))
      (form (word (key k.For) ▷ word (sign s.Open) ▷ optional (below Assigned (λ x. x)) ▷ word (sign s.Semicolon) ▷ code ▷ word (sign s.Semicolon) ▷ optional (below Assigned (λ x. x)) ▷ word (sign s.Close) ▷ loop_body
      ▷ nothing (λ b c z m y n x o p. wrap (st.For p x y z b.0 b.1)))))

  abbrev pub calls : R A
  calls =
      pick (form (word (key k.Return) ▷ optional code ▷ word (sign s.Semicolon) ▷ nothing (λ c x p. wrap (st.Return p x))))
      (pick (form (word (key k.VccSpawn) ▷ word (sign s.Open) ▷ name ▷ spawn_arguments ▷ word (sign s.Close) ▷ word (sign s.Semicolon) ▷ nothing (λ z c xs f o p. wrap (st.Spawn p (record { function = f; arguments = xs.0; ghost_arguments = xs.1 })))))
      (form (word (key k.Free) ▷ inside code ▷ word (sign s.Semicolon) ▷ nothing (λ c x p. wrap (st.Free p x)))))
    where
      spawn_arguments : P (List Exp × List Exp)
      spawn_arguments = by_next (word (sign s.Comma) ▷ list_or_none code ▷ ghost_arguments ▷ nothing (λ gs xs c. (xs, gs))) (nothing ([], []))

  abbrev pub simple : R A
  simple =
      pick (form (word (sign s.BraceOpen) ▷ many (below Statement (λ x. x)) (λ xs. xs) ▷ word (sign s.BraceClose) ▷ nothing (λ c xs o. wrap (st.Block o (stms_of xs) c)))) (pick (leaf (sign s.Semicolon) (λ x. wrap (st.Skip x.place)))
      (pick (form (ctype ▷ name ▷ optional first_value ▷ word (sign s.Semicolon) ▷ nothing (λ c x n ty. wrap (st.Declare ty.0 ty.1 n x))))
      (pick (form (by_value (below NamePlace (λ x. x)) is_name (by_next call_statement assign_statement) assign_statement ▷ nothing wrap))
      (pick (form (below OtherPlace (λ x. x) ▷ assign_statement ▷ nothing (λ f l. wrap (f l))))
      (pick (form (word (key k.If) ▷ inside code ▷ below Statement (λ x. x) ▷ optional else_part ▷ nothing (λ b a x p. wrap (if_of p x a b)))) (pick loops calls))))))

-- what stands behind `_(` in a statement
abbrev pub annotated : P (Span → Stm)
annotated =
    by_next (word (key k.Assert) ▷ whole_spec ▷ word (sign s.Close) ▷ nothing (λ c x q p. st.Assert p x)) (by_next (word (key k.Ghost) ▷ below GhostBody (λ x. x) ▷ word (sign s.Close) ▷ nothing (λ c x q p. st.Ghost p x))
    (by_next (word (key k.Wrap) ▷ code ▷ word (sign s.Close) ▷ nothing (λ c x q p. st.Wrap p x)) (by_next (word (key k.Unwrap) ▷ code ▷ word (sign s.Close) ▷ nothing (λ c x q p. st.Unwrap p x))
    (by_next (word (key k.Unwrapping) ▷ code ▷ word (sign s.Close) ▷ below BlockOf (λ x. x) ▷ nothing (λ b c x q p. st.Unwrapping p x b.all b.end))
    (word (key k.Atomic) ▷ list code ▷ word (sign s.Close) ▷ below BlockOf (λ x. x) ▷ nothing (λ b c xs q p. st.Atomic p xs b.all b.end))))))

abbrev pub statement : R Stm
statement = pick (simple (λ x. x)) (form (word (sign s.Annotation) ▷ annotated ▷ nothing (λ f p. f p)))

abbrev pub as_statement : Stm → Inv ⊎ Stm
as_statement x = inr x

abbrev pub invariant_tail : P (Span → Inv)
invariant_tail = word (key k.Invariant) ▷ whole_spec ▷ word (sign s.Close) ▷ nothing (λ c x q p. record { place = p; property = x })

abbrev pub loop_annotation : P (Span → Inv ⊎ Stm)
loop_annotation = by_next (invariant_tail ▷ nothing (λ f p. inl (f p))) (annotated ▷ nothing (λ f p. inr (f p)))

abbrev pub loop_item : R (Inv ⊎ Stm)
loop_item = pick (simple as_statement) (form (word (sign s.Annotation) ▷ loop_annotation ▷ nothing (λ f p. f p)))

-- ---- contracts, functions and structs

abbrev pub writes_of : R Written
writes_of = pick (form (word (spec w.Span) ▷ inside whole_spec ▷ nothing (λ x p. i.SpanOf p x))) (form (word (spec w.Extent) ▷ inside whole_spec ▷ nothing (λ x p. i.ExtentOf p x)))

abbrev pub written : P Written
written = by_next (below WritesOf (λ x. x)) (whole_spec ▷ nothing (λ x. i.Thing x))

abbrev pub condition : (class : ℕ) → Condition → P (Span → Clause)
condition class x = word class ▷ whole_spec ▷ nothing (λ y q p. i.Holds p x y)

abbrev pub clause_tail : P (Span → Clause)
clause_tail =
    by_next (condition (key k.Requires) conditions.Requires) (by_next (condition (key k.Ensures) conditions.Ensures) (by_next (condition (key k.Maintains) conditions.Maintains) (word (key k.Writes) ▷ list written ▷ nothing (λ xs q p. i.Writes p xs))))

abbrev pub clause_of : R Clause
clause_of = form (word (sign s.Annotation) ▷ clause_tail ▷ word (sign s.Close) ▷ nothing (λ c f p. f p))

abbrev pub param : P Param
param = ctype ▷ name ▷ nothing (λ n ty. record { ty = ty.1; name = n })

abbrev pub params : P (List Param)
params = by_next (word (key k.Void) ▷ nothing (λ v. [])) (list_or_none param)

abbrev pub ghost_param : P Param
ghost_param = word (sign s.Annotation) ▷ word (key k.Ghost) ▷ gtype ▷ name ▷ word (sign s.Close) ▷ nothing (λ c n ty gh a. record { ty = ty.1; name = n })

-- a function behind its name
abbrev pub function_tail : P (Id → Span → Option Ty → FunctionTree)
function_tail =
    word (sign s.Open) ▷ params ▷ many ghost_param (λ xs. xs) ▷ word (sign s.Close) ▷ many (below ClauseOf (λ x. x)) (λ xs. xs) ▷ below BlockOf (λ x. x)
    ▷ nothing (λ b cs c gs ps o n p ty. record { place = p; value = ty; name = n; parameters = ps; ghost_parameters = gs; contract = cs; body = b })

-- members are no higher than what is in them
abbrev pub leaf_pointer : P (Span × Ty)
leaf_pointer = word (key k.Struct) ▷ leaf_name ▷ word (sign s.Star) ▷ nothing (λ a x st. (st, e.Pointer x))

abbrev pub field_type : P (Span × Ty)
field_type = by_next int_type leaf_pointer

abbrev pub ghost_type : P (Span × Ty)
ghost_type = by_next field_type (by_next (token (spec w.Object) 0 (λ x. (x.place, e.Object))) (token (spec w.Claim) 0 (λ x. (x.place, e.Claim))))

abbrev pub member_field : P Member
member_field = flag (key k.Volatile) ▷ field_type ▷ leaf_name ▷ word (sign s.Semicolon) ▷ nothing (λ z n ty v. i.Field (record { is_ghost = false; is_volatile = v; ty = ty.1; name = n }))

abbrev pub ghost_field : P (Span → Member)
ghost_field = word (key k.Ghost) ▷ flag (key k.Volatile) ▷ ghost_type ▷ leaf_name ▷ semicolon_or_none ▷ word (sign s.Close) ▷ nothing (λ c z n ty v gh p. i.Field (record { is_ghost = true; is_volatile = v; ty = ty.1; name = n }))

abbrev pub member_annotation : P (Span → Member)
member_annotation = by_next (invariant_tail ▷ nothing (λ f p. i.Invariant (f p))) ghost_field

abbrev pub member_of : R Member
member_of = pick (form member_field) (form (word (sign s.Annotation) ▷ member_annotation ▷ nothing (λ f p. f p)))

abbrev pub attribute : P Attribute
attribute = by_next (token (key k.Claimable) 0 (λ x. attributes.Claimable)) (by_next (token (key k.DynamicOwns) 0 (λ x. attributes.DynamicOwns)) (token (key k.VolatileOwns) 0 (λ x. attributes.VolatileOwns)))

abbrev pub attribute_list : P (List Attribute)
attribute_list = word (sign s.Annotation) ▷ list attribute ▷ word (sign s.Close) ▷ nothing (λ c xs a. xs)

abbrev pub concat : List (List Attribute) → List Attribute
concat [] = []
concat (xs ∷ xss) = xs ++ concat xss

-- a struct behind its name
abbrev pub struct_tail : P (Id → Span → List Attribute → StructTree)
struct_tail = word (sign s.BraceOpen) ▷ many (below MemberOf (λ x. x)) (λ xs. xs) ▷ word (sign s.BraceClose) ▷ word (sign s.Semicolon) ▷ nothing (λ z c ms o n p as'. record { attributes = as'; place = p; name = n; members = ms })

abbrev pub pointer_function : P (Id → Span → Item)
pointer_function = word (sign s.Star) ▷ name ▷ function_tail ▷ nothing (λ f n a x p. i.Function (f n p (Some (e.Pointer x))))

abbrev pub result_type : P (Span × Option Ty)
result_type = by_next (token (key k.Void) 0 (λ x. (x.place, None))) (int_type ▷ nothing (λ ty. (ty.0, Some ty.1)))

abbrev pub item_of : R Item
item_of =
    pick (form (attribute_list ▷ many attribute_list (λ xs. xs) ▷ word (key k.Struct) ▷ name ▷ struct_tail ▷ nothing (λ f n p more one. i.Struct (f n p (concat (one ∷ more))))))
    (pick (form (word (key k.Struct) ▷ name ▷ by_next (struct_tail ▷ nothing (λ f n p. i.Struct (f n p []))) pointer_function ▷ nothing (λ f n p. f n p))) (form (result_type ▷ name ▷ function_tail ▷ nothing (λ f n ty. i.Function (f n ty.0 ty.1)))))

-- a program with an item at least
abbrev pub program : R (List Item)
program = form (below ItemOf (λ x. x) ▷ many (below ItemOf (λ x. x)) (λ xs. xs) ▷ nothing (λ xs x. x ∷ xs))

-- ---- the grammar

abbrev pub rule : (n : N) → R (V n)
rule (Level m l) = level m l
rule (Primary m) = primary m
rule Unnamed = unnamed Code
rule Start = start
rule NamePlace = name_place
rule OtherPlace = other_place
rule AnyPlace = any_place
rule GhostName = ghost_name
rule GhostOther = ghost_other
rule SetStart = set_start
rule OwnedSet = owned_set
rule SetQuantifier = set_quantifier
rule SetBody = set_body
rule Membership = memberships
rule Element = element
rule InterlockedCall = interlocked_call
rule Allocation = allocation
rule GhostArgument = ghost_argument
rule Assigned = assigned
rule MakeClaim = make_claim
rule GhostBody = ghost_body
rule GhostStatement = ghost_statement
rule BlockOf = block_of
rule Statement = statement
rule LoopItem = loop_item
rule WritesOf = writes_of
rule ClauseOf = clause_of
rule MemberOf = member_of
rule ItemOf = item_of
rule Program = program
