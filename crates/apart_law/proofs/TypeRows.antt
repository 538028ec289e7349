-- Each row of the grammar builds trees whose parameters, declarations of code and fields that aren't ghost have types of C.
use Rattle.std.proofs.Common.{◌≡◌, ◌⊎◌, ℕ, Bool, true, false, List, [], ◌∷◌, ◌++◌, map, Option, Some, None, refl, sym, subst}
use Rattle.std.specs.Prelude.{◌||◌}
use Rattle.ebnf.specs.Rules.{below, many, by_next, by_value}
use Rattle.ebnf.specs.Sets.{PartOf, RuleOf}
use Rattle.ebnf.specs.Tools.{and_left, and_right}
use Rattle.c_syntax.specs.declared.token.Span.{Span}
use Rattle.c_syntax.specs.declared.tree.Attribute.{Attribute}
use Rattle.c_syntax.specs.Expressions as e
use Rattle.c_syntax.specs.Expressions.{Id, Ty, Exp}
use Rattle.c_syntax.specs.Faults as fa
use Rattle.c_syntax.specs.Faults.{IsSource}
use Rattle.c_syntax.specs.Ghosts as g
use Rattle.c_syntax.specs.Ghosts.{GStm, GStms}
use Rattle.c_syntax.specs.Grammar as gr
use Rattle.c_syntax.specs.Grammar.{N, V, BlockOf, Statement, LoopItem, MemberOf, ItemOf, Program}
use Rattle.c_syntax.specs.Items as it
use Rattle.c_syntax.specs.Items.{Param, FieldTree, Member, Item}
use Rattle.c_syntax.specs.Language.{language}
use Rattle.c_syntax.specs.Lexing.{Lexeme}
use Rattle.c_syntax.specs.Statements.{Inv, Stm}
use Rattle.object_types.specs.Sets.{every}
use Rattle.typing_spec.specs.Declarations.{fields}
use Rattle.typing_spec.specs.Contexts.{Variable}
use Rattle.typed_program.specs.Variables.{ghost_declared, ghosts_declared, declared, all_declared, parameter}
use Rattle.tree_forms.specs.InForm.{if_any}
use Rattle.tree_forms.proofs.Fine.{Tests, Each, Known, Good, either, pair, token_is, tree_is, ends, both, use_of, part_then, value_then, all_of, up_to, a_form, a_pick, found}
use Rattle.typed_laws.proofs.Basics.{every_append}
use Rattle.apart_law.specs.Premises.{is_c_type, item_of_c}
use Rattle.apart_law.proofs.AnyPart.{any_rule, past}

-- ---- tests

abbrev of_c : Variable → Bool
of_c v = v.is_ghost || is_c_type v.ty

-- what a statement declares
abbrev stm_of_c : Stm → Bool
stm_of_c x = every of_c (declared x)

abbrev in_loop : Inv ⊎ Stm → Bool
in_loop x = either (λ i. true) stm_of_c x

abbrev member_of_c : Member → Bool
member_of_c (it.Field f) = f.is_ghost || is_c_type f.ty
member_of_c (it.Invariant x) = true

-- the test of each nonterminal's tree
abbrev high : (n : N) → V n → Bool
high BlockOf x = every of_c (all_declared x.all)
high Statement x = stm_of_c x
high LoopItem x = in_loop x
high MemberOf x = member_of_c x
high ItemOf x = item_of_c x
high Program x = every item_of_c x
high _ x = true

abbrev tests : Tests
tests = record { g = language; Ok = λ x. Unit {0}; high = high }

abbrev Has : {A : Type 0} → PartOf language A → (A → Type 0) → Type 0
Has p Q = Known tests p Q

abbrev Part_is : {A : Type 0} → PartOf language A → (A → Bool) → Type 0
Part_is p v = Known tests p (λ a. v a ≡ true)

abbrev Rule_is : {A : Type 0} → RuleOf language A → (A → Bool) → Type 0
Rule_is r v = Good tests r v

-- ---- trees

mutual
  -- what a ghost statement declares is ghost
  ghost_of_c : (x : GStm) → every of_c (ghost_declared x) ≡ true
  ghost_of_c (g.Block p ss) = ghosts_of_c ss
  ghost_of_c (g.Declare p ty x r) = refl
  ghost_of_c (g.If p x s) = ghost_of_c s
  ghost_of_c (g.IfElse p x s t) = every_append of_c (ghost_declared s) (ghost_declared t) (ghost_of_c s) (ghost_of_c t)
  ghost_of_c _ = refl

  ghosts_of_c : (xs : GStms) → every of_c (ghosts_declared xs) ≡ true
  ghosts_of_c g.Empty = refl
  ghosts_of_c (g.More x xs) = every_append of_c (ghost_declared x) (ghosts_declared xs) (ghost_of_c x) (ghosts_of_c xs)

stms_of_c : (xs : List Stm) → every stm_of_c xs ≡ true → every of_c (all_declared (gr.stms_of xs)) ≡ true
stms_of_c [] h = refl
stms_of_c (x ∷ xs) h = every_append of_c (declared x) (all_declared (gr.stms_of xs)) (and_left (stm_of_c x) _ h) (stms_of_c xs (and_right (stm_of_c x) _ h))

if_of_c : (p : Span) (x : Exp) (a : Stm) (b : Option Stm) → stm_of_c a ≡ true → if_any stm_of_c b ≡ true → stm_of_c (gr.if_of p x a b) ≡ true
if_of_c p x a None h k = h
if_of_c p x a (Some b) h k = every_append of_c (declared a) (declared b) h k

fields_of_c : (ms : List Member) → every member_of_c ms ≡ true → every (λ (f : FieldTree). f.is_ghost || is_c_type f.ty) (fields ms) ≡ true
fields_of_c [] h = refl
fields_of_c (it.Field f ∷ ms) h = pair (and_left (member_of_c (it.Field f)) _ h) (fields_of_c ms (and_right (member_of_c (it.Field f)) _ h))
fields_of_c (it.Invariant x ∷ ms) h = fields_of_c ms h

parameters_of_c : (ps : List Param) → every (λ (p : Param). is_c_type p.ty) ps ≡ true → every of_c (map (parameter false) ps) ≡ true
parameters_of_c [] h = refl
parameters_of_c (p ∷ ps) h = pair (and_left (is_c_type p.ty) _ h) (parameters_of_c ps (and_right (is_c_type p.ty) _ h))

ghost_parameters_of_c : (ps : List Param) → every of_c (map (parameter true) ps) ≡ true
ghost_parameters_of_c [] = refl
ghost_parameters_of_c (p ∷ ps) = ghost_parameters_of_c ps

variables_of_c : (ps gs : List Param) (vs : List Variable) → every (λ (p : Param). is_c_type p.ty) ps ≡ true → every of_c vs ≡ true → every of_c (map (parameter false) ps ++ (map (parameter true) gs ++ vs)) ≡ true
variables_of_c ps gs vs h k = every_append of_c (map (parameter false) ps) (map (parameter true) gs ++ vs) (parameters_of_c ps h) (every_append of_c (map (parameter true) gs) vs (ghost_parameters_of_c gs) k)

-- ---- parts that recur

tree : (n : N) → Has (below n (λ x. x)) (λ x. high n x ≡ true)
tree n = tree_is (λ x d. d)

many_is : {A : Type 0} {p : PartOf language A} {v : A → Bool} → Part_is p v → Part_is (many p (λ xs. xs)) (every v)
many_is {v = v} k = all_of v k (λ xs d. d)

list_or_none_is : {A : Type 0} {p : PartOf language A} {v : A → Bool} → Part_is p v → Part_is (gr.list_or_none p) (every v)
list_or_none_is {v = v} k = both (part_then k (λ x d. part_then (many_is {v = v} (past (λ c. part_then k (λ y h. ends h)))) (λ ys h. ends (pair d h)))) (ends refl)

optional_is : {A : Type 0} {p : PartOf language A} {v : A → Bool} → Part_is p v → Part_is (gr.optional p) (if_any v)
optional_is k = both (part_then k (λ x d. ends d)) (ends refl)

-- ---- types

abbrev Of_c : {A : Type 0} → A × Ty → Type 0
Of_c x = is_c_type x.1 ≡ true

unsigned_behind : Part_is gr.unsigned_behind is_c_type
unsigned_behind = both (past (λ a. past (λ b. past (λ x. ends refl)))) (past (λ x. ends refl))

int_type : Has gr.int_type Of_c
int_type = both (token_is (λ x o. refl)) (both (past (λ a. past (λ b. past (λ x. ends refl)))) (past (λ u. part_then unsigned_behind (λ ty i. ends i))))

ctype : Has gr.ctype Of_c
ctype = both int_type (past (λ x. ends refl))

field_type : Has gr.field_type Of_c
field_type = both int_type (past (λ a. past (λ n. past (λ s. ends refl))))

-- ---- statements

some_statements : Part_is (many (below Statement (λ x. x)) (λ xs. xs)) (every stm_of_c)
some_statements = many_is {v = stm_of_c} (tree Statement)

block_of : Rule_is gr.block_of (λ x. every of_c (all_declared x.all))
block_of = a_form (past (λ o. part_then some_statements (λ xs d. past (λ c. ends (stms_of_c xs d)))))

abbrev Ends_statement : (Exp → Stm) → Type 0
Ends_statement h = (l : Exp) → stm_of_c (h l) ≡ true

assign_statement : Has gr.assign_statement Ends_statement
assign_statement = past (λ h. past (λ c. ends (λ l. refl)))

call_statement : Has gr.call_statement Ends_statement
call_statement = past (λ h. past (λ c. ends (λ l. refl)))

else_part : Part_is gr.else_part stm_of_c
else_part = past (λ o. part_then (tree Statement) (λ x d. ends d))

loop_body : Has gr.loop_body (λ b. stm_of_c b.1 ≡ true)
loop_body = up_to (λ x. true) stm_of_c (tree LoopItem) (λ xs x d h. h)

name_statement : Part_is (by_value (below gr.NamePlace (λ x. x)) gr.is_name (by_next gr.call_statement gr.assign_statement) gr.assign_statement) stm_of_c
name_statement = value_then (tree gr.NamePlace) (λ l d t. both (use_of call_statement (λ h s. s l)) (use_of assign_statement (λ h s. s l))) (λ l d t. use_of assign_statement (λ h s. s l))

module _ {A : Type 0} (wrap : Stm → A) (v : A → Bool) (wrap_is : (x : Stm) → stm_of_c x ≡ true → v (wrap x) ≡ true) where
  loops : Rule_is (gr.loops wrap) v
  loops =
      a_pick (a_form (past (λ p. past (λ x. part_then loop_body (λ b h. ends (wrap_is _ h))))))
      (a_pick (a_form (past (λ p. part_then loop_body (λ b h. past (λ q. past (λ x. past (λ c. ends (wrap_is _ h))))))))
      (a_form (past (λ p. past (λ o. past (λ x. past (λ n. past (λ y. past (λ m. past (λ z. past (λ c. part_then loop_body (λ b h. ends (wrap_is _ h)))))))))))))

  calls : Rule_is (gr.calls wrap) v
  calls =
      a_pick (a_form (past (λ p. past (λ x. past (λ c. ends (wrap_is _ refl))))))
      (a_pick (a_form (past (λ p. past (λ o. past (λ n. past (λ xs. past (λ c. past (λ z. ends (wrap_is _ refl)))))))))
      (a_form (past (λ p. past (λ x. past (λ c. ends (wrap_is _ refl)))))))

  simple : Rule_is (gr.simple wrap) v
  simple =
      a_pick (a_form (past (λ o. part_then some_statements (λ xs d. past (λ c. ends (wrap_is _ (stms_of_c xs d)))))))
      (a_pick (a_form (token_is (λ x o. wrap_is _ refl)))
      (a_pick (a_form (part_then ctype (λ ty i. past (λ n. past (λ x. past (λ c. ends (wrap_is _ (pair i refl))))))))
      (a_pick (a_form (part_then name_statement (λ x d. ends (wrap_is _ d))))
      (a_pick (a_form (past (λ l. part_then assign_statement (λ h s. ends (wrap_is _ (s l))))))
      (a_pick (a_form (past (λ p. past (λ x. part_then (tree Statement) (λ a h. part_then (optional_is {v = stm_of_c} else_part) (λ b k. ends (wrap_is _ (if_of_c p x a b h k))))))))
      (a_pick loops calls))))))

annotated : Has gr.annotated (λ h. (p : Span) → stm_of_c (h p) ≡ true)
annotated =
    both (past (λ q. past (λ x. past (λ c. ends (λ p. refl))))) (both (past (λ q. past (λ x. past (λ c. ends (λ p. ghost_of_c x)))))
    (both (past (λ q. past (λ x. past (λ c. ends (λ p. refl))))) (both (past (λ q. past (λ x. past (λ c. ends (λ p. refl)))))
    (both (past (λ q. past (λ x. past (λ c. part_then (tree BlockOf) (λ b h. ends (λ p. h))))))
    (past (λ q. past (λ xs. past (λ c. part_then (tree BlockOf) (λ b h. ends (λ p. h))))))))))

statement : Rule_is gr.statement stm_of_c
statement = a_pick (simple (λ x. x) stm_of_c (λ x d. d)) (a_form (past (λ p. part_then annotated (λ h s. ends (s p)))))

loop_annotation : Has gr.loop_annotation (λ h. (p : Span) → in_loop (h p) ≡ true)
loop_annotation = both (past (λ h. ends (λ p. refl))) (part_then annotated (λ h s. ends s))

loop_item : Rule_is gr.loop_item in_loop
loop_item = a_pick (simple gr.as_statement in_loop (λ x d. d)) (a_form (past (λ p. part_then loop_annotation (λ h s. ends (s p)))))

-- ---- functions and structs

param : Part_is gr.param (λ (x : Param). is_c_type x.ty)
param = part_then ctype (λ ty i. past (λ n. ends i))

params : Part_is gr.params (every (λ (x : Param). is_c_type x.ty))
params = both (past (λ v. ends refl)) (list_or_none_is {v = λ (x : Param). is_c_type x.ty} param)

function_tail : Has gr.function_tail (λ h. (n : Id) (p : Span) (ty : Option Ty) → item_of_c (it.Function (h n p ty)) ≡ true)
function_tail =
    past (λ o. part_then params (λ ps i. past (λ gs. past (λ c. past (λ cs. part_then (tree BlockOf) (λ b d. ends (λ n p ty. variables_of_c ps gs (all_declared b.all) i d)))))))

member_annotation : Has gr.member_annotation (λ h. (p : Span) → member_of_c (h p) ≡ true)
member_annotation = both (past (λ h. ends (λ p. refl))) (past (λ q. past (λ v. past (λ ty. past (λ n. past (λ z. past (λ c. ends (λ p. refl))))))))

member_of : Rule_is gr.member_of member_of_c
member_of = a_pick (a_form (past (λ v. part_then field_type (λ ty i. past (λ n. past (λ z. ends i)))))) (a_form (past (λ p. part_then member_annotation (λ h s. ends (s p)))))

struct_tail : Has gr.struct_tail (λ h. (n : Id) (p : Span) (xs : List Attribute) → item_of_c (it.Struct (h n p xs)) ≡ true)
struct_tail = past (λ o. part_then (many_is {v = member_of_c} (tree MemberOf)) (λ ms d. past (λ c. past (λ z. ends (λ n p xs. fields_of_c ms d)))))

abbrev Items_behind : (Id → Span → Item) → Type 0
Items_behind h = (n : Id) (p : Span) → item_of_c (h n p) ≡ true

pointer_function : Has gr.pointer_function Items_behind
pointer_function = past (λ a. past (λ n. part_then function_tail (λ h s. ends (λ x p. s n p (Some (e.Pointer x))))))

item_of : Rule_is gr.item_of item_of_c
item_of =
    a_pick (a_form (past (λ one. past (λ more. past (λ p. past (λ n. part_then struct_tail (λ h s. ends (s n p (gr.concat (one ∷ more))))))))))
    (a_pick (a_form (past (λ p. past (λ n. part_then {R = Items_behind} (both (part_then struct_tail (λ h s. ends (λ m q. s m q []))) pointer_function) (λ h s. ends (s n p))))))
    (a_form (past (λ ty. past (λ n. part_then function_tail (λ h s. ends (s n ty.0 ty.1)))))))

program : Rule_is gr.program (every item_of_c)
program = a_form (part_then (tree ItemOf) (λ x d. part_then (many_is {v = item_of_c} (tree ItemOf)) (λ xs h. ends (pair d h))))

-- ---- the grammar

rule : (n : N) → Rule_is (gr.rule n) (high n)
rule BlockOf = block_of
rule Statement = statement
rule LoopItem = loop_item
rule MemberOf = member_of
rule ItemOf = item_of
rule Program = program
rule _ = any_rule (λ a. refl)

all_fine : (ts : List Lexeme) → Each language (λ x. Unit {0}) high ts
all_fine [] = tt
all_fine (x ∷ ts) = (tt, all_fine ts)

pub source_of_c : (ts : List Lexeme) (items : List Item) (i : ℕ) → IsSource ts items i → every item_of_c items ≡ true
source_of_c ts items i (fa.none u h d) = subst (λ xs. every item_of_c xs ≡ true) (sym h) refl
source_of_c ts items i (fa.some x) = found tests (λ m. (rule m).suits) x.is.0 Program ts items i (x.end ∷ []) (all_fine ts) x.is.1
