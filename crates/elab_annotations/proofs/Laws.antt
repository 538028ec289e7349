-- What an expression is typed as, out of what its parts are.
use Rattle.std.proofs.Common.{◌≡◌, ℕ, ◌+◌, List, [], ◌∷◌, ◌++◌, refl, sym, ap, ◌∙◌, map, arith}
use Rattle.c_syntax.specs.declared.token.Span.{Span}
use Rattle.c_syntax.specs.declared.tree.BinaryOperator.TheVariants as op
use Rattle.c_syntax.specs.declared.tree.ListWord.TheVariants as lists
use Rattle.c_syntax.specs.Expressions as e
use Rattle.c_syntax.specs.Expressions.{Exp, Exps}
use Rattle.c_syntax.specs.Grammar.{exps_of}
use Rattle.method.specs.declared.program.DeclaredType.{DeclaredType}
use Rattle.typed_program.specs.Trees as t
use Rattle.typed_program.specs.Trees.{listed}
use Rattle.typed_program.specs.Numbers.{Around}
use Rattle.typed_program.specs.Annotations as a
use Rattle.typed_program.specs.Annotations.{formulas, all_formulas}
use Rattle.elab_annotations.specs.Typing.{alone, nothing, pushed, appended, in_row, member, mine_typed, claims_typed, claims_only_typed, exact_set_typed, exists_typed, arguments_typed, mine_arguments_typed, conjuncts_typed, exists_body_typed, others_typed}
use Rattle.elab_annotations.specs.Views.{Several, typed}

abbrev several : List t.Spec → ℕ → Several
several xs n = record { specs = xs; next = n }

rows : {xs ys : List t.Spec} {m n : ℕ} → xs ≡ ys → m ≡ n → several xs m ≡ several ys n
rows p q = λ i. several (p i) (q i)

whole : {x y : t.Spec} {m n : ℕ} → x ≡ y → m ≡ n → alone x m ≡ alone y n
whole p q = λ i. alone (p i) (q i)

-- ---- rows

pub row_listed : (xs : t.Specs) → in_row (listed xs) ≡ xs
row_listed t.Stop = refl
row_listed (t.With x xs) = ap (t.With x) (row_listed xs)

pub listed_append : (xs ys : t.Specs) → listed (a.append xs ys) ≡ listed xs ++ listed ys
listed_append t.Stop ys = refl
listed_append (t.With x xs) ys = ap (λ zs. x ∷ zs) (listed_append xs ys)

row_append : (xs : List t.Spec) (ys : t.Specs) → in_row (xs ++ listed ys) ≡ a.append (in_row xs) ys
row_append [] ys = row_listed ys
row_append (x ∷ xs) ys = ap (t.With x) (row_append xs ys)

members_are : (c : Around) (n : ℕ) (xs : List Exp) → in_row (map member (a.arguments c n (exps_of xs))) ≡ a.members c n (exps_of xs)
members_are c n [] = refl
members_are c n (x ∷ xs) = ap (t.With (member (a.spec c n x))) (members_are c (n + formulas x) xs)

pub mine_law : (c : Around) (n : ℕ) (p : Span) (xs : List Exp) → mine_typed (arguments_typed c n xs) ≡ typed c n (e.Several p lists.Mine (exps_of xs))
mine_law c n p xs = whole (ap a.all_hold (members_are c n xs)) (omega arith)

each_is : (c : Around) (n : ℕ) (xs : List Exp) → in_row (a.arguments c n (exps_of xs)) ≡ a.each_spec c n (exps_of xs)
each_is c n [] = refl
each_is c n (x ∷ xs) = ap (t.With (a.spec c n x)) (each_is c (n + formulas x) xs)

pub exact_set_law : (c : Around) (n : ℕ) (x : Exp) (xs : List Exp) → claims_only_typed n (typed c (1 + n) x) (arguments_typed c ((1 + n) + formulas x) xs) ≡ exact_set_typed c n (x ∷ xs)
exact_set_law c n x xs = whole (ap (t.SClaimsOnly n (a.spec c (1 + n) x)) (each_is c ((1 + n) + formulas x) xs ∙ ap (λ m. a.each_spec c m (exps_of xs)) (omega arith))) (omega arith)

pub several_law : (c : Around) (n : ℕ) (p : Span) (xs : List Exp) → exact_set_typed c n xs ≡ typed c n (e.Several p lists.ClaimsOnly (exps_of xs))
several_law c n p xs = refl

-- `\mine` at the top of an invariant has its arguments, and `\claims_only` has none
pub owned_law : (c : Around) (n : ℕ) (p : Span) (xs : List Exp) → arguments_typed c n xs ≡ mine_arguments_typed c n (e.Several p lists.Mine (exps_of xs))
owned_law c n p xs = rows refl (omega arith)

pub unowned_law : (c : Around) (n : ℕ) (x : Exp) (p : Span) (ys : Exps) → x ≡ e.Several p lists.ClaimsOnly ys → nothing (n + formulas x) ≡ mine_arguments_typed c n x
unowned_law c n x p ys h = rows (sym (ap (a.mine c n) h)) refl

pub no_arguments : (c : Around) (n : ℕ) → nothing n ≡ arguments_typed c n []
no_arguments c n = rows refl (omega arith)

all_formulas_more : (xs : List Exp) (y : Exp) → all_formulas (exps_of (xs ++ y ∷ [])) ≡ all_formulas (exps_of xs) + formulas y
all_formulas_more [] y = omega arith
all_formulas_more (x ∷ xs) y = let h = all_formulas_more xs y in omega (arith, h)

arguments_more : (c : Around) (n : ℕ) (xs : List Exp) (y : Exp) → a.arguments c n (exps_of (xs ++ y ∷ [])) ≡ a.arguments c n (exps_of xs) ++ a.spec c (n + all_formulas (exps_of xs)) y ∷ []
arguments_more c n [] y = ap (λ m. a.spec c m y ∷ []) (omega arith)
arguments_more c n (x ∷ xs) y = ap (λ zs. a.spec c n x ∷ zs) (arguments_more c (n + formulas x) xs y ∙ ap (λ m. a.arguments c (n + formulas x) (exps_of xs) ++ a.spec c m y ∷ []) (omega arith))

pub arguments_law : (c : Around) (n : ℕ) (xs : List Exp) (y : Exp) → pushed (arguments_typed c n xs) (typed c (n + all_formulas (exps_of xs)) y) ≡ arguments_typed c n (xs ++ y ∷ [])
arguments_law c n xs y = rows (sym (arguments_more c n xs y)) (let h = all_formulas_more xs y in omega (arith, h))

-- ---- conjuncts

pub conjuncts_law : (c : Around) (n : ℕ) (p : Span) (x y : Exp) → appended (conjuncts_typed c n x) (conjuncts_typed c (n + formulas x) y) ≡ conjuncts_typed c n (e.Binary p op.And x y)
conjuncts_law c n p x y = rows (sym (listed_append (a.conjuncts c n x (a.spec c n x)) (a.conjuncts c (n + formulas x) y (a.spec c (n + formulas x) y)))) (omega arith)

pub claims_law : (c : Around) (n : ℕ) (p : Span) (x y : Exp) → claims_typed (typed c n x) (conjuncts_typed c (n + formulas x) y) ≡ typed c n (e.Claims p x y)
claims_law c n p x y = whole (ap (t.SClaims (a.spec c n x)) (row_listed (a.conjuncts c (n + formulas x) y (a.spec c (n + formulas x) y)))) (omega arith)

-- ---- quantifiers

pub others_law : (d : Around) (n : ℕ) (p : Span) (x y : Exp) → pushed (others_typed d n x) (typed d (n + formulas x) y) ≡ others_typed d n (e.Binary p op.And x y)
others_law d n p x y = rows (sym (listed_append (a.others d n x) (t.With (a.spec d (n + formulas x) y) t.Stop))) (omega arith)

pub exists_law : (c d : Around) (n : ℕ) (ty : DeclaredType) (p : Span) (x y : Exp) → exists_typed n ty (a.owner_first c (1 + n) x) (pushed (others_typed d (1 + n) x) (typed d ((1 + n) + formulas x) y)) ≡ exists_body_typed c d n ty (e.Binary p op.And x y)
exists_law c d n ty p x y =
    whole (ap (t.SExists n ty (a.owner_first c (1 + n) x)) (row_append (listed (a.others d (1 + n) x)) (t.With (a.spec d ((1 + n) + formulas x) y) t.Stop)
    ∙ (ap (λ (zs : t.Specs). a.append zs (t.With (a.spec d ((1 + n) + formulas x) y) t.Stop)) (row_listed (a.others d (1 + n) x)) ∙ ap (λ m. a.append (a.others d (1 + n) x) (t.With (a.spec d m y) t.Stop)) (omega arith)))) (omega arith)
