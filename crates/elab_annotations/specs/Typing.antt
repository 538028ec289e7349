-- Expressions of annotations as they are typed, each out of what its parts are: own. Each is proved to be what the whole expression is typed as (proofs/Laws).
use Rattle.std.specs.Prelude.{ℕ, ◌+◌, List, [], ◌∷◌, ◌++◌, map}
use Rattle.c_syntax.specs.Expressions.{Exp}
use Rattle.c_syntax.specs.Grammar.{exps_of}
use Rattle.method.specs.declared.program.DeclaredType.{DeclaredType}
use Rattle.typed_program.specs.Numbers.{Around}
use Rattle.typed_program.specs.Trees as t
use Rattle.typed_program.specs.Trees.{listed}
use Rattle.typed_program.specs.Annotations as a
use Rattle.elab_annotations.specs.Views.{Typed, Several}

-- an expression without operands. Own
abbrev pub alone : t.Spec → ℕ → Typed
alone x n = record { spec = x; next = n }

-- one of an operand, by what it says of that. Own
abbrev pub one : (t.Spec → t.Spec) → Typed → Typed
one f x = record { spec = f x.spec; next = x.next }

-- one of two operands, the second numbered behind the first. Own
abbrev pub two : (t.Spec → t.Spec → t.Spec) → Typed → Typed → Typed
two f x y = record { spec = f x.spec y.spec; next = y.next }

-- one of three operands. Own
abbrev pub three : (t.Spec → t.Spec → t.Spec → t.Spec) → Typed → Typed → Typed → Typed
three f x y z = record { spec = f x.spec y.spec z.spec; next = z.next }

-- what isn't of its form. Own
abbrev pub no_form_typed : ℕ → Exp → Typed
no_form_typed n x = record { spec = t.SNull; next = n + a.formulas x }

-- ---- several expressions

-- no expression. Own
abbrev pub nothing : ℕ → Several
nothing n = record { specs = []; next = n }

-- one expression. Own
abbrev pub single : Typed → Several
single x = record { specs = x.spec ∷ []; next = x.next }

-- one more. Own
abbrev pub pushed : Several → Typed → Several
pushed xs y = record { specs = xs.specs ++ y.spec ∷ []; next = y.next }

-- more of them. Own
abbrev pub appended : Several → Several → Several
appended xs ys = record { specs = xs.specs ++ ys.specs; next = ys.next }

-- the same in a row. Own
abbrev pub in_row : List t.Spec → t.Specs
in_row [] = t.Stop
in_row (x ∷ xs) = t.With x (in_row xs)

-- that an object is owned by `\this`. VCC manual
abbrev pub member : t.Spec → t.Spec
member x = t.SMember x t.SThis

-- `\mine` of these objects. VCC manual
abbrev pub mine_typed : Several → Typed
mine_typed xs = record { spec = a.all_hold (in_row (map member xs.specs)); next = xs.next }

-- `\claims` of a claim and these conjuncts. VCC manual
abbrev pub claims_typed : Typed → Several → Typed
claims_typed x ys = record { spec = t.SClaims x.spec (in_row ys.specs); next = ys.next }

-- `\claims_only` of a claim and these objects, with its number. Own
abbrev pub claims_only_typed : ℕ → Typed → Several → Typed
claims_only_typed n x ys = record { spec = t.SClaimsOnly n x.spec (in_row ys.specs); next = ys.next }

-- `\exists` over what an object owns. VCC manual
abbrev pub exists_typed : ℕ → DeclaredType → t.Spec → Several → Typed
exists_typed n ty x ys = record { spec = t.SExists n ty x (in_row ys.specs); next = ys.next }

-- ---- what stands in an expression

-- one expression alone. Own
abbrev pub only_typed : Around → ℕ → Exp → Several
only_typed c n x = record { specs = a.spec c n x ∷ []; next = n + a.formulas x }

-- the expressions of an argument list. Own
abbrev pub arguments_typed : Around → ℕ → List Exp → Several
arguments_typed c n xs = record { specs = a.arguments c n (exps_of xs); next = n + a.all_formulas (exps_of xs) }

-- `\claims_only` of an argument list, whose formulas are numbered behind its own. Own
abbrev pub exact_set_typed : Around → ℕ → List Exp → Typed
exact_set_typed c n xs = record { spec = a.claims_only c n (exps_of xs); next = n + (1 + a.all_formulas (exps_of xs)) }

-- the operands of `&&`. Own
abbrev pub property_typed : Around → ℕ → Exp → Several
property_typed c n x = record { specs = a.property c n x; next = n + a.formulas x }

-- the arguments of `\mine` conjuncts. Own
abbrev pub mine_arguments_typed : Around → ℕ → Exp → Several
mine_arguments_typed c n x = record { specs = a.mine c n x; next = n + a.formulas x }

-- the conjuncts of the second argument of `\claims`. Own
abbrev pub conjuncts_typed : Around → ℕ → Exp → Several
conjuncts_typed c n x = record { specs = listed (a.conjuncts c n x (a.spec c n x)); next = n + a.formulas x }

-- a quantifier by its body, whose formulas are numbered behind its own. Own
abbrev pub for_all_typed : Around → Around → ℕ → DeclaredType → Exp → Typed
for_all_typed c d n ty x = record { spec = a.for_all c d n ty x; next = n + (1 + a.formulas x) }

abbrev pub exists_body_typed : Around → Around → ℕ → DeclaredType → Exp → Typed
exists_body_typed c d n ty x = record { spec = a.exists c d n ty x; next = n + (1 + a.formulas x) }

-- the object of a membership. Own
abbrev pub owner_typed : Around → ℕ → Exp → Typed
owner_typed c n x = record { spec = a.owner c n x; next = n + a.formulas x }

-- the operands of a chain of `&&` behind its first. Own
abbrev pub others_typed : Around → ℕ → Exp → Several
others_typed c n x = record { specs = listed (a.others c n x); next = n + a.formulas x }
