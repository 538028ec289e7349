use Rattle.std.proofs.Common.{◌≡◌, ◌+◌, ◌++◌, ◌∙◌, ℕ, suc, List, ap, length, arith}
use Rattle.c_syntax.specs.Views as view
use Rattle.c_syntax.specs.Expressions.{Id, Ty}
use Rattle.typing_spec.specs.Contexts.{Context, Scope, Variable, deeper, quantified, with_quantified}
use Rattle.typing_symbols.specs.Scopes.{known}
use Rattle.typing_expressions.specs.Views.{scope}
use Rattle.typed_program.specs.Numbers.{Around}
use Rattle.typed_program.specs.Annotations.{within_quantifier}
use Rattle.elab_code.specs.Views.{around}
use Rattle.elab_annotations.proofs.parts.within_quantifier.Goals as goal

more : (k : ℕ) → suc k ≡ 1 + k
more k = omega arith

-- what stands around, with one more variable in front
within : (a : Around) (k : Context) (s : Scope) (b : ℕ) (ty : Ty) (x : Id) → k ≡ with_quantified ty x (deeper a.context) → s ≡ quantified ty x a.context.scope → b ≡ suc a.bound
    → record { context = record k { scope = s }; names = a.names; bound = b } ≡ within_quantifier ty x a
within a k s b ty x p q r = λ i. record { context = record (p i) { scope = q i }; names = a.names; bound = (r ∙ more a.bound) i }

pub returns : goal.returns
returns c =
    let s = c.args.around.context.scope in
    within (around c.args.around) _ _ _ (view.ty c.args.ty.now) (view.id c.args.variable.now) c.quantified-inside.ensures
    (ap (λ (vs : List Variable). record (scope s) { variables = vs ++ known s.variables.now }) c.requires) (ap (λ (vs : List Variable). length vs) c.requires)
