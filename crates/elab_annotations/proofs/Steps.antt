-- From what the parts are typed as to what the whole is.
use Rattle.std.proofs.Common.{◌≡◌, ℕ, Result, IfOk, sym, ap, ◌∙◌, subst}
use Rattle.std.specs.declared.alloc.AllocError.{AllocError}
use Rattle.c_syntax.specs.declared.expressions.Expr.{Expr}
use Rattle.c_syntax.specs.Views.{exp}
use Rattle.c_syntax.specs.Expressions.{Exp}
use Rattle.method.specs.declared.program.DeclaredType.{DeclaredType}
use Rattle.typed_program.specs.Trees as t
use Rattle.elab_annotations.specs.Typing.{pushed, appended, claims_typed, exists_typed}
use Rattle.elab_annotations.specs.Views.{Typed, Several}

-- what an answer is seen as, in other words
pub told : {V W : Type 0} (seen : V → W) (r : Result V AllocError) {k l : W} → IfOk r (λ v. seen v ≡ k) → k ≡ l → IfOk r (λ v. seen v ≡ l)
told seen r h e = subst (λ m. IfOk r (λ v. seen v ≡ m)) e h

-- what an operand is, where it stands in the expression
pub operand : {W : Type 0} (f : ℕ → Exp → W) (m n : ℕ) (y z : Expr) {k : W} → k ≡ f m (exp z) → z ≡ y → m ≡ n → k ≡ f n (exp y)
operand f m n y z h e g = h ∙ (ap (λ (w : Expr). f m (exp w)) e ∙ ap (λ i. f i (exp y)) g)

-- what an expression is, which is of this form
pub of_form : {W : Type 0} (f : Exp → W) (x : Expr) (y : Exp) {k : W} → exp x ≡ y → k ≡ f y → k ≡ f (exp x)
of_form f x y e h = h ∙ ap f (sym e)

pub in_front : {k l m n : Several} → k ≡ l → m ≡ n → appended k m ≡ appended l n
in_front p q = λ i. appended (p i) (q i)

pub with_one : {k l : Several} {m n : Typed} → k ≡ l → m ≡ n → pushed k m ≡ pushed l n
with_one p q = λ i. pushed (p i) (q i)

pub claimed : {k l : Typed} {m n : Several} → k ≡ l → m ≡ n → claims_typed k m ≡ claims_typed l n
claimed p q = λ i. claims_typed (p i) (q i)

pub some_hold : (k : ℕ) (ty : DeclaredType) {x y : t.Spec} {m n : Several} → x ≡ y → m ≡ n → exists_typed k ty x m ≡ exists_typed k ty y n
some_hold k ty p q = λ i. exists_typed k ty (p i) (q i)
