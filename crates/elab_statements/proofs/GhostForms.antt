-- Ghost statements out of their parts.
use Rattle.std.proofs.Common.{true, ◌≡◌, refl, ap, ◌∙◌}
use Rattle.c_syntax.specs.declared.token.Span.{Span}
use Rattle.c_syntax.specs.Expressions.{Exp}
use Rattle.c_syntax.specs.Ghosts as g
use Rattle.c_syntax.specs.Ghosts.{GStm}
use Rattle.typed_program.specs.Codes.{code}
use Rattle.typed_program.specs.Numbers.{Around}
use Rattle.typed_program.specs.Statements.{Counters, plus, in_ghost}
use Rattle.elab_statements.specs.Rows.{Typed, TypedInner, nothing, branched, typed_ghost, no_inner, branched_inner, typed_inner_ghost}
use Rattle.elab_statements.proofs.Sums.{plus_assoc}
use Rattle.elab_statements.proofs.Sequences.{rows, inners}

pub if_is : (a : Around) (n : Counters) (p : Span) (x : Exp) (y : GStm) → branched p.line true (code a x) (typed_ghost a n y) (nothing (plus n (in_ghost y))) ≡ typed_ghost a n (g.If p x y)
if_is a n p x y = refl

pub if_else_is : (a : Around) (n : Counters) (p : Span) (x : Exp) (y z : GStm) → branched p.line true (code a x) (typed_ghost a n y) (typed_ghost a (plus n (in_ghost y)) z) ≡ typed_ghost a n (g.IfElse p x y z)
if_else_is a n p x y z = rows refl (plus_assoc n (in_ghost y) (in_ghost z))

-- ---- within an atomic block

pub inner_if_is : (a : Around) (n : Counters) (p : Span) (x : Exp) (y : GStm) → branched_inner p.line (code a x) (typed_inner_ghost a n y) (no_inner (plus n (in_ghost y))) ≡ typed_inner_ghost a n (g.If p x y)
inner_if_is a n p x y = refl

pub inner_if_else_is : (a : Around) (n : Counters) (p : Span) (x : Exp) (y z : GStm) → branched_inner p.line (code a x) (typed_inner_ghost a n y) (typed_inner_ghost a (plus n (in_ghost y)) z) ≡ typed_inner_ghost a n (g.IfElse p x y z)
inner_if_else_is a n p x y z = inners refl (plus_assoc n (in_ghost y) (in_ghost z))

-- ---- from what the parts are typed as

pub if_step : {a k : Around} (n : Counters) (p : Span) (x : Exp) (y : GStm) {part : Typed} → a ≡ k → part ≡ typed_ghost k n y → branched p.line true (code a x) part (nothing part.next) ≡ typed_ghost k n (g.If p x y)
if_step {a} {k} n p x y e f = (λ i. branched p.line true (code (e i) x) (f i) (nothing ((f i).next))) ∙ if_is k n p x y

pub if_else_step : {a k : Around} (n : Counters) (p : Span) (x : Exp) (y z : GStm) {yes no : Typed} → a ≡ k → yes ≡ typed_ghost k n y → no ≡ typed_ghost k yes.next z → branched p.line true (code a x) yes no ≡ typed_ghost k n (g.IfElse p x y z)
if_else_step {a} {k} n p x y z {yes} e f h = (λ i. branched p.line true (code (e i) x) yes (h i)) ∙ (ap (λ (w : Typed). branched p.line true (code k x) w (typed_ghost k w.next z)) f ∙ if_else_is k n p x y z)

pub inner_if_step : {a k : Around} (n : Counters) (p : Span) (x : Exp) (y : GStm) {part : TypedInner} → a ≡ k → part ≡ typed_inner_ghost k n y → branched_inner p.line (code a x) part (no_inner part.next) ≡ typed_inner_ghost k n (g.If p x y)
inner_if_step {a} {k} n p x y e f = (λ i. branched_inner p.line (code (e i) x) (f i) (no_inner ((f i).next))) ∙ inner_if_is k n p x y

pub inner_if_else_step : {a k : Around} (n : Counters) (p : Span) (x : Exp) (y z : GStm) {yes no : TypedInner} → a ≡ k → yes ≡ typed_inner_ghost k n y → no ≡ typed_inner_ghost k yes.next z → branched_inner p.line (code a x) yes no ≡ typed_inner_ghost k n (g.IfElse p x y z)
inner_if_else_step {a} {k} n p x y z {yes} e f h = (λ i. branched_inner p.line (code (e i) x) yes (h i)) ∙ (ap (λ (w : TypedInner). branched_inner p.line (code k x) w (typed_inner_ghost k w.next z)) f ∙ inner_if_else_is k n p x y z)
