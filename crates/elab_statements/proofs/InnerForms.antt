-- Statements within an atomic block, out of their parts.
use Rattle.std.proofs.Common.{◌≡◌, refl, ap, ◌∙◌}
use Rattle.c_syntax.specs.declared.token.Span.{Span}
use Rattle.c_syntax.specs.Expressions.{Assignment}
use Rattle.c_syntax.specs.Statements as st
use Rattle.typed_program.specs.Numbers.{Around}
use Rattle.typed_program.specs.Statements as s
use Rattle.typed_program.specs.Statements.{Counters}
use Rattle.typed_program.specs.Trees as t
use Rattle.elab_statements.specs.Rows.{single_inner, typed_inner}
use Rattle.elab_statements.proofs.Sums.{plus_none}
use Rattle.elab_statements.proofs.Sequences.{inners}

pub assign_is : {a b : Around} (n : Counters) (p : Span) (x : Assignment) → a ≡ b → single_inner n (t.Inside p.line (t.Assign (s.target a x.left) (s.changed a x.left x.effect))) ≡ typed_inner b n (st.Assign p x)
assign_is n p x e = inners refl (plus_none n) ∙ ap (λ c. typed_inner c n (st.Assign p x)) e
